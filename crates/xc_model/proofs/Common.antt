-- What the proofs of this crate name of std and of xc_record, in one place.
pub use Rattle.std.proofs.Common.{◌≡◌, ℕ, ◌≤◌, Bool, true, false, List, [], ◌∷◌, ◌++◌, take, length, Some, None, ◌⊎◌, ◌≢◌, ◌==◌, ◌<◌, cond}
pub use Rattle.std.proofs.Common.{not, refl, ap, sym, ◌∙◌, arith, append_assoc, append-nil, ◌+◌, ◌-◌, ◌||◌, subst, inl, inr, ⊎_elim, map}
pub use Rattle.std.proofs.Common.{drop, Option, zero, suc, max, ◌&&◌, ◌^◌, get_or, ◌*◌, ◌%◌, replicate, T, min}
pub use Rattle.std.proofs.lemmas.Bool.{cases_Bool, and_parts, true≢false, eqb-true, cases_eq, eq-eqb, and_left, ne_eqb, and_from, cases_lt}
pub use Rattle.std.proofs.lemmas.Bool.{or_left, or_right, false_from_ne_true, false≢true}
pub use Rattle.std.proofs.lemmas.List.{get_or-set_same, get_or-set_other, length-set, length-drop, drop_all, take_all, take-append-drop}
pub use Rattle.std.proofs.lemmas.List.{length-append, length-map, nil_from_length, map-append, length-replicate, map-set, set-get_or}
pub use Rattle.std.proofs.lemmas.List.{get_or_past}
pub use Rattle.std.proofs.lemmas.Option.{same_Some, slice_get_within, slice_get-map, none-some, slice_get_past}
pub use Rattle.std.proofs.{Math.Seq.take-append_seam, lemmas.Bool.Decides.nat_tests, lemmas.Grind.flat_map-append}
pub use Rattle.std.proofs.{lemmas.List.Elements.filter-append, lemmas.List.Elements.filter_agree, lemmas.List.Elements.filter_map-append}
pub use Rattle.std.proofs.{lemmas.Slice.Eq.bytes_eq-Decides}
pub use Rattle.std.specs.FinMap.Entries.{where_key, find, find-where_key, is_sorted-where_key, same_entries, is_sorted, below_all}
pub use Rattle.std.specs.Prelude.{filter, flat_map, slice_index, fold, is_none, option_map, nat_le, slice_get, slice_set, if◌then◌else◌}
pub use Rattle.std.specs.Prelude.{codes, bytes_eq, nat_lt, is_some, option_and_then, MatchOption}
pub use Rattle.std.specs.{Cmp.Lexicographic.slice_cmp, Cmp.Lexicographic.nat_list_cmp_total, Cmp.Lexicographic.on_texts, List.list_any}
pub use Rattle.std.specs.{List.AllByRecursion, List.list_all, List.filter_map, List.cons_option, Option.option_map_or, Ordering.is_gt}
pub use Rattle.std.specs.{Ordering.nat_cmp, Ordering.is_lt, Ordering.ordering_then, declared.cmp.Ordering.Ordering}
pub use Rattle.xc_record.proofs.AcceptedLaws.{IsGrown, accepted_tablets-grown, accepted_tablet_after-grown}
pub use Rattle.xc_record.proofs.HeaderLaws.{Numbered, line, Fits, Fits-none, Fits-snoc, headers_fit-all, parent_stands, line_end}
pub use Rattle.xc_record.proofs.RangeLaws.{ranges-hold-once, bounds-share-out, roots-share-out, one-root-holds}
pub use Rattle.xc_record.proofs.RowLaws.{after_puts, find-rows_after, rows_after-sorted, rows-sorted, row-puts}
pub use Rattle.xc_record.proofs.AgreementLaws.{commit-any, applied-commits, commit-applied, has_apply}
pub use Rattle.xc_record.proofs.ListLaws.{Each-append, Each-weaker, each-get, each-from}
pub use Rattle.xc_record.proofs.ValidLaws.{FitsTablet, accepted-fit, puts-away, split-children, commit-number}
pub use Rattle.xc_record.proofs.PathLaws.{straggles-append, straggles-along}
pub use Rattle.xc_record.proofs.ChildLaws.{children-share-out, child-there, split-names}
pub use Rattle.xc_record.proofs.{ListLaws.Each-filter, ListLaws.Each, SafeLaws.floor-take, SafeLaws.safe_time-rises}
pub use Rattle.xc_record.specs.Accepted.{AcceptedTablet, accepted, accepted_tablets_after, accepted_tablet_after, start_after}
pub use Rattle.xc_record.specs.Accepted.{reached_after, root_start, child_start, accepted_tablet, records, halt_from, halt_of, parent_of}
pub use Rattle.xc_record.specs.Agreement.{Disagreement, HasNoCase, Agrees, straggles_at, aborts, path_above}
pub use Rattle.xc_record.specs.Commits.{applies, rolls_back, intent_ops, Provisional, provisional_cmp, sub_of, intents_in, Commit}
pub use Rattle.xc_record.specs.Commits.{commit_cmp, applied_txn, write_ops, writes_in}
pub use Rattle.xc_record.specs.Headers.{fits, fit_from, next_after, children}
pub use Rattle.xc_record.specs.Kept.{add, is_of, is_of_other, is_kept, add_all, kept_from, Kept, steps, read, versions_at, upto, above}
pub use Rattle.xc_record.specs.Kept.{last_of, newest, pruned, KeyVersion, version_of, written_by, value_of, KeyWaiting}
pub use Rattle.xc_record.specs.Lists.{insert_by, sort_by, has, least, put_after}
pub use Rattle.xc_record.specs.Order.{Progress, safe_value, is_split, violations, first_violated, after, accepted_from}
pub use Rattle.xc_record.specs.Path.{Waiting, waiting, events, Event, Put, Hold, Apply, Abort, Safe, Written, Version, Fate, Waits, Taken}
pub use Rattle.xc_record.specs.Path.{RolledBack, Dropped, fate, fate_at, version_by, waiting_by, versions_along, versions, version_cmp}
pub use Rattle.xc_record.specs.Path.{record_events, kind_events, puts}
pub use Rattle.xc_record.specs.SafeTime.{place, is_closed_in, last_safe_in, order_at, is_started, StartsAfter, IsPlaces}
pub use Rattle.xc_record.specs.Session.{Position, Session, IsSession, start, places_of, safe_now, new_position, position, IsInOrder}
pub use Rattle.xc_record.specs.Step.{lines_from, with_position, moved, set_back, acknowledge, poll_step, stop_step, drained, read_at_line}
pub use Rattle.xc_record.specs.Step.{prune_step, refuses, is_change, awaits, answer_from, drained_to}
pub use Rattle.xc_record.specs.Valid.{headers_of, kind_fits}
pub use Rattle.xc_record.specs.{Bounds.SharesOut, Bounds.IsPartition, Bounds.Follows, Hash.holds, Hash.hash_from, Rows.rows_after}
pub use Rattle.xc_record.specs.declared.{record.Break.Break, record.Header.Header, record.Kind.Kind, record.Logs.Logs, record.Op.Op}
pub use Rattle.xc_record.specs.declared.{record.Record.Record, record.Tablet.Tablet, headers.Next.Next, session.Command.Command}
pub use Rattle.xc_record.specs.declared.{session.PollAnswer.PollAnswer}
unfoldable pub use Rattle.xc_record.specs.{Accepted.accepted_tablets, Accepted.halt, Agreement.disagreement, Commits.commit_of}
unfoldable pub use Rattle.xc_record.specs.{Commits.undone, Commits.intents, Commits.txn_ops, Commits.applied, Commits.write_commits}
unfoldable pub use Rattle.xc_record.specs.{Commits.txn_commits, Commits.commits, Hash.hash_of, Headers.headers_fit, Order.break_of}
unfoldable pub use Rattle.xc_record.specs.{Path.path_to, Rows.rows, Rows.row, Rows.ops_to, SafeTime.is_closed, SafeTime.safe_time}
unfoldable pub use Rattle.xc_record.specs.{Step.poll_answer, Step.open_step, Valid.is_valid}
