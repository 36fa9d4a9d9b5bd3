-- What each law says of small logs: a split tablet, a transaction over both of its children, a removal, a subtransaction that was rolled
-- back. Every premise is proved, and the law gives the conclusion, which is then computed.
use Rattle.xc_model.proofs.Common.{◌≡◌, ℕ, zero, suc, ◌≤◌, true, false, List, [], ◌∷◌, Some, None, refl, sym, arith, length, take, drop}
use Rattle.xc_model.proofs.Common.{codes, slice_index, slice_get, Option, AllByRecursion, nat_cmp, slice_cmp, where_key, Header, Command}
use Rattle.xc_model.proofs.Common.{Disagreement, disagreement, HasNoCase, Agrees, straggles_at, accepted_tablets, SharesOut, IsPartition}
use Rattle.xc_model.proofs.Common.{holds, rows, row, safe_time, Position, Session, IsSession, start, places_of, safe_now, lines_from}
use Rattle.xc_model.proofs.Common.{is_valid, headers_of, read, kept_from, versions_at, ranges-hold-once, bounds-share-out, roots-share-out}
use Rattle.xc_model.proofs.Common.{one-root-holds, children-share-out}
use Rattle.xc_record.specs.declared.record.AgreeKind.TheVariants.{Straggler}
use Rattle.xc_record.specs.RangeLaws.{holders}
use Rattle.xc_record.specs.Step.{step}
use Rattle.xc_record.proofs.WorkedLogs.{computed, a, z, two_tablets, with_both_children as logs}
use Rattle.xc_record.specs.declared.session.Command.TheVariants as command
use Rattle.xc_record.specs.declared.session.Line.TheVariants as line
use Rattle.xc_model.{specs.Lines.Says, specs.Laws.BatchTaken, specs.Floors.has_closed, proofs.KeepLaws.cutoffs-keep}
use Rattle.xc_model.{proofs.Restores.restores-keep, proofs.DeliverLaw.deliveries-keep, specs.Sessions.IsRising, specs.Sessions.named_times}
use Rattle.xc_model.{proofs.FloorLaw.kept-values, proofs.FloorLaw.safe-rises, proofs.Batches.batches-move, proofs.Batches.batches-grow}
use Rattle.xc_model.{proofs.ReadLaw.reads-show-rows, proofs.ReadLaw.keys-suffice, proofs.ListLaw.reads-show-lists}
use Rattle.xc_model.{proofs.ListLaw.restored-show, proofs.Partitions.partitions-by, proofs.Partitions.restored-partitions-by}
use Rattle.xc_model.specs.Stands.{TargetTablet, in_range, kept_at, rows_shown, given_at, StandsFor, covers, KeepsFrom, RestoredTo, restore}
use Rattle.xc_model.specs.Stands.{TakesAll}
use Rattle.xc_model.proofs.LineLaws.{cutoffs-rise, stops-keep, lines-name}
use Rattle.xc_model.proofs.SessionLaws.{sessions-start, steps-keep, steps-rise}
use Rattle.xc_model.proofs.TimeLaws.{named-times-rise, closed-stays, closed-times, failover-closes}
use Rattle.xc_model.proofs.WorkedTablets.{valid, by-key, removed, version, new, new-stands-for, after_intent, after_safe, early}
use Rattle.xc_model.proofs.WorkedTablets.{early-stands, before_split, before-split-taken, the_split, split-taken, last-taken, half}
use Rattle.xc_model.proofs.WorkedTablets.{left_apply-taken, left_apply, parent_records, right_records, drained, drained-stands, lower}
use Rattle.xc_model.proofs.WorkedTablets.{lower-stands, upper, upper-stands, half-stands}

agree : disagreement logs ≡ None
unfolding computed
agree = refl

-- ---- reads

covered : (t : ℕ) → t ≤ 19 → t ≤ covers logs drained
unfolding computed
covered t low = low

-- the removal is seen from its commit on, and so is the operation on the other child's key, of the subtransaction that was not rolled back
reads : (row logs 15 z ≡ Some (codes "2")) × ((row logs 16 z ≡ None) × (row logs 16 a ≡ Some (codes "3")))
unfolding computed
reads = (
  sym (reads-show-rows logs drained 0 15 z drained-stands agree (omega arith) (covered 15 (omega arith)) refl),
  (
    sym (reads-show-rows logs drained 0 16 z drained-stands agree (omega arith) (covered 16 (omega arith)) refl),
    sym (reads-show-rows logs drained 0 16 a drained-stands agree (omega arith) (covered 16 (omega arith)) refl),
  ),
)

list-before : where_key (slice_cmp nat_cmp) (in_range drained) (rows logs 15) ≡ (a, codes "1") ∷ (z, codes "2") ∷ []
unfolding computed
list-before = sym (reads-show-lists logs drained 0 15 drained-stands agree (omega arith) (covered 15 (omega arith)))

list-after : where_key (slice_cmp nat_cmp) (in_range drained) (rows logs 16) ≡ (a, codes "3") ∷ []
unfolding computed
list-after = sym (reads-show-lists logs drained 0 16 drained-stands agree (omega arith) (covered 16 (omega arith)))

-- a tablet of the lower hashes shows no other rows
list-lower : where_key (slice_cmp nat_cmp) (in_range lower) (rows logs 12) ≡ (a, codes "1") ∷ []
unfolding computed
list-lower = sym (reads-show-lists logs lower 0 12 lower-stands agree (omega arith) (omega arith))

-- ---- the rows of several tablets

abbrev both : List TargetTablet
both = lower ∷ upper ∷ []

shared : IsPartition ((0, 32767) ∷ (32768, 65535) ∷ [])
shared = (refl, (omega arith, (refl, (omega arith, refl))))

-- the lower one shows the row of a, the upper one that of z
rows-of-both : rows logs 12 ≡ (a, codes "1") ∷ (z, codes "2") ∷ []
unfolding computed
rows-of-both = sym (partitions-by reads-show-lists logs both 0 12 agree shared
    ((lower-stands, omega arith), ((upper-stands, omega arith), tt)) (omega arith))

lower-back : RestoredTo logs 0 12 lower (restore 12 lower)
unfolding computed
lower-back = record { stood = lower-stands; after_cutoff = omega arith; covered = omega arith; is = refl }

upper-back : RestoredTo logs 0 12 upper (restore 12 upper)
unfolding computed
upper-back = record { stood = upper-stands; after_cutoff = omega arith; covered = omega arith; is = refl }

restored-rows : rows logs 11 ≡ (a, codes "1") ∷ (z, codes "2") ∷ []
unfolding computed
restored-rows = sym (restored-partitions-by restored-show logs (restore 12 lower ∷ restore 12 upper ∷ []) 0 12 11 agree shared
    ((lower, lower-back), ((upper, upper-back), tt)) (omega arith) (omega arith))

-- ---- agreement

-- no tablet has a case of the transaction, at any key
no-case : AllByRecursion (HasNoCase logs 5 16) (accepted_tablets logs)
unfolding computed
no-case = ((keys-suffice logs valid).0 agree).no_case 5 16 refl

-- so its operation at z doesn't straggle along the path through the split
straggles-not : straggles_at 5 16 z parent_records right_records ≡ false
unfolding computed
straggles-not = no-case.1.1.0.no_straggler z refl

two-valid : is_valid (two_tablets 15 15) ≡ true
unfolding computed
two-valid = refl

-- where a straggler is found, not every key is without one
disagrees : Agrees (two_tablets 15 15) → ⊥
unfolding computed
disagrees agrees = differ ((keys-suffice (two_tablets 15 15) two-valid).1 agrees)
  where
    differ : ◌≡◌ {A = Option Disagreement} (Some (record { txn = 7; tablet = 1; kind = Straggler })) None → ⊥
    differ e = cc

-- ---- deliveries

-- The left child's apply takes what waits at its own key alone, and of that what was not rolled back.
half-a : given_at logs 0 (5 ∷ 1 ∷ 0 ∷ []) a ≡ record {
  versions = record { commit = 10; txn = 0; value = Some (codes "1") } ∷ record { commit = 16; txn = 5; value = Some (codes "3") } ∷ [];
  held = [];
}
unfolding computed
half-a = sym ((deliveries-keep logs early half 0 1 left_apply early-stands refl refl left_apply-taken).keys a refl)

half-z : given_at logs 0 (5 ∷ 1 ∷ 0 ∷ []) z ≡ record
    { versions = record { commit = 10; txn = 0; value = Some (codes "2") } ∷ []; held = record { txn = 5; sub = 0; value = None } ∷ [] }
unfolding computed
half-z = sym ((deliveries-keep logs early half 0 1 left_apply early-stands refl refl left_apply-taken).keys z refl)

-- after the parent's five records, in two batches of which the second repeats two, the transaction waits at both keys
early-a : given_at logs 0 (5 ∷ 0 ∷ 0 ∷ []) a ≡ record {
  versions = record { commit = 10; txn = 0; value = Some (codes "1") } ∷ [];
  held = record { txn = 5; sub = 1; value = Some (codes "8") } ∷ record { txn = 5; sub = 0; value = Some (codes "3") } ∷ [];
}
unfolding computed
early-a = sym (early-stands.keys a refl)

new-a : given_at logs 0 (0 ∷ 0 ∷ 0 ∷ []) a ≡ record { versions = []; held = [] }
unfolding computed
new-a = sym (new-stands-for.keys a refl)

-- the repeated records are counted once
repeated : BatchTaken 0 2 (drop 1 parent_records) after_intent early
unfolding computed
repeated = batches-move 0 2 (drop 1 parent_records) after_intent early (omega arith) (omega arith) (omega arith) last-taken

early-moves : (slice_index early.places 0 ≡ 5) × (has_closed early.floors 0 ≡ true)
unfolding computed
early-moves = (repeated.place, repeated.splits (omega arith))

-- no other place moves, and no other source tablet is closed
early-others : (i : ℕ) → (i ≡ 0 → ⊥)
    → (slice_index early.places i ≡ slice_index after_intent.places i) × (has_closed early.floors i ≡ has_closed after_intent.floors i)
early-others i n = (repeated.places i n, repeated.closed i n)

-- a batch of records that were all applied changes nothing
skipped : (y : TargetTablet) → y ≡ after_intent → y ≡ after_intent
unfolding computed
skipped y e = (batches-move 0 1 (take 3 parent_records) after_intent y (omega arith) (omega arith) (omega arith) e).through (omega arith)

grown : TakesAll 0 parent_records new early
grown = batches-grow 0 before_split the_split new after_safe early before-split-taken split-taken

-- ---- cutoffs

-- without the history before 16
abbrev pruned : TargetTablet
pruned = record drained { versions = version a 16 5 (codes "3") ∷ removed z 16 5 ∷ [] }

pruned-keeps : KeepsFrom 16 drained pruned
unfolding computed
pruned-keeps = record {
  rest = refl;
  keys = by-key (λ k. in_range drained k ≡ true → versions_at k pruned.versions ≡ kept_from 16 (versions_at k drained.versions)) (λ _. refl)
      (λ _. refl) (λ k other _. rw (other.a, other.z) refl);
  within = (refl, (refl, tt));
}

pruned-stands : StandsFor logs 16 pruned
unfolding computed
pruned-stands = cutoffs-keep logs drained pruned 0 16 drained-stands (covered 16 (omega arith)) pruned-keeps

pruned-a : given_at logs 16 (5 ∷ 2 ∷ 2 ∷ []) a ≡ record
    { versions = record { commit = 16; txn = 5; value = Some (codes "3") } ∷ []; held = [] }
unfolding computed
pruned-a = sym (pruned-stands.keys a refl)

-- from the cutoff on it shows the rows; before the cutoff it need not
pruned-read : read 16 (kept_at pruned a) ≡ row logs 16 a
unfolding computed
pruned-read = reads-show-rows logs pruned 16 16 a pruned-stands agree (omega arith) (covered 16 (omega arith)) refl

read-before-cutoff : read 15 (kept_at pruned a) ≡ None
unfolding computed
read-before-cutoff = refl

-- ---- restores

back : RestoredTo logs 0 15 drained (restore 15 drained)
unfolding computed
back = record { stood = drained-stands; after_cutoff = omega arith; covered = covered 15 (omega arith); is = refl }

restored-same : (read 15 (kept_at (restore 15 drained) z) ≡ Some (codes "2"))
    × (rows_shown 12 (restore 15 drained) ≡ (a, codes "1") ∷ (z, codes "2") ∷ [])
unfolding computed
restored-same = ((restores-keep drained 15 15 (omega arith)).0 z, (restores-keep drained 15 12 (omega arith)).1)

-- a tablet at which a transaction waits with operations on two keys: after a restore nothing waits
restored-waiting : (restore 12 early).held ≡ []
restored-waiting = refl

-- after the time of the restore it need not show the row, which is removed at 16
read-after-restore : read 16 (kept_at (restore 15 drained) z) ≡ Some (codes "2")
unfolding computed
read-after-restore = refl

restored-row : read 12 (kept_at (restore 15 drained) a) ≡ row logs 12 a
unfolding computed
restored-row = (restored-show logs (restore 15 drained) drained 0 15 12 back agree (omega arith) (omega arith)).0 a refl

-- A tablet that took in the apply of one child alone, restored to its safe time: nothing of the transaction is left, at either key.
half-back : RestoredTo logs 0 12 half (restore 12 half)
unfolding computed
half-back = record { stood = half-stands; after_cutoff = omega arith; covered = omega arith; is = refl }

restored-list : where_key (slice_cmp nat_cmp) (in_range half) (rows logs 12) ≡ (a, codes "1") ∷ (z, codes "2") ∷ []
unfolding computed
restored-list = sym (restored-show logs (restore 12 half) half 0 12 12 half-back agree (omega arith) (omega arith)).1

restored-keeps : kept_at (restore 12 half) a ≡ record
    { versions = record { commit = 10; txn = 0; value = Some (codes "1") } ∷ []; held = [] }
unfolding computed
restored-keeps = refl

-- ---- safe times

climbs : (s : ℕ) → slice_index (4 ∷ 0 ∷ 0 ∷ []) s ≤ slice_index (5 ∷ 2 ∷ 2 ∷ []) s
climbs zero = omega arith
climbs (suc zero) = omega arith
climbs (suc (suc zero)) = omega arith
climbs (suc (suc (suc s))) = omega arith

rises-through-the-split : safe_time logs (4 ∷ 0 ∷ 0 ∷ []) ≤ safe_time logs (5 ∷ 2 ∷ 2 ∷ [])
rises-through-the-split = safe-rises logs (4 ∷ 0 ∷ 0 ∷ []) (5 ∷ 2 ∷ 2 ∷ []) drained-stands.places climbs

-- the right child, of which nothing was polled yet, counts with its parent's final floor
safe-times : safe_time logs (4 ∷ 0 ∷ 0 ∷ []) ∷ safe_time logs (5 ∷ 0 ∷ 0 ∷ []) ∷ safe_time logs
    (5 ∷ 2 ∷ 0 ∷ []) ∷ safe_time logs (5 ∷ 2 ∷ 2 ∷ []) ∷ [] ≡ 12 ∷ 12 ∷ 12 ∷ 19 ∷ []
unfolding computed
safe-times = refl

-- a tablet of the lower hashes is held back by the right child too
covers-all : (covers logs early ≡ 12) × ((covers logs lower ≡ 12) × (covers logs drained ≡ 19))
covers-all = (
  sym (kept-values logs early.places early.floors valid early-stands.places early-stands.floors),
  (
    sym (kept-values logs lower.places lower.floors valid lower-stands.places lower-stands.floors),
    sym (kept-values logs drained.places drained.floors valid drained-stands.places drained-stands.floors),
  ),
)

-- ---- ranges

abbrev the_headers : List Header
the_headers = headers_of logs.tablets

bounded : IsPartition ((0, 32767) ∷ (32768, 65535) ∷ [])
unfolding computed
bounded = bounds-share-out (0 ∷ 32768 ∷ []) refl

-- the hash of a is in the lower one alone
held-once : length (holders 30785 ((0, 32767) ∷ (32768, 65535) ∷ [])) ≡ 1
held-once = ranges-hold-once (0, 65535) ((0, 32767) ∷ (32768, 65535) ∷ []) 30785 bounded (omega arith) (omega arith)

rooted : IsPartition ((0, 65535) ∷ [])
unfolding computed
rooted = roots-share-out the_headers refl

same-root : (i : ℕ) (h : Header) → slice_get the_headers i ≡ Some h → h.parent ≡ None → holds h 30785 ≡ true → 0 ≡ i
unfolding computed
same-root i h e p q =
    one-root-holds the_headers 30785 0 i (record { id = 0; lo = 0; hi = 65535; parent = None }) h refl refl e refl p refl q

halved : SharesOut (0, 65535) ((0, 32767) ∷ (32768, 65535) ∷ [])
unfolding computed
halved = children-share-out the_headers 0 (record { id = 0; lo = 0; hi = 65535; parent = None })
    (record { id = 1; lo = 0; hi = 32767; parent = Some 0 }) (record { id = 2; lo = 32768; hi = 65535; parent = Some 0 }) refl refl refl

-- ---- sessions

starts : IsSession logs (start logs)
starts = sessions-start logs valid

abbrev at_place : ℕ → ℕ → ℕ → Position
at_place place cursor acknowledged = record { place = place; cursor = cursor; acknowledged = acknowledged }

-- before the first command
abbrev at_start : Session
at_start = record { positions = at_place 0 0 0 ∷ at_place 0 0 0 ∷ at_place 0 0 0 ∷ []; cutoff = 0; closed = None }

starts-here : IsSession logs at_start
unfolding computed
starts-here = starts

-- after a drain
abbrev at_end : Session
at_end = record { positions = at_place 5 5 0 ∷ at_place 2 2 0 ∷ at_place 2 2 0 ∷ []; cutoff = 0; closed = None }

is-at_end : (step logs (start logs) command.Drain).0 ≡ at_end
unfolding computed
is-at_end = refl

drained-session : IsSession logs at_end
unfolding computed
drained-session = steps-keep logs (start logs) command.Drain valid starts

-- the cutoff may rise to the safe time, and doesn't fall
pruned-session : IsSession logs (record at_end { cutoff = 19 })
unfolding computed
pruned-session = steps-keep logs at_end (command.Prune 19) valid drained-session

cutoff-stays : 19 ≤ (step logs (record at_end { cutoff = 19 }) (command.Prune 12)).0.cutoff
cutoff-stays = cutoffs-rise logs (record at_end { cutoff = 19 }) (command.Prune 12)

drain-rises : safe_now logs (start logs) ≤ safe_now logs at_end
unfolding computed
drain-rises = steps-rise logs (start logs) command.Drain valid starts

-- after two records, a stop over the other three and a restart leave the places
stop-keeps : (places_of
    (step logs (record at_start { positions = at_place 2 2 1 ∷ at_place 0 0 0 ∷ at_place 0 0 0 ∷ [] }) (command.Stop 0 9 0)).0
    ≡ 2 ∷ 0 ∷ 0 ∷ [])
    × (places_of (step logs (record at_start { positions = at_place 2 2 1 ∷ at_place 0 0 0 ∷ at_place 0 0 0 ∷ [] })
    (command.Restart 0)).0 ≡ 2 ∷ 0 ∷ 0 ∷ [])
stop-keeps = stops-keep logs (record at_start { positions = at_place 2 2 1 ∷ at_place 0 0 0 ∷ at_place 0 0 0 ∷ [] }) 0 9 0

-- the line of a cutoff that is asked for below the one that stands
prune-says : Says logs (record at_end { cutoff = 19 }) (record at_end { cutoff = 19 }) (line.Prune 19)
unfolding computed
prune-says = (lines-name logs (record at_end { cutoff = 19 }) (command.Prune 12) pruned-session).0

abbrev commands : List Command
commands = command.Safe ∷ command.Poll 0 9 ∷ command.Safe ∷ command.Drain ∷ command.Read a ∷ command.Failover ∷ command.Safe ∷ []

times : named_times (lines_from logs (start logs) commands) ≡ 0 ∷ 12 ∷ 19 ∷ 19 ∷ 19 ∷ 19 ∷ []
unfolding computed
times = refl

times-rise : IsRising 0 (0 ∷ 12 ∷ 19 ∷ 19 ∷ 19 ∷ 19 ∷ [])
unfolding computed
times-rise = named-times-rise logs (start logs) commands valid starts

abbrev closed_at_19 : Session
closed_at_19 = record at_end { closed = Some 19 }

closes : (step logs at_end command.Failover).0 ≡ closed_at_19
unfolding computed
closes = failover-closes logs at_end refl

-- so it is a session, whose closing time is the safe time
closed-session : IsSession logs closed_at_19
unfolding computed
closed-session = steps-keep logs at_end command.Failover valid drained-session

stays-closed : (c : Command) → (step logs closed_at_19 c).0 ≡ closed_at_19
stays-closed c = closed-stays logs closed_at_19 c 19 refl

times-stay : (commands : List Command) → AllByRecursion (λ t. t ≡ 19) (named_times (lines_from logs closed_at_19 commands))
times-stay commands = closed-times logs closed_at_19 commands 19 closed-session refl
