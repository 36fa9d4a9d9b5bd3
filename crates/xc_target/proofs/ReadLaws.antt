-- What a target shows are the rows of the logs.
use Rattle.std.proofs.Common.{◌≡◌, ℕ, ◌+◌, ◌*◌, ◌%◌, ◌<◌, ◌≤◌, true, false, ◌&&◌, cond, List, [], ◌∷◌, map, Option, Some, None, Err, ap}
use Rattle.std.proofs.Common.{sym, subst, ◌∙◌}
use Rattle.std.proofs.Common.{arith, ⊎_elim}
use Rattle.std.specs.Prelude.{nat_le, MatchOption}
use Rattle.std.proofs.lemmas.Bool.{cases_lt}
use Rattle.std.proofs.lemmas.Bool.Decides.{nat_tests}
use Rattle.xc_record.specs.declared.record.Logs.{Logs}
use Rattle.xc_record.specs.Agreement.{disagreement}
use Rattle.xc_record.specs.Bounds.{Follows, IsPartition}
use Rattle.xc_record.specs.Hash.{hash_from, hash_of}
use Rattle.xc_record.specs.Kept.{read}
use Rattle.xc_record.specs.Rows.{row}
use Rattle.xc_record.specs.Session.{Session, safe_now, IsSession}
use Rattle.xc_record.proofs.ListLaws.{Each}
use Rattle.xc_model.specs.Rows.{range_of}
use Rattle.xc_model.specs.Stands.{TargetTablet, in_range, kept_at}
use Rattle.xc_model.proofs.ListLaw.{restored-show}
use Rattle.xc_model.proofs.ReadLaw.{reads-show-rows}
use Rattle.xc_retain.specs.Retention.{IsReadable}
use Rattle.xc_retain.specs.declared.retention.NotReadable.{NotReadable}
use Rattle.xc_retain.specs.declared.retention.NotReadable.TheVariants as why
use Rattle.xc_target.specs.Answers.{IsNotReadable}
use Rattle.xc_target.specs.Target.{TargetState, shown_at}
use Rattle.xc_target.specs.Stands.{IsAhead, WasAhead, AreKept, StandsForSession}
use Rattle.xc_target.proofs.MoveLaws.{each-to, covers-safe}

hash-from-below : (h : ℕ) (k : List ℕ) → h < 65536 → hash_from h k < 65536
hash-from-below h [] b = b
hash-from-below h (byte ∷ k) b = hash-from-below ((31 * h + byte) % 65536) k (omega arith)

hash-below : (k : List ℕ) → hash_of k < 65536
unfolding hash_of
hash-below k = hash-from-below 0 k (omega arith)

abbrev pub Shows : Logs → ℕ → TargetTablet → Type 0
Shows logs v x = (k : List ℕ) → in_range x k ≡ true → read v (kept_at x k) ≡ row logs v k

-- the key is in the range of one of the tablets
shown-from : (logs : Logs) (v lo : ℕ) (xs : List TargetTablet) (k : List ℕ) → Follows lo 65536 (map range_of xs) → Each (Shows logs v) xs
    → lo ≤ hash_of k → shown_at v k xs ≡ row logs v k
shown-from logs v lo [] k f h b = let e : lo ≡ 65536 = f in let l : hash_of k < 65536 = hash-below k in absurd (omega arith)
shown-from logs v lo (x ∷ xs) k f h b =
    let low : x.lo ≡ lo = f.0 in
    ⊎_elim
    (λ above.
    let out : in_range x k ≡ false =
    (let e : (nat_le x.lo (hash_of k) && nat_le (hash_of k) x.hi) ≡ false = grind (arith, nat_tests) in e) in
    ap (λ o. cond o (read v (kept_at x k)) (shown_at v k xs)) out ∙ shown-from logs v (x.hi + 1) xs k f.1.1 h.1 (omega arith))
    (λ here.
    let inside : in_range x k ≡ true =
    (let e : (nat_le x.lo (hash_of k) && nat_le (hash_of k) x.hi) ≡ true = grind (arith, nat_tests) in e) in
    ap (λ o. cond o (read v (kept_at x k)) (shown_at v k xs)) inside ∙ h.0 k inside)
    (cases_lt x.hi (hash_of k))

module _ (logs : Logs) (m : Session) (t : TargetState) (is : IsSession logs m) (st : StandsForSession logs m t)
    (agree : disagreement logs ≡ None) (v : ℕ) (low : m.cutoff ≤ v) (high : v ≤ safe_now logs m) where
  each-shows : Each (Shows logs v) t.tablets
  each-shows = go m.closed st.tablets is.closed
    where
      go : (o : Option ℕ) → AreKept logs m o t.tablets → MatchOption o (Unit {0}) (λ t. t ≡ safe_now logs m) → Each (Shows logs v) t.tablets
      go None h e = each-to (IsAhead logs m) (Shows logs v)
          (λ x a k q. let c = covers-safe logs m x a in reads-show-rows logs x m.cutoff v k a.stands agree low (omega arith) q) t.tablets h
      go (Some at) h e = each-to (WasAhead logs m at) (Shows logs v)
          (λ x a k q. (restored-show logs x a.before m.cutoff at v a.restored agree low (omega arith)).0 k q) t.tablets h

  pub shows-row : IsPartition (map range_of t.tablets) → (k : List ℕ) → shown_at v k t.tablets ≡ row logs v k
  shows-row p k = shown-from logs v 0 t.tablets k p each-shows (omega arith)

-- why a time can't be read, said of the session
pub not-readable : (logs : Logs) (m : Session) (cutoff safe u : ℕ) (e : NotReadable) → cutoff ≡ m.cutoff → safe ≡ safe_now logs m
    → IsReadable cutoff safe u (Err e) → IsNotReadable logs m u e
not-readable logs m cutoff safe u (why.Ahead named) at now r = (r.0 ∙ now, subst (λ n. n < u) (sym r.0) r.1)
not-readable logs m cutoff safe u (why.Pruned named) at now r =
    (subst (λ n. u ≤ n) now r.1.0, (r.0 ∙ at, subst (λ n. u < n) (sym r.0) r.1.1))
