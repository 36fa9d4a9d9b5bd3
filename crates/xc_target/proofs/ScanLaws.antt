-- The rows of a target's tablets, collected and put in order, are the rows of the logs.
use Rattle.std.proofs.Common.{◌≡◌, ℕ, ◌≤◌, List, map, Option, Some, None, Result, Ok, Err, subst, arith}
use Rattle.std.specs.Prelude.{flat_map, MatchOption, IfOk}
use Rattle.std.specs.List.Sorted.{IsPermutation, IsSortedByKey}
use Rattle.std.specs.Ordering.{nat_cmp}
use Rattle.std.specs.Cmp.Lexicographic.{slice_cmp}
use Rattle.xc_record.specs.declared.record.Logs.{Logs}
use Rattle.xc_record.specs.Agreement.{disagreement}
use Rattle.xc_record.specs.Bounds.{IsPartition}
use Rattle.xc_record.specs.Rows.{rows}
use Rattle.xc_record.specs.Session.{Session, safe_now, IsSession}
use Rattle.xc_record.proofs.ListLaws.{Each}
use Rattle.xc_record.proofs.RowLaws.{rows-sorted}
use Rattle.xc_model.specs.Rows.{range_of}
use Rattle.xc_model.specs.Stands.{TargetTablet, rows_shown}
use Rattle.xc_model.proofs.ListLaw.{reads-show-lists, restored-show}
use Rattle.xc_model.proofs.Partitions.{ShowsPart, sorted-rows}
use Rattle.xc_target.specs.Target.{TargetState}
use Rattle.xc_target.specs.Stands.{IsAhead, WasAhead, AreKept, StandsForSession}
use Rattle.xc_target.proofs.MoveLaws.{each-to, covers-safe}

abbrev Row : Type 0
Row = List ℕ × List ℕ

module _ (logs : Logs) (m : Session) (t : TargetState) (is : IsSession logs m) (st : StandsForSession logs m t)
    (agree : disagreement logs ≡ None) where
  abbrev safe : ℕ
  safe = safe_now logs m

  abbrev Part : TargetTablet → Type 0
  Part = ShowsPart safe (rows logs safe)

  each-part : Each Part t.tablets
  each-part = go m.closed st.tablets is.closed
    where
      low : m.cutoff ≤ safe
      low = is.cutoff

      go : (o : Option ℕ) → AreKept logs m o t.tablets → MatchOption o (Unit {0}) (λ t. t ≡ safe) → Each Part t.tablets
      go None h e =
          each-to (IsAhead logs m) Part
          (λ x a. reads-show-lists logs x m.cutoff safe a.stands agree low (covers-safe logs m x a)) t.tablets h
      go (Some at) h e =
          each-to (WasAhead logs m at) Part
          (λ x a. (restored-show logs x a.before m.cutoff at safe a.restored agree low (omega arith)).1) t.tablets h

  abbrev rows_found : List TargetTablet → ℕ → List Row → Type 0
  rows_found xs v ys = IsPermutation (flat_map (rows_shown v) xs) ys

  -- what was collected at the time v from these tablets
  pub scanned-rows : {E : Type 0} (v : ℕ) (xs : List TargetTablet) (found : Result (List Row) E)
      → v ≡ safe → xs ≡ t.tablets → IsPartition (map range_of t.tablets) → IfOk found (rows_found xs v)
      → IfOk found (IsSortedByKey (λ (r : Row). r.0) (slice_cmp nat_cmp)) → IfOk found (λ ys. ys ≡ rows logs safe)
  scanned-rows v xs (Err e) same all p q o = tt
  scanned-rows v xs (Ok ys) same all p q o =
      let there = subst (λ w. rows_found w safe ys) all (subst (λ w. rows_found xs w ys) same q) in
      sorted-rows safe (rows logs safe) t.tablets ys p each-part (rows-sorted logs safe) there o
