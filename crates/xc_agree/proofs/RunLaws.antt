-- Laws of runs.
use Rattle.std.proofs.lemmas.List.{take_more}
use Rattle.std.proofs.Common.{◌≡◌, ℕ, zero, suc, ◌+◌, ◌<◌, Bool, true, false, List, [], ◌∷◌, ◌++◌, length, take, get_or, refl, ap, sym, ◌∙◌}
use Rattle.std.proofs.Common.{subst, arith}
use Rattle.std.specs.Prelude.{Option, Some, None, fold, slice_get, if◌then◌else◌, option_map}
use Rattle.xc_record.specs.declared.record.Record.{Record}
use Rattle.xc_record.specs.declared.record.Tablet.{Tablet}
use Rattle.xc_record.specs.Order.{Progress, after, accepted_from}
use Rattle.xc_record.specs.Accepted.{AcceptedTablet, accepted_tablets_after, accepted_tablet_after, start_after, reached_after, halt_from}
use Rattle.xc_record.specs.Accepted.{accepted_tablets}
use Rattle.xc_agree.specs.declared.run.Start.{Start}
use Rattle.xc_agree.specs.declared.run.Run.{Run}
use Rattle.xc_order.specs.Walks.{halt_at}
use Rattle.xc_agree.specs.Runs.{IsRun, IsRuns, start_from}
use Rattle.xc_agree.specs.Cases.{of_tablets}

-- the accepted records are the first ones
pub accepted-first : (p : Progress) (rs : List Record) → take (length (accepted_from p rs)) rs ≡ accepted_from p rs
accepted-first p [] = refl
accepted-first p (r ∷ rs) = grind (arith, accepted-first (after p r) rs)

pub IsRuns-snoc : (runs : List Run) (bs : List AcceptedTablet) (ts : List Tablet) (run : Run) (b : AcceptedTablet) (t : Tablet)
    → IsRuns runs bs ts → IsRun run b t → IsRuns (runs ++ run ∷ []) (bs ++ b ∷ []) (ts ++ t ∷ [])
IsRuns-snoc [] [] [] run b t h r = (r, tt)
IsRuns-snoc (x ∷ runs) (c ∷ bs) (u ∷ ts) run b t h r = (h.0, IsRuns-snoc runs bs ts run b t h.1 r)
IsRuns-snoc [] [] (u ∷ ts) run b t h r = absurd h
IsRuns-snoc [] (c ∷ bs) ts run b t h r = absurd h
IsRuns-snoc (x ∷ runs) [] ts run b t h r = absurd h
IsRuns-snoc (x ∷ runs) (c ∷ bs) [] run b t h r = absurd h

pub accepted-of : (ts : List Tablet) → accepted_tablets (of_tablets ts) ≡ accepted_tablets_after [] ts
unfolding accepted_tablets
accepted-of ts = refl

pub after-append : (before : List AcceptedTablet) (ts us : List Tablet)
    → accepted_tablets_after before (ts ++ us) ≡ accepted_tablets_after (accepted_tablets_after before ts) us
after-append before [] us = refl
after-append before (t ∷ ts) us = after-append (before ++ accepted_tablet_after before t ∷ []) ts us

-- what a run says at a place
pub data RunAt (o : Option Run) (b : Option AcceptedTablet) : Type 0 where
  Past : o ≡ None → b ≡ None → RunAt o b
  At : (run : Run) (c : AcceptedTablet) → o ≡ Some run → b ≡ Some c → run.reached ≡ c.reached → run.walk.order ≡ c.end → RunAt o b

pub run_at : (runs : List Run) (bs : List AcceptedTablet) (ts : List Tablet) (i : ℕ) → IsRuns runs bs ts
    → RunAt (slice_get runs i) (slice_get bs i)
run_at [] [] [] i h = Past refl refl
run_at (run ∷ runs) (b ∷ bs) (t ∷ ts) zero h = At run b refl refl h.0.reached h.0.order
run_at (run ∷ runs) (b ∷ bs) (t ∷ ts) (suc i) h = run_at runs bs ts i h.1
run_at [] [] (u ∷ ts) i h = absurd h
run_at [] (c ∷ bs) ts i h = absurd h
run_at (x ∷ runs) [] ts i h = absurd h
run_at (x ∷ runs) (c ∷ bs) [] i h = absurd h

pub start_of-runs : (runs : List Run) (bs : List AcceptedTablet) (ts : List Tablet) (parent : Option ℕ) → IsRuns runs bs ts
    → start_from runs parent ≡ record { reached = reached_after bs parent; order = start_after bs parent }
start_of-runs runs bs ts None h = refl
start_of-runs runs bs ts (Some id) h = elim (run_at runs bs ts id h) [
  | Past e f ↦ rw (e, f) refl
  | At run b e f r o ↦ rw (e, f, r, o) refl
]

-- a run of the next tablet
pub record IsRunOf (run : Run) (start : Start) (rs : List Record) : Type 0 where
  pub reached : run.reached ≡ start.reached
  pub accepted : run.walk.accepted ≡ length (if start.reached then accepted_from start.order rs else [])
  pub order : run.walk.order ≡ fold after start.order (if start.reached then accepted_from start.order rs else [])
  pub halt : option_map halt_at run.walk.halt ≡ (if start.reached then halt_from start.order 1 rs else None)

take_zero : (rs : List Record) → take 0 rs ≡ []
take_zero [] = refl
take_zero (r ∷ rs) = refl

kept : (reached : Bool) (p : Progress) (rs : List Record)
    → (if reached then accepted_from p rs else []) ≡ take (length (if reached then accepted_from p rs else [])) rs
kept true p rs = sym (accepted-first p rs)
kept false p rs = sym (take_zero rs)

pub next_run : (runs : List Run) (bs : List AcceptedTablet) (ts : List Tablet) (t : Tablet) (run : Run) → IsRuns runs bs ts
    → IsRunOf run (start_from runs t.header.parent) t.records → IsRun run (accepted_tablet_after bs t) t
next_run runs bs ts t run h r =
    let s : start_from runs t.header.parent ≡ record { reached = reached_after bs t.header.parent; order = start_after bs t.header.parent }
    = start_of-runs runs bs ts t.header.parent h in
    let q : IsRunOf run (record { reached = reached_after bs t.header.parent; order = start_after bs t.header.parent }) t.records =
    subst (λ x. IsRunOf run x t.records) s r in
    record {
      header = refl;
      reached = q.reached;
      order = q.order;
      accepted = q.accepted;
      records = kept (reached_after bs t.header.parent) (start_after bs t.header.parent) t.records
          ∙ ap (λ n. take n t.records) (sym q.accepted);
      halt = q.halt;
    }

-- the runs with that of the tablet at i
pub add_run : (runs more : List Run) (ts : List Tablet) (i : ℕ) (t : Tablet) (run : Run) (start : Start) (before : List Run)
    (rs : List Record) → i < length ts → t ≡ get_or ts i t → IsRuns runs (accepted_tablets_after [] (take i ts)) (take i ts)
    → before ≡ runs → start ≡ start_from before t.header.parent → rs ≡ t.records → IsRunOf run start rs → more ≡ runs ++ run ∷ []
    → IsRuns more (accepted_tablets_after [] (take (i + 1) ts)) (take (i + 1) ts)
add_run runs more ts i t run start before rs below is h same begins all r e =
    let next : IsRun run (accepted_tablet_after (accepted_tablets_after [] (take i ts)) t) t =
    next_run runs (accepted_tablets_after [] (take i ts)) (take i ts) t run h (subst (λ s. IsRunOf run s t.records) (begins
    ∙ ap (λ x. start_from x t.header.parent) same) (subst (λ x. IsRunOf run start x) all r)) in
    let one : take (i + 1) ts ≡ take i ts ++ t ∷ [] = take_more ts i t below ∙ ap (λ u. take i ts ++ u ∷ []) (sym is) in
    rw (e, one, after-append [] (take i ts) (t ∷ []))
    (IsRuns-snoc runs (accepted_tablets_after [] (take i ts)) (take i ts) run
    (accepted_tablet_after (accepted_tablets_after [] (take i ts)) t) t h next)

-- the accepted tablets of one tablet more
pub tablets-more : (ts : List Tablet) (i : ℕ) (t : Tablet) → i < length ts → t ≡ get_or ts i t
    → accepted_tablets_after [] (take (i + 1) ts) ≡ accepted_tablets_after [] (take i ts) ++ accepted_tablet_after
    (accepted_tablets_after [] (take i ts)) t ∷ []
tablets-more ts i t h e =
    ap (accepted_tablets_after []) (take_more ts i t h ∙ ap (λ u. take i ts ++ u ∷ []) (sym e)) ∙ after-append [] (take i ts) (t ∷ [])
