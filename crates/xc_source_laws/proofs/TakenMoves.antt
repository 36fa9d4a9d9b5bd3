-- Each move keeps this: a write that waits no more is one of an aborted transaction, or of one that a tablet applied.
use Rattle.std.proofs.Common.{◌≡◌, ℕ, ◌+◌, ◌-◌, true, Bool, List, [], ◌∷◌, ◌++◌, Some}
use Rattle.std.proofs.Common.{refl, ap, sym, ◌∙◌, subst, arith, inl, inr, ⊎_elim, ◌⊎◌}
use Rattle.std.specs.Prelude.{not, slice_set}
use Rattle.std.specs.List.{list_any}
use Rattle.xc_record.specs.declared.record.Kind.TheVariants as kind
use Rattle.xc_record.specs.declared.record.Record.{Record}
use Rattle.xc_record.specs.Commits.{applied_txn}
use Rattle.xc_record.specs.Accepted.{AcceptedTablet}
use Rattle.xc_model.proofs.StableSort.{Exists}
use Rattle.xc_model.proofs.Elements.{exists-left, exists-right}
use Rattle.xc_source.specs.declared.transaction.Provisional.{Provisional}
use Rattle.xc_source.specs.declared.transaction.Stage.TheVariants.{Aborted}
use Rattle.xc_source.specs.Machine.{Machine, Transaction}
use Rattle.xc_source.specs.Waiting.{taken as taken_on}
use Rattle.xc_source.specs.Calls.{written, next_begun, undone_from, aborted, committed}
use Rattle.xc_source_laws.proofs.Lists.{Seam, exists-replaced}
use Rattle.xc_source_laws.proofs.Grow.{taken}
use Rattle.xc_source_laws.proofs.Base.{next_record, grown_books}
use Rattle.xc_source_laws.proofs.BaseSteps.{split_record}
use Rattle.xc_source_laws.proofs.Moves.{Closed, IsLive}
use Rattle.xc_source_laws.proofs.Says.{txn_at, live-aborted}
use Rattle.xc_source_laws.proofs.Listing.{by-number}
use Rattle.xc_source_laws.proofs.ListMoves.{either-begun}

abbrev pub HasApply : ℕ → Record → Type 0
HasApply n r = applied_txn r.kind ≡ Some n

abbrev pub AppliedIn : ℕ → List AcceptedTablet → Type 0
AppliedIn n bs = Exists (λ b. Exists (HasApply n) b.records) bs

-- some write waits no more
abbrev pub some_taken : Transaction → Bool
some_taken t = list_any (λ w. not w.waits) t.writes

abbrev pub Explains : ℕ → List AcceptedTablet → Transaction → Type 0
Explains n bs t = some_taken t ≡ true → (t.stage ≡ Aborted) ⊎ AppliedIn n bs

pub record TakenOf (ts : List Transaction) (bs : List AcceptedTablet) : Type 0 where
  pub explains : (n : ℕ) (t : Transaction) → txn_at ts n ≡ Some t → Explains n bs t

abbrev pub TakenSo : Machine → List AcceptedTablet → Type 0
TakenSo m bs = TakenOf m.txns bs

applied-grown : (n id : ℕ) (bs : List AcceptedTablet) (b : AcceptedTablet) (s : Seam bs id b) (r : Record) → AppliedIn n bs
    → AppliedIn n (grown_books s r)
applied-grown n id bs b s r i =
    exists-replaced (λ b. Exists (HasApply n) b.records) s.before b (taken b r) s.after (λ q. exists-left (HasApply n) b.records (r ∷ []) q)
    (subst (AppliedIn n) s.whole i)

grown-taken : (ts : List Transaction) (id : ℕ) (bs : List AcceptedTablet) (b : AcceptedTablet) (s : Seam bs id b) (r : Record)
    → TakenOf ts bs
    → TakenOf ts (grown_books s r)
grown-taken ts id bs b s r h = record {
  explains = λ n t e w. ⊎_elim (λ a. inl a) (λ i. inr (applied-grown n id bs b s r i)) (h.explains n t e w);
}

set-taken : (xs : List Transaction) (bs : List AcceptedTablet) (n : ℕ) (t u : Transaction) → txn_at xs n ≡ Some t
    → (Explains n bs t → Explains n bs u) → TakenOf xs bs → TakenOf (slice_set xs (n - 1) u) bs
set-taken xs bs n t u e f h = record {
  explains = λ i x q. by-number xs n i t u x (Explains i bs) e q
      (λ z. subst (λ j. Explains j bs u) z (f (h.explains n t e))) (λ q. h.explains i x q);
}

-- a live transaction goes on with the same writes
live-taken : (m : Machine) (bs : List AcceptedTablet) (n : ℕ) (t u : Transaction) → IsLive m n t → u.writes ≡ t.writes → TakenSo m bs
    → TakenOf (slice_set m.txns (n - 1) u) bs
live-taken m bs n t u l w h =
    set-taken m.txns bs n t u l.there
    (λ f q. ⊎_elim (λ a. absurd (live-aborted t.stage l.live a)) (λ i. inr i) (f (sym (ap (list_any (λ w. not w.waits)) w) ∙ q))) h

any-waiting : (ws : List Provisional) (w : Provisional) → w.waits ≡ true → list_any (λ w. not w.waits) (ws ++ w ∷ []) ≡ true
    → list_any (λ w. not w.waits) ws ≡ true
any-waiting [] w e h = grind (arith, e, h)
any-waiting (x ∷ ws) w e h = grind (arith, e, h, any-waiting ws w e)

apply-here : (n id : ℕ) (bs : List AcceptedTablet) (b : AcceptedTablet) (s : Seam bs id b) (r : Record) → HasApply n r
    → AppliedIn n (grown_books s r)
apply-here n id bs b s r a =
    exists-right (λ b. Exists (HasApply n) b.records) s.before (taken b r ∷ s.after)
    (inl (exists-right (HasApply n) b.records (r ∷ []) (inl a)))

pub taken-closed : Closed TakenSo
taken-closed = record {
  clock = λ m bs u k l h. h;
  begin = λ m bs k h. record {
    explains = λ n t e. either-begun m.txns n t e (Explains n bs) (λ q. h.explains n t q) (λ q w. cc);
  };
  savepoint = λ m bs n t k l f h. live-taken m bs n t (next_begun t) l refl h;
  roll_back = λ m bs n sub t k l i f h. live-taken m bs n t (next_begun (undone_from sub t)) l refl h;
  write = λ m bs n op t id b o k l q f h.
      grown-taken (slice_set m.txns (n - 1) (written op t)) id bs b o.seam (next_record m (kind.Intent t.current n (op ∷ [])))
      (set-taken m.txns bs n t (written op t) l.there
      (λ f w. f (any-waiting t.writes (record { sub = t.current; op = op; waits = true }) refl w)) h);
  put = λ m bs op id b o k q f h. grown-taken m.txns id bs b o.seam (next_record m (kind.Write (op ∷ []))) h;
  commit = λ m bs n t k l h. live-taken m bs n t (committed (m.time + 1) t) l refl h;
  abort = λ m bs n t k l h. set-taken m.txns bs n t (aborted t) l.there (λ f w. inl refl) h;
  abort_log = λ m bs n t id b o k e a h. grown-taken m.txns id bs b o.seam (next_record m (kind.Abort n)) h;
  apply = λ m bs n c t id b o k a h.
      set-taken m.txns (grown_books o.seam (next_record m (kind.Apply n c t.undone))) n t (taken_on b.header t) a.there
      (λ f w. inr (apply-here n id bs b o.seam (next_record m (kind.Apply n c t.undone)) refl))
      (grown-taken m.txns id bs b o.seam (next_record m (kind.Apply n c t.undone)) h);
  safe = λ m bs id v b o k s h. grown-taken m.txns id bs b o.seam (next_record m (kind.Safe v)) h;
  split = λ m bs id at b o k lo hi h. record {
    explains = λ n t e w. ⊎_elim (λ a. inl a)
        (λ i. inr (exists-left (λ b. Exists (HasApply n) b.records) (grown_books o.seam (split_record m at) ++ _ ∷ []) (_ ∷ [])
        (exists-left (λ b. Exists (HasApply n) b.records) (grown_books o.seam (split_record m at)) (_ ∷ [])
        (applied-grown n id bs b o.seam (split_record m at) i)))) (h.explains n t e w);
  };
}
