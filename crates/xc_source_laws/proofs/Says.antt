-- What the records of a source say of its transactions, and that it stays true as these go on.
--     Says time txns r      what the record says, while the clock stands at `time`
--     Later time xs ys      the transactions ys come of xs, at which the clock stood at `time`
use Rattle.std.proofs.Common.{◌≡◌, ◌≢◌, ℕ, zero, suc, ◌-◌, ◌<◌, ◌≤◌, true, false, Bool, List, [], ◌∷◌, ◌++◌, Option, Some}
use Rattle.std.proofs.Common.{None}
use Rattle.std.proofs.Common.{refl, ap, sym, ◌∙◌, subst, arith, inl, inr, ⊎_elim, ◌⊎◌}
use Rattle.std.specs.Prelude.{slice_get, slice_set, if◌then◌else◌, ◌==◌}
use Rattle.std.proofs.lemmas.Bool.{cases_eq, eq-eqb, ne_eqb, true≢false}
use Rattle.std.proofs.lemmas.Option.{same_Some, none-some}
use Rattle.xc_record.specs.declared.record.Kind.{Kind}
use Rattle.xc_record.specs.declared.record.Kind.TheVariants as kind
use Rattle.xc_record.specs.declared.record.Record.{Record}
use Rattle.xc_source.specs.declared.transaction.Stage.{Stage}
use Rattle.xc_source.specs.declared.transaction.Stage.TheVariants.{Live, Committed, Aborted}
use Rattle.xc_source.specs.Machine.{Transaction, begun, is_live, commit_of}
use Rattle.xc_source_laws.proofs.Base.{unless-none}
use Rattle.xc_source_laws.proofs.Opened.{get-set-same, get-set-other}

-- the transaction of a number
abbrev pub txn_at : List Transaction → ℕ → Option Transaction
txn_at ts n = if n == 0 then None else slice_get ts (n - 1)

pub none-there : (n : ℕ) (t : Transaction) → txn_at [] n ≡ Some t → ⊥
none-there n t e = go (n == 0) None refl e
  where
    go : (b : Bool) (o : Option Transaction) → o ≡ None → (if b then None else o) ≡ Some t → ⊥
    go true o z q = cc
    go false o z q = cc

-- an intent of the transaction, at this time
pub record Wrote (ts : List Transaction) (n time : ℕ) : Type 0 where
  pub t : Transaction
  pub there : txn_at ts n ≡ Some t
  pub before : (c : ℕ) → commit_of t.stage ≡ Some c → time < c

-- an apply of the transaction, with this commit and these rolled back
pub record Applied (ts : List Transaction) (n c : ℕ) (without : List ℕ) : Type 0 where
  pub t : Transaction
  pub there : txn_at ts n ≡ Some t
  pub commit : commit_of t.stage ≡ Some c
  pub undone : t.undone ≡ without

pub record Aborts (ts : List Transaction) (n : ℕ) : Type 0 where
  pub t : Transaction
  pub there : txn_at ts n ≡ Some t
  pub aborted : t.stage ≡ Aborted

abbrev pub KindSays : ℕ → List Transaction → ℕ → Kind → Type 0
KindSays time ts at (kind.Write ops) = Unit {0}
KindSays time ts at (kind.Intent sub n ops) = Wrote ts n at
KindSays time ts at (kind.Apply n c without) = Applied ts n c without
KindSays time ts at (kind.Abort n) = Aborts ts n
KindSays time ts at (kind.Safe v) = v ≤ time
KindSays time ts at (kind.Split place left right) = Unit {0}

pub record Says (time : ℕ) (ts : List Transaction) (r : Record) : Type 0 where
  pub past : r.time ≤ time
  pub kind : KindSays time ts r.time r.kind

-- ---- how transactions go on

-- a commit comes after the time, once it is there it stays, and so do an abort and what was rolled back before a commit
pub record Follows (time : ℕ) (t u : Transaction) : Type 0 where
  pub committed : (c : ℕ) → commit_of t.stage ≡ Some c → (commit_of u.stage ≡ Some c) × (u.undone ≡ t.undone)
  pub from : (c : ℕ) → commit_of u.stage ≡ Some c → (commit_of t.stage ≡ Some c) ⊎ (time < c)
  pub aborted : t.stage ≡ Aborted → u.stage ≡ Aborted

pub record Next (time : ℕ) (ys : List Transaction) (n : ℕ) (t : Transaction) : Type 0 where
  pub u : Transaction
  pub there : txn_at ys n ≡ Some u
  pub follows : Follows time t u

pub record Later (time : ℕ) (xs ys : List Transaction) : Type 0 where
  pub onward : (n : ℕ) (t : Transaction) → txn_at xs n ≡ Some t → Next time ys n t
  pub back : (n c : ℕ) (u : Transaction) → txn_at ys n ≡ Some u → commit_of u.stage ≡ Some c
      → ((t : Transaction) × (txn_at xs n ≡ Some t) × (commit_of t.stage ≡ Some c)) ⊎ (time < c)

follows-same : (time : ℕ) (t : Transaction) → Follows time t t
follows-same time t = record { committed = λ c e. (e, refl); from = λ c e. inl e; aborted = λ e. e }

pub later-same : (time : ℕ) (xs : List Transaction) → Later time xs xs
later-same time xs = record {
  onward = λ n t e. record { u = t; there = e; follows = follows-same time t };
  back = λ n c u e f. inl (u, e, f);
}

-- a stage that stays as it is, as what was rolled back does
pub follows-stage : (time : ℕ) (t u : Transaction) → u.stage ≡ t.stage → u.undone ≡ t.undone → Follows time t u
follows-stage time t u s d = record {
  committed = λ c e. (ap commit_of s ∙ e, d);
  from = λ c e. inl (sym (ap commit_of s) ∙ e);
  aborted = λ e. s ∙ e;
}

pub live-not : (s : Stage) (c : ℕ) → is_live s ≡ true → commit_of s ≡ Some c → ⊥
live-not Live c l e = cc
live-not (Committed d) c l e = cc
live-not Aborted c l e = cc

pub live-aborted : (s : Stage) → is_live s ≡ true → s ≡ Aborted → ⊥
live-aborted Live l e = cc
live-aborted (Committed d) l e = cc
live-aborted Aborted l e = cc

-- a live transaction may go on as it likes, but for a commit in the past
pub follows-live : (time : ℕ) (t u : Transaction) → is_live t.stage ≡ true → ((c : ℕ) → commit_of u.stage ≡ Some c → time < c)
    → Follows time t u
follows-live time t u l f = record {
  committed = λ c e. absurd (live-not t.stage c l e);
  from = λ c e. inr (f c e);
  aborted = λ e. absurd (live-aborted t.stage l e);
}

one-of : (n : ℕ) (o : Option Transaction) (t : Transaction) → (if n == 0 then None else o) ≡ Some t → (n ≢ 0) × (o ≡ Some t)
one-of n o t e =
    let p = unless-none (n == 0) o t e in
    ((λ z. true≢false (sym (eq-eqb n 0 z) ∙ p.0)), p.1)

pub at-set-same : (xs : List Transaction) (n : ℕ) (t u : Transaction) → txn_at xs n ≡ Some t → txn_at (slice_set xs (n - 1) u) n ≡ Some u
at-set-same xs n t u e =
    let p = one-of n (slice_get xs (n - 1)) t e in
    ap (λ b. if b then None else slice_get (slice_set xs (n - 1) u) (n - 1)) (ne_eqb n 0 p.0) ∙ get-set-same xs (n - 1) t u p.1

pub at-set-other : (xs : List Transaction) (n i : ℕ) (t u : Transaction) → txn_at xs n ≡ Some t → n ≢ i
    → txn_at (slice_set xs (n - 1) u) i ≡ txn_at xs i
at-set-other xs n i t u e d = go (i == 0) refl
  where
    go : (b : Bool) → (i == 0) ≡ b
        → (if b then None else slice_get (slice_set xs (n - 1) u) (i - 1)) ≡ (if b then None else slice_get xs (i - 1))
    go true q = refl
    go false q =
        let one = (one-of n (slice_get xs (n - 1)) t e).0 in
        let two : i ≢ 0 = λ z. true≢false (sym (eq-eqb i 0 z) ∙ q) in
        get-set-other xs (n - 1) (i - 1) u (λ w. d (let y = w in omega (arith, one, two)))

pub later-set : (time : ℕ) (xs : List Transaction) (n : ℕ) (t u : Transaction) → txn_at xs n ≡ Some t → Follows time t u
    → Later time xs (slice_set xs (n - 1) u)
later-set time xs n t u e f = record {
  onward = λ i x q. ⊎_elim
      (λ s. let same : t ≡ x = same_Some t x (sym e ∙ ap (txn_at xs) s ∙ q) in
      record {
        u = u;
        there = subst (λ w. txn_at (slice_set xs (n - 1) u) w ≡ Some u) s (at-set-same xs n t u e);
        follows = subst (λ w. Follows time w u) same f;
      })
      (λ d. record { u = x; there = at-set-other xs n i t u e d ∙ q; follows = follows-same time x }) (cases_eq n i);
  back = λ i c x q w. ⊎_elim
      (λ s. let same : u ≡ x = same_Some u x (sym (subst (λ w. txn_at (slice_set xs (n - 1) u) w ≡ Some u) s (at-set-same xs n t u e)) ∙ q)
      in
      ⊎_elim (λ z. inl (t, subst (λ w. txn_at xs w ≡ Some t) s e, z)) (λ z. inr z)
      (f.from c (subst (λ (w : Transaction). commit_of w.stage ≡ Some c) (sym same) w)))
      (λ d. inl (x, sym (at-set-other xs n i t u e d) ∙ q, w)) (cases_eq n i);
}

-- one more transaction
get-left : {A : Type 0} (xs ys : List A) (i : ℕ) (x : A) → slice_get xs i ≡ Some x → slice_get (xs ++ ys) i ≡ Some x
get-left [] ys i x e = cc
get-left (y ∷ xs) ys zero x e = e
get-left (y ∷ xs) ys (suc i) x e = get-left xs ys i x e

get-either : {A : Type 0} (xs : List A) (y : A) (i : ℕ) (x : A) → slice_get (xs ++ y ∷ []) i ≡ Some x → (slice_get xs i ≡ Some x) ⊎ (x ≡ y)
get-either [] y zero x e = inr (sym (same_Some y x e))
get-either [] y (suc i) x e = cc
get-either (z ∷ xs) y zero x e = inl e
get-either (z ∷ xs) y (suc i) x e = get-either xs y i x e

pub at-left : (xs : List Transaction) (n : ℕ) (t : Transaction) → txn_at xs n ≡ Some t → txn_at (xs ++ begun ∷ []) n ≡ Some t
at-left xs n t e =
    let p = unless-none (n == 0) (slice_get xs (n - 1)) t e in
    ap (λ b. if b then None else slice_get (xs ++ begun ∷ []) (n - 1)) p.0 ∙ get-left xs (begun ∷ []) (n - 1) t p.1

-- what stands there and didn't before is the new one
pub new-one : (xs : List Transaction) (n : ℕ) (t : Transaction) → txn_at (xs ++ begun ∷ []) n ≡ Some t → txn_at xs n ≡ None → t ≡ begun
new-one xs n t e q =
    let p = unless-none (n == 0) (slice_get (xs ++ begun ∷ []) (n - 1)) t e in
    ⊎_elim (λ z. absurd (none-some t (sym q ∙ ap (λ b. if b then None else slice_get xs (n - 1)) p.0 ∙ z))) (λ z. z)
    (get-either xs begun (n - 1) t p.1)

pub later-begun : (time : ℕ) (xs : List Transaction) → Later time xs (xs ++ begun ∷ [])
later-begun time xs = record {
  onward = λ n t e. record { u = t; there = at-left xs n t e; follows = follows-same time t };
  back = λ n c u e f. let p = unless-none (n == 0) (slice_get (xs ++ begun ∷ []) (n - 1)) u e in
      ⊎_elim (λ q. inl (u, ap (λ b. if b then None else slice_get xs (n - 1)) p.0 ∙ q, f))
      (λ q. absurd (live-not u.stage c (ap (λ (w : Transaction). is_live w.stage) q) f)) (get-either xs begun (n - 1) u p.1);
}

-- ---- what was said stays said

kind-later : (t u : ℕ) (xs ys : List Transaction) (at : ℕ) (k : Kind) → t ≤ u → at ≤ t → Later t xs ys → KindSays t xs at k
    → KindSays u ys at k
kind-later t u xs ys at (kind.Write ops) l p g s = tt
kind-later t u xs ys at (kind.Intent sub n ops) l p g s =
    let next = g.onward n s.t s.there in
    record {
      t = next.u;
      there = next.there;
      before = λ c e. ⊎_elim (λ q. s.before c q) (λ q. omega arith) (next.follows.from c e);
    }
kind-later t u xs ys at (kind.Apply n c without) l p g s =
    let next = g.onward n s.t s.there in
    let both = next.follows.committed c s.commit in
    record { t = next.u; there = next.there; commit = both.0; undone = both.1 ∙ s.undone }
kind-later t u xs ys at (kind.Abort n) l p g s =
    let next = g.onward n s.t s.there in
    record { t = next.u; there = next.there; aborted = next.follows.aborted s.aborted }
kind-later t u xs ys at (kind.Safe v) l p g s = omega arith
kind-later t u xs ys at (kind.Split place left right) l p g s = tt

pub says-later : (t u : ℕ) (xs ys : List Transaction) → t ≤ u → Later t xs ys → (r : Record) → Says t xs r → Says u ys r
says-later t u xs ys l g r s = record {
  past = let p = s.past in omega arith;
  kind = kind-later t u xs ys r.time r.kind l s.past g s.kind;
}
