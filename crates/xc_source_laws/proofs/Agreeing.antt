-- What makes the logs of a source agree, kept by every move.
--     AgreesOf time txns bs      each record says what its transaction has, what waits on a path waits at the source, and there is no
--         straggler
use Rattle.std.proofs.Common.{◌≡◌, ℕ, ◌+◌, ◌-◌, ◌<◌, ◌≤◌, true, false, Bool, List, [], ◌∷◌, ◌++◌, Some}
use Rattle.std.proofs.Common.{None}
use Rattle.std.proofs.Common.{refl, ap, sym, ◌∙◌, subst, arith, ⊎_elim, ◌⊎◌}
use Rattle.std.specs.Prelude.{slice_set, ◌&&◌, filter, bytes_eq, nat_le}
use Rattle.std.specs.List.{list_any}
use Rattle.std.specs.Option.{option_map_or}
use Rattle.std.proofs.lemmas.Bool.{cases_Bool, cases_eq}
use Rattle.std.proofs.lemmas.Bool.Decides.{nat_tests}
use Rattle.std.proofs.lemmas.Option.{same_Some}
use Rattle.xc_record.specs.declared.record.Kind.{Kind}
use Rattle.xc_record.specs.declared.record.Kind.TheVariants as kind
use Rattle.xc_record.specs.declared.record.Record.{Record}
use Rattle.xc_record.specs.Hash.{holds, hash_of}
use Rattle.xc_record.specs.Order.{safe_value}
use Rattle.xc_record.specs.Agreement.{straggles_at}
use Rattle.xc_record.specs.Accepted.{AcceptedTablet}
use Rattle.xc_record.proofs.ListLaws.{Each, Each-append, Each-weaker, Each-filter}
use Rattle.xc_model.proofs.Along.{path_of, own}
use Rattle.xc_model.proofs.Flat.{each-flat}
use Rattle.xc_source.specs.declared.transaction.Stage.TheVariants.{Aborted}
use Rattle.xc_source.specs.Machine.{Machine, Transaction, is_live, commit_of}
use Rattle.xc_source_laws.proofs.Lists.{each-here, each-replaced}
use Rattle.xc_source_laws.proofs.Grow.{taken}
use Rattle.xc_source_laws.proofs.Books.{Books, Free, free-here}
use Rattle.xc_source_laws.proofs.Base.{IsMachine, grown_books}
use Rattle.xc_source_laws.proofs.Moves.{OpenAt}
use Rattle.xc_source_laws.proofs.Says.{txn_at, Says, KindSays, Later}
use Rattle.xc_source_laws.proofs.Says.{says-later, live-not, at-set-same, at-set-other}
use Rattle.xc_source_laws.proofs.Paths.{path-held, path-other, waits_in}
use Rattle.xc_source_laws.proofs.Paths.{passes, straggles-push, straggles-late}

-- a write of the key waits
abbrev pub flagged : List ℕ → Transaction → Bool
flagged k t = list_any (λ w. w.waits && bytes_eq k w.op.key) t.writes

-- the transaction is aborted, or has a write of the key that waits
pub record Waiter (ts : List Transaction) (n : ℕ) (k : List ℕ) : Type 0 where
  pub t : Transaction
  pub there : txn_at ts n ≡ Some t
  pub waits : (t.stage ≡ Aborted) ⊎ (flagged k t ≡ true)

abbrev pub key_path : List ℕ → List AcceptedTablet → List Record
key_path k bs = path_of (hash_of k) bs

pub record AgreesOf (time : ℕ) (ts : List Transaction) (bs : List AcceptedTablet) : Type 0 where
  pub says : Each (λ b. Each (Says time ts) b.records) bs
  pub waits : (k : List ℕ) (n : ℕ) → waits_in n k (key_path k bs) ≡ true → Waiter ts n k
  pub free : (k : List ℕ) (n c : ℕ) (t : Transaction) → txn_at ts n ≡ Some t → commit_of t.stage ≡ Some c
      → straggles_at n c k [] (key_path k bs) ≡ false

abbrev pub AgreesSo : Machine → List AcceptedTablet → Type 0
AgreesSo m bs = AgreesOf m.time m.txns bs

-- ---- transactions go on

path-says : (time : ℕ) (ts : List Transaction) (h : ℕ) (bs : List AcceptedTablet) → Each (λ b. Each (Says time ts) b.records) bs
    → Each (Says time ts) (path_of h bs)
path-says time ts h bs s =
    each-flat (Says time ts) (λ (b : AcceptedTablet). b.records) (λ b. Each (Says time ts) b.records) (λ b e. e) (filter (own h) bs)
    (Each-filter (λ b. Each (Says time ts) b.records) (own h) bs s)

kind-early : (time c at : ℕ) (ts : List Transaction) (k : Kind) → time < c → KindSays time ts at k
    → option_map_or (λ value. nat_le c value) (safe_value k) false ≡ false
kind-early time c at ts (kind.Write ops) l s = refl
kind-early time c at ts (kind.Intent sub n ops) l s = refl
kind-early time c at ts (kind.Apply n d without) l s = refl
kind-early time c at ts (kind.Abort n) l s = refl
kind-early time c at ts (kind.Safe v) l s = let a : v ≤ time = s in grind (arith, nat_tests)
kind-early time c at ts (kind.Split place left right) l s = refl

-- a commit in the future straggles nowhere
future-free : (time n c : ℕ) (ts : List Transaction) (k : List ℕ) (bs : List AcceptedTablet) → time < c
    → Each (λ b. Each (Says time ts) b.records) bs → straggles_at n c k [] (key_path k bs) ≡ false
future-free time n c ts k bs l s =
    straggles-late n c k [] (key_path k bs)
    (Each-weaker (Says time ts) (λ r. passes c r ≡ false) (λ r q. kind-early time c r.time ts r.kind l q.kind) (key_path k bs)
    (path-says time ts (hash_of k) bs s))

still-free : (t : ℕ) (xs ys : List Transaction) (bs : List AcceptedTablet) → AgreesOf t xs bs → Later t xs ys → (k : List ℕ) (n c : ℕ)
    (u : Transaction) → txn_at ys n ≡ Some u → commit_of u.stage ≡ Some c → straggles_at n c k [] (key_path k bs) ≡ false
still-free t xs ys bs a g k n c u e f =
    ⊎_elim (λ q. a.free k n c q.0 q.1 q.2) (λ l. future-free t n c xs k bs l a.says) (g.back n c u e f)

says-on : (t u : ℕ) (xs ys : List Transaction) (bs : List AcceptedTablet) → t ≤ u → Later t xs ys
    → Each (λ b. Each (Says t xs) b.records) bs
    → Each (λ b. Each (Says u ys) b.records) bs
says-on t u xs ys bs l g s =
    Each-weaker (λ b. Each (Says t xs) b.records) (λ b. Each (Says u ys) b.records)
    (λ b q. Each-weaker (Says t xs) (Says u ys) (says-later t u xs ys l g) b.records q) bs s

pub agree-on : (t u : ℕ) (xs ys : List Transaction) (bs : List AcceptedTablet) → t ≤ u → Later t xs ys
    → ((k : List ℕ) (n : ℕ) → Waiter xs n k → Waiter ys n k) → AgreesOf t xs bs → AgreesOf u ys bs
agree-on t u xs ys bs l g w a = record {
  says = says-on t u xs ys bs l g a.says;
  waits = λ k n e. w k n (a.waits k n e);
  free = still-free t xs ys bs a g;
}

-- ---- a record more

-- what a record more must leave true of a key's path that it joins
pub record Joins (t : ℕ) (ys : List Transaction) (b : AcceptedTablet) (r : Record) (bs : List AcceptedTablet) : Type 0 where
  pub says : Says (t + 1) ys r
  pub waits : (k : List ℕ) (n : ℕ) → holds b.header (hash_of k) ≡ true → waits_in n k (key_path k bs ++ r ∷ []) ≡ true → Waiter ys n k
  pub others : (k : List ℕ) (n : ℕ) → holds b.header (hash_of k) ≡ false → waits_in n k (key_path k bs) ≡ true → Waiter ys n k
  pub passing : (k : List ℕ) (n c : ℕ) (u : Transaction) → holds b.header (hash_of k) ≡ true → txn_at ys n ≡ Some u
      → commit_of u.stage ≡ Some c → (passes c r && waits_in n k (key_path k bs)) ≡ false

agree-seam : (t : ℕ) (xs ys : List Transaction) (before : List AcceptedTablet) (b : AcceptedTablet) (after : List AcceptedTablet)
    (r : Record)
    → Each (Free b) after → Later t xs ys → Joins t ys b r (before ++ b ∷ after) → AgreesOf t xs (before ++ b ∷ after)
    → AgreesOf (t + 1) ys (before ++ taken b r ∷ after)
agree-seam t xs ys before b after r f g j a =
    let old = says-on t (t + 1) xs ys (before ++ b ∷ after) (let z : t ≤ t + 1 = omega arith in z) g a.says in
    record {
      says = each-replaced (λ b. Each (Says (t + 1) ys) b.records) before b (taken b r) after
          (Each-append (Says (t + 1) ys) b.records (r ∷ []) (each-here (λ b. Each (Says (t + 1) ys) b.records) before b after old)
          (j.says, tt)) old;
      waits = λ k n e. ⊎_elim
          (λ h. j.waits k n h (subst (λ w. waits_in n k w ≡ true) (path-held (hash_of k) before b after r h f) e))
          (λ h. j.others k n h (subst (λ w. waits_in n k w ≡ true) (path-other (hash_of k) before b after r h) e))
          (cases_Bool (holds b.header (hash_of k)));
      free = λ k n c u e q. ⊎_elim
          (λ h. subst (λ w. straggles_at n c k [] w ≡ false) (sym (path-held (hash_of k) before b after r h f))
          (straggles-push n c k [] (key_path k (before ++ b ∷ after)) r (still-free t xs ys (before ++ b ∷ after) a g k n c u e q)
          (j.passing k n c u h e q)))
          (λ h. subst (λ w. straggles_at n c k [] w ≡ false) (sym (path-other (hash_of k) before b after r h))
          (still-free t xs ys (before ++ b ∷ after) a g k n c u e q))
          (cases_Bool (holds b.header (hash_of k)));
    }

pub agree-logged : (m u : Machine) (bs : List AcceptedTablet) (id : ℕ) (b : AcceptedTablet) (o : OpenAt bs id b) (r : Record)
    → IsMachine m bs
    → Later m.time m.txns u.txns → Joins m.time u.txns b r bs → AgreesSo m bs → AgreesOf (m.time + 1) u.txns (grown_books o.seam r)
agree-logged m u bs id b o r k g j a =
    let same = o.seam.whole in
    let free = free-here o.seam.before b o.seam.after (subst (Books m.time) same k.books).free o.opened in
    agree-seam m.time m.txns u.txns o.seam.before b o.seam.after r free g (subst (Joins m.time u.txns b r) same j)
    (subst (AgreesOf m.time m.txns) same a)

-- ---- what a move must show of a record that neither takes nor passes

pub quiet : (c : ℕ) (r : Record) (b : Bool) → safe_value r.kind ≡ None → (passes c r && b) ≡ false
quiet c r b e = ap (λ o. option_map_or (λ value. nat_le c value) o false && b) e

pub live-early : (time c : ℕ) (t : Transaction) → is_live t.stage ≡ true → commit_of t.stage ≡ Some c → time < c
live-early time c t l e = absurd (live-not t.stage c l e)

-- a waiter by another list of the same transaction
pub waiter-set : (xs : List Transaction) (n : ℕ) (t u : Transaction) (k : List ℕ) (i : ℕ) → txn_at xs n ≡ Some t
    → ((t.stage ≡ Aborted) ⊎ (flagged k t ≡ true) → n ≡ i → (u.stage ≡ Aborted) ⊎ (flagged k u ≡ true)) → Waiter xs i k
    → Waiter (slice_set xs (n - 1) u) i k
waiter-set xs n t u k i e f w =
    ⊎_elim
    (λ s. let same : t ≡ w.t = same_Some t w.t (sym e ∙ ap (txn_at xs) s ∙ w.there) in
    record {
      t = u;
      there = subst (λ j. txn_at (slice_set xs (n - 1) u) j ≡ Some u) s (at-set-same xs n t u e);
      waits = f (subst (λ (x : Transaction). (x.stage ≡ Aborted) ⊎ (flagged k x ≡ true)) (sym same) w.waits) s;
    })
    (λ d. record { t = w.t; there = at-set-other xs n i t u e d ∙ w.there; waits = w.waits }) (cases_eq n i)

-- as long as a transaction waits on, so does the list
pub waiter-more : (xs : List Transaction) (n : ℕ) (t u : Transaction) (k : List ℕ) (i : ℕ) → txn_at xs n ≡ Some t
    → ((t.stage ≡ Aborted) ⊎ (flagged k t ≡ true) → (u.stage ≡ Aborted) ⊎ (flagged k u ≡ true)) → Waiter xs i k
    → Waiter (slice_set xs (n - 1) u) i k
waiter-more xs n t u k i e f w = waiter-set xs n t u k i e (λ q s. f q) w
