-- When all that is pending is applied, no write of a committed transaction waits any more.
use Rattle.std.proofs.Common.{◌≡◌, ℕ, zero, suc, ◌+◌, ◌-◌, ◌≤◌, true, false, Bool, List, [], ◌∷◌, Some, None}
use Rattle.std.proofs.Common.{refl, ap, sym, ◌∙◌, subst, arith, inl, inr, ⊎_elim}
use Rattle.std.specs.Prelude.{slice_get, if◌then◌else◌, ◌||◌, ◌==◌, is_some, filter}
use Rattle.std.specs.List.{enumerate_from, list_any}
use Rattle.std.proofs.lemmas.Bool.{cases_eq, cases_Bool, and_from, true≢false}
use Rattle.std.proofs.lemmas.Bool.Decides.{nat_tests}
use Rattle.xc_record.specs.declared.record.Header.{Header}
use Rattle.xc_record.specs.declared.record.Kind.TheVariants as kind
use Rattle.xc_record.specs.declared.record.Record.{Record}
use Rattle.xc_record.specs.declared.record.Tablet.{Tablet}
use Rattle.xc_record.specs.Hash.{holds, hash_of}
use Rattle.xc_record.specs.Accepted.{AcceptedTablet}
use Rattle.xc_record.proofs.ListLaws.{Each, Each-weaker}
use Rattle.xc_model.proofs.StableSort.{Exists}
use Rattle.xc_model.proofs.Elements.{exists-filter, exists-map}
use Rattle.xc_source.specs.declared.commit.Commit.{Commit}
use Rattle.xc_source.specs.declared.transaction.Provisional.{Provisional}
use Rattle.xc_source.specs.Machine.{Machine, Transaction, with_transaction, is_open, commit_of}
use Rattle.xc_source.specs.Waiting.{is_waiting, open_tablets, pending, taken as taken_on}
use Rattle.xc_source.specs.Calls.{logged, applied_pairs, all_applied, tablet_of as open_number}
use Rattle.xc_source.proofs.FinishLaws.{none-waits}
use Rattle.xc_source_laws.proofs.Grow.{tablet_of, taken, other-get}
use Rattle.xc_source_laws.proofs.Books.{opens}
use Rattle.xc_source_laws.proofs.Base.{IsMachine, next_record, grown_books}
use Rattle.xc_source_laws.proofs.Moves.{OpenAt}
use Rattle.xc_source_laws.proofs.Keeps.{Kept}
use Rattle.xc_source_laws.proofs.Opened.{OpenBook, open-at, open-for, tablet-at}
use Rattle.xc_source_laws.proofs.Says.{txn_at}
use Rattle.xc_source_laws.proofs.Steps.{unit-closed, IsReady, apply-at, ready-is, ready-still, pending-ready, open-numbers, all-open-still}

abbrev pub AnyKept : Machine → Type 0
AnyKept m = Kept (λ _ _. Unit {0}) m

abbrev pub Among : {A : Type 0} → A → List A → Type 0
Among x xs = Exists (λ y. y ≡ x) xs

-- ---- all applies

enum-has : {A : Type 0} (n : ℕ) (xs : List A) (i : ℕ) (x : A) → slice_get xs i ≡ Some x → Among (n + i, x) (enumerate_from n xs)
enum-has n [] i x e = cc
enum-has {A} n (y ∷ xs) zero x e =
    let q : y ≡ x = cc in
    let z : n ≡ n + 0 = omega arith in
    inl (ap (λ w. (n, w)) q ∙ ap (λ k. (k, x)) z)
enum-has {A} n (y ∷ xs) (suc i) x e =
    inr (subst (λ k. Among {A = ℕ × A} (k, x) (enumerate_from (n + 1) xs)) (let z : n + 1 + i ≡ n + suc i = omega arith in z)
    (enum-has (n + 1) xs i x e))

-- an open tablet is one of these
abbrev pub AllOpen : List ℕ → List AcceptedTablet → Type 0
AllOpen ids bs = (i : ℕ) (b : AcceptedTablet) → slice_get bs i ≡ Some b → opens b ≡ true → Among i ids

-- while these pairs are left to be applied
pub record Applying (from : ℕ) (cs : List Commit) (ids : List ℕ) (ps : List (ℕ × ℕ)) (m : Machine) : Type 0 where
  pub kept : AnyKept m
  pub ready : Each (IsReady m kept.books) ps
  pub opened : Each (OpenBook m kept.books) ids
  pub all : AllOpen ids kept.books
  pub time : from ≤ m.time
  pub commits : m.commits ≡ cs

all-open-after : (ids : List ℕ) (bs : List AcceptedTablet) (id : ℕ) (b : AcceptedTablet) (o : OpenAt bs id b) (r : Record)
    → slice_get bs id ≡ Some b → AllOpen ids bs → AllOpen ids (grown_books o.seam r)
all-open-after ids bs id b o r at all i x e w =
    ⊎_elim (λ s. subst (λ j. Among j ids) (sym s) (all id b at o.opened))
    (λ d. all i x (subst (λ (cs : List AcceptedTablet). slice_get cs i ≡ Some x) (sym o.seam.whole)
    (other-get o.seam.before b (taken b r) o.seam.after i (λ q. d (q ∙ o.seam.number)) ∙ e)) w)
    (cases_eq i id)

pub applying-all : (from : ℕ) (cs : List Commit) (ids : List ℕ) (ps : List (ℕ × ℕ)) (m : Machine) → Applying from cs ids ps m
    → Applying from cs ids [] (applied_pairs ps m)
applying-all from cs ids [] m a = a
applying-all from cs ids (p ∷ ps) m a =
    let k = a.kept in
    let r = a.ready.0 in
    let at = open-at m k.books p.1 (record { book = r.book; at = r.at; opened = r.opened }) in
    let rec = next_record m (kind.Apply p.0 r.c r.t.undone) in
    let u = logged p.1 rec.kind (with_transaction p.0 (taken_on r.book.header r.t) m) in
    subst (λ w. Applying from cs ids [] (applied_pairs ps w)) (ready-is m k.books p.0 p.1 k.base r)
    (applying-all from cs ids ps u (record {
      kept = apply-at (λ _ _. Unit {0}) unit-closed m p.0 p.1 k r;
      ready = Each-weaker (IsReady m k.books) (IsReady u (grown_books at.seam rec))
          (λ q w. ready-still m k.books p.0 p.1 k.base r q w) ps a.ready.1;
      opened = all-open-still m u k.books p.1 r.book at rec refl ids a.opened;
      all = all-open-after ids k.books p.1 r.book at rec r.at a.all;
      time = let z = a.time in let y : u.time ≡ m.time + 1 = refl in omega arith;
      commits = a.commits;
    }))

-- ---- nothing waits

abbrev pub Rests : Transaction → Type 0
Rests t = (c : ℕ) → commit_of t.stage ≡ Some c → list_any (λ w. w.waits) t.writes ≡ false

-- a write that waits, and with it its transaction on each tablet that holds its hash
first-waiting : (ws : List Provisional) → list_any (λ w. w.waits) ws ≡ true
    → (v : Provisional) × ((g : Header) → holds g (hash_of v.op.key) ≡ true → list_any (is_waiting g) ws ≡ true)
first-waiting [] e = cc
first-waiting (w ∷ ws) e = go w.waits refl e (λ z. first-waiting ws z)
  where
    go : (b : Bool) → w.waits ≡ b → (b || list_any (λ w. w.waits) ws) ≡ true
        → (list_any (λ w. w.waits) ws ≡ true
        → (v : Provisional) × ((g : Header) → holds g (hash_of v.op.key) ≡ true → list_any (is_waiting g) ws ≡ true))
        → (v : Provisional) × ((g : Header) → holds g (hash_of v.op.key) ≡ true → list_any (is_waiting g) (w ∷ ws) ≡ true)
    go true q z more = (w, (λ g o. ap (λ b. b || list_any (is_waiting g) ws) (and_from w.waits (holds g (hash_of w.op.key)) q o)))
    go false q z more =
        let rest = more z in
        (rest.0, (λ g o. or-true (is_waiting g w) (list_any (is_waiting g) ws) (rest.1 g o)))
      where
        or-true : (a b : Bool) → b ≡ true → (a || b) ≡ true
        or-true true b e = refl
        or-true false b e = e

each-index : {A : Type 0} (P : A → Type 0) (xs : List A) → ((i : ℕ) (x : A) → slice_get xs i ≡ Some x → P x) → Each P xs
each-index P [] f = tt
each-index P (x ∷ xs) f = (f 0 x refl, each-index P xs (λ i y e. f (suc i) y e))

rests-at : (m : Machine) (bs : List AcceptedTablet) → IsMachine m bs → (n : ℕ) (t : Transaction)
    → txn_at (all_applied m).txns n ≡ Some t → Rests t
rests-at m bs k n t e c commit =
    ⊎_elim (λ waits. absurd (
    let w = first-waiting t.writes waits in
    let id = open_number m w.0.op.key in
    let found = open-for m bs w.0.op.key k in
    true≢false (sym (w.1 found.book.header found.held)
    ∙ none-waits m id n (tablet_of found.book) t (tablet-at m bs id found.book k found.at) found.opened e (ap is_some commit))))
    (λ none. none) (cases_Bool (list_any (λ w. w.waits) t.writes))

pub all-rest : (m : Machine) → AnyKept m → Each Rests (all_applied m).txns
all-rest m k = each-index Rests (all_applied m).txns (λ i t e. rests-at m k.books k.base (1 + i) t (numbered i t e))
  where
    numbered : (i : ℕ) (t : Transaction) → slice_get (all_applied m).txns i ≡ Some t → txn_at (all_applied m).txns (1 + i) ≡ Some t
    numbered i t e =
        let z : (1 + i == 0) ≡ false = grind (arith, nat_tests) in
        let y : 1 + i - 1 ≡ i = omega arith in
        ap (λ b. if b then None else slice_get (all_applied m).txns (1 + i - 1)) z ∙ ap (λ w. slice_get (all_applied m).txns w) y ∙ e

-- an open tablet of the machine is one of its open tablets
open-listed : (m : Machine) (bs : List AcceptedTablet) → IsMachine m bs → AllOpen (open_tablets m) bs
open-listed m bs k i b at o =
    exists-map (λ (p : ℕ × Tablet). p.0) (filter (λ p. is_open p.1) (enumerate_from 0 m.tablets)) (i, tablet_of b)
    (exists-filter (λ p. p ≡ (i, tablet_of b)) (λ p. p ≡ (i, tablet_of b)) (λ p. is_open p.1)
    (λ p e. (ap (λ (q : ℕ × Tablet). is_open q.1) e ∙ o, e)) (enumerate_from 0 m.tablets)
    (subst (λ k. Among {A = ℕ × Tablet} (k, tablet_of b) (enumerate_from 0 m.tablets)) (let z : 0 + i ≡ i = omega arith in z)
    (enum-has 0 m.tablets i (tablet_of b) (tablet-at m bs i b k at))))

pub applying-pending : (m : Machine) → AnyKept m → Applying m.time m.commits (open_tablets m) [] (all_applied m)
applying-pending m k = applying-all m.time m.commits (open_tablets m) (pending m) m (record {
  kept = k;
  ready = pending-ready m k.books k.base;
  opened = open-numbers m k.books k.base;
  all = open-listed m k.books k.base;
  time = omega arith;
  commits = refl;
})
