-- Open tablets, and transactions that were begun, as a machine has them.
use Rattle.std.proofs.Common.{◌≡◌, ◌≢◌, ℕ, zero, suc, ◌+◌, ◌-◌, ◌≤◌, true, false, Bool, List, [], ◌∷◌, map, Option, Some, None}
use Rattle.std.proofs.Common.{refl, ap, sym, ◌∙◌, subst, arith, inl, inr, ⊎_elim, ◌⊎◌}
use Rattle.std.specs.Prelude.{not, slice_get, slice_set, if◌then◌else◌, ◌&&◌, ◌==◌, is_none, filter, option_map}
use Rattle.std.specs.List.{enumerate_from, position_or_len}
use Rattle.std.specs.Option.{option_map_or}
use Rattle.std.proofs.lemmas.Bool.{and_parts, cases_eq}
use Rattle.std.proofs.lemmas.Bool.Decides.{nat_tests}
use Rattle.std.proofs.lemmas.Option.{slice_get-map, same_Some}
use Rattle.xc_record.specs.declared.record.Record.{Record}
use Rattle.xc_record.specs.declared.record.Tablet.{Tablet}
use Rattle.xc_record.specs.Hash.{holds, hash_of}
use Rattle.xc_record.specs.Lists.{or_else}
use Rattle.xc_record.specs.Order.{is_split}
use Rattle.xc_record.specs.Accepted.{AcceptedTablet}
use Rattle.xc_record.proofs.ListLaws.{Each}
use Rattle.xc_model.proofs.StableSort.{Exists}
use Rattle.xc_model.proofs.FromRules.{hash-below}
use Rattle.xc_source.specs.declared.fail.SourceFail.{SourceFail}
use Rattle.xc_source.specs.Machine.{Machine, Transaction, transaction, with_transaction, is_open, open_tablet, is_live}
use Rattle.xc_source.specs.Calls.{first_of, when, unknown, ended, not_open, tablet_of as open_number}
use Rattle.xc_source_laws.proofs.Lists.{Seam, seam, get-seam}
use Rattle.xc_source_laws.proofs.Grow.{tablet_of, taken, other-get}
use Rattle.xc_source_laws.proofs.Books.{opens, opens-taken, HoldsOpen}
use Rattle.xc_source_laws.proofs.Base.{IsMachine, grown_books, unless-none}
use Rattle.xc_source_laws.proofs.Moves.{IsLive, OpenAt}

-- ---- refusals that don't stand

pub none-or : {A : Type 0} (a b : Option A) → or_else a b ≡ None → (a ≡ None) × (b ≡ None)
none-or None b e = (refl, e)
none-or (Some x) b e = cc

-- no refusal of the list stands
abbrev pub AllNone : List (Option SourceFail) → Type 0
AllNone [] = Unit {0}
AllNone (r ∷ rs) = (r ≡ None) × AllNone rs

pub all-none : (rs : List (Option SourceFail)) → first_of rs ≡ None → AllNone rs
all-none [] e = tt
all-none (r ∷ rs) e = let p = none-or r (first_of rs) e in (p.0, all-none rs p.1)

pub not-when : (b : Bool) (f : SourceFail) → when b f ≡ None → b ≡ false
not-when true f e = cc
not-when false f e = refl

some-of : {A : Type 0} (o : Option A) → is_none o ≡ false → (x : A) × (o ≡ Some x)
some-of None e = cc
some-of (Some x) e = (x, refl)

not-not : (b : Bool) → not b ≡ false → b ≡ true
not-not true e = refl
not-not false e = cc

-- a transaction that is not unknown
pub known-txn : (m : Machine) (n : ℕ) → unknown m n ≡ None → (t : Transaction) × (transaction m n ≡ Some t)
known-txn m n u = some-of (transaction m n) (not-when _ _ u)

pub live-txn-at : (m : Machine) (n : ℕ) → unknown m n ≡ None → ended m n ≡ None → (t : Transaction) × IsLive m n t
live-txn-at m n u e =
    let known = known-txn m n u in (
      known.0,
      record {
        there = known.1;
        live = not-not (is_live known.0.stage) (subst (λ o. not (option_map_or (λ (t : Transaction). is_live t.stage) o false) ≡ false)
            known.1 (not-when _ _ e));
      },
    )

-- ---- open tablets

-- an open tablet of the machine
pub record OpenBook (m : Machine) (bs : List AcceptedTablet) (id : ℕ) : Type 0 where
  pub book : AcceptedTablet
  pub at : slice_get bs id ≡ Some book
  pub opened : opens book ≡ true

abbrev pub open-at : (m : Machine) (bs : List AcceptedTablet) (id : ℕ) (o : OpenBook m bs id) → OpenAt bs id o.book
open-at m bs id o = record { seam = seam bs id o.book o.at; opened = o.opened }

pub tablet-at : (m : Machine) (bs : List AcceptedTablet) (id : ℕ) (b : AcceptedTablet) → IsMachine m bs → slice_get bs id ≡ Some b
    → slice_get m.tablets id ≡ Some (tablet_of b)
tablet-at m bs id b k e = ap (λ ts. slice_get ts id) k.shape ∙ slice_get-map tablet_of bs id ∙ ap (option_map tablet_of) e

-- a tablet of the machine is one of the books
pub book-of : (m : Machine) (bs : List AcceptedTablet) (id : ℕ) (t : Tablet) → IsMachine m bs → slice_get m.tablets id ≡ Some t
    → (b : AcceptedTablet) × (slice_get bs id ≡ Some b) × (tablet_of b ≡ t)
book-of m bs id t k e = go (slice_get bs id) refl (sym (slice_get-map tablet_of bs id) ∙ sym (ap (λ ts. slice_get ts id) k.shape) ∙ e)
  where
    go : (o : Option AcceptedTablet) → slice_get bs id ≡ o → option_map tablet_of o ≡ Some t
        → (b : AcceptedTablet) × (slice_get bs id ≡ Some b) × (tablet_of b ≡ t)
    go None q w = cc
    go (Some b) q w = (b, q, same_Some (tablet_of b) t w)

pub open-of : (m : Machine) (bs : List AcceptedTablet) (id : ℕ) (t : Tablet) → IsMachine m bs → slice_get m.tablets id ≡ Some t
    → is_open t ≡ true → OpenBook m bs id
open-of m bs id t k e o =
    let found = book-of m bs id t k e in record { book = found.0; at = found.1; opened = ap is_open found.2 ∙ o }

pub open-book : (m : Machine) (bs : List AcceptedTablet) (id : ℕ) → IsMachine m bs → not_open m id ≡ None → OpenBook m bs id
open-book m bs id k n = go (slice_get m.tablets id) refl (some-of (open_tablet m id) (not-when _ _ n))
  where
    go : (o : Option Tablet) → slice_get m.tablets id ≡ o
        → (t : Tablet) × (option_map_or (λ (t : Tablet). if is_open t then Some t else None) o None ≡ Some t) → OpenBook m bs id
    go None e p = let q = p.1 in cc
    go (Some t) e p = by (is_open t) refl p.1
      where
        by : (b : Bool) → is_open t ≡ b → (if b then Some t else None) ≡ Some p.0 → OpenBook m bs id
        by true w q = open-of m bs id t k e w
        by false w q = cc

-- it stays open after a record that is no split
pub still-open : (m u : Machine) (bs : List AcceptedTablet) (id : ℕ) (b : AcceptedTablet) (s : Seam bs id b) (r : Record) (i : ℕ)
    → is_split r.kind ≡ false → OpenBook m bs i
    → (o : OpenBook u (grown_books s r) i) × ((o.book ≡ taken b r) × (i ≡ id) ⊎ (slice_get bs i ≡ Some o.book))
still-open m u bs id b s r i n o = ⊎_elim same other (cases_eq i id)
  where
    same : i ≡ id → (o : OpenBook u (grown_books s r) i) × ((o.book ≡ taken b r) × (i ≡ id) ⊎ (slice_get bs i ≡ Some o.book))
    same e = (
      record {
        book = taken b r;
        at = get-seam s.before (taken b r) s.after i (s.number ∙ sym e);
        opened = opens-taken b r ∙ ap not n;
      },
      inl (refl, e),
    )

    other : i ≢ id → (o : OpenBook u (grown_books s r) i) × ((o.book ≡ taken b r) × (i ≡ id) ⊎ (slice_get bs i ≡ Some o.book))
    other e = (
      record {
        book = o.book;
        at = sym (other-get s.before b (taken b r) s.after i (λ q. e (q ∙ s.number)))
            ∙ subst (λ w. slice_get w i ≡ Some o.book) s.whole o.at;
        opened = o.opened;
      },
      inr o.at,
    )

-- the open tablet that holds a hash
pub record FoundOpen (h : ℕ) (bs : List AcceptedTablet) (i : ℕ) : Type 0 where
  pub book : AcceptedTablet
  pub at : slice_get bs i ≡ Some book
  pub opened : opens book ≡ true
  pub held : holds book.header h ≡ true

abbrev holds_open : ℕ → Tablet → Bool
holds_open h t = is_open t && holds t.header h

found-open : (h : ℕ) (bs : List AcceptedTablet) → Exists (HoldsOpen h) bs
    → FoundOpen h bs (position_or_len (holds_open h) (map tablet_of bs))
found-open h [] i = absurd i
found-open h (b ∷ bs) i =
    elim (holds_open h (tablet_of b)) as
    (λ c. holds_open h (tablet_of b) ≡ c → FoundOpen h (b ∷ bs)
    (if not c then (1 + position_or_len (holds_open h) (map tablet_of bs)) else 0)) [
      | true ↦ λ e. let p = and_parts _ _ e in record { book = b; at = refl; opened = p.0; held = p.1 }
      | false ↦ λ e. ⊎_elim (λ p. absurd (never (is_open (tablet_of b)) (holds b.header h) p.0 p.1 e)) (λ r. more (found-open h bs r)) i
    ] refl
  where
    never : (p q : Bool) → p ≡ true → q ≡ true → (p && q) ≡ false → ⊥
    never p q e f g = grind (arith, e, f, g)

    more : FoundOpen h bs (position_or_len (holds_open h) (map tablet_of bs))
        → FoundOpen h (b ∷ bs) (1 + position_or_len (holds_open h) (map tablet_of bs))
    more f = record {
      book = f.book;
      at = subst (λ n. slice_get (b ∷ bs) n ≡ Some f.book) (let z : suc (position_or_len (holds_open h) (map tablet_of bs))
          ≡ 1 + position_or_len (holds_open h) (map tablet_of bs) = omega arith in z) f.at;
      opened = f.opened;
      held = f.held;
    }

pub open-for : (m : Machine) (bs : List AcceptedTablet) (key : List ℕ) → IsMachine m bs → FoundOpen (hash_of key) bs (open_number m key)
open-for m bs key k =
    subst (λ ts. FoundOpen (hash_of key) bs (position_or_len (holds_open (hash_of key)) ts)) (sym k.shape)
    (found-open (hash_of key) bs (k.books.covers (hash_of key) (hash-below key)))

-- ---- transactions

pub get-set-same : {A : Type 0} (xs : List A) (i : ℕ) (x y : A) → slice_get xs i ≡ Some x → slice_get (slice_set xs i y) i ≡ Some y
get-set-same [] i x y e = cc
get-set-same (z ∷ xs) zero x y e = refl
get-set-same (z ∷ xs) (suc i) x y e = get-set-same xs i x y e

pub get-set-other : {A : Type 0} (xs : List A) (i j : ℕ) (y : A) → i ≢ j → slice_get (slice_set xs i y) j ≡ slice_get xs j
get-set-other [] i j y n = refl
get-set-other (z ∷ xs) zero zero y n = absurd (n refl)
get-set-other (z ∷ xs) zero (suc j) y n = refl
get-set-other (z ∷ xs) (suc i) zero y n = refl
get-set-other (z ∷ xs) (suc i) (suc j) y n = get-set-other xs i j y (λ e. n (ap suc e))

pub transaction-set : (m : Machine) (n : ℕ) (t u : Transaction) → transaction m n ≡ Some t → transaction (with_transaction n u m) n ≡ Some u
transaction-set m n t u e =
    let p = unless-none (n == 0) (slice_get m.txns (n - 1)) t e in
    ap (λ b. if b then None else slice_get (slice_set m.txns (n - 1) u) (n - 1)) p.0 ∙ get-set-same m.txns (n - 1) t u p.1

pub transaction-other : (m : Machine) (n i : ℕ) (t u : Transaction) → 1 ≤ n → n ≢ i → transaction m i ≡ Some t
    → transaction (with_transaction n u m) i ≡ Some t
transaction-other m n i t u one d e =
    let p = unless-none (i == 0) (slice_get m.txns (i - 1)) t e in
    let z : (i == 0) ≡ false = p.0 in
    let big : 1 ≤ i = grind (arith, nat_tests, z) in
    ap (λ b. if b then None else slice_get (slice_set m.txns (n - 1) u) (i - 1)) p.0
    ∙ get-set-other m.txns (n - 1) (i - 1) u (λ q. d (let w : n ≡ i = omega arith in w)) ∙ p.1

-- ---- lists with places

pub enumerated : {A : Type 0} (P : ℕ × A → Type 0) (n : ℕ) (xs : List A) → ((i : ℕ) (x : A) → slice_get xs i ≡ Some x → P (n + i, x))
    → Each P (enumerate_from n xs)
enumerated P n [] f = tt
enumerated P n (x ∷ xs) f = (
  subst (λ w. P (w, x)) (let z : n + 0 ≡ n = omega arith in z) (f 0 x refl),
  enumerated P (n + 1) xs (λ i y e. subst (λ w. P (w, y)) (let z : n + suc i ≡ n + 1 + i = omega arith in z) (f (suc i) y e)),
)

pub each-map : {A B : Type 0} (P : B → Type 0) (Q : A → Type 0) (f : A → B) → ((x : A) → Q x → P (f x)) → (xs : List A) → Each Q xs
    → Each P (map f xs)
each-map P Q f g [] h = tt
each-map P Q f g (x ∷ xs) h = (g x h.0, each-map P Q f g xs h.1)

pub each-kept : {A : Type 0} (P : A → Type 0) (p : A → Bool) (xs : List A) → Each P xs → Each (λ x. P x × (p x ≡ true)) (filter p xs)
each-kept P p [] h = tt
each-kept P p (x ∷ xs) h =
    elim (p x) as (λ b. p x ≡ b → Each (λ x. P x × (p x ≡ true)) (if b then (x ∷ filter p xs) else filter p xs)) [
      | true ↦ λ e. ((h.0, e), each-kept P p xs h.1)
      | false ↦ λ e. each-kept P p xs h.1
    ] refl
