-- The parts of a list, of which each element is in exactly one: sorted they are the list again.
use Rattle.std.proofs.Common.{◌≡◌, Bool, true, false, cond, List, [], ◌∷◌, ◌++◌, refl, ap, sym, ◌∙◌, subst, append_assoc, inl, inr}
use Rattle.std.specs.Prelude.{filter}
use Rattle.std.specs.declared.cmp.Ordering.{Ordering}
use Rattle.std.specs.declared.cmp.Ordering.TheVariants.{Less, Equal, Greater}
use Rattle.std.specs.Ordering.{is_lt, is_gt, ordering_reverse}
use Rattle.std.specs.Cmp.{IsTotalOrder, IsStrictWeakOrder}
use Rattle.std.specs.List.Sorted.{IsPermutation, IsSortedBy}
use Rattle.std.proofs.lemmas.List.Sorted.{IsPermutation-refl, IsPermutation-trans, IsPermutation-cons, IsPermutation-middle}
use Rattle.xc_record.specs.Lists.{insert_by, sort_by}
use Rattle.xc_record.specs.Sharing.{Ascends, PassesOne, parts}
use Rattle.xc_record.proofs.ListLaws.{Each, Each-append, Each-filter}
use Rattle.xc_record.proofs.UniqueLaws.{sorted-unique}

-- ---- the parts of one element more

-- the element among the parts, and the parts without it
record Among {T X : Type 0} (f : T → X → Bool) (ts : List T) (x : X) (xs : List X) : Type 0 where
  before : List X
  after : List X
  more : parts f ts (x ∷ xs) ≡ before ++ x ∷ after
  rest : parts f ts xs ≡ before ++ after

in-none : {T X : Type 0} (f : T → X → Bool) (ts : List T) (x : X) (xs : List X) → Each (λ t. f t x ≡ false) ts
    → parts f ts (x ∷ xs) ≡ parts f ts xs
in-none f [] x xs h = refl
in-none f (t ∷ ts) x xs h =
    ap (λ b. cond b (x ∷ filter (f t) xs) (filter (f t) xs) ++ parts f ts (x ∷ xs)) h.0
    ∙ ap (λ w. filter (f t) xs ++ w) (in-none f ts x xs h.1)

among : {T X : Type 0} (f : T → X → Bool) (ts : List T) (x : X) (xs : List X) → PassesOne f ts x → Among f ts x xs
among f [] x xs h = absurd h
among f (t ∷ ts) x xs (inl h) = record {
  before = [];
  after = filter (f t) xs ++ parts f ts xs;
  more = ap (λ b. cond b (x ∷ filter (f t) xs) (filter (f t) xs) ++ parts f ts (x ∷ xs)) h.0
      ∙ ap (λ w. x ∷ (filter (f t) xs ++ w)) (in-none f ts x xs h.1);
  rest = refl;
}
among f (t ∷ ts) x xs (inr h) =
    let a = among f ts x xs h.1 in
    record {
      before = filter (f t) xs ++ a.before;
      after = a.after;
      more = ap (λ b. cond b (x ∷ filter (f t) xs) (filter (f t) xs) ++ parts f ts (x ∷ xs)) h.0 ∙ ap (λ w. filter (f t) xs ++ w) a.more
          ∙ sym (append_assoc (filter (f t) xs) a.before (x ∷ a.after));
      rest = ap (λ w. filter (f t) xs ++ w) a.rest ∙ sym (append_assoc (filter (f t) xs) a.before a.after);
    }

each-part : {T X : Type 0} (P : X → Type 0) (f : T → X → Bool) (ts : List T) (xs : List X) → Each P xs → Each P (parts f ts xs)
each-part P f [] xs h = tt
each-part P f (t ∷ ts) xs h = Each-append P (filter (f t) xs) (parts f ts xs) (Each-filter P (f t) xs h) (each-part P f ts xs h)

none-part : {T X : Type 0} (f : T → X → Bool) (ts : List T) → parts f ts [] ≡ []
none-part f [] = refl
none-part f (t ∷ ts) = none-part f ts

-- ---- sorted by insertion

each-insert : {X : Type 0} (P : X → Type 0) (cmp : X → X → Ordering) (x : X) (xs : List X) → P x → Each P xs → Each P (insert_by cmp x xs)
each-insert P cmp x [] p h = (p, tt)
each-insert P cmp x (y ∷ ys) p h =
    elim (is_gt (cmp x y)) as (λ b. Each P (cond b (y ∷ insert_by cmp x ys) (x ∷ y ∷ ys)))
    [ true ↦ (h.0, each-insert P cmp x ys p h.1) | false ↦ (p, h) ]

each-sort : {X : Type 0} (P : X → Type 0) (cmp : X → X → Ordering) (xs : List X) → Each P xs → Each P (sort_by cmp xs)
each-sort P cmp [] h = tt
each-sort P cmp (x ∷ xs) h = each-insert P cmp x (sort_by cmp xs) h.0 (each-sort P cmp xs h.1)

less-not-gt : (o : Ordering) → is_lt o ≡ true → is_gt o ≡ false
less-not-gt Less e = refl
less-not-gt Equal e = refl
less-not-gt Greater e = cc

less-back : (o : Ordering) → is_lt o ≡ true → is_gt (ordering_reverse o) ≡ true
less-back Less e = refl
less-back Equal e = cc
less-back Greater e = cc

module _ {X : Type 0} (cmp : X → X → Ordering) (o : IsTotalOrder cmp) where
  abbrev pub below : X → X → Bool
  below x y = is_lt (cmp x y)

  insert-first : (x : X) (xs : List X) → Each (λ y. below x y ≡ true) xs → insert_by cmp x xs ≡ x ∷ xs
  insert-first x [] h = refl
  insert-first x (y ∷ ys) h = ap (λ b. cond b (y ∷ insert_by cmp x ys) (x ∷ y ∷ ys)) (less-not-gt (cmp x y) h.0)

  insert-later : (x y : X) (ys : List X) → below y x ≡ true → insert_by cmp x (y ∷ ys) ≡ y ∷ insert_by cmp x ys
  insert-later x y ys h = ap (λ b. cond b (y ∷ insert_by cmp x ys) (x ∷ y ∷ ys)) (ap is_gt (o.antisymm x y) ∙ less-back (cmp y x) h)

  -- the least element comes first, wherever it stands
  sort-least : (before after : List X) (x : X) → Each (λ y. below x y ≡ true) (before ++ after)
      → sort_by cmp (before ++ x ∷ after) ≡ x ∷ sort_by cmp (before ++ after)
  sort-least [] after x h = insert-first x (sort_by cmp after) (each-sort (λ y. below x y ≡ true) cmp after h)
  sort-least (b ∷ bs) after x h = ap (insert_by cmp b) (sort-least bs after x h.1) ∙ insert-later b x (sort_by cmp (bs ++ after)) h.0

  pub sort-parts : {T : Type 0} (f : T → X → Bool) (ts : List T) (xs : List X) → Ascends below xs → Each (PassesOne f ts) xs
      → sort_by cmp (parts f ts xs) ≡ xs
  sort-parts f ts [] a h = ap (sort_by cmp) (none-part f ts)
  sort-parts f ts (x ∷ xs) a h =
      let m = among f ts x xs h.0 in
      ap (sort_by cmp) m.more
      ∙ sort-least m.before m.after x (subst (Each (λ y. below x y ≡ true)) m.rest (each-part (λ y. below x y ≡ true) f ts xs a.0))
      ∙ ap (λ w. x ∷ sort_by cmp w) (sym m.rest) ∙ ap (λ w. x ∷ w) (sort-parts f ts xs a.1 h.1)

-- ---- sorted in any other way

-- the parts are the list in another order
pub parts-permute : {T X : Type 0} (f : T → X → Bool) (ts : List T) (xs : List X) → Each (PassesOne f ts) xs
    → IsPermutation (parts f ts xs) xs
parts-permute f ts [] h = subst (λ w. IsPermutation w []) (sym (none-part f ts)) (IsPermutation-refl [])
parts-permute f ts (x ∷ xs) h =
    let m = among f ts x xs h.0 in
    let inner : IsPermutation (m.before ++ m.after) xs = subst (λ w. IsPermutation w xs) m.rest (parts-permute f ts xs h.1) in
    subst (λ w. IsPermutation w (x ∷ xs)) (sym m.more)
    (IsPermutation-trans (m.before ++ x ∷ m.after) (x ∷ (m.before ++ m.after)) (x ∷ xs) (IsPermutation-middle m.before x m.after)
    (IsPermutation-cons x (m.before ++ m.after) xs inner))

-- what a sort makes of the parts is the list
pub sorted-parts : {T X : Type 0} (lt : X → X → Bool) (f : T → X → Bool) (ts : List T) (xs ys : List X) → IsStrictWeakOrder lt
    → Ascends lt xs → Each (PassesOne f ts) xs
    → IsPermutation (parts f ts xs) ys → IsSortedBy lt ys → ys ≡ xs
sorted-parts lt f ts xs ys o a h p s = sorted-unique lt o (parts f ts xs) ys xs p s (parts-permute f ts xs h) a
