-- Sorts of lists in which one element comes after all others, and lists that rise.
use Rattle.std.proofs.Common.{◌≡◌, ℕ, ◌<◌, true, false, Bool, List, [], ◌∷◌, ◌++◌, refl, ap, sym}
use Rattle.std.proofs.Common.{◌∙◌}
use Rattle.std.proofs.Common.{subst, arith, inl, inr, ⊎_elim, append_assoc}
use Rattle.std.specs.Prelude.{flat_map, if◌then◌else◌}
use Rattle.std.specs.declared.cmp.Ordering.{Ordering}
use Rattle.std.specs.Ordering.{is_gt}
use Rattle.std.proofs.lemmas.Grind.{flat_map-append}
use Rattle.xc_record.specs.Lists.{insert_by, sort_by}
use Rattle.xc_record.specs.Accepted.{AcceptedTablet}
use Rattle.xc_record.proofs.ListLaws.{Each, Each-append}
use Rattle.xc_model.proofs.StableSort.{Exists}
use Rattle.xc_model.proofs.Sorts.{each-sort}

-- ---- an element after all others

abbrev pub After : {A : Type 0} → (A → A → Ordering) → A → A → Type 0
After cmp y x = (is_gt (cmp y x) ≡ true) × (is_gt (cmp x y) ≡ false)

insert-last : {A : Type 0} (cmp : A → A → Ordering) (y : A) (xs : List A) → Each (After cmp y) xs → insert_by cmp y xs ≡ xs ++ y ∷ []
insert-last cmp y [] h = refl
insert-last cmp y (x ∷ xs) h =
    ap (λ b. if b then (x ∷ insert_by cmp y xs) else (y ∷ x ∷ xs)) h.0.0 ∙ ap (λ w. x ∷ w) (insert-last cmp y xs h.1)

insert-before : {A : Type 0} (cmp : A → A → Ordering) (x y : A) (xs : List A) → After cmp y x
    → insert_by cmp x (xs ++ y ∷ []) ≡ insert_by cmp x xs ++ y ∷ []
insert-before cmp x y [] h = ap (λ b. if b then (y ∷ x ∷ []) else (x ∷ y ∷ [])) h.1
insert-before cmp x y (z ∷ xs) h = go (is_gt (cmp x z)) (insert-before cmp x y xs h)
  where
    go : (b : Bool) → insert_by cmp x (xs ++ y ∷ []) ≡ insert_by cmp x xs ++ y ∷ []
        → (if b then (z ∷ insert_by cmp x (xs ++ y ∷ [])) else (x ∷ z ∷ (xs ++ y ∷ [])))
        ≡ (if b then (z ∷ insert_by cmp x xs) else (x ∷ z ∷ xs)) ++ y ∷ []
    go true e = ap (λ w. z ∷ w) e
    go false e = refl

pub sort-last : {A : Type 0} (cmp : A → A → Ordering) (xs : List A) (y : A) (zs : List A) → Each (After cmp y) (xs ++ zs)
    → sort_by cmp (xs ++ y ∷ zs) ≡ sort_by cmp (xs ++ zs) ++ y ∷ []
sort-last cmp [] y zs h = insert-last cmp y (sort_by cmp zs) (each-sort cmp (After cmp y) zs h)
sort-last cmp (x ∷ xs) y zs h =
    ap (insert_by cmp x) (sort-last cmp xs y zs h.1) ∙ insert-before cmp x y (sort_by cmp (xs ++ zs)) h.0

-- ---- what a record more adds to what the tablets give

pub record Added {A : Type 0} (old new more : List A) : Type 0 where
  pub before : List A
  pub after : List A
  pub was : old ≡ before ++ after
  pub is : new ≡ before ++ (more ++ after)

pub flat-added : {A : Type 0} (g : AcceptedTablet → List A) (xs : List AcceptedTablet) (b c : AcceptedTablet) (ys : List AcceptedTablet)
    (more : List A) → g c ≡ g b ++ more → Added (flat_map g (xs ++ b ∷ ys)) (flat_map g (xs ++ c ∷ ys)) more
flat-added g xs b c ys more e = record {
  before = flat_map g xs ++ g b;
  after = flat_map g ys;
  was = flat_map-append g xs (b ∷ ys) ∙ sym (append_assoc (flat_map g xs) (g b) (flat_map g ys));
  is = flat_map-append g xs (c ∷ ys) ∙ ap (λ w. flat_map g xs ++ (w ++ flat_map g ys)) e
      ∙ ap (λ w. flat_map g xs ++ w) (append_assoc (g b) more (flat_map g ys))
      ∙ sym (append_assoc (flat_map g xs) (g b) (more ++ flat_map g ys));
}

pub added-none : {A : Type 0} (old new : List A) → Added old new [] → new ≡ old
added-none old new a = a.is ∙ sym a.was

-- ---- pairs

abbrev pub Pairwise : {A : Type 0} → (A → A → Type 0) → List A → Type 0
Pairwise R [] = Unit {0}
Pairwise R (x ∷ xs) = Each (R x) xs × Pairwise R xs

pub pairwise-append : {A : Type 0} (R : A → A → Type 0) (xs ys : List A) → Pairwise R xs → Pairwise R ys → Each (λ x. Each (R x) ys) xs
    → Pairwise R (xs ++ ys)
pairwise-append R [] ys p q c = q
pairwise-append R (x ∷ xs) ys p q c = (Each-append (R x) xs ys p.0 c.0, pairwise-append R xs ys p.1 q c.1)

each-middle : {A : Type 0} (P : A → Type 0) (xs : List A) (y : A) (zs : List A) → P y → Each P (xs ++ zs) → Each P (xs ++ y ∷ zs)
each-middle P [] y zs p h = (p, h)
each-middle P (x ∷ xs) y zs p h = (h.0, each-middle P xs y zs p h.1)

pub pairwise-middle : {A : Type 0} (R : A → A → Type 0) (xs : List A) (y : A) (zs : List A) → ((x z : A) → R x z → R z x)
    → Each (R y) (xs ++ zs) → Pairwise R (xs ++ zs) → Pairwise R (xs ++ y ∷ zs)
pairwise-middle R [] y zs s h p = (h, p)
pairwise-middle R (x ∷ xs) y zs s h p = (each-middle (R x) xs y zs (s y x h.0) p.0, pairwise-middle R xs y zs s h.1 p.1)

each-insert : {A : Type 0} (cmp : A → A → Ordering) (P : A → Type 0) (x : A) (xs : List A) → P x → Each P xs → Each P (insert_by cmp x xs)
each-insert cmp P x [] p h = (p, tt)
each-insert cmp P x (y ∷ ys) p h =
    elim (is_gt (cmp x y)) as (λ b. Each P (if b then (y ∷ insert_by cmp x ys) else (x ∷ y ∷ ys)))
    [ true ↦ (h.0, each-insert cmp P x ys p h.1) | false ↦ (p, h) ]

pairwise-insert : {A : Type 0} (cmp : A → A → Ordering) (R : A → A → Type 0) → ((x z : A) → R x z → R z x) → (x : A) (xs : List A)
    → Each (R x) xs → Pairwise R xs → Pairwise R (insert_by cmp x xs)
pairwise-insert cmp R s x [] h p = (tt, tt)
pairwise-insert cmp R s x (y ∷ ys) h p =
    elim (is_gt (cmp x y)) as (λ b. Pairwise R (if b then (y ∷ insert_by cmp x ys) else (x ∷ y ∷ ys)))
    [ true ↦ (each-insert cmp (R y) x ys (s x y h.0) p.0, pairwise-insert cmp R s x ys h.1 p.1) | false ↦ (h, p) ]

pub pairwise-sort : {A : Type 0} (cmp : A → A → Ordering) (R : A → A → Type 0) → ((x z : A) → R x z → R z x) → (xs : List A)
    → Pairwise R xs → Pairwise R (sort_by cmp xs)
pairwise-sort cmp R s [] p = tt
pairwise-sort cmp R s (x ∷ xs) p =
    pairwise-insert cmp R s x (sort_by cmp xs) (each-sort cmp (R x) xs p.0) (pairwise-sort cmp R s xs p.1)

exists-insert : {A : Type 0} (cmp : A → A → Ordering) (P : A → Type 0) (x : A) (xs : List A) → Exists P (x ∷ xs)
    → Exists P (insert_by cmp x xs)
exists-insert cmp P x [] i = i
exists-insert cmp P x (y ∷ ys) i =
    elim (is_gt (cmp x y)) as (λ b. Exists P (if b then (y ∷ insert_by cmp x ys) else (x ∷ y ∷ ys))) [
      | true ↦ ⊎_elim (λ p. inr (exists-insert cmp P x ys (inl p)))
          (λ r. ⊎_elim (λ p. inl p) (λ q. inr (exists-insert cmp P x ys (inr q))) r) i
      | false ↦ i
    ]

pub exists-sort : {A : Type 0} (cmp : A → A → Ordering) (P : A → Type 0) (xs : List A) → Exists P xs → Exists P (sort_by cmp xs)
exists-sort cmp P [] i = i
exists-sort cmp P (x ∷ xs) i =
    exists-insert cmp P x (sort_by cmp xs) (⊎_elim (λ p. inl p) (λ r. inr (exists-sort cmp P xs r)) i)

-- ---- lists that rise

abbrev pub Up : {A : Type 0} → (A → ℕ) → List A → Type 0
Up f xs = Pairwise (λ x y. f x < f y) xs

exists-is : {A : Type 0} (P : A → Type 0) (xs : List A) (y : A) → Each P xs → Exists (λ x. x ≡ y) xs → P y
exists-is P [] y h i = absurd i
exists-is P (x ∷ xs) y h i = ⊎_elim (λ e. subst P e h.0) (λ r. exists-is P xs y h.1 r) i

-- two lists that rise and have the same elements are one
pub up-same : {A : Type 0} (f : A → ℕ) (xs ys : List A) → Up f xs → Up f ys → Each (λ x. Exists (λ y. y ≡ x) ys) xs
    → Each (λ y. Exists (λ x. x ≡ y) xs) ys → xs ≡ ys
up-same f [] [] u v a b = refl
up-same f [] (y ∷ ys) u v a b = absurd b.0
up-same f (x ∷ xs) [] u v a b = absurd a.0
up-same {A = A} f (x ∷ xs) (y ∷ ys) u v a b =
    ap (λ w. w ∷ xs) heads ∙ ap (λ w. y ∷ w) (up-same f xs ys u.1 v.1 (rest x y xs ys (λ z q. q) heads u.0 a.1)
    (rest y x ys xs (λ z q. q) (sym heads) v.0 b.1))
  where
    heads : x ≡ y
    heads =
        ⊎_elim (λ e. sym e)
        (λ r. ⊎_elim (λ e. e)
        (λ s. let p : f y < f x = exists-is (λ z. f y < f z) ys x v.0 r in
        let q : f x < f y = exists-is (λ z. f x < f z) xs y u.0 s in absurd (let z : ⊥ = omega arith in z)) b.0) a.0

    rest : (x y : A) (xs ys : List A) → ((z : A) → f x < f z → f x < f z) → x ≡ y → Each (λ z. f x < f z) xs
        → Each (λ z. Exists (λ w. w ≡ z) (y ∷ ys)) xs → Each (λ z. Exists (λ w. w ≡ z) ys) xs
    rest x y [] ys k e l h = tt
    rest x y (z ∷ xs) ys k e l h = (
      ⊎_elim (λ q. let same : x ≡ z = e ∙ q in absurd (let p : f x < f x = subst (λ w. f x < f w) (sym same) l.0 in let w : ⊥ =
          omega arith in w))
          (λ r. r) h.0,
      rest x y xs ys k e l.1 h.1,
    )

-- of elements at one place of a list that rises there is one
pub up-one : {A : Type 0} (f : A → ℕ) (xs : List A) (x y : A) → Up f xs → Exists (λ z. z ≡ x) xs → Exists (λ z. z ≡ y) xs → f x ≡ f y
    → x ≡ y
up-one f [] x y u i j e = absurd i
up-one f (z ∷ xs) x y u i j e =
    ⊎_elim
    (λ p. ⊎_elim (λ q. sym p ∙ q)
    (λ s. let l : f z < f y = exists-is (λ w. f z < f w) xs y u.0 s in
    let same : f z ≡ f x = ap f p in absurd (let w : ⊥ = omega arith in w)) j)
    (λ r. ⊎_elim
    (λ q. let l : f z < f x = exists-is (λ w. f z < f w) xs x u.0 r in
    let same : f z ≡ f y = ap f q in absurd (let w : ⊥ = omega arith in w))
    (λ s. up-one f xs x y u.1 r s e) j) i
