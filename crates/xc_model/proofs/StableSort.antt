-- What the laws of sorts rest on: an order by `cmp`, where x may stand before y unless `cmp x y` is greater.
use Rattle.xc_model.proofs.Common.{◌≡◌, true, false, List, [], ◌∷◌, Ordering, is_gt, ◌⊎◌}
pub use Rattle.std.specs.List.{AllByRecursion as Each}

-- x may stand before y
abbrev pub Before : {A : Type 0} → (A → A → Ordering) → A → A → Type 0
Before cmp x y = is_gt (cmp x y) ≡ false

-- any two stand one way or the other, and it goes on
pub record Orders {A : Type 0} (cmp : A → A → Ordering) : Type 0 where
  pub total : (x y : A) → is_gt (cmp x y) ≡ true → is_gt (cmp y x) ≡ false
  pub trans : (x y z : A) → is_gt (cmp x y) ≡ false → is_gt (cmp y z) ≡ false → is_gt (cmp x z) ≡ false

-- P holds of some element
abbrev pub Exists : {A : Type 0} → (A → Type 0) → List A → Type 0
Exists P [] = ⊥
Exists P (x ∷ xs) = P x ⊎ Exists P xs

-- each element may stand before all later ones
abbrev pub InOrder : {A : Type 0} → (A → A → Ordering) → List A → Type 0
InOrder cmp [] = Unit {0}
InOrder cmp (x ∷ xs) = Each (Before cmp x) xs × InOrder cmp xs
