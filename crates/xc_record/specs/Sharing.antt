-- Lists that are shared out by tests.
--     Ascends lt xs      each element is below all later ones
--     PassesOne f ts x      x passes exactly one of the tests f t
--     parts f ts xs      what passes each test, one after another
use Rattle.std.specs.Prelude.{◌≡◌, Bool, true, false, ◌⊎◌, List, [], ◌∷◌, filter, flat_map}
use Rattle.std.specs.List.{AllByRecursion}

abbrev pub Ascends : {X : Type 0} → (X → X → Bool) → List X → Type 0
Ascends lt [] = Unit {0}
Ascends lt (x ∷ xs) = AllByRecursion (λ y. lt x y ≡ true) xs × Ascends lt xs

abbrev pub PassesOne : {T X : Type 0} → (T → X → Bool) → List T → X → Type 0
PassesOne f [] x = ⊥
PassesOne f (t ∷ ts) x = ((f t x ≡ true) × AllByRecursion (λ t. f t x ≡ false) ts) ⊎ ((f t x ≡ false) × PassesOne f ts x)

abbrev pub parts : {T X : Type 0} → (T → X → Bool) → List T → List X → List X
parts f ts xs = flat_map (λ t. filter (f t) xs) ts
