-- Where a list falls into elements that pass a test and, behind them, elements that don't.
--     Falls p xs      behind an element that fails the test all fail
--     Splits p n xs      the first n pass and the rest fail
use Rattle.std.specs.Prelude.{◌≡◌, ℕ, ◌≤◌, Bool, true, false, List, [], ◌∷◌, length, take, drop}
use Rattle.std.specs.List.{AllByRecursion}

abbrev pub Falls : {X : Type 0} → (X → Bool) → List X → Type 0
Falls p [] = Unit {0}
Falls p (x ∷ xs) = (p x ≡ false → AllByRecursion (λ y. p y ≡ false) xs) × Falls p xs

pub record Splits {X : Type 0} (p : X → Bool) (n : ℕ) (xs : List X) : Type 0 where
  pub within : n ≤ length xs
  pub front : AllByRecursion (λ x. p x ≡ true) (take n xs)
  pub back : AllByRecursion (λ x. p x ≡ false) (drop n xs)
