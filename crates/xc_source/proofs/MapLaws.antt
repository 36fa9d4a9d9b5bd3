-- A list whose elements are changed one after another.
use Rattle.std.proofs.Common.{◌≡◌, ℕ, zero, suc, ◌+◌, ◌<◌, List, [], ◌∷◌, ◌++◌, map, take, drop, length, get_or, slice_set, refl, arith, ap}
use Rattle.std.proofs.Common.{subst}

pub get_mapped : {X : Type 0} (f : X → X) (xs : List X) (i : ℕ) (d : X) → i < length xs
    → get_or (map f (take i xs) ++ drop i xs) i d ≡ get_or xs i d
get_mapped f [] i d h = absurd (omega arith)
get_mapped f (x ∷ xs) zero d h = refl
get_mapped f (x ∷ xs) (suc i) d h = get_mapped f xs i d (omega arith)

set_mapped_at : {X : Type 0} (f : X → X) (xs : List X) (i : ℕ) (y d : X) → i < length xs → y ≡ f (get_or xs i d)
    → slice_set (map f (take i xs) ++ drop i xs) i y ≡ map f (take (suc i) xs) ++ drop (suc i) xs
set_mapped_at f [] i y d h e = absurd (omega arith)
set_mapped_at f (x ∷ xs) zero y d h e = ap (λ z. z ∷ xs) e
set_mapped_at f (x ∷ xs) (suc i) y d h e = ap (λ zs. f x ∷ zs) (set_mapped_at f xs i y d (omega arith) e)

pub set_mapped : {X : Type 0} (f : X → X) (xs : List X) (i : ℕ) (y d : X) → i < length xs → y ≡ f (get_or xs i d)
    → slice_set (map f (take i xs) ++ drop i xs) i y ≡ map f (take (i + 1) xs) ++ drop (i + 1) xs
set_mapped {X} f xs i y d h e =
    let j : suc i ≡ i + 1 = omega arith in
    let P : ℕ → Type 0 = λ n. slice_set (map f (take i xs) ++ drop i xs) i y ≡ map f (take n xs) ++ drop n xs in
    subst P j (set_mapped_at f xs i y d h e)
