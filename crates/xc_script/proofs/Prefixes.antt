-- What stands in a buffer while a text is put behind what was there.
use Rattle.std.proofs.Common.{◌≡◌, ℕ, zero, suc, ◌<◌, List, [], ◌∷◌, ◌++◌, length, take, drop, get_or, flat_map, refl, sym, ap, ◌∙◌}
use Rattle.std.proofs.Common.{append_assoc, arith}
use Rattle.std.specs.Prelude.{Result, Ok, Err, IsErr}
use Rattle.std.proofs.lemmas.Bool.{false≢true}
use Rattle.xc_script.specs.Lines.{IsBegun, Appends}

-- what is begun behind a first part that was written
pub begun_after : (before first middle rest after : List ℕ) → middle ≡ before ++ first → IsBegun middle rest after
    → IsBegun before (first ++ rest) after
begun_after before first middle rest after e b = record {
  written = first ++ b.written;
  left = b.left;
  prefix = ap (λ t. first ++ t) b.prefix ∙ sym (append_assoc first b.written b.left);
  behind = b.behind ∙ ap (λ t. t ++ b.written) e ∙ append_assoc before first b.written;
}

-- a first part is begun
pub begun_within : (before first rest after : List ℕ) → IsBegun before first after → IsBegun before (first ++ rest) after
begun_within before first rest after b = record {
  written = b.written;
  left = b.left ++ rest;
  prefix = ap (λ t. t ++ rest) b.prefix ∙ append_assoc b.written b.left rest;
  behind = b.behind;
}

at_element : {X : Type 0} (f : X → List ℕ) (xs : List X) (i : ℕ) (d : X) → i < length xs
    → flat_map f xs ≡ flat_map f (take i xs) ++ (f (get_or xs i d) ++ flat_map f (drop (suc i) xs))
at_element f [] i d h = absurd (omega (arith, h))
at_element f (x ∷ xs) zero d h = refl
at_element f (x ∷ xs) (suc i) d h = ap (λ t. f x ++ t) (at_element f xs i d (omega arith))
    ∙ sym (append_assoc (f x) (flat_map f (take i xs)) (f (get_or xs i d) ++ flat_map f (drop (suc i) xs)))

-- the texts of the elements before are written, and that of the next is begun
pub begun_at : {X : Type 0} (f : X → List ℕ) (xs : List X) (i : ℕ) (d : X) (before middle after : List ℕ) → i < length xs
    → middle ≡ before ++ flat_map f (take i xs) → IsBegun middle (f (get_or xs i d)) after → IsBegun before (flat_map f xs) after
begun_at f xs i d before middle after h e b =
    rw (at_element f xs i d h) (begun_after before (flat_map f (take i xs)) middle _ after e (begun_within middle (f (get_or xs i d))
    (flat_map f (drop (suc i) xs)) after b))

-- a call that failed, of a text that is begun
pub failed : {X E : Type 0} (r : Result X E) (before text after : List ℕ) → IsErr r → IsBegun before text after
    → Appends r before text after
failed (Ok x) before text after h b = absurd (false≢true h)
failed (Err e) before text after h b = b
