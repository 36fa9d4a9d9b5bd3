-- What is left of bytes of which the front was given.
use Rattle.std.proofs.Common.{◌≡◌, ℕ, ◌+◌, ◌-◌, List, [], ◌++◌, length, take, drop, sym, ap, ◌∙◌, take-append-drop, arith}
use Rattle.std.proofs.lemmas.List.{take_rest, drop-drop}

-- the bytes that were given are the first of those that were left
pub gives_front : (left bytes given : List ℕ) (at n : ℕ) → drop at bytes ≡ left → given ≡ take n (take (length bytes - at) (drop at bytes))
    → left ≡ given ++ drop (at + n) bytes
gives_front left bytes given at n here front =
    sym here ∙ sym (take-append-drop n (drop at bytes))
    ∙ ap (λ l. l ++ drop n (drop at bytes)) (sym (front ∙ ap (take n) (take_rest bytes at)))
    ∙ ap (λ l. given ++ l) (drop-drop n at bytes)

-- none was given, though there was room, since none was left
pub gives_none : (bytes : List ℕ) (at n : ℕ) → n ≡ 0 → take (length bytes - at) (drop at bytes) ≡ [] → drop (at + n) bytes ≡ []
gives_none bytes at n none empty = let here : at + n ≡ at = omega arith in ap (λ i. drop i bytes) here ∙ sym (take_rest bytes at) ∙ empty
