-- What a walk gives, call after call, and what is held then.
--     gifts n p xs      what n calls take, each the first element that passes, first to last
--     left n p xs      the list after them
--     WalksGiveAll      as many calls as operations are held take all that is looked for, in the order held, and nothing else
use Rattle.std.specs.Prelude.{◌≡◌, ◌≤◌, ℕ, zero, suc, Bool, not, List, [], ◌++◌, length, filter, Option}
use Rattle.std.specs.List.{find}
use Rattle.std.specs.Option.{option_to_list}
use Rattle.xc_record.specs.Kept.{KeyWaiting}
use Rattle.xc_intents.specs.HeldOps.{Sought, is_sought, without_first}

abbrev pub gifts : {X : Type 0} → ℕ → (X → Bool) → List X → List X
gifts zero p xs = []
gifts (suc n) p xs = option_to_list (find p xs) ++ gifts n p (without_first p xs)

abbrev pub left : {X : Type 0} → ℕ → (X → Bool) → List X → List X
left zero p xs = xs
left (suc n) p xs = left n p (without_first p xs)

abbrev pub WalksGiveAll : Type 0
WalksGiveAll = (sought : Option Sought) (held : List KeyWaiting) (n : ℕ) → length held ≤ n
    → (gifts n (is_sought sought) held ≡ filter (is_sought sought) held)
    × (left n (is_sought sought) held ≡ filter (λ w. not (is_sought sought w)) held)
