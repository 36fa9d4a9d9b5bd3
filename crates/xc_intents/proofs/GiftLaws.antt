-- What a walk gives, call after call, is all that it looks for.
use Rattle.std.proofs.Common.{◌≡◌, ◌≤◌, ℕ, zero, suc, Bool, not, List, [], ◌∷◌, ◌++◌, length, filter, Some, None, refl}
use Rattle.std.proofs.Common.{sym, ◌∙◌, ap, arith}
use Rattle.std.specs.List.{find}
use Rattle.std.specs.Option.{option_to_list}
use Rattle.xc_intents.specs.HeldOps.{is_sought, without_first}
use Rattle.xc_intents.specs.Gifts.{gifts, left, WalksGiveAll}
use Rattle.xc_intents.proofs.IntentLaws.{filter-none, filter_others-none, filter-first, filter_others-without_first, length-without_first}
use Rattle.xc_intents.proofs.IntentLaws.{without_first-none}

module _ {X : Type 0} (p : X → Bool) where
  -- where nothing passes
  gifts-none : (n : ℕ) (xs : List X) → find p xs ≡ None → gifts n p xs ≡ []
  gifts-none zero xs e = refl
  gifts-none (suc n) xs e = rw (e, without_first-none p xs e) (gifts-none n xs e)

  left-none : (n : ℕ) (xs : List X) → find p xs ≡ None → left n p xs ≡ xs
  left-none zero xs e = refl
  left-none (suc n) xs e = rw (without_first-none p xs e) (left-none n xs e)

  -- an element that passes is given first, and one fewer is held
  shorter : (n : ℕ) (xs : List X) (w : X) → find p xs ≡ Some w → length xs ≤ suc n → length (without_first p xs) ≤ n
  shorter n xs w e h = omega (arith, length-without_first p xs w e)

  gifts-all : (n : ℕ) (xs : List X) → length xs ≤ n → gifts n p xs ≡ filter p xs
  gifts-all zero [] h = refl
  gifts-all zero (_ ∷ _) h = elim h [ ]
  gifts-all (suc n) xs h =
      elim (find p xs) as (λ o. find p xs ≡ o → option_to_list o ++ gifts n p (without_first p xs) ≡ filter p xs) [
        | None ↦ (λ e. rw (without_first-none p xs e) (gifts-none n xs e ∙ sym (filter-none p xs e)))
        | Some w ↦ (λ e. ap (λ ys. w ∷ ys) (gifts-all n (without_first p xs) (shorter n xs w e h)) ∙ sym (filter-first p xs w e))
      ] refl

  left-all : (n : ℕ) (xs : List X) → length xs ≤ n → left n p xs ≡ filter (λ x. not (p x)) xs
  left-all zero [] h = refl
  left-all zero (_ ∷ _) h = elim h [ ]
  left-all (suc n) xs h =
      elim (find p xs) as (λ o. find p xs ≡ o → left n p (without_first p xs) ≡ filter (λ x. not (p x)) xs) [
        | None ↦ (λ e. rw (without_first-none p xs e) (left-none n xs e ∙ sym (filter_others-none p xs e)))
        | Some w ↦ (λ e. left-all n (without_first p xs) (shorter n xs w e h) ∙ filter_others-without_first p xs)
      ] refl

pub walks_give_all : WalksGiveAll
walks_give_all sought held n h = (gifts-all (is_sought sought) n held h, left-all (is_sought sought) n held h)
