-- Laws of lists of numbers in rising order, each once.
--     Rising ms      each number is below the later ones
use Rattle.std.proofs.Common.{◌≡◌, ℕ, ◌<◌, true, false, cond, ◌||◌, List, [], ◌∷◌, ◌++◌, refl, ap, ◌∙◌, arith}
use Rattle.std.proofs.lemmas.Bool.Decides.{nat_tests}
use Rattle.std.proofs.lemmas.List.Folds.{list_any-append}
use Rattle.std.specs.Prelude.{nat_lt, ◌==◌}
use Rattle.xc_record.specs.Lists.{has, insert_number, distinct}

pub has-insert : (n m : ℕ) (ms : List ℕ) → has n (insert_number m ms) ≡ (m == n || has n ms)
has-insert n m [] = refl
has-insert n m (k ∷ ms) = grind (arith, nat_tests, has-insert n m ms)

pub has-distinct : (n : ℕ) (ms : List ℕ) → has n (distinct ms) ≡ has n ms
has-distinct n [] = refl
has-distinct n (m ∷ ms) = has-insert n m (distinct ms) ∙ ap (λ b. m == n || b) (has-distinct n ms)

pub has-append : (n : ℕ) (xs ys : List ℕ) → has n (xs ++ ys) ≡ (has n xs || has n ys)
has-append n xs ys = list_any-append (λ m. m == n) xs ys

abbrev pub Rising : List ℕ → Type 0
Rising [] = Unit {0}
Rising (n ∷ ns) = ((m : ℕ) → has m ns ≡ true → n < m) × Rising ns

insert-rising : (n : ℕ) (ms : List ℕ) → Rising ms → Rising (insert_number n ms)
insert-rising n [] h = (λ m e. cc, tt)
insert-rising n (m ∷ ms) h =
    elim (nat_lt n m) as (λ b. nat_lt n m ≡ b → Rising (cond b (n ∷ m ∷ ms) (cond (n == m) (m ∷ ms) (m ∷ insert_number n ms)))) [
      | true ↦ λ e. (λ k is. grind (arith, nat_tests, h.0 k), h)
      | false ↦ λ e. elim (n == m) as (λ b. n == m ≡ b → Rising (cond b (m ∷ ms) (m ∷ insert_number n ms))) [
        | true ↦ λ _. h
        | false ↦ λ apart. (λ k is. grind (arith, nat_tests, h.0 k, has-insert k n ms), insert-rising n ms h.1)
      ] refl
    ] refl

pub distinct-rising : (ns : List ℕ) → Rising (distinct ns)
distinct-rising [] = tt
distinct-rising (n ∷ ns) = insert-rising n (distinct ns) (distinct-rising ns)
