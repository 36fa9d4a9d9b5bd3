-- Rolling back one subtransaction more.
use Rattle.std.proofs.Common.{◌≡◌, ℕ, zero, suc, ◌+◌, ◌-◌, ◌≤◌, List, fold, arith, ◌∙◌, ap}
use Rattle.std.specs.List.{range_with_len}
use Rattle.xc_record.specs.Lists.{insert_number}

abbrev pub with_all : List ℕ → List ℕ → List ℕ
with_all undone ns = fold (λ undone n. insert_number n undone) undone ns

with_next : (ns : List ℕ) (a k n : ℕ) → a + k ≡ n
    → with_all ns (range_with_len a (suc k)) ≡ insert_number n (with_all ns (range_with_len a k))
with_next ns a zero n e = let f : a ≡ n = omega (arith, e) in ap (λ m. insert_number m ns) f
with_next ns a (suc k) n e = with_next (insert_number a ns) (a + 1) k n (omega (arith, e))

pub with_all_more : (ns : List ℕ) (sub n : ℕ) → sub ≤ n
    → with_all ns (range_with_len sub (n + 1 - sub)) ≡ insert_number n (with_all ns (range_with_len sub (n - sub)))
with_all_more ns sub n h =
    let e : n + 1 - sub ≡ suc (n - sub) = omega arith in
    ap (λ k. with_all ns (range_with_len sub k)) e ∙ with_next ns sub (n - sub) n (omega arith)
