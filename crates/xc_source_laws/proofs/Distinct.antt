-- What waits is listed once: pairs of a transaction and a tablet that differ.
use Rattle.std.proofs.Common.{◌≡◌, ℕ, ◌+◌, ◌<◌, ◌≤◌, true, false, Bool, cond, List, [], ◌∷◌, ◌++◌, map, arith}
use Rattle.std.specs.Prelude.{filter, flat_map, ◌&&◌, is_some}
use Rattle.std.specs.List.{enumerate_from}
use Rattle.xc_record.specs.declared.record.Tablet.{Tablet}
use Rattle.xc_record.proofs.ListLaws.{Each, Each-append, Each-filter, Each-weaker}
use Rattle.xc_model.proofs.Flat.{each-flat, each-all}
use Rattle.xc_source.specs.Machine.{Machine, Transaction, is_open, commit_of}
use Rattle.xc_source.specs.Waiting.{waits_on, tablets_of, pending}
use Rattle.xc_source_laws.proofs.Opened.{each-map}

abbrev pub Differ : ℕ × ℕ → ℕ × ℕ → Type 0
Differ p q = p.0 ≡ q.0 → p.1 ≡ q.1 → ⊥

abbrev pub Distinct : List (ℕ × ℕ) → Type 0
Distinct [] = Unit {0}
Distinct (p ∷ ps) = Each (Differ p) ps × Distinct ps

distinct-append : (xs ys : List (ℕ × ℕ)) → Distinct xs → Distinct ys → Each (λ x. Each (Differ x) ys) xs → Distinct (xs ++ ys)
distinct-append [] ys d e h = e
distinct-append (x ∷ xs) ys d e h = (Each-append (Differ x) xs ys d.0 h.0, distinct-append xs ys d.1 e h.1)

-- ---- numbers that rise

abbrev Rising : {X : Type 0} → List (ℕ × X) → Type 0
Rising [] = Unit {0}
Rising (p ∷ ps) = Each (λ q. p.0 < q.0) ps × Rising ps

from-number : {X : Type 0} (n : ℕ) (xs : List X) → Each (λ (q : ℕ × X). n ≤ q.0) (enumerate_from n xs)
from-number n [] = tt
from-number {X} n (x ∷ xs) = (
  omega arith,
  Each-weaker (λ (q : ℕ × X). n + 1 ≤ q.0) (λ (q : ℕ × X). n ≤ q.0) (λ q l. omega arith) (enumerate_from (n + 1) xs)
      (from-number (n + 1) xs),
)

rising-numbers : {X : Type 0} (n : ℕ) (xs : List X) → Rising (enumerate_from n xs)
rising-numbers n [] = tt
rising-numbers {X} n (x ∷ xs) = (
  Each-weaker (λ (q : ℕ × X). n + 1 ≤ q.0) (λ (q : ℕ × X). n < q.0) (λ q l. omega arith) (enumerate_from (n + 1) xs)
      (from-number (n + 1) xs),
  rising-numbers (n + 1) xs,
)

rising-filter : {X : Type 0} (p : ℕ × X → Bool) (xs : List (ℕ × X)) → Rising xs → Rising (filter p xs)
rising-filter p [] r = tt
rising-filter {X} p (x ∷ xs) r =
    elim (p x) as (λ b. Rising (cond b (x ∷ filter p xs) (filter p xs))) [
      | true ↦ (Each-filter (λ (q : ℕ × X). x.0 < q.0) p xs r.0, rising-filter p xs r.1)
      | false ↦ rising-filter p xs r.1
    ]

abbrev with_number : ℕ → List ℕ → List (ℕ × ℕ)
with_number n ids = map (λ id. (n, id)) ids

distinct-ids : {X : Type 0} (n : ℕ) (xs : List (ℕ × X)) → Rising xs → Distinct (with_number n (map (λ (p : ℕ × X). p.0) xs))
distinct-ids n [] r = tt
distinct-ids {X} n (x ∷ xs) r = (
  each-map (Differ (n, x.0)) (λ k. x.0 < k) (λ id. (n, id)) (λ k l a b. omega (arith, b)) (map (λ (p : ℕ × X). p.0) xs)
      (each-map (λ k. x.0 < k) (λ (q : ℕ × X). x.0 < q.0) (λ (p : ℕ × X). p.0) (λ q l. l) xs r.0),
  distinct-ids n xs r.1,
)

abbrev Later : ℕ → ℕ × ℕ → Type 0
Later n q = n < q.0

distinct-flat : {X : Type 0} (g : X → List ℕ) → ((n : ℕ) (x : X) → Distinct (with_number n (g x))) → (xs : List (ℕ × X)) → Rising xs
    → Distinct (flat_map (λ (p : ℕ × X). with_number p.0 (g p.1)) xs)
distinct-flat g d [] r = tt
distinct-flat {X} g d (x ∷ xs) r =
    let rest = flat_map (λ (p : ℕ × X). with_number p.0 (g p.1)) xs in
    let later : Each (Later x.0) rest =
    each-flat (Later x.0) (λ (p : ℕ × X). with_number p.0 (g p.1)) (λ (p : ℕ × X). x.0 < p.0)
    (λ p l. each-map (Later x.0) (λ _. Unit {0}) (λ id. (p.0, id)) (λ _ _. l) (g p.1) (each-all (λ _. Unit {0}) (λ _. tt) (g p.1))) xs
    r.0 in
    distinct-append (with_number x.0 (g x.1)) rest (d x.0 x.1) (distinct-flat g d xs r.1)
    (each-map (λ y. Each (Differ y) rest) (λ _. Unit {0}) (λ id. (x.0, id))
    (λ id _. Each-weaker (Later x.0) (Differ (x.0, id)) (λ q l a b. omega (arith, a)) rest later) (g x.1)
    (each-all (λ _. Unit {0}) (λ _. tt) (g x.1)))

pub pending-distinct : (m : Machine) → Distinct (pending m)
unfolding pending tablets_of
pending-distinct m =
    distinct-flat (λ t. tablets_of m t)
    (λ n t. distinct-ids n (filter (λ (p : ℕ × Tablet). is_open p.1 && waits_on p.1.header t) (enumerate_from 0 m.tablets))
    (rising-filter (λ (p : ℕ × Tablet). is_open p.1 && waits_on p.1.header t) (enumerate_from 0 m.tablets) (rising-numbers 0 m.tablets)))
    (filter (λ (p : ℕ × Transaction). is_some (commit_of p.1.stage)) (enumerate_from 1 m.txns))
    (rising-filter (λ (p : ℕ × Transaction). is_some (commit_of p.1.stage)) (enumerate_from 1 m.txns) (rising-numbers 1 m.txns))
