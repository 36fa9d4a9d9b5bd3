-- Laws of the path of a key along tablets that are numbered in order.
--     path_of h bs      the records of those of the tablets bs that hold the hash h
use Rattle.std.proofs.Common.{◌≡◌, ℕ, ◌+◌, ◌≤◌, Bool, true, false, cond, ◌&&◌, ◌||◌, List, [], ◌∷◌, ◌++◌, length, refl, ap, sym, ◌∙◌, arith}
use Rattle.std.proofs.Common.{subst, append_assoc, append-nil}
use Rattle.std.proofs.lemmas.Bool.Decides.{nat_tests}
use Rattle.std.proofs.lemmas.Grind.{flat_map-append}
use Rattle.std.proofs.lemmas.List.Elements.{filter-append}
use Rattle.std.specs.Prelude.{filter, flat_map, nat_le, nat_lt, ◌==◌, if◌then◌else◌}
use Rattle.std.specs.List.{list_any}
use Rattle.std.specs.Option.{option_map_or}
use Rattle.xc_record.specs.declared.record.Record.{Record}
use Rattle.xc_record.specs.Hash.{hash_of, holds}
use Rattle.xc_record.specs.Order.{safe_value}
use Rattle.xc_record.specs.Accepted.{AcceptedTablet}
use Rattle.xc_record.specs.Path.{waiting, events}
use Rattle.xc_record.specs.Agreement.{path_above, straggles_at}
use Rattle.xc_record.proofs.AcceptedLaws.{heads}
use Rattle.xc_record.proofs.HeaderLaws.{Numbered}

abbrev pub path_of : ℕ → List AcceptedTablet → List Record
path_of h bs = flat_map (λ b. b.records) (filter (λ b. holds b.header h) bs)

pub path-of-append : (h : ℕ) (xs ys : List AcceptedTablet) → path_of h (xs ++ ys) ≡ path_of h xs ++ path_of h ys
path-of-append h xs ys = ap (flat_map (λ (b : AcceptedTablet). b.records)) (filter-append (λ (b : AcceptedTablet). holds b.header h) xs ys)
    ∙ flat_map-append (λ (b : AcceptedTablet). b.records) (filter (λ (b : AcceptedTablet). holds b.header h) xs)
    (filter (λ (b : AcceptedTablet). holds b.header h) ys)

-- ---- the path above a tablet

pub numbered-mid : (n : ℕ) (before : List AcceptedTablet) (b : AcceptedTablet) (after : List AcceptedTablet)
    → Numbered n (heads (before ++ b ∷ after)) → b.header.id ≡ n + length before
numbered-mid n [] b after m = (let q = m.0 in omega arith)
numbered-mid n (d ∷ before) b after m = let q : b.header.id ≡ n + 1 + length before = numbered-mid (n + 1) before b after m.1 in omega arith

abbrev is_above : ℕ → ℕ → AcceptedTablet → Bool
is_above h i a = holds a.header h && nat_lt a.header.id i

none-above : (h i n : ℕ) (bs : List AcceptedTablet) → i ≤ n → Numbered n (heads bs) → filter (is_above h i) bs ≡ []
none-above h i n [] l m = refl
none-above h i n (b ∷ bs) l m = let at : b.header.id ≡ n = m.0 in grind (arith, nat_tests, none-above h i (n + 1) bs (omega arith) m.1)

above-front : (h n : ℕ) (before : List AcceptedTablet) (b : AcceptedTablet) (after : List AcceptedTablet)
    → Numbered n (heads (before ++ b ∷ after))
    → filter (is_above h b.header.id) (before ++ b ∷ after) ≡ filter (λ a. holds a.header h) before
above-front h n [] b after m =
    let at : b.header.id ≡ n = m.0 in grind (arith, nat_tests, none-above h b.header.id (n + 1) after (omega arith) m.1)
above-front h n (d ∷ before) b after m =
    let at : d.header.id ≡ n = m.0 in
    let above : b.header.id ≡ n + 1 + length before = numbered-mid (n + 1) before b after m.1 in
    grind (arith, nat_tests, above-front h (n + 1) before b after m.1)

-- above a tablet are those that stand before it
pub above-before : (k : List ℕ) (before : List AcceptedTablet) (b : AcceptedTablet) (after : List AcceptedTablet)
    → Numbered 0 (heads (before ++ b ∷ after)) → path_above (before ++ b ∷ after) b k ≡ path_of (hash_of k) before
above-before k before b after m =
    ap (flat_map (λ (a : AcceptedTablet). a.records)) (above-front (hash_of k) 0 before b after m)

-- ---- stragglers along a path

pub straggles-append : (n c : ℕ) (k : List ℕ) (before xs ys : List Record)
    → straggles_at n c k before (xs ++ ys) ≡ (straggles_at n c k before xs || straggles_at n c k (before ++ xs) ys)
straggles-append n c k before [] ys = ap (λ w. straggles_at n c k w ys) (sym (append-nil before))
straggles-append n c k before (x ∷ xs) ys =
    let seen = before ++ x ∷ [] in
    elim (option_map_or (λ value. nat_le c value) (safe_value x.kind) false && list_any (λ w. w.txn == n) (waiting (events k before))) as
    (λ a. (if a then true else straggles_at n c k seen (xs ++ ys)) ≡
    ((if a then true else straggles_at n c k seen xs) || straggles_at n c k (before ++ x ∷ xs) ys)) [
      | true ↦ refl
      | false ↦ straggles-append n c k seen xs ys
          ∙ ap (λ w. straggles_at n c k seen xs || straggles_at n c k w ys) (append_assoc before (x ∷ []) xs)
    ]

straggles-from : (all : List AcceptedTablet) (n c : ℕ) (k : List ℕ) (before after : List AcceptedTablet) → Numbered 0 (heads all)
    → all ≡ before ++ after → straggles_at n c k (path_of (hash_of k) before) (path_of (hash_of k) after) ≡ list_any
    (λ b. holds b.header (hash_of k) && straggles_at n c k (path_above all b k) b.records) after
straggles-from all n c k before [] m s = refl
straggles-from all n c k before (b ∷ after) m s =
    let h = hash_of k in
    let here = path_of h before in
    let above : path_above all b k ≡ here =
    ap (λ w. path_above w b k) s ∙ above-before k before b after (subst (λ w. Numbered 0 (heads w)) s m) in
    let rest = list_any (λ b. holds b.header h && straggles_at n c k (path_above all b k) b.records) after in
    ap (straggles_at n c k here) (path-of-append h (b ∷ []) after)
    ∙ straggles-append n c k here (path_of h (b ∷ [])) (path_of h after)
    ∙ ap (λ w. straggles_at n c k here (path_of h (b ∷ [])) || straggles_at n c k w (path_of h after))
    (sym (path-of-append h before (b ∷ [])))
    ∙ ap (λ w. straggles_at n c k here (path_of h (b ∷ [])) || w)
    (straggles-from all n c k (before ++ b ∷ []) after m (s ∙ sym (append_assoc before (b ∷ []) after)))
    ∙ ap (λ w. w || rest)
    (elim (holds b.header h) as (λ o. straggles_at n c k here (flat_map (λ b. b.records) (cond o (b ∷ []) [])) ≡
    (o && straggles_at n c k here b.records)) [ true ↦ ap (straggles_at n c k here) (append-nil b.records) | false ↦ refl ]
    ∙ ap (λ w. holds b.header h && straggles_at n c k w b.records) (sym above))

-- a straggler stands on the path of a key exactly where one stands at one of its tablets
pub straggles-along : (all : List AcceptedTablet) (n c : ℕ) (k : List ℕ) → Numbered 0 (heads all)
    → straggles_at n c k [] (path_of (hash_of k) all) ≡ list_any
    (λ b. holds b.header (hash_of k) && straggles_at n c k (path_above all b k) b.records) all
straggles-along all n c k m = straggles-from all n c k [] all m refl
