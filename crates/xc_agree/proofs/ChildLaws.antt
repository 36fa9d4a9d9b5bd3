-- Laws of the last children of tablets.
use Rattle.std.proofs.Common.{◌≡◌, ℕ, ◌+◌, ◌<◌, ◌≤◌, Bool, true, false, List, [], ◌∷◌, ◌++◌, length, take, get_or, refl, ap, sym, ◌∙◌}
use Rattle.std.proofs.Common.{arith}
use Rattle.std.proofs.lemmas.Bool.{eq-eqb, true≢false}
use Rattle.std.proofs.lemmas.List.{take_more, length-take-le}
use Rattle.std.proofs.lemmas.Option.{slice_get_within, same_Some, none-some}
use Rattle.std.specs.Prelude.{Option, Some, None, ◌==◌, if◌then◌else◌, slice_get, option_map}
use Rattle.std.specs.Option.{option_map_or}
use Rattle.xc_record.specs.declared.record.Tablet.{Tablet}
use Rattle.xc_agree.specs.Cases.{AreLast}
use Rattle.xc_agree.proofs.SplitLaws.{get-middle}
use Rattle.xc_agree.proofs.Steps.{get-before, Where, Low, Same, High, place_of}

pub none-last : (lasts : List ℕ) → AreLast lasts []
none-last lasts i p k t get parent last = absurd (none-some t get)

-- one tablet more
pub last-more : (old new : List ℕ) (ts : List Tablet) (i : ℕ) (t : Tablet) → i < length ts → t ≡ get_or ts i t → AreLast old (take i ts)
    → ((q : ℕ)
    → slice_get new q ≡
    (if option_map_or (λ p. p == q) t.header.parent false then option_map (λ _. i) (slice_get old q) else slice_get old
    q)) → AreLast new (take (i + 1) ts)
last-more old new ts i t below is was step j p k u get parent last =
    go (option_map_or (λ q. q == p) t.header.parent false) refl (sym (step p) ∙ last)
  where
    within : j < i + 1
    within = let n = slice_get_within (take (i + 1) ts) j u get in let m = length-take-le (i + 1) ts (omega arith) in omega arith

    all : take (i + 1) ts ≡ take i ts ++ t ∷ []
    all = take_more ts i t below ∙ ap (λ x. take i ts ++ x ∷ []) (sym is)

    by-place : Where j i → option_map_or (λ q. q == p) t.header.parent false ≡ false → slice_get old p ≡ Some k → j ≤ k
    by-place (Low low) apart was_last =
        let n : length (take i ts) ≡ i = length-take-le i ts (omega arith) in
        was j p k u (sym (get-before (take i ts) (t ∷ []) j (omega (arith, n))) ∙ ap (λ xs. slice_get xs j) (sym all) ∙ get) parent was_last
    by-place (Same same) apart was_last =
        let n : length (take i ts) ≡ i = length-take-le i ts (omega arith) in
        let mine : t ≡ u = same_Some _ _ (sym (get-middle (take i ts) t [] j (n ∙ sym same)) ∙ ap (λ xs. slice_get xs j) (sym all) ∙ get) in
        absurd (true≢false (sym (ap (λ o. option_map_or (λ q. q == p) o false) (ap (λ (x : Tablet). x.header.parent) mine ∙ parent)
        ∙ eq-eqb p p refl) ∙ apart))
    by-place (High high) apart was_last = absurd (omega (arith, within))

    go : (b : Bool) → option_map_or (λ q. q == p) t.header.parent false ≡ b
        → (if b then option_map (λ _. i) (slice_get old p) else slice_get old p) ≡ Some k → j ≤ k
    go false apart e = by-place (place_of j i) apart e
    go true same e = at (slice_get old p) e
      where
        at : (o : Option ℕ) → option_map (λ _. i) o ≡ Some k → j ≤ k
        at None f = cc
        at (Some x) f = let e : i ≡ k = same_Some _ _ f in omega (arith, within)
