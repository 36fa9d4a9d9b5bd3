-- Reads after a restore.
use Rattle.xc_model.proofs.Common.{◌≡◌, ℕ, ◌≤◌, Bool, true, false, cond, List, [], ◌∷◌, map, refl, ap, ◌∙◌, sym, arith, filter, nat_le}
use Rattle.xc_model.proofs.Common.{true≢false, nat_tests, KeyVersion, written_by, versions_at, upto, last_of, value_of, rows_after}
use Rattle.xc_model.specs.Laws.{RestoresKeepReads}

-- what passes p passes q
filter-filter : {A : Type 0} (p q : A → Bool) (xs : List A) → ((x : A) → p x ≡ true → q x ≡ true) → filter p (filter q xs) ≡ filter p xs
filter-filter p q [] h = refl
filter-filter p q (x ∷ xs) h = go (q x) refl (p x) refl (filter-filter p q xs h)
  where
    go : (b : Bool) → q x ≡ b → (c : Bool) → p x ≡ c → filter p (filter q xs) ≡ filter p xs
        → filter p (cond b (x ∷ filter q xs) (filter q xs)) ≡ cond c (x ∷ filter p xs) (filter p xs)
    go true e c f ih = ap (λ d. cond d (x ∷ filter p (filter q xs)) (filter p (filter q xs))) f ∙ ap (λ w. cond c (x ∷ w) w) ih
    go false e true f ih = absurd (true≢false (sym (h x f) ∙ e))
    go false e false f ih = ih

pub versions-upto : (k : List ℕ) (t : ℕ) (vs : List KeyVersion)
    → versions_at k (filter (λ v. nat_le v.commit t) vs) ≡ filter (upto t) (versions_at k vs)
versions-upto k t [] = refl
versions-upto k t (v ∷ vs) = grind (arith, versions-upto k t vs)

earlier : (v t n : ℕ) → v ≤ t → nat_le n v ≡ true → nat_le n t ≡ true
earlier v t n h e = grind (arith, nat_tests)

pub restores-keep : RestoresKeepReads
restores-keep y t v h = (
  (λ k. ap (λ xs. value_of (last_of (filter (upto v) xs))) (versions-upto k t y.versions)
      ∙ ap (λ xs. value_of (last_of xs)) (filter-filter (upto v) (upto t) (versions_at k y.versions) (λ x e. earlier v t x.commit h e))),
  ap (λ vs. rows_after (map written_by vs) [])
      (filter-filter (λ w. nat_le w.commit v) (λ w. nat_le w.commit t) y.versions (λ w e. earlier v t w.commit h e)),
)
