-- A split is the last accepted record, and only it closes a tablet.
use Rattle.xc_model.proofs.Common.{◌≡◌, Bool, true, false, cond, List, [], ◌∷◌, ◌++◌, refl, ap, sym, ◌∙◌, arith, ⊎_elim, cases_Bool}
use Rattle.xc_model.proofs.Common.{true≢false, nat_tests, fold, is_none, if◌then◌else◌, Record, Progress, break_of, is_split, after}
use Rattle.xc_model.proofs.Common.{accepted_from}

pub accepted-head : (p : Progress) (r : Record) (rs : List Record) → accepted_from p (r ∷ rs) ≡ r ∷ rs
    → (is_none (break_of p r) ≡ true) × (accepted_from (after p r) rs ≡ rs)
accepted-head p r rs a = go (is_none (break_of p r)) refl a
  where
    go : (b : Bool) → is_none (break_of p r) ≡ b → (if b then (r ∷ accepted_from (after p r) rs) else []) ≡ r ∷ rs
        → (is_none (break_of p r) ≡ true) × (accepted_from (after p r) rs ≡ rs)
    go true e a = (e, cc)
    go false e a = cc

-- nothing is accepted after a split
split-breaks : (p : Progress) (r : Record) → p.split ≡ true → is_none (break_of p r) ≡ false
unfolding break_of
split-breaks p r e = grind (arith, nat_tests)

after-split : (p : Progress) (rs : List Record) → p.split ≡ true → accepted_from p rs ≡ rs → rs ≡ []
after-split p [] s a = refl
after-split p (r ∷ rs) s a = absurd (true≢false (sym (accepted-head p r rs a).0 ∙ split-breaks p r s))

split-after : (p : Progress) (r : Record) → is_split r.kind ≡ true → (after p r).split ≡ true
split-after p r e = ap (λ b. cond b true p.split) e

pub last-split : (p : Progress) (front rest : List Record) (r : Record) → accepted_from p (front ++ r ∷ rest) ≡ front ++ r ∷ rest
    → is_split r.kind ≡ true → (rest ≡ []) × ((fold after p (front ++ r ∷ rest)).split ≡ true)
last-split p [] rest r a s = let none : rest ≡ [] = after-split (after p r) rest (split-after p r s) (accepted-head p r rest a).1 in
    (none, ap (λ w. (fold after (after p r) w).split) none ∙ split-after p r s)
last-split p (f ∷ front) rest r a s = last-split (after p f) front rest r (accepted-head p f (front ++ r ∷ rest) a).1 s

pub no-split-end : (p : Progress) (front : List Record) (r : Record) → accepted_from p (front ++ r ∷ []) ≡ front ++ r ∷ []
    → is_split r.kind ≡ false → (fold after p (front ++ r ∷ [])).split ≡ false
no-split-end p [] r a s = ap (λ b. cond b true p.split) s
    ∙ ⊎_elim (λ t. absurd (true≢false (sym (accepted-head p r [] a).0 ∙ split-breaks p r t))) (λ f. f) (cases_Bool p.split)
no-split-end p (f ∷ front) r a s = no-split-end (after p f) front r (accepted-head p f (front ++ r ∷ []) a).1 s
