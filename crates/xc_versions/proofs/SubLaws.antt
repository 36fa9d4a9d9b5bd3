-- A list without some of its elements, and what stays true of it.
use Rattle.std.proofs.Common.{◌≡◌, ℕ, Bool, true, false, cond, List, [], ◌∷◌, ◌++◌, refl, ap, sym, ◌∙◌, subst, ◌⊎◌, inl, inr, ⊎_elim}
use Rattle.std.specs.Prelude.{◌&&◌, bytes_eq, nat_le, filter}
use Rattle.std.proofs.lemmas.Bool.{or_parts, or_from}
use Rattle.xc_record.proofs.ListLaws.{Each}
use Rattle.xc_versions.specs.declared.stored.StoredVersion.{StoredVersion}
use Rattle.xc_versions.specs.Stored.{IsBefore, InOrder, is_replaced, next_replaces, pruned_before}
use Rattle.xc_versions.specs.Pages.{Idle}

-- zs is ys, but for elements that were left out
abbrev pub Sub : {X : Type 0} → List X → List X → Type 0
Sub {X} zs [] = zs ≡ []
Sub {X} zs (y ∷ ys) = Sub zs ys ⊎ ((ws : List X) × ((zs ≡ y ∷ ws) × Sub ws ys))

pub sub-same : {X : Type 0} (xs : List X) → Sub xs xs
sub-same [] = refl
sub-same (x ∷ xs) = inr (xs, (refl, sub-same xs))

pub sub-behind : {X : Type 0} (zs ys xs : List X) → Sub zs ys → Sub (zs ++ xs) (ys ++ xs)
sub-behind {X} zs [] xs s = subst (λ (w : List X). Sub (w ++ xs) xs) (sym s) (sub-same xs)
sub-behind zs (y ∷ ys) xs s =
    ⊎_elim (λ a. inl (sub-behind zs ys xs a)) (λ b. inr (b.0 ++ xs, (ap (λ w. w ++ xs) b.1.0, sub-behind b.0 ys xs b.1.1))) s

pub sub-before : {X : Type 0} (xs zs ys : List X) → Sub zs ys → Sub (xs ++ zs) (xs ++ ys)
sub-before [] zs ys s = s
sub-before (x ∷ xs) zs ys s = inr (xs ++ zs, (refl, sub-before xs zs ys s))

pub sub-filter : {X : Type 0} (p : X → Bool) (xs : List X) → Sub (filter p xs) xs
sub-filter p [] = refl
sub-filter p (x ∷ xs) =
    let rest = sub-filter p xs in
    elim (p x) as (λ b. Sub (cond b (x ∷ filter p xs) (filter p xs)) (x ∷ xs)) [ true ↦ inr (filter p xs, (refl, rest)) | false ↦ inl rest ]

pub sub-pruned : (u : ℕ) (xs ys : List StoredVersion) → Sub (pruned_before u xs ys) (xs ++ ys)
sub-pruned u [] ys = sub-same ys
sub-pruned u (x ∷ xs) ys =
    let rest = sub-pruned u xs ys in
    elim (next_replaces u x (pruned_before u xs ys)) as
    (λ b. Sub (cond b (pruned_before u xs ys) (x ∷ pruned_before u xs ys)) (x ∷ (xs ++ ys)))
    [ true ↦ inl rest | false ↦ inr (pruned_before u xs ys, (refl, rest)) ]

pub each-sub : {X : Type 0} (P : X → Type 0) (zs ys : List X) → Sub zs ys → Each P ys → Each P zs
each-sub {X} P zs [] s e = subst (λ (w : List X). Each P w) (sym s) tt
each-sub {X} P zs (y ∷ ys) s e =
    ⊎_elim (λ a. each-sub P zs ys a e.1) (λ b. subst (λ (w : List X). Each P w) (sym b.1.0) (e.0, each-sub P b.0 ys b.1.1 e.1)) s

pub in_order-sub : (zs ys : List StoredVersion) → Sub zs ys → InOrder ys → InOrder zs
in_order-sub zs [] s o = subst InOrder (sym s) tt
in_order-sub zs (y ∷ ys) s o =
    ⊎_elim (λ a. in_order-sub zs ys a o.1)
    (λ b. subst InOrder (sym b.1.0) (each-sub (IsBefore y) b.0 ys b.1.1 o.0, in_order-sub b.0 ys b.1.1 o.1)) s

pub any-sub : (u : ℕ) (x : StoredVersion) (zs ys : List StoredVersion) → Sub zs ys → is_replaced u x ys ≡ false → is_replaced u x zs ≡ false
any-sub u x zs [] s e = ap (is_replaced u x) s
any-sub u x zs (y ∷ ys) s e =
    let p = or_parts (bytes_eq x.key y.key && nat_le y.commit u) (is_replaced u x ys) e in
    ⊎_elim (λ a. any-sub u x zs ys a p.1) (λ b. ap (is_replaced u x) b.1.0
    ∙ or_from (bytes_eq x.key y.key && nat_le y.commit u) (is_replaced u x b.0) p.0 (any-sub u x b.0 ys b.1.1 p.1)) s

pub idle-sub : (u : ℕ) (zs ys rest : List StoredVersion) → Sub zs ys → Idle u ys rest → Idle u zs rest
idle-sub u zs [] rest s i = subst (λ (w : List StoredVersion). Idle u w rest) (sym s) tt
idle-sub u zs (y ∷ ys) rest s i =
    ⊎_elim (λ a. idle-sub u zs ys rest a i.1)
    (λ b. subst (λ (w : List StoredVersion). Idle u w rest) (sym b.1.0)
    (any-sub u y (b.0 ++ rest) (ys ++ rest) (sub-behind b.0 ys rest b.1.1) i.0, idle-sub u b.0 ys rest b.1.1 i.1)) s
