-- Slots in lists: what a list of slots and the list of their versions share.
use Rattle.std.proofs.Common.{◌≡◌, ℕ, zero, suc, ◌<◌, Bool, true, false, cond, List, [], ◌∷◌, ◌++◌, length, get_or, take, drop, map}
use Rattle.std.proofs.Common.{refl, ap, sym, ◌∙◌, subst, arith}
use Rattle.std.specs.Prelude.{insert, remove, filter, slice_get, option_map}
use Rattle.std.proofs.lemmas.List.{map-append, take-map, drop-map, length-map, get_or-map}
use Rattle.xc_record.proofs.ListLaws.{Each}
use Rattle.std.specs.Ordering.{is_gt}
use Rattle.xc_versions.specs.declared.stored.StoredVersion.{StoredVersion}
use Rattle.xc_versions.specs.declared.stored.Slot.{Slot}
use Rattle.xc_versions.specs.Stored.{stored_cmp, InOrder, reaches}
use Rattle.xc_versions.specs.Slots.{seen}
use Rattle.xc_versions.specs.Splits.{Splits, Falls}
use Rattle.xc_versions.proofs.SplitLaws.{above-falls}
use Rattle.xc_versions.proofs.ShownLaws.{reaches-falls}

-- elements that are seen as others
module _ {X Y : Type 0} (f : X → Y) where
  pub each-map : (P : Y → Type 0) (xs : List X) → Each (λ x. P (f x)) xs → Each P (map f xs)
  each-map P [] h = tt
  each-map P (x ∷ xs) h = (h.0, each-map P xs h.1)

  pub each-mapped : (P : Y → Type 0) (xs : List X) → Each P (map f xs) → Each (λ x. P (f x)) xs
  each-mapped P [] h = tt
  each-mapped P (x ∷ xs) h = (h.0, each-mapped P xs h.1)

  pub falls-mapped : (p : Y → Bool) (xs : List X) → Falls p (map f xs) → Falls (λ x. p (f x)) xs
  falls-mapped p [] h = tt
  falls-mapped p (x ∷ xs) h = ((λ e. each-mapped (λ y. p y ≡ false) xs (h.0 e)), falls-mapped p xs h.1)

  pub splits-map : (p : Y → Bool) (n : ℕ) (xs : List X) → Splits (λ x. p (f x)) n xs → Splits p n (map f xs)
  splits-map p n xs s =
      let long = length-map xs f in
      let w = s.within in
      record {
        within = omega arith;
        front = subst (λ (ys : List Y). Each (λ y. p y ≡ true) ys) (sym (take-map f n xs))
            (each-map (λ y. p y ≡ true) (take n xs) s.front);
        back = subst (λ (ys : List Y). Each (λ y. p y ≡ false) ys) (sym (drop-map f n xs))
            (each-map (λ y. p y ≡ false) (drop n xs) s.back);
      }

  pub map-insert : (xs : List X) (n : ℕ) (x : X) → map f (insert xs n x) ≡ insert (map f xs) n (f x)
  map-insert xs n x =
      map-append f (take n xs) (x ∷ drop n xs) ∙ ap (λ w. w ++ map f (x ∷ drop n xs)) (sym (take-map f n xs))
      ∙ ap (λ w. take n (map f xs) ++ f x ∷ w) (sym (drop-map f n xs))

  pub map-remove : (xs : List X) (n : ℕ) → map f (remove xs n) ≡ remove (map f xs) n
  map-remove xs n =
      map-append f (take n xs) (drop (suc n) xs) ∙ ap (λ w. w ++ map f (drop (suc n) xs)) (sym (take-map f n xs))
      ∙ ap (λ w. take n (map f xs) ++ w) (sym (drop-map f (suc n) xs))

  pub map-filter : (p : Y → Bool) (xs : List X) → map f (filter (λ x. p (f x)) xs) ≡ filter p (map f xs)
  map-filter p [] = refl
  map-filter p (x ∷ xs) =
      elim (p (f x)) as
      (λ b. map f (cond b (x ∷ filter (λ x. p (f x)) xs) (filter (λ x. p (f x)) xs))
      ≡ cond b (f x ∷ filter p (map f xs)) (filter p (map f xs)))
      [ true ↦ ap (λ w. f x ∷ w) (map-filter p xs) | false ↦ map-filter p xs ]

  pub read-map : (xs : List X) (i : ℕ) (x : X) → i < length xs → x ≡ get_or xs i x → f x ≡ get_or (map f xs) i (f x)
  read-map xs i x h e = ap f e ∙ sym (get_or-map f xs i x (f x) h)

  pub first-map : (xs : List X) → option_map f (slice_get xs 0) ≡ slice_get (map f xs) 0
  first-map [] = refl
  first-map (x ∷ xs) = refl

pub each-filtered : {X : Type 0} (P : X → Type 0) (p : X → Bool) (xs : List X) → Each P xs → Each P (filter p xs)
each-filtered P p [] h = tt
each-filtered P p (x ∷ xs) h =
    elim (p x) as (λ b. Each P (cond b (x ∷ filter p xs) (filter p xs)))
    [ true ↦ (h.0, each-filtered P p xs h.1) | false ↦ each-filtered P p xs h.1 ]

pub each-inserted : {X : Type 0} (P : X → Type 0) (xs : List X) (n : ℕ) (x : X) → Each P xs → P x → Each P (insert xs n x)
each-inserted P xs zero x h e = (e, h)
each-inserted P [] (suc n) x h e = (e, tt)
each-inserted P (y ∷ ys) (suc n) x h e = (h.0, each-inserted P ys n x h.1 e)

pub each-removed : {X : Type 0} (P : X → Type 0) (xs : List X) (n : ℕ) → Each P xs → Each P (remove xs n)
each-removed P [] zero h = tt
each-removed P [] (suc n) h = tt
each-removed P (y ∷ ys) zero h = h.1
each-removed P (y ∷ ys) (suc n) h = (h.0, each-removed P ys n h.1)

-- ---- versions seen in bytes

pub slots-fall : (b : List ℕ) (v : StoredVersion) (xs : List Slot) → InOrder (map (seen b) xs)
    → Falls (λ x. is_gt (stored_cmp v (seen b x))) xs
slots-fall b v xs o = falls-mapped (seen b) (λ x. is_gt (stored_cmp v x)) xs (above-falls v (map (seen b) xs) o)

pub slots-reach : (b : List ℕ) (k : List ℕ) (t : ℕ) (xs : List Slot) → InOrder (map (seen b) xs) → Falls (λ x. reaches k t (seen b x)) xs
slots-reach b k t xs o = falls-mapped (seen b) (reaches k t) xs (reaches-falls k t (map (seen b) xs) o)

pub each-taken : {X : Type 0} (P : X → Type 0) (n : ℕ) (xs : List X) → Each P xs → Each P (take n xs) × Each P (drop n xs)
each-taken P zero xs h = (tt, h)
each-taken P (suc n) [] h = (tt, tt)
each-taken P (suc n) (x ∷ xs) h = let rest = each-taken P n xs h.1 in ((h.0, rest.0), rest.1)
