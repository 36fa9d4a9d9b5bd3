-- The least over the last safe values that are kept is the safe time.
use Rattle.xc_model.proofs.Common.{◌≡◌, ℕ, zero, suc, ◌<◌, ◌^◌, ◌≤◌, Bool, true, false, cond, not, List, [], ◌∷◌, map, length, Option, Some}
use Rattle.xc_model.proofs.Common.{None, refl, ap, sym, ◌∙◌, arith, subst, get_or, ⊎_elim, filter, fold, slice_get, slice_index}
use Rattle.xc_model.proofs.Common.{option_map_or, true≢false, and_parts, and_from, cases_Bool, length-map, take_all, Header, Logs, Progress}
use Rattle.xc_model.proofs.Common.{after, AcceptedTablet, accepted_tablets, least, place, order_at, last_safe_in, is_closed_in, is_closed}
use Rattle.xc_model.proofs.Common.{is_started, safe_time, IsPlaces, is_valid, Each, IsGrown, accepted_tablets-grown, floor-take}
use Rattle.xc_model.proofs.Common.{safe_time-rises}
use Rattle.xc_model.specs.Floors.{Floors, FloorFor, FloorsFor, has_closed, starts, counts, least_kept}
use Rattle.xc_model.specs.Laws.{KeptValuesSuffice, SafeTimeRises}
use Rattle.xc_model.proofs.Parents.{heads, heads-logs, get-id, get-under, UnderParent, each-get, each-from, closed-of, none-closed}

-- ---- the least of numbers

pub least-low : {A : Type 0} (f : A → ℕ) (p : A → Bool) (xs : List A) (b : ℕ) → b ≤ least (map f (filter p xs))
    → Each (λ x. p x ≡ true → b ≤ f x) xs
least-low f p [] b h = tt
least-low f p (x ∷ xs) b h =
    let at : (o : Bool) → p x ≡ o → b ≤ least (map f (cond o (x ∷ filter p xs) (filter p xs))) → Each (λ x. p x ≡ true → b ≤ f x) (x ∷ xs) =
    λ o. elim o as (λ o. p x ≡ o → b ≤ least (map f (cond o (x ∷ filter p xs) (filter p xs))) → Each (λ x. p x ≡ true → b ≤ f x) (x ∷ xs)) [
      | true ↦ λ e l. ((λ _. omega arith), least-low f p xs b (omega arith))
      | false ↦ λ e l. ((λ t. absurd (true≢false (sym t ∙ e))), least-low f p xs b l)
    ]
    in at (p x) refl h

least-high : {A : Type 0} (f : A → ℕ) (p : A → Bool) (xs : List A) (b : ℕ) → b ≤ 2 ^ 62 → Each (λ x. p x ≡ true → b ≤ f x) xs
    → b ≤ least (map f (filter p xs))
least-high f p [] b t h = t
least-high f p (x ∷ xs) b t h = let rest : b ≤ least (map f (filter p xs)) = least-high f p xs b t h.1 in
    let at : (o : Bool) → p x ≡ o → b ≤ least (map f (cond o (x ∷ filter p xs) (filter p xs))) =
    λ o. elim o as (λ o. p x ≡ o → b ≤ least (map f (cond o (x ∷ filter p xs) (filter p xs)))) [
      | true ↦ λ e. let q : b ≤ f x = h.0 e in omega arith
      | false ↦ λ e. rest
    ]
    in at (p x) refl

least-top : {A : Type 0} (f : A → ℕ) (p : A → Bool) (xs : List A) → least (map f (filter p xs)) ≤ 2 ^ 62
least-top f p [] = omega arith
least-top f p (x ∷ xs) = elim (p x) as (λ o. least (map f (cond o (x ∷ filter p xs) (filter p xs))) ≤ 2 ^ 62)
    [ true ↦ (let h : least (map f (filter p xs)) ≤ 2 ^ 62 = least-top f p xs in omega arith) | false ↦ least-top f p xs ]

pub each-header : (P : Header → Type 0) (bs : List AcceptedTablet) → Each (λ b. P b.header) bs → Each P (heads bs)
each-header P [] h = tt
each-header P (b ∷ bs) h = (h.0, each-header P bs h.1)

header-each : (P : Header → Type 0) (bs : List AcceptedTablet) → Each P (heads bs) → Each (λ b. P b.header) bs
header-each P [] h = tt
header-each P (b ∷ bs) h = (h.0, header-each P bs h.1)

pub none-index : {A B : Type 0} (xs : List A) (ys : List B) (i : ℕ) (d : B) → length ys ≡ length xs → slice_get xs i ≡ None
    → get_or ys i d ≡ d
none-index [] [] i d l e = refl
none-index [] (y ∷ ys) i d l e = absurd (omega arith)
none-index (x ∷ xs) [] i d l e = absurd (omega arith)
none-index (x ∷ xs) (y ∷ ys) zero d l e = cc
none-index (x ∷ xs) (y ∷ ys) (suc i) d l e = none-index xs ys i d (omega arith) e

-- ---- one tablet

floor-end : (b : AcceptedTablet) → IsGrown b → (order_at b (length b.records)).floor ≡ b.end.floor
floor-end b g = ap (λ (rs : _). (fold after b.start rs).floor) (take_all (length b.records) b.records (omega arith))
    ∙ ap (λ (p : Progress). p.floor) (sym g.end)

floor-high : (places : List ℕ) (b : AcceptedTablet) → IsGrown b → place places b ≤ length b.records → last_safe_in places b ≤ b.end.floor
floor-high places b g w = let up : (order_at b (place places b)).floor ≤ (order_at b (length b.records)).floor =
    floor-take b.start (place places b) (length b.records) b.records g.in_order w in
    let e = floor-end b g in omega arith

floor-low : (places : List ℕ) (b : AcceptedTablet) → IsGrown b → b.start.floor ≤ last_safe_in places b
floor-low places b g = floor-take b.start zero (place places b) b.records g.in_order (omega arith)

-- ---- what is kept, and the logs

module _ (logs : Logs) (places : List ℕ) (f : Floors) (valid : is_valid logs ≡ true) (legal : IsPlaces logs places)
    (right : FloorsFor logs places f) where
  count : length f.closed ≡ length (accepted_tablets logs)
  count = right.closed ∙ ap length (right.headers ∙ sym (heads-logs logs))
      ∙ length-map (accepted_tablets logs) (λ (b : AcceptedTablet). b.header)

  -- f has as closed those that are
  pub closed-kept : (p : ℕ) → has_closed f p ≡ is_closed logs places p
  closed-kept p = go (slice_get (accepted_tablets logs) p) refl
    where
      go : (o : Option AcceptedTablet) → slice_get (accepted_tablets logs) p ≡ o → has_closed f p ≡ is_closed logs places p
      go None e = none-index (accepted_tablets logs) f.closed p false count e ∙ sym (none-closed logs places p e)
      go (Some d) e = ap (has_closed f) (sym (get-id logs p d valid e))
          ∙ (each-get (FloorFor logs places f) (accepted_tablets logs) p d right.each e).closed ∙ sym (closed-of logs places p d e)

  started-kept : (q : Option ℕ) → option_map_or (has_closed f) q true ≡ is_started logs places q
  started-kept None = refl
  started-kept (Some p) = closed-kept p

  abbrev value : Header → ℕ
  value h = slice_index f.safe h.id

  counted : (b : AcceptedTablet) → FloorFor logs places f b → is_closed_in places b ≡ false → is_started logs places b.header.parent ≡ true
      → counts f b.header ≡ true
  counted b k c t = and_from (not (has_closed f b.header.id)) (starts f b.header) (ap not (k.closed ∙ c)) (started-kept b.header.parent ∙ t)

  same-heads : f.headers ≡ heads (accepted_tablets logs)
  same-heads = right.headers ∙ sym (heads-logs logs)

  low : Each (λ b. counts f b.header ≡ true → least_kept f ≤ value b.header) (accepted_tablets logs)
  low = header-each (λ h. counts f h ≡ true → least_kept f ≤ value h) (accepted_tablets logs)
      (subst (Each (λ h. counts f h ≡ true → least_kept f ≤ value h)) same-heads
      (least-low value (counts f) f.headers (least_kept f) (omega arith)))

  -- a tablet that hasn't started holds at least what its parent does
  under-low : (b : AcceptedTablet) (i : ℕ) → slice_get (accepted_tablets logs) i ≡ Some b → (q : Option ℕ) → b.header.parent ≡ q
      → is_started logs places q ≡ false
      → ((p : ℕ) (d : AcceptedTablet) → p < b.header.id → slice_get (accepted_tablets logs) p ≡ Some d → is_closed_in places d ≡ false
      → least_kept f ≤ last_safe_in places d) → least_kept f ≤ last_safe_in places b
  under-low b i e None q s ih = cc
  under-low b i e (Some p) q s ih = let u : UnderParent (accepted_tablets logs) p b = get-under logs i b valid e p q in
      let parent : least_kept f ≤ last_safe_in places u.parent =
      ih p u.parent u.below u.there (sym (closed-of logs places p u.parent u.there) ∙ s) in
      let high : last_safe_in places u.parent ≤ u.parent.end.floor =
      floor-high places u.parent (each-get IsGrown (accepted_tablets logs) p u.parent (accepted_tablets-grown logs) u.there)
      (each-get (λ b. place places b ≤ length b.records) (accepted_tablets logs) p u.parent legal.within u.there) in
      let begins : u.parent.end.floor ≡ b.start.floor = u.floor in
      let up : b.start.floor ≤ last_safe_in places b =
      floor-low places b (each-get IsGrown (accepted_tablets logs) i b (accepted_tablets-grown logs) e) in
      omega arith

  low-at : (n i : ℕ) (b : AcceptedTablet) → i < n → slice_get (accepted_tablets logs) i ≡ Some b → is_closed_in places b ≡ false
      → least_kept f ≤ last_safe_in places b
  low-at zero i b l e c = absurd (omega arith)
  low-at (suc n) i b l e c =
      let k : FloorFor logs places f b = each-get (FloorFor logs places f) (accepted_tablets logs) i b right.each e in
      let id : b.header.id ≡ i = get-id logs i b valid e in
      ⊎_elim
      (λ started.
      let q : least_kept f ≤ value b.header =
      each-get (λ b. counts f b.header ≡ true → least_kept f ≤ value b.header) (accepted_tablets logs) i b low e (counted b k c started)
      in
      let same : value b.header ≡ last_safe_in places b = k.safe started in omega arith)
      (λ waits. under-low b i e b.header.parent refl waits (λ p d below there open_. low-at n p d (omega arith) there open_))
      (cases_Bool (is_started logs places b.header.parent))

  below : least_kept f ≤ safe_time logs places
  unfolding safe_time
  below = least-high (last_safe_in places) (λ b. not (is_closed_in places b)) (accepted_tablets logs) (least_kept f)
      (least-top value (counts f) f.headers)
      (each-from (λ b. not (is_closed_in places b) ≡ true → least_kept f ≤ last_safe_in places b) (accepted_tablets logs)
      (λ i b e o. low-at (suc i) i b (omega arith) e (open-of (is_closed_in places b) o)))
    where
      open-of : (c : Bool) → not c ≡ true → c ≡ false
      open-of true e = cc
      open-of false e = refl

  all-high : Each (λ b. not (is_closed_in places b) ≡ true → safe_time logs places ≤ last_safe_in places b) (accepted_tablets logs)
  unfolding safe_time
  all-high = least-low (last_safe_in places) (λ b. not (is_closed_in places b)) (accepted_tablets logs) (safe_time logs places)
      (omega arith)

  top : safe_time logs places ≤ 2 ^ 62
  unfolding safe_time
  top = least-top (last_safe_in places) (λ b. not (is_closed_in places b)) (accepted_tablets logs)

  above : safe_time logs places ≤ least_kept f
  above = least-high value (counts f) f.headers (safe_time logs places) top
      (subst (Each (λ h. counts f h ≡ true → safe_time logs places ≤ value h)) (sym same-heads)
      (each-header (λ h. counts f h ≡ true → safe_time logs places ≤ value h) (accepted_tablets logs)
      (each-from (λ b. counts f b.header ≡ true → safe_time logs places ≤ value b.header) (accepted_tablets logs)
      (λ i b e t.
      let k : FloorFor logs places f b = each-get (FloorFor logs places f) (accepted_tablets logs) i b right.each e in
      let parts = and_parts _ _ t in
      let same : value b.header ≡ last_safe_in places b = k.safe (sym (started-kept b.header.parent) ∙ parts.1) in
      let high : safe_time logs places ≤ last_safe_in places b =
      each-get (λ b. not (is_closed_in places b) ≡ true → safe_time logs places ≤ last_safe_in places b) (accepted_tablets logs) i b
      all-high e (ap not (sym k.closed) ∙ parts.0) in
      omega arith))))

pub kept-values : KeptValuesSuffice
kept-values logs places f valid legal right = let a : least_kept f ≤ safe_time logs places =
    below logs places f valid legal right in let b : safe_time logs places ≤ least_kept f =
    above logs places f valid legal right in omega arith

pub safe-rises : SafeTimeRises
safe-rises logs a b p r = safe_time-rises logs a b p r
