-- What the calls do to the versions of one key, and what is shown of versions in order.
use Rattle.std.proofs.Common.{◌≡◌, ℕ, ◌<◌, ◌≤◌, Bool, true, false, cond, not, List, [], ◌∷◌, ◌++◌, Some, None, map, refl, ap, sym, ◌∙◌}
use Rattle.std.proofs.Common.{arith, ⊎_elim, subst}
use Rattle.std.specs.Prelude.{bytes_eq, nat_le, ◌||◌, ◌&&◌, filter}
use Rattle.std.specs.List.{list_any}
use Rattle.std.specs.declared.cmp.Ordering.TheVariants.{Less, Equal, Greater}
use Rattle.std.specs.declared.cmp.Ordering.{Ordering}
use Rattle.std.specs.Ordering.{is_gt, is_eq, nat_cmp, ordering_then, ordering_reverse}
use Rattle.std.specs.Cmp.Lexicographic.{slice_cmp}
use Rattle.std.proofs.lemmas.Map.Text.{is_eq-slice_cmp}
use Rattle.std.proofs.lemmas.Cmp.{upto as not_above_both, nat_list_cmp_total}
use Rattle.std.proofs.lemmas.Slice.Eq.{bytes_eq-Decides}
use Rattle.std.proofs.lemmas.Bool.{cases_Bool, or_parts, or_cases, or_right, and_parts, and_from, leb-true, le-leb}
use Rattle.std.proofs.lemmas.Bool.Decides.{nat_tests}
use Rattle.xc_record.proofs.ListLaws.{Each, Each-weaker, Each-filter}
use Rattle.xc_record.specs.Path.{Version, version_cmp}
use Rattle.xc_record.specs.Lists.{put_after}
use Rattle.xc_record.specs.Kept.{upto, above, last_of, kept_from, version_of}
use Rattle.xc_versions.specs.declared.stored.StoredVersion.{StoredVersion}
use Rattle.xc_versions.proofs.StoredOrder.{stored-total, place_cmp, same-key, commits-rise}
use Rattle.xc_versions.specs.Stored.{stored_cmp, IsBefore, InOrder, IsLast, IsNew, with_version, is_replaced, next_replaces, is_due}
use Rattle.xc_versions.specs.Stored.{pruned_before, kept, up_to, stored_at, key_versions, without_place}

abbrev pub version : StoredVersion → Version
version x = version_of (without_place x)

-- ---- the versions of a key, one version at a time

pub stored_at-in : (k : List ℕ) (x : StoredVersion) (xs : List StoredVersion) → bytes_eq k x.key ≡ true
    → stored_at k (x ∷ xs) ≡ version x ∷ stored_at k xs
stored_at-in k x xs e =
    let rest = filter (λ v. bytes_eq k v.key) (key_versions xs) in ap (λ b. map version_of (cond b (without_place x ∷ rest) rest)) e

pub stored_at-out : (k : List ℕ) (x : StoredVersion) (xs : List StoredVersion) → bytes_eq k x.key ≡ false
    → stored_at k (x ∷ xs) ≡ stored_at k xs
stored_at-out k x xs e =
    let rest = filter (λ v. bytes_eq k v.key) (key_versions xs) in ap (λ b. map version_of (cond b (without_place x ∷ rest) rest)) e

-- ---- what a restore leaves

pub stored_at-up_to : (k : List ℕ) (t : ℕ) (xs : List StoredVersion) → stored_at k (up_to t xs) ≡ filter (upto t) (stored_at k xs)
stored_at-up_to k t [] = refl
stored_at-up_to k t (x ∷ xs) = grind (arith, nat_tests, stored_at-up_to k t xs, stored_at-in, stored_at-out)

-- ---- what a cutoff leaves

replaced-at : (u : ℕ) (x : StoredVersion) (xs : List StoredVersion) → is_replaced u x xs ≡ list_any (upto u) (stored_at x.key xs)
replaced-at u x [] = refl
replaced-at u x (y ∷ ys) = grind (arith, nat_tests, replaced-at u x ys, stored_at-in, stored_at-out)

pub rises-at : (x : StoredVersion) (xs : List StoredVersion) → Each (IsBefore x) xs → Each (λ v. x.commit ≤ v.commit) (stored_at x.key xs)
rises-at x [] h = tt
rises-at x (y ∷ ys) h =
    let P : List Version → Type 0 = λ vs. Each (λ v. x.commit ≤ v.commit) vs in
    ⊎_elim {C = P (stored_at x.key (y ∷ ys))}
    (λ e. rw (stored_at-in x.key y ys e) (commits-rise x y e h.0, rises-at x ys h.1))
    (λ e. rw (stored_at-out x.key y ys e) (rises-at x ys h.1))
    (cases_Bool (bytes_eq x.key y.key))

none-upto : (u : ℕ) (vs : List Version) → list_any (upto u) vs ≡ false → filter (upto u) vs ≡ []
none-upto u [] e = refl
none-upto u (w ∷ ws) e = let p = or_parts (upto u w) (list_any (upto u) ws) e in grind (arith, nat_tests, none-upto u ws p.1, p.0)

all-above : (u : ℕ) (vs : List Version) → list_any (upto u) vs ≡ false → filter (above u) vs ≡ vs
all-above u [] e = refl
all-above u (w ∷ ws) e = let p = or_parts (upto u w) (list_any (upto u) ws) e in grind (arith, nat_tests, all-above u ws p.1, p.0)

first-kept : (u : ℕ) (v : Version) (vs : List Version) → list_any (upto u) vs ≡ false → kept_from u (v ∷ vs) ≡ v ∷ kept_from u vs
first-kept u v vs e = grind (arith, nat_tests, none-upto u vs e, all-above u vs e)

last_of-more : (u : ℕ) (v : Version) (vs : List Version) → list_any (upto u) vs ≡ true
    → last_of (v ∷ filter (upto u) vs) ≡ last_of (filter (upto u) vs)
last_of-more u v [] e = cc
last_of-more u v (w ∷ ws) e = grind (arith, nat_tests, last_of-more u v ws)

some-upto : (u : ℕ) (v : Version) (vs : List Version) → list_any (upto u) vs ≡ true → Each (λ w. v.commit ≤ w.commit) vs → v.commit ≤ u
some-upto u v [] e h = cc
some-upto u v (w ∷ ws) e h = grind (arith, nat_tests, some-upto u v ws, h.0, h.1)

first-replaced : (u : ℕ) (v : Version) (vs : List Version) → list_any (upto u) vs ≡ true → Each (λ w. v.commit ≤ w.commit) vs
    → kept_from u (v ∷ vs) ≡ kept_from u vs
first-replaced u v vs e h = let le = some-upto u v vs e h in let more = last_of-more u v vs e in grind (arith, nat_tests)

pub own-key : (x : StoredVersion) → bytes_eq x.key x.key ≡ true
own-key x = (bytes_eq-Decides x.key x.key).1 refl

kept-own : (u : ℕ) (x : StoredVersion) (xs : List StoredVersion) → Each (IsBefore x) xs
    → stored_at x.key (kept u xs) ≡ kept_from u (stored_at x.key xs)
    → stored_at x.key (kept u (x ∷ xs)) ≡ kept_from u (stored_at x.key (x ∷ xs))
kept-own u x xs o rest =
    let vs = stored_at x.key xs in
    let front : kept_from u (stored_at x.key (x ∷ xs)) ≡ kept_from u (version x ∷ vs) =
    ap (kept_from u) (stored_at-in x.key x xs (own-key x)) in
    let at : (b : Bool) → is_replaced u x xs ≡ b
    → stored_at x.key (cond b (kept u xs) (x ∷ kept u xs)) ≡ kept_from u (stored_at x.key (x ∷ xs)) =
    λ b. elim b as
    (λ b. is_replaced u x xs ≡ b → stored_at x.key (cond b (kept u xs) (x ∷ kept u xs)) ≡ kept_from u (stored_at x.key (x ∷ xs))) [
      | true ↦ λ e. rest ∙ sym (first-replaced u (version x) vs (sym (replaced-at u x xs) ∙ e) (rises-at x xs o)) ∙ sym front
      | false ↦ λ e. stored_at-in x.key x (kept u xs) (own-key x) ∙ ap (λ w. version x ∷ w) rest
          ∙ sym (first-kept u (version x) vs (sym (replaced-at u x xs) ∙ e)) ∙ sym front
    ]
    in at (is_replaced u x xs) refl

-- A key's versions after a prune are those that the cutoff leaves of them.
pub stored_at-kept : (k : List ℕ) (u : ℕ) (xs : List StoredVersion) → InOrder xs → stored_at k (kept u xs) ≡ kept_from u (stored_at k xs)
stored_at-kept k u [] o = refl
stored_at-kept k u (x ∷ xs) o =
    let rest = stored_at-kept k u xs o.1 in
    let own : bytes_eq k x.key ≡ true → stored_at k (kept u (x ∷ xs)) ≡ kept_from u (stored_at k (x ∷ xs)) =
    λ e. let same : x.key ≡ k = sym ((bytes_eq-Decides k x.key).0 e) in
    subst (λ (q : List ℕ). stored_at q (kept u xs) ≡ kept_from u (stored_at q xs) → stored_at q (kept u (x ∷ xs)) ≡ kept_from u
    (stored_at q (x ∷ xs))) same (kept-own u x xs o.0) rest
    in
    let other : bytes_eq k x.key ≡ false → stored_at k (kept u (x ∷ xs)) ≡ kept_from u (stored_at k (x ∷ xs)) =
    λ e. kept-other k u x xs e ∙ rest ∙ ap (kept_from u) (sym (stored_at-out k x xs e)) in
    ⊎_elim own other (cases_Bool (bytes_eq k x.key))
  where
    kept-other : (k : List ℕ) (u : ℕ) (x : StoredVersion) (xs : List StoredVersion) → bytes_eq k x.key ≡ false
        → stored_at k (kept u (x ∷ xs)) ≡ stored_at k (kept u xs)
    kept-other k u x xs e =
        elim (is_replaced u x xs) as (λ b. stored_at k (cond b (kept u xs) (x ∷ kept u xs)) ≡ stored_at k (kept u xs))
        [ true ↦ refl | false ↦ stored_at-out k x (kept u xs) e ]

pub each-kept : (P : StoredVersion → Type 0) (u : ℕ) (xs : List StoredVersion) → Each P xs → Each P (kept u xs)
each-kept P u [] h = tt
each-kept P u (x ∷ xs) h =
    elim (is_replaced u x xs) as (λ b. Each P (cond b (kept u xs) (x ∷ kept u xs)))
    [ true ↦ each-kept P u xs h.1 | false ↦ (h.0, each-kept P u xs h.1) ]

pub kept-in_order : (u : ℕ) (xs : List StoredVersion) → InOrder xs → InOrder (kept u xs)
kept-in_order u [] o = tt
kept-in_order u (x ∷ xs) o =
    elim (is_replaced u x xs) as (λ b. InOrder (cond b (kept u xs) (x ∷ kept u xs)))
    [ true ↦ kept-in_order u xs o.1 | false ↦ (each-kept (IsBefore x) u xs o.0, kept-in_order u xs o.1) ]

pub filter-in_order : (p : StoredVersion → Bool) (xs : List StoredVersion) → InOrder xs → InOrder (filter p xs)
filter-in_order p [] o = tt
filter-in_order p (x ∷ xs) o =
    elim (p x) as (λ b. InOrder (cond b (x ∷ filter p xs) (filter p xs)))
    [ true ↦ (Each-filter (IsBefore x) p xs o.0, filter-in_order p xs o.1) | false ↦ filter-in_order p xs o.1 ]

-- ---- what one more version does

-- to the versions of other keys: nothing
pub stored_at-with_other : (k : List ℕ) (v : StoredVersion) (xs : List StoredVersion) → bytes_eq k v.key ≡ false
    → stored_at k (with_version v xs) ≡ stored_at k xs
stored_at-with_other k v [] e = stored_at-out k v [] e
stored_at-with_other k v (y ∷ ys) e =
    elim (is_gt (stored_cmp v y)) as (λ b. stored_at k (cond b (y ∷ with_version v ys) (v ∷ y ∷ ys)) ≡ stored_at k (y ∷ ys)) [
      | true ↦ grind (arith, nat_tests, stored_at-with_other k v ys e, stored_at-in, stored_at-out)
      | false ↦ stored_at-out k v (y ∷ ys) e
    ]

-- a version of the key comes behind v in both orders, or in neither
turned : (v y : StoredVersion) → y.key ≡ v.key → (y.commit ≡ v.commit → y.txn ≡ v.txn → y.place < v.place)
    → is_gt (version_cmp (version y) (version v)) ≡ not (is_gt (stored_cmp v y))
turned v y e last =
    let same : stored_cmp v y ≡ place_cmp v y = same-key v y ((bytes_eq-Decides v.key y.key).1 (sym e)) in
    let by_numbers : is_gt (version_cmp (version y) (version v)) ≡ not (is_gt (place_cmp v y)) = grind (arith, nat_tests) in
    by_numbers ∙ ap (λ o. not (is_gt o)) (sym same)

before-first : (w : Version) (vs : List Version) → Each (λ z. is_gt (version_cmp z w) ≡ true) vs → put_after version_cmp w vs ≡ w ∷ vs
before-first w [] h = refl
before-first w (z ∷ zs) h = ap (λ b. cond b (w ∷ z ∷ zs) (z ∷ put_after version_cmp w zs)) h.0

behind-at : (v : StoredVersion) (xs : List StoredVersion) → IsLast v xs → Each (λ z. is_gt (stored_cmp v z) ≡ false) xs
    → Each (λ z. is_gt (version_cmp z (version v)) ≡ true) (stored_at v.key xs)
behind-at v [] last h = tt
behind-at v (y ∷ ys) last h =
    let P : List Version → Type 0 = λ vs. Each (λ z. is_gt (version_cmp z (version v)) ≡ true) vs in
    ⊎_elim {C = P (stored_at v.key (y ∷ ys))}
    (λ e. rw (stored_at-in v.key y ys e) (
      turned v y (sym ((bytes_eq-Decides v.key y.key).0 e)) (last.0 (sym ((bytes_eq-Decides v.key y.key).0 e)))
          ∙ ap not h.0,
      behind-at v ys last.1 h.1,
    ))
    (λ e. rw (stored_at-out v.key y ys e) (behind-at v ys last.1 h.1))
    (cases_Bool (bytes_eq v.key y.key))

pub not-above : (v y : StoredVersion) (ys : List StoredVersion) → is_gt (stored_cmp v y) ≡ false → Each (IsBefore y) ys
    → Each (λ z. is_gt (stored_cmp v z) ≡ false) ys
not-above v y ys e h =
    Each-weaker (IsBefore y) (λ z. is_gt (stored_cmp v z) ≡ false) (λ z b. not_above_both stored-total v y z e (ap is_gt b)) ys h

-- to the versions of its key: it comes behind those that tie with it
pub stored_at-with : (v : StoredVersion) (xs : List StoredVersion) → InOrder xs → IsLast v xs
    → stored_at v.key (with_version v xs) ≡ put_after version_cmp (version v) (stored_at v.key xs)
stored_at-with v [] o last = stored_at-in v.key v [] (own-key v)
stored_at-with v (y ∷ ys) o last =
    let rest = stored_at-with v ys o.1 last.1 in
    let vs = stored_at v.key ys in
    let at : (b : Bool) → is_gt (stored_cmp v y) ≡ b
    → stored_at v.key (cond b (y ∷ with_version v ys) (v ∷ y ∷ ys)) ≡ put_after version_cmp (version v) (stored_at v.key (y ∷ ys)) =
    λ b. elim b as
    (λ b. is_gt (stored_cmp v y) ≡ b → stored_at v.key (cond b (y ∷ with_version v ys) (v ∷ y ∷ ys)) ≡ put_after version_cmp (version v)
    (stored_at v.key (y ∷ ys))) [
      | true ↦ λ e. ⊎_elim
          (λ k. let same = sym ((bytes_eq-Decides v.key y.key).0 k) in
          stored_at-in v.key y (with_version v ys) k ∙ ap (λ w. version y ∷ w) rest
          ∙ sym (ap (λ b. cond b (version v ∷ version y ∷ vs) (version y ∷ put_after version_cmp (version v) vs))
          (turned v y same (last.0 same) ∙ ap not e))
          ∙ ap (put_after version_cmp (version v)) (sym (stored_at-in v.key y ys k)))
          (λ k. stored_at-out v.key y (with_version v ys) k ∙ rest
          ∙ ap (put_after version_cmp (version v)) (sym (stored_at-out v.key y ys k)))
          (cases_Bool (bytes_eq v.key y.key))
      | false ↦ λ e. stored_at-in v.key v (y ∷ ys) (own-key v)
          ∙ sym (before-first (version v) (stored_at v.key (y ∷ ys)) (behind-at v (y ∷ ys) last (e, not-above v y ys e o.0)))
    ]
    in at (is_gt (stored_cmp v y)) refl

tied-place : (v y : StoredVersion) → place_cmp v y ≡ Equal → (y.commit ≡ v.commit → y.txn ≡ v.txn → y.place < v.place) → ⊥
tied-place v y e last = grind (arith, nat_tests)

-- a version behind those of its key, commit and number is new
pub new-last : (v : StoredVersion) (xs : List StoredVersion) → IsLast v xs → IsNew v xs
new-last v [] h = tt
new-last v (y ∷ ys) h = (
  λ e. let k : bytes_eq v.key y.key ≡ true =
      sym (is_eq-slice_cmp v.key y.key) ∙ ap is_eq (first-tied (slice_cmp nat_cmp v.key y.key) (place_cmp v y) e) in
      tied-place v y (sym (same-key v y k) ∙ e) (h.0 (sym ((bytes_eq-Decides v.key y.key).0 k))),
  new-last v ys h.1,
)
  where
    first-tied : (a b : Ordering) → ordering_then a b ≡ Equal → a ≡ Equal
    first-tied Less b e = e
    first-tied Equal b e = refl
    first-tied Greater b e = e

-- ---- lists stay in order

pub each-with : (P : StoredVersion → Type 0) (v : StoredVersion) (xs : List StoredVersion) → P v → Each P xs → Each P (with_version v xs)
each-with P v [] p h = (p, tt)
each-with P v (y ∷ ys) p h =
    elim (is_gt (stored_cmp v y)) as (λ b. Each P (cond b (y ∷ with_version v ys) (v ∷ y ∷ ys)))
    [ true ↦ (h.0, each-with P v ys p h.1) | false ↦ (p, h) ]

pub with-in_order : (v : StoredVersion) (xs : List StoredVersion) → InOrder xs → IsNew v xs → InOrder (with_version v xs)
with-in_order v [] o n = (tt, tt)
with-in_order v (y ∷ ys) o n =
    let at : (r : Ordering) → stored_cmp v y ≡ r → InOrder (cond (is_gt r) (y ∷ with_version v ys) (v ∷ y ∷ ys)) =
    λ r. elim r as (λ r. stored_cmp v y ≡ r → InOrder (cond (is_gt r) (y ∷ with_version v ys) (v ∷ y ∷ ys))) [
      | Less ↦ λ e. ((e, Each-weaker (IsBefore y) (IsBefore v) (λ z b. stored-total.trans v y z e b) ys o.0), o)
      | Equal ↦ λ e. absurd (n.0 e)
      | Greater ↦ λ e. (each-with (IsBefore y) v ys (stored-total.antisymm y v ∙ ap ordering_reverse e) o.0, with-in_order v ys o.1 n.1)
    ]
    in at (stored_cmp v y) refl

-- ---- a prune sees only the next version

replacing-same : (u : ℕ) (x y : StoredVersion) (ys : List StoredVersion) → bytes_eq x.key y.key ≡ true
    → is_replaced u y ys ≡ is_replaced u x ys
replacing-same u x y ys e =
    let same : x.key ≡ y.key =
    (bytes_eq-Decides x.key y.key).0 e in ap (λ (k : List ℕ). list_any (λ z. bytes_eq k z.key && nat_le z.commit u) ys) (sym same)

pub replaced-kept : (u : ℕ) (x : StoredVersion) (xs : List StoredVersion) → is_replaced u x (kept u xs) ≡ is_replaced u x xs
replaced-kept u x [] = refl
replaced-kept u x (y ∷ ys) =
    let rest = replaced-kept u x ys in
    let at : (b : Bool) → is_replaced u y ys ≡ b → is_replaced u x (cond b (kept u ys) (y ∷ kept u ys)) ≡ is_replaced u x (y ∷ ys) =
    λ b. elim b as (λ b. is_replaced u y ys ≡ b → is_replaced u x (cond b (kept u ys) (y ∷ kept u ys)) ≡ is_replaced u x (y ∷ ys)) [
      | true ↦ λ e. rest ∙ ⊎_elim
          (λ k. (sym (replacing-same u x y ys k) ∙ e)
          ∙ sym (or_right (bytes_eq x.key y.key && nat_le y.commit u) (is_replaced u x ys) (sym (replacing-same u x y ys k) ∙ e)))
          (λ k. sym (ap (λ b. (b && nat_le y.commit u) || is_replaced u x ys) k))
          (cases_Bool (bytes_eq x.key y.key))
      | false ↦ λ e. ap (λ b. (bytes_eq x.key y.key && nat_le y.commit u) || b) rest
    ]
    in at (is_replaced u y ys) refl

key-not-after : (a b : Ordering) → ordering_then a b ≡ Less → is_gt a ≡ false
key-not-after Less b e = refl
key-not-after Equal b e = refl
key-not-after Greater b e = cc

both-not-after : (a b : Ordering) → a ≡ ordering_reverse b → is_gt a ≡ false → is_gt b ≡ false → is_eq a ≡ true
both-not-after Less Less e f g = cc
both-not-after Less Equal e f g = cc
both-not-after Less Greater e f g = cc
both-not-after Equal b e f g = refl
both-not-after Greater b e f g = cc

-- a version between two of a key is of the key
pub between-same : (x y z : StoredVersion) → IsBefore x y → IsBefore y z → bytes_eq x.key z.key ≡ true → bytes_eq x.key y.key ≡ true
between-same x y z b c e =
    let same : x.key ≡ z.key = (bytes_eq-Decides x.key z.key).0 e in
    let first = key-not-after (slice_cmp nat_cmp x.key y.key) (place_cmp x y) b in
    let second : is_gt (slice_cmp nat_cmp y.key x.key) ≡ false =
    subst (λ (k : List ℕ). is_gt (slice_cmp nat_cmp y.key k) ≡ false) (sym same)
    (key-not-after (slice_cmp nat_cmp y.key z.key) (place_cmp y z) c) in
    sym (is_eq-slice_cmp x.key y.key)
    ∙ both-not-after (slice_cmp nat_cmp x.key y.key) (slice_cmp nat_cmp y.key x.key) (nat_list_cmp_total.antisymm x.key y.key) first
    second

-- whoever replaces x later, the next version does too
replaced-next : (u : ℕ) (x y : StoredVersion) (ys : List StoredVersion) → IsBefore x y → Each (IsBefore y) ys → is_replaced u x ys ≡ true
    → (bytes_eq x.key y.key && nat_le y.commit u) ≡ true
replaced-next u x y [] b h e = cc
replaced-next u x y (z ∷ zs) b h e =
    ⊎_elim
    (λ k. let p = and_parts (bytes_eq x.key z.key) (nat_le z.commit u) k in
    let own : bytes_eq x.key y.key ≡ true = between-same x y z b h.0 p.0 in
    let next : bytes_eq y.key z.key ≡ true = subst (λ (q : List ℕ). bytes_eq q z.key ≡ true) ((bytes_eq-Decides x.key y.key).0 own) p.0 in
    let low = commits-rise y z next h.0 in
    let high = leb-true z.commit u p.1 in
    and_from (bytes_eq x.key y.key) (nat_le y.commit u) own (le-leb y.commit u (omega arith)))
    (λ k. replaced-next u x y zs b h.1 k)
    (or_cases (bytes_eq x.key z.key && nat_le z.commit u) (is_replaced u x zs) e)

pub next-replaces : (u : ℕ) (x y : StoredVersion) (ys : List StoredVersion)
    → next_replaces u x (y ∷ ys) ≡ (bytes_eq x.key y.key && nat_le y.commit u)
next-replaces u x y ys =
    elim (bytes_eq x.key y.key) as (λ b. is_due u (cond b (Some y.commit) None) ≡ (b && nat_le y.commit u)) [ true ↦ refl | false ↦ refl ]

pub replaced-first : (u : ℕ) (x : StoredVersion) (xs : List StoredVersion) → Each (IsBefore x) xs → InOrder xs
    → is_replaced u x xs ≡ next_replaces u x xs
replaced-first u x [] h o = refl
replaced-first u x (y ∷ ys) h o =
    let at : (b : Bool) → is_replaced u x ys ≡ b
    → ((bytes_eq x.key y.key && nat_le y.commit u) || b) ≡ (bytes_eq x.key y.key && nat_le y.commit u) =
    λ b. elim b as
    (λ b. is_replaced u x ys ≡ b → ((bytes_eq x.key y.key && nat_le y.commit u) || b) ≡ (bytes_eq x.key y.key && nat_le y.commit u)) [
      | true ↦ λ e. let n = replaced-next u x y ys h.0 o.0 e in or_right (bytes_eq x.key y.key && nat_le y.commit u) true refl ∙ sym n
      | false ↦ λ e. grind (arith, nat_tests)
    ]
    in at (is_replaced u x ys) refl ∙ sym (next-replaces u x y ys)

-- what a version that stands before all that was kept adds to it
pub kept-step : (u : ℕ) (x : StoredVersion) (xs : List StoredVersion) → Each (IsBefore x) xs → InOrder xs
    → kept u (x ∷ xs) ≡ cond (next_replaces u x (kept u xs)) (kept u xs) (x ∷ kept u xs)
kept-step u x xs h o =
    ap (λ b. cond b (kept u xs) (x ∷ kept u xs)) (sym (replaced-kept u x xs)
    ∙ replaced-first u x (kept u xs) (each-kept (IsBefore x) u xs h) (kept-in_order u xs o))

-- a prune goes on before what it left
pub kept-before : (u : ℕ) (xs ys : List StoredVersion) → InOrder (xs ++ ys) → kept u (xs ++ ys) ≡ pruned_before u xs (kept u ys)
kept-before u [] ys o = refl
kept-before u (x ∷ xs) ys o =
    kept-step u x (xs ++ ys) o.0 o.1 ∙ ap (λ w. cond (next_replaces u x w) w (x ∷ w)) (kept-before u xs ys o.1)

-- a version that commits after all others is new
pub new-later : (v : StoredVersion) (xs : List StoredVersion) → Each (λ x. x.commit < v.commit) xs → IsNew v xs
new-later v [] h = tt
new-later v (y ∷ ys) h = ((λ e. later-new v y h.0 e), new-later v ys h.1)
  where
    second-tied : (a b : Ordering) → ordering_then a b ≡ Equal → b ≡ Equal
    second-tied Less b e = cc
    second-tied Equal b e = e
    second-tied Greater b e = cc

    later-new : (v y : StoredVersion) → y.commit < v.commit → stored_cmp v y ≡ Equal → ⊥
    later-new v y l e =
        let tied : place_cmp v y ≡ Equal = second-tied (slice_cmp nat_cmp v.key y.key) (place_cmp v y) e in grind (arith, nat_tests)
