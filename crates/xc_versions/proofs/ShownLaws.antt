-- What versions in order show at a time: at a key by the last version that reaches it, and as rows by one walk.
use Rattle.std.proofs.Common.{◌≡◌, ℕ, zero, suc, ◌-◌, get_or, ◌<◌, ◌≤◌, Bool, true, false, cond, List, [], ◌∷◌, ◌++◌, length, None, refl}
use Rattle.std.proofs.Common.{ap, sym, ◌∙◌, arith, subst, append-nil, ⊎_elim, take, drop, take-append-drop}
use Rattle.std.specs.Prelude.{bytes_eq, nat_le, filter}
use Rattle.std.specs.declared.cmp.Ordering.{Ordering}
use Rattle.std.specs.declared.cmp.Ordering.TheVariants.{Less, Equal, Greater}
use Rattle.std.specs.Ordering.{is_gt, is_eq, nat_cmp, ordering_then, ordering_reverse, match_ordering}
use Rattle.std.specs.Cmp.Lexicographic.{slice_cmp}
use Rattle.std.proofs.lemmas.Cmp.{upto as not_above_both, nat_list_cmp_total, tied_back}
use Rattle.std.proofs.lemmas.Map.Text.{is_eq-slice_cmp}
use Rattle.std.proofs.lemmas.Slice.Eq.{bytes_eq-Decides}
use Rattle.std.proofs.lemmas.Bool.{cases_Bool, lt-leb, leb-false}
use Rattle.std.proofs.lemmas.Bool.Decides.{nat_tests}
use Rattle.std.proofs.lemmas.List.Elements.{filter-append}
use Rattle.xc_record.proofs.ListLaws.{Each, Each-weaker}
use Rattle.xc_record.specs.Path.{Written}
use Rattle.xc_record.specs.Kept.{upto, last_of, value_of, shown}
use Rattle.xc_versions.specs.declared.stored.StoredVersion.{StoredVersion}
use Rattle.xc_versions.specs.Splits.{Splits, Falls}
use Rattle.xc_versions.specs.Stored.{IsBefore, InOrder, stored_at, reaches}
use Rattle.xc_versions.proofs.StoredOrder.{place_cmp, keys-tie, commits-rise, in_order-left}
use Rattle.xc_versions.proofs.VersionLaws.{version, stored_at-in, stored_at-out, filter-in_order}

abbrev key_cmp : List ℕ → List ℕ → Ordering
key_cmp = slice_cmp nat_cmp

-- ---- keys along versions in order

key-first : (a b : Ordering) → ordering_then a b ≡ Less → is_gt a ≡ false
key-first Less b e = refl
key-first Equal b e = refl
key-first Greater b e = cc

pub keys-rise : (x y : StoredVersion) → IsBefore x y → is_gt (key_cmp x.key y.key) ≡ false
keys-rise x y b = key-first (key_cmp x.key y.key) (place_cmp x y) b

both-ways : (a b : Ordering) → a ≡ ordering_reverse b → is_gt a ≡ false → is_gt b ≡ false → a ≡ Equal
both-ways a Less e f g = absurd (not-gt a e f)
  where
    not-gt : (a : Ordering) → a ≡ Greater → is_gt a ≡ false → ⊥
    not-gt a e f = let h : is_gt Greater ≡ false = subst (λ (o : Ordering). is_gt o ≡ false) e f in cc
both-ways a Equal e f g = e
both-ways a Greater e f g = cc

between : (a b c : List ℕ) → is_gt (key_cmp a b) ≡ false → is_gt (key_cmp b c) ≡ false → bytes_eq a c ≡ true → bytes_eq a b ≡ true
between a b c f g e =
    let same : a ≡ c = (bytes_eq-Decides a c).0 e in
    let back : is_gt (key_cmp b a) ≡ false = subst (λ (q : List ℕ). is_gt (key_cmp b q) ≡ false) (sym same) g in
    sym (is_eq-slice_cmp a b) ∙ ap is_eq (both-ways (key_cmp a b) (key_cmp b a) (nat_list_cmp_total.antisymm a b) f back)

-- ---- the search for a key at a time falls

pub above-key : (a k : List ℕ) → key_cmp a k ≡ Less → key_cmp k a ≡ Greater
above-key a k e = nat_list_cmp_total.antisymm k a ∙ ap ordering_reverse e

not-greater : (o : Ordering) → o ≡ Greater → is_gt o ≡ false → ⊥
not-greater o e f = let h : is_gt Greater ≡ false = subst (λ (o : Ordering). is_gt o ≡ false) e f in cc

-- what both tests say where the keys of x and y compare to k as o and p
abbrev Back : ℕ → StoredVersion → StoredVersion → Ordering → Ordering → Type 0
Back t x y o p = match_ordering o true (nat_le x.commit t) false ≡ false → match_ordering p true (nat_le y.commit t) false ≡ false

reaches-back : (k : List ℕ) (t : ℕ) (x y : StoredVersion) → IsBefore x y → reaches k t x ≡ false → reaches k t y ≡ false
reaches-back k t x y b e = back (key_cmp x.key k) refl (key_cmp y.key k) refl e
  where
    rises : is_gt (key_cmp x.key y.key) ≡ false
    rises = keys-rise x y b

    above : key_cmp x.key k ≡ Greater → is_gt (key_cmp y.key k) ≡ false → ⊥
    above e f = not-greater (key_cmp x.key k) e (not_above_both nat_list_cmp_total x.key y.key k rises f)

    back : (o : Ordering) → key_cmp x.key k ≡ o → (p : Ordering) → key_cmp y.key k ≡ p → Back t x y o p
    back Less e p f h = cc
    back Equal e Less f h =
        absurd (not-greater (key_cmp x.key y.key) (nat_list_cmp_total.congr x.key k y.key e ∙ above-key y.key k f) rises)
    back Equal e Equal f h =
        let same : bytes_eq x.key y.key ≡ true =
        sym (is_eq-slice_cmp x.key y.key)
        ∙ ap is_eq (nat_list_cmp_total.congr x.key k y.key e ∙ tied_back nat_list_cmp_total y.key k f) in
        let le : x.commit ≤ y.commit = commits-rise x y same b in
        let lt = leb-false x.commit t h in
        lt-leb y.commit t (omega arith)
    back Equal e Greater f h = refl
    back Greater e Less f h = absurd (above e (ap is_gt f))
    back Greater e Equal f h = absurd (above e (ap is_gt f))
    back Greater e Greater f h = refl

pub reaches-falls : (k : List ℕ) (t : ℕ) (xs : List StoredVersion) → InOrder xs → Falls (reaches k t) xs
reaches-falls k t [] o = tt
reaches-falls k t (x ∷ xs) o =
    (λ e. Each-weaker (IsBefore x) (λ y. reaches k t y ≡ false) (λ y b. reaches-back k t x y b e) xs o.0, reaches-falls k t xs o.1)

-- ---- what is shown at a key

pub stored_at-append : (k : List ℕ) (xs ys : List StoredVersion) → stored_at k (xs ++ ys) ≡ stored_at k xs ++ stored_at k ys
stored_at-append k [] ys = refl
stored_at-append k (x ∷ xs) ys = grind (arith, nat_tests, stored_at-append k xs ys, stored_at-in, stored_at-out)

-- the value of the last of them, where it is of the key
abbrev pub value_at : List ℕ → List StoredVersion → Written
value_at k [] = None
value_at k (x ∷ xs) = cond (bytes_eq k x.key) x.value None

reaches-in : (k : List ℕ) (t : ℕ) (x : StoredVersion) → bytes_eq k x.key ≡ true → reaches k t x ≡ nat_le x.commit t
reaches-in k t x e = ap (λ o. match_ordering o true (nat_le x.commit t) false) (tied_back nat_list_cmp_total k x.key (keys-tie k x.key e))

reached-upto : (k : List ℕ) (t : ℕ) (xs : List StoredVersion) → Each (λ x. reaches k t x ≡ true) xs
    → filter (upto t) (stored_at k xs) ≡ stored_at k xs
reached-upto k t [] h = refl
reached-upto k t (x ∷ xs) h =
    ⊎_elim
    (λ e. ap (filter (upto t)) (stored_at-in k x xs e)
    ∙ ap (λ b. cond b (version x ∷ filter (upto t) (stored_at k xs)) (filter (upto t) (stored_at k xs))) (sym (reaches-in k t x e)
    ∙ h.0)
    ∙ ap (λ w. version x ∷ w) (reached-upto k t xs h.1) ∙ sym (stored_at-in k x xs e))
    (λ e. ap (filter (upto t)) (stored_at-out k x xs e) ∙ reached-upto k t xs h.1 ∙ sym (stored_at-out k x xs e))
    (cases_Bool (bytes_eq k x.key))

passed-upto : (k : List ℕ) (t : ℕ) (xs : List StoredVersion) → Each (λ x. reaches k t x ≡ false) xs → filter (upto t) (stored_at k xs) ≡ []
passed-upto k t [] h = refl
passed-upto k t (x ∷ xs) h =
    ⊎_elim
    (λ e. ap (filter (upto t)) (stored_at-in k x xs e)
    ∙ ap (λ b. cond b (version x ∷ filter (upto t) (stored_at k xs)) (filter (upto t) (stored_at k xs))) (sym (reaches-in k t x e)
    ∙ h.0) ∙ passed-upto k t xs h.1)
    (λ e. ap (filter (upto t)) (stored_at-out k x xs e) ∙ passed-upto k t xs h.1)
    (cases_Bool (bytes_eq k x.key))

reached-key : (k : List ℕ) (t : ℕ) (x : StoredVersion) → reaches k t x ≡ true → is_gt (key_cmp x.key k) ≡ false
reached-key k t x e = at (key_cmp x.key k) (nat_le x.commit t) e
  where
    at : (o : Ordering) (b : Bool) → match_ordering o true b false ≡ true → is_gt o ≡ false
    at Less b e = refl
    at Equal b e = refl
    at Greater b e = cc

last-value : (k : List ℕ) (t : ℕ) (xs : List StoredVersion) → InOrder xs → Each (λ x. reaches k t x ≡ true) xs
    → value_of (last_of (stored_at k xs)) ≡ value_at k (last_of xs)
last-value k t [] o h = refl
last-value k t (x ∷ []) o h =
    ⊎_elim
    (λ e. ap (λ vs. value_of (last_of vs)) (stored_at-in k x [] e) ∙ sym (ap (λ b. cond b x.value None) e))
    (λ e. ap (λ vs. value_of (last_of vs)) (stored_at-out k x [] e) ∙ sym (ap (λ b. cond b x.value None) e))
    (cases_Bool (bytes_eq k x.key))
last-value k t (x ∷ (y ∷ ys)) o h =
    let rest = last-value k t (y ∷ ys) o.1 h.1 in
    ⊎_elim
    (λ e. let f = next-in e in
    ap (λ vs. value_of (last_of vs)) (stored_at-in k x (y ∷ ys) e ∙ ap (λ w. version x ∷ w) (stored_at-in k y ys f))
    ∙ sym (ap (λ vs. value_of (last_of vs)) (stored_at-in k y ys f)) ∙ rest)
    (λ e. ap (λ vs. value_of (last_of vs)) (stored_at-out k x (y ∷ ys) e) ∙ rest)
    (cases_Bool (bytes_eq k x.key))
  where
    next-in : bytes_eq k x.key ≡ true → bytes_eq k y.key ≡ true
    next-in e =
        let same : k ≡ x.key = (bytes_eq-Decides k x.key).0 e in
        between k y.key k (subst (λ (q : List ℕ). is_gt (key_cmp q y.key) ≡ false) (sym same) (keys-rise x y o.0.0))
        (reached-key k t y h.1.0) ((bytes_eq-Decides k k).1 refl)

reached-only : (k : List ℕ) (t : ℕ) (xs : List StoredVersion) → filter (upto t) (stored_at k xs) ≡ stored_at k (filter (reaches k t) xs)
reached-only k t [] = refl
reached-only k t (x ∷ xs) =
    let rest = reached-only k t xs in
    ⊎_elim
    (λ e. ap (filter (upto t)) (stored_at-in k x xs e)
    ∙ ap (λ b. cond b (version x ∷ filter (upto t) (stored_at k xs)) (filter (upto t) (stored_at k xs))) (sym (reaches-in k t x e))
    ∙ here (reaches k t x) e rest)
    (λ e. ap (filter (upto t)) (stored_at-out k x xs e) ∙ rest ∙ other (reaches k t x) e)
    (cases_Bool (bytes_eq k x.key))
  where
    here : (b : Bool) → bytes_eq k x.key ≡ true → filter (upto t) (stored_at k xs) ≡ stored_at k (filter (reaches k t) xs)
        → cond b (version x ∷ filter (upto t) (stored_at k xs)) (filter (upto t) (stored_at k xs)) ≡ stored_at k
        (cond b (x ∷ filter (reaches k t) xs) (filter (reaches k t) xs))
    here true e r = ap (λ w. version x ∷ w) r ∙ sym (stored_at-in k x (filter (reaches k t) xs) e)
    here false e r = r

    other : (b : Bool) → bytes_eq k x.key ≡ false
        → stored_at k (filter (reaches k t) xs) ≡ stored_at k (cond b (x ∷ filter (reaches k t) xs) (filter (reaches k t) xs))
    other true e = sym (stored_at-out k x (filter (reaches k t) xs) e)
    other false e = refl

each-passed : (p : StoredVersion → Bool) (xs : List StoredVersion) → Each (λ x. p x ≡ true) (filter p xs)
each-passed p [] = tt
each-passed p (x ∷ xs) =
    let rest = each-passed p xs in
    let at : (b : Bool) → p x ≡ b → Each (λ x. p x ≡ true) (cond b (x ∷ filter p xs) (filter p xs)) =
    λ b. elim b as (λ b. p x ≡ b → Each (λ x. p x ≡ true) (cond b (x ∷ filter p xs) (filter p xs)))
    [ true ↦ λ e. (e, rest) | false ↦ λ e. rest ]
    in at (p x) refl

-- What is shown at a key is the value of the last version that reaches it, where that is of the key.
pub shown-reaching : (k : List ℕ) (t : ℕ) (xs : List StoredVersion) → InOrder xs
    → shown t (stored_at k xs) ≡ value_at k (last_of (filter (reaches k t) xs))
shown-reaching k t xs o =
    ap (λ vs. value_of (last_of vs)) (reached-only k t xs)
    ∙ last-value k t (filter (reaches k t) xs) (filter-in_order (reaches k t) xs o) (each-passed (reaches k t) xs)

pub shown-at : (k : List ℕ) (t n : ℕ) (xs : List StoredVersion) → InOrder xs → Splits (reaches k t) n xs
    → shown t (stored_at k xs) ≡ value_at k (last_of (take n xs))
shown-at k t n xs o s =
    let A = take n xs in
    let B = drop n xs in
    let whole : stored_at k xs ≡ stored_at k A ++ stored_at k B = ap (stored_at k) (sym (take-append-drop n xs)) ∙ stored_at-append k A B in
    let front : filter (upto t) (stored_at k xs) ≡ stored_at k A =
    ap (filter (upto t)) whole ∙ filter-append (upto t) (stored_at k A) (stored_at k B)
    ∙ ap (λ w. filter (upto t) (stored_at k A) ++ w) (passed-upto k t B s.back) ∙ append-nil (filter (upto t) (stored_at k A))
    ∙ reached-upto k t A s.front
    in
    ap (λ vs. value_of (last_of vs)) front ∙ last-value k t A (in_order-left A B (subst InOrder (sym (take-append-drop n xs)) o)) s.front

pub last-taken : (xs : List StoredVersion) (n : ℕ) (d : StoredVersion) → n < length xs → last_of (take (suc n) xs) ≡ get_or xs n d ∷ []
last-taken [] n d h = absurd (omega arith)
last-taken (x ∷ xs) zero d h = refl
last-taken (x ∷ []) (suc n) d h = absurd (omega arith)
last-taken (x ∷ (y ∷ ys)) (suc n) d h = last-taken (y ∷ ys) n d (omega arith)

pub shown-none : (k : List ℕ) (t n : ℕ) (xs : List StoredVersion) → InOrder xs → Splits (reaches k t) n xs → n ≡ 0
    → shown t (stored_at k xs) ≡ None
shown-none k t n xs o s e = shown-at k t n xs o s ∙ ap (λ n. value_at k (last_of (take n xs))) e

pub shown-last : (k : List ℕ) (t n : ℕ) (xs : List StoredVersion) (x : StoredVersion) → InOrder xs → Splits (reaches k t) n xs → 0 < n
    → x ≡ get_or xs (n - 1) x → shown t (stored_at k xs) ≡ cond (bytes_eq k x.key) x.value None
shown-last k t n xs x o s h e =
    let w = s.within in
    let same : n ≡ suc (n - 1) = omega arith in
    shown-at k t n xs o s ∙ ap (λ n. value_at k (last_of (take n xs))) same ∙ ap (value_at k) (last-taken xs (n - 1) x (omega arith))
    ∙ ap (λ y. cond (bytes_eq k y.key) y.value None) (sym e)
