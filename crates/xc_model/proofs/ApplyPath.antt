-- What one more event, and one more record, do to the versions and to what waits, and what a cutoff keeps.
use Rattle.xc_model.proofs.Common.{◌≡◌, ℕ, ◌<◌, List, [], ◌∷◌, ◌++◌, ap, sym, ◌∙◌, append_assoc, append-nil, Event, Put, Hold, Apply, Abort}
use Rattle.xc_model.proofs.Common.{Safe, Version, Waiting, versions, waiting, kept_from, Kept, steps, Each-append, ◌≤◌, Bool, true, false}
use Rattle.xc_model.proofs.Common.{cond, refl, arith, ⊎_elim, filter, filter-append, nat_tests, cases_lt, add, upto, above, last_of, newest}
use Rattle.xc_model.proofs.Common.{add_all, version_cmp, Each-weaker, ◌≢◌, ◌==◌, not, is_gt, filter_agree, insert_by, sort_by, has, is_of}
use Rattle.xc_model.proofs.Common.{is_of_other, is_kept, Written, Fate, Waits, Taken, RolledBack, Dropped, fate, fate_at, version_by}
use Rattle.xc_model.proofs.Common.{waiting_by, versions_along}
use Rattle.xc_record.specs.Kept.{step}
use Rattle.xc_model.{proofs.Elements.each-filtered, proofs.Along.IsNumbered, proofs.Along.shown, proofs.Along.still}
use Rattle.xc_model.proofs.StableSort.{Each, Before, InOrder, Orders}
use Rattle.xc_model.proofs.Sorts.{put-both, sort-push, each-sort, put-same}

-- a version after the cutoff goes past what is kept
upto-add : (u : ℕ) (x : Version) (vs : List Version) → u < x.commit → filter (upto u) (add x vs) ≡ filter (upto u) vs
upto-add u x [] h = grind (arith, nat_tests)
upto-add u x (y ∷ ys) h = grind (arith, nat_tests, upto-add u x ys h)

above-add : (u : ℕ) (x : Version) (vs : List Version) → u < x.commit → filter (above u) (add x vs) ≡ add x (filter (above u) vs)
above-add u x [] h = grind (arith, nat_tests)
above-add u x (y ∷ ys) h = grind (arith, nat_tests, above-add u x ys h)

past-front : (u : ℕ) (x : Version) (ys zs : List Version) → u < x.commit → Each (λ y. y.commit ≤ u) ys → add x (ys ++ zs) ≡ ys ++ add x zs
past-front u x [] zs h e = refl
past-front u x (y ∷ ys) zs h e = grind (arith, nat_tests, past-front u x ys zs h e.1, e.0)

pub each-upto : (u : ℕ) (vs : List Version) → Each (λ y. y.commit ≤ u) (filter (upto u) vs)
each-upto u vs = each-filtered (λ y. y.commit ≤ u) (upto u) vs (λ y e. grind (arith, nat_tests))

pub each-last_of : {A : Type 0} (P : A → Type 0) (xs : List A) → Each P xs → Each P (last_of xs)
each-last_of P [] h = tt
each-last_of P (x ∷ []) h = h
each-last_of P (x ∷ (y ∷ ys)) h = each-last_of P (y ∷ ys) h.1

pub kept_from-add : (u : ℕ) (x : Version) (vs : List Version) → u < x.commit → kept_from u (add x vs) ≡ add x (kept_from u vs)
kept_from-add u x vs h = ap (λ w. last_of w ++ filter (above u) (add x vs)) (upto-add u x vs h)
    ∙ ap (λ w. last_of (filter (upto u) vs) ++ w) (above-add u x vs h)
    ∙ sym (past-front u x (last_of (filter (upto u) vs)) (filter (above u) vs) h
    (each-last_of (λ y. y.commit ≤ u) (filter (upto u) vs) (each-upto u vs)))

pub kept_from-add_all : (u c : ℕ) (hs : List Waiting) (vs : List Version) → u < c
    → kept_from u (add_all c hs vs) ≡ add_all c hs (kept_from u vs)
kept_from-add_all u c [] vs h = refl
kept_from-add_all u c (k ∷ hs) vs h = let x : Version = record { commit = c; txn = k.txn; value = k.value } in
    kept_from-add_all u c hs (add x vs) h ∙ ap (add_all c hs) (kept_from-add u x vs h)

-- a front and a rest of versions in order
upto-front : (u t : ℕ) (ys : List Version) → u ≤ t → Each (λ y. y.commit ≤ u) ys → filter (upto t) ys ≡ ys
upto-front u t [] h e = refl
upto-front u t (y ∷ ys) h e = grind (arith, nat_tests, upto-front u t ys h e.1, e.0)

none-upto : (u : ℕ) (ys : List Version) → Each (λ y. u < y.commit) ys → filter (upto u) ys ≡ []
none-upto u [] e = refl
none-upto u (y ∷ ys) e = grind (arith, nat_tests, none-upto u ys e.1, e.0)

all-above : (u : ℕ) (ys : List Version) → Each (λ y. u < y.commit) ys → filter (above u) ys ≡ ys
all-above u [] e = refl
all-above u (y ∷ ys) e = grind (arith, nat_tests, all-above u ys e.1, e.0)

above-too : (u : ℕ) (x y : Version) → u < x.commit → Before version_cmp x y → u < y.commit
above-too u x y h k = grind (arith, nat_tests)

later-above : (u : ℕ) (x : Version) (ys : List Version) → u < x.commit → Each (Before version_cmp x) ys → Each (λ y. u < y.commit) ys
later-above u x ys h e = Each-weaker (Before version_cmp x) (λ y. u < y.commit) (λ y k. above-too u x y h k) ys e

pub parts-in_order : (u : ℕ) (vs : List Version) → InOrder version_cmp vs → filter (upto u) vs ++ filter (above u) vs ≡ vs
parts-in_order u [] s = refl
parts-in_order u (x ∷ xs) s = ⊎_elim (λ h. let late : Each (λ y. u < y.commit) xs = later-above u x xs h s.0 in grind
    (arith, nat_tests, none-upto u xs late, all-above u xs late))
    (λ h. grind (arith, nat_tests, parts-in_order u xs s.1)) (cases_lt u x.commit)

pub last_of-join : {A : Type 0} (xs ys : List A) → last_of (last_of xs ++ ys) ≡ last_of (xs ++ ys)
last_of-join [] ys = refl
last_of-join (x ∷ []) ys = refl
last_of-join (x ∷ (y ∷ zs)) ys = last_of-join (y ∷ zs) ys

-- a read at or after the cutoff sees what it saw before
pub newest-kept_from : (u t : ℕ) (vs : List Version) → u ≤ t → InOrder version_cmp vs → newest t (kept_from u vs) ≡ newest t vs
newest-kept_from u t vs h s = let a = filter (upto u) vs in let f = filter (above u) vs in ap last_of (filter-append (upto t) (last_of a) f
    ∙ ap (λ w. w ++ filter (upto t) f) (upto-front u t (last_of a) h (each-last_of (λ y. y.commit ≤ u) a (each-upto u vs))))
    ∙ last_of-join a (filter (upto t) f)
    ∙ ap last_of (ap (λ w. w ++ filter (upto t) f) (sym (upto-front u t a h (each-upto u vs))) ∙ sym (filter-append (upto t) a f)
    ∙ ap (filter (upto t)) (parts-in_order u vs s))

none-above : (u : ℕ) (ys : List Version) → Each (λ y. y.commit ≤ u) ys → filter (above u) ys ≡ []
none-above u [] e = refl
none-above u (y ∷ ys) e = grind (arith, nat_tests, none-above u ys e.1, e.0)

both-above : (u w : ℕ) (vs : List Version) → u ≤ w → filter (above w) (filter (above u) vs) ≡ filter (above w) vs
both-above u w [] h = refl
both-above u w (y ∷ ys) h = grind (arith, nat_tests, both-above u w ys h)

-- a greater cutoff
pub kept_from-more : (u w : ℕ) (vs : List Version) → u ≤ w → InOrder version_cmp vs → kept_from w (kept_from u vs) ≡ kept_from w vs
kept_from-more u w vs h s = let a = filter (upto u) vs in let f = filter (above u) vs in let early : Each (λ y. y.commit ≤ w) (last_of a) =
    Each-weaker (λ y. y.commit ≤ u) (λ y. y.commit ≤ w) (λ y k. omega arith) (last_of a)
    (each-last_of (λ y. y.commit ≤ u) a (each-upto u vs)) in
    ap (λ r. r ++ filter (above w) (kept_from u vs)) (newest-kept_from u w vs h s)
    ∙ ap (λ r. newest w vs ++ r) (filter-append (above w) (last_of a) f
    ∙ ap (λ r. r ++ filter (above w) f) (none-above w (last_of a) early) ∙ both-above u w vs h)

each-above : (u : ℕ) (vs : List Version) → Each (λ y. u < y.commit) (filter (above u) vs)
each-above u [] = tt
each-above u (y ∷ ys) =
    let at : (b : Bool) → above u y ≡ b → Each (λ y. u < y.commit) (cond b (y ∷ filter (above u) ys) (filter (above u) ys)) =
    λ b. elim b as (λ b. above u y ≡ b → Each (λ y. u < y.commit) (cond b (y ∷ filter (above u) ys) (filter (above u) ys)))
    [ true ↦ λ e. (grind (arith, nat_tests), each-above u ys) | false ↦ λ e. each-above u ys ]
    in at (above u y) refl

one-parts : (w : ℕ) (xs : List Version) → last_of (filter (upto w) (last_of xs)) ++ filter (above w) (last_of xs) ≡ last_of xs
one-parts w [] = refl
one-parts w (x ∷ []) = grind (arith, nat_tests)
one-parts w (x ∷ (y ∷ ys)) = one-parts w (y ∷ ys)

-- a cutoff that isn't greater changes nothing
pub kept_from-less : (u w : ℕ) (vs : List Version) → w ≤ u → kept_from w (kept_from u vs) ≡ kept_from u vs
kept_from-less u w vs h = let g = last_of (filter (upto u) vs) in let f = filter (above u) vs in
    let late : Each (λ y. w < y.commit) f = Each-weaker (λ y. u < y.commit) (λ y. w < y.commit) (λ y k. omega arith) f (each-above u vs) in
    ap (λ r. last_of r ++ filter (above w) (g ++ f)) (filter-append (upto w) g f ∙ ap (λ r. filter (upto w) g ++ r) (none-upto w f late)
    ∙ append-nil (filter (upto w) g))
    ∙ ap (λ r. last_of (filter (upto w) g) ++ r) (filter-append (above w) g f ∙ ap (λ r. filter (above w) g ++ r) (all-above w f late))
    ∙ sym (append_assoc (last_of (filter (upto w) g)) (filter (above w) g) f)
    ∙ ap (λ r. r ++ f) (one-parts w (filter (upto u) vs))

-- ---- what one more event does to the versions and to what waits

version-total : (x y : Version) → is_gt (version_cmp x y) ≡ true → is_gt (version_cmp y x) ≡ false
version-total x y h = grind (arith, nat_tests)

version-trans : (x y z : Version) → is_gt (version_cmp x y) ≡ false → is_gt (version_cmp y z) ≡ false → is_gt (version_cmp x z) ≡ false
version-trans x y z h k = grind (arith, nat_tests)

pub version-orders : Orders version_cmp
version-orders = record { total = λ x y. version-total x y; trans = λ x y z. version-trans x y z }

-- the later events decide where the first leave an operation waiting
abbrev pub then_fate : Fate → Fate → Fate
then_fate Waits f = f
then_fate decided f = decided

then-applied : (sub c : ℕ) (without : List ℕ) (f : Fate) → then_fate (fate_at sub c without) f ≡ fate_at sub c without
then-applied sub c without f =
    elim (has sub without) as (λ b. then_fate (cond b RolledBack (Taken c)) f ≡ cond b RolledBack (Taken c)) [ true ↦ refl | false ↦ refl ]

pub fate-append : (n sub : ℕ) (es fs : List Event) → fate n sub (es ++ fs) ≡ then_fate (fate n sub es) (fate n sub fs)
fate-append n sub [] fs = refl
fate-append n sub (Apply m c without ∷ es) fs = elim (m == n) as
    (λ b. cond b (fate_at sub c without) (fate n sub (es ++ fs)) ≡ then_fate (cond b (fate_at sub c without) (fate n sub es))
    (fate n sub fs)) [
      | true ↦ sym (then-applied sub c without (fate n sub fs))
      | false ↦ fate-append n sub es fs
    ]
fate-append n sub (Abort m ∷ es) fs =
    elim (m == n) as (λ b. cond b Dropped (fate n sub (es ++ fs)) ≡ then_fate (cond b Dropped (fate n sub es)) (fate n sub fs))
    [ true ↦ refl | false ↦ fate-append n sub es fs ]
fate-append n sub (_ ∷ es) fs = fate-append n sub es fs

-- an element that is put in before what ties stays out of the way of added ones
pub add_all-before : (c : ℕ) (hs : List Waiting) (x : Version) (vs : List Version)
    → insert_by version_cmp x (add_all c hs vs) ≡ add_all c hs (insert_by version_cmp x vs)
add_all-before c [] x vs = refl
add_all-before c (h ∷ hs) x vs = let y : Version = record { commit = c; txn = h.txn; value = h.value } in
    add_all-before c hs x (add y vs) ∙ ap (add_all c hs) (put-both version_cmp version-orders x y vs)

pub one-not-of-by : (n m : ℕ) (v : Written) (f : Fate) → (m ≡ n → f ≡ Waits) → Each (λ x. x.txn ≢ n) (version_by f m v)
one-not-of-by n m v (Taken c) k = ((λ q. let w = k q in grind arith), tt)
one-not-of-by n m v _ k = tt

-- where an operation of n still waits, all of its subtransactions do
pub waits-all : (n sub other : ℕ) (es : List Event) → fate n sub es ≡ Waits → fate n other es ≡ Waits
waits-all n sub other [] e = refl
waits-all n sub other (Apply m c without ∷ es) e = grind (arith, nat_tests, waits-all n sub other es)
waits-all n sub other (Abort m ∷ es) e = grind (arith, nat_tests, waits-all n sub other es)
waits-all n sub other (_ ∷ es) e = waits-all n sub other es e

one-not-of : (n sub m other : ℕ) (v : Written) (es : List Event) → fate n sub es ≡ Waits
    → Each (λ x. x.txn ≢ n) (version_by (fate m other es) m v)
one-not-of n sub m other v es e = one-not-of-by n m v (fate m other es) (λ q. ap (λ w. fate w other es) q ∙ waits-all n sub other es e)

-- where n has no apply yet, no version has its number
pub none-of-waiting : (n sub : ℕ) (es : List Event) → 0 < n → fate n sub es ≡ Waits → Each (λ x. x.txn ≢ n) (versions_along es)
none-of-waiting n sub [] p e = tt
none-of-waiting n sub (Put time v ∷ es) p e = ((λ q. grind arith), none-of-waiting n sub es p e)
none-of-waiting n sub (Hold m other time v ∷ es) p e =
    Each-append (λ x. x.txn ≢ n) (version_by (fate m other es) m v) (versions_along es) (one-not-of n sub m other v es e)
    (none-of-waiting n sub es p e)
none-of-waiting n sub (Safe v ∷ es) p e = none-of-waiting n sub es p e
none-of-waiting n sub (_ ∷ es) p e = none-of-waiting n sub es p (grind (arith, nat_tests))

-- no version ties with one of n's where n has no apply yet
pub untied : (c n : ℕ) (v : Written) (y : Version) → y.txn ≢ n → is_gt (version_cmp (record { commit = c; txn = n; value = v }) y) ≡ false
    → is_gt (version_cmp y (record { commit = c; txn = n; value = v })) ≡ true
untied c n v y h k = grind (arith, nat_tests)

-- what an apply takes of what waits
abbrev pub taken_of : ℕ → List ℕ → List Waiting → List Waiting
taken_of n without ws = filter (is_kept without) (filter (is_of n) ws)

versions-apply-by : (n c : ℕ) (without : List ℕ) (m sub : ℕ) (v : Written) (es : List Event) (f : Fate) → fate m sub es ≡ f → 0 < m
    → versions (es ++ Apply n c without ∷ []) ≡ add_all c (taken_of n without (waiting es)) (versions es)
    → sort_by version_cmp
    (version_by (then_fate f (cond (n == m) (fate_at sub c without) Waits)) m v ++ versions_along (es ++ Apply n c without ∷ [])) ≡ add_all
    c (taken_of n without (waiting_by f m sub v ++ waiting es)) (sort_by version_cmp (version_by f m v ++ versions_along es))
versions-apply-by n c without m sub v es (Taken d) e p h = let x : Version = record { commit = d; txn = m; value = v } in
    ap (insert_by version_cmp x) h ∙ add_all-before c (taken_of n without (waiting es)) x (versions es)
versions-apply-by n c without m sub v es RolledBack e p h = h
versions-apply-by n c without m sub v es Dropped e p h = h
versions-apply-by n c without m sub v es Waits e p h = at (n == m)
  where
    w : Waiting
    w = record { txn = m; sub = sub; value = v }

    taken : List Waiting
    taken = taken_of n without (waiting es)

    kept : (b : Bool)
        → sort_by version_cmp (version_by (cond b RolledBack (Taken c)) m v ++ versions_along (es ++ Apply n c without ∷ [])) ≡ add_all c
        (cond (not b) (w ∷ taken) taken) (versions es)
    kept true = h
    kept false = let x : Version = record { commit = c; txn = m; value = v } in ap (insert_by version_cmp x) h
        ∙ add_all-before c taken x (versions es) ∙ ap (add_all c taken) (put-same version_cmp version-orders x (versions es)
        (each-sort version_cmp (λ y. is_gt (version_cmp x y) ≡ false → is_gt (version_cmp y x) ≡ true) (versions_along es)
        (Each-weaker (λ y. y.txn ≢ m) (λ y. is_gt (version_cmp x y) ≡ false → is_gt (version_cmp y x) ≡ true)
        (λ y. untied c m v y) (versions_along es) (none-of-waiting m sub es p e))))

    at : (b : Bool)
        → sort_by version_cmp (version_by (cond b (fate_at sub c without) Waits) m v ++ versions_along (es ++ Apply n c without ∷ [])) ≡
        add_all c (filter (is_kept without) (cond b (w ∷ filter (is_of n) (waiting es)) (filter (is_of n) (waiting es)))) (versions es)
    at true = kept (has sub without)
    at false = h

-- what an apply takes is added to the versions in order, one after another
pub versions-apply : (n c : ℕ) (without : List ℕ) (es : List Event) → Each IsNumbered es
    → versions (es ++ Apply n c without ∷ []) ≡ add_all c (taken_of n without (waiting es)) (versions es)
versions-apply n c without [] g = refl
versions-apply n c without (Put time v ∷ es) g = let x : Version = record { commit = time; txn = 0; value = v } in
    ap (insert_by version_cmp x) (versions-apply n c without es g.1) ∙ add_all-before c (taken_of n without (waiting es)) x (versions es)
versions-apply n c without (Hold m sub time v ∷ es) g =
    ap (λ f. sort_by version_cmp (version_by f m v ++ versions_along (es ++ Apply n c without ∷ [])))
    (fate-append m sub es (Apply n c without ∷ []))
    ∙ versions-apply-by n c without m sub v es (fate m sub es) refl g.0 (versions-apply n c without es g.1)
versions-apply n c without (_ ∷ es) g = versions-apply n c without es g.1

-- events that take nothing leave the versions before them as they were
pub versions-append : (es fs : List Event)
    → ((f : Fate) (n sub : ℕ) (v : Written) → version_by (then_fate f (fate n sub fs)) n v ≡ version_by f n v)
    → versions_along (es ++ fs) ≡ versions_along es ++ versions_along fs
versions-append [] fs k = refl
versions-append (Put time v ∷ es) fs k = ap (λ r. record { commit = time; txn = 0; value = v } ∷ r) (versions-append es fs k)
versions-append (Hold n sub time v ∷ es) fs k = ap (λ f. version_by f n v ++ versions_along (es ++ fs)) (fate-append n sub es fs)
    ∙ ap (λ w. w ++ versions_along (es ++ fs)) (k (fate n sub es) n sub v)
    ∙ ap (λ w. version_by (fate n sub es) n v ++ w) (versions-append es fs k)
    ∙ sym (append_assoc (version_by (fate n sub es) n v) (versions_along es) (versions_along fs))
versions-append (_ ∷ es) fs k = versions-append es fs k

-- what still waits after more events
pub waiting-one : (f g : Fate) (n sub : ℕ) (v : Written) → waiting_by (then_fate f g) n sub v ≡ filter (λ h. still g) (waiting_by f n sub v)
waiting-one Waits Waits n sub v = refl
waiting-one Waits _ n sub v = refl
waiting-one _ g n sub v = refl

waiting-one-at : (f : Fate) (n sub : ℕ) (v : Written) (fs : List Event)
    → filter (λ h. still (fate n sub fs)) (waiting_by f n sub v) ≡ filter (λ h. still (fate h.txn h.sub fs)) (waiting_by f n sub v)
waiting-one-at Waits n sub v fs = refl
waiting-one-at _ n sub v fs = refl

pub waiting-append : (es fs : List Event) → waiting (es ++ fs) ≡ filter (λ h. still (fate h.txn h.sub fs)) (waiting es) ++ waiting fs
waiting-append [] fs = refl
waiting-append (Hold n sub time v ∷ es) fs = let p : Waiting → Bool = λ h. still (fate h.txn h.sub fs) in
    ap (λ f. waiting_by f n sub v ++ waiting (es ++ fs)) (fate-append n sub es fs)
    ∙ ap (λ w. w ++ waiting (es ++ fs)) (waiting-one (fate n sub es) (fate n sub fs) n sub v ∙ waiting-one-at (fate n sub es) n sub v fs)
    ∙ ap (λ w. filter p (waiting_by (fate n sub es) n sub v) ++ w) (waiting-append es fs)
    ∙ sym (append_assoc (filter p (waiting_by (fate n sub es) n sub v)) (filter p (waiting es)) (waiting fs))
    ∙ ap (λ w. w ++ waiting fs) (sym (filter-append p (waiting_by (fate n sub es) n sub v) (waiting es)))
waiting-append (_ ∷ es) fs = waiting-append es fs

pub filter-all : {A : Type 0} (xs : List A) → filter (λ x. true) xs ≡ xs
filter-all [] = refl
filter-all (x ∷ xs) = ap (λ r. x ∷ r) (filter-all xs)

stays : (f : Fate) (n : ℕ) (v : Written) → version_by (then_fate f Waits) n v ≡ version_by f n v
stays Waits n v = refl
stays _ n v = refl

stays-abort : (m : ℕ) (f : Fate) (n : ℕ) (v : Written) → version_by (then_fate f (cond (m == n) Dropped Waits)) n v ≡ version_by f n v
stays-abort m Waits n v = elim (m == n) as (λ b. version_by (cond b Dropped Waits) n v ≡ []) [ true ↦ refl | false ↦ refl ]
stays-abort m _ n v = refl

-- one event more: the five cases
pub versions-put : (es : List Event) (time : ℕ) (v : Written)
    → versions (es ++ Put time v ∷ []) ≡ add (record { commit = time; txn = 0; value = v }) (versions es)
versions-put es time v = ap (sort_by version_cmp) (versions-append es (Put time v ∷ []) (λ f n sub w. stays f n w))
    ∙ sort-push version_cmp version-orders (versions_along es) (record { commit = time; txn = 0; value = v })

pub versions-hold : (es : List Event) (n sub time : ℕ) (v : Written) → versions (es ++ Hold n sub time v ∷ []) ≡ versions es
versions-hold es n sub time v =
    ap (sort_by version_cmp) (versions-append es (Hold n sub time v ∷ []) (λ f m other w. stays f m w) ∙ append-nil (versions_along es))

pub versions-abort : (es : List Event) (n : ℕ) → versions (es ++ Abort n ∷ []) ≡ versions es
versions-abort es n =
    ap (sort_by version_cmp) (versions-append es (Abort n ∷ []) (λ f m sub w. stays-abort n f m w) ∙ append-nil (versions_along es))

pub versions-safe : (es : List Event) (v : ℕ) → versions (es ++ Safe v ∷ []) ≡ versions es
versions-safe es v = ap (sort_by version_cmp) (versions-append es (Safe v ∷ []) (λ f n sub w. stays f n w) ∙ append-nil (versions_along es))

pub waiting-put : (es : List Event) (time : ℕ) (v : Written) → waiting (es ++ Put time v ∷ []) ≡ waiting es
waiting-put es time v = waiting-append es (Put time v ∷ []) ∙ append-nil (filter (λ h. true) (waiting es)) ∙ filter-all (waiting es)

pub waiting-hold : (es : List Event) (n sub time : ℕ) (v : Written)
    → waiting (es ++ Hold n sub time v ∷ []) ≡ waiting es ++ record { txn = n; sub = sub; value = v } ∷ []
waiting-hold es n sub time v =
    waiting-append es (Hold n sub time v ∷ []) ∙ ap (λ w. w ++ record { txn = n; sub = sub; value = v } ∷ []) (filter-all (waiting es))

pub waiting-safe : (es : List Event) (v : ℕ) → waiting (es ++ Safe v ∷ []) ≡ waiting es
waiting-safe es v = waiting-append es (Safe v ∷ []) ∙ append-nil (filter (λ h. true) (waiting es)) ∙ filter-all (waiting es)

other-applied : (n c : ℕ) (without : List ℕ) (h : Waiting) → still (cond (n == h.txn) (fate_at h.sub c without) Waits) ≡ is_of_other n h
other-applied n c without h = elim (n == h.txn) as (λ b. still (cond b (fate_at h.sub c without) Waits) ≡ cond b false true) [
  | true ↦ elim (has h.sub without) as (λ b. still (cond b RolledBack (Taken c)) ≡ false) [ true ↦ refl | false ↦ refl ]
  | false ↦ refl
]

pub waiting-apply : (es : List Event) (n c : ℕ) (without : List ℕ)
    → waiting (es ++ Apply n c without ∷ []) ≡ filter (is_of_other n) (waiting es)
waiting-apply es n c without = let p : Waiting → Bool = λ h. still (cond (n == h.txn) (fate_at h.sub c without) Waits) in
    waiting-append es (Apply n c without ∷ []) ∙ append-nil (filter p (waiting es))
    ∙ filter_agree p (is_of_other n) (λ h. other-applied n c without h) (waiting es)

pub waiting-abort : (es : List Event) (n : ℕ) → waiting (es ++ Abort n ∷ []) ≡ filter (is_of_other n) (waiting es)
waiting-abort es n = waiting-append es (Abort n ∷ []) ∙ append-nil (filter (λ h. still (cond (n == h.txn) Dropped Waits)) (waiting es))
    ∙ filter_agree (λ h. still (cond (n == h.txn) Dropped Waits)) (is_of_other n)
    (λ h. elim (n == h.txn) as (λ b. still (cond b Dropped Waits) ≡ cond b false true) [ true ↦ refl | false ↦ refl ]) (waiting es)

-- ---- one more record of a tablet

-- what an event adds commits after the cutoff
abbrev pub AddsAfter : ℕ → Event → Type 0
AddsAfter u (Put time v) = u < time
AddsAfter u (Apply n c without) = u < c
AddsAfter u _ = Unit {0}

kept : (vs ws : List Version) (hs gs : List Waiting) → vs ≡ ws → hs ≡ gs
    → (let x : Kept = record { versions = vs; held = hs } in x) ≡ record { versions = ws; held = gs }
kept vs ws hs gs e f = ap (λ (w : List Version). let x : Kept = record { versions = w; held = hs } in x) e
    ∙ ap (λ (w : List Waiting). let x : Kept = record { versions = ws; held = w } in x) f

pub shown-push : (u : ℕ) (es : List Event) (e : Event) → Each IsNumbered es → AddsAfter u e → shown u (es ++ e ∷ []) ≡ step e (shown u es)
shown-push u es (Put time v) g h = let x : Version = record { commit = time; txn = 0; value = v } in
    kept _ _ _ _ (ap (kept_from u) (versions-put es time v) ∙ kept_from-add u x (versions es) h) (waiting-put es time v)
shown-push u es (Hold n sub time v) g h = kept _ _ _ _ (ap (kept_from u) (versions-hold es n sub time v)) (waiting-hold es n sub time v)
shown-push u es (Apply n c without) g h = kept _ _ _ _ (ap (kept_from u) (versions-apply n c without es g)
    ∙ kept_from-add_all u c (taken_of n without (waiting es)) (versions es) h) (waiting-apply es n c without)
shown-push u es (Abort n) g h = kept _ _ _ _ (ap (kept_from u) (versions-abort es n)) (waiting-abort es n)
shown-push u es (Safe v) g h = kept _ _ _ _ (ap (kept_from u) (versions-safe es v)) (waiting-safe es v)

pub shown-append : (u : ℕ) (es fs : List Event) → Each IsNumbered es → Each IsNumbered fs → Each (AddsAfter u) fs
    → shown u (es ++ fs) ≡ steps fs (shown u es)
shown-append u es [] g q h = ap (shown u) (append-nil es)
shown-append u es (f ∷ fs) g q h = ap (shown u) (sym (append_assoc es (f ∷ []) fs))
    ∙ shown-append u (es ++ f ∷ []) fs (Each-append IsNumbered es (f ∷ []) g (q.0, tt)) q.1 h.1
    ∙ ap (steps fs) (shown-push u es f g h.0)
