-- What is known of the dues of each 64 pages.
use Rattle.std.proofs.Common.{◌≡◌, ℕ, zero, suc, ◌+◌, ◌-◌, ◌*◌, ◌/◌, ◌<◌, ◌≤◌, List, [], ◌∷◌, ◌++◌, length, get_or, take, drop, set, min}
use Rattle.std.proofs.Common.{refl, ap, sym, ◌∙◌, subst, arith, nat_lt, ⊎_elim, inl, inr, length-append}
use Rattle.std.proofs.lemmas.Bool.{cases_Bool, ltb-true, ltb-false}
use Rattle.std.proofs.lemmas.List.{get_or-map, map-set, take-map, drop-map, map-append, get_or-set_same, length-map}
use Rattle.std.proofs.lemmas.List.{length-set, length-take-le, length-drop, get_or-set_other}
use Rattle.xc_versions.specs.declared.page.Page.{Page}
use Rattle.xc_versions.specs.Stored.{kept, pruned_before}
use Rattle.xc_versions.specs.Pages.{held, items_of, IsPaged}
use Rattle.xc_versions.specs.Dues.{dues_of, Covers, Shrunk, Grew}
use Rattle.xc_versions.proofs.VersionLaws.{kept-before}
use Rattle.xc_versions.proofs.PageLaws.{items-from}
use Rattle.xc_versions.specs.Pool.{Walked}
use Rattle.xc_versions.proofs.ShrinkLaws.{walked-some, pruned-idle, order-at, idle-at}

pub due-at : (ps : List Page) (i : ℕ) (q : Page) → i < length ps → q ≡ get_or ps i q → get_or (dues_of ps) i 0 ≡ q.due
due-at ps i q h e = get_or-map (λ (p : Page). p.due) ps i q 0 h ∙ ap (λ (p : Page). p.due) (sym e)

-- one page more was looked at
pub least-more : (ps : List Page) (i first due : ℕ) (q : Page) → i < length ps → q ≡ get_or ps i q
    → ((k : ℕ) → first ≤ k → k < i → due ≤ get_or (dues_of ps) k 0)
    → (k : ℕ) → first ≤ k → k < i + 1 → min due q.due ≤ get_or (dues_of ps) k 0
least-more ps i first due q h e f k l m =
    ⊎_elim {C = min due q.due ≤ get_or (dues_of ps) k 0} (λ early. let g = f k l (ltb-true k i early) in omega arith)
    (λ late.
    let same : k ≡ i = let n = ltb-false k i late in omega arith in
    let here : get_or (dues_of ps) k 0 ≡ q.due = ap (λ j. get_or (dues_of ps) j 0) same ∙ due-at ps i q h e in
    omega arith)
    (cases_Bool (nat_lt k i))

-- what holds of one place and of those behind it
pub back-more : (P : ℕ → Type 0) (i end : ℕ) → P i → ((k : ℕ) → i + 1 ≤ k → k < end → P k) → (k : ℕ) → i ≤ k → k < end → P k
back-more P i end here behind k l m =
    ⊎_elim {C = P k}
    (λ late. behind k (let n = ltb-true i k late in omega arith) m)
    (λ not_late. let same : i ≡ k = let n = ltb-false i k not_late in omega arith in subst P same here)
    (cases_Bool (nat_lt i k))

-- ---- pages that change

-- dues of pages in parts
dues-parts : (old ms : List Page) (i : ℕ)
    → dues_of (take i old ++ (ms ++ drop (i + 1) old)) ≡ take i (dues_of old) ++ (dues_of ms ++ drop (i + 1) (dues_of old))
dues-parts old ms i =
    map-append (λ (p : Page). p.due) (take i old) (ms ++ drop (i + 1) old)
    ∙ ap (λ w. w ++ dues_of (ms ++ drop (i + 1) old)) (sym (take-map (λ (p : Page). p.due) i old))
    ∙ ap (λ w. take i (dues_of old) ++ w) (map-append (λ (p : Page). p.due) ms (drop (i + 1) old)
    ∙ ap (λ w. dues_of ms ++ w) (sym (drop-map (λ (p : Page). p.due) (i + 1) old)))

pub shrunk-gone : (old new : List Page) (i : ℕ) → new ≡ take i old ++ drop (i + 1) old → Shrunk i (dues_of old) (dues_of new)
shrunk-gone old new i e = inr (ap dues_of e ∙ dues-parts old [] i)

pub shrunk-set : (old : List Page) (i : ℕ) (r : Page) → i < length old → Shrunk i (dues_of old) (dues_of (set old i r))
shrunk-set old i r h =
    let is : dues_of (set old i r) ≡ set (dues_of old) i r.due = map-set (λ (p : Page). p.due) old i r in
    let long : length (dues_of old) ≡ length old = length-map old (λ (p : Page). p.due) in
    let here : get_or (dues_of (set old i r)) i 0 ≡ r.due =
    ap (λ ds. get_or ds i 0) is ∙ get_or-set_same (dues_of old) i r.due 0 (omega arith) in
    inl (is ∙ ap (λ n. set (dues_of old) i n) (sym here))

removed-few : (ds : List ℕ) (i : ℕ) → i < length ds → length (take i ds ++ drop (i + 1) ds) + 1 ≡ length ds
removed-few ds i h =
    let a = length-append (take i ds) (drop (i + 1) ds) in
    let b = length-take-le i ds (omega arith) in
    let c = length-drop (i + 1) ds in
    omega arith

pub shrunk-few : (i : ℕ) (ds es : List ℕ) → i < length ds → Shrunk i ds es → length es ≤ length ds
shrunk-few i ds es h s =
    ⊎_elim {C = length es ≤ length ds}
    (λ is. let a = ap length is in let b = length-set ds i (get_or es i 0) in omega arith)
    (λ gone. let a = ap length gone in let b = removed-few ds i h in omega arith)
    s

-- where no page is gone, those behind the place are as they were
shrunk-behind : (i : ℕ) (ds es : List ℕ) → i < length ds → Shrunk i ds es → length es ≡ length ds → (k : ℕ) → i < k
    → get_or es k 0 ≡ get_or ds k 0
shrunk-behind i ds es h s e k l =
    ⊎_elim {C = get_or es k 0 ≡ get_or ds k 0}
    (λ is. ap (λ xs. get_or xs k 0) is ∙ get_or-set_other ds i k (get_or es i 0) 0 (omega arith))
    (λ gone. let a = ap length gone in let b = removed-few ds i h in absurd (omega arith))
    s

-- the least of the dues from a place on, where one of them was replaced and more before it were passed
pub carried : (ds es : List ℕ) (i j end due next : ℕ) → i < length ds → Shrunk i ds es → length es ≡ length ds → next ≤ due
    → next ≤ get_or es i 0 → ((k : ℕ) → i + 1 ≤ k → k < end → due ≤ get_or ds k 0)
    → ((k : ℕ) → j ≤ k → k < i → next ≤ get_or es k 0) → (k : ℕ) → j ≤ k → k < end → next ≤ get_or es k 0
carried ds es i j end due next h s e lower here behind before k l m =
    ⊎_elim {C = next ≤ get_or es k 0}
    (λ early. before k l (ltb-true k i early))
    (λ late.
    back-more (λ n. next ≤ get_or es n 0) i end here
    (λ n a b. let was = behind n a b in let same = shrunk-behind i ds es h s e n (omega arith) in omega arith) k
    (let n = ltb-false k i late in omega arith) m)
    (cases_Bool (nat_lt k i))

-- the page that was first read at i
least-due : (old : List Page) (i n : ℕ) (q r : Page) → i < length old → q ≡ get_or old i q → r.due ≡ min q.due n
    → r.due ≡ min (get_or (dues_of old) i 0) n
least-due old i n q r h e d = d ∙ ap (λ m. min m n) (sym (due-at old i q h e))

pub grew-one : (old : List Page) (i n : ℕ) (q r : Page) → i < length old → q ≡ get_or old i q → r.due ≡ min q.due n
    → Grew i n (dues_of old) (dues_of (set old i r))
grew-one old i n q r h e d =
    inl (map-set (λ (p : Page). p.due) old i r ∙ ap (λ m. set (dues_of old) i m) (least-due old i n q r h e d))

pub grew-two : (old new : List Page) (i n : ℕ) (q r s : Page) → i < length old → q ≡ get_or old i q → r.due ≡ min q.due n
    → s.due ≡ min q.due n → new ≡ take i old ++ ((r ∷ s ∷ []) ++ drop (i + 1) old) → Grew i n (dues_of old) (dues_of new)
grew-two old new i n q r s h e d f g =
    let rest = drop (i + 1) (dues_of old) in
    inr (ap dues_of g ∙ dues-parts old (r ∷ s ∷ []) i
    ∙ ap (λ m. take i (dues_of old) ++ (m ∷ s.due ∷ rest)) (least-due old i n q r h e d)
    ∙ ap (λ m. take i (dues_of old) ++ (min (get_or (dues_of old) i 0) n ∷ m ∷ rest)) (least-due old i n q s h e f))

-- ---- pages that a prune passes by

idle-step : (b : List ℕ) (u : ℕ) (old mid : List Page) (i : ℕ) → IsPaged b old [] → IsPaged b mid [] → Walked b (kept u) old mid (i + 1)
    → u < get_or (dues_of mid) i 0 → Walked b (kept u) old mid i
idle-step b u old mid i g h w early =
    let within = w.within in
    let short = w.short in
    walked-some b (kept u) (pruned_before u) old mid mid i w refl
    (λ q e.
    let is = due-at mid i q (omega arith) e in
    items-from b mid i q (omega arith) e
    ∙ sym (pruned-idle u (held b q) (items_of b (drop (i + 1) mid)) (order-at b mid i q h (omega arith) e)
    (idle-at b mid i q h (omega arith) e u (omega arith))))
    (λ q e. sym (kept-before u (held b q) (items_of b (drop (i + 1) old)) (order-at b old i q g (omega arith) e)))

-- all from first on, up to first + n
idle-steps : (b : List ℕ) (u : ℕ) (old mid : List Page) (first n : ℕ) → IsPaged b old [] → IsPaged b mid []
    → Walked b (kept u) old mid (first + n)
    → ((k : ℕ) → first ≤ k → k < first + n → u < get_or (dues_of mid) k 0) → Walked b (kept u) old mid first
idle-steps b u old mid first zero g h w early =
    let same : first + 0 ≡ first = omega arith in subst (λ k. Walked b (kept u) old mid k) same w
idle-steps b u old mid first (suc n) g h w early =
    let same : first + suc n ≡ (first + n) + 1 = omega arith in
    idle-steps b u old mid first n g h
    (idle-step b u old mid (first + n) g h (subst (λ k. Walked b (kept u) old mid k) same w)
    (early (first + n) (omega arith) (omega arith)))
    (λ k l m. early k l (omega arith))

pub passed-by : (b : List ℕ) (u : ℕ) (old mid : List Page) (first i : ℕ) → IsPaged b old [] → IsPaged b mid []
    → Walked b (kept u) old mid i → first ≤ i
    → ((k : ℕ) → first ≤ k → k < i → u < get_or (dues_of mid) k 0) → Walked b (kept u) old mid first
passed-by b u old mid first i g h w l early =
    let same : i ≡ first + (i - first) = omega arith in
    idle-steps b u old mid first (i - first) g h (subst (λ k. Walked b (kept u) old mid k) same w) (λ k a b. early k a (omega arith))

-- groups behind `left` of which all is due later
pub groups-passed : (b : List ℕ) (u : ℕ) (old mid : List Page) (least : List ℕ) (left groups : ℕ) → IsPaged b old [] → IsPaged b mid []
    → Covers (dues_of mid) least → Walked b (kept u) old mid (min (length mid) (groups * 64)) → left ≤ groups
    → ((k : ℕ) → left ≤ k → k < groups → u < get_or least k 0) → Walked b (kept u) old mid (min (length mid) (left * 64))
groups-passed b u old mid least left groups g h covers w l early =
    let long : length (dues_of mid) ≡ length mid = length-map mid (λ (p : Page). p.due) in
    passed-by b u old mid (min (length mid) (left * 64)) (min (length mid) (groups * 64)) g h w (omega arith)
    (λ k a m.
    let said = covers k (omega arith) in
    let late = early (k / 64) (omega arith) (omega arith) in
    omega arith)
