-- The tablets that hold a hash stand in a line of parent and child, each beginning where its parent ends.
use Rattle.xc_model.proofs.Common.{◌≡◌, ◌≢◌, ◌==◌, ℕ, ◌<◌, ◌≤◌, true, false, cond, List, [], ◌∷◌, length, Option, Some, None, refl, ap, sym}
use Rattle.xc_model.proofs.Common.{◌∙◌, arith, subst, inl, inr, ⊎_elim, filter, fold, slice_get, cases_Bool, and_parts, eqb-true}
use Rattle.xc_model.proofs.Common.{true≢false, false_from_ne_true, same_Some, Record, Logs, Progress, after, AcceptedTablet}
use Rattle.xc_model.proofs.Common.{accepted_tablets, place, is_closed_in, is_closed, is_started, StartsAfter, IsPlaces, is_valid, holds}
use Rattle.xc_model.proofs.Common.{headers_of, children, split-children, FitsTablet, accepted-fit, hash_of, line_end, line, IsGrown}
use Rattle.xc_model.proofs.Common.{accepted_tablets-grown, Each-filter, Each-weaker}
use Rattle.xc_record.proofs.HeaderLaws.{Line}
use Rattle.xc_model.proofs.FromRules.{exists-heads, RootOf, roots-cover, hash-below, child-cover}
use Rattle.xc_model.proofs.Along.{own, origin, begun, Continues, Threads, Stops, LegalChain}
use Rattle.xc_model.proofs.StableSort.{Each, Exists}
use Rattle.xc_model.proofs.Elements.{exists-filter, exists-each}
use Rattle.xc_record.proofs.ListLaws.{filtered-get}
use Rattle.xc_model.proofs.Parents.{heads, Under, UnderParent, StartsRoot, get-under, each-root, each-line, each-tablet, header-get}
use Rattle.xc_model.proofs.Parents.{each-get, each-from, heads-logs, valid-headers, closed-of}

-- ---- the line

heads-own : (h : ℕ) (bs : List AcceptedTablet) → heads (filter (own h) bs) ≡ line h (heads bs)
heads-own h [] = refl
heads-own h (b ∷ bs) = elim (holds b.header h) as
    (λ o. heads (cond o (b ∷ filter (own h) bs) (filter (own h) bs)) ≡ cond o (b.header ∷ line h (heads bs)) (line h (heads bs)))
    [ true ↦ ap (λ w. b.header ∷ w) (heads-own h bs) | false ↦ heads-own h bs ]

-- what is known of each accepted tablet
pub record IsOne (bs : List AcceptedTablet) (b : AcceptedTablet) : Type 0 where
  pub there : slice_get bs b.header.id ≡ Some b
  pub grown : IsGrown b
  pub under : Under bs b
  pub root : StartsRoot b

pub each-one : (logs : Logs) → is_valid logs ≡ true → Each (IsOne (accepted_tablets logs)) (accepted_tablets logs)
each-one logs v = let bs = accepted_tablets logs in each-tablet logs v (IsOne bs) (λ b e. record {
  there = e;
  grown = each-get IsGrown bs b.header.id b (accepted_tablets-grown logs) e;
  under = get-under logs b.header.id b v e;
  root = each-get StartsRoot bs b.header.id b (each-root logs) e;
})

-- no tablet begins with a split
pub one-unsplit : (bs : List AcceptedTablet) (b : AcceptedTablet) → IsOne bs b → b.start.split ≡ false
one-unsplit bs b o = go b.header.parent refl
  where
    go : (q : Option ℕ) → b.header.parent ≡ q → b.start.split ≡ false
    go None e = ap (λ (p : Progress). p.split) (o.root e)
    go (Some p) e = ap (λ (w : Progress). w.split) (o.under p e).start

continues : (bs : List AcceptedTablet) (prev b : AcceptedTablet) → slice_get bs prev.header.id ≡ Some prev → IsOne bs b
    → b.header.parent ≡ Some prev.header.id → Continues prev.end b
continues bs prev b i o e = let u : UnderParent bs prev.header.id b = o.under prev.header.id e in record {
  grown = o.grown;
  start = u.start ∙ ap (λ (w : AcceptedTablet). begun w.end) (same_Some u.parent prev (sym u.there ∙ i));
}

threads-from : (bs : List AcceptedTablet) (prev : AcceptedTablet) (xs : List AcceptedTablet) → slice_get bs prev.header.id ≡ Some prev
    → Line (Some prev.header.id) (heads xs) → Each (IsOne bs) xs → Threads prev.end xs
threads-from bs prev [] i l o = tt
threads-from bs prev (b ∷ xs) i l o = (continues bs prev b i o.0 l.0, threads-from bs b xs o.0.there l.1 o.1)

threads-root : (bs xs : List AcceptedTablet) → Line None (heads xs) → Each (IsOne bs) xs → Threads origin xs
threads-root bs [] l o = tt
threads-root bs (b ∷ xs) l o = (record { grown = o.0.grown; start = o.0.root l.0 }, threads-from bs b xs o.0.there l.1 o.1)

-- the tablets that hold h
pub record Chained (logs : Logs) (h : ℕ) (xs : List AcceptedTablet) : Type 0 where
  pub line : Line None (heads xs)
  pub threads : Threads origin xs
  pub ones : Each (IsOne (accepted_tablets logs)) xs

pub chained : (logs : Logs) (h : ℕ) → is_valid logs ≡ true → Chained logs h (filter (own h) (accepted_tablets logs))
chained logs h v = let bs = accepted_tablets logs in
    let stands : Line None (heads (filter (own h) bs)) = subst (Line None) (sym (heads-own h bs)) (each-line logs h v) in
    let ones = Each-filter (IsOne bs) (own h) bs (each-one logs v) in
    record { line = stands; threads = threads-root bs (filter (own h) bs) stands ones; ones = ones }

-- ---- the last of them has no split

ids-rise : (bs : List AcceptedTablet) (p : ℕ) (xs : List AcceptedTablet) → Line (Some p) (heads xs) → Each (IsOne bs) xs
    → Each (λ b. p < b.header.id) xs
ids-rise bs p [] l o = tt
ids-rise bs p (b ∷ xs) l o = let first : p < b.header.id = (o.0.under p l.0).below in (
  first,
  Each-weaker (λ d. b.header.id < d.header.id) (λ d. p < d.header.id) (λ d q. omega arith) xs (ids-rise bs b.header.id xs l.1 o.1),
)

last-above : (p : ℕ) (b : AcceptedTablet) (xs : List AcceptedTablet) → Each (λ d. p < d.header.id) (b ∷ xs)
    → Some p ≢ line_end (Some b.header.id) (heads xs)
last-above p b [] h q = let z : p ≡ b.header.id = cc in let y : p < b.header.id = h.0 in let w : ⊥ = omega arith in w
last-above p b (x ∷ xs) h q = last-above p x xs h.1 q

none-last : (b : AcceptedTablet) (xs : List AcceptedTablet) → None ≢ line_end (Some b.header.id) (heads xs)
none-last b [] q = cc
none-last b (x ∷ xs) q = none-last x xs q

-- none of them is a child of the last one
no-child : (bs : List AcceptedTablet) (prev : Option ℕ) (xs : List AcceptedTablet) → Line prev (heads xs) → Each (IsOne bs) xs
    → Each (λ d. d.header.parent ≢ line_end prev (heads xs)) xs
no-child bs prev [] l o = tt
no-child bs None (b ∷ xs) l o = ((λ q. none-last b xs (sym l.0 ∙ q)), no-child bs (Some b.header.id) xs l.1 o.1)
no-child bs (Some p) (b ∷ xs) l o =
    ((λ q. last-above p b xs (ids-rise bs p (b ∷ xs) l o) (sym l.0 ∙ q)), no-child bs (Some b.header.id) xs l.1 o.1)

abbrev HasChild : List AcceptedTablet → ℕ → Option ℕ → Type 0
HasChild bs h p = Exists (λ d. (d.header.parent ≡ p) × (holds d.header h ≡ true)) bs

-- where the last has a split, it has a child among all tablets that holds the hash
stops-by : (bs : List AcceptedTablet) (h : ℕ) (o : Progress) (prev : Option ℕ) (xs : List AcceptedTablet)
    → (o.split ≡ true → HasChild bs h prev) → Each (λ b. b.end.split ≡ true → HasChild bs h (Some b.header.id)) xs
    → (HasChild bs h (line_end prev (heads xs)) → ⊥) → Stops o xs
stops-by bs h o prev [] q e n = false_from_ne_true o.split (λ s. n (q s))
stops-by bs h o prev (b ∷ xs) q e n = stops-by bs h b.end (Some b.header.id) xs e.0 e.1 n

-- a tablet that ends in a split has children, of which one holds the hash
has-child : (logs : Logs) (h i : ℕ) (b : AcceptedTablet) → is_valid logs ≡ true → slice_get (accepted_tablets logs) i ≡ Some b
    → holds b.header h ≡ true → b.end.split ≡ true → HasChild (accepted_tablets logs) h (Some b.header.id)
has-child logs h i b v e o s = let bs = accepted_tablets logs in let hs = headers_of logs.tablets in
    let one : IsOne bs b = each-get (IsOne bs) bs i b (each-one logs v) e in
    let pair = split-children b.header (children hs b.header.id) b.start b.records (one-unsplit bs b one)
    (each-get (FitsTablet hs) bs i b (accepted-fit logs v) e) (sym (ap (λ (p : Progress). p.split) one.grown.end) ∙ s) in
    exists-heads (λ d. (d.parent ≡ Some b.header.id) × (holds d h ≡ true)) bs
    (subst (Exists (λ d. (d.parent ≡ Some b.header.id) × (holds d h ≡ true))) (sym (heads-logs logs))
    (child-cover hs b.header pair.0.0 pair.0.1 h (valid-headers logs v) (header-get logs i b v e) pair.1 o))

pub stops : (logs : Logs) (k : List ℕ) → is_valid logs ≡ true → Stops origin (filter (own (hash_of k)) (accepted_tablets logs))
stops logs k v = let bs = accepted_tablets logs in let h = hash_of k in let xs = filter (own h) bs in let chain = chained logs h v in
    stops-by bs h origin None xs (λ _. exists-heads (RootOf h) bs
    (subst (Exists (RootOf h)) (sym (heads-logs logs)) (roots-cover h (headers_of logs.tablets) (valid-headers logs v) (hash-below k))))
    (each-from (λ b. b.end.split ≡ true → HasChild bs h (Some b.header.id)) xs
    (λ j b e. let at = filtered-get (own h) bs j b e in has-child logs h at.0 b v at.1.0 at.1.1))
    (λ i. exists-each (λ d. d.header.parent ≡ line_end None (heads xs)) xs
    (exists-filter (λ d. (d.header.parent ≡ line_end None (heads xs)) × (holds d.header h ≡ true))
    (λ d. d.header.parent ≡ line_end None (heads xs)) (own h) (λ d w. (w.1, w.0)) bs i)
    (no-child bs None xs chain.line chain.ones))

-- ---- places along them

empty-split : (o : Progress) (rs : List Record) → o.split ≡ false → length rs ≡ 0 → (fold after o rs).split ≡ false
empty-split o [] s h = s
empty-split o (r ∷ rs) s h = absurd (omega arith)

-- at place 0 no tablet is closed
pub empty-open : (ps : List ℕ) (b : AcceptedTablet) → IsGrown b → b.start.split ≡ false → place ps b ≡ 0 → is_closed_in ps b ≡ false
empty-open ps b g s z = false_from_ne_true (is_closed_in ps b) (λ c. let parts = and_parts (place ps b == length b.records) b.end.split c in
    let none : length b.records ≡ 0 = sym (eqb-true (place ps b) (length b.records) parts.0) ∙ z in
    true≢false (sym parts.1 ∙ ap (λ (w : Progress). w.split) g.end ∙ empty-split b.start b.records s none))

zeros : (logs : Logs) (ps : List ℕ) (p : ℕ) (o : Progress) (xs : List AcceptedTablet) → Line (Some p) (heads xs)
    → Threads o xs → is_closed logs ps p ≡ false → Each (IsOne (accepted_tablets logs)) xs → Each (StartsAfter logs ps) xs
    → Each (λ d. place ps d ≡ 0) xs
zeros logs ps p o [] l t c i s = tt
zeros logs ps p o (b ∷ xs) l t c i s = let here : place ps b ≡ 0 = s.0 (ap (is_started logs ps) l.0 ∙ c) in
    let open_ : is_closed_in ps b ≡ false = empty-open ps b t.0.grown (ap (λ (w : Progress). w.split) t.0.start) here in
    (here, zeros logs ps b.header.id b.end xs l.1 t.1 (closed-of logs ps b.header.id b i.0.there ∙ open_) i.1 s.1)

pub legal-chain : (logs : Logs) (ps : List ℕ) (prev : Option ℕ) (o : Progress) (xs : List AcceptedTablet) → Line prev (heads xs)
    → Threads o xs → Each (IsOne (accepted_tablets logs)) xs → Each (λ b. place ps b ≤ length b.records) xs
    → Each (StartsAfter logs ps) xs → LegalChain ps xs
legal-chain logs ps prev o [] l t i w s = tt
legal-chain logs ps prev o (b ∷ xs) l t i w s = (
  w.0,
  ⊎_elim (λ y. inl y) (λ n. inr (zeros logs ps b.header.id b.end xs l.1 t.1 (closed-of logs ps b.header.id b i.0.there
      ∙ n) i.1 s.1)) (cases_Bool (is_closed_in ps b)),
  legal-chain logs ps (Some b.header.id) b.end xs l.1 t.1 i.1 w.1 s.1,
)

-- along the tablets that hold h legal places are legal
pub legal-own : (logs : Logs) (ps : List ℕ) (h : ℕ) → is_valid logs ≡ true → IsPlaces logs ps
    → LegalChain ps (filter (own h) (accepted_tablets logs))
legal-own logs ps h v l = let bs = accepted_tablets logs in let chain = chained logs h v in
    legal-chain logs ps None origin (filter (own h) bs) chain.line chain.threads chain.ones
    (Each-filter (λ b. place ps b ≤ length b.records) (own h) bs l.within) (Each-filter (StartsAfter logs ps) (own h) bs l.starts)
