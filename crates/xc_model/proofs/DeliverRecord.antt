-- One more accepted record of a tablet, and what the logs give at a key.
use Rattle.xc_model.proofs.Common.{◌≡◌, ◌==◌, ℕ, suc, zero, ◌+◌, ◌<◌, ◌≤◌, Bool, true, false, cond, List, [], ◌∷◌, ◌++◌, take, length, refl}
use Rattle.xc_model.proofs.Common.{ap, sym, ◌∙◌, arith, subst, append_assoc, append-nil, ⊎_elim, filter, fold, take-append_seam}
use Rattle.xc_model.proofs.Common.{length-append, filter-append, flat_map-append, and_left, ne_eqb, true≢false, Kind, Record, Logs, after}
use Rattle.xc_model.proofs.Common.{AcceptedTablet, accepted_tablets, place, last_safe_in, is_closed_in, safe_time, IsPlaces, hash_of, Put}
use Rattle.xc_model.proofs.Common.{Hold, events, record_events, kind_events, puts, steps, is_valid, IsGrown, accepted_tablets-grown}
use Rattle.xc_model.proofs.Common.{Each-filter, Each-weaker, slice_get, Some, Option, Header, kind_fits, children, holds, headers_of}
use Rattle.xc_model.proofs.Common.{FitsTablet, accepted-fit, and_parts}
use Rattle.xc_record.specs.declared.record.Kind.TheVariants as log
use Rattle.xc_model.{proofs.Flat.each-flat, proofs.Tree.legal-own, specs.Stands.given_at, proofs.StableSort.Each, proofs.Elements.each-map}
use Rattle.xc_model.{proofs.Parents.each-get}
use Rattle.std.proofs.lemmas.Bool.{leb-true}
use Rattle.xc_model.proofs.ApplyPath.{AddsAfter, shown-append}
use Rattle.xc_model.proofs.KeyRead.{under-safe, along-path, IsLow, each-low, goes-back, goes-front, floor-le-last}
use Rattle.xc_model.proofs.Chain.{nothing-applied, events-push, floor_after, last_after, KindGoes, Goes, after-parts, grown-goes}
use Rattle.xc_model.proofs.Along.{IsNumbered, shown, own, applied_in, applied_along, LegalChain}

-- ---- the tablets of a key's path

zeros-after : (ps : List ℕ) (os ys : List AcceptedTablet) (b : AcceptedTablet) → LegalChain ps (os ++ b ∷ ys) → is_closed_in ps b ≡ false
    → Each (λ d. place ps d ≡ 0) ys
zeros-after ps [] ys b l c = ⊎_elim (λ e. absurd (true≢false (sym e ∙ c))) (λ z. z) l.1
zeros-after ps (o ∷ os) ys b l c = zeros-after ps os ys b l.2 c

-- b's records: those applied, r, and the rest
module _ (ps : List ℕ) (b : AcceptedTablet) (front rest : List Record) (r : Record) (is : b.records ≡ front ++ r ∷ rest)
    (at : length front ≡ place ps b) where
  pub applied-is : applied_in ps b ≡ front
  applied-is = ap (λ n. take n b.records) (sym at) ∙ ap (take (length front)) is ∙ take-append_seam front (r ∷ rest)

  pub applied-more : take (place ps b + 1) b.records ≡ front ++ r ∷ []
  applied-more = let n : place ps b + 1 ≡ length (front ++ r ∷ []) = omega (arith, length-append front (r ∷ [])) in
      ap (λ w. take w b.records) n ∙ ap (take (length (front ++ r ∷ []))) (is ∙ sym (append_assoc front (r ∷ []) rest))
      ∙ take-append_seam (front ++ r ∷ []) rest

  pub within-more : place ps b + 1 ≤ length b.records
  within-more = omega (arith, ap length is, length-append front (r ∷ rest))

  pub is-open : is_closed_in ps b ≡ false
  is-open = and_left (place ps b == length b.records) b.end.split
      (ne_eqb (place ps b) (length b.records) (λ e. let w = within-more in let z : ⊥ = omega arith in z))

applied-same : (ps qs : List ℕ) (xs : List AcceptedTablet) → Each (λ d. place qs d ≡ place ps d) xs
    → applied_along qs xs ≡ applied_along ps xs
applied-same ps qs [] h = refl
applied-same ps qs (b ∷ xs) h =
    ap (λ n. take n b.records ++ applied_along qs xs) h.0 ∙ ap (λ w. applied_in ps b ++ w) (applied-same ps qs xs h.1)

-- the path gets the record of the tablet below which nothing is applied
path-more : (ps qs : List ℕ) (os ys : List AcceptedTablet) (b : AcceptedTablet) (front rest : List Record) (r : Record)
    → b.records ≡ front ++ r ∷ rest → length front ≡ place ps b → place qs b ≡ place ps b + 1
    → Each (λ d. place qs d ≡ place ps d) os → Each (λ d. place qs d ≡ place ps d) ys → Each (λ d. place ps d ≡ 0) ys
    → applied_along qs (os ++ b ∷ ys) ≡ applied_along ps (os ++ b ∷ ys) ++ r ∷ []
path-more ps qs os ys b front rest r is at moved same-os same-ys zero-ys =
    let none : applied_along ps ys ≡ [] = nothing-applied ps ys zero-ys in
    let mine : applied_in qs b ≡ applied_in ps b ++ r ∷ [] =
    ap (λ n. take n b.records) moved ∙ applied-more ps b front rest r is at
    ∙ ap (λ w. w ++ r ∷ []) (sym (applied-is ps b front rest r is at)) in
    let old : applied_along ps (os ++ b ∷ ys) ≡ applied_along ps os ++ applied_in ps b =
    flat_map-append (applied_in ps) os (b ∷ ys) ∙ ap (λ w. applied_along ps os ++ (applied_in ps b ++ w)) none
    ∙ ap (λ w. applied_along ps os ++ w) (append-nil (applied_in ps b)) in
    flat_map-append (applied_in qs) os (b ∷ ys)
    ∙ ap (λ w. w ++ (applied_in qs b ++ applied_along qs ys)) (applied-same ps qs os same-os)
    ∙ ap (λ w. applied_along ps os ++ (applied_in qs b ++ w)) (applied-same ps qs ys same-ys ∙ none)
    ∙ ap (λ w. applied_along ps os ++ w) (append-nil (applied_in qs b) ∙ mine)
    ∙ sym (append_assoc (applied_along ps os) (applied_in ps b) (r ∷ []))
    ∙ ap (λ w. w ++ r ∷ []) (sym old)

-- ---- what the record adds

pub record-adds : (u : ℕ) (k : List ℕ) (f l time : ℕ) (kind : Kind) → u ≤ f → f ≤ l → l < time → KindGoes f time kind
    → Each (AddsAfter u) (kind_events k time kind)
record-adds u k f l time (log.Write ops) a b c g = each-map (AddsAfter u) (λ v. Put time v) (puts k ops)
    (λ v. let q : u < time = omega arith in q)
record-adds u k f l time (log.Intent sub n ops) a b c g = each-map (AddsAfter u) (λ v. Hold n sub time v) (puts k ops) (λ v. tt)
record-adds u k f l time (log.Apply n m without) a b c g = ((let q : f < m = g.0 in omega arith), tt)
record-adds u k f l time (log.Split at left right) a b c g = tt
record-adds u k f l time _ a b c g = (tt, tt)

pub record-numbered : (k : List ℕ) (time : ℕ) (t : Header) (pair : Option (Header × Header)) (kind : Kind) → kind_fits t pair kind ≡ true
    → Each IsNumbered (kind_events k time kind)
record-numbered k time t pair (log.Write ops) f = each-map IsNumbered (λ v. Put time v) (puts k ops) (λ v. tt)
record-numbered k time t pair (log.Intent sub n ops) f = each-map IsNumbered (λ v. Hold n sub time v) (puts k ops)
    (λ _. let low : 1 ≤ n = leb-true _ _ (and_parts _ _ (and_parts _ _ f).0).0 in omega arith)
record-numbered k time t pair (log.Split at left right) f = tt
record-numbered k time t pair _ f = (tt, tt)

each-take : {A : Type 0} (P : A → Type 0) (n : ℕ) (xs : List A) → Each P xs → Each P (take n xs)
each-take P zero xs h = tt
each-take P (suc n) [] h = tt
each-take P (suc n) (x ∷ xs) h = (h.0, each-take P n xs h.1)

numbered-upto : (logs : Logs) (ps k : List ℕ) → is_valid logs ≡ true
    → Each IsNumbered (events k (applied_along ps (filter (own (hash_of k)) (accepted_tablets logs))))
numbered-upto logs ps k v = let bs = accepted_tablets logs in let xs = filter (own (hash_of k)) bs in
    let P : Record → Type 0 = λ r. Each IsNumbered (record_events k r) in let hs = headers_of logs.tablets in
    each-flat IsNumbered (record_events k) P (λ r w. w) (applied_along ps xs)
    (each-flat P (applied_in ps) (λ b. Each P b.records) (λ b w. each-take P (place ps b) b.records w) xs
    (Each-filter (λ b. Each P b.records) (own (hash_of k)) bs (Each-weaker (FitsTablet hs) (λ b. Each P b.records)
    (λ b f. Each-weaker (λ r. kind_fits b.header (children hs b.header.id) r.kind ≡ true) P
    (λ r q. record-numbered k r.time b.header (children hs b.header.id) r.kind q) b.records f) bs (accepted-fit logs v))))

-- what the record adds on a key commits after the cutoff
next-adds : (logs : Logs) (ps : List ℕ) (u : ℕ) (k : List ℕ) (b : AcceptedTablet) (front rest : List Record) (r : Record)
    → slice_get (accepted_tablets logs) b.header.id ≡ Some b → b.records ≡ front ++ r ∷ rest → length front ≡ place ps b
    → u ≤ safe_time logs ps → Each (AddsAfter u) (record_events k r)
next-adds logs ps u k b front rest r i is at c = let bs = accepted_tablets logs in
    let g : IsGrown b = each-get IsGrown bs b.header.id b (accepted_tablets-grown logs) i in
    let low : b.start.floor ≤ b.start.last = (each-get IsLow bs b.header.id b (each-low logs) i).start in
    let goes : Goes b.start.floor b.start.last (front ++ r ∷ rest) = subst (Goes b.start.floor b.start.last) is (grown-goes b g) in
    let next = goes-back b.start.floor b.start.last front (r ∷ rest) goes in
    let bound : u ≤ last_safe_in ps b =
    ⊎_elim (λ e. absurd (true≢false (sym e ∙ is-open ps b front rest r is at))) (λ e. e)
    (each-get _ bs b.header.id b (under-safe logs ps u c) i) in
    let f : u ≤ floor_after b.start.floor front =
    subst (λ (n : ℕ). u ≤ n) (ap (λ (w : List Record). (fold after b.start w).floor) (applied-is ps b front rest r is at)
    ∙ (after-parts b.start front).0) bound in
    record-adds u k (floor_after b.start.floor front) (last_after b.start.last front) r.time r.kind f
    (floor-le-last b.start.floor b.start.last front low (goes-front b.start.floor b.start.last front (r ∷ rest) goes)) next.0 next.1

-- ---- what the logs give

module _ (logs : Logs) (ps qs : List ℕ) (u : ℕ) (before after : List AcceptedTablet) (b : AcceptedTablet) (front rest : List Record)
    (r : Record) (valid : is_valid logs ≡ true) (legal : IsPlaces logs ps) (low : u ≤ safe_time logs ps)
    (all : accepted_tablets logs ≡ before ++ b ∷ after)
    (is : b.records ≡ front ++ r ∷ rest) (at : length front ≡ place ps b) (there : slice_get (accepted_tablets logs) b.header.id ≡ Some b)
    (numbered : (k : List ℕ) → Each IsNumbered (record_events k r))
    (moved : place qs b ≡ place ps b + 1) (same-before : Each (λ d. place qs d ≡ place ps d) before)
    (same-after : Each (λ d. place qs d ≡ place ps d) after) where
  abbrev os : ℕ → List AcceptedTablet
  os h = filter (own h) before

  abbrev ys : ℕ → List AcceptedTablet
  ys h = filter (own h) after

  parts : (h : ℕ) → filter (own h) (accepted_tablets logs) ≡ os h ++ cond (holds b.header h) (b ∷ ys h) (ys h)
  parts h = ap (filter (own h)) all ∙ filter-append (own h) before (b ∷ after)

  path-with : (h : ℕ) → holds b.header h ≡ true
      → applied_along qs (filter (own h) (accepted_tablets logs)) ≡ applied_along ps (filter (own h) (accepted_tablets logs)) ++ r ∷ []
  path-with h o =
      let here : filter (own h) (accepted_tablets logs) ≡ os h ++ b ∷ ys h = parts h ∙ ap (λ c. os h ++ cond c (b ∷ ys h) (ys h)) o in
      let chain : LegalChain ps (os h ++ b ∷ ys h) = subst (LegalChain ps) here (legal-own logs ps h valid legal) in
      ap (applied_along qs) here
      ∙ path-more ps qs (os h) (ys h) b front rest r is at moved (Each-filter (λ d. place qs d ≡ place ps d) (own h) before same-before)
      (Each-filter (λ d. place qs d ≡ place ps d) (own h) after same-after)
      (zeros-after ps (os h) (ys h) b chain (is-open ps b front rest r is at))
      ∙ ap (λ w. applied_along ps w ++ r ∷ []) (sym here)

  path-without : (h : ℕ) → holds b.header h ≡ false
      → applied_along qs (filter (own h) (accepted_tablets logs)) ≡ applied_along ps (filter (own h) (accepted_tablets logs))
  path-without h o =
      let here : filter (own h) (accepted_tablets logs) ≡ os h ++ ys h = parts h ∙ ap (λ c. os h ++ cond c (b ∷ ys h) (ys h)) o in
      ap (applied_along qs) here
      ∙ flat_map-append (applied_in qs) (os h) (ys h)
      ∙ ap (λ w. w ++ applied_along qs (ys h))
      (applied-same ps qs (os h) (Each-filter (λ d. place qs d ≡ place ps d) (own h) before same-before))
      ∙ ap (λ w. applied_along ps (os h) ++ w)
      (applied-same ps qs (ys h) (Each-filter (λ d. place qs d ≡ place ps d) (own h) after same-after))
      ∙ sym (flat_map-append (applied_in ps) (os h) (ys h))
      ∙ ap (applied_along ps) (sym here)

  -- at a key of b's range the events of the record come in, at any other nothing changes
  pub given-more : (k : List ℕ)
      → given_at logs u qs k ≡ cond (holds b.header (hash_of k)) (steps (record_events k r) (given_at logs u ps k)) (given_at logs u ps k)
  given-more k = go (holds b.header (hash_of k)) refl
    where
      go : (o : Bool) → holds b.header (hash_of k) ≡ o
          → given_at logs u qs k ≡ cond o (steps (record_events k r) (given_at logs u ps k)) (given_at logs u ps k)
      go true o = let up = applied_along ps (filter (own (hash_of k)) (accepted_tablets logs)) in
          ap (λ rs. shown u (events k rs)) (along-path logs qs k ∙ path-with (hash_of k) o)
          ∙ ap (shown u) (events-push k up r)
          ∙ shown-append u (events k up) (record_events k r) (numbered-upto logs ps k valid) (numbered k)
          (next-adds logs ps u k b front rest r there is at low)
          ∙ ap (λ rs. steps (record_events k r) (shown u (events k rs))) (sym (along-path logs ps k))
      go false o = ap (λ rs. shown u (events k rs)) (along-path logs qs k ∙ path-without (hash_of k) o ∙ sym (along-path logs ps k))
