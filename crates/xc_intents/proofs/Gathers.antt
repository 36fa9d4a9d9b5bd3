-- What is left of slots and chains where the dead and the unused are dropped, and what is linked anew.
use Rattle.std.proofs.Common.{◌≡◌, ◌≢◌, ℕ, zero, suc, ◌+◌, ◌<◌, ◌≤◌, Bool, true, false, cond, List, [], ◌∷◌, ◌++◌, length, set}
use Rattle.std.proofs.Common.{map, filter, get_or}
use Rattle.std.proofs.Common.{take, drop, Option, Some, None, is_some, refl, sym, ◌∙◌, ap, subst, arith, ◌==◌, ◌&&◌}
use Rattle.std.proofs.lemmas.Bool.{eq-eqb}
use Rattle.std.proofs.lemmas.List.{length-map, get_or-map, get_or_at, set_at, drop_more, take_more, length-take-le, append_assoc}
use Rattle.std.proofs.lemmas.List.{map-append}
use Rattle.std.proofs.lemmas.List.Elements.{All-filter, All-from_get_or, filter_passes}
use Rattle.std.specs.List.{All}
use Rattle.xc_record.specs.Packed.{encode_op}
use Rattle.xc_arena.specs.Arena.{op_at}
use Rattle.xc_intents.specs.declared.limits.TheConstants.{MOST_LINKED}
use Rattle.xc_intents.specs.declared.slots.Slot.{Slot}
use Rattle.xc_intents.specs.declared.slots.Chain.{Chain}
use Rattle.xc_intents.specs.Slots.{at, chain_at, no_chain, blank, bare, is_live, is_used, cut, slot_op, held_in, mine, NextTo, ChainFits}
use Rattle.xc_intents.specs.Slots.{HasChain, Distinct, twig, loose, IsSearchable, Linked, Keeps, Holds, IsChained, size_of}
use Rattle.xc_intents.proofs.Searches.{searchable-same}
use Rattle.xc_intents.proofs.Links.{Linked-anew}
use Rattle.xc_intents.proofs.Chains.{Fewer-set, Linked-fewer, at-set_other, length-bare, chain-read}
use Rattle.xc_intents.proofs.Walks.{held-same, holds-same, at-bare}

-- ---- chains are cut

-- one more chain is written
map-step : (f : Chain → Chain) (xs : List Chain) (i : ℕ) → i < length xs
    → set (map f (take i xs) ++ drop i xs) i (f (chain_at (map f (take i xs) ++ drop i xs) i)) ≡ map f (take (i + 1) xs) ++ drop (i + 1) xs
map-step f xs i h =
    let c = chain_at xs i in
    let front = map f (take i xs) in
    let long : length front ≡ i = length-map (take i xs) f ∙ length-take-le i xs (omega arith) in
    let split : front ++ drop i xs ≡ front ++ (c ∷ drop (i + 1) xs) = ap (λ ys. front ++ ys) (drop_more xs i (no_chain 0) h) in
    let here : chain_at (front ++ drop i xs) i ≡ c = ap (λ ys. chain_at ys i) split
    ∙ get_or_at front c (drop (i + 1) xs) (no_chain 0) i long in
    let more : map f (take (i + 1) xs) ≡ front ++ f c ∷ [] = ap (map f) (take_more xs i (no_chain 0) h)
    ∙ map-append f (take i xs) (c ∷ []) in
    ap (λ d. set (front ++ drop i xs) i (f d)) here ∙ ap (λ ys. set ys i (f c)) split ∙ set_at front c (drop (i + 1) xs) (f c) i long
    ∙ sym (append_assoc front (f c ∷ []) (drop (i + 1) xs)) ∙ ap (λ ys. ys ++ drop (i + 1) xs) (sym more)

-- a loop over all chains made a chain what f makes of it
pub each-step : (f : Chain → Chain) (xs ys : List Chain) (i : ℕ) (d new : Chain) → i < length xs → i < length ys
    → ys ≡ map f (take i xs) ++ drop i xs → new ≡ f (get_or ys i d) → set ys i new ≡ map f (take (i + 1) xs) ++ drop (i + 1) xs
each-step f xs ys i d new low within so is =
    ap (set ys i) (is ∙ ap f (chain-read ys i d within)) ∙ ap (λ zs. set zs i (f (chain_at zs i))) so ∙ map-step f xs i low

cut-txn : (cs : List Chain) (k : ℕ) → k < length cs → (chain_at (map cut cs) k).txn ≡ (chain_at cs k).txn
cut-txn cs k h = ap (λ (c : Chain). c.txn) (get_or-map cut cs k (no_chain 0) (no_chain 0) h)

pub cut-has : (cs : List Chain) (t : ℕ) → HasChain cs t → HasChain (map cut cs) t
cut-has cs t h = (h.0, omega (arith, length-map cs cut, h.1), cut-txn cs h.0 h.1 ∙ h.2)

-- no slot is linked
pub Linked-cut : (xs : List Slot) (cs : List Chain) → IsSearchable cs (length cs) → Linked xs (map cut cs) 0
Linked-cut xs cs searchable = record {
  links = λ i a. absurd (omega arith);
  chains = λ e b.
      let low : e < length cs = omega (arith, length-map cs cut) in
      subst (ChainFits xs 0) (sym (get_or-map cut cs e (no_chain 0) (no_chain 0) low)) (cut-fits xs (chain_at cs e));
  has = λ i a. absurd (omega arith);
  searchable = subst (IsSearchable (map cut cs)) (sym (length-map cs cut))
      (searchable-same cs (map cut cs) (length cs) (λ k b. ap twig (get_or-map cut cs k (no_chain 0) (no_chain 0) b)) searchable);
}
  where
    cut-fits : (xs : List Slot) (c : Chain) → ChainFits xs 0 (cut c)
    cut-fits xs c = record {
      first = λ k a b. absurd (omega arith);
      last = λ k a b. absurd
          (omega arith);
      passed = tt;
      ends = λ e. refl;
      lasts = λ i a t e. absurd (omega arith);
    }

-- ---- a slot is linked anew

pub Linked-bare : (xs : List Slot) (cs : List Chain) (i : ℕ) → i < length xs → Linked xs cs i → Linked (set xs i (bare (at xs i))) cs i
Linked-bare xs cs i b l =
    Linked-fewer i xs (set xs i (bare (at xs i))) (Fewer-set i xs i (bare (at xs i)) b refl refl (λ live. live)) cs
    (λ k low. ap (λ (s : Slot). s.next) (at-set_other xs i k (bare (at xs i)) (omega arith))) l

-- ---- what a filter keeps

filter-twice : (xs : List Slot) → filter is_live (filter is_live xs) ≡ filter is_live xs
filter-twice [] = refl
filter-twice (x ∷ xs) = go x.live refl (filter-twice xs)
  where
    go : (b : Bool) → x.live ≡ b → filter is_live (filter is_live xs) ≡ filter is_live xs
        → filter is_live (cond b (x ∷ filter is_live xs) (filter is_live xs)) ≡ cond b (x ∷ filter is_live xs) (filter is_live xs)
    go true e rest = ap (λ b. cond b (x ∷ filter is_live (filter is_live xs)) (filter is_live (filter is_live xs))) e
        ∙ ap (λ ys. x ∷ ys) rest
    go false e rest = rest

pub held-filter : (b : List ℕ) (xs : List Slot) → held_in b (filter is_live xs) ≡ held_in b xs
held-filter b xs = ap (map (slot_op b)) (filter-twice xs)

pub length-held_filter : (b : List ℕ) (xs : List Slot) → length (held_in b (filter is_live xs)) ≡ length (filter is_live xs)
length-held_filter b xs = length-map (filter is_live (filter is_live xs)) (slot_op b) ∙ ap length (filter-twice xs)

pub live-filter : (xs : List Slot) (k : ℕ) → k < length (filter is_live xs) → (at (filter is_live xs) k).live ≡ true
live-filter xs k h = filter_passes is_live xs k blank h

-- what holds of each slot holds of each that is kept
slots-filter : (P : Slot → Type 0) (xs : List Slot) → ((k : ℕ) → k < length xs → P (at xs k)) → (k : ℕ) → k < length (filter is_live xs)
    → P (at (filter is_live xs) k)
slots-filter P xs h k low = All-filter is_live P xs (All-from_get_or P xs blank h) k blank low

pub holds-filter : (b : List ℕ) (xs : List Slot) → Holds b xs → Holds b (filter is_live xs)
holds-filter b xs h = slots-filter (Keeps b) xs h

-- the bytes of slots but for their links
size-bare : (b : List ℕ) (xs : List Slot) → size_of b (map bare xs) ≡ size_of b xs
size-bare b [] = refl
size-bare b (x ∷ xs) = ap (λ n. length (encode_op (op_at b x.at)) + n) (size-bare b xs)

pub has-filter : (xs : List Slot) (cs : List Chain) → Linked xs cs (length xs) → (k : ℕ) → k < length (filter is_live xs)
    → HasChain cs (at (filter is_live xs) k).txn
has-filter xs cs l = slots-filter (λ s. HasChain cs s.txn) xs l.has

-- where an element that passes stands in a filter
kept-at : (p : Chain → Bool) (cs : List Chain) (e : ℕ) → e < length cs → p (chain_at cs e) ≡ true
    → (d : ℕ) × (d < length (filter p cs)) × (chain_at (filter p cs) d ≡ chain_at cs e)
kept-at p [] e b h = absurd (omega arith)
kept-at p (c ∷ cs) zero b h = rw h (0, omega arith, refl)
kept-at p (c ∷ cs) (suc e) b h =
    let r = kept-at p cs e (omega arith) h in
    let low = r.1 in
    elim (p c) as (λ t. (d : ℕ) × (d < length (cond t (c ∷ filter p cs) (filter p cs)))
    × (chain_at (cond t (c ∷ filter p cs) (filter p cs)) d ≡ chain_at cs e)) [
      | true ↦ (suc r.0, omega arith, r.2)
      | false ↦ r
    ]

-- chains stay different
distinct-tail : (c : Chain) (cs : List Chain) → Distinct (c ∷ cs) → Distinct cs
distinct-tail c cs r = λ a b lt high. r (suc a) (suc b) (omega arith) (omega arith)

distinct-head : (c : Chain) (cs : List Chain) → Distinct (c ∷ cs) → All (λ (d : Chain). c.txn ≢ d.txn) cs
distinct-head c cs r = All-from_get_or (λ (d : Chain). c.txn ≢ d.txn) cs (no_chain 0) (λ k low. r 0 (suc k) (omega arith) (omega arith))

distinct-cons : (c : Chain) (cs : List Chain) → All (λ (d : Chain). c.txn ≢ d.txn) cs → Distinct cs → Distinct (c ∷ cs)
distinct-cons c cs apart r zero zero lt high = absurd (omega arith)
distinct-cons c cs apart r zero (suc b) lt high = apart b (no_chain 0) (omega arith)
distinct-cons c cs apart r (suc a) zero lt high = absurd (omega arith)
distinct-cons c cs apart r (suc a) (suc b) lt high = r a b (omega arith) (omega arith)

pub distinct-filter : (p : Chain → Bool) (cs : List Chain) → Distinct cs → Distinct (filter p cs)
distinct-filter p [] r = r
distinct-filter p (c ∷ cs) r =
    let rest = distinct-filter p cs (distinct-tail c cs r) in
    elim (p c) as (λ t. Distinct (cond t (c ∷ filter p cs) (filter p cs))) [
      | true ↦ distinct-cons c (filter p cs) (All-filter p (λ (d : Chain). c.txn ≢ d.txn) cs (distinct-head c cs r)) rest
      | false ↦ rest
    ]

-- the chains without slots go, where all slots are live
pub Linked-used : (xs : List Slot) (cs ds : List Chain) (n : ℕ) → ((i : ℕ) → i < n → (at xs i).live ≡ true) → Linked xs cs n
    → map loose ds ≡ map loose (filter is_used cs) → IsSearchable ds (length ds) → Linked xs ds n
Linked-used xs cs ds n live l same searchable =
    Linked-anew xs (filter is_used cs) ds n l.links
    (λ e b. All-filter is_used (ChainFits xs n) cs (All-from_get_or (ChainFits xs n) cs (no_chain 0) l.chains) e (no_chain 0) b)
    (λ i a.
    let h : HasChain cs (at xs i).txn = l.has i a in
    let fits : ChainFits xs n (chain_at cs h.0) = l.chains h.0 h.1 in
    let kept = kept-at is_used cs h.0 h.1 (used i a (chain_at cs h.0) h.2 (chain_at cs h.0).first fits.first) in
    (kept.0, kept.1, ap (λ (c : Chain). c.txn) kept.2 ∙ h.2))
    same searchable
  where
    used : (i : ℕ) → i < n → (c : Chain) → c.txn ≡ (at xs i).txn → (o : Option ℕ) → NextTo c.txn xs 0 n o → is_some o ≡ true
    used i a c t None skips =
        let no_slot : mine c.txn (at xs i) ≡ false = skips i (omega arith) a in
        let is_mine : mine c.txn (at xs i) ≡ true = ap (λ b. b && c.txn == (at xs i).txn) (live i a) ∙ eq-eqb c.txn (at xs i).txn t in
        absurd (cc)
    used i a c t (Some j) next = refl

-- slots that are live, and linked anew
module _ (xs ys : List Slot) (ds : List Chain) (small : length xs ≤ MOST_LINKED) (same : map bare ys ≡ map bare (filter is_live xs))
    (l : Linked ys ds (length ys)) where
  anew-long : length ys ≡ length (filter is_live xs)
  anew-long = length-bare (filter is_live xs) ys same

  anew-live : (k : ℕ) → k < length ys → (at ys k).live ≡ true
  anew-live k b =
      let long = anew-long in
      let low : k < length (filter is_live xs) = omega arith in
      ap (λ (s : Slot). s.live) (at-bare (filter is_live xs) ys k same low) ∙ live-filter xs k low

  pub anew-held : (b : List ℕ) → held_in b ys ≡ held_in b xs
  anew-held b = held-same b (filter is_live xs) ys same ∙ held-filter b xs

  pub anew-all : (b : List ℕ) → length (held_in b ys) ≡ length ys
  anew-all b = ap length (held-same b (filter is_live xs) ys same) ∙ length-held_filter b xs ∙ sym anew-long

  pub anew-size : (b : List ℕ) → size_of b ys ≡ size_of b (filter is_live xs)
  anew-size b = sym (size-bare b ys) ∙ ap (size_of b) same ∙ size-bare b (filter is_live xs)

  pub anew-chained : (b : List ℕ) → Holds b xs → (es : List Chain) → length (filter is_live xs) ≤ length xs
      → map loose es ≡ map loose (filter is_used ds) → IsSearchable es (length es) → length es ≤ MOST_LINKED → IsChained b ys es
  anew-chained b holds es short kept searchable few = record {
    linked = Linked-used ys ds es (length ys) anew-live l kept searchable;
    holds = holds-same b (filter is_live xs) ys same (holds-filter b xs holds);
    small = omega (arith, anew-long, small);
    few = few;
  }
