-- How links and chains stay right: as slots die, as links pass over dead slots, and as one more slot is linked.
use Rattle.std.proofs.Common.{◌≡◌, ◌≢◌, ℕ, ◌+◌, ◌<◌, ◌≤◌, Bool, true, false, List, length, set, map, Option, Some, None, refl, sym, ◌∙◌, ap}
use Rattle.std.proofs.Common.{get_or, subst, arith, ◌==◌, ◌&&◌, ⊎_elim}
use Rattle.std.proofs.lemmas.Bool.{cases_eq, cases_lt}
use Rattle.std.proofs.lemmas.List.{get_or_default, get_or-set_same, get_or-set_other, length-set, map-set, get_or-map, set-get_or}
use Rattle.std.proofs.lemmas.List.{length-map}
use Rattle.xc_intents.specs.HeldOps.{in_range}
use Rattle.xc_intents.specs.declared.slots.Slot.{Slot}
use Rattle.xc_intents.specs.declared.slots.Chain.{Chain}
use Rattle.xc_intents.specs.Slots.{at, chain_at, no_chain, blank, mine, Skips, IsNext, NextTo, LastTo, in_walk, PassedTo, ChainFits}
use Rattle.xc_intents.specs.Slots.{HasChain, twig, IsSearchable, Linked, next_of, WalkTo, chain_to, slots_to, bare, SameWalk, Moves}
use Rattle.std.specs.Option.{option_map_or}
use Rattle.xc_intents.proofs.Searches.{searchable-same}

pub weaker : (a b r : Bool) → (b ≡ true → a ≡ true) → (a && r) ≡ false → (b && r) ≡ false
weaker a false r h e = refl
weaker true true r h e = e
weaker false true r h e = let f : false ≡ true = h refl in absurd (cc)

-- the first n slots have the same transactions and hashes, and none is live that wasn't
pub record Fewer (n : ℕ) (xs ys : List Slot) : Type 0 where
  pub txn : (k : ℕ) → k < n → (at ys k).txn ≡ (at xs k).txn
  pub hash : (k : ℕ) → k < n → (at ys k).hash ≡ (at xs k).hash
  pub live : (k : ℕ) → k < n → (at ys k).live ≡ true → (at xs k).live ≡ true

and-lives : (a b r : Bool) → (b ≡ true → a ≡ true) → (b && r) ≡ true → (a && r) ≡ true
and-lives a false r h e = absurd (cc)
and-lives true true r h e = e
and-lives false true r h e = let g : false ≡ true = h refl in absurd (cc)

module _ (n : ℕ) (xs ys : List Slot) (f : Fewer n xs ys) where
  pub mine-fewer : (t k : ℕ) → k < n → mine t (at xs k) ≡ false → mine t (at ys k) ≡ false
  mine-fewer t k b e = ap (λ u. (at ys k).live && t == u) (f.txn k b)
      ∙ weaker (at xs k).live (at ys k).live (t == (at xs k).txn) (f.live k b) e

  mine-lives : (t k : ℕ) → k < n → mine t (at ys k) ≡ true → mine t (at xs k) ≡ true
  mine-lives t k b e = and-lives (at xs k).live (at ys k).live (t == (at xs k).txn) (f.live k b)
      (ap (λ u. (at ys k).live && t == u) (sym (f.txn k b)) ∙ e)

  pub Skips-fewer : (t from m : ℕ) → m ≤ n → Skips t xs from m → Skips t ys from m
  Skips-fewer t from m h s = λ k a b. mine-fewer t k (omega arith) (s k a b)

  pub NextTo-fewer : (t from : ℕ) (o : Option ℕ) → NextTo t xs from n o → NextTo t ys from n o
  NextTo-fewer t from None s = Skips-fewer t from n (omega arith) s
  NextTo-fewer t from (Some j) s = let b : j < n = s.below in
      record { above = s.above; below = s.below; same = f.txn j b ∙ s.same; skips = Skips-fewer t from j (omega arith) s.skips }

  pub LastTo-fewer : (t : ℕ) (o : Option ℕ) → LastTo t xs n o → LastTo t ys n o
  LastTo-fewer t None s = Skips-fewer t 0 n (omega arith) s
  LastTo-fewer t (Some l) s = record {
    below = s.below;
    same = f.txn l s.below
        ∙ s.same;
    skips = Skips-fewer t (l + 1) n (omega arith) s.skips;
  }

  in_walk-fewer : (c : Chain) (k : ℕ) → k < n → in_walk c (at xs k) ≡ false → in_walk c (at ys k) ≡ false
  in_walk-fewer c k b e =
      ap (λ h. mine c.txn (at ys k) && in_range c.lo c.hi h) (f.hash k b)
      ∙ weaker (mine c.txn (at xs k)) (mine c.txn (at ys k)) (in_range c.lo c.hi (at xs k).hash) (mine-lives c.txn k b) e

  pub PassedTo-fewer : (c : Chain) (o : Option ℕ) → PassedTo xs n c o → PassedTo ys n c o
  PassedTo-fewer c None s = tt
  PassedTo-fewer c (Some p) s = let b : p < n = s.below in
      record { below = s.below; same = f.txn p b ∙ s.same; none = λ k a. in_walk-fewer c k (omega arith) (s.none k a) }

  -- links that are changed, of which none ends that went on
  pub Linked-rewired : (cs : List Chain) → ((i : ℕ) → i < n → NextTo (at ys i).txn ys (i + 1) n (at ys i).next)
      → ((i : ℕ) → i < n → (at ys i).next ≡ None → (at xs i).next ≡ None) → Linked xs cs n → Linked ys cs n
  Linked-rewired cs links ends l = record {
    links = links;
    chains = λ e b. let c = chain_at cs e in let fits : ChainFits xs n c = l.chains e b in record {
      first = NextTo-fewer c.txn 0 c.first fits.first;
      last = LastTo-fewer c.txn c.last fits.last;
      passed = PassedTo-fewer c c.passed fits.passed;
      ends = fits.ends;
      lasts = λ i a t e. fits.lasts i a (sym (f.txn i a) ∙ t) (ends i a e);
    };
    has = λ i a. let h : HasChain cs (at xs i).txn = l.has i a in (h.0, h.1, h.2 ∙ sym (f.txn i a));
    searchable = l.searchable;
  }

  -- links that stay
  pub Linked-fewer : (cs : List Chain) → ((i : ℕ) → i < n → (at ys i).next ≡ (at xs i).next) → Linked xs cs n → Linked ys cs n
  Linked-fewer cs same l =
      Linked-rewired cs
      (λ i a. let P : ℕ → Option ℕ → Type 0 = λ t o. NextTo t ys (i + 1) n o in
      subst (λ t. P t (at ys i).next) (sym (f.txn i a))
      (subst (P (at xs i).txn) (sym (same i a)) (NextTo-fewer (at xs i).txn (i + 1) (at xs i).next (l.links i a))))
      (λ i a e. sym (same i a) ∙ e) l

-- ---- a slot that is written

pub at-set_same : (xs : List Slot) (i : ℕ) (s : Slot) → i < length xs → at (set xs i s) i ≡ s
at-set_same xs i s h = get_or-set_same xs i s blank h

pub at-set_other : (xs : List Slot) (i k : ℕ) (s : Slot) → k ≢ i → at (set xs i s) k ≡ at xs k
at-set_other xs i k s h = get_or-set_other xs i k s blank h

-- what a field is afterwards
pub at-field : {A : Type 0} (field : Slot → A) (xs : List Slot) (i k : ℕ) (s : Slot) → i < length xs → field s ≡ field (at xs i)
    → field (at (set xs i s) k) ≡ field (at xs k)
at-field field xs i k s h e =
    ⊎_elim
    (λ (same : k ≡ i). subst (λ m. field (at (set xs i s) m) ≡ field (at xs m)) (sym same) (ap field (at-set_same xs i s h) ∙ e))
    (λ other. ap field (at-set_other xs i k s other))
    (cases_eq k i)

pub Fewer-set : (n : ℕ) (xs : List Slot) (i : ℕ) (s : Slot) → i < length xs → s.txn ≡ (at xs i).txn → s.hash ≡ (at xs i).hash
    → (s.live ≡ true → (at xs i).live ≡ true) → Fewer n xs (set xs i s)
Fewer-set n xs i s h t u v = record {
  txn = λ k b. at-field (λ (z : Slot). z.txn) xs i k s h t;
  hash = λ k b. at-field (λ (z : Slot). z.hash) xs i k s h u;
  live = λ k b e. ⊎_elim
      (λ (same : k ≡ i). subst
      (λ m. (at xs m).live ≡ true) (sym same)
      (v (ap (λ (z : Slot). z.live) (sym (at-set_same xs i s h)) ∙ subst (λ m. (at (set xs i s) m).live ≡ true) same e)))
      (λ other. ap (λ (z : Slot). z.live) (sym (at-set_other xs i k s other)) ∙ e)
      (cases_eq k i);
}

-- a slot dies
pub Linked-dies : (n : ℕ) (xs : List Slot) (cs : List Chain) (i : ℕ) (s : Slot) → i < length xs → s ≡ record (at xs i) { live = false }
    → Linked xs cs n → Linked (set xs i s) cs n
Linked-dies n xs cs i s h e l =
    let f = Fewer-set n xs i s h (ap (λ (z : Slot). z.txn) e) (ap (λ (z : Slot). z.hash) e)
    (λ b. let no : s.live ≡ false = ap (λ (z : Slot). z.live) e in absurd (cc)) in
    Linked-fewer n xs (set xs i s) f cs (λ k b. at-field (λ (z : Slot). z.next) xs i k s h (ap (λ (z : Slot). z.next) e)) l

-- ---- a link that passes over a dead slot

dead-mine : (t : ℕ) (s : Slot) → s.live ≡ false → mine t s ≡ false
dead-mine t s e = ap (λ b. b && t == s.txn) e

NextTo-over : (t : ℕ) (xs : List Slot) (from n m j : ℕ) → IsNext t xs from n m → (at xs m).live ≡ false
    → IsNext (at xs m).txn xs (m + 1) n j → IsNext t xs from n j
NextTo-over t xs from n m j to_m dead to_j = record {
  above = omega (arith, to_m.above, to_j.above);
  below = to_j.below;
  same = to_j.same ∙ to_m.same;
  skips = λ k a b.
      ⊎_elim
      (λ (here : k ≡ m). subst (λ z. mine t (at xs z) ≡ false) (sym here) (dead-mine t (at xs m) dead))
      (λ (other : k ≢ m). ⊎_elim
      (λ (low : k < m). to_m.skips k a low)
      (λ (high : m ≤ k). subst (λ u. mine u (at xs k) ≡ false) to_m.same (to_j.skips k (omega arith) b))
      (cases_lt k m))
      (cases_eq k m);
}

next-at : (xs : List Slot) (cs : List Chain) (n i j : ℕ) → i < n → (at xs i).next ≡ Some j → Linked xs cs n
    → IsNext (at xs i).txn xs (i + 1) n j
next-at xs cs n i j a e l = subst (NextTo (at xs i).txn xs (i + 1) n) e (l.links i a)

-- the link of p passes over m, which is dead
module _ (n : ℕ) (xs : List Slot) (cs : List Chain) (p m j : ℕ) (s : Slot) (long : n ≤ length xs) (h : p < n)
    (to_m : (at xs p).next ≡ Some m) (dead : (at xs m).live ≡ false) (to_j : (at xs m).next ≡ Some j)
    (is : s ≡ record (at xs p) { next = Some j }) (l : Linked xs cs n) where
  over : List Slot
  over = set xs p s

  over-fewer : Fewer n xs (set xs p s)
  over-fewer = Fewer-set n xs p s (omega arith) (ap (λ (z : Slot). z.txn) is) (ap (λ (z : Slot). z.hash) is)
      (λ b. ap (λ (z : Slot). z.live) (sym is) ∙ b)

  over-links : (i : ℕ) → i < n → NextTo (at (set xs p s) i).txn (set xs p s) (i + 1) n (at (set xs p s) i).next
  over-links i a =
      ⊎_elim
      (λ (here : i ≡ p).
      let first = next-at xs cs n p m h to_m l in
      let to : IsNext (at xs p).txn xs (p + 1) n j = NextTo-over (at xs p).txn xs (p + 1) n m j first dead
      (next-at xs cs n m j first.below to_j l) in
      let to' : NextTo (at xs p).txn (set xs p s) (p + 1) n (Some j) = NextTo-fewer n xs (set xs p s) over-fewer (at xs p).txn (p + 1)
      (Some j) to in
      let at_p : at (set xs p s) p ≡ record (at xs p) { next = Some j } = at-set_same xs p s (omega arith) ∙ is in
      subst (λ k. NextTo (at (set xs p s) k).txn (set xs p s) (k + 1) n (at (set xs p s) k).next) (sym here)
      (subst (λ (z : Slot). NextTo z.txn (set xs p s) (p + 1) n z.next) (sym at_p) to'))
      (λ (other : i ≢ p).
      subst (λ (z : Slot). NextTo z.txn (set xs p s) (i + 1) n z.next) (sym (at-set_other xs p i s other))
      (NextTo-fewer n xs (set xs p s) over-fewer (at xs i).txn (i + 1) (at xs i).next (l.links i a)))
      (cases_eq i p)

  over-ends : (i : ℕ) → i < n → (at (set xs p s) i).next ≡ None → (at xs i).next ≡ None
  over-ends i a none =
      ⊎_elim
      (λ (here : i ≡ p).
      let at_p : at (set xs p s) p ≡ record (at xs p) { next = Some j } = at-set_same xs p s (omega arith) ∙ is in
      let none_p : (at (set xs p s) p).next ≡ None = subst (λ k. (at (set xs p s) k).next ≡ None) here none in
      let some_p : (at (set xs p s) p).next ≡ Some j = ap (λ (z : Slot). z.next) at_p in
      absurd (cc))
      (λ (other : i ≢ p). ap (λ (z : Slot). z.next) (sym (at-set_other xs p i s other)) ∙ none)
      (cases_eq i p)

  pub Linked-over : Linked (set xs p s) cs n
  Linked-over = Linked-rewired n xs (set xs p s) over-fewer cs over-links over-ends l

-- a chain, and a slot, as they are read
pub chain-read : (cs : List Chain) (e : ℕ) (d : Chain) → e < length cs → get_or cs e d ≡ chain_at cs e
chain-read cs e d h = get_or_default cs e d (no_chain 0) h

pub slot-read : (xs : List Slot) (i : ℕ) (d : Slot) → i < length xs → get_or xs i d ≡ at xs i
slot-read xs i d h = get_or_default xs i d blank h

-- ---- a chain that is written

pub chain-set_same : (cs : List Chain) (e : ℕ) (c : Chain) → e < length cs → chain_at (set cs e c) e ≡ c
chain-set_same cs e c h = get_or-set_same cs e c (no_chain 0) h

pub chain-set_other : (cs : List Chain) (e k : ℕ) (c : Chain) → k ≢ e → chain_at (set cs e c) k ≡ chain_at cs k
chain-set_other cs e k c h = get_or-set_other cs e k c (no_chain 0) h

pub chain-txn : (cs : List Chain) (e k : ℕ) (c : Chain) → e < length cs → c.txn ≡ (chain_at cs e).txn
    → (chain_at (set cs e c) k).txn ≡ (chain_at cs k).txn
chain-txn cs e k c h t =
    ⊎_elim
    (λ (same : k ≡ e). subst
    (λ m. (chain_at (set cs e c) m).txn ≡ (chain_at cs m).txn) (sym same) (ap (λ (z : Chain). z.txn) (chain-set_same cs e c h) ∙ t))
    (λ other. ap (λ (z : Chain). z.txn) (chain-set_other cs e k c other))
    (cases_eq k e)

-- each chain fits, where this one does and the others did
pub chains-set : (ys : List Slot) (m : ℕ) (cs : List Chain) (e : ℕ) (c : Chain) → e < length cs → ChainFits ys m c
    → ((k : ℕ) → k < length cs → k ≢ e → ChainFits ys m (chain_at cs k))
    → (k : ℕ) → k < length (set cs e c) → ChainFits ys m (chain_at (set cs e c) k)
chains-set ys m cs e c h fits others k b =
    ⊎_elim
    (λ (same : k ≡ e). subst (λ z. ChainFits ys m (chain_at (set cs e c) z)) (sym same)
    (subst (ChainFits ys m) (sym (chain-set_same cs e c h)) fits))
    (λ (other : k ≢ e). subst (ChainFits ys m) (sym (chain-set_other cs e k c other)) (others k (omega (arith, length-set cs e c)) other))
    (cases_eq k e)

pub has-set : (cs : List Chain) (e : ℕ) (c : Chain) (t : ℕ) → e < length cs → c.txn ≡ (chain_at cs e).txn → HasChain cs t
    → HasChain (set cs e c) t
has-set cs e c t h same has = (has.0, omega (arith, length-set cs e c, has.1), chain-txn cs e has.0 c h same ∙ has.2)

pub searchable-set : (cs : List Chain) (e : ℕ) (c : Chain) → e < length cs → twig c ≡ twig (chain_at cs e) → IsSearchable cs (length cs)
    → IsSearchable (set cs e c) (length (set cs e c))
searchable-set cs e c h same searchable =
    subst (IsSearchable (set cs e c)) (sym (length-set cs e c))
    (searchable-same cs (set cs e c) (length cs)
    (λ k b. ⊎_elim
    (λ (here : k ≡ e). subst (λ m. twig (chain_at (set cs e c) m) ≡ twig (chain_at cs m)) (sym here)
    (ap twig (chain-set_same cs e c h) ∙ same))
    (λ other. ap twig (chain-set_other cs e k c other))
    (cases_eq k e)) searchable)

pub Linked-chain : (xs : List Slot) (cs : List Chain) (n e : ℕ) (c : Chain) → e < length cs → twig c ≡ twig (chain_at cs e)
    → ChainFits xs n c → Linked xs cs n → Linked xs (set cs e c) n
Linked-chain xs cs n e c h same fits l = record {
  links = l.links;
  chains = chains-set xs n cs e c h fits (λ k b other. l.chains k b);
  has = λ i a. has-set cs e c (at xs i).txn h (ap (λ (d : Chain). d.txn) same) (l.has i a);
  searchable = searchable-set cs e c h same l.searchable;
}

-- ---- the walk of a chain

pub false-and : (a r : Bool) → a ≡ false → (a && r) ≡ false
false-and false r e = refl
false-and true r e = absurd (cc)

skipped : (c : Chain) (xs : List Slot) (k : ℕ) → mine c.txn (at xs k) ≡ false → in_walk c (at xs k) ≡ false
skipped c xs k e = false-and (mine c.txn (at xs k)) (in_range c.lo c.hi (at xs k).hash) e

reached-from : (xs : List Slot) (n : ℕ) (c : Chain) (from : ℕ) (o : Option ℕ) → ((k : ℕ) → k < from → in_walk c (at xs k) ≡ false)
    → NextTo c.txn xs from n o → WalkTo xs n c o
reached-from xs n c from None before next = λ k b.
    ⊎_elim (λ (low : k < from). before k low) (λ (high : from ≤ k). skipped c xs k (next k high b)) (cases_lt k from)
reached-from xs n c from (Some i) before next = record {
  below = next.below;
  same = next.same;
  none = λ k b. ⊎_elim (λ (low : k < from). before k low) (λ (high : from ≤ k). skipped c xs k (next.skips k high b)) (cases_lt k from);
}

-- where the walk goes on
pub walk-reaches : (xs : List Slot) (cs : List Chain) (n e : ℕ) → e < length cs → Linked xs cs n
    → WalkTo xs n (chain_at cs e) (next_of xs (chain_at cs e))
walk-reaches xs cs n e b l =
    let c = chain_at cs e in
    let fits : ChainFits xs n c = l.chains e b in
    elim c.passed as (λ o. PassedTo xs n c o → WalkTo xs n c (option_map_or (λ p. (at xs p).next) o c.first)) [
      | None ↦ λ _. reached-from xs n c 0 c.first (λ k h. absurd (omega arith)) fits.first
      | Some p ↦ λ passed.
          reached-from xs n c (p + 1) (at xs p).next (λ k h. passed.none k (omega arith))
          (subst (λ t. NextTo t xs (p + 1) n (at xs p).next) passed.same (l.links p passed.below))
    ] fits.passed

pub passed-below : (xs : List Slot) (cs : List Chain) (n e p : ℕ) → e < length cs → Linked xs cs n → (chain_at cs e).passed ≡ Some p → p < n
passed-below xs cs n e p b l is =
    let fits : ChainFits xs n (chain_at cs e) = l.chains e b in
    let passed : PassedTo xs n (chain_at cs e) (Some p) = subst (PassedTo xs n (chain_at cs e)) is fits.passed in
    passed.below

-- the walk passes a slot that it does not look for
pub Linked-passes : (xs : List Slot) (cs : List Chain) (n e i : ℕ) → e < length cs → next_of xs (chain_at cs e) ≡ Some i
    → in_walk (chain_at cs e) (at xs i) ≡ false → Linked xs cs n
    → Linked xs (set cs e (record (chain_at cs e) { passed = Some i })) n
Linked-passes xs cs n e i b is out l =
    let c = chain_at cs e in
    let fits : ChainFits xs n c = l.chains e b in
    let reached : WalkTo xs n c (Some i) = subst (WalkTo xs n c) is (walk-reaches xs cs n e b l) in
    Linked-chain xs cs n e (record c { passed = Some i }) b refl
    (record {
      first = fits.first;
      last = fits.last;
      passed = record {
        below = reached.below;
        same = reached.same;
        none = λ k h. ⊎_elim
            (λ (here : k ≡ i). subst (λ z. in_walk c (at xs z) ≡ false) (sym here) out)
            (λ (other : k ≢ i). reached.none k (omega arith))
            (cases_eq k i);
      };
      ends = fits.ends;
      lasts = fits.lasts;
    }) l

first-passed : (xs : List Slot) (n : ℕ) (c : Chain) (f o : Option ℕ) → PassedTo xs n c o → PassedTo xs n (record c { first = f }) o
first-passed xs n c f None s = tt
first-passed xs n c f (Some p) s = record { below = s.below; same = s.same; none = s.none }

-- the link behind what was passed passes over a dead slot
pub Linked-skips : (xs : List Slot) (cs : List Chain) (n e m j : ℕ) → n ≤ length xs → e < length cs → next_of xs (chain_at cs e) ≡ Some m
    → (at xs m).live ≡ false → (at xs m).next ≡ Some j → Linked xs cs n
    → Linked (slots_to xs (chain_at cs e).passed (Some j)) (set cs e (chain_to (chain_at cs e) (Some j))) n
Linked-skips xs cs n e m j long b is dead to_j l =
    let c = chain_at cs e in
    let fits : ChainFits xs n c = l.chains e b in
    elim c.passed as (λ o. PassedTo xs n c o → option_map_or (λ p. (at xs p).next) o c.first ≡ Some m
    → Linked (slots_to xs o (Some j)) (set cs e (option_map_or (λ p. c) o (record c { first = Some j }))) n) [
      | None ↦ λ _ to_m.
          let first : IsNext c.txn xs 0 n m = subst (NextTo c.txn xs 0 n) to_m fits.first in
          let over_m : IsNext c.txn xs 0 n j = NextTo-over c.txn xs 0 n m j first dead (next-at xs cs n m j first.below to_j l) in
          Linked-chain xs cs n e (record c { first = Some j }) b refl
          (record {
            first = over_m;
            last = fits.last;
            passed = first-passed xs n c (Some j) c.passed fits.passed;
            ends = λ none. absurd
                (cc);
            lasts = fits.lasts;
          }) l
      | Some p ↦ λ passed to_m.
          let over_m : Linked (set xs p (record (at xs p) { next = Some j })) cs n = Linked-over n xs cs p m j
          (record (at xs p) { next = Some j }) long passed.below to_m dead to_j refl l in
          Linked-chain (set xs p (record (at xs p) { next = Some j })) cs n e c b refl (over_m.chains e b) over_m
    ] fits.passed is

-- ---- a step of the walk

pub walk-set : (cs : List Chain) (e : ℕ) (c : Chain) → e < length cs → SameWalk (chain_at cs e) c
    → SameWalk (chain_at cs e) (chain_at (set cs e c) e)
walk-set cs e c b same = subst (SameWalk (chain_at cs e)) (sym (chain-set_same cs e c b)) same

pub bare-set : (xs : List Slot) (p : ℕ) (s : Slot) → p < length xs → bare s ≡ bare (at xs p) → map bare (set xs p s) ≡ map bare xs
bare-set xs p s b e =
    map-set bare xs p s ∙ ap (set (map bare xs) p) (e ∙ sym (get_or-map bare xs p blank blank b)) ∙ set-get_or (map bare xs) p blank

pub moves-passes : (xs : List Slot) (cs : List Chain) (e i : ℕ) → e < length cs → next_of xs (chain_at cs e) ≡ Some i
    → in_walk (chain_at cs e) (at xs i) ≡ false → Linked xs cs (length xs)
    → Moves xs cs xs (set cs e (record (chain_at cs e) { passed = Some i })) e
moves-passes xs cs e i b is out l = record {
  linked = Linked-passes xs cs (length xs) e i b is out l;
  slots = refl;
  chains = length-set cs e (record (chain_at cs e) { passed = Some i });
  walk = walk-set cs e (record (chain_at cs e) { passed = Some i }) b (record { txn = refl; lo = refl; hi = refl });
}

pub bare-to : (xs : List Slot) (passed o : Option ℕ) → ((p : ℕ) → passed ≡ Some p → p < length xs)
    → map bare (slots_to xs passed o) ≡ map bare xs
bare-to xs None o h = refl
bare-to xs (Some p) o h = bare-set xs p (record (at xs p) { next = o }) (h p refl) refl

chain_to-walk : (c : Chain) (o : Option ℕ) → SameWalk c (chain_to c o)
chain_to-walk c o = elim c.passed as (λ q. SameWalk c (option_map_or (λ p. c) q (record c { first = o }))) [
  | None ↦ record { txn = refl; lo = refl; hi = refl }
  | Some p ↦ record { txn = refl; lo = refl; hi = refl }
]

pub length-bare : (xs ys : List Slot) → map bare ys ≡ map bare xs → length ys ≡ length xs
length-bare xs ys e = sym (length-map ys bare) ∙ ap length e ∙ length-map xs bare

pub moves-skips : (xs : List Slot) (cs : List Chain) (e m j : ℕ) → e < length cs → next_of xs (chain_at cs e) ≡ Some m
    → (at xs m).live ≡ false → (at xs m).next ≡ Some j → Linked xs cs (length xs)
    → Moves xs cs (slots_to xs (chain_at cs e).passed (Some j)) (set cs e (chain_to (chain_at cs e) (Some j))) e
moves-skips xs cs e m j b is dead to_j l =
    let c = chain_at cs e in
    let ys = slots_to xs c.passed (Some j) in
    let same : map bare ys ≡ map bare xs = bare-to xs c.passed (Some j) (λ p q. passed-below xs cs (length xs) e p b l q) in
    record {
      linked = subst (Linked ys (set cs e (chain_to c (Some j)))) (sym (length-bare xs ys same))
          (Linked-skips xs cs (length xs) e m j (omega arith) b is dead to_j l);
      slots = same;
      chains = length-set cs e (chain_to c (Some j));
      walk = walk-set cs e (chain_to c (Some j)) b (chain_to-walk c (Some j));
    }

pub moves-none : (xs : List Slot) (cs : List Chain) (e : ℕ) → Linked xs cs (length xs) → Moves xs cs xs cs e
moves-none xs cs e l = record { linked = l; slots = refl; chains = refl; walk = record { txn = refl; lo = refl; hi = refl } }

pub moves-more : (xs ys zs : List Slot) (cs ds es : List Chain) (e : ℕ) → Moves xs cs ys ds e → Moves ys ds zs es e → Moves xs cs zs es e
moves-more xs ys zs cs ds es e a b = record {
  linked = b.linked;
  slots = b.slots ∙ a.slots;
  chains = b.chains ∙ a.chains;
  walk = record { txn = b.walk.txn ∙ a.walk.txn; lo = b.walk.lo ∙ a.walk.lo; hi = b.walk.hi ∙ a.walk.hi };
}
