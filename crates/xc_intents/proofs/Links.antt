-- One more slot is linked, and one more chain is opened.
use Rattle.std.proofs.Common.{◌≡◌, ◌≢◌, ℕ, ◌+◌, ◌<◌, true, false, List, [], ◌∷◌, ◌++◌, length, set, map, Option, Some, None}
use Rattle.std.proofs.Common.{refl, sym, ◌∙◌, ap, subst, arith, ◌==◌, ◌&&◌, ⊎_elim, inl, inr, ◌⊎◌}
use Rattle.std.specs.Option.{option_map_or}
use Rattle.std.proofs.lemmas.Bool.{cases_eq, ne_eqb}
use Rattle.std.proofs.lemmas.List.{get_or_at, get_or_append_left, length_push}
use Rattle.xc_intents.specs.declared.slots.Slot.{Slot}
use Rattle.xc_intents.specs.declared.slots.Chain.{Chain}
use Rattle.xc_intents.specs.Slots.{at, chain_at, no_chain, mine, Skips, NextTo, IsLast, LastTo, PassedTo, ChainFits, HasChain, NoChain}
use Rattle.xc_intents.specs.Slots.{loose, IsSearchable, Linked, slots_and, chain_and, bare}
use Rattle.xc_intents.proofs.Trees.{length-loose, at-loose}
use Rattle.xc_intents.proofs.Searches.{searchable-one}
use Rattle.xc_intents.proofs.Chains.{Fewer, Fewer-set, NextTo-fewer, LastTo-fewer, PassedTo-fewer, at-set_same, at-set_other, chains-set}
use Rattle.xc_intents.proofs.Chains.{has-set, searchable-set, bare-to}

-- ---- one more slot, of another transaction or of this one

pub not-mine : (t : ℕ) (s : Slot) → t ≢ s.txn → mine t s ≡ false
not-mine t s ne = elim s.live as (λ b. (b && t == s.txn) ≡ false) [ true ↦ ne_eqb t s.txn ne | false ↦ refl ]

Skips-more : (t : ℕ) (xs : List Slot) (from n : ℕ) → Skips t xs from n → mine t (at xs n) ≡ false → Skips t xs from (n + 1)
Skips-more t xs from n s e = λ k a b.
    ⊎_elim (λ (here : k ≡ n). subst (λ z. mine t (at xs z) ≡ false) (sym here) e) (λ (other : k ≢ n). s k a (omega arith)) (cases_eq k n)

NextTo-more : (t : ℕ) (xs : List Slot) (from n : ℕ) (o : Option ℕ) → NextTo t xs from n o → mine t (at xs n) ≡ false
    → NextTo t xs from (n + 1) o
NextTo-more t xs from n None s e = Skips-more t xs from n s e
NextTo-more t xs from n (Some j) s e = record { above = s.above; below = omega (arith, s.below); same = s.same; skips = s.skips }

LastTo-more : (t : ℕ) (xs : List Slot) (n : ℕ) (o : Option ℕ) → LastTo t xs n o → mine t (at xs n) ≡ false → LastTo t xs (n + 1) o
LastTo-more t xs n None s e = Skips-more t xs 0 n s e
LastTo-more t xs n (Some l) s e = record { below = omega (arith, s.below); same = s.same; skips = Skips-more t xs (l + 1) n s.skips e }

PassedTo-more : (xs : List Slot) (n : ℕ) (c : Chain) (o : Option ℕ) → PassedTo xs n c o → PassedTo xs (n + 1) c o
PassedTo-more xs n c None s = tt
PassedTo-more xs n c (Some p) s = record { below = omega (arith, s.below); same = s.same; none = s.none }

Passed-and : (xs : List Slot) (n : ℕ) (c : Chain) (m : ℕ) (o : Option ℕ) → PassedTo xs n c o → PassedTo xs n (chain_and c m) o
Passed-and xs n c m None s = tt
Passed-and xs n c m (Some p) s = record { below = s.below; same = s.same; none = s.none }

cases_last : (o : Option ℕ) (i : ℕ) → (o ≡ Some i) ⊎ (o ≡ Some i → ⊥)
cases_last None i = inr (λ e. absurd (cc))
cases_last (Some l) i = ⊎_elim (λ (e : l ≡ i). inl (ap (λ k. Some k) e)) (λ (ne : l ≢ i). inr (λ e. ne (cc))) (cases_eq l i)

-- the slot n comes behind the last one of its chain
module _ (xs ys : List Slot) (cs : List Chain) (n e : ℕ) (b : e < length cs) (f : Fewer (n + 1) xs ys)
    (t : (at xs n).txn ≡ (chain_at cs e).txn) (none : (at ys n).next ≡ None) (l : Linked xs cs n)
    (others : (i : ℕ) → i < n → ((chain_at cs e).last ≡ Some i → ⊥) → (at ys i).next ≡ (at xs i).next)
    (behind : (i : ℕ) → i < n → (chain_at cs e).last ≡ Some i → (at ys i).next ≡ Some n) where
  abbrev c : Chain
  c = chain_at cs e

  fits : ChainFits xs n (chain_at cs e)
  fits = l.chains e b

  txn-n : (at ys n).txn ≡ (chain_at cs e).txn
  txn-n = f.txn n (omega arith) ∙ t

  last-at : (i : ℕ) → (chain_at cs e).last ≡ Some i → IsLast (chain_at cs e).txn xs n i
  last-at i is = subst (LastTo (chain_at cs e).txn xs n) is fits.last

  -- of a slot that is not the last, no link ends unless it is of another transaction
  ends-elsewhere : (i : ℕ) → i < n → ((chain_at cs e).last ≡ Some i → ⊥) → (at xs i).next ≡ None → (at xs i).txn ≢ (at xs n).txn
  ends-elsewhere i a not none_i same = not (fits.lasts i a (same ∙ t) none_i)

  more-links : (i : ℕ) → i < n → ((chain_at cs e).last ≡ Some i → ⊥) → (o : Option ℕ) → (at xs i).next ≡ o
      → NextTo (at xs i).txn xs (i + 1) n o → NextTo (at xs i).txn xs (i + 1) (n + 1) o
  more-links i a not None is s = NextTo-more (at xs i).txn xs (i + 1) n None s
      (not-mine (at xs i).txn (at xs n) (ends-elsewhere i a not is))
  more-links i a not (Some j) is s = record { above = s.above; below = omega (arith, s.below); same = s.same; skips = s.skips }

  and-links : (i : ℕ) → i < n + 1 → NextTo (at ys i).txn ys (i + 1) (n + 1) (at ys i).next
  and-links i a =
      ⊎_elim
      (λ (here : i ≡ n).
      subst (λ z. NextTo (at ys z).txn ys (z + 1) (n + 1) (at ys z).next) (sym here)
      (subst (NextTo (at ys n).txn ys (n + 1) (n + 1)) (sym none) (λ k low high. absurd (omega arith))))
      (λ (other : i ≢ n).
      let lt : i < n = omega arith in
      ⊎_elim
      (λ (last : (chain_at cs e).last ≡ Some i).
      let is = last-at i last in
      let to : NextTo (at xs i).txn xs (i + 1) (n + 1) (Some n) = record {
        above = omega arith;
        below = omega arith;
        same = t ∙ sym is.same;
        skips = subst (λ u. Skips u xs (i + 1) n) (sym is.same) is.skips;
      } in
      subst (λ o. NextTo (at ys i).txn ys (i + 1) (n + 1) o) (sym (behind i lt last))
      (subst (λ u. NextTo u ys (i + 1) (n + 1) (Some n)) (sym (f.txn i a))
      (NextTo-fewer (n + 1) xs ys f (at xs i).txn (i + 1) (Some n) to)))
      (λ (not : (chain_at cs e).last ≡ Some i → ⊥).
      let to = more-links i lt not (at xs i).next refl (l.links i lt) in
      subst (λ o. NextTo (at ys i).txn ys (i + 1) (n + 1) o) (sym (others i lt not))
      (subst (λ u. NextTo u ys (i + 1) (n + 1) (at xs i).next) (sym (f.txn i a))
      (NextTo-fewer (n + 1) xs ys f (at xs i).txn (i + 1) (at xs i).next to)))
      (cases_last (chain_at cs e).last i))
      (cases_eq i n)

  -- where a link ends, there is the end of a chain
  ends-at : (i : ℕ) → i < n + 1 → (at ys i).next ≡ None → (i ≡ n) ⊎ ((i < n) × ((at xs i).next ≡ None))
  ends-at i a none_i =
      ⊎_elim
      (λ (here : i ≡ n). inl here)
      (λ (other : i ≢ n).
      let lt : i < n = omega arith in
      ⊎_elim
      (λ (last : (chain_at cs e).last ≡ Some i). let some = behind i lt last in absurd (cc))
      (λ (not : (chain_at cs e).last ≡ Some i → ⊥). inr (lt, sym (others i lt not) ∙ none_i))
      (cases_last (chain_at cs e).last i))
      (cases_eq i n)

  first-and : (o : Option ℕ) → (chain_at cs e).last ≡ o
      → NextTo (chain_at cs e).txn xs 0 (n + 1) (option_map_or (λ m. (chain_at cs e).first) o (Some n))
  first-and None is = record {
    above = omega arith;
    below = omega arith;
    same = t;
    skips = subst (LastTo (chain_at cs e).txn xs n) is fits.last;
  }
  first-and (Some m) is = go (chain_at cs e).first refl fits.first
    where
      go : (o : Option ℕ) → (chain_at cs e).first ≡ o → NextTo (chain_at cs e).txn xs 0 n o → NextTo (chain_at cs e).txn xs 0 (n + 1) o
      go None at_first s = let none_last = fits.ends at_first in absurd (cc)
      go (Some j) at_first s = record { above = s.above; below = omega (arith, s.below); same = s.same; skips = s.skips }

  chain-and : ChainFits ys (n + 1) (chain_and (chain_at cs e) n)
  chain-and = record {
    first = NextTo-fewer (n + 1) xs ys f (chain_at cs e).txn 0 (option_map_or (λ m. (chain_at cs e).first) (chain_at cs e).last (Some n))
        (first-and (chain_at cs e).last refl);
    last = record { below = omega arith; same = txn-n; skips = λ k low high. absurd (omega arith) };
    passed = Passed-and ys (n + 1) (chain_at cs e) n (chain_at cs e).passed
        (PassedTo-fewer (n + 1) xs ys f (chain_at cs e) (chain_at cs e).passed
        (PassedTo-more xs n (chain_at cs e) (chain_at cs e).passed fits.passed));
    ends = λ at_first. absurd (some-first (chain_at cs e).last refl at_first);
    lasts = λ i a same none_i.
        ⊎_elim
        (λ (here : i ≡ n). ap (λ k. Some k) (sym here))
        (λ (w : (i < n) × ((at xs i).next ≡ None)).
        let last = fits.lasts i w.0 (sym (f.txn i a) ∙ same) w.1 in
        let some = behind i w.0 last in absurd (cc))
        (ends-at i a none_i);
  }
    where
      some-first : (o : Option ℕ) → (chain_at cs e).last ≡ o → option_map_or (λ m. (chain_at cs e).first) o (Some n) ≡ None → ⊥
      some-first None is at_first = absurd (cc)
      some-first (Some m) is at_first = let none_last = fits.ends at_first in absurd (cc)

  other-chain : (k : ℕ) → k < length cs → k ≢ e → ChainFits ys (n + 1) (chain_at cs k)
  other-chain k low other =
      let d = chain_at cs k in
      let fit : ChainFits xs n (chain_at cs k) = l.chains k low in
      let ne : d.txn ≢ (chain_at cs e).txn = apart k low other in
      let not : mine d.txn (at xs n) ≡ false = not-mine d.txn (at xs n) (λ same. ne (same ∙ t)) in
      record {
        first = NextTo-fewer (n + 1) xs ys f d.txn 0 d.first (NextTo-more d.txn xs 0 n d.first fit.first not);
        last = LastTo-fewer (n + 1) xs ys f d.txn d.last (LastTo-more d.txn xs n d.last fit.last not);
        passed = PassedTo-fewer (n + 1) xs ys f d d.passed (PassedTo-more xs n d d.passed fit.passed);
        ends = fit.ends;
        lasts = λ i a same none_i.
            ⊎_elim
            (λ (here : i ≡ n). absurd (ne (sym same ∙ subst (λ z. (at ys z).txn ≡ (chain_at cs e).txn) (sym here) txn-n)))
            (λ (w : (i < n) × ((at xs i).next ≡ None)). fit.lasts i w.0 (sym (f.txn i a) ∙ same) w.1)
            (ends-at i a none_i);
      }
    where
      apart : (k : ℕ) → k < length cs → k ≢ e → (chain_at cs k).txn ≢ (chain_at cs e).txn
      apart k low other same =
          other (searchable-one cs (length cs) k e l.searchable low b same)

  pub Linked-behind : Linked ys (set cs e (chain_and (chain_at cs e) n)) (n + 1)
  Linked-behind = record {
    links = and-links;
    chains = chains-set ys (n + 1) cs e (chain_and (chain_at cs e) n) b chain-and other-chain;
    has = λ i a. has-set cs e (chain_and (chain_at cs e) n) (at ys i).txn b refl (
        ⊎_elim
        (λ (here : i ≡ n). (e, b, subst (λ z. (chain_at cs e).txn ≡ (at ys z).txn) (sym here) (sym txn-n)))
        (λ (other : i ≢ n). let h : HasChain cs (at xs i).txn = l.has i (omega arith) in (h.0, h.1, h.2 ∙ sym (f.txn i a)))
        (cases_eq i n));
    searchable = searchable-set cs e (chain_and (chain_at cs e) n) b refl l.searchable;
  }

-- as the code writes it
pub Linked-and : (xs : List Slot) (cs : List Chain) (n e : ℕ) → n < length xs → e < length cs → (at xs n).txn ≡ (chain_at cs e).txn
    → (at xs n).next ≡ None → Linked xs cs n
    → Linked (slots_and xs (chain_at cs e).last n) (set cs e (chain_and (chain_at cs e) n)) (n + 1)
Linked-and xs cs n e a b t none l = go (chain_at cs e).last refl
  where
    go : (o : Option ℕ) → (chain_at cs e).last ≡ o → Linked (slots_and xs o n) (set cs e (chain_and (chain_at cs e) n)) (n + 1)
    go None is =
        Linked-behind xs xs cs n e b (record { txn = λ k low. refl; hash = λ k low. refl; live = λ k low live. live }) t none l
        (λ i low not. refl) (λ i low last. absurd (cc))
    go (Some m) is =
        let low : m < n = (subst (LastTo (chain_at cs e).txn xs n) is (l.chains e b).last).below in
        let s : Slot = record (at xs m) { next = Some n } in
        Linked-behind xs (set xs m s) cs n e b (Fewer-set (n + 1) xs m s (omega arith) refl refl (λ live. live)) t
        (ap (λ (z : Slot). z.next) (at-set_other xs m n s (omega arith)) ∙ none) l
        (λ i below not. ap (λ (z : Slot). z.next) (at-set_other xs m i s (λ same. not (is ∙ ap (λ k. Some k) (sym same)))))
        (λ i below last. let same : i ≡ m = (cc) in
        subst (λ z. (at (set xs m s) z).next ≡ Some n) (sym same) (ap (λ (z : Slot). z.next) (at-set_same xs m s (omega arith))))

pub last-below : (xs : List Slot) (cs : List Chain) (n e i : ℕ) → e < length cs → Linked xs cs n → (chain_at cs e).last ≡ Some i → i < n
last-below xs cs n e i b l is = (subst (LastTo (chain_at cs e).txn xs n) is (l.chains e b).last).below

pub bare-and : (xs : List Slot) (cs : List Chain) (n e : ℕ) → n < length xs → e < length cs → Linked xs cs n
    → map bare (slots_and xs (chain_at cs e).last n) ≡ map bare xs
bare-and xs cs n e a b l = bare-to xs (chain_at cs e).last (Some n) (λ i is. let low : i < n = last-below xs cs n e i b l is in omega arith)

-- ---- chains in another tree, and one more chain

fits-loose : (xs : List Slot) (n : ℕ) (c d : Chain) → loose d ≡ loose c → ChainFits xs n c → ChainFits xs n d
fits-loose xs n c d e fits = from (subst (ChainFits xs n) (sym e) (to fits))
  where
    passed-to : (o : Option ℕ) → PassedTo xs n c o → PassedTo xs n (loose c) o
    passed-to None s = tt
    passed-to (Some p) s = record { below = s.below; same = s.same; none = s.none }

    passed-from : (o : Option ℕ) → PassedTo xs n (loose d) o → PassedTo xs n d o
    passed-from None s = tt
    passed-from (Some p) s = record { below = s.below; same = s.same; none = s.none }

    to : ChainFits xs n c → ChainFits xs n (loose c)
    to s = record { first = s.first; last = s.last; passed = passed-to c.passed s.passed; ends = s.ends; lasts = s.lasts }

    from : ChainFits xs n (loose d) → ChainFits xs n d
    from s = record { first = s.first; last = s.last; passed = passed-from d.passed s.passed; ends = s.ends; lasts = s.lasts }

-- where each chain fits, and each slot has one, however the chains are searched
pub Linked-anew : (xs : List Slot) (cs ds : List Chain) (n : ℕ)
    → ((i : ℕ) → i < n → NextTo (at xs i).txn xs (i + 1) n (at xs i).next)
    → ((e : ℕ) → e < length cs → ChainFits xs n (chain_at cs e)) → ((i : ℕ) → i < n → HasChain cs (at xs i).txn)
    → map loose ds ≡ map loose cs → IsSearchable ds (length ds) → Linked xs ds n
Linked-anew xs cs ds n links fits has same searchable = record {
  links = links;
  chains = λ e b.
      let long = length-loose cs ds same in
      fits-loose xs n (chain_at cs e) (chain_at ds e) (at-loose cs ds e same (omega arith)) (fits e (omega arith));
  has = λ i a.
      let long = length-loose cs ds same in
      let h : HasChain cs (at xs i).txn = has i a in
      (h.0, omega (arith, h.1), ap (λ (c : Chain). c.txn) (at-loose cs ds h.0 same h.1) ∙ h.2);
  searchable = searchable;
}

pub chain-at-push : (cs : List Chain) (c : Chain) → chain_at (cs ++ c ∷ []) (length cs) ≡ c
chain-at-push cs c = get_or_at cs c [] (no_chain 0) (length cs) refl

pub chain-at-before : (cs : List Chain) (c : Chain) (k : ℕ) → k < length cs → chain_at (cs ++ c ∷ []) k ≡ chain_at cs k
chain-at-before cs c k h = get_or_append_left cs (c ∷ []) (no_chain 0) k h

-- the chain with no slot, of a transaction that no linked slot is of
none-fits : (xs : List Slot) (n t : ℕ) → ((i : ℕ) → i < n → (at xs i).txn ≢ t) → ChainFits xs n (no_chain t)
none-fits xs n t other = record {
  first = λ k low high. not-mine t (at xs k) (λ same. other k high (sym same));
  last = λ k low high. not-mine t (at xs k) (λ same. other k high (sym same));
  passed = tt;
  ends = λ e. e;
  lasts = λ i low same e. absurd (other i low same);
}

module _ (cs ds : List Chain) (t : ℕ) (none : NoChain cs t) (same : map loose ds ≡ map loose (cs ++ no_chain t ∷ []))
    (searchable : IsSearchable ds (length ds)) where
  pub Linked-open : (xs : List Slot) (n : ℕ) → Linked xs cs n → Linked xs ds n
  Linked-open xs n l =
      Linked-anew xs (cs ++ no_chain t ∷ []) ds n l.links
      (λ k low. let long = length_push cs (no_chain t) in
      ⊎_elim
      (λ (here : k ≡ length cs). subst (λ z. ChainFits xs n (chain_at (cs ++ no_chain t ∷ []) z)) (sym here)
      (subst (ChainFits xs n) (sym (chain-at-push cs (no_chain t))) (none-fits xs n t unlike)))
      (λ (ne : k ≢ length cs). let low : k < length cs = omega arith in
      subst (ChainFits xs n) (sym (chain-at-before cs (no_chain t) k low)) (l.chains k low))
      (cases_eq k (length cs)))
      (λ i a. let long = length_push cs (no_chain t) in
      let h : HasChain cs (at xs i).txn = l.has i a in
      (h.0, omega (arith, h.1), ap (λ (c : Chain). c.txn) (chain-at-before cs (no_chain t) h.0 h.1) ∙ h.2))
      same searchable
    where
      unlike : (i : ℕ) → i < n → (at xs i).txn ≢ t
      unlike i a is = let h : HasChain cs (at xs i).txn = l.has i a in none h.0 h.1 (h.2 ∙ is)
