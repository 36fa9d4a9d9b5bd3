-- What a walk finds, and what the slots hold.
use Rattle.std.proofs.Common.{◌≡◌, ◌≢◌, ℕ, zero, suc, ◌<◌, ◌≤◌, Bool, true, false, cond, List, [], ◌∷◌, ◌++◌, length, set, map, filter}
use Rattle.std.proofs.Common.{Option, Some, None, refl, sym, ◌∙◌, ap, subst, arith, ◌==◌, ◌&&◌, ⊎_elim}
use Rattle.std.specs.List.{find, slice_get}
use Rattle.std.specs.Option.{option_map}
use Rattle.std.specs.Prelude.{nat_le, if◌then◌else◌}
use Rattle.std.proofs.lemmas.Bool.{cases_eq, and_parts}
use Rattle.std.proofs.lemmas.List.{length-set, get_or-map, map-append, get_or_append_left, get_or_at, length_push}
use Rattle.std.proofs.lemmas.List.Elements.{filter-append}
use Rattle.std.proofs.lemmas.Option.{slice_get-get_or, slice_get_past}
use Rattle.xc_record.specs.Hash.{hash_of}
use Rattle.xc_record.specs.Kept.{KeyWaiting}
use Rattle.xc_intents.specs.HeldOps.{Sought, in_range, is_part, is_sought, without_first}
use Rattle.xc_intents.specs.declared.limits.TheConstants.{MOST_LINKED}
use Rattle.xc_intents.specs.declared.slots.Slot.{Slot}
use Rattle.xc_intents.specs.declared.slots.Chain.{Chain}
use Rattle.xc_intents.specs.Slots.{at, chain_at, blank, bare, is_live, slot_op, held_in, mine, in_walk, PassedTo, ChainFits, HasChain}
use Rattle.xc_intents.specs.Slots.{Keeps, Holds}
use Rattle.xc_arena.specs.Arena.{key_at}
use Rattle.xc_intents.specs.Slots.{NoChain, Linked, SameWalk, begun, walk_of, IsFirst, IsFound, IsChained, dead, no_chain, sought_by}
use Rattle.xc_intents.proofs.Chains.{Linked-fewer, Linked-chain, length-bare, false-and, Linked-dies, at-set_same, at-set_other}
use Rattle.xc_intents.proofs.Links.{not-mine}
use Rattle.std.proofs.lemmas.Bool.Decides.{nat_tests}

-- ---- slots but for their links

held-bare : (b : List ℕ) (xs : List Slot) → held_in b (map bare xs) ≡ held_in b xs
held-bare b [] = refl
held-bare b (x ∷ xs) = elim x.live as
    (λ l. map (slot_op b) (cond l (bare x ∷ filter is_live (map bare xs)) (filter is_live (map bare xs))) ≡ map (slot_op b)
    (cond l (x ∷ filter is_live xs) (filter is_live xs)))
    [ true ↦ ap (λ ys. slot_op b x ∷ ys) (held-bare b xs) | false ↦ held-bare b xs ]

pub held-same : (b : List ℕ) (xs ys : List Slot) → map bare ys ≡ map bare xs → held_in b ys ≡ held_in b xs
held-same b xs ys e = sym (held-bare b ys) ∙ ap (held_in b) e ∙ held-bare b xs

pub at-bare : (xs ys : List Slot) (k : ℕ) → map bare ys ≡ map bare xs → k < length xs → bare (at ys k) ≡ bare (at xs k)
at-bare xs ys k e h =
    let long = length-bare xs ys e in
    sym (get_or-map bare ys k blank blank (omega arith)) ∙ ap (λ zs. at zs k) e ∙ get_or-map bare xs k blank blank h

pub holds-same : (b : List ℕ) (xs ys : List Slot) → map bare ys ≡ map bare xs → Holds b xs → Holds b ys
holds-same b xs ys e h = λ i low.
    let long = length-bare xs ys e in
    let was = h i (omega arith) in
    let old : Keeps b (bare (at xs i)) = record { lies = was.lies; hashed = was.hashed } in
    let new = subst (Keeps b) (sym (at-bare xs ys i e (omega arith))) old in
    record { lies = new.lies; hashed = new.hashed }

-- ---- one more slot

pub at-push : (xs : List Slot) (s : Slot) → at (xs ++ s ∷ []) (length xs) ≡ s
at-push xs s = get_or_at xs s [] blank (length xs) refl

pub at-before : (xs : List Slot) (s : Slot) (k : ℕ) → k < length xs → at (xs ++ s ∷ []) k ≡ at xs k
at-before xs s k h = get_or_append_left xs (s ∷ []) blank k h

pub held-push : (b : List ℕ) (xs : List Slot) (s : Slot) → s.live ≡ true → held_in b (xs ++ s ∷ []) ≡ held_in b xs ++ slot_op b s ∷ []
held-push b xs s e = ap (map (slot_op b)) (filter-append is_live xs (s ∷ []) ∙ rw e refl)
    ∙ map-append (slot_op b) (filter is_live xs) (s ∷ [])

pub holds-push : (b : List ℕ) (xs : List Slot) (s : Slot) → Keeps b s → Holds b xs → Holds b (xs ++ s ∷ [])
holds-push b xs s keeps h = λ i low.
    let long = length_push xs s in
    ⊎_elim
    (λ (here : i ≡ length xs). subst (λ k. Keeps b (at (xs ++ s ∷ []) k)) (sym here) (subst (Keeps b) (sym (at-push xs s)) keeps))
    (λ (other : i ≢ length xs). subst (Keeps b) (sym (at-before xs s i (omega arith))) (h i (omega arith)))
    (cases_eq i (length xs))

pub Linked-push : (xs : List Slot) (cs : List Chain) (s : Slot) → Linked xs cs (length xs) → Linked (xs ++ s ∷ []) cs (length xs)
Linked-push xs cs s l =
    Linked-fewer (length xs) xs (xs ++ s ∷ [])
    (record {
      txn = λ k b. ap (λ (z : Slot). z.txn) (at-before xs s k b);
      hash = λ k b. ap (λ (z : Slot). z.hash) (at-before xs s k b);
      live = λ k b e. ap (λ (z : Slot). z.live) (sym (at-before xs s k b)) ∙ e;
    }) cs (λ k b. ap (λ (z : Slot). z.next) (at-before xs s k b)) l

-- ---- where a walk begins

narrower : (p q lo hi h : ℕ) → p ≤ lo → hi ≤ q → in_range p q h ≡ false → in_range lo hi h ≡ false
narrower p q lo hi h a b e = grind (arith, nat_tests)

and-narrow : (m r s : Bool) → (r ≡ false → s ≡ false) → (m && r) ≡ false → (m && s) ≡ false
and-narrow true r s f e = f e
and-narrow false r s f e = refl

nat_le-holds : (a b : ℕ) → nat_le a b ≡ true → a ≤ b
nat_le-holds a b e = grind (arith, nat_tests)

PassedTo-narrow : (xs : List Slot) (n : ℕ) (c d : Chain) (o : Option ℕ) → d.txn ≡ c.txn → c.lo ≤ d.lo → d.hi ≤ c.hi → PassedTo xs n c o
    → PassedTo xs n d o
PassedTo-narrow xs n c d None t a b s = tt
PassedTo-narrow xs n c d (Some p) t a b s = record {
  below = s.below;
  same = s.same ∙ sym t;
  none = λ k h.
      subst (λ u. (mine u (at xs k) && in_range d.lo d.hi (at xs k).hash) ≡ false) (sym t)
      (and-narrow (mine c.txn (at xs k)) (in_range c.lo c.hi (at xs k).hash) (in_range d.lo d.hi (at xs k).hash)
      (narrower c.lo c.hi d.lo d.hi (at xs k).hash a b) (s.none k h));
}

PassedTo-begun : (xs : List Slot) (n : ℕ) (c : Chain) (lo hi : ℕ) → PassedTo xs n c c.passed
    → PassedTo xs n (begun lo hi c) (if nat_le c.lo lo && nat_le hi c.hi then c.passed else None)
PassedTo-begun xs n c lo hi s = go (nat_le c.lo lo && nat_le hi c.hi) refl
  where
    go : (b : Bool) → (nat_le c.lo lo && nat_le hi c.hi) ≡ b → PassedTo xs n (begun lo hi c) (cond b c.passed None)
    go false e = tt
    go true e =
        let parts = and_parts (nat_le c.lo lo) (nat_le hi c.hi) e in
        PassedTo-narrow xs n c (begun lo hi c) c.passed refl (nat_le-holds c.lo lo parts.0) (nat_le-holds hi c.hi parts.1) s

pub Linked-begun : (xs : List Slot) (cs : List Chain) (n e lo hi : ℕ) → e < length cs → Linked xs cs n
    → Linked xs (set cs e (begun lo hi (chain_at cs e))) n
Linked-begun xs cs n e lo hi b l =
    let c = chain_at cs e in
    let fits : ChainFits xs n c = l.chains e b in
    Linked-chain xs cs n e (begun lo hi c) b refl
    (record {
      first = fits.first;
      last = fits.last;
      passed = PassedTo-begun xs n c lo hi fits.passed;
      ends = fits.ends;
      lasts = fits.lasts;
    }) l

pub found-none : (xs : List Slot) (cs : List Chain) (t lo hi : ℕ) → Linked xs cs (length xs) → NoChain cs t
    → IsFound xs (walk_of t lo hi) None
found-none xs cs t lo hi l none = λ k b.
    let h : HasChain cs (at xs k).txn = l.has k b in
    false-and (mine t (at xs k)) (in_range lo hi (at xs k).hash) (not-mine t (at xs k) (λ same. none h.0 h.1 (h.2 ∙ sym same)))

-- ---- what a chain's walk finds

same-sought : (c d : Chain) (s : Slot) → SameWalk c d → in_walk d s ≡ in_walk (walk_of c.txn c.lo c.hi) s
same-sought c d s w =
    ap (λ t. mine t s && in_range d.lo d.hi s.hash) w.txn ∙ ap (λ lo. mine c.txn s && in_range lo d.hi s.hash) w.lo
    ∙ ap (λ hi. mine c.txn s && in_range c.lo hi s.hash) w.hi

pub found-as : (xs : List Slot) (c d : Chain) (o : Option ℕ) → SameWalk c d → IsFound xs d o → IsFound xs (walk_of c.txn c.lo c.hi) o
found-as xs c d None w f = λ k b. sym (same-sought c d (at xs k) w) ∙ f k b
found-as xs c d (Some i) w f = record {
  below = f.below;
  found = sym (same-sought c d (at xs i) w) ∙ f.found;
  none = λ k b. sym (same-sought c d (at xs k) w) ∙ f.none k b;
}

-- ---- what is held

pub held-cons : (b : List ℕ) (x : Slot) (xs : List Slot)
    → held_in b (x ∷ xs) ≡ cond x.live (slot_op b x ∷ held_in b xs) (held_in b xs)
held-cons b x xs = elim x.live as
    (λ l. map (slot_op b) (cond l (x ∷ filter is_live xs) (filter is_live xs)) ≡ cond l (slot_op b x ∷ held_in b xs)
    (held_in b xs)) [ true ↦ refl | false ↦ refl ]

held-live : (b : List ℕ) (x : Slot) (xs : List Slot) → x.live ≡ true → held_in b (x ∷ xs) ≡ slot_op b x ∷ held_in b xs
held-live b x xs e = held-cons b x xs ∙ rw e refl

held-dead : (b : List ℕ) (x : Slot) (xs : List Slot) → x.live ≡ false → held_in b (x ∷ xs) ≡ held_in b xs
held-dead b x xs e = held-cons b x xs ∙ rw e refl

-- the first slot that is live and passes gives the first operation that passes
module _ (b : List ℕ) (p : KeyWaiting → Bool) where
  find-yes : (w : KeyWaiting) (ws : List KeyWaiting) → p w ≡ true → find p (w ∷ ws) ≡ Some w
  find-yes w ws e = rw e refl

  find-no : (w : KeyWaiting) (ws : List KeyWaiting) → p w ≡ false → find p (w ∷ ws) ≡ find p ws
  find-no w ws e = rw e refl

  without-yes : (w : KeyWaiting) (ws : List KeyWaiting) → p w ≡ true → without_first p (w ∷ ws) ≡ ws
  without-yes w ws e = rw e refl

  without-no : (w : KeyWaiting) (ws : List KeyWaiting) → p w ≡ false → without_first p (w ∷ ws) ≡ w ∷ without_first p ws
  without-no w ws e = rw e refl

  abbrev pub lives : Slot → Bool
  lives s = s.live && p (slot_op b s)

  abbrev pub FirstHeld : List Slot → ℕ → Type 0
  FirstHeld xs i =
      (find p (held_in b xs) ≡ Some (slot_op b (at xs i))) × (held_in b (set xs i (dead (at xs i))) ≡ without_first p (held_in b xs))

  first-step : (x : Slot) (xs : List Slot) (i : ℕ) (l : Bool) → x.live ≡ l → (l && p (slot_op b x)) ≡ false → FirstHeld xs i
      → FirstHeld (x ∷ xs) (suc i)
  first-step x xs i false e f r = (
    ap (find p) (held-dead b x xs e) ∙ r.0,
    held-dead b x (set xs i (dead (at xs i))) e ∙ r.1 ∙ ap (without_first p) (sym (held-dead b x xs e)),
  )
  first-step x xs i true e f r = (
    ap (find p) (held-live b x xs e) ∙ find-no (slot_op b x) (held_in b xs) f ∙ r.0,
    held-live b x (set xs i (dead (at xs i))) e ∙ ap (λ ys. slot_op b x ∷ ys) r.1
        ∙ sym (ap (without_first p) (held-live b x xs e) ∙ without-no (slot_op b x) (held_in b xs) f),
  )

  pub first-held : (xs : List Slot) (i : ℕ) → i < length xs → lives (at xs i) ≡ true → ((k : ℕ) → k < i → lives (at xs k) ≡ false)
      → FirstHeld xs i
  first-held [] i h e n = absurd (omega arith)
  first-held (x ∷ xs) zero h e n =
      let parts = and_parts x.live (p (slot_op b x)) e in (
        ap (find p) (held-live b x xs parts.0) ∙ find-yes (slot_op b x) (held_in b xs) parts.1,
        held-dead b (dead x) xs refl
            ∙ sym (ap (without_first p) (held-live b x xs parts.0) ∙ without-yes (slot_op b x) (held_in b xs) parts.1),
      )
  first-held (x ∷ xs) (suc i) h e n =
      first-step x xs i x.live refl (n 0 (omega arith)) (first-held xs i (omega arith) e (λ k low. n (suc k) (omega arith)))

  none-step : (x : Slot) (xs : List Slot) (l : Bool) → x.live ≡ l → (l && p (slot_op b x)) ≡ false → find p (held_in b xs) ≡ None
      → find p (held_in b (x ∷ xs)) ≡ None
  none-step x xs false e f r = ap (find p) (held-dead b x xs e) ∙ r
  none-step x xs true e f r = ap (find p) (held-live b x xs e) ∙ find-no (slot_op b x) (held_in b xs) f ∙ r

  pub none-held : (xs : List Slot) → ((k : ℕ) → k < length xs → lives (at xs k) ≡ false) → find p (held_in b xs) ≡ None
  none-held [] n = refl
  none-held (x ∷ xs) n = none-step x xs x.live refl (n 0 (omega arith)) (none-held xs (λ k low. n (suc k) (omega arith)))

and-assoc : (a b c : Bool) → ((a && b) && c) ≡ (a && (b && c))
and-assoc true b c = refl
and-assoc false b c = refl

-- what a walk looks for is a live slot of a part
pub sought : (b : List ℕ) (t lo hi : ℕ) (s : Slot) → s.hash ≡ hash_of (key_at b s.at)
    → in_walk (walk_of t lo hi) s ≡ lives b (is_part t lo hi) s
sought b t lo hi s e = and-assoc s.live (t == s.txn) (in_range lo hi s.hash)
    ∙ ap (λ h. s.live && (t == s.txn && in_range lo hi h)) e

-- ---- what is found is taken out

module _ (b : List ℕ) (xs ys : List Slot) (t lo hi : ℕ) (same : map bare ys ≡ map bare xs) (holds : Holds b xs) where
  -- what the walk passes over
  fails : (k : ℕ) → k < length ys → in_walk (walk_of t lo hi) (at ys k) ≡ false → lives b (is_part t lo hi) (at ys k) ≡ false
  fails k low e = sym (sought b t lo hi (at ys k) (holds-same b xs ys same holds k low).hashed) ∙ e

  pub none-found : IsFound ys (walk_of t lo hi) None → find (is_part t lo hi) (held_in b xs) ≡ None
  none-found found = ap (find (is_part t lo hi)) (sym (held-same b xs ys same))
      ∙ none-held b (is_part t lo hi) ys (λ k low. fails k low (found k low))

  first-found : (i : ℕ) → IsFirst ys (walk_of t lo hi) i → FirstHeld b (is_part t lo hi) ys i
  first-found i found =
      let low : i < length ys = found.below in
      first-held b (is_part t lo hi) ys i low
      (sym (sought b t lo hi (at ys i) (holds-same b xs ys same holds i low).hashed) ∙ found.found)
      (λ k l. fails k (omega arith) (found.none k l))

  pub found-op : (i : ℕ) → IsFirst ys (walk_of t lo hi) i → find (is_part t lo hi) (held_in b xs) ≡ Some (slot_op b (at ys i))
  found-op i found = ap (find (is_part t lo hi)) (sym (held-same b xs ys same)) ∙ (first-found i found).0

  pub found-left : (i : ℕ) → IsFirst ys (walk_of t lo hi) i
      → held_in b (set ys i (dead (at ys i))) ≡ without_first (is_part t lo hi) (held_in b xs)
  found-left i found = (first-found i found).1 ∙ ap (without_first (is_part t lo hi)) (held-same b xs ys same)

  pub chained-same : (cs : List Chain) → Linked ys cs (length ys) → length xs ≤ MOST_LINKED → length cs ≤ MOST_LINKED → IsChained b ys cs
  chained-same cs l small few =
      record { linked = l; holds = holds-same b xs ys same holds; small = omega (arith, length-bare xs ys same); few = few }

holds-dies : (b : List ℕ) (ys : List Slot) (i : ℕ) → i < length ys → Holds b ys → Holds b (set ys i (dead (at ys i)))
holds-dies b ys i h holds = λ k low.
    let long = length-set ys i (dead (at ys i)) in
    let was = holds i h in
    let died : Keeps b (dead (at ys i)) = record { lies = was.lies; hashed = was.hashed } in
    ⊎_elim
    (λ (here : k ≡ i). subst (λ m. Keeps b (at (set ys i (dead (at ys i))) m)) (sym here)
    (subst (Keeps b) (sym (at-set_same ys i (dead (at ys i)) h)) died))
    (λ (other : k ≢ i). subst (Keeps b) (sym (at-set_other ys i k (dead (at ys i)) other)) (holds k (omega arith)))
    (cases_eq k i)

pub chained-dies : (b : List ℕ) (ys : List Slot) (cs : List Chain) (i : ℕ) → i < length ys → IsChained b ys cs
    → IsChained b (set ys i (dead (at ys i))) cs
chained-dies b ys cs i h c =
    let long = length-set ys i (dead (at ys i)) in
    record {
      linked = subst (Linked (set ys i (dead (at ys i))) cs) (sym long) (Linked-dies (length ys) ys cs i (dead (at ys i)) h refl c.linked);
      holds = holds-dies b ys i h c.holds;
      small = omega (arith, c.small);
      few = c.few;
    }

-- ---- what a walk looks for

pub sought-at : (cs : List Chain) (e : ℕ) → e < length cs → option_map sought_by (slice_get cs e) ≡ Some (sought_by (chain_at cs e))
sought-at cs e b = ap (option_map sought_by) (slice_get-get_or cs e (no_chain 0) b)

pub sought-past : (cs : List Chain) (e : ℕ) → length cs ≤ e → option_map sought_by (slice_get cs e) ≡ None
sought-past cs e b = ap (option_map sought_by) (slice_get_past cs e b)

pub sought-same : (c d : Chain) → SameWalk c d → sought_by d ≡ sought_by c
sought-same c d w =
    ap (λ t. sought t d.lo d.hi) w.txn ∙ ap (λ lo. sought c.txn lo d.hi) w.lo ∙ ap (λ hi. sought c.txn c.lo hi) w.hi
  where
    sought : ℕ → ℕ → ℕ → Sought
    sought t lo hi = record { txn = t; lo = lo; hi = hi }

pub nothing-sought : (hs : List KeyWaiting) → find (is_sought None) hs ≡ None
nothing-sought [] = refl
nothing-sought (h ∷ hs) = nothing-sought hs
