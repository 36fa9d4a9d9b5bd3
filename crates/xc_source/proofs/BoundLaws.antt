-- The least commit of those that wait on a tablet is that of the first in order of commit.
use Rattle.std.proofs.Common.{◌≡◌, ℕ, zero, suc, ◌+◌, ◌-◌, ◌<◌, ◌≤◌, ◌^◌, Bool, true, false, List, [], ◌∷◌, length, map, min, get_or}
use Rattle.std.proofs.Common.{Option, Some, None, refl, ap, sym, ◌∙◌, arith, ⊎_elim, is_some}
use Rattle.std.specs.Prelude.{slice_get, filter_map, option_map, if◌then◌else◌}
use Rattle.std.specs.List.{list_any, cons_option}
use Rattle.std.specs.BTreeMap as tree
use Rattle.std.proofs.Common.{BTreeMap}
use Rattle.std.specs.Map.{keys_of, values_of}
use Rattle.std.specs.BTreeMap.{is_at}
use Rattle.std.specs.Option.{option_map_or}
use Rattle.std.specs.Ordering.{nat_cmp}
use Rattle.std.specs.Cmp.{nat_cmp_total}
use Rattle.std.proofs.lemmas.Bool.{cases_lt, true≢false, and_parts, or_left, or_right, or_cases, eqb-true, eq-eqb}
use Rattle.std.proofs.lemmas.Option.{none-some, same_Some, slice_get_within, get_or_from_slice_get, slice_get-map}
use Rattle.std.proofs.lemmas.Map.Entries.{place_from_lookup, length-keys_of, btree_map_get_place}
use Rattle.std.specs.Cmp.{unsigned_ties}
use Rattle.std.proofs.lemmas.Map.Keys.{below_from_sorted}
use Rattle.xc_record.specs.declared.record.Header.{Header}
use Rattle.xc_record.specs.Hash.{holds, hash_of}
use Rattle.xc_record.specs.Lists.{least, first_some, or_else}
use Rattle.xc_source.specs.declared.transaction.Provisional.{Provisional}
use Rattle.std.specs.BTreeMap.Range.{entries_between}
use Rattle.std.specs.declared.ops.Bound.TheVariants.{Included, Unbounded}
use Rattle.std.specs.Ordering.{is_le}
use Rattle.std.specs.Prelude.{◌==◌, ◌&&◌, nat_le, IfSome}
use Rattle.std.proofs.Common.{◌⊎◌, subst}
use Rattle.std.proofs.lemmas.Bool.Decides.{nat_tests}
use Rattle.xc_source.specs.declared.cursor.Cursor.{Cursor}
use Rattle.xc_source.specs.Machine.{Transaction, commit_of}
use Rattle.xc_source.specs.Waiting.{waits_on, is_waiting, commit_on}
use Rattle.xc_source.specs.Holders.{numbered, commit_at, some_waits, AreWaiting, bound_at, least_bound, IsEarliest, AreCursors, earliest_at}
use Rattle.xc_source.proofs.NumberedLaws.{numbered-next, numbered-at}

-- ---- the first of a list

abbrev IsFirst : {A : Type 0} → (A → Option ℕ) → List A → ℕ → Type 0
IsFirst {A} f xs v = (i : ℕ) × (x : A) × (slice_get xs i ≡ Some x) × (f x ≡ Some v)
    × ((j w : ℕ) (y : A) → slice_get xs j ≡ Some y → f y ≡ Some w → i ≤ j)

first-place : {A : Type 0} (f : A → Option ℕ) (xs : List A) (v : ℕ) → first_some f xs ≡ Some v → IsFirst f xs v
first-place f [] v e = absurd (none-some v e)
first-place {A = A} f (x ∷ xs) v e = go (f x) refl e (λ q. first-place f xs v q)
  where
    go : (o : Option ℕ) → f x ≡ o → or_else o (first_some f xs) ≡ Some v → (first_some f xs ≡ Some v → IsFirst f xs v)
        → IsFirst f (x ∷ xs) v
    go (Some w) q e more = (0, x, refl, q ∙ e, λ j w y s t. omega arith)
    go None q e more =
        let r = more e in (suc r.0, r.1, r.2, r.3, λ j w y s t. later j w y s t)
      where
        later : (j w : ℕ) (y : A) → slice_get (x ∷ xs) j ≡ Some y → f y ≡ Some w → suc (more e).0 ≤ j
        later zero w y s t = absurd (none-some w (sym q ∙ ap f (same_Some x y s) ∙ t))
        later (suc j) w y s t = let l = (more e).4 j w y s t in omega (arith, l)

first-nowhere : {A : Type 0} (f : A → Option ℕ) (xs : List A) (j : ℕ) (y : A) → first_some f xs ≡ None → slice_get xs j ≡ Some y → f y
    ≡ None
first-nowhere f [] j y e s = absurd (none-some y s)
first-nowhere {A} f (x ∷ xs) zero y e s = sym (ap f (same_Some x y s)) ∙ none-first (f x) (first_some f xs) e
  where
    none-first : (a b : Option ℕ) → or_else a b ≡ None → a ≡ None
    none-first None b e = refl
    none-first (Some v) b e = absurd (none-some v (sym e))
first-nowhere {A} f (x ∷ xs) (suc j) y e s = first-nowhere f xs j y (none-rest (f x) (first_some f xs) e) s
  where
    none-rest : (a b : Option ℕ) → or_else a b ≡ None → b ≡ None
    none-rest None b e = e
    none-rest (Some v) b e = absurd (none-some v (sym e))

-- ---- the least of a list of transactions

abbrev bounds : Header → List Transaction → List ℕ
bounds header ts = map (λ commit. commit - 1) (filter_map (commit_on header) ts)

least-from : (header : Header) (ts : List Transaction) (y : ℕ) → y ≤ 2 ^ 62
    → ((i c : ℕ) (t : Transaction) → slice_get ts i ≡ Some t → commit_on header t ≡ Some c → y ≤ c - 1) → y ≤ least (bounds header ts)
least-from header [] y l h = l
least-from header (t ∷ ts) y l h = go (commit_on header t) refl (least-from header ts y l (λ i c u s q. h (suc i) c u s q))
  where
    go : (o : Option ℕ) → commit_on header t ≡ o → y ≤ least (bounds header ts)
        → y ≤ least (map (λ commit. commit - 1) (cons_option o (filter_map (commit_on header) ts)))
    go None e rest = rest
    go (Some c) e rest = let first = h 0 c t refl e in omega (arith, first, rest)

least-below : (header : Header) (ts : List Transaction) (i c : ℕ) (t : Transaction) → slice_get ts i ≡ Some t → commit_on header t ≡ Some c
    → least (bounds header ts) ≤ c - 1
least-below header [] i c t s e = absurd (none-some t s)
least-below header (u ∷ ts) zero c t s e =
    let q : commit_on header u ≡ Some c = ap (commit_on header) (same_Some u t s) ∙ e in rw q (omega arith)
least-below header (u ∷ ts) (suc i) c t s e = go (commit_on header u) refl (least-below header ts i c t s e)
  where
    go : (o : Option ℕ) → commit_on header u ≡ o → least (bounds header ts) ≤ c - 1
        → least (map (λ commit. commit - 1) (cons_option o (filter_map (commit_on header) ts))) ≤ c - 1
    go None q rest = rest
    go (Some d) q rest = omega (arith, rest)

-- ---- what a first one is

commit_on-parts : (header : Header) (t : Transaction) (c : ℕ) → commit_on header t ≡ Some c
    → (waits_on header t ≡ true) × (commit_of t.stage ≡ Some c)
commit_on-parts header t c e = go (waits_on header t) refl e
  where
    go : (b : Bool) → waits_on header t ≡ b → (if b then commit_of t.stage else None) ≡ Some c
        → (waits_on header t ≡ true) × (commit_of t.stage ≡ Some c)
    go true q e = (q, e)
    go false q e = absurd (none-some c e)

pub some-wait : (header : Header) (t : Transaction) → waits_on header t ≡ true → some_waits t ≡ true
some-wait header t e = go t.writes e
  where
    go : (ws : List Provisional) → list_any (is_waiting header) ws ≡ true → list_any (λ w. w.waits) ws ≡ true
    go [] e = e
    go (w ∷ ws) e = ⊎_elim (λ a. or_left w.waits (list_any (λ w. w.waits) ws) (and_parts w.waits (holds header (hash_of w.op.key)) a).0)
        (λ a. or_right w.waits (list_any (λ w. w.waits) ws) (go ws a)) (or_cases (is_waiting header w) (list_any (is_waiting header) ws) e)

bound-parts : (header : Header) (o : Option Transaction) (v : ℕ) → bound_at header o ≡ Some v
    → (t : Transaction) × (c : ℕ) × (o ≡ Some t) × (commit_on header t ≡ Some c) × (v ≡ c - 1)
bound-parts header None v e = absurd (none-some v e)
bound-parts header (Some t) v e = go (commit_on header t) refl e
  where
    go : (o : Option ℕ) → commit_on header t ≡ o → option_map (λ commit. commit - 1) o ≡ Some v
        → (u : Transaction) × (c : ℕ) × (Some t ≡ Some u) × (commit_on header u ≡ Some c) × (v ≡ c - 1)
    go None q e = absurd (none-some v e)
    go (Some c) q e = (t, c, refl, q, sym (same_Some (c - 1) v e))

-- the entries that have a value
place-value : (es : List (ℕ × ℕ)) (j n : ℕ) → slice_get (values_of es) j ≡ Some n → (k : ℕ) × (slice_get es j ≡ Some (k, n))
place-value [] j n e = absurd (none-some n e)
place-value (x ∷ es) zero n e = (x.0, ap (λ v. Some (x.0, v)) (same_Some x.1 n e))
place-value (x ∷ es) (suc j) n e = place-value es j n e

record Entry (m : BTreeMap ℕ ℕ) (c n : ℕ) : Type 0 where
  place : ℕ
  at : slice_get m.entries place ≡ Some (c, n)

entry-of : (m : BTreeMap ℕ ℕ) (c n : ℕ) → tree.get nat_cmp m c ≡ Some n → Entry m c n
entry-of m c n e =
    let p = place_from_lookup (is_at (nat_cmp c)) m.entries n e in
    let same : c ≡ p.1 = eqb-true c p.1 (unsigned_ties c p.1 ∙ p.3) in
    record { place = p.0; at = p.2 ∙ ap (λ k. Some (k, n)) (sym same) }

key-le : (m : BTreeMap ℕ ℕ) (i j a b p q : ℕ) → tree.IsOrdered nat_cmp m → slice_get m.entries i ≡ Some (a, p) → slice_get m.entries j
    ≡ Some (b, q)
    → i ≤ j → a ≤ b
key-le m i j a b p q o x y l = ⊎_elim
    (λ less.
    let len : length (keys_of m.entries) ≡ length m.entries = length-keys_of m.entries in
    let within : j < length m.entries = slice_get_within m.entries j (b, q) y in
    let below = below_from_sorted (keys_of m.entries) i j 0 o less (omega arith) in
    omega (arith, below, ki, kj))
    (λ more.
    let same : i ≡ j = omega arith in
    let z : a ≡ b = ap (λ (e : ℕ × ℕ). e.0) (same_Some (a, p) (b, q) (sym x ∙ ap (slice_get m.entries) same ∙ y)) in
    omega (arith, z))
    (cases_lt i j)
  where
    key-at : (k c n : ℕ) → slice_get m.entries k ≡ Some (c, n) → get_or (keys_of m.entries) k 0 ≡ c
    key-at k c n e = get_or_from_slice_get (keys_of m.entries) k c 0
        (slice_get-map (λ (e : ℕ × ℕ). e.0) m.entries k ∙ ap (option_map (λ (e : ℕ × ℕ). e.0)) e)

    ki : get_or (keys_of m.entries) i 0 ≡ a
    ki = key-at i a p x

    kj : get_or (keys_of m.entries) j 0 ≡ b
    kj = key-at j b q y

-- the bound of the transaction of this number
abbrev bound_in : Header → List Transaction → ℕ → Option ℕ
bound_in header ts n = bound_at header (numbered ts n)

listed-at : (header : Header) (m : BTreeMap ℕ ℕ) (ts : List Transaction) (n c : ℕ) (t : Transaction) → AreWaiting (tree.get nat_cmp m) ts
    → numbered ts n ≡ Some t → commit_on header t ≡ Some c → Entry m c n
listed-at header m ts n c t h e q =
    let p = commit_on-parts header t c q in
    entry-of m c n (h.full n c t e p.1 (some-wait header t p.0))

bound-of : (header : Header) (ts : List Transaction) (n c : ℕ) (t : Transaction) → numbered ts n ≡ Some t → commit_on header t ≡ Some c
    → bound_in header ts n ≡ Some (c - 1)
bound-of header ts n c t e q = ap (bound_at header) e ∙ ap (option_map (λ commit. commit - 1)) q

value-at : (m : BTreeMap ℕ ℕ) (j c n : ℕ) → slice_get m.entries j ≡ Some (c, n) → slice_get (tree.values m) j ≡ Some n
value-at m j c n e = slice_get-map (λ (e : ℕ × ℕ). e.1) m.entries j ∙ ap (option_map (λ (e : ℕ × ℕ). e.1)) e

-- a first bound is that of a transaction that waits on the tablet, and none that waits there committed before it
record IsFirstBound (header : Header) (ts : List Transaction) (v : ℕ) : Type 0 where
  number : ℕ
  commit : ℕ
  state : Transaction
  at : numbered ts number ≡ Some state
  waits : commit_on header state ≡ Some commit
  is : v ≡ commit - 1
  least : (n c : ℕ) (t : Transaction) → numbered ts n ≡ Some t → commit_on header t ≡ Some c → commit ≤ c

found-first : (header : Header) (m : BTreeMap ℕ ℕ) (ts : List Transaction) (v : ℕ) → tree.IsOrdered nat_cmp m
    → AreWaiting (tree.get nat_cmp m) ts → first_some (bound_in header ts) (tree.values m) ≡ Some v → IsFirstBound header ts v
found-first header m ts v o h e =
    let r = first-place (bound_in header ts) (tree.values m) v e in
    let p = bound-parts header (numbered ts r.1) v r.3 in
    let k = place-value m.entries r.0 r.1 r.2 in
    let got : tree.get nat_cmp m k.0 ≡ Some r.1 = btree_map_get_place nat_cmp_total m r.0 k.0 r.1 o k.1 in
    let there = commit_on-parts header p.0 p.1 p.3 in
    let same : k.0 ≡ p.1 = same_Some k.0 p.1 (sym (h.sound k.0 r.1 got) ∙ ap commit_at p.2 ∙ there.1) in record {
      number = r.1;
      commit = p.1;
      state = p.0;
      at = p.2;
      waits = p.3;
      is = p.4;
      least = λ n c t s q.
          let w = listed-at header m ts n c t h s q in
          let before : r.0 ≤ w.place = r.4 w.place (c - 1) n (value-at m w.place c n w.at) (bound-of header ts n c t s q) in
          let kc = key-le m r.0 w.place k.0 c r.1 n o k.1 w.at before in
          omega (arith, kc, same);
    }

-- where there is no first bound, nothing waits on the tablet
none-waits : (header : Header) (m : BTreeMap ℕ ℕ) (ts : List Transaction) (n c : ℕ) (t : Transaction) → AreWaiting (tree.get nat_cmp m) ts
    → first_some (bound_in header ts) (tree.values m) ≡ None → numbered ts n ≡ Some t → commit_on header t ≡ Some c → ⊥
none-waits header m ts n c t h e s q =
    let w = listed-at header m ts n c t h s q in
    none-some (c - 1) (sym (first-nowhere (bound_in header ts) (tree.values m) w.place n e (value-at m w.place c n w.at))
    ∙ bound-of header ts n c t s q)

pub first-bound : (header : Header) (m : BTreeMap ℕ ℕ) (ts : List Transaction) (x : ℕ) → x ≤ 2 ^ 62 → tree.IsOrdered nat_cmp m
    → AreWaiting (tree.get nat_cmp m) ts
    → option_map_or (λ bound. min x bound) (first_some (λ n. bound_at header (numbered ts n)) (tree.values m)) x ≡ least_bound header ts x
first-bound header m ts x l o h = go (first_some (bound_in header ts) (tree.values m)) refl
  where
    go : (r : Option ℕ) → first_some (bound_in header ts) (tree.values m) ≡ r
        → option_map_or (λ bound. min x bound) r x ≡ least_bound header ts x
    go None e =
        let low : x ≤ least (bounds header ts) = least-from header ts x l (λ i c t s q.
        absurd (none-waits header m ts (1 + i) c t h e (numbered-next ts i t s) q)) in
        omega (arith, low)
    go (Some v) e =
        let r = found-first header m ts v o h e in
        let n = numbered-at ts r.number r.state r.at in
        let high = least-below header ts (r.number - 1) r.commit r.state n.1 r.waits in
        let low : min x v ≤ least (bounds header ts) = least-from header ts (min x v) (omega arith) (λ i c t s q.
        let kc = r.least (1 + i) c t (numbered-next ts i t s) q in
        omega (arith, kc, r.is)) in
        omega (arith, low, high, r.is)

-- ---- where to look on

-- those from a key on have the first bound of all, where none before it has one
pub first-from : (earliest : ℕ) (f : ℕ → Option ℕ) (es : List (ℕ × ℕ))
    → ((i c n : ℕ) → slice_get es i ≡ Some (c, n) → c < earliest → f n ≡ None)
    → first_some (λ p. f p.1) (entries_between nat_cmp (Included earliest) Unbounded es) ≡ first_some f (values_of es)
first-from earliest f [] h = refl
first-from earliest f (e ∷ es) h = go (is_le (nat_cmp earliest e.0)) refl (first-from earliest f es (λ i c n s l. h (suc i) c n s l))
  where
    go : (b : Bool) → is_le (nat_cmp earliest e.0) ≡ b
        → first_some (λ p. f p.1) (entries_between nat_cmp (Included earliest) Unbounded es) ≡ first_some f (values_of es)
        → first_some (λ p. f p.1) (if b && true then e ∷ entries_between nat_cmp (Included earliest) Unbounded es
        else entries_between nat_cmp (Included earliest) Unbounded es)
        ≡ or_else (f e.1) (first_some f (values_of es))
    go true q more = ap (or_else (f e.1)) more
    go false q more =
        let less : e.0 < earliest = before earliest e.0 q in
        more ∙ sym (ap (λ o. or_else o (first_some f (values_of es))) (h 0 e.0 e.1 refl less))
      where
        before : (a b : ℕ) → is_le (nat_cmp a b) ≡ false → b < a
        before a b q = ⊎_elim (λ l. l) (λ l. absurd (true≢false (sym (le_at a b l) ∙ q))) (cases_lt b a)
          where
            le_at : (a b : ℕ) → a ≤ b → is_le (nat_cmp a b) ≡ true
            le_at a b l = grind (arith, nat_tests, l)

-- the same of the transactions that wait
pub first-earliest : (header : Header) (m : BTreeMap ℕ ℕ) (ts : List Transaction) (earliest : ℕ) → tree.IsOrdered nat_cmp m
    → AreWaiting (tree.get nat_cmp m) ts → IsEarliest header earliest ts
    → first_some (λ p. bound_at header (numbered ts p.1)) (entries_between nat_cmp (Included earliest) Unbounded m.entries)
    ≡ first_some (λ n. bound_at header (numbered ts n)) (tree.values m)
first-earliest header m ts earliest o h k = first-from earliest (bound_in header ts) m.entries (λ i c n s l.
    go i c n s l (bound_in header ts n) refl)
  where
    go : (i c n : ℕ) → slice_get m.entries i ≡ Some (c, n) → c < earliest → (b : Option ℕ) → bound_in header ts n ≡ b → b ≡ None
    go i c n s l None e = refl
    go i c n s l (Some v) e =
        let p = bound-parts header (numbered ts n) v e in
        let got : tree.get nat_cmp m c ≡ Some n = btree_map_get_place nat_cmp_total m i c n o s in
        let there = commit_on-parts header p.0 p.1 p.3 in
        let same : c ≡ p.1 = same_Some c p.1 (sym (h.sound c n got) ∙ ap commit_at p.2 ∙ there.1) in
        let least = k.least n p.1 p.0 p.2 p.3 in
        absurd (omega (arith, l, same, least))

-- the cursor of a tablet tells the earliest commit that may wait there, and 0 where there is none
pub earliest-known : (k : ℕ → Option Cursor) (header : Header) (ts : List Transaction) → AreCursors k ts
    → IsEarliest header (earliest_at header (k header.lo)) ts
earliest-known k header ts h = go (k header.lo) refl
  where
    zero-first : IsEarliest header 0 ts
    zero-first = record { least = λ n c t e q. omega arith; most = λ x p. omega arith }

    go : (o : Option Cursor) → k header.lo ≡ o → IsEarliest header (earliest_at header o) ts
    go None e = zero-first
    go (Some cursor) e = either (cursor.hi == header.hi) refl
      where
        either : (b : Bool) → (cursor.hi == header.hi) ≡ b → IsEarliest header (if b then cursor.earliest else 0) ts
        either true q = h header cursor e (eqb-true cursor.hi header.hi q)
        either false q = zero-first

-- where a search came to an end, the next one begins
pub earliest-next : (header : Header) (m : BTreeMap ℕ ℕ) (ts : List Transaction) (found : Option ℕ) (next : ℕ) → tree.IsOrdered nat_cmp m
    → AreWaiting (tree.get nat_cmp m) ts → first_some (λ n. bound_at header (numbered ts n)) (tree.values m) ≡ found
    → IfSome found (λ value. 1 ≤ value) → IfSome found (λ value. next ≡ min (value + 1) (2 ^ 64 - 1))
    → (found ≡ None → (x : ℕ) → ((c n : ℕ) → tree.get nat_cmp m c ≡ Some n → c < x) → next ≤ x)
    → IsEarliest header next ts
earliest-next header m ts None next o h e one some none = record {
  least = λ n c t s q. absurd (none-waits header m ts n c t h e s q);
  most = λ x p. none refl x (λ c n q. p n c (h.sound c n q));
}
earliest-next header m ts (Some v) next o h e one some none =
    let r = found-first header m ts v o h e in
    let at : commit_at (numbered ts r.number) ≡ Some r.commit =
    ap commit_at r.at ∙ (commit_on-parts header r.state r.commit r.waits).1 in
    let low : next ≤ r.commit = omega (arith, one, some, r.is) in record {
      least = λ n c t s q. let l = r.least n c t s q in omega (arith, l, low);
      most = λ x p. let l = p r.number r.commit at in omega (arith, l, low);
    }

-- the cursors where that of one tablet is put
pub cursors-put : (k k' : ℕ → Option Cursor) (header : Header) (next : ℕ) (ts : List Transaction) → AreCursors k ts
    → ((a : Header) → a.lo ≡ header.lo → a.hi ≡ header.hi → IsEarliest a next ts)
    → ((lo : ℕ) (cursor : Cursor) → k' lo ≡ Some cursor
    → ((lo ≡ header.lo) × (cursor ≡ record { hi = header.hi; earliest = next })) ⊎ (k lo ≡ Some cursor))
    → AreCursors k' ts
cursors-put k k' header next ts h put is = λ a cursor e q. ⊎_elim
    (λ new. subst (λ n. IsEarliest a n ts) (sym (ap (λ (c : Cursor). c.earliest) new.1))
    (put a new.0 (sym q ∙ ap (λ (c : Cursor). c.hi) new.1)))
    (λ old. h a cursor old q) (is a.lo cursor e)

-- what is said of one header holds of each of this range
pub earliest-same : (a b : Header) (earliest : ℕ) (ts : List Transaction) → a.lo ≡ b.lo → a.hi ≡ b.hi → IsEarliest b earliest ts
    → IsEarliest a earliest ts
earliest-same a b earliest ts lo hi h = record {
  least = λ n c t e q. h.least n c t e (sym (same t) ∙ q);
  most = h.most;
}
  where
    on : ℕ → ℕ → Transaction → Option ℕ
    on x y t = if list_any (λ w. w.waits && (nat_le x (hash_of w.op.key) && nat_le (hash_of w.op.key) y)) t.writes
        then commit_of t.stage else None

    same : (t : Transaction) → commit_on a t ≡ commit_on b t
    same t = ap (λ x. on x a.hi t) lo ∙ ap (λ y. on b.lo y t) hi

-- ---- the numbers that are listed

any-at : (xs : List ℕ) (i n : ℕ) → slice_get xs i ≡ Some n → list_any (is_at (nat_cmp n)) xs ≡ true
any-at [] i n e = absurd (none-some n e)
any-at (x ∷ xs) zero n e =
    or_left (is_at (nat_cmp n) x) (list_any (is_at (nat_cmp n)) xs) (sym (unsigned_ties n x) ∙ eq-eqb n x (sym (same_Some x n e)))
any-at (x ∷ xs) (suc i) n e = or_right (is_at (nat_cmp n) x) (list_any (is_at (nat_cmp n)) xs) (any-at xs i n e)

pub listed-any : (m : BTreeMap ℕ ℕ) (n : ℕ) (ts : List Transaction) (t : Transaction) → AreWaiting (tree.get nat_cmp m) ts → numbered ts n
    ≡ Some t
    → is_some (commit_of t.stage) ≡ true → some_waits t ≡ true → list_any (is_at (nat_cmp n)) (tree.values m) ≡ true
listed-any m n ts t h e s w = go (commit_of t.stage) refl s
  where
    go : (o : Option ℕ) → commit_of t.stage ≡ o → is_some o ≡ true → list_any (is_at (nat_cmp n)) (tree.values m) ≡ true
    go None q s = absurd (true≢false (sym s))
    go (Some c) q s =
        let p = entry-of m c n (h.full n c t e q w) in
        any-at (tree.values m) p.place n (slice_get-map (λ (e : ℕ × ℕ). e.1) m.entries p.place ∙ ap (option_map (λ (e : ℕ × ℕ). e.1)) p.at)
