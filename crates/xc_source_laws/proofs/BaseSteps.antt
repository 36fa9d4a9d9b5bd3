-- The steps of the source that log nothing, and splits, keep what holds of every source.
use Rattle.std.proofs.Common.{◌≡◌, ℕ, ◌+◌, ◌-◌, ◌<◌, ◌≤◌, true, false, Bool, List, [], ◌∷◌, ◌++◌, length, map}
use Rattle.std.proofs.Common.{refl, ap, sym, ◌∙◌, subst, arith, append_assoc, inl, inr, ⊎_elim, ◌⊎◌}
use Rattle.std.specs.Prelude.{◌&&◌}
use Rattle.std.specs.List.{list_any}
use Rattle.std.proofs.lemmas.Bool.{true≢false, cases_lt}
use Rattle.std.proofs.lemmas.Bool.Decides.{nat_tests}
use Rattle.std.proofs.lemmas.Option.{same_Some}
use Rattle.std.proofs.lemmas.List.{map-append, length-map}
use Rattle.xc_record.specs.declared.record.Header.{Header}
use Rattle.xc_record.specs.declared.record.Kind.TheVariants as kind
use Rattle.xc_record.specs.declared.record.Record.{Record}
use Rattle.xc_record.specs.Grown.{with_record}
use Rattle.xc_record.specs.Hash.{holds, hash_of}
use Rattle.xc_record.specs.Accepted.{AcceptedTablet}
use Rattle.xc_record.proofs.ListLaws.{Each, Each-append, Each-weaker}
use Rattle.xc_source.specs.declared.transaction.Stage.TheVariants.{Committed}
use Rattle.xc_source.specs.Machine.{Machine, Transaction, with_transaction}
use Rattle.xc_source.specs.Waiting.{is_waiting, waits_on}
use Rattle.xc_source.specs.Calls.{logged, listed, commit_after, child, split_after}
use Rattle.xc_source_laws.proofs.Lists.{each-replaced, each-here, Seam}
use Rattle.xc_source_laws.proofs.Grow.{tablet_of, taken, born}
use Rattle.xc_source_laws.proofs.Books.{opens, opens-taken, Books, IsBook, books-split, AreHalves, with_halves, IsChild, seam-id}
use Rattle.xc_source_laws.proofs.Base.{Above, IsTxn, IsMachine, base-clock, base-txn, next_record, grown_books, grown_shape}
use Rattle.xc_source_laws.proofs.Base.{book-at, unsplit, plain-break}

-- ---- a commit

commit-txn : (m : Machine) (bs : List AcceptedTablet) (t : Transaction) → IsMachine m bs → IsTxn m.time bs t
    → IsTxn (m.time + 1) bs (record t { stage = Committed (m.time + 1) })
commit-txn m bs t k p = record {
  written = λ w. let q = p.written w in omega arith;
  commits = λ c e.
      let same : m.time + 1 ≡ c = same_Some (m.time + 1) c e in
      record {
        within = omega arith;
        positive = omega arith;
        after_write = λ w. let q = p.written w in omega arith;
        above = Each-weaker (IsBook m.time) (Above (record t { stage = Committed (m.time + 1) }) c)
            (λ b q o w. let f = q.floor in omega arith) bs k.books.each;
      };
}

pub base-listed : (time n : ℕ) (t : Transaction) (m : Machine) (bs : List AcceptedTablet) → IsMachine m bs
    → IsMachine (listed time n t m) bs
base-listed time n t m bs k = k

pub base-commit : (m : Machine) (bs : List AcceptedTablet) (n : ℕ) (t : Transaction) → IsMachine m bs → IsTxn m.time bs t
    → IsMachine (commit_after n m t) bs
base-commit m bs n t k p =
    base-listed (m.time + 1) n t (with_transaction n (record t { stage = Committed (m.time + 1) }) (record m { time = m.time + 1 })) bs
    (base-txn (record m { time = m.time + 1 }) bs n (record t { stage = Committed (m.time + 1) }) (commit-txn m bs t k p)
    (base-clock m bs (m.time + 1) (let z : m.time ≤ m.time + 1 = omega arith in z) k))

-- ---- a split

pub any-weaker : {A : Type 0} (p q : A → Bool) → ((x : A) → p x ≡ true → q x ≡ true) → (xs : List A) → list_any p xs ≡ true
    → list_any q xs ≡ true
any-weaker p q f [] e = e
any-weaker p q f (x ∷ xs) e = grind (arith, f x, any-weaker p q f xs)

held-by : (p q : Bool) → (p ≡ false → q ≡ false) → q ≡ true → p ≡ true
held-by true q f e = refl
held-by false q f e = absurd (true≢false (sym e ∙ f refl))

waits-both : (w p q : Bool) → (q ≡ true → p ≡ true) → (w && q) ≡ true → (w && p) ≡ true
waits-both true p q f e = f e
waits-both false p q f e = e

-- what waits on a child waited on the parent
pub waits-within : (b : AcceptedTablet) (l : Header) (t : Transaction) → IsChild b l → waits_on l t ≡ true → waits_on b.header t ≡ true
waits-within b l t c e =
    any-weaker (is_waiting l) (is_waiting b.header)
    (λ w q. waits-both w.waits (holds b.header (hash_of w.op.key)) (holds l (hash_of w.op.key))
    (held-by (holds b.header (hash_of w.op.key)) (holds l (hash_of w.op.key)) (c.within (hash_of w.op.key))) q) t.writes e

txn-split : (time : ℕ) (xs : List AcceptedTablet) (b : AcceptedTablet) (ys : List AcceptedTablet) (r : Record) (l h : Header)
    (t : Transaction)
    → opens b ≡ true → opens (taken b r) ≡ false → (taken b r).end.floor ≡ b.end.floor → IsChild b l → IsChild b h
    → IsTxn time (xs ++ b ∷ ys) t → IsTxn (time + 1) (with_halves (xs ++ taken b r ∷ ys) (taken b r) l h) t
txn-split time xs b ys r l h t o n f cl ch k = record {
  written = λ w. let q = k.written w in omega arith;
  commits = λ c e.
      let old = k.commits c e in
      let here = each-here (Above t c) xs b ys old.above in
      let left : Above t c (born (taken b r) l) = λ _ w. let a = here o (waits-within b l t cl w) in omega arith in
      let right : Above t c (born (taken b r) h) = λ _ w. let a = here o (waits-within b h t ch w) in omega arith in
      record {
        within = let q = old.within in omega arith;
        positive = old.positive;
        after_write = old.after_write;
        above = Each-append (Above t c) ((xs ++ taken b r ∷ ys) ++ born (taken b r) l ∷ []) (born (taken b r) h ∷ [])
            (Each-append (Above t c) (xs ++ taken b r ∷ ys) (born (taken b r) l ∷ [])
            (each-replaced (Above t c) xs b (taken b r) ys (λ q w. absurd (true≢false (sym q ∙ n))) old.above) (left, tt)) (right, tt);
      };
}

-- the children of a split at a hash above the range's first
pub halves : (b : AcceptedTablet) (n at : ℕ) → b.header.lo < at → at ≤ b.header.hi
    → AreHalves b n (child n b.header.lo (at - 1) b.header.id).header (child (n + 1) at b.header.hi b.header.id).header
halves b n at lo hi = record {
  left = record { parent = refl; within = λ h e. grind (arith, nat_tests, e) };
  right = record { parent = refl; within = λ h e. grind (arith, nat_tests, e) };
  left_id = refl;
  right_id = refl;
  apart = λ h e. grind (arith, nat_tests, e);
  halves = λ h e. ⊎_elim (λ q. inl (grind (arith, nat_tests, e))) (λ q. inr (grind (arith, nat_tests, e))) (sides h at);
}
  where
    sides : (h at : ℕ) → (h < at) ⊎ (at ≤ h)
    sides h at = cases_lt h at

-- the split record of the tablet, at the clock's next time
abbrev pub split_record : Machine → ℕ → Record
split_record m at = next_record m (kind.Split at (length m.tablets) (length m.tablets + 1))

-- the books after a split
abbrev pub split_books : (m : Machine) {bs : List AcceptedTablet} {id : ℕ} {b : AcceptedTablet} → Seam bs id b → ℕ → List AcceptedTablet
split_books m {id = id} {b = b} s at =
    with_halves (grown_books s (split_record m at)) (taken b (split_record m at))
    (child (length m.tablets) b.header.lo (at - 1) id).header (child (length m.tablets + 1) at b.header.hi id).header

pub length-books : (m : Machine) (bs : List AcceptedTablet) → IsMachine m bs → length m.tablets ≡ length bs
length-books m bs k = ap length k.shape ∙ length-map bs tablet_of

halves-at : (m : Machine) (bs : List AcceptedTablet) (id : ℕ) (b : AcceptedTablet) (s : Seam bs id b) (at : ℕ) → IsMachine m bs
    → b.header.lo < at → at ≤ b.header.hi
    → AreHalves b (length (s.before ++ b ∷ s.after)) (child (length m.tablets) b.header.lo (at - 1) id).header
    (child (length m.tablets + 1) at b.header.hi id).header
halves-at m bs id b s at k lo hi =
    let same : length m.tablets ≡ length (s.before ++ b ∷ s.after) = length-books m bs k ∙ ap length s.whole in
    let number : b.header.id ≡ id = seam-id s.before b s.after (subst (Books m.time) s.whole k.books).numbered ∙ s.number in
    subst (λ i. AreHalves b (length (s.before ++ b ∷ s.after)) (child (length m.tablets) b.header.lo (at - 1) i).header
    (child (length m.tablets + 1) at b.header.hi i).header) number
    (subst (λ n. AreHalves b (length (s.before ++ b ∷ s.after)) (child n b.header.lo (at - 1) b.header.id).header
    (child (n + 1) at b.header.hi b.header.id).header) (sym same) (halves b (length (s.before ++ b ∷ s.after)) at lo hi))

split-shape : (m : Machine) (bs : List AcceptedTablet) (id : ℕ) (b : AcceptedTablet) (s : Seam bs id b) (at : ℕ) → IsMachine m bs
    → (split_after id at m b.header).tablets ≡ map tablet_of (split_books m s at)
split-shape m bs id b s at k =
    let rec = split_record m at in
    let c = taken b rec in
    let ws = grown_books s rec in
    let l = (child (length m.tablets) b.header.lo (at - 1) id).header in
    let r = (child (length m.tablets + 1) at b.header.hi id).header in
    let old : (logged id rec.kind m).tablets ≡ map tablet_of ws =
    ap (with_record id rec) (k.shape ∙ ap (map tablet_of) s.whole) ∙ grown_shape s.before b s.after id rec s.number in
    ap (λ ts. ts ++ child (length m.tablets) b.header.lo (at - 1) id ∷ child (length m.tablets + 1) at b.header.hi id ∷ []) old
    ∙ sym (map-append tablet_of ws (born c l ∷ born c r ∷ [])) ∙ ap (map tablet_of) (sym (append_assoc ws (born c l ∷ []) (born c r ∷ [])))

pub base-split : (m : Machine) (bs : List AcceptedTablet) (id : ℕ) (b : AcceptedTablet) (s : Seam bs id b) (at : ℕ) → IsMachine m bs
    → opens b ≡ true → b.header.lo < at → at ≤ b.header.hi → IsMachine (split_after id at m b.header) (split_books m s at)
base-split m bs id b s at k o lo hi =
    let rec = split_record m at in
    let here = book-at m bs id b k s in
    let halves = halves-at m bs id b s at k lo hi in
    record {
      shape = split-shape m bs id b s at k;
      books = books-split m.time s.before b s.after rec (child (length m.tablets) b.header.lo (at - 1) id).header
          (child (length m.tablets + 1) at b.header.hi id).header (subst (Books m.time) s.whole k.books) o refl refl
          (let f = here.floor in omega arith)
          (plain-break b.end rec (let l = here.last in omega arith) (unsplit m b here o) refl refl) halves;
      txns = Each-weaker (IsTxn m.time (s.before ++ b ∷ s.after)) (IsTxn (m.time + 1) (split_books m s at))
          (λ t p. txn-split m.time s.before b s.after rec (child (length m.tablets) b.header.lo (at - 1) id).header
          (child (length m.tablets + 1) at b.header.hi id).header t o (opens-taken b rec) refl halves.left halves.right p) m.txns
          (subst (λ w. Each (IsTxn m.time w) m.txns) s.whole k.txns);
    }
