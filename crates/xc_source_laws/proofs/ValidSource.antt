-- The logs of every list of source commands are valid, but for their number of records, which is counted apart.
use Rattle.std.proofs.Common.{◌≡◌, ℕ, zero, suc, ◌+◌, ◌-◌, ◌^◌, ◌<◌, ◌≤◌, true, false, List, [], ◌∷◌, ◌++◌, length}
use Rattle.std.proofs.Common.{Some, None}
use Rattle.std.proofs.Common.{refl, ap, sym, ◌∙◌, subst, arith}
use Rattle.std.specs.Prelude.{slice_get, slice_set, nat_le, fold, bit_or, ◌*◌}
use Rattle.std.specs.Prelude.{◌%◌}
use Rattle.std.specs.List.{range_with_len}
use Rattle.std.specs.Option.{option_map_or}
use Rattle.std.proofs.lemmas.Bool.Decides.{nat_tests}
use Rattle.std.proofs.lemmas.Bool.{and_parts, eq-eqb}
use Rattle.std.proofs.lemmas.Option.{slice_get_within}
use Rattle.std.proofs.lemmas.List.{length_push, length-map, map-append}
use Rattle.xc_base.specs.Names.{is_key, is_value}
use Rattle.xc_time.specs.Times.{last_time}
use Rattle.xc_record.specs.declared.record.Header.{Header}
use Rattle.xc_record.specs.declared.record.Kind.{Kind}
use Rattle.xc_record.specs.declared.record.Kind.TheVariants as kind
use Rattle.xc_record.specs.declared.record.Op.{Op}
use Rattle.xc_record.specs.Hash.{holds, hash_of}
use Rattle.xc_record.specs.Headers.{children}
use Rattle.xc_record.specs.Lists.{insert_number}
use Rattle.xc_record.specs.Order.{is_split}
use Rattle.xc_record.specs.Subs.{numbers_in, are_subs}
use Rattle.xc_record.specs.Valid.{is_time, is_txn, ops_fit, kind_fits, ops_in}
use Rattle.xc_record.specs.Accepted.{AcceptedTablet}
use Rattle.xc_record.proofs.ListLaws.{Each, Each-append}
use Rattle.xc_record.proofs.SubsLaws.{insert-is, none-is, well-formed}
use Rattle.xc_model.proofs.Parents.{heads, each-get}
use Rattle.xc_source.specs.declared.transaction.Stage.TheVariants.{Committed}
use Rattle.xc_source.specs.Machine.{Machine, Transaction, transaction, with_transaction, begun}
use Rattle.xc_source.specs.Waiting.{taken as taken_on}
use Rattle.xc_source.specs.Calls.{logged, written, with_commit, listed, commit_after, aborted, child, split_after, next_begun, undone_from}
use Rattle.xc_source.specs.Calls.{is_savepoint}
use Rattle.xc_source_laws.specs.Laws.{OpFits}
use Rattle.xc_source_laws.proofs.Lists.{each-here, get-seam}
use Rattle.xc_source_laws.proofs.Books.{Books, seam-id}
use Rattle.xc_source_laws.proofs.Base.{IsMachine, next_record, grown_books, get-txn, transaction-at, each-set}
use Rattle.xc_source_laws.proofs.BaseSteps.{split_books, split_record, length-books}
use Rattle.xc_source_laws.proofs.Moves.{Closed, OpenAt, MayApply, MayBeSafe}
use Rattle.xc_source_laws.proofs.Fitting.{FitsOf, AreNext, fits-later, fits-taken, OpenSaid, none-of}
use Rattle.xc_source_laws.proofs.FittingSplit.{fits-split}

-- what was rolled back are numbers of subtransactions, and so is the current one, or 0
pub record HasSubs (t : Transaction) : Type 0 where
  pub bits : ℕ
  pub numbers : t.undone ≡ numbers_in bits
  pub current : t.current ≤ 64

pub record IsValidSource (m : Machine) (bs : List AcceptedTablet) : Type 0 where
  pub fits : FitsOf m.time (length m.txns) bs
  pub subs : Each HasSubs m.txns

-- ---- transactions

pub length-set : {A : Type 0} (xs : List A) (i : ℕ) (y : A) → length (slice_set xs i y) ≡ length xs
length-set [] i y = refl
length-set (x ∷ xs) zero y = refl
length-set (x ∷ xs) (suc i) y = ap suc (length-set xs i y)

get-subs : (m : Machine) (bs : List AcceptedTablet) (n : ℕ) (t : Transaction) → IsValidSource m bs → transaction m n ≡ Some t → HasSubs t
get-subs m bs n t v e = each-get HasSubs m.txns (n - 1) t v.subs (transaction-at m n t e).1

with-txn : (m : Machine) (bs : List AcceptedTablet) (n : ℕ) (t : Transaction) → IsValidSource m bs → HasSubs t
    → IsValidSource (with_transaction n t m) bs
with-txn m bs n t v s = record {
  fits = subst (λ c. FitsOf m.time c bs) (sym (length-set m.txns (n - 1) t)) v.fits;
  subs = each-set HasSubs m.txns (n - 1) t s v.subs;
}

undone-more : (a k bits : ℕ) (ns : List ℕ) → 1 ≤ a → a + k ≤ 65 → ns ≡ numbers_in bits
    → (more : ℕ) × (fold (λ undone n. insert_number n undone) ns (range_with_len a k) ≡ numbers_in more)
undone-more a zero bits ns one l e = (bits, e)
undone-more a (suc k) bits ns one l e =
    undone-more (a + 1) k (bit_or bits (1 * 2 ^ (a - 1) % 2 ^ 64)) (insert_number a ns) (omega arith) (omega arith)
    (ap (insert_number a) e ∙ sym (insert-is bits a one (omega arith)))

undone-subs : (sub : ℕ) (t : Transaction) → is_savepoint sub t ≡ true → t.current < 64 → HasSubs t
    → HasSubs (next_begun (undone_from sub t))
undone-subs sub t is few s =
    let p = and_parts _ _ is in
    let q = and_parts _ _ p.1 in
    let lo : nat_le 1 sub ≡ true = p.0 in
    let hi : nat_le sub t.current ≡ true = q.0 in
    let one : 1 ≤ sub = grind (arith, nat_tests, lo) in
    let top : sub ≤ t.current = grind (arith, nat_tests, hi) in
    let more = undone-more sub (t.current + 1 - sub) s.bits t.undone one (omega arith) s.numbers in
    record { bits = more.0; numbers = more.1; current = omega arith }

begun-subs : HasSubs begun
begun-subs = record { bits = 0; numbers = sym none-is; current = omega arith }

-- ---- records

time-fits : (t : ℕ) → t + 1 ≤ last_time → is_time (t + 1) ≡ true
time-fits t l = grind (arith, nat_tests)

txn-fits : (m : Machine) (n : ℕ) (t : Transaction) → transaction m n ≡ Some t → length m.txns < 2 ^ 32 → is_txn n ≡ true
txn-fits m n t e few =
    let at = transaction-at m n t e in
    let one : 1 ≤ n = at.0 in
    let within : n - 1 < length m.txns = slice_get_within m.txns (n - 1) t at.1 in
    grind (arith, nat_tests)

one-op : (h : Header) (op : Op) → holds h (hash_of op.key) ≡ true → OpFits op → ops_fit h (op ∷ []) ≡ true
one-op h op e f = let p = and_parts (is_key op.key) (option_map_or is_value op.value true) f in rw (p.0, p.1, e) refl

with-record : (m u : Machine) (bs : List AcceptedTablet) (id : ℕ) (b : AcceptedTablet) (o : OpenAt bs id b) (kind : Kind)
    → IsValidSource m bs
    → is_split kind ≡ false → ops_in kind ≤ 1 → (m.time + 1 ≤ last_time → length m.txns < 2 ^ 32 → kind_fits b.header None kind ≡ true)
    → u.time ≡ m.time + 1 → length u.txns ≡ length m.txns → Each HasSubs u.txns → IsValidSource u (grown_books o.seam (next_record m kind))
with-record m u bs id b o kind v n s fit t c subs = record {
  fits = subst (λ x. FitsOf x (length u.txns) (grown_books o.seam (next_record m kind))) (sym t)
      (subst (λ x. FitsOf (m.time + 1) x (grown_books o.seam (next_record m kind))) (sym c)
      (fits-taken m.time (length m.txns) o.seam.before b o.seam.after (next_record m kind)
      (subst (FitsOf m.time (length m.txns)) o.seam.whole v.fits) o.opened n s (λ l few. rw (time-fits m.time l, fit l few) refl)));
  subs = subs;
}

-- ---- splits

next-halves : (m : Machine) (bs : List AcceptedTablet) (id : ℕ) (b : AcceptedTablet) (o : OpenAt bs id b) (at : ℕ) → IsMachine m bs
    → FitsOf m.time (length m.txns) (o.seam.before ++ b ∷ o.seam.after) → b.header.lo < at → at ≤ b.header.hi
    → AreNext (heads (o.seam.before ++ b ∷ o.seam.after)) (length o.seam.before) b.header
    (child (length m.tablets) b.header.lo (at - 1) id).header
    (child (length m.tablets + 1) at b.header.hi id).header
next-halves m bs id b o at k f lo hi =
    let xs = o.seam.before in
    let ys = o.seam.after in
    let there : slice_get (heads (xs ++ b ∷ ys)) (length xs) ≡ Some b.header =
    ap (λ w. slice_get w (length xs)) (map-append (λ (w : AcceptedTablet). w.header) xs (b ∷ ys))
    ∙ get-seam (heads xs) b.header (heads ys) (length xs) (length-map xs (λ (w : AcceptedTablet). w.header)) in
    let number : b.header.id ≡ length xs = seam-id xs b ys (subst (Books m.time) o.seam.whole k.books).numbered in
    let said : OpenSaid (heads (xs ++ b ∷ ys)) b = each-here (OpenSaid (heads (xs ++ b ∷ ys))) xs b ys f.said in
    let none = none-of _ (sym said ∙ o.opened) in
    let count : length m.tablets ≡ length (heads (xs ++ b ∷ ys)) =
    length-books m bs k ∙ ap length o.seam.whole ∙ sym (length-map (xs ++ b ∷ ys) (λ (w : AcceptedTablet). w.header)) in
    record {
      there = there;
      free = f.paired (length xs) (subst (λ w. children (heads (xs ++ b ∷ ys)) w ≡ None) number none);
      left_id = count;
      right_id = ap (λ w. w + 1) count;
      left = ap Some (sym o.seam.number);
      right = ap Some (sym o.seam.number);
      lo = refl;
      hi = refl;
      middle = omega arith;
      left_range = omega arith;
      right_range = hi;
    }

split-valid : (m : Machine) (bs : List AcceptedTablet) (id at : ℕ) (b : AcceptedTablet) (o : OpenAt bs id b) → IsMachine m bs
    → b.header.lo < at → at ≤ b.header.hi → IsValidSource m bs → IsValidSource (split_after id at m b.header) (split_books m o.seam at)
split-valid m bs id at b o k lo hi v =
    let xs = o.seam.before in
    let ys = o.seam.after in
    let old = subst (FitsOf m.time (length m.txns)) o.seam.whole v.fits in
    let books = subst (Books m.time) o.seam.whole k.books in
    let l = (child (length m.tablets) b.header.lo (at - 1) id).header in
    let r = (child (length m.tablets + 1) at b.header.hi id).header in
    record {
      fits = fits-split m.time (length m.txns) xs b ys (split_record m at) l r old books.numbered o.opened refl (omega arith)
          (seam-id xs b ys books.numbered) (next-halves m bs id b o at k old lo hi)
          (λ lt. rw (
            time-fits m.time lt,
            eq-eqb at at refl,
            eq-eqb (length m.tablets) (length m.tablets) refl,
            eq-eqb (length m.tablets + 1) (length m.tablets + 1) refl,
          ) refl);
      subs = v.subs;
    }

-- ---- all moves

listed-valid : (time n : ℕ) (t : Transaction) (m : Machine) (bs : List AcceptedTablet) → IsValidSource m bs
    → IsValidSource (listed time n t m) bs
listed-valid time n t m bs v = record { fits = v.fits; subs = v.subs }

same-subs : (m : Machine) (bs : List AcceptedTablet) (n : ℕ) (t u : Transaction) → IsValidSource m bs → transaction m n ≡ Some t
    → u.undone ≡ t.undone → u.current ≡ t.current → HasSubs u
same-subs m bs n t u v e a c =
    let s = get-subs m bs n t v e in
    record { bits = s.bits; numbers = a ∙ s.numbers; current = let q = s.current in omega arith }

commit-valid : (m : Machine) (bs : List AcceptedTablet) (n : ℕ) (t : Transaction) → transaction m n ≡ Some t → IsValidSource m bs
    → IsValidSource (commit_after n m t) bs
commit-valid m bs n t e v =
    let u = record t { stage = Committed (m.time + 1) } in
    listed-valid (m.time + 1) n t (with_transaction n u (record m { time = m.time + 1 })) bs
    (with-txn (record m { time = m.time + 1 }) bs n u
    (record { fits = fits-later m.time (m.time + 1) (length m.txns) (length m.txns) bs (omega arith) (omega arith) v.fits; subs = v.subs })
    (same-subs m bs n t u v e refl refl))

apply-fits : (m : Machine) (bs : List AcceptedTablet) (n c : ℕ) (t : Transaction) (b : AcceptedTablet) (h : Header) → IsMachine m bs
    → MayApply m n t c b → IsValidSource m bs
    → m.time + 1 ≤ last_time → length m.txns < 2 ^ 32 → kind_fits h None (kind.Apply n c t.undone) ≡ true
apply-fits m bs n c t b h k a v l few =
    let commits = (get-txn m bs n t k a.there).commits c a.commit in
    let within : c ≤ m.time = commits.within in
    let positive : 1 ≤ c = commits.positive in
    let time : is_time c ≡ true = grind (arith, nat_tests) in
    let s = get-subs m bs n t v a.there in
    rw (txn-fits m n t a.there few, time, ap are_subs s.numbers ∙ well-formed s.bits) refl

safe-fits : (m : Machine) (b : AcceptedTablet) (h : Header) (v : ℕ) → MayBeSafe m b v → m.time + 1 ≤ last_time
    → kind_fits h None (kind.Safe v) ≡ true
safe-fits m b h v s l = let a = s.to in let c = s.positive in grind (arith, nat_tests)

pub valid-closed : Closed IsValidSource
valid-closed = record {
  clock = λ m bs u k l v. record { fits = fits-later m.time u (length m.txns) (length m.txns) bs l (omega arith) v.fits; subs = v.subs };
  begin = λ m bs k v. record {
    fits = fits-later m.time m.time (length m.txns) (length (m.txns ++ begun ∷ [])) bs (omega arith)
        (let e = length_push m.txns begun in omega arith) v.fits;
    subs = Each-append HasSubs m.txns (begun ∷ []) v.subs (begun-subs, tt);
  };
  savepoint = λ m bs n t k l few v.
      let s = get-subs m bs n t v l.there in
      with-txn m bs n (next_begun t) v (record { bits = s.bits; numbers = s.numbers; current = omega arith });
  roll_back = λ m bs n sub t k l is few v.
      with-txn m bs n (next_begun (undone_from sub t)) v (undone-subs sub t is few (get-subs m bs n t v l.there));
  write = λ m bs n op t id b o k l h f v.
      with-record m (logged id (kind.Intent t.current n (op ∷ [])) (with_transaction n (written op t) m)) bs id b o
      (kind.Intent t.current n (op ∷ [])) v refl
      (omega arith)
      (λ lt few. let sub : nat_le t.current 64 ≡ true = let q = (get-subs m bs n t v l.there).current in grind (arith, nat_tests) in
      rw (txn-fits m n t l.there few, sub, one-op b.header op h f) refl) refl (length-set m.txns (n - 1) (written op t))
      (each-set HasSubs m.txns (n - 1) (written op t) (same-subs m bs n t (written op t) v l.there refl refl) v.subs);
  put = λ m bs op id b o k h f v.
      with-record m (with_commit (m.time + 1) 0 (op ∷ []) (logged id (kind.Write (op ∷ [])) m)) bs id b o (kind.Write (op ∷ [])) v refl
      (omega arith)
      (λ lt few. one-op b.header op h f) refl refl v.subs;
  commit = λ m bs n t k l v. commit-valid m bs n t l.there v;
  abort = λ m bs n t k l v. with-txn m bs n (aborted t) v (same-subs m bs n t (aborted t) v l.there refl refl);
  abort_log = λ m bs n t id b o k e a v.
      with-record m (logged id (kind.Abort n) m) bs id b o (kind.Abort n) v refl (omega arith)
      (λ lt few. txn-fits m n t e few) refl refl v.subs;
  apply = λ m bs n c t id b o k a v.
      with-record m (logged id (kind.Apply n c t.undone) (with_transaction n (taken_on b.header t) m)) bs id b o
      (kind.Apply n c t.undone) v refl
      (omega arith) (λ lt few. apply-fits m bs n c t b b.header k a v lt few) refl (length-set m.txns (n - 1) (taken_on b.header t))
      (each-set HasSubs m.txns (n - 1) (taken_on b.header t) (same-subs m bs n t (taken_on b.header t) v a.there refl refl) v.subs);
  safe = λ m bs id w b o k s v.
      with-record m (logged id (kind.Safe w) m) bs id b o (kind.Safe w) v refl (omega arith)
      (λ lt few. safe-fits m b b.header w s lt) refl refl v.subs;
  split = λ m bs id at b o k lo hi v. split-valid m bs id at b o k lo hi v;
}
