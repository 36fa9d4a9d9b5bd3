-- Each move of a source keeps what makes its logs agree.
use Rattle.std.proofs.Common.{◌≡◌, ℕ, ◌+◌, ◌-◌, ◌<◌, true, false, Bool, List, [], ◌∷◌, ◌++◌, length, map, Some}
use Rattle.std.proofs.Common.{refl, ap, sym, ◌∙◌, subst, arith, inl, inr, ⊎_elim, ◌⊎◌}
use Rattle.std.specs.Prelude.{slice_set, if◌then◌else◌, ◌&&◌, bytes_eq, nat_le}
use Rattle.std.specs.List.{list_any}
use Rattle.std.proofs.lemmas.Bool.{and_parts}
use Rattle.std.proofs.lemmas.Bool.Decides.{nat_tests}
use Rattle.std.proofs.lemmas.Option.{same_Some}
use Rattle.std.proofs.lemmas.Slice.Eq.{bytes_eq-Decides}
use Rattle.xc_record.specs.declared.record.Header.{Header}
use Rattle.xc_record.specs.declared.record.Kind.TheVariants as kind
use Rattle.xc_record.specs.declared.record.Op.{Op}
use Rattle.xc_record.specs.Hash.{holds, hash_of}
use Rattle.xc_record.specs.Agreement.{straggles_at}
use Rattle.xc_record.specs.Accepted.{AcceptedTablet}
use Rattle.xc_record.proofs.ListLaws.{Each, Each-append}
use Rattle.xc_model.proofs.Parents.{each-get}
use Rattle.xc_source.specs.declared.transaction.Provisional.{Provisional}
use Rattle.xc_source.specs.declared.transaction.Stage.{Stage}
use Rattle.xc_source.specs.declared.transaction.Stage.TheVariants.{Live, Committed, Aborted}
use Rattle.xc_source.specs.Machine.{Machine, Transaction, with_transaction, begun, commit_of}
use Rattle.xc_source.specs.Waiting.{is_waiting, waits_on, taken_write, taken as taken_on}
use Rattle.xc_source.specs.Calls.{logged, written, with_commit, listed, commit_after, aborted, child, split_after, next_begun, undone_from}
use Rattle.xc_source_laws.proofs.Grow.{taken, born}
use Rattle.xc_source_laws.proofs.Base.{IsMachine, next_record, grown_books, transaction-at}
use Rattle.xc_source_laws.proofs.BaseSteps.{split_books, split_record, any-weaker}
use Rattle.xc_source_laws.proofs.Moves.{Closed, IsLive, OpenAt, MayApply, MayBeSafe}
use Rattle.xc_source_laws.proofs.Says.{txn_at, Says, later-same, later-set, later-begun, at-left, at-set-same, follows-stage, follows-live}
use Rattle.xc_source_laws.proofs.Says.{live-not}
use Rattle.xc_source_laws.proofs.Says.{live-aborted}
use Rattle.xc_source_laws.proofs.Paths.{path-halves, waits_in, waits-intent, waits-write, waits-safe, waits-split, waits-apply, waits-abort}
use Rattle.xc_source_laws.proofs.Agreeing.{AgreesSo, Waiter, flagged, key_path, agree-on, agree-logged, quiet, live-early}
use Rattle.xc_source_laws.proofs.Agreeing.{waiter-set}
use Rattle.xc_source_laws.proofs.Agreeing.{waiter-more}

abbrev Waits : List ℕ → Transaction → Type 0
Waits k t = (t.stage ≡ Aborted) ⊎ (flagged k t ≡ true)

-- ---- what waits of a transaction

any-push : {A : Type 0} (p : A → Bool) (xs : List A) (y : A) → list_any p xs ≡ true → list_any p (xs ++ y ∷ []) ≡ true
any-push p [] y e = cc
any-push p (x ∷ xs) y e = grind (arith, e, any-push p xs y)

any-last : {A : Type 0} (p : A → Bool) (xs : List A) (y : A) → p y ≡ true → list_any p (xs ++ y ∷ []) ≡ true
any-last p [] y e = grind (arith, e)
any-last p (x ∷ xs) y e = grind (arith, any-last p xs y e)

any-mapped : {A : Type 0} (p : A → Bool) (f : A → A) → ((x : A) → p x ≡ true → p (f x) ≡ true) → (xs : List A) → list_any p xs ≡ true
    → list_any p (map f xs) ≡ true
any-mapped p f g [] e = e
any-mapped p f g (x ∷ xs) e = grind (arith, e, g x, any-mapped p f g xs)

written-waits : (k : List ℕ) (op : Op) (t : Transaction) → Waits k t → Waits k (written op t)
written-waits k op t w =
    ⊎_elim (λ a. inl a)
    (λ f. inr (any-push (λ w. w.waits && bytes_eq k w.op.key) t.writes (record { sub = t.current; op = op; waits = true }) f)) w

-- what is of another key than the tablet's isn't taken there
not-taken : (k : List ℕ) (h : Header) (w : Provisional) → holds h (hash_of k) ≡ false → (w.waits && bytes_eq k w.op.key) ≡ true
    → ((taken_write h w).waits && bytes_eq k (taken_write h w).op.key) ≡ true
not-taken k h w n e =
    let p = and_parts w.waits (bytes_eq k w.op.key) e in
    let same : k ≡ w.op.key = (bytes_eq-Decides k w.op.key).0 p.1 in
    let out : holds h (hash_of w.op.key) ≡ false = subst (λ q. holds h (hash_of q) ≡ false) same n in
    subst (λ b. ((if b then record w { waits = false } else w).waits && bytes_eq k (if b then record w { waits = false } else w).op.key)
    ≡ true)
    (sym out) e

taken-waits : (k : List ℕ) (h : Header) (t : Transaction) → holds h (hash_of k) ≡ false → Waits k t → Waits k (taken_on h t)
taken-waits k h t n w =
    ⊎_elim (λ a. inl a)
    (λ f. inr (any-mapped (λ w. w.waits && bytes_eq k w.op.key) (taken_write h) (λ x q. not-taken k h x n q) t.writes f)) w

-- a write of a key that the tablet holds waits on it
flag-waits : (k : List ℕ) (h : Header) (t : Transaction) → holds h (hash_of k) ≡ true → flagged k t ≡ true → waits_on h t ≡ true
flag-waits k h t o f =
    any-weaker (λ w. w.waits && bytes_eq k w.op.key) (is_waiting h)
    (λ w e. let p = and_parts w.waits (bytes_eq k w.op.key) e in
    let same : k ≡ w.op.key = (bytes_eq-Decides k w.op.key).0 p.1 in
    let in_ : holds h (hash_of w.op.key) ≡ true = subst (λ q. holds h (hash_of q) ≡ true) same o in rw (p.0, in_) refl) t.writes f

pub aborted-not : (s : Stage) (c : ℕ) → s ≡ Aborted → commit_of s ≡ Some c → ⊥
aborted-not Live c a e = cc
aborted-not (Committed d) c a e = cc
aborted-not Aborted c a e = cc

-- what passes no commit of a transaction that waits
never-passes : (m : Machine) (bs : List AcceptedTablet) (b : AcceptedTablet) (v : ℕ) (k : List ℕ) (n c : ℕ) (u : Transaction)
    → MayBeSafe m b v → AgreesSo m bs → holds b.header (hash_of k) ≡ true → txn_at m.txns n ≡ Some u → commit_of u.stage ≡ Some c
    → (nat_le c v && waits_in n k (key_path k bs)) ≡ false
never-passes m bs b v k n c u s a h e f = go (waits_in n k (key_path k bs)) refl
  where
    below : waits_in n k (key_path k bs) ≡ true → v < c
    below w =
        let x = a.waits k n w in
        let same : x.t ≡ u = same_Some x.t u (sym x.there ∙ e) in
        ⊎_elim (λ z. absurd (aborted-not u.stage c (subst (λ (y : Transaction). y.stage ≡ Aborted) same z) f))
        (λ z. each-get (λ t. (c : ℕ) → commit_of t.stage ≡ Some c → waits_on b.header t ≡ true → v < c) m.txns (n - 1) u s.below
        (transaction-at m n u e).1 c f (flag-waits k b.header u h (subst (λ y. flagged k y ≡ true) same z))) x.waits

    go : (w : Bool) → waits_in n k (key_path k bs) ≡ w → (nat_le c v && w) ≡ false
    go true q = let l : v < c = below q in grind (arith, nat_tests)
    go false q = and-false (nat_le c v)
      where
        and-false : (b : Bool) → (b && false) ≡ false
        and-false true = refl
        and-false false = refl

-- ---- moves

txn-moves : (m : Machine) (bs : List AcceptedTablet) (n : ℕ) (t u : Transaction) → IsLive m n t → (is_same : u.stage ≡ t.stage)
    → u.writes ≡ t.writes → AgreesSo m bs → AgreesSo (with_transaction n u m) bs
txn-moves m bs n t u l s w a =
    agree-on m.time m.time m.txns (slice_set m.txns (n - 1) u) bs (omega arith)
    (later-set m.time m.txns n t u l.there (follows-live m.time t u l.live
    (λ c e. live-early m.time c t l.live (sym (ap commit_of s) ∙ e))))
    (λ k i. waiter-more m.txns n t u k i l.there
    (λ q. ⊎_elim (λ z. inl (s ∙ z)) (λ z. inr (ap (list_any (λ w. w.waits && bytes_eq k w.op.key)) w ∙ z)) q)) a

listed-agrees : (time n : ℕ) (t : Transaction) (m : Machine) (bs : List AcceptedTablet) → AgreesSo m bs → AgreesSo (listed time n t m) bs
listed-agrees time n t m bs a = a

commit-agrees : (m : Machine) (bs : List AcceptedTablet) (n : ℕ) (t : Transaction) → IsLive m n t → AgreesSo m bs
    → AgreesSo (commit_after n m t) bs
commit-agrees m bs n t l a =
    let u = record t { stage = Committed (m.time + 1) } in
    listed-agrees (m.time + 1) n t (with_transaction n u (record m { time = m.time + 1 })) bs
    (agree-on m.time (m.time + 1) m.txns (slice_set m.txns (n - 1) u) bs (omega arith)
    (later-set m.time m.txns n t u l.there
    (follows-live m.time t u l.live (λ c e. let same : m.time + 1 ≡ c = same_Some (m.time + 1) c e in omega arith)))
    (λ k i. waiter-more m.txns n t u k i l.there
    (λ q. ⊎_elim (λ z. absurd (live-aborted t.stage l.live z)) (λ z. inr z) q)) a)

abort-agrees : (m : Machine) (bs : List AcceptedTablet) (n : ℕ) (t : Transaction) → IsLive m n t → AgreesSo m bs
    → AgreesSo (with_transaction n (aborted t) m) bs
abort-agrees m bs n t l a =
    agree-on m.time m.time m.txns (slice_set m.txns (n - 1) (aborted t)) bs (omega arith)
    (later-set m.time m.txns n t (aborted t) l.there (follows-live m.time t (aborted t) l.live (λ c e. cc)))
    (λ k i. waiter-more m.txns n t (aborted t) k i l.there (λ q. inl refl)) a

write-agrees : (m : Machine) (bs : List AcceptedTablet) (n : ℕ) (op : Op) (t : Transaction) (id : ℕ) (b : AcceptedTablet)
    (o : OpenAt bs id b)
    → IsMachine m bs → IsLive m n t → AgreesSo m bs
    → AgreesSo (logged id (kind.Intent t.current n (op ∷ [])) (with_transaction n (written op t) m))
    (grown_books o.seam (next_record m (kind.Intent t.current n (op ∷ []))))
write-agrees m bs n op t id b o k l a =
    let r = next_record m (kind.Intent t.current n (op ∷ [])) in
    let ys = slice_set m.txns (n - 1) (written op t) in
    let same = at-set-same m.txns n t (written op t) l.there in
    let old : (k : List ℕ) (i : ℕ) → waits_in i k (key_path k bs) ≡ true → Waiter ys i k =
    λ k i e. waiter-more m.txns n t (written op t) k i l.there (written-waits k op t) (a.waits k i e) in
    agree-logged m (logged id (kind.Intent t.current n (op ∷ [])) (with_transaction n (written op t) m)) bs id b o r k
    (later-set m.time m.txns n t (written op t) l.there (follows-stage m.time t (written op t) refl refl))
    (record {
      says = record {
        past = omega arith;
        kind = record { t = written op t; there = same; before = λ c e. absurd (live-not t.stage c l.live e) };
      };
      waits = λ k i h e. ⊎_elim (λ q. old k i q)
          (λ q. record {
            t = written op t;
            there = subst (λ j. txn_at ys j ≡ Some (written op t)) q.0 same;
            waits = inr (any-last (λ w. w.waits && bytes_eq k w.op.key) t.writes (record { sub = t.current; op = op; waits = true })
                (rw q.1 refl));
          })
          (waits-intent i n t.current (m.time + 1) op k (key_path k bs) e);
      others = λ k i h e. old k i e;
      passing = λ k i c u h e f. quiet c r (waits_in i k (key_path k bs)) refl;
    }) a

apply-agrees : (m : Machine) (bs : List AcceptedTablet) (n c : ℕ) (t : Transaction) (id : ℕ) (b : AcceptedTablet) (o : OpenAt bs id b)
    → IsMachine m bs → MayApply m n t c b → AgreesSo m bs
    → AgreesSo (logged id (kind.Apply n c t.undone) (with_transaction n (taken_on b.header t) m))
    (grown_books o.seam (next_record m (kind.Apply n c t.undone)))
apply-agrees m bs n c t id b o k l a =
    let r = next_record m (kind.Apply n c t.undone) in
    let u = taken_on b.header t in
    agree-logged m (logged id (kind.Apply n c t.undone) (with_transaction n u m)) bs id b o r k
    (later-set m.time m.txns n t u l.there (follows-stage m.time t u refl refl))
    (record {
      says = record {
        past = omega arith;
        kind = record { t = u; there = at-set-same m.txns n t u l.there; commit = l.commit; undone = refl };
      };
      waits = λ k i h e. let q = waits-apply i n c (m.time + 1) t.undone k (key_path k bs) e in
          waiter-set m.txns n t u k i l.there (λ w s. absurd (q.0 s)) (a.waits k i q.1);
      others = λ k i h e. waiter-more m.txns n t u k i l.there (taken-waits k b.header t h) (a.waits k i e);
      passing = λ k i c u h e f. quiet c r (waits_in i k (key_path k bs)) refl;
    }) a

split-agrees : (m : Machine) (bs : List AcceptedTablet) (id at : ℕ) (b : AcceptedTablet) (o : OpenAt bs id b) → IsMachine m bs
    → AgreesSo m bs
    → AgreesSo (split_after id at m b.header) (split_books m o.seam at)
split-agrees m bs id at b o k a =
    let r = split_record m at in
    let c = taken b r in
    let ws = grown_books o.seam r in
    let left = born c (child (length m.tablets) b.header.lo (at - 1) id).header in
    let right = born c (child (length m.tablets + 1) at b.header.hi id).header in
    let grown = agree-logged m (logged id r.kind m) bs id b o r k (later-same m.time m.txns)
    (record {
      says = record { past = omega arith; kind = tt };
      waits = λ k i h e. a.waits k i
          (sym (waits-split i (m.time + 1) at (length m.tablets) (length m.tablets + 1) k (key_path k bs)) ∙ e);
      others = λ k i h e. a.waits k i e;
      passing = λ k i c u h e f. quiet c r (waits_in i k (key_path k bs)) refl;
    }) a in
    record {
      says = Each-append (λ b. Each (Says (m.time + 1) m.txns) b.records) (ws ++ left ∷ []) (right ∷ [])
          (Each-append (λ b. Each (Says (m.time + 1) m.txns) b.records) ws (left ∷ []) grown.says (tt, tt)) (tt, tt);
      waits = λ k i e. grown.waits k i (subst (λ w. waits_in i k w ≡ true) (path-halves (hash_of k) ws c left right refl refl) e);
      free = λ k i d u e f. subst (λ w. straggles_at i d k [] w ≡ false) (sym (path-halves (hash_of k) ws c left right refl refl))
          (grown.free k i d u e f);
    }

pub agree-closed : Closed AgreesSo
agree-closed = record {
  clock = λ m bs u k l a. agree-on m.time u m.txns m.txns bs l (later-same m.time m.txns) (λ k n w. w) a;
  begin = λ m bs k a. agree-on m.time m.time m.txns (m.txns ++ begun ∷ []) bs (omega arith) (later-begun m.time m.txns)
      (λ k n w. record { t = w.t; there = at-left m.txns n w.t w.there; waits = w.waits }) a;
  savepoint = λ m bs n t k l few a. txn-moves m bs n t (next_begun t) l refl refl a;
  roll_back = λ m bs n sub t k l is few a. txn-moves m bs n t (next_begun (undone_from sub t)) l refl refl a;
  write = λ m bs n op t id b o k l h f a. write-agrees m bs n op t id b o k l a;
  put = λ m bs op id b o k h f a.
      agree-logged m (with_commit (m.time + 1) 0 (op ∷ []) (logged id (kind.Write (op ∷ [])) m)) bs id b o
      (next_record m (kind.Write (op ∷ []))) k
      (later-same m.time m.txns)
      (record {
        says = record { past = omega arith; kind = tt };
        waits = λ k i h e. a.waits k i (sym (waits-write i (m.time + 1) op k (key_path k bs)) ∙ e);
        others = λ k i h e. a.waits k i e;
        passing = λ k i c u h e f. quiet c (next_record m (kind.Write (op ∷ []))) (waits_in i k (key_path k bs)) refl;
      }) a;
  commit = λ m bs n t k l a. commit-agrees m bs n t l a;
  abort = λ m bs n t k l a. abort-agrees m bs n t l a;
  abort_log = λ m bs n t id b o k e q a.
      agree-logged m (logged id (kind.Abort n) m) bs id b o (next_record m (kind.Abort n)) k (later-same m.time m.txns)
      (record {
        says = record { past = omega arith; kind = record { t = t; there = e; aborted = q } };
        waits = λ k i h w. a.waits k i (waits-abort i n (m.time + 1) k (key_path k bs) w).1;
        others = λ k i h e. a.waits k i e;
        passing = λ k i c u h e f. quiet c (next_record m (kind.Abort n)) (waits_in i k (key_path k bs)) refl;
      }) a;
  apply = λ m bs n c t id b o k l a. apply-agrees m bs n c t id b o k l a;
  safe = λ m bs id v b o k s a.
      agree-logged m (logged id (kind.Safe v) m) bs id b o (next_record m (kind.Safe v)) k (later-same m.time m.txns)
      (record {
        says = record { past = omega arith; kind = s.to };
        waits = λ k i h e. a.waits k i (sym (waits-safe i (m.time + 1) v k (key_path k bs)) ∙ e);
        others = λ k i h e. a.waits k i e;
        passing = λ k i c u h e f. never-passes m bs b v k i c u s a h e f;
      }) a;
  split = λ m bs id at b o k lo hi a. split-agrees m bs id at b o k a;
}
