-- How all that is kept beside the transactions follows what is done to one: the keys, the list of those that wait, and the cursors.
use Rattle.std.proofs.Common.{◌≡◌, ◌≢◌, ℕ, zero, suc, ◌+◌, ◌-◌, ◌<◌, Bool, true, false, ◌&&◌, List, [], ◌∷◌, ◌++◌, length}
use Rattle.std.proofs.Common.{Option, Some, None, refl, ap, sym, ◌∙◌, subst, arith, ⊎_elim, length-set, length-append}
use Rattle.std.proofs.Common.{is_some, ◌^◌, inl, inr, ◌⊎◌}
use Rattle.std.specs.Prelude.{slice_get, slice_set, if◌then◌else◌, ◌==◌}
use Rattle.std.specs.List.{list_any}
use Rattle.std.proofs.lemmas.Bool.{cases_eq, eq-eqb, ne_eqb, true≢false, or_left, or_right}
use Rattle.std.proofs.lemmas.Bool.{eqb-true, or_cases}
use Rattle.std.proofs.lemmas.Option.{none-some, same_Some}
use Rattle.std.specs.Cmp.Lexicographic.{slice_cmp}
use Rattle.std.specs.Ordering.{nat_cmp, is_eq}
use Rattle.xc_source.specs.declared.transaction.Provisional.{Provisional}
use Rattle.xc_record.specs.declared.record.Op.{Op}
use Rattle.xc_source.specs.Machine.{Transaction, begun, is_live, commit_of}
use Rattle.xc_source.specs.declared.transaction.Stage.{Stage}
use Rattle.xc_source.specs.declared.transaction.Stage.TheVariants.{Live, Committed, Aborted}
use Rattle.xc_source.specs.Waiting.{has_write, taken, taken_write, waits_on, commit_on, is_waiting}
use Rattle.xc_source.specs.Calls.{written, aborted, committed}
use Rattle.xc_source.specs.Holders.{numbered, changed, awaits, is_holder, AreHolders}
use Rattle.xc_source.specs.declared.cursor.Cursor.{Cursor}
use Rattle.xc_source.specs.Holders.{commit_at, some_waits, AreWaiting, AreTransactions, IsEarliest, AreCursors}
use Rattle.xc_record.specs.declared.record.Header.{Header}
use Rattle.xc_record.specs.Hash.{holds, hash_of}
use Rattle.std.proofs.Common.{map}
use Rattle.xc_source.proofs.NumberedLaws.{numbered-same, numbered-other, set-changed}
use Rattle.xc_source.proofs.HolderLaws.{holders-kept, holders-more, holders-less, holders-begun, write-held, live-held}
use Rattle.xc_source.proofs.HolderLaws.{same-key, bytes-same, ended-holds-none}

-- ---- the committed transactions of which something waits

commit-same : (f : Transaction → Transaction) (n : ℕ) (ts : List Transaction) (t : Transaction) → numbered ts n ≡ Some t
    → commit_at (numbered (changed f n ts) n) ≡ commit_of (f t).stage
commit-same f n ts t e = ap commit_at (numbered-same f n ts t e)

commit-other : (f : Transaction → Transaction) (n k : ℕ) (ts : List Transaction) (t : Transaction) → numbered ts n ≡ Some t → k ≢ n
    → commit_at (numbered (changed f n ts) k) ≡ commit_at (numbered ts k)
commit-other f n k ts t e d = ap commit_at (numbered-other f n k ts t e d)

-- a change after which nothing waits that didn't before, and which commits nothing
pub waiting-kept : (w : ℕ → Option ℕ) (f : Transaction → Transaction) (n : ℕ) (ts : List Transaction) (t : Transaction)
    → numbered ts n ≡ Some t → commit_of (f t).stage ≡ commit_of t.stage
    → ((c : ℕ) → commit_of t.stage ≡ Some c → some_waits (f t) ≡ true → some_waits t ≡ true)
    → AreWaiting w ts → AreWaiting w (changed f n ts)
waiting-kept w f n ts t e s l h = record {
  sound = λ c k q. ⊎_elim
      (λ z. subst (λ j. commit_at (numbered (changed f n ts) j) ≡ Some c) (sym z)
      (commit-same f n ts t e ∙ s ∙ ap commit_at (sym e) ∙ h.sound c n (q ∙ ap (λ j. Some j) z)))
      (λ d. commit-other f n k ts t e d ∙ h.sound c k q) (cases_eq k n);
  full = λ k c u m q a. ⊎_elim
      (λ z. let mine : f t ≡ u = same_Some (f t) u (sym (numbered-same f n ts t e) ∙ ap (numbered (changed f n ts)) (sym z) ∙ m) in
      let old : commit_of t.stage ≡ Some c = sym s ∙ ap (λ (x : Transaction). commit_of x.stage) mine ∙ q in
      h.full n c t e old (l c old (ap some_waits mine ∙ a)) ∙ ap (λ j. Some j) (sym z))
      (λ d. h.full k c u (sym (numbered-other f n k ts t e d) ∙ m) q a) (cases_eq k n);
}

-- the transaction commits later than every other one
pub waiting-more : (w w' : ℕ → Option ℕ) (f : Transaction → Transaction) (n commit : ℕ) (ts : List Transaction) (t : Transaction)
    → numbered ts n ≡ Some t → commit_of t.stage ≡ None → commit_of (f t).stage ≡ Some commit
    → ((k c : ℕ) → commit_at (numbered ts k) ≡ Some c → c < commit)
    → ((c : ℕ) → w' c ≡ (if c == commit then Some n else w c)) → AreWaiting w ts → AreWaiting w' (changed f n ts)
waiting-more w w' f n commit ts t e none some past is h = record {
  sound = λ c k q. sound c k (c == commit) refl (sym (is c) ∙ q);
  full = λ k c u m q a. is c ∙ full k c u m q a;
}
  where
    sound : (c k : ℕ) (b : Bool) → (c == commit) ≡ b → (if b then Some n else w c) ≡ Some k
        → commit_at (numbered (changed f n ts) k) ≡ Some c
    sound c k true z q =
        subst (λ j. commit_at (numbered (changed f n ts) j) ≡ Some c) (same_Some n k q)
        (commit-same f n ts t e ∙ some ∙ ap (λ j. Some j) (sym (eqb-true c commit z)))
    sound c k false z q = ⊎_elim
        (λ y. absurd (none-some c (sym none ∙ ap commit_at (sym e) ∙ h.sound c n (q ∙ ap (λ j. Some j) y))))
        (λ d. commit-other f n k ts t e d ∙ h.sound c k q) (cases_eq k n)

    full : (k c : ℕ) (u : Transaction) → numbered (changed f n ts) k ≡ Some u → commit_of u.stage ≡ Some c → some_waits u ≡ true
        → (if c == commit then Some n else w c) ≡ Some k
    full k c u m q a = ⊎_elim
        (λ z. let mine : f t ≡ u = same_Some (f t) u (sym (numbered-same f n ts t e) ∙ ap (numbered (changed f n ts)) (sym z) ∙ m) in
        let at : commit ≡ c = same_Some commit c (sym some ∙ ap (λ (x : Transaction). commit_of x.stage) mine ∙ q) in
        ap (λ b. if b then Some n else w c) (eq-eqb c commit (sym at)) ∙ ap (λ j. Some j) (sym z))
        (λ d. let old : numbered ts k ≡ Some u = sym (numbered-other f n k ts t e d) ∙ m in
        let before : c < commit = past k c (ap commit_at old ∙ q) in
        ap (λ b. if b then Some n else w c) (ne_eqb c commit (λ z. let y : ⊥ = omega arith in y)) ∙ h.full k c u old q a)
        (cases_eq k n)

-- a transaction of which nothing waits is not taken in as it commits
pub waiting-idle : (w : ℕ → Option ℕ) (f : Transaction → Transaction) (n : ℕ) (ts : List Transaction) (t : Transaction)
    → numbered ts n ≡ Some t → commit_of t.stage ≡ None → some_waits (f t) ≡ false → AreWaiting w ts → AreWaiting w (changed f n ts)
waiting-idle w f n ts t e none idle h = record {
  sound = λ c k q. ⊎_elim
      (λ y. absurd (none-some c (sym none ∙ ap commit_at (sym e) ∙ h.sound c n (q ∙ ap (λ j. Some j) y))))
      (λ d. commit-other f n k ts t e d ∙ h.sound c k q) (cases_eq k n);
  full = λ k c u m q a. ⊎_elim
      (λ z. let mine : f t ≡ u = same_Some (f t) u (sym (numbered-same f n ts t e) ∙ ap (numbered (changed f n ts)) (sym z) ∙ m) in
      absurd (true≢false (sym a ∙ ap some_waits (sym mine) ∙ idle)))
      (λ d. h.full k c u (sym (numbered-other f n k ts t e d) ∙ m) q a) (cases_eq k n);
}

-- a transaction of which nothing waits any more may be taken out
pub waiting-less : (w w' : ℕ → Option ℕ) (f : Transaction → Transaction) (n : ℕ) (ts : List Transaction) (t : Transaction)
    → numbered ts n ≡ Some t → commit_of (f t).stage ≡ commit_of t.stage → (some_waits (f t) ≡ true → some_waits t ≡ true)
    → ((c k : ℕ) → w c ≡ Some k → (k ≢ n) ⊎ (some_waits (f t) ≡ true) → w' c ≡ Some k) → ((c k : ℕ) → w' c ≡ Some k → w c ≡ Some k)
    → AreWaiting w ts → AreWaiting w' (changed f n ts)
waiting-less w w' f n ts t e s l kept less h = record {
  sound = λ c k q. ⊎_elim
      (λ z. subst (λ j. commit_at (numbered (changed f n ts) j) ≡ Some c) (sym z)
      (commit-same f n ts t e ∙ s ∙ ap commit_at (sym e) ∙ h.sound c n (less c k q ∙ ap (λ j. Some j) z)))
      (λ d. commit-other f n k ts t e d ∙ h.sound c k (less c k q)) (cases_eq k n);
  full = λ k c u m q a. ⊎_elim
      (λ z. let mine : f t ≡ u = same_Some (f t) u (sym (numbered-same f n ts t e) ∙ ap (numbered (changed f n ts)) (sym z) ∙ m) in
      let still : some_waits (f t) ≡ true = ap some_waits mine ∙ a in
      kept c k (h.full n c t e (sym s ∙ ap (λ (x : Transaction). commit_of x.stage) mine ∙ q) (l still) ∙ ap (λ j. Some j) (sym z))
      (inr still))
      (λ d. kept c k (h.full k c u (sym (numbered-other f n k ts t e d) ∙ m) q a) (inl d)) (cases_eq k n);
}

waiting-same : (w w' : ℕ → Option ℕ) (ts : List Transaction) → ((c : ℕ) → w' c ≡ w c) → AreWaiting w ts → AreWaiting w' ts
waiting-same w w' ts e h = record {
  sound = λ c n q. h.sound c n (sym (e c) ∙ q);
  full = λ n c t m q a. e c ∙ h.full n c t m q a;
}

pub commit-begun : (ts : List Transaction) (n : ℕ) → commit_at (numbered (ts ++ begun ∷ []) n) ≡ commit_at (numbered ts n)
commit-begun ts n = go (n == 0)
  where
    at : (ts : List Transaction) (i : ℕ) → commit_at (slice_get (ts ++ begun ∷ []) i) ≡ commit_at (slice_get ts i)
    at [] zero = refl
    at [] (suc i) = refl
    at (t ∷ ts) zero = refl
    at (t ∷ ts) (suc i) = at ts i

    go : (b : Bool) → commit_at (if b then None else slice_get (ts ++ begun ∷ []) (n - 1))
        ≡ commit_at (if b then None else slice_get ts (n - 1))
    go true = refl
    go false = at ts (n - 1)

begun-either : (ts : List Transaction) (n : ℕ) (t : Transaction) → numbered (ts ++ begun ∷ []) n ≡ Some t
    → (numbered ts n ≡ Some t) ⊎ (begun ≡ t)
begun-either ts n t e = go (n == 0) e
  where
    got : (ts : List Transaction) (i : ℕ) (t : Transaction) → slice_get (ts ++ begun ∷ []) i ≡ Some t
        → (slice_get ts i ≡ Some t) ⊎ (begun ≡ t)
    got [] zero t e = inr (same_Some begun t e)
    got [] (suc i) t e = absurd (none-some t e)
    got (u ∷ ts) zero t e = inl e
    got (u ∷ ts) (suc i) t e = got ts i t e

    go : (b : Bool) → (if b then None else slice_get (ts ++ begun ∷ []) (n - 1)) ≡ Some t
        → ((if b then None else slice_get ts (n - 1)) ≡ Some t) ⊎ (begun ≡ t)
    go true e = inl e
    go false e = got ts (n - 1) t e

pub waiting-begun : (w : ℕ → Option ℕ) (ts : List Transaction) → AreWaiting w ts → AreWaiting w (ts ++ begun ∷ [])
waiting-begun w ts h = record {
  sound = λ c n e. commit-begun ts n ∙ h.sound c n e;
  full = λ n c t e q a. ⊎_elim (λ old. h.full n c t old q a)
      (λ new. absurd (none-some c (ap (λ (x : Transaction). commit_of x.stage) new ∙ q)))
      (begun-either ts n t e);
}

-- ---- where to look on

-- where each time to look on from stays one, the cursors do
cursors-from : (k : ℕ → Option Cursor) (ts us : List Transaction)
    → ((header : Header) (earliest : ℕ) → IsEarliest header earliest ts → IsEarliest header earliest us)
    → AreCursors k ts → AreCursors k us
cursors-from k ts us from h = λ header cursor e q. from header cursor.earliest (h header cursor e q)

-- a change after which nothing that is committed waits that didn't before, and which commits nothing
cursors-kept : (k : ℕ → Option Cursor) (f : Transaction → Transaction) (n : ℕ) (ts : List Transaction) (t : Transaction)
    → numbered ts n ≡ Some t → commit_of (f t).stage ≡ commit_of t.stage
    → ((header : Header) (c : ℕ) → commit_on header (f t) ≡ Some c → commit_on header t ≡ Some c)
    → AreCursors k ts → AreCursors k (changed f n ts)
cursors-kept k f n ts t e s l h = cursors-from k ts (changed f n ts) (λ header earliest h. record {
  least = λ j c u m q. ⊎_elim
      (λ z. let mine : f t ≡ u = same_Some (f t) u (sym (numbered-same f n ts t e) ∙ ap (numbered (changed f n ts)) (sym z) ∙ m) in
      h.least n c t e (l header c (ap (commit_on header) mine ∙ q)))
      (λ d. h.least j c u (sym (numbered-other f n j ts t e d) ∙ m) q) (cases_eq j n);
  most = λ x p. h.most x (λ j c q. p j c (⊎_elim
      (λ z. subst (λ i. commit_at (numbered (changed f n ts) i) ≡ Some c) (sym z)
      (commit-same f n ts t e ∙ s ∙ ap commit_at (sym e) ∙ ap (λ i. commit_at (numbered ts i)) (sym z) ∙ q))
      (λ d. commit-other f n j ts t e d ∙ q) (cases_eq j n)));
}) h

-- the transaction commits later than every other one
cursors-more : (k : ℕ → Option Cursor) (f : Transaction → Transaction) (n commit : ℕ) (ts : List Transaction) (t : Transaction)
    → numbered ts n ≡ Some t → commit_of t.stage ≡ None → commit_of (f t).stage ≡ Some commit
    → ((k c : ℕ) → commit_at (numbered ts k) ≡ Some c → c < commit) → AreCursors k ts → AreCursors k (changed f n ts)
cursors-more k f n commit ts t e none some past h = cursors-from k ts (changed f n ts) (λ header earliest h. record {
  least = λ j c u m q. ⊎_elim
      (λ z. let mine : f t ≡ u = same_Some (f t) u (sym (numbered-same f n ts t e) ∙ ap (numbered (changed f n ts)) (sym z) ∙ m) in
      let at : commit ≡ c = same_Some commit c (sym some ∙ ap (λ (x : Transaction). commit_of x.stage) mine
      ∙ on-commit header u c q) in
      let l = h.most commit past in omega (arith, at, l))
      (λ d. h.least j c u (sym (numbered-other f n j ts t e d) ∙ m) q) (cases_eq j n);
  most = λ x p. h.most x (λ j c q. p j c (⊎_elim
      (λ z. absurd (none-some c (sym none ∙ ap commit_at (sym e) ∙ ap (λ i. commit_at (numbered ts i)) (sym z) ∙ q)))
      (λ d. commit-other f n j ts t e d ∙ q) (cases_eq j n)));
}) h
  where
    on-commit : (header : Header) (u : Transaction) (c : ℕ) → commit_on header u ≡ Some c → commit_of u.stage ≡ Some c
    on-commit header u c q = go (waits_on header u) q
      where
        go : (b : Bool) → (if b then commit_of u.stage else None) ≡ Some c → commit_of u.stage ≡ Some c
        go true q = q
        go false q = absurd (none-some c q)

cursors-begun : (k : ℕ → Option Cursor) (ts : List Transaction) → AreCursors k ts → AreCursors k (ts ++ begun ∷ [])
cursors-begun k ts h = cursors-from k ts (ts ++ begun ∷ []) (λ header earliest h. record {
  least = λ n c t e q. ⊎_elim (λ old. h.least n c t old q)
      (λ new. absurd (none-some c (ap (commit_on header) new ∙ q))) (begun-either ts n t e);
  most = λ x p. h.most x (λ n c q. p n c (commit-begun ts n ∙ q));
}) h

-- ---- the list as a method leaves it

book-set : (g : List ℕ → Option ℕ) (w : ℕ → Option ℕ) (k : ℕ → Option Cursor) (f : Transaction → Transaction) (n : ℕ)
    (ts : List Transaction) (t u : Transaction)
    → numbered ts n ≡ Some t → u ≡ f t → length ts < 2 ^ 32 → AreHolders g (changed f n ts) → AreWaiting w (changed f n ts)
    → AreCursors k (changed f n ts) → AreTransactions g w k (slice_set ts (n - 1) u)
book-set g w k f n ts t u e is few h a b =
    let same : length (slice_set ts (n - 1) u) ≡ length ts = length-set ts (n - 1) u in record {
      few = omega arith;
      holders = subst (AreHolders g) (sym (set-changed f n ts ts t u refl e is)) h;
      waiting = subst (AreWaiting w) (sym (set-changed f n ts ts t u refl e is)) a;
      cursors = subst (AreCursors k) (sym (set-changed f n ts ts t u refl e is)) b;
    }

pub book-kept : (g : List ℕ → Option ℕ) (w : ℕ → Option ℕ) (k : ℕ → Option Cursor) (f : Transaction → Transaction) (n : ℕ)
    (ts : List Transaction) (t u : Transaction) → numbered ts n ≡ Some t → u ≡ f t
    → ((key : List ℕ) → has_write key (f t) ≡ has_write key t)
    → commit_of (f t).stage ≡ commit_of t.stage
    → ((c : ℕ) → commit_of t.stage ≡ Some c → some_waits (f t) ≡ true → some_waits t ≡ true)
    → ((header : Header) (c : ℕ) → commit_on header (f t) ≡ Some c → commit_on header t ≡ Some c)
    → AreTransactions g w k ts → AreTransactions g w k (slice_set ts (n - 1) u)
book-kept g w k f n ts t u e is s c l o h =
    book-set g w k f n ts t u e is h.few (holders-kept g f n ts t e s h.holders) (waiting-kept w f n ts t e c l h.waiting)
    (cursors-kept k f n ts t e c o h.cursors)

-- what is not committed has no commit on a tablet
uncommitted-on : (header : Header) (t : Transaction) (c : ℕ) → commit_of t.stage ≡ None → commit_on header t ≡ Some c → ⊥
uncommitted-on header t c none e = go (waits_on header t) e
  where
    go : (b : Bool) → (if b then commit_of t.stage else None) ≡ Some c → ⊥
    go true e = none-some c (sym none ∙ e)
    go false e = none-some c e

live-uncommitted : (t : Transaction) → is_live t.stage ≡ true → commit_of t.stage ≡ None
live-uncommitted t live = go t.stage live
  where
    go : (s : Stage) → is_live s ≡ true → commit_of s ≡ None
    go Live e = refl
    go (Committed c) e = absurd (true≢false (sym e))
    go Aborted e = refl

pub book-wrote : (g g' : List ℕ → Option ℕ) (w : ℕ → Option ℕ) (k : ℕ → Option Cursor) (op : Op) (n : ℕ) (ts : List Transaction)
    (t u : Transaction)
    → numbered ts n ≡ Some t → u ≡ written op t → is_live t.stage ≡ true → ((k : ℕ) → is_holder ts op.key k ≡ true → k ≡ n)
    → ((q : List ℕ) → g' q ≡ (if is_eq (slice_cmp nat_cmp op.key q) then Some n else g q)) → AreTransactions g w k ts
    → AreTransactions g' w k (slice_set ts (n - 1) u)
book-wrote g g' w k op n ts t u e is live free more h =
    book-set g' w k (written op) n ts t u e is h.few
    (holders-more g g' (written op) n ts t op.key e (λ k q. free k (h.holders.sound op.key k q)) (λ q. write-held op t q live)
    (λ q. bytes-same q op.key)
    (λ q. more q ∙ ap (λ b. if b then Some n else g q) (same-key op.key q)) h.holders)
    (waiting-kept w (written op) n ts t e refl (λ c q a. absurd (none-some c (sym (live-uncommitted t live) ∙ q))) h.waiting)
    (cursors-kept k (written op) n ts t e refl
    (λ header c q. absurd (uncommitted-on header (written op t) c (live-uncommitted t live) q)) h.cursors)

free-holders : (g g' : List ℕ → Option ℕ) (f : Transaction → Transaction) (n : ℕ) (ts : List Transaction) (t : Transaction)
    → numbered ts n ≡ Some t → is_live t.stage ≡ true → ((q : List ℕ) → has_write q (f t) ≡ false)
    → ((q : List ℕ) → g' q ≡ (if awaits q t then None else g q)) → AreHolders g ts → AreHolders g' (changed f n ts)
free-holders g g' f n ts t e live none less h =
    holders-less g g' f n ts t e none (λ q. less q ∙ ap (λ b. if b then None else g q) (sym (live-held t q live))) h

pub book-aborted : (g g' : List ℕ → Option ℕ) (w : ℕ → Option ℕ) (k : ℕ → Option Cursor) (n : ℕ) (ts : List Transaction) (t u : Transaction)
    → numbered ts n ≡ Some t → u ≡ aborted t → is_live t.stage ≡ true
    → ((q : List ℕ) → g' q ≡ (if awaits q t then None else g q)) → AreTransactions g w k ts
    → AreTransactions g' w k (slice_set ts (n - 1) u)
book-aborted g g' w k n ts t u e is live less h =
    book-set g' w k aborted n ts t u e is h.few (free-holders g g' aborted n ts t e live (λ q. refl) less h.holders)
    (waiting-kept w aborted n ts t e (sym (live-uncommitted t live))
    (λ c q a. absurd (none-some c (sym (live-uncommitted t live) ∙ q))) h.waiting)
    (cursors-kept k aborted n ts t e (sym (live-uncommitted t live))
    (λ header c q. absurd (uncommitted-on header (aborted t) c refl q)) h.cursors)

pub book-committed : (g g' : List ℕ → Option ℕ) (w w' : ℕ → Option ℕ) (k : ℕ → Option Cursor) (commit n : ℕ) (ts : List Transaction)
    (t u : Transaction)
    → numbered ts n ≡ Some t → u ≡ committed commit t → is_live t.stage ≡ true
    → ((k c : ℕ) → commit_at (numbered ts k) ≡ Some c → c < commit)
    → ((q : List ℕ) → g' q ≡ (if awaits q t then None else g q))
    → ((c : ℕ) → w' c ≡ (if some_waits t && c == commit then Some n else w c)) → AreTransactions g w k ts
    → AreTransactions g' w' k (slice_set ts (n - 1) u)
book-committed g g' w w' k commit n ts t u e is live past less more h =
    book-set g' w' k (committed commit) n ts t u e is h.few (free-holders g g' (committed commit) n ts t e live (λ q. refl) less h.holders)
    (go (some_waits t) refl more)
    (cursors-more k (committed commit) n commit ts t e (live-uncommitted t live) refl past h.cursors)
  where
    go : (b : Bool) → some_waits t ≡ b → ((c : ℕ) → w' c ≡ (if b && c == commit then Some n else w c))
        → AreWaiting w' (changed (committed commit) n ts)
    go true q more = waiting-more w w' (committed commit) n commit ts t e (live-uncommitted t live) refl past more h.waiting
    go false q more = waiting-same w w' (changed (committed commit) n ts) more
        (waiting-idle w (committed commit) n ts t e (live-uncommitted t live) q h.waiting)

pub some-taken : (header : Header) (t : Transaction) → some_waits (taken header t) ≡ true → some_waits t ≡ true
some-taken header t e = go t.writes e
  where
    go : (ws : List Provisional) → list_any (λ w. w.waits) (map (taken_write header) ws) ≡ true → list_any (λ w. w.waits) ws ≡ true
    go [] e = e
    go (w ∷ ws) e = ⊎_elim (λ a. or_left w.waits (list_any (λ w. w.waits) ws) (one (holds header (hash_of w.op.key)) a))
        (λ a. or_right w.waits (list_any (λ w. w.waits) ws) (go ws a)) (or_cases (taken_write header w).waits _ e)
      where
        one : (b : Bool) → (if b then record w { waits = false } else w).waits ≡ true → w.waits ≡ true
        one true a = absurd (true≢false (sym a))
        one false a = a

-- what is taken on one tablet waits no more on another than before
taken-on : (header other : Header) (t : Transaction) (c : ℕ) → commit_on other (taken header t) ≡ Some c → commit_on other t ≡ Some c
taken-on header other t c e = go (waits_on other (taken header t)) refl e
  where
    still : (ws : List Provisional) → list_any (is_waiting other) (map (taken_write header) ws) ≡ true
        → list_any (is_waiting other) ws ≡ true
    still [] e = e
    still (w ∷ ws) e = ⊎_elim
        (λ a. or_left (is_waiting other w) (list_any (is_waiting other) ws) (one (holds header (hash_of w.op.key)) a))
        (λ a. or_right (is_waiting other w) (list_any (is_waiting other) ws) (still ws a))
        (or_cases (is_waiting other (taken_write header w)) _ e)
      where
        one : (b : Bool) → is_waiting other (if b then record w { waits = false } else w) ≡ true → is_waiting other w ≡ true
        one true a = absurd (true≢false (sym a))
        one false a = a

    go : (b : Bool) → waits_on other (taken header t) ≡ b → (if b then commit_of t.stage else None) ≡ Some c → commit_on other t ≡ Some c
    go true q e = ap (λ b. if b then commit_of t.stage else None) (still t.writes q) ∙ e
    go false q e = absurd (none-some c e)

pub book-taken : (g : List ℕ → Option ℕ) (w w' : ℕ → Option ℕ) (b : ℕ → Option Cursor) (header : Header) (n : ℕ) (ts : List Transaction)
    (t u : Transaction)
    → numbered ts n ≡ Some t → u ≡ taken header t → is_some (commit_of t.stage) ≡ true
    → ((c k : ℕ) → w c ≡ Some k → (k ≢ n) ⊎ (some_waits u ≡ true) → w' c ≡ Some k) → ((c k : ℕ) → w' c ≡ Some k → w c ≡ Some k)
    → AreTransactions g w b ts → AreTransactions g w' b (slice_set ts (n - 1) u)
book-taken g w w' b header n ts t u e is ended kept less h =
    book-set g w' b (taken header) n ts t u e is h.few
    (holders-kept g (taken header) n ts t e (λ q. ended-holds-none (taken header t) q ended ∙ sym (ended-holds-none t q ended)) h.holders)
    (waiting-less w w' (taken header) n ts t e refl (some-taken header t)
    (λ c k q o. kept c k q (⊎_elim (λ d. inl d) (λ a. inr (ap some_waits is ∙ a)) o)) less h.waiting)
    (cursors-kept b (taken header) n ts t e refl (λ other c q. taken-on header other t c q) h.cursors)

pub book-begun : (g : List ℕ → Option ℕ) (w : ℕ → Option ℕ) (k : ℕ → Option Cursor) (ts us : List Transaction) → us ≡ ts ++ begun ∷ []
    → length ts + 1 < 2 ^ 32 → AreTransactions g w k ts → AreTransactions g w k us
book-begun g w k ts us is few h = subst (AreTransactions g w k) (sym is)
    (let l : length (ts ++ begun ∷ []) ≡ length ts + 1 = length-append ts (begun ∷ []) in record {
      few = omega arith;
      holders = holders-begun g ts h.holders;
      waiting = waiting-begun w ts h.waiting;
      cursors = cursors-begun k ts h.cursors;
    })
