-- The commits of the logs are those that the source lists, but for transactions that no tablet applied.
use Rattle.std.proofs.Common.{◌≡◌, ◌≢◌, ℕ, ◌-◌, ◌<◌, ◌≤◌, true, false, Bool, List, [], ◌∷◌, ◌++◌, length, map, Option, Some}
use Rattle.std.proofs.Common.{None}
use Rattle.std.proofs.Common.{refl, ap, sym, ◌∙◌, subst, arith, inl, inr, ⊎_elim, ◌⊎◌}
use Rattle.std.specs.Prelude.{not, slice_get, if◌then◌else◌, ◌==◌, ◌||◌, flat_map, filter}
use Rattle.std.specs.List.{filter_map, cons_option}
use Rattle.std.specs.Option.{option_map_or}
use Rattle.std.proofs.lemmas.Bool.{eq-eqb, eqb-true}
use Rattle.std.proofs.lemmas.Option.{same_Some, none-some}
use Rattle.xc_record.specs.declared.record.Kind.{Kind}
use Rattle.xc_record.specs.declared.record.Kind.TheVariants as kind
use Rattle.xc_record.specs.declared.record.Op.{Op}
use Rattle.xc_record.specs.declared.record.Record.{Record}
use Rattle.xc_record.specs.declared.record.Logs.{Logs}
use Rattle.xc_record.specs.Lists.{has, sort_by, first_some, or_else}
use Rattle.xc_record.specs.Commits.{Commit as LogCommit, Provisional as LogIntent, provisional_cmp, writes_in, write_ops}
use Rattle.xc_record.specs.Commits.{applies, rolls_back, applied_txn}
use Rattle.xc_record.specs.Commits.{commit_of as commit_in, undone as undone_in, applied, intents, txn_ops}
use Rattle.xc_record.specs.Accepted.{AcceptedTablet, accepted_tablets}
use Rattle.xc_record.proofs.ListLaws.{Each, Each-weaker}
use Rattle.xc_record.proofs.NumberLaws.{Rising, has-distinct, has-append}
use Rattle.xc_model.proofs.Flat.{each-flat}
use Rattle.xc_model.proofs.StableSort.{Exists}
use Rattle.xc_source.specs.declared.commit.Commit.{Commit}
use Rattle.xc_source.specs.declared.transaction.Provisional.{Provisional}
use Rattle.xc_source.specs.Machine.{Machine, Transaction, logs_of, commit_of as commit_stage, kept_ops}
use Rattle.xc_source_laws.specs.Laws.{plain, is_shown}
use Rattle.xc_source_laws.proofs.Base.{IsMachine}
use Rattle.xc_source_laws.proofs.NoBreaks.{books-accepted}
use Rattle.xc_source_laws.proofs.Says.{txn_at}
use Rattle.xc_source_laws.proofs.Agreeing.{AgreesSo}
use Rattle.xc_source_laws.proofs.LogsAgree.{first-of, commit-found, undone-found}
use Rattle.xc_source_laws.proofs.SortLaws.{Pairwise, pairwise-append, up-one}
use Rattle.xc_source_laws.proofs.Listing.{all_writes, all_intents, said_of, strip, Differ, PutIn, ApplyOf, InList}
use Rattle.xc_source_laws.proofs.ListMoves.{ListsSo}

-- ---- what a transaction wrote

strip-ops : (undone : List ℕ) (is : List LogIntent)
    → flat_map (λ i. i.ops) (filter (λ i. not (has i.sub undone)) is) ≡ flat_map (λ (q : ℕ × List Op). q.1)
    (filter (λ q. not (has q.0 undone)) (map strip is))
strip-ops undone [] = refl
strip-ops undone (i ∷ is) = grind (arith, strip-ops undone is)

said-kept : (undone : List ℕ) (ws : List Provisional)
    → flat_map (λ (q : ℕ × List Op). q.1) (filter (λ q. not (has q.0 undone)) (said_of ws)) ≡ map (λ w. w.op)
    (filter (λ w. not (has w.sub undone)) ws)
said-kept undone [] = refl
said-kept undone (w ∷ ws) = go (not (has w.sub undone)) (said-kept undone ws)
  where
    go : (b : Bool) → flat_map (λ (q : ℕ × List Op). q.1) (filter (λ q. not (has q.0 undone)) (said_of ws)) ≡ map (λ w. w.op)
        (filter (λ w. not (has w.sub undone)) ws)
        → flat_map (λ (q : ℕ × List Op). q.1) (if b then ((w.sub, w.op ∷ []) ∷ filter (λ q. not (has q.0 undone)) (said_of ws)) else filter
        (λ q. not (has q.0 undone)) (said_of ws))
        ≡ map (λ (w : Provisional). w.op) (if b then (w ∷ filter (λ (w : Provisional). not (has w.sub undone)) ws) else filter
        (λ (w : Provisional). not (has w.sub undone)) ws)
    go true e = ap (λ x. w.op ∷ x) e
    go false e = e

ops-are : (m : Machine) (bs : List AcceptedTablet) (n : ℕ) (t : Transaction) → IsMachine m bs → ListsSo m bs → txn_at m.txns n ≡ Some t
    → undone_in (logs_of m) n ≡ t.undone → txn_ops (logs_of m) n ≡ kept_ops t
unfolding txn_ops intents
ops-are m bs n t k s e u =
    let all : intents (logs_of m) n ≡ sort_by provisional_cmp (all_intents n bs) =
    ap (λ w. sort_by provisional_cmp (all_intents n w)) (books-accepted m bs k) in
    ap (λ w. flat_map (λ (i : LogIntent). i.ops) (filter (λ (i : LogIntent). not (has i.sub w)) (intents (logs_of m) n))) u
    ∙ ap (λ w. flat_map (λ (i : LogIntent). i.ops) (filter (λ (i : LogIntent). not (has i.sub t.undone)) w)) all
    ∙ strip-ops t.undone (sort_by provisional_cmp (all_intents n bs))
    ∙ ap (λ w. flat_map (λ (q : ℕ × List Op). q.1) (filter (λ (q : ℕ × List Op). not (has q.0 t.undone)) w)) (s.intents n t e)
    ∙ said-kept t.undone t.writes

-- ---- what is applied

apply-wrote : (ts : List Transaction) (n c : ℕ) (k : Kind) → ApplyOf ts k → applies n k ≡ Some c
    → (t : Transaction) × (txn_at ts n ≡ Some t) × (1 ≤ length t.writes)
apply-wrote ts n c (kind.Write ops) a e = cc
apply-wrote ts n c (kind.Intent sub m ops) a e = cc
apply-wrote ts n c (kind.Apply m d without) a e = go (m == n) refl e
  where
    go : (b : Bool) → (m == n) ≡ b → (if b then Some d else None) ≡ Some c → (t : Transaction) × (txn_at ts n ≡ Some t)
        × (1 ≤ length t.writes)
    go true q w = (a.0, subst (λ i. txn_at ts i ≡ Some a.0) (eqb-true m n q) a.1, a.2)
    go false q w = cc
apply-wrote ts n c (kind.Abort m) a e = cc
apply-wrote ts n c (kind.Safe v) a e = cc
apply-wrote ts n c (kind.Split place left right) a e = cc

-- a transaction of the logs with a commit
pub record Committing (m : Machine) (n c : ℕ) : Type 0 where
  pub t : Transaction
  pub there : txn_at m.txns n ≡ Some t
  pub commit : commit_stage t.stage ≡ Some c
  pub wrote : 1 ≤ length t.writes
  pub ops : txn_ops (logs_of m) n ≡ kept_ops t

pub committing : (m : Machine) (bs : List AcceptedTablet) (n c : ℕ) → IsMachine m bs → AgreesSo m bs → ListsSo m bs
    → commit_in (logs_of m) n ≡ Some c → Committing m n c
unfolding commit_in undone_in
committing m bs n c k a s e =
    let all = books-accepted m bs k in
    let first = sym (ap (first_some (λ (b : AcceptedTablet). first_some (λ (r : Record). applies n r.kind) b.records)) all) ∙ e in
    let f = commit-found m bs n c a first in
    let b = first-of (λ (b : AcceptedTablet). Each (InList m.time m.txns m.commits) b.records)
    (λ b. first_some (λ (r : Record). applies n r.kind) b.records) bs c s.records first in
    let r = first-of (InList m.time m.txns m.commits) (λ r. applies n r.kind) b.0.records c b.1 b.2 in
    let w = apply-wrote m.txns n c r.0.kind r.1.apply r.2 in
    let undone : undone_in (logs_of m) n ≡ f.t.undone =
    ap (λ w. option_map_or (λ without. without) (first_some (λ (b : AcceptedTablet). first_some
    (λ (r : Record). rolls_back n r.kind) b.records) w) []) all
    ∙ sym (undone-found m bs n c a f first) in
    record {
      t = f.t;
      there = f.there;
      commit = f.commit;
      wrote = subst (λ (x : Transaction). 1 ≤ length x.writes) (same_Some w.0 f.t (sym w.1 ∙ f.there)) w.2;
      ops = ops-are m bs n f.t k s f.there undone;
    }

kind-applied : (n : ℕ) (k : Kind) (ns : List ℕ) → has n (cons_option (applied_txn k) ns) ≡ true
    → ((d : ℕ) × (applies n k ≡ Some d)) ⊎ (has n ns ≡ true)
kind-applied n (kind.Write ops) ns e = inr e
kind-applied n (kind.Intent sub m ops) ns e = inr e
kind-applied n (kind.Apply m c without) ns e = go (m == n) refl e
  where
    go : (b : Bool) → (m == n) ≡ b → (b || has n ns) ≡ true → ((d : ℕ) × (applies n (kind.Apply m c without) ≡ Some d)) ⊎ (has n ns ≡ true)
    go true q w = inl (c, ap (λ b. if b then Some c else None) q)
    go false q w = inr w
kind-applied n (kind.Abort m) ns e = inr e
kind-applied n (kind.Safe v) ns e = inr e
kind-applied n (kind.Split place left right) ns e = inr e

found-in : {A B : Type 0} (f : A → Option B) (x : A) (xs : List A) → ((c : B) × (f x ≡ Some c)) ⊎ ((c : B) × (first_some f xs ≡ Some c))
    → (c : B) × (first_some f (x ∷ xs) ≡ Some c)
found-in {B = B} f x xs e = go (f x) refl e
  where
    go : (o : Option B) → f x ≡ o → ((c : B) × (f x ≡ Some c)) ⊎ ((c : B) × (first_some f xs ≡ Some c)) → (c : B)
        × (or_else o (first_some f xs) ≡ Some c)
    go (Some y) q e = (y, refl)
    go None q e = ⊎_elim (λ z. absurd (none-some z.0 (sym q ∙ z.1))) (λ z. z) e

in-records : (n : ℕ) (rs : List Record) → has n (filter_map (λ (r : Record). applied_txn r.kind) rs) ≡ true
    → (c : ℕ) × (first_some (λ (r : Record). applies n r.kind) rs ≡ Some c)
in-records n [] e = cc
in-records n (r ∷ rs) e =
    found-in (λ (r : Record). applies n r.kind) r rs
    (⊎_elim (λ z. inl z) (λ z. inr (in-records n rs z)) (kind-applied n r.kind (filter_map (λ (r : Record). applied_txn r.kind) rs) e))

or-cases : (a b : Bool) → (a || b) ≡ true → (a ≡ true) ⊎ (b ≡ true)
or-cases true b e = inl refl
or-cases false b e = inr e

in-books : (n : ℕ) (bs : List AcceptedTablet) → has n (flat_map
    (λ (b : AcceptedTablet). filter_map (λ (r : Record). applied_txn r.kind) b.records) bs) ≡ true
    → (c : ℕ) × (first_some (λ (b : AcceptedTablet). first_some (λ (r : Record). applies n r.kind) b.records) bs ≡ Some c)
in-books n [] e = cc
in-books n (b ∷ bs) e =
    found-in (λ (b : AcceptedTablet). first_some (λ (r : Record). applies n r.kind) b.records) b bs
    (⊎_elim (λ z. inl (in-records n b.records z)) (λ z. inr (in-books n bs z))
    (or-cases (has n (filter_map (λ (r : Record). applied_txn r.kind) b.records))
    (has n (flat_map (λ (b : AcceptedTablet). filter_map (λ (r : Record). applied_txn r.kind) b.records) bs))
    (sym (has-append n (filter_map (λ (r : Record). applied_txn r.kind) b.records)
    (flat_map (λ (b : AcceptedTablet). filter_map (λ (r : Record). applied_txn r.kind) b.records) bs)) ∙ e)))

pub applied-commits : (logs : Logs) (n : ℕ) → has n (applied logs) ≡ true → (c : ℕ) × (commit_in logs n ≡ Some c)
unfolding applied commit_in
applied-commits logs n e =
    in-books n (accepted_tablets logs)
    (sym (has-distinct n (flat_map (λ (b : AcceptedTablet). filter_map (λ (r : Record). applied_txn r.kind) b.records)
    (accepted_tablets logs))) ∙ e)

-- ---- one commit of the logs

abbrev pub IsListed : Machine → LogCommit → Type 0
IsListed m x = Exists (λ c. c ≡ plain x) m.commits

abbrev pub IsShown : Machine → LogCommit → Type 0
IsShown m x = is_shown (logs_of m) (plain x) ≡ true

-- by the transaction of a number
pub record IsOf (m : Machine) (n : ℕ) (x : LogCommit) : Type 0 where
  pub txn : x.txn ≡ n
  pub listed : IsListed m x
  pub shown : IsShown m x
  pub some : n ≢ 0

abbrev pub txn_of : Logs → ℕ → List LogCommit
txn_of logs n = option_map_or (λ c. record { time = c; txn = n; tablet = 0; ops = txn_ops logs n } ∷ []) (commit_in logs n) []

pub number-some : (ts : List Transaction) (n : ℕ) (t : Transaction) → txn_at ts n ≡ Some t → n ≢ 0
number-some ts n t e z =
    none-some t (sym (ap (λ b. if b then None else slice_get ts (n - 1)) (eq-eqb n 0 z)) ∙ e)

pub one-of : (m : Machine) (bs : List AcceptedTablet) (n : ℕ) → IsMachine m bs → AgreesSo m bs → ListsSo m bs
    → has n (applied (logs_of m)) ≡ true
    → Each (IsOf m n) (txn_of (logs_of m) n)
one-of m bs n k a s h = go (commit_in (logs_of m) n) refl
  where
    go : (o : Option ℕ) → commit_in (logs_of m) n ≡ o
        → Each (IsOf m n) (option_map_or (λ c. record { time = c; txn = n; tablet = 0; ops = txn_ops (logs_of m) n } ∷ []) o [])
    go None e = tt
    go (Some c) e =
        let f = committing m bs n c k a s e in (
          record {
            txn = refl;
            listed = subst (λ o. Exists (λ d. d ≡ record { time = c; txn = n; ops = o }) m.commits) (sym f.ops)
                (s.listed n c f.t f.there f.commit f.wrote);
            shown = ap (λ b. n == 0 || b) h ∙ or-true (n == 0);
            some = number-some m.txns n f.t f.there;
          },
          tt,
        )
      where
        or-true : (b : Bool) → (b || true) ≡ true
        or-true true = refl
        or-true false = refl

-- every number of the list is one of it
pub each-has : (ns ms : List ℕ) → ((n : ℕ) → has n ns ≡ true → has n ms ≡ true) → Each (λ n. has n ms ≡ true) ns
each-has [] ms f = tt
each-has (n ∷ ns) ms f =
    (f n (ap (λ b. b || has n ns) (eq-eqb n n refl)), each-has ns ms (λ k h. f k (ap (λ b. n == k || b) h ∙ or-true (n == k))))
  where
    or-true : (b : Bool) → (b || true) ≡ true
    or-true true = refl
    or-true false = refl

-- ---- all of them

pub record IsWriteOf (m : Machine) (x : LogCommit) : Type 0 where
  pub txn : x.txn ≡ 0
  pub listed : IsListed m x

write-listed : (m : Machine) (id at : ℕ) (k : Kind) (more : List LogCommit) → PutIn m.commits at k → Each (IsWriteOf m) more
    → Each (IsWriteOf m) (option_map_or (λ ops. record { time = at; txn = 0; tablet = id; ops = ops } ∷ []) (write_ops k) [] ++ more)
write-listed m id at (kind.Write ops) more p h = (record { txn = refl; listed = p }, h)
write-listed m id at (kind.Intent sub n ops) more p h = h
write-listed m id at (kind.Apply n c without) more p h = h
write-listed m id at (kind.Abort n) more p h = h
write-listed m id at (kind.Safe v) more p h = h
write-listed m id at (kind.Split place left right) more p h = h

writes-listed : (m : Machine) (id : ℕ) (rs : List Record) → Each (InList m.time m.txns m.commits) rs → Each (IsWriteOf m) (writes_in id rs)
writes-listed m id [] h = tt
writes-listed m id (r ∷ rs) h = write-listed m id r.time r.kind (writes_in id rs) h.0.put (writes-listed m id rs h.1)

pub all-listed : (m : Machine) (bs : List AcceptedTablet) → ListsSo m bs → Each (IsWriteOf m) (all_writes bs)
all-listed m bs s =
    each-flat (IsWriteOf m) (λ (b : AcceptedTablet). writes_in b.header.id b.records) (λ b. Each (InList m.time m.txns m.commits) b.records)
    (λ b h. writes-listed m b.header.id b.records h) bs s.records

-- two of different transactions differ in their times
pub differ-by : (m : Machine) (bs : List AcceptedTablet) (x y : LogCommit) → ListsSo m bs → IsListed m x → IsListed m y → x.txn ≢ y.txn
    → Differ x y
differ-by m bs x y s p q d e = d (ap (λ (c : Commit). c.txn) (up-one (λ (c : Commit). c.time) m.commits (plain x) (plain y) s.up p q e))

-- those of numbers that rise
pub txns-apart : (m : Machine) (bs : List AcceptedTablet) (ns : List ℕ) → ListsSo m bs → Rising ns
    → Each (λ n. Each (IsOf m n) (txn_of (logs_of m) n)) ns
    → Pairwise Differ (flat_map (txn_of (logs_of m)) ns)
txns-apart m bs [] s r h = tt
txns-apart m bs (n ∷ ns) s r h =
    pairwise-append Differ (txn_of (logs_of m) n) (flat_map (txn_of (logs_of m)) ns) (short (commit_in (logs_of m) n))
    (txns-apart m bs ns s r.1 h.1)
    (Each-weaker (IsOf m n) (λ x. Each (Differ x) (flat_map (txn_of (logs_of m)) ns))
    (λ x p. each-flat (Differ x) (txn_of (logs_of m)) (λ k. (n < k) × Each (IsOf m k) (txn_of (logs_of m) k))
    (λ k q. Each-weaker (IsOf m k) (Differ x)
    (λ y w. differ-by m bs x y s p.listed w.listed (λ e. let z = q.0 in let u = p.txn in let v = w.txn in let y : ⊥ = omega arith in y))
    (txn_of (logs_of m) k) q.1) ns
    (each-pair ns (above ns r.0) h.1)) (txn_of (logs_of m) n) h.0)
  where
    short : (o : Option ℕ) → Pairwise Differ (option_map_or (λ c. record { time = c; txn = n; tablet = 0; ops = txn_ops (logs_of m) n }
        ∷ []) o [])
    short None = tt
    short (Some c) = (tt, tt)

    above : (ks : List ℕ) → ((k : ℕ) → has k ks ≡ true → n < k) → Each (λ k. n < k) ks
    above ks f = Each-weaker (λ k. has k ks ≡ true) (λ k. n < k) (λ k h. f k h) ks (each-has ks ks (λ k h. h))

    each-pair : (ks : List ℕ) → Each (λ k. n < k) ks → Each (λ k. Each (IsOf m k) (txn_of (logs_of m) k)) ks
        → Each (λ k. (n < k) × Each (IsOf m k) (txn_of (logs_of m) k)) ks
    each-pair [] a b = tt
    each-pair (k ∷ ks) a b = ((a.0, b.0), each-pair ks a.1 b.1)
