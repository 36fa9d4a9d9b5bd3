-- After every list of commands the rows of the logs, up to the safe time at their ends, are the fold of what the source committed.
use Rattle.std.proofs.Common.{◌≡◌, ℕ, zero, suc, ◌+◌, ◌-◌, ◌<◌, ◌≤◌, true, false, Bool, List, [], ◌∷◌, ◌++◌, length, map, Option}
use Rattle.std.proofs.Common.{Some, None}
use Rattle.std.proofs.Common.{refl, ap, sym, ◌∙◌, subst, arith, inl, inr, ⊎_elim, ◌⊎◌, append_assoc}
use Rattle.std.specs.Prelude.{not, if◌then◌else◌, ◌==◌, ◌||◌, ◌&&◌, flat_map, filter, nat_le, slice_index, take, fold}
use Rattle.std.specs.List.{list_any, filter_map, cons_option}
use Rattle.std.proofs.lemmas.List.{length_push}
use Rattle.std.proofs.lemmas.Bool.{cases_Bool, true≢false, eq-eqb}
use Rattle.std.proofs.lemmas.Bool.Decides.{nat_tests}
use Rattle.xc_record.specs.declared.record.Header.{Header}
use Rattle.xc_record.specs.declared.record.Record.{Record}
use Rattle.xc_record.specs.Hash.{holds, hash_of}
use Rattle.xc_record.specs.Lists.{has, least}
use Rattle.xc_record.specs.Order.{Progress, after}
use Rattle.xc_record.specs.Commits.{Commit as LogCommit, applied, applied_txn, commits}
use Rattle.xc_record.specs.Rows.{rows, ops_to, rows_after}
use Rattle.xc_record.specs.SafeTime.{safe_time, last_safe_in, is_closed_in, place}
use Rattle.xc_record.specs.Accepted.{AcceptedTablet, accepted_tablets}
use Rattle.xc_record.proofs.ListLaws.{Each, Each-weaker}
use Rattle.xc_record.proofs.NumberLaws.{has-distinct, has-append}
use Rattle.xc_record.proofs.HeaderLaws.{Numbered}
use Rattle.xc_model.proofs.FromRules.{hash-below}
use Rattle.xc_model.proofs.StableSort.{Exists}
use Rattle.xc_model.proofs.Parents.{heads}
use Rattle.xc_source.specs.declared.commit.Commit.{Commit}
use Rattle.xc_source.specs.declared.transaction.Provisional.{Provisional}
use Rattle.xc_source.specs.Machine.{Machine, Transaction, start, logs_of}
use Rattle.xc_source.specs.Waiting.{is_waiting, waits_on}
use Rattle.xc_source.specs.Commands.{run}
use Rattle.xc_source_laws.specs.Laws.{plain, is_shown, ends, rows_listed, RowsAreListed}
use Rattle.xc_source_laws.proofs.Books.{opens, IsBook, HoldsOpen}
use Rattle.xc_source_laws.proofs.Base.{IsMachine, Above, get-txn}
use Rattle.xc_source_laws.proofs.Grow.{Stays}
use Rattle.xc_source_laws.proofs.Steps.{run-keeps}
use Rattle.xc_source_laws.proofs.Start.{root_books, base-start}
use Rattle.xc_source_laws.proofs.NoBreaks.{books-accepted}
use Rattle.xc_source_laws.proofs.Says.{txn_at}
use Rattle.xc_source_laws.proofs.AgreeMoves.{aborted-not}
use Rattle.xc_source_laws.proofs.LogsAgree.{start-agrees}
use Rattle.xc_source_laws.proofs.Listing.{TxnOf, Backed}
use Rattle.xc_source_laws.proofs.CommitLaws.{Both, both-closed, commits-in, start-lists}
use Rattle.xc_source_laws.proofs.TakenMoves.{TakenSo, AppliedIn, HasApply, some_taken, taken-closed}

-- ---- the safe time at the ends

-- the tablet stands at its place, with the number of its records as its place
pub record AtEnd (places : List ℕ) (b : AcceptedTablet) : Type 0 where
  pub at : slice_index places b.header.id ≡ length b.records
  pub end : b.end ≡ fold after b.start b.records

pub ends-at : (n : ℕ) (front : List ℕ) (bs : List AcceptedTablet) → length front ≡ n → Numbered n (heads bs)
    → Each (λ b. b.end ≡ fold after b.start b.records) bs
    → Each (AtEnd (front ++ map (λ b. length b.records) bs)) bs
ends-at n front [] l m e = tt
ends-at n front (b ∷ bs) l m e = (
  record { at = index-at front (length b.records) (map (λ b. length b.records) bs) b.header.id (l ∙ sym m.0); end = e.0 },
  subst (λ w. Each (AtEnd w) bs) (append_assoc front (length b.records ∷ []) (map (λ b. length b.records) bs))
      (ends-at (n + 1) (front ++ length b.records ∷ []) bs (length_push front (length b.records) ∙ ap (λ k. k + 1) l) m.1 e.1),
)
  where
    index-at : (xs : List ℕ) (y : ℕ) (ys : List ℕ) (i : ℕ) → length xs ≡ i → slice_index (xs ++ y ∷ ys) i ≡ y
    index-at [] y ys i e = subst (λ w. slice_index (y ∷ ys) w ≡ y) e refl
    index-at (x ∷ xs) y ys zero e = absurd (omega arith)
    index-at (x ∷ xs) y ys (suc i) e = index-at xs y ys i (omega arith)

take-all : {A : Type 0} (xs : List A) → take (length xs) xs ≡ xs
take-all [] = refl
take-all (x ∷ xs) = ap (λ w. x ∷ w) (take-all xs)

pub floor-at : (places : List ℕ) (b : AcceptedTablet) → AtEnd places b → last_safe_in places b ≡ b.end.floor
floor-at places b a =
    ap (λ n. (fold after b.start (take n b.records)).floor) a.at ∙ ap (λ rs. (fold after b.start rs).floor) (take-all b.records)
    ∙ ap (λ (p : Progress). p.floor) (sym a.end)

least-in : (places : List ℕ) (bs : List AcceptedTablet) (v : ℕ)
    → Exists (λ b. (is_closed_in places b ≡ false) × (last_safe_in places b ≤ v)) bs
    → least (map (last_safe_in places) (filter (λ b. not (is_closed_in places b)) bs)) ≤ v
least-in places [] v i = absurd i
least-in places (b ∷ bs) v i = go (is_closed_in places b) refl i (λ r. least-in places bs v r)
  where
    go : (c : Bool) → is_closed_in places b ≡ c
        → ((is_closed_in places b ≡ false) × (last_safe_in places b ≤ v))
        ⊎ Exists (λ b. (is_closed_in places b ≡ false) × (last_safe_in places b ≤ v)) bs
        → (Exists (λ b. (is_closed_in places b ≡ false) × (last_safe_in places b ≤ v)) bs
        → least (map (last_safe_in places) (filter (λ b. not (is_closed_in places b)) bs)) ≤ v)
        → least (map (last_safe_in places) (if not c then (b ∷ filter (λ b. not (is_closed_in places b)) bs) else filter
        (λ b. not (is_closed_in places b)) bs)) ≤ v
    go true q i more = ⊎_elim (λ p. absurd (true≢false (sym q ∙ p.0))) (λ r. more r) i
    go false q i more = ⊎_elim (λ p. let l = p.1 in omega arith) (λ r. let l = more r in omega arith) i

pub each-end : (before bs : List AcceptedTablet) → Stays before bs → Each (λ b. b.end ≡ fold after b.start b.records) bs
each-end before [] s = tt
each-end before (b ∷ bs) s = (s.0.end, each-end (before ++ b ∷ []) bs s.1)

-- an open tablet bounds the safe time
safe-below : (m : Machine) (bs : List AcceptedTablet) (v : ℕ) → IsMachine m bs → Exists (λ b. (opens b ≡ true) × (b.end.floor ≤ v)) bs
    → safe_time (logs_of m) (ends (logs_of m)) ≤ v
unfolding safe_time
safe-below m bs v k i =
    let all = books-accepted m bs k in
    subst (λ w. least (map (last_safe_in (map (λ (b : AcceptedTablet). length b.records) w))
    (filter (λ b. not (is_closed_in (map (λ (b : AcceptedTablet). length b.records) w) b)) w)) ≤ v)
    (sym all)
    (least-in places bs v (found bs (ends-at 0 [] bs refl k.books.numbered (each-end [] bs k.books.stays)) k.books.each i))
  where
    places : List ℕ
    places = map (λ (b : AcceptedTablet). length b.records) bs

    found : (cs : List AcceptedTablet) → Each (AtEnd places) cs → Each (IsBook m.time) cs
        → Exists (λ b. (opens b ≡ true) × (b.end.floor ≤ v)) cs
        → Exists (λ b. (is_closed_in places b ≡ false) × (last_safe_in places b ≤ v)) cs
    found [] a q i = absurd i
    found (b ∷ cs) a q i =
        ⊎_elim
        (λ p. let split : b.end.split ≡ false = q.0.splits ∙ ap not p.0 in
        let f = floor-at places b a.0 in
        inl (
          ap (λ s. (place places b == length b.records) && s) split
              ∙ and-false (place places b == length b.records),
          (let z = p.1 in omega arith),
        ))
        (λ r. inr (found cs a.1 q.1 r)) i
      where
        and-false : (b : Bool) → (b && false) ≡ false
        and-false true = refl
        and-false false = refl

-- ---- a commit that no tablet applied

has-apply : (n : ℕ) (rs : List Record) → Exists (HasApply n) rs → has n (filter_map (λ (r : Record). applied_txn r.kind) rs) ≡ true
has-apply n [] i = absurd i
has-apply n (r ∷ rs) i =
    ⊎_elim (λ e. ap (λ o. has n (cons_option o (filter_map (λ (r : Record). applied_txn r.kind) rs))) e
    ∙ ap (λ b. b || has n (filter_map (λ (r : Record). applied_txn r.kind) rs)) (eq-eqb n n refl))
    (λ q. go (applied_txn r.kind) (has-apply n rs q)) i
  where
    go : (o : Option ℕ) → has n (filter_map (λ (r : Record). applied_txn r.kind) rs) ≡ true
        → has n (cons_option o (filter_map (λ (r : Record). applied_txn r.kind) rs)) ≡ true
    go None e = e
    go (Some k) e = ap (λ b. k == n || b) e ∙ or-true (k == n)
      where
        or-true : (b : Bool) → (b || true) ≡ true
        or-true true = refl
        or-true false = refl

has-all : (n : ℕ) (bs : List AcceptedTablet) → AppliedIn n bs → has n
    (flat_map (λ (b : AcceptedTablet). filter_map (λ (r : Record). applied_txn r.kind) b.records) bs) ≡ true
has-all n [] i = absurd i
has-all n (b ∷ bs) i =
    has-append n (filter_map (λ (r : Record). applied_txn r.kind) b.records)
    (flat_map (λ (b : AcceptedTablet). filter_map (λ (r : Record). applied_txn r.kind) b.records) bs)
    ∙ ⊎_elim
    (λ q. ap (λ w. w || has n (flat_map (λ (b : AcceptedTablet). filter_map (λ (r : Record). applied_txn r.kind) b.records) bs))
    (has-apply n b.records q))
    (λ q. ap (λ w. has n (filter_map (λ (r : Record). applied_txn r.kind) b.records) || w) (has-all n bs q)
    ∙ or-true (has n (filter_map (λ (r : Record). applied_txn r.kind) b.records))) i
  where
    or-true : (b : Bool) → (b || true) ≡ true
    or-true true = refl
    or-true false = refl

pub applied-has : (m : Machine) (bs : List AcceptedTablet) (n : ℕ) → IsMachine m bs → AppliedIn n bs → has n (applied (logs_of m)) ≡ true
unfolding applied
applied-has m bs n k i =
    has-distinct n (flat_map (λ (b : AcceptedTablet). filter_map (λ (r : Record). applied_txn r.kind) b.records)
    (accepted_tablets (logs_of m)))
    ∙ ap (λ w. has n (flat_map (λ (b : AcceptedTablet). filter_map (λ (r : Record). applied_txn r.kind) b.records) w))
    (books-accepted m bs k)
    ∙ has-all n bs i

first-waits : (h : Header) (ws : List Provisional) → 1 ≤ length ws → list_any (λ w. not w.waits) ws ≡ false
    → (w : Provisional) × ((w.waits ≡ true) × ((g : Header) → holds g (hash_of w.op.key) ≡ true → list_any (is_waiting g) ws ≡ true))
first-waits h [] l e = absurd (omega arith)
first-waits h (w ∷ ws) l e =
    let waits : w.waits ≡ true = grind (arith, e) in
    (w, (waits, (λ g o. let here : is_waiting g w ≡ true = rw (waits, o) refl in ap (λ b. b || list_any (is_waiting g) ws) here)))

open-below : (t : Transaction) (c : ℕ) (h : ℕ) (bs : List AcceptedTablet) → 1 ≤ c → ((g : Header) → holds g h ≡ true → waits_on g t ≡ true)
    → Each (Above t c) bs → Exists (HoldsOpen h) bs → Exists (λ b. (opens b ≡ true) × (b.end.floor ≤ c - 1)) bs
open-below t c h [] one w a i = absurd i
open-below t c h (b ∷ bs) one w a i =
    ⊎_elim (λ p. inl (p.0, (let l : b.end.floor < c = a.0 p.0 (w b.header p.1) in omega arith)))
    (λ r. inr (open-below t c h bs one w a.1 r)) i

-- it commits after the safe time at the ends
late-txn : (m : Machine) (bs : List AcceptedTablet) (c : Commit) → IsMachine m bs → TakenSo m bs → TxnOf m.txns c
    → is_shown (logs_of m) c ≡ false → safe_time (logs_of m) (ends (logs_of m)) < c.time
late-txn m bs c k s x h =
    let commits = (get-txn m bs c.txn x.t k x.there).commits c.time x.commit in
    ⊎_elim
    (λ some. ⊎_elim (λ a. absurd (aborted-not x.t.stage c.time a x.commit))
    (λ i. absurd (true≢false (sym (ap (λ b. c.txn == 0 || b) (applied-has m bs c.txn k i) ∙ or-true (c.txn == 0)) ∙ h)))
    (s.explains c.txn x.t x.there some))
    (λ none. let w = first-waits (record { id = 0; lo = 0; hi = 0; parent = None }) x.t.writes x.wrote none in
    let one : 1 ≤ c.time = commits.positive in
    let open_ = open-below x.t c.time (hash_of w.0.op.key) bs one w.1.1 commits.above
    (k.books.covers (hash_of w.0.op.key) (hash-below w.0.op.key)) in
    let below = safe-below m bs (c.time - 1) k open_ in omega arith) (cases_Bool (some_taken x.t))
  where
    or-true : (b : Bool) → (b || true) ≡ true
    or-true true = refl
    or-true false = refl

late-commit : (m : Machine) (bs : List AcceptedTablet) (t : ℕ) (c : Commit) → IsMachine m bs → TakenSo m bs
    → t ≤ safe_time (logs_of m) (ends (logs_of m)) → Backed m.txns bs c → is_shown (logs_of m) c ≡ false → nat_le c.time t ≡ false
late-commit m bs t c k s l b h =
    ⊎_elim
    (λ p. absurd (true≢false (sym (ap (λ n. n == 0 || has n (applied (logs_of m))) p.0) ∙ h)))
    (λ x. let q = late-txn m bs c k s x h in let z : t < c.time = omega arith in grind (arith, nat_tests)) b

-- ---- the rows

plain-ops : (t : ℕ) (xs : List LogCommit)
    → flat_map (λ (x : LogCommit). x.ops) (filter (λ x. nat_le x.time t) xs) ≡ flat_map (λ (c : Commit). c.ops)
    (filter (λ c. nat_le c.time t) (map plain xs))
plain-ops t [] = refl
plain-ops t (x ∷ xs) = go (nat_le x.time t) (plain-ops t xs)
  where
    go : (b : Bool) → flat_map (λ (x : LogCommit). x.ops) (filter (λ x. nat_le x.time t) xs) ≡ flat_map (λ (c : Commit). c.ops)
        (filter (λ c. nat_le c.time t) (map plain xs))
        → flat_map (λ (x : LogCommit). x.ops) (if b then (x ∷ filter (λ x. nat_le x.time t) xs) else filter (λ x. nat_le x.time t) xs)
        ≡ flat_map (λ (c : Commit). c.ops) (if b then (plain x ∷ filter (λ c. nat_le c.time t) (map plain xs)) else filter
        (λ c. nat_le c.time t) (map plain xs))
    go true e = ap (λ w. x.ops ++ w) e
    go false e = e

filter-late : (p q : Commit → Bool) (cs : List Commit) → Each (λ c. q c ≡ false → p c ≡ false) cs → filter p (filter q cs) ≡ filter p cs
filter-late p q [] h = refl
filter-late p q (c ∷ cs) h = go (q c) refl (filter-late p q cs h.1)
  where
    go : (b : Bool) → q c ≡ b → filter p (filter q cs) ≡ filter p cs
        → filter p (if b then (c ∷ filter q cs) else filter q cs) ≡ filter p (c ∷ cs)
    go true e f = ap (λ w. if p c then (c ∷ w) else w) f
    go false e f = f ∙ sym (ap (λ b. if b then (c ∷ filter p cs) else filter p cs) (h.0 e))

rows-in : (m : Machine) (bs : List AcceptedTablet) (t : ℕ) → IsMachine m bs → Both m bs → TakenSo m bs
    → t ≤ safe_time (logs_of m) (ends (logs_of m)) → rows (logs_of m) t ≡ rows_listed m.commits t
unfolding rows ops_to
rows-in m bs t k s x l =
    ap (λ ops. rows_after ops [])
    (plain-ops t (commits (logs_of m))
    ∙ ap (λ cs. flat_map (λ (c : Commit). c.ops) (filter (λ (c : Commit). nat_le c.time t) cs)) (commits-in m bs k s.0 s.1)
    ∙ ap (flat_map (λ (c : Commit). c.ops))
    (filter-late (λ c. nat_le c.time t) (is_shown (logs_of m)) m.commits
    (Each-weaker (Backed m.txns bs) (λ c. is_shown (logs_of m) c ≡ false → nat_le c.time t ≡ false)
    (λ c b h. late-commit m bs t c k x l b h) m.commits s.1.backed)))

-- no transaction was begun before the first command
pub none-begun : (n : ℕ) (t : Transaction) → txn_at [] n ≡ Some t → ⊥
none-begun n t e = go (n == 0) None refl e
  where
    go : (b : Bool) (o : Option Transaction) → o ≡ None → (if b then None else o) ≡ Some t → ⊥
    go true o z q = cc
    go false o z q = cc

pub rows-are-listed : RowsAreListed
rows-are-listed roots time cs r l f t below =
    let base = base-start roots time r in
    let m = run cs (start roots time) in
    let k = run-keeps Both both-closed cs (start roots time) f
    (record { books = root_books roots; base = base; holds_of = (start-agrees roots time, start-lists roots time) }) in
    let x = run-keeps TakenSo taken-closed cs (start roots time) f
    (record { books = root_books roots; base = base; holds_of = record { explains = λ n t e. absurd (none-begun n t e) } }) in
    rows-in m k.books t k.base k.holds_of
    (subst (TakenSo m) (sym (books-accepted m x.books x.base) ∙ books-accepted m k.books k.base) x.holds_of) below
