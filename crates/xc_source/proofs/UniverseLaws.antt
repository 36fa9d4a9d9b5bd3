-- What a universe keeps, as its parts change.
use Rattle.std.proofs.Common.{◌≡◌, ℕ, zero, suc, ◌+◌, ◌-◌, ◌<◌, ◌≤◌, List, [], ◌∷◌, ◌++◌, length, Option, Some, None, refl, ap, sym, ◌∙◌}
use Rattle.std.proofs.Common.{subst, arith, get_or, length-append, take, map, true, inl, ◌⊎◌, ⊎_elim}
use Rattle.std.proofs.lemmas.Bool.{cases_eq}
use Rattle.std.proofs.lemmas.List.{length-map}
use Rattle.std.specs.Prelude.{slice_get, slice_set, IfSome}
use Rattle.std.specs.Option.{option_map_or}
use Rattle.std.proofs.lemmas.List.Sums.{sum_by-set, sum_by-append}
use Rattle.std.proofs.lemmas.Option.{get_or_from_slice_get}
use Rattle.xc_record.specs.declared.record.Kind.{Kind}
use Rattle.xc_record.specs.declared.record.Kind.TheVariants as kind
use Rattle.xc_record.specs.declared.record.Op.{Op}
use Rattle.xc_record.specs.declared.record.Record.{Record}
use Rattle.xc_record.specs.declared.record.Tablet.{Tablet}
use Rattle.xc_record.specs.Grown.{with_record, grown}
use Rattle.xc_source.specs.declared.commit.Commit.{Commit}
use Rattle.xc_source.specs.Machine.{Machine, Transaction, begun, commit_of}
use Rattle.xc_source.specs.Waiting.{taken, taken_write, tablets_of}
use Rattle.xc_record.specs.declared.record.Header.{Header}
use Rattle.xc_source.specs.Calls.{written, aborted, aborted_write, applied, apply_kind, logged, with_aborts, tablets_with, abort_after}
use Rattle.xc_source.specs.Calls.{to_transaction}
use Rattle.xc_source.specs.Universe.{IsUniverse, Logged, logged_in, unlogged, without_last, writes_in, unlogged_all, aborts_in}
use Rattle.xc_source.specs.Machine.{with_transaction}
use Rattle.xc_source.specs.Holders.{numbered, changed, late_at, commit_at}
use Rattle.xc_source.proofs.CallLaws.{machine_of, to_transaction-found}
use Rattle.xc_source.proofs.NumberedLaws.{changed-is, some-within, numbered-at, numbered-same, numbered-other}
use Rattle.xc_source.proofs.BookLaws.{commit-begun}

-- ---- writes

writes-set : (f : Transaction → Transaction) (n k : ℕ) (ts : List Transaction)
    → ((t : Transaction) → length (f t).writes ≤ length t.writes + k)
    → writes_in (changed f n ts) ≤ writes_in ts + k
writes-set f n k ts h = go (numbered ts n) refl
  where
    go : (o : Option Transaction) → numbered ts n ≡ o → writes_in (option_map_or (λ t. slice_set ts (n - 1) (f t)) o ts) ≤ writes_in ts + k
    go None e = omega arith
    go (Some t) e =
        let p = some-within ts n t e in
        let s = sum_by-set (λ (x : Transaction). length x.writes) ts (n - 1) (f t) t p.1 in
        let same : length (get_or ts (n - 1) t).writes ≡ length t.writes =
        ap (λ (x : Transaction). length x.writes) (get_or_from_slice_get ts (n - 1) t t (numbered-at ts n t e).1) in
        let more = h t in
        omega (arith, s, same, more)

pub universe-set : (time later n k : ℕ) (f : Transaction → Transaction) (ts us : List Transaction) → us ≡ changed f n ts
    → ((t : Transaction) → length (f t).writes ≤ length t.writes + k) → time + k ≤ later
    → ((t : Transaction) (c : ℕ) → commit_of (f t).stage ≡ Some c → (commit_of t.stage ≡ Some c) ⊎ (c ≤ later)) → IsUniverse time ts
    → IsUniverse later us
universe-set time later n k f ts us e h l s u = record {
  timed = subst (λ (xs : List Transaction). writes_in xs ≤ later) (sym e) (let w = writes-set f n k ts h in omega (arith, w, u.timed));
  past = λ i c q. go i c (subst (λ (xs : List Transaction). commit_at (numbered xs i) ≡ Some c) e q);
}
  where
    go : (i c : ℕ) → commit_at (numbered (changed f n ts) i) ≡ Some c → c ≤ later
    go i c q = at (numbered ts n) refl
      where
        old : (i : ℕ) → commit_at (numbered ts i) ≡ Some c → c ≤ later
        old i q = let p = u.past i c q in omega (arith, p, l)

        at : (o : Option Transaction) → numbered ts n ≡ o → c ≤ later
        at None w = old i (ap (λ (o : Option Transaction). commit_at (numbered (option_map_or (λ t. slice_set ts (n - 1) (f t)) o ts) i))
            (sym w) ∙ q)
        at (Some t) w = ⊎_elim
            (λ z. ⊎_elim (λ a. old n (ap commit_at w ∙ a)) (λ b. b)
            (s t c (sym (ap commit_at (numbered-same f n ts t w)) ∙ ap (λ j. commit_at (numbered (changed f n ts) j)) (sym z) ∙ q)))
            (λ d. old i (sym (ap commit_at (numbered-other f n i ts t w d)) ∙ q)) (cases_eq i n)

pub same-stage : (f : Transaction → Transaction) (later : ℕ) → ((t : Transaction) → (f t).stage ≡ t.stage) → (t : Transaction) (c : ℕ)
    → commit_of (f t).stage ≡ Some c → (commit_of t.stage ≡ Some c) ⊎ (c ≤ later)
same-stage f later s t c e = inl (ap commit_of (sym (s t)) ∙ e)

pub universe-later : (time later : ℕ) (ts : List Transaction) → time ≤ later → IsUniverse time ts → IsUniverse later ts
universe-later time later ts l u = record {
  timed = let w = u.timed in omega (arith, w, l);
  past = λ n c e. let p = u.past n c e in omega (arith, p, l);
}

pub universe-begun : (time : ℕ) (ts us : List Transaction) → us ≡ ts ++ begun ∷ [] → IsUniverse time ts → IsUniverse time us
universe-begun time ts us e u = subst (IsUniverse time) (sym e) record {
  timed = let s = sum_by-append (λ (t : Transaction). length t.writes) ts (begun ∷ []) in let w = u.timed in omega (arith, s, w);
  past = λ n c q. u.past n c (sym (commit-begun ts n) ∙ q);
}

pub wrote-one : (op : Op) (t : Transaction) → length (written op t).writes ≤ length t.writes + 1
wrote-one op t = let l = length-append t.writes (record { sub = t.current; op = op; waits = true } ∷ []) in omega (arith, l)

pub same-writes : (t : Transaction) → length t.writes ≤ length t.writes + 0
same-writes t = omega arith

pub same-aborted : (t : Transaction) → length (aborted t).writes ≤ length t.writes + 0
same-aborted t = let l : length (map aborted_write t.writes) ≡ length t.writes = length-map t.writes aborted_write in omega (arith, l)

pub same-taken : (header : Header) (t : Transaction) → length (taken header t).writes ≤ length t.writes + 0
same-taken header t =
    let l : length (map (taken_write header) t.writes) ≡ length t.writes = length-map t.writes (taken_write header) in omega (arith, l)

-- a transaction that wrote can't commit at 1
pub commits-late : (time commit n : ℕ) (ts : List Transaction) → IsUniverse time ts → time + 1 ≤ commit → late_at commit (numbered ts n)
commits-late time commit n ts u l = go (numbered ts n) refl
  where
    go : (o : Option Transaction) → numbered ts n ≡ o → IfSome o (λ t. 0 < length t.writes → 2 ≤ commit)
    go None e = tt
    go (Some t) e = λ wrote.
        let p = some-within ts n t e in
        let s = sum_by-set (λ (x : Transaction). length x.writes) ts (n - 1) begun t p.1 in
        let same : length (get_or ts (n - 1) t).writes ≡ length t.writes =
        ap (λ (x : Transaction). length x.writes) (get_or_from_slice_get ts (n - 1) t t (numbered-at ts n t e).1) in
        omega (arith, s, same, wrote, u.timed, l)

-- ---- what was logged last, taken back

without-grown : (id : ℕ) (r : Record) (ts : List Tablet) → without_last id (with_record id r ts) ≡ ts
without-grown id r [] = refl
without-grown zero r (t ∷ ts) =
    let l : length (t.records ++ r ∷ []) - 1 ≡ length t.records = (let w = length-append t.records (r ∷ []) in omega (arith, w)) in
    ap (λ rs. record t { records = rs } ∷ ts) (ap (λ i. take i (t.records ++ r ∷ [])) l ∙ take-whole t.records (r ∷ []))
  where
    take-whole : (rs ss : List Record) → take (length rs) (rs ++ ss) ≡ rs
    take-whole [] ss = refl
    take-whole (r ∷ rs) ss = ap (λ w. r ∷ w) (take-whole rs ss)
without-grown (suc id) r (t ∷ ts) =
    let us = with_record id r ts in
    ap (without_last (suc id)) (behind t (λ b. slice_set ts id (grown b r)) (slice_get ts id) ts)
    ∙ behind t (λ (b : Tablet). slice_set us id (record b { records = take (length b.records - 1) b.records })) (slice_get us id) us
    ∙ ap (λ w. t ∷ w) (without-grown id r ts)
  where
    behind : (t : Tablet) (f : Tablet → List Tablet) (o : Option Tablet) (ts : List Tablet)
        → option_map_or (λ b. t ∷ f b) o (t ∷ ts) ≡ t ∷ option_map_or f o ts
    behind t f None ts = refl
    behind t f (Some b) ts = refl

pub unlogged-logged : (id : ℕ) (kind : Kind) (j : Logged) → unlogged id (logged_in id kind j) ≡ j
unlogged-logged id kind j =
    let time : j.time + 1 - 1 ≡ j.time = omega arith in
    ap (λ t. record { time = t; tablets = without_last id (with_record id (record { time = j.time + 1; kind = kind }) j.tablets) }) time
    ∙ ap (λ ts. record { time = j.time; tablets = ts }) (without-grown id (record { time = j.time + 1; kind = kind }) j.tablets)

-- ---- an apply

pub apply-next : (n id : ℕ) (m : Machine) (j j' : Logged) (cs : List Commit) (ts ts' : List Transaction) (t : Transaction) (b : Tablet)
    → machine_of j cs ts ≡ m → numbered ts n ≡ Some t → slice_get j.tablets id ≡ Some b → j' ≡ logged_in id (apply_kind n t) j
    → ts' ≡ changed (taken b.header) n ts → machine_of j' cs ts' ≡ applied n id m
apply-next n id m j j' cs ts ts' t b e num at l s =
    let M = machine_of j cs ts in
    let F : Transaction → Machine = λ t. logged id (apply_kind n t)
    (option_map_or (λ (b : Tablet). with_transaction n (taken b.header t) M) (slice_get j.tablets id) M) in
    ap (λ x. machine_of x cs ts') l
    ∙ ap (λ x. machine_of (logged_in id (apply_kind n t) j) cs x) (s ∙ changed-is (taken b.header) n ts t num)
    ∙ ap (λ (o : Option Tablet). logged id (apply_kind n t) (option_map_or (λ (b : Tablet). with_transaction n (taken b.header t) M) o M))
    (sym at)
    ∙ to_transaction-found F M n t num
    ∙ ap (applied n id) e

-- ---- aborts

pub unlogged-aborts : (n : ℕ) (ids : List ℕ) (j : Logged) → unlogged_all ids (aborts_in n ids j) ≡ j
unlogged-aborts n [] j = refl
unlogged-aborts n (id ∷ ids) j =
    ap (unlogged id) (unlogged-aborts n ids (logged_in id (kind.Abort n) j)) ∙ unlogged-logged id (kind.Abort n) j

aborts-machine : (n : ℕ) (ids : List ℕ) (j : Logged) (cs : List Commit) (ts : List Transaction)
    → machine_of (aborts_in n ids j) cs ts ≡ with_aborts n ids (machine_of j cs ts)
aborts-machine n [] j cs ts = refl
aborts-machine n (id ∷ ids) j cs ts = aborts-machine n ids (logged_in id (kind.Abort n) j) cs ts

pub abort-next : (n : ℕ) (m : Machine) (ids : List ℕ) (j j' : Logged) (cs : List Commit) (ts ts' : List Transaction) (t : Transaction)
    → machine_of j cs ts ≡ m → numbered ts n ≡ Some t → ids ≡ tablets_with m n → j' ≡ aborts_in n ids j → ts' ≡ changed aborted n ts
    → machine_of j' cs ts' ≡ to_transaction (abort_after n m) m n
abort-next n m ids j j' cs ts ts' t e num i l s =
    let M = machine_of j cs ts in
    let ids' : ids ≡ tablets_of M t =
    i ∙ ap (λ x. tablets_with x n) (sym e) ∙ ap (λ (o : Option Transaction). option_map_or (λ t. tablets_of M t) o []) num in
    ap (λ x. machine_of x cs ts') l
    ∙ ap (machine_of (aborts_in n ids j) cs) (s ∙ changed-is aborted n ts t num)
    ∙ aborts-machine n ids j cs (slice_set ts (n - 1) (aborted t))
    ∙ ap (λ x. with_aborts n x (with_transaction n (aborted t) M)) ids'
    ∙ to_transaction-found (abort_after n M) M n t num
    ∙ ap (λ x. to_transaction (abort_after n x) x n) e

pub aborts-time : (n : ℕ) (ids : List ℕ) (j : Logged) → j.time ≤ (aborts_in n ids j).time
aborts-time n [] j = omega arith
aborts-time n (id ∷ ids) j = let l = aborts-time n ids (logged_in id (kind.Abort n) j) in omega (arith, l)
