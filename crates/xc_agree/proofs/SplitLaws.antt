-- Laws of the tablets around one of them.
use Rattle.std.proofs.Common.{◌≡◌, ℕ, zero, suc, ◌+◌, ◌<◌, ◌≤◌, Bool, true, List, [], ◌∷◌, ◌++◌, length, take, drop, get_or, sum_by, refl}
use Rattle.std.proofs.Common.{ap, sym, ◌∙◌, subst, arith, append_assoc, length-append, take-append-drop, drop-cons, length-take}
use Rattle.std.proofs.lemmas.Bool.Decides.{nat_tests}
use Rattle.std.proofs.lemmas.Bool.{and_parts}
use Rattle.std.proofs.lemmas.List.{append-nil, length-take-le}
use Rattle.std.proofs.lemmas.Option.{slice_get_read, same_Some}
use Rattle.std.proofs.lemmas.List.Sums.{sum_by_more_le}
use Rattle.std.specs.Prelude.{Option, Some, ◌&&◌, slice_get, nat_le, is_some}
use Rattle.std.specs.List.{list_all, list_any}
use Rattle.xc_record.specs.declared.record.Kind.{Kind}
use Rattle.xc_record.specs.declared.record.Kind.TheVariants.{Intent}
use Rattle.xc_record.specs.declared.record.Header.{Header}
use Rattle.xc_record.specs.declared.record.Op.{Op}
use Rattle.xc_record.specs.declared.record.Record.{Record}
use Rattle.xc_record.specs.declared.record.Tablet.{Tablet}
use Rattle.xc_record.specs.Hash.{hash_of, holds}
use Rattle.xc_record.specs.Headers.{children}
use Rattle.xc_record.specs.Valid.{headers_of, tablet_fits, record_fits, ends_fit, kind_fits, ops_fit, op_fits, is_txn, is_time}
use Rattle.xc_record.specs.Accepted.{AcceptedTablet, accepted_tablets_after, accepted_tablet_after}
use Rattle.xc_record.proofs.AcceptedLaws.{Each}
use Rattle.xc_record.proofs.ListLaws.{all-at}
use Rattle.xc_logs.proofs.ValidFacts.{IsWellFormed}
use Rattle.xc_agree.specs.declared.run.Run.{Run}
use Rattle.xc_agree.specs.Runs.{IsRun, IsRuns}
use Rattle.xc_agree.specs.Cases.{of_tablets}
use Rattle.xc_agree.proofs.RunLaws.{after-append}
use Rattle.xc_agree.proofs.StragglerLaws.{OwnIn}
use Rattle.xc_record.proofs.OpsLaws.{ops-hold}

-- the accepted tablets of ts, after those before
abbrev pub more : List AcceptedTablet → List Tablet → List AcceptedTablet
more before [] = []
more before (t ∷ ts) = accepted_tablet_after before t ∷ more (before ++ accepted_tablet_after before t ∷ []) ts

pub after-more : (before : List AcceptedTablet) (ts : List Tablet) → accepted_tablets_after before ts ≡ before ++ more before ts
after-more before [] = sym (append-nil before)
after-more before (t ∷ ts) =
    after-more (before ++ accepted_tablet_after before t ∷ []) ts
    ∙ append_assoc before (accepted_tablet_after before t ∷ []) (more (before ++ accepted_tablet_after before t ∷ []) ts)

split_at : {X : Type 0} (xs : List X) (i : ℕ) (x : X) → i < length xs → x ≡ get_or xs i x → xs ≡ take i xs ++ x ∷ drop (suc i) xs
split_at xs i x h e = sym (take-append-drop i xs) ∙ ap (λ ys. take i xs ++ ys) (drop-cons xs i x h ∙ ap (λ y. y ∷ drop (suc i) xs) (sym e))

-- the tablet at i, with those before and after it
pub around : (ts : List Tablet) (i : ℕ) (t : Tablet) → i < length ts → t ≡ get_or ts i t
    → accepted_tablets_after [] ts ≡ accepted_tablets_after [] (take i ts) ++ accepted_tablet_after (accepted_tablets_after [] (take i ts))
    t
    ∷ more (accepted_tablets_after [] (take i ts) ++ accepted_tablet_after (accepted_tablets_after [] (take i ts)) t ∷ []) (drop (suc i) ts)
around ts i t h e =
    ap (accepted_tablets_after []) (split_at ts i t h e) ∙ after-append [] (take i ts) (t ∷ drop (suc i) ts)
    ∙ after-more (accepted_tablets_after [] (take i ts)) (t ∷ drop (suc i) ts)

pub count-after : (before : List AcceptedTablet) (ts : List Tablet) → length (accepted_tablets_after before ts) ≡ length before + length ts
count-after before [] = omega arith
count-after before (t ∷ ts) =
    count-after (before ++ accepted_tablet_after before t ∷ []) ts
    ∙ grind (arith, length-append before (accepted_tablet_after before t ∷ []))

pub get-middle : {X : Type 0} (xs : List X) (y : X) (ys : List X) (i : ℕ) → length xs ≡ i → slice_get (xs ++ y ∷ ys) i ≡ Some y
get-middle [] y ys zero e = refl
get-middle [] y ys (suc i) e = absurd (omega arith)
get-middle (x ∷ xs) y ys zero e = absurd (omega arith)
get-middle (x ∷ xs) y ys (suc i) e = get-middle xs y ys i (omega arith)

pub runs-count : (runs : List Run) (bs : List AcceptedTablet) (ts : List Tablet) → IsRuns runs bs ts → length runs ≡ length ts
runs-count [] [] [] h = refl
runs-count (r ∷ runs) (b ∷ bs) (t ∷ ts) h = let k = runs-count runs bs ts h.1 in omega arith
runs-count [] [] (u ∷ ts) h = absurd h
runs-count [] (c ∷ bs) ts h = absurd h
runs-count (x ∷ runs) [] ts h = absurd h
runs-count (x ∷ runs) (c ∷ bs) [] h = absurd h

pub run-is : (runs : List Run) (bs : List AcceptedTablet) (ts : List Tablet) (i : ℕ) (run : Run) (b : AcceptedTablet) (t : Tablet)
    → IsRuns runs bs ts → slice_get runs i ≡ Some run → slice_get bs i ≡ Some b → slice_get ts i ≡ Some t → IsRun run b t
run-is [] [] [] i run b t h e f g = cc
run-is (r ∷ runs) (c ∷ bs) (u ∷ ts) zero run b t h e f g =
    subst (λ x. IsRun x b t) (same_Some _ _ e) (subst (λ x. IsRun r x t) (same_Some _ _ f) (subst (λ x. IsRun r c x) (same_Some _ _ g) h.0))
run-is (r ∷ runs) (c ∷ bs) (u ∷ ts) (suc i) run b t h e f g = run-is runs bs ts i run b t h.1 e f g
run-is [] [] (u ∷ ts) i run b t h e f g = absurd h
run-is [] (c ∷ bs) ts i run b t h e f g = absurd h
run-is (x ∷ runs) [] ts i run b t h e f g = absurd h
run-is (x ∷ runs) (c ∷ bs) [] i run b t h e f g = absurd h

-- the run of the tablet at i
pub run-here : (runs : List Run) (ts : List Tablet) (i : ℕ) (run : Run) (t : Tablet) → IsRuns runs (accepted_tablets_after [] ts) ts
    → i < length ts → t ≡ get_or ts i t → run ≡ get_or runs i run
    → IsRun run (accepted_tablet_after (accepted_tablets_after [] (take i ts)) t) t
run-here runs ts i run t h below is at =
    let bs : List AcceptedTablet = accepted_tablets_after [] (take i ts) in
    let b : AcceptedTablet = accepted_tablet_after bs t in
    let n : length (accepted_tablets_after [] (take i ts)) ≡ i =
    count-after [] (take i ts) ∙ ap (λ k. 0 + k) (length-take-le i ts (omega arith)) ∙ omega arith in
    let all : accepted_tablets_after [] ts ≡ accepted_tablets_after [] (take i ts) ++ b ∷ more (bs ++ b ∷ []) (drop (suc i) ts) =
    around ts i t below is in
    run-is runs (accepted_tablets_after [] ts) ts i run b t h
    (slice_get_read runs (length runs) i run refl (let k = runs-count runs (accepted_tablets_after [] ts) ts h in omega arith) at)
    (ap (λ xs. slice_get xs i) all
    ∙ get-middle bs b (more (bs ++ b ∷ []) (drop (suc i) ts)) i n) (slice_get_read ts (length ts) i t refl below is)

pub run-within : (run : Run) (b : AcceptedTablet) (t : Tablet) → IsRun run b t → run.walk.accepted ≤ length t.records
run-within run b t h = omega (arith, h.accepted, ap length h.records, length-take run.walk.accepted t.records)

-- ---- the limits and the rules on records

pub sum-at : (ts : List Tablet) (i : ℕ) (t : Tablet) → i < length ts → t ≡ get_or ts i t
    → sum_by (λ t. length t.records) (take i ts) + length t.records ≤ sum_by (λ t. length t.records) ts
sum-at ts i t h e =
    let k : length t.records ≡ length (get_or ts i t).records =
    ap (λ x. length x.records) e in omega (arith, sum_by_more_le (λ t. length t.records) ts i t h)

all-take : {X : Type 0} (p : X → Bool) (k : ℕ) (xs : List X) → list_all p xs ≡ true → list_all p (take k xs) ≡ true
all-take p zero xs f = refl
all-take p (suc k) [] f = refl
all-take p (suc k) (x ∷ xs) f = let a = and_parts (p x) (list_all p xs) f in rw (a.0) (all-take p k xs a.1)

fits-parts : (header : Header) (ops : List Op) → ops_fit header ops ≡ true
    → (nat_le 1 (length ops) ≡ true) × (list_all (op_fits header) ops ≡ true)
fits-parts header ops e =
    let a = and_parts (nat_le 1 (length ops)) (nat_le (length ops) 64 && list_all (op_fits header) ops) e in
    (a.0, (and_parts (nat_le (length ops) 64) (list_all (op_fits header) ops) a.1).1)

one-holds : (header : Header) (ops : List Op) → nat_le 1 (length ops) ≡ true → list_all (λ op. holds header (hash_of op.key)) ops ≡ true
    → list_any (λ op. holds header (hash_of op.key)) ops ≡ true
one-holds header [] e f = grind (arith, nat_tests)
one-holds header (op ∷ ops) e f =
    let a = and_parts (holds header (hash_of op.key)) (list_all (λ op. holds header (hash_of op.key)) ops) f in rw (a.0) refl

intent-fits : (header : Header) (pair : Option (Header × Header)) (kind : Kind) (n sub : ℕ) (ops : List Op)
    → kind_fits header pair kind ≡ true → kind ≡ Intent sub n ops → ops_fit header ops ≡ true
intent-fits header pair kind n sub ops f e =
    (and_parts (nat_le sub 64) (ops_fit header ops)
    (and_parts (is_txn n) (nat_le sub 64 && ops_fit header ops) (subst (λ k. kind_fits header pair k ≡ true) e f)).1).1

own-kind : (header : Header) (pair : Option (Header × Header)) (kind : Kind) (n sub : ℕ) (ops : List Op)
    → kind_fits header pair kind ≡ true → kind ≡ Intent sub n ops → list_any (λ op. holds header (hash_of op.key)) ops ≡ true
own-kind header pair kind n sub ops f e =
    let a = fits-parts header ops (intent-fits header pair kind n sub ops f e) in
    one-holds header ops a.0 (ops-hold header ops a.1)

own-every : (header : Header) (pair : Option (Header × Header)) (kind : Kind) (n sub : ℕ) (ops : List Op)
    → kind_fits header pair kind ≡ true → kind ≡ Intent sub n ops → list_all (λ op. holds header (hash_of op.key)) ops ≡ true
own-every header pair kind n sub ops f e = ops-hold header ops (fits-parts header ops (intent-fits header pair kind n sub ops f e)).1

own-all : (header : Header) (pair : Option (Header × Header)) (rs : List Record) → list_all (record_fits header pair) rs ≡ true
    → Each (OwnIn header) rs
own-all header pair [] e = tt
own-all header pair (r ∷ rs) e =
    let a = and_parts (record_fits header pair r) (list_all (record_fits header pair) rs) e in
    let fits = (and_parts (is_time r.time) (kind_fits header pair r.kind) a.0).1 in (
      record {
        holds_one = λ n sub ops is. own-kind header pair r.kind n sub ops fits is;
        holds_all = λ n sub ops is. own-every header pair
            r.kind n sub ops fits is;
      },
      own-all header pair rs a.1,
    )

-- the accepted records of a tablet keep its range
pub own-here : (ts : List Tablet) (i : ℕ) (run : Run) (b : AcceptedTablet) (t : Tablet) → IsWellFormed (of_tablets ts) → i < length ts
    → t ≡ get_or ts i t → IsRun run b t → Each (OwnIn b.header) b.records
own-here ts i run b t s below is h =
    let fits = and_parts (list_all (record_fits t.header (children (headers_of ts) t.header.id)) t.records)
    (ends_fit (is_some (children (headers_of ts) t.header.id)) t.records)
    (all-at (tablet_fits (headers_of ts)) ts i t s.tablets (slice_get_read ts (length ts) i t refl below is)) in
    let kept : list_all (record_fits t.header (children (headers_of ts) t.header.id)) (take run.walk.accepted t.records) ≡ true =
    all-take (record_fits t.header (children (headers_of ts) t.header.id)) run.walk.accepted t.records fits.0 in
    subst (λ x. Each (OwnIn x) b.records) (sym h.header)
    (subst (λ xs. Each (OwnIn t.header) xs) (sym h.records)
    (own-all t.header (children (headers_of ts) t.header.id) (take run.walk.accepted t.records) kept))
