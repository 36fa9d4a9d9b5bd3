-- Tablets with the records of entries behind their own.
use Rattle.std.proofs.Common.{◌≡◌, ℕ, zero, suc, ◌+◌, ◌<◌, ◌==◌, true, false, nat_lt, List, [], ◌∷◌, ◌++◌, length, Option, Some, None}
use Rattle.std.proofs.Common.{slice_get, slice_set, refl, sym, ap, ◌∙◌, append_assoc, arith, sum_by}
use Rattle.std.proofs.lemmas.Bool.{and_parts, ltb-true, ne_eqb, eq-eqb}
use Rattle.std.proofs.lemmas.List.{length_push, append-nil}
use Rattle.std.proofs.lemmas.List.Sums.{sum_by-cons, sum_by_push}
use Rattle.std.specs.List.{list_all}
use Rattle.std.specs.Option.{option_map_or}
use Rattle.xc_record.specs.Grown.{grown, with_record}
use Rattle.xc_record.specs.Valid.{headers_of, ops_in}
use Rattle.xc_record.specs.declared.record.Record.{Record}
use Rattle.xc_record.specs.declared.record.Tablet.{Tablet}
use Rattle.xc_text.specs.Spelled.{Entry, given}
use Rattle.xc_text.proofs.ValidParts.{place}
use Rattle.xc_text.proofs.ValidLaws.{records_of, operations_of, sums}
use Rattle.xc_text.proofs.PrintedLaws.{part}
use Rattle.xc_text.proofs.PrintedEnds.{bares}

-- the first tablet has number n
abbrev pub filled : ℕ → List Entry → List Tablet → List Tablet
filled n es [] = []
filled n es (t ∷ ts) = part t.header (t.records ++ given n es) ∷ filled (n + 1) es ts

abbrev pub all_known : ℕ → List Entry → Type 0
all_known count es = list_all (λ e. nat_lt e.id count) es ≡ true

given_other : (id : ℕ) (e : Entry) (es : List Entry) → (e.id == id) ≡ false → given id (e ∷ es) ≡ given id es
given_other id e es h = rw h refl

pub given_same : (id : ℕ) (e : Entry) (es : List Entry) → e.id ≡ id → given id (e ∷ es) ≡ e.item ∷ given id es
given_same id e es h = rw (eq-eqb e.id id h) refl

pub filled_none : (n : ℕ) (ts : List Tablet) → filled n [] ts ≡ ts
filled_none n [] = refl
filled_none n (t ∷ ts) =
    ap (λ rs. part t.header rs ∷ filled (n + 1) [] ts) (append-nil t.records) ∙ ap (λ us. t ∷ us) (filled_none (n + 1) ts)

-- an entry of an earlier tablet gives none of these a record
filled_past : (n : ℕ) (e : Entry) (es : List Entry) (ts : List Tablet) → e.id < n → filled n (e ∷ es) ts ≡ filled n es ts
filled_past n e es [] l = refl
filled_past n e es (t ∷ ts) l =
    ap (λ rs. part t.header (t.records ++ rs) ∷ filled (n + 1) (e ∷ es) ts) (given_other n e es (ne_eqb e.id n (λ same. omega arith)))
    ∙ ap (λ us. part t.header (t.records ++ given n es) ∷ us) (filled_past (n + 1) e es ts (omega arith))

with_later : (j : ℕ) (r : Record) (t : Tablet) (ts : List Tablet) → with_record (suc j) r (t ∷ ts) ≡ t ∷ with_record j r ts
with_later j r t ts = by (slice_get ts j)
  where
    by : (o : Option Tablet)
        → option_map_or (λ u. slice_set (t ∷ ts) (suc j) (grown u r)) o (t ∷ ts) ≡ t ∷ option_map_or (λ u. slice_set ts j (grown u r)) o ts
    by None = refl
    by (Some u) = refl

-- the first entry may be put in before the others
filled_at : (n k : ℕ) (e : Entry) (es : List Entry) (ts : List Tablet) → e.id ≡ n + k → k < length ts
    → filled n es (with_record k e.item ts) ≡ filled n (e ∷ es) ts
filled_at n k e es [] is l = absurd (omega arith)
filled_at n zero e es (t ∷ ts) is l =
    let this : e.id ≡ n = omega arith in
    ap (λ rs. part t.header rs ∷ filled (n + 1) es ts) (append_assoc t.records (e.item ∷ []) (given n es))
    ∙ ap (λ rs. part t.header (t.records ++ rs) ∷ filled (n + 1) es ts) (sym (given_same n e es this))
    ∙ ap (λ us. part t.header (t.records ++ given n (e ∷ es)) ∷ us) (sym (filled_past (n + 1) e es ts (omega arith)))
filled_at n (suc j) e es (t ∷ ts) is l =
    ap (filled n es) (with_later j e.item t ts)
    ∙ ap (λ us. part t.header (t.records ++ given n es) ∷ us) (filled_at (n + 1) j e es ts (omega arith) (omega arith))
    ∙ ap (λ rs. part t.header (t.records ++ rs) ∷ filled (n + 1) (e ∷ es) ts)
    (sym (given_other n e es (ne_eqb e.id n (λ same. omega arith))))

pub filled_entry : (e : Entry) (es : List Entry) (ts : List Tablet) → e.id < length ts
    → filled 0 es (with_record e.id e.item ts) ≡ filled 0 (e ∷ es) ts
filled_entry e es ts l = filled_at 0 e.id e es ts (omega arith) l

pub got_filled : (n k : ℕ) (es : List Entry) (ts : List Tablet) (t : Tablet) → slice_get ts k ≡ Some t
    → slice_get (filled n es ts) k ≡ Some (part t.header (t.records ++ given (n + k) es))
got_filled n k es [] t e = cc
got_filled n zero es (x ∷ ts) t e =
    let here : x ≡ t = cc in
    let at : n ≡ n + 0 = omega arith in
    ap (λ u. Some (part u.header (u.records ++ given n es))) here ∙ ap (λ m. Some (part t.header (t.records ++ given m es))) at
got_filled n (suc j) es (x ∷ ts) t e =
    let at : n + 1 + j ≡ n + suc j = omega arith in
    got_filled (n + 1) j es ts t e ∙ ap (λ m. Some (part t.header (t.records ++ given m es))) at

pub headers_filled : (n : ℕ) (es : List Entry) (ts : List Tablet) → headers_of (filled n es ts) ≡ headers_of ts
headers_filled n es [] = refl
headers_filled n es (t ∷ ts) = ap (λ hs. t.header ∷ hs) (headers_filled (n + 1) es ts)

pub length_filled : (n : ℕ) (es : List Entry) (ts : List Tablet) → length (filled n es ts) ≡ length ts
length_filled n es [] = refl
length_filled n es (t ∷ ts) = let e = length_filled (n + 1) es ts in omega arith

pub length_with : (k : ℕ) (r : Record) (ts : List Tablet) → length (with_record k r ts) ≡ length ts
length_with k r [] = refl
length_with zero r (t ∷ ts) = refl
length_with (suc j) r (t ∷ ts) = ap length (with_later j r t ts) ∙ (let e = length_with j r ts in omega arith)

-- what each tablet is given is its records
pub filled_is : (n : ℕ) (es : List Entry) (ts : List Tablet)
    → ((i : ℕ) (t : Tablet) → slice_get ts i ≡ Some t → given (n + i) es ≡ t.records) → filled n es (bares ts) ≡ ts
filled_is n es [] h = refl
filled_is n es (t ∷ ts) h =
    let at : n ≡ n + 0 = omega arith in
    let first : given n es ≡ t.records = ap (λ m. given m es) at ∙ h 0 t refl in
    ap (λ rs. part t.header rs ∷ filled (n + 1) es (bares ts)) first
    ∙ ap (λ us. t ∷ us) (filled_is (n + 1) es ts (λ i u got. ap (λ m. given m es) (next i) ∙ h (suc i) u got))
  where
    next : (i : ℕ) → n + 1 + i ≡ n + suc i
    next i = omega arith

-- ---- how many records and operations

abbrev pub ops_given : List Entry → ℕ
ops_given es = sum_by (λ e. ops_in e.item.kind) es

sum_with : (f : Tablet → ℕ) (k : ℕ) (r : Record) (ts : List Tablet) (d : ℕ) → ((t : Tablet) → f (grown t r) ≡ f t + d) → k < length ts
    → sum_by f (with_record k r ts) ≡ sum_by f ts + d
sum_with f k r ts d more l =
    let p = place k ts l in
    let e : with_record k r ts ≡ p.before ++ grown p.here r ∷ p.after = rw p.got (p.put (grown p.here r)) in
    ap (sum_by f) e ∙ sums f p.before p.here (grown p.here r) p.after d (more p.here) ∙ ap (λ us. sum_by f us + d) (sym p.whole)

pub known_with : (e : Entry) (es : List Entry) (ts : List Tablet) → all_known (length ts) es
    → all_known (length (with_record e.id e.item ts)) es
known_with e es ts k = ap (λ count. list_all (λ x. nat_lt x.id count) es) (length_with e.id e.item ts) ∙ k

pub records_filled : (es : List Entry) (ts : List Tablet) → all_known (length ts) es
    → records_of (filled 0 es ts) ≡ records_of ts + length es
records_filled [] ts k = ap records_of (filled_none 0 ts) ∙ omega arith
records_filled (e ∷ es) ts k =
    let p = and_parts (nat_lt e.id (length ts)) (list_all (λ x. nat_lt x.id (length ts)) es) k in
    let l = ltb-true e.id (length ts) p.0 in
    let here : records_of (with_record e.id e.item ts) ≡ records_of ts + 1 =
    sum_with (λ t. length t.records) e.id e.item ts 1 (λ t. length_push t.records e.item) l in
    let more = records_filled es (with_record e.id e.item ts) (known_with e es ts p.1) in
    ap records_of (sym (filled_entry e es ts l)) ∙ omega arith

pub operations_filled : (es : List Entry) (ts : List Tablet) → all_known (length ts) es
    → operations_of (filled 0 es ts) ≡ operations_of ts + ops_given es
operations_filled [] ts k = ap operations_of (filled_none 0 ts) ∙ omega arith
operations_filled (e ∷ es) ts k =
    let p = and_parts (nat_lt e.id (length ts)) (list_all (λ x. nat_lt x.id (length ts)) es) k in
    let l = ltb-true e.id (length ts) p.0 in
    let here : operations_of (with_record e.id e.item ts) ≡ operations_of ts + ops_in e.item.kind =
    sum_with (λ t. sum_by (λ q. ops_in q.kind) t.records) e.id e.item ts (ops_in e.item.kind)
    (λ t. sum_by_push (λ q. ops_in q.kind) t.records e.item) l in
    let more = operations_filled es (with_record e.id e.item ts) (known_with e es ts p.1) in
    let all = sum_by-cons (λ x. ops_in x.item.kind) e es in
    ap operations_of (sym (filled_entry e es ts l)) ∙ omega arith
