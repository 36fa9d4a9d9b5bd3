-- Well-formed logs make a feed, and their records keep their headers. A feed stays the one that it is, call after call.
use Rattle.std.proofs.Common.{◌≡◌, ℕ, zero, suc, ◌+◌, ◌-◌, ◌<◌, ◌≤◌, Bool, true, false, List, [], ◌∷◌, length, get_or, inl, inr, take, drop}
use Rattle.std.proofs.Common.{map, refl, sym, ap, ◌∙◌, subst, add-zero, zero-add, arith}
use Rattle.std.specs.Prelude.{Option, Some, None, ◌⊎◌, IsTrue, IsSome, is_some, slice_get, slice_index, sum_by, ◌&&◌, ◌==◌, nat_le}
use Rattle.std.specs.Prelude.{if◌then◌else◌, option_map}
use Rattle.std.specs.Bool.{beq}
use Rattle.std.specs.Option.{option_map_or}
use Rattle.std.proofs.lemmas.List.{length-map}
use Rattle.std.proofs.lemmas.List.Sums.{get_or-le-sum_by}
use Rattle.std.proofs.lemmas.Option.{slice_get_cases}
use Rattle.xc_record.specs.Accepted.{records}
use Rattle.xc_record.proofs.HeaderLists.{get_of_headers}
use Rattle.std.specs.List.{list_all}
use Rattle.std.proofs.lemmas.Bool.{and_parts, both_ways, eqb-true, not-true, eq-eqb, and_from, ne_eqb}
use Rattle.std.proofs.Math.Bool.{and-false}
use Rattle.xc_record.specs.declared.record.Header.{Header}
use Rattle.xc_record.specs.declared.record.Kind.{Kind}
use Rattle.xc_record.specs.declared.record.Kind.TheVariants.{Write, Intent, Apply, Abort, Safe, Split}
use Rattle.xc_record.specs.declared.record.Op.{Op}
use Rattle.xc_record.specs.declared.record.Record.{Record}
use Rattle.xc_record.specs.declared.record.Tablet.{Tablet}
use Rattle.xc_record.specs.declared.record.Logs.{Logs}
use Rattle.xc_record.specs.Order.{is_split}
use Rattle.xc_record.specs.Headers.{children, are_headers}
use Rattle.xc_record.specs.Valid.{is_valid, headers_of, tablet_fits, record_fits, kind_fits, op_fits, ops_fit, ops_keep, keeps_header}
use Rattle.xc_record.specs.Valid.{ends_fit, is_time, is_txn}
use Rattle.xc_logs.specs.Feed.{IsFeed, KeepHeader, SameFeed, counts_of, fetched, kind_keeps, keep_from}
use Rattle.xc_logs.proofs.ValidFacts.{valid_parts, headers_parts}
use Rattle.xc_record.proofs.ListLaws.{all-at}
use Rattle.xc_record.proofs.HeaderLaws.{Numbered-at, headers_fit-all}
use Rattle.xc_record.proofs.OpsLaws.{ops-hold}

-- ---- records that fit keep the header

beq-same : (b : Bool) → beq b b ≡ true
beq-same true = refl
beq-same false = refl

ops_fit-keep : (header : Header) (ops : List Op) → ops_fit header ops ≡ true → ops_keep header ops ≡ true
ops_fit-keep header ops e =
    let some = and_parts (nat_le 1 (length ops)) (nat_le (length ops) 64 && list_all (op_fits header) ops) e in
    let few = and_parts (nat_le (length ops) 64) (list_all (op_fits header) ops) some.1 in
    and_from _ _ few.0 (ops-hold header ops few.1)

fit_keeps : (header : Header) (pair : Option (Header × Header)) (kind : Kind) → kind_fits header pair kind ≡ true
    → keeps_header header pair kind ≡ true
fit_keeps header pair (Write ops) fit = ops_fit-keep header ops fit
fit_keeps header pair (Intent sub txn ops) fit =
    let rest = and_parts (is_txn txn) (nat_le sub 64 && ops_fit header ops) fit in
    ops_fit-keep header ops (and_parts (nat_le sub 64) (ops_fit header ops) rest.1).1
fit_keeps header pair (Apply txn commit without) fit = refl
fit_keeps header pair (Abort txn) fit = refl
fit_keeps header pair (Safe value) fit = refl
fit_keeps header pair (Split at left right) fit = fit

-- a split that ends the tablet, or another record that doesn't
keeps : (header : Header) (pair : Option (Header × Header)) (ends : Bool) (kind : Kind) → is_split kind ≡ ends
    → kind_fits header pair kind ≡ true → kind_keeps header pair ends kind ≡ true
keeps header pair ends kind same fit = and_from _ _ (rw same (beq-same ends)) (fit_keeps header pair kind fit)

no_end : (has : Bool) (number count : ℕ) (rs : List Record) → number + suc (length rs) ≡ count + 1 → ends_fit has rs ≡ true
    → number == count && has ≡ false
no_end true number count [] size e = cc
no_end false number count [] size e = and-false (number == count)
no_end has number count (r ∷ rs) size e = let apart : number == count ≡ false = ne_eqb number count (λ is. omega arith) in rw apart refl

keep_none : (header : Header) (pair : Option (Header × Header)) (count number : ℕ) (rs : List Record) → length rs ≡ 0
    → keep_from header pair count number rs ≡ true
keep_none header pair count number [] e = refl
keep_none header pair count number (r ∷ rs) e = absurd (omega arith)

keeps_all : (header : Header) (pair : Option (Header × Header)) (count number : ℕ) (rs : List Record) → number + length rs ≡ count + 1
    → list_all (record_fits header pair) rs ≡ true → ends_fit (is_some pair) rs ≡ true → keep_from header pair count number rs ≡ true
keeps_all header pair count number [] size fit ends = refl
keeps_all header pair count number (r ∷ rs) size fit ends =
    go (is_split r.kind) refl ends (keeps_all header pair count (number + 1) rs (omega arith) parts.1)
  where
    parts : (record_fits header pair r ≡ true) × (list_all (record_fits header pair) rs ≡ true)
    parts = and_parts _ _ fit

    kind : kind_fits header pair r.kind ≡ true
    kind = (and_parts (is_time r.time) (kind_fits header pair r.kind) parts.0).1

    go : (b : Bool) → is_split r.kind ≡ b → (if b then (is_some pair && length rs == 0) else ends_fit (is_some pair) rs) ≡ true
        → (ends_fit (is_some pair) rs ≡ true → keep_from header pair count (number + 1) rs ≡ true)
        → keep_from header pair count number (r ∷ rs) ≡ true
    go true is last later =
        let end = and_parts (is_some pair) (length rs == 0) last in
        let none : length rs ≡ 0 = eqb-true (length rs) 0 end.1 in
        and_from _ _ (keeps header pair _ r.kind (is
        ∙ sym (and_from _ _ (eq-eqb number count (omega arith)) end.0)) kind) (keep_none header pair count (number + 1) rs none)
    go false is rest later =
        and_from _ _ (keeps header pair _ r.kind (is ∙ sym (no_end (is_some pair) number count rs size rest)) kind) (later rest)

-- ---- the rest and the front of records that keep the header

pub keep_from-drop : (header : Header) (pair : Option (Header × Header)) (count number k : ℕ) (rs : List Record)
    → keep_from header pair count number rs ≡ true → keep_from header pair count (number + k) (drop k rs) ≡ true
keep_from-drop header pair count number zero rs e = subst (λ n. keep_from header pair count n rs ≡ true) (sym (add-zero number)) e
keep_from-drop header pair count number (suc k) [] e = refl
keep_from-drop header pair count number (suc k) (r ∷ rs) e =
    let parts = and_parts (kind_keeps header pair (number == count && is_some pair) r.kind) (keep_from header pair count (number + 1) rs) e
    in
    let on : number + 1 + k ≡ number + suc k = omega arith in
    subst (λ n. keep_from header pair count n (drop k rs) ≡ true) on (keep_from-drop header pair count (number + 1) k rs parts.1)

pub keep_from-take : (header : Header) (pair : Option (Header × Header)) (count number k : ℕ) (rs : List Record)
    → keep_from header pair count number rs ≡ true → keep_from header pair count number (take k rs) ≡ true
keep_from-take header pair count number zero rs e = refl
keep_from-take header pair count number (suc k) [] e = refl
keep_from-take header pair count number (suc k) (r ∷ rs) e =
    let parts = and_parts (kind_keeps header pair (number == count && is_some pair) r.kind) (keep_from header pair count (number + 1) rs) e
    in
    and_from _ _ parts.0 (keep_from-take header pair count (number + 1) k rs parts.1)

-- ---- a tablet by its number

number_is : (hs : List Header) (i : ℕ) (h : Header) → are_headers hs ≡ true → slice_get hs i ≡ Some h → h.id ≡ i
number_is hs i h e there = Numbered-at 0 hs i h (headers_fit-all hs (headers_parts hs e).1).1.numbered there ∙ zero-add i

count_at : (ts : List Tablet) (i : ℕ) (t : Tablet) → slice_get ts i ≡ Some t
    → slice_index (map (λ (t : Tablet). length t.records) ts) i ≡ length t.records
count_at [] i t there = cc
count_at (x ∷ ts) zero t there = let same : x ≡ t = cc in ap (λ (y : Tablet). length y.records) same
count_at (x ∷ ts) (suc i) t there = count_at ts i t there

past_count : (ts : List Tablet) (i : ℕ) → length ts ≤ i → slice_index (map (λ (t : Tablet). length t.records) ts) i ≡ 0
past_count [] i past = refl
past_count (x ∷ ts) zero past = absurd (omega arith)
past_count (x ∷ ts) (suc i) past = past_count ts i (omega arith)

count_small : (ts : List Tablet) (i : ℕ)
    → slice_index (map (λ (t : Tablet). length t.records) ts) i ≤ sum_by (λ (t : Tablet). length t.records) ts
count_small ts i = go (slice_get_cases ts i).1
  where
    go : ((x : Tablet) × (i < length ts) × (slice_get ts i ≡ Some x) × (get_or ts i x ≡ x)) ⊎ ((length ts ≤ i) × (slice_get ts i ≡ None))
        → slice_index (map (λ (t : Tablet). length t.records) ts) i ≤ sum_by (λ (t : Tablet). length t.records) ts
    go (inl (t, within, there, here)) =
        let least = get_or-le-sum_by (λ (t : Tablet). length t.records) ts i t within in
        omega (arith, least, count_at ts i t there, ap (λ (y : Tablet). length y.records) here)
    go (inr (past, none)) = omega (arith, past_count ts i past)

-- what is known of a tablet of well-formed logs
record IsTabletOf (logs : Logs) (id : ℕ) (t : Tablet) : Type 0 where
  header : slice_get (headers_of logs.tablets) id ≡ Some t.header
  number : t.header.id ≡ id
  count : slice_index (counts_of logs) id ≡ length t.records
  fit : list_all (record_fits t.header (children (headers_of logs.tablets) id)) t.records ≡ true
  end : ends_fit (is_some (children (headers_of logs.tablets) id)) t.records ≡ true

tablet_of : (logs : Logs) (id : ℕ) (t : Tablet) → IsTrue (is_valid logs) → slice_get logs.tablets id ≡ Some t → IsTabletOf logs id t
tablet_of logs id t valid there =
    let well = valid_parts logs valid in
    let header : slice_get (headers_of logs.tablets) id ≡ Some t.header =
    get_of_headers logs.tablets id ∙ ap (option_map (λ (t : Tablet). t.header)) there in
    let number : t.header.id ≡ id = number_is (headers_of logs.tablets) id t.header well.headers header in
    let all = all-at (tablet_fits (headers_of logs.tablets)) logs.tablets id t well.tablets there in
    let parts = and_parts (list_all (record_fits t.header (children (headers_of logs.tablets) t.header.id)) t.records)
    (ends_fit (is_some (children (headers_of logs.tablets) t.header.id)) t.records) all in
    record {
      header = header;
      number = number;
      count = count_at logs.tablets id t there;
      fit = subst (λ n. list_all (record_fits t.header (children (headers_of logs.tablets) n)) t.records ≡ true) number parts.0;
      end = subst (λ n. ends_fit (is_some (children (headers_of logs.tablets) n)) t.records ≡ true) number parts.1;
    }

-- ---- the feed

some_records : (has : Bool) (rs : List Record) → has ≡ true → ends_fit has rs ≡ true → 1 ≤ length rs
some_records has [] e end = absurd (both_ways has (not-true has end) e)
some_records has (r ∷ rs) e end = omega arith

parent_counts : (logs : Logs) (id : ℕ) → IsTrue (is_valid logs) → id < length logs.tablets → IsSome (children (headers_of logs.tablets) id)
    → ((x : Tablet) × (id < length logs.tablets) × (slice_get logs.tablets id ≡ Some x) × (get_or logs.tablets id x ≡ x)) ⊎
    ((length logs.tablets ≤ id) × (slice_get logs.tablets id ≡ None))
    → 1 ≤ slice_index (counts_of logs) id
parent_counts logs id valid within has (inl (t, small, there, here)) =
    let tablet = tablet_of logs id t valid there in
    let some = some_records (is_some (children (headers_of logs.tablets) id)) t.records has tablet.end in
    let count : slice_index (counts_of logs) id ≡ length t.records = tablet.count in
    omega (arith, some, count)
parent_counts logs id valid within has (inr (past, none)) = absurd (omega arith)

pub feed_of : (logs : Logs) → IsTrue (is_valid logs) → IsFeed (headers_of logs.tablets) (counts_of logs) (Some logs)
feed_of logs valid =
    let well = valid_parts logs valid in
    record {
      fit = well.headers;
      each = length-map logs.tablets _ ∙ sym (length-map logs.tablets _);
      small = λ id. let least = count_small logs.tablets id in let most = well.records in omega arith;
      parents = λ id within has. parent_counts logs id valid (omega (arith, within, length-map logs.tablets (λ (t : Tablet). t.header))) has
          (slice_get_cases logs.tablets id).1;
      told = record { valid = valid; headers_are = refl; counts_are = refl };
    }

kept : (logs : Logs) (id : ℕ) (t : Tablet) (from max : ℕ) → IsTrue (is_valid logs) → slice_get logs.tablets id ≡ Some t → 1 ≤ from
    → KeepHeader (headers_of logs.tablets) (counts_of logs) id from (fetched t.records from max)
kept logs id t from max valid there first =
    let tablet = tablet_of logs id t valid there in
    let pair = children (headers_of logs.tablets) id in
    let whole : keep_from t.header pair (length t.records) 1 t.records ≡ true =
    keeps_all t.header pair (length t.records) 1 t.records (omega arith) tablet.fit tablet.end in
    let on : 1 + (from - 1) ≡ from = omega arith in
    let rest = subst (λ n. keep_from t.header pair (length t.records) n (drop (from - 1) t.records) ≡ true) on
    (keep_from-drop t.header pair (length t.records) 1 (from - 1) t.records whole) in
    let front = keep_from-take t.header pair (length t.records) from max (drop (from - 1) t.records) rest in
    rw tablet.header (subst (λ n. keep_from t.header pair n from (fetched t.records from max) ≡ true) (sym tablet.count) front)

-- what a fetch of well-formed logs gives keeps the header
pub kept_at : (logs : Logs) (id from max : ℕ) → IsTrue (is_valid logs) → id < length logs.tablets → 1 ≤ from
    → KeepHeader (headers_of logs.tablets) (counts_of logs) id from (fetched (records logs id) from max)
kept_at logs id from max valid within first = go (slice_get_cases logs.tablets id).1
  where
    go : ((x : Tablet) × (id < length logs.tablets) × (slice_get logs.tablets id ≡ Some x) × (get_or logs.tablets id x ≡ x)) ⊎
        ((length logs.tablets ≤ id) × (slice_get logs.tablets id ≡ None))
        → KeepHeader (headers_of logs.tablets) (counts_of logs) id from (fetched (records logs id) from max)
    go (inl (t, small, there, here)) =
        let same : records logs id ≡ t.records = ap (λ (o : Option Tablet). option_map_or (λ (t : Tablet). t.records) o []) there in
        subst (λ rs. KeepHeader (headers_of logs.tablets) (counts_of logs) id from (fetched rs from max)) (sym same)
        (kept logs id t from max valid there first)
    go (inr (past, none)) = absurd (omega arith)

-- ---- the same feed

pub same-feed : {Of : Type 0} {headers : Of → List Header} {counts : Of → List ℕ} {logs : Of → Option Logs} {faults : Of → ℕ} (x : Of)
    → SameFeed headers counts logs faults x x
same-feed x = record { same_headers = refl; same_counts = refl; same_logs = refl; later = omega arith }

pub same-on : {Of : Type 0} {headers : Of → List Header} {counts : Of → List ℕ} {logs : Of → Option Logs} {faults : Of → ℕ} (x y z : Of)
    → SameFeed headers counts logs faults x y → SameFeed headers counts logs faults y z → SameFeed headers counts logs faults x z
same-on x y z first second = record {
  same_headers = second.same_headers ∙ first.same_headers;
  same_counts = second.same_counts ∙ first.same_counts;
  same_logs = second.same_logs ∙ first.same_logs;
  later = let a = first.later in let b = second.later in omega arith;
}
