-- What is printed of valid logs spells them: the entries of tablet 0, then those of tablet 1 and so on.
use Rattle.std.proofs.Common.{◌≡◌, ℕ, zero, suc, ◌+◌, ◌<◌, ◌≤◌, ◌==◌, Bool, true, false, ◌&&◌, nat_le, nat_lt, List, [], ◌∷◌, ◌++◌, length}
use Rattle.std.proofs.Common.{map, flat_map, Option, Some, None, Result, Ok, Err, if◌then◌else◌, slice_get, refl, sym, ap, ◌∙◌, codes}
use Rattle.std.proofs.Common.{arith}
use Rattle.std.proofs.lemmas.Bool.{and_parts, lt-ltb, ne_eqb, eq-eqb}
use Rattle.std.proofs.lemmas.List.{append-nil}
use Rattle.std.proofs.lemmas.List.Folds.{list_all-append}
use Rattle.std.specs.List.{list_all}
use Rattle.std.proofs.lemmas.Grind.{flat_map-append}
use Rattle.xc_record.specs.Headers.{headers_fit, are_headers}
use Rattle.xc_record.specs.Valid.{headers_of, is_valid}
use Rattle.std.specs.Option.{option_map_or}
use Rattle.std.specs.Result.{IfOk}
use Rattle.xc_record.specs.declared.record.Op.{Op}
use Rattle.xc_record.specs.declared.record.Kind.{Kind}
use Rattle.xc_record.specs.declared.record.Kind.TheVariants.{Write, Intent, Apply, Abort, Safe, Split}
use Rattle.xc_record.specs.declared.record.Record.{Record}
use Rattle.xc_record.specs.declared.record.Tablet.{Tablet}
use Rattle.xc_record.specs.declared.record.Logs.{Logs}
use Rattle.xc_text.specs.LogText.{logs_of}
use Rattle.xc_text.specs.Printed.{header_text, record_text, records_text, spelled, op_spelled, kind_spelled, tablet_spelled, logs_spelled}
use Rattle.xc_text.specs.Printed.{least_version, first_line, text_of}
use Rattle.xc_text.specs.declared.line.Version.{Version}
use Rattle.xc_text.specs.declared.line.Version.TheVariants.{One, Two}
use Rattle.xc_text.specs.Spelled.{Entry, entry_text, given, PrintedIsSpelled}
use Rattle.xc_text.proofs.SpelledRun.{spelled_is_read}
use Rattle.xc_record.proofs.HeaderLaws.{Numbered, headers_fit-all}

abbrev entries : ℕ → List Record → List Entry
entries id rs = map (λ r. record { id = id; item = r }) rs

abbrev printed : List Tablet → List Entry
printed ts = flat_map (λ t. entries t.header.id t.records) ts

-- ---- their text

entries_text : (v : Version) (id : ℕ) (rs : List Record) → flat_map (entry_text v) (entries id rs) ≡ flat_map (record_text v id) rs
entries_text v id [] = refl
entries_text v id (r ∷ rs) = ap (λ more. record_text v id r ++ more) (entries_text v id rs)

printed_text : (v : Version) (ts : List Tablet) → flat_map (entry_text v) (printed ts) ≡ flat_map (records_text v) ts
printed_text v [] = refl
printed_text v (t ∷ ts) =
    flat_map-append (entry_text v) (entries t.header.id t.records) (printed ts)
    ∙ ap (λ front. front ++ flat_map (entry_text v) (printed ts)) (entries_text v t.header.id t.records)
    ∙ ap (λ more. records_text v t ++ more) (printed_text v ts)

-- ---- what they give each tablet

given_append : (id : ℕ) (xs ys : List Entry) → given id (xs ++ ys) ≡ given id xs ++ given id ys
given_append id [] ys = refl
given_append id (x ∷ xs) ys = by (given_append id xs ys) (x.id == id)
  where
    by : given id (xs ++ ys) ≡ given id xs ++ given id ys → (b : Bool)
        → (if b then x.item ∷ given id (xs ++ ys) else given id (xs ++ ys)) ≡ (if b then x.item ∷ given id xs else given id xs) ++ given id
        ys
    by e true = ap (λ rs. x.item ∷ rs) e
    by e false = e

given_own : (id : ℕ) (rs : List Record) (n : ℕ) → (n == id) ≡ true → given id (entries n rs) ≡ rs
given_own id [] n h = refl
given_own id (r ∷ rs) n h = rw h (ap (λ more. r ∷ more) (given_own id rs n h))

given_other : (id : ℕ) (rs : List Record) (n : ℕ) → (n == id) ≡ false → given id (entries n rs) ≡ []
given_other id [] n h = refl
given_other id (r ∷ rs) n h = rw h (given_other id rs n h)

-- the records of a tablet, and what the others are given
given_parts : (id : ℕ) (t : Tablet) (ts : List Tablet) (own rest : List Record) → given id (entries t.header.id t.records) ≡ own
    → given id (printed ts) ≡ rest → given id (printed (t ∷ ts)) ≡ own ++ rest
given_parts id t ts own rest a b =
    given_append id (entries t.header.id t.records) (printed ts) ∙ ap (λ rs. rs ++ given id (printed ts)) a ∙ ap (λ rs. own ++ rs) b

given_before : (n id : ℕ) (ts : List Tablet) → Numbered n (headers_of ts) → id < n → given id (printed ts) ≡ []
given_before n id [] ids l = refl
given_before n id (t ∷ ts) ids l =
    let is : t.header.id ≡ n = ids.0 in
    given_parts id t ts [] [] (given_other id t.records t.header.id (ne_eqb t.header.id id (λ same. omega arith)))
    (given_before (n + 1) id ts ids.1 (omega arith))

given_printed : (n j : ℕ) (ts : List Tablet) (t : Tablet) → Numbered n (headers_of ts) → slice_get ts j ≡ Some t
    → given (n + j) (printed ts) ≡ t.records
given_printed n j [] t ids e = cc
given_printed n zero (x ∷ ts) t ids e =
    let is : x.header.id ≡ n = ids.0 in
    let here : x ≡ t = cc in
    given_parts (n + 0) x ts x.records [] (given_own (n + 0) x.records x.header.id (eq-eqb x.header.id (n + 0) (omega arith)))
    (given_before (n + 1) (n + 0) ts ids.1 (omega arith))
    ∙ append-nil x.records ∙ ap (λ u. u.records) here
given_printed n (suc j) (x ∷ ts) t ids e =
    let is : x.header.id ≡ n = ids.0 in
    let at : n + suc j ≡ n + 1 + j = omega arith in
    given_parts (n + suc j) x ts [] t.records
    (given_other (n + suc j) x.records x.header.id (ne_eqb x.header.id (n + suc j) (λ same. omega arith)))
    (ap (λ id. given id (printed ts)) at ∙ given_printed (n + 1) j ts t ids.1 e)

-- ---- their numbers

abbrev all_below : ℕ → List Entry → Bool
all_below count es = list_all (λ e. nat_lt e.id count) es

own_known : (count id : ℕ) (rs : List Record) → id < count → all_below count (entries id rs) ≡ true
own_known count id [] l = refl
own_known count id (r ∷ rs) l = rw (lt-ltb id count l) (own_known count id rs l)

printed_known : (count n : ℕ) (ts : List Tablet) → Numbered n (headers_of ts) → n + length ts ≤ count → all_below count (printed ts) ≡ true
printed_known count n [] ids l = refl
printed_known count n (t ∷ ts) ids l =
    let is : t.header.id ≡ n = ids.0 in
    list_all-append (λ e. nat_lt e.id count) (entries t.header.id t.records) (printed ts)
    ∙ rw (own_known count t.header.id t.records (omega arith)) (printed_known count (n + 1) ts ids.1 (omega arith))

-- ---- their words

own_spelled : (v : Version) (id : ℕ) (rs : List Record) → list_all (λ r. kind_spelled v r.kind) rs ≡ true
    → list_all (λ e. kind_spelled v e.item.kind) (entries id rs) ≡ true
own_spelled v id [] h = refl
own_spelled v id (r ∷ rs) h =
    let p = and_parts (kind_spelled v r.kind) (list_all (λ r. kind_spelled v r.kind) rs) h in rw p.0 (own_spelled v id rs p.1)

printed_spelled : (v : Version) (ts : List Tablet) → list_all (tablet_spelled v) ts ≡ true
    → list_all (λ e. kind_spelled v e.item.kind) (printed ts) ≡ true
printed_spelled v [] h = refl
printed_spelled v (t ∷ ts) h =
    let p = and_parts (tablet_spelled v t) (list_all (tablet_spelled v) ts) h in
    list_all-append (λ e. kind_spelled v e.item.kind) (entries t.header.id t.records) (printed ts)
    ∙ rw (own_spelled v t.header.id t.records p.0) (printed_spelled v ts p.1)

-- version 2 can say all
all_two : {X : Type 0} (p : X → Bool) → ((x : X) → p x ≡ true) → (xs : List X) → list_all p xs ≡ true
all_two p h [] = refl
all_two p h (x ∷ xs) = rw (h x) (all_two p h xs)

op_two : (op : Op) → op_spelled Two op ≡ true
op_two op = by op.value
  where
    by : (o : Option (List ℕ)) → option_map_or (spelled Two) o true ≡ true
    by None = refl
    by (Some value) = refl

kind_two : (k : Kind) → kind_spelled Two k ≡ true
kind_two (Write ops) = all_two (op_spelled Two) op_two ops
kind_two (Intent sub txn ops) = all_two (op_spelled Two) op_two ops
kind_two (Apply txn commit without) = refl
kind_two (Abort txn) = refl
kind_two (Safe value) = refl
kind_two (Split place left right) = refl

pub logs_two : (logs : Logs) → logs_spelled Two logs ≡ true
logs_two logs = all_two (tablet_spelled Two) (λ t. all_two (λ r. kind_spelled Two r.kind) (λ r. kind_two r.kind) t.records) logs.tablets

-- and so can the least version that is chosen
pub logs_least : (logs : Logs) → logs_spelled (least_version logs) logs ≡ true
logs_least logs = by (logs_spelled One logs) refl
  where
    by : (b : Bool) → logs_spelled One logs ≡ b → logs_spelled (if b then One else Two) logs ≡ true
    by true e = e
    by false e = logs_two logs

-- ---- the whole

pub printed_is_spelled : PrintedIsSpelled
unfolding text_of is_valid are_headers
printed_is_spelled version logs v spell =
    let ts = logs.tablets in
    let all = and_parts (nat_le (length (headers_of ts)) 64 && headers_fit (headers_of ts)) _ v in
    let p = and_parts (nat_le (length (headers_of ts)) 64) (headers_fit (headers_of ts)) all.0 in
    let ids : Numbered 0 (headers_of ts) = (headers_fit-all (headers_of ts) p.1).1.numbered in
    record {
      valid = v;
      version = version;
      entries = printed ts;
      lines = ap (λ more. first_line version ++ (flat_map (λ t. header_text t.header) ts ++ (more ++ codes "end\n")))
          (sym (printed_text version ts));
      spelled = printed_spelled version ts spell;
      known = printed_known (length ts) 0 ts ids (omega arith);
      records = λ id t got. ap (λ m. given m (printed ts)) (from_zero id) ∙ given_printed 0 id ts t ids got;
    }
  where
    from_zero : (i : ℕ) → i ≡ 0 + i
    from_zero i = omega arith

printed_is_read : (version : Version) (logs : Logs) (text : List ℕ) → is_valid logs ≡ true → logs_spelled version logs ≡ true
    → text ≡ text_of version logs → logs_of text ≡ Ok logs
printed_is_read version logs text v spell e =
    ap logs_of e ∙ spelled_is_read (text_of version logs) logs (printed_is_spelled version logs v spell)

-- what a call printed, if it did
pub text_back : {E : Type 0} (version : Version) (logs : Logs) (r : Result (List ℕ) E) → is_valid logs ≡ true
    → logs_spelled version logs ≡ true → IfOk r (λ text. text ≡ text_of version logs) → IfOk r (λ text. logs_of text ≡ Ok logs)
text_back version logs (Ok text) v spell e = printed_is_read version logs text v spell e
text_back version logs (Err x) v spell e = tt
