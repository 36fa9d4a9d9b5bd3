-- What is read is valid.
use Rattle.std.proofs.Common.{◌≡◌, ℕ, ◌+◌, ◌-◌, ◌^◌, ◌<◌, ◌≤◌, ◌==◌, Bool, true, false, not, nat_le, nat_lt, List, [], ◌∷◌, ◌++◌, length}
use Rattle.std.proofs.Common.{Option, Some, None, Result, Ok, Err, refl, sym, ap, subst, ◌∙◌, append_assoc, arith, sum_by}
use Rattle.std.proofs.lemmas.Bool.{and_parts, ltb-true, le-leb, leb-false, ltb-false, eqb-true, or_parts, not-false}
use Rattle.std.proofs.lemmas.Bool.Decides.{nat_tests}
use Rattle.std.proofs.lemmas.List.Folds.{list_all-append}
use Rattle.std.proofs.lemmas.List.Sums.{sum_by-append, sum_by-cons, sum_by_push}
use Rattle.std.proofs.lemmas.List.{length_push, append-nil, length-map, map-append}
use Rattle.std.specs.List.{list_all, list_any}
use Rattle.xc_base.specs.Words.{split_on}
use Rattle.xc_record.specs.Grown.{grown, with_record}
use Rattle.xc_record.specs.Headers.{fit_from, fits, next_after, may_end, headers_fit, are_headers, children}
use Rattle.xc_record.specs.Valid.{is_time, headers_of, record_fits, ops_in, is_valid}
use Rattle.xc_record.specs.declared.headers.Next.{Next}
use Rattle.xc_record.specs.declared.headers.Next.TheVariants.{RootAt}
use Rattle.xc_record.specs.declared.record.Record.{Record}
use Rattle.xc_record.specs.declared.record.Header.{Header}
use Rattle.xc_record.specs.declared.record.Tablet.{Tablet}
use Rattle.xc_record.specs.declared.record.Logs.{Logs}
use Rattle.std.specs.Result.{IfOk}
use Rattle.xc_text.specs.declared.kind.LogKind.{LogKind}
use Rattle.xc_text.specs.declared.kind.LogsFail.{LogsFail}
use Rattle.xc_text.specs.declared.line.Version.{Version}
use Rattle.xc_text.specs.declared.line.LogLine.{LogLine}
use Rattle.xc_text.specs.declared.line.LogLine.TheVariants as line
use Rattle.xc_text.specs.declared.reading.Reading.{Reading}
use Rattle.xc_text.specs.declared.reading.Stage.{Stage}
use Rattle.xc_text.specs.declared.reading.Stage.TheVariants.{Start, Headers, Records, Ended}
use Rattle.xc_text.specs.Kinds.{first_kind}
use Rattle.xc_text.specs.Lines.{line_of, header_numbers_fit, kind_numbers_fit, kind_names_fit}
use Rattle.xc_text.specs.LogText.{begun, in_range, is_split_off, is_orphaned, misplaced, records_began, kinds, moved, step, step_by}
use Rattle.xc_text.specs.LogText.{unless_bad, ending, rest_of_text, go_on, lines_from, logs_of, Reads}
use Rattle.xc_text.proofs.ValidParts.{has_ops, kind_ok, open_fit, split_off_is, open_push, grows, all_tablets_ok, is_bare, all_bare_grow}
use Rattle.xc_text.proofs.ValidParts.{place}
use Rattle.xc_text.proofs.OpsHeld.{holds_of, line_has_ops, line_some}
use Rattle.xc_record.proofs.ListLaws.{none-cases}

-- what a stage says of the tablets
abbrev pub AtStage : Stage → Next → List Tablet → Type 0
AtStage Start next ts = list_all (λ t. is_bare t.records) ts ≡ true
AtStage Headers next ts = list_all (λ t. is_bare t.records) ts ≡ true
AtStage Records next ts = Unit {0}
AtStage Ended next ts = (may_end next ≡ true) × (list_any (is_orphaned (headers_of ts)) ts ≡ false)

abbrev pub records_of : List Tablet → ℕ
records_of ts = sum_by (λ t. length t.records) ts

abbrev pub operations_of : List Tablet → ℕ
operations_of ts = sum_by (λ t. sum_by (λ r. ops_in r.kind) t.records) ts

-- what the lines so far gave is valid as far as it goes
pub record Good (s : Reading) : Type 0 where
  pub headers : (tail : List Header) → fit_from [] (RootAt 0) (headers_of s.tablets ++ tail) ≡ fit_from (headers_of s.tablets) s.next tail
  pub count : length s.tablets ≤ 64
  pub records : s.records_left + records_of s.tablets ≡ 2 ^ 20
  pub operations : s.operations_left + operations_of s.tablets ≡ 2 ^ 22
  pub grow : list_all (grows (headers_of s.tablets)) s.tablets ≡ true
  pub stage : AtStage s.stage s.next s.tablets

good_begun : Good begun
good_begun = record { headers = λ tail. refl; count = omega arith; records = refl; operations = refl; grow = refl; stage = refl }

not_zero : (a : ℕ) → (a == 0) ≡ false → 1 ≤ a
not_zero a h = grind (arith, nat_tests)

-- ---- the rules that a line met

-- every row's test is false
abbrev pub AllFalse : List (Bool × LogKind) → Type 0
AllFalse [] = Unit {0}
AllFalse (row ∷ rows) = (row.0 ≡ false) × AllFalse rows

pub all_false : (rows : List (Bool × LogKind)) → first_kind rows ≡ None → AllFalse rows
all_false [] h = tt
all_false (row ∷ rows) h = let p = none-cases row.0 row.1 (first_kind rows) h in (p.0, all_false rows p.1)

-- ---- the first line and the headers

bare_at_first : (stage : Stage) (v : Version) (next : Next) (ts : List Tablet) → misplaced stage (line.First v) ≡ false
    → AtStage stage next ts → list_all (λ t. is_bare t.records) ts ≡ true
bare_at_first Start v next ts m a = a
bare_at_first Headers v next ts m a = cc
bare_at_first Records v next ts m a = cc
bare_at_first Ended v next ts m a = cc

good_first : (s : Reading) (v : Version) → Good s → AllFalse (kinds s (line.First v)) → Good (moved s (line.First v))
good_first s v g f =
    record {
      headers = g.headers;
      count = g.count;
      records = g.records;
      operations = g.operations;
      grow = g.grow;
      stage = bare_at_first
          s.stage v s.next s.tablets f.0 g.stage;
    }

bare_at_header : (stage : Stage) (next : Next) (ts : List Tablet) (h : Header) → misplaced stage (line.Tablet h) ≡ false
    → records_began stage ≡ false → AtStage stage next ts → (stage ≡ Headers) × (list_all (λ t. is_bare t.records) ts ≡ true)
bare_at_header Start next ts h m b a = cc
bare_at_header Headers next ts h m b a = (refl, a)
bare_at_header Records next ts h m b a = cc
bare_at_header Ended next ts h m b a = cc

headers_append : (xs ys : List Tablet) → headers_of (xs ++ ys) ≡ headers_of xs ++ headers_of ys
headers_append xs ys = map-append (λ t. t.header) xs ys

abbrev pub bare : Header → Tablet
bare h = record { header = h; records = [] }

headers_push : (ts : List Tablet) (h : Header) → headers_of (ts ++ bare h ∷ []) ≡ headers_of ts ++ h ∷ []
headers_push ts h = headers_append ts (bare h ∷ [])

one_more : (hs : List Header) (next : Next) (h : Header) → fits hs next h ≡ true
    → ((tail : List Header) → fit_from [] (RootAt 0) (hs ++ tail) ≡ fit_from hs next tail) → (tail : List Header)
    → fit_from [] (RootAt 0) ((hs ++ h ∷ []) ++ tail) ≡ fit_from (hs ++ h ∷ []) (next_after hs next h h.parent) tail
one_more hs next h fit all tail = ap (fit_from [] (RootAt 0)) (append_assoc hs (h ∷ []) tail) ∙ all (h ∷ tail) ∙ rw fit refl

good_header : (s : Reading) (h : Header) → Good s → AllFalse (kinds s (line.Tablet h)) → Good (moved s (line.Tablet h))
good_header s h g f =
    let numbers : header_numbers_fit h ≡ true = not-false _ f.1.0 in
    let b = or_parts (records_began s.stage) (not (fits (headers_of s.tablets) s.next h)) f.1.1.1.0 in
    let fit : fits (headers_of s.tablets) s.next h ≡ true = not-false _ b.1 in
    let at = bare_at_header s.stage s.next s.tablets h f.0 b.0 g.stage in
    let bares : list_all (λ t. is_bare t.records) (s.tablets ++ bare h ∷ []) ≡ true =
    list_all-append (λ t. is_bare t.records) s.tablets (bare h ∷ []) ∙ rw at.1 refl in
    record {
      headers = λ tail. rw (headers_push s.tablets h) (one_more (headers_of s.tablets) s.next h fit g.headers tail);
      count =
          let id : h.id < 64 = ltb-true h.id 64 (and_parts (nat_lt h.id 64) _ numbers).0 in
          let is : h.id ≡ length (headers_of s.tablets) =
          eqb-true h.id (length (headers_of s.tablets)) (and_parts (h.id == length (headers_of s.tablets)) _ fit).0 in
          let more : length (s.tablets ++ bare h ∷ []) ≡ length s.tablets + 1 = length_push s.tablets (bare h) in
          let same = length-map s.tablets (λ t. t.header) in omega arith;
      records = rw (sum_by_push (λ t. length t.records) s.tablets (bare h)) (let e = g.records in omega arith);
      operations = rw (sum_by_push (λ t. sum_by (λ r. ops_in r.kind) t.records) s.tablets (bare h)) (let e = g.operations in omega arith);
      grow = all_bare_grow (headers_of (s.tablets ++ bare h ∷ [])) (s.tablets ++ bare h ∷ []) bares;
      stage = let P : Stage
          → Type 0 = λ stage. AtStage stage (next_after (headers_of s.tablets) s.next h h.parent) (s.tablets ++ bare h ∷ []) in subst P
          (sym at.0) bares;
    }

-- ---- a record

pub sums : (f : Tablet → ℕ) (before : List Tablet) (x y : Tablet) (after : List Tablet) (d : ℕ) → f y ≡ f x + d
    → sum_by f (before ++ y ∷ after) ≡ sum_by f (before ++ x ∷ after) + d
sums f before x y after d e =
    let a = sum_by-append f before (y ∷ after) in
    let b = sum_by-append f before (x ∷ after) in
    let c = sum_by-cons f y after in
    let k = sum_by-cons f x after in omega arith

replaced : (p : Tablet → Bool) (before : List Tablet) (x y : Tablet) (after : List Tablet) → list_all p (before ++ x ∷ after) ≡ true
    → (p x ≡ true → p y ≡ true) → list_all p (before ++ y ∷ after) ≡ true
replaced p [] x y after h k = let q = and_parts (p x) (list_all p after) h in rw (k q.0) q.1
replaced p (z ∷ before) x y after h k =
    let q = and_parts (p z) (list_all p (before ++ x ∷ after)) h in rw q.0 (replaced p before x y after q.1 k)

grown_grows : (hs : List Header) (t : Tablet) (r : Record) → record_fits t.header (children hs t.header.id) r ≡ true
    → is_split_off t ≡ false → grows hs t ≡ true → grows hs (grown t r) ≡ true
grown_grows hs t r fit last g =
    let p = and_parts (list_all (record_fits t.header (children hs t.header.id)) t.records) (open_fit t.records) g in
    let all : list_all (record_fits t.header (children hs t.header.id)) (t.records ++ r ∷ []) ≡ true =
    list_all-append (record_fits t.header (children hs t.header.id)) t.records (r ∷ []) ∙ rw (p.0, fit) refl in
    rw all (open_push t.records r p.1 (sym (split_off_is t) ∙ last))

-- the reading with the record behind those of a tablet that was there
abbrev pub with_entry : Reading → Record → List Tablet → Reading
with_entry s r ts =
    record s { tablets = ts; stage = Records; records_left = s.records_left - 1; operations_left = s.operations_left - ops_in r.kind }

good_with : (s : Reading) (r : Record) (before : List Tablet) (t : Tablet) (after : List Tablet) → s.tablets ≡ before ++ t ∷ after → Good s
    → record_fits t.header (children (headers_of s.tablets) t.header.id) r ≡ true → is_split_off t ≡ false → 1 ≤ s.records_left
    → ops_in r.kind ≤ s.operations_left
    → Good (with_entry s r (before ++ grown t r ∷ after))
good_with s r before t after whole g fit last room space =
    let same : headers_of (before ++ grown t r ∷ after) ≡ headers_of s.tablets =
    headers_append before (grown t r ∷ after) ∙ sym (headers_append before (t ∷ after)) ∙ sym (ap headers_of whole) in
    let counted = length-map s.tablets (λ t. t.header) in
    let counts = length-map (before ++ grown t r ∷ after) (λ t. t.header) in
    let lengths : length (headers_of (before ++ grown t r ∷ after)) ≡ length (headers_of s.tablets) = ap length same in
    let one : length (grown t r).records ≡ length t.records + 1 = length_push t.records r in
    let ops : sum_by (λ q. ops_in q.kind) (grown t r).records ≡ sum_by (λ q. ops_in q.kind) t.records + ops_in r.kind =
    sum_by_push (λ q. ops_in q.kind) t.records r in
    let records : records_of (before ++ grown t r ∷ after) ≡ records_of s.tablets + 1 =
    sums (λ u. length u.records) before t (grown t r) after 1 one ∙ ap (λ ts. records_of ts + 1) (sym whole) in
    let operations : operations_of (before ++ grown t r ∷ after) ≡ operations_of s.tablets + ops_in r.kind =
    sums (λ u. sum_by (λ q. ops_in q.kind) u.records) before t (grown t r) after (ops_in r.kind) ops
    ∙ ap (λ ts. operations_of ts + ops_in r.kind) (sym whole) in
    let old : list_all (grows (headers_of s.tablets)) (before ++ t ∷ after) ≡ true =
    ap (list_all (grows (headers_of s.tablets))) (sym whole) ∙ g.grow in
    record {
      headers = λ tail. rw same (g.headers tail);
      count = let c = g.count in omega arith;
      records = let e = g.records in omega arith;
      operations = let e = g.operations in omega arith;
      grow = rw same
          (replaced (grows (headers_of s.tablets)) before t (grown t r) after old (grown_grows (headers_of s.tablets) t r fit last));
      stage = tt;
    }

good_entry : (s : Reading) (id : ℕ) (r : Record) → Good s → AllFalse (kinds s (line.Entry id r)) → has_ops r.kind ≡ true
    → Good (moved s (line.Entry id r))
good_entry s id r g f some =
    let p = place id s.tablets (leb-false (length s.tablets) id f.1.1.1.1.0) in
    let e : with_record id r s.tablets ≡ p.before ++ grown p.here r ∷ p.after = rw p.got (p.put (grown p.here r)) in
    let numbers = and_parts (nat_lt id 64) _ (not-false _ f.1.0) in
    let inner = and_parts (is_time r.time) (kind_numbers_fit r.kind) numbers.1 in
    let names : kind_names_fit r.kind ≡ true = not-false _ f.1.1.0 in
    let range : in_range (headers_of s.tablets) p.here.header r.kind ≡ true = not-false _ (rw p.got at f.1.1.1.1.1.0) in
    let last : is_split_off p.here ≡ false = rw p.got at f.1.1.1.1.1.1.0 in
    let limits = or_parts (nat_lt 64 (ops_in r.kind)) _ f.1.1.1.1.1.1.1.0 in
    let room = or_parts (s.records_left == 0) (nat_lt s.operations_left (ops_in r.kind)) limits.1 in
    let fit : record_fits p.here.header (children (headers_of s.tablets) p.here.header.id) r ≡ true =
    rw inner.0 (kind_ok (headers_of s.tablets) p.here.header r.kind some limits.0 inner.1 names range) in
    let P : List Tablet → Type 0 = λ ts. Good (with_entry s r ts) in
    subst P (sym e)
    (good_with s r p.before p.here p.after p.whole g fit last (not_zero s.records_left room.0)
    (ltb-false s.operations_left (ops_in r.kind) room.1))

-- ---- the end

good_end : (s : Reading) → Good s → AllFalse (kinds s line.End) → Good (moved s line.End)
good_end s g f = record {
  headers = g.headers;
  count = g.count;
  records = g.records;
  operations = g.operations;
  grow = g.grow;
  stage = (not-false _ f.1.1.1.0, f.1.1.1.1.1.1.1.1.0);
}

pub valid_at_end : (s : Reading) → Good s → s.stage ≡ Ended → is_valid (record { tablets = s.tablets }) ≡ true
unfolding is_valid headers_fit are_headers
valid_at_end s g ended =
    let P : Stage → Type 0 = λ stage. AtStage stage s.next s.tablets in
    let at = subst P ended g.stage in
    let headers : fit_from [] (RootAt 0) (headers_of s.tablets) ≡ true =
    ap (fit_from [] (RootAt 0)) (sym (append-nil (headers_of s.tablets))) ∙ g.headers [] ∙ at.0 in
    let tablets = all_tablets_ok (headers_of s.tablets) s.tablets g.grow at.1 in
    let count : nat_le (length (headers_of s.tablets)) 64 ≡ true =
    le-leb _ _ (let few = g.count in let same = length-map s.tablets (λ (t : Tablet). t.header) in omega arith) in
    let records_le : records_of s.tablets ≤ 2 ^ 20 = let e = g.records in omega arith in
    let operations_le : operations_of s.tablets ≤ 2 ^ 22 = let e = g.operations in omega arith in
    let records : nat_le (records_of s.tablets) (2 ^ 20) ≡ true = le-leb _ _ records_le in
    let operations : nat_le (operations_of s.tablets) (2 ^ 22) ≡ true = le-leb _ _ operations_le in
    rw (count, headers, tablets, records, operations) refl

-- ---- from line to line

pub unless_cases : (o : Option LogKind) (s next : Reading) → unless_bad o s ≡ Ok next → (o ≡ None) × (s ≡ next)
unless_cases None s next h = (refl, cc)
unless_cases (Some k) s next h = cc

step_cases : (s : Reading) (o : Option LogLine) (next : Reading) → Good s → holds_of line_has_ops o ≡ true → step_by s o ≡ Ok next
    → Good next
step_cases s None next g some h = cc
step_cases s (Some (line.First v)) next g some h =
    let p = unless_cases _ _ next h in subst Good p.1 (good_first s v g (all_false (kinds s (line.First v)) p.0))
step_cases s (Some (line.Tablet t)) next g some h =
    let p = unless_cases _ _ next h in subst Good p.1 (good_header s t g (all_false (kinds s (line.Tablet t)) p.0))
step_cases s (Some (line.Entry id r)) next g some h =
    let p = unless_cases _ _ next h in subst Good p.1 (good_entry s id r g (all_false (kinds s (line.Entry id r)) p.0) some)
step_cases s (Some line.End) next g some h =
    let p = unless_cases _ _ next h in subst Good p.1 (good_end s g (all_false (kinds s line.End) p.0))

good_step : (s : Reading) (bytes : List ℕ) (next : Reading) → Good s → step s bytes ≡ Ok next → Good next
unfolding step
good_step s bytes next g h = step_cases s (line_of s.version (split_on 32 bytes)) next g (line_some s.version (split_on 32 bytes)) h

valid_ending : (s : Reading) (number : ℕ) (logs : Logs) → Good s → ending s.stage s number ≡ Ok logs → is_valid logs ≡ true
valid_ending s number logs g h = by s.stage refl h
  where
    by : (stage : Stage) → s.stage ≡ stage → ending stage s number ≡ Ok logs → is_valid logs ≡ true
    by Start is e = cc
    by Headers is e = cc
    by Records is e = cc
    by Ended is e =
        let P : Logs → Type 0 = λ l. is_valid l ≡ true in
        let same : record { tablets = s.tablets } ≡ logs = cc in subst P same (valid_at_end s g is)

valid_rest : (s : Reading) (number : ℕ) (rest : List ℕ) (logs : Logs) → Good s → rest_of_text s number rest ≡ Ok logs → is_valid logs ≡ true
valid_rest s number [] logs g h = valid_ending s number logs g h
valid_rest s number (byte ∷ bytes) logs g h = cc

valid_from : (s : Reading) (number : ℕ) (pieces : List (List ℕ)) (logs : Logs) → Good s → lines_from s number pieces ≡ Ok logs
    → is_valid logs ≡ true
valid_from s number [] logs g h = valid_ending s number logs g h
valid_from s number (piece ∷ []) logs g h = valid_rest s number piece logs g h
valid_from s number (piece ∷ (next ∷ pieces)) logs g h =
    by (λ after good e. valid_from after (number + 1) (next ∷ pieces) logs good e) (step s piece) refl h
  where
    by : ((after : Reading) → Good after → lines_from after (number + 1) (next ∷ pieces) ≡ Ok logs → is_valid logs ≡ true)
        → (r : Result Reading LogKind) → step s piece ≡ r
        → go_on r number (λ after. lines_from after (number + 1) (next ∷ pieces)) ≡ Ok logs → is_valid logs ≡ true
    by more (Ok after) is e = more after (good_step s piece after g is) e
    by more (Err k) is e = cc

-- what a text spells is valid
pub read_is_valid : (text : List ℕ) (logs : Logs) → logs_of text ≡ Ok logs → is_valid logs ≡ true
unfolding logs_of
read_is_valid text logs h = valid_from begun 1 (split_on 10 text) logs good_begun h

pub reads_valid : (r : Result Logs LogsFail) (text : List ℕ) → Reads r (logs_of text) → IfOk r (λ logs. is_valid logs ≡ true)
reads_valid (Ok logs) text h = read_is_valid text logs h
reads_valid (Err e) text h = tt
