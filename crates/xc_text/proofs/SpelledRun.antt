-- A text that spells logs is read as those logs: its lines, one after another.
use Rattle.std.proofs.Common.{◌≡◌, ℕ, ◌+◌, ◌-◌, ◌^◌, ◌<◌, ◌≤◌, Bool, true, false, ◌&&◌, nat_le, nat_lt, List, [], ◌∷◌, ◌++◌, length}
use Rattle.std.proofs.Common.{flat_map, Some, Result, Ok, is_some, slice_get, refl, sym, ap, subst, ◌∙◌, append_assoc, codes, arith, sum_by}
use Rattle.std.proofs.lemmas.Bool.{and_parts, lt-ltb, ltb-true, leb-true, lt-leb, le-ltb}
use Rattle.std.proofs.lemmas.List.Sums.{sum_by-cons}
use Rattle.std.specs.List.{list_all}
use Rattle.std.proofs.lemmas.List.{length-map}
use Rattle.xc_base.specs.Words.{split_on}
use Rattle.xc_record.specs.Grown.{with_record}
use Rattle.xc_record.specs.Headers.{fit_from, may_end, headers_fit, are_headers, children}
use Rattle.xc_record.specs.Valid.{is_time, headers_of, kind_fits, record_fits, ends_fit, tablet_fits, ops_in, is_valid}
use Rattle.xc_record.specs.declared.headers.Next.{Next}
use Rattle.xc_record.specs.declared.headers.Next.TheVariants.{RootAt}
use Rattle.xc_record.specs.declared.record.Record.{Record}
use Rattle.xc_record.specs.declared.record.Tablet.{Tablet}
use Rattle.xc_record.specs.declared.record.Logs.{Logs}
use Rattle.xc_text.specs.declared.line.LogLine.TheVariants as line
use Rattle.xc_text.specs.declared.reading.Stage.{Stage}
use Rattle.xc_text.specs.declared.reading.Stage.TheVariants.{Headers, Records}
use Rattle.xc_text.specs.Lines.{header_numbers_fit}
use Rattle.xc_text.specs.LogText.{BadLine, is_inner, in_range, is_split_off, step, logs_of}
use Rattle.xc_text.specs.Printed.{header_text, record_text, kind_spelled, first_line}
use Rattle.xc_text.specs.declared.line.Version.{Version}
use Rattle.xc_text.specs.Spelled.{Entry, entry_text, given, SpelledIsRead, SpellsOne}
use Rattle.xc_text.proofs.ValidParts.{split_off_is, place}
use Rattle.xc_text.proofs.ValidLaws.{records_of, operations_of, bare}
use Rattle.xc_text.proofs.PrintedHeaders.{all_small}
use Rattle.xc_text.proofs.PrintedLines.{EntryFits, entry_bytes, entry_line, entry_is}
use Rattle.xc_text.proofs.PrintedLaws.{Gives, back, step_is, at, at_headers, headers_run, kind_good, not_zero, no_split_yet, part}
use Rattle.xc_text.proofs.PrintedEnds.{bares, entry_kinds, end_gives, none_orphaned, headers_text, starts, bares_are, rest_of}
use Rattle.xc_text.proofs.Filled.{filled, filled_none, filled_entry, got_filled, headers_filled, length_filled, filled_is, all_known}
use Rattle.xc_text.proofs.Filled.{known_with, ops_given, records_filled, operations_filled, given_same}
use Rattle.xc_record.proofs.ListLaws.{all-at}

-- what holds of the tablets of valid logs
pub record Whole (ts : List Tablet) : Type 0 where
  pub small : list_all header_numbers_fit (headers_of ts) ≡ true
  pub fit : list_all (tablet_fits (headers_of ts)) ts ≡ true
  pub count : length ts ≤ 64

all_at : (p : Record → Bool) (done : List Record) (r : Record) (left : List Record) → list_all p (done ++ r ∷ left) ≡ true → p r ≡ true
all_at p [] r left a = (and_parts (p r) (list_all p left) a).0
all_at p (x ∷ done) r left a = all_at p done r left (and_parts (p x) (list_all p (done ++ r ∷ left)) a).1

-- what the next entry finds
record Stands (v : Version) (us : List Tablet) (e : Entry) (t : Tablet) : Type 0 where
  fits : EntryFits v e.id e.item
  range : in_range (headers_of us) t.header e.item.kind ≡ true
  last : is_split_off t ≡ false
  few : nat_lt 64 (ops_in e.item.kind) ≡ false

stands : (v : Version) (ts us : List Tablet) (e : Entry) (left : List Entry) (t : Tablet) → Whole ts → kind_spelled v e.item.kind ≡ true
    → filled 0 (e ∷ left) us ≡ ts → e.id < length us → slice_get us e.id ≡ Some t → Stands v us e t
stands v ts us e left t w spell whole l got =
    let hs = headers_of ts in
    let all = t.records ++ given e.id (e ∷ left) in
    let zero_more : 0 + e.id ≡ e.id = omega arith in
    let there : slice_get ts e.id ≡ Some (part t.header all) =
    sym (ap (λ vs. slice_get vs e.id) whole) ∙ got_filled 0 e.id (e ∷ left) us t got
    ∙ ap (λ m. Some (part t.header (t.records ++ given m (e ∷ left)))) zero_more in
    let fit = all-at (tablet_fits hs) ts e.id (part t.header all) w.fit there in
    let g = and_parts (list_all (record_fits t.header (children hs t.header.id)) all) (ends_fit (is_some (children hs t.header.id)) all) fit
    in
    let next : all ≡ t.records ++ e.item ∷ given e.id left = ap (λ rs. t.records ++ rs) (given_same e.id e left refl) in
    let A : List Record → Type 0 = λ rs. list_all (record_fits t.header (children hs t.header.id)) rs ≡ true in
    let E : List Record → Type 0 = λ rs. ends_fit (is_some (children hs t.header.id)) rs ≡ true in
    let this = all_at (record_fits t.header (children hs t.header.id)) t.records e.item (given e.id left) (subst A next g.0) in
    let q = and_parts (is_time e.item.time) (kind_fits t.header (children hs t.header.id) e.item.kind) this in
    let k = kind_good hs t.header e.item.kind w.small q.1 in
    let same : headers_of us ≡ hs = sym (headers_filled 0 (e ∷ left) us) ∙ ap headers_of whole in
    let lengths : length us ≡ length ts = sym (length_filled 0 (e ∷ left) us) ∙ ap length whole in
    let low : e.id < 64 = let c = w.count in omega arith in
    record {
      fits = record { tablet = lt-ltb e.id 64 low; time = q.0; numbers = k.numbers; names = k.names; spelled = spell; some = k.some };
      range = ap (λ xs. in_range xs t.header e.item.kind) same ∙ k.range;
      last = split_off_is t ∙ no_split_yet (is_some (children hs t.header.id)) t.records e.item (given e.id left) (subst E next g.1);
      few = k.few;
    }

entry_step : (v : Version) (stage : Stage) (us : List Tablet) (next : Next) (records operations : ℕ) (e : Entry) (t : Tablet)
    → is_inner stage ≡ true → may_end next ≡ true → e.id < length us → slice_get us e.id ≡ Some t → Stands v us e t → 1 ≤ records
    → ops_in e.item.kind ≤ operations
    → step (at v stage us next records operations) (entry_bytes v e.id e.item) ≡ Ok
    (at v Records (with_record e.id e.item us) next (records - 1) (operations - ops_in e.item.kind))
entry_step v stage us next records operations e t i m l got s room space =
    step_is (at v stage us next records operations) (entry_bytes v e.id e.item) (line.Entry e.id e.item) (entry_is v e.id e.item s.fits)
    (entry_kinds v stage us next records operations e.id e.item t i s.fits m (lt-leb (length us) e.id l) got s.range s.last s.few
    (not_zero records room) (le-ltb operations (ops_in e.item.kind) space))

entries_run : (v : Version) (ts us : List Tablet) (left : List Entry) (stage : Stage) (next : Next) (records operations x y : ℕ)
    (rest : List ℕ) (logs : Logs)
    → Whole ts → list_all (λ e. kind_spelled v e.item.kind) left ≡ true → filled 0 left us ≡ ts → all_known (length us) left
    → is_inner stage ≡ true → may_end next ≡ true
    → records ≡ length left + x → operations ≡ ops_given left + y
    → ((later : Stage) → is_inner later ≡ true → Gives (at v later ts next x y) rest logs)
    → Gives (at v stage us next records operations) (flat_map (entry_text v) left ++ rest) logs
entries_run v ts us [] stage next records operations x y rest logs w spell whole k i m r o more =
    let a : records ≡ x = omega arith in
    let c : operations ≡ y = omega arith in
    let done : ts ≡ us = sym whole ∙ filled_none 0 us in
    let P : List Tablet → Type 0 = λ vs. Gives (at v stage vs next x y) rest logs in
    rw (a, c) (subst P done (more stage i))
entries_run v ts us (e ∷ left) stage next records operations x y rest logs w spell whole k i m r o more =
    let saying = and_parts (kind_spelled v e.item.kind) (list_all (λ e. kind_spelled v e.item.kind) left) spell in
    let p = and_parts (nat_lt e.id (length us)) (list_all (λ x. nat_lt x.id (length us)) left) k in
    let l = ltb-true e.id (length us) p.0 in
    let here = place e.id us l in
    let s = stands v ts us e left here.here w saying.0 whole l here.got in
    let all = sum_by-cons (λ x. ops_in x.item.kind) e left in
    let room : 1 ≤ records = omega arith in
    let space : ops_in e.item.kind ≤ operations = omega arith in
    back (at v stage us next records operations)
    (at v Records (with_record e.id e.item us) next (records - 1) (operations - ops_in e.item.kind)) (entry_bytes v e.id e.item)
    (flat_map (entry_text v) left ++ rest) ((record_text v e.id e.item ++ flat_map (entry_text v) left) ++ rest) logs
    (ap (split_on 10) (append_assoc (record_text v e.id e.item) (flat_map (entry_text v) left) rest)
    ∙ entry_line v e.id e.item (flat_map (entry_text v) left ++ rest) s.fits)
    (entry_step v stage us next records operations e here.here i m l here.got s room space)
    (entries_run v ts (with_record e.id e.item us) left Records next (records - 1) (operations - ops_in e.item.kind) x y rest logs w
    saying.1 (filled_entry e left us l ∙ whole) (known_with e left us p.1) refl m (omega arith) (omega arith) more)

-- ---- the whole

no_records : (ts : List Tablet) → records_of (bares ts) ≡ 0
no_records [] = refl
no_records (t ∷ ts) = let e = sum_by-cons (λ u. length u.records) (part t.header []) (bares ts) in let more = no_records ts in omega arith

no_operations : (ts : List Tablet) → operations_of (bares ts) ≡ 0
no_operations [] = refl
no_operations (t ∷ ts) =
    let e = sum_by-cons (λ u. sum_by (λ q. ops_in q.kind) u.records) (part t.header []) (bares ts) in let more = no_operations ts in omega
    arith

length_bares : (ts : List Tablet) → length (bares ts) ≡ length ts
length_bares ts = length-map ts (λ t. bare t.header)

abbrev spelled_text : Version → Logs → List Entry → List ℕ
spelled_text v logs es =
    first_line v ++ (flat_map (λ t. header_text t.header) logs.tablets ++ (flat_map (entry_text v) es ++ codes "end\n"))

entries_are_read : (version : Version) (logs : Logs) (es : List Entry) → is_valid logs ≡ true
    → list_all (λ e. kind_spelled version e.item.kind) es ≡ true → all_known (length logs.tablets) es
    → ((id : ℕ) (t : Tablet) → slice_get logs.tablets id ≡ Some t → given id es ≡ t.records)
    → logs_of (spelled_text version logs es) ≡ Ok logs
unfolding logs_of is_valid headers_fit are_headers
entries_are_read version logs es v spell k given_is =
    let ts = logs.tablets in
    let hs = headers_of ts in
    let all = and_parts (nat_le (length hs) 64 && fit_from [] (RootAt 0) hs) _ v in
    let p = and_parts (nat_le (length hs) 64) (fit_from [] (RootAt 0) hs) all.0 in
    let q = and_parts (list_all (tablet_fits hs) ts) _ all.1 in
    let d = and_parts (nat_le (records_of ts) (2 ^ 20)) (nat_le (operations_of ts) (2 ^ 22)) q.1 in
    let most : length ts ≤ 64 = let l = length-map ts (λ t. t.header) in let m = leb-true (length hs) 64 p.0 in omega arith in
    let count : 0 + length hs ≤ 64 = let l = length-map ts (λ t. t.header) in omega arith in
    let small : list_all header_numbers_fit hs ≡ true = all_small [] (RootAt 0) hs refl tt count p.1 in
    let w : Whole ts = record { small = small; fit = q.0; count = most } in
    let whole : filled 0 es (bares ts) ≡ ts = filled_is 0 es ts (λ i t got. ap (λ m. given m es) (from_zero i) ∙ given_is i t got) in
    let known : all_known (length (bares ts)) es = ap (λ n. list_all (λ e. nat_lt e.id n) es) (length_bares ts) ∙ k in
    let none = no_records ts in
    let nothing = no_operations ts in
    let records : records_of ts ≡ length es = sym (ap records_of whole) ∙ records_filled es (bares ts) known ∙ omega arith in
    let operations : operations_of ts ≡ ops_given es = sym (ap operations_of whole) ∙ operations_filled es (bares ts) known ∙ omega arith in
    let room : length es ≤ 2 ^ 20 = let r = leb-true (records_of ts) (2 ^ 20) d.0 in omega arith in
    let space : ops_given es ≤ 2 ^ 22 = let o = leb-true (operations_of ts) (2 ^ 22) d.1 in omega arith in
    let tail = flat_map (entry_text version) es ++ codes "end\n" in
    let gives : Gives (at_headers version [] (RootAt 0)) (flat_map header_text hs ++ tail) logs =
    headers_run version [] hs (RootAt 0) tail logs small p.1
    (λ after m.
    let P : List Tablet → Type 0 = λ us. Gives (at version Headers us after (2 ^ 20) (2 ^ 22)) tail logs in
    subst P (sym (bares_are ts))
    (entries_run version ts (bares ts) es Headers after (2 ^ 20) (2 ^ 22) (2 ^ 20 - length es) (2 ^ 22 - ops_given es) (codes "end\n") logs
    w spell whole known refl m
    (rest_of (length es) (2 ^ 20) room) (rest_of (ops_given es) (2 ^ 22) space)
    (λ later i. end_gives version later ts after (2 ^ 20 - length es) (2 ^ 22 - ops_given es) i m (none_orphaned hs ts q.0)))) in
    starts version (flat_map (λ t. header_text t.header) ts ++ tail) logs
    (let Q : List ℕ → Type 0 = λ bytes. Gives (at_headers version [] (RootAt 0)) (bytes ++ tail) logs in subst Q (sym (headers_text ts))
    gives) 1
  where
    from_zero : (i : ℕ) → 0 + i ≡ i
    from_zero i = omega arith

pub spelled_is_read : SpelledIsRead
spelled_is_read text logs s = ap logs_of s.lines ∙ entries_are_read s.version logs s.entries s.valid s.spelled s.known s.records

one_answer : (r : Result Logs BadLine) (logs other : Logs) → r ≡ Ok logs → r ≡ Ok other → logs ≡ other
one_answer r logs other h k = cc

pub spells_one : SpellsOne
spells_one text logs other s o = one_answer (logs_of text) logs other (spelled_is_read text logs s) (spelled_is_read text other o)
