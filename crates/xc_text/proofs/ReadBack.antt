-- A text that is read as logs spells them: its lines, from the last to the first.
use Rattle.std.proofs.Common.{◌≡◌, ℕ, zero, suc, ◌+◌, ◌<◌, true, false, not, nat_lt, List, [], ◌∷◌, ◌++◌, length, map, flat_map, Option}
use Rattle.std.proofs.Common.{Some, None, Result, Ok, Err, slice_get, refl, sym, ap, subst, ◌∙◌, append_assoc, codes, arith}
use Rattle.std.specs.List.{list_all, join_with_byte}
use Rattle.std.proofs.lemmas.Bool.{lt-ltb, leb-false, or_parts, not-false}
use Rattle.std.proofs.lemmas.List.{append-nil}
use Rattle.xc_base.specs.Words.{split_on}
use Rattle.xc_base.proofs.WordLaws.{join-split_on}
use Rattle.xc_record.specs.Grown.{with_record}
use Rattle.xc_record.specs.Headers.{fits}
use Rattle.xc_record.specs.Valid.{headers_of}
use Rattle.xc_record.specs.declared.record.Record.{Record}
use Rattle.xc_record.specs.declared.record.Header.{Header}
use Rattle.xc_record.specs.declared.record.Tablet.{Tablet}
use Rattle.xc_record.specs.declared.record.Logs.{Logs}
use Rattle.xc_text.specs.declared.kind.LogKind.{LogKind}
use Rattle.xc_text.specs.declared.line.Version.{Version}
use Rattle.xc_text.specs.declared.line.LogLine.{LogLine}
use Rattle.xc_text.specs.declared.line.LogLine.TheVariants as line
use Rattle.xc_text.specs.declared.reading.Reading.{Reading}
use Rattle.xc_text.specs.declared.reading.Stage.{Stage}
use Rattle.xc_text.specs.declared.reading.Stage.TheVariants.{Start, Headers, Records, Ended}
use Rattle.xc_text.specs.Kinds.{first_kind}
use Rattle.xc_text.specs.Lines.{line_of, numbers_fit, names_fit}
use Rattle.xc_text.specs.LogText.{begun, misplaced, records_began, kinds, moved, step, step_by, ending, rest_of_text, go_on, lines_from}
use Rattle.xc_text.specs.LogText.{logs_of}
use Rattle.xc_text.specs.Printed.{header_text, kind_spelled, first_line}
use Rattle.xc_text.specs.Spelled.{Entry, entry_text, given, Spells, ReadIsSpelled}
use Rattle.xc_text.proofs.ValidLaws.{bare, AllFalse, all_false, unless_cases, read_is_valid}
use Rattle.xc_text.proofs.PrintedLaws.{headers_bare}
use Rattle.xc_text.proofs.PrintedEnds.{headers_text}
use Rattle.xc_text.proofs.Filled.{filled, filled_none, filled_entry, headers_filled, length_filled, length_with, all_known}
use Rattle.xc_text.proofs.ReadWords.{line_bytes, line_spelled, line_back}

-- ---- what the bytes after a reading give

-- entries and the last line, which fill these tablets
record Entries (v : Version) (ts : List Tablet) (bytes : List ℕ) (logs : Logs) : Type 0 where
  entries : List Entry
  text : bytes ≡ flat_map (entry_text v) entries ++ codes "end\n"
  known : all_known (length ts) entries
  spelled : list_all (λ e. kind_spelled v e.item.kind) entries ≡ true
  whole : filled 0 entries ts ≡ logs.tablets

-- headers of further tablets before them
record Body (v : Version) (ts : List Tablet) (bytes : List ℕ) (logs : Logs) : Type 0 where
  headers : List Header
  rest : List ℕ
  text : bytes ≡ flat_map header_text headers ++ rest
  entries : Entries v (ts ++ map bare headers) rest logs

-- the first line before all
record All (ts : List Tablet) (bytes : List ℕ) (logs : Logs) : Type 0 where
  version : Version
  rest : List ℕ
  text : bytes ≡ first_line version ++ rest
  body : Body version ts rest logs

abbrev Left : Version → Stage → List Tablet → List ℕ → Logs → Type 0
Left v Start ts bytes logs = All ts bytes logs
Left v Headers ts bytes logs = Body v ts bytes logs
Left v Records ts bytes logs = Entries v ts bytes logs
Left v Ended ts bytes logs = (bytes ≡ []) × (ts ≡ logs.tablets)

first_left : (v version : Version) (stage : Stage) (ts : List Tablet) (bytes rest : List ℕ) (logs : Logs)
    → misplaced stage (line.First version) ≡ false → bytes ≡ first_line version ++ rest → Body version ts rest logs
    → Left v stage ts bytes logs
first_left v version Start ts bytes rest logs m e body = record { version = version; rest = rest; text = e; body = body }
first_left v version Headers ts bytes rest logs m e body = cc
first_left v version Records ts bytes rest logs m e body = cc
first_left v version Ended ts bytes rest logs m e body = cc

header_more : (v : Version) (ts : List Tablet) (h : Header) (bytes rest : List ℕ) (logs : Logs) → bytes ≡ header_text h ++ rest
    → Body v (ts ++ bare h ∷ []) rest logs → Body v ts bytes logs
header_more v ts h bytes rest logs e b =
    let P : List Tablet → Type 0 = λ us. Entries v us b.rest logs in
    record {
      headers = h ∷ b.headers;
      rest = b.rest;
      text = e ∙ ap (λ more. header_text h ++ more) b.text ∙ sym (append_assoc (header_text h) (flat_map header_text b.headers) b.rest);
      entries = subst P (append_assoc ts (bare h ∷ []) (map bare b.headers)) b.entries;
    }

header_left : (v : Version) (stage : Stage) (ts : List Tablet) (h : Header) (bytes rest : List ℕ) (logs : Logs)
    → misplaced stage (line.Tablet h) ≡ false → records_began stage ≡ false → bytes ≡ header_text h ++ rest
    → Left v stage (ts ++ bare h ∷ []) rest logs → Left v stage ts bytes logs
header_left v Start ts h bytes rest logs m b e left = cc
header_left v Headers ts h bytes rest logs m b e left = header_more v ts h bytes rest logs e left
header_left v Records ts h bytes rest logs m b e left = cc
header_left v Ended ts h bytes rest logs m b e left = cc

-- where no header is left
no_headers : (v : Version) (ts : List Tablet) (bytes : List ℕ) (logs : Logs) → Entries v ts bytes logs → Body v ts bytes logs
no_headers v ts bytes logs es =
    let P : List Tablet → Type 0 = λ us. Entries v us bytes logs in
    record { headers = []; rest = bytes; text = refl; entries = subst P (sym (append-nil ts)) es }

inner_left : (v : Version) (stage : Stage) (ts : List Tablet) (bytes : List ℕ) (logs : Logs) → misplaced stage line.End ≡ false
    → Entries v ts bytes logs → Left v stage ts bytes logs
inner_left v Start ts bytes logs m es = cc
inner_left v Headers ts bytes logs m es = no_headers v ts bytes logs es
inner_left v Records ts bytes logs m es = es
inner_left v Ended ts bytes logs m es = cc

entry_more : (v : Version) (ts : List Tablet) (e : Entry) (bytes rest : List ℕ) (logs : Logs) → e.id < length ts
    → bytes ≡ entry_text v e ++ rest → kind_spelled v e.item.kind ≡ true → Entries v (with_record e.id e.item ts) rest logs
    → Entries v ts bytes logs
entry_more v ts e bytes rest logs l is spell es =
    let known : all_known (length ts) es.entries =
    ap (λ n. list_all (λ x. nat_lt x.id n) es.entries) (sym (length_with e.id e.item ts)) ∙ es.known in
    record {
      entries = e ∷ es.entries;
      text = is ∙ ap (λ more. entry_text v e ++ more) es.text
          ∙ sym (append_assoc (entry_text v e) (flat_map (entry_text v) es.entries) (codes "end\n"));
      known = rw (lt-ltb e.id (length ts) l) known;
      spelled = rw spell es.spelled;
      whole = sym (filled_entry e es.entries ts l) ∙ es.whole;
    }

in_place : (stage : Stage) (id : ℕ) (r : Record) → misplaced stage (line.Entry id r) ≡ false → misplaced stage line.End ≡ false
in_place Start id r m = cc
in_place Headers id r m = refl
in_place Records id r m = refl
in_place Ended id r m = cc

end_entries : (v : Version) (ts : List Tablet) (bytes rest : List ℕ) (logs : Logs) → bytes ≡ codes "end\n" ++ rest → rest ≡ []
    → ts ≡ logs.tablets → Entries v ts bytes logs
end_entries v ts bytes rest logs e none all =
    record {
      entries = [];
      text = e ∙ ap (λ more. codes "end\n" ++ more) none;
      known = refl;
      spelled = refl;
      whole = filled_none 0 ts
          ∙ all;
    }

-- ---- one line

line_left : (s : Reading) (l : LogLine) (bytes rest : List ℕ) (logs : Logs) → AllFalse (kinds s l)
    → (bytes ≡ line_bytes s.version l ++ rest) × (line_spelled s.version l ≡ true)
    → Left (moved s l).version (moved s l).stage (moved s l).tablets rest logs → Left s.version s.stage s.tablets bytes logs
line_left s (line.First version) bytes rest logs f e left = first_left s.version version s.stage s.tablets bytes rest logs f.0 e.0 left
line_left s (line.Tablet h) bytes rest logs f e left =
    let b = or_parts (records_began s.stage) (not (fits (headers_of s.tablets) s.next h)) f.1.1.1.0 in
    header_left s.version s.stage s.tablets h bytes rest logs f.0 b.0 e.0 left
line_left s (line.Entry id r) bytes rest logs f e left =
    let l = leb-false (length s.tablets) id f.1.1.1.1.0 in
    inner_left s.version s.stage s.tablets bytes logs (in_place s.stage id r f.0)
    (entry_more s.version s.tablets (record { id = id; item = r }) bytes rest logs l e.0 e.1 left)
line_left s line.End bytes rest logs f e left =
    inner_left s.version s.stage s.tablets bytes logs f.0 (end_entries s.version s.tablets bytes rest logs e.0 left.0 left.1)

step_cases : (s after : Reading) (piece rest : List ℕ) (logs : Logs) (o : Option LogLine) → line_of s.version (split_on 32 piece) ≡ o
    → step_by s o ≡ Ok after → Left after.version after.stage after.tablets rest logs
    → Left s.version s.stage s.tablets (piece ++ 10 ∷ rest) logs
step_cases s after piece rest logs None is h left = cc
step_cases s after piece rest logs (Some l) is h left =
    let p = unless_cases (first_kind (kinds s l)) (moved s l) after h in
    let f = all_false (kinds s l) p.0 in
    let P : Reading → Type 0 = λ t. Left t.version t.stage t.tablets rest logs in
    line_left s l (piece ++ 10 ∷ rest) rest logs f
    (line_back s.version piece rest l is (not-false (numbers_fit l) f.1.0) (not-false (names_fit l) f.1.1.0)) (subst P (sym p.1) left)

step_left : (s after : Reading) (piece rest : List ℕ) (logs : Logs) → step s piece ≡ Ok after
    → Left after.version after.stage after.tablets rest logs → Left s.version s.stage s.tablets (piece ++ 10 ∷ rest) logs
unfolding step
step_left s after piece rest logs h left = step_cases s after piece rest logs (line_of s.version (split_on 32 piece)) refl h left

-- ---- all lines

ending_left : (s : Reading) (number : ℕ) (logs : Logs) → ending s.stage s number ≡ Ok logs → Left s.version s.stage s.tablets [] logs
ending_left s number logs h = by s.stage h
  where
    by : (stage : Stage) → ending stage s number ≡ Ok logs → Left s.version stage s.tablets [] logs
    by Start e = cc
    by Headers e = cc
    by Records e = cc
    by Ended e = let same : record { tablets = s.tablets } ≡ logs = cc in (refl, ap (λ l. l.tablets) same)

rest_left : (s : Reading) (number : ℕ) (rest : List ℕ) (logs : Logs) → rest_of_text s number rest ≡ Ok logs
    → Left s.version s.stage s.tablets rest logs
rest_left s number [] logs h = ending_left s number logs h
rest_left s number (byte ∷ bytes) logs h = cc

left_from : (s : Reading) (number : ℕ) (pieces : List (List ℕ)) (logs : Logs) → lines_from s number pieces ≡ Ok logs
    → Left s.version s.stage s.tablets (join_with_byte 10 pieces) logs
left_from s number [] logs h = ending_left s number logs h
left_from s number (piece ∷ []) logs h = rest_left s number piece logs h
left_from s number (piece ∷ (next ∷ pieces)) logs h =
    by (λ after e. left_from after (number + 1) (next ∷ pieces) logs e) (step s piece) refl h
  where
    by : ((after : Reading) → lines_from after (number + 1) (next ∷ pieces) ≡ Ok logs
        → Left after.version after.stage after.tablets (join_with_byte 10 (next ∷ pieces)) logs) → (r : Result Reading
        LogKind) → step s piece ≡ r → go_on r number (λ after. lines_from after (number + 1) (next ∷ pieces)) ≡ Ok logs
        → Left s.version s.stage s.tablets (join_with_byte 10 (piece ∷ next ∷ pieces)) logs
    by more (Ok after) is e = step_left s after piece (join_with_byte 10 (next ∷ pieces)) logs is (more after e)
    by more (Err k) is e = cc

-- ---- the whole

-- what fills tablets without records is what each is given
given_there : (n k : ℕ) (es : List Entry) (hs : List Header) (t : Tablet) → slice_get (filled n es (map bare hs)) k ≡ Some t
    → given (n + k) es ≡ t.records
given_there n k es [] t e = cc
given_there n zero es (h ∷ hs) t e =
    let at : n + 0 ≡ n = omega arith in
    let here : record { header = h; records = given n es } ≡ t = cc in
    ap (λ m. given m es) at ∙ ap (λ u. u.records) here
given_there n (suc j) es (h ∷ hs) t e =
    let at : n + suc j ≡ n + 1 + j = omega arith in
    ap (λ m. given m es) at ∙ given_there (n + 1) j es hs t e

from_all : (text : List ℕ) (logs : Logs) → logs_of text ≡ Ok logs → All [] text logs → Spells text logs
from_all text logs h a =
    let b = a.body in
    let es = b.entries in
    let same : headers_of logs.tablets ≡ b.headers =
    sym (ap headers_of es.whole) ∙ headers_filled 0 es.entries (map bare b.headers) ∙ headers_bare b.headers in
    let count : length logs.tablets ≡ length (map bare b.headers) =
    sym (ap length es.whole) ∙ length_filled 0 es.entries (map bare b.headers) in
    let headers : flat_map header_text b.headers ≡ flat_map (λ t. header_text t.header) logs.tablets =
    ap (flat_map header_text) (sym same) ∙ sym (headers_text logs.tablets) in
    let tail = flat_map (entry_text a.version) es.entries ++ codes "end\n" in
    record {
      valid = read_is_valid text logs h;
      version = a.version;
      entries = es.entries;
      lines = a.text
          ∙ ap (λ more. first_line a.version ++ more) (b.text ∙ ap (λ more. flat_map header_text b.headers ++ more) es.text
          ∙ ap (λ front. front ++ tail) headers);
      known = ap (λ n. list_all (λ e. nat_lt e.id n) es.entries) count ∙ es.known;
      spelled = es.spelled;
      records = λ id t got.
          let there : slice_get (filled 0 es.entries (map bare b.headers)) id ≡ Some t = ap (λ ts. slice_get ts id) es.whole ∙ got in
          let at : id ≡ 0 + id = omega arith in
          ap (λ m. given m es.entries) at ∙ given_there 0 id es.entries b.headers t there;
    }

pub read_is_spelled : ReadIsSpelled
unfolding logs_of
read_is_spelled text logs h =
    let P : List ℕ → Type 0 = λ bytes. All [] bytes logs in
    from_all text logs h (subst P (join-split_on 10 text) (left_from begun 1 (split_on 10 text) logs h))
