-- The header lines of valid logs are read, and a record that fits its tablet breaks no rule.
use Rattle.std.proofs.Common.{◌≡◌, ℕ, ◌+◌, ◌^◌, ◌≤◌, ◌==◌, Bool, true, false, ◌&&◌, nat_le, nat_lt, List, [], ◌∷◌, ◌++◌, length, map}
use Rattle.std.proofs.Common.{flat_map, Option, Some, None, Ok, if◌then◌else◌, refl, sym, ap, subst, ◌∙◌, append_assoc, arith}
use Rattle.std.proofs.lemmas.Bool.{and_parts, and_from, eqb-true}
use Rattle.std.proofs.lemmas.Bool.Decides.{nat_tests}
use Rattle.std.specs.List.{list_all}
use Rattle.std.specs.Option.{option_map_or}
use Rattle.std.proofs.lemmas.List.{append-nil}
use Rattle.xc_base.specs.Names.{is_key, is_value}
use Rattle.xc_base.specs.Words.{split_on}
use Rattle.xc_record.specs.Hash.{hash_of, holds}
use Rattle.xc_record.specs.Order.{is_split}
use Rattle.xc_record.specs.Headers.{fit_from, fits, next_after, may_end, children}
use Rattle.xc_record.specs.Valid.{is_txn, headers_of, op_fits, ops_fit, split_fits, kind_fits, ends_fit, ops_in}
use Rattle.xc_record.specs.declared.headers.Next.{Next}
use Rattle.xc_record.specs.declared.record.Op.{Op}
use Rattle.xc_record.specs.declared.record.Kind.{Kind}
use Rattle.xc_record.specs.declared.record.Kind.TheVariants.{Write, Intent, Apply, Abort, Safe, Split}
use Rattle.xc_record.specs.declared.record.Record.{Record}
use Rattle.xc_record.specs.declared.record.Header.{Header}
use Rattle.xc_record.specs.declared.record.Tablet.{Tablet}
use Rattle.xc_record.specs.declared.record.Logs.{Logs}
use Rattle.xc_text.specs.declared.line.Version.{Version}
use Rattle.xc_text.specs.declared.line.LogLine.{LogLine}
use Rattle.xc_text.specs.declared.line.LogLine.TheVariants as line
use Rattle.xc_text.specs.declared.reading.Reading.{Reading}
use Rattle.xc_text.specs.declared.reading.Stage.{Stage}
use Rattle.xc_text.specs.declared.reading.Stage.TheVariants.{Headers}
use Rattle.xc_text.specs.Kinds.{first_kind}
use Rattle.xc_text.specs.Lines.{line_of, op_is_named, header_numbers_fit, kind_numbers_fit, kind_names_fit}
use Rattle.xc_text.specs.LogText.{in_range, kinds, moved, step, lines_from}
use Rattle.xc_text.specs.Printed.{header_text}
use Rattle.xc_text.proofs.StepLaws.{lines_more}
use Rattle.xc_text.proofs.ValidParts.{has_ops, ends_split}
use Rattle.xc_text.proofs.ValidLaws.{bare}
use Rattle.xc_text.proofs.PrintedHeaders.{children_all}
use Rattle.xc_text.proofs.PrintedLines.{HeaderSmall, header_bytes, header_line, header_is}

-- from this reading on, the bytes give the logs
abbrev pub Gives : Reading → List ℕ → Logs → Type 0
Gives s bytes logs = (n : ℕ) → lines_from s n (split_on 10 bytes) ≡ Ok logs

pub back : (s next : Reading) (line rest bytes : List ℕ) (logs : Logs) → split_on 10 bytes ≡ line ∷ split_on 10 rest
    → step s line ≡ Ok next → Gives next rest logs → Gives s bytes logs
back s next line rest bytes logs cut is g n = ap (lines_from s n) cut ∙ lines_more s n line rest ∙ rw is (g (n + 1))

pub step_is : (s : Reading) (bytes : List ℕ) (l : LogLine) → line_of s.version (split_on 32 bytes) ≡ Some l → first_kind (kinds s l) ≡ None
    → step s bytes ≡ Ok (moved s l)
unfolding step
step_is s bytes l e k = rw e (rw k refl)

-- ---- the headers

pub headers_bare : (hs : List Header) → headers_of (map bare hs) ≡ hs
headers_bare [] = refl
headers_bare (h ∷ hs) = ap (λ rest. h ∷ rest) (headers_bare hs)

bare_push : (hs : List Header) (h : Header) → map bare hs ++ bare h ∷ [] ≡ map bare (hs ++ h ∷ [])
bare_push [] h = refl
bare_push (x ∷ hs) h = ap (λ rest. bare x ∷ rest) (bare_push hs h)

abbrev pub at : Version → Stage → List Tablet → Next → ℕ → ℕ → Reading
at v stage ts next records operations =
    record { version = v; tablets = ts; next = next; stage = stage; records_left = records; operations_left = operations }

abbrev pub at_headers : Version → List Header → Next → Reading
at_headers v hs next = at v Headers (map bare hs) next (2 ^ 20) (2 ^ 22)

pub small_parts : (h : Header) → header_numbers_fit h ≡ true → HeaderSmall h
small_parts h f =
    let p = and_parts (nat_lt h.id 64) _ f in
    let q = and_parts (nat_lt h.lo 65536) (nat_lt h.hi 65536 && option_map_or (λ parent. nat_lt parent 64) h.parent true) p.1 in
    let r = and_parts (nat_lt h.hi 65536) (option_map_or (λ parent. nat_lt parent 64) h.parent true) q.1 in
    record { id = p.0; lo = q.0; hi = r.0; parent = r.1 }

header_kinds : (v : Version) (hs : List Header) (next : Next) (h : Header) → header_numbers_fit h ≡ true → fits hs next h ≡ true
    → first_kind (kinds (at_headers v hs next) (line.Tablet h)) ≡ None
header_kinds v hs next h numbers fit = rw numbers (rw (headers_bare hs) (rw fit refl))

header_moved : (v : Version) (hs : List Header) (next : Next) (h : Header)
    → moved (at_headers v hs next) (line.Tablet h) ≡ at_headers v (hs ++ h ∷ []) (next_after hs next h h.parent)
header_moved v hs next h =
    ap (λ before. at v Headers (map bare hs ++ bare h ∷ []) (next_after before next h h.parent) (2 ^ 20) (2 ^ 22)) (headers_bare hs)
    ∙ ap (λ ts. at v Headers ts (next_after hs next h h.parent) (2 ^ 20) (2 ^ 22)) (bare_push hs h)

pub headers_run : (v : Version) (done left : List Header) (next : Next) (rest : List ℕ) (logs : Logs)
    → list_all header_numbers_fit left ≡ true → fit_from done next left ≡ true
    → ((after : Next) → may_end after ≡ true → Gives (at_headers v (done ++ left) after) rest logs)
    → Gives (at_headers v done next) (flat_map header_text left ++ rest) logs
headers_run v done [] next rest logs small f more = let P : List Header
    → Type 0 = λ hs. Gives (at_headers v hs next) rest logs in subst P (append-nil done) (more next f)
headers_run v done (h ∷ hs) next rest logs small f more =
    let s = and_parts (header_numbers_fit h) (list_all header_numbers_fit hs) small in
    let p = and_parts (fits done next h) (fit_from (done ++ h ∷ []) (next_after done next h h.parent) hs) f in
    back (at_headers v done next) (at_headers v (done ++ h ∷ []) (next_after done next h h.parent)) (header_bytes h)
    (flat_map header_text hs ++ rest) ((header_text h ++ flat_map header_text hs) ++ rest) logs
    (ap (split_on 10) (append_assoc (header_text h) (flat_map header_text hs) rest)
    ∙ header_line h (flat_map header_text hs ++ rest) (small_parts h s.0))
    (step_is (at_headers v done next) (header_bytes h) (line.Tablet h) (header_is v h (small_parts h s.0))
    (header_kinds v done next h s.0 p.0) ∙ ap Ok (header_moved v done next h))
    (headers_run v (done ++ h ∷ []) hs (next_after done next h h.parent) rest logs s.1 p.1
    (λ after m. let P : List Header → Type 0 = λ all. Gives (at_headers v all after) rest logs in subst P
    (sym (append_assoc done (h ∷ []) hs)) (more after m)))

-- ---- a record of a tablet

pub record KindGood (hs : List Header) (h : Header) (k : Kind) : Type 0 where
  pub numbers : kind_numbers_fit k ≡ true
  pub names : kind_names_fit k ≡ true
  pub some : has_ops k ≡ true
  pub few : nat_lt 64 (ops_in k) ≡ false
  pub range : in_range hs h k ≡ true

ops_named : (h : Header) (ops : List Op) → list_all (op_fits h) ops ≡ true
    → (list_all op_is_named ops ≡ true) × (list_all (λ op. holds h (hash_of op.key)) ops ≡ true)
ops_named h [] f = (refl, refl)
ops_named h (op ∷ ops) f =
    let p = and_parts (op_fits h op) (list_all (op_fits h) ops) f in
    let q = and_parts (is_key op.key) (option_map_or is_value op.value true && holds h (hash_of op.key)) p.0 in
    let r = and_parts (option_map_or is_value op.value true) (holds h (hash_of op.key)) q.1 in
    let more = ops_named h ops p.1 in (rw (q.0, r.0) more.0, rw r.1 more.1)

few_ops : (n : ℕ) → nat_le n 64 ≡ true → nat_lt 64 n ≡ false
few_ops n h = grind (arith, nat_tests)

ops_good : (h : Header) (ops : List Op) → ops_fit h ops ≡ true
    → (nat_le 1 (length ops) ≡ true) × (nat_lt 64 (length ops) ≡ false) × (list_all op_is_named ops ≡ true) ×
    (list_all (λ op. holds h (hash_of op.key)) ops ≡ true)
ops_good h ops f =
    let p = and_parts (nat_le 1 (length ops)) (nat_le (length ops) 64 && list_all (op_fits h) ops) f in
    let q = and_parts (nat_le (length ops) 64) (list_all (op_fits h) ops) p.1 in
    let r = ops_named h ops q.1 in (p.0, few_ops (length ops) q.0, r.0, r.1)

split_good : (hs : List Header) (h : Header) (place left right : ℕ) → list_all header_numbers_fit hs ≡ true
    → (o : Option (Header × Header)) → children hs h.id ≡ o → split_fits o place left right ≡ true
    → (nat_lt place 65536 && (nat_lt left 64 && nat_lt right 64)) ≡ true
split_good hs h place left right small None e f = cc
split_good hs h place left right small (Some pair) e f =
    let all = children_all header_numbers_fit hs h.id pair small e in
    let l = small_parts pair.0 all.0 in
    let r = small_parts pair.1 all.1 in
    let p = and_parts (place == pair.1.lo) (left == pair.0.id && right == pair.1.id) f in
    let q = and_parts (left == pair.0.id) (right == pair.1.id) p.1 in
    rw (eqb-true place pair.1.lo p.0, eqb-true left pair.0.id q.0, eqb-true right pair.1.id q.1) (rw (r.lo, l.id, r.id) refl)

pub kind_good : (hs : List Header) (h : Header) (k : Kind) → list_all header_numbers_fit hs ≡ true
    → kind_fits h (children hs h.id) k ≡ true → KindGood hs h k
kind_good hs h (Write ops) small f = let g = ops_good h ops f in record { numbers = refl; names = g.2; some = g.0; few = g.1; range = g.3 }
kind_good hs h (Intent sub txn ops) small f =
    let p = and_parts (is_txn txn) (nat_le sub 64 && ops_fit h ops) f in
    let q = and_parts (nat_le sub 64) (ops_fit h ops) p.1 in
    let g = ops_good h ops q.1 in record { numbers = and_from _ _ p.0 q.0; names = g.2; some = g.0; few = g.1; range = g.3 }
kind_good hs h (Apply txn commit without) small f = record { numbers = f; names = refl; some = refl; few = refl; range = refl }
kind_good hs h (Abort txn) small f = record { numbers = f; names = refl; some = refl; few = refl; range = refl }
kind_good hs h (Safe value) small f = record { numbers = f; names = refl; some = refl; few = refl; range = refl }
kind_good hs h (Split place left right) small f =
    record { numbers = split_good hs h place left right small (children hs h.id) refl f; names = refl; some = refl; few = refl; range = f }

pub not_zero : (a : ℕ) → 1 ≤ a → (a == 0) ≡ false
not_zero a h = grind (arith, nat_tests)

-- while records are left, those that came have no split
pub no_split_yet : (b : Bool) (done : List Record) (r : Record) (left : List Record) → ends_fit b (done ++ r ∷ left) ≡ true
    → ends_split done ≡ false
no_split_yet b [] r left f = refl
no_split_yet b (q ∷ []) r left f = by (is_split q.kind) f
  where
    by : (t : Bool) → (if t then (b && length (r ∷ left) == 0) else ends_fit b (r ∷ left)) ≡ true → t ≡ false
    by true g = let p = and_parts b (length (r ∷ left) == 0) g in let e = eqb-true (length (r ∷ left)) 0 p.1 in absurd (omega arith)
    by false g = refl
no_split_yet b (q ∷ (x ∷ xs)) r left f = by (λ g. no_split_yet b (x ∷ xs) r left g) (is_split q.kind) f
  where
    by : (ends_fit b ((x ∷ xs) ++ r ∷ left) ≡ true → ends_split (x ∷ xs) ≡ false) → (t : Bool)
        → (if t then (b && length ((x ∷ xs) ++ r ∷ left) == 0) else ends_fit b ((x ∷ xs) ++ r ∷ left)) ≡ true → ends_split (x ∷ xs) ≡ false
    by more true g =
        let p = and_parts b (length ((x ∷ xs) ++ r ∷ left) == 0) g in let e = eqb-true (length ((x ∷ xs) ++ r ∷ left)) 0 p.1 in absurd
        (omega arith)
    by more false g = more g

abbrev pub part : Header → List Record → Tablet
part h rs = record { header = h; records = rs }
