-- What is printed of a header, of a record and of the ends is read as that line.
use Rattle.std.proofs.Common.{◌≡◌, ℕ, ◌^◌, ◌<◌, Bool, true, false, ◌&&◌, ◌==◌, nat_le, nat_lt, List, [], ◌∷◌, ◌++◌, length, map, Option}
use Rattle.std.proofs.Common.{Some, None, option_map, if◌then◌else◌, refl, sym, ap, ◌∙◌, decimal, codes, arith}
use Rattle.std.proofs.lemmas.Bool.{and_parts, eqb-true}
use Rattle.std.proofs.lemmas.List.Folds.{list_all-append}
use Rattle.std.specs.Str.{bytes_eq}
use Rattle.std.proofs.lemmas.Bool.Decides.{nat_tests}
use Rattle.std.specs.List.{list_all}
use Rattle.std.specs.Option.{option_map_or}
use Rattle.xc_base.specs.Words.{split_on}
use Rattle.xc_record.specs.Lists.{distinct}
use Rattle.xc_record.specs.Subs.{are_subs}
use Rattle.xc_record.specs.Valid.{is_time, is_txn}
use Rattle.xc_record.specs.declared.record.Op.{Op}
use Rattle.xc_record.specs.declared.record.Kind.{Kind}
use Rattle.xc_record.specs.declared.record.Kind.TheVariants.{Write, Intent, Apply, Abort, Safe, Split}
use Rattle.xc_record.specs.declared.record.Record.{Record}
use Rattle.xc_record.specs.declared.record.Header.{Header}
use Rattle.xc_text.specs.declared.line.Version.{Version}
use Rattle.xc_text.specs.declared.line.LogLine.TheVariants as line
use Rattle.xc_text.specs.Lines.{kind_of, line_of, sub_of, sub_named, all_numbers, without_of, kind_numbers_fit, kind_names_fit}
use Rattle.xc_text.specs.Printed.{spaced, name_word, op_by, op_word, sub_words, without_words, kind_spelled, kind_words, parent_words}
use Rattle.xc_text.specs.Printed.{record_text, header_text}
use Rattle.xc_text.proofs.ValidParts.{has_ops}
use Rattle.xc_text.proofs.PrintedWords.{plain, split_words, split_line, decimal_digits, decimal_plain, number_is, digits_differ, ops_plain}
use Rattle.xc_text.proofs.PrintedWords.{ops_are}

time_small : (n : ℕ) → is_time n ≡ true → n < 2 ^ 64
time_small n h = let p = and_parts (nat_le 1 n) (nat_lt n (2 ^ 62)) h in grind (arith, nat_tests)

txn_small : (n : ℕ) → is_txn n ≡ true → n < 2 ^ 64
txn_small n h = let p = and_parts (nat_le 1 n) (nat_lt n (2 ^ 32)) h in grind (arith, nat_tests)

tablet_small : (n : ℕ) → nat_lt n 64 ≡ true → n < 2 ^ 64
tablet_small n h = grind (arith, nat_tests)

hash_small : (n : ℕ) → nat_lt n 65536 ≡ true → n < 2 ^ 64
hash_small n h = grind (arith, nat_tests)

-- ---- a record

sub_small : (n : ℕ) → nat_le n 64 ≡ true → n < 2 ^ 64
sub_small n h = grind (arith, nat_tests)

sub_plain : (sub : ℕ) → nat_le sub 64 ≡ true → list_all plain (sub_words sub) ≡ true
sub_plain sub h =
    elim (sub == 0) as (λ b. list_all plain (if b then [] else (codes "sub" ∷ decimal sub ∷ [])) ≡ true)
    [ true ↦ refl | false ↦ rw (decimal_plain sub (sub_small sub h)) refl ]

pub in_range-subs : (subs : List ℕ) → are_subs subs ≡ true → list_all (λ sub. nat_le 1 sub && nat_le sub 64) subs ≡ true
in_range-subs subs h = (and_parts (list_all (λ sub. nat_le 1 sub && nat_le sub 64) subs) (bytes_eq (distinct subs) subs) h).0

numbers_plain : (subs : List ℕ) → list_all (λ sub. nat_le 1 sub && nat_le sub 64) subs ≡ true → list_all plain (map decimal subs) ≡ true
numbers_plain [] h = refl
numbers_plain (sub ∷ subs) h =
    let p = and_parts (nat_le 1 sub && nat_le sub 64) (list_all (λ sub. nat_le 1 sub && nat_le sub 64) subs) h in
    let q = and_parts (nat_le 1 sub) (nat_le sub 64) p.0 in
    rw (decimal_plain sub (sub_small sub q.1)) (numbers_plain subs p.1)

without_plain : (subs : List ℕ) → are_subs subs ≡ true → list_all plain (without_words subs) ≡ true
without_plain [] h = refl
without_plain (sub ∷ subs) h = numbers_plain (sub ∷ subs) (in_range-subs (sub ∷ subs) h)

kind_plain : (v : Version) (k : Kind) → kind_numbers_fit k ≡ true → kind_names_fit k ≡ true → kind_spelled v k ≡ true
    → list_all plain (kind_words v k) ≡ true
kind_plain v (Write ops) n m s = ops_plain v ops m s
kind_plain v (Intent sub txn ops) n m s =
    let p = and_parts (is_txn txn) (nat_le sub 64) n in
    rw (decimal_plain txn (txn_small txn p.0)) (list_all-append plain (sub_words sub) (map (op_word v) ops)
    ∙ rw (sub_plain sub p.1) (ops_plain v ops m s))
kind_plain v (Apply txn commit without) n m s =
    let p = and_parts (is_txn txn) (is_time commit && are_subs without) n in
    let q = and_parts (is_time commit) (are_subs without) p.1 in
    rw (decimal_plain txn (txn_small txn p.0), decimal_plain commit (time_small commit q.0)) (without_plain without q.1)
kind_plain v (Abort txn) n m s = rw (decimal_plain txn (txn_small txn n)) refl
kind_plain v (Safe value) n m s = rw (decimal_plain value (time_small value n)) refl
kind_plain v (Split place left right) n m s =
    let p = and_parts (nat_lt place 65536) (nat_lt left 64 && nat_lt right 64) n in
    let q = and_parts (nat_lt left 64) (nat_lt right 64) p.1 in
    rw (
      decimal_plain place (hash_small place p.0),
      decimal_plain left (tablet_small left q.0),
      decimal_plain right
          (tablet_small right q.1),
    ) refl

not_zero-sub : (n : ℕ) (words : List (List ℕ)) → n == 0 ≡ false → sub_named (n, words) ≡ (n, words)
not_zero-sub n words h = rw h refl

is_no_sub : (key : List ℕ) (value : Option (List ℕ)) → bytes_eq (op_by key value) (codes "sub") ≡ false
is_no_sub key None = refl
is_no_sub key (Some value) = refl

sub_is : (v : Version) (sub : ℕ) (ops : List Op) → nat_le sub 64 ≡ true → nat_le 1 (length ops) ≡ true
    → sub_of (sub_words sub ++ map (op_word v) ops) ≡ Some (sub, map (op_word v) ops)
sub_is v sub [] h some = cc
sub_is v sub (op ∷ ops) h some = by (sub == 0) refl
  where
    by : (b : Bool) → sub == 0 ≡ b
        → sub_of ((if b then [] else (codes "sub" ∷ decimal sub ∷ [])) ++ map (op_word v) (op ∷ ops)) ≡ Some
        (sub, map (op_word v) (op ∷ ops))
    by true e = rw (is_no_sub (name_word v op.key) (option_map (name_word v) op.value))
        (ap (λ n. Some (n, map (op_word v) (op ∷ ops))) (sym (eqb-true sub 0 e)))
    by false e = rw (number_is sub (sub_small sub h)) (ap Some (not_zero-sub sub (map (op_word v) (op ∷ ops)) e))

numbers_are : (subs : List ℕ) → list_all (λ sub. nat_le 1 sub && nat_le sub 64) subs ≡ true → all_numbers (map decimal subs) ≡ Some subs
numbers_are [] h = refl
numbers_are (sub ∷ subs) h =
    let p = and_parts (nat_le 1 sub && nat_le sub 64) (list_all (λ sub. nat_le 1 sub && nat_le sub 64) subs) h in
    let q = and_parts (nat_le 1 sub) (nat_le sub 64) p.0 in
    rw (number_is sub (sub_small sub q.1), numbers_are subs p.1) refl

without_is : (subs : List ℕ) → are_subs subs ≡ true → without_of (without_words subs) ≡ Some subs
without_is [] h = refl
without_is (sub ∷ subs) h = numbers_are (sub ∷ subs) (in_range-subs (sub ∷ subs) h)

kind_is : (v : Version) (k : Kind) → kind_numbers_fit k ≡ true → kind_names_fit k ≡ true → kind_spelled v k ≡ true → has_ops k ≡ true
    → kind_of v (kind_words v k) ≡ Some k
unfolding kind_of
kind_is v (Write ops) n m s some = rw (ops_are v ops m s some) refl
kind_is v (Intent sub txn ops) n m s some =
    let p = and_parts (is_txn txn) (nat_le sub 64) n in
    rw (number_is txn (txn_small txn p.0)) (rw (sub_is v sub ops p.1 some) (rw (ops_are v ops m s some) refl))
kind_is v (Apply txn commit without) n m s some =
    let p = and_parts (is_txn txn) (is_time commit && are_subs without) n in
    let q = and_parts (is_time commit) (are_subs without) p.1 in
    rw (number_is txn (txn_small txn p.0), number_is commit (time_small commit q.0)) (rw (without_is without q.1) refl)
kind_is v (Abort txn) n m s some = rw (number_is txn (txn_small txn n)) refl
kind_is v (Safe value) n m s some = rw (number_is value (time_small value n)) refl
kind_is v (Split place left right) n m s some =
    let p = and_parts (nat_lt place 65536) (nat_lt left 64 && nat_lt right 64) n in
    let q = and_parts (nat_lt left 64) (nat_lt right 64) p.1 in
    rw (number_is place (hash_small place p.0), number_is left (tablet_small left q.0), number_is right (tablet_small right q.1)) refl

-- what a line of a record meets by itself
pub record EntryFits (v : Version) (id : ℕ) (r : Record) : Type 0 where
  pub tablet : nat_lt id 64 ≡ true
  pub time : is_time r.time ≡ true
  pub numbers : kind_numbers_fit r.kind ≡ true
  pub names : kind_names_fit r.kind ≡ true
  pub spelled : kind_spelled v r.kind ≡ true
  pub some : has_ops r.kind ≡ true

abbrev pub entry_bytes : Version → ℕ → Record → List ℕ
entry_bytes v id r = decimal id ++ spaced (decimal r.time ∷ kind_words v r.kind)

entry_plain : (v : Version) (id : ℕ) (r : Record) → EntryFits v id r → list_all plain (decimal r.time ∷ kind_words v r.kind) ≡ true
entry_plain v id r f = rw (decimal_plain r.time (time_small r.time f.time)) (kind_plain v r.kind f.numbers f.names f.spelled)

pub entry_line : (v : Version) (id : ℕ) (r : Record) (rest : List ℕ) → EntryFits v id r
    → split_on 10 (record_text v id r ++ rest) ≡ entry_bytes v id r ∷ split_on 10 rest
unfolding record_text
entry_line v id r rest f =
    split_line (decimal id) (decimal r.time ∷ kind_words v r.kind) rest (decimal_plain id (tablet_small id f.tablet)) (entry_plain v id r f)

pub entry_is : (v : Version) (id : ℕ) (r : Record) → EntryFits v id r
    → line_of v (split_on 32 (entry_bytes v id r)) ≡ Some (line.Entry id r)
unfolding line_of
entry_is v id r f =
    let small = tablet_small id f.tablet in
    let digits = decimal_digits id small in
    rw (split_words (decimal id) (decimal r.time ∷ kind_words v r.kind) (decimal_plain id small) (entry_plain v id r f))
    (rw (
      digits_differ (decimal id) 120 (codes "clog") digits refl,
      digits_differ (decimal id) 116 (codes "ablet") digits refl,
      digits_differ (decimal id) 101 (codes "nd") digits refl,
      number_is id small,
      number_is r.time (time_small r.time f.time),
      kind_is v
          r.kind f.numbers f.names f.spelled f.some,
    ) refl)

-- ---- a header

parent_plain : (parent : Option ℕ) → option_map_or (λ p. nat_lt p 64) parent true ≡ true → list_all plain (parent_words parent) ≡ true
parent_plain None h = refl
parent_plain (Some p) h = rw (decimal_plain p (tablet_small p h)) refl

abbrev pub header_words : Header → List (List ℕ)
header_words h = decimal h.id ∷ decimal h.lo ∷ decimal h.hi ∷ parent_words h.parent

abbrev pub header_bytes : Header → List ℕ
header_bytes h = codes "tablet" ++ spaced (header_words h)

pub record HeaderSmall (h : Header) : Type 0 where
  pub id : nat_lt h.id 64 ≡ true
  pub lo : nat_lt h.lo 65536 ≡ true
  pub hi : nat_lt h.hi 65536 ≡ true
  pub parent : option_map_or (λ p. nat_lt p 64) h.parent true ≡ true

header_plain : (h : Header) → HeaderSmall h → list_all plain (header_words h) ≡ true
header_plain h f =
    rw (decimal_plain h.id (tablet_small h.id f.id), decimal_plain h.lo (hash_small h.lo f.lo), decimal_plain h.hi (hash_small h.hi f.hi))
    (parent_plain h.parent f.parent)

pub header_line : (h : Header) (rest : List ℕ) → HeaderSmall h → split_on 10 (header_text h ++ rest) ≡ header_bytes h ∷ split_on 10 rest
unfolding header_text
header_line h rest f = split_line (codes "tablet") (header_words h) rest refl (header_plain h f)

header_cases : (v : Version) (id lo hi : ℕ) (parent : Option ℕ) → id < 2 ^ 64 → lo < 2 ^ 64 → hi < 2 ^ 64
    → option_map_or (λ p. nat_lt p 64) parent true ≡ true
    → line_of v (codes "tablet" ∷ decimal id ∷ decimal lo ∷ decimal hi ∷ parent_words parent) ≡ Some
    (line.Tablet (record { id = id; lo = lo; hi = hi; parent = parent }))
unfolding line_of
header_cases v id lo hi None a b c h = rw (number_is id a, number_is lo b, number_is hi c) refl
header_cases v id lo hi (Some p) a b c h = rw (number_is id a, number_is lo b, number_is hi c, number_is p (tablet_small p h)) refl

pub header_is : (v : Version) (h : Header) → HeaderSmall h → line_of v (split_on 32 (header_bytes h)) ≡ Some (line.Tablet h)
header_is v h f =
    rw (split_words (codes "tablet") (header_words h) refl (header_plain h f))
    (header_cases v h.id h.lo h.hi h.parent (tablet_small h.id f.id) (hash_small h.lo f.lo) (hash_small h.hi f.hi) f.parent)
