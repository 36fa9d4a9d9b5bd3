-- Words that are read as a line are the words of its text, since a number is spelled in one way.
use Rattle.std.proofs.Common.{◌≡◌, ℕ, ◌-◌, ◌^◌, ◌<◌, ◌==◌, Bool, true, false, ◌&&◌, min, nat_le, nat_lt, List, [], ◌∷◌, ◌++◌, length}
use Rattle.std.proofs.Common.{get_or, map, Option, Some, None, if◌then◌else◌, option_map, is_some, refl, sym, ap, subst, ◌∙◌, codes}
use Rattle.std.proofs.Common.{decimal, arith}
use Rattle.std.proofs.lemmas.Bool.{and_parts, and_from, eqb-true}
use Rattle.std.proofs.lemmas.Bool.Decides.{nat_tests}
use Rattle.std.proofs.lemmas.Option.{option_and_then_some, same_Some, none-some}
use Rattle.std.proofs.lemmas.List.Sums.{split_at_first, passes_at_first}
use Rattle.std.specs.List.{list_all, list_any, before_first, after_first, position_or_len, join_with_byte}
use Rattle.std.specs.Option.{option_map_or}
use Rattle.std.specs.Str.{bytes_eq}
use Rattle.std.proofs.lemmas.List.{append-nil}
use Rattle.std.proofs.lemmas.Slice.Eq.{bytes_eq-Decides}
use Rattle.xc_base.specs.Words.{split_on, number_of}
use Rattle.xc_base.proofs.WordLaws.{decimal-number_of, join-split_on}
use Rattle.xc_base.specs.Names.{is_plain, is_key, is_value}
use Rattle.xc_base.specs.Escapes.{wrong_place, unescaped}
use Rattle.xc_base.proofs.EscapeLaws.{read_is_escaped}
use Rattle.xc_record.specs.Subs.{are_subs}
use Rattle.xc_record.specs.Valid.{is_time, is_txn}
use Rattle.xc_record.specs.declared.record.Op.{Op}
use Rattle.xc_record.specs.declared.record.Kind.{Kind}
use Rattle.xc_record.specs.declared.record.Kind.TheVariants.{Write, Intent, Apply, Abort, Safe, Split}
use Rattle.xc_record.specs.declared.record.Header.{Header}
use Rattle.xc_text.specs.declared.line.Version.{Version}
use Rattle.xc_text.specs.declared.line.Version.TheVariants.{One, Two}
use Rattle.xc_text.specs.declared.line.LogLine.{LogLine}
use Rattle.xc_text.specs.declared.line.LogLine.TheVariants as line
use Rattle.xc_text.specs.Lines.{◌>>=◌, no_name, name_of, number, first_number, at_end, set_of, op_written, op_meant, op_is_named, op_of}
use Rattle.xc_text.specs.Lines.{all_ops, ops_of, sub_named, sub_of, intent_of, all_numbers, numbers_of, without_of, apply_of, abort_of}
use Rattle.xc_text.specs.Lines.{safe_of, split_of, kind_by, kind_of, kind_numbers_fit, kind_names_fit, names_fit, entry_of, parent_of}
use Rattle.xc_text.specs.Lines.{only_number, header_of, version_of, line_by, line_of, header_numbers_fit, numbers_fit}
use Rattle.xc_text.specs.Printed.{spaced, line_text, name_word, spelled, op_by, op_word, op_spelled, sub_words, without_words, kind_words}
use Rattle.xc_text.specs.Printed.{kind_spelled, first_line, record_text, parent_words, header_text}
use Rattle.xc_text.proofs.PrintedLines.{header_words, in_range-subs}
use Rattle.xc_text.proofs.PrintedWords.{line_body}

-- ---- words and numbers

words_same : (v w : List ℕ) (vs ws : List (List ℕ)) → v ≡ w → vs ≡ ws → v ∷ vs ≡ w ∷ ws
words_same v w vs ws a b = cc

-- a number below the greatest of 64 bits is not cut off
not_cut : (m n : ℕ) → min m (2 ^ 64 - 1) ≡ n → n < 2 ^ 62 → m ≡ n
not_cut m n e h = omega arith

number_cases : (w : List ℕ) (n : ℕ) (o : Option ℕ) → number_of w ≡ o → option_map (λ m. min m (2 ^ 64 - 1)) o ≡ Some n → n < 2 ^ 62
    → w ≡ decimal n
number_cases w n None is h l = cc
number_cases w n (Some m) is h l =
    let same : m ≡ n = not_cut m n (same_Some (min m (2 ^ 64 - 1)) n h) l in
    sym (decimal-number_of w n (omega arith) (is ∙ ap Some same))

number_word : (w : List ℕ) (n : ℕ) → number w ≡ Some n → n < 2 ^ 62 → w ≡ decimal n
unfolding number
number_word w n h l = number_cases w n (number_of w) refl h l

first_cases : (w : List ℕ) (ws : List (List ℕ)) (p : ℕ × List (List ℕ)) (o : Option ℕ) → number w ≡ o
    → option_map (λ n. (n, ws)) o ≡ Some p → p.0 < 2 ^ 62 → w ∷ ws ≡ decimal p.0 ∷ p.1
first_cases w ws p None is h l = cc
first_cases w ws p (Some n) is h l =
    let same : (n, ws) ≡ p = same_Some (n, ws) p h in
    let low : p.0 < 2 ^ 62 = l in
    let a : n ≡ p.0 = ap (λ q. q.0) same in
    let b : ws ≡ p.1 = ap (λ q. q.1) same in
    words_same w (decimal p.0) ws p.1 (number_word w p.0 (is ∙ ap Some a) low) b

first_word : (ws : List (List ℕ)) (p : ℕ × List (List ℕ)) → first_number ws ≡ Some p → p.0 < 2 ^ 62 → ws ≡ decimal p.0 ∷ p.1
first_word [] p h l = cc
first_word (w ∷ ws) p h l = first_cases w ws p (number w) refl h l

ended : {A : Type 0} (ws : List (List ℕ)) (x y : A) → at_end ws x ≡ Some y → (ws ≡ []) × (x ≡ y)
ended [] x y h = (refl, same_Some x y h)
ended (w ∷ ws) x y h = cc

only_word : (ws : List (List ℕ)) (n : ℕ) → only_number ws ≡ Some n → n < 2 ^ 62 → ws ≡ decimal n ∷ []
only_word ws n h l =
    option_and_then_some (λ p. at_end p.1 p.0) (first_number ws) n h
    (λ p is end. let z = ended p.1 p.0 n end in first_word ws p is (subst (λ m. m < 2 ^ 62) (sym z.1) l)
    ∙ ap (λ m. decimal m ∷ p.1) z.1 ∙ ap (λ us. decimal n ∷ us) z.0)

map_some : {A B P : Type 0} (f : A → B) (o : Option A) (y : B) → option_map f o ≡ Some y → ((x : A) → o ≡ Some x → f x ≡ y → P) → P
map_some f None y h k = cc
map_some f (Some x) y h k = k x refl (same_Some (f x) y h)

time_low : (n : ℕ) → is_time n ≡ true → n < 2 ^ 62
time_low n h = let p = and_parts (nat_le 1 n) (nat_lt n (2 ^ 62)) h in grind (arith, nat_tests)

txn_low : (n : ℕ) → is_txn n ≡ true → n < 2 ^ 62
txn_low n h = let p = and_parts (nat_le 1 n) (nat_lt n (2 ^ 32)) h in grind (arith, nat_tests)

tablet_low : (n : ℕ) → nat_lt n 64 ≡ true → n < 2 ^ 62
tablet_low n h = grind (arith, nat_tests)

hash_low : (n : ℕ) → nat_lt n 65536 ≡ true → n < 2 ^ 62
hash_low n h = grind (arith, nat_tests)

-- ---- operations

within : (xs : List ℕ) → list_any (λ b. b == 61) xs ≡ true → position_or_len (λ b. b == 61) xs < length xs
within [] h = cc
within (x ∷ xs) h = grind (arith, within xs)

set_word : (rest : List ℕ) (op : Op) → set_of rest ≡ Some op → 43 ∷ rest ≡ op_by op.key op.value
set_word rest op h = by (list_any (λ b. b == 61) rest) refl h
  where
    by : (t : Bool) → list_any (λ b. b == 61) rest ≡ t
        → (if t then Some (record { key = before_first (λ b. b == 61) rest; value = Some (after_first (λ b. b == 61) rest) }) else None) ≡
        Some op → 43 ∷ rest ≡ op_by op.key op.value
    by false any k = cc
    by true any k =
        let l = within rest any in
        let is : get_or rest (position_or_len (λ b. b == 61) rest) 0 ≡ 61 = eqb-true _ 61 (passes_at_first (λ b. b == 61) rest 0 l) in
        let cut = split_at_first (λ b. b == 61) rest 0 l in
        let whole : rest ≡ before_first (λ b. b == 61) rest ++ 61 ∷ after_first (λ b. b == 61) rest =
        cut ∙ ap (λ b. before_first (λ c. c == 61) rest ++ b ∷ after_first (λ c. c == 61) rest) is in
        ap (λ bytes. 43 ∷ bytes) whole ∙ ap (λ (o : Op). op_by o.key o.value) (same_Some _ op k)

written_word : (w : List ℕ) (op : Op) → op_written w ≡ Some op → w ≡ op_by op.key op.value
written_word [] op h = cc
written_word (sign ∷ rest) op h = by (sign == 43) (sign == 45) refl refl h
  where
    by : (a b : Bool) → (sign == 43) ≡ a → (sign == 45) ≡ b
        → (if a then set_of rest else (if b then Some (record { key = rest; value = None }) else None)) ≡ Some op
        → sign ∷ rest ≡ op_by op.key op.value
    by true b p q k = ap (λ c. c ∷ rest) (eqb-true sign 43 p) ∙ set_word rest op k
    by false true p q k = ap (λ c. c ∷ rest) (eqb-true sign 45 q) ∙ ap (λ (o : Op). op_by o.key o.value) (same_Some _ op k)
    by false false p q k = cc

-- a word that stands for a name is that name's
abbrev IsWordOf : Version → List ℕ → List ℕ → Type 0
IsWordOf v word name = (word ≡ name_word v name) × (spelled v name ≡ true)

name_back : (v : Version) (word : List ℕ) → (name_of v word ≡ no_name → ⊥) → IsWordOf v word (name_of v word)
name_back One word h = by (is_plain word) refl h
  where
    by : (b : Bool) → is_plain word ≡ b → ((if b then word else no_name) ≡ no_name → ⊥) → IsWordOf One word (if b then word else no_name)
    by true e h = (refl, e)
    by false e h = absurd (h refl)
name_back Two word h = by (wrong_place word) refl h
  where
    by : (o : Option ℕ) → wrong_place word ≡ o → ((if is_some o then no_name else unescaped word) ≡ no_name → ⊥)
        → IsWordOf Two word (if is_some o then no_name else unescaped word)
    by None e h = (sym (read_is_escaped word e), refl)
    by (Some p) e h = absurd (h refl)

key_there : (name : List ℕ) → is_key name ≡ true → name ≡ no_name → ⊥
key_there name h e = let no : is_key no_name ≡ true = subst (λ n. is_key n ≡ true) e h in cc

value_there : (name : List ℕ) → is_value name ≡ true → name ≡ no_name → ⊥
value_there name h e = let no : is_value no_name ≡ true = subst (λ n. is_value n ≡ true) e h in cc

value_back : (v : Version) (value : Option (List ℕ)) → option_map_or is_value (option_map (name_of v) value) true ≡ true
    → (value ≡ option_map (name_word v) (option_map (name_of v) value)) ×
    (option_map_or (spelled v) (option_map (name_of v) value) true ≡ true)
value_back v None h = (refl, refl)
value_back v (Some word) h = let back = name_back v word (value_there _ h) in (ap Some back.0, back.1)

-- a word that is read as an operation is that operation's
abbrev pub IsOp : Version → List ℕ → Op → Type 0
IsOp v w op = (w ≡ op_word v op) × (op_spelled v op ≡ true)

meant_word : (v : Version) (w : List ℕ) (op : Op) → op_written w ≡ Some op → op_is_named (op_meant v op) ≡ true → IsOp v w (op_meant v op)
meant_word v w op is named =
    let p = and_parts (is_key (name_of v op.key)) (option_map_or is_value (option_map (name_of v) op.value) true) named in
    let key = name_back v op.key (key_there _ p.0) in
    let value = value_back v op.value p.1 in (
      written_word w op is ∙ ap (λ k. op_by k op.value) key.0
          ∙ ap (λ o. op_by (name_word v (name_of v op.key)) o) value.0,
      and_from _ _ key.1 value.1,
    )

pub op_is_word : (v : Version) (w : List ℕ) (op : Op) → op_of v w ≡ Some op → op_is_named op ≡ true → IsOp v w op
op_is_word v w op h named = by (op_written w) refl h
  where
    by : (o : Option Op) → op_written w ≡ o → option_map (op_meant v) o ≡ Some op → IsOp v w op
    by None is k = cc
    by (Some raw) is k =
        let same : op_meant v raw ≡ op = same_Some (op_meant v raw) op k in
        subst (IsOp v w) same (meant_word v w raw is (subst (λ o. op_is_named o ≡ true) (sym same) named))

abbrev AreOps : Version → List (List ℕ) → List Op → Type 0
AreOps v ws ops = list_all op_is_named ops ≡ true → (ws ≡ map (op_word v) ops) × (list_all (op_spelled v) ops ≡ true)

all_words : (v : Version) (ws : List (List ℕ)) (ops : List Op) → all_ops v ws ≡ Some ops → AreOps v ws ops
all_words v [] ops h = subst (AreOps v []) (same_Some [] ops h) (λ named. (refl, refl))
all_words v (w ∷ ws) ops h =
    option_and_then_some (λ op. all_ops v ws >>= (λ rest. Some (op ∷ rest))) (op_of v w) ops h
    (λ op is more. option_and_then_some (λ rest. Some (op ∷ rest)) (all_ops v ws) ops more
    (λ rest got same. subst (AreOps v (w ∷ ws)) (same_Some (op ∷ rest) ops same)
    (λ named. let p = and_parts (op_is_named op) (list_all op_is_named rest) named in
    let first = op_is_word v w op is p.0 in
    let others = all_words v ws rest got p.1 in
    (words_same w (op_word v op) ws (map (op_word v) rest) first.0 others.0, and_from _ _ first.1 others.1))))

ops_words : (v : Version) (ws : List (List ℕ)) (ops : List Op) → ops_of v ws ≡ Some ops → AreOps v ws ops
ops_words v [] ops h = cc
ops_words v (w ∷ ws) ops h = all_words v (w ∷ ws) ops h

-- ---- kinds

-- if its numbers and its names fit, the words are those of this kind
abbrev AreWords : Version → List (List ℕ) → Kind → Type 0
AreWords v words k = kind_numbers_fit k ≡ true → kind_names_fit k ≡ true → (words ≡ kind_words v k) × (kind_spelled v k ≡ true)

write_words : (v : Version) (words : List (List ℕ)) (k : Kind) (o : Option (List Op)) → ops_of v words ≡ o → option_map Write o ≡ Some k
    → AreWords v (codes "write" ∷ words) k
write_words v words k None is h = cc
write_words v words k (Some ops) is h =
    subst (AreWords v (codes "write" ∷ words)) (same_Some (Write ops) k h)
    (λ fit named. let all = ops_words v words ops is named in (ap (λ ws. codes "write" ∷ ws) all.0, all.1))

sub_low : (n : ℕ) → nat_le n 64 ≡ true → n < 2 ^ 62
sub_low n h = grind (arith, nat_tests)

-- the words of the subtransaction stand in front
sub_back : (ws : List (List ℕ)) (p : ℕ × List (List ℕ)) → sub_of ws ≡ Some p → nat_le p.0 64 ≡ true → ws ≡ sub_words p.0 ++ p.1
sub_back [] p h low = ap (λ (q : ℕ × List (List ℕ)). sub_words q.0 ++ q.1) (same_Some (0, []) p h)
sub_back (w ∷ ws) p h low = by (bytes_eq w (codes "sub")) refl h
  where
    named : (q : ℕ × List (List ℕ)) → first_number ws ≡ Some q → bytes_eq w (codes "sub") ≡ true → (b : Bool) → q.0 == 0 ≡ b
        → (if b then 65 else q.0, q.1) ≡ p → w ∷ ws ≡ sub_words p.0 ++ p.1
    named q is w_is true zero same = let big : 65 ≡ p.0 = ap (λ r. r.0) same in absurd (grind (arith, nat_tests))
    named q is w_is false above same =
        let number : q.0 ≡ p.0 = ap (λ r. r.0) same in
        let rest : q.1 ≡ p.1 = ap (λ r. r.1) same in
        let fits : q.0 < 2 ^ 62 = sub_low q.0 (subst (λ n. nat_le n 64 ≡ true) (sym number) low) in
        let first : sub_words q.0 ≡ codes "sub" ∷ decimal q.0 ∷ [] = rw above refl in
        words_same w (codes "sub") ws (decimal q.0 ∷ q.1) ((bytes_eq-Decides w (codes "sub")).0 w_is) (first_word ws q is fits)
        ∙ ap (λ front. front ++ q.1) (sym first) ∙ ap (λ n. sub_words n ++ q.1) number ∙ ap (λ more. sub_words p.0 ++ more) rest

    found : (o : Option (ℕ × List (List ℕ))) → first_number ws ≡ o → bytes_eq w (codes "sub") ≡ true → option_map sub_named o ≡ Some p
        → w ∷ ws ≡ sub_words p.0 ++ p.1
    found None is w_is k = cc
    found (Some q) is w_is k = named q is w_is (q.0 == 0) refl (same_Some (sub_named q) p k)

    by : (b : Bool) → bytes_eq w (codes "sub") ≡ b → (if b then option_map sub_named (first_number ws) else Some (0, w ∷ ws)) ≡ Some p
        → w ∷ ws ≡ sub_words p.0 ++ p.1
    by true w_is k = found (first_number ws) refl w_is k
    by false w_is k = ap (λ (q : ℕ × List (List ℕ)). sub_words q.0 ++ q.1) (same_Some (0, w ∷ ws) p k)

intent_words : (v : Version) (words : List (List ℕ)) (k : Kind) → intent_of v words ≡ Some k → AreWords v (codes "intent" ∷ words) k
intent_words v words k h =
    option_and_then_some (λ txn. sub_of txn.1 >>= (λ sub. ops_of v sub.1 >>= (λ ops. Some (Intent sub.0 txn.0 ops)))) (first_number words) k
    h
    (λ txn is more. option_and_then_some (λ sub. ops_of v sub.1 >>= (λ ops. Some (Intent sub.0 txn.0 ops))) (sub_of txn.1) k more
    (λ sub in_sub others. option_and_then_some (λ ops. Some (Intent sub.0 txn.0 ops)) (ops_of v sub.1) k others
    (λ ops got same. subst (AreWords v (codes "intent" ∷ words)) (same_Some (Intent sub.0 txn.0 ops) k same)
    (λ fit named. let p = and_parts (is_txn txn.0) (nat_le sub.0 64) fit in
    let all = ops_words v sub.1 ops got named in (
      ap (λ ws. codes "intent" ∷ ws) (first_word words txn is (txn_low txn.0 p.0)
          ∙ ap (λ ws. decimal txn.0 ∷ ws) (sub_back txn.1 sub in_sub p.1 ∙ ap (λ ws. sub_words sub.0 ++ ws) all.0)),
      all.1,
    )))))

-- numbers, and the words that name them as rolled back
numbers_back : (ws : List (List ℕ)) (ns : List ℕ) → all_numbers ws ≡ Some ns → list_all (λ sub. nat_le 1 sub && nat_le sub 64) ns ≡ true
    → ws ≡ map decimal ns
numbers_back [] ns h fit = ap (map decimal) (same_Some [] ns h)
numbers_back (w ∷ ws) ns h fit =
    option_and_then_some (λ n. all_numbers ws >>= (λ rest. Some (n ∷ rest))) (number w) ns h
    (λ n is more. option_and_then_some (λ rest. Some (n ∷ rest)) (all_numbers ws) ns more
    (λ rest got same. let all : n ∷ rest ≡ ns = same_Some (n ∷ rest) ns same in
    let fits = subst (λ xs. list_all (λ sub. nat_le 1 sub && nat_le sub 64) xs ≡ true) (sym all) fit in
    let p = and_parts (nat_le 1 n && nat_le n 64) (list_all (λ sub. nat_le 1 sub && nat_le sub 64) rest) fits in
    let q = and_parts (nat_le 1 n) (nat_le n 64) p.0 in
    words_same w (decimal n) ws (map decimal rest) (number_word w n is (sub_low n q.1)) (numbers_back ws rest got p.1)
    ∙ ap (map decimal) all))

some_numbers : (ws : List (List ℕ)) (ns : List ℕ) → numbers_of ws ≡ Some ns → list_all (λ sub. nat_le 1 sub && nat_le sub 64) ns ≡ true
    → codes "without" ∷ ws ≡ without_words ns
some_numbers [] ns h fit = cc
some_numbers (w ∷ ws) ns h fit = by ns (numbers_back (w ∷ ws) ns h fit)
  where
    by : (ns : List ℕ) → w ∷ ws ≡ map decimal ns → codes "without" ∷ w ∷ ws ≡ without_words ns
    by [] e = cc
    by (n ∷ rest) e = ap (λ us. codes "without" ∷ us) e

without_back : (ws : List (List ℕ)) (ns : List ℕ) → without_of ws ≡ Some ns → are_subs ns ≡ true → ws ≡ without_words ns
without_back [] ns h fit = ap without_words (same_Some [] ns h)
without_back (w ∷ ws) ns h fit = by (bytes_eq w (codes "without")) refl h
  where
    by : (b : Bool) → bytes_eq w (codes "without") ≡ b → (if b then numbers_of ws else None) ≡ Some ns → w ∷ ws ≡ without_words ns
    by true is k = ap (λ u. u ∷ ws) ((bytes_eq-Decides w (codes "without")).0 is) ∙ some_numbers ws ns k (in_range-subs ns fit)
    by false is k = cc

apply_words : (v : Version) (words : List (List ℕ)) (k : Kind) → apply_of words ≡ Some k → AreWords v (codes "apply" ∷ words) k
apply_words v words k h =
    option_and_then_some
    (λ txn. first_number txn.1 >>= (λ commit. without_of commit.1 >>= (λ without. Some (Apply txn.0 commit.0 without))))
    (first_number words) k h
    (λ txn is more. option_and_then_some (λ commit. without_of commit.1 >>= (λ without. Some (Apply txn.0 commit.0 without)))
    (first_number txn.1) k more
    (λ commit got others. option_and_then_some (λ without. Some (Apply txn.0 commit.0 without)) (without_of commit.1) k others
    (λ without last same. subst (AreWords v (codes "apply" ∷ words)) (same_Some (Apply txn.0 commit.0 without) k same)
    (λ fit named. let p = and_parts (is_txn txn.0) (is_time commit.0 && are_subs without) fit in
    let q = and_parts (is_time commit.0) (are_subs without) p.1 in (
      ap (λ ws. codes "apply" ∷ ws) (first_word words txn is (txn_low txn.0 p.0)
          ∙ ap (λ ws. decimal txn.0 ∷ ws) (first_word txn.1 commit got (time_low commit.0 q.0)
          ∙ ap (λ ws. decimal commit.0 ∷ ws) (without_back commit.1 without last q.1))),
      refl,
    )))))

abort_words : (v : Version) (words : List (List ℕ)) (k : Kind) → abort_of words ≡ Some k → AreWords v (codes "abort" ∷ words) k
abort_words v words k h =
    map_some Abort (only_number words) k h (λ txn is same. subst (AreWords v (codes "abort" ∷ words)) same
    (λ fit named. (ap (λ ws. codes "abort" ∷ ws) (only_word words txn is (txn_low txn fit)), refl)))

safe_words : (v : Version) (words : List (List ℕ)) (k : Kind) → safe_of words ≡ Some k → AreWords v (codes "safe" ∷ words) k
safe_words v words k h =
    map_some Safe (only_number words) k h (λ value is same. subst (AreWords v (codes "safe" ∷ words)) same
    (λ fit named. (ap (λ ws. codes "safe" ∷ ws) (only_word words value is (time_low value fit)), refl)))

split_words : (v : Version) (words : List (List ℕ)) (k : Kind) → split_of words ≡ Some k → AreWords v (codes "split" ∷ words) k
split_words v words k h =
    option_and_then_some
    (λ place. first_number place.1 >>= (λ left. first_number left.1 >>= (λ right. at_end right.1 (Split place.0 left.0 right.0))))
    (first_number words) k h
    (λ place is more. option_and_then_some (λ left. first_number left.1 >>= (λ right. at_end right.1 (Split place.0 left.0 right.0)))
    (first_number place.1) k more
    (λ left got others. option_and_then_some (λ right. at_end right.1 (Split place.0 left.0 right.0)) (first_number left.1) k others
    (λ right last end. let z = ended right.1 (Split place.0 left.0 right.0) k end in subst (AreWords v (codes "split" ∷ words)) z.1
    (λ fit named. let p = and_parts (nat_lt place.0 65536) (nat_lt left.0 64 && nat_lt right.0 64) fit in
    let q = and_parts (nat_lt left.0 64) (nat_lt right.0 64) p.1 in (
      ap (λ ws. codes "split" ∷ ws) (first_word words place is (hash_low place.0 p.0)
          ∙ ap (λ ws. decimal place.0 ∷ ws) (first_word place.1 left got (tablet_low left.0 q.0)
          ∙ ap (λ ws. decimal left.0 ∷ ws) (first_word left.1 right last (tablet_low right.0 q.1) ∙ ap (λ ws. decimal right.0 ∷ ws) z.0))),
      refl,
    )))))

-- the first word stands for the verb
with_verb : (v : Version) (verb word : List ℕ) (words : List (List ℕ)) (k : Kind) → bytes_eq verb word ≡ true → AreWords v (word ∷ words) k
    → AreWords v (verb ∷ words) k
with_verb v verb word words k is are fit named =
    let all = are fit named in (ap (λ w. w ∷ words) ((bytes_eq-Decides verb word).0 is) ∙ all.0, all.1)

verb_words : (v : Version) (verb : List ℕ) (words : List (List ℕ)) (k : Kind) → kind_by v verb words ≡ Some k → AreWords v (verb ∷ words) k
verb_words v verb words k h =
    by (bytes_eq verb (codes "write")) (bytes_eq verb (codes "intent")) (bytes_eq verb (codes "apply")) (bytes_eq verb (codes "abort"))
    (bytes_eq verb (codes "safe")) (bytes_eq verb (codes "split")) refl refl refl refl refl refl h
  where
    by : (a b c d e f : Bool) → bytes_eq verb (codes "write") ≡ a → bytes_eq verb (codes "intent") ≡ b → bytes_eq verb (codes "apply") ≡ c
        → bytes_eq verb (codes "abort") ≡ d → bytes_eq verb (codes "safe") ≡ e → bytes_eq verb (codes "split") ≡ f
        → (if a then option_map Write (ops_of v words) else
        (if b then intent_of v words else
        (if c then apply_of words else
        (if d then abort_of words else
        (if e then safe_of words else (if f then split_of words else None)))))) ≡ Some k → AreWords v (verb ∷ words) k
    by true b c d e f p q r s t u g = with_verb v verb (codes "write") words k p (write_words v words k (ops_of v words) refl g)
    by false true c d e f p q r s t u g = with_verb v verb (codes "intent") words k q (intent_words v words k g)
    by false false true d e f p q r s t u g = with_verb v verb (codes "apply") words k r (apply_words v words k g)
    by false false false true e f p q r s t u g = with_verb v verb (codes "abort") words k s (abort_words v words k g)
    by false false false false true f p q r s t u g = with_verb v verb (codes "safe") words k t (safe_words v words k g)
    by false false false false false true p q r s t u g = with_verb v verb (codes "split") words k u (split_words v words k g)
    by false false false false false false p q r s t u g = absurd (none-some k g)

kind_are : (v : Version) (words : List (List ℕ)) (k : Kind) → kind_of v words ≡ Some k → AreWords v words k
unfolding kind_of
kind_are v [] k h = cc
kind_are v (verb ∷ words) k h = verb_words v verb words k h

-- ---- lines

abbrev pub version_word : Version → List ℕ
version_word One = codes "1"
version_word Two = codes "2"

abbrev pub line_words : Version → LogLine → List (List ℕ)
line_words v (line.First version) = codes "xclog" ∷ version_word version ∷ []
line_words v (line.Tablet h) = codes "tablet" ∷ header_words h
line_words v (line.Entry id r) = decimal id ∷ decimal r.time ∷ kind_words v r.kind
line_words v line.End = codes "end" ∷ []

abbrev pub line_spelled : Version → LogLine → Bool
line_spelled v (line.Entry id r) = kind_spelled v r.kind
line_spelled v _ = true

abbrev AreLine : Version → List (List ℕ) → LogLine → Type 0
AreLine v words l = numbers_fit l ≡ true → names_fit l ≡ true → (words ≡ line_words v l) × (line_spelled v l ≡ true)

one_version : (v version : Version) (w : List ℕ) (ws : List (List ℕ)) (l : LogLine) → bytes_eq w (version_word version) ≡ true
    → at_end ws (line.First version) ≡ Some l → AreLine v (codes "xclog" ∷ w ∷ ws) l
one_version v version w ws l is g =
    let z = ended ws (line.First version) l g in
    subst (AreLine v (codes "xclog" ∷ w ∷ ws)) z.1
    (λ fit named. (
      ap (λ us. codes "xclog" ∷ us)
          (words_same w (version_word version) ws [] ((bytes_eq-Decides w (version_word version)).0 is) z.0),
      refl,
    ))

version_words : (v : Version) (words : List (List ℕ)) (l : LogLine) → version_of words ≡ Some l → AreLine v (codes "xclog" ∷ words) l
version_words v [] l h = absurd (none-some l h)
version_words v (w ∷ ws) l h = by (bytes_eq w (codes "1")) (bytes_eq w (codes "2")) refl refl h
  where
    by : (a b : Bool) → bytes_eq w (codes "1") ≡ a → bytes_eq w (codes "2") ≡ b
        → (if a then at_end ws (line.First One) else (if b then at_end ws (line.First Two) else None)) ≡ Some l
        → AreLine v (codes "xclog" ∷ w ∷ ws) l
    by true b is other g = one_version v One w ws l is g
    by false true is other g = one_version v Two w ws l other g
    by false false is other g = absurd (none-some l g)

end_words : (v : Version) (words : List (List ℕ)) (l : LogLine) → at_end words line.End ≡ Some l → AreLine v (codes "end" ∷ words) l
end_words v words l h =
    let z = ended words line.End l h in subst (AreLine v (codes "end" ∷ words)) z.1 (λ fit named. (ap (λ us. codes "end" ∷ us) z.0, refl))

abbrev AreParent : List (List ℕ) → Option ℕ → Type 0
AreParent words parent = option_map_or (λ p. nat_lt p 64) parent true ≡ true → words ≡ parent_words parent

child_words : (ws : List (List ℕ)) (parent : Option ℕ) → option_map Some (only_number ws) ≡ Some parent
    → AreParent (codes "child" ∷ ws) parent
child_words ws parent h =
    map_some Some (only_number ws) parent h (λ p is same. subst (AreParent (codes "child" ∷ ws)) same
    (λ fit. ap (λ us. codes "child" ∷ us) (only_word ws p is (tablet_low p fit))))

root_words : (ws : List (List ℕ)) (parent : Option ℕ) → at_end ws None ≡ Some parent → AreParent (codes "root" ∷ ws) parent
root_words ws parent h =
    let z = ended ws None parent h in subst (AreParent (codes "root" ∷ ws)) z.1 (λ fit. ap (λ us. codes "root" ∷ us) z.0)

parent_are : (words : List (List ℕ)) (parent : Option ℕ) → parent_of words ≡ Some parent → AreParent words parent
parent_are [] parent h = absurd (none-some parent h)
parent_are (w ∷ ws) parent h = by (bytes_eq w (codes "root")) (bytes_eq w (codes "child")) refl refl h
  where
    by : (a b : Bool) → bytes_eq w (codes "root") ≡ a → bytes_eq w (codes "child") ≡ b
        → (if a then at_end ws None else (if b then option_map Some (only_number ws) else None)) ≡ Some parent
        → AreParent (w ∷ ws) parent
    by true b p q g fit = ap (λ v. v ∷ ws) ((bytes_eq-Decides w (codes "root")).0 p) ∙ root_words ws parent g fit
    by false true p q g fit = ap (λ v. v ∷ ws) ((bytes_eq-Decides w (codes "child")).0 q) ∙ child_words ws parent g fit
    by false false p q g fit = cc

abbrev AreHeader : List (List ℕ) → Header → Type 0
AreHeader words h = header_numbers_fit h ≡ true → words ≡ header_words h

header_are : (words : List (List ℕ)) (h : Header) → header_of words ≡ Some h → AreHeader words h
header_are words h g =
    option_and_then_some
    (λ id. first_number id.1 >>=
    (λ lo. first_number lo.1 >>=
    (λ hi. parent_of hi.1 >>=
    (λ parent. Some (record { id = id.0; lo = lo.0; hi = hi.0; parent = parent }))))) (first_number words) h g
    (λ id a more. option_and_then_some
    (λ lo. first_number lo.1 >>=
    (λ hi. parent_of hi.1 >>= (λ parent. Some (record { id = id.0; lo = lo.0; hi = hi.0; parent = parent })))) (first_number
    id.1) h more
    (λ lo b others. option_and_then_some
    (λ hi. parent_of hi.1 >>= (λ parent. Some (record { id = id.0; lo = lo.0; hi = hi.0; parent = parent }))) (first_number lo.1) h
    others
    (λ hi c last. option_and_then_some (λ parent. Some (record { id = id.0; lo = lo.0; hi = hi.0; parent = parent })) (parent_of hi.1) h
    last
    (λ parent d same. subst (AreHeader words) (same_Some (record { id = id.0; lo = lo.0; hi = hi.0; parent = parent }) h same)
    (λ fit. let p = and_parts (nat_lt id.0 64) _ fit in
    let q = and_parts (nat_lt lo.0 65536) (nat_lt hi.0 65536 && option_map_or (λ parent. nat_lt parent 64) parent true) p.1 in
    let r = and_parts (nat_lt hi.0 65536) (option_map_or (λ parent. nat_lt parent 64) parent true) q.1 in
    first_word words id a (tablet_low id.0 p.0)
    ∙ ap (λ us. decimal id.0 ∷ us) (first_word id.1 lo b (hash_low lo.0 q.0)
    ∙ ap (λ us. decimal lo.0 ∷ us) (first_word lo.1 hi c (hash_low hi.0 r.0)
    ∙ ap (λ us. decimal hi.0 ∷ us) (parent_are hi.1 parent d r.1))))))))

tablet_words : (v : Version) (words : List (List ℕ)) (l : LogLine) (o : Option Header) → header_of words ≡ o
    → option_map line.Tablet o ≡ Some l → AreLine v (codes "tablet" ∷ words) l
tablet_words v words l None is g = absurd (none-some l g)
tablet_words v words l (Some h) is g =
    subst (AreLine v (codes "tablet" ∷ words)) (same_Some (line.Tablet h) l g)
    (λ fit named. (ap (λ us. codes "tablet" ∷ us) (header_are words h is fit), refl))

entry_words : (v : Version) (word : List ℕ) (words : List (List ℕ)) (l : LogLine) → (number word >>= (λ id. entry_of v id words)) ≡ Some l
    → AreLine v (word ∷ words) l
entry_words v word words l g =
    option_and_then_some (λ id. entry_of v id words) (number word) l g
    (λ id is more. option_and_then_some
    (λ time. kind_of v time.1 >>= (λ kind. Some (line.Entry id (record { time = time.0; kind = kind })))) (first_number words) l more
    (λ time a others. option_and_then_some (λ kind. Some (line.Entry id (record { time = time.0; kind = kind }))) (kind_of v time.1) l
    others
    (λ kind b same. subst (AreLine v (word ∷ words)) (same_Some (line.Entry id (record { time = time.0; kind = kind })) l same)
    (λ fit named. let p = and_parts (nat_lt id 64) (is_time time.0 && kind_numbers_fit kind) fit in
    let q = and_parts (is_time time.0) (kind_numbers_fit kind) p.1 in
    let all = kind_are v time.1 kind b q.1 named in (
      words_same word (decimal id) words (decimal time.0 ∷ kind_words v kind) (number_word word id is (tablet_low id p.0))
          (first_word words time a (time_low time.0 q.0) ∙ ap (λ us. decimal time.0 ∷ us) all.0),
      all.1,
    )))))

with_word : (v : Version) (word first : List ℕ) (words : List (List ℕ)) (l : LogLine) → bytes_eq word first ≡ true
    → AreLine v (first ∷ words) l → AreLine v (word ∷ words) l
with_word v word first words l is are fit named =
    let all = are fit named in (ap (λ w. w ∷ words) ((bytes_eq-Decides word first).0 is) ∙ all.0, all.1)

word_are : (v : Version) (word : List ℕ) (words : List (List ℕ)) (l : LogLine) → line_by v word words ≡ Some l → AreLine v (word ∷ words) l
word_are v word words l h =
    by (bytes_eq word (codes "xclog")) (bytes_eq word (codes "tablet")) (bytes_eq word (codes "end")) refl refl refl h
  where
    by : (a b c : Bool) → bytes_eq word (codes "xclog") ≡ a → bytes_eq word (codes "tablet") ≡ b → bytes_eq word (codes "end") ≡ c
        → (if a then version_of words else
        (if b then option_map line.Tablet (header_of words) else
        (if c then at_end words line.End else (number word >>= (λ id. entry_of v id words))))) ≡ Some l → AreLine v (word ∷ words) l
    by true b c p q r g = with_word v word (codes "xclog") words l p (version_words v words l g)
    by false true c p q r g = with_word v word (codes "tablet") words l q (tablet_words v words l (header_of words) refl g)
    by false false true p q r g = with_word v word (codes "end") words l r (end_words v words l g)
    by false false false p q r g = entry_words v word words l g

line_are : (v : Version) (words : List (List ℕ)) (l : LogLine) → line_of v words ≡ Some l → AreLine v words l
unfolding line_of
line_are v [] l h = cc
line_are v (word ∷ words) l h = word_are v word words l h

-- ---- the bytes of a line

join_spaced : (first : List ℕ) (words : List (List ℕ)) → join_with_byte 32 (first ∷ words) ≡ first ++ spaced words
join_spaced first [] = sym (append-nil first)
join_spaced first (w ∷ ws) = ap (λ rest. first ++ 32 ∷ rest) (join_spaced w ws)

spelled_line : (bytes rest first : List ℕ) (words : List (List ℕ)) → split_on 32 bytes ≡ first ∷ words
    → bytes ++ 10 ∷ rest ≡ line_text first words ++ rest
spelled_line bytes rest first words cut =
    ap (λ b. b ++ 10 ∷ rest) (sym (join-split_on 32 bytes) ∙ ap (join_with_byte 32) cut ∙ join_spaced first words)
    ∙ sym (line_body first words rest)

abbrev pub line_bytes : Version → LogLine → List ℕ
line_bytes v (line.First version) = first_line version
line_bytes v (line.Tablet h) = header_text h
line_bytes v (line.Entry id r) = record_text v id r
line_bytes v line.End = codes "end\n"

first_bytes : (bytes rest : List ℕ) (version : Version) → split_on 32 bytes ≡ codes "xclog" ∷ version_word version ∷ []
    → bytes ++ 10 ∷ rest ≡ first_line version ++ rest
first_bytes bytes rest One h = spelled_line bytes rest (codes "xclog") (codes "1" ∷ []) h
first_bytes bytes rest Two h = spelled_line bytes rest (codes "xclog") (codes "2" ∷ []) h

-- bytes that are read as a line are the line's text
pub line_back : (v : Version) (bytes rest : List ℕ) (l : LogLine) → line_of v (split_on 32 bytes) ≡ Some l → numbers_fit l ≡ true
    → names_fit l ≡ true → (bytes ++ 10 ∷ rest ≡ line_bytes v l ++ rest) × (line_spelled v l ≡ true)
unfolding header_text record_text
line_back v bytes rest (line.First version) h fit named =
    let all = line_are v (split_on 32 bytes) (line.First version) h fit named in (first_bytes bytes rest version all.0, refl)
line_back v bytes rest (line.Tablet t) h fit named =
    let all = line_are v (split_on 32 bytes) (line.Tablet t) h fit named in
    (spelled_line bytes rest (codes "tablet") (header_words t) all.0, refl)
line_back v bytes rest (line.Entry id r) h fit named =
    let all = line_are v (split_on 32 bytes) (line.Entry id r) h fit named in
    (spelled_line bytes rest (decimal id) (decimal r.time ∷ kind_words v r.kind) all.0, all.1)
line_back v bytes rest line.End h fit named =
    let all = line_are v (split_on 32 bytes) line.End h fit named in (spelled_line bytes rest (codes "end") [] all.0, refl)
