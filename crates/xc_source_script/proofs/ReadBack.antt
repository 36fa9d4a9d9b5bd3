-- A text that is read as a source script spells it.
use Rattle.std.proofs.Common.{◌≡◌, ℕ, ◌^◌, ◌<◌, ◌≤◌, Bool, true, false, ◌&&◌, nat_le, nat_lt, List, [], ◌∷◌, ◌++◌, map, Option, Some}
use Rattle.std.proofs.Common.{None, Ok, option_map, refl, sym, ap, subst, ◌∙◌, append_assoc, codes, decimal, arith}
use Rattle.std.specs.Prelude.{flat_map, if◌then◌else◌, bytes_eq}
use Rattle.std.specs.List.{list_all}
use Rattle.std.proofs.lemmas.Bool.{true≢false, and_parts}
use Rattle.std.proofs.lemmas.Bool.Decides.{nat_tests}
use Rattle.std.proofs.lemmas.List.{append-nil}
use Rattle.xc_base.specs.Words.{split_on, number_of}
use Rattle.xc_base.proofs.WordLaws.{join-split_on}
use Rattle.xc_record.specs.Valid.{is_txn}
use Rattle.xc_record.specs.declared.record.Header.{Header}
use Rattle.xc_record.specs.declared.record.Op.{Op}
use Rattle.xc_script.proofs.ReadBack.{chosen, some_same, From, made, word_of, lt_is, pair_same, triple_same, cons_same, mapped_back}
use Rattle.xc_script.proofs.ReadBack.{all_with}
use Rattle.xc_script.proofs.LineTextLaws.{lines_found, ok_is, passed}
use Rattle.xc_script.proofs.StepLaws.{is_text}
use Rattle.xc_script.specs.Spelled.{words_line}
use Rattle.xc_script.specs.Words.{is_word, is_tablet, is_hash, is_moment}
use Rattle.xc_source.specs.declared.command.SourceCommand.{SourceCommand}
use Rattle.xc_source.specs.declared.command.SourceCommand.TheVariants as command
use Rattle.xc_text.proofs.ReadWords.{IsOp, op_is_word}
use Rattle.xc_text.specs.Lines.{◌>>=◌, op_of, header_numbers_fit}
use Rattle.xc_text.specs.declared.line.Version.{Version}
use Rattle.xc_text.specs.declared.line.Version.TheVariants.{One, Two}
use Rattle.xc_source_script.specs.declared.reading.Reading.{Reading}
use Rattle.xc_source_script.specs.declared.reading.Stage.{Stage}
use Rattle.xc_source_script.specs.declared.reading.Stage.TheVariants as stage
use Rattle.xc_source_script.specs.declared.script.SourceScript.{SourceScript}
use Rattle.xc_source_script.specs.Words.{SourceLine, First, Start, Root, Ask, End, is_sub, version_of}
use Rattle.xc_source_script.specs.Words.{start_of}
use Rattle.xc_source_script.specs.Words.{root_by, root_of, from_version_2, bare_of, with_one, with_two, write_of, pair_of, command_of}
use Rattle.xc_source_script.specs.Words.{end_of}
use Rattle.xc_source_script.specs.Words.{line_by, line_in, line_of, numbers_fit, names_fit, command_numbers_fit, command_names_fit}
use Rattle.xc_source_script.specs.SourceText.{begun, ending, kinds, misplaced, moved, rules}
use Rattle.xc_source_script.specs.SourceText.{root_breaks, source_of, step, step_by}
use Rattle.xc_source_script.specs.Spelled.{command_words, command_spelled, version_word, root_words, source_words, ReadIsSpelled}
use Rattle.xc_source_script.proofs.AllowedLaws.{IsReading, Passes, Shape, begun_is, passes, script_allowed, step_keeps}

-- ---- the words of a line

-- the words that are read as the line
abbrev line_words : Version → SourceLine → List (List ℕ)
line_words v (First u) = codes "xcsource" ∷ version_word u ∷ []
line_words v (Start time) = codes "start" ∷ decimal time ∷ []
line_words v (Root h) = root_words h
line_words v (Ask c) = command_words v c
line_words v End = codes "end" ∷ []

tablet_is : (n : ℕ) → is_tablet n ≡ true → n < 64
tablet_is n h = lt_is n 64 h

hash_is : (n : ℕ) → is_hash n ≡ true → n < 65536
hash_is n h = lt_is n 65536 h

moment_is : (n : ℕ) → is_moment n ≡ true → n < 2 ^ 62
moment_is n h = lt_is n (2 ^ 62) h

txn_is : (n : ℕ) → is_txn n ≡ true → n < 2 ^ 32
txn_is n h = let p = and_parts (nat_le 1 n) (nat_lt n (2 ^ 32)) h in lt_is n (2 ^ 32) p.1

sub_is : (n : ℕ) → is_sub n ≡ true → n < 65
sub_is n h = let p = and_parts (nat_le 1 n) (nat_le n 64) h in grind (arith, nat_tests)

-- a command's words, and that a script of the version can say it
record Back (v : Version) (words : List (List ℕ)) (c : SourceCommand) : Type 0 where
  same : words ≡ command_words v c
  spelled : command_spelled v c ≡ true

bare_back : (v : Version) (verb : List ℕ) (c : SourceCommand) → bare_of verb ≡ Some c → Back v (verb ∷ []) c
bare_back v verb c h =
    chosen _ (bytes_eq verb (codes "begin")) _ _ c (λ e k. one (codes "begin") command.Begin e refl refl k)
    (chosen _ (bytes_eq verb (codes "finish")) _ _ c (λ e k. one (codes "finish") command.Finish e refl refl k)
    (λ k. cc)) h
  where
    one : (text : List ℕ) (d : SourceCommand) → bytes_eq verb text ≡ true → (text ∷ []) ≡ command_words v d → command_spelled v d ≡ true
        → Some d ≡ Some c → Back v (verb ∷ []) c
    one text d e w s k =
        subst (Back v (verb ∷ [])) (some_same d c k) (record { same = ap (λ t. t ∷ []) (is_text verb text e) ∙ w; spelled = s })

-- a command of one number
number_back : (v : Version) (text verb word : List ℕ) (f : ℕ → SourceCommand) (c : SourceCommand) (bound : ℕ) → bytes_eq verb text ≡ true
    → bound ≤ 2 ^ 62 → ((n : ℕ) → command_numbers_fit (f n) ≡ true → n < bound)
    → ((n : ℕ) → command_words v (f n) ≡ text ∷ decimal n ∷ []) → ((n : ℕ) → command_spelled v (f n) ≡ true)
    → option_map f (number_of word) ≡ Some c → command_numbers_fit c ≡ true → Back v (verb ∷ word ∷ []) c
number_back v text verb word f c bound e low fit words spelled h numbers =
    let from = made f (number_of word) c h in
    let small = fit from.part (ap command_numbers_fit from.same ∙ numbers) in
    subst (Back v (verb ∷ word ∷ [])) from.same (record {
      same = pair_same verb word text (decimal from.part) (is_text verb text e) (word_of word from.part bound from.is small low)
          ∙ sym (words from.part);
      spelled = spelled from.part;
    })

put_back : (v : Version) (verb word : List ℕ) (c : SourceCommand) → bytes_eq verb (codes "put") ≡ true
    → option_map command.Put (op_of v word) ≡ Some c → command_names_fit c ≡ true → Back v (verb ∷ word ∷ []) c
put_back v verb word c e h names =
    let from = made command.Put (op_of v word) c h in
    let op : IsOp v word from.part = op_is_word v word from.part from.is (ap command_names_fit from.same ∙ names) in
    subst (Back v (verb ∷ word ∷ [])) from.same (record {
      same = pair_same verb word (codes "put") _ (is_text verb (codes "put") e) op.0;
      spelled = op.1;
    })

savepoint_back : (v : Version) (verb word : List ℕ) (c : SourceCommand) → bytes_eq verb (codes "savepoint") ≡ true
    → from_version_2 v (option_map command.Savepoint (number_of word)) ≡ Some c → command_numbers_fit c ≡ true
    → Back v (verb ∷ word ∷ []) c
savepoint_back One verb word c e h numbers = cc
savepoint_back Two verb word c e h numbers =
    number_back Two (codes "savepoint") verb word command.Savepoint c (2 ^ 32) e (omega arith) (λ n k. txn_is n k) (λ n. refl) (λ n. refl) h
    numbers

one_back : (v : Version) (verb word : List ℕ) (c : SourceCommand) → with_one v verb word ≡ Some c → command_numbers_fit c ≡ true
    → command_names_fit c ≡ true → Back v (verb ∷ word ∷ []) c
one_back v verb word c h fit names =
    chosen _ (bytes_eq verb (codes "put")) _ _ c (λ e k. put_back v verb word c e k names)
    (chosen _ (bytes_eq verb (codes "commit")) _ _ c (λ e k. number_back v (codes "commit") verb word command.Commit c (2 ^ 32) e
    (omega arith) (λ n k. txn_is n k) (λ n. refl) (λ n. refl) k fit)
    (chosen _ (bytes_eq verb (codes "abort")) _ _ c (λ e k. number_back v (codes "abort") verb word command.Abort c (2 ^ 32) e
    (omega arith) (λ n k. txn_is n k) (λ n. refl) (λ n. refl) k fit)
    (chosen _ (bytes_eq verb (codes "safe")) _ _ c (λ e k. number_back v (codes "safe") verb word command.Safe c 64 e (omega arith)
    (λ n k. tablet_is n k) (λ n. refl) (λ n. refl) k fit)
    (chosen _ (bytes_eq verb (codes "tick")) _ _ c (λ e k. number_back v (codes "tick") verb word command.Tick c (2 ^ 62) e (omega arith)
    (λ n k. moment_is n k) (λ n. refl) (λ n. refl) k fit)
    (chosen _ (bytes_eq verb (codes "savepoint")) _ _ c (λ e k. savepoint_back v verb word c e k fit)
    (λ k. cc)))))) h

record WriteFrom (v : Version) (word other : List ℕ) (c : SourceCommand) : Type 0 where
  txn : ℕ
  op : Op
  first : number_of word ≡ Some txn
  second : op_of v other ≡ Some op
  same : command.Write txn op ≡ c

write_from : (v : Version) (word other : List ℕ) (c : SourceCommand) → write_of v word other ≡ Some c → WriteFrom v word other c
write_from v word other c h = by (number_of word) (op_of v other) refl refl h
  where
    by : (o : Option ℕ) (p : Option Op) → number_of word ≡ o → op_of v other ≡ p
        → (o >>= (λ txn. p >>= (λ op. Some (command.Write txn op)))) ≡ Some c → WriteFrom v word other c
    by None p e f h = cc
    by (Some txn) None e f h = cc
    by (Some txn) (Some op) e f h = record { txn = txn; op = op; first = e; second = f; same = some_same (command.Write txn op) c h }

write_back : (v : Version) (verb word other : List ℕ) (c : SourceCommand) → bytes_eq verb (codes "write") ≡ true
    → write_of v word other ≡ Some c → command_numbers_fit c ≡ true → command_names_fit c ≡ true → Back v (verb ∷ word ∷ other ∷ []) c
write_back v verb word other c e h numbers names =
    let from = write_from v word other c h in
    let fit : is_txn from.txn ≡ true = ap command_numbers_fit from.same ∙ numbers in
    let op : IsOp v other from.op = op_is_word v other from.op from.second (ap command_names_fit from.same ∙ names) in
    subst (Back v (verb ∷ word ∷ other ∷ [])) from.same (record {
      same = triple_same verb word other (codes "write") (decimal from.txn) _ (is_text verb (codes "write") e)
          (word_of word from.txn (2 ^ 32) from.first (txn_is from.txn fit) (omega arith)) op.0;
      spelled = op.1;
    })

record PairFrom (f : ℕ → ℕ → SourceCommand) (word other : List ℕ) (c : SourceCommand) : Type 0 where
  one : ℕ
  two : ℕ
  first : number_of word ≡ Some one
  second : number_of other ≡ Some two
  same : f one two ≡ c

pair_from : (f : ℕ → ℕ → SourceCommand) (word other : List ℕ) (c : SourceCommand) → pair_of f word other ≡ Some c → PairFrom f word other c
pair_from f word other c h = by (number_of word) (number_of other) refl refl h
  where
    by : (o p : Option ℕ) → number_of word ≡ o → number_of other ≡ p
        → (o >>= (λ one. p >>= (λ two. Some (f one two)))) ≡ Some c → PairFrom f word other c
    by None p e f h = cc
    by (Some one) None e f h = cc
    by (Some one) (Some two) e g h = record { one = one; two = two; first = e; second = g; same = some_same (f one two) c h }

pair_back : (v : Version) (text verb word other : List ℕ) (f : ℕ → ℕ → SourceCommand) (c : SourceCommand) (a b : ℕ)
    → bytes_eq verb text ≡ true → a ≤ 2 ^ 62 → b ≤ 2 ^ 62
    → ((m n : ℕ) → command_numbers_fit (f m n) ≡ true → (m < a) × (n < b))
    → ((m n : ℕ) → command_words v (f m n) ≡ text ∷ decimal m ∷ decimal n ∷ []) → ((m n : ℕ) → command_spelled v (f m n) ≡ true)
    → pair_of f word other ≡ Some c → command_numbers_fit c ≡ true → Back v (verb ∷ word ∷ other ∷ []) c
pair_back v text verb word other f c a b e low high fit words spelled h numbers =
    let from = pair_from f word other c h in
    let small = fit from.one from.two (ap command_numbers_fit from.same ∙ numbers) in
    subst (Back v (verb ∷ word ∷ other ∷ [])) from.same (record {
      same = triple_same verb word other text (decimal from.one) (decimal from.two) (is_text verb text e)
          (word_of word from.one a from.first small.0 low) (word_of other from.two b from.second small.1 high)
          ∙ sym (words from.one from.two);
      spelled = spelled from.one from.two;
    })

apply_fits : (m n : ℕ) → is_txn m && is_tablet n ≡ true → (m < 2 ^ 32) × (n < 64)
apply_fits m n h = let p = and_parts (is_txn m) (is_tablet n) h in (txn_is m p.0, tablet_is n p.1)

split_fits : (m n : ℕ) → is_tablet m && is_hash n ≡ true → (m < 64) × (n < 65536)
split_fits m n h = let p = and_parts (is_tablet m) (is_hash n) h in (tablet_is m p.0, hash_is n p.1)

rollback_fits : (m n : ℕ) → is_txn m && is_sub n ≡ true → (m < 2 ^ 32) × (n < 65)
rollback_fits m n h = let p = and_parts (is_txn m) (is_sub n) h in (txn_is m p.0, sub_is n p.1)

rollback_back : (v : Version) (verb word other : List ℕ) (c : SourceCommand) → bytes_eq verb (codes "rollback") ≡ true
    → from_version_2 v (pair_of command.Rollback word other) ≡ Some c → command_numbers_fit c ≡ true → Back v (verb ∷ word ∷ other ∷ []) c
rollback_back One verb word other c e h numbers = cc
rollback_back Two verb word other c e h numbers =
    pair_back Two (codes "rollback") verb word other command.Rollback c (2 ^ 32) 65 e (omega arith) (omega arith)
    (λ m n k. rollback_fits m n k) (λ m n. refl) (λ m n. refl) h numbers

two_back : (v : Version) (verb word other : List ℕ) (c : SourceCommand) → with_two v verb word other ≡ Some c → command_numbers_fit c ≡ true
    → command_names_fit c ≡ true → Back v (verb ∷ word ∷ other ∷ []) c
two_back v verb word other c h fit names =
    chosen _ (bytes_eq verb (codes "write")) _ _ c (λ e k. write_back v verb word other c e k fit names)
    (chosen _ (bytes_eq verb (codes "apply")) _ _ c (λ e k. pair_back v (codes "apply") verb word other command.Apply c (2 ^ 32) 64 e
    (omega arith) (omega arith) (λ m n k. apply_fits m n k) (λ m n. refl) (λ m n. refl) k fit)
    (chosen _ (bytes_eq verb (codes "split")) _ _ c (λ e k. pair_back v (codes "split") verb word other command.Split c 64 65536 e
    (omega arith) (omega arith) (λ m n k. split_fits m n k) (λ m n. refl) (λ m n. refl) k fit)
    (chosen _ (bytes_eq verb (codes "rollback")) _ _ c (λ e k. rollback_back v verb word other c e k fit)
    (λ k. cc)))) h

command_back : (v : Version) (verb : List ℕ) (words : List (List ℕ)) (c : SourceCommand) → command_of v verb words ≡ Some c
    → command_numbers_fit c ≡ true → command_names_fit c ≡ true → Back v (verb ∷ words) c
unfolding command_of
command_back v verb [] c h fit names = bare_back v verb c h
command_back v verb (word ∷ []) c h fit names = one_back v verb word c h fit names
command_back v verb (word ∷ other ∷ []) c h fit names = two_back v verb word other c h fit names
command_back v verb (word ∷ other ∷ third ∷ words) c h fit names = cc

version_back : (words : List (List ℕ)) (v : Version) → version_of words ≡ Some v → words ≡ version_word v ∷ []
version_back [] v h = cc
version_back (word ∷ []) v h =
    chosen _ (bytes_eq word (codes "1")) _ _ v (λ e k. one (codes "1") One e refl k) (chosen _ (bytes_eq word (codes "2")) _ _ v
    (λ e k. one (codes "2") Two e refl k) (λ k. cc)) h
  where
    one : (text : List ℕ) (u : Version) → bytes_eq word text ≡ true → text ≡ version_word u → Some u ≡ Some v
        → (word ∷ []) ≡ version_word v ∷ []
    one text u e w k = ap (λ t. t ∷ []) (is_text word text e ∙ w ∙ ap version_word (some_same u v k))
version_back (word ∷ other ∷ words) v h = cc

start_back : (words : List (List ℕ)) (time : ℕ) → start_of words ≡ Some time → is_moment time ≡ true → words ≡ decimal time ∷ []
start_back [] time h fit = cc
start_back (word ∷ []) time h fit = ap (λ w. w ∷ []) (word_of word time (2 ^ 62) h (moment_is time fit) (omega arith))
start_back (word ∷ other ∷ words) time h fit = cc

record RootFrom (first second third : List ℕ) (h : Header) : Type 0 where
  id : ℕ
  lo : ℕ
  hi : ℕ
  one : number_of first ≡ Some id
  two : number_of second ≡ Some lo
  three : number_of third ≡ Some hi
  same : (let r : Header = record { id = id; lo = lo; hi = hi; parent = None } in r) ≡ h

root_from : (first second third : List ℕ) (h : Header) → root_by first second third ≡ Some h → RootFrom first second third h
root_from first second third h e = by (number_of first) (number_of second) (number_of third) refl refl refl e
  where
    by : (o p q : Option ℕ) → number_of first ≡ o → number_of second ≡ p → number_of third ≡ q
        → (o >>= (λ id. p >>= (λ lo. q >>= (λ hi. Some (let r : Header = record { id = id; lo = lo; hi = hi; parent = None } in r)))))
        ≡ Some h
        → RootFrom first second third h
    by None p q a b c e = cc
    by (Some id) None q a b c e = cc
    by (Some id) (Some lo) None a b c e = cc
    by (Some id) (Some lo) (Some hi) a b c e = record {
      id = id;
      lo = lo;
      hi = hi;
      one = a;
      two = b;
      three = c;
      same = some_same (let r : Header = record { id = id; lo = lo; hi = hi; parent = None } in r) h e;
    }

four_same : (s t u v w x y z : List ℕ) → s ≡ w → t ≡ x → u ≡ y → v ≡ z → (s ∷ t ∷ u ∷ v ∷ []) ≡ (w ∷ x ∷ y ∷ z ∷ [])
four_same s t u v w x y z a b c d = cc

-- the words behind the first
abbrev root_rest : Header → List (List ℕ)
root_rest h = decimal h.id ∷ decimal h.lo ∷ decimal h.hi ∷ codes "root" ∷ []

root_by_back : (first second third word : List ℕ) (h : Header) → bytes_eq word (codes "root") ≡ true → root_by first second third ≡ Some h
    → header_numbers_fit h ≡ true → (first ∷ second ∷ third ∷ word ∷ []) ≡ root_rest h
root_by_back first second third word h e k fit =
    let from = root_from first second third h k in
    let all = ap header_numbers_fit from.same ∙ fit in
    let p = and_parts (is_tablet from.id) (is_hash from.lo && (is_hash from.hi && true)) all in
    let q = and_parts (is_hash from.lo) (is_hash from.hi && true) p.1 in
    let r = and_parts (is_hash from.hi) true q.1 in
    four_same first second third word _ _ _ _
    (word_of first from.id 64 from.one (tablet_is from.id p.0) (omega arith))
    (word_of second from.lo 65536 from.two (hash_is from.lo q.0) (omega arith))
    (word_of third from.hi 65536 from.three (hash_is from.hi r.0) (omega arith))
    (is_text word (codes "root") e) ∙ ap root_rest from.same

root_back : (words : List (List ℕ)) (h : Header) → root_of words ≡ Some h → header_numbers_fit h ≡ true → words ≡ root_rest h
unfolding root_of
root_back [] h e fit = cc
root_back (a ∷ []) h e fit = cc
root_back (a ∷ b ∷ []) h e fit = cc
root_back (a ∷ b ∷ c ∷ []) h e fit = cc
root_back (a ∷ b ∷ c ∷ d ∷ []) h e fit =
    chosen ((a ∷ b ∷ c ∷ d ∷ []) ≡ root_rest h) (bytes_eq d (codes "root")) _ _ h (λ is k. root_by_back a b c d h is k fit) (λ k. cc) e
root_back (a ∷ b ∷ c ∷ d ∷ f ∷ words) h e fit = cc

-- a line's words, and that a script of the version can say it
abbrev line_spelled : Version → SourceLine → Bool
line_spelled v (Ask c) = command_spelled v c
line_spelled v l = true

record LineBack (v : Version) (words : List (List ℕ)) (l : SourceLine) : Type 0 where
  same : words ≡ line_words v l
  spelled : line_spelled v l ≡ true

end_back : (v : Version) (words : List (List ℕ)) (l : SourceLine) → end_of words ≡ Some l → LineBack v (codes "end" ∷ words) l
end_back v [] l h = subst (LineBack v (codes "end" ∷ [])) (some_same End l h) (record { same = refl; spelled = refl })
end_back v (word ∷ words) l h = cc

by_back : (v : Version) (word : List ℕ) (words : List (List ℕ)) (l : SourceLine) → line_by v word words ≡ Some l → numbers_fit l ≡ true
    → names_fit l ≡ true → LineBack v (word ∷ words) l
by_back v word words l h fit names =
    chosen _ (bytes_eq word (codes "xcsource")) _ _ l (λ e k. first e (made First (version_of words) l k))
    (chosen _ (bytes_eq word (codes "start")) _ _ l (λ e k. start e (made Start (start_of words) l k))
    (chosen _ (bytes_eq word (codes "tablet")) _ _ l (λ e k. root e (made Root (root_of words) l k))
    (chosen _ (bytes_eq word (codes "end")) _ _ l
    (λ e k. subst (λ w. LineBack v (w ∷ words) l) (sym (is_text word (codes "end") e)) (end_back v words l k))
    (λ k. ask (made Ask (command_of v word words) l k))))) h
  where
    first : bytes_eq word (codes "xcsource") ≡ true → From First (version_of words) l → LineBack v (word ∷ words) l
    first e from = subst (LineBack v (word ∷ words)) from.same (record {
      same = cons_same word (codes "xcsource") words (version_word from.part ∷ []) (is_text word (codes "xcsource") e)
          (version_back words from.part from.is);
      spelled = refl;
    })

    start : bytes_eq word (codes "start") ≡ true → From Start (start_of words) l → LineBack v (word ∷ words) l
    start e from = subst (LineBack v (word ∷ words)) from.same (record {
      same = cons_same word (codes "start") words (decimal from.part ∷ []) (is_text word (codes "start") e)
          (start_back words from.part from.is (ap numbers_fit from.same ∙ fit));
      spelled = refl;
    })

    root : bytes_eq word (codes "tablet") ≡ true → From Root (root_of words) l → LineBack v (word ∷ words) l
    root e from = subst (LineBack v (word ∷ words)) from.same (record {
      same = cons_same word (codes "tablet") words (root_rest from.part) (is_text word (codes "tablet") e)
          (root_back words from.part from.is (ap numbers_fit from.same ∙ fit));
      spelled = refl;
    })

    ask : From Ask (command_of v word words) l → LineBack v (word ∷ words) l
    ask from =
        let back = command_back v word words from.part from.is (ap numbers_fit from.same ∙ fit) (ap names_fit from.same ∙ names) in
        subst (LineBack v (word ∷ words)) from.same (record { same = back.same; spelled = back.spelled })

in_back : (v : Version) (words : List (List ℕ)) (l : SourceLine) → line_in v words ≡ Some l → numbers_fit l ≡ true → names_fit l ≡ true
    → LineBack v words l
in_back v [] l h fit names = cc
in_back v (word ∷ words) l h fit names = by_back v word words l h fit names

line_back : (v : Version) (words : List (List ℕ)) (l : SourceLine) → line_of v words ≡ Some l → numbers_fit l ≡ true → names_fit l ≡ true
    → LineBack v words l
unfolding line_of
line_back v words l h fit names = by (list_all is_word words) h
  where
    by : (b : Bool) → (if b then line_in v words else None) ≡ Some l → LineBack v words l
    by true h = in_back v words l h fit names
    by false h = cc

-- ---- the lines so far

abbrev head_of : Version → SourceScript → List (List (List ℕ))
head_of v script =
    (codes "xcsource" ∷ version_word v ∷ []) ∷ (codes "start" ∷ decimal script.start ∷ [])
    ∷ (map root_words script.roots ++ map (command_words v) script.commands)

abbrev so_far : Stage → Reading → List (List (List ℕ))
so_far stage.First s = []
so_far stage.Start s = (codes "xcsource" ∷ version_word s.version ∷ []) ∷ []
so_far stage.Roots s = head_of s.version s.script
so_far stage.Commands s = head_of s.version s.script
so_far stage.Ended s = source_words s.version s.script

record SoFar (s : Reading) (before : List (List (List ℕ))) : Type 0 where
  lines : before ≡ so_far s.stage s
  spelled : list_all (command_spelled s.version) s.script.commands ≡ true

first_back : (s : Reading) (v : Version) (st : Stage) → misplaced st (First v) ≡ false
    → so_far st s ++ line_words s.version (First v) ∷ [] ≡ so_far stage.Start (moved s (First v))
first_back s v stage.First p = refl
first_back s v st p = absurd (true≢false p)

first_empty : (s : Reading) (v : Version) (st : Stage) → misplaced st (First v) ≡ false → Shape st s → s.script.commands ≡ []
first_empty s v stage.First p shape = shape.commands
first_empty s v st p shape = absurd (true≢false p)

begin_back : (s : Reading) (time : ℕ) (st : Stage) → misplaced st (Start time) ≡ false → Shape st s
    → so_far st s ++ line_words s.version (Start time) ∷ [] ≡ so_far stage.Roots (moved s (Start time))
begin_back s time stage.Start p shape = rw (shape.roots, shape.commands) refl
begin_back s time st p shape = absurd (true≢false p)

abbrev first_two : Reading → List (List (List ℕ)) → List (List (List ℕ))
first_two s lines = (codes "xcsource" ∷ version_word s.version ∷ []) ∷ (codes "start" ∷ decimal s.script.start ∷ []) ∷ lines

-- no command stands behind the roots yet
root_head : (s : Reading) (h : Header) → s.script.commands ≡ []
    → head_of s.version s.script ++ root_words h ∷ [] ≡ so_far stage.Roots (moved s (Root h))
root_head s h none =
    ap (first_two s) (rw none (ap (λ l. l ++ root_words h ∷ []) (append-nil (map root_words s.script.roots))
    ∙ sym (mapped_back root_words s.script.roots h (root_words h) refl)
    ∙ sym (append-nil (map root_words (s.script.roots ++ h ∷ [])))))

root_line : (s : Reading) (h : Header) (st : Stage) → s.stage ≡ st → misplaced st (Root h) ≡ false → root_breaks s h ≡ false → Shape st s
    → so_far st s ++ root_words h ∷ [] ≡ so_far stage.Roots (moved s (Root h))
root_line s h stage.Roots is p breaks shape = root_head s h shape.commands
root_line s h stage.Commands is p breaks shape =
    let began : root_breaks s h ≡ true = rw is refl in absurd (true≢false (sym began ∙ breaks))
root_line s h st is p breaks shape = absurd (true≢false p)

ask_head : (s : Reading) (c : SourceCommand)
    → head_of s.version s.script ++ command_words s.version c ∷ [] ≡ so_far stage.Commands (moved s (Ask c))
ask_head s c =
    ap (first_two s) (append_assoc (map root_words s.script.roots) (map (command_words s.version) s.script.commands)
    (command_words s.version c ∷ [])
    ∙ ap (λ l. map root_words s.script.roots ++ l) (sym (mapped_back (command_words s.version) s.script.commands c
    (command_words s.version c) refl)))

ask_back : (s : Reading) (c : SourceCommand) (st : Stage) → misplaced st (Ask c) ≡ false
    → so_far st s ++ command_words s.version c ∷ [] ≡ so_far stage.Commands (moved s (Ask c))
ask_back s c stage.Roots p = ask_head s c
ask_back s c stage.Commands p = ask_head s c
ask_back s c st p = absurd (true≢false p)

end_head : (s : Reading) → head_of s.version s.script ++ (codes "end" ∷ []) ∷ [] ≡ source_words s.version s.script
end_head s = ap (first_two s) (append_assoc (map root_words s.script.roots) (map (command_words s.version) s.script.commands)
    ((codes "end" ∷ []) ∷ []))

last_back : (s : Reading) (st : Stage) → misplaced st End ≡ false
    → so_far st s ++ (codes "end" ∷ []) ∷ [] ≡ so_far stage.Ended (moved s End)
last_back s stage.Roots p = end_head s
last_back s stage.Commands p = end_head s
last_back s st p = absurd (true≢false p)

one_more : (s : Reading) (before : List (List (List ℕ))) (words : List (List ℕ)) (l : SourceLine) → SoFar s before
    → words ≡ line_words s.version l → before ++ words ∷ [] ≡ so_far s.stage s ++ line_words s.version l ∷ []
one_more s before words l back e = ap (λ b. b ++ words ∷ []) back.lines ∙ ap (λ w. so_far s.stage s ++ w ∷ []) e

moved_back : (s : Reading) (before : List (List (List ℕ))) (words : List (List ℕ)) (l : SourceLine) → IsReading s → SoFar s before
    → Passes s l → LineBack s.version words l → SoFar (moved s l) (before ++ words ∷ [])
moved_back s before words (First v) is back p line =
    let empty = first_empty s v s.stage p.place is.shape in
    record { lines = one_more s before words (First v) back line.same ∙ first_back s v s.stage p.place; spelled = rw empty refl }
moved_back s before words (Start time) is back p line = record {
  lines = one_more s before words (Start time) back line.same ∙ begin_back s time s.stage p.place is.shape;
  spelled = back.spelled;
}
moved_back s before words (Root h) is back p line = record {
  lines = one_more s before words (Root h) back line.same ∙ root_line s h s.stage refl p.place p.roots is.shape;
  spelled = back.spelled;
}
moved_back s before words (Ask c) is back p line = record {
  lines = one_more s before words (Ask c) back line.same ∙ ask_back s c s.stage p.place;
  spelled = all_with (command_spelled s.version) s.script.commands c back.spelled line.spelled;
}
moved_back s before words End is back p line = record {
  lines = one_more s before words End back line.same ∙ last_back s s.stage p.place;
  spelled = back.spelled;
}

step_cases : (s after : Reading) (before : List (List (List ℕ))) (words : List (List ℕ)) (o : Option SourceLine) → IsReading s
    → SoFar s before → line_of s.version words ≡ o
    → step_by s o ≡ Ok after → SoFar after (before ++ words ∷ [])
step_cases s after before words None is back line e = cc
step_cases s after before words (Some l) is back line e =
    let fit = passed (kinds s l) (moved s l) after e in
    let p = passes s l fit.0 in
    subst (λ a. SoFar a (before ++ words ∷ [])) fit.1
    (moved_back s before words l is back p (line_back s.version words l line p.numbers p.names))

step_back : (s after : Reading) (before : List (List (List ℕ))) (bytes : List ℕ) → IsReading s → SoFar s before → step s bytes ≡ Ok after
    → SoFar after (before ++ split_on 32 bytes ∷ [])
unfolding step
step_back s after before bytes is back e =
    step_cases s after before (split_on 32 bytes) (line_of s.version (split_on 32 bytes)) is back refl e

-- ---- the whole text

-- the words are those of the script's lines
record IsSpelled (script : SourceScript) (words : List (List (List ℕ))) : Type 0 where
  version : Version
  lines : words ≡ source_words version script
  spelled : list_all (command_spelled version) script.commands ≡ true

ended_back : (s : Reading) (before : List (List (List ℕ))) (script : SourceScript) (st : Stage) → s.stage ≡ st → SoFar s before
    → ending st s ≡ Ok script → IsSpelled script before
ended_back s before script stage.Ended is back e =
    subst (λ script. IsSpelled script before) (ok_is s.script script e)
    (record { version = s.version; lines = back.lines ∙ ap (λ st. so_far st s) is; spelled = back.spelled })
ended_back s before script st is back e = cc

abbrev Reached : Reading → List (List (List ℕ)) → Type 0
Reached s before = IsReading s × SoFar s before

pub read_is_spelled : ReadIsSpelled
unfolding source_of
read_is_spelled text script e =
    let found = lines_found rules Reached IsSpelled
    (λ s after before bytes at is. (step_keeps s bytes after at.0 is, step_back s after before bytes at.0 at.1 is))
    (λ s before script at is. ended_back s before script s.stage refl at.1 is)
    begun [] (split_on 10 text) script (begun_is, record { lines = refl; spelled = refl }) e in
    record {
      allowed = script_allowed text script e;
      version = found.spelled.version;
      lines = sym (join-split_on 10 text) ∙ found.lines ∙ ap (flat_map words_line) found.spelled.lines;
      spelled = found.spelled.spelled;
    }
