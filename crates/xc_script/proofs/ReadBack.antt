-- A text that is read as a script spells it.
use Rattle.std.proofs.Common.{◌≡◌, ℕ, ◌+◌, ◌^◌, ◌<◌, ◌≤◌, Bool, true, false, ◌&&◌, nat_le, nat_lt, List, [], ◌∷◌, ◌++◌, map, Option, Some}
use Rattle.std.proofs.Common.{None, Ok, option_map, refl, sym, ap, subst, ◌∙◌, append_assoc, codes, decimal, arith}
use Rattle.std.specs.Prelude.{flat_map, if◌then◌else◌, bytes_eq}
use Rattle.std.specs.List.{list_all}
use Rattle.std.proofs.lemmas.Bool.{true≢false, and_parts, and_from}
use Rattle.std.proofs.lemmas.Bool.Decides.{nat_tests}
use Rattle.std.proofs.lemmas.List.Folds.{list_all-append}
use Rattle.std.proofs.lemmas.Slice.Eq.{bytes_eq-Decides}
use Rattle.xc_base.specs.Names.{key_fault}
use Rattle.xc_base.specs.Escapes.{word_fault}
use Rattle.xc_base.specs.Words.{split_on, number_of}
use Rattle.xc_base.proofs.EscapeLaws.{read_is_escaped}
use Rattle.xc_base.proofs.NameLemmas.{name-no_fault}
use Rattle.xc_base.proofs.WordLaws.{decimal-number_of, join-split_on}
use Rattle.xc_record.specs.declared.session.Command.{Command}
use Rattle.xc_record.specs.declared.session.Command.TheVariants as command
use Rattle.xc_script.specs.declared.reading.Reading.{Reading}
use Rattle.xc_script.specs.declared.reading.Stage.{Stage}
use Rattle.xc_script.specs.declared.reading.Stage.TheVariants as stage
use Rattle.xc_script.specs.declared.reading.Version.{Version}
use Rattle.xc_script.specs.declared.reading.Version.TheVariants.{One, Two}
use Rattle.xc_script.specs.declared.script.Script.{Script}
use Rattle.xc_script.specs.Words.{◌>>=◌, ScriptLine, First, Target, Watch, Ask, End, is_word, is_hash, version_of, all_numbers, numbers_of}
use Rattle.xc_script.specs.Words.{some_words, bare_of, with_one, with_two, with_three, poll_of, stop_of, command_of, end_of, line_by}
use Rattle.xc_script.specs.Words.{line_in, line_of, numbers_fit, command_numbers_fit, key_fits, key_of, command_key_fits, meant}
use Rattle.xc_script.specs.ScriptText.{begun, ending, kinds, misplaced, moved, rules, script_of, step}
use Rattle.xc_script.specs.ScriptText.{step_by}
use Rattle.xc_script.specs.Spelled.{key_word, is_nameable, command_words, command_is_nameable, version_word, watch_words, script_words}
use Rattle.xc_script.specs.Spelled.{words_line, ReadIsSpelled}
use Rattle.xc_script.proofs.AllowedLaws.{IsReading, Passes, Shape, begun_is, none_is, passes, script_allowed, step_keeps}
use Rattle.xc_script.proofs.LineTextLaws.{lines_found, ok_is, passed}
use Rattle.xc_script.proofs.AllowedLaws.{word_right}

-- ---- the words of a line

is_text : (word text : List ℕ) → bytes_eq word text ≡ true → word ≡ text
is_text word text e = (bytes_eq-Decides word text).0 e

-- the words that are read as the line; a key's place has its word
abbrev line_words : ScriptLine → List (List ℕ)
line_words (First v) = codes "xcscript" ∷ version_word v ∷ []
line_words (Target bounds) = codes "target" ∷ map decimal bounds
line_words (Watch words) = codes "watch" ∷ words
line_words (Ask c) = command_words One c
line_words End = codes "end" ∷ []

-- a choice by the first word
pub chosen : {X : Type 0} (P : Type 0) (b : Bool) (x y : Option X) (l : X) → (b ≡ true → x ≡ Some l → P) → (y ≡ Some l → P)
    → (if b then x else y) ≡ Some l → P
chosen _ true x y l e f h = e refl h
chosen _ false x y l e f h = f h

pub some_same : {X : Type 0} (a b : X) → Some a ≡ Some b → a ≡ b
some_same a b e = cc

-- what a form was made from
pub record From {A X : Type 0} (f : A → X) (o : Option A) (x : X) : Type 0 where
  pub part : A
  pub is : o ≡ Some part
  pub same : f part ≡ x

pub made : {A X : Type 0} (f : A → X) (o : Option A) (x : X) → option_map f o ≡ Some x → From f o x
made f None x h = cc
made f (Some a) x h = record { part = a; is = refl; same = some_same (f a) x h }

pub word_of : (word : List ℕ) (n bound : ℕ) → number_of word ≡ Some n → n < bound → bound ≤ 2 ^ 62 → word ≡ decimal n
word_of word n bound is h k = sym (decimal-number_of word n (omega arith) is)

pub lt_is : (a b : ℕ) → nat_lt a b ≡ true → a < b
lt_is a b h = grind (arith, nat_tests)

le_is : (a b : ℕ) → nat_le a b ≡ true → a < b + 1
le_is a b h = grind (arith, nat_tests)

pub pair_same : (v w x y : List ℕ) → v ≡ x → w ≡ y → (v ∷ w ∷ []) ≡ (x ∷ y ∷ [])
pair_same v w x y a b = cc

pub triple_same : (u v w x y z : List ℕ) → u ≡ x → v ≡ y → w ≡ z → (u ∷ v ∷ w ∷ []) ≡ (x ∷ y ∷ z ∷ [])
triple_same u v w x y z a b c = cc

four_same : (t u v w q x y z : List ℕ) → t ≡ q → u ≡ x → v ≡ y → w ≡ z → (t ∷ u ∷ v ∷ w ∷ []) ≡ (q ∷ x ∷ y ∷ z ∷ [])
four_same t u v w q x y z a b c d = cc

bare_back : (verb : List ℕ) (c : Command) → bare_of verb ≡ Some c → (verb ∷ []) ≡ command_words One c
bare_back verb c h =
    chosen _ (bytes_eq verb (codes "drain")) _ _ c (λ e k. one (codes "drain") command.Drain e refl k)
    (chosen _ (bytes_eq verb (codes "safe")) _ _ c (λ e k. one (codes "safe") command.Safe e refl k)
    (chosen _ (bytes_eq verb (codes "scan")) _ _ c (λ e k. one (codes "scan") command.Scan e refl k)
    (chosen _ (bytes_eq verb (codes "failover")) _ _ c (λ e k. one (codes "failover") command.Failover e refl k)
    (chosen _ (bytes_eq verb (codes "report")) _ _ c (λ e k. one (codes "report") command.Report e refl k)
    (λ k. cc))))) h
  where
    one : (text : List ℕ) (d : Command) → bytes_eq verb text ≡ true → (text ∷ []) ≡ command_words One d → Some d ≡ Some c
        → (verb ∷ []) ≡ command_words One c
    one text d e w k = ap (λ v. v ∷ []) (is_text verb text e) ∙ w ∙ ap (command_words One) (some_same d c k)

source_back : (text verb word : List ℕ) (f : ℕ → Command) (c : Command) (bound : ℕ) → bytes_eq verb text ≡ true → bound ≤ 2 ^ 62
    → ((n : ℕ) → command_numbers_fit (f n) ≡ true → n < bound) → ((n : ℕ) → command_words One (f n) ≡ text ∷ decimal n ∷ [])
    → option_map f (number_of word) ≡ Some c → command_numbers_fit c ≡ true → (verb ∷ word ∷ []) ≡ command_words One c
source_back text verb word f c bound e low fit words h numbers =
    let from = made f (number_of word) c h in
    let small = fit from.part (ap command_numbers_fit from.same ∙ numbers) in
    pair_same verb word text (decimal from.part) (is_text verb text e) (word_of word from.part bound from.is small low)
    ∙ sym (words from.part) ∙ ap (command_words One) from.same

one_back : (verb word : List ℕ) (c : Command) → with_one verb word ≡ Some c → command_numbers_fit c ≡ true
    → (verb ∷ word ∷ []) ≡ command_words One c
one_back verb word c h fit =
    chosen _ (bytes_eq verb (codes "ack")) _ _ c (λ e k. source_back (codes "ack") verb word command.Ack c 64 e (omega arith)
    (λ n k. lt_is n 64 k) (λ n. refl) k fit)
    (chosen _ (bytes_eq verb (codes "restart")) _ _ c (λ e k. source_back (codes "restart") verb word command.Restart c 64 e (omega arith)
    (λ n k. lt_is n 64 k) (λ n. refl) k fit)
    (chosen _ (bytes_eq verb (codes "read")) _ _ c (λ e k. read e k)
    (chosen _ (bytes_eq verb (codes "prune")) _ _ c (λ e k. source_back (codes "prune") verb word command.Prune c (2 ^ 62) e (omega arith)
    (λ n k. lt_is n (2 ^ 62) k) (λ n. refl) k fit)
    (λ k. cc)))) h
  where
    read : bytes_eq verb (codes "read") ≡ true → Some (command.Read word) ≡ Some c → (verb ∷ word ∷ []) ≡ command_words One c
    read e k = ap (λ v. v ∷ word ∷ []) (is_text verb (codes "read") e) ∙ ap (command_words One) (some_same (command.Read word) c k)

record TwoNumbers (word other : List ℕ) (c : Command) : Type 0 where
  id : ℕ
  n : ℕ
  first : number_of word ≡ Some id
  second : number_of other ≡ Some n
  same : command.Poll id n ≡ c

two_numbers : (word other : List ℕ) (c : Command) → poll_of word other ≡ Some c → TwoNumbers word other c
two_numbers word other c h = by (number_of word) (number_of other) refl refl h
  where
    by : (o p : Option ℕ) → number_of word ≡ o → number_of other ≡ p → (o >>= (λ id. p >>= (λ n. Some (command.Poll id n)))) ≡ Some c
        → TwoNumbers word other c
    by None p e f h = cc
    by (Some id) None e f h = cc
    by (Some id) (Some n) e f h = record { id = id; n = n; first = e; second = f; same = some_same (command.Poll id n) c h }

two_back : (verb word other : List ℕ) (c : Command) → with_two verb word other ≡ Some c → command_numbers_fit c ≡ true
    → (verb ∷ word ∷ other ∷ []) ≡ command_words One c
two_back verb word other c h fit =
    chosen _ (bytes_eq verb (codes "poll")) _ _ c (λ e k. poll e k)
    (chosen _ (bytes_eq verb (codes "readat")) _ _ c (λ e k. read e k)
    (λ k. cc)) h
  where
    poll : bytes_eq verb (codes "poll") ≡ true → poll_of word other ≡ Some c → (verb ∷ word ∷ other ∷ []) ≡ command_words One c
    poll e k =
        let two = two_numbers word other c k in
        let all = and_parts (nat_lt two.id 64) (nat_le 1 two.n && nat_le two.n (2 ^ 20)) (ap command_numbers_fit two.same ∙ fit) in
        let count = and_parts (nat_le 1 two.n) (nat_le two.n (2 ^ 20)) all.1 in
        triple_same verb word other (codes "poll") (decimal two.id) (decimal two.n) (is_text verb (codes "poll") e)
        (word_of word two.id 64 two.first (lt_is two.id 64 all.0) (omega arith)) (word_of other two.n (2 ^ 20 + 1) two.second (le_is two.n
        (2 ^ 20) count.1) (omega arith))
        ∙ ap (command_words One) two.same

    read : bytes_eq verb (codes "readat") ≡ true → option_map (λ u. command.ReadAt u other) (number_of word) ≡ Some c
        → (verb ∷ word ∷ other ∷ []) ≡ command_words One c
    read e k =
        let from = made (λ u. command.ReadAt u other) (number_of word) c k in
        let small = lt_is from.part (2 ^ 62) (ap command_numbers_fit from.same ∙ fit) in
        triple_same verb word other (codes "readat") (decimal from.part) other (is_text verb (codes "readat") e) (word_of word from.part
        (2 ^ 62) from.is small (omega arith)) refl
        ∙ ap (command_words One) from.same

record ThreeNumbers (word other third : List ℕ) (c : Command) : Type 0 where
  id : ℕ
  n : ℕ
  last : ℕ
  first : number_of word ≡ Some id
  second : number_of other ≡ Some n
  end : number_of third ≡ Some last
  same : command.Stop id n last ≡ c

three_numbers : (word other third : List ℕ) (c : Command) → stop_of word other third ≡ Some c → ThreeNumbers word other third c
three_numbers word other third c h = by (number_of word) (number_of other) (number_of third) refl refl refl h
  where
    by : (o p q : Option ℕ) → number_of word ≡ o → number_of other ≡ p → number_of third ≡ q
        → (o >>= (λ id. p >>= (λ n. q >>= (λ last. Some (command.Stop id n last))))) ≡ Some c → ThreeNumbers word other third c
    by None p q e f g h = cc
    by (Some id) None q e f g h = cc
    by (Some id) (Some n) None e f g h = cc
    by (Some id) (Some n) (Some last) e f g h = record {
      id = id;
      n = n;
      last = last;
      first = e;
      second = f;
      end = g;
      same = some_same
          (command.Stop id n last) c h;
    }

three_back : (verb word other third : List ℕ) (c : Command) → with_three verb word other third ≡ Some c → command_numbers_fit c ≡ true
    → (verb ∷ word ∷ other ∷ third ∷ []) ≡ command_words One c
three_back verb word other third c h fit =
    chosen ((verb ∷ word ∷ other ∷ third ∷ []) ≡ command_words One c) (bytes_eq verb (codes "stop")) _ _ c (λ e k. stop e k) (λ k. cc) h
  where
    stop : bytes_eq verb (codes "stop") ≡ true → stop_of word other third ≡ Some c
        → (verb ∷ word ∷ other ∷ third ∷ []) ≡ command_words One c
    stop e k =
        let three = three_numbers word other third c k in
        let all = and_parts (nat_lt three.id 64) ((nat_le 1 three.n && nat_le three.n (2 ^ 20)) && nat_lt three.last 16)
        (ap command_numbers_fit three.same ∙ fit) in
        let rest = and_parts (nat_le 1 three.n && nat_le three.n (2 ^ 20)) (nat_lt three.last 16) all.1 in
        let count = and_parts (nat_le 1 three.n) (nat_le three.n (2 ^ 20)) rest.0 in
        four_same verb word other third (codes "stop") (decimal three.id) (decimal three.n) (decimal three.last) (is_text verb
        (codes "stop") e)
        (word_of word three.id 64 three.first (lt_is three.id 64 all.0) (omega arith))
        (word_of other three.n (2 ^ 20 + 1) three.second (le_is three.n (2 ^ 20) count.1) (omega arith))
        (word_of third three.last 16 three.end (lt_is three.last 16 rest.1) (omega arith))
        ∙ ap (command_words One) three.same

command_back : (verb : List ℕ) (words : List (List ℕ)) (c : Command) → command_of verb words ≡ Some c → command_numbers_fit c ≡ true
    → verb ∷ words ≡ command_words One c
unfolding command_of
command_back verb [] c h fit = bare_back verb c h
command_back verb (word ∷ []) c h fit = one_back verb word c h fit
command_back verb (word ∷ other ∷ []) c h fit = two_back verb word other c h fit
command_back verb (word ∷ other ∷ third ∷ []) c h fit = three_back verb word other third c h fit
command_back verb (word ∷ other ∷ third ∷ more ∷ words) c h fit = cc

version_back : (words : List (List ℕ)) (v : Version) → version_of words ≡ Some v → words ≡ version_word v ∷ []
version_back [] v h = cc
version_back (word ∷ []) v h =
    chosen _ (bytes_eq word (codes "1")) _ _ v (λ e k. one (codes "1") One e refl k) (chosen _ (bytes_eq word (codes "2")) _ _ v
    (λ e k. one (codes "2") Two e refl k) (λ k. cc)) h
  where
    one : (text : List ℕ) (u : Version) → bytes_eq word text ≡ true → text ≡ version_word u → Some u ≡ Some v
        → (word ∷ []) ≡ version_word v ∷ []
    one text u e w k = ap (λ t. t ∷ []) (is_text word text e ∙ w ∙ ap version_word (some_same u v k))
version_back (word ∷ other ∷ words) v h = cc

hash_small : (b : ℕ) → is_hash b ≡ true → b < 65536
hash_small b h = lt_is b 65536 h

pub cons_same : (v w : List ℕ) (vs ws : List (List ℕ)) → v ≡ w → vs ≡ ws → v ∷ vs ≡ w ∷ ws
cons_same v w vs ws a b = cc

numbers_back : (words : List (List ℕ)) (ns : List ℕ) → all_numbers words ≡ Some ns → list_all is_hash ns ≡ true → words ≡ map decimal ns
numbers_back [] ns h fit = ap (map decimal) (some_same [] ns h)
numbers_back (word ∷ words) ns h fit = by (number_of word) (all_numbers words) refl h (λ ms k. numbers_back words ms k)
  where
    by : (o : Option ℕ) (p : Option (List ℕ)) → number_of word ≡ o → (o >>= (λ n. p >>= (λ ms. Some (n ∷ ms)))) ≡ Some ns
        → ((ms : List ℕ) → p ≡ Some ms → list_all is_hash ms ≡ true → words ≡ map decimal ms) → word ∷ words ≡ map decimal ns
    by None p e h more = cc
    by (Some n) None e h more = cc
    by (Some n) (Some ms) e h more =
        let same = some_same (n ∷ ms) ns h in
        let all = and_parts (is_hash n) (list_all is_hash ms) (ap (list_all is_hash) same ∙ fit) in
        cons_same word (decimal n) words (map decimal ms) (word_of word n 65536 e (hash_small n all.0) (omega arith)) (more ms refl all.1)
        ∙ ap (map decimal) same

bounds_back : (words : List (List ℕ)) (bounds : List ℕ) → numbers_of words ≡ Some bounds → list_all is_hash bounds ≡ true
    → words ≡ map decimal bounds
bounds_back [] bounds h fit = cc
bounds_back (word ∷ words) bounds h fit = numbers_back (word ∷ words) bounds h fit

some_words_are : (words watched : List (List ℕ)) → some_words words ≡ Some watched → words ≡ watched
some_words_are [] watched h = cc
some_words_are (word ∷ words) watched h = some_same (word ∷ words) watched h

end_back : (words : List (List ℕ)) (l : ScriptLine) → end_of words ≡ Some l → codes "end" ∷ words ≡ line_words l
end_back [] l h = ap line_words (some_same End l h)
end_back (word ∷ words) l h = cc

by_back : (word : List ℕ) (words : List (List ℕ)) (l : ScriptLine) → line_by word words ≡ Some l → numbers_fit l ≡ true
    → word ∷ words ≡ line_words l
by_back word words l h fit =
    chosen _ (bytes_eq word (codes "xcscript")) _ _ l (λ e k. first e (made First (version_of words) l k))
    (chosen _ (bytes_eq word (codes "target")) _ _ l (λ e k. target e (made Target (numbers_of words) l k))
    (chosen _ (bytes_eq word (codes "watch")) _ _ l (λ e k. watch e (made Watch (some_words words) l k))
    (chosen _ (bytes_eq word (codes "end")) _ _ l (λ e k. ap (λ w. w ∷ words) (is_text word (codes "end") e) ∙ end_back words l k)
    (λ k. ask (made Ask (command_of word words) l k))))) h
  where
    first : bytes_eq word (codes "xcscript") ≡ true → From First (version_of words) l → word ∷ words ≡ line_words l
    first e from =
        cons_same word (codes "xcscript") words (version_word from.part ∷ []) (is_text word (codes "xcscript") e)
        (version_back words from.part from.is) ∙ ap line_words from.same

    target : bytes_eq word (codes "target") ≡ true → From Target (numbers_of words) l → word ∷ words ≡ line_words l
    target e from =
        cons_same word (codes "target") words (map decimal from.part) (is_text word (codes "target") e)
        (bounds_back words from.part from.is (ap numbers_fit from.same ∙ fit))
        ∙ ap line_words from.same

    watch : bytes_eq word (codes "watch") ≡ true → From Watch (some_words words) l → word ∷ words ≡ line_words l
    watch e from =
        cons_same word (codes "watch") words from.part (is_text word (codes "watch") e) (some_words_are words from.part from.is)
        ∙ ap line_words from.same

    ask : From Ask (command_of word words) l → word ∷ words ≡ line_words l
    ask from = command_back word words from.part from.is (ap numbers_fit from.same ∙ fit) ∙ ap line_words from.same

in_back : (words : List (List ℕ)) (l : ScriptLine) → line_in words ≡ Some l → numbers_fit l ≡ true → words ≡ line_words l
in_back [] l h fit = cc
in_back (word ∷ words) l h fit = by_back word words l h fit

line_back : (words : List (List ℕ)) (l : ScriptLine) → line_of words ≡ Some l → numbers_fit l ≡ true → words ≡ line_words l
unfolding line_of
line_back words l h fit = by (list_all is_word words) h
  where
    by : (b : Bool) → (if b then line_in words else None) ≡ Some l → words ≡ line_words l
    by true h = in_back words l h fit
    by false h = cc

-- a line of watched keys names some
watch_alone : line_of (codes "watch" ∷ []) ≡ None
unfolding line_of
watch_alone = refl

-- ---- keys

record KeyBack (v : Version) (word : List ℕ) : Type 0 where
  same : key_word v (key_of v word) ≡ word
  nameable : is_nameable v (key_of v word) ≡ true

key_back : (v : Version) (word : List ℕ) → key_fits v word ≡ true → KeyBack v word
key_back One word h = record { same = refl; nameable = (name-no_fault 1 32 word (none_is (key_fault word) h)).inside }
key_back Two word h = record { same = read_is_escaped word (word_right word (none_is (word_fault 1 32 word) h)).right; nameable = refl }

record KeysBack (v : Version) (words : List (List ℕ)) : Type 0 where
  same : map (key_word v) (map (key_of v) words) ≡ words
  nameable : list_all (is_nameable v) (map (key_of v) words) ≡ true

keys_back : (v : Version) (words : List (List ℕ)) → list_all (key_fits v) words ≡ true → KeysBack v words
keys_back v [] h = record { same = refl; nameable = refl }
keys_back v (word ∷ words) h =
    let p = and_parts (key_fits v word) (list_all (key_fits v) words) h in
    let one = key_back v word p.0 in
    let more = keys_back v words p.1 in
    record { same = cons_same _ word _ words one.same more.same; nameable = and_from _ _ one.nameable more.nameable }

record CommandBack (v : Version) (c : Command) : Type 0 where
  same : command_words v (meant v c) ≡ command_words One c
  nameable : command_is_nameable v (meant v c) ≡ true

command_is_back : (v : Version) (c : Command) → command_key_fits v c ≡ true → CommandBack v c
command_is_back v (command.Read word) h = let k = key_back v word h in record {
  same = ap
      (λ w. codes "read" ∷ w ∷ []) k.same;
  nameable = k.nameable;
}
command_is_back v (command.ReadAt u word) h =
    let k = key_back v word h in record { same = ap (λ w. codes "readat" ∷ decimal u ∷ w ∷ []) k.same; nameable = k.nameable }
command_is_back v c h = record { same = refl; nameable = refl }

-- ---- the lines so far

abbrev head_of : Version → Script → List (List (List ℕ))
head_of v script =
    (codes "xcscript" ∷ version_word v ∷ []) ∷ (codes "target" ∷ map decimal script.bounds)
    ∷ (watch_words v script.watched ++ map (command_words v) script.commands)

abbrev so_far : Stage → Reading → List (List (List ℕ))
so_far stage.First s = []
so_far stage.Target s = (codes "xcscript" ∷ version_word s.version ∷ []) ∷ []
so_far stage.Watch s = head_of s.version s.script
so_far stage.Commands s = head_of s.version s.script
so_far stage.Ended s = script_words s.version s.script

record Back (s : Reading) (before : List (List (List ℕ))) : Type 0 where
  lines : before ≡ so_far s.stage s
  watched : list_all (is_nameable s.version) s.script.watched ≡ true
  commands : list_all (command_is_nameable s.version) s.script.commands ≡ true

first_back : (s : Reading) (v : Version) (st : Stage) → misplaced st (First v) ≡ false → Shape st s
    → so_far st s ++ line_words (First v) ∷ [] ≡ so_far stage.Target (moved s (First v))
first_back s v stage.First p shape = refl
first_back s v st p shape = absurd (true≢false p)

first_empty : (s : Reading) (v : Version) (st : Stage) → misplaced st (First v) ≡ false → Shape st s
    → (s.script.watched ≡ []) × (s.script.commands ≡ [])
first_empty s v stage.First p shape = (shape.watched, shape.commands)
first_empty s v st p shape = absurd (true≢false p)

target_back : (s : Reading) (bounds : List ℕ) (st : Stage) → misplaced st (Target bounds) ≡ false → Shape st s
    → so_far st s ++ line_words (Target bounds) ∷ [] ≡ so_far stage.Watch (moved s (Target bounds))
target_back s bounds stage.Target p shape = rw (shape.watched, shape.commands) refl
target_back s bounds st p shape = absurd (true≢false p)

watched_words : (v : Version) (words : List (List ℕ)) → (words ≡ [] → ⊥) → KeysBack v words
    → watch_words v (map (key_of v) words) ≡ (codes "watch" ∷ words) ∷ []
watched_words v [] some k = absurd (some refl)
watched_words v (word ∷ words) some k = ap (λ ws. (codes "watch" ∷ ws) ∷ []) k.same

watch_back : (s : Reading) (words : List (List ℕ)) (st : Stage) → misplaced st (Watch words) ≡ false → Shape st s → (words ≡ [] → ⊥)
    → KeysBack s.version words
    → so_far st s ++ line_words (Watch words) ∷ [] ≡ so_far stage.Commands (moved s (Watch words))
watch_back s words stage.Watch p shape some k = rw (shape.empty.watched, shape.empty.commands, watched_words s.version words some k) refl
watch_back s words st p shape some k = absurd (true≢false p)

pub mapped_back : {A B : Type 0} (f : A → B) (xs : List A) (x : A) (y : B) → f x ≡ y → map f (xs ++ x ∷ []) ≡ map f xs ++ y ∷ []
mapped_back f [] x y e = ap (λ z. z ∷ []) e
mapped_back f (z ∷ xs) x y e = ap (λ l. f z ∷ l) (mapped_back f xs x y e)

abbrev first_two : Reading → List (List (List ℕ)) → List (List (List ℕ))
first_two s lines = (codes "xcscript" ∷ version_word s.version ∷ []) ∷ (codes "target" ∷ map decimal s.script.bounds) ∷ lines

ask_head : (s : Reading) (c : Command) → CommandBack s.version c
    → head_of s.version s.script ++ line_words (Ask c) ∷ [] ≡ so_far stage.Commands (moved s (Ask c))
ask_head s c k =
    ap (first_two s) (append_assoc (watch_words s.version s.script.watched) (map (command_words s.version) s.script.commands)
    (command_words One c ∷ [])
    ∙ ap (λ l. watch_words s.version s.script.watched ++ l) (sym (mapped_back (command_words s.version) s.script.commands
    (meant s.version c) (command_words One c) k.same)))

ask_back : (s : Reading) (c : Command) (st : Stage) → misplaced st (Ask c) ≡ false → CommandBack s.version c
    → so_far st s ++ line_words (Ask c) ∷ [] ≡ so_far stage.Commands (moved s (Ask c))
ask_back s c stage.Watch p k = ask_head s c k
ask_back s c stage.Commands p k = ask_head s c k
ask_back s c st p k = absurd (true≢false p)

end_head : (s : Reading) → head_of s.version s.script ++ (codes "end" ∷ []) ∷ [] ≡ script_words s.version s.script
end_head s = ap (first_two s) (append_assoc (watch_words s.version s.script.watched) (map (command_words s.version) s.script.commands)
    ((codes "end" ∷ []) ∷ []))

last_back : (s : Reading) (st : Stage) → misplaced st End ≡ false → so_far st s ++ line_words End ∷ [] ≡ so_far stage.Ended (moved s End)
last_back s stage.Watch p = end_head s
last_back s stage.Commands p = end_head s
last_back s st p = absurd (true≢false p)

pub all_with : {X : Type 0} (p : X → Bool) (xs : List X) (x : X) → list_all p xs ≡ true → p x ≡ true → list_all p (xs ++ x ∷ []) ≡ true
all_with p xs x h k = list_all-append p xs (x ∷ []) ∙ and_from _ _ h (and_from _ _ k refl)

one_more : (s : Reading) (before : List (List (List ℕ))) (words : List (List ℕ)) (l : ScriptLine) → Back s before → words ≡ line_words l
    → before ++ words ∷ [] ≡ so_far s.stage s ++ line_words l ∷ []
one_more s before words l back e = ap (λ b. b ++ words ∷ []) back.lines ∙ ap (λ w. so_far s.stage s ++ w ∷ []) e

moved_back : (s : Reading) (before : List (List (List ℕ))) (words : List (List ℕ)) (l : ScriptLine) → IsReading s → Back s before
    → Passes s l → line_of words ≡ Some l
    → words ≡ line_words l → Back (moved s l) (before ++ words ∷ [])
moved_back s before words (First v) is back p line e =
    let empty = first_empty s v s.stage p.place is.shape in
    record {
      lines = one_more s before words (First v) back e ∙ first_back s v s.stage p.place is.shape;
      watched = rw empty.0 refl;
      commands = rw empty.1 refl;
    }
moved_back s before words (Target bounds) is back p line e = record {
  lines = one_more s before words (Target bounds) back e ∙ target_back s bounds s.stage p.place is.shape;
  watched = back.watched;
  commands = back.commands;
}
moved_back s before words (Watch watched) is back p line e =
    let keys = keys_back s.version watched p.keys in
    let some : watched ≡ [] → ⊥ = λ none. no_watch (sym watch_alone ∙ sym (ap line_of (e ∙ ap (λ ws. codes "watch" ∷ ws) none)) ∙ line) in
    record {
      lines = one_more s before words (Watch watched) back e ∙ watch_back s watched s.stage p.place is.shape some keys;
      watched = keys.nameable;
      commands = back.commands;
    }
  where
    no_watch : None ≡ Some (Watch watched) → ⊥
    no_watch h = cc
moved_back s before words (Ask c) is back p line e =
    let k = command_is_back s.version c p.keys in
    record {
      lines = one_more s before words (Ask c) back e ∙ ask_back s c s.stage p.place k;
      watched = back.watched;
      commands = all_with (command_is_nameable s.version) s.script.commands (meant s.version c) back.commands k.nameable;
    }
moved_back s before words End is back p line e = record {
  lines = one_more s before words End back e ∙ last_back s s.stage p.place;
  watched = back.watched;
  commands = back.commands;
}

step_cases : (s after : Reading) (before : List (List (List ℕ))) (words : List (List ℕ)) (o : Option ScriptLine) → IsReading s
    → Back s before → line_of words ≡ o
    → step_by s o ≡ Ok after → Back after (before ++ words ∷ [])
step_cases s after before words None is back line e = cc
step_cases s after before words (Some l) is back line e =
    let fit = passed (kinds s l) (moved s l) after e in
    let p = passes s l fit.0 in
    subst (λ a. Back a (before ++ words ∷ [])) fit.1 (moved_back s before words l is back p line (line_back words l line p.numbers))

step_back : (s after : Reading) (before : List (List (List ℕ))) (bytes : List ℕ) → IsReading s → Back s before → step s bytes ≡ Ok after
    → Back after (before ++ split_on 32 bytes ∷ [])
unfolding step
step_back s after before bytes is back e = step_cases s after before (split_on 32 bytes) (line_of (split_on 32 bytes)) is back refl e

-- ---- the whole text

-- the words are those of the script's lines
record IsSpelled (script : Script) (words : List (List (List ℕ))) : Type 0 where
  version : Version
  lines : words ≡ script_words version script
  watched : list_all (is_nameable version) script.watched ≡ true
  commands : list_all (command_is_nameable version) script.commands ≡ true

ended_back : (s : Reading) (before : List (List (List ℕ))) (script : Script) (st : Stage) → s.stage ≡ st → Back s before
    → ending st s ≡ Ok script → IsSpelled script before
ended_back s before script stage.Ended is back e =
    subst (λ script. IsSpelled script before) (ok_is s.script script e) (record {
      version = s.version;
      lines = back.lines ∙ ap (λ st. so_far st s) is;
      watched = back.watched;
      commands = back.commands;
    })
ended_back s before script st is back e = cc

abbrev Reached : Reading → List (List (List ℕ)) → Type 0
Reached s before = IsReading s × Back s before

pub read_is_spelled : ReadIsSpelled
unfolding script_of
read_is_spelled sources text script e =
    let found = lines_found rules Reached IsSpelled
    (λ s after before bytes at is. ((step_keeps s bytes after at.0 is).reading, step_back s after before bytes at.0 at.1 is))
    (λ s before script at is. ended_back s before script s.stage refl at.1 is)
    (begun sources) [] (split_on 10 text) script (begun_is sources, record { lines = refl; watched = refl; commands = refl }) e in
    record {
      allowed = script_allowed sources text script e;
      version = found.spelled.version;
      lines = sym (join-split_on 10 text) ∙ found.lines ∙ ap (flat_map words_line) found.spelled.lines;
      watched = found.spelled.watched;
      commands = found.spelled.commands;
    }
