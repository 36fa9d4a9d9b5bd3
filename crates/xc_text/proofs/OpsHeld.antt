-- Each write and each intent of a text has an operation.
use Rattle.std.proofs.Common.{◌≡◌, ℕ, Bool, true, false, nat_le, List, [], ◌∷◌, length, Option, Some, None, if◌then◌else◌, refl}
use Rattle.std.proofs.Common.{option_and_then, option_map, codes, arith}
use Rattle.std.proofs.lemmas.Bool.Decides.{nat_tests}
use Rattle.std.specs.Option.{option_map_or}
use Rattle.std.specs.Str.{bytes_eq}
use Rattle.xc_record.specs.declared.record.Op.{Op}
use Rattle.xc_record.specs.declared.record.Kind.{Kind}
use Rattle.xc_record.specs.declared.record.Kind.TheVariants.{Write, Intent, Apply, Abort, Safe, Split}
use Rattle.xc_text.specs.declared.line.Version.{Version}
use Rattle.xc_text.specs.declared.line.Version.TheVariants.{One, Two}
use Rattle.xc_text.specs.declared.line.LogLine.{LogLine}
use Rattle.xc_text.specs.declared.line.LogLine.TheVariants as line
use Rattle.xc_text.specs.Lines.{op_of, all_ops, ops_of, kind_of, kind_by, line_of, line_by, entry_of, header_of, version_of, at_end, number}
use Rattle.xc_text.specs.Lines.{first_number, only_number, intent_of, sub_of, without_of, apply_of, abort_of, safe_of, split_of, ◌>>=◌}
use Rattle.xc_text.proofs.ValidParts.{has_ops}

-- the test holds of what there is
abbrev pub holds_of : {A : Type 0} → (A → Bool) → Option A → Bool
holds_of p o = option_map_or p o true

then_holds : {A B : Type 0} (p : B → Bool) (o : Option A) (f : A → Option B) → ((x : A) → holds_of p (f x) ≡ true)
    → holds_of p (option_and_then f o) ≡ true
then_holds p None f h = refl
then_holds p (Some x) f h = h x

map_holds : {A B : Type 0} (p : B → Bool) (f : A → B) (o : Option A) → ((x : A) → p (f x) ≡ true)
    → holds_of p (option_map f o) ≡ true
map_holds p f None h = refl
map_holds p f (Some x) h = h x

end_holds : {A : Type 0} (p : A → Bool) (words : List (List ℕ)) (x : A) → p x ≡ true → holds_of p (at_end words x) ≡ true
end_holds p [] x h = h
end_holds p (w ∷ ws) x h = refl

if_holds : {A : Type 0} (p : A → Bool) (b : Bool) (x y : Option A) → holds_of p x ≡ true → holds_of p y ≡ true
    → holds_of p (if b then x else y) ≡ true
if_holds p true x y h k = h
if_holds p false x y h k = k

abbrev some_op : List Op → Bool
some_op ops = nat_le 1 (length ops)

cons_some : (op : Op) (ops : List Op) → some_op (op ∷ ops) ≡ true
cons_some op ops = grind (arith, nat_tests)

all_some : (v : Version) (w : List ℕ) (ws : List (List ℕ)) → holds_of some_op (all_ops v (w ∷ ws)) ≡ true
all_some v w ws =
    then_holds some_op (op_of v w) (λ op. option_and_then (λ ops. Some (op ∷ ops)) (all_ops v ws))
    (λ op. then_holds some_op (all_ops v ws) (λ ops. Some (op ∷ ops)) (λ ops. cons_some op ops))

ops_some : (v : Version) (words : List (List ℕ)) → holds_of some_op (ops_of v words) ≡ true
ops_some v [] = refl
ops_some v (w ∷ ws) = all_some v w ws

write_some : (o : Option (List Op)) → holds_of some_op o ≡ true → holds_of has_ops (option_map Write o) ≡ true
write_some None h = refl
write_some (Some ops) h = h

intent_some : (txn sub : ℕ) (o : Option (List Op)) → holds_of some_op o ≡ true
    → holds_of has_ops (option_and_then (λ ops. Some (Intent sub txn ops)) o) ≡ true
intent_some txn sub None h = refl
intent_some txn sub (Some ops) h = h

apply_some : (words : List (List ℕ)) → holds_of has_ops (apply_of words) ≡ true
apply_some words =
    then_holds has_ops (first_number words)
    (λ txn. first_number txn.1 >>= (λ commit. without_of commit.1 >>= (λ without. Some (Apply txn.0 commit.0 without))))
    (λ txn. then_holds has_ops (first_number txn.1) (λ commit. without_of commit.1 >>= (λ without. Some (Apply txn.0 commit.0 without)))
    (λ commit. then_holds has_ops (without_of commit.1) (λ without. Some (Apply txn.0 commit.0 without)) (λ without. refl)))

intents_some : (v : Version) (words : List (List ℕ)) → holds_of has_ops (intent_of v words) ≡ true
intents_some v words =
    then_holds has_ops (first_number words) (λ txn. sub_of txn.1 >>= (λ sub. ops_of v sub.1 >>= (λ ops. Some (Intent sub.0 txn.0 ops))))
    (λ txn. then_holds has_ops (sub_of txn.1) (λ sub. ops_of v sub.1 >>= (λ ops. Some (Intent sub.0 txn.0 ops)))
    (λ sub. intent_some txn.0 sub.0 (ops_of v sub.1) (ops_some v sub.1)))

abort_some : (words : List (List ℕ)) → holds_of has_ops (abort_of words) ≡ true
abort_some words = map_holds has_ops Abort (only_number words) (λ txn. refl)

safe_some : (words : List (List ℕ)) → holds_of has_ops (safe_of words) ≡ true
safe_some words = map_holds has_ops Safe (only_number words) (λ value. refl)

split_some : (words : List (List ℕ)) → holds_of has_ops (split_of words) ≡ true
split_some words =
    then_holds has_ops (first_number words)
    (λ place. first_number place.1 >>= (λ left. first_number left.1 >>= (λ right. at_end right.1 (Split place.0 left.0 right.0))))
    (λ place. then_holds has_ops (first_number place.1)
    (λ left. first_number left.1 >>= (λ right. at_end right.1 (Split place.0 left.0 right.0)))
    (λ left. then_holds has_ops (first_number left.1) (λ right. at_end right.1 (Split place.0 left.0 right.0))
    (λ right. end_holds has_ops right.1 (Split place.0 left.0 right.0) refl)))

verb_some : (v : Version) (verb : List ℕ) (words : List (List ℕ)) → holds_of has_ops (kind_by v verb words) ≡ true
verb_some v verb words =
    by (bytes_eq verb (codes "write")) (bytes_eq verb (codes "intent")) (bytes_eq verb (codes "apply")) (bytes_eq verb (codes "abort"))
    (bytes_eq verb (codes "safe")) (bytes_eq verb (codes "split"))
  where
    by : (a b c d e f : Bool)
        → holds_of has_ops
        (if a then option_map Write (ops_of v words) else
        (if b then intent_of v words else
        (if c then apply_of words else
        (if d then abort_of words else (if e then safe_of words else (if f then split_of words else None)))))) ≡ true
    by true b c d e f = write_some (ops_of v words) (ops_some v words)
    by false true c d e f = intents_some v words
    by false false true d e f = apply_some words
    by false false false true e f = abort_some words
    by false false false false true f = safe_some words
    by false false false false false true = split_some words
    by false false false false false false = refl

kind_some : (v : Version) (words : List (List ℕ)) → holds_of has_ops (kind_of v words) ≡ true
unfolding kind_of
kind_some v [] = refl
kind_some v (verb ∷ words) = verb_some v verb words

abbrev pub line_has_ops : LogLine → Bool
line_has_ops (line.Entry id r) = has_ops r.kind
line_has_ops _ = true

entry_some : (id time : ℕ) (o : Option Kind) → holds_of has_ops o ≡ true
    → holds_of line_has_ops (option_and_then (λ kind. Some (line.Entry id (record { time = time; kind = kind }))) o) ≡ true
entry_some id time None h = refl
entry_some id time (Some kind) h = h

header_some : {A : Type 0} (f : A → LogLine) (o : Option A) → ((x : A) → line_has_ops (f x) ≡ true)
    → holds_of line_has_ops (option_map f o) ≡ true
header_some f None h = refl
header_some f (Some x) h = h x

version_some : (words : List (List ℕ)) → holds_of line_has_ops (version_of words) ≡ true
version_some [] = refl
version_some (w ∷ ws) =
    if_holds line_has_ops (bytes_eq w (codes "1")) (at_end ws (line.First One))
    (if bytes_eq w (codes "2") then at_end ws (line.First Two) else None) (end_holds line_has_ops ws (line.First One) refl)
    (if_holds line_has_ops (bytes_eq w (codes "2")) (at_end ws (line.First Two)) None (end_holds line_has_ops ws (line.First Two) refl)
    refl)

entries_some : (v : Version) (id : ℕ) (words : List (List ℕ)) → holds_of line_has_ops (entry_of v id words) ≡ true
entries_some v id words =
    then_holds line_has_ops (first_number words)
    (λ time. kind_of v time.1 >>= (λ kind. Some (line.Entry id (record { time = time.0; kind = kind }))))
    (λ time. entry_some id time.0 (kind_of v time.1) (kind_some v time.1))

word_some : (v : Version) (word : List ℕ) (words : List (List ℕ)) → holds_of line_has_ops (line_by v word words) ≡ true
word_some v word words = by (bytes_eq word (codes "xclog")) (bytes_eq word (codes "tablet")) (bytes_eq word (codes "end"))
  where
    by : (a b c : Bool)
        → holds_of line_has_ops
        (if a then version_of words else
        (if b then option_map line.Tablet (header_of words) else
        (if c then at_end words line.End else (number word >>= (λ id. entry_of v id words))))) ≡ true
    by true b c = version_some words
    by false true c = header_some line.Tablet (header_of words) (λ h. refl)
    by false false true = end_holds line_has_ops words line.End refl
    by false false false = then_holds line_has_ops (number word) (λ id. entry_of v id words) (λ id. entries_some v id words)

pub line_some : (v : Version) (words : List (List ℕ)) → holds_of line_has_ops (line_of v words) ≡ true
unfolding line_of
line_some v [] = refl
line_some v (word ∷ words) = word_some v word words
