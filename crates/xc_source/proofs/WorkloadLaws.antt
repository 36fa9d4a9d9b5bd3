-- What the calls of a workload leave, as commands.
use Rattle.std.proofs.Common.{◌≡◌, ℕ, zero, suc, ◌+◌, ◌<◌, ◌^◌, true, ⊎_elim, List, [], ◌∷◌, ◌++◌, length, Option, Some, None}
use Rattle.std.proofs.Common.{refl, sym, ◌∙◌, ap, subst, arith, decimal, lit<, drop-cons, add-one}
use Rattle.std.specs.Prelude.{Ok, Bool, nat_le, ◌≤◌, ◌-◌, ◌%◌, ◌&&◌, slice_get, get_or, option_map, if◌then◌else◌, map, take, drop}
use Rattle.std.specs.Int.{w64, from_le_bytes, to_le_bytes}
use Rattle.std.specs.Option.{option_map_or}
use Rattle.std.proofs.lemmas.Option.{slice_get-get_or, same_Some}
use Rattle.std.proofs.lemmas.Fmt.{decimal_by_steps, length-decimal-le}
use Rattle.std.proofs.lemmas.List.Folds.{list_all-append}
use Rattle.std.proofs.lemmas.Bool.Decides.{nat_tests}
use Rattle.rand_core.specs.Steps.{first_words}
use Rattle.rand_xoshiro.specs.SplitMix64.{mix_u64}
use Rattle.xc_base.specs.Names.{is_key, is_value, are_bytes}
use Rattle.xc_record.specs.declared.record.Header.{Header}
use Rattle.xc_record.specs.declared.record.Op.{Op}
use Rattle.xc_record.specs.declared.record.Tablet.{Tablet}
use Rattle.xc_record.specs.Headers.{are_headers, headers_fit}
use Rattle.xc_source.specs.declared.command.SourceCommand.{SourceCommand}
use Rattle.xc_source.specs.declared.command.SourceCommand.TheVariants as command
use Rattle.xc_source.specs.declared.fail.SourceFail.{SourceFail}
use Rattle.xc_source.specs.Machine.{Machine, begun, are_roots}
use Rattle.xc_source.specs.Calls as call
use Rattle.xc_source.specs.Calls.{Case, Answers, unless}
use Rattle.xc_source.specs.Commands.{step, run}
use Rattle.xc_source.specs.Waiting.{open_tablets}
use Rattle.xc_source.specs.Workload.{key_of, set_op, remove_op, next_txn, commit_commands, abort_commands, safe_commands}
use Rattle.xc_source.specs.Workload.{apply_command, step_commands, commands_from, widest, middle, widest_commands, split_commands}
use Rattle.xc_source.specs.Workload.{is_split_due, root, words}

-- ---- keys and values

bytes-decimal : (n : ℕ) → n < 2 ^ 64 → are_bytes (decimal n) ≡ true
bytes-decimal n h =
    decimal_by_steps (λ _ ds. are_bytes ds ≡ true) (λ k l. grind (arith, nat_tests))
    (λ k ds l p. rw list_all-append (grind (arith, nat_tests, p))) n h

fits : (low high n : ℕ) (b : Bool) → low ≤ n → n ≤ high → b ≡ true → ((nat_le low n && nat_le n high) && b) ≡ true
fits low high n b l h e = grind (arith, nat_tests, e)

pub is_value_of : (n : ℕ) → n < 2 ^ 64 → is_value (decimal n) ≡ true
is_value_of n h =
    let few : length (decimal n) ≤ 20 = length-decimal-le 20 n (lit< tt) (omega arith) h in
    fits 0 64 (length (decimal n)) (are_bytes (decimal n)) (omega arith) (omega arith) (bytes-decimal n h)

pub is_key_of : (n : ℕ) → n < 2 ^ 64 → is_key (key_of n) ≡ true
is_key_of n h =
    let few : length (decimal n) ≤ 20 = length-decimal-le 20 n (lit< tt) (omega arith) h in
    fits 1 32 (suc (length (decimal n))) (are_bytes (decimal n)) (omega arith) (omega arith) (bytes-decimal n h)

-- a `k` and then the digits, in front of what else the memory holds
pub key_front : (n : ℕ) (ds xs rest : List ℕ) → ds ≡ decimal n → xs ≡ ds → take (1 + length ds) (107 ∷ (xs ++ rest)) ≡ key_of n
key_front n ds xs rest d e =
    let one : 1 + length ds ≡ suc (length ds) = omega arith in
    ap (λ ys. take (1 + length ds) (107 ∷ (ys ++ rest))) e ∙ ap (λ k. take k (107 ∷ (ds ++ rest))) one
    ∙ ap (λ ys. 107 ∷ ys) (go ds) ∙ ap (λ ys. 107 ∷ ys) d
  where
    go : (ys : List ℕ) → take (length ys) (ys ++ rest) ≡ ys
    go [] = refl
    go (y ∷ ys) = ap (λ zs. y ∷ zs) (go ys)

-- ---- answers

-- a call that answers leaves the machine of its case
answered : {X : Type 0} (a b : Machine) (c : Case X) (x : X) → Answers (Ok x) a b c → b ≡ c.1
answered a b c x h = ⊎_elim (λ o. let z = o.answer in cc) (λ s. s.machine) h

unless-answer : {X : Type 0} (o : Option SourceFail) (m after : Machine) (x y : X) → Ok y ≡ (unless o m x after).0 → y ≡ x
unless-answer None m after x y e = cc
unless-answer (Some fail) m after x y e = cc

begun_number : (a b : Machine) (n : ℕ) → Answers (Ok n) a b (call.begin a) → n ≡ next_txn a
begun_number a b n h =
    ⊎_elim (λ o. let z = o.answer in cc)
    (λ s. unless-answer (call.begin_refusal a) a (record a { txns = a.txns ++ begun ∷ [] }) (length a.txns + 1) n s.answer) h

pub run_append : (xs ys : List SourceCommand) (m : Machine) → run (xs ++ ys) m ≡ run ys (run xs m)
run_append [] ys m = refl
run_append (x ∷ xs) ys m = run_append xs ys (step x m).1

-- ---- single commands

put_run : (op : Op) (m u : Machine) (n : ℕ) → Answers (Ok n) m u (call.put op m) → u ≡ run (command.Put op ∷ []) m
unfolding step
put_run op m u n h = answered m u (call.put op m) n h

abbrev setting : List ℕ → List ℕ → Op
setting key value = record { key = key; value = Some value }

setting_is : (n v : ℕ) (key value : List ℕ) → key ≡ key_of n → value ≡ decimal v → setting key value ≡ set_op n v
setting_is n v key value e f = ap (λ k. setting k value) e ∙ ap (setting (key_of n)) f

pub set_run : (n v : ℕ) (key value : List ℕ) (m u : Machine) (x : ℕ) → key ≡ key_of n → value ≡ decimal v
    → Answers (Ok x) m u (call.put (setting key value) m) → u ≡ run (command.Put (set_op n v) ∷ []) m
set_run n v key value m u x e f h =
    put_run (setting key value) m u x h ∙ ap (λ op. run (command.Put op ∷ []) m) (setting_is n v key value e f)

pub remove_run : (n : ℕ) (key : List ℕ) (m u : Machine) (x : ℕ) → key ≡ key_of n
    → Answers (Ok x) m u (call.put (record { key = key; value = None }) m) → u ≡ run (command.Put (remove_op n) ∷ []) m
remove_run n key m u x e h =
    put_run (record { key = key; value = None }) m u x h ∙ ap (λ k. run (command.Put (record { key = k; value = None }) ∷ []) m) e

safe_run : (id : ℕ) (m u : Machine) (n : ℕ) → Answers (Ok n) m u (call.safe id m) → u ≡ run (command.Safe id ∷ []) m
unfolding step
safe_run id m u n h = answered m u (call.safe id m) n h

split_run : (id at : ℕ) (m u : Machine) (n : ℕ × ℕ) → Answers (Ok n) m u (call.split id at m)
    → u ≡ run (command.Split id at ∷ []) m
unfolding step
split_run id at m u n h = answered m u (call.split id at m) n h

finish_run : (m u : Machine) → Answers (Ok tt) m u (call.finish m) → u ≡ run (command.Finish ∷ []) m
unfolding step
finish_run m u h = answered m u (call.finish m) tt h

apply_run : (txn id : ℕ) (m u : Machine) (n : ℕ) (rest : List SourceCommand) → Answers (Ok n) m u (call.apply txn id m)
    → run rest u ≡ run (command.Apply txn id ∷ rest) m
unfolding step
apply_run txn id m u n rest h = ap (run rest) (answered m u (call.apply txn id m) n h)

-- ---- transactions

commit-run : (one two : Op) (m a b c d : Machine) (n i j k : ℕ) → Answers (Ok n) m a (call.begin m)
    → Answers (Ok i) a b (call.write n one a) → Answers (Ok j) b c (call.write n two b) → Answers (Ok k) c d (call.commit n c)
    → d ≡ run (commit_commands one two m) m
unfolding step
commit-run one two m a b c d n i j k p q g h =
    answered c d (call.commit n c) k h ∙ ap (λ z. (call.commit n z).1) (answered b c (call.write n two b) j g)
    ∙ ap (λ z. (call.commit n (call.write n two z).1).1) (answered a b (call.write n one a) i q)
    ∙ ap (λ z. (call.commit n (call.write n two (call.write n one z).1).1).1) (answered m a (call.begin m) n p)
    ∙ ap (λ z. (call.commit z (call.write z two (call.write z one (call.begin m).1).1).1).1) (begun_number m a n p)

pub commit_run : (one two v : ℕ) (first second value : List ℕ) (m a b c d : Machine) (n i j k : ℕ) → first ≡ key_of one
    → second ≡ key_of two → value ≡ decimal v → Answers (Ok n) m a (call.begin m)
    → Answers (Ok i) a b (call.write n (setting first value) a) → Answers (Ok j) b c (call.write n (setting second value) b)
    → Answers (Ok k) c d (call.commit n c) → d ≡ run (commit_commands (set_op one v) (set_op two v) m) m
commit_run one two v first second value m a b c d n i j k e f t p q g h =
    commit-run (setting first value) (setting second value) m a b c d n i j k p q g h
    ∙ ap (λ op. run (commit_commands op (setting second value) m) m) (setting_is one v first value e t)
    ∙ ap (λ op. run (commit_commands (set_op one v) op m) m) (setting_is two v second value f t)

abort-run : (op : Op) (m a b c : Machine) (n i : ℕ) → Answers (Ok n) m a (call.begin m)
    → Answers (Ok i) a b (call.write n op a) → Answers (Ok tt) b c (call.abort n b)
    → c ≡ run (abort_commands op m) m
unfolding step
abort-run op m a b c n i p q g =
    answered b c (call.abort n b) tt g ∙ ap (λ z. (call.abort n z).1) (answered a b (call.write n op a) i q)
    ∙ ap (λ z. (call.abort n (call.write n op z).1).1) (answered m a (call.begin m) n p)
    ∙ ap (λ z. (call.abort z (call.write z op (call.begin m).1).1).1) (begun_number m a n p)

pub abort_run : (one v : ℕ) (key value : List ℕ) (m a b c : Machine) (n i : ℕ) → key ≡ key_of one → value ≡ decimal v
    → Answers (Ok n) m a (call.begin m) → Answers (Ok i) a b (call.write n (setting key value) a)
    → Answers (Ok tt) b c (call.abort n b) → c ≡ run (abort_commands (set_op one v) m) m
abort_run one v key value m a b c n i e t p q g =
    abort-run (setting key value) m a b c n i p q g ∙ ap (λ op. run (abort_commands op m) m) (setting_is one v key value e t)

-- ---- positions and places

open_get : (ids : List ℕ) (n id : ℕ) → n < length ids → id ≡ get_or ids n id → slice_get ids n ≡ Some id
open_get ids n id l e = slice_get-get_or ids n id l ∙ ap Some (sym e)

pub safe_position : (n len id : ℕ) (ids : List ℕ) (m u : Machine) (x : ℕ) → ids ≡ open_tablets m → len ≡ length ids → 0 < len
    → id ≡ get_or ids (n % len) id → Answers (Ok x) m u (call.safe id m) → u ≡ run (safe_commands n m) m
safe_position n len id ids m u x e l some g h =
    let place : n % len < length ids = omega arith in
    let there : slice_get ids (n % length ids) ≡ Some id =
    subst (λ k. slice_get ids (n % k) ≡ Some id) l (open_get ids (n % len) id place g) in
    let found : slice_get (open_tablets m) (n % length (open_tablets m)) ≡ Some id =
    subst (λ ns. slice_get ns (n % length ns) ≡ Some id) e there in
    safe_run id m u x h ∙ ap (λ o. run (option_map_or (λ id. command.Safe id ∷ []) o []) m) (sym found)

abbrev with_header : ℕ × Tablet → ℕ × Header
with_header p = (p.0, p.1.header)

-- a number and a header are those of a tablet that was found
abbrev IsFound : ℕ → Header → Option (ℕ × Tablet) → Type 0
IsFound id h o = let found : Option (ℕ × Header) = Some (id, h) in found ≡ option_map with_header o

widest_is : (o : Option (ℕ × Tablet)) (id at : ℕ) (h : Header) → IsFound id h o → at ≡ middle h
    → command.Split id at ∷ [] ≡ option_map_or (λ p. command.Split p.0 (middle p.1.header) ∷ []) o []
widest_is None id at h e f = cc
widest_is (Some p) id at h e f =
    let a = same_Some {A = ℕ × Header} (id, h) (with_header p) e in
    ap (λ n. command.Split id n ∷ []) f ∙ ap (λ (q : ℕ × Header). command.Split q.0 (middle q.1) ∷ []) a

pub due_split : (i id at : ℕ) (h : Header) (ts : List Tablet) (m u : Machine) (x : ℕ × ℕ) → i % 1000 ≡ 0 → ts ≡ m.tablets
    → length ts < 16 → IsFound id h (widest ts) → at ≡ middle h
    → Answers (Ok x) m u (call.split id at m) → u ≡ run (split_commands i m) m
unfolding split_commands
due_split i id at h ts m u x z t l e f a =
    let few : length m.tablets < 16 = subst (λ (ts : List Tablet). length ts < 16) t l in
    let due : is_split_due i m.tablets ≡ true = grind (arith, nat_tests, z, few) in
    let there = subst (λ (ts : List Tablet). IsFound id h (widest ts)) t e in
    split_run id at m u x a ∙ ap (λ cs. run cs m) (widest_is (widest m.tablets) id at h there f)
    ∙ ap (λ b. run (if b then widest_commands m.tablets else []) m) (sym due)

pub four_are_roots : (a b c d : Header) → a ≡ root 0 0 16383 → b ≡ root 1 16384 32767 → c ≡ root 2 32768 49151 → d ≡ root 3 49152 65535
    → are_roots (a ∷ b ∷ c ∷ d ∷ []) ≡ true
unfolding are_headers headers_fit
four_are_roots a b c d e f g h =
    ap (λ x. are_roots (x ∷ b ∷ c ∷ d ∷ [])) e ∙ ap (λ x. are_roots (root 0 0 16383 ∷ x ∷ c ∷ d ∷ [])) f
    ∙ ap (λ x. are_roots (root 0 0 16383 ∷ root 1 16384 32767 ∷ x ∷ d ∷ [])) g
    ∙ ap (λ x. are_roots (root 0 0 16383 ∷ root 1 16384 32767 ∷ root 2 32768 49151 ∷ x ∷ [])) h

-- ---- loops

pub next_pair : (ps : List (ℕ × ℕ)) (i : ℕ) (d : ℕ × ℕ) (m u : Machine) (x : ℕ) (whole : Machine) → i < length ps
    → Answers (Ok x) m u (call.apply (get_or ps i d).0 (get_or ps i d).1 m) → run (map apply_command (drop i ps)) m ≡ whole
    → run (map apply_command (drop (i + 1) ps)) u ≡ whole
next_pair ps i d m u x whole l h w =
    let p = get_or ps i d in
    let front : drop i ps ≡ p ∷ drop (i + 1) ps = rw (add-one, drop-cons ps i d) refl in
    apply_run p.0 p.1 m u x (map apply_command (drop (i + 1) ps)) h ∙ ap (λ qs. run (map apply_command qs) m) (sym front) ∙ w

drawn : (size step x : ℕ) → step ≤ size
    → first_words mix_u64 (size + 1 - step) x ≡ (mix_u64 x).0 ∷ first_words mix_u64 (size + 1 - (step + 1)) (mix_u64 x).1
unfolding first_words
drawn size step x l = let e : size + 1 - step ≡ suc (size + 1 - (step + 1)) = omega arith in ap (λ k. first_words mix_u64 k x) e

none_drawn : (size step x : ℕ) → size + 1 ≤ step → first_words mix_u64 (size + 1 - step) x ≡ []
unfolding first_words
none_drawn size step x l = let e : size + 1 - step ≡ 0 = omega arith in ap (λ k. first_words mix_u64 k x) e

pub next_step : (size step x w y : ℕ) (m u whole : Machine) → step ≤ size → (w, y) ≡ mix_u64 x → u ≡ run (step_commands step w m) m
    → run (commands_from step (first_words mix_u64 (size + 1 - step) x) m) m ≡ whole
    → run (commands_from (step + 1) (first_words mix_u64 (size + 1 - (step + 1)) y) u) u ≡ whole
next_step size step x w y m u whole l e f h =
    let rest = first_words mix_u64 (size + 1 - (step + 1)) y in
    let cs = step_commands step w m in
    let front : first_words mix_u64 (size + 1 - step) x ≡ w ∷ rest =
    drawn size step x l ∙ ap (λ (p : ℕ × ℕ). p.0 ∷ first_words mix_u64 (size + 1 - (step + 1)) p.1) (sym e) in
    ap (λ z. run (commands_from (step + 1) rest z) z) f ∙ sym (run_append cs (commands_from (step + 1) rest (run cs m)) m)
    ∙ ap (λ ws. run (commands_from step ws m) m) (sym front) ∙ h

pub last_step : (size step x : ℕ) (m u whole : Machine) → size + 1 ≤ step → Answers (Ok tt) m u (call.finish m)
    → run (commands_from step (first_words mix_u64 (size + 1 - step) x) m) m ≡ whole → u ≡ whole
last_step size step x m u whole l f h =
    finish_run m u f ∙ ap (λ ws. run (commands_from step ws m) m) (sym (none_drawn size step x l)) ∙ h

-- ---- as many words as steps

length-first_words : (k x : ℕ) → length (first_words mix_u64 k x) ≡ k
unfolding first_words
length-first_words zero x = refl
length-first_words (suc k) x = ap suc (length-first_words k (mix_u64 x).1)

pub length_words : (number size : ℕ) → length (words number size) ≡ size
length_words number size = length-first_words size (from_le_bytes w64 (to_le_bytes w64 number))
