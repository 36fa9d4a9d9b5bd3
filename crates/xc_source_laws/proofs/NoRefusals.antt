-- No call of a generated workload is refused. Between two steps no transaction is live, what was logged and what waits come to six for each
-- step at most, and the tablets are wide enough to be split.
use Rattle.std.proofs.Common.{◌≡◌, ℕ, zero, suc, ◌+◌, ◌-◌, ◌*◌, ◌/◌, ◌%◌, ◌^◌, ◌<◌, ◌≤◌, true, false, Bool, cond, List, [], ◌∷◌, ◌++◌}
use Rattle.std.proofs.Common.{length, Option, Some, None, refl, ap, sym, ◌∙◌, subst, arith, zero-add, lit≤, length-append}
use Rattle.std.specs.Prelude.{slice_get, if◌then◌else◌, ◌&&◌, ◌||◌, ◌==◌, nat_le, nat_lt, is_none, find, filter, option_map}
use Rattle.std.specs.List.{enumerate_from}
use Rattle.std.specs.Option.{option_map_or}
use Rattle.std.proofs.lemmas.Bool.{and_parts, ltb-true}
use Rattle.std.proofs.lemmas.Bool.Decides.{nat_tests}
use Rattle.std.proofs.lemmas.List.{map-append, length-map}
use Rattle.std.proofs.lemmas.List.Sums.{sum_by-append, count_by-le-length}
use Rattle.std.proofs.lemmas.Option.{slice_get-map}
use Rattle.xc_time.specs.Times.{last_time}
use Rattle.xc_record.specs.declared.record.Header.{Header}
use Rattle.xc_record.specs.declared.record.Kind.TheVariants as kind
use Rattle.xc_record.specs.declared.record.Op.{Op}
use Rattle.xc_record.specs.declared.record.Record.{Record}
use Rattle.xc_record.specs.declared.record.Tablet.{Tablet}
use Rattle.xc_record.specs.Grown.{with_record}
use Rattle.xc_record.specs.Headers.{are_headers, headers_fit}
use Rattle.xc_record.proofs.ListLaws.{Each, Each-append, Each-weaker}
use Rattle.xc_model.proofs.Parents.{each-get}
use Rattle.xc_source.specs.declared.command.SourceCommand.{SourceCommand}
use Rattle.xc_source.specs.declared.command.SourceCommand.TheVariants as command
use Rattle.xc_source.specs.declared.fail.SourceFail.TheVariants.{NotOpen, BadPlace, Full, Conflict}
use Rattle.xc_source.specs.declared.workload.TheConstants.{MOST_STEPS}
use Rattle.xc_source.specs.Machine.{Machine, begun, is_open, record_count, records_in, start, are_roots}
use Rattle.xc_source.specs.Waiting.{open_tablets}
use Rattle.xc_source.specs.Calls as call
use Rattle.xc_source.specs.Calls.{logged, written, committed, aborted, put_after, with_commit, child, split_after, with_safe, when}
use Rattle.xc_source.specs.Commands.{step, run}
use Rattle.xc_source.specs.Workload as workload
use Rattle.xc_source.specs.Workload.{four_roots, generated, next_txn, commit_commands, abort_commands, apply_commands, safe_commands}
use Rattle.xc_source.specs.Workload.{open_at, word_commands, split_commands, step_commands, commands_from, middle, widest, words}
use Rattle.xc_source.specs.Workload.{action_of, action_commands, set_op, remove_op, is_split_due, widest_commands, most_width, width}
use Rattle.xc_source.proofs.WorkloadLaws.{run_append, length_words}
use Rattle.xc_source_laws.specs.Laws.{OpFits}
use Rattle.xc_source_laws.specs.Workloads.{NoCallIsRefused}
use Rattle.xc_source_laws.proofs.Keeps.{Kept}
use Rattle.xc_source_laws.proofs.Steps.{unit-closed, step-keeps, run-keeps}
use Rattle.xc_source_laws.proofs.Start.{base-start, root_books}
use Rattle.xc_source_laws.proofs.Opened.{enumerated, each-map, each-kept}
use Rattle.xc_source_laws.proofs.WorkloadFits.{AllFit, word-fits, split-fits}
use Rattle.xc_source_laws.proofs.Counts.{count-numbered}
use Rattle.xc_source_laws.proofs.Answered.{AllAnswered, answered-append, answered-made, none-of, no-when, answers, leaves, Room, not-full}
use Rattle.xc_source_laws.proofs.Answered.{not-ended}
use Rattle.xc_source_laws.proofs.Loads.{waiting, headers, Little, little-then, little-more, little-logged, size-record, heads-record}
use Rattle.xc_source_laws.proofs.Loads.{NotLive, no-conflict}
use Rattle.xc_source_laws.proofs.Places.{sole}
use Rattle.xc_source_laws.proofs.LastTxn.{did-begin, did-write, did-commit, did-abort}
use Rattle.xc_source_laws.proofs.AllApplied.{RoomToApply, applies-pending}

abbrev IsKept : Machine → Type 0
IsKept m = Kept (λ _ _. Unit {0}) m

-- ---- what a word does

-- no transaction is live, and there is room
record Ready (m : Machine) : Type 0 where
  kept : IsKept m
  idle : Each NotLive m.txns
  load : record_count m + waiting m + 8 ≤ 2 ^ 20
  clock : m.time + waiting m + 8 ≤ last_time
  begun : length m.txns ≤ MOST_STEPS

-- the commands are answered, and no transaction is live after them
record Fine (cs : List SourceCommand) (m : Machine) : Type 0 where
  answered : AllAnswered cs m
  idle : Each NotLive (run cs m).txns
  begun : length (run cs m).txns ≤ length m.txns + 1
  little : Little 5 m (run cs m)

fine-none : (m : Machine) → Ready m → Fine [] m
fine-none m r = record {
  answered = tt;
  idle = r.idle;
  begun = omega arith;
  little = record { load = omega arith; clock = omega arith; heads = refl };
}

room-after : (a : ℕ) (m u : Machine) → Ready m → Little a m u → a < 8 → Room u 1
room-after a m u r g l = record {
  records = let x = r.load in let y = g.load in omega arith;
  times = let x = r.clock in let y = g.clock in omega arith;
}

little-same : (m : Machine) → Little 0 m m
little-same m = record { load = omega arith; clock = omega arith; heads = refl }

-- one command that logs a record, and leaves the transactions as they are
record Logs (c : SourceCommand) (m u : Machine) : Type 0 where
  answered : (step c m).0 ≡ None
  left : (step c m).1 ≡ u
  txns : u.txns ≡ m.txns
  little : Little 1 m u

fine-one : (c : SourceCommand) (m u : Machine) → Ready m → Logs c m u → Fine (c ∷ []) m
fine-one c m u r g = record {
  answered = (g.answered, tt);
  idle = subst (λ (v : Machine). Each NotLive v.txns) (sym g.left) (subst (Each NotLive) (sym g.txns) r.idle);
  begun = subst (λ (v : Machine). length v.txns ≤ length m.txns + 1) (sym g.left)
      (let z = ap length g.txns in omega arith);
  little = subst (Little 5 m) (sym g.left) (little-more 1 5 m u (omega arith) g.little);
}

put-logs : (op : Op) (m : Machine) → Ready m → Logs (command.Put op) m (put_after op m)
unfolding step
put-logs op m r =
    let room = room-after 0 m m r (little-same m) (omega arith) in
    let free : call.conflict m 0 op ≡ None = ap (option_map (λ other. Conflict other)) (no-conflict m 0 op.key r.idle) in
    let e : call.put_refusal op m ≡ None =
    none-of (call.conflict m 0 op ∷ call.full m 1 ∷ call.clock_end m 1 ∷ []) (free, (not-full m 1 room, (not-ended m 1 room, tt))) in
    let log = little-logged (call.tablet_of m op.key) (kind.Write (op ∷ [])) m in
    record {
      answered = answers (call.put_refusal op m) m (m.time + 1) (put_after op m) e;
      left = leaves (call.put_refusal op m) m (m.time + 1) (put_after op m) e;
      txns = refl;
      little = record { load = log.load; clock = log.clock; heads = log.heads };
    }

fine-commit : (one two : Op) (m : Machine) → Ready m → Fine (commit_commands one two m) m
fine-commit one two m r =
    let xs = m.txns in
    let n = next_txn m in
    let a = (step command.Begin m).1 in
    let b = (step (command.Write n one) a).1 in
    let c = (step (command.Write n two) b).1 in
    let d = (step (command.Commit n) c).1 in
    let begins = did-begin m r.begun in
    let first = did-write a xs begun one begins.own r.idle refl (room-after 0 m a r begins.little (omega arith)) in
    let to_b : Little 2 m b = little-then 0 2 m a b begins.little first.little in
    let second = did-write b xs (written one begun) two first.own r.idle refl (room-after 2 m b r to_b (omega arith)) in
    let to_c : Little 4 m c = little-then 2 2 m b c to_b second.little in
    let t = written two (written one begun) in
    let last = did-commit c xs t second.own refl (room-after 4 m c r to_c (omega arith)) in
    record {
      answered = (begins.answered, (first.answered, (second.answered, (last.answered, tt))));
      idle = subst (Each NotLive) (sym last.own.whole) (Each-append NotLive xs (committed (c.time + 1) t ∷ []) r.idle (refl, tt));
      begun = let z = ap length last.own.whole in let y = length-append xs (committed (c.time + 1) t ∷ []) in
          let w : length (committed (c.time + 1) t ∷ []) ≡ 1 = refl in omega arith;
      little = little-then 4 1 m c d to_c last.little;
    }

fine-abort : (op : Op) (m : Machine) → OpFits op → Ready m → Fine (abort_commands op m) m
fine-abort op m f r =
    let xs = m.txns in
    let n = next_txn m in
    let a = (step command.Begin m).1 in
    let b = (step (command.Write n op) a).1 in
    let c = (step (command.Abort n) b).1 in
    let begins = did-begin m r.begun in
    let first = did-write a xs begun op begins.own r.idle refl (room-after 0 m a r begins.little (omega arith)) in
    let to_b : Little 2 m b = little-then 0 2 m a b begins.little first.little in
    let kept_a = step-keeps (λ _ _. Unit {0}) unit-closed command.Begin m tt r.kept in
    let kept_b = step-keeps (λ _ _. Unit {0}) unit-closed (command.Write n op) a f kept_a in
    let t = written op begun in
    let last = did-abort b xs t first.own refl (sole b kept_b) (room-after 2 m b r to_b (omega arith)) in
    record {
      answered = (begins.answered, (first.answered, (last.answered, tt)));
      idle = subst (Each NotLive) (sym last.own.whole) (Each-append NotLive xs (aborted t ∷ []) r.idle (refl, tt));
      begun = let z = ap length last.own.whole in let y = length-append xs (aborted t ∷ []) in
          let w : length (aborted t ∷ []) ≡ 1 = refl in omega arith;
      little = little-more 2 5 m c (omega arith) (little-then 2 0 m b c to_b last.little);
    }

room-to-apply : (m : Machine) → Ready m → RoomToApply m
room-to-apply m r = record { records = let x = r.load in omega arith; times = let x = r.clock in omega arith }

fine-applies : (m : Machine) → Ready m → Fine (apply_commands m) m
fine-applies m r =
    let all = applies-pending m r.kept (room-to-apply m r) in
    record {
      answered = all.answered;
      idle = all.idle r.idle;
      begun = let z = all.begun in omega arith;
      little = record {
        load = let x = all.taken in let y = all.records in omega arith;
        clock = let x = all.taken in let y = all.time in omega arith;
        heads = all.heads;
      };
    }

-- ---- open tablets

record IsOpenAt (m : Machine) (id : ℕ) : Type 0 where
  t : Tablet
  at : slice_get m.tablets id ≡ Some t
  opened : is_open t ≡ true

all-open : (m : Machine) → Each (IsOpenAt m) (open_tablets m)
all-open m =
    let There : ℕ × Tablet → Type 0 = λ p. slice_get m.tablets p.0 ≡ Some p.1 in
    each-map (IsOpenAt m) (λ p. There p × (is_open p.1 ≡ true)) (λ p. p.0)
    (λ p h. record { t = p.1; at = h.0; opened = h.1 })
    (filter (λ p. is_open p.1) (enumerate_from 0 m.tablets))
    (each-kept There (λ p. is_open p.1) (enumerate_from 0 m.tablets)
    (enumerated There 0 m.tablets (λ i x e. subst (λ w. slice_get m.tablets w ≡ Some x) (sym (zero-add i)) e)))

is-open-there : (m : Machine) (id : ℕ) → IsOpenAt m id → call.not_open m id ≡ None
is-open-there m id o =
    no-when _ (NotOpen id) (ap (λ w. is_none (option_map_or (λ (t : Tablet). if is_open t then Some t else None) w None)) o.at
    ∙ ap (λ b. is_none (if b then Some o.t else None)) o.opened)

safe-logs : (id : ℕ) (m : Machine) → IsOpenAt m id → Ready m → Logs (command.Safe id) m (with_safe id m)
unfolding step
safe-logs id m o r =
    let room = room-after 0 m m r (little-same m) (omega arith) in
    let e : call.safe_refusal id m ≡ None =
    none-of (call.not_open m id ∷ call.full m 1 ∷ call.clock_end m 1 ∷ [])
    (is-open-there m id o, (not-full m 1 room, (not-ended m 1 room, tt))) in
    record {
      answered = answers (call.safe_refusal id m) m (call.safe_value m id) (with_safe id m) e;
      left = leaves (call.safe_refusal id m) m (call.safe_value m id) (with_safe id m) e;
      txns = refl;
      little = little-logged id (kind.Safe (call.safe_value m id)) m;
    }

fine-safe : (a : ℕ) (m : Machine) → Ready m → Fine (safe_commands a m) m
fine-safe a m r = go (open_at a m) refl
  where
    go : (o : Option ℕ) → open_at a m ≡ o → Fine (option_map_or (λ id. command.Safe id ∷ []) o []) m
    go None e = fine-none m r
    go (Some id) e =
        let o = each-get (IsOpenAt m) (open_tablets m) (a % length (open_tablets m)) id (all-open m) e in
        fine-one (command.Safe id) m (with_safe id m) r (safe-logs id m o r)

fine-action : (action : workload.Action) (a b v : ℕ) (m : Machine) → AllFit (action_commands action a b v m) → Ready m
    → Fine (action_commands action a b v m) m
fine-action workload.sets a b v m f r = fine-one (command.Put (set_op a v)) m (put_after (set_op a v) m) r (put-logs (set_op a v) m r)
fine-action workload.removes a b v m f r = fine-one (command.Put (remove_op a)) m (put_after (remove_op a) m) r (put-logs (remove_op a) m r)
fine-action workload.commits a b v m f r = fine-commit (set_op a v) (set_op b v) m r
fine-action workload.applies a b v m f r = fine-applies m r
fine-action workload.logs_safe a b v m f r = fine-safe a m r
fine-action workload.aborts a b v m f r = fine-abort (set_op a v) m f.1.0 r

fine-word : (w : ℕ) (m : Machine) → AllFit (word_commands w m) → Ready m → Fine (word_commands w m) m
unfolding word_commands
fine-word w m f r =
    fine-action (action_of (w % 16)) (w / 16 % 1000) (w / 16000 % 1000) (w / 16000000 % 1000) m f r

-- ---- splits

-- 2 to the power k
pub doubles : ℕ → ℕ
doubles zero = 1
doubles (suc k) = doubles k + doubles k

some-doubles : (k : ℕ) → 1 ≤ doubles k
unfolding doubles
some-doubles zero = omega arith
some-doubles (suc k) = let a = some-doubles k in omega arith

next-doubles : (k : ℕ) → doubles (suc k) ≡ doubles k + doubles k
unfolding doubles
next-doubles k = refl

-- the least width of a tablet where there are n
abbrev least_width : ℕ → ℕ
least_width n = doubles (17 - n)

abbrev header_width : Header → ℕ
header_width h = h.hi - h.lo + 1

abbrev Wide : ℕ → Header → Type 0
Wide n h = least_width n ≤ header_width h

-- a split halves it twice at most
least-halves : (n : ℕ) → n < 16 → least_width n ≡ 4 * least_width (n + 2)
least-halves n l =
    let k = 17 - (n + 2) in
    let e : 17 - n ≡ suc (suc k) = omega arith in
    let a = next-doubles k in
    let b = next-doubles (suc k) in
    let c = ap doubles e in omega arith

record IsWidest (m : Machine) (p : ℕ × Tablet) : Type 0 where
  at : slice_get m.tablets p.0 ≡ Some p.1
  opened : is_open p.1 ≡ true

found-widest : (m : Machine) (p : ℕ × Tablet) → widest m.tablets ≡ Some p → IsWidest m p
found-widest m p e =
    let There : ℕ × Tablet → Type 0 = λ q. slice_get m.tablets q.0 ≡ Some q.1 in
    let test : ℕ × Tablet → Bool = λ q. is_open q.1 && width q.1 == most_width m.tablets in
    let all : Each There (enumerate_from 0 m.tablets) =
    enumerated There 0 m.tablets (λ i x e. subst (λ w. slice_get m.tablets w ≡ Some x) (sym (zero-add i)) e) in
    let got = go There test (enumerate_from 0 m.tablets) all e in
    record { at = got.0; opened = (and_parts (is_open p.1) (width p.1 == most_width m.tablets) got.1).0 }
  where
    go : (There : ℕ × Tablet → Type 0) (test : ℕ × Tablet → Bool) (qs : List (ℕ × Tablet)) → Each There qs → find test qs ≡ Some p
        → There p × (test p ≡ true)
    go There test [] h e = cc
    go There test (q ∷ qs) h e =
        elim (test q) as (λ b. test q ≡ b → cond b (Some q) (find test qs) ≡ Some p → There p × (test p ≡ true)) [
          | true ↦ λ a f. let same : q ≡ p = cc in (subst There same h.0, ap test (sym same) ∙ a)
          | false ↦ λ a f. go There test qs h.1 f
        ] refl e

wide-at : (n id : ℕ) (t : Tablet) (ts : List Tablet) → Each (Wide n) (headers ts) → slice_get ts id ≡ Some t → Wide n t.header
wide-at n id t ts w e =
    each-get (Wide n) (headers ts) id t.header w
    (slice_get-map (λ (x : Tablet). x.header) ts id ∙ ap (option_map (λ (x : Tablet). x.header)) e)

good-place : (h : Header) → 2 ≤ header_width h → (nat_le (middle h) h.lo || nat_lt h.hi (middle h)) ≡ false
good-place h w =
    let low : h.lo < middle h = omega arith in
    let high : middle h ≤ h.hi = omega arith in grind (arith, nat_tests, low, high)

-- what a split leaves
record Splits (m u : Machine) : Type 0 where
  load : record_count u + waiting u ≤ record_count m + waiting m + 1
  clock : u.time + waiting u ≤ m.time + waiting m + 1
  txns : u.txns ≡ m.txns
  wide : Each (Wide (length u.tablets)) (headers u.tablets)
  few : length u.tablets ≤ 17

split-leaves : (m : Machine) (id : ℕ) (h : Header) → length m.tablets < 16 → Each (Wide (length m.tablets)) (headers m.tablets)
    → Wide (length m.tablets) h → Splits m (split_after id (middle h) m h)
split-leaves m id h l w k =
    let at = middle h in
    let rec : Record = record { time = m.time + 1; kind = kind.Split at (length m.tablets) (length m.tablets + 1) } in
    let ts = with_record id rec m.tablets in
    let one = child (length m.tablets) h.lo (at - 1) id in
    let two = child (length m.tablets + 1) at h.hi id in
    let size = size-record id rec m.tablets in
    let heads = heads-record id rec m.tablets in
    let joined = sum_by-append (λ (t : Tablet). length t.records) ts (one ∷ two ∷ []) in
    let none : records_in (one ∷ two ∷ []) ≡ 0 = refl in
    let count : length ts ≡ length m.tablets = length-record id rec m.tablets in
    let long : length (ts ++ one ∷ two ∷ []) ≡ length m.tablets + 2 =
    length-append ts (one ∷ two ∷ []) ∙ ap (λ n. n + 2) count in
    let halves = least-halves (length m.tablets) l in
    let some = some-doubles (17 - (length m.tablets + 2)) in
    let left : Wide (length m.tablets + 2) one.header = omega arith in
    let right : Wide (length m.tablets + 2) two.header = omega arith in
    let old : Each (Wide (length m.tablets + 2)) (headers m.tablets) =
    Each-weaker (Wide (length m.tablets)) (Wide (length m.tablets + 2)) (λ d x. omega arith) (headers m.tablets) w in
    let all : Each (Wide (length m.tablets + 2)) (headers (ts ++ one ∷ two ∷ [])) =
    subst (Each (Wide (length m.tablets + 2)))
    (ap (λ hs. hs ++ one.header ∷ two.header ∷ []) (sym heads) ∙ sym (map-append (λ (t : Tablet). t.header) ts (one ∷ two ∷ [])))
    (Each-append (Wide (length m.tablets + 2)) (headers m.tablets) (one.header ∷ two.header ∷ []) old (left, (right, tt))) in
    record {
      load = omega arith;
      clock = omega arith;
      txns = refl;
      wide = subst (λ n. Each (Wide n) (headers (ts ++ one ∷ two ∷ []))) (sym long) all;
      few = omega arith;
    }
  where
    length-record : (id : ℕ) (r : Record) (ts : List Tablet) → length (with_record id r ts) ≡ length ts
    length-record id r ts =
        sym (length-map (with_record id r ts) (λ (t : Tablet). t.header)) ∙ ap length (heads-record id r ts)
        ∙ length-map ts (λ (t : Tablet). t.header)

-- ---- between two steps

-- what stands after i steps
record Between (i : ℕ) (m : Machine) : Type 0 where
  kept : IsKept m
  idle : Each NotLive m.txns
  load : record_count m + waiting m ≤ 6 * i
  clock : m.time + waiting m ≤ 6 * i
  begun : length m.txns ≤ i
  wide : Each (Wide (length m.tablets)) (headers m.tablets)
  few : length m.tablets ≤ 17

-- the split before a step is answered
record IsSplit (i : ℕ) (m : Machine) (cs : List SourceCommand) : Type 0 where
  answered : AllAnswered cs m
  load : record_count (run cs m) + waiting (run cs m) ≤ 6 * i + 1
  clock : (run cs m).time + waiting (run cs m) ≤ 6 * i + 1
  txns : (run cs m).txns ≡ m.txns
  wide : Each (Wide (length (run cs m).tablets)) (headers (run cs m).tablets)
  few : length (run cs m).tablets ≤ 17

no-split : (i : ℕ) (m : Machine) → Between i m → IsSplit i m []
no-split i m b = record {
  answered = tt;
  load = let x = b.load in omega arith;
  clock = let x = b.clock in omega arith;
  txns = refl;
  wide = b.wide;
  few = b.few;
}

one-split : (i : ℕ) (m : Machine) (p : ℕ × Tablet) → i < MOST_STEPS → length m.tablets < 16 → IsWidest m p → Between i m
    → IsSplit i m (command.Split p.0 (middle p.1.header) ∷ [])
unfolding step
one-split i m p l few w b =
    let h = p.1.header in
    let at = middle h in
    let k = wide-at (length m.tablets) p.0 p.1 m.tablets b.wide w.at in
    let halves = least-halves (length m.tablets) few in
    let some = some-doubles (17 - (length m.tablets + 2)) in
    let wide_enough : 2 ≤ header_width h = omega arith in
    let room : Room m 1 = record { records = let x = b.load in omega arith; times = let x = b.clock in omega arith } in
    let opened = is-open-there m p.0 (record { t = p.1; at = w.at; opened = w.opened }) in
    let place : call.bad_place m p.0 at ≡ None =
    ap (λ o. option_map_or (λ (b : Tablet). when (nat_le at b.header.lo || nat_lt b.header.hi at) (BadPlace b.header.lo b.header.hi)) o
    None) w.at ∙ no-when _ (BadPlace h.lo h.hi) (good-place h wide_enough) in
    let tablets : call.tablets_full m ≡ None = no-when _ Full (grind (arith, nat_tests, few)) in
    let e : call.split_refusal p.0 at m ≡ None =
    none-of (call.not_open m p.0 ∷ call.bad_place m p.0 at ∷ call.tablets_full m ∷ call.full m 1 ∷ call.clock_end m 1 ∷ [])
    (opened, (place, (tablets, (not-full m 1 room, (not-ended m 1 room, tt))))) in
    let after = option_map_or (λ (b : Tablet). split_after p.0 at m b.header) (slice_get m.tablets p.0) m in
    let left : (call.split p.0 at m).1 ≡ split_after p.0 at m h =
    leaves (call.split_refusal p.0 at m) m (length m.tablets, length m.tablets + 1) after e
    ∙ ap (λ o. option_map_or (λ (b : Tablet). split_after p.0 at m b.header) o m) w.at in
    let done : Splits m (call.split p.0 at m).1 = subst (Splits m) (sym left) (split-leaves m p.0 h few b.wide k) in
    record {
      answered = (answers (call.split_refusal p.0 at m) m (length m.tablets, length m.tablets + 1) after e, tt);
      load = let x = b.load in let y = done.load in omega arith;
      clock = let x = b.clock in let y = done.clock in omega arith;
      txns = done.txns;
      wide = done.wide;
      few = done.few;
    }

split-answered : (i n : ℕ) (m : Machine) → i < MOST_STEPS → Between i m → IsSplit i m (split_commands n m)
unfolding split_commands
split-answered i n m l b = by (is_split_due n m.tablets) refl
  where
    found : length m.tablets < 16 → (o : Option (ℕ × Tablet)) → widest m.tablets ≡ o
        → IsSplit i m (option_map_or (λ p. command.Split p.0 (middle p.1.header) ∷ []) o [])
    found few None e = no-split i m b
    found few (Some p) e = one-split i m p l few (found-widest m p e) b

    by : (due : Bool) → is_split_due n m.tablets ≡ due → IsSplit i m (if due then widest_commands m.tablets else [])
    by true e = found (ltb-true _ _ (and_parts (n % 1000 == 0) (nat_lt (length m.tablets) 16) e).1) (widest m.tablets) refl
    by false e = no-split i m b

-- one step more
record IsStep (i : ℕ) (m : Machine) (cs : List SourceCommand) : Type 0 where
  answered : AllAnswered cs m
  after : Between (i + 1) (run cs m)

step-answered : (i w : ℕ) (m : Machine) → i < MOST_STEPS → Between i m → IsStep i m (step_commands (i + 1) w m)
step-answered i w m l b =
    let cs = split_commands (i + 1) m in
    let u = run cs m in
    let ws = word_commands w u in
    let v = run ws u in
    let s = split-answered i (i + 1) m l b in
    let kept_u = run-keeps (λ _ _. Unit {0}) unit-closed cs m (split-fits (i + 1) m) b.kept in
    let ready : Ready u = record {
      kept = kept_u;
      idle = subst (Each NotLive) (sym s.txns) b.idle;
      load = let x = s.load in omega arith;
      clock = let x = s.clock in omega arith;
      begun = let x = ap length s.txns in let y = b.begun in omega arith;
    } in
    let f = fine-word w u (word-fits w u) ready in
    let same : length v.tablets ≡ length u.tablets =
    sym (length-map v.tablets (λ (t : Tablet). t.header)) ∙ ap length f.little.heads ∙ length-map u.tablets (λ (t : Tablet). t.header) in
    let between : Between (i + 1) v = record {
      kept = run-keeps (λ _ _. Unit {0}) unit-closed ws u (word-fits w u) kept_u;
      idle = f.idle;
      load = let x = s.load in let y = f.little.load in omega arith;
      clock = let x = s.clock in let y = f.little.clock in omega arith;
      begun = let x = ap length s.txns in let y = b.begun in let z = f.begun in omega arith;
      wide = subst (λ n. Each (Wide n) (headers v.tablets)) (sym same)
          (subst (Each (Wide (length u.tablets))) (sym f.little.heads) s.wide);
      few = let x = s.few in omega arith;
    } in
    record {
      answered = answered-append cs ws m s.answered f.answered;
      after = subst (Between (i + 1)) (sym (run_append cs ws m)) between;
    }

finish-answered : (i : ℕ) (m : Machine) → i ≤ MOST_STEPS → Between i m → AllAnswered (command.Finish ∷ []) m
unfolding step
finish-answered i m l b =
    let roomy : RoomToApply m = record { records = let x = b.load in omega arith; times = let x = b.clock in omega arith } in
    let all = applies-pending m b.kept roomy in
    let open_count = count-numbered is_open 0 m.tablets in
    let most = count_by-le-length is_open m.tablets in
    let room : Room m (call.finish_count m) = record {
      records = let x = b.load in let y = all.taken in let z = b.few in omega arith;
      times = let x = b.clock in let y = all.taken in let z = b.few in omega arith;
    } in
    let e : call.finish_refusal m ≡ None =
    none-of (call.full m (call.finish_count m) ∷ call.clock_end m (call.finish_count m) ∷ [])
    (not-full m (call.finish_count m) room, (not-ended m (call.finish_count m) room, tt)) in
    (answers (call.finish_refusal m) m tt (call.all_safe (open_tablets m) (call.all_applied m)) e, tt)

steps-answered : (i : ℕ) (ws : List ℕ) (m : Machine) → i + length ws ≤ MOST_STEPS → Between i m → AllAnswered (commands_from (i + 1) ws m) m
steps-answered i [] m l b = finish-answered i m (let z : length {A = ℕ} [] ≡ 0 = refl in omega arith) b
steps-answered i (w ∷ ws) m l b =
    let z : length (w ∷ ws) ≡ suc (length ws) = refl in
    let cs = step_commands (i + 1) w m in
    let s = step-answered i w m (omega arith) b in
    answered-append cs (commands_from (i + 1 + 1) ws (run cs m)) m s.answered
    (steps-answered (i + 1) ws (run cs m) (omega arith) s.after)

-- ---- the whole

pub roots-fit : are_roots four_roots ≡ true
unfolding are_headers headers_fit
roots-fit = refl

begins : Between 0 (start four_roots 0)
unfolding doubles
begins = record {
  kept = record { books = root_books four_roots; base = base-start four_roots 0 roots-fit; holds_of = tt };
  idle = tt;
  load = lit≤ tt;
  clock = lit≤ tt;
  begun = lit≤ tt;
  wide = (lit≤ tt, (lit≤ tt, (lit≤ tt, (lit≤ tt, tt))));
  few = lit≤ tt;
}

pub all-answered : (number size : ℕ) → size ≤ MOST_STEPS → AllAnswered (workload.workload number size) (start four_roots 0)
unfolding workload.workload
all-answered number size l =
    steps-answered 0 (words number size) (start four_roots 0) (let z = length_words number size in omega arith) begins

pub no-refusal : NoCallIsRefused
unfolding generated
no-refusal number size l =
    answered-made 1 (workload.workload number size) (start four_roots 0) (all-answered number size l)
