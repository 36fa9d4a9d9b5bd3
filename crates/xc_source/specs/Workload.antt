-- The generated workload: the commands that a number and a size make for a source of four tablets.
--     words number size      the words drawn, one for each step
--     word_commands w m      what a word does at the machine m
--     split_commands i m      the split before the word of step i, where one is due
--     workload number size      all the commands, a finish last
--     generated number size      the machine after them
use Rattle.std.specs.Prelude.{ℕ, ◌+◌, ◌-◌, ◌/◌, ◌%◌, max, Bool, ◌&&◌, ◌==◌, nat_le, nat_lt, List, [], ◌∷◌, ◌++◌, Option, Some, None}
use Rattle.std.specs.Prelude.{if◌then◌else◌, length, map, filter, find, fold, slice_get, codes, decimal}
use Rattle.std.specs.Int.{w64, from_le_bytes, to_le_bytes}
use Rattle.std.specs.List.{enumerate_from}
use Rattle.std.specs.Option.{option_map_or}
use Rattle.rand_core.specs.Steps.{first_words}
use Rattle.rand_xoshiro.specs.SplitMix64.{mix_u64}
use Rattle.xc_record.specs.declared.record.Header.{Header}
use Rattle.xc_record.specs.declared.record.Op.{Op}
use Rattle.xc_record.specs.declared.record.Tablet.{Tablet}
use Rattle.xc_source.specs.declared.command.SourceCommand.{SourceCommand}
use Rattle.xc_source.specs.declared.command.SourceCommand.TheVariants as command
use Rattle.xc_source.specs.Machine.{Machine, start, is_open}
use Rattle.xc_source.specs.Waiting.{open_tablets, pending}
use Rattle.xc_source.specs.Commands.{run}

abbrev pub root : ℕ → ℕ → ℕ → Header
root id lo hi = record { id = id; lo = lo; hi = hi; parent = None }

-- what the source starts with, at time 0
abbrev pub four_roots : List Header
four_roots = root 0 0 16383 ∷ root 1 16384 32767 ∷ root 2 32768 49151 ∷ root 3 49152 65535 ∷ []

-- the first words of SplitMix64, seeded with the bytes of the number, least significant first
abbrev pub words : ℕ → ℕ → List ℕ
words number size = first_words mix_u64 size (from_le_bytes w64 (to_le_bytes w64 number))

-- ---- what a word does

-- the key of a number is `k` and its digits
abbrev pub key_of : ℕ → List ℕ
key_of n = codes "k" ++ decimal n

abbrev pub set_op : ℕ → ℕ → Op
set_op n v = record { key = key_of n; value = Some (decimal v) }

abbrev pub remove_op : ℕ → Op
remove_op n = record { key = key_of n; value = None }

-- the number of the next transaction
abbrev pub next_txn : Machine → ℕ
next_txn m = length m.txns + 1

-- a transaction of two writes, which commits
abbrev pub commit_commands : Op → Op → Machine → List SourceCommand
commit_commands one two m =
    command.Begin ∷ command.Write (next_txn m) one ∷ command.Write (next_txn m) two ∷ command.Commit (next_txn m) ∷ []

-- a transaction of one write, which aborts
abbrev pub abort_commands : Op → Machine → List SourceCommand
abort_commands op m = command.Begin ∷ command.Write (next_txn m) op ∷ command.Abort (next_txn m) ∷ []

abbrev pub apply_command : ℕ × ℕ → SourceCommand
apply_command p = command.Apply p.0 p.1

-- all that committed transactions have waiting, by transaction and tablet
abbrev pub apply_commands : Machine → List SourceCommand
apply_commands m = map apply_command (pending m)

-- the open tablet at this position, counted from 0 by number and round again
abbrev pub open_at : ℕ → Machine → Option ℕ
open_at n m = slice_get (open_tablets m) (n % length (open_tablets m))

abbrev pub safe_commands : ℕ → Machine → List SourceCommand
safe_commands n m = option_map_or (λ id. command.Safe id ∷ []) (open_at n m) []

pub data Action : Type 0 where
  sets : Action
  removes : Action
  commits : Action
  applies : Action
  logs_safe : Action
  aborts : Action

abbrev pub action_of : ℕ → Action
action_of c =
    if nat_le c 5 then sets
    else (if c == 6 then removes
    else (if nat_le c 12 then commits
    else (if c == 13 then applies
    else (if c == 14 then logs_safe else aborts))))

-- what an action does with the numbers a and b of keys and the number v of a value
abbrev pub action_commands : Action → ℕ → ℕ → ℕ → Machine → List SourceCommand
action_commands sets a b v m = command.Put (set_op a v) ∷ []
action_commands removes a b v m = command.Put (remove_op a) ∷ []
action_commands commits a b v m = commit_commands (set_op a v) (set_op b v) m
action_commands applies a b v m = apply_commands m
action_commands logs_safe a b v m = safe_commands a m
action_commands aborts a b v m = abort_commands (set_op a v) m

unfoldable pub word_commands : ℕ → Machine → List SourceCommand
word_commands w m =
    action_commands (action_of (w % 16)) (w / 16 % 1000) (w / 16000 % 1000) (w / 16000000 % 1000) m

-- ---- splits

-- how many hashes a tablet has
abbrev pub width : Tablet → ℕ
width t = t.header.hi - t.header.lo + 1

-- the width of the widest open tablet
abbrev pub most_width : List Tablet → ℕ
most_width ts = fold (λ most n. max most n) 0 (map width (filter is_open ts))

-- the widest open tablet, of these the one of the least number, with its number
abbrev pub widest : List Tablet → Option (ℕ × Tablet)
widest ts = find (λ p. is_open p.1 && width p.1 == most_width ts) (enumerate_from 0 ts)

-- where the upper half of its hashes begins
abbrev pub middle : Header → ℕ
middle h = h.lo + (h.hi - h.lo + 1) / 2

abbrev pub widest_commands : List Tablet → List SourceCommand
widest_commands ts = option_map_or (λ p. command.Split p.0 (middle p.1.header) ∷ []) (widest ts) []

-- every 1000 steps, while there are fewer than 16 tablets
abbrev pub is_split_due : ℕ → List Tablet → Bool
is_split_due i ts = i % 1000 == 0 && nat_lt (length ts) 16

unfoldable pub split_commands : ℕ → Machine → List SourceCommand
split_commands i m = if is_split_due i m.tablets then widest_commands m.tablets else []

-- ---- all steps

-- step i draws the word w
abbrev pub step_commands : ℕ → ℕ → Machine → List SourceCommand
step_commands i w m = let split = split_commands i m in split ++ word_commands w (run split m)

-- the steps from i on, which draw these words, and a finish
abbrev pub commands_from : ℕ → List ℕ → Machine → List SourceCommand
commands_from i [] m = command.Finish ∷ []
commands_from i (w ∷ ws) m = let cs = step_commands i w m in cs ++ commands_from (i + 1) ws (run cs m)

unfoldable pub workload : ℕ → ℕ → List SourceCommand
workload number size = commands_from 1 (words number size) (start four_roots 0)

unfoldable pub generated : ℕ → ℕ → Machine
generated number size = run (workload number size) (start four_roots 0)
