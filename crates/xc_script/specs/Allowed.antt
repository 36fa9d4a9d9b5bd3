-- What a script may ask.
--     IsAllowed sources targets command      its numbers are within their ranges, and its tablets are there
--     IsScript sources script      its bounds, its keys and its commands are as they may be, and it isn't too long
use Rattle.std.specs.Prelude.{◌≡◌, ℕ, ◌+◌, ◌^◌, ◌<◌, ◌≤◌, true, List, [], ◌∷◌, length, count_by}
use Rattle.std.specs.List.{AllByRecursion, list_all}
use Rattle.xc_base.specs.Names.{is_key}
use Rattle.xc_base.specs.declared.limits.TheConstants.{MOST_TABLETS, MOST_RECORDS, WATCHED_KEYS, MOST_SCANS, MOST_DRAINS, SCRIPT_LINES}
use Rattle.xc_record.specs.Bounds.{are_bounds}
use Rattle.xc_record.specs.declared.session.Command.{Command}
use Rattle.xc_record.specs.declared.session.Command.TheVariants.{Poll, Stop, Ack, Restart, Read, ReadAt, Prune}
use Rattle.xc_script.specs.declared.script.Script.{Script}
use Rattle.xc_script.specs.ScriptText.{is_scan, is_drain}

-- a source tablet
pub record IsSource (sources id : ℕ) : Type 0 where
  pub known : id < sources
  pub small : id < MOST_TABLETS

-- a poll of up to n records of a source tablet
pub record IsPoll (sources id n : ℕ) : Type 0 where
  pub source : IsSource sources id
  pub least : 1 ≤ n
  pub most : n ≤ MOST_RECORDS

-- a poll that stops after the target tablets 0 to last
pub record IsStop (sources targets id n last : ℕ) : Type 0 where
  pub poll : IsPoll sources id n
  pub known : last < targets

-- a read of a key at a time
pub record IsReadAt (u : ℕ) (key : List ℕ) : Type 0 where
  pub time : u < 2 ^ 62
  pub named : is_key key ≡ true

abbrev pub IsAllowed : ℕ → ℕ → Command → Type 0
IsAllowed sources targets (Poll id n) = IsPoll sources id n
IsAllowed sources targets (Stop id n last) = IsStop sources targets id n last
IsAllowed sources targets (Ack id) = IsSource sources id
IsAllowed sources targets (Restart id) = IsSource sources id
IsAllowed sources targets (Read key) = is_key key ≡ true
IsAllowed sources targets (ReadAt u key) = IsReadAt u key
IsAllowed sources targets (Prune u) = u < 2 ^ 62
IsAllowed sources targets _ = Unit {0}

-- how many lines name watched keys
abbrev pub watch_lines : List (List ℕ) → ℕ
watch_lines [] = 0
watch_lines (key ∷ keys) = 1

-- the first line, the bounds, the watched keys, the commands and the last line
abbrev pub lines_in : Script → ℕ
lines_in script = watch_lines script.watched + length script.commands + 3

pub record IsScript (sources : ℕ) (script : Script) : Type 0 where
  pub bounds : are_bounds script.bounds ≡ true
  pub watched : length script.watched ≤ WATCHED_KEYS
  pub named : list_all is_key script.watched ≡ true
  pub commands : AllByRecursion (IsAllowed sources (length script.bounds)) script.commands
  pub scans : count_by is_scan script.commands ≤ MOST_SCANS
  pub drains : count_by is_drain script.commands ≤ MOST_DRAINS
  pub lines : lines_in script ≤ SCRIPT_LINES
