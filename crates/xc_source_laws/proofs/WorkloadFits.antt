-- Every command of a generated workload fits.
use Rattle.std.proofs.Common.{ℕ, ◌+◌, ◌<◌, true, false, Bool, List, [], ◌∷◌, ◌++◌, None, refl, arith}
use Rattle.std.specs.Prelude.{◌%◌, ◌/◌, map, if◌then◌else◌, Option, Some}
use Rattle.std.specs.List.{AllByRecursion}
use Rattle.std.specs.Option.{option_map_or}
use Rattle.std.proofs.lemmas.Bool.{and_from}
use Rattle.xc_record.specs.declared.record.Tablet.{Tablet}
use Rattle.xc_source.specs.declared.command.SourceCommand.{SourceCommand}
use Rattle.xc_source.specs.declared.command.SourceCommand.TheVariants as command
use Rattle.xc_source.specs.Commands.{run}
use Rattle.xc_source.specs.Machine.{Machine, start}
use Rattle.xc_source.specs.Workload as workload
use Rattle.xc_source.specs.Workload.{four_roots, set_op, remove_op}
use Rattle.xc_source.proofs.WorkloadLaws.{is_key_of, is_value_of}
use Rattle.xc_source_laws.specs.Laws.{CommandFits, OpFits}

abbrev pub AllFit : List SourceCommand → Type 0
AllFit cs = AllByRecursion CommandFits cs

both-fit : (xs ys : List SourceCommand) → AllFit xs → AllFit ys → AllFit (xs ++ ys)
both-fit [] ys f g = g
both-fit (x ∷ xs) ys f g = (f.0, both-fit xs ys f.1 g)

set-fits : (a v : ℕ) → a < 1000 → v < 1000 → OpFits (set_op a v)
set-fits a v s t = and_from _ _ (is_key_of a (omega arith)) (is_value_of v (omega arith))

remove-fits : (a : ℕ) → a < 1000 → OpFits (remove_op a)
remove-fits a s = and_from _ _ (is_key_of a (omega arith)) refl

applies-fit : (ps : List (ℕ × ℕ)) → AllFit (map workload.apply_command ps)
applies-fit [] = tt
applies-fit (p ∷ ps) = (tt, applies-fit ps)

safe-fits : (o : Option ℕ) → AllFit (option_map_or (λ id. command.Safe id ∷ []) o [])
safe-fits None = tt
safe-fits (Some id) = (tt, tt)

action-fits : (action : workload.Action) (a b v : ℕ) (m : Machine) → a < 1000 → b < 1000 → v < 1000
    → AllFit (workload.action_commands action a b v m)
action-fits workload.sets a b v m s t u = (set-fits a v s u, tt)
action-fits workload.removes a b v m s t u = (remove-fits a s, tt)
action-fits workload.commits a b v m s t u = (tt, (set-fits a v s u, (set-fits b v t u, (tt, tt))))
action-fits workload.applies a b v m s t u = applies-fit _
action-fits workload.logs_safe a b v m s t u = safe-fits (workload.open_at a m)
action-fits workload.aborts a b v m s t u = (tt, (set-fits a v s u, (tt, tt)))

pub word-fits : (w : ℕ) (m : Machine) → AllFit (workload.word_commands w m)
unfolding workload.word_commands
word-fits w m =
    action-fits (workload.action_of (w % 16)) (w / 16 % 1000) (w / 16000 % 1000) (w / 16000000 % 1000) m (omega arith) (omega arith)
    (omega arith)

pub split-fits : (i : ℕ) (m : Machine) → AllFit (workload.split_commands i m)
unfolding workload.split_commands
split-fits i m = by (workload.is_split_due i m.tablets) (workload.widest m.tablets)
  where
    by : (due : Bool) (found : Option (ℕ × Tablet))
        → AllFit (if due then option_map_or (λ p. command.Split p.0 (workload.middle p.1.header) ∷ []) found [] else [])
    by true None = tt
    by true (Some p) = (tt, tt)
    by false found = tt

all-fit : (i : ℕ) (ws : List ℕ) (m : Machine) → AllFit (workload.commands_from i ws m)
all-fit i [] m = (tt, tt)
all-fit i (w ∷ ws) m =
    let split = workload.split_commands i m in
    let cs = workload.step_commands i w m in
    both-fit cs (workload.commands_from (i + 1) ws (run cs m))
    (both-fit split (workload.word_commands w (run split m)) (split-fits i m) (word-fits w (run split m)))
    (all-fit (i + 1) ws (run cs m))

pub workload-fits : (number size : ℕ) → AllFit (workload.workload number size)
unfolding workload.workload
workload-fits number size = all-fit 1 (workload.words number size) (start four_roots 0)
