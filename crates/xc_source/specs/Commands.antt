-- Lists of source commands.
--     step command m      the refusal of the command, if it is refused, and the machine after it
--     run commands m      the machine after all of them, refused ones too
--     made_from number commands m      the machine after all of them, or the number and the refusal of the first that is refused
use Rattle.std.specs.Prelude.{ℕ, ◌+◌, List, [], ◌∷◌, Option, Some, None, Result, Ok, Err}
use Rattle.xc_source.specs.declared.command.SourceCommand.{SourceCommand}
use Rattle.xc_source.specs.declared.command.SourceCommand.TheVariants as command
use Rattle.xc_source.specs.declared.fail.SourceFail.{SourceFail}
use Rattle.xc_source.specs.Machine.{Machine}
use Rattle.xc_source.specs.Calls as call
use Rattle.xc_source.specs.Calls.{Case}

abbrev pub refusal_of : {X : Type 0} → Result X SourceFail → Option SourceFail
refusal_of (Ok answer) = None
refusal_of (Err fail) = Some fail

abbrev pub only_refusal : {X : Type 0} → Case X → Option SourceFail × Machine
only_refusal c = (refusal_of c.0, c.1)

unfoldable pub step : SourceCommand → Machine → Option SourceFail × Machine
step command.Begin m = only_refusal (call.begin m)
step (command.Write txn op) m = only_refusal (call.write txn op m)
step (command.Put op) m = only_refusal (call.put op m)
step (command.Commit txn) m = only_refusal (call.commit txn m)
step (command.Abort txn) m = only_refusal (call.abort txn m)
step (command.Apply txn id) m = only_refusal (call.apply txn id m)
step (command.Safe id) m = only_refusal (call.safe id m)
step (command.Split id at) m = only_refusal (call.split id at m)
step (command.Tick to) m = only_refusal (call.tick to m)
step command.Finish m = only_refusal (call.finish m)
step (command.Savepoint txn) m = only_refusal (call.savepoint txn m)
step (command.Rollback txn sub) m = only_refusal (call.roll_back txn sub m)

abbrev pub run : List SourceCommand → Machine → Machine
run [] m = m
run (c ∷ cs) m = run cs (step c m).1

abbrev pub made_after : ℕ → Option SourceFail → Result Machine (ℕ × SourceFail) → Result Machine (ℕ × SourceFail)
made_after number None made = made
made_after number (Some fail) made = Err (number, fail)

abbrev pub made_from : ℕ → List SourceCommand → Machine → Result Machine (ℕ × SourceFail)
made_from number [] m = Ok m
made_from number (c ∷ cs) m = made_after number (step c m).0 (made_from (number + 1) cs (step c m).1)
