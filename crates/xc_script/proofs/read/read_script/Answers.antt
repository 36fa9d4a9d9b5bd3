use Rattle.std.specs.Prelude.{ℕ, List, Result, Ok, Err, IfOk}
use Rattle.xc_script.specs.declared.kind.ScriptFail.{ScriptFail}
use Rattle.xc_script.specs.declared.script.Script.{Script}
use Rattle.xc_script.specs.ScriptText.{Reads, script_of}
use Rattle.xc_script.specs.Allowed.{IsScript}
use Rattle.xc_script.proofs.AllowedLaws.{script_allowed}
use Rattle.xc_script.proofs.read.read_script.Goals as goal

read_allowed : (sources : ℕ) (text : List ℕ) (r : Result Script ScriptFail) → Reads r (script_of sources text)
    → IfOk r (λ script. IsScript sources script)
read_allowed sources text (Ok script) is = script_allowed sources text script is
read_allowed sources text (Err e) is = tt

pub returns-clause-allowed : goal.returns-clause-allowed
returns-clause-allowed c = read_allowed c.args.sources c.args.text.now c.read_lines.result c.read_lines.ensures
