use Rattle.std.specs.Prelude.{ℕ, List, Result, Ok, Err, IfOk}
use Rattle.xc_source_script.specs.declared.kind.SourceScriptFail.{SourceScriptFail}
use Rattle.xc_source_script.specs.declared.script.SourceScript.{SourceScript}
use Rattle.xc_source_script.specs.SourceText.{Reads, source_of}
use Rattle.xc_source_script.specs.Allowed.{IsSourceScript}
use Rattle.xc_source_script.proofs.AllowedLaws.{script_allowed}
use Rattle.xc_source_script.proofs.read.read_source.Goals as goal

read_allowed : (text : List ℕ) (r : Result SourceScript SourceScriptFail) → Reads r (source_of text)
    → IfOk r (λ script. IsSourceScript script)
read_allowed text (Ok script) is = script_allowed text script is
read_allowed text (Err e) is = tt

pub returns-clause-allowed : goal.returns-clause-allowed
returns-clause-allowed c = read_allowed c.args.text.now c.read_lines.result c.read_lines.ensures
