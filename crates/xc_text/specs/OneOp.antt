-- What one word by itself is read as.
--     op_in op      the operation that a word has the form of, where its names are well formed
use Rattle.std.specs.Prelude.{Option, Some, None, Result, Ok, Err, if◌then◌else◌}
use Rattle.xc_record.specs.declared.record.Op.{Op}
use Rattle.xc_text.specs.declared.operations.OpFail.{OpFail}
use Rattle.xc_text.specs.declared.operations.OpFail.TheVariants.{Form, Name}
use Rattle.xc_text.specs.Lines.{op_is_named}

abbrev pub op_in : Option Op → Result Op OpFail
op_in None = Err Form
op_in (Some op) = if op_is_named op then Ok op else Err Name
