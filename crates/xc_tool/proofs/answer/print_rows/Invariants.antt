use Rattle.std.proofs.Common.{◌≡◌, ◌++◌, drop, map}
use Rattle.xc_script.specs.Lines.{lines_text}
use Rattle.xc_tool.specs.Answers.{row_line}
use Rattle.xc_tool.proofs.answer.print_rows.Given as goal

-- what was printed and what the rest of the rows say are all that they say
abbrev pub invariant-loop-row : goal.invariant-loop-row
invariant-loop-row l =
    record { on : l.text ++ lines_text (map row_line (drop l.row-index l.rows)) ≡ l.fn.text ++ lines_text (map row_line l.rows) }
