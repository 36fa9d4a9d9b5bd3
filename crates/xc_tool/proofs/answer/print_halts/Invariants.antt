use Rattle.std.proofs.Common.{◌≡◌, ◌++◌, ◌∷◌, drop, map}
use Rattle.xc_record.specs.declared.session.Line.TheVariants as line
use Rattle.xc_script.specs.Lines.{lines_text}
use Rattle.xc_tool.specs.Answers.{halt_line}
use Rattle.xc_tool.proofs.answer.print_halts.Given as goal

-- what was printed and what the rest of the halts say are all that they say
abbrev pub invariant-loop-halt : goal.invariant-loop-halt
invariant-loop-halt l =
    record {
      on : l.text ++ lines_text (map halt_line (drop l.halt-index l.halts)) ≡ l.fn.text ++ lines_text
          (line.Drain l.t ∷ map halt_line l.halts);
    }
