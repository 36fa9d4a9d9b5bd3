use Rattle.std.proofs.Common.{◌≡◌, ◌++◌, ◌∷◌, [], drop}
use Rattle.xc_script.proofs.WordLists.{texts}
use Rattle.xc_script.specs.LineText.{lines_from}
use Rattle.xc_source_script.specs.SourceText.{begun, rules}
use Rattle.xc_source_script.proofs.AllowedLaws.{IsReading}
use Rattle.xc_source_script.proofs.read.read_pieces.Given as goal

abbrev pub invariant-loop-line : goal.invariant-loop-line
invariant-loop-line l =
    (lines_from rules l.reading (texts (drop l.line-index l.lines) ++ l.fn.rest ∷ []) ≡ lines_from rules begun
    (texts l.lines ++ l.fn.rest ∷ []))
    × IsReading l.reading
