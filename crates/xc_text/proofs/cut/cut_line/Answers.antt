use Rattle.xc_text.proofs.CutLaws.{cut_pieces, cut_none, found_first, found_none}
use Rattle.std.proofs.Common.{arith}
use Rattle.xc_text.proofs.cut.cut_line.Goals as goal

pub returns-in-Some-clause-pieces : goal.returns-in-Some-clause-pieces
returns-in-Some-clause-pieces c =
    cut_pieces 10 c.args.text.now c.in-Some.end (found_first 10 c.args.text.now c.in-Some.end c.in-Some.ensures)
    (let h = c.in-Some.ensures.0.high in omega (arith, h))

pub returns-in-None-clause-pieces : goal.returns-in-None-clause-pieces
returns-in-None-clause-pieces c = cut_none 10 c.args.text.now (let e = found_none 10 c.args.text.now c.in-None.ensures in omega arith)
