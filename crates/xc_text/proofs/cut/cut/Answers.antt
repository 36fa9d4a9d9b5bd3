use Rattle.std.proofs.Common.{◌==◌, sym, arith}
use Rattle.xc_text.proofs.CutLaws.{cut_pieces, cut_none, any_found, none_found}
use Rattle.xc_text.proofs.cut.cut.Goals as goal

pub returns-then-place-bytes-clause-pieces : goal.returns-then-place-bytes-clause-pieces
returns-then-place-bytes-clause-pieces c = cut_pieces _ _ _ c.first_place-place.ensures c.if-place-bytes.true

pub returns-then-place-bytes-clause-found : goal.returns-then-place-bytes-clause-found
returns-then-place-bytes-clause-found c =
    sym (any_found (λ b. b == c.args.separator) c.args.bytes.now
    (let e = c.first_place-place.ensures in let h = c.if-place-bytes.true in omega arith))

pub returns-else-place-bytes-clause-pieces : goal.returns-else-place-bytes-clause-pieces
returns-else-place-bytes-clause-pieces c =
    cut_none c.args.separator c.args.bytes.now (let e = c.first_place-place.ensures in let h = c.if-place-bytes.false in omega arith)

pub returns-else-place-bytes-clause-found : goal.returns-else-place-bytes-clause-found
returns-else-place-bytes-clause-found c =
    sym (none_found (λ b. b == c.args.separator) c.args.bytes.now
    (let e = c.first_place-place.ensures in let h = c.if-place-bytes.false in omega arith))
