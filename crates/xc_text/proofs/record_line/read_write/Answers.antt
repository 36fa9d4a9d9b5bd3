use Rattle.std.proofs.lemmas.Result.{err_from_is_err_and}
use Rattle.xc_text.proofs.LineLaws.{write_refused, write_read}
use Rattle.xc_text.proofs.record_line.read_write.Goals as goal

pub returns-in_err-read_ops-clause-kind : goal.returns-in_err-read_ops-clause-kind
returns-in_err-read_ops-clause-kind c =
    let p = err_from_is_err_and c.from_residual.result c.from_residual.ensures.1 in rw (p.1, p.2)
    (write_refused c.args.version c.args.words _ c.in_err-read_ops.ensures.ops)

pub returns-clause-kind : goal.returns-clause-kind
returns-clause-kind c = rw c.in_ok-clone_in.ensures (write_read c.args.version c.args.words _ c.in_ok-read_ops.ensures.ops)
