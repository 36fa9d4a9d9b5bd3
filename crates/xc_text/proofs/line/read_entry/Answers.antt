use Rattle.std.proofs.lemmas.Result.{err_from_is_err_and}
use Rattle.std.proofs.Common.{refl}
use Rattle.xc_text.proofs.LineLaws.{entry_refused, entry_number, entry_read}
use Rattle.xc_text.proofs.line.read_entry.Goals as goal

pub returns-in_err-tablet_in-in-Ok-clause-line : goal.returns-in_err-tablet_in-in-Ok-clause-line
returns-in_err-tablet_in-in-Ok-clause-line c =
    let p = err_from_is_err_and c.from_residual-in_err-tablet_in-in-Ok.result c.from_residual-in_err-tablet_in-in-Ok.ensures.1 in rw
    (p.1, p.2, c.in_err-tablet_in-in-Ok.ensures.0)
    (entry_number c.args.version c.args.id c.args.words c.number.new.self c.in_ok-time.time c.in-Ok.kind c.in_ok-time.ensures
    c.in-Ok.ensures.kind (rw c.in_err-tablet_in-in-Ok.ensures.1 refl))

pub returns-in_err-time_in-in-Ok-clause-line : goal.returns-in_err-time_in-in-Ok-clause-line
returns-in_err-time_in-in-Ok-clause-line c =
    let p = err_from_is_err_and c.from_residual-in_err-time_in-in-Ok.result c.from_residual-in_err-time_in-in-Ok.ensures.1 in rw
    (p.1, p.2, c.in_err-time_in-in-Ok.ensures.0)
    (entry_number c.args.version c.args.id c.args.words c.number.new.self c.in_ok-time.time c.in-Ok.kind c.in_ok-time.ensures
    c.in-Ok.ensures.kind (rw (c.in_ok-tablet_in-in-Ok.ensures.1, c.in_err-time_in-in-Ok.ensures.1) refl))

pub returns-in-Err-clause-line : goal.returns-in-Err-clause-line
returns-in-Err-clause-line c =
    rw (c.after_numbers.ensures, c.numbers_fit.ensures)
    (entry_refused c.args.version c.args.id c.args.words c.number.new.self c.in_ok-time.time _ c.in_ok-time.ensures c.in-Err.ensures.kind)

pub returns-in_ok-time_in-in-Ok-clause-line : goal.returns-in_ok-time_in-in-Ok-clause-line
returns-in_ok-time_in-in-Ok-clause-line c =
    rw (c.in_ok-tablet_in-in-Ok.ensures.0, c.in_ok-time_in-in-Ok.ensures.0)
    (entry_read c.args.version c.args.id c.args.words c.number.new.self c.in_ok-time.time c.in-Ok.kind c.in_ok-time.ensures
    c.in-Ok.ensures.kind (rw (c.in_ok-tablet_in-in-Ok.ensures.1, c.in_ok-time_in-in-Ok.ensures.1) refl))
