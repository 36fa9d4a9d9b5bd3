use Rattle.std.proofs.Common.{refl}
use Rattle.std.proofs.lemmas.Result.{err_from_is_err_and}
use Rattle.xc_text.proofs.LineLaws.{is_apply, apply_refused, apply_number, apply_read}
use Rattle.xc_text.proofs.record_line.read_apply.Goals as goal

pub returns-in_err-without : goal.returns-in_err-without
returns-in_err-without c =
    let p = err_from_is_err_and c.from_residual-in_err-without.result c.from_residual-in_err-without.ensures.1 in
    rw (p.1, p.2)
    (apply_refused c.args.words _ _ _ _ (is_apply _ _ _ _ _ c.in_ok-txn.ensures c.in_ok-commit.ensures) c.in_err-without.ensures)

pub returns-in_err-transaction_in : goal.returns-in_err-transaction_in
returns-in_err-transaction_in c =
    let p = err_from_is_err_and c.from_residual-in_err-transaction_in.result c.from_residual-in_err-transaction_in.ensures.1 in
    rw (p.1, p.2, c.in_err-transaction_in.ensures.0)
    (apply_number c.args.words _ _ _ _ (is_apply _ _ _ _ _ c.in_ok-txn.ensures c.in_ok-commit.ensures) c.in_ok-without.ensures
    (rw c.in_err-transaction_in.ensures.1 refl))

pub returns-in_err-time_in : goal.returns-in_err-time_in
returns-in_err-time_in c =
    let p = err_from_is_err_and c.from_residual-in_err-time_in.result c.from_residual-in_err-time_in.ensures.1 in
    rw (p.1, p.2, c.in_err-time_in.ensures.0)
    (apply_number c.args.words _ _ _ _ (is_apply _ _ _ _ _ c.in_ok-txn.ensures c.in_ok-commit.ensures) c.in_ok-without.ensures
    (rw (c.in_ok-transaction_in.ensures.1, c.in_err-time_in.ensures.1) refl))

pub returns : goal.returns
returns c =
    rw (c.in_ok-transaction_in.ensures.0, c.in_ok-time_in.ensures.0)
    (apply_read c.args.words _ _ _ _ (is_apply _ _ _ _ _ c.in_ok-txn.ensures c.in_ok-commit.ensures) c.in_ok-without.ensures
    c.in_ok-transaction_in.ensures.1 c.in_ok-time_in.ensures.1)
