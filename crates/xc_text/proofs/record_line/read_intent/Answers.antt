use Rattle.std.proofs.Common.{refl}
use Rattle.std.proofs.lemmas.Result.{err_from_is_err_and}
use Rattle.xc_text.proofs.LineLaws.{is_intent, intent_refused, intent_number, intent_read}
use Rattle.xc_text.proofs.record_line.read_intent.Goals as goal

pub returns-in-Err-clause-kind : goal.returns-in-Err-clause-kind
returns-in-Err-clause-kind c =
    rw (c.after_numbers.ensures, c.numbers_fit.ensures)
    (intent_refused c.args.version c.args.words _ _ _ _ (is_intent _ _ _ _ _ c.in_ok-txn.ensures c.in_ok-sub.ensures) c.in-Err.ensures.ops)

pub returns-in_err-transaction_in-in-Ok-clause-kind : goal.returns-in_err-transaction_in-in-Ok-clause-kind
returns-in_err-transaction_in-in-Ok-clause-kind c =
    let p = err_from_is_err_and c.from_residual-in_err-transaction_in-in-Ok.result c.from_residual-in_err-transaction_in-in-Ok.ensures.1 in
    rw (p.1, p.2, c.in_err-transaction_in-in-Ok.ensures.0)
    (intent_number c.args.version c.args.words _ _ _ _ (is_intent _ _ _ _ _ c.in_ok-txn.ensures c.in_ok-sub.ensures) c.in-Ok.ensures.ops
    (rw c.in_err-transaction_in-in-Ok.ensures.1 refl))

pub returns-in_err-sub_in-in-Ok-clause-kind : goal.returns-in_err-sub_in-in-Ok-clause-kind
returns-in_err-sub_in-in-Ok-clause-kind c =
    let p = err_from_is_err_and c.from_residual-in_err-sub_in-in-Ok.result c.from_residual-in_err-sub_in-in-Ok.ensures.1 in
    rw (p.1, p.2, c.in_err-sub_in-in-Ok.ensures.0)
    (intent_number c.args.version c.args.words _ _ _ _ (is_intent _ _ _ _ _ c.in_ok-txn.ensures c.in_ok-sub.ensures) c.in-Ok.ensures.ops
    (rw (c.in_ok-transaction_in-in-Ok.ensures.1, c.in_err-sub_in-in-Ok.ensures.1) refl))

pub returns-in_ok-clone_in-in-Ok-clause-kind : goal.returns-in_ok-clone_in-in-Ok-clause-kind
returns-in_ok-clone_in-in-Ok-clause-kind c =
    rw (c.in_ok-transaction_in-in-Ok.ensures.0, c.in_ok-sub_in-in-Ok.ensures.0, c.in_ok-clone_in-in-Ok.ensures)
    (intent_read c.args.version c.args.words _ _ _ _ (is_intent _ _ _ _ _ c.in_ok-txn.ensures c.in_ok-sub.ensures) c.in-Ok.ensures.ops
    c.in_ok-transaction_in-in-Ok.ensures.1 c.in_ok-sub_in-in-Ok.ensures.1)
