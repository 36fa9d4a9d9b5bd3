use Rattle.xc_tool.proofs.StepLines.{read-at-line, read-early, read-late}
use Rattle.xc_tool.proofs.commands.read_at.Goals as goal

pub returns-in-Ok : goal.returns-in-Ok
returns-in-Ok c =
    λ logs m is st agree.
    read-at-line logs m c.args.u c.args.key.now _ _ (c.in-Ok.ensures.shows logs m is st agree) st

pub returns-in-Err-Ahead : goal.returns-in-Err-Ahead
returns-in-Err-Ahead c =
    λ logs m is st agree. read-early logs m c.args.u c.in-Err-Ahead.safe c.args.key.now c.in-Err-Ahead.field-0 _ c.in-Err-Ahead.field-0-is
    (c.in-Err-Ahead.ensures.refuses logs m is st) st

pub returns-in-Err-Pruned : goal.returns-in-Err-Pruned
returns-in-Err-Pruned c =
    λ logs m is st agree. read-late logs m c.args.u c.in-Err-Pruned.cutoff c.args.key.now c.in-Err-Pruned.field-0 _
    c.in-Err-Pruned.field-0-is (c.in-Err-Pruned.ensures.refuses logs m is st) st
