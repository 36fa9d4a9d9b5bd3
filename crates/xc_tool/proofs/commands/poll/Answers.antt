use Rattle.std.proofs.Common.{refl}
use Rattle.std.proofs.lemmas.Option.{IfSome_then}
use Rattle.xc_record.specs.declared.session.PollAnswer.TheVariants as poll
use Rattle.xc_tool.proofs.StepLines.{poll-line, poll-closed}
use Rattle.xc_tool.proofs.commands.poll.Goals as goal

pub returns-in-Ok-Polled-clause-step : goal.returns-in-Ok-Polled-clause-step
returns-in-Ok-Polled-clause-step g c =
    IfSome_then (g.F.Feed.logs c.args.feed.now) c.in-Ok-Polled.ensures.step
    (λ logs f m is st. poll-line logs m c.args.id c.args.n c.in-Ok-Polled.field-0 (poll.Polled c.in-Ok-Polled.count) _ _
    c.in-Ok-Polled.field-0-is refl (f m is st))

pub returns-in-Ok-Waits-clause-step : goal.returns-in-Ok-Waits-clause-step
returns-in-Ok-Waits-clause-step g c =
    IfSome_then (g.F.Feed.logs c.args.feed.now) c.in-Ok-Waits.ensures.step
    (λ logs f m is st. poll-line logs m c.args.id c.args.n c.in-Ok-Waits.field-0 (poll.Waits c.in-Ok-Waits.parent) _ _
    c.in-Ok-Waits.field-0-is refl (f m is st))

pub returns-in-Ok-AtEnd-clause-step : goal.returns-in-Ok-AtEnd-clause-step
returns-in-Ok-AtEnd-clause-step g c =
    IfSome_then (g.F.Feed.logs c.args.feed.now) c.in-Ok-AtEnd.ensures.step
    (λ logs f m is st. poll-line logs m c.args.id c.args.n c.in-Ok-AtEnd.field-0 poll.AtEnd _ _ c.in-Ok-AtEnd.field-0-is refl
    (f m is st))

pub returns-in-Ok-Halted-clause-step : goal.returns-in-Ok-Halted-clause-step
returns-in-Ok-Halted-clause-step g c =
    IfSome_then (g.F.Feed.logs c.args.feed.now) c.in-Ok-Halted.ensures.step
    (λ logs f m is st. poll-line logs m c.args.id c.args.n c.in-Ok-Halted.field-0
    (poll.Halted c.in-Ok-Halted.number c.in-Ok-Halted.kind) _ _ c.in-Ok-Halted.field-0-is refl (f m is st))

pub returns-in-Err-Closed-clause-step : goal.returns-in-Err-Closed-clause-step
returns-in-Err-Closed-clause-step g c =
    IfSome_then (g.F.Feed.logs c.args.feed.now) c.in-Err-Closed.ensures.step
    (λ logs f m is st. poll-closed logs m c.args.id c.args.n c.in-Err-Closed.t c.in-Err-Closed.field-0 _ c.in-Err-Closed.field-0-is
    (f m is st))
