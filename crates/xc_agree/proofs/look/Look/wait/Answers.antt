use Rattle.std.proofs.Common.{◌<◌, length, refl, arith}
use Rattle.std.specs.Prelude.{Some}
use Rattle.std.specs.Vec.{with_item}
use Rattle.xc_agree.proofs.BeginLaws.{began-more}
use Rattle.xc_agree.proofs.look.Look.wait.Goals as goal

pub returns-in_ok-push-clause-began : goal.returns-in_ok-push-clause-began
returns-in_ok-push-clause-began c = λ h.
    let below : c.args.slot < length c.args.self.now.waiting.items =
    (let k = c.args.self.now.waiting.ok.0 in omega (arith, c.if-slot-len.true, c.len.ensures)) in
    began-more c.args.self.now
    (record c.args.self.now { waiting = with_item c.args.self.now.waiting c.args.slot (Some c.args.place); began = c.push.new.self })
    c.args.txn c.args.slot c.args.place below refl c.in_ok-push.ensures.items h
