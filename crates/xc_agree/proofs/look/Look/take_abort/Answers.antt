use Rattle.std.proofs.Common.{ap, sym, ◌+◌, ◌≡◌, subst}
use Rattle.std.specs.Prelude.{Some, None}
use Rattle.xc_agree.specs.Slots.{slot_of, time_of}
use Rattle.xc_agree.specs.Seen.{IsLeastWith}
use Rattle.xc_record.specs.declared.record.AgreeKind.TheVariants.{Straggler}
use Rattle.xc_agree.proofs.LookLaws.{take-abort, lift-since, near-look, waiter-pends}
use Rattle.xc_agree.proofs.look.Look.take_abort.Goals as goal

pub returns-in-Some-clause-taken : goal.returns-in-Some-clause-taken
returns-in-Some-clause-taken c = λ time seen h.
    let w = c.settle.ensures in
    let at : slot_of c.args.commits.now c.args.txn ≡ Some c.in-Some.slot = sym c.in-Some.ensures.slot in
    let commit : time_of c.args.commits.now c.args.txn ≡ Some c.in-Some.commit.now.time = sym c.in-Some.ensures.time in
    take-abort c.find.new.self (record c.settle.new.self { place = c.settle.new.self.place + 1 }) c.least-self.result c.args.commits.now
    c.args.txn time c.in-Some.commit.now.time commit
    (record { place = ap (λ n. n + 1) w.kept.place; safe = w.kept.safe; floor = w.kept.floor; slots = w.kept.slots }) w.began w.waiters
    (lift-since c.args.commits.now c.find.new.self (record c.settle.new.self { place = c.settle.new.self.place + 1 }) c.args.txn
    c.in-Some.slot (λ o. None) at w.since) c.least-self.ensures
    (subst (λ p. IsLeastWith c.least-self.result p c.args.txn Straggler c.settle.new.self.found)
    (waiter-pends c.find.new.self c.args.commits.now c.args.txn c.in-Some.slot c.in-Some.commit.now.time at) w.found)
    seen (near-look c.args.self.now c.find.new.self c.args.commits.now seen c.find.new.self.near c.find.ensures.same h)
