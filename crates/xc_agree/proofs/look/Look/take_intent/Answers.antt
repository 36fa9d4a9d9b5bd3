use Rattle.std.proofs.Common.{ap, sym, ◌+◌, ◌≡◌, subst, length, arith}
use Rattle.std.specs.Prelude.{if◌then◌else◌, nat_le, Some}
use Rattle.xc_record.specs.Lists.{or_else}
use Rattle.xc_record.specs.declared.record.AgreeKind.TheVariants.{LateIntent}
use Rattle.xc_agree.specs.Seen.{IsLeast, with_kind}
use Rattle.xc_agree.specs.Slots.{slot_of, time_of}
use Rattle.xc_agree.proofs.CommitLaws.{slot-below}
use Rattle.xc_agree.proofs.LookLaws.{take-intent, lift-since, near-look}
use Rattle.xc_agree.proofs.SlotLaws.{in-slot}
use Rattle.xc_agree.proofs.look.Look.take_intent.Goals as goal

pub returns-in_ok-wait-in-Some-clause-taken : goal.returns-in_ok-wait-in-Some-clause-taken
returns-in_ok-wait-in-Some-clause-taken c = λ sub ops seen h.
    let w = c.in_ok-wait-in-Some.ensures in
    let at : slot_of c.args.commits.now c.args.txn ≡ Some c.in-Some.slot = sym c.in-Some.ensures.slot in
    let time : time_of c.args.commits.now c.args.txn ≡ Some c.in-Some.commit.now.time = sym c.in-Some.ensures.time in
    let below = slot-below c.args.commits.now c.args.txn c.in-Some.slot at in
    take-intent c.find.new.self (record c.wait.new.self { place = c.wait.new.self.place + 1 }) c.args.commits.now c.args.txn c.args.time
    c.in-Some.commit.now.time sub ops time
    (record { place = ap (λ n. n + 1) w.kept.place; safe = w.kept.safe; floor = w.kept.floor; slots = w.kept.slots }) w.began
    (w.waiters c.args.commits.now (in-slot c.args.commits.now c.args.txn c.in-Some.slot at))
    (λ slots. lift-since c.args.commits.now c.find.new.self (record c.wait.new.self { place = c.wait.new.self.place + 1 }) c.args.txn
    c.in-Some.slot (λ o. or_else o (Some (c.find.new.self.place + 1))) at
    (w.since (let k : length c.find.new.self.waiting.items ≡ length c.args.commits.now = slots in omega (arith, below))))
    (λ kinds k. subst
    (λ f. IsLeast f (λ n. if nat_le c.in-Some.commit.now.time c.args.time then with_kind c.args.txn LateIntent kinds n else kinds n))
    (sym w.found) (c.least_if-self.ensures kinds k))
    seen (near-look c.args.self.now c.find.new.self c.args.commits.now seen c.find.new.self.near c.find.ensures.same h)
