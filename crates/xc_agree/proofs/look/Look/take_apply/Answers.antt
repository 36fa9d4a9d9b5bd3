use Rattle.std.proofs.Common.{ap, sym, ◌+◌, ◌≡◌, subst}
use Rattle.std.specs.Prelude.{List, [], ℕ, Some, None, not, bytes_eq}
use Rattle.xc_agree.specs.Slots.{slot_of, time_of, undone_of}
use Rattle.xc_agree.specs.Seen.{IsLeastWith}
use Rattle.std.specs.Option.{option_map_or}
use Rattle.xc_record.specs.declared.record.AgreeKind.TheVariants.{RollbackDiffers, Straggler}
use Rattle.xc_agree.proofs.LookLaws.{take-apply, lift-since, near-look, waiter-pends}
use Rattle.xc_agree.proofs.look.Look.take_apply.Goals as goal

pub returns-in-Some-clause-taken : goal.returns-in-Some-clause-taken
returns-in-Some-clause-taken c = λ time seen h.
    let w = c.settle.ensures in
    let at : slot_of c.args.commits.now c.args.txn ≡ Some c.in-Some.slot = sym c.in-Some.ensures.slot in
    let commit : time_of c.args.commits.now c.args.txn ≡ Some c.in-Some.commit.now.time = sym c.in-Some.ensures.time in
    let undone : c.in-Some.commit.now.without ≡ undone_of c.args.commits.now c.args.txn =
    ap (λ o. option_map_or (λ without. without) o []) c.in-Some.ensures.undone in
    take-apply c.find.new.self (record c.settle.new.self { place = c.settle.new.self.place + 1 }) c.least_if-found.result
    c.least_if-self.result c.args.commits.now c.args.txn time c.args.named c.in-Some.commit.now.time c.args.without.now commit
    (record { place = ap (λ n. n + 1) w.kept.place; safe = w.kept.safe; floor = w.kept.floor; slots = w.kept.slots }) w.began w.waiters
    (lift-since c.args.commits.now c.find.new.self (record c.settle.new.self { place = c.settle.new.self.place + 1 }) c.args.txn
    c.in-Some.slot (λ o. None) at w.since) c.least_if-found.ensures
    (subst (λ (without : List ℕ). IsLeastWith c.least_if-found.result (not (bytes_eq c.args.without.now without)) c.args.txn RollbackDiffers
    c.least_if-self.result) undone
    (subst (λ same. IsLeastWith c.least_if-found.result (not same) c.args.txn RollbackDiffers c.least_if-self.result)
    c.is_same-undoes.ensures c.least_if-self.ensures))
    (subst (λ p. IsLeastWith c.least_if-self.result p c.args.txn Straggler c.settle.new.self.found)
    (waiter-pends c.find.new.self c.args.commits.now c.args.txn c.in-Some.slot c.in-Some.commit.now.time at) w.found)
    seen (near-look c.args.self.now c.find.new.self c.args.commits.now seen c.find.new.self.near c.find.ensures.same h)
