use Rattle.std.proofs.Common.{length, refl, ap, arith}
use Rattle.std.proofs.lemmas.List.Sums.{length-filter, count_by-le-length}
use Rattle.xc_intents.specs.HeldOps.{is_rest}
use Rattle.xc_tablet.proofs.ApplyLaws.{aborted}
use Rattle.xc_tablet.proofs.contents.Contents.abort.Goals as goal

pub returns-clause-changes : goal.returns-clause-changes
returns-clause-changes c = aborted c.args.txn c.args.lo c.args.hi c.args.self.now _ c.requires.is refl c.forget.ensures.left

pub returns-clause-settles : goal.returns-clause-settles
returns-clause-settles c =
    let hs = c.args.self.now.held.held in
    let same = ap length c.forget.ensures.left in
    let long = length-filter (is_rest c.args.txn c.args.lo c.args.hi) hs in
    let less = count_by-le-length (is_rest c.args.txn c.args.lo c.args.hi) hs in
    let room = c.forget.ensures.room in
    record { next = omega arith; fewer = omega arith; versions = omega arith; held = room }
