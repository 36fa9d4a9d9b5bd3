use Rattle.std.proofs.Common.{◌≡◌, ◌+◌, ◌-◌, ◌<◌, ◌≤◌, get_or, min, arith}
use Rattle.xc_versions.specs.Dues.{dues_of}
use Rattle.xc_versions.proofs.DueLaws.{due-at, back-more}
use Rattle.xc_versions.proofs.shrink.pass_idle.Goals as goal

pub loop-i-preserved : goal.loop-i-preserved
loop-i-preserved c =
    let ps = c.args.pages.now.items in
    let from = c.loop-i.invariant.from in
    let to = c.loop-i.invariant.to in
    let lower = c.loop-i.invariant.lower in
    let within = c.requires.within in
    let some = c.loop-i-test.true in
    let late = c.if-page-cutoff.false in
    let i = c.loop-i.i - 1 in
    let end = c.args.end in
    let same : c.loop-i.i ≡ i + 1 = omega arith in
    let here : get_or (dues_of ps) i 0 ≡ c.index-page.result.now.due =
    due-at ps i c.index-page.result.now (omega arith) c.index-page.ensures in
    let least : c.min-least.result ≡ min c.loop-i.least c.index-page.result.now.due = c.min-least.ensures in
    record {
      from = omega arith;
      to = omega arith;
      idle = back-more (λ k. c.args.cutoff < get_or (dues_of ps) k 0) i end (omega arith)
          (λ k l m. c.loop-i.invariant.idle k (omega arith) m);
      lower = omega arith;
      due = back-more (λ k. c.min-least.result ≤ get_or (dues_of ps) k 0) i end (omega arith)
          (λ k l m. let was = c.loop-i.invariant.due k (omega arith) m in omega arith);
    }
