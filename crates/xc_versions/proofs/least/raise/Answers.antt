use Rattle.std.proofs.Common.{◌≤◌, ◌*◌, ◌<◌, ◌+◌, get_or, subst, sym, ℕ, arith}
use Rattle.xc_versions.specs.Dues.{dues_of}
use Rattle.xc_versions.proofs.DueLaws.{least-more}
use Rattle.xc_versions.proofs.least.raise.Goals as goal

pub loop-i-preserved : goal.loop-i-preserved
loop-i-preserved c =
    let ps = c.args.pages.now.items in
    subst (λ (n : ℕ). (k : ℕ) → c.args.group * 64 ≤ k → k < c.loop-i.i + 1 → n ≤ get_or (dues_of ps) k 0)
    (sym c.min-due.ensures)
    (least-more ps c.loop-i.i (c.args.group * 64) c.loop-i.due c.index-page.result.now (omega arith) c.index-page.ensures
    c.loop-i.invariant)
