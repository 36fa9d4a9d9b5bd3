use Rattle.std.proofs.Common.{◌∙◌, ap, subst, sym}
use Rattle.std.specs.BTreeMap as tree
use Rattle.std.specs.Cmp.Lexicographic.{slice_cmp}
use Rattle.std.specs.Ordering.{nat_cmp}
use Rattle.xc_source.specs.Holders.{AreHolders, other_than}
use Rattle.xc_source.proofs.HolderLaws.{holder-is}
use Rattle.xc_source.proofs.transactions.Transactions.holder.Goals as goal

pub returns : goal.returns
returns c = λ m n e.
    let held = tree.get (slice_cmp nat_cmp) c.self.inside.holders in
    ap (other_than n) (c.copied.ensures ∙ c.get.ensures.value)
    ∙ holder-is held m n c.args.key.now (subst (AreHolders held) (c.self.view_is ∙ sym e) c.self.invariant.holders)
