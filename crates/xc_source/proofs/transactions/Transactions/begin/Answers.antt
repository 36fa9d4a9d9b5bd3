use Rattle.std.proofs.Common.{arith}
use Rattle.std.proofs.lemmas.Grind.{common_steps}
use Rattle.std.specs.BTreeMap as tree
use Rattle.std.specs.Cmp.Lexicographic.{slice_cmp}
use Rattle.std.specs.Ordering.{nat_cmp}
use Rattle.xc_source.proofs.BookLaws.{book-begun}
use Rattle.xc_source.proofs.transactions.Transactions.begin.Goals as goal

pub invariant_of-self-2 : goal.invariant_of-self-2
invariant_of-self-2 c =
    book-begun (tree.get (slice_cmp nat_cmp) c.self.inside.holders)
    (tree.get nat_cmp c.self.inside.waiting) (tree.get nat_cmp c.self.inside.cursors) c.self.inside.items.items c.push.new.self.items
    (grind (arith, common_steps)) (grind (arith, common_steps)) c.self.invariant
