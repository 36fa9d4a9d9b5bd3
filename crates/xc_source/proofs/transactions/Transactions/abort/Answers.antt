use Rattle.std.specs.BTreeMap as tree
use Rattle.std.specs.Cmp.Lexicographic.{slice_cmp}
use Rattle.std.specs.Ordering.{nat_cmp}
use Rattle.xc_source.specs.Machine.{is_live}
use Rattle.xc_source.specs.Calls.{aborted}
use Rattle.xc_source.proofs.BookLaws.{book-aborted}
use Rattle.xc_source.proofs.NumberedLaws.{set-changed, tested-at}
use Rattle.xc_source.proofs.transactions.Transactions.abort.Goals as goal

pub invariant_of-self : goal.invariant_of-self
invariant_of-self c =
    let ts = c.self.inside.items.items in
    let t = c.index_mut-t.result.now in
    let live = tested-at (λ t. is_live t.stage) c.args.self.now ts c.args.txn t c.self.view_is c.requires.live
    c.index_mut-t.ensures.value in
    book-aborted (tree.get (slice_cmp nat_cmp) c.self.inside.holders) (tree.get (slice_cmp nat_cmp) c.free.new.holders)
    (tree.get nat_cmp c.self.inside.waiting) (tree.get nat_cmp c.self.inside.cursors) c.args.txn ts t c.set_aborted.new.self live.0
    c.set_aborted.ensures live.1 c.free.ensures c.self.invariant

pub returns : goal.returns
returns c =
    let ts = c.self.inside.items.items in
    let t = c.index_mut-t.result.now in
    let live = tested-at (λ t. is_live t.stage) c.args.self.now ts c.args.txn t c.self.view_is c.requires.live
    c.index_mut-t.ensures.value in
    set-changed aborted c.args.txn c.args.self.now ts t c.set_aborted.new.self c.self.view_is live.0 c.set_aborted.ensures
