use Rattle.std.proofs.Common.{is_some}
use Rattle.std.specs.BTreeMap as tree
use Rattle.std.specs.Cmp.Lexicographic.{slice_cmp}
use Rattle.std.specs.Ordering.{nat_cmp}
use Rattle.xc_source.specs.Machine.{commit_of}
use Rattle.xc_source.specs.Waiting.{taken}
use Rattle.xc_source.proofs.BookLaws.{book-taken}
use Rattle.xc_source.proofs.NumberedLaws.{set-changed, tested-at}
use Rattle.xc_source.proofs.transactions.Transactions.take.Goals as goal

pub invariant_of-self : goal.invariant_of-self
invariant_of-self c =
    let ts = c.self.inside.items.items in
    let t = c.index_mut-t.result.now in
    let ended = tested-at (λ t. is_some (commit_of t.stage)) c.args.self.now ts c.args.txn t c.self.view_is c.requires.committed
    c.index_mut-t.ensures.value in
    book-taken (tree.get (slice_cmp nat_cmp) c.self.inside.holders) (tree.get nat_cmp c.self.inside.waiting)
    (tree.get nat_cmp c.unlist_waiting.new.waiting) (tree.get nat_cmp c.self.inside.cursors) c.args.header.now c.args.txn ts t
    c.take.new.self ended.0 c.take.ensures ended.1 c.unlist_waiting.ensures.kept c.unlist_waiting.ensures.less c.self.invariant

pub returns : goal.returns
returns c =
    let ts = c.self.inside.items.items in
    let t = c.index_mut-t.result.now in
    let ended = tested-at (λ t. is_some (commit_of t.stage)) c.args.self.now ts c.args.txn t c.self.view_is c.requires.committed
    c.index_mut-t.ensures.value in
    set-changed (taken c.args.header.now) c.args.txn c.args.self.now ts t c.take.new.self c.self.view_is ended.0 c.take.ensures
