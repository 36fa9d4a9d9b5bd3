use Rattle.std.proofs.Common.{◌∙◌, ap, sym, refl}
use Rattle.std.specs.BTreeMap as tree
use Rattle.std.specs.Cmp.Lexicographic.{slice_cmp}
use Rattle.std.specs.Ordering.{nat_cmp}
use Rattle.xc_source.specs.Machine.{Transaction}
use Rattle.xc_source.specs.Calls.{next_begun, undone_from}
use Rattle.xc_source.specs.Holders.{numbered, next_sub_of}
use Rattle.xc_source.proofs.BookLaws.{book-kept}
use Rattle.xc_source.proofs.NumberedLaws.{set-changed, begun-at}
use Rattle.xc_source.proofs.transactions.Transactions.roll_back.Goals as goal

pub invariant_of-self : goal.invariant_of-self
invariant_of-self c =
    let ts = c.self.inside.items.items in
    let t = c.index_mut-t.result.now in
    let num = begun-at c.args.self.now ts c.args.txn t c.self.view_is c.requires.number c.requires.begun c.index_mut-t.ensures.value in
    book-kept (tree.get (slice_cmp nat_cmp) c.self.inside.holders) (tree.get nat_cmp c.self.inside.waiting)
    (tree.get nat_cmp c.self.inside.cursors) (λ (t : Transaction). next_begun (undone_from c.args.sub t)) c.args.txn ts t
    c.begin_next.new.self num (c.begin_next.ensures.next ∙ ap next_begun c.undo_from.ensures) (λ key. refl) refl
    (λ k q a. a) (λ header k q. q) c.self.invariant

pub returns-clause-next : goal.returns-clause-next
returns-clause-next c =
    let ts = c.self.inside.items.items in
    let t = c.index_mut-t.result.now in
    let num = begun-at c.args.self.now ts c.args.txn t c.self.view_is c.requires.number c.requires.begun c.index_mut-t.ensures.value in
    set-changed (λ (t : Transaction). next_begun (undone_from c.args.sub t)) c.args.txn c.args.self.now ts t c.begin_next.new.self
    c.self.view_is num (c.begin_next.ensures.next ∙ ap next_begun c.undo_from.ensures)

pub returns-clause-number : goal.returns-clause-number
returns-clause-number c =
    let ts = c.self.inside.items.items in
    let t = c.index_mut-t.result.now in
    let num = begun-at c.args.self.now ts c.args.txn t c.self.view_is c.requires.number c.requires.begun c.index_mut-t.ensures.value in
    c.begin_next.ensures.number ∙ ap (λ (t : Transaction). t.current) (c.begin_next.ensures.next ∙ ap next_begun c.undo_from.ensures)
    ∙ ap next_sub_of (sym num) ∙ ap (λ ts. next_sub_of (numbered ts c.args.txn)) c.self.view_is
