use Rattle.std.proofs.Common.{◌≡◌, ◌-◌, ◌<◌, ◌≤◌, ◌∙◌, ap, subst, sym, length, Some, List, ℕ, if◌then◌else◌, ◌&&◌}
use Rattle.std.specs.Prelude.{◌==◌}
use Rattle.std.specs.BTreeMap as tree
use Rattle.std.specs.Cmp.Lexicographic.{slice_cmp}
use Rattle.std.specs.Ordering.{nat_cmp}
use Rattle.xc_source.specs.Machine.{Transaction, is_live}
use Rattle.xc_source.specs.Calls.{committed}
use Rattle.xc_source.specs.Holders.{numbered, commit_at, some_waits, AreTransactions}
use Rattle.std.specs.Map.{lookup}
use Rattle.std.proofs.Common.{arith}
use Rattle.std.proofs.lemmas.Grind.{common_steps}
use Rattle.xc_source.proofs.BookLaws.{book-committed}
use Rattle.xc_source.proofs.NumberedLaws.{set-changed, tested-at, some-within}
use Rattle.xc_source.proofs.transactions.Transactions.commit.Goals as goal

pub invariant_of-self-2 : goal.invariant_of-self-2
invariant_of-self-2 c =
    let ts = c.self.inside.items.items in
    let t = c.index_mut-t.result.now in
    let live = tested-at (λ t. is_live t.stage) c.args.self.now ts c.args.txn t c.self.view_is c.requires.live
    c.index_mut-t.ensures.value in
    let place = some-within ts c.args.txn t live.0 in
    let one : 1 ≤ c.args.txn = place.0 in
    let within : c.args.txn - 1 < length c.self.inside.items.items = place.1 in
    let same : c.index.result.now ≡ c.index_mut-t.result.now = grind (arith, common_steps) in
    let listed : (q : ℕ) → tree.get nat_cmp c.list_waiting.new.waiting q
    ≡ (if some_waits c.index_mut-t.result.now && q == c.args.commit then Some c.args.txn else tree.get nat_cmp c.self.inside.waiting q) =
    λ q. c.in_ok-list_waiting.ensures.ok q
    ∙ ap (λ (t : Transaction). if (some_waits t
    && q == c.get.result) then Some c.args.txn else tree.get nat_cmp c.self.inside.waiting q) same
    ∙ ap (λ k. if (some_waits c.index_mut-t.result.now && q == k) then Some c.args.txn else tree.get nat_cmp c.self.inside.waiting q)
    c.get.ensures.value in
    book-committed (tree.get (slice_cmp nat_cmp) c.self.inside.holders) (tree.get (slice_cmp nat_cmp) c.free.new.holders)
    (tree.get nat_cmp c.self.inside.waiting) (tree.get nat_cmp c.list_waiting.new.waiting) (tree.get nat_cmp c.self.inside.cursors)
    c.args.commit c.args.txn ts t c.set_committed.new.self live.0 c.set_committed.ensures live.1
    (λ k q e. c.requires.past k q (subst (λ (xs : List Transaction). commit_at (numbered xs k) ≡ Some q) c.self.view_is e))
    c.free.ensures listed c.self.invariant

pub invariant_of-self : goal.invariant_of-self
invariant_of-self c =
    subst (λ es. AreTransactions (tree.get (slice_cmp nat_cmp) c.self.inside.holders)
    (λ q. lookup (tree.is_at (nat_cmp q)) es)
    (tree.get nat_cmp c.self.inside.cursors) c.self.inside.items.items)
    (sym c.in_err-list_waiting.ensures.err) c.self.invariant

pub returns-clause-ok : goal.returns-clause-ok
returns-clause-ok c =
    let ts = c.self.inside.items.items in
    let t = c.index_mut-t.result.now in
    let live = tested-at (λ t. is_live t.stage) c.args.self.now ts c.args.txn t c.self.view_is c.requires.live
    c.index_mut-t.ensures.value in
    set-changed (committed c.args.commit) c.args.txn c.args.self.now ts t c.set_committed.new.self c.self.view_is live.0
    c.set_committed.ensures
