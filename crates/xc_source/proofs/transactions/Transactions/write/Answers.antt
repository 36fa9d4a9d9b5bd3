use Rattle.std.proofs.Common.{◌≡◌, ℕ, ◌-◌, ◌∙◌, ap, subst, sym, arith, List, true, get_or, slice_set, rules}
use Rattle.std.proofs.lemmas.Grind.{common_steps}
use Rattle.std.specs.BTreeMap as tree
use Rattle.std.specs.Cmp.Lexicographic.{slice_cmp}
use Rattle.std.specs.Ordering.{nat_cmp}
use Rattle.xc_record.specs.declared.record.Op.{Op}
use Rattle.xc_source.specs.Machine.{Transaction, is_live}
use Rattle.xc_source.specs.Calls.{written}
use Rattle.xc_source.specs.Holders.{is_holder, live_at, numbered}
use Rattle.std.specs.Map.{lookup}
use Rattle.xc_source.specs.Holders.{AreTransactions}
use Rattle.xc_source.proofs.BookLaws.{book-wrote}
use Rattle.xc_source.proofs.NumberedLaws.{set-changed, tested-at, some-within, set-back}
use Rattle.xc_source.proofs.transactions.Transactions.write.Goals as goal

-- where the key can't be held, the write is taken back, and the transactions are as before
taken-back : (op : Op) (n : ℕ) (ts us : List Transaction) (t wrote last popped : Transaction) → us ≡ ts
    → live_at (numbered ts n) ≡ true → t ≡ get_or us (n - 1) t → wrote ≡ written op t
    → last ≡ get_or (slice_set us (n - 1) wrote) (n - 1) last
    → ((o : Op) (s : Transaction) → last ≡ written o s → popped ≡ s)
    → slice_set (slice_set us (n - 1) wrote) (n - 1) popped ≡ us
taken-back op n ts us t wrote last popped same live at is again undo =
    let num = (tested-at (λ t. is_live t.stage) ts us n t same live at).0 in
    let within = (some-within us n t num).1 in
    let found : last ≡ wrote = grind (arith, common_steps, again, within) in
    ap (λ x. slice_set (slice_set us (n - 1) wrote) (n - 1) x) (undo op t (found ∙ is))
    ∙ set-back us (n - 1) t wrote within at

pub invariant_of-self-then-is_err : goal.invariant_of-self-then-is_err
invariant_of-self-then-is_err c =
    let ts = c.self.inside.items.items in
    let back = taken-back c.args.op.now c.args.txn c.args.self.now ts c.index_mut.result.now c.push_write.new.self
    c.index_mut-then-is_err.result.now c.pop_write.new.self c.self.view_is c.requires.live c.index_mut.ensures.value
    c.in_ok-push_write.ensures.ok c.index_mut-then-is_err.ensures.value c.pop_write.ensures in
    let same : c.insert.new.self.entries ≡ c.self.inside.holders.entries = search rules in
    subst (λ (xs : List Transaction). AreTransactions (tree.get (slice_cmp nat_cmp) c.insert.new.self)
    (tree.get nat_cmp c.self.inside.waiting) (tree.get nat_cmp c.self.inside.cursors) xs) (sym back)
    (subst (λ es. AreTransactions (λ q. lookup (tree.is_at (slice_cmp nat_cmp q)) es)
    (tree.get nat_cmp c.self.inside.waiting) (tree.get nat_cmp c.self.inside.cursors) ts)
    (sym same) c.self.invariant)

pub returns-then-is_err-clause-err : goal.returns-then-is_err-clause-err
returns-then-is_err-clause-err c =
    taken-back c.args.op.now c.args.txn c.args.self.now c.self.inside.items.items c.index_mut.result.now c.push_write.new.self
    c.index_mut-then-is_err.result.now c.pop_write.new.self c.self.view_is c.requires.live c.index_mut.ensures.value
    c.in_ok-push_write.ensures.ok c.index_mut-then-is_err.ensures.value c.pop_write.ensures
    ∙ c.self.view_is

pub invariant_of-self-else-is_err : goal.invariant_of-self-else-is_err
invariant_of-self-else-is_err c =
    let ts = c.self.inside.items.items in
    let t = c.index_mut.result.now in
    let live = tested-at (λ t. is_live t.stage) c.args.self.now ts c.args.txn t c.self.view_is c.requires.live c.index_mut.ensures.value in
    book-wrote (tree.get (slice_cmp nat_cmp) c.self.inside.holders) (tree.get (slice_cmp nat_cmp) c.insert.new.self)
    (tree.get nat_cmp c.self.inside.waiting) (tree.get nat_cmp c.self.inside.cursors) c.args.op.now c.args.txn ts t
    c.push_write.new.self live.0 c.in_ok-push_write.ensures.ok live.1
    (λ k h. c.requires.free k (subst (λ (xs : List Transaction). is_holder xs c.args.op.now.key k ≡ true) c.self.view_is h))
    (λ q. grind (arith, common_steps)) c.self.invariant

pub returns-clause-ok : goal.returns-clause-ok
returns-clause-ok c =
    let ts = c.self.inside.items.items in
    let t = c.index_mut.result.now in
    let live = tested-at (λ t. is_live t.stage) c.args.self.now ts c.args.txn t c.self.view_is c.requires.live c.index_mut.ensures.value in
    set-changed (written c.args.op.now) c.args.txn c.args.self.now ts t c.push_write.new.self c.self.view_is live.0
    c.in_ok-push_write.ensures.ok
