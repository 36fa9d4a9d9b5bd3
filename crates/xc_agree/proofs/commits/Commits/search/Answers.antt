use Rattle.std.proofs.Common.{◌≡◌, ap, ◌∙◌, rules}
use Rattle.std.proofs.lemmas.Fn.{always_returns_same}
use Rattle.xc_agree.specs.Slots.{slot_of}
use Rattle.xc_agree.proofs.CommitLaws.{slot-searched}
use Rattle.xc_agree.proofs.commits.Commits.search.Goals as goal

pub returns : goal.returns
returns c =
    let answer = c.binary_search_by_key.ensures.position (λ commit. commit.txn)
    (always_returns_same _ (λ a r. r ≡ a.0.now.txn) _ (λ a r f k. search rules)) in
    let found =
    slot-searched c.self.inside.items.items c.args.txn c.binary_search_by_key.result c.self.invariant
    (rw c.as_slice.ensures.value at c.binary_search_by_key.ensures.bound) (rw c.as_slice.ensures.value at answer) in
    c.ok.ensures.value ∙ found ∙ ap (λ cs. slot_of cs c.args.txn) c.self.view_is
