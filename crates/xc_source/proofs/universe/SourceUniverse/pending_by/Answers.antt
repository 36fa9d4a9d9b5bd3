use Rattle.std.proofs.Common.{◌≡◌, ◌∙◌, subst, ap, [], ◌++◌, append-nil, sym, Some}
use Rattle.xc_source.specs.Holders.{numbered}
use Rattle.std.specs.List.{flat_map}
use Rattle.xc_source.specs.Machine.{Machine}
use Rattle.xc_source.specs.Waiting.{pending_at}
use Rattle.xc_source.proofs.PendingLaws.{pending-found}
use Rattle.xc_source.proofs.universe.SourceUniverse.pending_by.Goals as goal

pub returns : goal.returns
returns c =
    let m = c.args.self.now in
    let done : c.loop-txn.txn-iterator ≡ [] = c.in-None.ensures.steps.0 in
    sym (append-nil c.loop-txn.pairs.items) ∙ ap (λ ns. c.loop-txn.pairs.items ++ flat_map (pending_at m) ns) (sym done)
    ∙ c.loop-txn.invariant
    ∙ ap (flat_map (pending_at m)) (c.into_iter-txn-iterator.ensures.into_iter_gives ∙ c.iter-txn-items.ensures.rest)
    ∙ pending-found m c.in_ok-numbers.numbers c.in_ok-numbers.ensures.ordered
    (λ n t e s w. c.in_ok-numbers.ensures.full n t (subst (λ (x : Machine). numbered x.txns n ≡ Some t) (sym c.self.view_is) e) s w)
