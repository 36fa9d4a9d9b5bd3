use Rattle.std.proofs.Common.{◌≡◌, ◌∙◌, ◌++◌, ap, arith, true, is_some}
use Rattle.std.proofs.lemmas.Grind.{common_steps}
use Rattle.xc_source.specs.Machine.{commit_of}
use Rattle.xc_source.proofs.PendingLaws.{places_pending}
use Rattle.xc_source.proofs.universe.SourceUniverse.add_pending.Goals as goal

pub returns : goal.returns
returns c =
    let committed : is_some (commit_of c.args.t.now.stage) ≡ true = grind (arith, common_steps) in
    c.in_ok-add_tablets.ensures
    ∙ ap (λ ps. c.args.pairs.now.items ++ ps) (places_pending c.args.self.now c.args.txn c.args.t.now committed)
