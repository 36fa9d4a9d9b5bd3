use Rattle.std.proofs.Common.{rules}
use Rattle.std.proofs.lemmas.Fn.{filter_same}
use Rattle.xc_intents.specs.declared.slots.Chain.{Chain}
use Rattle.xc_intents.specs.Slots.{is_used}
use Rattle.xc_intents.proofs.search.retain_used.Goals as goal

pub returns-clause-chains : goal.returns-clause-chains
returns-clause-chains c = filter_same _ (λ (x : Chain). is_used x) _
    (λ x r f k. search rules) c.args.chains.now.items _ c.retain.ensures.filtered
