use Rattle.std.proofs.Common.{◌≡◌, ◌++◌, ◌∷◌, [], rules}
use Rattle.xc_source.specs.Machine.{begun}
use Rattle.xc_source.proofs.UniverseLaws.{universe-begun}
use Rattle.xc_source.proofs.universe.SourceUniverse.begin.Goals as goal

pub invariant_of-self-2 : goal.invariant_of-self-2
invariant_of-self-2 c =
    let more : c.begin.new.self ≡ c.self.inside.txns ++ begun ∷ [] = search rules in
    universe-begun c.self.inside.journal.time c.self.inside.txns c.begin.new.self more c.self.invariant
