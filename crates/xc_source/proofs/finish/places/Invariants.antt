use Rattle.std.proofs.Common.{◌≡◌, map, take}
use Rattle.xc_source.proofs.finish.places.Given as goal

abbrev pub invariant-loop-pair : goal.invariant-loop-pair
invariant-loop-pair l = l.ids.items ≡ map (λ p. p.1) (take l.pair-index l.pairs)
