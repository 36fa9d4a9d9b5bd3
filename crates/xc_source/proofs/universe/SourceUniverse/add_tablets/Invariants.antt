use Rattle.std.proofs.Common.{◌≡◌, ◌&&◌, ◌++◌, map, filter, drop}
use Rattle.std.specs.List.{enumerate_from}
use Rattle.xc_source.specs.Machine.{is_open}
use Rattle.xc_source.specs.Waiting.{waits_on}
use Rattle.xc_source.specs.Universe.{places_in}
use Rattle.xc_source.proofs.universe.SourceUniverse.add_tablets.Given as goal

abbrev pub invariant-loop-id : goal.invariant-loop-id
invariant-loop-id l =
    l.pairs.items
    ++ map (λ p. (l.txn, p.0)) (filter (λ p. is_open p.1 && waits_on p.1.header l.t) (enumerate_from l.id (drop l.id l.self.tablets)))
    ≡ l.fn.pairs.items ++ map (λ p. (l.txn, p.0)) (places_in l.self l.t)
