use Rattle.std.proofs.Common.{ap, subst, sym, arith, ◌≤◌}
use Rattle.xc_source.specs.Machine.{Machine}
use Rattle.xc_source.specs.Universe.{Logged, IsUniverse}
use Rattle.xc_source.specs.Finish.{applies_in, headers_of}
use Rattle.xc_source.proofs.FinishLaws.{pairs-committed, universe-taken, time-applies, time-safes, finish-next}
use Rattle.xc_source.proofs.universe.SourceUniverse.finish_now.Goals as goal

pub log_finish-requires-clause-committed : goal.log_finish-requires-clause-committed
log_finish-requires-clause-committed c =
    pairs-committed c.self.inside.txns c.args.pairs.now c.args.self.now (ap (λ (m : Machine). m.txns) (sym c.self.view_is)) c.requires.pairs

pub take_all-requires : goal.take_all-requires
take_all-requires c = record {
  committed = pairs-committed c.self.inside.txns c.args.pairs.now c.args.self.now (ap (λ (m : Machine). m.txns) (sym c.self.view_is))
      c.requires.pairs;
}

pub invariant_of-self-2 : goal.invariant_of-self-2
invariant_of-self-2 c =
    let j = c.self.inside.journal in
    let k = applies_in c.self.inside.txns c.args.pairs.now j in
    let later : j.time ≤ c.log_finish.new.journal.time =
    (let e = ap (λ (x : Logged). x.time) c.in_ok-log_finish.ensures.ok in
    let a = time-applies c.self.inside.txns c.args.pairs.now j in
    let b = time-safes c.args.ids.now k in
    omega (arith, e, a, b)) in
    subst (λ ts. IsUniverse c.log_finish.new.journal.time ts) (sym c.take_all.ensures)
    (universe-taken j.time c.log_finish.new.journal.time (headers_of c.tablets.result.now) c.args.pairs.now c.self.inside.txns later
    c.self.invariant)

pub returns-clause-ok : goal.returns-clause-ok
returns-clause-ok c =
    finish-next c.self.inside.journal c.log_finish.new.journal c.self.inside.commits c.self.inside.txns c.take_all.new.txns
    c.tablets.result.now c.args.pairs.now c.args.ids.now c.args.self.now c.self.view_is c.requires.pairs c.requires.ids c.requires.time
    c.in_ok-log_finish.ensures.ok c.tablets.ensures.tablets c.take_all.ensures
