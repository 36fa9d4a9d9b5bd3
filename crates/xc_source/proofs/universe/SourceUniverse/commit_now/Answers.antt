use Rattle.std.proofs.Common.{◌≡◌, ◌≤◌, ◌+◌, ap, arith, rules, length, inr}
use Rattle.std.proofs.lemmas.Grind.{common_steps}
use Rattle.std.proofs.lemmas.Option.{same_Some}
use Rattle.xc_source.specs.Universe.{Logged}
use Rattle.xc_source.specs.Holders.{changed}
use Rattle.xc_source.specs.Calls.{committed}
use Rattle.xc_source.proofs.UniverseLaws.{universe-set, same-writes, commits-late}
use Rattle.xc_source.proofs.NumberedLaws.{some-within}
use Rattle.xc_source.proofs.universe.SourceUniverse.commit_now.Goals as goal

pub commit-requires-clause-late : goal.commit-requires-clause-late
commit-requires-clause-late c =
    commits-late c.self.inside.journal.time c.unwrap-commit.result c.args.txn c.self.inside.txns c.self.invariant
    (let stamp : c.unwrap-commit.result ≡ c.self.inside.journal.time + 1 = grind (arith, common_steps) in omega (arith, stamp))

pub at-requires-then-is_err-clause-begun : goal.at-requires-then-is_err-clause-begun
at-requires-then-is_err-clause-begun c =
    let same : c.commit.new.self ≡ c.self.inside.txns = search rules in
    let l = ap length same in
    let w = some-within c.self.inside.txns c.args.txn c.at.result.now c.at.ensures in
    omega (arith, w.0, w.1, l)

pub invariant_of-self-2 : goal.invariant_of-self-2
invariant_of-self-2 c =
    let stamp : c.unwrap-commit.result ≡ c.self.inside.journal.time + 1 = grind (arith, common_steps) in
    let more : c.commit.new.self ≡ changed (committed c.unwrap-commit.result) c.args.txn c.self.inside.txns = search rules in
    let later : c.self.inside.journal.time + 1 ≤ c.step.new.self.time =
    (let s = ap (λ (j : Logged). j.time) c.step.ensures.step in omega (arith, s)) in
    universe-set c.self.inside.journal.time c.step.new.self.time c.args.txn 0 (committed c.unwrap-commit.result) c.self.inside.txns _ more
    same-writes (omega arith) (λ t k e. inr
    (let z : c.unwrap-commit.result ≡ k = same_Some c.unwrap-commit.result k e in omega (arith, z, stamp, later)))
    c.self.invariant
