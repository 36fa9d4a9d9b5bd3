use Rattle.std.proofs.Common.{◌≡◌, ◌-◌, [], ◌∷◌, Some, ap, subst, sym, arith, get_or}
use Rattle.std.proofs.lemmas.Option.{none-some}
use Rattle.xc_source.specs.Machine.{Machine, begun}
use Rattle.xc_source.specs.Calls.{aborted, unknown, ended}
use Rattle.xc_source.specs.Holders.{numbered}
use Rattle.xc_source.specs.Universe.{Logged}
use Rattle.xc_source.proofs.AnswerLaws.{found, first-none}
use Rattle.xc_source.proofs.UniverseLaws.{universe-set, same-aborted, aborts-time, abort-next}
use Rattle.xc_source.proofs.universe.SourceUniverse.abort_now.Goals as goal

pub invariant_of-self-2 : goal.invariant_of-self-2
invariant_of-self-2 c =
    let j = c.self.inside.journal in
    universe-set j.time c.log_aborts.new.self.time c.args.txn 0 aborted c.self.inside.txns _ c.abort.ensures same-aborted
    (let s = ap (λ (k : Logged). k.time) c.in_ok-log_aborts.ensures.ok in
    let l = aborts-time c.args.txn c.args.ids.now j in
    omega (arith, s, l))
    (λ t k e. absurd (none-some k e)) c.self.invariant

pub returns-clause-ok : goal.returns-clause-ok
returns-clause-ok c =
    let m = c.args.self.now in
    let n = c.args.txn in
    let t = get_or m.txns (n - 1) begun in
    let num : numbered c.self.inside.txns n ≡ Some t = subst (λ (x : Machine). numbered x.txns n ≡ Some t) (sym c.self.view_is)
    (found m n begun (first-none (unknown m n) (ended m n ∷ []) c.requires.live).0) in
    abort-next n m c.args.ids.now c.self.inside.journal c.log_aborts.new.self c.self.inside.commits c.self.inside.txns
    c.abort.new.self t
    c.self.view_is num c.requires.places c.in_ok-log_aborts.ensures.ok c.abort.ensures
