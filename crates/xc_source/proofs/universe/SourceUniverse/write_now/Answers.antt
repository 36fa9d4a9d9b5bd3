use Rattle.std.proofs.Common.{refl}
use Rattle.std.proofs.Common.{◌≡◌, ◌∙◌, ap, subst, arith, true, []}
use Rattle.std.proofs.Common.{rules}
use Rattle.xc_record.specs.declared.record.Kind.TheVariants as kind
use Rattle.xc_record.specs.declared.record.Op.{Op}
use Rattle.xc_source.specs.Universe.{Logged, unlogged}
use Rattle.xc_source.specs.Holders.{is_holder, changed}
use Rattle.xc_source.proofs.AnswerLaws.{write-unheld}
use Rattle.xc_source.proofs.CallLaws.{machine_of}
use Rattle.xc_source.proofs.HolderLaws.{no-other}
use Rattle.xc_source.specs.Machine.{Machine}
use Rattle.xc_source.specs.Calls.{written}
use Rattle.xc_source.proofs.UniverseLaws.{universe-set, same-stage, wrote-one, unlogged-logged}
use Rattle.xc_source.proofs.universe.SourceUniverse.write_now.Goals as goal

pub write-requires-clause-free : goal.write-requires-clause-free
write-requires-clause-free c = λ n h.
    let same : c.first.result ≡ c.args.op = c.first.ensures c.args.op [] c.in_ok-ops.ensures.room in
    no-other c.args.self.now c.args.txn c.args.op.key n (write-unheld c.args.txn c.args.op c.args.self.now c.requires)
    (subst (λ (m : Machine). is_holder m.txns c.args.op.key n ≡ true) c.self.view_is
    (subst (λ (op : Op). is_holder c.self.inside.txns op.key n ≡ true) same h))

pub returns-then-is_err-clause-err : goal.returns-then-is_err-clause-err
returns-then-is_err-clause-err c =
    let same : c.write.new.self ≡ c.self.inside.txns = search rules in
    ap (λ j. machine_of j c.self.inside.commits c.write.new.self)
    (c.unlog.ensures ∙ ap (unlogged c.owner-id.result) c.in_ok-time.ensures.ok.1
    ∙ unlogged-logged c.owner-id.result (kind.Intent c.current-sub.result c.args.txn c.in_ok-ops.ops) c.self.inside.journal)
    ∙ ap (machine_of c.self.inside.journal c.self.inside.commits) same ∙ c.self.view_is

pub invariant_of-self-else-is_err : goal.invariant_of-self-else-is_err
invariant_of-self-else-is_err c =
    let more : c.write.new.self ≡ changed (written c.first.result) c.args.txn c.self.inside.txns = search rules in
    universe-set c.self.inside.journal.time c.log.new.self.time c.args.txn 1 (written c.first.result) c.self.inside.txns _ more
    (wrote-one c.first.result)
    (let s = ap (λ (j : Logged). j.time) c.in_ok-time.ensures.ok.1 in omega (arith, s))
    (same-stage (written c.first.result) _ (λ t. refl)) c.self.invariant
