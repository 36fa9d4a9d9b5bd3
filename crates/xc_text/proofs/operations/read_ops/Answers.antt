use Rattle.std.proofs.Common.{sym, subst, ◌∙◌}
use Rattle.std.proofs.lemmas.Bool.{both_ways}
use Rattle.xc_text.specs.Spans.{IsSpan}
use Rattle.xc_text.proofs.OpsLaws.{at_left, put_form, put_misnamed, put_more, seen_all, seen_empty, with_op-good}
use Rattle.xc_text.proofs.PlainOps.{plain_seen}
use Rattle.xc_text.proofs.operations.read_ops.Goals as goal

pub returns-in_default-parts-clause-ops : goal.returns-in_default-parts-clause-ops
returns-in_default-parts-clause-ops c =
    put_form c.args.version _ _ _ _
    (at_left c.args.version _ _ _ _ c.words.invariant.seen (sym c.in_default.ensures.cut ∙ c.in-Some-next.ensures))
    c.in_default-parts.ensures

pub returns-in-Err-Bad-clause-ops : goal.returns-in-Err-Bad-clause-ops
returns-in-Err-Bad-clause-ops c =
    rw c.misnamed.ensures
    (put_misnamed c.args.version _ _ _ _ _ _
    (at_left c.args.version _ _ _ _ c.words.invariant.seen (sym c.in_default.ensures.cut ∙ c.in-Some-next.ensures))
    c.in-Some-parts.ensures (rw c.in-Err-Bad.field-0-is at c.in-Err-Bad.ensures.put))

pub returns-then-is_empty-clause-ops : goal.returns-then-is_empty-clause-ops
returns-then-is_empty-clause-ops c =
    seen_empty c.args.version c.words.read.ops c.args.words.now
    (at_left c.args.version _ _ _ _ c.words.invariant.seen (sym c.in_default.ensures.cut ∙ c.in_default-next.ensures.0))
    (c.is_empty.ensures.0 c.if-is_empty.true)

pub returns-clause-ops : goal.returns-clause-ops
returns-clause-ops c =
    seen_all c.args.version c.words.read.ops c.args.words.now
    (at_left c.args.version _ _ _ _ c.words.invariant.seen (sym c.in_default.ensures.cut ∙ c.in_default-next.ensures.0))
    (λ e. both_ways _ c.if-is_empty.false (c.is_empty.ensures.1 e))

pub words-preserved-in-Some : goal.words-preserved-in-Some
words-preserved-in-Some c =
    let put = rw c.in_ok-push_bytes.was at c.push_bytes.ensures in
    record {
      seen = plain_seen c.args.version c.words.read.ops _ _ c.words.words c.plain_op.new.self c.args.words.now c.push_bytes.new.self
          c.words.invariant.seen c.in-Some.ensures.cut c.in-Some.ensures.named c.in-Some.ensures.plain put;
      span = subst (λ ops. IsSpan c.with-span.result ops) (sym put)
          (c.with-span.ensures c.words.read.ops _ c.words.invariant.span c.in-Some.ensures.hash);
    }

pub words-preserved : goal.words-preserved
words-preserved c =
    let good = with_op-good c.args.version c.words.read.ops c.put_op.new.ops _ c.in-Ok.ensures.put in
    record {
      seen = put_more c.args.version c.words.read.ops c.put_op.new.ops _ c.next.new.self c.args.words.now _
          (at_left c.args.version _ _ _ _ c.words.invariant.seen (sym c.in_default.ensures.cut ∙ c.in-Some-next.ensures))
          c.in-Some-parts.ensures c.in-Ok.ensures.put;
      span = subst (λ ops. IsSpan c.with-span-in-Ok.result ops) good.1
          (c.with-span-in-Ok.ensures c.words.read.ops _ c.words.invariant.span c.in-Ok.ensures.hash);
    }
