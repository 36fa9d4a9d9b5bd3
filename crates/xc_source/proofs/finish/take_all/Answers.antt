use Rattle.std.proofs.Common.{◌∙◌, ap, sym, get_or}
use Rattle.std.proofs.lemmas.List.Sums.{fold_more}
use Rattle.xc_source.specs.Holders.{numbered, committed_at}
use Rattle.xc_source.specs.Finish.{headers_of, taken_at}
use Rattle.xc_source.proofs.FinishLaws.{taken-committed}
use Rattle.xc_source.proofs.finish.take_all.Goals as goal

pub loop-pair-preserved : goal.loop-pair-preserved
loop-pair-preserved c =
    let hs = headers_of c.args.tablets.now in
    let p = get_or c.args.pairs.now c.loop-pair.pair-index (0, 0) in record {
      taken =
          c.take_at.ensures ∙ ap (taken_at hs p) c.loop-pair.invariant.taken
          ∙ sym (fold_more (λ ts q. taken_at hs q ts) c.args.txns.now c.args.pairs.now c.loop-pair.pair-index (0, 0) c.loop-pair-test.true);
      committed = λ n.
          ap (λ ts. committed_at (numbered ts n)) c.take_at.ensures ∙ taken-committed hs p c.loop-pair.txns n
          ∙ c.loop-pair.invariant.committed n;
    }
