use Rattle.std.proofs.Common.{◌≡◌, ◌∙◌, ap, arith}
use Rattle.std.specs.Prelude.{is_some}
use Rattle.xc_tool.proofs.ReportLine.{told-more, told-all, report-is}
use Rattle.xc_tool.proofs.report.report_line.Goals as goal

pub loop-id-preserved : goal.loop-id-preserved
loop-id-preserved c =
    record {
      told = λ logs m is st.
          told-more logs m c.args.target.now c.args.sources c.loop-id.id
          (record {
            place = c.session-numbers.result.place;
            cursor = c.session-numbers.result.cursor;
            acknowledged =
                c.session-numbers.result.acknowledged;
          }) c.loop-id.acks.items c.loop-id.cursors.items c.loop-id.places.items
          _ _ _ st c.requires c.loop-id-test.true (c.session-numbers.ensures logs m st)
          (record {
            acks_are = c.in_ok-push.ensures.items;
            cursors_are = c.in_ok-push-2.ensures.items;
            places_are =
                c.in_ok-push-3.ensures.items;
          }) (c.loop-id.invariant.told logs m is st);
    }

pub returns : goal.returns
returns c =
    λ logs m is st.
    let at : c.loop-id.id ≡ c.args.sources = omega arith in
    report-is logs m _ c.loop-id.acks.items c.loop-id.cursors.items c.loop-id.places.items _ _ _ _ _ _
    (told-all logs m c.args.target.now c.args.sources c.loop-id.id _ _ _ st c.requires at (c.loop-id.invariant.told logs m is st))
    c.from_vec.ensures c.from_vec-2.ensures c.from_vec-3.ensures (c.is_some.ensures
    ∙ ap is_some (c.closed.ensures.session logs m st)) (c.cutoff.ensures.session logs m st) (c.safe.ensures logs m is st) st
