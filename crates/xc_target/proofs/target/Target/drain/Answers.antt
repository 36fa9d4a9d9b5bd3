use Rattle.std.proofs.Common.{◌≡◌, ◌+◌, ◌++◌, ◌∷◌, [], ◌∙◌, Err, length, ap, sym, subst, arith}
use Rattle.std.specs.Prelude.{IfSome}
use Rattle.std.specs.List.{cons_option}
use Rattle.std.proofs.lemmas.Grind.{common_steps}
use Rattle.std.proofs.lemmas.List.{append-nil}
use Rattle.xc_target.specs.Target.{TargetState}
use Rattle.xc_target.proofs.DrainLaws.{count-still, keeps-on}
use Rattle.xc_target.proofs.PassLaws.{Draining, draining-goes-on, draining-fails, draining-stops, draining-ends, few-pollers}
use Rattle.xc_target.proofs.target.Target.drain.Goals.{in-Some-2+else-is_err, in_default-2}
use Rattle.xc_target.proofs.target.Target.drain.Goals as goal

pub overflow_cast-id-end : goal.overflow_cast-id-end
overflow_cast-id-end g c =
    let hs = g.F.Feed.headers c.args.feed.now in
    let few = few-pollers hs (g.F.Feed.counts c.args.feed.now) c.args.self.now (g.met.F.Feed.shape c.args.feed.now).fit c.requires.fits in
    let same : length c.self.inside.pollers.items ≡ length c.args.self.now.pollers =
    ap (λ (t : TargetState). length t.pollers) c.self.view_is in
    omega (arith, few, same, c.len-id-end.ensures)

pub returns-in_err-halt-clause-keeps : goal.returns-in_err-halt-clause-keeps
returns-in_err-halt-clause-keeps g c = keeps-on _ _ _ _ _ _ _ _ _ _ c.loop-id.invariant.keeps c.in_err-halt.ensures.keeps

pub returns-then-is_err-clause-keeps : goal.returns-then-is_err-clause-keeps
returns-then-is_err-clause-keeps g c = keeps-on _ _ _ _ _ _ _ _ _ _ c.loop-id.invariant.keeps c.in_ok-halt.ensures.keeps

pub returns-in_err-halt-clause-failed : goal.returns-in_err-halt-clause-failed
returns-in_err-halt-clause-failed g c =
    let so = c.loop-id.invariant in
    let e = c.in_err-halt.field-0.0 in
    let fails = draining-fails (g.F.Feed.logs c.args.feed.now) (g.F.Feed.logs c.loop-id.feed) c.loop-id.id c.args.self.now c.loop-id.self
    c.drain_tablet.new.target c.loop-id.halts.items e so.keeps.feed.same_logs so.was_open so.drained c.in_err-halt.ensures.failed in
    let is : c.from_residual.result ≡ Err e = grind (arith, common_steps) in
    rw is fails

pub returns-then-is_err-clause-failed : goal.returns-then-is_err-clause-failed
returns-then-is_err-clause-failed g c =
    let so = c.loop-id.invariant in
    draining-stops (g.F.Feed.logs c.args.feed.now) (g.F.Feed.logs c.loop-id.feed) c.loop-id.id c.args.self.now c.loop-id.self
    c.drain_tablet.new.target c.loop-id.halts.items so.keeps.feed.same_logs so.drained c.in_ok-halt.ensures.polls

pub loop-id-preserved : goal.loop-id-preserved
loop-id-preserved g c =
    let so = c.loop-id.invariant in
    let k = c.in_ok-halt.ensures in
    let o = g.F.Feed.logs c.args.feed.now in
    let old = c.args.self.now in
    let new = c.drain_tablet.new.target in
    let found = c.in_ok-halt.field-0 in
    let hs = g.F.Feed.headers c.loop-id.feed in
    let cs = g.F.Feed.counts c.loop-id.feed in
    let count = count-still hs _ cs _ c.loop-id.self new k.keeps.feed.same_headers so.keeps.fits k.keeps.fits in
    let known = so.known in
    let quiet = k.fault.quiet (λ e. cc) in
    let more : c.match-branch-2.halts.items ≡ c.loop-id.halts.items ++ cons_option found [] =
    elim c.match-branch-2.branch [
      | in-Some-2+else-is_err w ↦
          let pushed : w.push.new.self.items ≡ c.loop-id.halts.items ++ w.in-Some-2.halt ∷ [] = grind (arith, common_steps) in
          rw (w.halts-is, w.in-Some-2.is) pushed
      | in_default-2 w ↦ rw (w.halts-is, w.in_default-2.is) (sym (append-nil c.loop-id.halts.items))
    ] in
    record {
      within = omega (arith, c.loop-id-test.true);
      known = so.known ∙ sym count;
      all = so.all;
      keeps = keeps-on _ _ _ _ _ _ _ _ _ _ so.keeps k.keeps;
      was_open = so.was_open;
      faults = quiet ∙ so.faults;
      drained = subst (λ items. IfSome o (Draining (c.loop-id.id + 1) old new items)) (sym more)
          (draining-goes-on o (g.F.Feed.logs c.loop-id.feed) c.loop-id.id old c.loop-id.self new c.loop-id.halts.items found
          so.keeps.feed.same_logs (omega (arith, c.loop-id-test.true)) so.drained k.drained k.polls);
    }

pub returns-clause-drained : goal.returns-clause-drained
returns-clause-drained g c =
    let so = c.loop-id.invariant in
    draining-ends (g.F.Feed.logs c.args.feed.now) c.loop-id.id c.args.self.now c.loop-id.self c.loop-id.halts.items so.was_open
    (omega (arith, c.loop-id-test.false, so.all)) so.drained
