use Rattle.std.proofs.Common.{◌≡◌, ◌∙◌, refl, subst, sym, Some}
use Rattle.std.specs.Prelude.{IfSome}
use Rattle.std.proofs.lemmas.Option.{IfSome_then}
use Rattle.xc_record.specs.Accepted.{AcceptedTablet, accepted_tablet}
use Rattle.xc_record.specs.Session.{Session, IsSession}
use Rattle.xc_logs.proofs.FeedFacts.{same-feed}
use Rattle.xc_target.specs.Stands.{StandsForSession}
use Rattle.xc_target.specs.Answers.{IsDrainedOne}
use Rattle.xc_target.proofs.DrainLaws.{idle-answer, polling-starts, polling-goes-on, polling-ends, polls-end, known-still, keeps-on}
use Rattle.xc_target.proofs.draining.drain_tablet.Goals as goal

pub polls-init : goal.polls-init
polls-init g c = record {
  known = c.requires.known;
  keeps = record { fits = c.requires.fits; ranges = refl; closed = refl; feed = same-feed _ };
  faults = refl;
  polled = polling-starts (g.F.Feed.logs c.args.feed.now) c.args.id c.args.target.now c.requires.known;
}

pub polls-preserved : goal.polls-preserved
polls-preserved g c =
    let so = c.polls.invariant in
    let k = c.in_ok-answer.ensures in
    record {
      known = known-still _ _ _ _ c.polls.target c.poll.new.self c.args.id k.keeps.feed.same_headers so.keeps.fits k.keeps.fits
          so.known;
      keeps = keeps-on _ _ _ _ _ _ _ _ _ _ so.keeps k.keeps;
      faults = k.fails.fault.quiet (λ e. cc) ∙ so.faults;
      polled = polling-goes-on (g.F.Feed.logs c.args.feed.now) (g.F.Feed.logs c.polls.feed) c.args.id c.in-Polled.field-0
          c.in_ok-answer.answer c.args.target.now c.polls.target c.poll.new.self so.keeps.feed.same_logs c.in-Polled.is so.polled k.step;
    }

pub returns-in_default : goal.returns-in_default
returns-in_default g c =
    let so = c.polls.invariant in
    let k = c.in_ok-answer.ensures in
    let o = g.F.Feed.logs c.args.feed.now in
    let s = c.args.id in
    let a = c.in_ok-answer.answer in
    let old = c.args.target.now in
    let new = c.poll.new.self in
    let idle = idle-answer a c.in_default.not-Polled in
    let quiet = k.fails.fault.quiet (λ e. cc) ∙ so.faults in
    let polls = polls-end o (g.F.Feed.logs c.polls.feed) s a old c.polls.target new so.keeps.feed.same_logs idle so.polled k.step in
    record {
      keeps = keeps-on _ _ _ _ _ _ _ _ _ _ so.keeps k.keeps;
      drained = subst (λ found. IfSome o (λ logs. (m : Session) (b : AcceptedTablet) → IsSession logs m → StandsForSession logs m old
          → accepted_tablet logs s ≡ Some b → IsDrainedOne logs m s b new found)) (sym c.halt_of.ensures)
          (polling-ends o (g.F.Feed.logs c.polls.feed) s a old c.polls.target new so.keeps.feed.same_logs idle so.polled k.step);
      polls = polls;
      failed = IfSome_then o polls (λ logs f m is st. tt);
      refusal = λ t e. absurd (cc);
      fault = record { rose = λ e. absurd (cc); quiet = λ e. quiet };
    }
