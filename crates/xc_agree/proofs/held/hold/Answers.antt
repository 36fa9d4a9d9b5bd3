use Rattle.std.proofs.Common.{◌≡◌, List, subst, ◌∙◌}
use Rattle.std.specs.Prelude.{◌&&◌, ◌||◌}
use Rattle.std.proofs.lemmas.List.{take_all}
use Rattle.xc_record.specs.Hash.{holds}
use Rattle.xc_record.specs.declared.record.Record.{Record}
use Rattle.xc_agree.specs.Seen.{since_in}
use Rattle.xc_agree.specs.Held.{is_held, is_start, intends_since}
use Rattle.xc_agree.proofs.HeldLaws.{hold-more, hold-none}
use Rattle.xc_agree.proofs.held.hold.Goals as goal

pub loop-i-init : goal.loop-i-init
loop-i-init c = record {
  held = λ slots n h. (c.in_ok-more.ensures c.args.commits.now slots).waits n h
      ∙ hold-none n h (since_in c.args.commits.now c.args.look.now n)
      (is_held c.args.held.now n h && (holds c.args.header.now h && is_start (since_in c.args.commits.now c.args.look.now n)));
  slots = λ slots. (c.in_ok-more.ensures c.args.commits.now slots).slots;
}

pub loop-i-preserved : goal.loop-i-preserved
loop-i-preserved c = record {
  held = λ slots n h.
      hold-more n h (since_in c.args.commits.now c.args.look.now n) c.args.records.now c.loop-i.i c.index-records-i.result
      (is_held c.loop-i.more.items n h) (is_held c.hold_record.new.held.items n h)
      (is_held c.args.held.now n h && (holds c.args.header.now h && is_start (since_in c.args.commits.now c.args.look.now n)))
      c.loop-i-test.true c.index-records-i.is (c.loop-i.invariant.held slots n h) (c.in_ok-hold_record.ensures.held n h);
  slots = λ slots. c.in_ok-hold_record.ensures.slots (c.loop-i.invariant.slots slots);
}

pub returns-clause-held : goal.returns-clause-held
returns-clause-held c = λ slots n h.
    subst (λ (rs : List Record). is_held c.loop-i.more.items n h
    ≡ ((is_held c.args.held.now n h && (holds c.args.header.now h && is_start (since_in c.args.commits.now c.args.look.now n))) ||
    intends_since n h (since_in c.args.commits.now c.args.look.now n) rs))
    (take_all c.loop-i.i c.args.records.now c.loop-i-test.false) (c.loop-i.invariant.held slots n h)
