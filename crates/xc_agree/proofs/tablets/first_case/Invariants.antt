use Rattle.std.proofs.Common.{[], take}
use Rattle.xc_record.specs.Accepted.{accepted_tablets_after}
use Rattle.xc_agree.specs.Seen.{IsIdle}
use Rattle.xc_agree.specs.Cases.{AreLeft, IsFirst, cases_of, of_tablets}
use Rattle.xc_agree.proofs.tablets.first_case.Given as goal

abbrev pub invariant-loop-i : goal.invariant-loop-i
invariant-loop-i l = record {
  idle : IsIdle l.look l.commits;
  left : AreLeft l.lefts.items l.lasts.items l.commits (accepted_tablets_after [] (take l.i l.tablets));
  first : IsFirst l.first (cases_of (of_tablets l.tablets) l.commits (accepted_tablets_after [] (take l.i l.tablets)));
}
