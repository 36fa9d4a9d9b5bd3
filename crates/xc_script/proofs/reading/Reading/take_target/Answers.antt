use Rattle.std.proofs.Common.{◌≡◌, true, codes, arith, ap, ◌∙◌}
use Rattle.std.specs.Prelude.{bytes_eq}
use Rattle.xc_script.proofs.StepLaws.{target_step}
use Rattle.xc_script.proofs.LineTextLaws.{then_by}
use Rattle.xc_script.specs.ScriptText.{with_bounds}
use Rattle.xc_script.proofs.WordLists.{texts}
use Rattle.xc_script.proofs.reading.Reading.take_target.Goals as goal

pub returns : goal.returns
returns c =
    let named : bytes_eq c.args.first.now (codes "target") ≡ true = grind arith in
    rw (target_step c.args.self.now c.args.first.now (texts c.args.rest.now) c.requires named
    ∙ ap (then_by (with_bounds c.args.self.now)) c.in_ok-bounds.ensures) c.set_bounds.ensures
