use Rattle.xc_tool.proofs.StepLines.{safe-line}
use Rattle.xc_tool.proofs.commands.safe.Goals as goal

pub returns : goal.returns
returns c =
    λ logs m is st. safe-line logs m _ _ (c.safe.ensures logs m is st) st
