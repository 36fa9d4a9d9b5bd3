use Rattle.xc_tool.proofs.StepLines.{read-line}
use Rattle.xc_tool.proofs.commands.read.Goals as goal

pub returns : goal.returns
returns c =
    λ logs m is st agree. read-line logs m _ _ _ _ (c.safe.ensures logs m is st) (c.read.ensures logs m is st agree) st
