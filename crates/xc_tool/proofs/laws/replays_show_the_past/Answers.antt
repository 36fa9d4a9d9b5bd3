use Rattle.xc_tool.proofs.Pasts.{replays-show}
use Rattle.xc_tool.proofs.laws.replays_show_the_past.Goals as goal

pub returns : goal.returns
returns c = replays-show
