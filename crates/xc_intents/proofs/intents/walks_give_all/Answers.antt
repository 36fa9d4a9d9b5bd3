use Rattle.xc_intents.proofs.GiftLaws.{walks_give_all}
use Rattle.xc_intents.proofs.intents.walks_give_all.Goals as goal

pub returns : goal.returns
returns c = walks_give_all
