use Rattle.std.proofs.Common.{refl, ap}
use Rattle.std.specs.Prelude.{option_map}
use Rattle.xc_order.specs.Walks.{halt_at}
use Rattle.xc_change.proofs.reader.stopped.Goals as goal

pub returns-in-Some : goal.returns-in-Some
returns-in-Some c = (refl, (c.in-Some.halt.number, ap (option_map halt_at) c.in-Some.is))
