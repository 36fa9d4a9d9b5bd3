use Rattle.std.proofs.Common.{◌≡◌, map, take}
use Rattle.xc_poller.specs.Poller.{new_poller}
use Rattle.xc_target.proofs.opening.new_pollers.Given as goal

abbrev pub invariant-loop-header : goal.invariant-loop-header
invariant-loop-header l = l.pollers.items ≡ map new_poller (take l.header-index l.headers)
