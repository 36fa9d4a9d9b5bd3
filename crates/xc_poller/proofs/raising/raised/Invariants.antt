use Rattle.std.proofs.Common.{◌≡◌, take}
use Rattle.std.specs.Prelude.{fold}
use Rattle.xc_poller.specs.Poller.{raised_by}
use Rattle.xc_poller.proofs.raising.raised.Given as goal

abbrev pub invariant-loop-record : goal.invariant-loop-record
invariant-loop-record l = l.greatest ≡ fold raised_by l.floor (take l.record-index l.records)
