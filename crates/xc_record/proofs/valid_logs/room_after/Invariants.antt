use Rattle.std.proofs.Common.{◌≡◌, ◌+◌, take, sum_by}
use Rattle.xc_record.specs.Valid.{ops_in}
use Rattle.xc_record.proofs.valid_logs.room_after.Given as goal

abbrev pub invariant-loop-r : goal.invariant-loop-r
invariant-loop-r l = l.left + sum_by (λ r. ops_in r.kind) (take l.r-index l.records) ≡ l.room
