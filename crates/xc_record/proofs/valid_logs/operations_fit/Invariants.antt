use Rattle.std.proofs.Common.{◌≡◌, ◌+◌, ◌^◌, take, sum_by}
use Rattle.xc_record.specs.Valid.{ops_in}
use Rattle.xc_record.proofs.valid_logs.operations_fit.Given as goal

abbrev pub invariant-loop-t : goal.invariant-loop-t
invariant-loop-t l = l.room + sum_by (λ t. sum_by (λ r. ops_in r.kind) t.records) (take l.t-index l.tablets) ≡ 2 ^ 22
