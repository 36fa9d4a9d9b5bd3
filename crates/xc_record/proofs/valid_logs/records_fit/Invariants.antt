use Rattle.std.proofs.Common.{◌≡◌, ◌+◌, ◌^◌, take, length, sum_by}
use Rattle.xc_record.proofs.valid_logs.records_fit.Given as goal

abbrev pub invariant-loop-t : goal.invariant-loop-t
invariant-loop-t l = l.room + sum_by (λ t. length t.records) (take l.t-index l.tablets) ≡ 2 ^ 20
