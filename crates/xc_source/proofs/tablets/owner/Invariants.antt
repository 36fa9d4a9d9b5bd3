use Rattle.std.proofs.Common.{◌≡◌, ◌+◌, ◌&&◌, drop}
use Rattle.std.specs.List.{position_or_len}
use Rattle.xc_record.specs.Hash.{holds}
use Rattle.xc_source.specs.Machine.{is_open}
use Rattle.xc_source.proofs.tablets.owner.Given as goal

abbrev pub invariant-loop-id : goal.invariant-loop-id
invariant-loop-id l =
    l.id + position_or_len (λ t. is_open t && holds t.header l.hash) (drop l.id l.tablets)
    ≡ position_or_len (λ t. is_open t && holds t.header l.hash) l.tablets
