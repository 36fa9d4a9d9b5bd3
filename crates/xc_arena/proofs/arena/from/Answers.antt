use Rattle.std.proofs.Common.{◌-◌, length, drop, sym, subst, arith}
use Rattle.std.proofs.lemmas.List.{take_all, length-drop}
use Rattle.xc_record.specs.Packed.{IsAt}
use Rattle.xc_arena.proofs.ArenaLaws.{lies-is_at}
use Rattle.xc_arena.proofs.arena.from.Goals as goal

pub returns-clause-op : goal.returns-clause-op
returns-clause-op c =
    let bytes = c.args.bytes.now in
    let at = c.args.at in
    let long = length-drop at bytes in
    subst IsAt (sym (take_all (length bytes - at) (drop at bytes) (omega arith))) (lies-is_at bytes at c.requires)
