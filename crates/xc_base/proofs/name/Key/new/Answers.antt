use Rattle.std.proofs.Common.{sym}
use Rattle.xc_base.proofs.NameLemmas.{key-no_fault}
use Rattle.xc_base.proofs.name.Key.new.Goals as goal

pub of-requires : goal.of-requires
of-requires c = key-no_fault c.args.bytes.now (sym c.in_ok-check_name.ensures)
