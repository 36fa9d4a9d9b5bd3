use Rattle.xc_versions.proofs.HeadLaws.{beginning-made}
use Rattle.xc_versions.proofs.head.beginning.Goals as goal

pub returns : goal.returns
returns c =
    beginning-made c.args.key.now c.copy_from_slice.new.self c.min-count.result c.min.result c.min-count.ensures c.min.ensures
    c.copy_from_slice.ensures.after
