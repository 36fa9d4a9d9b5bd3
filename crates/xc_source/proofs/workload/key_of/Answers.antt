use Rattle.std.proofs.Common.{◌∙◌, ap, arith}
use Rattle.xc_base.specs.Names.{is_key}
use Rattle.xc_source.proofs.WorkloadLaws.{is_key_of, key_front}
use Rattle.xc_source.proofs.workload.key_of.Goals as goal

pub of-requires : goal.of-requires
of-requires c =
    ap is_key
    (key_front c.args.number c.as_bytes-digits.result.now c.copy_from_slice.new.self _
    (c.as_bytes-digits.ensures.value ∙ c.format.ensures.text) c.copy_from_slice.ensures.after)
    ∙ is_key_of c.args.number (omega (arith, c.ranges.number))

pub returns : goal.returns
returns c =
    c.of.ensures
    ∙ key_front c.args.number c.as_bytes-digits.result.now c.copy_from_slice.new.self _
    (c.as_bytes-digits.ensures.value ∙ c.format.ensures.text) c.copy_from_slice.ensures.after
