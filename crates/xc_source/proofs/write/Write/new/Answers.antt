use Rattle.std.proofs.Common.{◌≡◌, ◌∙◌, ap, sym, [], true}
use Rattle.xc_record.specs.Hash.{hash_of}
use Rattle.xc_record.specs.Packed.{encode_op}
use Rattle.xc_record.specs.declared.record.Op.{Op}
use Rattle.xc_arena.proofs.ArenaLaws.{put-lies, put-op}
use Rattle.xc_source.specs.declared.transaction.Provisional.{Provisional}
use Rattle.xc_source.proofs.write.Write.new.Goals as goal

pub invariant_of-result : goal.invariant_of-result
invariant_of-result c =
    let op = c.args.op.now in
    let bytes = c.in_ok-bytes.bytes.items in
    let is : bytes ≡ encode_op op = c.in_ok-bytes.ensures.ok ∙ c.bytes.ensures.bytes in
    record {
      lies = put-lies [] bytes op c.bytes.ensures.well is;
      same = c.hash_bytes.ensures ∙ ap hash_of c.key_bytes.ensures.bytes
          ∙ ap (λ (o : Op). hash_of o.key) (sym (put-op [] bytes op c.bytes.ensures.well is));
    }

pub returns : goal.returns
returns c =
    let op = c.args.op.now in
    let bytes = c.in_ok-bytes.bytes.items in
    let is : bytes ≡ encode_op op = c.in_ok-bytes.ensures.ok ∙ c.bytes.ensures.bytes in
    let with_op : Op → Provisional = λ o. record { sub = c.args.sub; op = o; waits = true } in
    ap with_op (put-op [] bytes op c.bytes.ensures.well is)
