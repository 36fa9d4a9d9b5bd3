use Rattle.std.proofs.Common.{sym, ap, ◌∙◌, Ok}
use Rattle.std.specs.Option.{option_copied}
use Rattle.xc_record.specs.Hash.{hash_of}
use Rattle.xc_text.proofs.OpsLaws.{plain_put}
use Rattle.xc_text.proofs.PlainOps.{plain_key}
use Rattle.xc_text.proofs.operations.put_op.Goals as goal

pub returns-then-are_plain-clause-put : goal.returns-then-are_plain-clause-put
returns-then-are_plain-clause-put c =
    plain_put c.args.version c.args.ops.now _ (sym c.are_plain.ensures ∙ c.if-are_plain.true)
    ∙ ap Ok (sym (rw c.in_ok-push_bytes.was at c.push_bytes.ensures))

pub returns-then-are_plain-clause-hash : goal.returns-then-are_plain-clause-hash
returns-then-are_plain-clause-hash c =
    c.hash_bytes.ensures ∙ ap hash_of (plain_key c.args.version (record { key = c.args.key.now; value = option_copied c.args.value })
    (sym c.are_plain.ensures ∙ c.if-are_plain.true))
