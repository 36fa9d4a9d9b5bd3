use Rattle.std.proofs.Common.{arith}
use Rattle.std.proofs.lemmas.Grind.{common_steps}
use Rattle.xc_source.proofs.CallLaws.{put-next}
use Rattle.xc_source.proofs.universe.SourceUniverse.put_now.Goals as goal

pub returns-in-Ok-clause-ok : goal.returns-in-Ok-clause-ok
returns-in-Ok-clause-ok c = (
  grind (arith, common_steps),
  put-next c.args.op c.args.self.now c.self.inside.journal c.log.new.self c.self.inside.commits c.push.new.self
      c.self.inside.txns c.in_ok-ops.ops c.one_op.new.room c.owner-id.result _ c.self.view_is c.owner-id.ensures
      c.in_ok-ops.ensures.ops (c.in-Ok.ensures.ok).1 c.in_ok-ops.ensures.room (grind (arith, common_steps))
      c.in_ok-push.ensures.ok,
)
