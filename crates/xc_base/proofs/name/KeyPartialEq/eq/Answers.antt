use Rattle.std.proofs.Common.{sym, ◌∙◌}
use Rattle.std.proofs.lemmas.Bool.{ne_eqb}
use Rattle.xc_base.proofs.KeyOrder.{level-eq, apart-eq}
use Rattle.xc_base.proofs.name.KeyPartialEq.eq.Goals as goal

pub returns-then-self-other : goal.returns-then-self-other
returns-then-self-other c =
    let a = c.self in
    let b = c.other in
    c.eq.ensures
    ∙ level-eq c.args.self.now c.args.other.now a.inside.bytes b.inside.bytes a.inside.len b.inside.len
    (record { left = a.invariant.padded; right = b.invariant.padded; left_is = a.view_is; right_is = b.view_is }) c.if-self-other.true

pub returns-else-self-other : goal.returns-else-self-other
returns-else-self-other c =
    let a = c.self in
    let b = c.other in
    ne_eqb a.inside.len b.inside.len c.if-self-other.false
    ∙ sym
    (apart-eq c.args.self.now c.args.other.now a.inside.bytes b.inside.bytes a.inside.len b.inside.len
    (record { left = a.invariant.padded; right = b.invariant.padded; left_is = a.view_is; right_is = b.view_is }) c.if-self-other.false)
