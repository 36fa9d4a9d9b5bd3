use Rattle.xc_base.proofs.KeyOrder.{level-cmp, apart-cmp}
use Rattle.xc_base.proofs.name.KeyOrd.cmp.Goals as goal

pub returns-in-Equal : goal.returns-in-Equal
returns-in-Equal c =
    let a = c.self in
    let b = c.other in
    level-cmp c.args.self.now c.args.other.now a.inside.bytes b.inside.bytes a.inside.len b.inside.len _
    (record { left = a.invariant.padded; right = b.invariant.padded; left_is = a.view_is; right_is = b.view_is }) c.in-Equal.ensures
    c.cmp.ensures

pub returns-in_default : goal.returns-in_default
returns-in_default c =
    let a = c.self in
    let b = c.other in
    apart-cmp c.args.self.now c.args.other.now a.inside.bytes b.inside.bytes a.inside.len b.inside.len _
    (record { left = a.invariant.padded; right = b.invariant.padded; left_is = a.view_is; right_is = b.view_is }) c.order.ensures
    c.in_default.not-Equal
