use Rattle.std.proofs.Common.{◌-◌, ap, sym, nat_eq, arith}
use Rattle.std.proofs.lemmas.Nat.Bits.{shr_and_one}
use Rattle.xc_record.proofs.SubsLaws.{contains-is, none-outside}
use Rattle.xc_record.proofs.subs.Subs.contains.Goals as goal
use Rattle.xc_record.proofs.subs.Subs.contains.Goals.{then-sub-lt1-via-then-sub-lt1, then-sub-lt1-via-else-sub-lt1+then-sub-gt-LAST_SUB}

pub returns-then-sub-lt1 : goal.returns-then-sub-lt1
returns-then-sub-lt1 c = rw (← c.self.view_is) (elim c.then-sub-lt1.branch [
  | then-sub-lt1-via-then-sub-lt1 w ↦ sym
      (none-outside c.self.inside.bits c.args.sub (λ low high. absurd (omega (arith, w.if-sub-lt1.true))))
  | then-sub-lt1-via-else-sub-lt1+then-sub-gt-LAST_SUB w ↦ sym
      (none-outside c.self.inside.bits c.args.sub (λ low high. absurd (omega (arith, w.if-sub-gt-LAST_SUB.true))))
])

pub returns : goal.returns
returns c =
    let is = contains-is c.self.inside.bits c.args.sub (omega (arith, c.if-sub-lt1.false)) (omega (arith, c.if-sub-gt-LAST_SUB.false)) in
    rw (← c.self.view_is, is) (ap (λ bit. nat_eq bit 1) (shr_and_one c.self.inside.bits (c.args.sub - 1)))
