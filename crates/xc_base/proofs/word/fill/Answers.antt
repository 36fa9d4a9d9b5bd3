use Rattle.std.proofs.Common.{◌≡◌, ℕ, Bool, true, false, Some, None, sym, ◌∙◌, subst, arith, if◌then◌else◌, refl}
use Rattle.xc_base.specs.Escapes.{begins_escape, escape_value}
use Rattle.xc_base.proofs.EscapeLaws.{Fills, rest_is, fill_inside, fill_byte, fill_escape, fill_all, fills_none, room_left}
use Rattle.xc_base.proofs.word.fill.Goals as goal
use Rattle.xc_base.proofs.word.fill.Goals.{in-None, in-Some}

none_begins : (b : Bool) (n : ℕ) → None ≡ (if b then Some n else None) → b ≡ false
none_begins true n e = cc
none_begins false n e = refl

some_begins : (b : Bool) (m n : ℕ) → Some m ≡ (if b then Some n else None) → (b ≡ true) × (m ≡ n)
some_begins true m n e = (refl, cc)
some_begins false m n e = cc

pub loop-at-init : goal.loop-at-init
loop-at-init c = fills_none c.args.word.now c.args.out.now c.requires.right c.requires.room

pub loop-at-preserved-then-digits-gt0 : goal.loop-at-preserved-then-digits-gt0
loop-at-preserved-then-digits-gt0 c =
    fill_inside c.args.word.now c.loop-at.out c.loop-at.at c.loop-at.digits c.loop-at.len c.loop-at-test.true c.if-digits-gt0.true
    c.loop-at.invariant

pub bounds-out-len : goal.bounds-out-len
bounds-out-len c =
    let none : c.loop-at.digits ≡ 0 = omega (arith, c.if-digits-gt0.false) in
    room_left c.args.word.now c.loop-at.out c.loop-at.at c.loop-at.len c.loop-at-test.true
    (subst (λ d. Fills c.args.word.now c.loop-at.out c.loop-at.at d c.loop-at.len) none c.loop-at.invariant)

pub loop-at-preserved : goal.loop-at-preserved
loop-at-preserved c =
    let none : c.loop-at.digits ≡ 0 = omega (arith, c.if-digits-gt0.false) in
    let here = subst (λ d. Fills c.args.word.now c.loop-at.out c.loop-at.at d c.loop-at.len) none c.loop-at.invariant in
    let room = room_left c.args.word.now c.loop-at.out c.loop-at.at c.loop-at.len c.loop-at-test.true here in
    let answer = subst (λ xs. c.escape_value.result ≡ (if begins_escape xs then Some (escape_value xs) else None))
    (rest_is c.args.word.now c.loop-at.at) c.escape_value.ensures in
    elim c.match-escape_value.branch [
      | in-None w ↦ rw (w.out-is, w.digits-is)
          (rw none (fill_byte c.args.word.now c.loop-at.out c.loop-at.at c.loop-at.len c.loop-at-test.true room
          (none_begins _ _ (sym w.in-None.is ∙ answer)) here))
      | in-Some w ↦
          let is = some_begins _ _ _ (sym w.in-Some.is ∙ answer) in
          rw (w.out-is, w.digits-is, is.1)
          (fill_escape c.args.word.now c.loop-at.out c.loop-at.at c.loop-at.len c.loop-at-test.true room is.0 here)
    ]

pub returns : goal.returns
returns c = fill_all c.args.word.now c.loop-at.out c.loop-at.at c.loop-at.digits c.loop-at.len c.loop-at-test.false c.loop-at.invariant
