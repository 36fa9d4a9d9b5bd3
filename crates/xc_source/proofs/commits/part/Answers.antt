use Rattle.std.proofs.Common.{◌≡◌, ◌<◌, ◌++◌, ◌∷◌, ◌-◌, [], ℕ, zero, suc, List, take, drop, ap, sym, ◌∙◌, arith, rules, append_assoc}
use Rattle.xc_record.specs.declared.record.Op.{Op}
use Rattle.xc_source.proofs.commits.part.Goals as goal

-- the operation x is passed
pass : (before left : ℕ) (part rest : List Op) (x : Op) → 0 < before
    → part ++ take left (drop before (x ∷ rest)) ≡ part ++ take left (drop (before - 1) rest)
pass zero left part rest x h = absurd (omega arith)
pass (suc n) left part rest x h = let m : n ≡ suc n - 1 = omega arith in ap (λ k. part ++ take left (drop k rest)) m

-- it is taken
take-one : (before left : ℕ) (part rest : List Op) (x : Op) → before ≡ 0 → 0 < left
    → part ++ take left (drop before (x ∷ rest)) ≡ (part ++ x ∷ []) ++ take (left - 1) (drop before rest)
take-one before zero part rest x e h = absurd (omega arith)
take-one zero (suc n) part rest x e h =
    let m : n ≡ suc n - 1 = omega arith in
    ap (λ k. part ++ x ∷ take k rest) m ∙ sym (append_assoc part (x ∷ []) (take (suc n - 1) rest))
take-one (suc k) (suc n) part rest x e h = absurd (omega arith)

pub loop-op-preserved-then-before-gt0 : goal.loop-op-preserved-then-before-gt0
loop-op-preserved-then-before-gt0 c =
    sym (pass c.loop-op.before c.loop-op.left c.loop-op.part c.next.new.self c.in-Some.op c.if-before-gt0.true)
    ∙ sym (ap (λ ops. c.loop-op.part ++ take c.loop-op.left (drop c.loop-op.before ops)) c.in-Some.ensures.steps)
    ∙ c.loop-op.invariant

pub loop-op-preserved-then-left-gt0 : goal.loop-op-preserved-then-left-gt0
loop-op-preserved-then-left-gt0 c =
    let pushed : c.push_at.new.self ≡ c.loop-op.part ++ c.in-Some.op ∷ [] = search rules in
    ap (λ part. part ++ take (c.loop-op.left - 1) (drop c.loop-op.before c.next.new.self)) pushed
    ∙ sym (take-one c.loop-op.before c.loop-op.left c.loop-op.part c.next.new.self c.in-Some.op (omega arith) c.if-left-gt0.true)
    ∙ sym (ap (λ ops. c.loop-op.part ++ take c.loop-op.left (drop c.loop-op.before ops)) c.in-Some.ensures.steps)
    ∙ c.loop-op.invariant
