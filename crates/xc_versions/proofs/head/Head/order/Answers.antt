use Rattle.std.proofs.Common.{◌≡◌, ℕ, List, true, length, ◌<◌, arith, sym, ap, ◌∙◌}
use Rattle.std.proofs.lemmas.Bool.{ltb-true}
use Rattle.xc_base.specs.Names.{are_bytes}
use Rattle.xc_versions.specs.declared.head.Head.{Head}
use Rattle.xc_versions.specs.Heads.{head_of}
use Rattle.xc_versions.proofs.HeadLaws.{IsHead, fronts-tell, backs-tell, heads-same}
use Rattle.xc_versions.proofs.head.Head.order.Goals as goal

is_head : (h : Head) (k : List ℕ) → are_bytes k ≡ true → h ≡ head_of k → h.back < 18446744073709551616 → IsHead h.front h.back k
is_head h k b e s = record {
  bytes = b;
  front_is = ap (λ (h : Head). h.front) e;
  back_is = ap (λ (h : Head). h.back) e;
  small = s;
}

pub returns-then-self-other : goal.returns-then-self-other
returns-then-self-other c k q e f g h =
    c.cmp.ensures
    ∙ fronts-tell _ _ _ _ k q (is_head c.args.self.now k e g (omega arith)) (is_head c.args.other.now q f h (omega arith))
    c.if-self-other.true

pub returns-then-back-other_back : goal.returns-then-back-other_back
returns-then-back-other_back c k q e f g h =
    c.cmp-then-back-other_back.ensures
    ∙ backs-tell _ _ _ _ k q (is_head c.args.self.now k e g (omega arith)) (is_head c.args.other.now q f h (omega arith))
    c.if-self-other.false c.if-back-other_back.true

pub returns-then-is_whole : goal.returns-then-is_whole
returns-then-is_whole c k q e f g h =
    let short = ltb-true (length k) 16 (sym (c.is_whole.ensures k g) ∙ c.if-is_whole.true) in
    heads-same _ _ _ _ k q (is_head c.args.self.now k e g (omega arith)) (is_head c.args.other.now q f h (omega arith))
    c.if-self-other.false c.if-back-other_back.false (omega arith)
