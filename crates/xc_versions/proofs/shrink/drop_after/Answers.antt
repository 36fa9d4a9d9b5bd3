use Rattle.std.proofs.Common.{◌≡◌, ℕ, ◌+◌, ◌-◌, ◌≤◌, ◌++◌, length, drop, sym, ◌∙◌, subst, arith}
use Rattle.std.proofs.lemmas.List.{length-map}
use Rattle.xc_versions.specs.declared.page.Page.{Page}
use Rattle.xc_versions.specs.Dues.{dues_of}
use Rattle.xc_versions.proofs.SplitLaws.{deque-long}
use Rattle.std.specs.Prelude.{nat_le}
use Rattle.std.proofs.lemmas.List.Elements.{filter-append}
use Rattle.xc_versions.specs.Stored.{up_to}
use Rattle.xc_versions.specs.Pages.{held, items_of}
use Rattle.xc_versions.specs.Pool.{Walked}
use Rattle.xc_versions.proofs.ShrinkLaws.{walked-some}
use Rattle.xc_versions.proofs.shrink.drop_after.Goals as goal

both : {a b c : ℕ} → a ≤ b → b ≤ c → a ≤ c
both h k = omega arith

pub loop-i-preserved : goal.loop-i-preserved
loop-i-preserved c =
    let b = c.args.bytes.now in
    let i = c.loop-i.i - 1 in
    let t = c.args.t in
    let old = c.args.pages.now.items in
    let same : c.loop-i.i ≡ i + 1 = omega arith in
    let before = subst (λ (k : ℕ). Walked b (up_to t) old c.loop-i.pages.items k) same c.loop-i.invariant.walked in
    record {
      store = c.drop_at.ensures.store;
      least = (let s = c.settle.ensures in
          let mid = c.loop-i.pages.items in
          let count : c.len-count.result ≡ length mid = c.len-count.ensures ∙ deque-long c.loop-i.pages in
          let long : length (dues_of mid) ≡ c.len-count.result = length-map mid (λ (p : Page). p.due) ∙ sym count in
          let short = c.loop-i.invariant.walked.short in
          s (dues_of mid) long (omega arith) c.drop_at.ensures.dues c.loop-i.invariant.least);
      walked = walked-some b (up_to t) (λ xs rest. up_to t xs ++ rest) old c.loop-i.pages.items c.drop_at.new.pages.items i before
          c.drop_at.ensures.front c.drop_at.ensures.tail
          (λ q e. sym (filter-append (λ x. nat_le x.commit t) (held b q) (items_of b (drop (i + 1) old))));
      spare = both c.loop-i.invariant.spare c.drop_at.ensures.spare;
    }
