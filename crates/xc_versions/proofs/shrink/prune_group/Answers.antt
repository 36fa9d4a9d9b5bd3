use Rattle.std.proofs.Common.{◌≡◌, ℕ, ◌+◌, ◌-◌, ◌*◌, ◌≤◌, length, get_or, min, drop, sym, subst, ◌∙◌, arith}
use Rattle.std.proofs.lemmas.List.{length-map}
use Rattle.xc_versions.specs.declared.page.Page.{Page}
use Rattle.xc_versions.specs.Dues.{dues_of}
use Rattle.xc_versions.specs.Stored.{kept, pruned_before}
use Rattle.xc_versions.specs.Pages.{held, items_of}
use Rattle.xc_versions.specs.Pool.{Walked}
use Rattle.xc_versions.proofs.VersionLaws.{kept-before}
use Rattle.xc_versions.proofs.SplitLaws.{deque-long}
use Rattle.xc_versions.proofs.ShrinkLaws.{walked-some, order-at}
use Rattle.xc_versions.proofs.DueLaws.{passed-by, carried, shrunk-few}
use Rattle.xc_versions.proofs.shrink.prune_group.Goals as goal

both : {a b c : ℕ} → a ≤ b → b ≤ c → a ≤ c
both h k = omega arith

pub loop-i-init : goal.loop-i-init
loop-i-init c =
    let ps = c.args.pages.now.items in
    let count : c.len-count.result ≡ length ps = c.len-count.ensures ∙ deque-long c.args.pages.now in
    let end = min (length ps) (c.args.group * 64 + 64) in
    let same : c.min.result ≡ end = c.min.ensures ∙ (rw count) in
    let to = c.pass_idle-i.ensures.to in
    record {
      from = c.pass_idle-i.ensures.from;
      within = omega arith;
      store = c.requires.store;
      least = c.requires.least;
      walked = λ all g w. passed-by c.args.bytes.now c.args.cutoff all ps c.pass_idle-i.result end g c.requires.store.paged w (omega arith)
          (λ k l m. c.pass_idle-i.ensures.idle k l (omega arith));
      spare = omega arith;
      fewer = omega arith;
      due = λ e k l m. c.pass_idle-i.ensures.due k l (omega arith);
    }

pub loop-i-preserved : goal.loop-i-preserved
loop-i-preserved c =
    let b = c.args.bytes.now in
    let u = c.args.cutoff in
    let i = c.loop-i.i - 1 in
    let old = c.args.pages.now.items in
    let mid = c.loop-i.pages.items in
    let new = c.prune_page.new.pages.items in
    let some = c.loop-i-test.true in
    let in_mid = c.loop-i.invariant.within in
    let fewer = c.loop-i.invariant.fewer in
    let same : c.loop-i.i ≡ i + 1 = omega arith in
    let loses = c.prune_page.ensures.loses in
    let len : i ≤ length new = loses.len in
    let idle = c.pass_idle-i-in-loop-i.ensures in
    let long_mid : length (dues_of mid) ≡ length mid = length-map mid (λ (p : Page). p.due) in
    let long_new : length (dues_of new) ≡ length new = length-map new (λ (p : Page). p.due) in
    let few = shrunk-few i (dues_of mid) (dues_of new) (omega arith) loses.dues in
    let least : c.min-due.result ≡ min c.loop-i.due c.due_of.result = c.min-due.ensures in
    let lower = idle.lower in
    record {
      from = idle.from;
      within = both idle.to len;
      store = loses.store;
      least = c.prune_page.ensures.least;
      walked = λ all g w.
          let before = subst (λ (k : ℕ). Walked b (kept u) all mid k) same (c.loop-i.invariant.walked all g w) in
          let within = before.within in
          passed-by b u all new c.pass_idle-i-in-loop-i.result i g loses.store.paged
          (walked-some b (kept u) (pruned_before u) all mid new i before loses.front loses.tail
          (λ q e. sym (kept-before u (held b q) (items_of b (drop (i + 1) all)) (order-at b all i q g (omega arith) e))))
          idle.to idle.idle;
      spare = both c.loop-i.invariant.spare loses.spare;
      fewer = omega arith;
      due = λ e.
          let here : c.due_of.result ≡ get_or (dues_of new) i 0 = c.due_of.ensures (omega arith) in
          carried (dues_of mid) (dues_of new) i c.pass_idle-i-in-loop-i.result (min (length old) (c.args.group * 64 + 64)) c.loop-i.due
          c.pass_idle-i-in-loop-i.new.due (omega arith) loses.dues (omega arith) (omega arith) (omega arith)
          (λ k l m. c.loop-i.invariant.due (omega arith) k (omega arith) m) idle.due;
    }
