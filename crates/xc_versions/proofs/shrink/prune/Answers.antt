use Rattle.std.proofs.Common.{◌≡◌, ℕ, ◌+◌, ◌-◌, ◌*◌, ◌/◌, ◌≤◌, length, min, subst, ◌∙◌, refl, arith}
use Rattle.xc_versions.specs.Dues.{dues_of, Covers}
use Rattle.xc_versions.specs.Stored.{kept}
use Rattle.xc_versions.specs.Pool.{Walked}
use Rattle.xc_versions.proofs.SplitLaws.{deque-long}
use Rattle.xc_versions.proofs.ShrinkLaws.{walked-start}
use Rattle.xc_versions.proofs.DueLaws.{groups-passed}
use Rattle.xc_versions.proofs.shrink.prune.Goals as goal

both : {a b c : ℕ} → a ≤ b → b ≤ c → a ≤ c
both h k = omega arith

pub loop-left-init : goal.loop-left-init
loop-left-init c =
    let ps = c.args.pages.now.items in
    let count : c.len.result ≡ length ps = c.len.ensures ∙ deque-long c.args.pages.now in
    let to = c.due_groups-left.ensures.to in
    let least : Covers (dues_of ps) c.fill.new.least.items =
    λ k l. let a = c.fill.ensures (k / 64) in let b = c.requires.least k l in omega arith in
    record {
      store = c.requires.store;
      least = least;
      walked = groups-passed c.args.bytes.now c.args.cutoff ps ps c.fill.new.least.items c.due_groups-left.result (c.len.result / 64 + 1)
          c.requires.store.paged c.requires.store.paged least
          (subst (λ (k : ℕ). Walked c.args.bytes.now (kept c.args.cutoff) ps ps k) (omega arith)
          (walked-start c.args.bytes.now (kept c.args.cutoff) ps refl))
          to
          (rw c.deref.ensures.value at c.due_groups-left.ensures.idle);
      within = omega arith;
      spare = omega arith;
    }

pub loop-left-preserved : goal.loop-left-preserved
loop-left-preserved c =
    let b = c.args.bytes.now in
    let u = c.args.cutoff in
    let old = c.args.pages.now.items in
    let mid = c.loop-left.pages.items in
    let new = c.prune_group.new.pages.items in
    let group = c.loop-left.left - 1 in
    let some = c.loop-left-test.true in
    let to = c.due_groups-left-in-loop-left.ensures.to in
    let before : min (length mid) (c.loop-left.left * 64) ≡ min (length mid) (64 * group + 64) = omega arith in
    let w : Walked b (kept u) old new (64 * group) =
    c.prune_group.ensures.walked old c.requires.store.paged
    (subst (λ (k : ℕ). Walked b (kept u) old mid k) before c.loop-left.invariant.walked) in
    let short = w.short in
    let spare = c.loop-left.invariant.spare in
    let more = c.prune_group.ensures.spare in
    record {
      store = c.prune_group.ensures.store;
      least = c.prune_group.ensures.least;
      walked = groups-passed b u old new c.prune_group.new.least.items c.due_groups-left-in-loop-left.result group c.requires.store.paged
          c.prune_group.ensures.store.paged c.prune_group.ensures.least
          (subst (λ (k : ℕ). Walked b (kept u) old new k) (omega arith) w) to
          (rw c.deref-in-loop-left.ensures.value at c.due_groups-left-in-loop-left.ensures.idle);
      within = omega arith;
      spare = both spare more;
    }
