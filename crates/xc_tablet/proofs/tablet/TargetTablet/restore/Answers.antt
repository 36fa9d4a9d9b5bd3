use Rattle.std.proofs.Common.{◌≡◌, ℕ, ◌≤◌, List, ◌∙◌, ap, sym, subst}
use Rattle.xc_record.specs.Kept.{read}
use Rattle.xc_model.specs.Stands.{TargetTablet, kept_at, rows_shown, restore}
use Rattle.xc_model.proofs.Restores.{restores-keep}
use Rattle.xc_tablet.proofs.CutLaws.{restored-state, restored-seen}
use Rattle.xc_tablet.proofs.tablet.TargetTablet.restore.Goals as goal

pub invariant_of-self : goal.invariant_of-self
invariant_of-self c =
    restored-state c.self.inside.state c.drop_after.new.self c.clear.new.self c.args.t c.self.invariant c.drop_after.ensures.items
    c.clear.ensures.left

reads-kept : (t : ℕ) (x y : TargetTablet) → y ≡ restore t x → (v : ℕ) → v ≤ t
    → ((k : List ℕ) → read v (kept_at y k) ≡ read v (kept_at x k)) × (rows_shown v y ≡ rows_shown v x)
reads-kept t x y e v h =
    subst (λ (z : TargetTablet). ((k : List ℕ) → read v (kept_at z k) ≡ read v (kept_at x k)) × (rows_shown v z ≡ rows_shown v x)) (sym e)
    (restores-keep x t v h)

pub returns : goal.returns
returns c =
    let is = restored-seen c.self.inside.state c.drop_after.new.self c.clear.new.self c.args.t c.self.invariant c.drop_after.ensures.items
    c.clear.ensures.left
    ∙ ap (restore c.args.t) c.self.view_is in
    record {
      restored = is;
      stood = λ logs u stood after covered. record { stood = stood; after_cutoff = after; covered = covered; is = is };
      reads = reads-kept c.args.t c.args.self.now _ is;
    }
