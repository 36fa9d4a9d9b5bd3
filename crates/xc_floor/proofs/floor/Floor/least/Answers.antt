use Rattle.std.proofs.Common.{◌≡◌, ◌∙◌, length, min, ap, sym, arith}
use Rattle.std.proofs.lemmas.List.{at_drop_all}
use Rattle.xc_model.specs.Floors.{Floors, least_kept}
use Rattle.xc_model.proofs.FloorLaw.{kept-values}
use Rattle.xc_floor.proofs.LeastOf.{least_of, least_of-start, least_of-end}
use Rattle.xc_floor.proofs.floor.Floor.least.Goals as goal

pub loop-header-init : goal.loop-header-init
loop-header-init c = record {
  so_far = least_of-start c.args.self.now c.args.self.now.headers;
  within = omega arith;
}

at_end : (c : goal.After-loop-header) → c.loop-header.least ≡ least_kept c.args.self.now
at_end c =
    let hs = c.args.self.now.headers in
    let long = ap length (c.deref-header-items.ensures.value ∙ ap (λ (f : Floors). f.headers) c.self.view_is) in
    let none = at_drop_all (least_of c.args.self.now) hs c.loop-header.header-index (omega (arith, long)) in
    sym (least_of-end c.args.self.now c.loop-header.least c.loop-header.invariant.within) ∙ ap (min c.loop-header.least) (sym none)
    ∙ c.loop-header.invariant.so_far

pub returns-clause-safe : goal.returns-clause-safe
returns-clause-safe c = λ logs places valid legal floors. at_end c ∙ kept-values logs places c.args.self.now valid legal floors
