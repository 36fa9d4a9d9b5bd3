use Rattle.std.proofs.Common.{◌≡◌, length, ap, arith}
use Rattle.std.proofs.lemmas.Grind.{common_steps}
use Rattle.std.proofs.lemmas.List.{nil_from_length}
use Rattle.xc_versions.specs.Pages.{items_of}
use Rattle.xc_versions.proofs.AddLaws.{some-pages, few-pages}
use Rattle.xc_versions.proofs.versions.Versions.is_empty.Goals as goal

pub returns-clause-none : goal.returns-clause-none
returns-clause-none c =
    let b = c.self.inside.arena.items in
    let ps = c.self.inside.pages.items in
    let same : length (items_of b ps) ≡ length c.args.self.now.items = ap (λ s. length s.items) c.self.view_is in
    let some = some-pages b ps c.self.invariant.store.paged.pages in
    let few = few-pages b ps c.self.invariant.store.paged.pages in (
      λ t. nil_from_length c.args.self.now.items (let none : length ps ≡ 0 = grind (arith, common_steps) in omega arith),
      λ e. let none : length c.args.self.now.items ≡ 0 =
          ap length e in let empty : length ps ≡ 0 = omega arith in grind (arith, common_steps),
    )
