use Rattle.std.proofs.Common.{◌≡◌, length, ap, arith}
use Rattle.std.proofs.lemmas.Grind.{common_steps}
use Rattle.xc_versions.specs.Pages.{items_of}
use Rattle.xc_versions.proofs.AddLaws.{some-pages, few-pages}
use Rattle.xc_versions.proofs.versions.Versions.pages.Goals as goal

pub returns-clause-some : goal.returns-clause-some
returns-clause-some c =
    let b = c.self.inside.arena.items in
    let ps = c.self.inside.pages.items in
    let count : c.len.result ≡ length ps = grind (arith, common_steps) in
    let same : length (items_of b ps) ≡ length c.args.self.now.items = ap (λ s. length s.items) c.self.view_is in
    let some = some-pages b ps c.self.invariant.store.paged.pages in
    omega arith

pub returns-clause-few : goal.returns-clause-few
returns-clause-few c =
    let b = c.self.inside.arena.items in
    let ps = c.self.inside.pages.items in
    let count : c.len.result ≡ length ps = grind (arith, common_steps) in
    let same : length (items_of b ps) ≡ length c.args.self.now.items = ap (λ s. length s.items) c.self.view_is in
    let few = few-pages b ps c.self.invariant.store.paged.pages in
    omega arith
