use Rattle.std.proofs.Common.{◌≡◌, ◌<◌, length, arith, sym, ◌∙◌}
use Rattle.std.proofs.lemmas.List.{length-map}
use Rattle.xc_versions.specs.declared.page.Page.{Page}
use Rattle.xc_versions.specs.Dues.{dues_of}
use Rattle.std.proofs.lemmas.Grind.{common_steps}
use Rattle.std.specs.Ordering.{is_gt}
use Rattle.xc_versions.specs.Stored.{stored_cmp}
use Rattle.xc_versions.specs.Slots.{seen}
use Rattle.xc_versions.specs.Pages.{items_of}
use Rattle.xc_versions.proofs.SplitLaws.{above-falls}
use Rattle.xc_versions.proofs.PageLaws.{around-some}
use Rattle.xc_versions.proofs.SplitLaws.{deque-long}
use Rattle.xc_versions.proofs.pages.add.Goals as goal

pub add_at-requires-clause-around : goal.add_at-requires-clause-around
add_at-requires-clause-around c =
    let b = c.args.bytes.now in
    let v = seen b c.args.slot in
    let ps = c.args.pages.now.items in
    let split = c.pages_before.ensures in
    let some : 0 < length ps = grind (arith, common_steps) in
    let within = split.within in
    around-some b (λ x. is_gt (stored_cmp v x)) ps c.pages_before.result c.saturating_sub-i.result c.requires.store.paged.pages
    (above-falls v (items_of b ps) c.requires.store.paged.ordered) split c.saturating_sub-i.ensures
    (let e = c.saturating_sub-i.ensures in omega arith)

pub returns-else-is_empty-clause-least : goal.returns-else-is_empty-clause-least
returns-else-is_empty-clause-least c =
    let old = c.args.pages.now.items in
    let count : c.len-count.result ≡ length old = c.len-count.ensures ∙ deque-long c.args.pages.now in
    let long : length (dues_of old) ≡ c.len-count.result = length-map old (λ (p : Page). p.due) ∙ sym count in
    let some : 0 < length old = grind (arith, common_steps) in
    let split = c.pages_before.ensures in
    let within = split.within in
    let less = c.saturating_sub-i.ensures in
    let g = c.grown.ensures in
    g (dues_of old) long (omega arith) c.add_at.ensures.dues c.requires.least
