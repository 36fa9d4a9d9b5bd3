use Rattle.std.proofs.Common.{◌≡◌, ◌-◌, length, arith, ap, sym, ◌∙◌}
use Rattle.std.specs.Ordering.{is_gt}
use Rattle.xc_versions.specs.Stored.{stored_cmp}
use Rattle.xc_versions.specs.declared.page.Page.{Page}
use Rattle.xc_versions.specs.Slots.{seen}
use Rattle.xc_versions.specs.Pages.{held, is_first_passed}
use Rattle.xc_versions.proofs.SplitLaws.{splits-whole, above-falls}
use Rattle.xc_versions.proofs.PageLaws.{pages-fall}
use Rattle.xc_versions.proofs.SplitLaws.{deque-long}
use Rattle.xc_versions.proofs.page.all_begin_before.Goals as goal

pub returns : goal.returns
returns c t =
    let b = c.args.bytes.now in
    let v = seen b c.args.slot.now in
    let ps = c.args.pages.now.items in
    let count : c.len-count.result ≡ length ps = c.len-count.ensures ∙ deque-long c.args.pages.now in
    let falls = pages-fall b (λ x. is_gt (stored_cmp v x)) ps c.requires.pages (above-falls v _ c.requires.ordered) in
    let found = c.begins_before.ensures in
    splits-whole (λ p. is_first_passed (λ x. is_gt (stored_cmp v x)) (held b p)) ps (c.len-count.result - 1) c.index-page.result.now
    falls (let some = c.if-count-eq0.false in omega arith)
    (ap (λ (p : Page). is_first_passed (λ x. is_gt (stored_cmp v x)) (held b p)) (sym c.index-page.ensures) ∙ sym found ∙ t)
