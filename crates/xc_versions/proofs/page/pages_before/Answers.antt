use Rattle.std.proofs.Common.{ap, sym, ◌∙◌, arith}
use Rattle.std.specs.Ordering.{is_gt}
use Rattle.xc_versions.specs.Stored.{stored_cmp}
use Rattle.xc_versions.specs.declared.page.Page.{Page}
use Rattle.xc_versions.specs.Slots.{seen}
use Rattle.xc_versions.specs.Pages.{held, is_first_passed}
use Rattle.xc_versions.proofs.SplitLaws.{narrows-front, narrows-back, narrows-done, above-falls}
use Rattle.xc_versions.proofs.PageLaws.{pages-fall}
use Rattle.xc_versions.proofs.page.pages_before.Goals as goal

pub loop-low-preserved-then-begins_before : goal.loop-low-preserved-then-begins_before
loop-low-preserved-then-begins_before c =
    let b = c.args.bytes.now in
    let v = seen b c.args.slot.now in
    let falls = pages-fall b (λ x. is_gt (stored_cmp v x)) c.args.pages.now.items c.requires.pages (above-falls v _ c.requires.ordered) in
    let found = c.if-begins_before.ensures in
    narrows-front _ _ _ _ c.loop-low.invariant falls _ c.index-page.result.now (omega arith)
    (sym (found ∙ ap (λ (p : Page). is_first_passed (λ x. is_gt (stored_cmp v x)) (held b p)) c.index-page.ensures))

pub loop-low-preserved : goal.loop-low-preserved
loop-low-preserved c =
    let b = c.args.bytes.now in
    let v = seen b c.args.slot.now in
    let falls = pages-fall b (λ x. is_gt (stored_cmp v x)) c.args.pages.now.items c.requires.pages (above-falls v _ c.requires.ordered) in
    let found = c.if-begins_before.ensures in
    narrows-back _ _ _ _ c.loop-low.invariant falls _ c.index-page.result.now (omega arith) (omega arith)
    (sym (found ∙ ap (λ (p : Page). is_first_passed (λ x. is_gt (stored_cmp v x)) (held b p)) c.index-page.ensures))

pub returns : goal.returns
returns c = narrows-done _ _ _ _ c.loop-low.invariant (omega arith)
