use Rattle.std.proofs.Common.{ap, sym, ◌∙◌, arith}
use Rattle.xc_versions.specs.Stored.{reaches}
use Rattle.xc_versions.specs.declared.page.Page.{Page}
use Rattle.xc_versions.specs.Pages.{held, is_first_passed}
use Rattle.xc_versions.proofs.SplitLaws.{narrows-front, narrows-back, narrows-done}
use Rattle.xc_versions.proofs.ShownLaws.{reaches-falls}
use Rattle.xc_versions.proofs.PageLaws.{pages-fall}
use Rattle.xc_versions.proofs.page.pages_reaching.Goals as goal

pub loop-low-preserved-then-begins_reaching : goal.loop-low-preserved-then-begins_reaching
loop-low-preserved-then-begins_reaching c =
    let b = c.args.bytes.now in
    let k = c.args.key.now in
    let falls = pages-fall b (reaches k c.args.t) c.args.pages.now.items c.requires.pages (reaches-falls k c.args.t _ c.requires.ordered) in
    let found = c.if-begins_reaching.ensures in
    narrows-front _ _ _ _ c.loop-low.invariant falls _ c.index-page.result.now (omega arith)
    (sym (found ∙ ap (λ (p : Page). is_first_passed (reaches k c.args.t) (held b p)) c.index-page.ensures))

pub loop-low-preserved : goal.loop-low-preserved
loop-low-preserved c =
    let b = c.args.bytes.now in
    let k = c.args.key.now in
    let falls = pages-fall b (reaches k c.args.t) c.args.pages.now.items c.requires.pages (reaches-falls k c.args.t _ c.requires.ordered) in
    let found = c.if-begins_reaching.ensures in
    narrows-back _ _ _ _ c.loop-low.invariant falls _ c.index-page.result.now (omega arith) (omega arith)
    (sym (found ∙ ap (λ (p : Page). is_first_passed (reaches k c.args.t) (held b p)) c.index-page.ensures))

pub returns : goal.returns
returns c = narrows-done _ _ _ _ c.loop-low.invariant (omega arith)
