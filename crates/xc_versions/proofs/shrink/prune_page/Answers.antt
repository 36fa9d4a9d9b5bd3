use Rattle.std.proofs.Common.{◌≡◌, ◌∙◌, sym, length, arith}
use Rattle.std.proofs.lemmas.List.{length-map}
use Rattle.xc_versions.specs.declared.page.Page.{Page}
use Rattle.xc_versions.specs.Dues.{dues_of}
use Rattle.xc_versions.proofs.SplitLaws.{deque-long}
use Rattle.xc_versions.proofs.shrink.prune_page.Goals as goal

pub returns-clause-least : goal.returns-clause-least
returns-clause-least c =
    let old = c.args.pages.now.items in
    let count : c.len-count.result ≡ length old = c.len-count.ensures ∙ deque-long c.args.pages.now in
    let long : length (dues_of old) ≡ c.len-count.result = length-map old (λ (p : Page). p.due) ∙ sym count in
    let within = c.requires.within in
    let s = c.settle.ensures in
    s (dues_of old) long (omega arith) c.prune_at-dead.ensures.dues c.requires.least
