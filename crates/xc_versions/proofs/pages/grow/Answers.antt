use Rattle.std.proofs.Common.{◌≡◌, ◌+◌, ◌-◌, ◌/◌, ◌≤◌, length, min, ap, sym, ◌∙◌, subst, arith, List}
use Rattle.std.proofs.lemmas.Result.{on_ok_weaker}
use Rattle.xc_versions.specs.declared.page.Page.{Page}
use Rattle.xc_versions.specs.Pages.{spare_of}
use Rattle.xc_versions.proofs.AddLaws.{spare-enough, vec-long}
use Rattle.xc_versions.proofs.SplitLaws.{deque-long}
use Rattle.xc_versions.proofs.pages.grow.Goals as goal

pub returns-clause-room : goal.returns-clause-room
returns-clause-room c =
    let ps = c.args.pages.now.items in
    let n = c.args.n in
    let m = length c.add_empty.new.pool.items in
    on_ok_weaker c.add_empty.result
    (λ e.
    let had : length c.reserve-2.new.self.items ≡ length c.args.pool.now.items = ap length c.in_ok-reserve-2.ensures.items in
    let all : m ≡ length c.reserve-2.new.self.items + c.at_once-more.result = e in
    let count : c.len.result ≡ length ps = c.len.ensures ∙ deque-long c.args.pages.now in
    let most : c.pages_for-most.result ≡ min n (length ps + (n / 32 + 1)) =
    c.pages_for-most.ensures ∙ ap (λ k. min n (k + (n / 32 + 1))) count in
    let held : c.len-2.result ≡ length c.args.pool.now.items = c.len-2.ensures ∙ vec-long c.args.pool.now in
    let less : c.saturating_sub.result ≡ c.pages_for-most.result - length c.args.pool.now.items =
    c.saturating_sub.ensures ∙ ap (λ k. c.pages_for-most.result - k) held in
    let enough : c.saturating_sub.result ≤ c.at_once-more.result = c.at_once-more.ensures in
    subst (λ (qs : List Page). n ≤ spare_of qs m) (sym c.reserve.ensures.items)
    (spare-enough c.args.bytes.now ps n m c.requires.paged.pages (omega arith)))
    c.add_empty.ensures.all
