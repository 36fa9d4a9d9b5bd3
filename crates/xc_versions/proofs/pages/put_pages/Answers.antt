use Rattle.std.proofs.Common.{◌≡◌, ℕ, ◌+◌, ◌<◌, List, ◌++◌, get_or, drop, subst, arith}
use Rattle.std.specs.VecDeque.{deque_len}
use Rattle.std.specs.declared.collections.VecDeque.{VecDeque}
use Rattle.std.specs.declared.alloc.Global.{Global}
use Rattle.xc_record.specs.Rows.{rows_after}
use Rattle.xc_versions.specs.declared.stored.StoredVersion.{StoredVersion}
use Rattle.xc_versions.specs.declared.page.Page.{Page}
use Rattle.xc_versions.specs.RowsSeen.{Under, ops_to}
use Rattle.xc_versions.specs.Pages.{held, items_of}
use Rattle.xc_versions.proofs.RowsSeenLaws.{Left, left-more}
use Rattle.xc_versions.proofs.StoredOrder.{in_order-left}
use Rattle.xc_versions.proofs.PageLaws.{each-left, items-from}
use Rattle.xc_versions.proofs.SplitLaws.{deque-long}
use Rattle.xc_versions.proofs.AddLaws.{page-at}
use Rattle.xc_versions.proofs.pages.put_pages.Goals as goal

from : (b : List ℕ) (d : VecDeque Page Global) (i n : ℕ) (q : Page) → n ≡ deque_len d → i < n → q ≡ get_or d.items i q
    → items_of b (drop i d.items) ≡ held b q ++ items_of b (drop (i + 1) d.items)
from b d i n q e h f = items-from b d.items i q (let long = deque-long d in omega arith) f

pub put_versions-requires-clause-under : goal.put_versions-requires-clause-under
put_versions-requires-clause-under c =
    let b = c.args.bytes.now in
    let q = c.index-page.result.now in
    let rest = items_of b (drop (c.loop-i.i + 1) c.args.pages.now.items) in
    let split = from b c.args.pages.now c.loop-i.i c.len-i-end.result q c.len-i-end.ensures c.loop-i-test.true c.index-page.ensures in
    rw c.deref.ensures (each-left (λ x. Under c.loop-i.rows.items x.key) (held b q) rest (rw split at c.loop-i.invariant.under))

pub put_versions-requires-clause-ordered : goal.put_versions-requires-clause-ordered
put_versions-requires-clause-ordered c =
    let b = c.args.bytes.now in
    let q = c.index-page.result.now in
    let rest = items_of b (drop (c.loop-i.i + 1) c.args.pages.now.items) in
    let split = from b c.args.pages.now c.loop-i.i c.len-i-end.result q c.len-i-end.ensures c.loop-i-test.true c.index-page.ensures in
    rw c.deref.ensures (in_order-left (held b q) rest (rw split at c.loop-i.invariant.ordered))

pub loop-i-preserved : goal.loop-i-preserved
loop-i-preserved c =
    let b = c.args.bytes.now in
    let q = c.index-page.result.now in
    let t = c.args.t in
    let rest = items_of b (drop (c.loop-i.i + 1) c.args.pages.now.items) in
    let split = from b c.args.pages.now c.loop-i.i c.len-i-end.result q c.len-i-end.ensures c.loop-i-test.true c.index-page.ensures in
    let before =
    subst (λ (w : List StoredVersion). Left t c.args.rows.now.items c.loop-i.rows.items (items_of b c.args.pages.now.items) w) split
    c.loop-i.invariant in
    let put : c.put_versions.new.rows.items ≡ rows_after (ops_to t (held b q)) c.loop-i.rows.items =
    rw c.deref.ensures at c.in_ok-put_versions.ensures
    in
    rw put (left-more t c.args.rows.now.items c.loop-i.rows.items (items_of b c.args.pages.now.items) (held b q) rest before)

pub put_versions-requires-clause-slots : goal.put_versions-requires-clause-slots
put_versions-requires-clause-slots c =
    let long = deque-long c.args.pages.now in
    let below = c.loop-i-test.true in
    let end = c.len-i-end.ensures in
    rw c.deref.ensures
    (page-at c.args.bytes.now c.args.pages.now.items c.loop-i.i c.index-page.result.now c.requires.pages (omega arith)
    c.index-page.ensures).slots
