use Rattle.std.proofs.Common.{◌≡◌, ℕ, ◌<◌, ◌-◌, List, length, get_or, ap, sym, subst, arith, refl}
use Rattle.xc_record.proofs.ListLaws.{Each}
use Rattle.xc_versions.specs.declared.stored.Slot.{Slot}
use Rattle.xc_versions.specs.declared.page.Page.{Page}
use Rattle.xc_versions.specs.Slots.{seen}
use Rattle.xc_versions.specs.Heads.{IsSlot}
use Rattle.xc_versions.proofs.SlotLaws.{splits-map, read-map}
use Rattle.xc_versions.proofs.SplitLaws.{each-at}
use Rattle.xc_versions.proofs.AddLaws.{page-at}
use Rattle.xc_record.specs.Kept.{last_of}
use Rattle.xc_versions.specs.Stored.{reaches}
use Rattle.xc_versions.specs.Splits.{Splits}
use Rattle.xc_versions.specs.Pages.{held, items_of, IsPage, slots_of}
use Rattle.xc_versions.proofs.ShownLaws.{reaches-falls}
use Rattle.xc_versions.proofs.PageLaws.{heads-none, around-some, last-passing, first-passes, none-passed, page-ordered}
use Rattle.xc_versions.proofs.pages.last_reaching.Goals as goal

pub returns-then-begin-eq0-clause-last : goal.returns-then-begin-eq0-clause-last
returns-then-begin-eq0-clause-last c =
    let b = c.args.bytes.now in
    let k = c.args.key.now in
    let ps = c.args.pages.now.items in
    sym (ap last_of
    (heads-none b (reaches k c.args.t) ps c.pages_reaching-begin.result c.requires.paged.pages
    (reaches-falls k c.args.t (items_of b ps) c.requires.paged.ordered) c.pages_reaching-begin.ensures c.if-begin-eq0.true))

pub reached-reached-requires-clause-ordered : goal.reached-reached-requires-clause-ordered
reached-reached-requires-clause-ordered c =
    let b = c.args.bytes.now in
    let w = c.pages_reaching-begin.ensures.within in
    rw c.deref.ensures
    (page-ordered b c.args.pages.now.items (c.pages_reaching-begin.result - 1) c.index-page.result.now (omega arith) c.index-page.ensures
    c.requires.paged.ordered)

pub returns-then-reached-eq0-clause-last : goal.returns-then-reached-eq0-clause-last
returns-then-reached-eq0-clause-last c =
    let b = c.args.bytes.now in
    let k = c.args.key.now in
    let p = reaches k c.args.t in
    let first = first-passes b p c.args.pages.now.items c.pages_reaching-begin.result (c.pages_reaching-begin.result - 1)
    c.index-page.result.now c.pages_reaching-begin.ensures (omega arith) c.index-page.ensures in
    let split = splits-map (seen b) p c.reached-reached.result (slots_of c.index-page.result.now)
    (rw c.deref.ensures at c.reached-reached.ensures) in
    absurd (none-passed p (held b c.index-page.result.now) c.reached-reached.result split c.if-reached-eq0.true first)

last-slot : (b : List ℕ) (ps : List Page) (i m : ℕ) (q : Page) (x : Slot) → Each (IsPage b) ps → i < length ps → q ≡ get_or ps i q
    → m < length (slots_of q) → x ≡ get_or (slots_of q) m x → IsSlot b x
last-slot b ps i m q x g h e l f =
    subst (IsSlot b) (sym f) (each-at (IsSlot b) (slots_of q) m x (page-at b ps i q g h e).slots l)

pub returns-clause-last : goal.returns-clause-last
returns-clause-last c =
    let b = c.args.bytes.now in
    let k = c.args.key.now in
    let p = reaches k c.args.t in
    let ps = c.args.pages.now.items in
    let slots = slots_of c.index-page.result.now in
    let w = c.pages_reaching-begin.ensures.within in
    let i = c.pages_reaching-begin.result - 1 in
    let m = c.reached-reached.result in
    let reached : Splits (λ x. reaches k c.args.t (seen b x)) m slots = rw c.deref.ensures at c.reached-reached.ensures in
    let few = reached.within in
    let split = splits-map (seen b) p m slots reached in
    let within : i < length ps = omega arith in
    let a = around-some b p ps c.pages_reaching-begin.result i c.requires.paged.pages
    (reaches-falls k c.args.t (items_of b ps) c.requires.paged.ordered)
    c.pages_reaching-begin.ensures refl within in
    sym (last-passing b p ps i c.index-page.result.now m (seen b c.index.result.now) within c.index-page.ensures a split (omega arith)
    (read-map (seen b) slots (m - 1) c.index.result.now (omega arith) (rw c.deref-2.ensures at c.index.ensures)))

pub returns-clause-slot : goal.returns-clause-slot
returns-clause-slot c =
    let ps = c.args.pages.now.items in
    let w = c.pages_reaching-begin.ensures.within in
    let reached : Splits (λ x. reaches c.args.key.now c.args.t (seen c.args.bytes.now x)) c.reached-reached.result
    (slots_of c.index-page.result.now) =
    rw c.deref.ensures at c.reached-reached.ensures in
    let few = reached.within in
    last-slot c.args.bytes.now ps (c.pages_reaching-begin.result - 1) (c.reached-reached.result - 1) c.index-page.result.now
    c.index.result.now c.requires.paged.pages (omega arith) c.index-page.ensures (omega arith) (rw c.deref-2.ensures at c.index.ensures)
