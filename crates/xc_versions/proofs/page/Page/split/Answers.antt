use Rattle.std.proofs.Common.{◌≡◌, ℕ, ◌<◌, ◌≤◌, length, get_or, take, drop, ap, ◌∙◌, arith, deque_capacity}
use Rattle.std.proofs.lemmas.List.{length-take-le, length-drop, get_or-take}
use Rattle.std.proofs.Common.{List, sym, subst}
use Rattle.xc_record.proofs.ListLaws.{Each}
use Rattle.xc_versions.specs.Pages.{IsPage, slots_of, first_of, capacity_of}
use Rattle.xc_versions.specs.declared.page.Page.{Page}
use Rattle.xc_versions.specs.declared.page.PageBody.{PageBody}
use Rattle.xc_versions.specs.declared.stored.Slot.{Slot}
use Rattle.xc_versions.specs.Heads.{IsSlot}
use Rattle.xc_versions.proofs.SlotLaws.{each-taken}
use Rattle.xc_versions.proofs.page.Page.split.Goals as goal

-- a page has some of the slots
part : (b : List ℕ) (p : Page) (xs : List Slot) (n : ℕ) → slots_of p ≡ xs → length xs ≡ n → 0 < n → n ≤ 64 → 65 ≤ capacity_of p
    → Each (IsSlot b) xs → first_of p ≡ get_or (slots_of p) 0 (first_of p) → IsPage b p
part b p xs n e l some few room slots first =
    let long = ap length e in
    record {
      some = omega arith;
      few = omega arith;
      room = room;
      slots = subst (λ (ys : List Slot). Each (IsSlot b) ys) (sym e) slots;
      first = first;
    }

pub returns-clause-lower_page : goal.returns-clause-lower_page
returns-clause-lower_page c =
    let full = c.requires.full in
    let old = slots_of c.args.self.now in
    let is : c.deref_mut-lower.result.now ≡ c.args.self.now.body.value = c.deref_mut-lower.ensures.value in
    let cut : c.move_behind.new.items.items ≡ take 32 old = rw is at c.move_behind.ensures.lower in
    let same : deque_capacity c.move_behind.new.items ≡ capacity_of c.args.self.now = rw is at c.move_behind.ensures.lower_capacity in
    let room = c.requires.room in
    part c.args.bytes.now _ (take 32 old) 32 cut (length-take-le 32 old (omega arith)) (omega arith) (omega arith) (omega arith)
    (each-taken (IsSlot c.args.bytes.now) 32 old c.requires.slots).0
    (subst (λ (m : PageBody). m.first ≡ get_or c.move_behind.new.items.items 0 m.first) (sym is)
    (c.requires.first ∙ sym (get_or-take 32 old 0 (first_of c.args.self.now) (omega arith))
    ∙ ap (λ (xs : List Slot). get_or xs 0 (first_of c.args.self.now)) (sym cut)))

pub returns-clause-upper_page : goal.returns-clause-upper_page
returns-clause-upper_page c =
    let full = c.requires.full in
    let old = slots_of c.args.self.now in
    let cut : c.move_behind.new.upper.items ≡ drop 32 old = rw c.deref_mut-lower.ensures.value at c.move_behind.ensures.upper in
    let same : deque_capacity c.move_behind.new.upper ≡ capacity_of c.args.upper.now =
    rw c.deref_mut-behind.ensures.value at c.move_behind.ensures.upper_capacity in
    let room = c.requires.empty.room in
    part c.args.bytes.now _ (drop 32 old) 33 cut (length-drop 32 old ∙ omega arith) (omega arith) (omega arith) (omega arith)
    (each-taken (IsSlot c.args.bytes.now) 32 old c.requires.slots).1 c.first_or-behind.ensures.first
