use Rattle.std.proofs.Common.{◌≡◌, ℕ, ◌++◌, List, true, length, ap, sym, subst, ◌∙◌}
use Rattle.xc_record.proofs.ListLaws.{Each}
use Rattle.xc_record.specs.Packed.{is_op}
use Rattle.xc_versions.specs.declared.page.Page.{Page}
use Rattle.xc_record.specs.declared.record.Op.{Op}
use Rattle.xc_record.specs.Packed.{encode_op}
use Rattle.xc_versions.specs.declared.stored.StoredVersion.{StoredVersion}
use Rattle.xc_versions.specs.declared.stored.Slot.{Slot}
use Rattle.xc_versions.specs.Stored.{IsNew, stored, with_version}
use Rattle.xc_versions.specs.Slots.{seen}
use Rattle.xc_versions.specs.Heads.{head_of, IsSlot}
use Rattle.xc_versions.specs.Pages.{items_of, IsPage}
use Rattle.xc_versions.specs.Pool.{IsStore}
use Rattle.xc_versions.proofs.AddLaws.{vec-long}
use Rattle.xc_versions.proofs.MoveLaws.{items-more, store-more, seen-last, slot-last}
use Rattle.xc_versions.proofs.versions.Versions.add.Goals as goal

-- what is seen once the operation is put at the end of the arena b, which d is then
record Put (b d : List ℕ) (ps : List Page) (s : Slot) (op : Op) : Type 0 where
  new : seen d s ≡ stored op.key s.commit s.txn s.place op.value
  old : items_of d ps ≡ items_of b ps

put : (b d : List ℕ) (ps : List Page) (s : Slot) (op : Op) → d ≡ b ++ encode_op op → is_op op ≡ true → s.at ≡ length b
    → Each (IsPage b) ps → Put b d ps s op
put b d ps s op e w h g = record {
  new = ap (λ x. seen x s) e ∙ seen-last b s op w h;
  old = ap (λ x. items_of x ps) e ∙ items-more b (encode_op op) ps g;
}

pub add-requires-clause-store : goal.add-requires-clause-store
add-requires-clause-store c =
    subst (λ (w : List ℕ). IsStore w c.self.inside.pages c.self.inside.pool) (sym (c.deref.ensures.value ∙ c.copy_op.ensures.items))
    (store-more c.self.inside.arena.items (encode_op c.args.op.now) c.self.inside.pages
    c.self.inside.pool c.self.invariant.store)

pub add-requires-clause-fresh : goal.add-requires-clause-fresh
add-requires-clause-fresh c =
    let op = c.args.op.now in
    let slot : Slot = record { head = c.of.result; commit = c.args.commit; place = c.args.place; txn = c.args.txn; at = c.len.result } in
    let v = stored op.key c.args.commit c.args.txn c.args.place op.value in
    let d = c.deref.result.now in
    let p = put c.self.inside.arena.items d c.self.inside.pages.items slot op (c.deref.ensures.value ∙ c.copy_op.ensures.items)
    c.copy_op.ensures.well (c.len.ensures ∙ vec-long c.self.inside.arena) c.self.invariant.store.paged.pages in
    subst (λ (x : StoredVersion). IsNew x (items_of d c.self.inside.pages.items)) (sym p.new)
    (subst (λ (xs : List StoredVersion). IsNew v xs) (sym (p.old ∙ ap (λ s. s.items) c.self.view_is)) c.requires.fresh)

pub add-requires-clause-slot : goal.add-requires-clause-slot
add-requires-clause-slot c =
    let b = c.self.inside.arena.items in
    let op = c.args.op.now in
    let slot : Slot =
    record { head = c.of.result; commit = c.args.commit; place = c.args.place; txn = c.args.txn; at = c.len.result } in
    subst (λ (w : List ℕ). IsSlot w slot) (sym (c.deref.ensures.value ∙ c.copy_op.ensures.items))
    (slot-last b slot op c.copy_op.ensures.well (c.len.ensures ∙ vec-long c.self.inside.arena)
    (c.of.ensures ∙ ap head_of c.key_bytes.ensures.bytes))

pub returns-clause-items : goal.returns-clause-items
returns-clause-items c =
    let op = c.args.op.now in
    let slot : Slot = record { head = c.of.result; commit = c.args.commit; place = c.args.place; txn = c.args.txn; at = c.len.result } in
    let ps = c.self.inside.pages.items in
    let d = c.deref.result.now in
    let p = put c.self.inside.arena.items d ps slot op (c.deref.ensures.value ∙ c.copy_op.ensures.items)
    c.copy_op.ensures.well (c.len.ensures ∙ vec-long c.self.inside.arena) c.self.invariant.store.paged.pages in
    ap (λ w. items_of w c.add.new.pages.items) (sym c.deref.ensures.value) ∙ c.add.ensures.gains.items
    ∙ ap (λ x. with_version x (items_of d ps)) p.new ∙ ap (with_version _) (p.old ∙ ap (λ s. s.items) c.self.view_is)
