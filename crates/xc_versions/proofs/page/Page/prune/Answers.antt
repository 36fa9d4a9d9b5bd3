use Rattle.std.proofs.Common.{◌≡◌, ℕ, ◌+◌, ◌-◌, ◌<◌, List, get_or, map, min, ap, sym, ◌∙◌, subst, arith}
use Rattle.std.specs.Prelude.{Option, option_map}
use Rattle.std.proofs.lemmas.Bool.{le-leb, lt-leb}
use Rattle.std.proofs.lemmas.List.{length-map}
use Rattle.xc_record.proofs.ListLaws.{Each}
use Rattle.xc_versions.specs.Pages.{slots_of}
use Rattle.xc_versions.specs.declared.stored.StoredVersion.{StoredVersion}
use Rattle.xc_versions.specs.declared.stored.Slot.{Slot}
use Rattle.xc_versions.specs.Stored.{is_due}
use Rattle.xc_versions.specs.Slots.{seen}
use Rattle.xc_versions.specs.Heads.{IsSlot}
use Rattle.xc_versions.proofs.SplitLaws.{each-at}
use Rattle.xc_versions.proofs.SlotLaws.{read-map, map-remove, each-removed}
use Rattle.xc_versions.proofs.PruneLaws.{Going, going-kept, going-removed}
use Rattle.xc_versions.proofs.page.Page.prune.Goals as goal

-- what is known of the slot x before the n-th
record Reading (b : List ℕ) (u : ℕ) (next : Option StoredVersion) (old : List StoredVersion) (behind : Option StoredVersion) (due : ℕ)
    (slots : List Slot) (i : ℕ) (x : Slot) : Type 0 where
  going : Going u next old (map (seen b) slots) behind due (i + 1)
  read : seen b x ≡ get_or (map (seen b) slots) i (seen b x)
  slot : IsSlot b x

reading : (b : List ℕ) (u : ℕ) (next : Option StoredVersion) (old : List StoredVersion) (behind : Option StoredVersion) (due : ℕ)
    (slots : List Slot) (n : ℕ) (x : Slot) → Going u next old (map (seen b) slots) behind due n → 0 < n → x ≡ get_or slots (n - 1) x
    → Each (IsSlot b) slots → Reading b u next old behind due slots (n - 1) x
reading b u next old behind due slots n x g h e s =
    let same : n ≡ n - 1 + 1 = omega arith in
    let short = g.short in
    let long = length-map slots (seen b) in
    record {
      going = subst (λ (k : ℕ). Going u next old (map (seen b) slots) behind due k) same g;
      read = read-map (seen b) slots (n - 1) x (omega arith) e;
      slot = subst (IsSlot b) (sym e) (each-at (IsSlot b) slots (n - 1) x s (omega arith));
    }

pub loop-i-preserved-then-commit-cutoff : goal.loop-i-preserved-then-commit-cutoff
loop-i-preserved-then-commit-cutoff c =
    let b = c.args.bytes.now in
    let u = c.args.cutoff in
    let slots = c.loop-i.body.items.items in
    let i = c.loop-i.i - 1 in
    let next = option_map (seen b) c.args.next in
    let old = map (seen b) (slots_of c.args.self.now) in
    let behind = option_map (seen b) c.loop-i.behind in
    let r = reading b u next old behind c.loop-i.due slots c.loop-i.i c.index.result.now c.loop-i.invariant.going (omega arith)
    c.index.ensures c.loop-i.invariant.slots in
    record {
      going = subst (λ (zs : List StoredVersion). Going u next old zs behind c.loop-i.due i)
          (sym (ap (map (seen b)) c.remove_at.ensures.items ∙ map-remove (seen b) slots i))
          (going-removed u next old (map (seen b) slots) behind c.loop-i.due i (seen b c.index.result.now) r.going r.read
          (ap (is_due u) (sym c.in-Some.ensures) ∙ le-leb c.in-Some.commit u c.if-commit-cutoff.true));
      slots = subst (λ (zs : List Slot). Each (IsSlot b) zs) (sym c.remove_at.ensures.items)
          (each-removed (IsSlot b) slots i c.loop-i.invariant.slots);
      behind = c.loop-i.invariant.behind;
      capacity = c.remove_at.ensures.capacity ∙ c.loop-i.invariant.capacity;
    }

pub loop-i-preserved-in-Some-2 : goal.loop-i-preserved-in-Some-2
loop-i-preserved-in-Some-2 c =
    let u = c.args.cutoff in
    let commit = c.in-Some.commit in
    let is_least : c.min-due.result ≡ min c.loop-i.due commit = c.min-due.ensures in
    let late = c.if-commit-cutoff.false in
    let r = reading _ u _ _ _ _ _ _ c.index.result.now c.loop-i.invariant.going (omega arith) c.index.ensures c.loop-i.invariant.slots in
    record {
      going = going-kept u _ _ _ _ _ c.min-due.result _ _ r.going r.read
          (ap (is_due u) (sym c.in-Some.ensures) ∙ lt-leb commit u (omega arith))
          (λ w l. (omega arith, ap (is_due w) (sym c.in-Some.ensures) ∙ lt-leb commit w (omega arith)));
      slots = c.loop-i.invariant.slots;
      behind = r.slot;
      capacity = c.loop-i.invariant.capacity;
    }

pub loop-i-preserved : goal.loop-i-preserved
loop-i-preserved c =
    let u = c.args.cutoff in
    let r = reading _ u _ _ _ _ _ _ c.index.result.now c.loop-i.invariant.going (omega arith) c.index.ensures c.loop-i.invariant.slots in
    record {
      going = going-kept u _ _ _ _ _ _ _ _ r.going r.read (ap (is_due u) (sym c.in-None.ensures))
          (λ w l. (l, ap (is_due w) (sym c.in-None.ensures)));
      slots = c.loop-i.invariant.slots;
      behind = r.slot;
      capacity = c.loop-i.invariant.capacity;
    }

pub op_bytes-requires : goal.op_bytes-requires
op_bytes-requires c =
    (reading _ c.args.cutoff _ _ _ _ _ _ c.index.result.now c.loop-i.invariant.going (omega arith) c.index.ensures
    c.loop-i.invariant.slots).slot.lies
