use Rattle.std.proofs.Common.{◌≡◌, ℕ, List, [], ◌∷◌, Bool, None, cond, ap, sym, ◌∙◌}
use Rattle.std.specs.Prelude.{bytes_eq, filter}
use Rattle.xc_record.specs.Kept.{shown, last_of}
use Rattle.xc_versions.specs.declared.stored.Slot.{Slot}
use Rattle.xc_versions.specs.declared.page.Page.{Page}
use Rattle.xc_versions.specs.Stored.{InOrder, stored_at, reaches}
use Rattle.xc_arena.specs.Arena.{key_at, value_at}
use Rattle.xc_versions.specs.Slots.{seen}
use Rattle.xc_versions.specs.Pages.{items_of}
use Rattle.xc_versions.proofs.ShownLaws.{shown-reaching, value_at as value_in}
use Rattle.xc_versions.proofs.versions.Versions.at.Goals as goal

-- what the last slot shows
shown-slot : (b d : List ℕ) (ps : List Page) (k : List ℕ) (t : ℕ) (s : Slot) → d ≡ b → InOrder (items_of b ps)
    → seen d s ∷ [] ≡ last_of (filter (reaches k t) (items_of d ps))
    → cond (bytes_eq k (key_at d s.at)) (value_at d s.at) None ≡ shown t (stored_at k (items_of b ps))
shown-slot b d ps k t s e o last =
    ap (value_in k) last ∙ ap (λ w. value_in k (last_of (filter (reaches k t) (items_of w ps)))) e
    ∙ sym (shown-reaching k t (items_of b ps) o)

-- the key that was read is that of the slot
key-read : (b d w : List ℕ) (at : ℕ) (k mine found : List ℕ) (is : Bool) → d ≡ b → w ≡ b → mine ≡ k → found ≡ key_at w at
    → is ≡ bytes_eq mine found → is ≡ bytes_eq k (key_at d at)
key-read b d w at k mine found is e f m g h =
    h ∙ ap (λ x. bytes_eq x found) m ∙ ap (bytes_eq k) (g ∙ ap (λ x. key_at x at) (f ∙ sym e))

pub returns-then-eq-clause-value : goal.returns-then-eq-clause-value
returns-then-eq-clause-value c =
    let k = c.args.key.now in
    let d = c.deref.result.now in
    let at = c.in-Some.slot.at in
    let same = key-read _ d _ at k _ _ _ c.deref.ensures.value c.deref-in-Some.ensures.value c.bytes-in-Some.ensures.bytes
    c.key_bytes.ensures c.if-eq.ensures in
    c.value_of.ensures ∙ ap (λ w. value_at w at) (c.deref-then-eq.ensures.value ∙ sym c.deref.ensures.value)
    ∙ ap (λ is. cond is (value_at d at) None) same
    ∙ shown-slot c.self.inside.arena.items d c.self.inside.pages.items k c.args.t c.in-Some.slot c.deref.ensures.value
    c.self.invariant.store.paged.ordered c.in-Some.ensures.last
    ∙ ap (λ s. shown c.args.t (stored_at k s.items)) c.self.view_is

pub returns-else-eq-clause-value : goal.returns-else-eq-clause-value
returns-else-eq-clause-value c =
    let k = c.args.key.now in
    let d = c.deref.result.now in
    let at = c.in-Some.slot.at in
    let same = key-read _ d _ at k _ _ _ c.deref.ensures.value c.deref-in-Some.ensures.value c.bytes-in-Some.ensures.bytes
    c.key_bytes.ensures c.if-eq.ensures in
    ap (λ is. cond is (value_at d at) None) same
    ∙ shown-slot c.self.inside.arena.items d c.self.inside.pages.items k c.args.t c.in-Some.slot c.deref.ensures.value
    c.self.invariant.store.paged.ordered c.in-Some.ensures.last
    ∙ ap (λ s. shown c.args.t (stored_at k s.items)) c.self.view_is

pub returns-in-None-clause-value : goal.returns-in-None-clause-value
returns-in-None-clause-value c =
    let k = c.args.key.now in
    let ps = c.self.inside.pages.items in
    ap (value_in k) c.in-None.ensures.last
    ∙ ap (λ w. value_in k (last_of (filter (reaches k c.args.t) (items_of w ps)))) c.deref.ensures.value
    ∙ sym (shown-reaching k c.args.t (items_of c.self.inside.arena.items ps) c.self.invariant.store.paged.ordered)
    ∙ ap (λ s. shown c.args.t (stored_at k s.items)) c.self.view_is
