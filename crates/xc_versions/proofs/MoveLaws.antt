-- The same versions in other bytes: with more bytes behind, or moved.
use Rattle.std.proofs.Common.{◌≡◌, ℕ, ◌<◌, List, [], ◌∷◌, ◌++◌, length, map, refl, ap, sym, ◌∙◌, subst, Vec, true}
use Rattle.std.specs.declared.collections.VecDeque.{VecDeque}
use Rattle.std.specs.declared.alloc.Global.{Global}
use Rattle.xc_record.specs.Path.{Written}
use Rattle.xc_record.specs.declared.record.Op.{Op}
use Rattle.xc_record.specs.Packed.{encode_op, is_op}
use Rattle.xc_record.proofs.ListLaws.{Each}
use Rattle.xc_versions.specs.declared.stored.StoredVersion.{StoredVersion}
use Rattle.xc_versions.specs.declared.stored.Slot.{Slot}
use Rattle.xc_versions.specs.declared.page.Page.{Page}
use Rattle.xc_versions.specs.Stored.{InOrder, stored}
use Rattle.xc_arena.specs.Arena.{key_at, value_at, Lies}
use Rattle.xc_versions.specs.Slots.{seen}
use Rattle.xc_versions.specs.Heads.{head_of, IsSlot}
use Rattle.xc_versions.specs.Pages.{held, items_of, IsPage, IsPaged, Idle, Dues, slots_of}
use Rattle.xc_versions.specs.Pool.{IsStore}
use Rattle.xc_arena.proofs.ArenaLaws.{lies-more, lies-last, key_at-more, value_at-more, last-key, last-value}

-- pages qs in the bytes c hold what the pages ps in the bytes b hold
abbrev pub Alike : List ℕ → List Page → List ℕ → List Page → Type 0
Alike b [] c qs = qs ≡ []
Alike b (p ∷ ps) c [] = ⊥
Alike b (p ∷ ps) c (q ∷ qs) = (held c q ≡ held b p) × ((q.due ≡ p.due) × Alike b ps c qs)

pub alike-items : (b : List ℕ) (ps : List Page) (c : List ℕ) (qs : List Page) → Alike b ps c qs → items_of c qs ≡ items_of b ps
alike-items b [] c qs a = ap (items_of c) a
alike-items b (p ∷ ps) c [] a = absurd a
alike-items b (p ∷ ps) c (q ∷ qs) a = ap (λ w. w ++ items_of c qs) a.0 ∙ ap (λ w. held b p ++ w) (alike-items b ps c qs a.1.1)

pub alike-dues : (b : List ℕ) (ps : List Page) (c : List ℕ) (qs : List Page) (rest : List StoredVersion) → Alike b ps c qs → Dues b ps rest
    → Dues c qs rest
alike-dues b [] c qs rest a d = subst (λ (w : List Page). Dues c w rest) (sym a) tt
alike-dues b (p ∷ ps) c [] rest a d = absurd a
alike-dues b (p ∷ ps) c (q ∷ qs) rest a d = (
  λ u l. subst (λ (w : List StoredVersion). Idle u w (items_of c qs ++ rest)) (sym a.0)
      (subst (λ (w : List StoredVersion). Idle u (held b p) (w ++ rest)) (sym (alike-items b ps c qs a.1.1))
      (d.0 u (subst (λ (n : ℕ). u < n) a.1.0 l))),
  alike-dues b ps c qs rest a.1.1 d.1,
)

pub alike-paged : (b : List ℕ) (ps : List Page) (c : List ℕ) (qs : List Page) (rest : List StoredVersion) → Alike b ps c qs
    → Each (IsPage c) qs → IsPaged b ps rest → IsPaged c qs rest
alike-paged b ps c qs rest a pages g = record {
  ordered = subst InOrder (sym (alike-items b ps c qs a)) g.ordered;
  pages = pages;
  dues = alike-dues b ps c qs rest a g.dues;
}

-- ---- more bytes behind

abbrev as_seen : Slot → List ℕ → Written → StoredVersion
as_seen s k v = record { commit = s.commit; place = s.place; txn = s.txn; value = v; key = k }

seen-more : (b more : List ℕ) (s : Slot) → Lies b s.at → seen (b ++ more) s ≡ seen b s
seen-more b more s l =
    ap (λ k. as_seen s k (value_at (b ++ more) s.at)) (key_at-more b more s.at l)
    ∙ ap (as_seen s (key_at b s.at)) (value_at-more b more s.at l)

pub slots-more : (b more : List ℕ) (xs : List Slot) → Each (IsSlot b) xs → map (seen (b ++ more)) xs ≡ map (seen b) xs
slots-more b more [] h = refl
slots-more b more (x ∷ xs) h =
    ap (λ v. v ∷ map (seen (b ++ more)) xs) (seen-more b more x h.0.lies) ∙ ap (λ w. seen b x ∷ w) (slots-more b more xs h.1)

slot-more : (b more : List ℕ) (s : Slot) → IsSlot b s → IsSlot (b ++ more) s
slot-more b more s g = record {
  lies = lies-more b more s.at g.lies;
  head = g.head ∙ ap head_of (sym (key_at-more b more s.at g.lies));
}

pub all-more : (b more : List ℕ) (xs : List Slot) → Each (IsSlot b) xs → Each (IsSlot (b ++ more)) xs
all-more b more [] h = tt
all-more b more (x ∷ xs) h = (slot-more b more x h.0, all-more b more xs h.1)

pub page-more : (b more : List ℕ) (p : Page) → IsPage b p → IsPage (b ++ more) p
page-more b more p g = record { some = g.some; few = g.few; room = g.room; slots = all-more b more (slots_of p) g.slots; first = g.first }

alike-more : (b more : List ℕ) (ps : List Page) → Each (IsPage b) ps → Alike b ps (b ++ more) ps
alike-more b more [] h = refl
alike-more b more (p ∷ ps) h = (slots-more b more (slots_of p) h.0.slots, (refl, alike-more b more ps h.1))

pages-more : (b more : List ℕ) (ps : List Page) → Each (IsPage b) ps → Each (IsPage (b ++ more)) ps
pages-more b more [] h = tt
pages-more b more (p ∷ ps) h = (page-more b more p h.0, pages-more b more ps h.1)

pub items-more : (b more : List ℕ) (ps : List Page) → Each (IsPage b) ps → items_of (b ++ more) ps ≡ items_of b ps
items-more b more ps h = alike-items b ps (b ++ more) ps (alike-more b more ps h)

pub store-more : (b more : List ℕ) (pages : VecDeque Page Global) (pool : Vec Page Global) → IsStore b pages pool
    → IsStore (b ++ more) pages pool
store-more b more pages pool s =
    let ps = pages.items in
    record {
      paged = alike-paged b ps (b ++ more) ps [] (alike-more b more ps s.paged.pages) (pages-more b more ps s.paged.pages) s.paged;
      empty = s.empty;
      room = s.room;
    }

-- the slot of the operation that was put last
pub slot-last : (b : List ℕ) (s : Slot) (op : Op) → is_op op ≡ true → s.at ≡ length b → s.head ≡ head_of op.key
    → IsSlot (b ++ encode_op op) s
slot-last b s op w e h = record {
  lies = subst (λ (n : ℕ). Lies (b ++ encode_op op) n) (sym e) (lies-last b op w);
  head = h ∙ ap head_of (sym (ap (key_at (b ++ encode_op op)) e ∙ last-key b op w));
}

pub seen-last : (b : List ℕ) (s : Slot) (op : Op) → is_op op ≡ true → s.at ≡ length b
    → seen (b ++ encode_op op) s ≡ stored op.key s.commit s.txn s.place op.value
seen-last b s op w e =
    let key : key_at (b ++ encode_op op) s.at ≡ op.key = ap (key_at (b ++ encode_op op)) e ∙ last-key b op w in
    let value : value_at (b ++ encode_op op) s.at ≡ op.value = ap (value_at (b ++ encode_op op)) e ∙ last-value b op w in
    ap (λ k. as_seen s k (value_at (b ++ encode_op op) s.at)) key ∙ ap (as_seen s op.key) value
