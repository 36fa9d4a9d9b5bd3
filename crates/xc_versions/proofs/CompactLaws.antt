-- Slots and pages while their operations are moved to other bytes, one after another.
use Rattle.std.proofs.Common.{◌≡◌, ℕ, ◌+◌, ◌-◌, ◌*◌, ◌<◌, ◌≤◌, List, [], ◌∷◌, ◌++◌, length, get_or, set, take, drop, map}
use Rattle.std.proofs.Common.{max, refl, ap, sym}
use Rattle.std.proofs.Common.{◌∙◌, subst, arith, append_assoc, append-nil, length-append, take-append-drop}
use Rattle.std.proofs.lemmas.List.{length-map, map-append, length-set, take_more, take_more_set, drop-set-lt, drop_more, take_all}
use Rattle.std.proofs.lemmas.List.Concat.{flat_map-append}
use Rattle.xc_record.specs.Packed.{encode_op}
use Rattle.xc_record.proofs.ListLaws.{Each, Each-append}
use Rattle.xc_versions.specs.declared.stored.Slot.{Slot}
use Rattle.xc_versions.specs.declared.page.Page.{Page}
use Rattle.xc_arena.specs.Arena.{op_at}
use Rattle.xc_versions.specs.Slots.{seen, bytes_of}
use Rattle.xc_versions.specs.Heads.{IsSlot}
use Rattle.xc_versions.specs.Pages.{held, live_of, IsPage, over, load, spare_of, slots_of}
use Rattle.xc_versions.specs.Dues.{dues_of}
use Rattle.xc_versions.proofs.SplitLaws.{each-at}
use Rattle.xc_arena.proofs.ArenaLaws.{lies-well}
use Rattle.xc_versions.proofs.MoveLaws.{Alike, slots-more, all-more, page-more, seen-last, slot-last}

-- the first i of the slots are moved behind the bytes `first`
pub record Moving (b first : List ℕ) (old : List Slot) (to : List ℕ) (items : List Slot) (i : ℕ) : Type 0 where
  pub long : length items ≡ length old
  pub to_is : to ≡ first ++ bytes_of b (take i old)
  pub alike : map (seen to) (take i items) ≡ map (seen b) (take i old)
  pub slots : Each (IsSlot to) (take i items)
  pub rest : drop i items ≡ drop i old

pub moving-start : (b first : List ℕ) (old : List Slot) → Moving b first old first old 0
moving-start b first old = record { long = refl; to_is = sym (append-nil first); alike = refl; slots = tt; rest = refl }

-- what is read at i is still the old one
pub still-old : {X : Type 0} (old items : List X) (i : ℕ) (x : X) → drop i items ≡ drop i old → i < length items → i < length old
    → x ≡ get_or items i x → x ≡ get_or old i x
still-old {X = X} old items i x e h k f =
    let mine = drop_more items i x h in
    let theirs = drop_more old i x k in
    f ∙ first (get_or items i x) (drop (i + 1) items) (get_or old i x) (drop (i + 1) old) (sym mine ∙ e ∙ theirs)
  where
    first : (y : X) (ys : List X) (z : X) (zs : List X) → y ∷ ys ≡ z ∷ zs → y ≡ z
    first y ys z zs e = cc

drop-behind : {X : Type 0} (old items : List X) (i : ℕ) (x : X) → drop i items ≡ drop i old → i < length items → i < length old
    → drop (i + 1) items ≡ drop (i + 1) old
drop-behind {X = X} old items i x e h k =
    let mine = drop_more items i x h in
    let theirs = drop_more old i x k in
    behind (get_or items i x) (drop (i + 1) items) (get_or old i x) (drop (i + 1) old) (sym mine ∙ e ∙ theirs)
  where
    behind : (y : X) (ys : List X) (z : X) (zs : List X) → y ∷ ys ≡ z ∷ zs → ys ≡ zs
    behind y ys z zs e = cc

-- bytes of one slot more
pub bytes-more : (b : List ℕ) (xs : List Slot) (i : ℕ) (x : Slot) → i < length xs → x ≡ get_or xs i x
    → bytes_of b (take (i + 1) xs) ≡ bytes_of b (take i xs) ++ encode_op (op_at b x.at)
bytes-more b xs i x h e =
    ap (bytes_of b) (take_more xs i x h ∙ ap (λ y. take i xs ++ y ∷ []) (sym e))
    ∙ flat_map-append (λ (s : Slot). encode_op (op_at b s.at)) (take i xs) (x ∷ [])
    ∙ ap (λ w. bytes_of b (take i xs) ++ w) (append-nil (encode_op (op_at b x.at)))

pub moving-more : (b first : List ℕ) (old : List Slot) (to : List ℕ) (items : List Slot) (i : ℕ) (x y : Slot)
    → Each (IsSlot b) old → Moving b first old to items i → i < length items → x ≡ get_or items i x
    → y ≡ record x { at = length to }
    → Moving b first old (to ++ encode_op (op_at b x.at)) (set items i y) (i + 1)
moving-more b first old to items i x y slots m h e f =
    let long = m.long in
    let is_old = still-old old items i x m.rest h (omega arith) e in
    let here : IsSlot b x = subst (IsSlot b) (sym is_old) (each-at (IsSlot b) old i x slots (omega arith)) in
    let well = lies-well b x.at here.lies in
    let op = op_at b x.at in
    let more = encode_op op in
    let front : take (i + 1) (set items i y) ≡ take i items ++ y ∷ [] = take_more_set items i y h in
    let front_old : take (i + 1) old ≡ take i old ++ x ∷ [] = take_more old i x (omega arith)
    ∙ ap (λ z. take i old ++ z ∷ []) (sym is_old) in
    let at : y.at ≡ length to = ap (λ (s : Slot). s.at) f in
    let moved : seen (to ++ more) y ≡ seen b x =
    ap (seen (to ++ more)) f ∙ seen-last to (record x { at = length to }) op well refl in
    let slot : IsSlot (to ++ more) y = slot-last to y op well at (ap (λ (s : Slot). s.head) f ∙ here.head) in
    record {
      long = length-set items i y ∙ m.long;
      to_is = ap (λ w. w ++ more) m.to_is ∙ append_assoc first (bytes_of b (take i old)) more
          ∙ ap (λ w. first ++ w) (sym (bytes-more b old i x (omega arith) is_old));
      alike = ap (map (seen (to ++ more))) front ∙ map-append (seen (to ++ more)) (take i items) (y ∷ [])
          ∙ ap (λ w. w ++ seen (to ++ more) y ∷ []) (slots-more to more (take i items) m.slots ∙ m.alike)
          ∙ ap (λ v. map (seen b) (take i old) ++ v ∷ []) moved
          ∙ sym (ap (map (seen b)) front_old ∙ map-append (seen b) (take i old) (x ∷ []));
      slots = subst (λ (ss : List Slot). Each (IsSlot (to ++ more)) ss) (sym front)
          (Each-append (IsSlot (to ++ more)) (take i items) (y ∷ []) (all-more to more (take i items) m.slots) (slot, tt));
      rest = drop-set-lt (i + 1) items i y (omega arith) ∙ drop-behind old items i x m.rest h (omega arith);
    }

-- all slots are moved
pub record Moved (b first : List ℕ) (old : List Slot) (to : List ℕ) (items : List Slot) : Type 0 where
  pub to_is : to ≡ first ++ bytes_of b old
  pub alike : map (seen to) items ≡ map (seen b) old
  pub slots : Each (IsSlot to) items

pub moving-done : (b first : List ℕ) (old : List Slot) (to : List ℕ) (items : List Slot) (i : ℕ) → Moving b first old to items i
    → length old ≤ i → Moved b first old to items
moving-done b first old to items i m h =
    let long = m.long in
    let all : take i items ≡ items = take_all i items (omega arith) in
    let all_old : take i old ≡ old = take_all i old h in
    record {
      to_is = m.to_is ∙ ap (λ xs. first ++ bytes_of b xs) all_old;
      alike = sym (ap (map (seen to)) all) ∙ m.alike ∙ ap (map (seen b)) all_old;
      slots = subst (λ (ss : List Slot). Each (IsSlot to) ss) all m.slots;
    }

-- the bytes of what isn't moved yet fit
pub bytes-within : (b : List ℕ) (xs : List Slot) (i : ℕ) (x : Slot) → i < length xs → x ≡ get_or xs i x
    → length (bytes_of b (take i xs)) + length (encode_op (op_at b x.at)) ≤ length (bytes_of b xs)
bytes-within b xs i x h e =
    let one = ap length (bytes-more b xs i x h e) in
    let parts = length-append (bytes_of b (take i xs)) (encode_op (op_at b x.at)) in
    let whole = ap (λ ys. length (bytes_of b ys)) (take-append-drop (i + 1) xs) in
    let cut = ap length (flat_map-append (λ (s : Slot). encode_op (op_at b s.at)) (take (i + 1) xs) (drop (i + 1) xs)) in
    let cut_long = length-append (bytes_of b (take (i + 1) xs)) (bytes_of b (drop (i + 1) xs)) in
    omega arith

-- ---- pages

-- the first i of the pages are moved
pub record MovingPages (b : List ℕ) (old : List Page) (to : List ℕ) (pages : List Page) (i : ℕ) : Type 0 where
  pub long : length pages ≡ length old
  pub to_is : to ≡ live_of b (take i old)
  pub alike : Alike b (take i old) to (take i pages)
  pub good : Each (IsPage to) (take i pages)
  pub rest : drop i pages ≡ drop i old

pub moving_pages-start : (b : List ℕ) (old : List Page) (to : List ℕ) → to ≡ [] → MovingPages b old to old 0
moving_pages-start b old to e = record { long = refl; to_is = e; alike = refl; good = tt; rest = refl }

pub live-more : (b : List ℕ) (ps : List Page) (i : ℕ) (p : Page) → i < length ps → p ≡ get_or ps i p
    → live_of b (take (i + 1) ps) ≡ live_of b (take i ps) ++ bytes_of b (slots_of p)
live-more b ps i p h e =
    ap (live_of b) (take_more ps i p h ∙ ap (λ q. take i ps ++ q ∷ []) (sym e))
    ∙ flat_map-append (λ (q : Page). bytes_of b (slots_of q)) (take i ps) (p ∷ [])
    ∙ ap (λ w. live_of b (take i ps) ++ w) (append-nil (bytes_of b (slots_of p)))

pub live-within : (b : List ℕ) (ps : List Page) (i : ℕ) (p : Page) → i < length ps → p ≡ get_or ps i p
    → length (live_of b (take i ps)) + length (bytes_of b (slots_of p)) ≤ length (live_of b ps)
live-within b ps i p h e =
    let one = ap length (live-more b ps i p h e) in
    let parts = length-append (live_of b (take i ps)) (bytes_of b (slots_of p)) in
    let whole = ap (λ qs. length (live_of b qs)) (take-append-drop (i + 1) ps) in
    let cut = ap length (flat_map-append (λ (q : Page). bytes_of b (slots_of q)) (take (i + 1) ps) (drop (i + 1) ps)) in
    let cut_long = length-append (live_of b (take (i + 1) ps)) (live_of b (drop (i + 1) ps)) in
    omega arith

alike-last : (b : List ℕ) (ps : List Page) (c : List ℕ) (qs : List Page) (p q : Page) → Alike b ps c qs → held c q ≡ held b p
    → q.due ≡ p.due → Alike b (ps ++ p ∷ []) c (qs ++ q ∷ [])
alike-last b [] c qs p q a h d = subst (λ (w : List Page). Alike b (p ∷ []) c (w ++ q ∷ [])) (sym a) (h, (d, refl))
alike-last b (o ∷ ps) c [] p q a h d = absurd a
alike-last b (o ∷ ps) c (r ∷ qs) p q a h d = (a.0, (a.1.0, alike-last b ps c qs p q a.1.1 h d))

alike-on : (b : List ℕ) (ps : List Page) (c more : List ℕ) (qs : List Page) → Alike b ps c qs → Each (IsPage c) qs
    → Alike b ps (c ++ more) qs × Each (IsPage (c ++ more)) qs
alike-on b [] c more qs a g = (a, subst (λ (w : List Page). Each (IsPage (c ++ more)) w) (sym a) tt)
alike-on b (p ∷ ps) c more [] a g = absurd a
alike-on b (p ∷ ps) c more (q ∷ qs) a g =
    let rest = alike-on b ps c more qs a.1.1 g.1 in (
      (slots-more c more (slots_of q) g.0.slots ∙ a.0, (a.1.0, rest.0)),
      (page-more c more q g.0, rest.1),
    )

-- what the move of one page gives
pub record MovesPage (b : List ℕ) (p : Page) (to : List ℕ) (q : Page) : Type 0 where
  pub alike : held to q ≡ held b p
  pub due : q.due ≡ p.due
  pub good : IsPage to q

pub moving_pages-more : (b : List ℕ) (old : List Page) (to : List ℕ) (pages : List Page) (i : ℕ) (p q : Page)
    → MovingPages b old to pages i → i < length pages → p ≡ get_or pages i p
    → MovesPage b p (to ++ bytes_of b (slots_of p)) q
    → MovingPages b old (to ++ bytes_of b (slots_of p)) (set pages i q) (i + 1)
moving_pages-more b old to pages i p q m h e one =
    let long = m.long in
    let more = bytes_of b (slots_of p) in
    let is_old = still-old old pages i p m.rest h (omega arith) e in
    let front : take (i + 1) (set pages i q) ≡ take i pages ++ q ∷ [] = take_more_set pages i q h in
    let front_old : take (i + 1) old ≡ take i old ++ p ∷ [] = take_more old i p (omega arith)
    ∙ ap (λ z. take i old ++ z ∷ []) (sym is_old) in
    let before = alike-on b (take i old) to more (take i pages) m.alike m.good in
    record {
      long = length-set pages i q ∙ m.long;
      to_is = ap (λ w. w ++ more) m.to_is ∙ sym (live-more b old i p (omega arith) is_old);
      alike = subst (λ (w : List Page). Alike b w (to ++ more) (take (i + 1) (set pages i q))) (sym front_old)
          (subst (λ (w : List Page). Alike b (take i old ++ p ∷ []) (to ++ more) w) (sym front)
          (alike-last b (take i old) (to ++ more) (take i pages) p q before.0 one.alike one.due));
      good = subst (λ (w : List Page). Each (IsPage (to ++ more)) w) (sym front)
          (Each-append (IsPage (to ++ more)) (take i pages) (q ∷ []) before.1 (one.good, tt));
      rest = drop-set-lt (i + 1) pages i q (omega arith) ∙ drop-behind old pages i p m.rest h (omega arith);
    }

alike-over : (b : List ℕ) (ps : List Page) (c : List ℕ) (qs : List Page) → Alike b ps c qs → over qs ≡ over ps
alike-over b [] c qs a = ap over a
alike-over b (p ∷ ps) c [] a = absurd a
alike-over b (p ∷ ps) c (q ∷ qs) a =
    let rest = alike-over b ps c qs a.1.1 in
    let same = ap length a.0 in
    let mine = length-map (slots_of q) (seen c) in
    let theirs = length-map (slots_of p) (seen b) in
    omega arith

alike-load : (b : List ℕ) (ps : List Page) (c : List ℕ) (qs : List Page) → Alike b ps c qs → load qs ≡ load ps
alike-load b [] c qs a = ap load a
alike-load b (p ∷ ps) c [] a = absurd a
alike-load b (p ∷ ps) c (q ∷ qs) a = alike-over b (p ∷ ps) c (q ∷ qs) a

alike-said : (b : List ℕ) (ps : List Page) (c : List ℕ) (qs : List Page) → Alike b ps c qs → dues_of qs ≡ dues_of ps
alike-said b [] c qs a = ap dues_of a
alike-said b (p ∷ ps) c [] a = absurd a
alike-said b (p ∷ ps) c (q ∷ qs) a = ap (λ n. n ∷ dues_of qs) a.1.0 ∙ ap (λ w. p.due ∷ w) (alike-said b ps c qs a.1.1)

-- all pages are moved
pub record MovedPages (b : List ℕ) (old : List Page) (to : List ℕ) (pages : List Page) : Type 0 where
  pub long : length pages ≡ length old
  pub to_is : to ≡ live_of b old
  pub alike : Alike b old to pages
  pub good : Each (IsPage to) pages
  pub dues : dues_of pages ≡ dues_of old
  pub load : load pages ≡ load old

pub moving_pages-done : (b : List ℕ) (old : List Page) (to : List ℕ) (pages : List Page) (i : ℕ) → MovingPages b old to pages i
    → length old ≤ i → MovedPages b old to pages
moving_pages-done b old to pages i m h =
    let long = m.long in
    let all : take i pages ≡ pages = take_all i pages (omega arith) in
    let all_old : take i old ≡ old = take_all i old h in
    let alike : Alike b old to pages = subst (λ (w : List Page). Alike b w to pages) all_old
    (subst (λ (w : List Page). Alike b (take i old) to w) all m.alike) in
    record {
      long = m.long;
      to_is = m.to_is ∙ ap (live_of b) all_old;
      alike = alike;
      good = subst (λ (w : List Page). Each (IsPage to) w) all m.good;
      dues = alike-said b old to pages alike;
      load = alike-load b old to pages alike;
    }

pub spare-same : (ps qs : List Page) (n : ℕ) → load qs ≡ load ps → spare_of qs n ≡ spare_of ps n
spare-same ps qs n e = ap (λ k. max n ((32 * n + 31) - k)) e
