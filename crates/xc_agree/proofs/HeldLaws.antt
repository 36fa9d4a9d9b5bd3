-- Laws of what is held.
use Rattle.std.proofs.Common.{◌≡◌, ℕ, ◌+◌, ◌-◌, ◌<◌, ◌≤◌, Bool, true, false, ◌||◌, List, [], ◌∷◌, ◌++◌, length, take, drop, get_or, refl}
use Rattle.std.proofs.Common.{ap, sym, ◌∙◌, arith, length-append}
use Rattle.std.proofs.lemmas.Bool.Decides.{nat_tests}
use Rattle.std.proofs.lemmas.Bool.{eqb-true}
use Rattle.std.proofs.lemmas.List.{take_more, drop-append-le, drop_all, length-take-le}
use Rattle.std.proofs.lemmas.List.Folds.{list_any-append, list_all-append}
use Rattle.std.specs.Prelude.{Option, Some, None, ◌&&◌, ◌==◌, nat_le, option_and_then}
use Rattle.std.specs.List.{list_all}
use Rattle.xc_record.specs.declared.record.Record.{Record}
use Rattle.xc_record.specs.declared.record.Header.{Header}
use Rattle.xc_record.specs.Hash.{hash_of, holds}
use Rattle.xc_record.specs.declared.record.Op.{Op}
use Rattle.xc_agree.specs.declared.commits.Commit.{Commit}
use Rattle.xc_agree.specs.declared.held.Held.{Held}
use Rattle.xc_agree.specs.declared.look.Look.{Look}
use Rattle.xc_agree.specs.Slots.{slot_of}
use Rattle.xc_agree.specs.Seen.{since_at, since_in, is_in_slot}
use Rattle.xc_agree.specs.Held.{is_held, writes_at, intends_kind, intends, intends_since, is_start, is_since, InSlots, StaysHeld}
use Rattle.xc_agree.proofs.SlotLaws.{in-slot, slot-at-item}
use Rattle.std.proofs.Math.Bool.{or-false, or_assoc}

stay : (a p q : Bool) → ((a && q) || (q && p)) ≡ ((a || p) && q)
stay a p q = grind arith

-- one of what was held more
pub keep-more : (stays : ℕ → ℕ → Bool) (old new : ℕ → ℕ → Bool) (held : List Held) (i : ℕ) (x d : Held) → i < length held
    → x ≡ get_or held i d
    → ((n h : ℕ) → old n h ≡ (is_held (take i held) n h && stays n h))
    → ((n h : ℕ) → new n h ≡ (old n h || (stays x.txn x.hash && (x.txn == n && x.hash == h))))
    → (n h : ℕ) → new n h ≡ (is_held (take (i + 1) held) n h && stays n h)
keep-more stays old new held i x d below is was step n h =
    let one : is_held (take (i + 1) held) n h ≡ (is_held (take i held) n h || (x.txn == n && x.hash == h)) =
    ap (λ xs. is_held xs n h) (take_more held i d below ∙ ap (λ y. take i held ++ y ∷ []) (sym is))
    ∙ list_any-append (λ y. y.txn == n && y.hash == h) (take i held) (x ∷ [])
    ∙ ap (λ b. is_held (take i held) n h || b) (or-false (x.txn == n && x.hash == h)) in
    step n h ∙ ap (λ b. b || (stays x.txn x.hash && (x.txn == n && x.hash == h))) (was n h) ∙ same (x.txn == n) (x.hash == h) refl refl
    ∙ sym (ap (λ b. b && stays n h) one)
  where
    same : (p q : Bool) → x.txn == n ≡ p → x.hash == h ≡ q
        → ((is_held (take i held) n h && stays n h) || (stays x.txn x.hash && (p && q))) ≡
        ((is_held (take i held) n h || (p && q)) && stays n h)
    same true true e f = rw (eqb-true x.txn n e, eqb-true x.hash h f) (stay (is_held (take i held) n h) true (stays n h))
    same true false e f = grind arith
    same false q e f = grind arith

-- one record more
pub since-snoc : (n h : ℕ) (since : Option ℕ) (rs : List Record) (r : Record)
    → intends_since n h since (rs ++ r ∷ []) ≡ (intends_since n h since rs || (is_since (length rs + 1) since && intends_kind n h r.kind))
since-snoc n h None rs r = refl
since-snoc n h (Some place) rs r = go (nat_le place (length rs + 1)) refl
  where
    go : (b : Bool) → nat_le place (length rs + 1) ≡ b
        → intends n h (drop (place - 1) (rs ++ r ∷ [])) ≡ (intends n h (drop (place - 1) rs) || (b && intends_kind n h r.kind))
    go true e =
        let low : place - 1 ≤ length rs = grind (arith, nat_tests) in
        ap (intends n h) (drop-append-le (place - 1) rs (r ∷ []) low)
        ∙ list_any-append (λ x. intends_kind n h x.kind) (drop (place - 1) rs) (r ∷ [])
        ∙ ap (λ b. intends n h (drop (place - 1) rs) || b) (or-false (intends_kind n h r.kind))
    go false e =
        let high : length (rs ++ r ∷ []) ≤ place - 1 = grind (arith, nat_tests, length-append {A = Record}) in
        let past : length rs ≤ place - 1 = grind (arith, nat_tests) in
        ap (intends n h) (drop_all (place - 1) (rs ++ r ∷ []) high)
        ∙ sym (ap (λ xs. intends n h xs || false) (drop_all (place - 1) rs past))

-- with the record at i
pub since-more : (n h : ℕ) (since : Option ℕ) (rs : List Record) (i : ℕ) (r : Record) → i < length rs → r ≡ get_or rs i r
    → intends_since n h since (take (i + 1) rs) ≡
    (intends_since n h since (take i rs) || (is_since (i + 1) since && intends_kind n h r.kind))
since-more n h since rs i r below is =
    ap (intends_since n h since) (take_more rs i r below ∙ ap (λ y. take i rs ++ y ∷ []) (sym is)) ∙ since-snoc n h since (take i rs) r
    ∙ ap (λ k. intends_since n h since (take i rs) || (is_since (k + 1) since && intends_kind n h r.kind))
    (length-take-le i rs (omega arith))

pub hold-none : (n h : ℕ) (since : Option ℕ) (base : Bool) → base ≡ (base || intends_since n h since [])
hold-none n h None base = sym (or-false base)
hold-none n h (Some place) base = sym (ap (λ rs. base || intends n h rs) (drop_all (place - 1) [] (omega arith)) ∙ or-false base)

pub hold-more : (n h : ℕ) (since : Option ℕ) (rs : List Record) (i : ℕ) (r : Record) (old new base : Bool) → i < length rs
    → r ≡ get_or rs i r
    → old ≡ (base || intends_since n h since (take i rs)) → new ≡ (old || (is_since (i + 1) since && intends_kind n h r.kind))
    → new ≡ (base || intends_since n h since (take (i + 1) rs))
hold-more n h since rs i r old new base below is was step =
    step ∙ ap (λ b. b || (is_since (i + 1) since && intends_kind n h r.kind)) was
    ∙ or_assoc base (intends_since n h since (take i rs)) (is_since (i + 1) since && intends_kind n h r.kind)
    ∙ ap (λ b. base || b) (sym (since-more n h since rs i r below is))

-- the same of what stays, by the slots of the transactions
pub still-more : (commits : List Commit) (look : Look) (header : Header) (held old new : List Held) (i : ℕ) (d : Held)
    → InSlots commits held → i < length held → StaysHeld old commits look header (take i held)
    → ((n h : ℕ)
    → is_held new n h ≡
    (is_held old n h ||
    ((holds header (get_or held i d).hash && is_start (since_at look (get_or held i d).slot)) &&
    ((get_or held i d).txn == n && (get_or held i d).hash == h))))
    → (is_in_slot commits (get_or held i d).txn (get_or held i d).slot ≡ true → InSlots commits old → InSlots commits new)
    → StaysHeld new commits look header (take (i + 1) held)
still-more commits look header held old new i d slots below was step more =
    let x : Held = get_or held i d in
    let at : slot_of commits x.txn ≡ Some x.slot = slot-at-item (λ (x : Held). x.txn) (λ x. x.slot) commits held i d slots below in
    let since : since_in commits look x.txn ≡ since_at look x.slot = ap (option_and_then (since_at look)) at in
    record {
      waits = keep-more (λ n h. holds header h && is_start (since_in commits look n)) (is_held old) (is_held new) held i x d below refl
          was.waits
          (λ n h. step n h ∙ ap (λ o. is_held old n h || ((holds header x.hash && is_start o) && (x.txn == n && x.hash == h))) (sym since));
      slots = more (in-slot commits x.txn x.slot at) was.slots;
    }

-- one more in its slot
pub slots-more : (commits : List Commit) (held new : List Held) (x : Held) → new ≡ held ++ x ∷ [] → is_in_slot commits x.txn x.slot ≡ true
    → InSlots commits held → InSlots commits new
slots-more commits held new x is at h =
    ap (list_all (λ x. is_in_slot commits x.txn x.slot)) is ∙ list_all-append (λ x. is_in_slot commits x.txn x.slot) held (x ∷ [])
    ∙ rw (h, at) refl

-- one operation more, and those that are left
pub ops-next : (held old new : List Held) (x : Held) (op : Op) (ops left rest : List Op) → left ≡ op ∷ rest → x.hash ≡ hash_of op.key
    → new ≡ old ++ x ∷ []
    → ((n h : ℕ) → (is_held old n h || (x.txn == n && writes_at h left)) ≡ (is_held held n h || (x.txn == n && writes_at h ops)))
    → (n h : ℕ) → (is_held new n h || (x.txn == n && writes_at h rest)) ≡ (is_held held n h || (x.txn == n && writes_at h ops))
ops-next held old new x op ops left rest first hash snoc was n h =
    let writes : writes_at h left ≡ (x.hash == h || writes_at h rest) =
    ap (writes_at h) first ∙ ap (λ k. k == h || writes_at h rest) (sym hash) in
    let more : is_held new n h ≡ (is_held old n h || ((x.txn == n && x.hash == h) || false)) =
    ap (λ xs. is_held xs n h) snoc ∙ list_any-append (λ y. y.txn == n && y.hash == h) old (x ∷ []) in
    ap (λ b. b || (x.txn == n && writes_at h rest)) more ∙ join (is_held old n h) (x.txn == n) (x.hash == h) (writes_at h rest)
    ∙ ap (λ b. is_held old n h || (x.txn == n && b)) (sym writes) ∙ was n h
  where
    join : (a t q w : Bool) → ((a || ((t && q) || false)) || (t && w)) ≡ (a || (t && (q || w)))
    join a t q w = grind arith

pub ops-done : (n h : ℕ) (a t : Bool) (left : List Op) → left ≡ [] → (a || (t && writes_at h left)) ≡ a
ops-done n h a t left none = rw none (nothing a t)
  where
    nothing : (a t : Bool) → (a || (t && false)) ≡ a
    nothing a t = grind arith
