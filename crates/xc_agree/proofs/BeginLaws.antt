-- Laws of a tablet's begin, where what its parent held begins to wait, and of the clearing at its end.
use Rattle.std.proofs.Common.{◌≡◌, ℕ, ◌+◌, ◌<◌, Bool, true, false, ◌||◌, List, [], ◌∷◌, ◌++◌, length, take, get_or, zero, suc, refl, ap}
use Rattle.std.proofs.Common.{sym, ◌∙◌, arith}
use Rattle.std.proofs.lemmas.Bool.{eqb-true, eq-eqb, true≢false, false≢true, or_left, or_right}
use Rattle.std.proofs.lemmas.Bool.Decides.{nat_tests}
use Rattle.std.proofs.lemmas.List.Folds.{list_any_more, list_any-append}
use Rattle.std.proofs.lemmas.Option.{none-some}
use Rattle.std.proofs.Math.Bool.{or-false, or-true}
use Rattle.std.specs.Prelude.{Option, Some, None, if◌then◌else◌, ◌==◌, ◌&&◌, option_and_then, is_some, slice_set}
use Rattle.std.specs.List.{list_all}
use Rattle.xc_record.specs.declared.record.Header.{Header}
use Rattle.xc_record.specs.Hash.{holds}
use Rattle.xc_record.specs.Lists.{or_else}
use Rattle.xc_agree.specs.declared.commits.Commit.{Commit}
use Rattle.xc_agree.specs.declared.held.Held.{Held}
use Rattle.xc_agree.specs.declared.look.Look.{Look}
use Rattle.xc_agree.specs.declared.look.Waiter.{Waiter}
use Rattle.xc_agree.specs.Slots.{slot_of}
use Rattle.xc_agree.specs.Seen.{unseen, Seen, waits_from, waits_at, since_at, since_in, is_slot_of, is_in_slot, AreInSlots, Began, IsIdle}
use Rattle.xc_agree.specs.Seen.{IsLook, KeepsPlace}
use Rattle.xc_agree.specs.Held.{InSlots}
use Rattle.xc_agree.proofs.CommitLaws.{slot-below, no-time}
use Rattle.xc_agree.proofs.SlotLaws.{in-slot, slot-in, slot-at-item}
use Rattle.xc_agree.proofs.LookLaws.{begin-look, lift-since}

-- what was held so far waits
pub record Beginning (look : Look) (commits : List Commit) (header : Header) (held : List Held) : Type 0 where
  pub since : (n : ℕ) → since_in commits look n ≡ (if waits_from header held n then Some 0 else None)
  pub safe : look.safe ≡ 0
  pub floor : look.floor ≡ 0
  pub found : look.found ≡ None
  pub slots : length look.waiting.items ≡ length commits
  pub began : Began look
  pub waiters : AreInSlots commits look.began.items

-- the same, before a tablet of which nothing is known yet
pub idle-begin : (look : Look) (commits : List Commit) → IsIdle look commits
    → IsIdle (record look { place = 0; safe = 0; floor = 0; found = None }) commits
idle-begin look commits h = record { slots = h.slots; idle = h.idle; began = h.began }

pub begin-none : (look : Look) (commits : List Commit) (header : Header) → IsIdle look commits → look.safe ≡ 0 → look.floor ≡ 0
    → look.found ≡ None → Beginning look commits header []
begin-none look commits header h safe floor found = record {
  since = λ n. go (slot_of commits n);
  safe = safe;
  floor = floor;
  found = found;
  slots = h.slots;
  began = λ i w. absurd (false≢true (ap is_some (sym (h.idle i)) ∙ w));
  waiters = rw h.began refl;
}
  where
    go : (o : Option ℕ) → option_and_then (since_at look) o ≡ None
    go None = refl
    go (Some i) = h.idle i

-- whether a transaction waits by what is held, one more
waits-more : (header : Header) (held : List Held) (i n : ℕ) (d : Held) → i < length held
    → waits_from header (take (i + 1) held) n ≡
    (waits_from header (take i held) n || ((get_or held i d).txn == n && holds header (get_or held i d).hash))
waits-more header held i n d below = list_any_more (λ x. x.txn == n && holds header x.hash) held i d below

-- one more begins to wait, or is outside the range
pub begin-more : (old new : Look) (commits : List Commit) (header : Header) (held : List Held) (i : ℕ) (d : Held) → InSlots commits held
    → i < length held → Beginning old commits header (take i held)
    → holds header (get_or held i d).hash ≡ true
    → ((get_or held i d).slot < length old.waiting.items → (k : ℕ)
    → since_at new k ≡ (if k == (get_or held i d).slot then or_else (since_at old k) (Some 0) else since_at old k))
    → KeepsPlace old new → new.found ≡ old.found → (Began old → Began new)
    → (is_in_slot commits (get_or held i d).txn (get_or held i d).slot ≡ true → AreInSlots commits old.began.items
    → AreInSlots commits new.began.items)
    → Beginning new commits header (take (i + 1) held)
begin-more old new commits header held i d slots below h inside since kept found began waiters =
    let x : Held = get_or held i d in
    let at : slot_of commits x.txn ≡ Some x.slot = slot-at-item (λ (x : Held). x.txn) (λ x. x.slot) commits held i d slots below in
    let room : x.slot < length old.waiting.items = (let k = slot-below commits x.txn x.slot at in let e = h.slots in omega arith) in
    record {
      since = λ n. lift-since commits old new x.txn x.slot (λ o. or_else o (Some 0)) at (since room) n
          ∙ go n (n == x.txn) (x.txn == n) refl refl ∙ ap (λ b. if b then Some 0 else None) (sym (waits-more header held i n d below));
      safe = kept.safe ∙ h.safe;
      floor = kept.floor ∙ h.floor;
      found = found ∙ h.found;
      slots = kept.slots ∙ h.slots;
      began = began h.began;
      waiters = waiters (in-slot commits x.txn x.slot at) h.waiters;
    }
  where
    start : Option ℕ
    start = Some 0

    or-zero : (w : Bool) → or_else (if w then start else None) start ≡ (if w || true then start else None)
    or-zero true = refl
    or-zero false = refl

    go : (n : ℕ) (a b : Bool) → n == (get_or held i d).txn ≡ a → (get_or held i d).txn == n ≡ b
        → (if a then or_else (since_in commits old n) (Some 0) else since_in commits old n) ≡
        (if waits_from header (take i held) n || (b && holds header (get_or held i d).hash) then Some 0 else None)
    go n true true e f = rw (h.since n, inside) (or-zero (waits_from header (take i held) n))
    go n false false e f = rw (h.since n) (ap (λ b. if b then start else None) (sym (or-false (waits_from header (take i held) n))))
    go n true false e f = absurd (true≢false (sym (eq-eqb (get_or held i d).txn n (sym (eqb-true n (get_or held i d).txn e))) ∙ f))
    go n false true e f = absurd (true≢false (sym (eq-eqb n (get_or held i d).txn (sym (eqb-true (get_or held i d).txn n f))) ∙ e))

pub begin-past : (look : Look) (commits : List Commit) (header : Header) (held : List Held) (i : ℕ) (d : Held) → i < length held
    → Beginning look commits header (take i held) → holds header (get_or held i d).hash ≡ false
    → Beginning look commits header (take (i + 1) held)
begin-past look commits header held i d below h outside = record {
  since = λ n. h.since n
      ∙ ap (λ b. if b then Some 0 else None) (same n (waits_from header (take i held) n) ((get_or held i d).txn == n)
      ∙ sym (waits-more header held i n d below));
  safe = h.safe;
  floor = h.floor;
  found = h.found;
  slots = h.slots;
  began = h.began;
  waiters = h.waiters;
}
  where
    same : (n : ℕ) (w b : Bool) → w ≡ (w || (b && holds header (get_or held i d).hash))
    same n w b = rw outside (grind arith)

-- what is held in its slot commits
none-waits : (commits : List Commit) (header : Header) (held : List Held) (n : ℕ) → InSlots commits held → slot_of commits n ≡ None
    → waits_from header held n ≡ false
none-waits commits header [] n h e = refl
none-waits commits header (x ∷ held) n h e =
    go (λ k. none-waits commits header held n k e) (x.txn == n) (is_in_slot commits x.txn x.slot) refl refl h
  where
    go : (InSlots commits held → waits_from header held n ≡ false) → (a b : Bool) → x.txn == n ≡ a → is_in_slot commits x.txn x.slot ≡ b
        → (b && list_all (λ x. is_in_slot commits x.txn x.slot) held) ≡ true
        → ((a && holds header x.hash) || waits_from header held n) ≡ false
    go ih a false same at f = cc
    go ih false true same at f = ih f
    go ih true true same at f =
        absurd (none-some x.slot (sym e ∙ ap (slot_of commits) (sym (eqb-true x.txn n same)) ∙ slot-in commits x.txn x.slot at))

-- the look before the first record
pub begun : (look : Look) (commits : List Commit) (header : Header) (held : List Held) → look.place ≡ 0 → InSlots commits held
    → Beginning look commits header held → IsLook look commits (λ n c. unseen (waits_from header held n))
begun look commits header held place slots h =
    begin-look look commits header held h.since place h.safe h.floor h.found h.slots h.began h.waiters
    (λ n e. none-waits commits header held n slots (no-time commits n e))

-- ---- what begins to wait

pub waits-set : (xs : List (Option ℕ)) (s : ℕ) (w : Option ℕ) → s < length xs → (i : ℕ)
    → waits_at (slice_set xs s w) i ≡ (if i == s then w else waits_at xs i)
waits-set [] s w h i = absurd (omega arith)
waits-set (x ∷ xs) zero w h zero = refl
waits-set (x ∷ xs) zero w h (suc i) = grind (arith, nat_tests)
waits-set (x ∷ xs) (suc s) w h zero = grind (arith, nat_tests)
waits-set (x ∷ xs) (suc s) w h (suc i) = waits-set xs s w (omega arith) i ∙ grind (arith, nat_tests)

pub began-more : (old new : Look) (txn slot place : ℕ) → slot < length old.waiting.items
    → new.waiting.items ≡ slice_set old.waiting.items slot (Some place)
    → new.began.items ≡ old.began.items ++ record { txn = txn; slot = slot } ∷ []
    → Began old → Began new
began-more old new txn slot place below waiting began h i w =
    ap (is_slot_of i) began ∙ list_any-append (λ w. w.slot == i) old.began.items (record { txn = txn; slot = slot } ∷ [])
    ∙ go (i == slot) refl (sym (ap (λ ws. is_some (waits_at ws i)) waiting
    ∙ ap is_some (waits-set old.waiting.items slot (Some place) below i)) ∙ w)
  where
    go : (b : Bool) → i == slot ≡ b → is_some (if b then Some place else since_at old i) ≡ true
        → (is_slot_of i old.began.items || (slot == i || false)) ≡ true
    go true e w = or_right (is_slot_of i old.began.items) _ (or_left (slot == i) false (eq-eqb slot i (sym (eqb-true i slot e))))
    go false e w = rw (h i w) refl

-- ---- the end

pub stop-more : (before old new : List (Option ℕ)) (ws : List Waiter) (i : ℕ) (d : Waiter) → i < length ws
    → ((k : ℕ) → waits_at old k ≡ (if is_slot_of k (take i ws) then None else waits_at before k))
    → ((k : ℕ) → waits_at new k ≡ (if k == (get_or ws i d).slot then None else waits_at old k)) → (k : ℕ)
    → waits_at new k ≡ (if is_slot_of k (take (i + 1) ws) then None else waits_at before k)
stop-more before old new ws i d below was step k =
    step k ∙ go (k == (get_or ws i d).slot) ((get_or ws i d).slot == k) refl refl
    ∙ ap (λ b. if b then None else waits_at before k) (sym (list_any_more (λ w. w.slot == k) ws i d below))
  where
    go : (a b : Bool) → k == (get_or ws i d).slot ≡ a → (get_or ws i d).slot == k ≡ b
        → (if a then None else waits_at old k) ≡ (if is_slot_of k (take i ws) || b then None else waits_at before k)
    go true true e f = ap (λ b. if b then None else waits_at before k) (sym (or-true (is_slot_of k (take i ws))))
    go false false e f = was k ∙ ap (λ b. if b then None else waits_at before k) (sym (or-false (is_slot_of k (take i ws))))
    go true false e f = absurd (true≢false (sym (eq-eqb (get_or ws i d).slot k (sym (eqb-true k (get_or ws i d).slot e))) ∙ f))
    go false true e f = absurd (true≢false (sym (eq-eqb k (get_or ws i d).slot (sym (eqb-true (get_or ws i d).slot k f))) ∙ e))

-- all that began to wait stopped
pub cleared : (old new : Look) (commits : List Commit) (seen : ℕ → ℕ → Seen) → IsLook old commits seen
    → length new.waiting.items ≡ length old.waiting.items
    → ((i : ℕ) → since_at new i ≡ (if is_slot_of i old.began.items then None else since_at old i)) → new.began.items ≡ []
    → IsIdle new commits
cleared old new commits seen h len since began = record {
  slots = len ∙ h.slots;
  idle = λ i. since i ∙ go i (is_slot_of i old.began.items) refl (since_at old i) refl;
  began = began;
}
  where
    go : (i : ℕ) (b : Bool) → is_slot_of i old.began.items ≡ b → (o : Option ℕ) → since_at old i ≡ o → (if b then None else o) ≡ None
    go i true e o f = refl
    go i false e None f = refl
    go i false e (Some x) f = absurd (true≢false (sym (h.began i (ap is_some f)) ∙ e))
