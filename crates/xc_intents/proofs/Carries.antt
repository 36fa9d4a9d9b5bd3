-- Slots whose operations are moved to another arena, one after another.
use Rattle.std.proofs.Common.{◌≡◌, ◌≢◌, ℕ, ◌+◌, ◌<◌, ◌≤◌, suc, true, cond, List, [], ◌∷◌, ◌++◌, length, set, drop, refl, sym, ◌∙◌, ap}
use Rattle.std.proofs.Common.{subst, arith, ⊎_elim, length-append}
use Rattle.std.proofs.lemmas.Bool.{cases_eq}
use Rattle.std.proofs.lemmas.List.{length-set, drop_more, drop_all}
use Rattle.xc_record.specs.Hash.{hash_of}
use Rattle.xc_record.specs.Kept.{KeyWaiting}
use Rattle.xc_record.specs.Packed.{encode_op, is_op}
use Rattle.xc_record.specs.declared.record.Op.{Op}
use Rattle.xc_arena.specs.Arena.{op_at, Lies}
use Rattle.xc_arena.proofs.ArenaLaws.{lies-more, lies-last, lies-well, op_at-more, op_at-last}
use Rattle.xc_intents.specs.HeldOps.{held_op}
use Rattle.xc_intents.specs.declared.slots.Slot.{Slot}
use Rattle.xc_intents.specs.declared.slots.Chain.{Chain}
use Rattle.xc_intents.specs.Slots.{at, blank, slot_op, held_in, size_of, Holds, Linked, IsChained, unplaced, IsCarried, Carried}
use Rattle.xc_intents.proofs.Chains.{Fewer, Linked-fewer, at-set_same, at-set_other, at-field}
use Rattle.xc_intents.proofs.Walks.{held-cons}

-- the first i of the slots xs were moved behind so many bytes
pub record Carrying (b : List ℕ) (xs : List Slot) (first : ℕ) (to : List ℕ) (ys : List Slot) (i : ℕ) : Type 0 where
  pub long : length ys ≡ length xs
  pub same : (k : ℕ) → k < length xs → unplaced (at ys k) ≡ unplaced (at xs k)
  pub moved : (k : ℕ) → k < i → IsCarried b xs to ys k
  pub rest : (k : ℕ) → i ≤ k → at ys k ≡ at xs k
  pub left : length to + size_of b (drop i xs) ≡ first + size_of b xs

pub carrying-none : (b : List ℕ) (xs : List Slot) (to : List ℕ) → Carrying b xs (length to) to xs 0
carrying-none b xs to = record {
  long = refl;
  same = λ k low. refl;
  moved = λ k low. absurd (omega arith);
  rest = λ k high. refl;
  left = refl;
}

-- the bytes of the slot i and of those behind it
size-more : (b : List ℕ) (xs : List Slot) (i : ℕ) → i < length xs
    → size_of b (drop i xs) ≡ length (encode_op (op_at b (at xs i).at)) + size_of b (drop (i + 1) xs)
size-more b xs i h = ap (size_of b) (drop_more xs i blank h)

-- the operation of the slot i fits
pub carrying-fits : (b : List ℕ) (xs : List Slot) (first : ℕ) (to : List ℕ) (ys : List Slot) (i : ℕ) → Carrying b xs first to ys i
    → i < length xs → length to + length (encode_op (op_at b (at ys i).at)) ≤ first + size_of b xs
carrying-fits b xs first to ys i m h =
    let more = size-more b xs i h in
    let left = m.left in
    let same = ap (λ (s : Slot). length (encode_op (op_at b s.at))) (m.rest i (omega arith)) in
    omega arith

-- one slot more
module _ (b : List ℕ) (xs : List Slot) (first : ℕ) (to : List ℕ) (ys : List Slot) (i : ℕ) (s : Slot) (h : i < length xs)
    (holds : Holds b xs) (m : Carrying b xs first to ys i) (is : s ≡ record (at ys i) { at = length to }) where
  abbrev op : Op
  op = op_at b (at xs i).at

  abbrev next : List ℕ
  next = to ++ encode_op (op_at b (at xs i).at)

  well : is_op op ≡ true
  well = lies-well b (at xs i).at (holds i h).lies

  here : IsCarried b xs next (set ys i s) i
  here =
      let long = m.long in
      let place : (at (set ys i s) i).at ≡ length to = ap (λ (z : Slot). z.at) (at-set_same ys i s (omega arith) ∙ is) in
      record {
        op = ap (op_at next) place ∙ op_at-last to op well;
        lies = subst (Lies next) (sym place) (lies-last to op well);
      }

  before : (k : ℕ) → k < i → k ≢ i → IsCarried b xs next (set ys i s) k
  before k low other =
      let was = m.moved k low in
      let place : (at (set ys i s) k).at ≡ (at ys k).at = ap (λ (z : Slot). z.at) (at-set_other ys i k s other) in
      record {
        op = ap (op_at next) place ∙ op_at-more to (encode_op op) (at ys k).at was.lies ∙ was.op;
        lies = subst (Lies next) (sym place) (lies-more to (encode_op op) (at ys k).at was.lies);
      }

  pub carrying-more : Carrying b xs first next (set ys i s) (i + 1)
  carrying-more =
      let long = m.long in
      let more = size-more b xs i h in
      let left = m.left in
      let parts = length-append to (encode_op op) in
      record {
        long = length-set ys i s ∙ m.long;
        same = λ k low. at-field unplaced ys i k s (omega arith) (ap unplaced is) ∙ m.same k low;
        moved = λ k low. ⊎_elim
            (λ (same : k ≡ i). subst (IsCarried b xs next (set ys i s)) (sym same) here)
            (λ (other : k ≢ i). before k (omega arith) other)
            (cases_eq k i);
        rest = λ k high. at-set_other ys i k s (λ same. omega arith) ∙ m.rest k (omega arith);
        left = omega arith;
      }

pub carrying-done : (b : List ℕ) (xs : List Slot) (first : ℕ) (to : List ℕ) (ys : List Slot) (i : ℕ) → Carrying b xs first to ys i
    → length xs ≤ i → Carried b xs to ys × (length to ≡ first + size_of b xs)
carrying-done b xs first to ys i m h =
    let none = ap (size_of b) (drop_all i xs h) in
    let left = m.left in (
      record { long = m.long; same = m.same; moved = λ k low. m.moved k (omega arith) },
      omega arith,
    )

-- ---- what slots hold whose operations were moved

tail-carried : (b : List ℕ) (x : Slot) (xs : List Slot) (d : List ℕ) (y : Slot) (ys : List Slot) → Carried b (x ∷ xs) d (y ∷ ys)
    → Carried b xs d ys
tail-carried b x xs d y ys c = record {
  long = let long = c.long in omega arith;
  same = λ k low. c.same (suc k) (omega arith);
  moved = λ k low. let was = c.moved (suc k) (omega arith) in record { op = was.op; lies = was.lies };
}

abbrev op-of : Slot → Op → KeyWaiting
op-of s op = held_op s.txn s.sub op

carried-op : (b : List ℕ) (xs : List Slot) (d : List ℕ) (ys : List Slot) (k : ℕ) → Carried b xs d ys → k < length xs
    → slot_op d (at ys k) ≡ slot_op b (at xs k)
carried-op b xs d ys k c low =
    ap (λ (s : Slot). op-of s (op_at d (at ys k).at)) (c.same k low) ∙ ap (op-of (at xs k)) (c.moved k low).op

pub carried-held : (b : List ℕ) (xs : List Slot) (d : List ℕ) (ys : List Slot) → Carried b xs d ys → held_in d ys ≡ held_in b xs
carried-held b [] d [] c = refl
carried-held b [] d (y ∷ ys) c = absurd (let long = c.long in omega arith)
carried-held b (x ∷ xs) d [] c = absurd (let long = c.long in omega arith)
carried-held b (x ∷ xs) d (y ∷ ys) c =
    let rest = carried-held b xs d ys (tail-carried b x xs d y ys c) in
    let live : y.live ≡ x.live = ap (λ (s : Slot). s.live) (c.same 0 (omega arith)) in
    let op : slot_op d y ≡ slot_op b x = carried-op b (x ∷ xs) d (y ∷ ys) 0 c (omega arith) in
    held-cons d y ys ∙ ap (λ l. cond l (slot_op d y ∷ held_in d ys) (held_in d ys)) live
    ∙ ap (λ w. cond x.live (w ∷ held_in d ys) (held_in d ys)) op
    ∙ ap (λ ws. cond x.live (slot_op b x ∷ ws) ws) rest ∙ sym (held-cons b x xs)

carried-holds : (b : List ℕ) (xs : List Slot) (d : List ℕ) (ys : List Slot) → Carried b xs d ys → Holds b xs → Holds d ys
carried-holds b xs d ys c h = λ k low.
    let long = c.long in
    let was = h k (omega arith) in
    let moved = c.moved k (omega arith) in
    record {
      lies = moved.lies;
      hashed = ap (λ (s : Slot). s.hash) (c.same k (omega arith)) ∙ was.hashed ∙ ap (λ (o : Op). hash_of o.key) (sym moved.op);
    }

pub carried-chained : (b : List ℕ) (xs : List Slot) (d : List ℕ) (ys : List Slot) (cs : List Chain) → Carried b xs d ys
    → IsChained b xs cs → IsChained d ys cs
carried-chained b xs d ys cs c is =
    let long = c.long in
    let small = is.small in
    let fewer : Fewer (length xs) xs ys = record {
      txn = λ k low. ap (λ (s : Slot). s.txn) (c.same k low);
      hash = λ k low. ap (λ (s : Slot). s.hash) (c.same k low);
      live = λ k low e. sym (ap (λ (s : Slot). s.live) (c.same k low)) ∙ e;
    } in
    record {
      linked = subst (Linked ys cs) (sym long)
          (Linked-fewer (length xs) xs ys fewer cs (λ k low. ap (λ (s : Slot). s.next) (c.same k low)) is.linked);
      holds = carried-holds b xs d ys c is.holds;
      small = omega arith;
      few = is.few;
    }

-- ---- more bytes behind

more-carried : (b more : List ℕ) (xs : List Slot) → Holds b xs → Carried b xs (b ++ more) xs
more-carried b more xs h = record {
  long = refl;
  same = λ k low. refl;
  moved = λ k low.
      let lies = (h k low).lies in
      record { op = op_at-more b more (at xs k).at lies; lies = lies-more b more (at xs k).at lies };
}

pub held-more : (b more : List ℕ) (xs : List Slot) → Holds b xs → held_in (b ++ more) xs ≡ held_in b xs
held-more b more xs h = carried-held b xs (b ++ more) xs (more-carried b more xs h)

pub holds-more : (b more : List ℕ) (xs : List Slot) → Holds b xs → Holds (b ++ more) xs
holds-more b more xs h = carried-holds b xs (b ++ more) xs (more-carried b more xs h) h
