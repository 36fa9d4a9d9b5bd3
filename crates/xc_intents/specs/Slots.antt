-- How the operations lie in slots and in an arena b, and how the slots of a transaction are chained.
--     held_in b xs      the operations of the slots that are live, in their order
--     size_of b xs      how many bytes the operations of the slots have
--     NextTo t xs from n o      o is the first slot of t from `from` on, up to n; dead slots of t may stand before it
--     next_of xs c      where the walk of the chain c goes on; WalkTo xs n c o      what is known there
--     ChainFits xs n c      the chain's ends, and what its last walk passed, are right for the first n slots
--     Leads cs t m rest cur e      in the tree of the chains m steps lead from cur to e, for t of which `rest` is left
--     IsTree cs n      the first n chains are in the tree, each where its transaction leads
--     IsSearchable cs n      they are where the first chain has a branch, and else they stand in rising order of transactions
--     Linked xs cs n      so are all links and chains, and each of these slots has a chain
--     given_at b xs i      what is taken out of the slot i
--     sought_by c, part_of c      what the walk of the chain c looks for
--     Holds b xs      for each slot an operation lies in the arena, whose key's hash the slot knows
--     IsChained b xs cs      so they do, and all are linked
--     Carried b xs d ys      ys are the slots xs, whose operations were moved to the arena d
use Rattle.std.specs.Prelude.{◌≡◌, ◌≢◌, ℕ, zero, suc, ◌+◌, ◌-◌, ◌≤◌, ◌<◌, ◌^◌, ◌*◌, ◌%◌, min, Bool, true, false, ◌&&◌, ◌||◌, ◌==◌, List, []}
use Rattle.std.specs.Prelude.{◌∷◌}
use Rattle.std.specs.Prelude.{Option, Some, None, IfSome}
use Rattle.std.specs.Prelude.{length, map, filter, slice_index_or, slice_set, nat_le, is_some, if◌then◌else◌}
use Rattle.std.specs.Option.{option_map_or}
use Rattle.xc_record.specs.Hash.{hash_of}
use Rattle.xc_record.specs.Kept.{KeyWaiting}
use Rattle.xc_record.specs.Packed.{encode_op}
use Rattle.xc_arena.specs.Arena.{key_at, op_at, Lies}
use Rattle.std.specs.List.{find}
use Rattle.std.specs.Option.{option_map}
use Rattle.xc_intents.specs.declared.held.Held.{Held}
use Rattle.xc_intents.specs.HeldOps.{Sought, held_op, in_range, is_part, given, without_first}
use Rattle.xc_intents.specs.declared.limits.TheConstants.{MOST_LINKED}
use Rattle.xc_intents.specs.declared.slots.Slot.{Slot}
use Rattle.xc_intents.specs.declared.slots.Chain.{Chain}

-- ---- slots

abbrev pub is_live : Slot → Bool
is_live s = s.live

abbrev pub slot_op : List ℕ → Slot → KeyWaiting
slot_op b s = held_op s.txn s.sub (op_at b s.at)

abbrev pub held_in : List ℕ → List Slot → List KeyWaiting
held_in b xs = map (slot_op b) (filter is_live xs)

abbrev pub size_of : List ℕ → List Slot → ℕ
size_of b [] = 0
size_of b (s ∷ ss) = length (encode_op (op_at b s.at)) + size_of b ss

-- for how many more operations there are slots and chains, by the capacities and the lengths
abbrev pub room_in : ℕ → ℕ → ℕ → ℕ → ℕ
room_in slot_cap slot_len chain_cap chain_len = min (min slot_cap MOST_LINKED - slot_len) (min chain_cap MOST_LINKED - chain_len)

abbrev pub blank : Slot
blank = record { next = None; txn = 0; hash = 0; sub = 0; live = false; at = 0 }

abbrev pub at : List Slot → ℕ → Slot
at xs i = slice_index_or xs i blank

abbrev pub given_at : List ℕ → List Slot → ℕ → Held
given_at b xs i = given (slot_op b (at xs i))

abbrev pub no_chain : ℕ → Chain
no_chain t = record { txn = t; first = None; last = None; lo = 0; hi = 0; passed = None; left = None; right = None }

abbrev pub chain_at : List Chain → ℕ → Chain
chain_at cs e = slice_index_or cs e (no_chain 0)

-- the slot of an operation with this key that is in no chain yet, and begins at n
abbrev pub fresh : ℕ → ℕ → List ℕ → ℕ → Slot
fresh t sub key n = record { next = None; txn = t; hash = hash_of key; sub = sub; live = true; at = n }

-- ---- links

abbrev pub mine : ℕ → Slot → Bool
mine t s = s.live && t == s.txn

abbrev pub Skips : ℕ → List Slot → ℕ → ℕ → Type 0
Skips t xs from n = (k : ℕ) → from ≤ k → k < n → mine t (at xs k) ≡ false

pub record IsNext (t : ℕ) (xs : List Slot) (from n j : ℕ) : Type 0 where
  pub above : from ≤ j
  pub below : j < n
  pub same : (at xs j).txn ≡ t
  pub skips : Skips t xs from j

abbrev pub NextTo : ℕ → List Slot → ℕ → ℕ → Option ℕ → Type 0
NextTo t xs from n None = Skips t xs from n
NextTo t xs from n (Some j) = IsNext t xs from n j

pub record IsLast (t : ℕ) (xs : List Slot) (n l : ℕ) : Type 0 where
  pub below : l < n
  pub same : (at xs l).txn ≡ t
  pub skips : Skips t xs (l + 1) n

abbrev pub LastTo : ℕ → List Slot → ℕ → Option ℕ → Type 0
LastTo t xs n None = Skips t xs 0 n
LastTo t xs n (Some l) = IsLast t xs n l

abbrev pub in_walk : Chain → Slot → Bool
in_walk c s = mine c.txn s && in_range c.lo c.hi s.hash

-- no slot up to p is one that the walk looks for
pub record IsPassed (xs : List Slot) (n : ℕ) (c : Chain) (p : ℕ) : Type 0 where
  pub below : p < n
  pub same : (at xs p).txn ≡ c.txn
  pub none : (k : ℕ) → k ≤ p → in_walk c (at xs k) ≡ false

abbrev pub PassedTo : List Slot → ℕ → Chain → Option ℕ → Type 0
PassedTo xs n c None = Unit {0}
PassedTo xs n c (Some p) = IsPassed xs n c p

pub record ChainFits (xs : List Slot) (n : ℕ) (c : Chain) : Type 0 where
  pub first : NextTo c.txn xs 0 n c.first
  pub last : LastTo c.txn xs n c.last
  pub passed : PassedTo xs n c c.passed
  pub ends : c.first ≡ None → c.last ≡ None
  pub lasts : (i : ℕ) → i < n → (at xs i).txn ≡ c.txn → (at xs i).next ≡ None → c.last ≡ Some i

-- where the walk of a chain goes on
abbrev pub next_of : List Slot → Chain → Option ℕ
next_of xs c = option_map_or (λ p. (at xs p).next) c.passed c.first

-- what is known where it goes on at o
pub record IsReached (xs : List Slot) (n : ℕ) (c : Chain) (i : ℕ) : Type 0 where
  pub below : i < n
  pub same : (at xs i).txn ≡ c.txn
  pub none : (k : ℕ) → k < i → in_walk c (at xs k) ≡ false

abbrev pub WalkTo : List Slot → ℕ → Chain → Option ℕ → Type 0
WalkTo xs n c None = (k : ℕ) → k < n → in_walk c (at xs k) ≡ false
WalkTo xs n c (Some i) = IsReached xs n c i

-- a slot but for its link
abbrev pub bare : Slot → Slot
bare s = record s { next = None }

-- a slot whose operation was taken out
abbrev pub dead : Slot → Slot
dead s = record s { live = false }

-- a chain whose walk looks for these hashes: it goes on where the last one stood, where that looked for them too
abbrev pub begun : ℕ → ℕ → Chain → Chain
begun lo hi c = record c { lo = lo; hi = hi; passed = if nat_le c.lo lo && nat_le hi c.hi then c.passed else None }

-- the chain looks for the same
pub record SameWalk (c d : Chain) : Type 0 where
  pub txn : d.txn ≡ c.txn
  pub lo : d.lo ≡ c.lo
  pub hi : d.hi ≡ c.hi

-- the link behind what was passed leads to o
abbrev pub chain_to : Chain → Option ℕ → Chain
chain_to c o = option_map_or (λ p. c) c.passed (record c { first = o })

abbrev pub slots_to : List Slot → Option ℕ → Option ℕ → List Slot
slots_to xs passed o = option_map_or (λ p. slice_set xs p (record (at xs p) { next = o })) passed xs

-- the slot n comes behind the others of its chain
abbrev pub slots_and : List Slot → Option ℕ → ℕ → List Slot
slots_and xs last n = slots_to xs last (Some n)

abbrev pub chain_and : Chain → ℕ → Chain
chain_and c n = record c { first = option_map_or (λ l. c.first) c.last (Some n); last = Some n }

-- a chain of which no slot is linked yet, and whether one is
abbrev pub cut : Chain → Chain
cut c = record c { first = None; last = None; passed = None }

abbrev pub is_used : Chain → Bool
is_used c = is_some c.first

abbrev pub HasChain : List Chain → ℕ → Type 0
HasChain cs t = (e : ℕ) × (e < length cs) × ((chain_at cs e).txn ≡ t)

abbrev pub Distinct : List Chain → Type 0
Distinct cs = (a b : ℕ) → a < b → b < length cs → (chain_at cs a).txn ≢ (chain_at cs b).txn

abbrev pub NoChain : List Chain → ℕ → Type 0
NoChain cs t = (k : ℕ) → k < length cs → (chain_at cs k).txn ≢ t

-- ---- the tree of the chains

-- what the tree knows of a chain, and what it doesn't
abbrev pub twig : Chain → Chain
twig c = record (no_chain c.txn) { left = c.left; right = c.right }

abbrev pub loose : Chain → Chain
loose c = record c { left = None; right = None }

-- the 32 bits of a transaction's number say on which side its chain is, from the highest on
abbrev pub is_right : ℕ → Bool
is_right rest = nat_le (2 ^ 31) rest

-- what is left of the number behind its first bit
abbrev pub behind_bit : ℕ → ℕ
behind_bit rest = rest * 2 % 2 ^ 32

abbrev pub below : Bool → Chain → Option ℕ
below side c = if side then c.right else c.left

abbrev pub hung : Bool → ℕ → Chain → Chain
hung side n c = if side then record c { right = Some n } else record c { left = Some n }

abbrev pub Leads : List Chain → ℕ → ℕ → ℕ → ℕ → ℕ → Type 0
Leads cs t zero rest cur e = cur ≡ e
Leads cs t (suc m) rest cur e = ((chain_at cs cur).txn ≢ t) × (j : ℕ) × (below (is_right rest) (chain_at cs cur) ≡ Some j)
    × Leads cs t m (behind_bit rest) j e

pub record IsTree (cs : List Chain) (n : ℕ) : Type 0 where
  pub later : (i j : ℕ) (side : Bool) → i < n → below side (chain_at cs i) ≡ Some j → (i < j) × (j < n)
  pub found : (e : ℕ) → e < n → (m : ℕ) × Leads cs (chain_at cs e).txn m (chain_at cs e).txn 0 e

abbrev pub is_planted : List Chain → Bool
is_planted cs = is_some (chain_at cs 0).left || is_some (chain_at cs 0).right

abbrev pub Rising : List Chain → ℕ → Type 0
Rising cs n = (a b : ℕ) → a < b → b < n → (chain_at cs a).txn < (chain_at cs b).txn

pub record IsSearchable (cs : List Chain) (n : ℕ) : Type 0 where
  pub tree : is_planted cs ≡ true → IsTree cs n
  pub rising : is_planted cs ≡ false → Rising cs n

pub record Linked (xs : List Slot) (cs : List Chain) (n : ℕ) : Type 0 where
  pub links : (i : ℕ) → i < n → NextTo (at xs i).txn xs (i + 1) n (at xs i).next
  pub chains : (e : ℕ) → e < length cs → ChainFits xs n (chain_at cs e)
  pub has : (i : ℕ) → i < n → HasChain cs (at xs i).txn
  pub searchable : IsSearchable cs (length cs)

pub record Keeps (b : List ℕ) (s : Slot) : Type 0 where
  pub lies : Lies b s.at
  pub hashed : s.hash ≡ hash_of (key_at b s.at)

abbrev pub Holds : List ℕ → List Slot → Type 0
Holds b xs = (i : ℕ) → i < length xs → Keeps b (at xs i)

pub record IsChained (b : List ℕ) (xs : List Slot) (cs : List Chain) : Type 0 where
  pub linked : Linked xs cs (length xs)
  pub holds : Holds b xs
  pub small : length xs ≤ MOST_LINKED
  pub few : length cs ≤ MOST_LINKED

-- and so many of them are dead, and one of them is that of what was taken out last
pub record AreSlots (b : List ℕ) (xs : List Slot) (cs : List Chain) (dead : ℕ) (taken : Option ℕ) : Type 0 where
  pub chained : IsChained b xs cs
  pub count : length (held_in b xs) + dead ≡ length xs
  pub within : IfSome taken (λ i. i < length xs)

-- a slot but for the place of its operation
abbrev pub unplaced : Slot → Slot
unplaced s = record s { at = 0 }

-- slot k was moved
pub record IsCarried (b : List ℕ) (xs : List Slot) (d : List ℕ) (ys : List Slot) (k : ℕ) : Type 0 where
  pub op : op_at d (at ys k).at ≡ op_at b (at xs k).at
  pub lies : Lies d (at ys k).at

pub record Carried (b : List ℕ) (xs : List Slot) (d : List ℕ) (ys : List Slot) : Type 0 where
  pub long : length ys ≡ length xs
  pub same : (k : ℕ) → k < length xs → unplaced (at ys k) ≡ unplaced (at xs k)
  pub moved : (k : ℕ) → k < length xs → IsCarried b xs d ys k

-- links and chains were changed, and the operations are where they were
pub record Moves (xs : List Slot) (cs : List Chain) (ys : List Slot) (ds : List Chain) (e : ℕ) : Type 0 where
  pub linked : Linked ys ds (length ys)
  pub slots : map bare ys ≡ map bare xs
  pub chains : length ds ≡ length cs
  pub walk : SameWalk (chain_at cs e) (chain_at ds e)

-- the first slot that the walk looks for, or none
pub record IsFirst (xs : List Slot) (c : Chain) (i : ℕ) : Type 0 where
  pub below : i < length xs
  pub found : in_walk c (at xs i) ≡ true
  pub none : (k : ℕ) → k < i → in_walk c (at xs k) ≡ false

abbrev pub IsFound : List Slot → Chain → Option ℕ → Type 0
IsFound xs c None = (k : ℕ) → k < length xs → in_walk c (at xs k) ≡ false
IsFound xs c (Some i) = IsFirst xs c i

-- a chain of which a walk looks for hashes of the transaction in this range
abbrev pub walk_of : ℕ → ℕ → ℕ → Chain
walk_of t lo hi = record (no_chain t) { lo = lo; hi = hi }

abbrev pub part_of : Chain → KeyWaiting → Bool
part_of c = is_part c.txn c.lo c.hi

-- the next operation that the walk of the chain e looks for was taken out, that of the slot o, or there is none
pub record TakesNext (b : List ℕ) (xs : List Slot) (cs : List Chain) (ys : List Slot) (ds : List Chain) (e : ℕ) (o : Option ℕ)
    : Type 0 where
  pub chained : IsChained b ys ds
  pub within : IfSome o (λ i. i < length ys)
  pub taken : option_map (given_at b ys) o ≡ option_map given (find (part_of (chain_at cs e)) (held_in b xs))
  pub left : held_in b ys ≡ without_first (part_of (chain_at cs e)) (held_in b xs)

abbrev pub sought_by : Chain → Sought
sought_by c = record { txn = c.txn; lo = c.lo; hi = c.hi }
