-- What waits at a hash.
--     is_held held n h      an operation of the transaction n is held at the hash h
--     writes_at h ops      one of the operations is at a key of the hash
--     intends n h rs      one of the records is an intent of n with an operation there
--     intends_since n h since rs      the same from the place on
--     InSlots commits held      what is held is of transactions that commit, each with its slot
--     IsLeft more commits header held rs      more is held at the end of a tablet with the records rs, whose parent held `held`
--     StaysHeld still commits look header held      still is what of `held` waits on in the range, since before the first record
--     waits_by n p w rs      whether n waits after the records rs, by an operation that the test p passes, where w says whether it did
--         before
use Rattle.std.specs.Prelude.{◌≡◌, ℕ, ◌-◌, Bool, true, false, List, [], ◌∷◌, Option, if◌then◌else◌, is_some, fold, ◌&&◌, ◌==◌, drop, nat_le}
use Rattle.std.specs.List.{list_any, list_all}
use Rattle.std.specs.Option.{option_map_or}
use Rattle.xc_record.specs.declared.record.Kind.{Kind}
use Rattle.xc_record.specs.declared.record.Kind.TheVariants.{Write, Intent, Apply, Abort, Safe, Split}
use Rattle.xc_record.specs.declared.record.Op.{Op}
use Rattle.xc_record.specs.declared.record.Record.{Record}
use Rattle.xc_record.specs.declared.record.Header.{Header}
use Rattle.xc_record.specs.Hash.{hash_of, holds}
use Rattle.xc_agree.specs.declared.commits.Commit.{Commit}
use Rattle.xc_agree.specs.Slots.{time_of, undone_of}
use Rattle.xc_agree.specs.Seen.{Seen, see, unseen, waits_from, is_in_slot, since_in}
use Rattle.xc_agree.specs.declared.held.Held.{Held}
use Rattle.xc_agree.specs.declared.look.Look.{Look}

abbrev pub is_held : List Held → ℕ → ℕ → Bool
is_held held n h = list_any (λ x. x.txn == n && x.hash == h) held

abbrev pub writes_at : ℕ → List Op → Bool
writes_at h ops = list_any (λ op. hash_of op.key == h) ops

abbrev pub intends_kind : ℕ → ℕ → Kind → Bool
intends_kind n h (Intent sub txn ops) = txn == n && writes_at h ops
intends_kind n h _ = false

abbrev pub intends : ℕ → ℕ → List Record → Bool
intends n h rs = list_any (λ r. intends_kind n h r.kind) rs

abbrev pub intends_since : ℕ → ℕ → Option ℕ → List Record → Bool
intends_since n h since rs = option_map_or (λ place. intends n h (drop (place - 1) rs)) since false

abbrev pub is_start : Option ℕ → Bool
is_start since = option_map_or (λ place. place == 0) since false

-- it waits since the place or before
abbrev pub is_since : ℕ → Option ℕ → Bool
is_since place since = option_map_or (λ first. nat_le first place) since false

-- whether the transaction waits after a record of this kind, by an operation among those that the test passes
abbrev pub wait_kind : ℕ → (List Op → Bool) → Bool → Kind → Bool
wait_kind n p w (Write ops) = w
wait_kind n p w (Intent sub txn ops) = if txn == n && p ops then true else w
wait_kind n p w (Apply txn commit without) = if txn == n then false else w
wait_kind n p w (Abort txn) = if txn == n then false else w
wait_kind n p w (Safe value) = w
wait_kind n p w (Split at left right) = w

abbrev pub waits_by : ℕ → (List Op → Bool) → Bool → List Record → Bool
waits_by n p w [] = w
waits_by n p w (r ∷ rs) = waits_by n p (wait_kind n p w r.kind) rs

-- what a tablet with these records holds at its end, where its parent held `held`
abbrev pub IsLeft : List Held → List Commit → Header → List Held → List Record → Type 0
IsLeft more commits header held rs = (n h : ℕ)
    → is_held more n h ≡ (is_some (time_of commits n) && waits_by n (writes_at h) (is_held held n h && holds header h) rs)

-- what is held commits, and is in its slot
abbrev pub InSlots : List Commit → List Held → Type 0
InSlots commits held = list_all (λ x. is_in_slot commits x.txn x.slot) held ≡ true

-- what is seen of the transaction at a tablet's end
abbrev pub seen_at_end : List Commit → Header → List Held → List Record → ℕ → ℕ → Seen
seen_at_end commits header held rs n c = fold (see n c (undone_of commits n)) (unseen (waits_from header held n)) rs

-- the held that are in the header's range and wait from before the first record, in their slots
pub record StaysHeld (still : List Held) (commits : List Commit) (look : Look) (header : Header) (held : List Held) : Type 0 where
  pub waits : (n h : ℕ) → is_held still n h ≡ (is_held held n h && (holds header h && is_start (since_in commits look n)))
  pub slots : InSlots commits still
