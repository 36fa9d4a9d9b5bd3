-- Slots that have the beginning of their key beside its place, so that most keys are told apart without the arena.
--     beginning key      the first 15 bytes, zeros behind a shorter key, and then the length, or 16 where it is more
--     head_of key      the numbers that the first eight and the last eight of them spell, the greatest first
--     IsSlot bytes slot      a well-formed operation lies at the slot's place, and its head is that of the key
use Rattle.std.specs.Prelude.{◌≡◌, ℕ, List, [], ◌∷◌, ◌++◌, length, take, min}
use Rattle.std.specs.Simd.Lanes.{chunk}
use Rattle.std.specs.Slice.Scan.{big_endian}
use Rattle.xc_base.specs.Padded.{padded}
use Rattle.xc_versions.specs.declared.head.Head.{Head}
use Rattle.xc_versions.specs.declared.stored.Slot.{Slot}
use Rattle.xc_arena.specs.Arena.{key_at, Lies}

abbrev pub beginning : List ℕ → List ℕ
beginning key = take 15 (padded 15 key) ++ min (length key) 16 ∷ []

abbrev pub head_of : List ℕ → Head
head_of key = record { front = big_endian 0 (chunk 0 8 (beginning key)); back = big_endian 0 (chunk 8 8 (beginning key)) }

pub record IsSlot (bytes : List ℕ) (s : Slot) : Type 0 where
  pub lies : Lies bytes s.at
  pub head : s.head ≡ head_of (key_at bytes s.at)
