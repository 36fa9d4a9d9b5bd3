-- What a reader makes of records that follow its cursor.
--     unchecked r rs      those of the records rs that it hasn't found in order yet
--     good r rs      how many of the records rs are in order
--     looked r rs      the reader after it looked at them
--     IsTaken r rs next      what it hands out of them
use Rattle.std.specs.Prelude.{◌≡◌, ℕ, ◌+◌, ◌-◌, ◌≤◌, List, length, take, drop, fold, Option, Some, None}
use Rattle.xc_record.specs.declared.record.Break.{Break}
use Rattle.xc_record.specs.declared.record.Record.{Record}
use Rattle.xc_record.specs.Order.{after, accepted_from}
use Rattle.xc_record.specs.Accepted.{halt_from}
use Rattle.xc_change.specs.declared.batch.Next.{Next}
use Rattle.xc_change.specs.declared.batch.Next.TheVariants.{Batch as Given, AtEnd, Halted}
use Rattle.xc_change.specs.Reader.{ReaderState}

abbrev pub unchecked : ReaderState → List Record → List Record
unchecked r rs = drop (r.checked - r.cursor) rs

abbrev pub new_ones : ReaderState → List Record → List Record
new_ones r rs = accepted_from r.order (unchecked r rs)

abbrev pub good : ReaderState → List Record → ℕ
good r rs = r.checked - r.cursor + length (new_ones r rs)

abbrev pub looked : ReaderState → List Record → ReaderState
looked r rs = record r { checked = r.checked + length (new_ones r rs); order = fold after r.order (new_ones r rs) }

-- where none is in order: the first record breaks it, or there is none
abbrev pub IsStopped : ℕ → Option (ℕ × Break) → Next → Type 0
IsStopped from halt (Given batch) = ⊥
IsStopped from halt AtEnd = halt ≡ None
IsStopped from halt (Halted number kind) = (number ≡ from) × ((n : ℕ) × (halt ≡ Some (n, kind)))

abbrev pub IsTaken : ReaderState → List Record → Next → Type 0
IsTaken r rs (Given batch) = (batch.from ≡ r.cursor + 1) × ((1 ≤ good r rs) × (batch.records ≡ take (good r rs) rs))
IsTaken r rs AtEnd = (good r rs ≡ 0) × IsStopped (r.cursor + 1) (halt_from r.order 1 (unchecked r rs)) AtEnd
IsTaken r rs (Halted number kind) = (good r rs ≡ 0) × IsStopped (r.cursor + 1) (halt_from r.order 1 (unchecked r rs)) (Halted number kind)
