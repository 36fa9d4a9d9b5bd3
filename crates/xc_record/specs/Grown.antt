-- Logs that grow by a record.
use Rattle.std.specs.Prelude.{ℕ, List, [], ◌∷◌, ◌++◌, slice_get, slice_set}
use Rattle.std.specs.Option.{option_map_or}
use Rattle.xc_record.specs.declared.record.Record.{Record}
use Rattle.xc_record.specs.declared.record.Tablet.{Tablet}

-- the tablet with the record behind its others
abbrev pub grown : Tablet → Record → Tablet
grown t r = record t { records = t.records ++ r ∷ [] }

-- the tablets with the record behind those of the tablet of this number
abbrev pub with_record : ℕ → Record → List Tablet → List Tablet
with_record id r ts = option_map_or (λ t. slice_set ts id (grown t r)) (slice_get ts id) ts
