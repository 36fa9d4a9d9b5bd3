-- How far each tablet has come at its place, from what is known of its parent.
--     order_of os i      what is known of tablet i, where os is known of all
--     begins os parent      where a tablet begins: None where its parent's split isn't among what was applied
--     order_from os t n      how far t has come after its first n records
--     floors_of hs os      what of this is kept
use Rattle.std.specs.Prelude.{ℕ, false, List, Option, Some, None, if◌then◌else◌, map, take, fold, slice_index_or}
use Rattle.std.specs.Option.{option_map_or}
use Rattle.xc_record.specs.declared.record.Header.{Header}
use Rattle.xc_record.specs.declared.record.Tablet.{Tablet}
use Rattle.xc_record.specs.Order.{Progress, after, accepted_from}
use Rattle.xc_record.specs.Accepted.{root_start}
use Rattle.xc_model.specs.Floors.{Floors}

abbrev pub order_of : List Progress → ℕ → Progress
order_of os i = slice_index_or os i root_start

abbrev pub begins : List Progress → Option ℕ → Option Progress
begins os None = Some root_start
begins os (Some parent) = if (order_of os parent).split then Some (record (order_of os parent) { split = false }) else None

abbrev pub order_from : List Progress → Tablet → ℕ → Progress
order_from os t n = option_map_or
    (λ start. fold after start (accepted_from start (take n t.records))) (begins os t.header.parent) root_start

abbrev pub floors_of : List Header → List Progress → Floors
floors_of hs os = record { headers = hs; closed = map (λ o. o.split) os; safe = map (λ o. o.floor) os }
