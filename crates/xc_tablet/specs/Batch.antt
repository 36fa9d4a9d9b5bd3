-- What batches of records a tablet can take in, and which feeds it fits.
--     splits_end rs      a split stands only as the last of the records
--     records_keep headers id rs      the records keep the header of the source tablet id
--     CanTake id from rs x      the records rs of the source tablet id, from the number `from` on, can be taken in
--     FitsFeed headers counts x      x is of a feed with these headers and numbers of records, and is not ahead of it
use Rattle.std.specs.Prelude.{◌≡◌, ℕ, ◌+◌, ◌-◌, ◌<◌, ◌≤◌, ◌↔◌, Bool, true, false, ◌&&◌, ◌==◌, List, [], ◌∷◌, length, slice_get}
use Rattle.std.specs.Prelude.{slice_index, if◌then◌else◌, IsSome, IsTrue}
use Rattle.std.specs.List.{list_all}
use Rattle.std.specs.Option.{option_map_or}
use Rattle.xc_record.specs.declared.record.Header.{Header}
use Rattle.xc_record.specs.declared.record.Record.{Record}
use Rattle.xc_record.specs.Headers.{children}
use Rattle.xc_record.specs.Order.{is_split}
use Rattle.xc_record.specs.Valid.{keeps_header}
use Rattle.xc_model.specs.Floors.{has_closed, has_started}
use Rattle.xc_model.specs.Stands.{TargetTablet}
use Rattle.xc_base.specs.declared.limits.TheConstants.{MOST_RECORDS}

abbrev pub splits_end : List Record → Bool
splits_end [] = true
splits_end (r ∷ rs) = (if is_split r.kind then length rs == 0 else true) && splits_end rs

abbrev pub records_keep : List Header → ℕ → List Record → Bool
records_keep headers id rs =
    option_map_or (λ h. list_all (λ r. keeps_header h (children headers id) r.kind) rs) (slice_get headers id) false

pub record CanTake (id from : ℕ) (rs : List Record) (x : TargetTablet) : Type 0 where
  pub first : 1 ≤ from
  -- no record is left out
  pub next : from ≤ slice_index x.places id + 1
  pub short : from - 1 + length rs ≤ MOST_RECORDS
  -- nothing comes after the end of a tablet
  pub closed : has_closed x.floors id ≡ true → from - 1 + length rs ≤ slice_index x.places id
  -- it is a root, or its parent is closed here
  pub started : has_started x.floors id ≡ true
  pub keep : records_keep x.floors.headers id rs ≡ true
  pub ends : splits_end rs ≡ true

pub record FitsFeed (headers : List Header) (counts : List ℕ) (x : TargetTablet) : Type 0 where
  pub same : x.floors.headers ≡ headers
  pub within : (s : ℕ) → slice_index x.places s ≤ slice_index counts s
  -- of a tablet with children all records were taken in exactly where it is closed here
  pub ends : (s : ℕ) → s < length headers → IsSome (children headers s)
      → IsTrue (has_closed x.floors s) ↔ (slice_index x.places s ≡ slice_index counts s)
