-- What is kept of the source tablets, whatever else is kept of their records.
--     Floors      of each source tablet: its header, whether it is closed, its last safe value
--     has_started f s      s is a root, or a child of a tablet that f has as closed
--     least_kept f      the least of the last safe values of the tablets that have started and aren't closed
--     new_floors headers      nothing was applied yet
--     raised s value f      a safe record of s was applied; split_at s f      its split was
--     floors_after s kind f      a record of s was applied
--     FloorsFor logs places f      f has of each source tablet what the logs give at its place
use Rattle.std.specs.Prelude.{◌≡◌, ℕ, max, Bool, true, false, List, filter, map, ◌&&◌, length, replicate, not, slice_index, slice_index_or}
use Rattle.std.specs.Prelude.{slice_get, slice_set}
use Rattle.std.specs.List.{AllByRecursion}
use Rattle.std.specs.Option.{option_map_or}
use Rattle.xc_record.specs.declared.record.Header.{Header}
use Rattle.xc_record.specs.declared.record.Kind.{Kind}
use Rattle.xc_record.specs.declared.record.Kind.TheVariants as kind
use Rattle.xc_record.specs.declared.record.Logs.{Logs}
use Rattle.xc_record.specs.Headers.{children}
use Rattle.xc_record.specs.Accepted.{AcceptedTablet, accepted_tablets}
use Rattle.xc_record.specs.SafeTime.{last_safe_in, is_closed_in, is_started}
use Rattle.xc_record.specs.Valid.{headers_of}
use Rattle.xc_record.specs.Lists.{least}

pub record Floors : Type 0 where
  pub headers : List Header
  -- whether all accepted records were applied and the last one is a split
  pub closed : List Bool
  -- the last safe value, of those that have started
  pub safe : List ℕ

abbrev pub has_closed : Floors → ℕ → Bool
has_closed f s = slice_index_or f.closed s false

-- a root, or a child of a tablet that f has as closed
abbrev pub starts : Floors → Header → Bool
starts f h = option_map_or (has_closed f) h.parent true

abbrev pub has_started : Floors → ℕ → Bool
has_started f s = option_map_or (starts f) (slice_get f.headers s) false

abbrev pub counts : Floors → Header → Bool
counts f h = not (has_closed f h.id) && starts f h

abbrev pub least_kept : Floors → ℕ
least_kept f = least (map (λ h. slice_index f.safe h.id) (filter (counts f) f.headers))

-- ---- what changes

abbrev pub new_floors : List Header → Floors
new_floors headers = record { headers = headers; closed = replicate (length headers) false; safe = replicate (length headers) 0 }

abbrev pub raised : ℕ → ℕ → Floors → Floors
raised s value f = record f { safe = slice_set f.safe s (max (slice_index f.safe s) value) }

-- the two children begin with the tablet's value
abbrev pub split_into : ℕ → ℕ → ℕ → Floors → Floors
split_into s left right f =
    let value = slice_index f.safe s in
    record f { closed = slice_set f.closed s true; safe = slice_set (slice_set f.safe left value) right value }

-- the children are those of the headers
abbrev pub split_at : ℕ → Floors → Floors
split_at s f = option_map_or (λ pair. split_into s pair.0.id pair.1.id f) (children f.headers s) f

abbrev pub floors_after : ℕ → Kind → Floors → Floors
floors_after s (kind.Safe value) f = raised s value f
floors_after s (kind.Split at left right) f = split_into s left right f
floors_after s (kind.Write ops) f = f
floors_after s (kind.Intent sub n ops) f = f
floors_after s (kind.Apply n commit without) f = f
floors_after s (kind.Abort n) f = f

-- ---- floors and logs

-- what is kept of the source tablet b
pub record FloorFor (logs : Logs) (places : List ℕ) (f : Floors) (b : AcceptedTablet) : Type 0 where
  pub closed : has_closed f b.header.id ≡ is_closed_in places b
  pub safe : is_started logs places b.header.parent ≡ true → slice_index f.safe b.header.id ≡ last_safe_in places b

pub record FloorsFor (logs : Logs) (places : List ℕ) (f : Floors) : Type 0 where
  pub headers : f.headers ≡ headers_of logs.tablets
  pub closed : length f.closed ≡ length f.headers
  pub safe : length f.safe ≡ length f.headers
  pub each : AllByRecursion (FloorFor logs places f) (accepted_tablets logs)
