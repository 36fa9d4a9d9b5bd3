-- Places, and the safe time.
--     order_at b n      the progress of the tablet b after its first n accepted records; its floor is the last safe value there
--     is_closed_at b n      these are all its accepted records, and the last one is a split
--     last_safe logs places s      the last safe value of tablet s at its place
--     is_closed logs places s      tablet s is closed at its place
--     safe_time logs places      the least last safe value over the tablets that are not closed
--     IsPlaces logs places      one place for each tablet, at most its accepted count, and 0 for each child of a tablet that is not closed
use Rattle.std.specs.Prelude.{◌≡◌, ℕ, ◌≤◌, Bool, true, false, List, Option, Some, None, ◌&&◌, ◌==◌, not, filter, map, take, fold, length}
use Rattle.std.specs.Prelude.{slice_index}
use Rattle.std.specs.Option.{option_map_or}
use Rattle.std.specs.List.{AllByRecursion}
use Rattle.xc_record.specs.declared.record.Logs.{Logs}
use Rattle.xc_record.specs.Order.{Progress, after}
use Rattle.xc_record.specs.Accepted.{AcceptedTablet, accepted_tablets, accepted_tablet}
use Rattle.xc_record.specs.Lists.{least}

-- ---- one tablet at a number of records

abbrev pub order_at : AcceptedTablet → ℕ → Progress
order_at b n = fold after b.start (take n b.records)

abbrev pub is_closed_at : AcceptedTablet → ℕ → Bool
is_closed_at b n = (n == length b.records) && b.end.split

-- ---- all tablets at their places

abbrev pub place : List ℕ → AcceptedTablet → ℕ
place places b = slice_index places b.header.id

abbrev pub last_safe_in : List ℕ → AcceptedTablet → ℕ
last_safe_in places b = (order_at b (place places b)).floor

abbrev pub is_closed_in : List ℕ → AcceptedTablet → Bool
is_closed_in places b = is_closed_at b (place places b)

unfoldable pub last_safe : Logs → List ℕ → ℕ → ℕ
last_safe logs places s = option_map_or (last_safe_in places) (accepted_tablet logs s) 0

unfoldable pub is_closed : Logs → List ℕ → ℕ → Bool
is_closed logs places s = option_map_or (is_closed_in places) (accepted_tablet logs s) false

unfoldable pub safe_time : Logs → List ℕ → ℕ
safe_time logs places = least (map (last_safe_in places) (filter (λ b. not (is_closed_in places b)) (accepted_tablets logs)))

-- a root, or a child of a closed tablet
abbrev pub is_started : Logs → List ℕ → Option ℕ → Bool
is_started logs places None = true
is_started logs places (Some parent) = is_closed logs places parent

abbrev pub StartsAfter : Logs → List ℕ → AcceptedTablet → Type 0
StartsAfter logs places b = is_started logs places b.header.parent ≡ false → place places b ≡ 0

pub record IsPlaces (logs : Logs) (places : List ℕ) : Type 0 where
  pub count : length places ≡ length logs.tablets
  pub within : AllByRecursion (λ b. place places b ≤ length b.records) (accepted_tablets logs)
  pub starts : AllByRecursion (StartsAfter logs places) (accepted_tablets logs)
