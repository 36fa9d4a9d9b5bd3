-- What a target tablet is made of, and what it is seen as.
--     seen s      what contracts see
--     IsState s      what holds of it between calls
--     Ready id h rs s      the records rs of the source tablet id, whose header is h, can be taken in one after another, without memory
--     names_children pair kind      a split names the children `pair`
use Rattle.std.specs.Prelude.{◌≡◌, ℕ, ◌+◌, ◌*◌, ◌≤◌, Bool, true, List, length, sum, Option, Some, slice_get, slice_index}
use Rattle.std.specs.List.{AllByRecursion, list_all}
use Rattle.xc_record.specs.declared.record.Header.{Header}
use Rattle.xc_record.specs.declared.record.Kind.{Kind}
use Rattle.xc_record.specs.declared.record.Kind.TheVariants as kind
use Rattle.xc_record.specs.declared.record.Record.{Record}
use Rattle.xc_record.specs.Headers.{are_headers, children}
use Rattle.xc_record.specs.Valid.{keeps_header, split_fits}
use Rattle.xc_model.specs.Floors.{has_closed, has_started}
use Rattle.xc_model.specs.Stands.{TargetTablet}
use Rattle.xc_versions.specs.Stored.{key_versions}
use Rattle.xc_tablet.specs.declared.state.State.{State}
use Rattle.xc_tablet.specs.Contents.{IsContents}
use Rattle.xc_tablet.specs.Room.{HasRoom}
use Rattle.xc_tablet.specs.Batch.{splits_end}
use Rattle.xc_base.specs.declared.limits.TheConstants.{MOST_RECORDS, RECORD_OPERATIONS}

abbrev pub seen : State → TargetTablet
seen s = record {
  lo = s.contents.lo;
  hi = s.contents.hi;
  places = s.places.items;
  floors = s.floor;
  versions = key_versions s.contents.versions.items;
  held = s.contents.held.held;
}

pub record IsState (s : State) : Type 0 where
  pub contents : IsContents s.contents
  pub headers : are_headers s.floor.headers ≡ true
  pub count : length s.places.items ≡ length s.floor.headers
  pub closed : length s.floor.closed ≡ length s.floor.headers
  pub small : AllByRecursion (λ place. place ≤ MOST_RECORDS) s.places.items
  -- each record gave at most RECORD_OPERATIONS versions
  pub few : s.contents.next + length s.contents.held.held ≤ RECORD_OPERATIONS * sum s.places.items

-- ---- records that can be taken in

abbrev pub names_children : Option (Header × Header) → Kind → Bool
names_children pair (kind.Write ops) = true
names_children pair (kind.Intent sub txn ops) = true
names_children pair (kind.Apply txn commit without) = true
names_children pair (kind.Abort txn) = true
names_children pair (kind.Safe value) = true
names_children pair (kind.Split at left right) = split_fits pair at left right

pub record Ready (id : ℕ) (h : Header) (rs : List Record) (s : State) : Type 0 where
  pub is : IsState s
  pub header : slice_get s.floor.headers id ≡ Some h
  pub started : has_started s.floor id ≡ true
  pub open_still : has_closed s.floor id ≡ true → length rs ≡ 0
  pub keep : list_all (λ r. keeps_header h (children s.floor.headers id) r.kind) rs ≡ true
  pub ends : splits_end rs ≡ true
  pub short : slice_index s.places.items id + length rs ≤ MOST_RECORDS
  pub room : HasRoom rs s.contents
