-- A poller of one source tablet.
--     PollerState      its tablet's header, its reader, its acknowledged and its applied place, the last safe value there, whether it is
--         open
--     position_of p      its position in a session
--     is_closed p      all accepted records were applied, and the last one is a split
--     new_poller header      a poller that nothing was asked of yet; one of a child isn't open
--     opened parent p      p after its closed parent opened it
--     done rs p      p after the records rs behind its cursor were delivered to every target tablet
--     confirmed p      p after polls were told to begin at its cursor after a restart; restarted p      p after a restart
--     KeepsFeeds old new, Rises old new      what each move keeps
--     StandsFor logs p b      what p knows of its tablet's records is what the accepted ones of b give
--     IsPoller p      what holds of it between calls
use Rattle.std.specs.Prelude.{◌≡◌, ℕ, ◌+◌, ◌-◌, ◌≤◌, max, Bool, true, false, ◌&&◌, ◌==◌, List, length, drop, fold, is_none, IsSome}
use Rattle.std.specs.Prelude.{if◌then◌else◌}
use Rattle.std.specs.Option.{option_map_or}
use Rattle.xc_record.specs.declared.record.Header.{Header}
use Rattle.xc_record.specs.declared.record.Record.{Record}
use Rattle.xc_record.specs.declared.record.Logs.{Logs}
use Rattle.xc_record.specs.Order.{Progress, safe_value}
use Rattle.xc_record.specs.Accepted.{AcceptedTablet, root_start}
use Rattle.xc_record.specs.SafeTime.{order_at}
use Rattle.xc_record.specs.Session.{Position}
use Rattle.xc_change.specs.Reader.{ReaderState, ReadsLogs, FitsFeed}

pub record PollerState : Type 0 where
  pub header : Header
  pub reader : ReaderState
  -- where polls begin again after a restart
  pub acknowledged : ℕ
  -- how many records were delivered to every target tablet
  pub applied : ℕ
  -- the last safe value there
  pub floor : ℕ
  -- a root, or a child whose parent was closed
  pub is_open : Bool

abbrev pub position_of : PollerState → Position
position_of p = record { place = p.applied; cursor = p.reader.cursor; acknowledged = p.acknowledged }

abbrev pub is_closed : PollerState → Bool
is_closed p = p.reader.order.split && (p.applied == p.reader.checked)

-- ---- what changes

-- before the first record
abbrev pub before_first : Header → Progress → ℕ → Bool → PollerState
before_first header order floor is_open = record {
  header = header;
  reader = record { id = header.id; cursor = 0; checked = 0; order = order };
  acknowledged = 0;
  applied = 0;
  floor = floor;
  is_open = is_open;
}

abbrev pub new_poller : Header → PollerState
new_poller header = before_first header root_start 0 (is_none header.parent)

-- a child begins where its parent ended; one that was open stays as it was
abbrev pub opened : PollerState → PollerState → PollerState
opened parent p = if p.is_open then p else before_first p.header (record parent.reader.order { split = false }) parent.floor true

abbrev pub raised_by : ℕ → Record → ℕ
raised_by floor r = option_map_or (max floor) (safe_value r.kind) floor

-- the records past the old applied place raise the floor
abbrev pub done : List Record → PollerState → PollerState
done rs p = record p {
  reader = record p.reader { cursor = p.reader.cursor + length rs };
  applied = max p.applied (p.reader.cursor + length rs);
  floor = fold raised_by p.floor (drop (p.applied - p.reader.cursor) rs);
}

abbrev pub confirmed : PollerState → PollerState
confirmed p = record p { acknowledged = p.reader.cursor }

abbrev pub restarted : PollerState → PollerState
restarted p = record p { reader = record p.reader { cursor = p.acknowledged } }

-- the reader fits the feeds that it fitted before
abbrev pub KeepsFeeds : ReaderState → ReaderState → Type 0
KeepsFeeds old new = (headers : List Header) (counts : List ℕ) → FitsFeed headers counts old → FitsFeed headers counts new

-- neither the applied place nor the last safe value falls
pub record Rises (old new : PollerState) : Type 0 where
  pub applied : old.applied ≤ new.applied
  pub floor : old.floor ≤ new.floor

-- ---- logs

pub record StandsFor (logs : Logs) (p : PollerState) (b : AcceptedTablet) : Type 0 where
  pub reads : ReadsLogs logs p.reader b
  pub floor : p.floor ≡ (order_at b p.applied).floor

-- ---- between calls

-- a child that wasn't opened yet
pub record HasNotBegun (p : PollerState) : Type 0 where
  pub child : IsSome p.header.parent
  pub checked : p.reader.checked ≡ 0
  pub unsplit : p.reader.order.split ≡ false

pub record IsPoller (p : PollerState) : Type 0 where
  pub id : p.reader.id ≡ p.header.id
  pub acknowledged : p.acknowledged ≤ p.reader.cursor
  pub cursor : p.reader.cursor ≤ p.applied
  pub applied : p.applied ≤ p.reader.checked
  pub waits : p.is_open ≡ false → HasNotBegun p
