-- Logs within the rules on tablets and records and within the limits.
--     is_valid logs      the headers fit, each record fits its tablet, and the limits hold
--     keeps_header header pair kind      a record's keys are in the range, it has at most RECORD_OPERATIONS operations, and a split names
--         the children `pair`
use Rattle.std.specs.Prelude.{ℕ, ◌^◌, Bool, true, false, List, [], ◌∷◌, Option, Some, None, if◌then◌else◌, ◌&&◌, ◌==◌, nat_le, nat_lt, not}
use Rattle.std.specs.Prelude.{length, map, sum_by, is_some}
use Rattle.std.specs.List.{list_all}
use Rattle.std.specs.Option.{option_map_or}
use Rattle.xc_record.specs.declared.record.Kind.{Kind}
use Rattle.xc_record.specs.declared.record.Kind.TheVariants.{Write, Intent, Apply, Abort, Safe, Split}
use Rattle.xc_record.specs.declared.record.Op.{Op}
use Rattle.xc_record.specs.declared.record.Record.{Record}
use Rattle.xc_record.specs.declared.record.Header.{Header}
use Rattle.xc_record.specs.declared.record.Tablet.{Tablet}
use Rattle.xc_record.specs.declared.record.Logs.{Logs}
use Rattle.xc_record.specs.Hash.{hash_of, holds}
use Rattle.xc_record.specs.Order.{is_split}
use Rattle.xc_record.specs.Headers.{are_headers, children}
use Rattle.xc_record.specs.Subs.{are_subs}
use Rattle.xc_base.specs.Names.{is_key, is_value}
use Rattle.xc_base.specs.declared.limits.TheConstants.{MOST_RECORDS, MOST_OPERATIONS, RECORD_OPERATIONS, LAST_SUB}

abbrev pub is_time : ℕ → Bool
is_time n = nat_le 1 n && nat_lt n (2 ^ 62)

abbrev pub is_txn : ℕ → Bool
is_txn n = nat_le 1 n && nat_lt n (2 ^ 32)

abbrev pub op_fits : Header → Op → Bool
op_fits header op = is_key op.key && (option_map_or is_value op.value true && holds header (hash_of op.key))

abbrev pub ops_fit : Header → List Op → Bool
ops_fit header ops = nat_le 1 (length ops) && (nat_le (length ops) RECORD_OPERATIONS && list_all (op_fits header) ops)

-- a split names the children
abbrev pub split_fits : Option (Header × Header) → ℕ → ℕ → ℕ → Bool
split_fits None at left right = false
split_fits (Some pair) at left right = at == pair.1.lo && (left == pair.0.id && right == pair.1.id)

-- what a record says of its tablet's header, whatever else is in it
abbrev pub ops_keep : Header → List Op → Bool
ops_keep header ops = nat_le (length ops) RECORD_OPERATIONS && list_all (λ op. holds header (hash_of op.key)) ops

abbrev pub keeps_header : Header → Option (Header × Header) → Kind → Bool
keeps_header header pair (Write ops) = ops_keep header ops
keeps_header header pair (Intent sub txn ops) = ops_keep header ops
keeps_header header pair (Apply txn commit without) = true
keeps_header header pair (Abort txn) = true
keeps_header header pair (Safe value) = true
keeps_header header pair (Split at left right) = split_fits pair at left right

abbrev pub kind_fits : Header → Option (Header × Header) → Kind → Bool
kind_fits header pair (Write ops) = ops_fit header ops
kind_fits header pair (Intent sub txn ops) = is_txn txn && (nat_le sub LAST_SUB && ops_fit header ops)
kind_fits header pair (Apply txn commit without) = is_txn txn && (is_time commit && are_subs without)
kind_fits header pair (Abort txn) = is_txn txn
kind_fits header pair (Safe value) = is_time value
kind_fits header pair (Split at left right) = split_fits pair at left right

abbrev pub record_fits : Header → Option (Header × Header) → Record → Bool
record_fits header pair r = is_time r.time && kind_fits header pair r.kind

-- a tablet with children ends in a split, and no other record is one
abbrev pub ends_fit : Bool → List Record → Bool
ends_fit has_children [] = not has_children
ends_fit has_children (r ∷ rs) = if is_split r.kind then (has_children && length rs == 0) else ends_fit has_children rs

abbrev pub tablet_fits : List Header → Tablet → Bool
tablet_fits headers t =
    list_all (record_fits t.header (children headers t.header.id)) t.records && ends_fit (is_some (children headers t.header.id)) t.records

abbrev pub ops_in : Kind → ℕ
ops_in (Write ops) = length ops
ops_in (Intent sub txn ops) = length ops
ops_in _ = 0

abbrev pub headers_of : List Tablet → List Header
headers_of ts = map (λ t. t.header) ts

unfoldable pub is_valid : Logs → Bool
is_valid logs =
    are_headers (headers_of logs.tablets)
    && (list_all (tablet_fits (headers_of logs.tablets)) logs.tablets
    && (nat_le (sum_by (λ t. length t.records) logs.tablets) MOST_RECORDS
    && nat_le (sum_by (λ t. sum_by (λ r. ops_in r.kind) t.records) logs.tablets) MOST_OPERATIONS))
