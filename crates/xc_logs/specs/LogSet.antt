-- What a set of well-formed logs is asked. Tablets are numbered from 0, their records from 1.
--     child_ids logs id      the numbers of the two tablets that name id as their parent, the left one first
--     IsRootOf logs hash id      id is the root that holds the hash
--     record_at logs id number      the record of this number
use Rattle.std.specs.Prelude.{◌≡◌, ℕ, ◌-◌, ◌==◌, Option, Some, None, if◌then◌else◌, option_map, slice_get, IsTrue}
use Rattle.xc_record.specs.declared.record.Header.{Header}
use Rattle.xc_record.specs.declared.record.Record.{Record}
use Rattle.xc_record.specs.declared.record.Logs.{Logs}
use Rattle.xc_record.specs.Accepted.{records}
use Rattle.xc_record.specs.Hash.{holds}
use Rattle.xc_record.specs.Headers.{children}
use Rattle.xc_record.specs.Valid.{headers_of}

abbrev pub ids_of : Option (Header × Header) → Option (ℕ × ℕ)
ids_of pair = option_map (λ two. (two.0.id, two.1.id)) pair

abbrev pub child_ids : Logs → ℕ → Option (ℕ × ℕ)
child_ids logs id = ids_of (children (headers_of logs.tablets) id)

pub record IsRootOf (logs : Logs) (hash id : ℕ) : Type 0 where
  pub header : Header
  pub stands : slice_get (headers_of logs.tablets) id ≡ Some header
  pub root : header.parent ≡ None
  pub holds_it : IsTrue (holds header hash)

abbrev pub record_at : Logs → ℕ → ℕ → Option Record
record_at logs id number = if number == 0 then None else slice_get (records logs id) (number - 1)
