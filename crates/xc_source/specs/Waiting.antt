-- What waits: a write of a transaction from the moment it is logged until an apply or an abort of its transaction takes it. It waits on
-- the open tablet that holds its key's hash; so where that is split, it waits on the child that holds the hash.
--     waits_on header t      something of the transaction waits on the tablet with this header
--     tablets_of m t      the numbers of the open tablets on which something of it waits, rising
--     holder m n key      the live transaction, not n, with a waiting write of the key, if there is one
--     commits_on m header      the commits of the committed transactions that wait on the tablet with this header
--     pending m      what committed transactions have waiting: the transaction and the tablet, in this order
--     taken header t      the transaction when an apply took what waits on this tablet
use Rattle.std.specs.Prelude.{ℕ, Bool, false, ◌&&◌, ◌==◌, not, List, [], Option, None, if◌then◌else◌, bytes_eq}
use Rattle.std.specs.Prelude.{map, filter, find, filter_map, flat_map, is_some, option_map}
use Rattle.std.specs.List.{list_any, enumerate_from}
use Rattle.xc_record.specs.declared.record.Header.{Header}
use Rattle.xc_record.specs.Hash.{hash_of, holds}
use Rattle.xc_source.specs.declared.transaction.Provisional.{Provisional}
use Rattle.xc_source.specs.Machine.{Machine, Transaction, transaction, is_open, is_live, commit_of}
use Rattle.std.specs.Option.{option_map_or}

-- a write that waits on the tablet with this header
abbrev pub is_waiting : Header → Provisional → Bool
is_waiting header w = w.waits && holds header (hash_of w.op.key)

abbrev pub waits_on : Header → Transaction → Bool
waits_on header t = list_any (is_waiting header) t.writes

-- the numbers of the open tablets
abbrev pub open_tablets : Machine → List ℕ
open_tablets m = map (λ p. p.0) (filter (λ p. is_open p.1) (enumerate_from 0 m.tablets))

unfoldable pub tablets_of : Machine → Transaction → List ℕ
tablets_of m t = map (λ p. p.0) (filter (λ p. is_open p.1 && waits_on p.1.header t) (enumerate_from 0 m.tablets))

-- a live transaction with a waiting write of the key
abbrev pub has_write : List ℕ → Transaction → Bool
has_write key t = is_live t.stage && list_any (λ w. w.waits && bytes_eq key w.op.key) t.writes

unfoldable pub holder : Machine → ℕ → List ℕ → Option ℕ
holder m n key = option_map (λ p. p.0) (find (λ p. not (p.0 == n) && has_write key p.1) (enumerate_from 1 m.txns))

-- the commit of the transaction, where it is committed and waits there
abbrev pub commit_on : Header → Transaction → Option ℕ
commit_on header t = if waits_on header t then commit_of t.stage else None

unfoldable pub commits_on : Machine → Header → List ℕ
commits_on m header = filter_map (commit_on header) m.txns

-- what the transaction of number n has waiting, if it is committed
abbrev pub pending_of : Machine → ℕ → Transaction → List (ℕ × ℕ)
pending_of m n t = if is_some (commit_of t.stage) then map (λ id. (n, id)) (tablets_of m t) else []

-- the same by its number alone, nothing where it was never begun
abbrev pub pending_at : Machine → ℕ → List (ℕ × ℕ)
pending_at m n = option_map_or (λ t. pending_of m n t) (transaction m n) []

-- the same of each of these transactions, one after another
abbrev pub pending_by : Machine → List (ℕ × Transaction) → List (ℕ × ℕ)
pending_by m ps = flat_map (λ p. pending_of m p.0 p.1) ps

unfoldable pub pending : Machine → List (ℕ × ℕ)
pending m =
    flat_map (λ p. map (λ id. (p.0, id)) (tablets_of m p.1)) (filter (λ p. is_some (commit_of p.1.stage)) (enumerate_from 1 m.txns))

abbrev pub taken_write : Header → Provisional → Provisional
taken_write header w = if holds header (hash_of w.op.key) then record w { waits = false } else w

abbrev pub taken : Header → Transaction → Transaction
taken header t = record t { writes = map (taken_write header) t.writes }
