-- What a finish does to the parts of a source. These are the words of private functions, which log all first and take what was
-- applied last, so that they can go back until then; what the call `finish` promises is in Calls alone.
--     are_committed txns ps      the transactions of these pairs are committed
--     applies_in txns ps j      an apply of the transaction on the tablet for each of the pairs in turn
--     safes_in ids j      a safe record at its own time on each of the tablets in turn
--     headers_of ts      the headers of the tablets
--     all_taken hs ps txns      what waits of the transaction on the tablet is taken, for each of the pairs in turn
use Rattle.std.specs.Prelude.{ℕ, ◌+◌, Bool, List, map, fold, slice_get}
use Rattle.std.specs.List.{list_all}
use Rattle.std.specs.Option.{option_map_or}
use Rattle.xc_record.specs.declared.record.Header.{Header}
use Rattle.xc_record.specs.declared.record.Kind.TheVariants.{Safe}
use Rattle.xc_record.specs.declared.record.Tablet.{Tablet}
use Rattle.xc_source.specs.Machine.{Transaction}
use Rattle.xc_source.specs.Waiting.{taken}
use Rattle.xc_source.specs.Calls.{apply_kind}
use Rattle.xc_source.specs.Holders.{numbered, changed, committed_at}
use Rattle.xc_source.specs.Universe.{Logged, logged_in}

abbrev pub are_committed : List Transaction → List (ℕ × ℕ) → Bool
are_committed txns ps = list_all (λ p. committed_at (numbered txns p.0)) ps

abbrev pub apply_in : List Transaction → ℕ × ℕ → Logged → Logged
apply_in txns p j = option_map_or (λ t. logged_in p.1 (apply_kind p.0 t) j) (numbered txns p.0) j

abbrev pub applies_in : List Transaction → List (ℕ × ℕ) → Logged → Logged
applies_in txns ps j = fold (λ k p. apply_in txns p k) j ps

abbrev pub safes_in : List ℕ → Logged → Logged
safes_in ids j = fold (λ k id. logged_in id (Safe (k.time + 1)) k) j ids

abbrev pub headers_of : List Tablet → List Header
headers_of ts = map (λ b. b.header) ts

abbrev pub taken_at : List Header → ℕ × ℕ → List Transaction → List Transaction
taken_at hs p txns = option_map_or (λ h. changed (taken h) p.0 txns) (slice_get hs p.1) txns

abbrev pub all_taken : List Header → List (ℕ × ℕ) → List Transaction → List Transaction
all_taken hs ps txns = fold (λ ts p. taken_at hs p ts) txns ps
