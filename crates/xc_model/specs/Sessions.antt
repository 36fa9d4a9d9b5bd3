-- The times that the lines of a session name.
--     named line      the time of a safe, read, scan, drain or failover line: the safe time at that command
--     named_times lines      those of all lines, in order
--     IsRising b ts      none of them is below the one before, and the first isn't below b
use Rattle.std.specs.Prelude.{ℕ, ◌≤◌, List, [], ◌∷◌, Option, Some, None}
use Rattle.std.specs.List.{filter_map}
use Rattle.xc_record.specs.declared.session.Line.{Line}
use Rattle.xc_record.specs.declared.session.Line.TheVariants as line

abbrev pub named : Line → Option ℕ
named (line.Safe t) = Some t
named (line.Read t key value) = Some t
named (line.Scan t count) = Some t
named (line.Drain t) = Some t
named (line.Failover t count) = Some t
named _ = None

abbrev pub named_times : List Line → List ℕ
named_times lines = filter_map named lines

abbrev pub IsRising : ℕ → List ℕ → Type 0
IsRising b [] = Unit {0}
IsRising b (t ∷ ts) = (b ≤ t) × IsRising t ts
