-- Worked scripts, computed.
use Rattle.std.proofs.Common.{◌≡◌, ℕ, List, [], ◌∷◌, ◌++◌, Result, Ok, Err, refl, codes, replicate}
use Rattle.xc_record.specs.Bounds.{are_bounds}
use Rattle.xc_record.specs.declared.session.Command.TheVariants.{Poll, Stop, Ack, Restart, Drain, Safe, Read, ReadAt, Scan, Prune, Failover}
use Rattle.xc_record.specs.declared.session.Command.TheVariants.{Report}
use Rattle.xc_script.specs.declared.kind.ScriptKind.{ScriptKind}
use Rattle.xc_script.specs.declared.kind.ScriptKind.TheVariants as kind
use Rattle.xc_script.specs.declared.script.Script.{Script}
use Rattle.xc_script.specs.Words.{command_of, line_of}
use Rattle.xc_script.specs.ScriptText.{BadLine, script_of, step}

-- a text: each line and its end
abbrev text : List (List ℕ) → List ℕ
text [] = []
text (line ∷ lines) = line ++ 10 ∷ text lines

abbrev bad : ℕ → ScriptKind → Result Script BadLine
bad line kind = Err (record { line = line; kind = kind })

unfoldable read : ℕ → List ℕ → Result Script BadLine
unfolding script_of step line_of command_of are_bounds
read sources t = script_of sources t

-- of version 1 and 2, with one target tablet
abbrev one : List (List ℕ) → List ℕ
one lines = text (codes "xcscript 1" ∷ codes "target 0" ∷ lines)

abbrev two : List (List ℕ) → List ℕ
two lines = text (codes "xcscript 2" ∷ codes "target 0" ∷ lines)

all_commands : read 3 (text (codes "xcscript 1" ∷ codes "target 0 32768" ∷ codes "watch aaa zzz"
    ∷ codes "poll 0 9" ∷ codes "stop 2 1048576 1" ∷ codes "ack 1" ∷ codes "restart 0" ∷ codes "drain" ∷ codes "safe" ∷ codes "read aaa"
    ∷ codes "readat 0 zzz" ∷ codes "scan" ∷ codes "prune 4611686018427387903" ∷ codes "failover" ∷ codes "report" ∷ codes "end" ∷ []))
    ≡ Ok (record {
      bounds = 0 ∷ 32768 ∷ [];
      watched = codes "aaa" ∷ codes "zzz" ∷ [];
      commands = Poll 0 9 ∷ Stop 2 1048576 1 ∷ Ack 1 ∷ Restart 0 ∷ Drain ∷ Safe ∷ Read (codes "aaa") ∷ ReadAt 0 (codes "zzz") ∷ Scan
          ∷ Prune 4611686018427387903 ∷ Failover ∷ Report ∷ [];
    })
unfolding read
all_commands = refl

escaped_keys : read 1 (two (codes "watch a%20b" ∷ codes "read %25" ∷ codes "end" ∷ []))
    ≡ Ok (record { bounds = 0 ∷ []; watched = codes "a b" ∷ []; commands = Read (codes "%") ∷ [] })
unfolding read
escaped_keys = refl

-- ---- form

empty : read 1 [] ≡ bad 1 kind.NoEnd
unfolding read
empty = refl

no_end : read 1 (one (codes "safe" ∷ [])) ≡ bad 4 kind.NoEnd
unfolding read
no_end = refl

unfinished : read 1 (one (codes "safe" ∷ []) ++ codes "end") ≡ bad 4 kind.Form
unfolding read
unfinished = refl

after_end : read 1 (one (codes "end" ∷ codes "end" ∷ [])) ≡ bad 4 kind.Form
unfolding read
after_end = refl

other_version : read 1 (text (codes "xcscript 3" ∷ [])) ≡ bad 1 kind.Form
unfolding read
other_version = refl

no_bounds : read 1 (text (codes "xcscript 1" ∷ codes "poll 64 0" ∷ [])) ≡ bad 2 kind.Form
unfolding read
no_bounds = refl

late_watch : read 1 (one (codes "safe" ∷ codes "watch aaa" ∷ [])) ≡ bad 4 kind.Form
unfolding read
late_watch = refl

second_bounds : read 1 (one (codes "target 70000" ∷ [])) ≡ bad 3 kind.Form
unfolding read
second_bounds = refl

watched_none : read 1 (one (codes "watch" ∷ [])) ≡ bad 3 kind.Form
unfolding read
watched_none = refl

two_spaces : read 1 (one (codes "read  aaa" ∷ [])) ≡ bad 3 kind.Form
unfolding read
two_spaces = refl

empty_key : read 1 (one (codes "read " ∷ [])) ≡ bad 3 kind.Form
unfolding read
empty_key = refl

no_number : read 1 (one (codes "poll 64 01" ∷ [])) ≡ bad 3 kind.Form
unfolding read
no_number = refl

-- ---- the other kinds

count_of_0 : read 1 (one (codes "poll 0 0" ∷ [])) ≡ bad 3 kind.Number
unfolding read
count_of_0 = refl

count_too_large : read 1 (one (codes "poll 0 1048577" ∷ [])) ≡ bad 3 kind.Number
unfolding read
count_too_large = refl

hash_too_large : read 1 (text (codes "xcscript 1" ∷ codes "target 1 65536" ∷ [])) ≡ bad 2 kind.Number
unfolding read
hash_too_large = refl

time_too_large : read 1 (one (codes "readat 4611686018427387904 +" ∷ [])) ≡ bad 3 kind.Number
unfolding read
time_too_large = refl

key_out_of_alphabet : read 1 (one (codes "readat 1 +" ∷ [])) ≡ bad 3 kind.Key
unfolding read
key_out_of_alphabet = refl

escape_of_version_1 : read 1 (one (codes "read a%20b" ∷ [])) ≡ bad 3 kind.Key
unfolding read
escape_of_version_1 = refl

escape_of_plain : read 1 (two (codes "read %61" ∷ [])) ≡ bad 3 kind.Key
unfolding read
escape_of_plain = refl

bounds_fall : read 1 (text (codes "xcscript 1" ∷ codes "target 0 9 9" ∷ [])) ≡ bad 2 kind.Target
unfolding read
bounds_fall = refl

bounds_from_1 : read 1 (text (codes "xcscript 1" ∷ codes "target 1" ∷ [])) ≡ bad 2 kind.Target
unfolding read
bounds_from_1 = refl

bounds_too_many : read 1 (text (codes "xcscript 1" ∷ codes "target 0 1 2 3 4 5 6 7 8 9 10 11 12 13 14 15 16" ∷ [])) ≡ bad 2 kind.Target
unfolding read
bounds_too_many = refl

no_such_source : read 3 (one (codes "ack 3" ∷ [])) ≡ bad 3 kind.UnknownTablet
unfolding read
no_such_source = refl

no_such_target : read 1 (one (codes "stop 0 1 1" ∷ [])) ≡ bad 3 kind.UnknownTablet
unfolding read
no_such_target = refl

ninth_scan : read 1 (one (replicate 9 (codes "scan"))) ≡ bad 11 kind.Limit
unfolding read
ninth_scan = refl

drain_65 : read 1 (one (replicate 65 (codes "drain"))) ≡ bad 67 kind.Limit
unfolding read
drain_65 = refl

watched_17 : read 1 (one (codes "watch a a a a a a a a a a a a a a a a a" ∷ [])) ≡ bad 3 kind.Limit
unfolding read
watched_17 = refl
