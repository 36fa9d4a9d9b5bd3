-- Worked source scripts, computed.
use Rattle.std.proofs.Common.{◌≡◌, ℕ, List, [], ◌∷◌, ◌++◌, Some, None, Result, Ok, Err, refl, codes}
use Rattle.xc_source.specs.declared.command.SourceCommand.TheVariants.{Begin, Write, Put, Commit, Abort, Apply, Safe, Split, Tick, Finish}
use Rattle.xc_source.specs.declared.command.SourceCommand.TheVariants.{Savepoint, Rollback}
use Rattle.xc_source_script.specs.declared.kind.SourceKind.{SourceKind}
use Rattle.xc_source_script.specs.declared.kind.SourceKind.TheVariants as kind
use Rattle.xc_source_script.specs.declared.script.SourceScript.{SourceScript}
use Rattle.xc_source_script.specs.Words.{command_of, line_of, root_of}
use Rattle.xc_source_script.specs.SourceText.{BadLine, source_of, step}

-- a text: each line and its end
abbrev text : List (List ℕ) → List ℕ
text [] = []
text (line ∷ lines) = line ++ 10 ∷ text lines

abbrev bad : ℕ → SourceKind → Result SourceScript BadLine
bad line kind = Err (record { line = line; kind = kind })

unfoldable read : List ℕ → Result SourceScript BadLine
unfolding source_of step line_of command_of root_of
read t = source_of t

-- of version 1 and 2, with one root
abbrev one : List (List ℕ) → List ℕ
one lines = text (codes "xcsource 1" ∷ codes "start 0" ∷ codes "tablet 0 0 65535 root" ∷ lines)

abbrev two : List (List ℕ) → List ℕ
two lines = text (codes "xcsource 2" ∷ codes "start 0" ∷ codes "tablet 0 0 65535 root" ∷ lines)

-- two roots, of which one is split while a transaction waits on both
worked : read (text (codes "xcsource 1" ∷ codes "start 100" ∷ codes "tablet 0 0 32767 root" ∷ codes "tablet 1 32768 65535 root"
    ∷ codes "put +aaa=1" ∷ codes "begin" ∷ codes "write 1 +aaa=2" ∷ codes "write 1 +zzz=3" ∷ codes "commit 1" ∷ codes "apply 1 0"
    ∷ codes "split 1 50000" ∷ codes "tick 4611686018427387903" ∷ codes "safe 0" ∷ codes "abort 4294967295" ∷ codes "finish"
    ∷ codes "end" ∷ []))
    ≡ Ok (record {
      start = 100;
      roots = record { id = 0; lo = 0; hi = 32767; parent = None } ∷ record { id = 1; lo = 32768; hi = 65535; parent = None } ∷ [];
      commands = Put (record { key = codes "aaa"; value = Some (codes "1") }) ∷ Begin
          ∷ Write 1 (record { key = codes "aaa"; value = Some (codes "2") }) ∷ Write 1
          (record { key = codes "zzz"; value = Some (codes "3") })
          ∷ Commit 1 ∷ Apply 1 0 ∷ Split 1 50000 ∷ Tick 4611686018427387903 ∷ Safe 0 ∷ Abort 4294967295 ∷ Finish ∷ [];
    })
unfolding read
worked = refl

-- savepoints, and names of any bytes
savepoints : read (two (codes "begin" ∷ codes "savepoint 1" ∷ codes "write 1 +a%20b=2" ∷ codes "rollback 1 64" ∷ codes "put -%25"
    ∷ codes "end" ∷ []))
    ≡ Ok (record {
      start = 0;
      roots = record { id = 0; lo = 0; hi = 65535; parent = None } ∷ [];
      commands = Begin ∷ Savepoint 1 ∷ Write 1 (record { key = codes "a b"; value = Some (codes "2") }) ∷ Rollback 1 64
          ∷ Put (record { key = codes "%"; value = None }) ∷ [];
    })
unfolding read
savepoints = refl

-- ---- form

empty : read [] ≡ bad 1 kind.NoEnd
unfolding read
empty = refl

no_end : read (one (codes "begin" ∷ [])) ≡ bad 5 kind.NoEnd
unfolding read
no_end = refl

unfinished : read (one (codes "begin" ∷ []) ++ codes "end") ≡ bad 5 kind.Form
unfolding read
unfinished = refl

after_end : read (one (codes "end" ∷ codes "tablet 0 0 65535 root" ∷ [])) ≡ bad 5 kind.Form
unfolding read
after_end = refl

no_start : read (text (codes "xcsource 1" ∷ codes "tablet 0 0 65535 root" ∷ [])) ≡ bad 2 kind.Form
unfolding read
no_start = refl

child : read (one (codes "tablet 1 0 9 child 0" ∷ [])) ≡ bad 4 kind.Form
unfolding read
child = refl

savepoint_of_version_1 : read (one (codes "savepoint 0" ∷ [])) ≡ bad 4 kind.Form
unfolding read
savepoint_of_version_1 = refl

no_value : read (one (codes "write 0 +a" ∷ [])) ≡ bad 4 kind.Form
unfolding read
no_value = refl

-- ---- the other kinds

start_too_large : read (text (codes "xcsource 1" ∷ codes "start 4611686018427387904" ∷ [])) ≡ bad 2 kind.Number
unfolding read
start_too_large = refl

transaction_0 : read (one (codes "write 0 +=" ∷ [])) ≡ bad 4 kind.Number
unfolding read
transaction_0 = refl

subtransaction_0 : read (two (codes "rollback 1 0" ∷ [])) ≡ bad 4 kind.Number
unfolding read
subtransaction_0 = refl

subtransaction_65 : read (two (codes "rollback 1 65" ∷ [])) ≡ bad 4 kind.Number
unfolding read
subtransaction_65 = refl

escape_of_version_1 : read (one (codes "put -a%20b" ∷ [])) ≡ bad 4 kind.Key
unfolding read
escape_of_version_1 = refl

late_root : read (one (codes "begin" ∷ codes "tablet 1 0 0 root" ∷ [])) ≡ bad 5 kind.Header
unfolding read
late_root = refl

root_too_many : read (one (codes "tablet 1 0 0 root" ∷ [])) ≡ bad 4 kind.Header
unfolding read
root_too_many = refl

no_roots : read (text (codes "xcsource 1" ∷ codes "start 0" ∷ codes "end" ∷ [])) ≡ bad 3 kind.Header
unfolding read
no_roots = refl

not_whole : read (text (codes "xcsource 1" ∷ codes "start 0" ∷ codes "tablet 0 0 65534 root" ∷ codes "begin" ∷ [])) ≡ bad 4 kind.Header
unfolding read
not_whole = refl

numbered_from_1 : read (text (codes "xcsource 1" ∷ codes "start 0" ∷ codes "tablet 1 0 65535 root" ∷ [])) ≡ bad 3 kind.Header
unfolding read
numbered_from_1 = refl
