-- Worked texts, computed.
use Rattle.std.proofs.Common.{◌≡◌, ℕ, Bool, true, false, List, [], ◌∷◌, ◌++◌, Option, Some, None, Result, Ok, Err, map, refl, codes}
use Rattle.std.proofs.Common.{replicate}
use Rattle.std.specs.Prelude.{flat_map}
use Rattle.std.specs.List.{range_with_len}
use Rattle.xc_record.specs.Hash.{hash_of}
use Rattle.xc_record.specs.declared.record.Logs.{Logs}
use Rattle.xc_text.specs.declared.kind.LogKind.{LogKind}
use Rattle.xc_text.specs.declared.kind.LogKind.TheVariants as kind
use Rattle.xc_text.specs.Lines.{number, kind_of, line_of}
use Rattle.xc_text.specs.LogText.{BadLine, logs_of, step}

-- a text: each line and its end
abbrev pub text : List (List ℕ) → List ℕ
text [] = []
text (line ∷ lines) = line ++ 10 ∷ text lines

abbrev pub bad : ℕ → LogKind → Result Logs BadLine
bad line kind = Err (record { line = line; kind = kind })

abbrev pub is_read : Result Logs BadLine → Bool
is_read (Ok logs) = true
is_read (Err e) = false

unfoldable pub read : List ℕ → Result Logs BadLine
unfolding logs_of step line_of kind_of number hash_of
read t = logs_of t

-- one tablet, two tablets, a tablet that was split
abbrev pub one : List (List ℕ) → List ℕ
one lines = text (codes "xclog 1" ∷ codes "tablet 0 0 65535 root" ∷ lines)

abbrev pub two : List (List ℕ) → List ℕ
two lines = text (codes "xclog 1" ∷ codes "tablet 0 0 32767 root" ∷ codes "tablet 1 32768 65535 root" ∷ lines)

abbrev pub split : List (List ℕ) → List ℕ
split lines = one (codes "tablet 1 0 32767 child 0" ∷ codes "tablet 2 32768 65535 child 0" ∷ lines)

empty : read [] ≡ bad 1 kind.NoEnd
unfolding read
empty = refl

no_end : read (one (codes "0 10 write +aaa=1" ∷ codes "0 12 safe 11" ∷ [])) ≡ bad 5 kind.NoEnd
unfolding read
no_end = refl

unfinished : read (one (codes "0 10 write +aaa=1" ∷ codes "0 12 safe 11" ∷ []) ++ codes "en") ≡ bad 5 kind.Form
unfolding read
unfinished = refl

time_too_large : read (one (codes "0 4611686018427387904 write +aaa=1" ∷ codes "end" ∷ [])) ≡ bad 3 kind.Number
unfolding read
time_too_large = refl

greatest_time : is_read (read (one (codes "0 4611686018427387903 write +aaa=1" ∷ codes "end" ∷ []))) ≡ true
unfolding read
greatest_time = refl

-- past 64 bits
number_too_large : read (one (codes "0 18446744073709551617 write +aaa=1" ∷ codes "end" ∷ [])) ≡ bad 3 kind.Number
unfolding read
number_too_large = refl

key_too_long : read (one ((codes "0 10 write +" ++ replicate 33 97 ++ codes "=1") ∷ codes "end" ∷ [])) ≡ bad 3 kind.Key
unfolding read
key_too_long = refl

longest_key : is_read (read (one ((codes "0 10 write +" ++ replicate 32 97 ++ codes "=1") ∷ codes "end" ∷ []))) ≡ true
unfolding read
longest_key = refl

unknown_tablet : read (one (codes "1 10 abort 3" ∷ codes "end" ∷ [])) ≡ bad 3 kind.UnknownTablet
unfolding read
unknown_tablet = refl

out_of_range : read (two (codes "0 10 write +zzz=1" ∷ codes "end" ∷ [])) ≡ bad 4 kind.Range
unfolding read
out_of_range = refl

orphan : read (split (codes "end" ∷ [])) ≡ bad 5 kind.Orphan
unfolding read
orphan = refl

abbrev pub split_lines : List (List ℕ)
split_lines =
    codes "0 10 write +aaa=1" ∷ codes "0 12 intent 5 +zzz=9" ∷ codes "0 13 safe 12" ∷ codes "0 14 split 32768 1 2"
    ∷ codes "1 20 safe 20" ∷ codes "2 18 apply 5 16" ∷ codes "2 19 safe 17" ∷ []

split_read : is_read (read (split (split_lines ++ codes "end" ∷ []))) ≡ true
unfolding read
split_read = refl

after_split : read (split (split_lines ++ codes "0 15 abort 9" ∷ codes "end" ∷ [])) ≡ bad 12 kind.AfterSplit
unfolding read
after_split = refl

headers_too_short : read (text (codes "xclog 1" ∷ codes "tablet 0 0 65534 root" ∷ codes "0 10 abort 3" ∷ codes "end" ∷ [])) ≡ bad 3
    kind.Header
unfolding read
headers_too_short = refl

-- the first kind of the list comes first
number_before_key : read (one (codes "0 0 write +=1" ∷ codes "end" ∷ [])) ≡ bad 3 kind.Number
unfolding read
number_before_key = refl

form_before_number : read (one (codes "0 0 write +=1 aaa" ∷ codes "end" ∷ [])) ≡ bad 3 kind.Form
unfolding read
form_before_number = refl

header_after_record : read (one (codes "0 10 abort 3" ∷ codes "tablet 1 0 32767 child 0" ∷ [])) ≡ bad 4 kind.Header
unfolding read
header_after_record = refl

line_after_end : read (one (codes "end" ∷ codes "tablet 1 0 32767 child 0" ∷ [])) ≡ bad 4 kind.Form
unfolding read
line_after_end = refl

-- ---- each kind of each line, and the numbers at the ends of their ranges

abbrev pub no_head : List ℕ
no_head = codes "xclog 1\n"

abbrev pub one_head : List ℕ
one_head = codes "xclog 1\ntablet 0 0 65535 root\n"

abbrev pub two_heads : List ℕ
two_heads = codes "xclog 1\ntablet 0 0 32767 root\ntablet 1 32768 65535 root\n"

abbrev pub split_head : List ℕ
split_head = codes "xclog 1\ntablet 0 0 65535 root\ntablet 1 0 32767 child 0\ntablet 2 32768 65535 child 0\n"

abbrev pub first_bad : Result Logs BadLine → Option BadLine
first_bad (Ok logs) = None
first_bad (Err e) = Some e

-- a text, and its first bad line
abbrev pub table : List (List ℕ × Option BadLine)
table =
    ([] ++ ([]), Some (record { line = 1; kind = kind.NoEnd })) ∷
    (no_head ++ ([]), Some (record { line = 2; kind = kind.NoEnd })) ∷
    (no_head ++ (codes "end\n"), Some (record { line = 2; kind = kind.Header })) ∷
    ([] ++ (codes "xclog 2\n"), Some (record { line = 2; kind = kind.NoEnd })) ∷
    ([] ++ (codes "xclog 3\n"), Some (record { line = 1; kind = kind.Form })) ∷
    ([] ++ (codes "xclog 1\nxclog 2\n"), Some (record { line = 2; kind = kind.Form })) ∷
    ([] ++ (codes "xclog  1\n"), Some (record { line = 1; kind = kind.Form })) ∷
    ([] ++ (codes "xclog 1 \n"), Some (record { line = 1; kind = kind.Form })) ∷
    ([] ++ (codes "xclog 1"), Some (record { line = 1; kind = kind.Form })) ∷
    ([] ++ (codes "end\n"), Some (record { line = 1; kind = kind.Form })) ∷
    (one_head ++ (codes "end\n"), None) ∷
    (one_head ++ (codes "end"), Some (record { line = 3; kind = kind.Form })) ∷
    (one_head ++ (codes "end\n\n"), Some (record { line = 4; kind = kind.Form })) ∷
    (one_head ++ (codes "end\nend\n"), Some (record { line = 4; kind = kind.Form })) ∷
    (one_head ++ (codes "end\nx"), Some (record { line = 4; kind = kind.Form })) ∷
    (one_head ++ (codes "xclog 1\n"), Some (record { line = 3; kind = kind.Form })) ∷
    (one_head ++ ([]), Some (record { line = 3; kind = kind.NoEnd })) ∷
    (one_head ++ (codes "end" ++ (13 ∷ []) ++ codes "\n"), Some (record { line = 3; kind = kind.Form })) ∷ (
      one_head ++ (codes
          "0 4611686018427387903 write +aaaaaaaaaaaaaaaaaaaaaaaaaaaaaaaa="
          ++ codes "vvvvvvvvvvvvvvvvvvvvvvvvvvvvvvvvvvvvvvvvvvvvvvvvvvvvvvvvvvvvvvvv\nend\n"),
      None,
    ) ∷ (
      one_head ++ (codes "0 4611686018427387904 write +aaaaaaaaaaaaaaaaaaaaaaaaaaaaaaaaa=\n"),
      Some
          (record { line = 3; kind = kind.Number }),
    ) ∷ (
      one_head ++ (codes "0 4611686018427387903 write +aaaaaaaaaaaaaaaaaaaaaaaaaaaaaaaaa=\n"),
      Some (record { line = 3; kind = kind.Key }),
    ) ∷ (
      one_head ++ (codes "0 1 write +a=vvvvvvvvvvvvvvvvvvvvvvvvvvvvvvvvvvvvvvvvvvvvvvvvvvvvvvvvvvvvvvvvv\n"),
      Some
          (record { line = 3; kind = kind.Key }),
    ) ∷
    (one_head ++ (codes "0 1 write +=1\n"), Some (record { line = 3; kind = kind.Key })) ∷
    (one_head ++ (codes "0 1 write --a +a=\nend\n"), None) ∷
    (one_head ++ (codes "0 1 write +a\n"), Some (record { line = 3; kind = kind.Form })) ∷
    (one_head ++ (codes "0 1 write a=1\n"), Some (record { line = 3; kind = kind.Form })) ∷
    (one_head ++ (codes "0 1 write\n"), Some (record { line = 3; kind = kind.Form })) ∷
    (one_head ++ (codes "0 1 write -a \n"), Some (record { line = 3; kind = kind.Form })) ∷
    (one_head ++ (codes "0 1 write -a  -b\n"), Some (record { line = 3; kind = kind.Form })) ∷
    (one_head ++ (codes "0 1 write -a" ++ (13 ∷ []) ++ codes "\n"), Some (record { line = 3; kind = kind.Key })) ∷
    (one_head ++ (codes "0 1 write +a=b=c\n"), Some (record { line = 3; kind = kind.Key })) ∷
    (one_head ++ (codes "0 1 write +=1 a\n"), Some (record { line = 3; kind = kind.Form })) ∷ (
      one_head ++ (codes
          "0 1 write -a -a -a -a -a -a -a -a -a -a -a -a -a -a -a -a -a -a -a -a -a -a -a -a -a -a -a -a -a -a "
          ++ codes "-a -a -a -a -a -a -a -a -a -a -a -a -a -a -a -a -a -a -a -a -a -a -a -a -a -a -a -a -a -a -a -a -a "
          ++ codes "-a\nend\n"),
      None,
    ) ∷ (
      one_head ++ (codes
          "0 1 write -a -a -a -a -a -a -a -a -a -a -a -a -a -a -a -a -a -a -a -a -a -a -a -a -a -a -a -a -a -a "
          ++ codes "-a -a -a -a -a -a -a -a -a -a -a -a -a -a -a -a -a -a -a -a -a -a -a -a -a -a -a -a -a -a -a -a -a "
          ++ codes "-a -a\nend\n"),
      Some (record { line = 3; kind = kind.Limit }),
    ) ∷ (
      one_head ++ (codes
          "0 1 intent 1 -a -a -a -a -a -a -a -a -a -a -a -a -a -a -a -a -a -a -a -a -a -a -a -a -a -a -a -a -a "
          ++ codes "-a -a -a -a -a -a -a -a -a -a -a -a -a -a -a -a -a -a -a -a -a -a -a -a -a -a -a -a -a -a -a -a -a "
          ++ codes "-a -a -a a\n"),
      Some (record { line = 3; kind = kind.Form }),
    ) ∷
    (one_head ++ (codes "0 0 write +=1\n"), Some (record { line = 3; kind = kind.Number })) ∷
    (one_head ++ (codes "0 00 abort 1\n"), Some (record { line = 3; kind = kind.Form })) ∷
    (one_head ++ (codes "0 1 abort 0\n"), Some (record { line = 3; kind = kind.Number })) ∷
    (one_head ++ (codes "0 1 abort 4294967295\nend\n"), None) ∷
    (one_head ++ (codes "0 1 abort 4294967296\n"), Some (record { line = 3; kind = kind.Number })) ∷
    (one_head ++ (codes "0 1 abort 18446744073709551617\n"), Some (record { line = 3; kind = kind.Number })) ∷
    (one_head ++ (codes "64 1 abort 1\n"), Some (record { line = 3; kind = kind.Number })) ∷
    (one_head ++ (codes "63 1 abort 1\n"), Some (record { line = 3; kind = kind.UnknownTablet })) ∷
    (one_head ++ (codes "0 1 apply 1\n"), Some (record { line = 3; kind = kind.Form })) ∷
    (one_head ++ (codes "0 1 apply 1 0\n"), Some (record { line = 3; kind = kind.Number })) ∷
    (one_head ++ (codes "0 1 safe 1 1\n"), Some (record { line = 3; kind = kind.Form })) ∷
    (one_head ++ (codes "0 1 stop 1\n"), Some (record { line = 3; kind = kind.Form })) ∷
    (one_head ++ (codes "0 1 split 65536 1 2\n"), Some (record { line = 3; kind = kind.Number })) ∷
    (one_head ++ (codes "0 1 split 5 1 2\n"), Some (record { line = 3; kind = kind.Range })) ∷
    (one_head ++ (codes "0 1 split 5 64 2\n"), Some (record { line = 3; kind = kind.Number })) ∷
    (no_head ++ (codes "tablet 0 0 65536 root\n"), Some (record { line = 2; kind = kind.Number })) ∷
    (no_head ++ (codes "tablet 0 0 65535 child\n"), Some (record { line = 2; kind = kind.Form })) ∷
    (no_head ++ (codes "tablet 0 0 65534 root\n0 1 abort 1\n"), Some (record { line = 3; kind = kind.Header })) ∷
    (no_head ++ (codes "tablet 1 0 65535 root\n"), Some (record { line = 2; kind = kind.Header })) ∷
    (no_head ++ (codes "tablet 0 1 65535 root\n"), Some (record { line = 2; kind = kind.Header })) ∷
    (no_head ++ (codes "tablet 0 0 9 root\ntablet 1 10 8 root\n"), Some (record { line = 3; kind = kind.Header })) ∷
    (one_head ++ (codes "tablet 1 0 9 child 0\nend\n"), Some (record { line = 4; kind = kind.Header })) ∷
    (one_head ++ (codes "tablet 1 0 65535 child 0\n"), Some (record { line = 3; kind = kind.Header })) ∷
    (one_head ++ (codes "tablet 1 0 9 child 1\n"), Some (record { line = 3; kind = kind.Header })) ∷
    (split_head ++ (codes "tablet 3 0 9 child 0\n"), Some (record { line = 5; kind = kind.Header })) ∷
    (split_head ++ (codes "tablet 3 0 65535 root\n"), Some (record { line = 5; kind = kind.Header })) ∷
    (one_head ++ (codes "0 1 abort 1\ntablet 1 0 9 child 0\n"), Some (record { line = 4; kind = kind.Header })) ∷
    (one_head ++ (codes "0 1 abort 1\ntablet 1 0 99999 child 0\n"), Some (record { line = 4; kind = kind.Number })) ∷
    (two_heads ++ (codes "0 10 write +zzz=1\n"), Some (record { line = 4; kind = kind.Range })) ∷
    (two_heads ++ (codes "1 10 write +zzz=1 -aaa\n"), Some (record { line = 4; kind = kind.Range })) ∷
    (two_heads ++ (codes "2 10 abort 1\n"), Some (record { line = 4; kind = kind.UnknownTablet })) ∷
    (split_head ++ (codes "end\n"), Some (record { line = 5; kind = kind.Orphan })) ∷
    (split_head ++ (codes "0 14 split 32768 1 2\n0 15 abort 9\n"), Some (record { line = 6; kind = kind.AfterSplit })) ∷
    (split_head ++ (codes "0 14 split 32768 2 1\n"), Some (record { line = 5; kind = kind.Range })) ∷
    (no_head ++ (codes "tablet 0 0 9 root\n0 1 write +=1\n"), Some (record { line = 3; kind = kind.Key })) ∷
    (no_head ++ (codes "tablet 0 0 9 root\n5 1 abort 1\n"), Some (record { line = 3; kind = kind.Header })) ∷
    (split_head ++ (codes "0 14 split 32768 1 2\n0 15 split 32767 1 2\n"), Some (record { line = 6; kind = kind.Range })) ∷ (
      split_head ++ (codes "0 14 split 32768 1 2\n0 15 write" ++ flat_map (λ n. codes " -a") (range_with_len 0 65) ++ codes "\n"),
      Some (record { line = 6; kind = kind.AfterSplit }),
    ) ∷
    (split_head ++ (codes "1 3 abort 1\n0 14 split 32768 1 2\n2 9 safe 9\nend\n"), None) ∷
    (one_head ++ (codes "0 1 write -" ++ (0 ∷ []) ++ codes "\n"), Some (record { line = 3; kind = kind.Key })) ∷
    (one_head ++ (codes "0 1 write -" ++ (195 ∷ []) ++ (169 ∷ []) ++ codes "\n"), Some (record { line = 3; kind = kind.Key })) ∷
    (one_head ++ (codes "\n"), Some (record { line = 3; kind = kind.Form })) ∷
    ([] ++ (codes " "), Some (record { line = 1; kind = kind.Form })) ∷
    (one_head ++ (codes " end\n"), Some (record { line = 3; kind = kind.Form })) ∷
    []

-- words for any bytes, and subtransactions
abbrev pub later_head : List ℕ
later_head = codes "xclog 2\ntablet 0 0 65535 root\n"

abbrev pub later_table : List (List ℕ × Option BadLine)
later_table =
    (one_head ++ (codes "0 10 write +a%20b=2\n"), Some (record { line = 3; kind = kind.Key })) ∷
    (later_head ++ (codes "0 10 write +a%20b=2 +a%3D=%0A -%25\nend\n"), None) ∷
    (later_head ++ (codes "0 10 write +a%61=2\n"), Some (record { line = 3; kind = kind.Key })) ∷
    (later_head ++ (codes "0 10 write +a%3d=2\n"), Some (record { line = 3; kind = kind.Key })) ∷
    (later_head ++ (codes "0 10 write -a%\n"), Some (record { line = 3; kind = kind.Key })) ∷
    (later_head ++ (codes "0 10 write -a%2\n"), Some (record { line = 3; kind = kind.Key })) ∷
    (later_head ++ (codes "0 10 write +a=b=c\n"), Some (record { line = 3; kind = kind.Key })) ∷
    (one_head ++ (codes "0 10 intent 4 sub 1 +aaa=1\n0 11 intent 4 sub 64 -a\n0 20 apply 4 15 without 1 64\nend\n"), None) ∷
    (one_head ++ (codes "0 10 intent 4 sub 0 +aaa=1\n"), Some (record { line = 3; kind = kind.Number })) ∷
    (one_head ++ (codes "0 10 intent 4 sub 65 +aaa=1\n"), Some (record { line = 3; kind = kind.Number })) ∷
    (one_head ++ (codes "0 10 intent 4 sub 1\n"), Some (record { line = 3; kind = kind.Form })) ∷
    (one_head ++ (codes "0 10 intent 4 sub\n"), Some (record { line = 3; kind = kind.Form })) ∷
    (one_head ++ (codes "0 20 apply 4 15 without 2 1\n"), Some (record { line = 3; kind = kind.Number })) ∷
    (one_head ++ (codes "0 20 apply 4 15 without 1 1\n"), Some (record { line = 3; kind = kind.Number })) ∷
    (one_head ++ (codes "0 20 apply 4 15 without 65\n"), Some (record { line = 3; kind = kind.Number })) ∷
    (one_head ++ (codes "0 20 apply 4 15 without 2 1 x\n"), Some (record { line = 3; kind = kind.Form })) ∷
    (one_head ++ (codes "0 20 apply 4 15 without\n"), Some (record { line = 3; kind = kind.Form })) ∷
    (one_head ++ (codes "0 20 apply 4 15 1\n"), Some (record { line = 3; kind = kind.Form })) ∷
    []

later_as_said : map {B = Option BadLine} (λ row. first_bad (read row.0)) later_table ≡ map {B = Option BadLine} (λ row. row.1) later_table
unfolding read
later_as_said = refl

as_said : map {B = Option BadLine} (λ row. first_bad (read row.0)) table ≡ map {B = Option BadLine} (λ row. row.1) table
unfolding read
as_said = refl
