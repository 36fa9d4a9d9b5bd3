-- A text whose lines of two tablets are mixed, and the logs that it spells.
use Rattle.std.proofs.Common.{◌≡◌, ℕ, zero, suc, List, [], ◌∷◌, Some, Ok, slice_get, refl, codes}
use Rattle.std.specs.Fmt.{digits}
use Rattle.xc_record.specs.declared.record.Kind.TheVariants.{Intent, Apply, Safe}
use Rattle.xc_record.specs.declared.record.Tablet.{Tablet}
use Rattle.xc_record.proofs.WorkedLogs.{at, sets, a, z, two_tablets}
use Rattle.xc_text.specs.declared.line.Version.TheVariants.{One}
use Rattle.xc_text.specs.LogText.{logs_of}
use Rattle.xc_text.specs.Printed.{header_text, record_text}
use Rattle.xc_text.specs.Spelled.{Entry, Spells, given}
use Rattle.xc_text.proofs.SpelledRun.{spelled_is_read}
use Rattle.xc_text.proofs.WorkedTexts.{two}
use Rattle.xc_record.proofs.WorkedRows.{valid-two}

abbrev pub mixed_text : List ℕ
mixed_text = two (
    codes "0 10 intent 7 +aaa=1" ∷ codes "1 11 intent 7 +zzz=2" ∷ codes "0 20 apply 7 15" ∷ codes "1 21 safe 14"
    ∷ codes "1 25 apply 7 15" ∷ codes "0 22 safe 22" ∷ codes "1 30 safe 28" ∷ codes "end" ∷ [])

abbrev pub mixed : List Entry
mixed =
    record { id = 0; item = at 10 (Intent 0 7 (sets a (codes "1") ∷ [])) }
    ∷ record { id = 1; item = at 11 (Intent 0 7 (sets z (codes "2") ∷ [])) }
    ∷ record { id = 0; item = at 20 (Apply 7 15 []) }
    ∷ record { id = 1; item = at 21 (Safe 14) }
    ∷ record { id = 1; item = at 25 (Apply 7 15 []) }
    ∷ record { id = 0; item = at 22 (Safe 22) }
    ∷ record { id = 1; item = at 30 (Safe 28) }
    ∷ []

each : (id : ℕ) (t : Tablet) → slice_get (two_tablets 14 15).tablets id ≡ Some t → given id mixed ≡ t.records
each zero t e = cc
each (suc zero) t e = cc
each (suc (suc n)) t e = cc

mixed_spells : Spells mixed_text (two_tablets 14 15)
unfolding header_text record_text digits
mixed_spells = record { valid = valid-two; version = One; spelled = refl; entries = mixed; lines = refl; known = refl; records = each }

mixed_is_read : logs_of mixed_text ≡ Ok (two_tablets 14 15)
mixed_is_read = spelled_is_read mixed_text (two_tablets 14 15) mixed_spells
