-- Computed with the definitions: which of all bytes are of the alphabet, the words of bytes at its edges, and the exit statuses.
use Rattle.std.proofs.Common.{◌≡◌, refl, ◌∷◌, [], map}
use Rattle.std.specs.Prelude.{filter, codes}
use Rattle.std.specs.List.{range_with_len}
use Rattle.xc_base.specs.declared.status.Status.TheVariants as status
use Rattle.xc_base.specs.declared.streams.SinkFail.TheVariants.{Failed, NoMemory}
use Rattle.xc_base.specs.Escapes.{escaped}
use Rattle.xc_base.specs.Names.{in_alphabet}
use Rattle.xc_base.specs.Status.{code_of, status_after}

alphabet :
    filter in_alphabet (range_with_len 0 256)
    ≡ codes "-./0123456789:ABCDEFGHIJKLMNOPQRSTUVWXYZ_abcdefghijklmnopqrstuvwxyz"
alphabet = refl

-- bytes just before and just behind those of the alphabet
escaped_edges : escaped (0 ∷ 37 ∷ 44 ∷ 59 ∷ 64 ∷ 91 ∷ 94 ∷ 96 ∷ 123 ∷ 255 ∷ []) ≡ codes "%00%25%2C%3B%40%5B%5E%60%7B%FF"
escaped_edges = refl

statuses :
    map code_of
    (status.Ok ∷ status.Usage ∷ status.BadLogs ∷ status.Disagree ∷ status.BadScript ∷ status.ReadFault ∷ status.WriteFault
    ∷ status.NoMemory ∷ status.Halted ∷ [])
    ≡ 0 ∷ 1 ∷ 2 ∷ 3 ∷ 4 ∷ 5 ∷ 6 ∷ 7 ∷ 8 ∷ []
statuses = refl

failed_writes : map status_after (Failed ∷ NoMemory ∷ []) ≡ status.WriteFault ∷ status.NoMemory ∷ []
failed_writes = refl
