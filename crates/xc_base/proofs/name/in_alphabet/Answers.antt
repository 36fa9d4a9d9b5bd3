-- The table is held against the definition at each of the 256 bytes, by computing.
use Rattle.std.proofs.Common.{◌≡◌, ℕ, ◌==◌, ◌<◌, Bool, true, false, map, not, cond, get_or, refl, ap, ◌∙◌, arith}
use Rattle.std.proofs.lemmas.List.FromFn.{get_or-map-range_with_len}
use Rattle.std.proofs.lemmas.Bool.Decides.{nat_tests}
use Rattle.std.specs.List.{range_with_len}
use Rattle.xc_base.specs.Names.{in_alphabet}
use Rattle.xc_base.specs.declared.name.TheConstants.{ALPHABET}
use Rattle.xc_base.proofs.name.in_alphabet.Goals as goal

abbrev mark : ℕ → ℕ
mark b = cond (in_alphabet b) b 44

table_is : ALPHABET ≡ map mark (range_with_len 0 256)
table_is = refl

-- no byte of the alphabet is a comma
not_comma : (b : ℕ) → in_alphabet b ≡ true → (b == 44) ≡ false
not_comma b h = grind (arith, nat_tests)

marked : (b : ℕ) (t : Bool) → in_alphabet b ≡ t → not (cond t b 44 == 44) ≡ t
marked b true h = rw (not_comma b h) refl
marked b false h = refl

read : (b : ℕ) → b < 256 → not (get_or ALPHABET b 0 == 44) ≡ in_alphabet b
read b h =
    ap (λ (n : ℕ). not (n == 44)) (ap (λ t. get_or t b 0) table_is ∙ get_or-map-range_with_len mark 0 256 b b 0 h (omega arith))
    ∙ marked b (in_alphabet b) refl

pub returns : goal.returns
returns c = read c.args.byte (omega arith)
