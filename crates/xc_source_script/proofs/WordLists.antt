-- Words in a list that are too few or too many.
use Rattle.std.proofs.Common.{◌≡◌, ℕ, ◌<◌, ◌≤◌, List, [], ◌∷◌, length, Bor, None, refl, arith}
use Rattle.xc_script.proofs.WordLists.{texts}
use Rattle.xc_text.specs.declared.line.Version.{Version}
use Rattle.xc_source_script.specs.Words.{root_of, command_of}

pub too_many : (v : Version) (verb : List ℕ) (words : List (Bor (List ℕ))) → 3 ≤ length words → command_of v verb (texts words) ≡ None
unfolding command_of
too_many v verb [] g = absurd (omega (arith, g))
too_many v verb (a ∷ []) g = absurd (omega (arith, g))
too_many v verb (a ∷ b ∷ []) g = absurd (omega (arith, g))
too_many v verb (a ∷ b ∷ e ∷ words) g = refl

pub few_words : (words : List (Bor (List ℕ))) → length words < 4 → root_of (texts words) ≡ None
unfolding root_of
few_words [] g = refl
few_words (a ∷ []) g = refl
few_words (a ∷ b ∷ []) g = refl
few_words (a ∷ b ∷ c ∷ []) g = refl
few_words (a ∷ b ∷ c ∷ d ∷ words) g = absurd (omega (arith, g))

pub many_words : (words : List (Bor (List ℕ))) → 5 ≤ length words → root_of (texts words) ≡ None
unfolding root_of
many_words [] g = absurd (omega (arith, g))
many_words (a ∷ []) g = absurd (omega (arith, g))
many_words (a ∷ b ∷ []) g = absurd (omega (arith, g))
many_words (a ∷ b ∷ c ∷ []) g = absurd (omega (arith, g))
many_words (a ∷ b ∷ c ∷ d ∷ []) g = absurd (omega (arith, g))
many_words (a ∷ b ∷ c ∷ d ∷ e ∷ words) g = refl
