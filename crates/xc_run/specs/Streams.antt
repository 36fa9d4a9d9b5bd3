-- A stream that is lent to a call, by what it tells and by its count of faults, before and after the call.
use Rattle.std.specs.Prelude.{◌≡◌, ℕ, Bool, true, false, List, ⊤, Option, Some, None}
use Rattle.std.specs.Io.KnownBytes.{IsAtEnd}
use Rattle.xc_base.specs.Causes.{Rose}
use Rattle.xc_base.specs.Told.{TellsAlike}

pub record Stream : Type 0 where
  pub before : Option (List ℕ)
  pub after : Option (List ℕ)
  pub faults_before : ℕ
  pub faults_after : ℕ

abbrev pub stream : {A : Type 0} → (A → Option (List ℕ)) → (A → ℕ) → A → A → Stream
stream told faults old new = record { before = told old; after = told new; faults_before = faults old; faults_after = faults new }

-- its count of faults rose in the call
abbrev pub RoseIn : Stream → Type 0
RoseIn s = Rose s.faults_before s.faults_after

-- it is as before the call
abbrev pub IsQuiet : Stream → Type 0
IsQuiet s = s.faults_after ≡ s.faults_before

-- it tells its bytes after the call where it told them before
abbrev pub Tells : Stream → Type 0
Tells s = TellsAlike s.before s.after

pub record IsUntouched (s : Stream) : Type 0 where
  pub same : s.after ≡ s.before
  pub faults : s.faults_after ≡ s.faults_before

-- the bytes are those that were told, where they were
abbrev pub Gave : Option (List ℕ) → List ℕ → Type 0
Gave None bytes = ⊤
Gave (Some told) bytes = bytes ≡ told

-- a source that isn't to be read is as before, and one that is, was read to its end where the call came to its own end
abbrev pub Used : Bool → Type 0 → Stream → Type 0
Used true ended s = ended → IsAtEnd s.after
Used false ended s = IsUntouched s
