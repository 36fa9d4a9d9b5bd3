-- A source whose whole text was read, of at most so many bytes.
--     TookText limit refusal result source      the text came whole, or is too long, or a fault came, or memory was refused
use Rattle.std.specs.Prelude.{◌≡◌, ℕ, ◌≤◌, List, length, Result, Ok, Err}
use Rattle.std.specs.Io.KnownBytes.{Consumes, IsAtEnd}
use Rattle.xc_base.specs.Told.{IsJustPast}
use Rattle.xc_run.specs.declared.stop.Stop.{Stop}
use Rattle.xc_run.specs.declared.stop.Stop.TheVariants as stop
use Rattle.xc_run.specs.Streams.{Stream, RoseIn, IsQuiet, Tells}

pub record CameWhole (limit : ℕ) (source : Stream) (text : List ℕ) : Type 0 where
  pub all : Consumes source.before source.after text
  pub end : IsAtEnd source.after
  pub within : length text ≤ limit
  pub quiet : IsQuiet source

pub record IsTooLong {R : Type 0} (limit : ℕ) (refusal named : R) (source : Stream) : Type 0 where
  pub is : named ≡ refusal
  pub came : (came : List ℕ) × Consumes source.before source.after came × IsJustPast limit (length came)
  pub quiet : IsQuiet source

abbrev pub CameTo : {R : Type 0} → ℕ → R → Stream → Result (List ℕ) (Stop R) → Type 0
CameTo limit refusal source (Ok text) = CameWhole limit source text
CameTo limit refusal source (Err (stop.Refused named)) = IsTooLong limit refusal named source
CameTo limit refusal source (Err stop.ReadFault) = RoseIn source
CameTo limit refusal source (Err stop.NoMemory) = IsQuiet source

pub record TookText {R : Type 0} (limit : ℕ) (refusal : R) (result : Result (List ℕ) (Stop R)) (source : Stream) : Type 0 where
  pub came : CameTo limit refusal source result
  pub tells : Tells source
