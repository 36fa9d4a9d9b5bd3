-- A source that was read whole, or as far as a stop.
use Rattle.std.proofs.Common.{◌≡◌, ℕ, ◌<◌, ◌≤◌, List, [], ◌++◌, length, Option, Some, None, Result, Ok, Err, MatchResult, refl, sym, ap}
use Rattle.std.proofs.Common.{◌∙◌, arith, length-append, append-nil}
use Rattle.std.specs.Prelude.{IsErrOf}
use Rattle.std.specs.Io.KnownBytes.{Consumes, IsAtEnd}
use Rattle.xc_run.specs.declared.stop.Stop.{Stop}
use Rattle.xc_run.specs.declared.stop.Stop.TheVariants as stop
use Rattle.xc_run.specs.Streams.{Stream, Gave}
use Rattle.xc_run.specs.Ran.{Took, StopsAt, within}
use Rattle.xc_run.specs.Texts.{TookText}

-- the bytes of a source: those that it told, else those that came
abbrev pub bytes_of : Option (List ℕ) → List ℕ → List ℕ
bytes_of None came = came
bytes_of (Some told) came = told

pub gave_bytes : (told : Option (List ℕ)) (came : List ℕ) → Gave told (bytes_of told came)
gave_bytes None came = tt
gave_bytes (Some told) came = refl

pub gave_all : (before after : Option (List ℕ)) (came : List ℕ) → Consumes before after came → IsAtEnd after → Gave before came
gave_all None after came took end = tt
gave_all (Some told) None came took end = absurd took
gave_all (Some told) (Some rest) came took end = sym (took ∙ ap (λ l. came ++ l) end ∙ append-nil came)

longer : (before after : Option (List ℕ)) (came : List ℕ) (limit : ℕ) → Consumes before after came → limit < length came
    → limit < length (bytes_of before came)
longer None after came limit took long = long
longer (Some told) None came limit took long = absurd took
longer (Some told) (Some rest) came limit took long = omega (arith, long, ap length took, length-append came rest)

within-long : {A R : Type 0} (limit : ℕ) (refusal : R) (read : List ℕ → Result A R) (text : List ℕ) → limit < length text
    → within limit refusal read text ≡ Err refusal
within-long limit refusal read text long = grind (arith, long)

within-short : {A R : Type 0} (limit : ℕ) (refusal : R) (read : List ℕ → Result A R) (text : List ℕ) → length text ≤ limit
    → within limit refusal read text ≡ read text
within-short limit refusal read text short = grind (arith, short)

-- a text that didn't come whole
pub took_stopped : {A R : Type 0} (limit : ℕ) (refusal : R) (read : List ℕ → Result A R) (s : Stop R) (source : Stream)
    → TookText limit refusal (Err s) source → Took (within limit refusal read) (Err s) source
took_stopped limit refusal read (stop.Refused named) source h =
    let came = h.came.came in
    record {
      bytes = bytes_of source.before came.0;
      told = gave_bytes source.before came.0;
      found = within-long limit refusal read _ (longer _ _ came.0 limit came.1 came.2.0) ∙ ap (λ r. Err r) (sym h.came.is);
      end = tt;
      read_fault = λ e. cc;
      quiet = λ _. h.came.quiet;
      tells = h.tells;
    }
took_stopped limit refusal read stop.ReadFault source h =
    record {
      bytes = bytes_of source.before [];
      told = gave_bytes source.before [];
      found = tt;
      end = tt;
      read_fault = λ e. h.came;
      quiet = λ never. absurd (never refl);
      tells = h.tells;
    }
took_stopped limit refusal read stop.NoMemory source h =
    record {
      bytes = bytes_of source.before [];
      told = gave_bytes source.before [];
      found = tt;
      end = tt;
      read_fault = λ e. cc;
      quiet = λ _. h.came;
      tells = h.tells;
    }

at_end : {A R : Type 0} (result : Result A (Stop R)) (source : Stream) → IsAtEnd source.after
    → MatchResult result (λ _. IsAtEnd source.after) (λ _. Unit {0})
at_end (Ok x) source end = end
at_end (Err e) source end = tt

found_by : {A R : Type 0} (d e : Result A R) (result : Result A (Stop R)) → d ≡ e → MatchResult result (λ x. e ≡ Ok x) (StopsAt e)
    → MatchResult result (λ x. d ≡ Ok x) (StopsAt d)
found_by d e (Ok x) same h = same ∙ h
found_by d e (Err (stop.Refused r)) same h = same ∙ h
found_by d e (Err stop.ReadFault) same h = tt
found_by d e (Err stop.NoMemory) same h = tt

joined : {A R : Type 0} (d : Result A R) (result : Result A (Stop R)) → MatchResult result (λ x. d ≡ Ok x) (λ _. Unit {0})
    → MatchResult result (λ _. Unit {0}) (StopsAt d) → MatchResult result (λ x. d ≡ Ok x) (StopsAt d)
joined d (Ok x) p q = p
joined d (Err e) p q = q

-- a text that came whole, and what was made of it
pub took_whole : {A R : Type 0} (limit : ℕ) (refusal : R) (read : List ℕ
    → Result A R) (text : List ℕ) (result : Result A (Stop R)) (source : Stream)
    → TookText limit refusal (Ok text) source
    → MatchResult result (λ x. read text ≡ Ok x) (λ _. Unit {0}) → MatchResult result (λ _. Unit {0}) (StopsAt (read text))
    → (IsErrOf result stop.ReadFault → ⊥)
    → Took (within limit refusal read) result source
took_whole limit refusal read text result source h is refused never =
    record {
      bytes = text;
      told = gave_all _ _ text h.came.all h.came.end;
      found = found_by _ _ result (within-short limit refusal read text h.came.within) (joined (read text) result is refused);
      end = at_end result source h.came.end;
      read_fault = λ e. absurd (never e);
      quiet = λ _. h.came.quiet;
      tells = h.tells;
    }
