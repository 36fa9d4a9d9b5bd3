-- Sources that were read one after the other.
use Rattle.std.proofs.Common.{◌≡◌, ℕ, List, [], true, false, Result, Ok, Err, MatchResult, refl, ap, ◌∙◌, inl, inr}
use Rattle.xc_run.specs.declared.stop.Stop.{Stop}
use Rattle.xc_run.specs.declared.stop.Stop.TheVariants as stop
use Rattle.std.specs.Prelude.{IsOk, IsErrOf, is_some}
use Rattle.std.specs.Io.KnownBytes.{IsAtEnd}
use Rattle.xc_run.specs.Streams.{Stream, Tells, IsUntouched}
use Rattle.xc_run.specs.Ran.{Took, Got, StopsAt, Reads, ◌>>=◌}
use Rattle.xc_run.proofs.Reading.{bytes_of, gave_bytes}

stops_on : {A B R : Type 0} (d : Result A R) (k : A → Result B R) (s : Stop R) → StopsAt d s → StopsAt (d >>= k) s
stops_on d k (stop.Refused refusal) e = ap (λ r. r >>= k) e
stops_on d k stop.ReadFault e = tt
stops_on d k stop.NoMemory e = tt

stops_at : {A R : Type 0} (d e : Result A R) (s : Stop R) → d ≡ e → StopsAt e s → StopsAt d s
stops_at d e (stop.Refused refusal) same h = same ∙ h
stops_at d e stop.ReadFault same h = tt
stops_at d e stop.NoMemory same h = tt

-- a stop is named again where another value was wanted
err_again : {A B R : Type 0} (s t : Stop R) → IsErrOf {T = A} (Err s) t → IsErrOf {T = B} (Err s) t
err_again {A = A} s t e = let same : s ≡ t = cc in ap (λ r. Err r) same

pub untouched_tells : (s : Stream) → IsUntouched s → Tells s
untouched_tells s same = ap is_some same.same

-- one part after the other, of the logs and then, by what they are, of the script
abbrev pub in_turn : {A B R : Type 0} → (List ℕ → Result A R) → (A → List ℕ → Result B R) → List ℕ → List ℕ → Result (A × B) R
in_turn f g a b = f a >>= (λ x. g x b >>= (λ y. Ok (x, y)))

abbrev pub both : Reads
both = record { logs = true; script = true }

abbrev pub script_alone : Reads
script_alone = record { logs = false; script = true }

abbrev pub logs_alone : Reads
logs_alone = record { logs = true; script = false }

pub got_both : {A B R : Type 0} (f : List ℕ → Result A R) (g : A → List ℕ → Result B R) (x : A) (y : B) (logs script : Stream)
    → Took f (Ok x) logs → Took (g x) (Ok y) script → Got (in_turn f g) both (Ok (x, y)) logs script
got_both f g x y logs script first second =
    record {
      from_logs = first.bytes;
      from_script = second.bytes;
      logs_told = first.told;
      script_told = second.told;
      found = ap (λ r. r >>= (λ x. g x second.bytes >>= (λ y. Ok (x, y)))) first.found ∙ ap (λ r. r >>= (λ y. Ok (x, y))) second.found;
      read_fault = λ e. cc;
      quiet = λ _. (first.quiet (λ e. cc), second.quiet (λ e. cc));
      tell = (first.tells, second.tells);
      logs_used = λ _. first.end;
      script_used = λ _. second.end;
    }

pub stopped_first : {A B R : Type 0} (f : List ℕ → Result A R) (g : A → List ℕ → Result B R) (s : Stop R) (logs script : Stream)
    → Took f (Err s) logs → IsUntouched script → Got (in_turn f g) both (Err s) logs script
stopped_first f g s logs script first same =
    record {
      from_logs = first.bytes;
      from_script = bytes_of script.before [];
      logs_told = first.told;
      script_told = gave_bytes script.before [];
      found = stops_on _ _ s first.found;
      read_fault = λ e. inl (refl, first.read_fault (err_again s stop.ReadFault e));
      quiet = λ never. (first.quiet (λ e. never (err_again s stop.ReadFault e)), same.faults);
      tell = (first.tells, untouched_tells script same);
      logs_used = λ e. cc;
      script_used = λ e. cc;
    }

pub stopped_second : {A B R : Type 0} (f : List ℕ → Result A R) (g : A → List ℕ → Result B R) (x : A) (s : Stop R) (logs script : Stream)
    → Took f (Ok x) logs → Took (g x) (Err s) script → Got (in_turn f g) both (Err s) logs script
stopped_second f g x s logs script first second =
    record {
      from_logs = first.bytes;
      from_script = second.bytes;
      logs_told = first.told;
      script_told = second.told;
      found = stops_at _ _ s (ap (λ r. r >>= (λ x. g x second.bytes >>= (λ y. Ok (x, y)))) first.found) (stops_on _ _ s second.found);
      read_fault = λ e. inr (refl, second.read_fault (err_again s stop.ReadFault e));
      quiet = λ never. (first.quiet (λ e. cc), second.quiet (λ e. never (err_again s stop.ReadFault e)));
      tell = (first.tells, second.tells);
      logs_used = λ e. cc;
      script_used = λ e. cc;
    }

-- whether the source was read to its end
end_of : {A R : Type 0} (result : Result A (Stop R)) (source : Stream)
    → MatchResult result (λ _. IsAtEnd source.after) (λ _. Unit {0}) → IsOk result → IsAtEnd source.after
end_of (Ok x) source end ok = end
end_of (Err s) source end ok = cc

-- the logs alone
pub got_logs : {A R : Type 0} (f : List ℕ → Result A R) (result : Result A (Stop R)) (logs script : Stream)
    → Took f result logs → IsUntouched script → Got (λ a b. f a) logs_alone result logs script
got_logs f result logs script first same = record {
  from_logs = first.bytes;
  from_script = bytes_of script.before [];
  logs_told = first.told;
  script_told = gave_bytes script.before [];
  found = first.found;
  read_fault = λ e. inl (refl, first.read_fault e);
  quiet = λ never. (first.quiet never, same.faults);
  tell = (first.tells, untouched_tells script same);
  logs_used = end_of result logs first.end;
  script_used = same;
}

-- the script alone
pub got_script : {A R : Type 0} (f : List ℕ → Result A R) (result : Result A (Stop R)) (logs script : Stream)
    → Took f result script → IsUntouched logs → Got (λ a b. f b) script_alone result logs script
got_script f result logs script second same = record {
  from_logs = bytes_of logs.before [];
  from_script = second.bytes;
  logs_told = gave_bytes logs.before [];
  script_told = second.told;
  found = second.found;
  read_fault = λ e. inr (refl, second.read_fault e);
  quiet = λ never. (same.faults, second.quiet never);
  tell = (untouched_tells logs same, second.tells);
  logs_used = same;
  script_used = end_of result script second.end;
}
