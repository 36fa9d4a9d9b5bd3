-- A command: its sources are read, and then its output is written.
use Rattle.std.proofs.Common.{◌≡◌, ℕ, Bool, true, false, List, [], Result, Ok, Err, refl, sym, ap, ◌∙◌, subst, inl, inr}
use Rattle.std.specs.Io.KnownBytes.{Appends}
use Rattle.std.proofs.KnownBytes.{Appends-nil}
use Rattle.std.specs.Prelude.{IsOk}
use Rattle.xc_base.specs.declared.status.Status.{Status}
use Rattle.xc_base.specs.declared.status.Status.TheVariants as status
use Rattle.xc_run.specs.declared.stop.Stop.{Stop}
use Rattle.xc_run.specs.declared.stop.Stop.TheVariants as stop
use Rattle.xc_run.proofs.Reading.{bytes_of, gave_bytes}
use Rattle.xc_run.proofs.Gets.{untouched_tells}
use Rattle.xc_run.specs.Streams.{Stream, Used, IsUntouched}
use Rattle.xc_run.specs.Ran.{Got, Wrote, Ended, Ran, Is, Shows, IsEnded, IsCutShort, Output, Reads, FaultIn, AreQuiet, ◌>>=◌, output_of}

used_for : (b : Bool) (P Q : Type 0) (s : Stream) → (Q → P) → Used b P s → Used b Q s
used_for true P Q s weaker used = λ q. used (weaker q)
used_for false P Q s weaker used = used

not_ended : (output : Output) (result : Status) (out : Stream) → (IsEnded output.status → ⊥) → Shows output result out → IsEnded result → ⊥
not_ended output result out never shown (inl e) = never (inl (sym (subst (λ s. Shows output s out) e shown).0))
not_ended output result out never shown (inr e) = never (inr (sym (subst (λ s. Shows output s out) e shown).0))

nothing_cut : (out : Stream) (text : List ℕ) → out.after ≡ out.before → IsCutShort out.before out.after text
nothing_cut out text same = ([], (text, refl), subst (λ o. Appends out.before o []) (sym same) (Appends-nil out.before))

abbrev pub then_output : {A R : Type 0} → (R → Output) → (List ℕ → List ℕ → Result A R) → (A → Output) → List ℕ → List ℕ → Output
then_output line defined output a b = output_of line (defined a b >>= (λ x. Ok (output x)))

-- what nothing can come from, nothing else comes from
caused : (output : Output) (cause : Type 0) (result : Status) (out : Stream) → Wrote output ⊥ result out → Wrote output cause result out
caused output cause result out wrote = record {
  shown = wrote.shown;
  read_fault = λ e. absurd (wrote.read_fault e);
  write_fault = wrote.write_fault;
  quiet = wrote.quiet;
  tells = wrote.tells;
}

-- whatever the sources gave, an output of their bytes was written, or a prefix of it
ran : {A R : Type 0} (defined : List ℕ → List ℕ → Result A R) (given : Result A (Stop R)) (whole : List ℕ → List ℕ → Output)
    (output : Output) (reads : Reads) (result : Status) (logs script out : Stream) (got : Got defined reads given logs script)
    → output ≡ whole got.from_logs got.from_script → Wrote output (FaultIn reads logs script) result out
    → ((result ≡ status.ReadFault → ⊥) → AreQuiet logs script) → (IsEnded result → IsOk given)
    → Ran (Is whole) reads result logs script out
ran defined given whole output reads result logs script out got allowed wrote quiet ended = record {
  from_logs = got.from_logs;
  from_script = got.from_script;
  logs_told = got.logs_told;
  script_told = got.script_told;
  output = output;
  allowed = allowed;
  shown = wrote.shown;
  read_fault = wrote.read_fault;
  write_fault = wrote.write_fault;
  read_quiet = quiet;
  write_quiet = wrote.quiet;
  tell = got.tell;
  tells = wrote.tells;
  logs_used = used_for reads.logs _ _ logs ended got.logs_used;
  script_used = used_for reads.script _ _ script ended got.script_used;
}

-- the sources gave x, and the output of x was written
pub ran_written : {A R : Type 0} (line : R → Output) (defined : List ℕ → List ℕ → Result A R) (output : A
    → Output) (reads : Reads) (x : A) (result : Status) (logs script out : Stream)
    → Got defined reads (Ok x) logs script → Wrote (output x) ⊥ result out
    → Ran (Is (then_output line defined output)) reads result logs script out
ran_written line defined output reads x result logs script out got wrote =
    ran _ _ (then_output line defined output) _ reads result logs script out got
    (sym (ap (λ r. output_of line (r >>= (λ x. Ok (output x)))) got.found)) (caused _ _ result out wrote)
    (λ _. got.quiet (λ e. cc)) (λ _. refl)

-- the sources stopped
pub ran_ended : {A R : Type 0} (line : R → Output) (never : (r : R) → IsEnded (line r).status → ⊥) (defined : List ℕ → List ℕ
    → Result A R) (output : A → Output) (reads : Reads) (s : Stop R) (result : Status) (logs script out : Stream)
    → Got defined reads (Err s) logs script → Ended line s result out
    → Ran (Is (then_output line defined output)) reads result logs script out
ran_ended line never defined output reads (stop.Refused r) result logs script out got wrote =
    ran _ _ (then_output line defined output) _ reads result logs script out got
    (sym (ap (λ r. output_of line (r >>= (λ x. Ok (output x)))) got.found)) (caused _ _ result out wrote)
    (λ _. got.quiet (λ e. cc)) (λ e. absurd (not_ended (line r) result out (never r) wrote.shown e))
ran_ended line never defined output reads stop.ReadFault result logs script out got ended =
    let o = then_output line defined output got.from_logs got.from_script in
    ran _ _ (then_output line defined output) o reads result logs script out got refl (record {
      shown = subst (λ s. Shows o s out) (sym ended.0) (nothing_cut out o.text ended.1.same);
      read_fault = λ _. got.read_fault refl;
      write_fault = λ e. cc (sym ended.0 ∙ e);
      quiet = λ _. ended.1.faults;
      tells = untouched_tells out ended.1;
    }) (λ never. absurd (never ended.0)) (elim [ inl e ↦ cc (sym ended.0 ∙ e) | inr e ↦ cc (sym ended.0 ∙ e) ])
ran_ended line never defined output reads stop.NoMemory result logs script out got ended =
    let o = then_output line defined output got.from_logs got.from_script in
    ran _ _ (then_output line defined output) o reads result logs script out got refl (record {
      shown = subst (λ s. Shows o s out) (sym ended.0) (nothing_cut out o.text ended.1.same);
      read_fault = λ e. cc (sym ended.0 ∙ e);
      write_fault = λ e. cc (sym ended.0 ∙ e);
      quiet = λ _. ended.1.faults;
      tells = untouched_tells out ended.1;
    }) (λ _. got.quiet (λ e. cc)) (elim [ inl e ↦ cc (sym ended.0 ∙ e) | inr e ↦ cc (sym ended.0 ∙ e) ])

-- an output that needs no source
pub ran_alone : (output : Output) (result : Status) (logs script out : Stream)
    → IsUntouched logs → IsUntouched script → Wrote output ⊥ result out
    → Ran (Is (λ a b. output)) (record { logs = false; script = false }) result logs script out
ran_alone output result logs script out same_logs same_script wrote =
    record {
      from_logs = bytes_of logs.before [];
      from_script = bytes_of script.before [];
      logs_told = gave_bytes logs.before [];
      script_told = gave_bytes script.before [];
      output = output;
      allowed = refl;
      shown = wrote.shown;
      read_fault = λ e. absurd (wrote.read_fault e);
      write_fault = wrote.write_fault;
      read_quiet = λ _. (same_logs.faults, same_script.faults);
      write_quiet = wrote.quiet;
      tell = (untouched_tells logs same_logs, untouched_tells script same_script);
      tells = wrote.tells;
      logs_used = same_logs;
      script_used = same_script;
    }
