-- What a top call and its parts do to the streams that they are lent. Each is said of a definition over the bytes.
--     Output      all that a run writes, and its status
--     Took defined result source      one source was read, and `defined` of its bytes is the result
--     Got defined reads result logs script      the same of the sources of a command
--     Wrote output cause result out      the output was written, or a prefix of it
--     Ended line stop result out      a part that reads stopped, and the run ended so
--     Ran allows reads result logs script out      a whole run
use Rattle.std.specs.Prelude.{◌≡◌, ◌⊎◌, ℕ, Bool, nat_lt, if◌then◌else◌, length, List, ⊤, IsTrue, Option, Result, Ok, Err, MatchResult, IsOk}
use Rattle.std.specs.Prelude.{IsErrOf}
use Rattle.std.specs.Io.KnownBytes.{Appends, IsAtEnd}
use Rattle.xc_base.specs.Told.{IsPrefix}
use Rattle.xc_base.specs.declared.status.Status.{Status}
use Rattle.xc_base.specs.declared.status.Status.TheVariants as status
use Rattle.xc_run.specs.declared.stop.Stop.{Stop}
use Rattle.xc_run.specs.declared.stop.Stop.TheVariants as stop
use Rattle.xc_run.specs.Streams.{Stream, RoseIn, IsQuiet, Tells, IsUntouched, Gave, Used}

-- all that a run writes, and the status that it ends with
pub record Output : Type 0 where
  pub text : List ℕ
  pub status : Status

infixl 10 ◌>>=◌
abbrev pub ◌>>=◌ : {A B R : Type 0} → Result A R → (A → Result B R) → Result B R
(Ok x) >>= f = f x
(Err r) >>= f = Err r

-- what is written in the end, the line of a refusal where there is one
abbrev pub output_of : {R : Type 0} → (R → Output) → Result Output R → Output
output_of refusal_output (Ok output) = output
output_of refusal_output (Err refusal) = refusal_output refusal

-- a text of more bytes than the limit is refused, and else it is read
abbrev pub within : {A R : Type 0} → ℕ → R → (List ℕ → Result A R) → List ℕ → Result A R
within limit refusal read text = if nat_lt limit (length text) then Err refusal else read text

-- which sources a command reads
pub record Reads : Type 0 where
  pub logs : Bool
  pub script : Bool

-- the count of a source that is to be read rose
abbrev pub FaultIn : Reads → Stream → Stream → Type 0
FaultIn reads logs script = (IsTrue reads.logs × RoseIn logs) ⊎ (IsTrue reads.script × RoseIn script)

abbrev pub AreQuiet : Stream → Stream → Type 0
AreQuiet logs script = IsQuiet logs × IsQuiet script

abbrev pub AreTold : Stream → Stream → Type 0
AreTold logs script = Tells logs × Tells script

-- ---- a part that reads

-- why it stopped: the bytes are refused, or a fault came, or memory was refused
abbrev pub StopsAt : {A R : Type 0} → Result A R → Stop R → Type 0
StopsAt defined (stop.Refused refusal) = defined ≡ Err refusal
StopsAt defined stop.ReadFault = ⊤
StopsAt defined stop.NoMemory = ⊤

-- one source was read, and its bytes give the result
pub record Took {A R : Type 0} (defined : List ℕ → Result A R) (result : Result A (Stop R)) (source : Stream) : Type 0 where
  pub bytes : List ℕ
  pub told : Gave source.before bytes
  pub found : MatchResult result (λ x. defined bytes ≡ Ok x) (StopsAt (defined bytes))
  pub end : MatchResult result (λ _. IsAtEnd source.after) (λ _. ⊤)
  pub read_fault : IsErrOf result stop.ReadFault → RoseIn source
  pub quiet : ¬ IsErrOf result stop.ReadFault → IsQuiet source
  pub tells : Tells source

-- the sources of a command were read, and their bytes give the result
pub record Got {A R : Type 0} (defined : List ℕ → List ℕ → Result A R) (reads : Reads) (result : Result A (Stop R)) (logs script : Stream) :
    Type 0 where
  pub from_logs : List ℕ
  pub from_script : List ℕ
  pub logs_told : Gave logs.before from_logs
  pub script_told : Gave script.before from_script
  pub found : MatchResult result (λ x. defined from_logs from_script ≡ Ok x) (StopsAt (defined from_logs from_script))
  pub read_fault : IsErrOf result stop.ReadFault → FaultIn reads logs script
  pub quiet : ¬ IsErrOf result stop.ReadFault → AreQuiet logs script
  pub tell : AreTold logs script
  pub logs_used : Used reads.logs (IsOk result) logs
  pub script_used : Used reads.script (IsOk result) script

-- ---- a part that writes

-- a prefix of the text went out
abbrev pub IsCutShort : Option (List ℕ) → Option (List ℕ) → List ℕ → Type 0
IsCutShort before after text = (went : List ℕ) × IsPrefix went text × Appends before after went

-- the output and its status, or a prefix of it after a fault or out of memory
abbrev pub Shows : Output → Status → Stream → Type 0
Shows output status.ReadFault out = IsCutShort out.before out.after output.text
Shows output status.WriteFault out = IsCutShort out.before out.after output.text
Shows output status.NoMemory out = IsCutShort out.before out.after output.text
Shows output other out = (other ≡ output.status) × Appends out.before out.after output.text

-- an output was written; `cause` is what a fault of reading meanwhile would come from, ⊥ where nothing is read
pub record Wrote (output : Output) (cause : Type 0) (result : Status) (out : Stream) : Type 0 where
  pub shown : Shows output result out
  pub read_fault : result ≡ status.ReadFault → cause
  pub write_fault : result ≡ status.WriteFault → RoseIn out
  pub quiet : (result ≡ status.WriteFault → ⊥) → IsQuiet out
  pub tells : Tells out

-- a stop became a status: the line of a refusal was written
abbrev pub Ended : {R : Type 0} → (R → Output) → Stop R → Status → Stream → Type 0
Ended refusal_output (stop.Refused refusal) result out = Wrote (refusal_output refusal) ⊥ result out
Ended refusal_output stop.ReadFault result out = (result ≡ status.ReadFault) × IsUntouched out
Ended refusal_output stop.NoMemory result out = (result ≡ status.NoMemory) × IsUntouched out

-- ---- the whole

-- a run came to its own end
abbrev pub IsEnded : Status → Type 0
IsEnded result = (result ≡ status.Ok) ⊎ (result ≡ status.Halted)

-- the one output that is defined
abbrev pub Is : (List ℕ → List ℕ → Output) → List ℕ → List ℕ → Output → Type 0
Is defined logs script output = output ≡ defined logs script

pub record Ran (allows : List ℕ → List ℕ → Output → Type 0) (reads : Reads) (result : Status) (logs script out : Stream) : Type 0 where
  pub from_logs : List ℕ
  pub from_script : List ℕ
  -- of a source that tells its bytes these are the bytes
  pub logs_told : Gave logs.before from_logs
  pub script_told : Gave script.before from_script
  pub output : Output
  pub allowed : allows from_logs from_script output
  pub shown : Shows output result out
  pub read_fault : result ≡ status.ReadFault → FaultIn reads logs script
  pub write_fault : result ≡ status.WriteFault → RoseIn out
  -- no fault is hidden
  pub read_quiet : (result ≡ status.ReadFault → ⊥) → AreQuiet logs script
  pub write_quiet : (result ≡ status.WriteFault → ⊥) → IsQuiet out
  pub tell : AreTold logs script
  pub tells : Tells out
  pub logs_used : Used reads.logs (IsEnded result) logs
  pub script_used : Used reads.script (IsEnded result) script
