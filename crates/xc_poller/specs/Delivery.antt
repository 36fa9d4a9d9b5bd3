-- What is made of a step of a poller.
--     CanGive p olds s      the tablets can take in what the step s gives
--     IsGiven old new olds news s result      each tablet took it in
--     IsCutOff last old new olds news s result      the tablets up to the one of the number `last` did, and the poller went back to its
--         acknowledged place
use Rattle.std.specs.Prelude.{◌≡◌, ℕ, ◌+◌, ◌≤◌, List, length, Result, Ok, Err, All}
use Rattle.xc_record.specs.declared.session.PollAnswer.{PollAnswer}
use Rattle.xc_record.specs.declared.session.PollAnswer.TheVariants as poll
use Rattle.xc_model.specs.Stands.{TargetTablet}
use Rattle.xc_tablet.specs.Batch.{CanTake}
use Rattle.xc_change.specs.declared.batch.Batch.{Batch}
use Rattle.xc_change.specs.declared.batch.NextFail.{NextFail}
use Rattle.xc_change.specs.declared.batch.NextFail.TheVariants as fail
use Rattle.xc_poller.specs.declared.step.Step.{Step}
use Rattle.xc_poller.specs.declared.step.Step.TheVariants as step
use Rattle.xc_poller.specs.Poller.{PollerState, done, restarted}
use Rattle.xc_poller.specs.Polled.{TookAll, TookFirst, answer_of}

-- the batch follows the cursor, and its records were found in order
pub record CanGiveBatch (p : PollerState) (olds : List TargetTablet) (batch : Batch) : Type 0 where
  pub next : batch.from ≡ p.reader.cursor + 1
  pub checked : p.reader.cursor + length batch.records ≤ p.reader.checked
  pub tablets : All (CanTake p.header.id batch.from batch.records) olds

abbrev pub CanGive : PollerState → List TargetTablet → Step → Type 0
CanGive p olds (step.Batch batch) = CanGiveBatch p olds batch
CanGive p olds s = Unit {0}

-- nothing is given
abbrev pub IsIdle : PollerState → PollerState → List TargetTablet → List TargetTablet → Step → Result PollAnswer NextFail → Type 0
IsIdle old new olds news s result = (result ≡ Ok (answer_of s)) × ((new ≡ old) × (news ≡ olds))

abbrev pub Refused : PollerState → PollerState → List TargetTablet → List TargetTablet → Batch → NextFail → Type 0
Refused old new olds news batch e =
    (e ≡ fail.NoMemory) × ((new ≡ old) × ((k : ℕ) × TookFirst old.header.id batch.from batch.records k olds news))

abbrev pub IsGiven : PollerState → PollerState → List TargetTablet → List TargetTablet → Step → Result PollAnswer NextFail → Type 0
IsGiven old new olds news (step.Batch batch) (Ok answer) =
    (answer ≡ poll.Polled (length batch.records)) ×
    ((new ≡ done batch.records old) × TookAll old.header.id batch.from batch.records olds news)
IsGiven old new olds news (step.Batch batch) (Err e) = Refused old new olds news batch e
IsGiven old new olds news s result = IsIdle old new olds news s result

abbrev pub IsCutOff : ℕ → PollerState → PollerState → List TargetTablet → List TargetTablet → Step → Result PollAnswer NextFail → Type 0
IsCutOff last old new olds news (step.Batch batch) (Ok answer) =
    (answer ≡ poll.Polled (length batch.records)) ×
    ((new ≡ restarted old) × TookFirst old.header.id batch.from batch.records (last + 1) olds news)
IsCutOff last old new olds news (step.Batch batch) (Err e) = Refused old new olds news batch e
IsCutOff last old new olds news s result = IsIdle old new olds news s result
