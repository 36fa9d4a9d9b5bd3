-- Lists of commands of which each is answered in its turn.
use Rattle.std.proofs.Common.{◌≡◌, ℕ, ◌+◌, ◌≤◌, ◌^◌, false, Bool, List, [], ◌∷◌, ◌++◌, Option, None, refl, ap, ◌∙◌, arith}
use Rattle.std.specs.Prelude.{Ok}
use Rattle.std.proofs.lemmas.Bool.Decides.{nat_tests}
use Rattle.xc_time.specs.Times.{last_time}
use Rattle.xc_record.specs.Lists.{or_else}
use Rattle.xc_source.specs.declared.command.SourceCommand.{SourceCommand}
use Rattle.xc_source.specs.declared.fail.SourceFail.{SourceFail}
use Rattle.xc_source.specs.Machine.{Machine, record_count}
use Rattle.xc_source.specs.Calls.{first_of, when, full, clock_end, unless}
use Rattle.xc_source.specs.Commands.{step, run, made_from, made_after, refusal_of}
use Rattle.xc_source_laws.proofs.Opened.{AllNone}

abbrev pub AllAnswered : List SourceCommand → Machine → Type 0
AllAnswered [] m = Unit {0}
AllAnswered (c ∷ cs) m = ((step c m).0 ≡ None) × AllAnswered cs (step c m).1

pub answered-append : (xs ys : List SourceCommand) (m : Machine) → AllAnswered xs m → AllAnswered ys (run xs m)
    → AllAnswered (xs ++ ys) m
answered-append [] ys m f g = g
answered-append (x ∷ xs) ys m f g = (f.0, answered-append xs ys (step x m).1 f.1 g)

pub answered-made : (k : ℕ) (cs : List SourceCommand) (m : Machine) → AllAnswered cs m → made_from k cs m ≡ Ok (run cs m)
answered-made k [] m h = refl
answered-made k (c ∷ cs) m h =
    ap (λ o. made_after k o (made_from (k + 1) cs (step c m).1)) h.0 ∙ answered-made (k + 1) cs (step c m).1 h.1

-- ---- refusals that don't stand

pub none-of : (rs : List (Option SourceFail)) → AllNone rs → first_of rs ≡ None
none-of [] h = refl
none-of (r ∷ rs) h = ap (λ o. or_else o (first_of rs)) h.0 ∙ none-of rs h.1

pub no-when : (b : Bool) (f : SourceFail) → b ≡ false → when b f ≡ None
no-when b f e = ap (λ c. when c f) e

pub answers : {X : Type 0} (o : Option SourceFail) (m : Machine) (x : X) (after : Machine) → o ≡ None
    → refusal_of (unless o m x after).0 ≡ None
answers o m x after e = ap (λ r. refusal_of (unless r m x after).0) e

pub leaves : {X : Type 0} (o : Option SourceFail) (m : Machine) (x : X) (after : Machine) → o ≡ None → (unless o m x after).1 ≡ after
leaves o m x after e = ap (λ r. (unless r m x after).1) e

-- records and times are left
pub record Room (m : Machine) (k : ℕ) : Type 0 where
  pub records : record_count m + k ≤ 2 ^ 20
  pub times : m.time + k ≤ last_time

pub not-full : (m : Machine) (k : ℕ) → Room m k → full m k ≡ None
not-full m k r = no-when _ _ (let z = r.records in grind (arith, nat_tests))

pub not-ended : (m : Machine) (k : ℕ) → Room m k → clock_end m k ≡ None
not-ended m k r = no-when _ _ (let z = r.times in grind (arith, nat_tests))
