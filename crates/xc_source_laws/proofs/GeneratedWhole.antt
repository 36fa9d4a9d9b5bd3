-- The logs of a generated workload are whole: its last command is a finish, which is answered.
use Rattle.std.proofs.Common.{◌≡◌, ℕ, ◌+◌, List, [], ◌∷◌, ◌++◌, None, refl, ap, sym, ◌∙◌, subst, append_assoc, lit≤}
use Rattle.std.specs.Prelude.{Result, Ok, Err}
use Rattle.xc_source.specs.declared.command.SourceCommand.{SourceCommand}
use Rattle.xc_source.specs.declared.command.SourceCommand.TheVariants as command
use Rattle.xc_source.specs.declared.fail.SourceFail.{SourceFail}
use Rattle.xc_source.specs.Machine.{Machine, start}
use Rattle.xc_source.specs.Calls.{finish}
use Rattle.xc_source.specs.Commands.{step, run, refusal_of}
use Rattle.xc_source.specs.Workload.{four_roots, workload, generated, words, step_commands, commands_from}
use Rattle.xc_source.proofs.WorkloadLaws.{run_append}
use Rattle.xc_source_laws.specs.Finished.{AreWhole, GeneratedLogsAreWhole}
use Rattle.xc_source_laws.proofs.Answered.{AllAnswered}
use Rattle.xc_source_laws.proofs.WorkloadFits.{AllFit, workload-fits}
use Rattle.xc_source_laws.proofs.NoRefusals.{all-answered, roots-fit}
use Rattle.xc_source_laws.proofs.Finished.{finished-logs-are-whole}

-- a finish behind other commands
record Ends (cs : List SourceCommand) : Type 0 where
  front : List SourceCommand
  whole : cs ≡ front ++ command.Finish ∷ []

ends-so : (i : ℕ) (ws : List ℕ) (m : Machine) → Ends (commands_from i ws m)
ends-so i [] m = record { front = []; whole = refl }
ends-so i (w ∷ ws) m =
    let cs = step_commands i w m in
    let rest = ends-so (i + 1) ws (run cs m) in
    record {
      front = cs ++ rest.front;
      whole = ap (λ xs. cs ++ xs) rest.whole ∙ sym (append_assoc cs rest.front (command.Finish ∷ []));
    }

front-fits : (xs ys : List SourceCommand) → AllFit (xs ++ ys) → AllFit xs
front-fits [] ys h = tt
front-fits (x ∷ xs) ys h = (h.0, front-fits xs ys h.1)

back-answered : (xs ys : List SourceCommand) (m : Machine) → AllAnswered (xs ++ ys) m → AllAnswered ys (run xs m)
back-answered [] ys m h = h
back-answered (x ∷ xs) ys m h = back-answered xs ys (step x m).1 h.1

is-answered : (r : Result (Unit {0}) SourceFail) → refusal_of r ≡ None → r ≡ Ok tt
is-answered (Ok tt) e = refl
is-answered (Err f) e = cc

finish-ok : (m : Machine) → AllAnswered (command.Finish ∷ []) m → (finish m).0 ≡ Ok tt
unfolding step
finish-ok m h = is-answered (finish m).0 h.0

finish-run : (m : Machine) → run (command.Finish ∷ []) m ≡ (finish m).1
unfolding step
finish-run m = refl

whole-after : (cs : List SourceCommand) → Ends cs → AllFit cs → AllAnswered cs (start four_roots 0) → AreWhole (run cs (start four_roots 0))
whole-after cs e f a =
    let m = start four_roots 0 in
    let fits = front-fits e.front (command.Finish ∷ []) (subst AllFit e.whole f) in
    let ok = finish-ok (run e.front m) (back-answered e.front (command.Finish ∷ []) m (subst (λ xs. AllAnswered xs m) e.whole a)) in
    subst AreWhole (sym (ap (λ xs. run xs m) e.whole ∙ run_append e.front (command.Finish ∷ []) m ∙ finish-run (run e.front m)))
    (finished-logs-are-whole four_roots 0 e.front roots-fit (lit≤ tt) fits ok)

pub generated-logs-are-whole : GeneratedLogsAreWhole
unfolding workload generated
generated-logs-are-whole number size l =
    whole-after (commands_from 1 (words number size) (start four_roots 0)) (ends-so 1 (words number size) (start four_roots 0))
    (workload-fits number size) (all-answered number size l)
