-- What commands do at a source, one after the other.
use Rattle.std.proofs.Common.{◌≡◌, ℕ, suc, ◌+◌, ◌<◌, true, List, ◌∷◌, length, drop, drop-cons, get_or, Some}
use Rattle.std.proofs.Common.{None}
use Rattle.std.proofs.Common.{Result, Ok, Err, refl, sym, ap, ◌∙◌, inl, inr, arith}
use Rattle.std.specs.List.{list_all}
use Rattle.std.specs.Result.{result_err}
use Rattle.std.proofs.lemmas.List.Sums.{AllPass-from_list_all}
use Rattle.xc_source.specs.Calls.{Answers, Case}
use Rattle.xc_source.specs.Commands.{made_after, made_from, only_refusal, refusal_of, step}
use Rattle.xc_source.specs.Machine.{Machine}
use Rattle.xc_source.specs.declared.command.SourceCommand.{SourceCommand}
use Rattle.xc_source.specs.declared.fail.SourceFail.{SourceFail}
use Rattle.xc_source.specs.declared.fail.SourceFail.TheVariants.{NoMemory}
use Rattle.xc_source_script.specs.Allowed.{is_allowed}
use Rattle.xc_source_script.specs.Made.{Did}

err_is : (r : Result (Unit {0}) SourceFail) (e : SourceFail) → result_err r ≡ Some e → r ≡ Err e
err_is (Ok done) e h = cc
err_is (Err f) e h = let same : f ≡ e = cc in ap Err same

same_refusal : {X : Type 0} (r : Result X SourceFail) → result_err r ≡ refusal_of r
same_refusal (Ok x) = refl
same_refusal (Err e) = refl

-- a call did what its case says, so the command did
pub did : {X : Type 0} (answer : Result X SourceFail) (result : Result (Unit {0}) SourceFail) (before after : Machine) (case : Case X)
    → result_err result ≡ result_err answer → Answers answer before after case → Did result after (only_refusal case)
did answer result before after case e h = elim h [
  | inl out ↦ inl (err_is result NoMemory (e ∙ ap result_err out.answer))
  | inr is ↦ inr (record { refusal = e ∙ ap result_err is.answer ∙ same_refusal case.0; machine = is.machine })
]

pub allowed_at : (cs : List SourceCommand) (i : ℕ) (d : SourceCommand) → list_all is_allowed cs ≡ true → i < length cs
    → is_allowed (get_or cs i d) ≡ true
allowed_at cs i d h l = AllPass-from_list_all is_allowed cs h i d l

next_command : (cs : List SourceCommand) (i : ℕ) (d : SourceCommand) → i < length cs → drop i cs ≡ get_or cs i d ∷ drop (i + 1) cs
next_command cs i d h =
    let same : suc i ≡ i + 1 = omega arith in drop-cons cs i d h ∙ ap (λ j. get_or cs i d ∷ drop j cs) same

next_made : (number : ℕ) (cs : List SourceCommand) (i : ℕ) (d : SourceCommand) (m : Machine) → i < length cs
    → made_from number (drop i cs) m
    ≡ made_after number (step (get_or cs i d) m).0 (made_from (number + 1) (drop (i + 1) cs) (step (get_or cs i d) m).1)
next_made number cs i d m h = ap (λ more. made_from number more m) (next_command cs i d h)

-- a command was done
pub made_on : (number : ℕ) (cs : List SourceCommand) (i : ℕ) (d : SourceCommand) (m after : Machine)
    (result : Result (Unit {0}) SourceFail) (whole : Result Machine (ℕ × SourceFail)) → i < length cs
    → result_err result ≡ None → Did result after (step (get_or cs i d) m) → made_from number (drop i cs) m ≡ whole
    → made_from (number + 1) (drop (i + 1) cs) after ≡ whole
made_on number cs i d m after result whole h ok did on = elim did [
  | inl out ↦ let never : None ≡ Some NoMemory = sym ok ∙ ap result_err out in cc
  | inr is ↦
      ap (made_from (number + 1) (drop (i + 1) cs)) is.machine
      ∙ ap (λ r. made_after number r (made_from (number + 1) (drop (i + 1) cs) (step (get_or cs i d) m).1)) (sym ok ∙ is.refusal)
      ∙ sym (next_made number cs i d m h) ∙ on
]

-- a command was refused
pub made_refused : (number : ℕ) (cs : List SourceCommand) (i : ℕ) (d : SourceCommand) (m after : Machine)
    (result : Result (Unit {0}) SourceFail) (fail : SourceFail) (whole : Result Machine (ℕ × SourceFail)) → i < length cs
    → result ≡ Err fail → (fail ≡ NoMemory → ⊥) → Did result after (step (get_or cs i d) m) → made_from number (drop i cs) m ≡ whole
    → whole ≡ Err (number, fail)
made_refused number cs i d m after result fail whole h err other did on = elim did [
  | inl out ↦ let same : Some fail ≡ Some NoMemory = sym (ap result_err err) ∙ ap result_err out in absurd (other cc)
  | inr is ↦
      sym on ∙ next_made number cs i d m h
      ∙ ap (λ r. made_after number r (made_from (number + 1) (drop (i + 1) cs) (step (get_or cs i d) m).1))
      (sym is.refusal ∙ ap result_err err)
]
