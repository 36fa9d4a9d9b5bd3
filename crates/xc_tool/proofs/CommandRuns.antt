-- What was written of a session, command by command.
use Rattle.std.proofs.Common.{◌≡◌, ℕ, suc, ◌<◌, Bool, false, List, [], ◌∷◌, ◌++◌, length, drop, get_or, refl, sym, ap, ◌∙◌}
use Rattle.std.proofs.Common.{subst, append_assoc, add-one, drop-cons, ◌+◌, Option, None, Some}
use Rattle.std.specs.Prelude.{◌||◌, IfSome}
use Rattle.std.specs.List.{list_any}
use Rattle.std.specs.Io.KnownBytes.{Appends}
use Rattle.std.proofs.KnownBytes.{Appends-trans}
use Rattle.std.proofs.Math.Bool.{or_assoc}
use Rattle.std.proofs.lemmas.List.{length-map}
use Rattle.xc_base.specs.Told.{IsPrefix}
use Rattle.xc_base.specs.declared.status.Status.TheVariants as status
use Rattle.xc_model.proofs.SessionLaws.{steps-keep, sessions-start}
use Rattle.xc_record.specs.declared.record.Header.{Header}
use Rattle.xc_record.specs.declared.record.Logs.{Logs}
use Rattle.xc_record.specs.declared.session.Command.{Command}
use Rattle.xc_record.specs.declared.session.Line.{Line}
use Rattle.xc_record.specs.Agreement.{disagreement}
use Rattle.xc_record.specs.Session.{Session, IsSession, start}
use Rattle.xc_record.specs.Step.{step, lines_from}
use Rattle.xc_run.specs.Ran.{IsCutShort, Wrote}
use Rattle.xc_run.specs.Streams.{Stream, RoseIn, IsQuiet, Tells}
use Rattle.xc_script.specs.Lines.{line_text, lines_text, is_halt}
use Rattle.xc_target.specs.Stands.{StandsForSession}
use Rattle.xc_target.specs.Target.{TargetState, FitsFeed, new_target}
use Rattle.xc_model.specs.Stands.{new_tablet}
use Rattle.xc_record.specs.Bounds.{ranges_from}
use Rattle.xc_tool.specs.Answers.{IsAnswer}
use Rattle.xc_tool.specs.Outcome.{lines_output}

-- all lines of the commands
abbrev pub all_lines : Logs → List Command → List Line
all_lines logs commands = lines_from logs (start logs) commands

-- the target stands for a session, and what was written and what the session still says are the whole
pub record GoesOn (logs : Logs) (all : List Command) (went : List ℕ) (halted : Bool) (rest : List Command) (t : TargetState) : Type 0 where
  pub session : Session
  pub legal : IsSession logs session
  pub stands : StandsForSession logs session t
  pub text : went ++ lines_text (lines_from logs session rest) ≡ lines_text (all_lines logs all)
  pub halts : (halted || list_any is_halt (lines_from logs session rest)) ≡ list_any is_halt (all_lines logs all)

pub goes-first : (logs : Logs) (all : List Command) (t : TargetState) → StandsForSession logs (start logs) t
    → GoesOn logs all [] false all t
goes-first logs all t stands =
    record { session = start logs; legal = sessions-start logs stands.valid; stands = stands; text = refl; halts = refl }

lines-of-both : (xs ys : List Line) → lines_text (xs ++ ys) ≡ lines_text xs ++ lines_text ys
lines-of-both [] ys = refl
lines-of-both (x ∷ xs) ys =
    ap (λ t. line_text x ++ t) (lines-of-both xs ys) ∙ sym (append_assoc (line_text x) (lines_text xs) (lines_text ys))

any-of-both : (xs ys : List Line) → list_any is_halt (xs ++ ys) ≡ (list_any is_halt xs || list_any is_halt ys)
any-of-both [] ys = refl
any-of-both (x ∷ xs) ys =
    ap (λ b. is_halt x || b) (any-of-both xs ys) ∙ sym (or_assoc (is_halt x) (list_any is_halt xs) (list_any is_halt ys))

pub goes-next : (logs : Logs) (all rest : List Command) (c : Command) (went text : List ℕ) (halted met : Bool) (t new : TargetState)
    (before : GoesOn logs all went halted (c ∷ rest) t)
    → IsAnswer logs before.session c text met new → GoesOn logs all (went ++ text) (halted || met) rest new
goes-next logs all rest c went text halted met t new before answer =
    let m = before.session in
    let n = (step logs m c).0 in
    let front = (step logs m c).1 in
    let more = lines_from logs n rest in
    record {
      session = n;
      legal = steps-keep logs m c before.stands.valid before.legal;
      stands = answer.stands;
      text = append_assoc went text (lines_text more) ∙ ap (λ s. went ++ (s ++ lines_text more)) answer.text_is
          ∙ ap (λ s. went ++ s) (sym (lines-of-both front more)) ∙ before.text;
      halts = or_assoc halted met (list_any is_halt more) ∙ ap (λ b. halted || (b || list_any is_halt more)) answer.halted_is
          ∙ ap (λ b. halted || b) (sym (any-of-both front more)) ∙ before.halts;
    }

next-item : {X : Type 0} (xs : List X) (i : ℕ) (x : X) → i < length xs → x ≡ get_or xs i x → drop i xs ≡ x ∷ drop (i + 1) xs
next-item xs i x within is = rw add-one (drop-cons xs i x within ∙ ap (λ y. y ∷ drop (suc i) xs) (sym is))

-- the same for all logs that a feed may tell, where the answer to the command at `i` is of those that it tells now
pub on-next : {o now : Option Logs} {c : Command} {text said : List ℕ} (all : List Command) (i : ℕ) (went : List ℕ) (halted met : Bool)
    (base t new : TargetState) → now ≡ o → i < length all → c ≡ get_or all i c → text ≡ said
    → IfSome o (λ logs. StandsForSession logs (start logs) base → disagreement logs ≡ None → GoesOn logs all went halted (drop i all) t)
    → IfSome now (λ logs. (m : Session) → IsSession logs m → StandsForSession logs m t → disagreement logs ≡ None
    → IsAnswer logs m c said met new)
    → IfSome o (λ logs. StandsForSession logs (start logs) base → disagreement logs ≡ None
    → GoesOn logs all (went ++ text) (halted || met) (drop (i + 1) all) new)
on-next {o = None} all i went halted met base t new e within is written goes answers = tt
on-next {o = Some logs} {c = c} {said = said} all i went halted met base t new e within is written goes answers = λ st agree.
    let rest = drop (i + 1) all in
    let before : GoesOn logs all went halted (c ∷ rest) t =
    subst (λ r. GoesOn logs all went halted r t) (next-item all i c within is) (goes st agree) in
    let here = subst
    (λ o. IfSome o
    (λ logs. (m : Session) → IsSession logs m → StandsForSession logs m t → disagreement logs ≡ None → IsAnswer logs m c said met
    new)) e answers in
    subst (λ x. GoesOn logs all (went ++ x) (halted || met) rest new) (sym written)
    (goes-next logs all rest c went said halted met t new before (here before.session before.legal before.stands agree))

-- what holds of all logs holds of those that a feed tells
pub if-some : {A : Type 0} {P : A → Type 0} (o : Option A) → ((x : A) → P x) → IfSome o P
if-some None f = tt
if-some (Some x) f = f x

-- a target that fits feeds with the same headers has as many pollers
pub same-sources : (headers headers' : List Header) (counts counts' : List ℕ) (old new : TargetState) → FitsFeed headers counts old
    → FitsFeed headers' counts' new → headers' ≡ headers → length new.pollers ≡ length old.pollers
same-sources headers headers' counts counts' old new f g e =
    sym (length-map new.pollers (λ p. p.header)) ∙ ap length (g.headers_are ∙ e ∙ sym f.headers_are)
    ∙ length-map old.pollers (λ p. p.header)

-- as many ranges as bounds
ranges-long : (lo : ℕ) (bs : List ℕ) → length (ranges_from lo bs) ≡ suc (length bs)
ranges-long lo [] = refl
ranges-long lo (b ∷ bs) = ap suc (ranges-long b bs)

pub targets-long : (headers : List Header) (bounds : List ℕ) → length (new_target headers bounds).tablets ≡ length bounds
targets-long headers [] = refl
targets-long headers (b ∷ bs) = length-map (ranges_from b bs) (λ r. new_tablet r.0 r.1 headers) ∙ ranges-long b bs

-- ---- ends

-- a front of these lines is, after what went out, a front of all
front-next : (went lines front more all : List ℕ) → (went ++ lines) ++ more ≡ all → IsPrefix front lines → IsPrefix (went ++ front) all
front-next went lines front more all said (rest, split) = (
  rest ++ more,
  sym said ∙ append_assoc went lines more ∙ ap (λ l. went ++ (l ++ more)) split
      ∙ ap (λ l. went ++ l) (append_assoc front rest more) ∙ sym (append_assoc went front (rest ++ more)),
)

-- the lines of a command were cut short
cut-next : (before mid after : Option (List ℕ)) (went lines more all : List ℕ) → (went ++ lines) ++ more ≡ all → Appends before mid went
    → (front : List ℕ) × IsPrefix front lines × Appends mid after front → IsCutShort before after all
cut-next before mid after went lines more all said first (front, prefix, second) =
    (went ++ front, front-next went lines front more all said prefix, Appends-trans _ _ _ _ _ first second)

module _ (cause : Type 0) (out : Stream) (logs : Logs) (all rest : List Command) (went : List ℕ) (halted : Bool) (t : TargetState) where
  pub stopped-memory : (mid : Option (List ℕ)) (text : List ℕ) → GoesOn logs all (went ++ text) halted rest t → Appends out.before mid went
      → (front : List ℕ) × IsPrefix front text × Appends mid out.after front
      → IsQuiet out → Tells out → Wrote (lines_output (all_lines logs all)) cause status.NoMemory out
  stopped-memory mid text goes first cut quiet tells =
      record {
        shown = cut-next _ mid _ went text _ _ goes.text first cut;
        read_fault = λ e. cc;
        write_fault = λ e. cc;
        quiet = λ _. quiet;
        tells = tells;
      }

  pub stopped-writing : (mid : Option (List ℕ)) (text : List ℕ) → GoesOn logs all (went ++ text) halted rest t
      → Appends out.before mid went → (front : List ℕ) × IsPrefix front text × Appends mid out.after front
      → RoseIn out → Tells out → Wrote (lines_output (all_lines logs all)) cause status.WriteFault out
  stopped-writing mid text goes first cut rose tells =
      record {
        shown = cut-next _ mid _ went text _ _ goes.text first cut;
        read_fault = λ e. cc;
        write_fault = λ _. rose;
        quiet = λ never.
            absurd (never refl);
        tells = tells;
      }
