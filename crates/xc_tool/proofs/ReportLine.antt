-- The numbers of a report.
use Rattle.std.proofs.Common.{◌≡◌, ℕ, zero, suc, ◌+◌, ◌<◌, List, [], ◌∷◌, ◌++◌, map, take, length, Bool, refl, sym, ap, ◌∙◌}
use Rattle.std.proofs.Common.{subst, add-one, arith}
use Rattle.std.specs.Prelude.{slice_get, is_some}
use Rattle.std.specs.Option.{option_map_or}
use Rattle.std.proofs.Math.Seq.{take-length}
use Rattle.std.proofs.lemmas.List.{map-append, length-map}
use Rattle.xc_record.specs.declared.record.Logs.{Logs}
use Rattle.xc_record.specs.declared.session.Command.TheVariants as command
use Rattle.xc_record.specs.declared.session.Line.TheVariants as line
use Rattle.xc_record.specs.Session.{Session, Position, position, new_position, safe_now}
use Rattle.xc_record.specs.Step.{open_step}
use Rattle.xc_poller.specs.Poller.{position_of}
use Rattle.xc_target.specs.Stands.{StandsForSession}
use Rattle.xc_target.specs.Target.{TargetState}
use Rattle.xc_tool.specs.Answers.{IsLine}
use Rattle.xc_tool.proofs.StepLines.{look-line}

-- the numbers of these positions
pub record AreTold (ps : List Position) (acks cursors places : List ℕ) : Type 0 where
  pub acks_are : acks ≡ map (λ p. p.acknowledged) ps
  pub cursors_are : cursors ≡ map (λ p. p.cursor) ps
  pub places_are : places ≡ map (λ p. p.place) ps

one-more : (ps : List Position) (i : ℕ) → i < length ps
    → take (suc i) ps ≡ take i ps ++ option_map_or (λ p. p) (slice_get ps i) new_position ∷ []
one-more [] i h = absurd (omega arith)
one-more (p ∷ ps) zero h = refl
one-more (p ∷ ps) (suc i) h = ap (λ qs. p ∷ qs) (one-more ps i (omega arith))

-- of each source tablet there is a position
pub positions-long : (logs : Logs) (m : Session) (t : TargetState) (sources : ℕ) → StandsForSession logs m t → sources ≡ length t.pollers
    → sources ≡ length m.positions
positions-long logs m t sources st e = e ∙ sym (length-map t.pollers position_of) ∙ ap length st.positions

-- one push of each
pub record ArePushed (p : Position) (acks cursors places acks' cursors' places' : List ℕ) : Type 0 where
  pub acks_are : acks' ≡ acks ++ p.acknowledged ∷ []
  pub cursors_are : cursors' ≡ cursors ++ p.cursor ∷ []
  pub places_are : places' ≡ places ++ p.place ∷ []

pub told-more : (logs : Logs) (m : Session) (t : TargetState) (sources i : ℕ) (p : Position)
    (acks cursors places acks' cursors' places' : List ℕ) → StandsForSession logs m t → sources ≡ length t.pollers → i < sources
    → p ≡ position m i
    → ArePushed p acks cursors places acks' cursors' places' → AreTold (take i m.positions) acks cursors places
    → AreTold (take (i + 1) m.positions) acks' cursors' places'
told-more logs m t sources i p acks cursors places acks' cursors' places' st e within is pushed told =
    let long : i < length m.positions = subst (λ n. i < n) (positions-long logs m t sources st e) within in
    let more : take (i + 1) m.positions ≡ take i m.positions ++ p ∷ [] =
    rw add-one (one-more m.positions i long ∙ ap (λ q. take i m.positions ++ q ∷ []) (sym is)) in
    record {
      acks_are = pushed.acks_are ∙ ap (λ ns. ns ++ p.acknowledged ∷ []) told.acks_are
          ∙ sym (ap (map (λ p. p.acknowledged)) more ∙ map-append (λ p. p.acknowledged) (take i m.positions) (p ∷ []));
      cursors_are = pushed.cursors_are ∙ ap (λ ns. ns ++ p.cursor ∷ []) told.cursors_are
          ∙ sym (ap (map (λ p. p.cursor)) more ∙ map-append (λ p. p.cursor) (take i m.positions) (p ∷ []));
      places_are = pushed.places_are ∙ ap (λ ns. ns ++ p.place ∷ []) told.places_are
          ∙ sym (ap (map (λ p. p.place)) more ∙ map-append (λ p. p.place) (take i m.positions) (p ∷ []));
    }

pub told-all : (logs : Logs) (m : Session) (t : TargetState) (sources i : ℕ) (acks cursors places : List ℕ) → StandsForSession logs m t
    → sources ≡ length t.pollers → i ≡ sources → AreTold (take i m.positions) acks cursors places
    → AreTold m.positions acks cursors places
told-all logs m t sources i acks cursors places st e at told =
    subst (λ ps. AreTold ps acks cursors places) (ap (λ n. take n m.positions) (at ∙ positions-long logs m t sources st e)
    ∙ take-length m.positions) told

pub report-is : (logs : Logs) (m : Session) (t : TargetState) (acks cursors places acks' cursors' places' : List ℕ) (closed : Bool)
    (cutoff safe : ℕ) → AreTold m.positions acks cursors places → acks' ≡ acks → cursors' ≡ cursors → places' ≡ places
    → closed ≡ is_some m.closed → cutoff ≡ m.cutoff → safe ≡ safe_now logs m → StandsForSession logs m t
    → IsLine logs m command.Report (line.Report acks' closed cursors' cutoff places' safe) t
unfolding open_step
report-is logs m t acks cursors places acks' cursors' places' closed cutoff safe told ea ec ep is cut at =
    look-line logs m command.Report (line.Report acks' closed cursors' cutoff places' safe) t refl opens
  where
    opens : open_step logs m command.Report ≡ (m, line.Report acks' closed cursors' cutoff places' safe ∷ [])
    opens = rw (ea ∙ told.acks_are, ec ∙ told.cursors_are, ep ∙ told.places_are, is, cut, at) refl
