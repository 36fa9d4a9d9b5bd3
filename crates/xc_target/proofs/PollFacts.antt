-- What a poll leaves of a poller and of the tablets, by what it answers.
use Rattle.std.proofs.Common.{◌≡◌, ℕ, zero, suc, ◌+◌, ◌≤◌, Bool, true, false, List, [], ◌∷◌, map, length, max, Option, Some, None, Result}
use Rattle.std.proofs.Common.{Ok, Err, refl, ap, sym, ◌∙◌, subst, arith, ⊎_elim, ◌⊎◌}
use Rattle.std.specs.Prelude.{IfOk, option_and_then, slice_get, slice_index, slice_set, if◌then◌else◌}
use Rattle.std.specs.List.{AllZip}
use Rattle.std.specs.Option.{option_map, option_map_or}
use Rattle.std.proofs.lemmas.Bool.{cases_eq, true≢false}
use Rattle.std.proofs.lemmas.Option.{same_Some, slice_get-map}
use Rattle.xc_record.specs.declared.record.Header.{Header}
use Rattle.xc_record.specs.declared.record.Logs.{Logs}
use Rattle.xc_record.specs.declared.record.Record.{Record}
use Rattle.xc_record.specs.declared.session.PollAnswer.{PollAnswer}
use Rattle.xc_record.specs.declared.session.PollAnswer.TheVariants as poll
use Rattle.xc_record.specs.Accepted.{AcceptedTablet, accepted_tablet, records}
use Rattle.xc_record.specs.SafeTime.{is_closed as is_closed_logs, is_started}
use Rattle.xc_record.specs.Session.{Position, Session, position, places_of}
use Rattle.xc_record.specs.Step.{awaits, answer_from, poll_answer, with_position, moved, set_back}
use Rattle.xc_model.specs.Rows.{range_of}
use Rattle.xc_model.specs.Stands.{TargetTablet, StandsFor as TabletStandsFor}
use Rattle.xc_model.proofs.SessionLaws.{parent-same}
use Rattle.xc_change.specs.declared.batch.NextFail.{NextFail}
use Rattle.xc_change.specs.declared.batch.NextFail.TheVariants as fail
use Rattle.xc_poller.specs.Poller.{PollerState, position_of, done, restarted, StandsFor as PollerStandsFor}
use Rattle.xc_poller.specs.Polled.{Looked, Took, TookAll, TookFirst, KeepStanding, IsPolled, IsStopped}
use Rattle.xc_tablet.proofs.Zips.{zip-refl, zip-to, zip-first}
use Rattle.xc_target.specs.Target.{TargetState}
use Rattle.xc_target.specs.Stands.{IsAhead, AreKept, Polls, StandsForSession}
use Rattle.xc_target.specs.Answers.{Made}
use Rattle.xc_target.proofs.SessionLaws.{position-is}
use Rattle.xc_target.proofs.MoveLaws.{poller-moved}
use Rattle.xc_target.proofs.PollLaws.{Grows}

-- ---- the tablets

-- a tablet keeps its range, and no place of it falls
pub record Moves (x y : TargetTablet) : Type 0 where
  pub range : range_of y ≡ range_of x
  pub grows : Grows x y

took-moves : (id from : ℕ) (rs : List Record) (x y : TargetTablet) → Took id from rs x y → Moves x y
took-moves id from rs x y t = record {
  range = t.moved.range;
  grows = λ s. ⊎_elim
      (λ same. let e = t.moved.place in subst (λ (i : ℕ). slice_index x.places i ≤ slice_index y.places i) (sym same) (omega arith))
      (λ n. let e = t.moved.places s n in omega arith) (cases_eq s id);
}

same-moves : (x y : TargetTablet) → y ≡ x → Moves x y
same-moves x y e = subst (Moves x) (sym e) (record { range = refl; grows = λ s. omega arith })

zip-map : {A : Type 0} (R S : A → A → Type 0) → ((x y : A) → R x y → S x y) → (xs ys : List A) → AllZip R xs ys → AllZip S xs ys
zip-map R S f [] [] z = tt
zip-map R S f [] (y ∷ ys) z = absurd z
zip-map R S f (x ∷ xs) [] z = absurd z
zip-map R S f (x ∷ xs) (y ∷ ys) z = (f x y z.0, zip-map R S f xs ys z.1)

none-moved : (xs ys : List TargetTablet) → ys ≡ xs → AllZip Moves xs ys
none-moved xs ys e = subst (AllZip Moves xs) (sym e) (zip-refl Moves xs (λ x. same-moves x x refl))

all-moved : (id from : ℕ) (rs : List Record) (xs ys : List TargetTablet) → TookAll id from rs xs ys → AllZip Moves xs ys
all-moved id from rs xs ys t = zip-map (Took id from rs) Moves (took-moves id from rs) xs ys t

first-moved : (id from : ℕ) (rs : List Record) (k : ℕ) (xs ys : List TargetTablet) → TookFirst id from rs k xs ys
    → AllZip Moves xs ys
first-moved id from rs k xs ys t =
    zip-map (λ x y. Took id from rs x y ⊎ (y ≡ x)) Moves
    (λ x y. λ o. ⊎_elim (took-moves id from rs x y) (same-moves x y) o) xs ys
    (zip-first (Took id from rs) k xs ys t.first t.rest)

-- ---- what each call keeps

pub record Kept (p q : PollerState) (xs ys : List TargetTablet) : Type 0 where
  pub header : q.header ≡ p.header
  pub is_open : q.is_open ≡ p.is_open
  pub reader : q.reader.id ≡ p.reader.id
  pub checked : p.reader.checked ≤ q.reader.checked
  pub moves : AllZip Moves xs ys

-- so does a poller of another place
kept-placed : (p looked q : PollerState) (xs ys : List TargetTablet) → q.header ≡ looked.header → q.is_open ≡ looked.is_open
    → q.reader.id ≡ looked.reader.id → q.reader.checked ≡ looked.reader.checked → Kept p looked xs ys → Kept p q xs ys
kept-placed p looked q xs ys header is_open reader checked before = record {
  header = header ∙ before.header;
  is_open = is_open ∙ before.is_open;
  reader = reader ∙ before.reader;
  checked = let up = before.checked in omega arith;
  moves = before.moves;
}

pub grows-of : (p q : PollerState) (xs ys : List TargetTablet) → Kept p q xs ys → AllZip Grows xs ys
grows-of p q xs ys k = zip-map Moves Grows (λ x y m. m.grows) xs ys k.moves

ranges-from : (xs ys : List TargetTablet) → AllZip Moves xs ys → map range_of ys ≡ map range_of xs
ranges-from [] [] z = refl
ranges-from [] (y ∷ ys) z = absurd z
ranges-from (x ∷ xs) [] z = absurd z
ranges-from (x ∷ xs) (y ∷ ys) z =
    let head : range_of y ≡ range_of x = z.0.range in
    let tail : map range_of ys ≡ map range_of xs = ranges-from xs ys z.1 in
    cc

pub ranges-of : (p q : PollerState) (xs ys : List TargetTablet) → Kept p q xs ys → map range_of ys ≡ map range_of xs
ranges-of p q xs ys k = ranges-from xs ys k.moves

-- the place stays
pub record Rested (p q : PollerState) (xs ys : List TargetTablet) : Type 0 where
  pub kept : Kept p q xs ys
  pub place : q.applied ≡ p.applied
  pub waits : p.is_open ≡ false → (q ≡ p) × (ys ≡ xs)

-- so does each other number of the session
pub record Idle (p q : PollerState) (xs ys : List TargetTablet) : Type 0 where
  pub rested : Rested p q xs ys
  pub position : position_of q ≡ position_of p

idle-same : (p q : PollerState) (xs ys : List TargetTablet) → q ≡ p → ys ≡ xs → Idle p q xs ys
idle-same p q xs ys e f = record {
  rested = record {
    kept = record {
      header = ap (λ (p : PollerState). p.header) e;
      is_open = ap (λ (p : PollerState). p.is_open) e;
      reader = ap (λ (p : PollerState). p.reader.id) e;
      checked = let c : q.reader.checked ≡ p.reader.checked = ap (λ (p : PollerState). p.reader.checked) e in omega arith;
      moves = none-moved xs ys f;
    };
    place = ap (λ (p : PollerState). p.applied) e;
    waits = λ _. (e, f);
  };
  position = ap position_of e;
}

kept-looked : (p q : PollerState) (xs ys : List TargetTablet) → Looked p q → AllZip Moves xs ys → Kept p q xs ys
kept-looked p q xs ys l g = record {
  header = ap (λ (p : PollerState). p.header) l.is;
  is_open = ap (λ (p : PollerState). p.is_open) l.is;
  reader = l.reader.id;
  checked = l.reader.checked;
  moves = g;
}

idle-looked : (p q : PollerState) (xs ys : List TargetTablet) → p.is_open ≡ true → Looked p q → AllZip Moves xs ys → Idle p q xs ys
idle-looked p q xs ys o l g =
    let a : q.applied ≡ p.applied = ap (λ (p : PollerState). p.applied) l.is in
    let b : q.acknowledged ≡ p.acknowledged = ap (λ (p : PollerState). p.acknowledged) l.is in
    let c : q.reader.cursor ≡ p.reader.cursor = l.reader.cursor in
    record {
      rested = record { kept = kept-looked p q xs ys l g; place = a; waits = λ w. absurd (true≢false (sym o ∙ w)) };
      position = cc;
    }

-- ---- where nothing is delivered

abbrev pub IsIdle : Result PollAnswer NextFail → Type 0
IsIdle (Ok (poll.Polled k)) = ⊥
IsIdle (Ok (poll.Waits parent)) = Unit {0}
IsIdle (Ok poll.AtEnd) = Unit {0}
IsIdle (Ok (poll.Halted number kind)) = Unit {0}
IsIdle (Err e) = Unit {0}

pub idle : (hs : List Header) (cs : List ℕ) (n : ℕ) (p q : PollerState) (xs ys : List TargetTablet) (r : Result PollAnswer NextFail)
    → IsIdle r → IsPolled hs cs n p q xs ys r → Idle p q xs ys
idle hs cs n p q xs ys (Ok (poll.Polled k)) i h = absurd i
idle hs cs n p q xs ys (Ok (poll.Waits parent)) i h = idle-same p q xs ys h.step.1.1 h.tablets
idle hs cs n p q xs ys (Ok poll.AtEnd) i h = idle-looked p q xs ys h.step.0 h.looked (none-moved xs ys h.tablets)
idle hs cs n p q xs ys (Ok (poll.Halted number kind)) i h = idle-looked p q xs ys h.step.0 h.looked (none-moved xs ys h.tablets)
idle hs cs n p q xs ys (Err fail.ReadFault) i h = idle-same p q xs ys h.0 h.1
idle hs cs n p q xs ys (Err fail.NoMemory) i h = ⊎_elim (λ e. idle-same p q xs ys e.0 e.1)
    (λ w. idle-looked p q xs ys w.1.1.moved.started w.1.1.moved.reader
    (first-moved p.header.id w.0.from w.0.records w.1.0 xs ys w.1.1.tablets)) h

-- ---- a batch was delivered

pub record Delivered (p q : PollerState) (k : ℕ) (xs ys : List TargetTablet) : Type 0 where
  pub kept : Kept p q xs ys
  pub was_open : p.is_open ≡ true
  pub position : position_of q ≡ moved k (position_of p)
  pub rises : p.applied ≤ q.applied
  pub checked : p.applied ≤ p.reader.checked → q.applied ≤ q.reader.checked

pub delivered : (hs : List Header) (cs : List ℕ) (n k : ℕ) (p q : PollerState) (xs ys : List TargetTablet)
    → IsPolled hs cs n p q xs ys (Ok (poll.Polled k)) → Delivered p q k xs ys
delivered hs cs n k p q xs ys h =
    let looked : PollerState = h.0 in
    let batch = h.1.0 in
    let mv = h.1.1.0 in
    let count : k ≡ length batch.records = h.1.1.1.0 in
    let new : q ≡ done batch.records looked = h.1.1.1.1.0 in
    let before = kept-looked p looked xs ys mv.reader (all-moved p.header.id batch.from batch.records xs ys h.1.1.1.1.1) in
    let applied : looked.applied ≡ p.applied = ap (λ (p : PollerState). p.applied) mv.reader.is in
    let ack : looked.acknowledged ≡ p.acknowledged = ap (λ (p : PollerState). p.acknowledged) mv.reader.is in
    let cursor : looked.reader.cursor ≡ p.reader.cursor = mv.reader.reader.cursor in
    let up : p.reader.checked ≤ looked.reader.checked = mv.reader.reader.checked in
    let far : p.reader.cursor + length batch.records ≤ looked.reader.checked = mv.given.checked in
    let to : q.applied ≡ max looked.applied (looked.reader.cursor + length batch.records) = ap (λ (p : PollerState). p.applied) new in
    let checked : q.reader.checked ≡ looked.reader.checked = ap (λ (p : PollerState). p.reader.checked) new in
    let behind : q.reader.cursor ≡ looked.reader.cursor + length batch.records = ap (λ (p : PollerState). p.reader.cursor) new in
    let a : q.applied ≡ max p.applied (p.reader.cursor + k) = omega arith in
    let b : q.acknowledged ≡ p.acknowledged = ap (λ (p : PollerState). p.acknowledged) new ∙ ack in
    let c : q.reader.cursor ≡ p.reader.cursor + k = omega arith in
    record {
      kept = kept-placed p looked q xs ys (ap (λ (p : PollerState). p.header) new) (ap (λ (p : PollerState). p.is_open) new)
          (ap (λ (p : PollerState). p.reader.id) new) checked before;
      was_open = mv.started;
      position = cc;
      rises = omega arith;
      checked = λ low. omega arith;
    }

-- ---- a poll was cut off

pub record CutOff (p q : PollerState) (xs ys : List TargetTablet) : Type 0 where
  pub rested : Rested p q xs ys
  pub was_open : p.is_open ≡ true
  pub position : position_of q ≡ set_back (position_of p)

pub cut-off : (hs : List Header) (cs : List ℕ) (n last k : ℕ) (p q : PollerState) (xs ys : List TargetTablet)
    → IsStopped hs cs n last p q xs ys (Ok (poll.Polled k)) → CutOff p q xs ys
cut-off hs cs n last k p q xs ys h =
    let looked : PollerState = h.0 in
    let batch = h.1.0 in
    let mv = h.1.1.0 in
    let new : q ≡ restarted looked = h.1.1.1.1.0 in
    let before = kept-looked p looked xs ys mv.reader
    (first-moved p.header.id batch.from batch.records (last + 1) xs ys h.1.1.1.1.1) in
    let checked : q.reader.checked ≡ looked.reader.checked = ap (λ (p : PollerState). p.reader.checked) new in
    let a : q.applied ≡ p.applied = ap (λ (p : PollerState). p.applied) new ∙ ap (λ (p : PollerState). p.applied) mv.reader.is in
    let ack : looked.acknowledged ≡ p.acknowledged = ap (λ (p : PollerState). p.acknowledged) mv.reader.is in
    let b : q.acknowledged ≡ p.acknowledged = ap (λ (p : PollerState). p.acknowledged) new ∙ ack in
    let c : q.reader.cursor ≡ p.acknowledged = ap (λ (p : PollerState). p.reader.cursor) new ∙ ack in
    record {
      rested = record {
        kept = kept-placed p looked q xs ys (ap (λ (p : PollerState). p.header) new) (ap (λ (p : PollerState). p.is_open) new)
            (ap (λ (p : PollerState). p.reader.id) new) checked before;
        place = a;
        waits = λ w. absurd (true≢false (sym mv.started ∙ w));
      };
      was_open = mv.started;
      position = cc;
    }

-- ---- what either poll keeps, and what its answer says of the poller

abbrev pub Says : PollerState → PollAnswer → Type 0
Says p (poll.Polled k) = p.is_open ≡ true
Says p (poll.Waits parent) = (p.is_open ≡ false) × (p.header.parent ≡ Some parent)
Says p poll.AtEnd = p.is_open ≡ true
Says p (poll.Halted number kind) = p.is_open ≡ true

-- what is known of a call of either poll
pub record Ended (p q : PollerState) (xs ys : List TargetTablet) (r : Result PollAnswer NextFail) : Type 0 where
  pub kept : Kept p q xs ys
  pub says : IfOk r (Says p)
  pub idle : IsIdle r → Idle p q xs ys

pub polled-ended : (hs : List Header) (cs : List ℕ) (n : ℕ) (p q : PollerState) (xs ys : List TargetTablet)
    (r : Result PollAnswer NextFail) → IsPolled hs cs n p q xs ys r → Ended p q xs ys r
polled-ended hs cs n p q xs ys r h = record {
  kept = kept r h;
  says = says r h;
  idle = λ i. idle hs cs n p q xs ys r i h;
}
  where
    kept : (r : Result PollAnswer NextFail) → IsPolled hs cs n p q xs ys r → Kept p q xs ys
    kept (Ok (poll.Polled k)) h = (delivered hs cs n k p q xs ys h).kept
    kept (Ok (poll.Waits parent)) h = (idle hs cs n p q xs ys (Ok (poll.Waits parent)) tt h).rested.kept
    kept (Ok poll.AtEnd) h = (idle hs cs n p q xs ys (Ok poll.AtEnd) tt h).rested.kept
    kept (Ok (poll.Halted number kind)) h = (idle hs cs n p q xs ys (Ok (poll.Halted number kind)) tt h).rested.kept
    kept (Err e) h = (idle hs cs n p q xs ys (Err e) tt h).rested.kept

    says : (r : Result PollAnswer NextFail) → IsPolled hs cs n p q xs ys r → IfOk r (Says p)
    says (Ok (poll.Polled k)) h = h.1.1.0.started
    says (Ok (poll.Waits parent)) h = (h.step.0, h.step.1.0)
    says (Ok poll.AtEnd) h = h.step.0
    says (Ok (poll.Halted number kind)) h = h.step.0
    says (Err e) h = tt

pub stopped-ended : (hs : List Header) (cs : List ℕ) (n last : ℕ) (p q : PollerState) (xs ys : List TargetTablet)
    (r : Result PollAnswer NextFail) → IsStopped hs cs n last p q xs ys r → Ended p q xs ys r
stopped-ended hs cs n last p q xs ys (Ok (poll.Polled k)) h =
    let c = cut-off hs cs n last k p q xs ys h in record { kept = c.rested.kept; says = c.was_open; idle = λ i. absurd i }
stopped-ended hs cs n last p q xs ys (Ok (poll.Waits parent)) h = polled-ended hs cs n p q xs ys (Ok (poll.Waits parent)) h
stopped-ended hs cs n last p q xs ys (Ok poll.AtEnd) h = polled-ended hs cs n p q xs ys (Ok poll.AtEnd) h
stopped-ended hs cs n last p q xs ys (Ok (poll.Halted number kind)) h =
    polled-ended hs cs n p q xs ys (Ok (poll.Halted number kind)) h
stopped-ended hs cs n last p q xs ys (Err fail.ReadFault) h = polled-ended hs cs n p q xs ys (Err fail.ReadFault) h
stopped-ended hs cs n last p q xs ys (Err fail.NoMemory) h = polled-ended hs cs n p q xs ys (Err fail.NoMemory) h

-- ---- what it answers

module _ (logs : Logs) (m : Session) (t : TargetState) (id : ℕ) (p : PollerState) (b : AcceptedTablet) (st : StandsForSession logs m t)
    (at : slice_get t.pollers id ≡ Some p) (there : accepted_tablet logs id ≡ Some b) where
  old : Polls logs m b p
  old = st.pollers id b p there at

  pub waits-answer : (n parent : ℕ) → p.is_open ≡ false → p.header.parent ≡ Some parent → poll_answer logs m id n ≡ poll.Waits parent
  unfolding poll_answer
  waits-answer n parent w e =
      let par : b.header.parent ≡ Some parent = ap (λ (h : Header). h.parent) (sym old.header) ∙ e in
      let shut : is_closed_logs logs (places_of m) parent ≡ false = ap (is_started logs (places_of m)) (sym par) ∙ sym old.opened ∙ w in
      let waits : awaits logs m id ≡ Some parent =
      ap (λ o. option_and_then (λ parent. if is_closed_logs logs (places_of m) parent then None else Some parent) o)
      (parent-same logs id b there ∙ par) ∙ ap (λ c. if c then None else Some parent) shut in
      ap (λ o. option_map_or (λ parent. poll.Waits parent) o
      (option_map_or (λ b. answer_from b (records logs id) (position m id).cursor n) (accepted_tablet logs id) poll.AtEnd)) waits

  pub open-answer : (n : ℕ) → p.is_open ≡ true → poll_answer logs m id n ≡ answer_from b (records logs id) p.reader.cursor n
  unfolding poll_answer
  open-answer n o =
      let free : awaits logs m id ≡ None =
      ap (λ o. option_and_then (λ parent. if is_closed_logs logs (places_of m) parent then None else Some parent) o)
      (parent-same logs id b there) ∙ go b.header.parent (sym old.opened ∙ o) in
      ap (λ o. option_map_or (λ parent. poll.Waits parent) o
      (option_map_or (λ b. answer_from b (records logs id) (position m id).cursor n) (accepted_tablet logs id) poll.AtEnd)) free
      ∙ ap (λ o. option_map_or (λ b. answer_from b (records logs id) (position m id).cursor n) o poll.AtEnd) there
      ∙ ap (λ (w : Position). answer_from b (records logs id) w.cursor n) (position-is t.pollers m id p st.positions at)
    where
      go : (q : Option ℕ) → is_started logs (places_of m) q ≡ true
          → option_and_then (λ parent. if is_closed_logs logs (places_of m) parent then None else Some parent) q ≡ None
      go None e = refl
      go (Some parent) e = ap (λ c. if c then None else Some parent) e

-- ---- where its place stays, a poller changes one position of the session at most

abbrev Keeps : Logs → TargetTablet → TargetTablet → Type 0
Keeps logs x y = (u : ℕ) → TabletStandsFor logs u x → TabletStandsFor logs u y

with-tablets : (logs : Logs) (m n : Session) (t : TargetState) (ys : List TargetTablet) → n.closed ≡ None → Made logs m n t
    → AllZip (λ x y. Grows x y × Keeps logs x y) t.tablets ys
    → Made logs m n (record { tablets = ys; pollers = t.pollers; cutoff = t.cutoff; closed = t.closed })
with-tablets logs m n t ys o h z = let s = h.stands in record {
  still_open = h.still_open;
  stands = record {
    valid = s.valid;
    cutoff = s.cutoff;
    closed = s.closed;
    positions = s.positions;
    pollers = s.pollers;
    tablets = subst (λ o. AreKept logs n o ys) (sym o)
        (zip-to (IsAhead logs n) (λ x y. Grows x y × Keeps logs x y) (IsAhead logs n) t.tablets ys
        (λ x y a g. record { stands = g.1 n.cutoff a.stands; places = λ s. let f = a.places s in let e = g.0 s in omega arith })
        (subst (λ o. AreKept logs n o t.tablets) o s.tablets) z);
  };
}

zip-both : {A : Type 0} (R S : A → A → Type 0) (xs ys : List A) → AllZip R xs ys → AllZip S xs ys → AllZip (λ x y. R x y × S x y) xs ys
zip-both R S [] [] r s = tt
zip-both R S [] (y ∷ ys) r s = absurd r
zip-both R S (x ∷ xs) [] r s = absurd r
zip-both R S (x ∷ xs) (y ∷ ys) r s = ((r.0, s.0), zip-both R S xs ys r.1 s.1)

module _ (logs : Logs) (m : Session) (t : TargetState) (id : ℕ) (p q : PollerState) (b : AcceptedTablet) (st : StandsForSession logs m t)
    (still_open : t.closed ≡ None) (at : slice_get t.pollers id ≡ Some p) (there : accepted_tablet logs id ≡ Some b)
    (ys : List TargetTablet) (i : Rested p q t.tablets ys) (stands : PollerStandsFor logs p b → PollerStandsFor logs q b)
    (keep : PollerStandsFor logs p b → KeepStanding logs t.tablets ys) where
  polls : (c : AcceptedTablet) → accepted_tablet logs id ≡ Some c → Polls logs m c p → Polls logs m c q
  polls c e h =
      let same : b ≡ c = same_Some b c (sym there ∙ e) in
      let k = i.kept in
      record {
        header = k.header ∙ h.header;
        opened = k.is_open ∙ h.opened;
        waits = λ w. let f = sym k.is_open ∙ w in (i.waits f).0 ∙ h.waits f;
        found = let a = i.place in let f = h.found in let g = k.checked in omega arith;
        stands = λ o. subst (PollerStandsFor logs q) same
            (stands (subst (PollerStandsFor logs p) (sym same) (h.stands (sym k.is_open ∙ o))));
      }

  keeps : AllZip (Keeps logs) t.tablets ys
  keeps = go p.is_open refl
    where
      go : (o : Bool) → p.is_open ≡ o → AllZip (Keeps logs) t.tablets ys
      go true o = keep ((st.pollers id b p there at).stands o)
      go false o = subst (AllZip (Keeps logs) t.tablets) (sym (i.waits o).1) (zip-refl (Keeps logs) t.tablets (λ x u s. s))

  pub rested-made : Made logs m (with_position id (position_of q) m)
      (record { tablets = ys; pollers = slice_set t.pollers id q; cutoff = t.cutoff; closed = t.closed })
  rested-made = with-tablets logs m (with_position id (position_of q) m) (record t { pollers = slice_set t.pollers id q }) ys
      (sym st.closed ∙ still_open) (poller-moved logs m t id p q st still_open at i.place polls)
      (zip-both Grows (Keeps logs) t.tablets ys (grows-of p q t.tablets ys i.kept) keeps)

pub set-same : {A : Type 0} (xs : List A) (i : ℕ) (x : A) → slice_get xs i ≡ Some x → slice_set xs i x ≡ xs
set-same [] i x e = refl
set-same (y ∷ ys) zero x e = ap (λ w. w ∷ ys) (sym (same_Some y x e))
set-same (y ∷ ys) (suc i) x e = ap (λ w. y ∷ w) (set-same ys i x e)

-- a position that is as before
pub same-session : (m : Session) (ps : List PollerState) (id : ℕ) (p q : PollerState) → map position_of ps ≡ m.positions
    → slice_get ps id ≡ Some p → position_of q ≡ position_of p → with_position id (position_of q) m ≡ m
same-session m ps id p q e at same =
    let here : slice_get (map position_of ps) id ≡ Some (position_of q) =
    slice_get-map position_of ps id ∙ ap (option_map position_of) at ∙ ap Some (sym same) in
    let there : slice_get m.positions id ≡ Some (position_of q) = ap (λ w. slice_get w id) (sym e) ∙ here in
    ap (λ (w : List Position). record m { positions = w }) (set-same m.positions id (position_of q) there)
