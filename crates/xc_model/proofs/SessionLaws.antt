-- What the commands keep of a session.
use Rattle.xc_model.proofs.Common.{◌≡◌, ◌==◌, ℕ, zero, suc, ◌-◌, ◌<◌, ◌≤◌, min, max, Bool, true, false, ◌&&◌, List, [], ◌∷◌, map, length}
use Rattle.xc_model.proofs.Common.{replicate, Option, Some, None, refl, ap, sym, ◌∙◌, arith, subst, ⊎_elim, nat_lt, slice_get, slice_index}
use Rattle.xc_model.proofs.Common.{slice_set, if◌then◌else◌, option_and_then, MatchOption, option_map_or, option_map, cases_Bool, cases_eq}
use Rattle.xc_model.proofs.Common.{eqb-true, eq-eqb, true≢false, nat_tests, get_or-set_same, get_or-set_other, length-set, length-replicate}
use Rattle.xc_model.proofs.Common.{length-map, map-set, set-get_or, get_or_past, same_Some, none-some, slice_get_within, slice_get_past}
use Rattle.xc_model.proofs.Common.{slice_get-map, Header, Tablet, Logs, Break, Command, PollAnswer, AcceptedTablet, accepted_tablets}
use Rattle.xc_model.proofs.Common.{accepted_tablet, records, parent_of, halt, halt_of, place, is_closed_in, is_closed, is_started}
use Rattle.xc_model.proofs.Common.{safe_time, StartsAfter, IsPlaces, is_valid, Position, Session, new_position, position, places_of}
use Rattle.xc_model.proofs.Common.{safe_now, start, IsInOrder, IsSession, awaits, answer_from, poll_answer, with_position, moved, set_back}
use Rattle.xc_model.proofs.Common.{acknowledge, poll_step, stop_step, drained_to, drained, prune_step, open_step, is_change}
use Rattle.xc_model.proofs.Common.{safe_time-rises, Each}
use Rattle.xc_record.specs.declared.session.Line.{Line}
use Rattle.xc_record.specs.Step.{step}
use Rattle.xc_record.proofs.HeaderLists.{get_of_headers}
use Rattle.xc_record.specs.declared.session.Command.TheVariants as command
use Rattle.xc_record.specs.declared.session.Line.TheVariants as line
use Rattle.xc_record.specs.declared.session.PollAnswer.TheVariants as poll
use Rattle.xc_model.specs.Laws.{StepsKeepSessions, SessionsStart, StepsKeepTimes}
use Rattle.xc_model.proofs.Parents.{heads-logs, length-logs, get-id, get-under, UnderParent, each-get, each-from, closed-of, none-closed}

-- ---- positions

pub places-at : (ps : List Position) (s : ℕ)
    → slice_index (map (λ p. p.place) ps) s ≡ (option_map_or (λ p. p) (slice_get ps s) new_position).place
places-at [] s = refl
places-at (p ∷ ps) zero = refl
places-at (p ∷ ps) (suc s) = places-at ps s

order-at : (ps : List Position) (s : ℕ) → Each IsInOrder ps → IsInOrder (option_map_or (λ p. p) (slice_get ps s) new_position)
order-at [] s h = record { cursor = omega arith; acknowledged = omega arith }
order-at (p ∷ ps) zero h = h.0
order-at (p ∷ ps) (suc s) h = order-at ps s h.1

each-set : {A : Type 0} (P : A → Type 0) (xs : List A) (i : ℕ) (a : A) → Each P xs → P a → Each P (slice_set xs i a)
each-set P [] i a h p = h
each-set P (x ∷ xs) zero a h p = (p, h.1)
each-set P (x ∷ xs) (suc i) a h p = (h.0, each-set P xs i a h.1 p)

places-set : (m : Session) (s : ℕ) (p : Position) → places_of (with_position s p m) ≡ slice_set (places_of m) s p.place
places-set m s p = map-set (λ (p : Position). p.place) m.positions s p

-- a position with the same place
pub places-same : (m : Session) (s : ℕ) (p : Position) → p.place ≡ (position m s).place → places_of (with_position s p m) ≡ places_of m
places-same m s p e = places-set m s p ∙ ap (slice_set (places_of m) s) (e ∙ sym (places-at m.positions s)) ∙ set-get_or (places_of m) s 0

-- ---- places that rise

abbrev pub Climbs : List ℕ → List ℕ → Type 0
Climbs xs ys = (i : ℕ) → slice_index xs i ≤ slice_index ys i

-- a closed tablet stays closed
stays : (b : AcceptedTablet) (xs ys : List ℕ) → place xs b ≤ place ys b → place ys b ≤ length b.records → is_closed_in xs b ≡ true
    → is_closed_in ys b ≡ true
stays b xs ys h w c = grind (arith, nat_tests)

stays-at : (logs : Logs) (xs ys : List ℕ) (p : ℕ) → Climbs xs ys → Each (λ b. place ys b ≤ length b.records) (accepted_tablets logs)
    → is_closed logs xs p ≡ true → is_closed logs ys p ≡ true
stays-at logs xs ys p h w = go (slice_get (accepted_tablets logs) p) refl
  where
    go : (o : Option AcceptedTablet) → slice_get (accepted_tablets logs) p ≡ o → is_closed logs xs p ≡ true → is_closed logs ys p ≡ true
    go None e c = absurd (true≢false (sym c ∙ none-closed logs xs p e))
    go (Some b) e c = closed-of logs ys p b e
        ∙ stays b xs ys (h b.header.id) (each-get (λ b. place ys b ≤ length b.records) (accepted_tablets logs) p b w e)
        (sym (closed-of logs xs p b e) ∙ c)

started-stays : (logs : Logs) (xs ys : List ℕ) (q : Option ℕ) → Climbs xs ys
    → Each (λ b. place ys b ≤ length b.records) (accepted_tablets logs) → is_started logs xs q ≡ true → is_started logs ys q ≡ true
started-stays logs xs ys None h w e = refl
started-stays logs xs ys (Some p) h w e = stays-at logs xs ys p h w e

-- where the later places have not started, the earlier ones haven't
not-started : (logs : Logs) (xs ys : List ℕ) (q : Option ℕ) → Climbs xs ys
    → Each (λ b. place ys b ≤ length b.records) (accepted_tablets logs) → is_started logs ys q ≡ false → is_started logs xs q ≡ false
not-started logs xs ys q h w e =
    ⊎_elim (λ t. absurd (true≢false (sym (started-stays logs xs ys q h w t) ∙ e))) (λ f. f) (cases_Bool (is_started logs xs q))

-- a store that doesn't lower
climb-set : (xs : List ℕ) (s v : ℕ) → slice_index xs s ≤ v → Climbs xs (slice_set xs s v)
climb-set [] s v h i = omega arith
climb-set (x ∷ xs) zero v h zero = h
climb-set (x ∷ xs) zero v h (suc i) = omega arith
climb-set (x ∷ xs) (suc s) v h zero = omega arith
climb-set (x ∷ xs) (suc s) v h (suc i) = climb-set xs s v h i

module _ (logs : Logs) (valid : is_valid logs ≡ true) (ps : List ℕ) (legal : IsPlaces logs ps) (s v : ℕ) (b : AcceptedTablet)
    (there : slice_get (accepted_tablets logs) s ≡ Some b)
    (up : slice_index ps s ≤ v) (within : v ≤ length b.records) (started : is_started logs ps b.header.parent ≡ true) where
  low : s < length ps
  low = let a : s < length (accepted_tablets logs) = slice_get_within (accepted_tablets logs) s b there in let c = legal.count in let d =
      length-logs logs in omega arith

  at-same : (i : ℕ) (d : AcceptedTablet) → slice_get (accepted_tablets logs) i ≡ Some d → i ≡ s → (d ≡ b) × (place (slice_set ps s v) d ≡ v)
  at-same i d e q = (
    same_Some d b (sym e ∙ ap (slice_get (accepted_tablets logs)) q ∙ there),
    ap (slice_index (slice_set ps s v)) (get-id logs i d valid e ∙ q) ∙ get_or-set_same ps s v 0 low,
  )

  at-other : (i : ℕ) (d : AcceptedTablet) → slice_get (accepted_tablets logs) i ≡ Some d → (i ≡ s → ⊥)
      → place (slice_set ps s v) d ≡ place ps d
  at-other i d e n = get_or-set_other ps s d.header.id v 0 (λ q. n (sym (get-id logs i d valid e) ∙ q))

  within-new : Each (λ d. place (slice_set ps s v) d ≤ length d.records) (accepted_tablets logs)
  within-new = each-from (λ d. place (slice_set ps s v) d ≤ length d.records) (accepted_tablets logs) (λ i d e. ⊎_elim
      (λ q. let both = at-same i d e q in let l : length d.records ≡ length b.records = ap (λ (w : AcceptedTablet). length w.records) both.0
      in let p = both.1 in omega arith)
      (λ n. let p = at-other i d e n in let w : place ps d ≤ length d.records = each-get (λ d. place ps d ≤ length d.records)
      (accepted_tablets logs) i d legal.within e in omega arith) (cases_eq i s))

  pub raise : IsPlaces logs (slice_set ps s v)
  raise = record {
    count = length-set ps s v ∙ legal.count;
    within = within-new;
    starts = each-from (StartsAfter logs (slice_set ps s v)) (accepted_tablets logs) (λ i d e waits.
        let before : is_started logs ps d.header.parent ≡ false =
        not-started logs ps (slice_set ps s v) d.header.parent (climb-set ps s v up) within-new waits in
        ⊎_elim
        (λ q. absurd (true≢false (sym started ∙ ap (λ (w : AcceptedTablet). is_started logs ps w.header.parent) (sym (at-same i d e q).0)
        ∙ before)))
        (λ n. at-other i d e n ∙ each-get (StartsAfter logs ps) (accepted_tablets logs) i d legal.starts e before) (cases_eq i s));
  }

-- ---- a poll

-- the parent in the headers is the parent in the logs
pub parent-same : (logs : Logs) (s : ℕ) (b : AcceptedTablet) → slice_get (accepted_tablets logs) s ≡ Some b
    → parent_of logs s ≡ b.header.parent
parent-same logs s b e = go (slice_get logs.tablets s) refl
  where
    head : option_map (λ (t : Tablet). t.header) (slice_get logs.tablets s) ≡ Some b.header
    head = sym (get_of_headers logs.tablets s) ∙ ap (λ w. slice_get w s) (sym (heads-logs logs))
        ∙ slice_get-map (λ (b : AcceptedTablet). b.header) (accepted_tablets logs) s ∙ ap (option_map (λ (b : AcceptedTablet). b.header)) e

    go : (o : Option Tablet) → slice_get logs.tablets s ≡ o → parent_of logs s ≡ b.header.parent
    go None q = let none : None ≡ Some b.header = ap (option_map (λ (t : Tablet). t.header)) (sym q)
        ∙ head in absurd (none-some b.header none)
    go (Some t) q = ap (λ o. option_and_then (λ (t : Tablet). t.header.parent) o) q
        ∙ ap (λ (h : Header). h.parent) (same_Some t.header b.header (ap (option_map (λ (t : Tablet). t.header)) (sym q) ∙ head))

-- where nothing is awaited, the tablet has started
free-started : (logs : Logs) (m : Session) (s : ℕ) (q : Option ℕ) → parent_of logs s ≡ q → awaits logs m s ≡ None
    → is_started logs (places_of m) q ≡ true
free-started logs m s None q e = refl
free-started logs m s (Some p) q e = go (is_closed logs (places_of m) p)
    (sym (ap (λ o. option_and_then (λ parent. if is_closed logs (places_of m) parent then None else Some parent) o) q) ∙ e)
  where
    go : (c : Bool) → (if c then None else Some p) ≡ None → c ≡ true
    go true w = refl
    go false w = cc

-- what an answer Polled says
pub record WasPolled (logs : Logs) (m : Session) (s n k : ℕ) : Type 0 where
  pub tablet : AcceptedTablet
  pub there : slice_get (accepted_tablets logs) s ≡ Some tablet
  pub free : awaits logs m s ≡ None
  pub count : k ≡ min n (length tablet.records - (position m s).cursor)

-- what each answer says
abbrev pub AnswerSays : Logs → Session → ℕ → ℕ → PollAnswer → Type 0
AnswerSays logs m s n (poll.Polled k) = WasPolled logs m s n k
AnswerSays logs m s n (poll.Waits parent) = (parent_of logs s ≡ Some parent) × (is_closed logs (places_of m) parent ≡ false)
AnswerSays logs m s n poll.AtEnd = (position m s).cursor ≡ length (records logs s)
AnswerSays logs m s n (poll.Halted number kind) = halt logs s ≡ Some (number, kind)

-- past the last tablet there is nothing
get-none : {A : Type 0} (xs : List A) (i : ℕ) → slice_get xs i ≡ None → length xs ≤ i
get-none [] i e = omega arith
get-none (x ∷ xs) zero e = cc
get-none (x ∷ xs) (suc i) e = let q : length xs ≤ i = get-none xs i e in omega arith

no-position : (logs : Logs) (m : Session) (s : ℕ) → length (places_of m) ≡ length logs.tablets → slice_get (accepted_tablets logs) s ≡ None
    → position m s ≡ new_position
no-position logs m s c e = let l : length (accepted_tablets logs) ≤ s = get-none (accepted_tablets logs) s e in let d = length-logs logs in
    let k = length-map m.positions (λ (p : Position). p.place) in
    ap (λ o. option_map_or (λ (p : Position). p) o new_position) (slice_get_past m.positions s (omega arith))

no-records : (logs : Logs) (s : ℕ) → slice_get (accepted_tablets logs) s ≡ None → length (records logs s) ≡ 0
no-records logs s e = let l : length (accepted_tablets logs) ≤ s = get-none (accepted_tablets logs) s e in let d = length-logs logs in
    ap (λ o. length (option_map_or (λ (t : Tablet). t.records) o [])) (slice_get_past logs.tablets s (omega arith))

waits-for : (logs : Logs) (m : Session) (s p : ℕ) (q : Option ℕ) → parent_of logs s ≡ q
    → option_and_then (λ parent. if is_closed logs (places_of m) parent then None else Some parent) q ≡ Some p
    → (parent_of logs s ≡ Some p) × (is_closed logs (places_of m) p ≡ false)
waits-for logs m s p None e w = cc
waits-for logs m s p (Some parent) e w = go (is_closed logs (places_of m) parent) refl w
  where
    go : (c : Bool) → is_closed logs (places_of m) parent ≡ c → (if c then None else Some parent) ≡ Some p
        → (parent_of logs s ≡ Some p) × (is_closed logs (places_of m) p ≡ false)
    go true k h = cc
    go false k h = let same : parent ≡ p = cc in (e ∙ h, subst (λ (v : ℕ). is_closed logs (places_of m) v ≡ false) same k)

halt-is : (logs : Logs) (s : ℕ) (b : AcceptedTablet) → accepted_tablet logs s ≡ Some b → halt logs s ≡ halt_of b (records logs s)
unfolding halt
halt-is logs s b e = ap (λ o. option_and_then (λ b. halt_of b (records logs s)) o) e

if-some : (c : Bool) (o : Option (ℕ × Break)) (found : ℕ × Break) → (if c then o else None) ≡ Some found → o ≡ Some found
if-some true o found e = e
if-some false o found e = cc

pub answer-says : (logs : Logs) (m : Session) (s n : ℕ) → length (places_of m) ≡ length logs.tablets
    → AnswerSays logs m s n (poll_answer logs m s n)
unfolding poll_answer
answer-says logs m s n count = first (awaits logs m s) refl
  where
    last : (b : AcceptedTablet) → awaits logs m s ≡ None → accepted_tablet logs s ≡ Some b → (c : Bool)
        → ((position m s).cursor == length (records logs s)) ≡ c
        → AnswerSays logs m s n (if c then poll.AtEnd else poll.Polled (min n (length b.records - (position m s).cursor)))
    last b free there true e = eqb-true _ _ e
    last b free there false e = record { tablet = b; there = there; free = free; count = refl }

    second : (b : AcceptedTablet) → awaits logs m s ≡ None → accepted_tablet logs s ≡ Some b → (o : Option (ℕ × Break))
        → (if (position m s).cursor == length b.records then halt_of b (records logs s) else None) ≡ o
        → AnswerSays logs m s n
        (option_map_or (λ found. poll.Halted found.0 found.1) o
        (if (position m s).cursor == length (records logs s) then poll.AtEnd else poll.Polled
        (min n (length b.records - (position m s).cursor))))
    second b free there None e = last b free there ((position m s).cursor == length (records logs s)) refl
    second b free there (Some found) e =
        halt-is logs s b there ∙ if-some ((position m s).cursor == length b.records) (halt_of b (records logs s)) found e

    tablet : awaits logs m s ≡ None → (o : Option AcceptedTablet) → accepted_tablet logs s ≡ o
        → AnswerSays logs m s n (option_map_or (λ b. answer_from b (records logs s) (position m s).cursor n) o poll.AtEnd)
    tablet free None e = ap (λ (p : Position). p.cursor) (no-position logs m s count e) ∙ sym (no-records logs s e)
    tablet free (Some b) e = second b free e (if (position m s).cursor == length b.records then halt_of b (records logs s) else None) refl

    first : (o : Option ℕ) → awaits logs m s ≡ o → AnswerSays logs m s n (option_map_or (λ parent. poll.Waits parent) o
        (option_map_or (λ b. answer_from b (records logs s) (position m s).cursor n) (accepted_tablet logs s) poll.AtEnd))
    first None e = tablet e (accepted_tablet logs s) refl
    first (Some p) e = waits-for logs m s p (parent_of logs s) refl e

-- ---- what holds of a session after a command

pub record Good (logs : Logs) (m n : Session) : Type 0 where
  pub session : IsSession logs n
  pub climbs : Climbs (places_of m) (places_of n)

abbrev pub either : Bool → Session × List Line → Session × List Line → Session × List Line
either b x y = if b then x else y

abbrev IsTime : Logs → Session → ℕ → Type 0
IsTime logs m t = t ≡ safe_now logs m

abbrev ClosesAt : Logs → Session → Option ℕ → Type 0
ClosesAt logs m o = MatchOption o (Unit {0}) (IsTime logs m)

still-open : (logs : Logs) (m : Session) (o : Option ℕ) → o ≡ None → ClosesAt logs m o
still-open logs m o e = subst (ClosesAt logs m) (sym e) tt

module _ (logs : Logs) (valid : is_valid logs ≡ true) (m : Session) (st : IsSession logs m) where
  good-same : Good logs m m
  good-same = record { session = st; climbs = λ i. omega arith }

  place-within : (s : ℕ) (b : AcceptedTablet) → slice_get (accepted_tablets logs) s ≡ Some b → (position m s).place ≤ length b.records
  place-within s b e = let w : place (places_of m) b ≤ length b.records =
      each-get (λ b. place (places_of m) b ≤ length b.records) (accepted_tablets logs) s b st.places.within e in
      let at : slice_index (places_of m) s ≡ (position m s).place = places-at m.positions s in
      let q : slice_index (places_of m) s ≤ length b.records =
      subst (λ (i : ℕ). slice_index (places_of m) i ≤ length b.records) (get-id logs s b valid e) w in omega arith

  in-order : (s : ℕ) → IsInOrder (position m s)
  in-order s = order-at m.positions s st.order

  module _ (free : m.closed ≡ None) where
    -- a session whose places are as before
    good-with : (s : ℕ) (p : Position) → IsInOrder p → p.place ≡ (position m s).place → Good logs m (with_position s p m)
    good-with s p o e = let same : places_of (with_position s p m) ≡ places_of m = places-same m s p e in record {
      session = record {
        places = subst (IsPlaces logs) (sym same) st.places;
        order = each-set IsInOrder m.positions s p st.order o;
        cutoff = subst (λ w. m.cutoff ≤ safe_time logs w) (sym same) st.cutoff;
        closed = still-open logs (with_position s p m) m.closed free;
      };
      climbs = λ i. subst (λ w. slice_index (places_of m) i ≤ slice_index w i) (sym same) (omega arith);
    }

    good-back : (s : ℕ) → Good logs m (with_position s (set_back (position m s)) m)
    good-back s = let o = in-order s in good-with s (set_back (position m s)) (record { cursor = omega arith; acknowledged = omega arith })
        refl

    good-ack : (s : ℕ) → Good logs m (with_position s (acknowledge (position m s)) m)
    good-ack s = let o = in-order s in good-with s (acknowledge (position m s))
        (record { cursor = omega arith; acknowledged = omega arith }) refl

    good-moved : (s n k : ℕ) → WasPolled logs m s n k → Good logs m (with_position s (moved k (position m s)) m)
    good-moved s n k was = let o = in-order s in let p = moved k (position m s) in
        let old : slice_index (places_of m) s ≡ (position m s).place = places-at m.positions s in
        let w : (position m s).place ≤ length was.tablet.records = place-within s was.tablet was.there in
        let few = was.count in
        let up : slice_index (places_of m) s ≤ p.place = omega arith in
        let new : IsPlaces logs (slice_set (places_of m) s p.place) =
        raise logs valid (places_of m) st.places s p.place was.tablet was.there up (omega arith)
        (free-started logs m s was.tablet.header.parent (parent-same logs s was.tablet was.there) was.free) in
        let climb : Climbs (places_of m) (slice_set (places_of m) s p.place) = climb-set (places_of m) s p.place up in
        let same : places_of (with_position s p m) ≡ slice_set (places_of m) s p.place = places-set m s p in
        let rises : safe_now logs m ≤ safe_time logs (slice_set (places_of m) s p.place) =
        safe_time-rises logs (places_of m) (slice_set (places_of m) s p.place) new climb in
        let low : m.cutoff ≤ safe_now logs m = st.cutoff in
        record {
          session = record {
            places = subst (IsPlaces logs) (sym same) new;
            order = each-set IsInOrder m.positions s p st.order (record { cursor = omega arith; acknowledged = omega arith });
            cutoff = subst (λ w. m.cutoff ≤ safe_time logs w) (sym same) (omega arith);
            closed = still-open logs (with_position s p m) m.closed free;
          };
          climbs = subst (Climbs (places_of m)) (sym same) climb;
        }

    good-poll : (s n : ℕ) (a : PollAnswer) → AnswerSays logs m s n a → Good logs m (poll_step m s a).0
    good-poll s n (poll.Polled k) e = good-moved s n k e
    good-poll s n _ e = good-same

    good-stop : (s : ℕ) (a : PollAnswer) → Good logs m (stop_step m s a).0
    good-stop s (poll.Polled k) = good-back s
    good-stop s _ = good-same

    good-prune : (u : ℕ) → Good logs m (prune_step logs m u).0
    good-prune u = go (nat_lt (safe_now logs m) u) refl
      where
        go : (b : Bool) → nat_lt (safe_now logs m) u ≡ b → Good logs m
            (either b (m, line.Ahead u (safe_now logs m) ∷ []) (record m { cutoff = max m.cutoff u }, line.Prune (max m.cutoff u) ∷ [])).0
        go true e = good-same
        go false e = record {
          session = record {
            places = st.places;
            order = st.order;
            cutoff =
                (let q : m.cutoff ≤ safe_now logs m = st.cutoff in let w : u ≤ safe_now logs m = grind (arith, nat_tests) in omega arith);
            closed = still-open logs (record m { cutoff = max m.cutoff u }) m.closed free;
          };
          climbs = λ i. omega arith;
        }

    -- ---- a drain

    ends_of : List ℕ
    ends_of = map (λ b. length b.records) (accepted_tablets logs)

    drained-places : (bs : List AcceptedTablet)
        → map (λ p. p.place) (map (λ b. drained_to b (position m b.header.id)) bs) ≡ map (λ b. length b.records) bs
    drained-places [] = refl
    drained-places (b ∷ bs) = ap (λ w. length b.records ∷ w) (drained-places bs)

    ends-at : (bs : List AcceptedTablet) (i : ℕ) (d : AcceptedTablet) → slice_get bs i ≡ Some d
        → slice_index (map (λ b. length b.records) bs) i ≡ length d.records
    ends-at [] i d e = cc
    ends-at (b ∷ bs) zero d e = let q : b ≡ d = cc in ap (λ (w : AcceptedTablet). length w.records) q
    ends-at (b ∷ bs) (suc i) d e = ends-at bs i d e

    end-place : (i : ℕ) (d : AcceptedTablet) → slice_get (accepted_tablets logs) i ≡ Some d → place ends_of d ≡ length d.records
    unfolding ends_of
    end-place i d e = ap (slice_index (map (λ b. length b.records) (accepted_tablets logs))) (get-id logs i d valid e)
        ∙ ends-at (accepted_tablets logs) i d e

    ends-climb : Climbs (places_of m) ends_of
    unfolding ends_of
    ends-climb i = go (slice_get (accepted_tablets logs) i) refl
      where
        go : (o : Option AcceptedTablet) → slice_get (accepted_tablets logs) i ≡ o
            → slice_index (places_of m) i ≤ slice_index (map (λ b. length b.records) (accepted_tablets logs)) i
        go None e = let l : length (accepted_tablets logs) ≤ i = get-none (accepted_tablets logs) i e in let c = st.places.count in let d =
            length-logs logs in let z : slice_index (places_of m) i ≡ 0 = get_or_past (places_of m) i 0 (omega arith) in omega arith
        go (Some b) e =
            let w = place-within i b e in let p = places-at m.positions i in let q = ends-at (accepted_tablets logs) i b e in omega arith

    ends-within : Each (λ d. place ends_of d ≤ length d.records) (accepted_tablets logs)
    ends-within = each-from (λ d. place ends_of d ≤ length d.records) (accepted_tablets logs)
        (λ i d e. let q = end-place i d e in omega arith)

    -- what is below an end that is no split has no accepted records
    ends-starts : (i : ℕ) (d : AcceptedTablet) (q : Option ℕ) → slice_get (accepted_tablets logs) i ≡ Some d → d.header.parent ≡ q
        → is_started logs ends_of q ≡ false → place ends_of d ≡ 0
    ends-starts i d None e p waits = cc
    ends-starts i d (Some p) e is waits = let u : UnderParent (accepted_tablets logs) p d = get-under logs i d valid e p is in
        let shut : is_closed_in ends_of u.parent ≡ false = sym (closed-of logs ends_of p u.parent u.there) ∙ waits in
        let open_ : u.parent.end.split ≡ false =
        sym (ap (λ o. o && u.parent.end.split)
        (eq-eqb (place ends_of u.parent) (length u.parent.records) (end-place p u.parent u.there))) ∙ shut in
        end-place i d e ∙ ap length (u.unsplit open_)

    ends-places : IsPlaces logs ends_of
    unfolding ends_of
    ends-places = record {
      count = length-map (accepted_tablets logs) (λ (b : AcceptedTablet). length b.records) ∙ length-logs logs;
      within = ends-within;
      starts = each-from (StartsAfter logs ends_of) (accepted_tablets logs) (λ i d e. ends-starts i d d.header.parent e refl);
    }

    ends-order : (bs : List AcceptedTablet) → Each (λ b. (position m b.header.id).place ≤ length b.records) bs
        → Each IsInOrder (map (λ b. drained_to b (position m b.header.id)) bs)
    ends-order [] h = tt
    ends-order (b ∷ bs) h =
        (let o = in-order b.header.id in let w = h.0 in record { cursor = omega arith; acknowledged = omega arith }, ends-order bs h.1)

    same-drained : places_of (drained logs m) ≡ ends_of
    unfolding ends_of
    same-drained = drained-places (accepted_tablets logs)

    good-drain : Good logs m (drained logs m)
    good-drain = let q : m.cutoff ≤ safe_now logs m = st.cutoff in
        let w : safe_now logs m ≤ safe_time logs ends_of = safe_time-rises logs (places_of m) ends_of ends-places ends-climb in
        record {
          session = record {
            places = subst (IsPlaces logs) (sym same-drained) ends-places;
            order = ends-order (accepted_tablets logs)
                (each-from (λ b. (position m b.header.id).place ≤ length b.records) (accepted_tablets logs)
                (λ i b e. subst (λ (w : ℕ). (position m w).place ≤ length b.records) (sym (get-id logs i b valid e))
                (place-within i b e)));
            cutoff = subst (λ w. m.cutoff ≤ safe_time logs w) (sym same-drained) (omega arith);
            closed = still-open logs (drained logs m) m.closed free;
          };
          climbs = subst (Climbs (places_of m)) (sym same-drained) ends-climb;
        }

    -- ---- all commands

    good-open : (c : Command) → Good logs m (open_step logs m c).0
    unfolding open_step
    good-open (command.Poll id n) = good-poll id n (poll_answer logs m id n) (answer-says logs m id n st.places.count)
    good-open (command.Stop id n last) = good-stop id (poll_answer logs m id n)
    good-open (command.Ack id) = good-ack id
    good-open (command.Restart id) = good-back id
    good-open command.Drain = good-drain
    good-open (command.Prune t) = good-prune t
    good-open command.Failover =
        record { session = record { places = st.places; order = st.order; cutoff = st.cutoff; closed = refl }; climbs = λ i. omega arith }
    good-open _ = good-same

-- ---- a closed session

asked : (logs : Logs) (m : Session) (c : Command) (t : ℕ) (o : Option ℕ) → o ≡ Some t
    → (option_map_or {T = ℕ} {U = Session × List Line} (λ t. (m, line.Closed t ∷ [])) (if is_change c then o else None)
    (open_step logs m c)).0 ≡ m
unfolding open_step
asked logs m c t None e = cc
asked logs m (command.Poll id n) t (Some v) e = refl
asked logs m _ t (Some v) e = refl

pub stays-closed : (logs : Logs) (m : Session) (c : Command) (t : ℕ) → m.closed ≡ Some t → (step logs m c).0 ≡ m
unfolding step
stays-closed logs m c t e = asked logs m c t m.closed e

-- a session that isn't closed takes every command
pub is-open : (logs : Logs) (m : Session) (c : Command) → m.closed ≡ None → step logs m c ≡ open_step logs m c
unfolding step
is-open logs m c e = go (is_change c)
  where
    go : (b : Bool)
        → option_map_or {T = ℕ} {U = Session × List Line} (λ t. (m, line.Closed t ∷ [])) (if b then m.closed else None) (open_step logs m c)
        ≡ open_step logs m c
    go true = ap (λ o. option_map_or {T = ℕ} {U = Session × List Line} (λ t. (m, line.Closed t ∷ [])) o (open_step logs m c)) e
    go false = refl

pub good-step : (logs : Logs) (m : Session) (c : Command) → is_valid logs ≡ true → IsSession logs m → Good logs m (step logs m c).0
good-step logs m c valid st = go m.closed refl
  where
    go : (o : Option ℕ) → m.closed ≡ o → Good logs m (step logs m c).0
    go None e = subst (λ (w : Session × List Line). Good logs m w.0) (sym (is-open logs m c e)) (good-open logs valid m st e c)
    go (Some t) e = subst (Good logs m) (sym (stays-closed logs m c t e)) (good-same logs valid m st)

pub steps-keep : StepsKeepSessions
steps-keep logs m c valid st = (good-step logs m c valid st).session

pub steps-rise : StepsKeepTimes
steps-rise logs m c valid st =
    let g = good-step logs m c valid st in safe_time-rises logs (places_of m) (places_of (step logs m c).0) g.session.places g.climbs

-- ---- the start

zero-places : (n i : ℕ) → slice_index (map (λ p. p.place) (replicate n new_position)) i ≡ 0
zero-places zero i = refl
zero-places (suc n) zero = refl
zero-places (suc n) (suc i) = zero-places n i

new-order : (n : ℕ) → Each IsInOrder (replicate n new_position)
new-order zero = tt
new-order (suc n) = (record { cursor = omega arith; acknowledged = omega arith }, new-order n)

pub sessions-start : SessionsStart
sessions-start logs valid = record {
  places = record {
    count = length-map (replicate (length logs.tablets) new_position) (λ (p : Position). p.place)
        ∙ length-replicate (length logs.tablets) new_position;
    within = each-from (λ b. place (places_of (start logs)) b ≤ length b.records) (accepted_tablets logs)
        (λ i b e. let z : place (places_of (start logs)) b ≡ 0 = zero-places (length logs.tablets) b.header.id in omega arith);
    starts = each-from (StartsAfter logs (places_of (start logs))) (accepted_tablets logs)
        (λ i b e w. zero-places (length logs.tablets) b.header.id);
  };
  order = new-order (length logs.tablets);
  cutoff = omega arith;
  closed = tt;
}
