-- A drain goes over the source tablets by number: what it has made of a session so far, and what it makes in the end.
use Rattle.std.proofs.Common.{◌≡◌, ◌≢◌, ℕ, zero, suc, ◌+◌, ◌<◌, ◌≤◌, Bool, true, false, List, [], ◌∷◌, ◌++◌, map, length, take, Option}
use Rattle.std.proofs.Common.{Some, None, refl, ap, sym, ◌∙◌, subst, arith, ⊎_elim}
use Rattle.std.specs.Prelude.{◌&&◌, IfSome, slice_get, slice_index, if◌then◌else◌}
use Rattle.std.specs.List.{filter_map, cons_option}
use Rattle.std.specs.Option.{option_map, option_map_or}
use Rattle.std.proofs.lemmas.Bool.{cases_Bool, cases_lt, true≢false, and_parts, eq-eqb}
use Rattle.std.proofs.lemmas.List.{length-map, length-set, take_all, take_more}
use Rattle.std.proofs.lemmas.List.Elements.{filter_map-append}
use Rattle.std.proofs.lemmas.Option.{none-some, same_Some, slice_get_within, get_or_from_slice_get}
use Rattle.xc_record.specs.declared.record.Header.{Header}
use Rattle.xc_record.specs.declared.record.Logs.{Logs}
use Rattle.xc_record.specs.declared.record.Tablet.{Tablet}
use Rattle.xc_record.specs.Accepted.{AcceptedTablet, accepted_tablets, accepted_tablets_after, accepted_tablet_after, accepted_tablet}
use Rattle.xc_record.specs.Accepted.{reached_after, records, halt_from}
use Rattle.xc_record.specs.Headers.{are_headers}
use Rattle.xc_record.specs.SafeTime.{place, is_closed_in, is_started}
use Rattle.xc_record.specs.Session.{Position, Session, new_position, position, places_of, IsSession}
use Rattle.xc_record.specs.Step.{with_position, drained_to, drained}
use Rattle.xc_record.specs.Valid.{is_valid}
use Rattle.xc_record.proofs.ListLaws.{Each, Each-append, Each-weaker}
use Rattle.xc_model.proofs.Parents.{UnderParent, length-logs, get-id, get-under, get-append, closed-of, each-get}
use Rattle.xc_model.proofs.SessionLaws.{places-at}
use Rattle.xc_target.specs.declared.answers.Halt.{Halt}
use Rattle.xc_target.specs.declared.answers.TargetFail.{TargetFail}
use Rattle.xc_target.specs.declared.answers.TargetFail.TheVariants as fail
use Rattle.xc_logs.proofs.ValidFacts.{headers_parts}
use Rattle.xc_poller.specs.Poller.{PollerState}
use Rattle.xc_target.specs.Target.{TargetState, FitsFeed}
use Rattle.xc_target.specs.Stands.{StandsForSession}
use Rattle.xc_target.specs.Answers.{Made, halt_named, halt_at, halts, polled_on, ArePolls, IsDrainedOne, IsDrainFail}
use Rattle.xc_target.proofs.SessionLaws.{get-there, length-pollers}
use Rattle.xc_target.proofs.DrainLaws.{place-within, in-order, same-position, halts-here, position-with, position-other, polled_on-append}
use Rattle.xc_target.proofs.DrainLaws.{stands-one, polls-session}

-- ---- a child that is reached comes after a split

abbrev AfterSplit : List AcceptedTablet → AcceptedTablet → Type 0
AfterSplit bs b = (p : ℕ) → b.header.parent ≡ Some p → b.reached ≡ true
    → (d : AcceptedTablet) × ((slice_get bs p ≡ Some d) × (d.end.split ≡ true))

split-one : (bs : List AcceptedTablet) (t : Tablet) → AfterSplit bs (accepted_tablet_after bs t)
split-one bs t p e r = go (slice_get bs p) refl
  where
    reached : reached_after bs (Some p) ≡ true
    reached = ap (reached_after bs) (sym e) ∙ r

    go : (o : Option AcceptedTablet) → slice_get bs p ≡ o → (d : AcceptedTablet) × ((slice_get bs p ≡ Some d) × (d.end.split ≡ true))
    go None g = absurd (true≢false (sym reached ∙ ap (λ o. option_map_or (λ (a : AcceptedTablet). a.reached && a.end.split) o false) g))
    go (Some d) g =
        let both : (d.reached && d.end.split) ≡ true =
        sym (ap (λ o. option_map_or (λ (a : AcceptedTablet). a.reached && a.end.split) o false) g) ∙ reached in
        (d, (g, (and_parts d.reached d.end.split both).1))

split-more : (bs more : List AcceptedTablet) (b : AcceptedTablet) → AfterSplit bs b → AfterSplit (bs ++ more) b
split-more bs more b h p e r = let f = h p e r in (f.0, (get-append bs more p f.0 f.1.0, f.1.1))

split-from : (bs : List AcceptedTablet) (ts : List Tablet) → Each (AfterSplit bs) bs
    → Each (AfterSplit (accepted_tablets_after bs ts)) (accepted_tablets_after bs ts)
split-from bs [] h = h
split-from bs (t ∷ ts) h =
    let b = accepted_tablet_after bs t in
    split-from (bs ++ b ∷ []) ts
    (Each-append (AfterSplit (bs ++ b ∷ [])) bs (b ∷ [])
    (Each-weaker (AfterSplit bs) (AfterSplit (bs ++ b ∷ [])) (λ c f. split-more bs (b ∷ []) c f) bs h)
    (split-more bs (b ∷ []) b (split-one bs t), tt))

get-split : (logs : Logs) (s : ℕ) (b : AcceptedTablet) → accepted_tablet logs s ≡ Some b → AfterSplit (accepted_tablets logs) b
unfolding accepted_tablets
get-split logs s b e = each-get (AfterSplit (accepted_tablets logs)) (accepted_tablets logs) s b (split-from [] logs.tablets tt) e

-- ---- a tablet that waits for a drained parent

module _ (logs : Logs) (m : Session) (s : ℕ) (b : AcceptedTablet) (valid : is_valid logs ≡ true) (is : IsSession logs m)
    (there : accepted_tablet logs s ≡ Some b) (waits : is_started logs (places_of m) b.header.parent ≡ false)
    (before : (j : ℕ) (d : AcceptedTablet) → accepted_tablet logs j ≡ Some d → j < s → (position m j).place ≡ length d.records) where
  record Unsplit : Type 0 where
    parent : ℕ
    is_parent : b.header.parent ≡ Some parent
    under : UnderParent (accepted_tablets logs) parent b
    unsplit : under.parent.end.split ≡ false

  unsplit-parent : Unsplit
  unsplit-parent = go b.header.parent refl waits
    where
      go : (q : Option ℕ) → b.header.parent ≡ q → is_started logs (places_of m) q ≡ false → Unsplit
      go None e w = absurd (true≢false w)
      go (Some p) e w =
          let u : UnderParent (accepted_tablets logs) p b = get-under logs s b valid there p e in
          let id : u.parent.header.id ≡ p = get-id logs p u.parent valid u.there in
          let own : b.header.id ≡ s = get-id logs s b valid there in
          let low = u.below in
          let all : place (places_of m) u.parent ≡ length u.parent.records =
          ap (slice_index (places_of m)) id ∙ places-at m.positions p ∙ before p u.parent u.there (omega arith) in
          let shut : is_closed_in (places_of m) u.parent ≡ false = sym (closed-of logs (places_of m) p u.parent u.there) ∙ w in
          record {
            parent = p;
            is_parent = e;
            under = u;
            unsplit = sym (ap (λ o. o && u.parent.end.split) (eq-eqb (place (places_of m) u.parent) (length u.parent.records) all)) ∙ shut;
          }

  -- none of its records is accepted, so all were delivered
  pub waits-drained : position m s ≡ drained_to b (position m s)
  waits-drained =
      let u = unsplit-parent in
      let none : length b.records ≡ 0 = ap length (u.under.unsplit u.unsplit) in
      let placed = place-within logs m s b valid is there in
      let order = (in-order m.positions s is.order).cursor in
      same-position (position m s) (drained_to b (position m s)) (omega arith) (omega arith) refl

  -- and it has no halt
  pub waits-unhalted : halt_at logs s ≡ None
  waits-unhalted =
      let u = unsplit-parent in
      let cold : b.reached ≡ false =
      ⊎_elim
      (λ r.
      let f = get-split logs s b there u.parent u.is_parent r in
      let same : f.0 ≡ u.under.parent = same_Some f.0 u.under.parent (sym f.1.0 ∙ u.under.there) in
      absurd (true≢false (sym f.1.1 ∙ ap (λ (d : AcceptedTablet). d.end.split) same ∙ u.unsplit)))
      (λ n. n) (cases_Bool b.reached) in
      let first = halt_from b.start 1 (records logs s) in
      halts-here logs s b there ∙ ap (λ (r : Bool). option_map (halt_named s) (if r then first else None)) cold

-- ---- so far

-- the halts of these
abbrev pub halts_of : Logs → List AcceptedTablet → List Halt
halts_of logs bs = filter_map (λ b. halt_at logs b.header.id) bs

-- the source tablets below n were drained
pub record DrainedTo (logs : Logs) (m : Session) (n : ℕ) (t : TargetState) (found : List Halt) : Type 0 where
  pub now : Session
  pub polls : List ℕ
  pub is : now ≡ polled_on logs 64 polls m
  pub session : IsSession logs now
  pub stands : StandsForSession logs now t
  pub cutoff : now.cutoff ≡ m.cutoff
  pub closed : now.closed ≡ m.closed
  pub count : length now.positions ≡ length m.positions
  pub done : (s : ℕ) (b : AcceptedTablet) → accepted_tablet logs s ≡ Some b → s < n → position now s ≡ drained_to b (position m s)
  pub rest : (s : ℕ) → n ≤ s → position now s ≡ position m s
  pub halts_are : found ≡ halts_of logs (take n (accepted_tablets logs))

abbrev pub Draining : ℕ → TargetState → TargetState → List Halt → Logs → Type 0
Draining n old t found logs = (m : Session) → IsSession logs m → StandsForSession logs m old → DrainedTo logs m n t found

begin : (logs : Logs) (t : TargetState) → Draining 0 t t [] logs
begin logs t m is st = record {
  now = m;
  polls = [];
  is = refl;
  session = is;
  stands = st;
  cutoff = refl;
  closed = refl;
  count = refl;
  done = λ s b e low. absurd (omega arith);
  rest = λ s low. refl;
  halts_are = refl;
}

-- ---- one more

halts-more : (logs : Logs) (n : ℕ) (bs : List AcceptedTablet) (b : AcceptedTablet) (found : List Halt)
    → slice_get bs n ≡ Some b → b.header.id ≡ n → found ≡ halts_of logs (take n bs)
    → found ++ cons_option (halt_at logs n) [] ≡ halts_of logs (take (n + 1) bs)
halts-more logs n bs b found at id e =
    let more : take (n + 1) bs ≡ take n bs ++ b ∷ [] =
    take_more bs n b (slice_get_within bs n b at)
    ∙ ap (λ (c : AcceptedTablet). take n bs ++ c ∷ []) (get_or_from_slice_get bs n b b at) in
    ap (λ w. w ++ cons_option (halt_at logs n) []) e
    ∙ ap (λ i. halts_of logs (take n bs) ++ cons_option (halt_at logs i) []) (sym id)
    ∙ sym (filter_map-append (λ (b : AcceptedTablet). halt_at logs b.header.id) (take n bs) (b ∷ []))
    ∙ ap (halts_of logs) (sym more)

module _ (logs : Logs) (m : Session) (n : ℕ) (t new : TargetState) (found : List Halt) (one : Option Halt) (w : DrainedTo logs m n t found)
    (b : AcceptedTablet) (there : accepted_tablet logs n ≡ Some b) (drains : IsDrainedOne logs w.now n b new one)
    (ids : ArePolls logs w.now new) where
  valid : is_valid logs ≡ true
  valid = w.stands.valid

  number : b.header.id ≡ n
  number = get-id logs n b valid there

  free : w.now.closed ≡ None
  free = ids.1.still_open

  more : found ++ cons_option (halt_at logs n) [] ≡ halts_of logs (take (n + 1) (accepted_tablets logs))
  more = halts-more logs n (accepted_tablets logs) b found there number w.halts_are

  -- below n all are as they were
  split-below : (next : Session) → ((s : ℕ) → s ≢ n → position next s ≡ position w.now s) → position next n ≡ drained_to b (position m n)
      → (s : ℕ) (d : AcceptedTablet) → accepted_tablet logs s ≡ Some d → s < n + 1 → position next s ≡ drained_to d (position m s)
  split-below next others here s d e low =
      ⊎_elim
      (λ below. others s (λ q. omega (arith, q, below)) ∙ w.done s d e below)
      (λ last.
      let same : s ≡ n = omega arith in
      let tablet : b ≡ d = same_Some b d (sym there ∙ ap (accepted_tablet logs) (sym same) ∙ e) in
      ap (position next) same ∙ here ∙ ap (λ (d : AcceptedTablet). drained_to d (position m n)) tablet
      ∙ ap (λ i. drained_to d (position m i)) (sym same))
      (cases_lt s n)

  waits : is_started logs (places_of w.now) b.header.parent ≡ false → DrainedTo logs m (n + 1) new (found ++ cons_option one [])
  waits shut =
      let h = drains.waits shut in
      let ends : (j : ℕ) (d : AcceptedTablet) → accepted_tablet logs j ≡ Some d → j < n → (position w.now j).place ≡ length d.records =
      λ j d e low. ap (λ (p : Position). p.place) (w.done j d e low) in
      let here : position w.now n ≡ drained_to b (position m n) =
      waits-drained logs w.now n b valid w.session there shut ends ∙ ap (drained_to b) (w.rest n (omega arith)) in
      let none : one ≡ halt_at logs n = h.0 ∙ sym (waits-unhalted logs w.now n b valid w.session there shut ends) in
      record {
        now = w.now;
        polls = w.polls;
        is = w.is;
        session = w.session;
        stands = h.1.stands;
        cutoff = w.cutoff;
        closed = w.closed;
        count = w.count;
        done = split-below w.now (λ s q. refl) here;
        rest = λ s low. w.rest s (omega arith);
        halts_are = ap (λ o. found ++ cons_option o []) none ∙ more;
      }

  started : is_started logs (places_of w.now) b.header.parent ≡ true → DrainedTo logs m (n + 1) new (found ++ cons_option one [])
  started is_started =
      let h = drains.started is_started in
      let p : Position = drained_to b (position w.now n) in
      let next : Session = with_position n p w.now in
      let path : next ≡ polled_on logs 64 ids.0 w.now = stands-one logs next (polled_on logs 64 ids.0 w.now) new h.1.stands ids.1.stands in
      let low = slice_get_within (accepted_tablets logs) n b there in
      let tablets = length-logs logs in
      let places = w.session.places.count in
      let positions = length-map w.now.positions (λ (p : Position). p.place) in
      let long : n < length w.now.positions = omega arith in
      let here : position next n ≡ drained_to b (position m n) =
      position-with w.now n p long ∙ ap (drained_to b) (w.rest n (omega arith)) in
      let others : (s : ℕ) → s ≢ n → position next s ≡ position w.now s = λ s q. position-other w.now n s p q in
      record {
        now = next;
        polls = w.polls ++ ids.0;
        is = path ∙ ap (polled_on logs 64 ids.0) w.is ∙ sym (polled_on-append logs 64 w.polls ids.0 m);
        session = subst (IsSession logs) (sym path) (polls-session logs 64 ids.0 w.now valid free w.session);
        stands = h.1.stands;
        cutoff = w.cutoff;
        closed = w.closed;
        count = length-set w.now.positions n p ∙ w.count;
        done = split-below next others here;
        rest = λ s high. others s (λ q. omega (arith, q, high)) ∙ w.rest s (omega arith);
        halts_are = ap (λ o. found ++ cons_option o []) h.0 ∙ more;
      }

  goes-on : DrainedTo logs m (n + 1) new (found ++ cons_option one [])
  goes-on = ⊎_elim started waits (cases_Bool (is_started logs (places_of w.now) b.header.parent))

-- ---- where it ends

-- the polls of a drain, and those of one more tablet
more-polls : (logs : Logs) (m : Session) (n : ℕ) (t new : TargetState) (found : List Halt) (w : DrainedTo logs m n t found)
    → ArePolls logs w.now new → ArePolls logs m new
more-polls logs m n t new found w ids = (
  w.polls ++ ids.0,
  record {
    still_open = sym w.closed ∙ ids.1.still_open;
    stands = subst (λ (v : Session). StandsForSession logs v new)
        (ap (polled_on logs 64 ids.0) w.is ∙ sym (polled_on-append logs 64 w.polls ids.0 m)) ids.1.stands;
  },
)

fails : (logs : Logs) (m : Session) (n : ℕ) (t new : TargetState) (found : List Halt) (f : TargetFail) (w : DrainedTo logs m n t found)
    → m.closed ≡ None → IsDrainFail logs w.now new f → IsDrainFail logs m new f
fails logs m n t new found (fail.Closed at) w opened h = absurd (none-some at (sym opened ∙ sym w.closed ∙ h.closed))
fails logs m n t new found fail.ReadFault w opened h = more-polls logs m n t new found w h
fails logs m n t new found fail.NoMemory w opened h = more-polls logs m n t new found w h

-- a list of positions is known by each of them
from-positions : (bs : List AcceptedTablet) (f : AcceptedTablet → Position) (ps : List Position) → length ps ≡ length bs
    → ((s : ℕ) (b : AcceptedTablet) → slice_get bs s ≡ Some b → option_map_or (λ p. p) (slice_get ps s) new_position ≡ f b) → ps ≡ map f bs
from-positions [] f [] l h = refl
from-positions [] f (p ∷ ps) l h = absurd (omega arith)
from-positions (b ∷ bs) f [] l h = absurd (omega arith)
from-positions (b ∷ bs) f (p ∷ ps) l h =
    ap (λ q. q ∷ ps) (h zero b refl) ∙ ap (λ w. f b ∷ w) (from-positions bs f ps (omega arith) (λ s c e. h (suc s) c e))

ends : (logs : Logs) (m : Session) (n : ℕ) (t : TargetState) (found : List Halt) → DrainedTo logs m n t found → m.closed ≡ None
    → length (accepted_tablets logs) ≤ n → (found ≡ halts logs) × Made logs m (drained logs m) t
ends logs m n t found w free all =
    let valid = w.stands.valid in
    let tablets = length-logs logs in
    let places = w.session.places.count in
    let counted = length-map w.now.positions (λ (p : Position). p.place) in
    let positions : w.now.positions ≡ map (λ b. drained_to b (position m b.header.id)) (accepted_tablets logs) =
    from-positions (accepted_tablets logs) (λ b. drained_to b (position m b.header.id)) w.now.positions (omega arith)
    (λ s b e. let low = slice_get_within (accepted_tablets logs) s b e in
    w.done s b e (omega arith) ∙ ap (λ i. drained_to b (position m i)) (sym (get-id logs s b valid e))) in
    let session : w.now ≡ drained logs m =
    ap (λ (x : List Position). record w.now { positions = x }) positions
    ∙ ap (λ (x : ℕ). record (drained logs m) { cutoff = x; closed = w.now.closed }) w.cutoff
    ∙ ap (λ (x : Option ℕ). record (drained logs m) { closed = x }) w.closed in (
      w.halts_are ∙ ap (halts_of logs) (take_all n (accepted_tablets logs) all),
      record { still_open = free; stands = subst (λ (v : Session). StandsForSession logs v t) session w.stands },
    )

-- ---- as the calls give it, whether the feed tells its logs or not

-- what is known of one tablet's drain
abbrev pub DrainsOne : ℕ → TargetState → TargetState → Option Halt → Logs → Type 0
DrainsOne n t new one logs = (m : Session) (b : AcceptedTablet) → IsSession logs m → StandsForSession logs m t
    → accepted_tablet logs n ≡ Some b → IsDrainedOne logs m n b new one

abbrev pub LeavesPolls : TargetState → TargetState → Logs → Type 0
LeavesPolls t new logs = (m : Session) → IsSession logs m → StandsForSession logs m t → ArePolls logs m new

abbrev pub FailsBy : TargetFail → TargetState → TargetState → Logs → Type 0
FailsBy f t new logs = (m : Session) → IsSession logs m → StandsForSession logs m t → IsDrainFail logs m new f

pub draining-starts : (o : Option Logs) (t : TargetState) → IfSome o (Draining 0 t t [])
draining-starts None t = tt
draining-starts (Some logs) t = begin logs t

pub draining-goes-on : (o o' : Option Logs) (n : ℕ) (old t new : TargetState) (found : List Halt) (one : Option Halt)
    → o' ≡ o → n < length t.pollers → IfSome o (Draining n old t found) → IfSome o' (DrainsOne n t new one) → IfSome o' (LeavesPolls t new)
    → IfSome o (Draining (n + 1) old new (found ++ cons_option one []))
draining-goes-on None o' n old t new found one e low w h k = tt
draining-goes-on (Some logs) o' n old t new found one e low w h k =
    λ m is st.
    let so = w m is st in
    let long = length-pollers logs so.now t so.session so.stands in
    let tablet = get-there (accepted_tablets logs) n (omega arith) in
    goes-on logs m n t new found one so tablet.0 tablet.1
    (subst (λ o. IfSome o (DrainsOne n t new one)) e h so.now tablet.0 so.session so.stands tablet.1)
    (subst (λ o. IfSome o (LeavesPolls t new)) e k so.now so.session so.stands)

pub draining-fails : (o o' : Option Logs) (n : ℕ) (old t new : TargetState) (found : List Halt) (f : TargetFail)
    → o' ≡ o → old.closed ≡ None → IfSome o (Draining n old t found) → IfSome o' (FailsBy f t new) → IfSome o (FailsBy f old new)
draining-fails None o' n old t new found f e opened w h = tt
draining-fails (Some logs) o' n old t new found f e opened w h =
    λ m is st.
    let so = w m is st in
    fails logs m n t new found f so (sym st.closed ∙ opened) (subst (λ o. IfSome o (FailsBy f t new)) e h so.now so.session so.stands)

pub draining-stops : (o o' : Option Logs) (n : ℕ) (old t new : TargetState) (found : List Halt) → o' ≡ o → IfSome o (Draining n old t found)
    → IfSome o' (LeavesPolls t new) → IfSome o (LeavesPolls old new)
draining-stops None o' n old t new found e w h = tt
draining-stops (Some logs) o' n old t new found e w h =
    λ m is st.
    let so = w m is st in
    more-polls logs m n t new found so (subst (λ o. IfSome o (LeavesPolls t new)) e h so.now so.session so.stands)

pub draining-ends : (o : Option Logs) (n : ℕ) (old t : TargetState) (found : List Halt) → old.closed ≡ None → length old.pollers ≤ n
    → IfSome o (Draining n old t found)
    → IfSome o (λ logs. (m : Session) → IsSession logs m → StandsForSession logs m old
    → (found ≡ halts logs) × Made logs m (drained logs m) t)
draining-ends None n old t found free all w = tt
draining-ends (Some logs) n old t found free all w =
    λ m is st. let long = length-pollers logs m old is st in ends logs m n t found (w m is st) (sym st.closed ∙ free) (omega arith)

pub few-pollers : (hs : List Header) (cs : List ℕ) (t : TargetState) → are_headers hs ≡ true → FitsFeed hs cs t → length t.pollers ≤ 64
few-pollers hs cs t fit f =
    let few = (headers_parts hs fit).0 in
    let same : length t.pollers ≡ length hs = sym (length-map t.pollers (λ (p : PollerState). p.header)) ∙ ap length f.headers_are in
    omega arith
