-- What a poll keeps of a session, and what it makes of it.
use Rattle.std.proofs.Common.{◌≡◌, ◌≢◌, ℕ, zero, suc, ◌<◌, ◌≤◌, Bool, true, false, cond, List, [], ◌∷◌, map, length, Option, Some, None}
use Rattle.std.proofs.Common.{refl, ap, sym, ◌∙◌, subst, arith, set, ⊎_elim}
use Rattle.std.specs.Prelude.{◌&&◌, ◌==◌, slice_get, slice_index, slice_set, if◌then◌else◌}
use Rattle.std.specs.List.{AllZip}
use Rattle.std.specs.Option.{option_map, option_map_or}
use Rattle.std.proofs.lemmas.Bool.{cases_Bool, cases_eq, true≢false, and_parts, eqb-true, eq-eqb}
use Rattle.std.proofs.lemmas.List.{map-set, set-get_or, get_or-set_same, get_or-set_other}
use Rattle.std.proofs.lemmas.Option.{same_Some, none-some, slice_get-map, slice_get_within}
use Rattle.xc_record.specs.declared.record.Header.{Header}
use Rattle.xc_record.specs.declared.record.Logs.{Logs}
use Rattle.xc_record.specs.Accepted.{AcceptedTablet, accepted_tablets, accepted_tablet}
use Rattle.xc_record.specs.Headers.{is_child_of}
use Rattle.xc_record.specs.SafeTime.{is_closed_at, is_closed as is_closed_logs, is_started}
use Rattle.xc_record.specs.Session.{Position, Session, places_of, IsSession}
use Rattle.xc_record.specs.Step.{with_position}
use Rattle.xc_record.proofs.ListLaws.{Each}
use Rattle.xc_model.specs.Stands.{TargetTablet, StandsFor as TabletStandsFor}
use Rattle.xc_model.proofs.Parents.{get-id, closed-of, none-closed}
use Rattle.xc_poller.specs.Poller.{PollerState, position_of, is_closed, new_poller, opened, before_first, StandsFor as PollerStandsFor}
use Rattle.xc_poller.proofs.StandLaws.{closed-at, opened-stands}
use Rattle.xc_tablet.proofs.Zips.{zip-to}
use Rattle.xc_target.specs.Target.{TargetState, opened_by}
use Rattle.xc_target.specs.Stands.{IsAhead, AreKept, Polls, StandsForSession}
use Rattle.xc_target.specs.Answers.{Made}
use Rattle.xc_target.proofs.SessionLaws.{place-is, position-is}
use Rattle.xc_target.proofs.MoveLaws.{get-set-here, get-set-there}

-- no place of a tablet falls
abbrev pub Grows : TargetTablet → TargetTablet → Type 0
Grows x y = (s : ℕ) → slice_index x.places s ≤ slice_index y.places s

-- a tablet that the poll leaves: no place fell, it stands as before, and has what the poller delivered
pub record Left (logs : Logs) (q : PollerState) (x y : TargetTablet) : Type 0 where
  pub grows : Grows x y
  pub stands : (u : ℕ) → TabletStandsFor logs u x → TabletStandsFor logs u y
  pub has : q.applied ≤ slice_index y.places q.header.id

-- the pollers after a poll of q: a closed one opens its children
abbrev pub after_poll : PollerState → List PollerState → List PollerState
after_poll q ps = if is_closed q then map (opened_by q) ps else ps

get-of-map : {A B : Type 0} (f : A → B) (xs : List A) (s : ℕ) (y : B) → slice_get (map f xs) s ≡ Some y
    → (x : A) × ((slice_get xs s ≡ Some x) × (f x ≡ y))
get-of-map f xs s y at = go (slice_get xs s) refl
  where
    go : (o : Option _) → slice_get xs s ≡ o → (x : _) × ((slice_get xs s ≡ Some x) × (f x ≡ y))
    go None e = absurd (none-some y (sym (slice_get-map f xs s ∙ ap (option_map f) e) ∙ at))
    go (Some x) e = (x, (e, same_Some (f x) y (sym (slice_get-map f xs s ∙ ap (option_map f) e) ∙ at)))

-- who opens nobody is where it was
abbrev Waits : PollerState → Type 0
Waits r = r.is_open ≡ false → r ≡ new_poller r.header

opened-position : (q r : PollerState) → Waits r → position_of (opened q r) ≡ position_of r
opened-position q r w = ⊎_elim
    (λ o. ap (λ b. position_of (cond b r (before_first r.header (record q.reader.order { split = false }) q.floor true))) o)
    (λ c. ap (λ b. position_of (cond b r (before_first r.header (record q.reader.order { split = false }) q.floor true))) c
    ∙ ap position_of (sym (w c)))
    (cases_Bool r.is_open)

opened_by-position : (q r : PollerState) → Waits r → position_of (opened_by q r) ≡ position_of r
opened_by-position q r w = ⊎_elim
    (λ t. ap (λ b. position_of (cond b (opened q r) r)) t ∙ opened-position q r w)
    (λ f. ap (λ b. position_of (cond b (opened q r) r)) f)
    (cases_Bool (is_child_of q.header.id r.header))

positions-opened : (q : PollerState) (ps : List PollerState) → ((s : ℕ) (r : PollerState) → slice_get ps s ≡ Some r → Waits r)
    → map position_of (map (opened_by q) ps) ≡ map position_of ps
positions-opened q [] w = refl
positions-opened q (r ∷ ps) w =
    let head : position_of (opened_by q r) ≡ position_of r = opened_by-position q r (w zero r refl) in
    let tail : map position_of (map (opened_by q) ps) ≡ map position_of ps = positions-opened q ps (λ s r. w (suc s) r) in
    cc

positions-after : (q : PollerState) (ps : List PollerState) → ((s : ℕ) (r : PollerState) → slice_get ps s ≡ Some r → Waits r)
    → map position_of (after_poll q ps) ≡ map position_of ps
positions-after q ps w =
    elim (is_closed q) as
    (λ b. map position_of (cond b (map (opened_by q) ps) ps) ≡ map position_of ps) [ true ↦ positions-opened q ps w | false ↦ refl ]

pub child-of : (id : ℕ) (h : Header) → is_child_of id h ≡ true → h.parent ≡ Some id
child-of id h e = go h.parent refl e
  where
    go : (o : Option ℕ) → h.parent ≡ o → option_map_or (λ parent. parent == id) o false ≡ true → h.parent ≡ Some id
    go None p e = cc
    go (Some j) p e = p ∙ ap Some (eqb-true j id e)

module _ (logs : Logs) (m : Session) (t : TargetState) (id : ℕ) (p q : PollerState) (b : AcceptedTablet) (is : IsSession logs m)
    (st : StandsForSession logs m t) (still_open : t.closed ≡ None)
    (at : slice_get t.pollers id ≡ Some p) (there : accepted_tablet logs id ≡ Some b) (header : q.header ≡ p.header)
    (is_open : p.is_open ≡ true) (open_after : q.is_open ≡ true)
    (rises : p.applied ≤ q.applied) (found : q.applied ≤ q.reader.checked) (stands : PollerStandsFor logs q b) (ys : List TargetTablet)
    (left : AllZip (Left logs q) t.tablets ys) where
  abbrev put : List PollerState
  put = slice_set t.pollers id q

  abbrev next : Session
  next = with_position id (position_of q) m

  old : Polls logs m b p
  old = st.pollers id b p there at

  id-is : b.header.id ≡ id
  id-is = get-id logs id b st.valid there

  q-id : q.header.id ≡ id
  q-id = ap (λ (h : Header). h.id) (header ∙ old.header) ∙ id-is

  places-next : places_of next ≡ set (places_of m) id q.applied
  places-next = map-set (λ (p : Position). p.place) m.positions id (position_of q)

  long : id < length (places_of m)
  long =
      let w = slice_get_within t.pollers id p at in
      let e = ap length st.positions in
      let f = Rattle.std.proofs.lemmas.List.length-map t.pollers position_of in
      let g = Rattle.std.proofs.lemmas.List.length-map m.positions (λ (p : Position). p.place) in
      omega arith

  place-here : slice_index (places_of next) id ≡ q.applied
  place-here = ap (λ w. slice_index w id) places-next ∙ get_or-set_same (places_of m) id q.applied 0 long

  place-there : (s : ℕ) → s ≢ id → slice_index (places_of next) s ≡ slice_index (places_of m) s
  place-there s n = ap (λ w. slice_index w s) places-next ∙ get_or-set_other (places_of m) id s q.applied 0 n

  -- its tablet is closed exactly where the poller is
  closed-here : is_closed_logs logs (places_of next) id ≡ is_closed q
  closed-here =
      closed-of logs (places_of next) id b there ∙ ap (is_closed_at b) (ap (slice_index (places_of next)) id-is ∙ place-here)
      ∙ sym (closed-at logs q b found stands)

  closed-there : (j : ℕ) → j ≢ id → is_closed_logs logs (places_of next) j ≡ is_closed_logs logs (places_of m) j
  closed-there j n = go (slice_get (accepted_tablets logs) j) refl
    where
      go : (o : Option AcceptedTablet) → slice_get (accepted_tablets logs) j ≡ o
          → is_closed_logs logs (places_of next) j ≡ is_closed_logs logs (places_of m) j
      go None e = none-closed logs (places_of next) j e ∙ sym (none-closed logs (places_of m) j e)
      go (Some d) e =
          let d-id : d.header.id ≡ j = get-id logs j d st.valid e in
          closed-of logs (places_of next) j d e ∙ ap (is_closed_at d)
          (ap (slice_index (places_of next)) d-id ∙ place-there j n ∙ ap (slice_index (places_of m)) (sym d-id))
          ∙ sym (closed-of logs (places_of m) j d e)

  -- an open tablet was open before
  open-before : is_closed q ≡ false → is_closed_logs logs (places_of m) id ≡ false
  open-before o = ⊎_elim (λ c.
      let before : is_closed_at b p.applied ≡ true =
      sym (closed-of logs (places_of m) id b there ∙ ap (is_closed_at b)
      (ap (slice_index (places_of m)) id-is ∙ place-is t.pollers m id p st.positions at)) ∙ c in
      let parts = and_parts (p.applied == length b.records) b.end.split before in
      let all : p.applied ≡ length b.records = eqb-true _ _ parts.0 in
      let within = stands.reads.checked in
      let same : q.applied ≡ length b.records = omega arith in
      let now : is_closed q ≡ true = closed-at logs q b found stands
      ∙ ap (λ e. e && b.end.split) (eq-eqb q.applied (length b.records) same) ∙ ap (λ e. true && e) parts.1 in
      absurd (true≢false (sym now ∙ o))) (λ f. f) (cases_Bool (is_closed_logs logs (places_of m) id))

  started-other : (o : Option ℕ) → (o ≡ Some id → ⊥) → is_started logs (places_of next) o ≡ is_started logs (places_of m) o
  started-other None n = refl
  started-other (Some j) n = closed-there j (λ e. n (ap Some e))

  -- one that isn't a child of it is as before
  kept : (c : AcceptedTablet) (r : PollerState) → (c.header.parent ≡ Some id → ⊥) → Polls logs m c r → Polls logs next c r
  kept c r n h = record {
    header = h.header;
    opened = h.opened ∙ sym (started-other c.header.parent n);
    waits = h.waits;
    found =
        h.found;
    stands = h.stands;
  }

  -- a child
  child-open : (c : AcceptedTablet) (r : PollerState) → c.header.parent ≡ Some id → Polls logs m c r → is_closed q ≡ false
      → Polls logs next c r
  child-open c r e h o = record {
    header = h.header;
    opened = h.opened ∙ ap (is_started logs (places_of m)) e ∙ open-before o ∙ sym o ∙ sym closed-here
        ∙ ap (is_started logs (places_of next)) (sym e);
    waits = h.waits;
    found = h.found;
    stands = h.stands;
  }

  child-closed : (s : ℕ) (c : AcceptedTablet) (r : PollerState) → accepted_tablet logs s ≡ Some c → c.header.parent ≡ Some id
      → Polls logs m c r → is_closed q ≡ true → Polls logs next c (opened q r)
  child-closed s c r e par h o =
      let started : is_started logs (places_of next) c.header.parent ≡ true = ap (is_started logs (places_of next)) par ∙ closed-here ∙ o in
      ⊎_elim
      (λ w. subst (Polls logs next c)
      (sym (ap (λ x. cond x r (before_first r.header (record q.reader.order { split = false }) q.floor true)) w))
      (record { header = h.header; opened = w ∙ sym started; waits = h.waits; found = h.found; stands = h.stands }))
      (λ w. subst (Polls logs next c)
      (sym (ap (λ x. cond x r (before_first r.header (record q.reader.order { split = false }) q.floor true)) w))
      (record {
        header = h.header;
        opened = sym started;
        waits = λ f. absurd (true≢false f);
        found = omega arith;
        stands = λ _.
            let c-id : c.header.id ≡ s = get-id logs s c st.valid e in
            let r-id : r.header.id ≡ s = ap (λ (x : Header). x.id) h.header ∙ c-id in
            let reader : q.reader.id ≡ q.header.id = sym (get-id logs q.reader.id b st.valid stands.reads.tablet) ∙ id-is ∙ sym q-id in
            opened-stands logs q r b c st.valid (ap (λ (x : Header). x.parent) h.header ∙ par ∙ ap Some (sym q-id)) reader found o stands
            (ap (accepted_tablet logs) r-id ∙ e) (sym h.header);
      }))
      (cases_Bool r.is_open)

  here : Polls logs next b q
  here = record {
    header = header ∙ old.header;
    opened = open_after ∙ sym is_open ∙ old.opened ∙ sym (started-other b.header.parent (λ e. absurd (own-parent e)));
    waits = λ f. absurd (true≢false (sym open_after ∙ f));
    found = found;
    stands = λ _. stands;
  }
    where
      own-parent : b.header.parent ≡ Some id → ⊥
      own-parent e = let u = Rattle.xc_model.proofs.Parents.get-under logs id b st.valid there id e in let l = u.below in
          omega (arith, id-is)

  -- q itself stays as it is
  opened_by-self : opened_by q q ≡ q
  opened_by-self = ⊎_elim
      (λ c. ap (λ x. cond x (opened q q) q) c
      ∙ ap (λ x. cond x q (before_first q.header (record q.reader.order { split = false }) q.floor true)) open_after)
      (λ f. ap (λ x. cond x (opened q q) q) f) (cases_Bool (is_child_of q.header.id q.header))

  one : (s : ℕ) (c : AcceptedTablet) (r : PollerState) → accepted_tablet logs s ≡ Some c → slice_get put s ≡ Some r → is_closed q ≡ true
      → Polls logs next c (opened_by q r)
  one s c r e w o = ⊎_elim
      (λ same.
      let is : q ≡ r = same_Some q r (sym (get-set-here t.pollers id p q at) ∙ ap (slice_get put) (sym same) ∙ w) in
      let own : b ≡ c = same_Some b c (sym there ∙ ap (accepted_tablet logs) (sym same) ∙ e) in
      subst (λ (r : PollerState). Polls logs next c (opened_by q r)) is
      (subst (λ (x : PollerState). Polls logs next c x) (sym opened_by-self)
      (subst (λ (c : AcceptedTablet). Polls logs next c q) own here)))
      (λ n.
      let h = st.pollers s c r e (sym (get-set-there t.pollers id s q n) ∙ w) in
      ⊎_elim
      (λ k.
      let par : c.header.parent ≡ Some id = ap (λ (x : Header). x.parent) (sym h.header) ∙ child-of q.header.id r.header k ∙ ap Some q-id in
      subst (Polls logs next c) (sym (ap (λ x. cond x (opened q r) r) k)) (child-closed s c r e par h o))
      (λ k.
      subst (Polls logs next c) (sym (ap (λ x. cond x (opened q r) r) k))
      (kept c r (λ par. true≢false (sym (named (ap (λ (x : Header). x.parent) h.header ∙ par ∙ ap Some (sym q-id))) ∙ k)) h))
      (cases_Bool (is_child_of q.header.id r.header)))
      (cases_eq s id)
    where
      named : r.header.parent ≡ Some q.header.id → is_child_of q.header.id r.header ≡ true
      named e = ap (λ o. option_map_or (λ parent. parent == q.header.id) o false) e ∙ eq-eqb q.header.id q.header.id refl

  two : (s : ℕ) (c : AcceptedTablet) (r : PollerState) → accepted_tablet logs s ≡ Some c → slice_get put s ≡ Some r → is_closed q ≡ false
      → Polls logs next c r
  two s c r e w o = ⊎_elim
      (λ same.
      let is : q ≡ r = same_Some q r (sym (get-set-here t.pollers id p q at) ∙ ap (slice_get put) (sym same) ∙ w) in
      let own : b ≡ c = same_Some b c (sym there ∙ ap (accepted_tablet logs) (sym same) ∙ e) in
      subst (λ (r : PollerState). Polls logs next c r) is (subst (λ (c : AcceptedTablet). Polls logs next c q) own here))
      (λ n.
      let h = st.pollers s c r e (sym (get-set-there t.pollers id s q n) ∙ w) in
      parented c.header.parent refl h)
      (cases_eq s id)
    where
      parented : (o' : Option ℕ) → c.header.parent ≡ o' → Polls logs m c r → Polls logs next c r
      parented None k h = kept c r (λ par. none-some id (sym k ∙ par)) h
      parented (Some j) k h = ⊎_elim (λ same. child-open c r (k ∙ ap Some same) h o)
          (λ n. kept c r (λ par. n (same_Some j id (sym k ∙ par))) h) (cases_eq j id)

  waiting : (s : ℕ) (r : PollerState) → slice_get put s ≡ Some r → Waits r
  waiting s r w = ⊎_elim
      (λ same.
      let is : q ≡ r = same_Some q r (sym (get-set-here t.pollers id p q at) ∙ ap (slice_get put) (sym same) ∙ w) in
      λ f. absurd (true≢false (sym open_after ∙ ap (λ (x : PollerState). x.is_open) is ∙ f)))
      (λ n f.
      let before : slice_get t.pollers s ≡ Some r = sym (get-set-there t.pollers id s q n) ∙ w in
      let l = slice_get_within t.pollers s r before in
      let all = Rattle.xc_target.proofs.SessionLaws.length-pollers logs m t is st in
      let c = Rattle.xc_target.proofs.SessionLaws.get-there (accepted_tablets logs) s (omega arith) in
      let h = st.pollers s c.0 r c.1 before in
      h.waits f ∙ ap new_poller (sym h.header))
      (cases_eq s id)

  ahead : Each (IsAhead logs m) t.tablets
  ahead = subst (λ o. AreKept logs m o t.tablets) (sym st.closed ∙ still_open) st.tablets

  pub polled-made : Made logs m next (record { tablets = ys; pollers = after_poll q put; cutoff = t.cutoff; closed = t.closed })
  polled-made = record {
    still_open = sym st.closed ∙ still_open;
    stands = record {
      valid = st.valid;
      cutoff = st.cutoff;
      closed = st.closed;
      positions = positions-after q put waiting ∙ map-set position_of t.pollers id q
          ∙ ap (λ w. slice_set w id (position_of q)) st.positions;
      pollers = λ s c r e w. go s c r e (is_closed q) refl w;
      tablets = subst (λ o. AreKept logs next o ys) (sym (sym st.closed ∙ still_open))
          (zip-to (IsAhead logs m) (Left logs q) (IsAhead logs next) t.tablets ys step ahead left);
    };
  }
    where
      go : (s : ℕ) (c : AcceptedTablet) (r : PollerState) → accepted_tablet logs s ≡ Some c → (o : Bool) → is_closed q ≡ o
          → slice_get (cond o (map (opened_by q) put) put) s ≡ Some r → Polls logs next c r
      go s c r e true o w = let x = get-of-map (opened_by q) put s r w in subst (Polls logs next c) x.1.1 (one s c x.0 e x.1.0 o)
      go s c r e false o w = two s c r e w o

      step : (x y : TargetTablet) → IsAhead logs m x → Left logs q x y → IsAhead logs next y
      step x y a l = record {
        stands = l.stands m.cutoff a.stands;
        places = λ s. ⊎_elim
            (λ same.
            let e : slice_index (places_of next) s ≡ q.applied = ap (slice_index (places_of next)) same ∙ place-here in
            let h : q.applied ≤ slice_index y.places s = subst (λ (i : ℕ). q.applied ≤ slice_index y.places i) (q-id ∙ sym same) l.has in
            omega arith)
            (λ n. let e = place-there s n in let f = a.places s in let g = l.grows s in omega arith)
            (cases_eq s id);
      }
