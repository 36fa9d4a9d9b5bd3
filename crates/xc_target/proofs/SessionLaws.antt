-- A target that stands for a session: its numbers, its safe time, what it shows.
use Rattle.std.proofs.Common.{◌≡◌, ℕ, zero, suc, ◌<◌, Bool, true, false, cond, not, List, [], ◌∷◌, map, length, filter, Option, Some, None}
use Rattle.std.proofs.Common.{refl, ap, sym, ◌∙◌, arith, get_or, ⊎_elim}
use Rattle.std.specs.Prelude.{◌&&◌, slice_get, slice_index}
use Rattle.std.specs.Option.{option_map, option_map_or}
use Rattle.std.proofs.lemmas.Bool.{cases_Bool}
use Rattle.std.proofs.lemmas.List.{length-map}
use Rattle.std.proofs.lemmas.Option.{slice_get-map, get_or_from_slice_get}
use Rattle.xc_record.specs.declared.record.Header.{Header}
use Rattle.xc_record.specs.declared.record.Logs.{Logs}
use Rattle.xc_record.specs.Accepted.{AcceptedTablet, accepted_tablets, accepted_tablet}
use Rattle.xc_record.specs.Lists.{least}
use Rattle.xc_record.specs.SafeTime.{place, order_at, is_closed_at, is_closed_in, is_started}
use Rattle.xc_record.specs.Session.{Position, Session, new_position, position, places_of, safe_now, IsSession}
use Rattle.xc_model.specs.Floors.{Floors, FloorFor, FloorsFor, has_closed, starts, counts}
use Rattle.xc_model.proofs.FloorLaw.{kept-values, closed-kept}
use Rattle.xc_model.proofs.Parents.{heads, heads-logs, length-logs, get-id, each-get, each-from}
use Rattle.xc_model.proofs.SessionLaws.{places-at}
use Rattle.xc_model.proofs.Tree.{IsOne, each-one, one-unsplit, empty-open}
use Rattle.xc_poller.specs.Poller.{PollerState, position_of, is_closed}
use Rattle.xc_poller.proofs.StandLaws.{closed-at}
use Rattle.xc_target.specs.Target.{TargetState, headers_of_pollers, is_low, least_open}
use Rattle.xc_target.specs.Stands.{Polls, StandsForSession}

-- ---- the numbers

-- the element there
pub get-there : {A : Type 0} (xs : List A) (i : ℕ) → i < length xs → (x : A) × (slice_get xs i ≡ Some x)
get-there [] i h = absurd (omega arith)
get-there (x ∷ xs) zero h = (x, refl)
get-there (x ∷ xs) (suc i) h = get-there xs i (omega arith)

pub position-is : (ps : List PollerState) (m : Session) (s : ℕ) (p : PollerState) → map position_of ps ≡ m.positions
    → slice_get ps s ≡ Some p → position m s ≡ position_of p
position-is ps m s p e at =
    ap (λ qs. option_map_or (λ (q : Position). q) (slice_get qs s) new_position) (sym e)
    ∙ ap (λ o. option_map_or (λ (q : Position). q) o new_position) (slice_get-map position_of ps s ∙ ap (option_map position_of) at)

pub place-is : (ps : List PollerState) (m : Session) (s : ℕ) (p : PollerState) → map position_of ps ≡ m.positions → slice_get ps s ≡ Some p
    → slice_index (places_of m) s ≡ p.applied
place-is ps m s p e at = places-at m.positions s ∙ ap (λ (q : Position). q.place) (position-is ps m s p e at)

pub length-pollers : (logs : Logs) (m : Session) (t : TargetState) → IsSession logs m → StandsForSession logs m t
    → length t.pollers ≡ length (accepted_tablets logs)
length-pollers logs m t is st =
    let a = length-map t.pollers position_of in
    let b = length-map m.positions (λ (q : Position). q.place) in
    let c = ap length st.positions in
    let d = is.places.count in
    let e = length-logs logs in
    omega arith

-- ---- the safe time

abbrev pub floors_of : List PollerState → Floors
floors_of ps = record { headers = headers_of_pollers ps; closed = map is_closed ps; safe = map (λ p. p.floor) ps }

same-heads : (bs : List AcceptedTablet) (ps : List PollerState) → length ps ≡ length bs
    → ((s : ℕ) (b : AcceptedTablet) (p : PollerState) → slice_get bs s ≡ Some b → slice_get ps s ≡ Some p → p.header ≡ b.header)
    → headers_of_pollers ps ≡ heads bs
same-heads [] [] l h = refl
same-heads [] (p ∷ ps) l h = absurd (omega arith)
same-heads (b ∷ bs) [] l h = absurd (omega arith)
same-heads (b ∷ bs) (p ∷ ps) l h =
    let head : p.header ≡ b.header = h zero b p refl refl in
    let tail : headers_of_pollers ps ≡ heads bs = same-heads bs ps (omega arith) (λ s b p. h (suc s) b p) in
    cc

pub read-map : {A B : Type 0} (f : A → B) (xs : List A) (i : ℕ) (x : A) (d : B) → slice_get xs i ≡ Some x → get_or (map f xs) i d ≡ f x
read-map f xs i x d e = get_or_from_slice_get (map f xs) i (f x) d (slice_get-map f xs i ∙ ap (option_map f) e)

least-same : (g : Header → ℕ) (q : Header → Bool) (ps : List PollerState)
    → ((s : ℕ) (p : PollerState) → slice_get ps s ≡ Some p → (q p.header ≡ is_low p) × (g p.header ≡ p.floor))
    → least (map g (filter q (headers_of_pollers ps))) ≡ least_open ps
least-same g q [] h = refl
least-same g q (p ∷ ps) h =
    let here = h zero p refl in
    let rest : least (map g (filter q (headers_of_pollers ps))) ≡ least_open ps = least-same g q ps (λ s p. h (suc s) p) in
    ap (λ o. least (map g (cond o (p.header ∷ filter q (headers_of_pollers ps)) (filter q (headers_of_pollers ps))))) here.0
    ∙ go (is_low p) here.1 rest
  where
    go : (o : Bool) → g p.header ≡ p.floor → least (map g (filter q (headers_of_pollers ps))) ≡ least_open ps
        → least (map g (cond o (p.header ∷ filter q (headers_of_pollers ps)) (filter q (headers_of_pollers ps)))) ≡ least
        (map (λ (p : PollerState). p.floor) (cond o (p ∷ filter is_low ps) (filter is_low ps)))
    go true here rest = omega arith
    go false here rest = rest

module _ (logs : Logs) (m : Session) (t : TargetState) (is : IsSession logs m) (st : StandsForSession logs m t) where
  pub poller-there : (s : ℕ) (b : AcceptedTablet) → accepted_tablet logs s ≡ Some b
      → (p : PollerState) × ((slice_get t.pollers s ≡ Some p) × Polls logs m b p)
  poller-there s b e =
      let long = length-pollers logs m t is st in
      let low : s < length (accepted_tablets logs) = within (accepted_tablets logs) s b e in
      let found = get-there t.pollers s (omega arith) in
      (found.0, (found.1, st.pollers s b found.0 e found.1))
    where
      within : {A : Type 0} (xs : List A) (i : ℕ) (x : A) → slice_get xs i ≡ Some x → i < length xs
      within [] i x e = cc
      within (x ∷ xs) zero y e = omega arith
      within (x ∷ xs) (suc i) y e = let h : i < length xs = within xs i y e in omega arith

  -- a poller has its tablet as closed where it is
  pub closed-is : (s : ℕ) (b : AcceptedTablet) (p : PollerState) → accepted_tablet logs s ≡ Some b → slice_get t.pollers s ≡ Some p
      → is_closed p ≡ is_closed_in (places_of m) b
  closed-is s b p e at =
      let polls = st.pollers s b p e at in
      let id : b.header.id ≡ s = get-id logs s b st.valid e in
      let place_is : place (places_of m) b ≡ p.applied = ap (slice_index (places_of m)) id ∙ place-is t.pollers m s p st.positions at in
      ⊎_elim
      (λ o. closed-at logs p b polls.found (polls.stands o) ∙ ap (is_closed_at b) (sym place_is))
      (λ w.
      let new = polls.waits w in
      let one : IsOne (accepted_tablets logs) b = each-get (IsOne (accepted_tablets logs)) (accepted_tablets logs) s b
      (each-one logs st.valid) e in
      ap is_closed new ∙ sym
      (empty-open (places_of m) b one.grown (one-unsplit (accepted_tablets logs) b one)
      (place_is ∙ ap (λ (p : PollerState). p.applied) new)))
      (cases_Bool p.is_open)

  pub floors-for : FloorsFor logs (places_of m) (floors_of t.pollers)
  floors-for = record {
    headers = same-heads (accepted_tablets logs) t.pollers (length-pollers logs m t is st) (λ s b p e at. (st.pollers s b p e at).header)
        ∙ heads-logs logs;
    closed = length-map t.pollers is_closed ∙ sym (length-map t.pollers (λ (p : PollerState). p.header));
    safe = length-map t.pollers (λ (p : PollerState). p.floor) ∙ sym (length-map t.pollers (λ (p : PollerState). p.header));
    each = each-from (FloorFor logs (places_of m) (floors_of t.pollers)) (accepted_tablets logs) (λ s b e.
        let found = poller-there s b e in
        let p = found.0 in
        let polls = found.1.1 in
        let id : b.header.id ≡ s = get-id logs s b st.valid e in
        let place_is : place (places_of m) b ≡ p.applied = ap (slice_index (places_of m)) id
        ∙ place-is t.pollers m s p st.positions found.1.0 in
        record {
          closed = ap (has_closed (floors_of t.pollers)) id ∙ read-map is_closed t.pollers s p false found.1.0
              ∙ closed-is s b p e found.1.0;
          safe = λ started. ap (slice_index (map (λ (p : PollerState). p.floor) t.pollers)) id
              ∙ read-map (λ (p : PollerState). p.floor) t.pollers s p 0 found.1.0
              ∙ (polls.stands (polls.opened ∙ started)).floor ∙ ap (λ n. (order_at b n).floor) (sym place_is);
        });
  }

  started-is : (q : Option ℕ) → option_map_or (has_closed (floors_of t.pollers)) q true ≡ is_started logs (places_of m) q
  started-is None = refl
  started-is (Some p) = closed-kept logs (places_of m) (floors_of t.pollers) st.valid is.places floors-for p

  pub safe-is : least_open t.pollers ≡ safe_now logs m
  safe-is =
      sym (least-same (λ h. slice_index (floors_of t.pollers).safe h.id) (counts (floors_of t.pollers)) t.pollers (λ s p at.
      let low : s < length t.pollers = within t.pollers s p at in
      let long = length-pollers logs m t is st in
      let there = get-there (accepted_tablets logs) s (omega arith) in
      let b = there.0 in
      let polls = st.pollers s b p there.1 at in
      let id : p.header.id ≡ s = ap (λ (h : Header). h.id) polls.header ∙ get-id logs s b st.valid there.1 in
      let closed : has_closed (floors_of t.pollers) p.header.id ≡ is_closed p = ap (has_closed (floors_of t.pollers)) id
      ∙ read-map is_closed t.pollers s p false at in
      let started : starts (floors_of t.pollers) p.header ≡ p.is_open = ap (starts (floors_of t.pollers)) polls.header
      ∙ started-is b.header.parent ∙ sym polls.opened in (
        swapped (has_closed (floors_of t.pollers) p.header.id) (is_closed p)
            (starts (floors_of t.pollers) p.header) p.is_open closed started,
        ap (slice_index (map (λ (p : PollerState). p.floor) t.pollers)) id ∙ read-map (λ (p : PollerState). p.floor) t.pollers s p 0 at,
      )))
      ∙ kept-values logs (places_of m) (floors_of t.pollers) st.valid is.places floors-for
    where
      within : {A : Type 0} (xs : List A) (i : ℕ) (x : A) → slice_get xs i ≡ Some x → i < length xs
      within [] i x e = cc
      within (x ∷ xs) zero y e = omega arith
      within (x ∷ xs) (suc i) y e = let h : i < length xs = within xs i y e in omega arith

      both : (x y : Bool) → (not x && y) ≡ (y && not x)
      both x y = grind arith

      swapped : (c d s o : Bool) → c ≡ d → s ≡ o → (not c && s) ≡ (o && not d)
      swapped c d s o e f = both c s ∙ ap (λ w. w && not c) f ∙ ap (λ w. o && not w) e
