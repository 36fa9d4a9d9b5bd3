-- What a target keeps of a session where one poller changed, or its tablets did.
use Rattle.std.proofs.Common.{◌≡◌, ◌≢◌, ℕ, zero, suc, ◌≤◌, List, [], ◌∷◌, map, length, max, Option, Some, None, refl, ap, sym, ◌∙◌, subst}
use Rattle.std.proofs.Common.{arith, ⊎_elim, ◌<◌, get_or}
use Rattle.std.specs.Prelude.{slice_get, slice_index, slice_set}
use Rattle.std.specs.List.{AllZip}
use Rattle.std.proofs.lemmas.Bool.{cases_eq}
use Rattle.std.proofs.lemmas.List.{map-set, set-get_or}
use Rattle.std.proofs.lemmas.List.Elements.{length_all_zip}
use Rattle.std.proofs.lemmas.Option.{same_Some, slice_get_read}
use Rattle.xc_record.specs.declared.record.Header.{Header}
use Rattle.xc_record.specs.declared.record.Logs.{Logs}
use Rattle.xc_record.specs.Accepted.{AcceptedTablet, accepted_tablet}
use Rattle.xc_record.specs.SafeTime.{is_started}
use Rattle.xc_record.specs.Session.{Position, Session, position, places_of, safe_now, IsSession}
use Rattle.xc_record.specs.Step.{with_position, acknowledge, set_back}
use Rattle.xc_record.specs.Kept.{KeyVersion, KeyWaiting}
use Rattle.xc_record.proofs.ListLaws.{Each}
use Rattle.xc_model.specs.Rows.{range_of}
use Rattle.xc_model.specs.Floors.{has_started}
use Rattle.xc_model.specs.Stands.{TargetTablet, StandsFor as TabletStandsFor, KeepsFrom, restore, covers}
use Rattle.xc_model.proofs.FloorLaw.{safe-rises}
use Rattle.xc_model.proofs.KeepLaws.{cutoffs-keep}
use Rattle.xc_poller.specs.Poller.{PollerState, position_of, confirmed, restarted}
use Rattle.xc_poller.specs.Polled.{CanPoll}
use Rattle.xc_tablet.proofs.Zips.{zip-to}
use Rattle.xc_change.specs.Reader.{FitsFeed as ReaderFits}
use Rattle.xc_target.specs.declared.target.Target.TheInside.{Inside as TargetFields}
use Rattle.xc_target.specs.Target.{TargetState, headers_of_pollers, FitsFeed}
use Rattle.xc_target.specs.Stands.{IsAhead, WasAhead, AreKept, Polls, StandsForSession}
use Rattle.xc_target.specs.Answers.{Made, KeepsAlone}
use Rattle.xc_target.proofs.SessionLaws.{place-is, position-is}

-- what contracts see of a target's fields
abbrev pub seen : TargetFields → TargetState
seen t = record { tablets = t.tablets.items; pollers = t.pollers.items; cutoff = t.retention; closed = t.closed }

-- the poller that is read there
pub poller-read : (t now : TargetState) (id : ℕ) (p : PollerState) → t ≡ now → id < length now.pollers → p ≡ get_or t.pollers id p
    → slice_get t.pollers id ≡ Some p
poller-read t now id p view known here =
    slice_get_read t.pollers (length t.pollers) id p refl (subst (λ (w : TargetState). id < length w.pollers) (sym view) known) here

-- ---- lists

pub each-put : {A : Type 0} (P : A → Type 0) (xs : List A) (i : ℕ) (p q : A) → slice_get xs i ≡ Some p → (P p → P q) → Each P xs
    → Each P (slice_set xs i q)
each-put P [] i p q e f h = h
each-put P (x ∷ xs) zero p q e f h = (f (subst P (same_Some x p e) h.0), h.1)
each-put P (x ∷ xs) (suc i) p q e f h = (h.0, each-put P xs i p q e f h.1)

pub get-set-here : {A : Type 0} (xs : List A) (i : ℕ) (p q : A) → slice_get xs i ≡ Some p → slice_get (slice_set xs i q) i ≡ Some q
get-set-here [] i p q e = cc
get-set-here (x ∷ xs) zero p q e = refl
get-set-here (x ∷ xs) (suc i) p q e = get-set-here xs i p q e

pub get-set-there : {A : Type 0} (xs : List A) (i j : ℕ) (q : A) → j ≢ i → slice_get (slice_set xs i q) j ≡ slice_get xs j
get-set-there [] i j q n = refl
get-set-there (x ∷ xs) zero zero q n = absurd (n refl)
get-set-there (x ∷ xs) zero (suc j) q n = refl
get-set-there (x ∷ xs) (suc i) zero q n = refl
get-set-there (x ∷ xs) (suc i) (suc j) q n = get-set-there xs i j q (λ e. n (ap (λ (k : ℕ). suc k) e))

pub headers-put : (ps : List PollerState) (i : ℕ) (p q : PollerState) → slice_get ps i ≡ Some p → q.header ≡ p.header
    → headers_of_pollers (slice_set ps i q) ≡ headers_of_pollers ps
headers-put [] i p q e f = refl
headers-put (x ∷ xs) zero p q e f = let h : q.header ≡ x.header = f ∙ ap (λ (p : PollerState). p.header) (sym (same_Some x p e)) in cc
headers-put (x ∷ xs) (suc i) p q e f = ap (λ hs. x.header ∷ hs) (headers-put xs i p q e f)

-- ---- the session's numbers

-- what is kept of tablets and pollers speaks of the session's places and cutoff alone
pub ahead-same : (logs : Logs) (m n : Session) (x : TargetTablet) → n.cutoff ≡ m.cutoff → places_of n ≡ places_of m → IsAhead logs m x
    → IsAhead logs n x
ahead-same logs m n x c e a = record {
  stands = subst (λ (u : ℕ). TabletStandsFor logs u x) (sym c) a.stands;
  places = λ s. subst (λ (w : List ℕ). slice_index w s ≤ slice_index x.places s) (sym e) (a.places s);
}

pub each-to : {A : Type 0} (P Q : A → Type 0) → ((x : A) → P x → Q x) → (xs : List A) → Each P xs → Each Q xs
each-to P Q f [] h = tt
each-to P Q f (x ∷ xs) h = (f x h.0, each-to P Q f xs h.1)

pub polls-same : (logs : Logs) (m n : Session) (b : AcceptedTablet) (p : PollerState) → places_of n ≡ places_of m → Polls logs m b p
    → Polls logs n b p
polls-same logs m n b p e h = record {
  header = h.header;
  opened = h.opened ∙ ap (λ (w : List ℕ). is_started logs w b.header.parent) (sym e);
  waits = h.waits;
  found = h.found;
  stands = h.stands;
}

-- ---- one poller

module _ (logs : Logs) (m : Session) (t : TargetState) (id : ℕ) (p q : PollerState) (st : StandsForSession logs m t)
    (open_ : t.closed ≡ None) (at : slice_get t.pollers id ≡ Some p)
    (place : q.applied ≡ p.applied)
    (kept : (b : AcceptedTablet) → accepted_tablet logs id ≡ Some b → Polls logs m b p → Polls logs m b q) where
  abbrev put : TargetState
  put = record t { pollers = slice_set t.pollers id q }

  abbrev moved_to : Session
  moved_to = with_position id (position_of q) m

  places : places_of moved_to ≡ places_of m
  places = map-set (λ (p : Position). p.place) m.positions id (position_of q)
      ∙ ap (slice_set (places_of m) id) (place ∙ sym (place-is t.pollers m id p st.positions at)) ∙ set-get_or (places_of m) id 0

  still-open : m.closed ≡ None
  still-open = sym st.closed ∙ open_

  poller-kept : (s : ℕ) (b : AcceptedTablet) (r : PollerState) → accepted_tablet logs s ≡ Some b
      → slice_get (slice_set t.pollers id q) s ≡ Some r → Polls logs m b r
  poller-kept s b r e there =
      ⊎_elim
      (λ same.
      let here : slice_get (slice_set t.pollers id q) id ≡ Some r = ap (slice_get (slice_set t.pollers id q)) (sym same) ∙ there in
      let is : q ≡ r = same_Some q r (sym (get-set-here t.pollers id p q at) ∙ here) in
      subst (Polls logs m b) is
      (kept b (ap (accepted_tablet logs) (sym same) ∙ e) (st.pollers s b p e (ap (slice_get t.pollers) same ∙ at))))
      (λ n. st.pollers s b r e (sym (get-set-there t.pollers id s q n) ∙ there)) (cases_eq s id)

  pub poller-moved : Made logs m moved_to put
  poller-moved = record {
    still_open = still-open;
    stands = record {
      valid = st.valid;
      cutoff = st.cutoff;
      closed = st.closed;
      positions = map-set position_of t.pollers id q ∙ ap (λ w. slice_set w id (position_of q)) st.positions;
      pollers = λ s b r e there. polls-same logs m moved_to b r places (poller-kept s b r e there);
      tablets = tablets;
    };
  }
    where
      tablets : AreKept logs moved_to m.closed t.tablets
      tablets = subst (λ o. AreKept logs moved_to o t.tablets) (sym still-open)
          (each-to (IsAhead logs m) (IsAhead logs moved_to) (λ x a. ahead-same logs m moved_to x refl places a) t.tablets
          (subst (λ o. AreKept logs m o t.tablets) still-open st.tablets))

-- ---- acknowledged, and restarted

pub confirmed-polls : (logs : Logs) (m : Session) (b : AcceptedTablet) (p : PollerState) → Polls logs m b p → Polls logs m b (confirmed p)
confirmed-polls logs m b p h = record {
  header = h.header;
  opened = h.opened;
  waits = λ w. ap confirmed (h.waits w);
  found = h.found;
  stands = λ o. let s = h.stands o in record { reads = s.reads; floor = s.floor };
}

pub restarted-polls : (logs : Logs) (m : Session) (b : AcceptedTablet) (p : PollerState) → Polls logs m b p → Polls logs m b (restarted p)
restarted-polls logs m b p h = record {
  header = h.header;
  opened = h.opened;
  waits = λ w. ap restarted (h.waits w);
  found = h.found;
  stands = λ o. let s = h.stands o in let r = s.reads in
      record { reads = record { tablet = r.tablet; reached = r.reached; checked = r.checked; order = r.order }; floor = s.floor };
}

-- a poller of an open target, as a call reads it
module _ (t now : TargetState) (id : ℕ) (p q : PollerState) (view : t ≡ now) (open_ : t.closed ≡ None) (known : id < length now.pollers)
    (here : p ≡ get_or t.pollers id p) where
  abbrev put_back : TargetState
  put_back = record t { pollers = slice_set t.pollers id q }

  at : slice_get t.pollers id ≡ Some p
  at = poller-read t now id p view known here

  -- its position became another one, of which the answer tells
  is-placed : (logs : Logs) (m : Session) → StandsForSession logs m now → (told : Position → ℕ) (after : Position → Position) (place : ℕ)
      → place ≡ told (position_of p) → position_of q ≡ after (position_of p) → q.applied ≡ p.applied
      → ((b : AcceptedTablet) → Polls logs m b p → Polls logs m b q)
      → (place ≡ told (position m id)) × Made logs m (with_position id (after (position m id)) m) put_back
  is-placed logs m st told after place e moves applied kept =
      let stood = subst (StandsForSession logs m) (sym view) st in
      let now_at = position-is t.pollers m id p stood.positions at in (
        e ∙ ap told (sym now_at),
        subst (λ (w : Position). Made logs m (with_position id w m) put_back) (moves ∙ ap after (sym now_at))
            (poller-moved logs m t id p q stood open_ at applied (λ b _. kept b)),
      )

  pub is-acknowledged : (logs : Logs) (m : Session) → StandsForSession logs m now → (place : ℕ) → place ≡ p.reader.cursor → q ≡ confirmed p
      → (place ≡ (position m id).cursor) × Made logs m (with_position id (acknowledge (position m id)) m) put_back
  is-acknowledged logs m st place e f =
      is-placed logs m st (λ (w : Position). w.cursor) acknowledge place e (ap position_of f) (ap (λ (p : PollerState). p.applied) f)
      (λ b h. subst (Polls logs m b) (sym f) (confirmed-polls logs m b p h))

  pub is-restarted : (logs : Logs) (m : Session) → StandsForSession logs m now → (place : ℕ) → place ≡ p.acknowledged → q ≡ restarted p
      → (place ≡ (position m id).acknowledged) × Made logs m (with_position id (set_back (position m id)) m) put_back
  is-restarted logs m st place e f =
      is-placed logs m st (λ (w : Position). w.acknowledged) set_back place e (ap position_of f) (ap (λ (p : PollerState). p.applied) f)
      (λ b h. subst (Polls logs m b) (sym f) (restarted-polls logs m b p h))

-- ---- feeds

pub same-can : (headers : List Header) (counts : List ℕ) (p q : PollerState) (x : TargetTablet) → q.header ≡ p.header
    → q.applied ≡ p.applied → q.is_open ≡ p.is_open → CanPoll headers counts p x → CanPoll headers counts q x
same-can headers counts p q x h a o c = record {
  fits = c.fits;
  flags = c.flags;
  childless = c.childless;
  applied = subst (λ (n : ℕ). n ≤ slice_index x.places q.header.id) (sym a)
      (subst (λ (w : Header). p.applied ≤ slice_index x.places w.id) (sym h) c.applied);
  started = λ is. ap (λ (w : Header). has_started x.floors w.id) h ∙ c.started (sym o ∙ is);
}

fits-put : (headers : List Header) (counts : List ℕ) (t : TargetState) (id : ℕ) (p q : PollerState) → slice_get t.pollers id ≡ Some p
    → q.header ≡ p.header → q.applied ≡ p.applied → q.is_open ≡ p.is_open
    → q.reader.id ≡ p.reader.id → (ReaderFits headers counts p.reader → ReaderFits headers counts q.reader) → FitsFeed headers counts t
    → FitsFeed headers counts (record t { pollers = slice_set t.pollers id q })
fits-put headers counts t id p q at h a o n r f = record {
  headers_are = headers-put t.pollers id p q at h ∙ f.headers_are;
  numbers = each-put (λ (p : PollerState). p.reader.id ≡ p.header.id) t.pollers id p q at
      (λ e. n ∙ e ∙ ap (λ (w : Header). w.id) (sym h)) f.numbers;
  readers = each-put (λ (p : PollerState). ReaderFits headers counts p.reader) t.pollers id p q at r f.readers;
  tablets = each-to (λ x. Each (λ p. CanPoll headers counts p x) t.pollers)
      (λ x. Each (λ p. CanPoll headers counts p x) (slice_set t.pollers id q))
      (λ x w. each-put (λ p. CanPoll headers counts p x) t.pollers id p q at (same-can headers counts p q x h a o) w) t.tablets f.tablets;
}

-- a poller that went to another place of those that were looked at, or begins at another one again
fits-placed : (headers : List Header) (counts : List ℕ) (t : TargetState) (id : ℕ) (p q : PollerState) (cursor acknowledged : ℕ)
    → slice_get t.pollers id ≡ Some p
    → q ≡ record p { reader = record p.reader { cursor = cursor }; acknowledged = acknowledged }
    → (ReaderFits headers counts p.reader → ReaderFits headers counts q.reader) → FitsFeed headers counts t
    → FitsFeed headers counts (record t { pollers = slice_set t.pollers id q })
fits-placed headers counts t id p q cursor acknowledged at is =
    fits-put headers counts t id p q at (ap (λ (p : PollerState). p.header) is) (ap (λ (p : PollerState). p.applied) is)
    (ap (λ (p : PollerState). p.is_open) is) (ap (λ (p : PollerState). p.reader.id) is)

-- so the target keeps what it keeps in a call that asks no feed
pub keeps-placed : (t s : TargetState) (id : ℕ) (p q : PollerState) (cursor acknowledged : ℕ) → t ≡ s → slice_get t.pollers id ≡ Some p
    → q ≡ record p { reader = record p.reader { cursor = cursor }; acknowledged = acknowledged }
    → ((headers : List Header) (counts : List ℕ) → ReaderFits headers counts p.reader → ReaderFits headers counts q.reader)
    → KeepsAlone s (record t { pollers = slice_set t.pollers id q })
keeps-placed t s id p q cursor acknowledged is at made reader = record {
  fits = λ headers counts f.
      fits-placed headers counts t id p q cursor acknowledged at made (reader headers counts) (subst (FitsFeed headers counts) (sym is) f);
  ranges = ap (λ (t : TargetState). map range_of t.tablets) is;
}

-- what a tablet keeps of its floors and places
can-kept : (headers : List Header) (counts : List ℕ) (p : PollerState) (x : TargetTablet) (vs : List KeyVersion) (hs : List KeyWaiting)
    → CanPoll headers counts p x → CanPoll headers counts p (record x { versions = vs; held = hs })
can-kept headers counts p x vs hs c = let f = c.fits in record {
  fits = record { same = f.same; within = f.within; ends = f.ends };
  flags = c.flags;
  childless = c.childless;
  applied = c.applied;
  started = c.started;
}

-- ---- every tablet

-- only versions and what waits changed
abbrev pub Thins : TargetTablet → TargetTablet → Type 0
Thins x y = (vs : List KeyVersion) × ((hs : List KeyWaiting) × (y ≡ record x { versions = vs; held = hs }))

pub keeps-thins : (w : ℕ) (x y : TargetTablet) → KeepsFrom w x y → Thins x y
keeps-thins w x y k = (y.versions, (x.held, k.rest))

pub restore-thins : (t : ℕ) (x y : TargetTablet) → y ≡ restore t x → Thins x y
restore-thins t x y e = ((restore t x).versions, ([], e))

pub ranges-thin : (R : TargetTablet → TargetTablet → Type 0) → ((x y : TargetTablet) → R x y → Thins x y) → (xs ys : List TargetTablet)
    → AllZip R xs ys → map range_of ys ≡ map range_of xs
ranges-thin R f [] [] z = refl
ranges-thin R f [] (y ∷ ys) z = absurd z
ranges-thin R f (x ∷ xs) [] z = absurd z
ranges-thin R f (x ∷ xs) (y ∷ ys) z =
    let e = (f x y z.0).1.1 in
    let head : range_of y ≡ range_of x = ap range_of e in
    let tail : map range_of ys ≡ map range_of xs = ranges-thin R f xs ys z.1 in
    cc

pub length-thin : (R : TargetTablet → TargetTablet → Type 0) (xs ys : List TargetTablet) → AllZip R xs ys → length ys ≡ length xs
length-thin R xs ys z = sym (length_all_zip R xs ys z)

fits-thin : (headers : List Header) (counts : List ℕ) (t : TargetState) (R : TargetTablet → TargetTablet → Type 0)
    → ((x y : TargetTablet) → R x y → Thins x y) → (ys : List TargetTablet) (w : ℕ) (o : Option ℕ)
    → AllZip R t.tablets ys → FitsFeed headers counts t → FitsFeed headers counts
    (record { tablets = ys; pollers = t.pollers; cutoff = w; closed = o })
fits-thin headers counts t R thin ys w o z f = record {
  headers_are = f.headers_are;
  numbers = f.numbers;
  readers = f.readers;
  tablets = zip-to (λ x. Each (λ p. CanPoll headers counts p x) t.pollers) R
      (λ x. Each (λ p. CanPoll headers counts p x) t.pollers) t.tablets ys
      (λ x y h r. let e = thin x y r in
      each-to (λ p. CanPoll headers counts p x) (λ p. CanPoll headers counts p y)
      (λ p c. subst (λ (z : TargetTablet). CanPoll headers counts p z) (sym e.1.1)
      (can-kept headers counts p x e.0 e.1.0 c)) t.pollers h)
      f.tablets z;
}

pub keeps-thin : (t s : TargetState) (R : TargetTablet → TargetTablet → Type 0) → ((x y : TargetTablet) → R x y → Thins x y)
    → (ys : List TargetTablet) (w : ℕ) (o : Option ℕ) → t ≡ s → AllZip R t.tablets ys
    → KeepsAlone s (record { tablets = ys; pollers = t.pollers; cutoff = w; closed = o })
keeps-thin t s R thin ys w o is z = record {
  fits = λ headers counts f. fits-thin headers counts t R thin ys w o z (subst (FitsFeed headers counts) (sym is) f);
  ranges = ranges-thin R thin t.tablets ys z ∙ ap (λ (t : TargetState). map range_of t.tablets) is;
}

-- up to the safe time of the session each tablet can be read
pub covers-safe : (logs : Logs) (m : Session) (x : TargetTablet) → IsAhead logs m x → safe_now logs m ≤ covers logs x
covers-safe logs m x a = safe-rises logs (places_of m) x.places a.stands.places a.places

module _ (logs : Logs) (m : Session) (t : TargetState) (is : IsSession logs m) (st : StandsForSession logs m t)
    (open_ : t.closed ≡ None) where
  abbrev not-closed : m.closed ≡ None
  not-closed = sym st.closed ∙ open_

  ahead : Each (IsAhead logs m) t.tablets
  ahead = subst (λ o. AreKept logs m o t.tablets) (sym st.closed ∙ open_) st.tablets

  pub stays-open : Made logs m m t
  stays-open = record { still_open = sym st.closed ∙ open_; stands = st }

  pub is-pruned : (u w : ℕ) (ys : List TargetTablet) → u ≤ safe_now logs m → w ≡ max t.cutoff u → AllZip (KeepsFrom w) t.tablets ys
      → (w ≡ max m.cutoff u) × Made logs m (record m { cutoff = max m.cutoff u })
      (record { tablets = ys; pollers = t.pollers; cutoff = w; closed = t.closed })
  is-pruned u w ys low e z =
      let same : w ≡ max m.cutoff u = e ∙ ap (λ v. max v u) st.cutoff in
      let n : Session = record m { cutoff = max m.cutoff u } in (
        same,
        record {
          still_open = sym st.closed ∙ open_;
          stands = record {
            valid = st.valid;
            cutoff = same;
            closed = st.closed;
            positions = st.positions;
            pollers = λ s b p at there. polls-same logs m n b p refl (st.pollers s b p at there);
            tablets = subst (λ o. AreKept logs n o ys) (sym (sym st.closed ∙ open_))
                (zip-to (IsAhead logs m) (KeepsFrom w) (IsAhead logs n) t.tablets ys (λ x y a k. one same x y a k) ahead z);
          };
        },
      )
    where
      one : w ≡ max m.cutoff u → (x y : TargetTablet) → IsAhead logs m x → KeepsFrom w x y
          → IsAhead logs (record m { cutoff = max m.cutoff u }) y
      one same x y a k =
          let c = covers-safe logs m x a in
          let before = is.cutoff in
          let high : w ≤ covers logs x = omega arith in
          let top : max m.cutoff w ≡ max m.cutoff u = omega arith in
          let places : y.places ≡ x.places = ap (λ (z : TargetTablet). z.places) k.rest in
          record {
            stands = subst (λ (v : ℕ). TabletStandsFor logs v y) top (cutoffs-keep logs x y m.cutoff w a.stands high k);
            places = λ s. subst (λ (v : List ℕ). slice_index (places_of m) s ≤ slice_index v s) (sym places) (a.places s);
          }

  pub is-closed : (at : ℕ) (ys : List TargetTablet) → at ≡ safe_now logs m → AllZip (λ x y. y ≡ restore at x) t.tablets ys
      → (at ≡ safe_now logs m) × Made logs m (record m { closed = Some at })
      (record { tablets = ys; pollers = t.pollers; cutoff = t.cutoff; closed = Some at })
  is-closed at ys e z =
      let n : Session = record m { closed = Some at } in (
        e,
        record {
          still_open = sym st.closed ∙ open_;
          stands = record {
            valid = st.valid;
            cutoff = st.cutoff;
            closed = refl;
            positions = st.positions;
            pollers = λ s b p here there. polls-same logs m n b p refl (st.pollers s b p here there);
            tablets = zip-to (IsAhead logs m) (λ x y. y ≡ restore at x) (WasAhead logs n at) t.tablets ys (λ x y a r.
                let c = covers-safe logs m x a in
                let before = is.cutoff in
                record {
                  before = x;
                  ahead = ahead-same logs m n x refl refl a;
                  restored = record { stood = a.stands; after_cutoff = omega arith; covered = omega arith; is = r };
                }) ahead z;
          };
        },
      )
