-- After a poll the target fits each feed that it fitted before.
use Rattle.std.proofs.Common.{◌≡◌, ℕ, zero, suc, ◌<◌, true, false, cond, List, [], ◌∷◌, map, length, Option, Some, None, refl, ap, sym, ◌∙◌}
use Rattle.std.proofs.Common.{subst, arith, get_or, ⊎_elim, zero-add}
use Rattle.std.specs.Prelude.{◌==◌, is_some, slice_get, slice_index, slice_set}
use Rattle.std.specs.List.{AllZip}
use Rattle.std.specs.Option.{option_map, option_map_or}
use Rattle.std.proofs.lemmas.Bool.{cases_Bool, cases_lt, true≢false, and_parts, eqb-true}
use Rattle.std.proofs.lemmas.List.{get_or_past}
use Rattle.std.proofs.lemmas.Option.{slice_get-map}
use Rattle.xc_record.specs.declared.record.Header.{Header}
use Rattle.xc_record.specs.declared.record.Logs.{Logs}
use Rattle.xc_record.specs.Headers.{children, is_child_of}
use Rattle.xc_record.proofs.HeaderLaws.{Numbered-at}
use Rattle.xc_record.proofs.ListLaws.{Each}
use Rattle.xc_model.specs.Floors.{has_closed, has_started, starts}
use Rattle.xc_model.specs.Stands.{TargetTablet}
use Rattle.xc_model.proofs.Parents.{each-get}
use Rattle.xc_logs.specs.Feed.{IsFeed}
use Rattle.xc_change.specs.Reader.{FitsFeed as ReaderFits}
use Rattle.xc_poller.specs.Poller.{PollerState, is_closed, opened, before_first}
use Rattle.xc_poller.specs.Polled.{CanPoll}
use Rattle.xc_target.specs.Target.{TargetState, headers_of_pollers, opened_by, FitsFeed, Opens}
use Rattle.xc_target.proofs.MoveLaws.{headers-put}
use Rattle.xc_target.proofs.NewLaws.{numbered-headers}
use Rattle.xc_target.proofs.PollLaws.{Grows, child-of}

module _ (hs : List Header) (cs : List ℕ) (p q : PollerState) (x y : TargetTablet) (c : CanPoll hs cs p x) (d : CanPoll hs cs q y)
    (g : Grows x y) where
  closed-stays : (j : ℕ) → has_closed x.floors j ≡ true → has_closed y.floors j ≡ true
  closed-stays j h =
      let low : j < length hs =
      ⊎_elim (λ l. l) (λ m. let long = c.flags in let none : get_or x.floors.closed j false ≡ false =
      get_or_past x.floors.closed j false (omega arith) in absurd (true≢false (sym h ∙ none))) (cases_lt j (length hs)) in
      let some : is_some (children hs j) ≡ true = ⊎_elim (λ t. t) (λ f. absurd (true≢false (sym h ∙ c.childless j f)))
      (cases_Bool (is_some (children hs j))) in
      let here : slice_index x.places j ≡ slice_index cs j = (c.fits.ends j low some).0 h in
      let up = g j in
      let top = d.fits.within j in
      (d.fits.ends j low some).1 (omega arith)

  started-stays : (j : ℕ) → has_started x.floors j ≡ true → has_started y.floors j ≡ true
  started-stays j h = go (slice_get hs j) refl
    where
      parent : (o : Option ℕ) → option_map_or (has_closed x.floors) o true ≡ true → option_map_or (has_closed y.floors) o true ≡ true
      parent None e = refl
      parent (Some k) e = closed-stays k e

      go : (o : Option Header) → slice_get hs j ≡ o → has_started y.floors j ≡ true
      go None e = absurd (true≢false
          (sym h ∙ ap (λ w. option_map_or (starts x.floors) (slice_get w j) false) c.fits.same
          ∙ ap (λ o. option_map_or (starts x.floors) o false) e))
      go (Some k) e =
          let before : starts x.floors k ≡ true =
          sym (ap (λ w. option_map_or (starts x.floors) (slice_get w j) false) c.fits.same
          ∙ ap (λ o. option_map_or (starts x.floors) o false) e) ∙ h in
          ap (λ w. option_map_or (starts y.floors) (slice_get w j) false) d.fits.same ∙ ap (λ o. option_map_or (starts y.floors) o false) e
          ∙ parent k.parent before

  -- another poller
  other-can : (r : PollerState) → CanPoll hs cs r x → CanPoll hs cs r y
  other-can r e = record {
    fits = d.fits;
    flags = d.flags;
    childless = d.childless;
    applied = let a = e.applied in let b = g r.header.id in omega arith;
    started = λ o. started-stays r.header.id (e.started o);
  }

-- ---- all pollers

module _ (hs : List Header) (cs : List ℕ) (logs : Option Logs) (feed : IsFeed hs cs logs) (t : TargetState) (id : ℕ) (p q : PollerState)
    (at : slice_get t.pollers id ≡ Some p) (header : q.header ≡ p.header)
    (reader : q.reader.id ≡ p.reader.id) (fits : ReaderFits hs cs q.reader) (old : FitsFeed hs cs t) (ys : List TargetTablet)
    (can : Each (CanPoll hs cs q) ys) (grows : AllZip Grows t.tablets ys) where
  abbrev put : List PollerState
  put = slice_set t.pollers id q

  each-but : (P : PollerState → Type 0) → P q → Each P t.pollers → Each P put
  each-but P h e = go t.pollers id e
    where
      go : (ps : List PollerState) (i : ℕ) → Each P ps → Each P (slice_set ps i q)
      go [] i e = e
      go (r ∷ ps) zero e = (h, e.1)
      go (r ∷ ps) (suc i) e = (e.0, go ps i e.1)

  numbers : Each (λ p. p.reader.id ≡ p.header.id) put
  numbers = each-but (λ p. p.reader.id ≡ p.header.id)
      (reader ∙ each-get (λ (p : PollerState). p.reader.id ≡ p.header.id) t.pollers id p old.numbers at
      ∙ ap (λ (h : Header). h.id) (sym header)) old.numbers

  tablets-put : (xs zs : List TargetTablet) → Each (λ x. Each (λ p. CanPoll hs cs p x) t.pollers) xs → Each (CanPoll hs cs q) zs
      → AllZip Grows xs zs → Each (λ x. Each (λ p. CanPoll hs cs p x) put) zs
  tablets-put [] [] h d g = tt
  tablets-put [] (z ∷ zs) h d g = absurd g
  tablets-put (x ∷ xs) [] h d g = absurd g
  tablets-put (x ∷ xs) (z ∷ zs) h d g =
      let own : CanPoll hs cs p x = each-get (λ p. CanPoll hs cs p x) t.pollers id p h.0 at in
      (each-but (λ p. CanPoll hs cs p z) d.0 (weaker t.pollers h.0 own d.0 g.0), tablets-put xs zs h.1 d.1 g.1)
    where
      weaker : (ps : List PollerState) → Each (λ p. CanPoll hs cs p x) ps → CanPoll hs cs p x → CanPoll hs cs q z → Grows x z
          → Each (λ p. CanPoll hs cs p z) ps
      weaker [] e own d g = tt
      weaker (r ∷ ps) e own d g = (other-can hs cs p q x z own d g r e.0, weaker ps e.1 own d g)

  -- where nobody is opened
  pub fits-polled : FitsFeed hs cs (record { tablets = ys; pollers = put; cutoff = t.cutoff; closed = t.closed })
  fits-polled = record {
    headers_are = headers-put t.pollers id p q at header ∙ old.headers_are;
    numbers = numbers;
    readers = each-but (λ p. ReaderFits hs cs p.reader) fits old.readers;
    tablets = tablets-put t.tablets ys old.tablets can grows;
  }

-- ---- children are opened

pub opens-all : (q : PollerState) (ps rs : List PollerState) → AllZip (Opens q) ps rs → rs ≡ map (opened_by q) ps
opens-all q [] [] z = refl
opens-all q [] (r ∷ rs) z = absurd z
opens-all q (p ∷ ps) [] z = absurd z
opens-all q (p ∷ ps) (r ∷ rs) z = let head = z.0.is in let tail : rs ≡ map (opened_by q) ps = opens-all q ps rs z.1 in cc

module _ (hs : List Header) (cs : List ℕ) (logs : Option Logs) (feed : IsFeed hs cs logs) (q : PollerState)
    (own : q.reader.id ≡ q.header.id) (closed : is_closed q ≡ true) (fits : ReaderFits hs cs q.reader) where
  -- a tablet that can take in what it gets has it as closed
  closed-in : (y : TargetTablet) → CanPoll hs cs q y → has_closed y.floors q.header.id ≡ true
  closed-in y d =
      let parts = and_parts q.reader.order.split (q.applied == q.reader.checked) closed in
      let all : q.applied ≡ q.reader.checked = eqb-true _ _ parts.1 in
      let both = and_parts (is_some (children hs q.reader.id)) (q.reader.checked == slice_index cs q.reader.id)
      (sym fits.split ∙ parts.0) in
      let end : q.reader.checked ≡ slice_index cs q.reader.id = eqb-true _ _ both.1 in
      let low : q.header.id < length hs = subst (λ (i : ℕ). i < length hs) own fits.tablet in
      let some : is_some (children hs q.header.id) ≡ true = ap (λ i. is_some (children hs i)) (sym own) ∙ both.0 in
      let count : slice_index cs q.reader.id ≡ slice_index cs q.header.id = ap (slice_index cs) own in
      let up = d.applied in
      let top = d.fits.within q.header.id in
      (d.fits.ends q.header.id low some).1 (omega arith)

  opened-can : (y : TargetTablet) → CanPoll hs cs q y → (r : PollerState) → slice_get hs r.header.id ≡ Some r.header → CanPoll hs cs r y
      → CanPoll hs cs (opened_by q r) y
  opened-can y d r there e = ⊎_elim
      (λ k. subst (λ (z : PollerState). CanPoll hs cs z y) (sym (ap (λ b. cond b (opened q r) r) k))
      (⊎_elim
      (λ o. subst (λ (z : PollerState). CanPoll hs cs z y)
      (sym (ap (λ b. cond b r (before_first r.header (record q.reader.order { split = false }) q.floor true)) o)) e)
      (λ o. subst (λ (z : PollerState). CanPoll hs cs z y)
      (sym (ap (λ b. cond b r (before_first r.header (record q.reader.order { split = false }) q.floor true)) o))
      (record {
        fits = e.fits;
        flags = e.flags;
        childless = e.childless;
        applied = omega arith;
        started = λ _. ap (λ w. option_map_or (starts y.floors) (slice_get w r.header.id) false) e.fits.same
            ∙ ap (λ o. option_map_or (starts y.floors) o false) there
            ∙ ap (λ o. option_map_or (has_closed y.floors) o true) (child-of q.header.id r.header k) ∙ closed-in y d;
      }))
      (cases_Bool r.is_open)))
      (λ k. subst (λ (z : PollerState). CanPoll hs cs z y) (sym (ap (λ b. cond b (opened q r) r) k)) e)
      (cases_Bool (is_child_of q.header.id r.header))

  header-opened : (r : PollerState) → (opened_by q r).header ≡ r.header
  header-opened r = elim (is_child_of q.header.id r.header) as (λ b. (cond b (opened q r) r).header ≡ r.header) [
    | true ↦ elim r.is_open as
        (λ b. (cond b r (before_first r.header
        (record q.reader.order { split = false }) q.floor true)).header ≡ r.header) [ true ↦ refl | false ↦ refl ]
    | false ↦ refl
  ]

  number-opened : (r : PollerState) → r.reader.id ≡ r.header.id → (opened_by q r).reader.id ≡ (opened_by q r).header.id
  number-opened r e = elim (is_child_of q.header.id r.header) as
      (λ b. (cond b (opened q r) r).reader.id ≡ (cond b (opened q r) r).header.id) [
        | true ↦ elim r.is_open as
            (λ b. (cond b r (before_first r.header (record q.reader.order { split = false }) q.floor true)).reader.id ≡ (cond b r
            (before_first r.header (record q.reader.order { split = false }) q.floor true)).header.id) [ true ↦ e | false ↦ refl ]
        | false ↦ e
      ]

  heads-opened : (ps : List PollerState) → headers_of_pollers (map (opened_by q) ps) ≡ headers_of_pollers ps
  heads-opened [] = refl
  heads-opened (p ∷ ps) = let head = header-opened p in let tail : headers_of_pollers (map (opened_by q) ps) ≡ headers_of_pollers ps =
      heads-opened ps in cc

  numbers-opened : (ps : List PollerState) → Each (λ p. p.reader.id ≡ p.header.id) ps
      → Each (λ p. p.reader.id ≡ p.header.id) (map (opened_by q) ps)
  numbers-opened [] h = tt
  numbers-opened (p ∷ ps) h = (number-opened p h.0, numbers-opened ps h.1)

  readers-opened : (ps rs : List PollerState) → AllZip (Opens q) ps rs → Each (λ p. ReaderFits hs cs p.reader) ps
      → Each (λ p. ReaderFits hs cs p.reader) rs
  readers-opened [] [] z h = tt
  readers-opened [] (r ∷ rs) z h = absurd z
  readers-opened (p ∷ ps) [] z h = absurd z
  readers-opened (p ∷ ps) (r ∷ rs) z h = (z.0.fits hs cs logs feed h.0, readers-opened ps rs z.1 h.1)

  pub fits-opened : (t : TargetState) (id : ℕ) (rs : List PollerState) → slice_get t.pollers id ≡ Some q → AllZip (Opens q) t.pollers rs
      → FitsFeed hs cs t → FitsFeed hs cs (record { tablets = t.tablets; pollers = rs; cutoff = t.cutoff; closed = t.closed })
  fits-opened t id rs at z f =
      subst (λ (w : List PollerState). FitsFeed hs cs (record { tablets = t.tablets; pollers = w; cutoff = t.cutoff; closed = t.closed }))
      (sym is) (record {
        headers_are = heads-opened t.pollers ∙ f.headers_are;
        numbers = numbers-opened t.pollers f.numbers;
        readers = subst (Each (λ p. ReaderFits hs cs p.reader)) is (readers-opened t.pollers rs z f.readers);
        tablets = all t.tablets f.tablets;
      })
    where
      is : rs ≡ map (opened_by q) t.pollers
      is = opens-all q t.pollers rs z

      there : (s : ℕ) (r : PollerState) → slice_get t.pollers s ≡ Some r → slice_get hs r.header.id ≡ Some r.header
      there s r e =
          let head : slice_get hs s ≡ Some r.header = ap (λ w. slice_get w s) (sym f.headers_are)
          ∙ slice_get-map (λ (p : PollerState). p.header) t.pollers s ∙ ap (option_map (λ (p : PollerState). p.header)) e in
          let id-is : r.header.id ≡ s = Numbered-at 0 hs s r.header (numbered-headers hs feed.fit) head ∙ zero-add s in
          ap (slice_get hs) id-is ∙ head

      each : (y : TargetTablet) → CanPoll hs cs q y → (ps : List PollerState)
          → ((s : ℕ) (r : PollerState) → slice_get ps s ≡ Some r → slice_get hs r.header.id ≡ Some r.header)
          → Each (λ p. CanPoll hs cs p y) ps → Each (λ p. CanPoll hs cs p y) (map (opened_by q) ps)
      each y d [] h e = tt
      each y d (r ∷ ps) h e = (opened-can y d r (h zero r refl) e.0, each y d ps (λ s r. h (suc s) r) e.1)

      all : (xs : List TargetTablet) → Each (λ x. Each (λ p. CanPoll hs cs p x) t.pollers) xs
          → Each (λ x. Each (λ p. CanPoll hs cs p x) (map (opened_by q) t.pollers)) xs
      all [] e = tt
      all (x ∷ xs) e = (each x (each-get (λ p. CanPoll hs cs p x) t.pollers id q e.0 at) t.pollers there e.0, all xs e.1)
