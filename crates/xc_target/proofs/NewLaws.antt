-- A new target: it stands for the session that nothing was asked of yet, and fits each feed with its headers.
use Rattle.std.proofs.Common.{◌≡◌, ◌↔◌, ℕ, zero, suc, ◌+◌, ◌<◌, ◌≤◌, true, false, List, [], ◌∷◌, ◌++◌, map, length, replicate, Option, Some}
use Rattle.std.proofs.Common.{None, refl, ap, sym, ◌∙◌, subst, arith, get_or, zero-add, length-append}
use Rattle.std.specs.Prelude.{◌&&◌, ◌==◌, is_none, is_some, IsTrue, slice_get, slice_index}
use Rattle.std.specs.Option.{option_map, option_map_or}
use Rattle.std.proofs.lemmas.Bool.{and_parts, eqb-true, true≢false}
use Rattle.std.proofs.lemmas.Bool.Decides.{nat_tests}
use Rattle.std.proofs.lemmas.List.{length-map, length-replicate}
use Rattle.std.proofs.lemmas.Option.{slice_get-map, slice_get_within, same_Some, none-some}
use Rattle.xc_record.specs.declared.record.Header.{Header}
use Rattle.xc_record.specs.declared.record.Tablet.{Tablet}
use Rattle.xc_record.specs.declared.record.Logs.{Logs}
use Rattle.xc_record.specs.declared.headers.Next.{Next}
use Rattle.xc_record.specs.declared.headers.Next.TheVariants.{RootAt}
use Rattle.xc_record.specs.Accepted.{AcceptedTablet, accepted_tablets, accepted_tablet}
use Rattle.xc_record.specs.Bounds.{are_bounds, rises_from, ranges, IsPartition}
use Rattle.xc_record.specs.Headers.{are_headers, headers_fit, fit_from, next_after, children}
use Rattle.xc_record.specs.SafeTime.{is_closed, is_started}
use Rattle.xc_record.specs.Session.{Position, new_position, places_of, start}
use Rattle.xc_record.specs.Valid.{is_valid, headers_of}
use Rattle.xc_record.proofs.HeaderLaws.{Numbered, Numbered-at}
use Rattle.xc_record.proofs.ListLaws.{Each}
use Rattle.xc_record.proofs.RangeLaws.{bounds-share-out}
use Rattle.xc_model.specs.Floors.{has_closed, has_started, starts}
use Rattle.xc_model.specs.Rows.{range_of}
use Rattle.xc_model.specs.Stands.{new_tablet}
use Rattle.xc_model.proofs.KeepLaws.{new-stands}
use Rattle.xc_model.proofs.Parents.{heads-logs, get-id, each-get, closed-of, none-closed}
use Rattle.xc_model.proofs.Tree.{IsOne, each-one, one-unsplit, empty-open}
use Rattle.xc_logs.specs.Feed.{IsFeed}
use Rattle.xc_change.specs.Reader.{FitsFeed as ReaderFits}
use Rattle.xc_poller.specs.Poller.{PollerState, position_of, new_poller}
use Rattle.xc_poller.specs.Polled.{CanPoll}
use Rattle.xc_poller.proofs.StandLaws.{root-stands}
use Rattle.xc_target.specs.Target.{headers_of_pollers, new_tablets, new_target, FitsFeed}
use Rattle.xc_target.specs.Stands.{IsAhead, Polls, StandsForSession}

-- ---- the ranges

ranges-new : (hs : List Header) (rs : List (ℕ × ℕ)) → map range_of (new_tablets hs rs) ≡ rs
ranges-new hs [] = refl
ranges-new hs (r ∷ rs) = ap (λ w. r ∷ w) (ranges-new hs rs)

pub new-ranges : (hs : List Header) (bounds : List ℕ) → are_bounds bounds ≡ true
    → IsPartition (map range_of (new_tablets hs (ranges bounds)))
new-ranges hs bounds e = subst IsPartition (sym (ranges-new hs (ranges bounds))) (bounds-share-out bounds e)

pub rises-after : (bs rest : List ℕ) (b : ℕ) → bs ≡ b ∷ rest → are_bounds bs ≡ true → rises_from b rest ≡ true
unfolding are_bounds
rises-after bs rest b e are =
    let parts = and_parts _ _ (and_parts _ _ (subst (λ (w : List ℕ). are_bounds w ≡ true) e are)).0 in
    subst (λ (n : ℕ). rises_from n rest ≡ true) (sym (eqb-true _ _ parts.0)) parts.1

-- ---- numbers that are all 0

index-same : {A : Type 0} (n i : ℕ) (a : A) → get_or (replicate n a) i a ≡ a
index-same zero i a = refl
index-same (suc n) zero a = refl
index-same (suc n) (suc i) a = index-same n i a

place-zero : (n i : ℕ) → slice_index (map (λ (p : Position). p.place) (replicate n new_position)) i ≡ 0
place-zero zero i = refl
place-zero (suc n) zero = refl
place-zero (suc n) (suc i) = place-zero n i

positions-new : (hs : List Header) → map position_of (map new_poller hs) ≡ replicate (length hs) new_position
positions-new [] = refl
positions-new (h ∷ hs) = ap (λ w. new_position ∷ w) (positions-new hs)

heads-new : (hs : List Header) → headers_of_pollers (map new_poller hs) ≡ hs
heads-new [] = refl
heads-new (h ∷ hs) = ap (λ w. h ∷ w) (heads-new hs)

-- ---- the session

module _ (logs : Logs) (valid : is_valid logs ≡ true) where
  zero-place : (i : ℕ) → slice_index (places_of (start logs)) i ≡ 0
  zero-place i = place-zero (length logs.tablets) i

  none-yet : (p : ℕ) → is_closed logs (places_of (start logs)) p ≡ false
  none-yet p = go (slice_get (accepted_tablets logs) p) refl
    where
      go : (o : Option AcceptedTablet) → slice_get (accepted_tablets logs) p ≡ o → is_closed logs (places_of (start logs)) p ≡ false
      go None e = none-closed logs (places_of (start logs)) p e
      go (Some d) e =
          let one : IsOne (accepted_tablets logs) d = each-get (IsOne (accepted_tablets logs)) (accepted_tablets logs) p d
          (each-one logs valid) e in
          closed-of logs (places_of (start logs)) p d e ∙ empty-open (places_of (start logs)) d one.grown
          (one-unsplit (accepted_tablets logs) d one) (zero-place d.header.id)

  root-started : (q : Option ℕ) → is_none q ≡ is_started logs (places_of (start logs)) q
  root-started None = refl
  root-started (Some p) = sym (none-yet p)

  poller-new : (s : ℕ) (b : AcceptedTablet) (p : PollerState) → accepted_tablet logs s ≡ Some b
      → slice_get (map new_poller (headers_of logs.tablets)) s ≡ Some p → Polls logs (start logs) b p
  poller-new s b p e at =
      let head : slice_get (headers_of logs.tablets) s ≡ Some b.header = ap (λ w. slice_get w s) (sym (heads-logs logs))
      ∙ slice_get-map (λ (b : AcceptedTablet). b.header) (accepted_tablets logs) s
      ∙ ap (option_map (λ (b : AcceptedTablet). b.header)) e in
      let is : new_poller b.header ≡ p = same_Some (new_poller b.header) p
      (sym (slice_get-map new_poller (headers_of logs.tablets) s ∙ ap (option_map new_poller) head) ∙ at) in
      subst (Polls logs (start logs) b) is (record {
        header = refl;
        opened = root-started b.header.parent;
        waits = λ w. refl;
        found = omega arith;
        stands = λ o. root-stands logs b.header b (none-of b.header.parent o)
            (ap (accepted_tablet logs) (get-id logs s b valid e) ∙ e) refl;
      })
    where
      none-of : (q : Option ℕ) → is_none q ≡ true → q ≡ None
      none-of None o = refl
      none-of (Some x) o = cc

  tablets-new : (rs : List (ℕ × ℕ)) → Each (IsAhead logs (start logs)) (new_tablets (headers_of logs.tablets) rs)
  tablets-new [] = tt
  tablets-new (r ∷ rs) =
      (record { stands = new-stands logs r.0 r.1 valid; places = λ s. let z = zero-place s in omega arith }, tablets-new rs)

  pub new-target-stands : (hs : List Header) (bounds : List ℕ) → headers_of logs.tablets ≡ hs
      → StandsForSession logs (start logs) (new_target hs bounds)
  new-target-stands hs bounds same = subst (λ hs. StandsForSession logs (start logs) (new_target hs bounds)) same (record {
    valid = valid;
    cutoff = refl;
    closed = refl;
    positions = positions-new (headers_of logs.tablets) ∙ ap (λ n. replicate n new_position)
        (length-map logs.tablets (λ (t : Tablet). t.header));
    pollers = poller-new;
    tablets = tablets-new (ranges bounds);
  })

-- ---- feeds

numbered-from : (before : List Header) (next : Next) (hs : List Header) → fit_from before next hs ≡ true → Numbered (length before) hs
numbered-from before next [] e = tt
numbered-from before next (h ∷ hs) e =
    let parts = and_parts _ _ e in
    let l : length (before ++ h ∷ []) ≡ length before + 1 = length-append before (h ∷ []) in (
      eqb-true _ _ (and_parts _ _ parts.0).0,
      subst (λ n. Numbered n hs) l
          (numbered-from (before ++ h ∷ []) (next_after before next h h.parent) hs parts.1),
    )

pub numbered-headers : (hs : List Header) → are_headers hs ≡ true → Numbered 0 hs
unfolding are_headers headers_fit
numbered-headers hs e = numbered-from [] (RootAt 0) hs (and_parts _ _ e).1

each-index : {A : Type 0} (P : A → Type 0) (xs : List A) → ((i : ℕ) (x : A) → slice_get xs i ≡ Some x → P x) → Each P xs
each-index P [] f = tt
each-index P (x ∷ xs) f = (f zero x refl, each-index P xs (λ i y. f (suc i) y))

module _ (headers : List Header) (counts : List ℕ) (logs : Option Logs) (feed : IsFeed headers counts logs)
    (fit : are_headers headers ≡ true) where
  -- a tablet with children has records
  pub not-ended : (id : ℕ) → id < length headers → (is_some (children headers id) && (0 == slice_index counts id)) ≡ false
  not-ended id l = go (children headers id) refl
    where
      go : (o : Option (Header × Header)) → children headers id ≡ o → (is_some o && (0 == slice_index counts id)) ≡ false
      go None e = refl
      go (Some pair) e = let some : 1 ≤ slice_index counts id = feed.parents id l (ap is_some e) in grind (arith, nat_tests)

  header-there : (s : ℕ) (p : PollerState) → slice_get (map new_poller headers) s ≡ Some p
      → (h : Header) × ((slice_get headers s ≡ Some h) × (new_poller h ≡ p))
  header-there s p at = go (slice_get headers s) refl
    where
      go : (o : Option Header) → slice_get headers s ≡ o → (h : Header) × ((slice_get headers s ≡ Some h) × (new_poller h ≡ p))
      go None e = absurd (none-some p (sym (slice_get-map new_poller headers s ∙ ap (option_map new_poller) e) ∙ at))
      go (Some h) e = (h, (e, same_Some (new_poller h) p (sym (slice_get-map new_poller headers s ∙ ap (option_map new_poller) e) ∙ at)))

  id-is : (s : ℕ) (h : Header) → slice_get headers s ≡ Some h → (h.id ≡ s) × (s < length headers)
  id-is s h e = (Numbered-at 0 headers s h (numbered-headers headers fit) e ∙ zero-add s, slice_get_within headers s h e)

  reader-new : (s : ℕ) (p : PollerState) → slice_get (map new_poller headers) s ≡ Some p → ReaderFits headers counts p.reader
  reader-new s p at =
      let found = header-there s p at in
      let id = id-is s found.0 found.1.0 in
      let low : found.0.id < length headers = let e = id.0 in let l = id.1 in omega arith in
      subst (λ (p : PollerState). ReaderFits headers counts p.reader) found.1.1
      (record { tablet = low; within = omega arith; split = sym (not-ended found.0.id low) })

  can-new : (lo hi : ℕ) (s : ℕ) (p : PollerState) → slice_get (map new_poller headers) s ≡ Some p
      → CanPoll headers counts p (new_tablet lo hi headers)
  can-new lo hi s p at =
      let found = header-there s p at in
      let id = id-is s found.0 found.1.0 in
      subst (λ (p : PollerState). CanPoll headers counts p (new_tablet lo hi headers)) found.1.1 (record {
        fits = record {
          same = refl;
          within = λ i. let z : slice_index (replicate (length headers) 0) i ≡ 0 = index-same (length headers) i 0 in omega arith;
          ends = λ i l some. ends i (index-same (length headers) i false) (index-same (length headers) i 0) (feed.parents i l some);
        };
        flags = length-replicate (length headers) false;
        childless = λ i _. index-same (length headers) i false;
        applied = omega arith;
        started = λ o. started-new found.0 (ap (slice_get headers) id.0 ∙ found.1.0) (none-of found.0.parent o);
      })
    where
      none-of : (q : Option ℕ) → is_none q ≡ true → q ≡ None
      none-of None o = refl
      none-of (Some x) o = cc

      ends : (i : ℕ) → has_closed (new_tablet lo hi headers).floors i ≡ false → slice_index (replicate (length headers) 0) i ≡ 0
          → 1 ≤ slice_index counts i
          → IsTrue (has_closed (new_tablet lo hi headers).floors i) ↔ (slice_index (replicate (length headers) 0) i ≡ slice_index counts i)
      ends i c z some = ((λ t. absurd (true≢false (sym t ∙ c))), (λ e. absurd (omega arith)))

      started-new : (h : Header) → slice_get headers h.id ≡ Some h → h.parent ≡ None
          → has_started (new_tablet lo hi headers).floors h.id ≡ true
      started-new h e root = ap (λ o. option_map_or (starts (new_tablet lo hi headers).floors) o false) e
          ∙ ap (λ q. option_map_or (has_closed (new_tablet lo hi headers).floors) q true) root

  tablets-fit : (rs : List (ℕ × ℕ)) → Each (λ x. Each (λ p. CanPoll headers counts p x) (map new_poller headers)) (new_tablets headers rs)
  tablets-fit [] = tt
  tablets-fit (r ∷ rs) =
      (each-index (λ p. CanPoll headers counts p (new_tablet r.0 r.1 headers)) (map new_poller headers) (can-new r.0 r.1), tablets-fit rs)

  pub new-target-fits : (bounds : List ℕ) → FitsFeed headers counts (new_target headers bounds)
  new-target-fits bounds = record {
    headers_are = heads-new headers;
    numbers = each-index (λ (p : PollerState). p.reader.id ≡ p.header.id) (map new_poller headers)
        (λ s p at. let found = header-there s p at in subst (λ (p : PollerState). p.reader.id ≡ p.header.id) found.1.1 refl);
    readers = each-index (λ p. ReaderFits headers counts p.reader) (map new_poller headers) reader-new;
    tablets = tablets-fit (ranges bounds);
  }
