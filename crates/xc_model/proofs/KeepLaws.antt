-- Cutoffs, restores and new tablets.
use Rattle.xc_model.proofs.Common.{◌≡◌, ℕ, zero, suc, ◌≤◌, max, true, false, List, length, replicate, Option, Some, None, refl, ap, sym}
use Rattle.xc_model.proofs.Common.{◌∙◌, arith, subst, ⊎_elim, get_or, filter, slice_get, slice_index, true≢false, length-replicate}
use Rattle.xc_model.proofs.Common.{length-map, option_map_or, Tablet, Logs, hash_of, AcceptedTablet, accepted_tablets, Version, version_cmp}
use Rattle.xc_model.proofs.Common.{Event, versions, versions_along, waiting, path_to, events, Progress, cases_lt, place, order_at}
use Rattle.xc_model.proofs.Common.{last_safe_in, is_closed_in, is_closed, is_started, safe_time, StartsAfter, IsPlaces, is_valid}
use Rattle.xc_model.proofs.Common.{headers_of, Kept, kept_from, versions_at, pruned, Each-filter, Each-weaker}
use Rattle.xc_model.{proofs.StableSort.Each, proofs.Elements.each-both, proofs.KeyRead.along-path, proofs.Sorts.in_order-sort}
use Rattle.xc_model.{proofs.Chain.nothing-applied, proofs.Along.own, proofs.Along.shown, specs.Floors.new_floors, specs.Floors.FloorFor}
use Rattle.xc_model.{specs.Laws.NewStands, specs.Laws.CutoffsKeepStanding, specs.Stands.kept_at, specs.Stands.StandsFor}
use Rattle.xc_model.{specs.Stands.new_tablet, proofs.Parents.each-get, proofs.Parents.StartsRoot, proofs.Parents.each-root}
use Rattle.xc_model.proofs.ApplyPath.{version-orders, kept_from-more, kept_from-less}
use Rattle.xc_model.proofs.Tree.{IsOne, each-one, one-unsplit, empty-open}

-- ---- cutoffs

pruned-shown : (u w : ℕ) (es : List Event) → pruned w (shown u es) ≡ shown (max u w) es
pruned-shown u w es = let vs = versions_along es in let o = versions es in
    let put : List Version → Kept = λ v. record { versions = v; held = waiting es } in
    ⊎_elim
    (λ h. let m : max u w ≡ w = omega arith in ap put (kept_from-more u w o (omega arith) (in_order-sort version_cmp version-orders vs)
    ∙ ap (λ n. kept_from n o) (sym m)))
    (λ h. let m : max u w ≡ u = omega arith in ap put (kept_from-less u w o h ∙ ap (λ n. kept_from n o) (sym m)))
    (cases_lt u w)

pub cutoffs-keep : CutoffsKeepStanding
cutoffs-keep logs x y u w s b p = subst (StandsFor logs (max u w)) (sym p.rest) (record {
  valid = s.valid;
  places = s.places;
  covered = (let q : u ≤ safe_time logs x.places = s.covered in let r : w ≤ safe_time logs x.places = b in omega arith);
  floors = s.floors;
  keys = λ k q. kept-versions (versions_at k y.versions) (kept_at x k) w (p.keys k q) ∙ ap (pruned w) (s.keys k q)
      ∙ pruned-shown u w (events k (path_to logs x.places k));
  within = record { versions = p.within; held = s.within.held };
})
  where
    kept-versions : (vs : List Version) (x : Kept) (w : ℕ) → vs ≡ (pruned w x).versions
        → (let z : Kept = record { versions = vs; held = x.held } in z) ≡ pruned w x
    kept-versions vs x w e = ap (λ (vs : List Version). let z : Kept = record { versions = vs; held = x.held } in z) e

-- ---- a new tablet

index-same : {A : Type 0} (n i : ℕ) (a : A) → get_or (replicate n a) i a ≡ a
index-same zero i a = refl
index-same (suc n) zero a = refl
index-same (suc n) (suc i) a = index-same n i a

module _ (logs : Logs) (valid : is_valid logs ≡ true) where
  zeros : List ℕ
  zeros = replicate (length (headers_of logs.tablets)) 0

  zero-at : (i : ℕ) → slice_index zeros i ≡ 0
  unfolding zeros
  zero-at i = index-same (length (headers_of logs.tablets)) i 0

  all-open : Each (λ b. is_closed_in zeros b ≡ false) (accepted_tablets logs)
  all-open = Each-weaker (IsOne (accepted_tablets logs)) (λ b. is_closed_in zeros b ≡ false)
      (λ b o. empty-open zeros b o.grown (one-unsplit (accepted_tablets logs) b o) (zero-at b.header.id)) (accepted_tablets logs)
      (each-one logs valid)

  none-closed : (p : ℕ) → is_closed logs zeros p ≡ false
  unfolding is_closed
  none-closed p = go (slice_get (accepted_tablets logs) p) refl
    where
      go : (o : Option AcceptedTablet) → slice_get (accepted_tablets logs) p ≡ o → option_map_or (is_closed_in zeros) o false ≡ false
      go None e = refl
      go (Some d) e = each-get (λ b. is_closed_in zeros b ≡ false) (accepted_tablets logs) p d all-open e

  new-places : IsPlaces logs zeros
  unfolding zeros
  new-places = record {
    count = length-replicate (length (headers_of logs.tablets)) 0 ∙ length-map logs.tablets (λ (t : Tablet). t.header);
    within = Each-weaker (λ b. is_closed_in zeros b ≡ false) (λ b. place zeros b ≤ length b.records)
        (λ b _. let q : place zeros b ≡ 0 = zero-at b.header.id in omega arith) (accepted_tablets logs) all-open;
    starts = Each-weaker (λ b. is_closed_in zeros b ≡ false) (StartsAfter logs zeros) (λ b _ _. zero-at b.header.id) (accepted_tablets logs)
        all-open;
  }

  first-safe : (b : AcceptedTablet) → last_safe_in zeros b ≡ b.start.floor
  first-safe b = ap (λ n. (order_at b n).floor) (zero-at b.header.id)

  started-root : (q : Option ℕ) → is_started logs zeros q ≡ true → q ≡ None
  started-root None e = refl
  started-root (Some p) e = absurd (true≢false (sym e ∙ none-closed p))

  pub stands-new : (lo hi : ℕ) → StandsFor logs 0 (new_tablet lo hi (headers_of logs.tablets))
  unfolding zeros
  stands-new lo hi = record {
    valid = valid;
    places = new-places;
    covered = omega arith;
    floors = record {
      headers = refl;
      closed = length-replicate (length (headers_of logs.tablets)) false;
      safe = length-replicate (length (headers_of logs.tablets)) 0;
      each = Each-weaker (λ b. (is_closed_in zeros b ≡ false) × StartsRoot b) (FloorFor logs zeros (new_floors (headers_of logs.tablets)))
          (λ b h. record {
            closed = index-same (length (headers_of logs.tablets)) b.header.id false ∙ sym h.0;
            safe = λ e. zero-at b.header.id ∙ sym (first-safe b ∙ ap (λ (p : Progress). p.floor) (h.1 (started-root b.header.parent e)));
          }) (accepted_tablets logs) (each-both (λ b. is_closed_in zeros b ≡ false) StartsRoot (accepted_tablets logs) all-open (each-root
          logs));
    };
    keys = λ k q. sym (ap (λ rs. shown 0 (events k rs)) (along-path logs zeros k
        ∙ nothing-applied zeros (filter (own (hash_of k)) (accepted_tablets logs))
        (Each-filter (λ d. place zeros d ≡ 0) (own (hash_of k)) (accepted_tablets logs)
        (Each-weaker (λ b. is_closed_in zeros b ≡ false) (λ d. place zeros d ≡ 0) (λ d _. zero-at d.header.id) (accepted_tablets logs)
        all-open))));
    within = record { versions = tt; held = tt };
  }

pub new-stands : NewStands
new-stands logs lo hi valid = stands-new logs valid lo hi
