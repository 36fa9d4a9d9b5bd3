-- What is known of each tablet at its place, from the tablets before it.
use Rattle.std.proofs.Common.{◌≡◌, ◌≢◌, ℕ, zero, suc, ◌+◌, ◌<◌, ◌≤◌, true, false, cond, List, [], ◌∷◌, ◌++◌, length, get_or, set}
use Rattle.std.proofs.Common.{map, take, Option, Some, None, refl, sym, ◌∙◌, ap, subst, arith, ⊎_elim}
use Rattle.std.specs.Prelude.{fold, slice_get, slice_index, is_none, nat_le, if◌then◌else◌, ◌&&◌}
use Rattle.std.specs.Option.{option_map_or, option_map}
use Rattle.std.proofs.lemmas.Bool.{cases_Bool, cases_eq, true≢false, eq-eqb, ne_eqb, and_parts}
use Rattle.std.proofs.lemmas.List.{take_all, get_or-set_same, get_or-set_other, get_or-map, get_or-take, length-map}
use Rattle.xc_record.specs.declared.record.Record.{Record}
use Rattle.xc_record.specs.declared.record.Tablet.{Tablet}
use Rattle.xc_record.specs.declared.record.Logs.{Logs}
use Rattle.xc_record.specs.Order.{Progress, after, accepted_from, break_of}
use Rattle.xc_record.specs.Accepted.{AcceptedTablet, start_after, records, accepted_tablets, accepted_tablets_after, accepted_tablet_after}
use Rattle.xc_record.specs.Accepted.{child_start, root_start}
use Rattle.xc_record.specs.SafeTime.{place, order_at, is_closed_at, is_closed_in, is_closed, is_started, StartsAfter}
use Rattle.xc_record.specs.SafeTime.{IsPlaces}
use Rattle.xc_record.specs.Headers.{are_headers}
use Rattle.xc_record.specs.Valid.{is_valid, headers_of}
use Rattle.xc_record.proofs.ListLaws.{Each, Each-append}
use Rattle.xc_record.proofs.OrderLaws.{accepted-of-take}
use Rattle.xc_record.proofs.AcceptedLaws.{IsGrown, accepted_tablets-grown, accepted-records}
use Rattle.xc_model.proofs.Parents.{UnderParent, StartsRoot, heads, heads-logs, length-logs, each-get, each-from, get-id, get-under}
use Rattle.xc_model.proofs.Parents.{closed-of, each-root}
use Rattle.xc_model.specs.Floors.{FloorFor, FloorsFor}
use Rattle.xc_record.specs.declared.record.Header.{Header}
use Rattle.std.proofs.lemmas.Option.{slice_get-map, slice_get_within}
use Rattle.xc_model.proofs.SplitEnd.{accepted-head}
use Rattle.std.proofs.lemmas.Bool.Decides.{nat_tests}
use Rattle.xc_floor.specs.Orders.{order_of, begins, order_from, floors_of}

-- a tablet that isn't reached has no accepted records, and none begins after its split
abbrev pub Plain : AcceptedTablet → Type 0
Plain b = (b.reached ≡ false → b.records ≡ []) × (b.start.split ≡ false)

start-plain : (before : List AcceptedTablet) (parent : Option ℕ) → (start_after before parent).split ≡ false
start-plain before None = refl
start-plain before (Some p) = go (slice_get before p)
  where
    go : (o : Option AcceptedTablet) → (option_map_or child_start o root_start).split ≡ false
    go None = refl
    go (Some d) = refl

plain-one : (before : List AcceptedTablet) (t : Tablet) → Plain (accepted_tablet_after before t)
plain-one before t =
    ((λ e. ap (λ c. if c then accepted_from (start_after before t.header.parent) t.records else []) e), start-plain before t.header.parent)

plain-from : (before : List AcceptedTablet) (ts : List Tablet) → Each Plain before → Each Plain (accepted_tablets_after before ts)
plain-from before [] h = h
plain-from before (t ∷ ts) h = plain-from (before ++ accepted_tablet_after before t ∷ []) ts
    (Each-append Plain before (accepted_tablet_after before t ∷ []) h (plain-one before t, tt))

plain-all : (logs : Logs) → Each Plain (accepted_tablets logs)
unfolding accepted_tablets
plain-all logs = plain-from [] logs.tablets tt

-- a split among the first n accepted records is the last of all
breaks-after : (p : Progress) (r : Record) → p.split ≡ true → is_none (break_of p r) ≡ false
unfolding break_of
breaks-after p r e = grind (arith, nat_tests)

none-after : (p : Progress) (rs : List Record) → p.split ≡ true → accepted_from p rs ≡ rs → length rs ≡ 0
none-after p [] e order = refl
none-after p (r ∷ rs) e order = absurd (true≢false (sym (accepted-head p r rs order).0 ∙ breaks-after p r e))

split-last : (p : Progress) (n : ℕ) (rs : List Record) → p.split ≡ false → accepted_from p rs ≡ rs
    → (fold after p (take n rs)).split ≡ true → length rs ≤ n
split-last p n [] start order split = omega arith
split-last p zero (r ∷ rs) start order split = absurd (true≢false (sym split ∙ start))
split-last p (suc n) (r ∷ rs) start order split =
    let rest = (accepted-head p r rs order).1 in
    ⊎_elim
    (λ (here : (after p r).split ≡ true). let none = none-after (after p r) rs here rest in omega arith)
    (λ (later : (after p r).split ≡ false). let low = split-last (after p r) n rs later rest split in omega arith)
    (cases_Bool (after p r).split)

-- its progress after all its records is the end
at-all : (b : AcceptedTablet) (n : ℕ) → IsGrown b → length b.records ≤ n → order_at b n ≡ b.end
at-all b n g h = ap (λ (rs : List Record). fold after b.start rs) (take_all n b.records h) ∙ sym g.end

closed-split : (b : AcceptedTablet) (n : ℕ) → IsGrown b → b.start.split ≡ false → n ≤ length b.records
    → is_closed_at b n ≡ (order_at b n).split
closed-split b n g start within =
    ⊎_elim
    (λ (all : n ≡ length b.records).
    ap (λ c. c && b.end.split) (eq-eqb n (length b.records) all) ∙ ap (λ (o : Progress). o.split) (sym (at-all b n g (omega arith))))
    (λ (some : n ≢ length b.records).
    ap (λ c. c && b.end.split) (ne_eqb n (length b.records) some)
    ∙ ⊎_elim
    (λ (split : (order_at b n).split ≡ true). let low = split-last b.start n b.records start g.in_order split in
    absurd (some (omega arith)))
    (λ (open_ : (order_at b n).split ≡ false). sym open_)
    (cases_Bool (order_at b n).split))
    (cases_eq n (length b.records))

-- ---- one tablet

pub record IsOrder (logs : Logs) (places : List ℕ) (o : Progress) (b : AcceptedTablet) : Type 0 where
  pub started : is_started logs places b.header.parent ≡ true → o ≡ order_at b (place places b)
  pub waits : is_started logs places b.header.parent ≡ false → o.split ≡ false

-- what is known of the tablets before
abbrev pub Known : Logs → List ℕ → List Progress → ℕ → Type 0
Known logs places os i = (k : ℕ) (d : AcceptedTablet) → k < i → slice_get (accepted_tablets logs) k ≡ Some d
    → IsOrder logs places (order_of os k) d

module _ (logs : Logs) (places : List ℕ) (valid : is_valid logs ≡ true) (legal : IsPlaces logs places) where
  abbrev bs : List AcceptedTablet
  bs = accepted_tablets logs

  grown : (i : ℕ) (b : AcceptedTablet) → slice_get (accepted_tablets logs) i ≡ Some b → IsGrown b
  grown i b e = each-get IsGrown (accepted_tablets logs) i b (accepted_tablets-grown logs) e

  plain : (i : ℕ) (b : AcceptedTablet) → slice_get (accepted_tablets logs) i ≡ Some b → Plain b
  plain i b e = each-get Plain (accepted_tablets logs) i b (plain-all logs) e

  within : (i : ℕ) (b : AcceptedTablet) → slice_get (accepted_tablets logs) i ≡ Some b → place places b ≤ length b.records
  within i b e = each-get (λ b. place places b ≤ length b.records) (accepted_tablets logs) i b legal.within e

  zero-place : (i : ℕ) (b : AcceptedTablet) → slice_get (accepted_tablets logs) i ≡ Some b
      → is_started logs places b.header.parent ≡ false → place places b ≡ 0
  zero-place i b e w = each-get (StartsAfter logs places) (accepted_tablets logs) i b legal.starts e w

  closed-by-order : (i : ℕ) (b : AcceptedTablet) → slice_get (accepted_tablets logs) i ≡ Some b
      → is_closed_in places b ≡ (order_at b (place places b)).split
  closed-by-order i b e = closed-split b (place places b) (grown i b e) (plain i b e).1 (within i b e)

  -- a tablet that has not started isn't closed
  waits-open : (i : ℕ) (b : AcceptedTablet) → slice_get (accepted_tablets logs) i ≡ Some b
      → is_started logs places b.header.parent ≡ false → is_closed_in places b ≡ false
  waits-open i b e w =
      closed-by-order i b e ∙ ap (λ n. (order_at b n).split) (zero-place i b e w) ∙ (plain i b e).1

  -- what is known tells whether a tablet is closed
  order-closed : (i : ℕ) (b : AcceptedTablet) (o : Progress) → slice_get (accepted_tablets logs) i ≡ Some b → IsOrder logs places o b
      → is_closed_in places b ≡ o.split
  order-closed i b o e is =
      ⊎_elim
      (λ (started : is_started logs places b.header.parent ≡ true). closed-by-order i b e
      ∙ ap (λ (p : Progress). p.split) (sym (is.started started)))
      (λ (waits : is_started logs places b.header.parent ≡ false). waits-open i b e waits ∙ sym (is.waits waits))
      (cases_Bool (is_started logs places b.header.parent))

  -- the records up to the place, from the tablet's start
  walked : (i : ℕ) (b : AcceptedTablet) → slice_get (accepted_tablets logs) i ≡ Some b
      → fold after b.start (accepted_from b.start (take (place places b) (records logs i))) ≡ order_at b (place places b)
  walked i b e =
      ⊎_elim
      (λ (reached : b.reached ≡ true).
      ap (fold after b.start)
      (accepted-of-take b.start (place places b) (records logs i)
      ∙ ap (take (place places b)) (sym (accepted-records logs i b e reached))))
      (λ (not_reached : b.reached ≡ false).
      let none : length b.records ≡ 0 = ap length ((plain i b e).0 not_reached) in
      let n : place places b ≡ 0 = (let w = within i b e in omega arith) in
      ap (λ m. fold after b.start (accepted_from b.start (take m (records logs i)))) n ∙ ap (λ m. order_at b m) (sym n))
      (cases_Bool b.reached)

  header-at : (i : ℕ) (b : AcceptedTablet) (t : Tablet) → slice_get (accepted_tablets logs) i ≡ Some b → slice_get logs.tablets i ≡ Some t
      → b.header ≡ t.header
  header-at i b t e at_t =
      let there : Some b.header ≡ slice_get (heads (accepted_tablets logs)) i =
      ap (option_map (λ (x : AcceptedTablet). x.header)) (sym e)
      ∙ sym (slice_get-map (λ (x : AcceptedTablet). x.header) (accepted_tablets logs) i) in
      let here : slice_get (headers_of logs.tablets) i ≡ Some t.header =
      slice_get-map (λ (x : Tablet). x.header) logs.tablets i ∙ ap (option_map (λ (x : Tablet). x.header)) at_t in
      let same = there ∙ ap (λ hs. slice_get hs i) (heads-logs logs) ∙ here in
      (cc)

  abbrev from_start : ℕ → ℕ → Progress → Progress
  from_start i n start = fold after start (accepted_from start (take n (records logs i)))

  -- a child goes on where its parent ended
  child-start : (i p : ℕ) (b : AcceptedTablet) (os : List Progress) → slice_get (accepted_tablets logs) i ≡ Some b
      → b.header.parent ≡ Some p → Known logs places os i
      → (u : UnderParent (accepted_tablets logs) p b) → is_closed logs places p ≡ true
      → ((order_of os p).split ≡ true) × (record (order_of os p) { split = false } ≡ b.start)
  child-start i p b os e parent known u closed =
      let d = u.parent in
      let below : p < i = (let id = get-id logs i b valid e in let low = u.below in omega arith) in
      let is : IsOrder logs places (order_of os p) d = known p d below u.there in
      let closed_d : is_closed_in places d ≡ true = sym (closed-of logs places p d u.there) ∙ closed in
      let split : (order_of os p).split ≡ true = sym (order-closed p d (order_of os p) u.there is) ∙ closed_d in
      let started : is_started logs places d.header.parent ≡ true =
      ⊎_elim (λ t. t) (λ (w : is_started logs places d.header.parent ≡ false). absurd
      (true≢false (sym closed_d ∙ waits-open p d u.there w))) (cases_Bool (is_started logs places d.header.parent)) in
      let there : order_of os p ≡ order_at d (place places d) = is.started started in
      let all : length d.records ≤ place places d =
      split-last d.start (place places d) d.records (plain p d u.there).1 (grown p d u.there).in_order
      (ap (λ (o : Progress). o.split) (sym there) ∙ split) in
      (split, ap (λ (o : Progress). record o { split = false }) (there ∙ at-all d (place places d) (grown p d u.there) all) ∙ sym u.start)

  order-step : (i : ℕ) (b : AcceptedTablet) (t : Tablet) (os : List Progress) → slice_get (accepted_tablets logs) i ≡ Some b
      → slice_get logs.tablets i ≡ Some t → Known logs places os i
      → IsOrder logs places (order_from os t (slice_index places i)) b
  order-step i b t os e at_t known = go b.header.parent refl
    where
      id : b.header.id ≡ i
      id = get-id logs i b valid e

      same_records : t.records ≡ records logs i
      same_records = ap (λ o. option_map_or (λ (x : Tablet). x.records) o []) (sym at_t)

      n : slice_index places i ≡ place places b
      n = ap (slice_index places) (sym id)

      -- as the definition has it, at the parent of b
      is_from : (q : Option ℕ) → b.header.parent ≡ q
          → order_from os t (slice_index places i) ≡ option_map_or (from_start i (place places b)) (begins os q) root_start
      is_from q parent =
          ap (λ rs. option_map_or
          (λ start. fold after start (accepted_from start (take (slice_index places i) rs)))
          (begins os t.header.parent) root_start) same_records
          ∙ ap (λ m. option_map_or
          (λ start. fold after start (accepted_from start (take m (records logs i)))) (begins os t.header.parent) root_start) n
          ∙ ap (λ o. option_map_or (from_start i (place places b)) (begins os o) root_start)
          (ap (λ (h : Header). h.parent) (sym (header-at i b t e at_t)) ∙ parent)

      at_start : (start : Progress) → start ≡ b.start → from_start i (place places b) start ≡ order_at b (place places b)
      at_start start s = ap (from_start i (place places b)) s ∙ walked i b e

      go : (q : Option ℕ) → b.header.parent ≡ q → IsOrder logs places (order_from os t (slice_index places i)) b
      go None parent = record {
        started = λ h. is_from None parent
            ∙ at_start root_start (sym (each-get StartsRoot (accepted_tablets logs) i b (each-root logs) e parent));
        waits = λ h. absurd (true≢false (ap (is_started logs places) (sym parent) ∙ h));
      }
      go (Some p) parent =
          let u : UnderParent (accepted_tablets logs) p b = get-under logs i b valid e p parent in
          record {
            started = λ h.
                let closed : is_closed logs places p ≡ true = ap (is_started logs places) (sym parent) ∙ h in
                let c = child-start i p b os e parent known u closed in
                is_from (Some p) parent
                ∙ ap (λ s. option_map_or (from_start i (place places b))
                (cond s (Some (record (order_of os p) { split = false })) None) root_start) c.0
                ∙ at_start (record (order_of os p) { split = false }) c.1;
            waits = λ h.
                let open_ : is_closed logs places p ≡ false = ap (is_started logs places) (sym parent) ∙ h in
                let below : p < i = (let low = u.below in let same = id in omega arith) in
                let split : (order_of os p).split ≡ false =
                sym (order-closed p u.parent (order_of os p) u.there (known p u.parent below u.there))
                ∙ sym (closed-of logs places p u.parent u.there) ∙ open_ in
                ap (λ (o : Progress). o.split)
                (is_from (Some p) parent
                ∙ ap (λ s. option_map_or (from_start i (place places b))
                (cond s (Some (record (order_of os p) { split = false })) None) root_start) split);
          }

  -- one more tablet is known
  pub known-more : (i : ℕ) (t : Tablet) (os : List Progress) → i < length os → slice_get logs.tablets i ≡ Some t → Known logs places os i
      → Known logs places (set os i (order_from os t (slice_index places i))) (i + 1)
  known-more i t os low at_t known = λ k d b e.
      let o = order_from os t (slice_index places i) in
      ⊎_elim
      (λ (here : k ≡ i).
      let at_i : slice_get (accepted_tablets logs) i ≡ Some d = subst (λ z. slice_get (accepted_tablets logs) z ≡ Some d) here e in
      subst (λ z. IsOrder logs places (order_of (set os i o) z) d) (sym here)
      (subst (λ p. IsOrder logs places p d) (sym (get_or-set_same os i o root_start low)) (order-step i d t os at_i at_t known)))
      (λ (other : k ≢ i).
      subst (λ p. IsOrder logs places p d) (sym (get_or-set_other os i k o root_start other)) (known k d (omega arith) e))
      (cases_eq k i)

  -- what is known of all tablets is what is kept of them
  pub floors-known : (os : List Progress) → length os ≡ length logs.tablets → Known logs places os (length logs.tablets)
      → FloorsFor logs places (floors_of (headers_of logs.tablets) os)
  floors-known os long known = record {
    headers = refl;
    closed = length-map os (λ (o : Progress). o.split) ∙ long ∙ sym (length-map logs.tablets (λ (t : Tablet). t.header));
    safe = length-map os (λ (o : Progress). o.floor) ∙ long ∙ sym (length-map logs.tablets (λ (t : Tablet). t.header));
    each = each-from (FloorFor logs places (floors_of (headers_of logs.tablets) os)) (accepted_tablets logs) (λ i b e.
        let low : i < length logs.tablets = below-length i b e in
        let is : IsOrder logs places (order_of os i) b = known i b low e in
        let id = get-id logs i b valid e in
        record {
          closed =
              ap (λ k. get_or (map (λ (o : Progress). o.split) os) k false) id
              ∙ get_or-map (λ (o : Progress). o.split) os i root_start false (omega arith)
              ∙ sym (order-closed i b (order_of os i) e is);
          safe = λ started.
              ap (λ k. get_or (map (λ (o : Progress). o.floor) os) k 0) id
              ∙ get_or-map (λ (o : Progress). o.floor) os i root_start 0 (omega arith)
              ∙ ap (λ (o : Progress). o.floor) (is.started started);
        });
  }
    where
      below-length : (i : ℕ) (b : AcceptedTablet) → slice_get (accepted_tablets logs) i ≡ Some b → i < length logs.tablets
      below-length i b e = let all = length-logs logs in
          let low : i < length (accepted_tablets logs) = slice_get_within (accepted_tablets logs) i b e in omega arith

nat_le-holds : (a b : ℕ) → nat_le a b ≡ true → a ≤ b
nat_le-holds a b e = grind (arith, nat_tests)

-- there are at most 64 tablets
pub few-tablets : (logs : Logs) → is_valid logs ≡ true → length logs.tablets ≤ 64
unfolding is_valid are_headers
few-tablets logs v =
    let le : nat_le (length (headers_of logs.tablets)) 64 ≡ true = (and_parts _ _ (and_parts _ _ v).0).0 in
    let long = length-map logs.tablets (λ (t : Tablet). t.header) in
    let low : length (headers_of logs.tablets) ≤ 64 = nat_le-holds (length (headers_of logs.tablets)) 64 le in
    omega arith

-- and of the first n of what is known
pub known-first : (logs : Logs) (places : List ℕ) (os : List Progress) (n i : ℕ) → n ≤ i → Known logs places os i
    → Known logs places (take n os) n
known-first logs places os n i h known = λ k d low e.
    subst (λ o. IsOrder logs places o d) (sym (get_or-take n os k root_start low)) (known k d (omega arith) e)
