-- Laws of the tablets one by one: the commits so far, what was left waiting, and the first case so far.
use Rattle.std.proofs.Common.{◌≡◌, ℕ, suc, ◌+◌, ◌<◌, ◌≤◌, Bool, true, false, List, [], ◌∷◌, ◌++◌, length, take, drop, get_or, refl, ap, sym}
use Rattle.std.proofs.Common.{◌∙◌, subst, arith, length-append}
use Rattle.std.proofs.lemmas.List.{append-nil, take_all, take-append-le, length-take-le}
use Rattle.std.proofs.lemmas.List.Elements.{filter-append}
use Rattle.std.proofs.lemmas.List.Concat.{flat_map-append}
use Rattle.std.proofs.lemmas.Option.{slice_get-get_or, slice_get_within, slice_get_past, slice_get_read, same_Some, none-some}
use Rattle.std.proofs.lemmas.Bool.Decides.{nat_tests}
use Rattle.std.specs.List.{list_all}
use Rattle.std.specs.Prelude.{Option, Some, None, ◌&&◌, ◌==◌, nat_le, nat_lt, slice_get, flat_map, if◌then◌else◌, is_some, option_map}
use Rattle.std.specs.Prelude.{option_and_then, fold}
use Rattle.std.specs.Option.{option_map_or}
use Rattle.std.specs.declared.vec.Vec.{Vec}
use Rattle.std.specs.declared.alloc.Global.{Global}
use Rattle.xc_record.specs.declared.record.AgreeKind.{AgreeKind}
use Rattle.xc_record.specs.declared.record.Record.{Record}
use Rattle.xc_record.specs.declared.record.Tablet.{Tablet}
use Rattle.xc_record.specs.declared.record.Logs.{Logs}
use Rattle.xc_record.specs.Hash.{holds}
use Rattle.xc_record.specs.Order.{Progress, accepted_from}
use Rattle.xc_record.specs.Accepted.{AcceptedTablet, accepted_tablets, accepted_tablets_after, accepted_tablet_after}
use Rattle.xc_record.specs.Commits.{undone}
use Rattle.xc_record.specs.Agreement.{Disagreement, kind_at, straggler}
use Rattle.xc_record.specs.Lists.{first_some, or_else}
use Rattle.xc_record.proofs.AcceptedLaws.{Each, accepted_tablet_after-grown}
use Rattle.xc_logs.proofs.ValidFacts.{IsWellFormed, headers_parts}
use Rattle.xc_record.specs.Valid.{headers_of}
use Rattle.xc_agree.specs.declared.run.Run.{Run}
use Rattle.xc_agree.specs.declared.held.Held.{Held}
use Rattle.xc_agree.specs.declared.cases.Case.{Case}
use Rattle.xc_agree.specs.declared.look.Found.{Found}
use Rattle.xc_agree.specs.declared.commits.Commit.{Commit}
use Rattle.xc_agree.specs.Runs.{IsRun}
use Rattle.xc_agree.specs.Slots.{time_of, undone_of}
use Rattle.xc_agree.specs.Seen.{unseen, see, waits_from, is_in_slot, kind_at_end, IsLeast, IsEnd}
use Rattle.xc_agree.specs.Held.{is_held, writes_at, waits_by, IsLeft, InSlots, seen_at_end}
use Rattle.xc_agree.specs.Cases.{IsFirst, with_cases, case_of, held_from, left_of, items_of, line_through, AreLast, AreLeft, is_done, Drops}
use Rattle.xc_agree.specs.Cases.{cases_of, of_tablets}
use Rattle.xc_agree.proofs.RunLaws.{tablets-more, accepted-of}
use Rattle.xc_agree.proofs.TallyLaws.{first-append}
use Rattle.xc_agree.proofs.WaitLaws.{waits-append}
use Rattle.xc_agree.proofs.EndLaws.{differs-all, undoes-all, late-all, aborted-all, straggles, any_op, stands, stands-all}
use Rattle.xc_agree.proofs.TreeLaws.{IsTree, at_hash, EndsAt, Before, Within, above_root, above_child, valid-tree}
use Rattle.xc_agree.proofs.StragglerLaws.{OwnIn, line_above, straggler-held, nothing-waits}
use Rattle.xc_agree.proofs.SplitLaws.{around, count-after, get-middle, more, own-here}
use Rattle.xc_agree.proofs.Steps.{get-before, Where, Low, Same, High, place_of, or-none}
use Rattle.std.proofs.Math.Bool.{and-false, and-true}

-- ---- the kind at a tablet

kind-seen : (n c : ℕ) (u : List ℕ) (w : Bool) (start : Progress) (rs : List Record) → accepted_from start rs ≡ rs
    → stands c (fold (see n c u) (unseen w) rs) ≡ straggles any_op n c w rs
kind-seen n c u true start rs e =
    stands-all n c u (unseen true) start rs (record { below = refl; safe = omega arith; floor = omega arith }) e
kind-seen n c u false start rs e =
    stands-all n c u (unseen false) start rs (record { below = refl; safe = omega arith; floor = omega arith }) e

pub kind-here : (logs : Logs) (commits : List Commit) (before : List AcceptedTablet) (b : AcceptedTablet) (rest : List AcceptedTablet)
    → accepted_tablets logs ≡ before ++ b ∷ rest → IsTree (before ++ b ∷ rest) → (n c : ℕ) (held : List Held)
    → undone_of commits n ≡ undone logs n
    → ((h : ℕ) → holds b.header h ≡ true → is_held held n h ≡ waits_by n (writes_at h) false (line_above before h))
    → Each (OwnIn b.header) b.records → accepted_from b.start b.records ≡ b.records
    → kind_at_end c (seen_at_end commits b.header held b.records n c) ≡ kind_at logs n c b
unfolding kind_at
kind-here logs commits before b rest all tree n c held undo start own order =
    let w : Bool = waits_from b.header held n in
    let u : List ℕ = undone_of commits n in
    let s : stands c (fold (see n c (undone_of commits n)) (unseen w) b.records) ≡ straggler logs n c b =
    kind-seen n c u w b.start b.records order ∙ sym (straggler-held logs before b rest all tree n c held start own) in
    rw (
      differs-all n c (undone_of commits n) (unseen w) b.records,
      undoes-all n c (undone_of commits n) (unseen w) b.records,
      late-all n c
          (undone_of commits n) (unseen w) b.records,
      aborted-all n c (undone_of commits n) (unseen w) b.records,
      s,
      undo,
    ) refl

-- ---- what the parent held

held-slots : (lefts : List (Vec Held Global)) (lasts : List ℕ) (commits : List Commit) (bs : List AcceptedTablet) (parent : Option ℕ)
    → AreLeft lefts lasts commits bs → InSlots commits (held_from lefts parent)
held-slots lefts lasts commits bs None a = refl
held-slots lefts lasts commits bs (Some p) a = a.slots p

-- the next tablet is no later than its parent's last child
record Comes (lasts : List ℕ) (bs : List AcceptedTablet) (parent : Option ℕ) : Type 0 where
  room : length bs ≤ length lasts
  last : (q k : ℕ) → parent ≡ Some q → slice_get lasts q ≡ Some k → length bs ≤ k

-- what is held at a hash of a tablet's range is what waits there after the path above it
start-here : (lefts : List (Vec Held Global)) (lasts : List ℕ) (commits : List Commit) (bs : List AcceptedTablet) (b : AcceptedTablet)
    (rest : List AcceptedTablet) → AreLeft lefts lasts commits bs → IsTree (bs ++ b ∷ rest) → (n c h : ℕ)
    → time_of commits n ≡ Some c → holds b.header h ≡ true → (parent : Option ℕ) → Comes lasts bs parent → b.header.parent ≡ parent
    → is_held (held_from lefts parent) n h ≡ waits_by n (writes_at h) false (line_above bs h)
start-here lefts lasts commits bs b rest a tree n c h e s None k p =
    sym (ap (λ xs. waits_by n (writes_at h) false (flat_map (λ b. b.records) xs)) (above_root h bs b rest tree s p))
start-here lefts lasts commits bs b rest a tree n c h e s (Some q) k p = go (above_child h q bs b rest tree s p)
  where
    go : EndsAt h 0 q None bs → is_held (left_of lefts q) n h ≡ waits_by n (writes_at h) false (line_above bs h)
    go (Before none f) = absurd (none-some q f)
    go (Within j x at get there same) =
        let number : q ≡ j = omega arith in
        let one : j + 1 ≡ suc j = omega arith in
        let line : line_through bs j h ≡ line_above bs h =
        ap (λ k. flat_map (λ (b : AcceptedTablet). b.records) (at_hash h (take k bs))) one
        ∙ ap (flat_map (λ (b : AcceptedTablet). b.records)) (sym same) in
        let here : j < length bs = slice_get_within bs j x get in
        let last : slice_get lasts j ≡ Some (get_or lasts j 0) = slice_get-get_or lasts j 0 (let r = k.room in omega arith) in
        ap (λ m. is_held (left_of lefts m) n h) number
        ∙ a.each j (get_or lasts j 0) x get last (k.last q (get_or lasts j 0) refl (ap (slice_get lasts) number ∙ last)) n h
        ∙ rw (e, there) (ap (waits_by n (writes_at h) false) line)

-- ---- one tablet more

first-same : (first : Option Case) (cases other : ℕ → Option Disagreement) → ((n : ℕ) → other n ≡ cases n) → IsFirst first cases
    → IsFirst first other
first-same None cases other e f = λ n. e n ∙ f n
first-same (Some d) cases other e f = (e d.txn ∙ f.0, λ n below. e n ∙ f.1 n below)

line-snoc : (bs : List AcceptedTablet) (b : AcceptedTablet) (h : ℕ)
    → line_above (bs ++ b ∷ []) h ≡ line_above bs h ++ (if holds b.header h then b.records else [])
line-snoc bs b h =
    ap (flat_map (λ (b : AcceptedTablet). b.records)) (filter-append (λ (b : AcceptedTablet). holds b.header h) bs (b ∷ []))
    ∙ flat_map-append (λ (b : AcceptedTablet). b.records) (at_hash h bs) (at_hash h (b ∷ []))
    ∙ ap (λ xs. line_above bs h ++ xs)
    (elim (holds b.header h) as (λ c. flat_map (λ b. b.records) (if c then (b ∷ []) else []) ≡ (if c then b.records else []))
    [ true ↦ append-nil b.records | false ↦ refl ])

-- what the next tablet left
left-next : (lefts : List (Vec Held Global)) (lasts : List ℕ) (left : Vec Held Global) (commits : List Commit) (bs : List AcceptedTablet)
    (b : AcceptedTablet) (rest : List AcceptedTablet) → AreLeft lefts lasts commits bs
    → Comes lasts bs b.header.parent → IsTree (bs ++ b ∷ rest) → Each (OwnIn b.header) b.records
    → IsLeft left.items commits b.header (held_from lefts b.header.parent) b.records → (n h : ℕ)
    → is_held left.items n h ≡
    (is_some (time_of commits n) && (holds b.header h && waits_by n (writes_at h) false (line_above (bs ++ b ∷ []) h)))
left-next lefts lasts left commits bs b rest a k tree own l n h = l n h ∙ go (time_of commits n) refl (holds b.header h) refl
  where
    held : List Held
    held = held_from lefts b.header.parent

    go : (o : Option ℕ) → time_of commits n ≡ o → (s : Bool) → holds b.header h ≡ s
        → (is_some o && waits_by n (writes_at h) (is_held (held_from lefts b.header.parent) n h && holds b.header h) b.records) ≡
        (is_some o && (s && waits_by n (writes_at h) false (line_above (bs ++ b ∷ []) h)))
    go None e s f = refl
    go (Some c) e true f =
        let start : is_held (held_from lefts b.header.parent) n h ≡ waits_by n (writes_at h) false (line_above bs h) =
        start-here lefts lasts commits bs b rest a tree n c h e f b.header.parent k refl in
        let line : line_above (bs ++ b ∷ []) h ≡ line_above bs h ++ b.records = line-snoc bs b h ∙ rw f refl in
        rw (start, f, line) (ap (λ w. waits_by n (writes_at h) w b.records) (and-true (waits_by n (writes_at h) false (line_above bs h)))
        ∙ sym (waits-append n (writes_at h) false (line_above bs h) b.records))
    go (Some c) e false f =
        rw f (ap (λ w. waits_by n (writes_at h) w b.records) (and-false (is_held (held_from lefts b.header.parent) n h))
        ∙ nothing-waits n h b.header b.records f own)

-- what the tablets left, with the next one
lefts-more : (lefts after : List (Vec Held Global)) (lasts : List ℕ) (left : Vec Held Global) (commits : List Commit)
    (bs : List AcceptedTablet) (b : AcceptedTablet) → AreLeft lefts lasts commits bs → InSlots commits left.items
    → ((k : ℕ) → slice_get lasts (length bs) ≡ Some k → length bs < k → (n h : ℕ)
    → is_held left.items n h ≡
    (is_some (time_of commits n) && (holds b.header h && waits_by n (writes_at h) false (line_above (bs ++ b ∷ []) h))))
    → Drops (lefts ++ left ∷ []) after lasts b.header.parent (length bs) → AreLeft after lasts commits (bs ++ b ∷ [])
lefts-more lefts after lasts left commits bs b a slots l drops = record {
  count = drops.count ∙ length-append lefts (left ∷ []) ∙ ap (λ k. k + 1) a.count ∙ sym (length-append bs (b ∷ []));
  slots = λ i. ap (InSlotsOf commits) (drops.each i) ∙ slots_at i (is_done lasts b.header.parent (length bs) i) (place_of i (length bs));
  each = λ i k x get last le n h.
      let bound : length bs + 1 ≤ k = (let e = length-append bs (b ∷ []) in omega arith) in
      ap (λ xs. is_held xs n h) (drops.each i
      ∙ ap (λ d. if d then [] else left_of (lefts ++ left ∷ []) i)
      (awaited i k last bound (option_map_or (λ p. p == i) b.header.parent false))) ∙ at_place i k x get last bound n h (place_of i
      (length bs));
}
  where
    InSlotsOf : List Commit → List Held → Bool
    InSlotsOf commits held = list_all (λ x. is_in_slot commits x.txn x.slot) held

    awaited : (i k : ℕ) → slice_get lasts i ≡ Some k → length bs + 1 ≤ k → (p : Bool)
        → (p && option_map_or (λ last. nat_le last (length bs)) (slice_get lasts i) false) ≡ false
    awaited i k last bound p = rw last (grind (arith, nat_tests))

    slots_at : (i : ℕ) (d : Bool) → Where i (length bs) → InSlotsOf commits (if d then [] else left_of (lefts ++ left ∷ []) i) ≡ true
    slots_at i true w = refl
    slots_at i false (Low low) =
        ap (λ o. InSlotsOf commits (option_map_or items_of o [])) (get-before lefts (left ∷ []) i (let k = a.count in omega arith))
        ∙ a.slots i
    slots_at i false (Same same) =
        ap (λ o. InSlotsOf commits (option_map_or items_of o [])) (get-middle lefts left [] i (a.count ∙ sym same)) ∙ slots
    slots_at i false (High high) =
        ap (λ o. InSlotsOf commits (option_map_or items_of o []))
        (slice_get_past (lefts ++ left ∷ []) i (let k = a.count in let e = length-append lefts (left ∷ []) in omega arith))

    at_place : (i k : ℕ) (x : AcceptedTablet) → slice_get (bs ++ b ∷ []) i ≡ Some x → slice_get lasts i ≡ Some k → length bs + 1 ≤ k
        → (n h : ℕ) → Where i (length bs)
        → is_held (left_of (lefts ++ left ∷ []) i) n h ≡
        (is_some (time_of commits n) && (holds x.header h && waits_by n (writes_at h) false (line_through (bs ++ b ∷ []) i h)))
    at_place i k x get last bound n h (Low low) =
        let old : slice_get bs i ≡ Some x = sym (get-before bs (b ∷ []) i low) ∙ get in
        let line : line_through (bs ++ b ∷ []) i h ≡ line_through bs i h =
        ap (λ xs. flat_map (λ (b : AcceptedTablet). b.records) (at_hash h xs)) (take-append-le (i + 1) bs (b ∷ []) (omega arith)) in
        rw (get-before lefts (left ∷ []) i (let k = a.count in omega arith), line) (a.each i k x old last (omega arith) n h)
    at_place i k x get last bound n h (Same same) =
        let mine : b ≡ x = same_Some _ _ (sym (get-middle bs b [] i (sym same)) ∙ get) in
        let line : line_through (bs ++ b ∷ []) i h ≡ line_above (bs ++ b ∷ []) h =
        ap (λ xs. flat_map (λ (b : AcceptedTablet). b.records) (at_hash h xs))
        (take_all (i + 1) (bs ++ b ∷ []) (omega (arith, length-append bs (b ∷ [])))) in
        rw (get-middle lefts left [] i (a.count ∙ sym same), line, ← mine) (l k (ap (slice_get lasts) (sym same) ∙ last) (omega arith) n h)
    at_place i k x get last bound n h (High high) =
        absurd (none-some x (sym (slice_get_past (bs ++ b ∷ []) i (let k = length-append bs (b ∷ []) in omega arith)) ∙ get))

-- the cases with those of the next tablet
cases-next : (ts : List Tablet) (commits : List Commit) → ((n : ℕ) → undone_of commits n ≡ undone (of_tablets ts) n)
    → (bs : List AcceptedTablet) (b : AcceptedTablet) (rest : List AcceptedTablet) (lefts : List (Vec Held Global))
    → accepted_tablets (of_tablets ts) ≡ bs ++ b ∷ rest → IsTree (bs ++ b ∷ rest)
    → (lasts : List ℕ) → AreLeft lefts lasts commits bs → Comes lasts bs b.header.parent → Each (OwnIn b.header) b.records
    → accepted_from b.start b.records ≡ b.records → (n : ℕ)
    → cases_of (of_tablets ts) commits (bs ++ b ∷ []) n ≡ with_cases b.header.id
    (λ n. option_and_then (λ c. kind_at_end c (seen_at_end commits b.header (held_from lefts b.header.parent) b.records n c))
    (time_of commits n)) (cases_of (of_tablets ts) commits bs) n
cases-next ts commits undo bs b rest lefts all tree lasts a k own order n = go (time_of commits n) refl
  where
    go : (o : Option ℕ) → time_of commits n ≡ o
        → option_and_then (λ c. first_some (λ b. option_map (case_of n b.header.id) (kind_at (of_tablets ts) n c b)) (bs ++ b ∷ [])) o
        ≡ or_else (option_and_then (λ c. first_some (λ b. option_map (case_of n b.header.id) (kind_at (of_tablets ts) n c b)) bs) o)
        (option_map (case_of n b.header.id)
        (option_and_then (λ c. kind_at_end c (seen_at_end commits b.header (held_from lefts b.header.parent) b.records n c)) o))
    go None e = refl
    go (Some c) e =
        let same = kind-here (of_tablets ts) commits bs b rest all tree n c (held_from lefts b.header.parent) (undo n)
        (λ h s. start-here lefts lasts commits bs b rest a tree n c h e s b.header.parent k refl) own order in
        first-append (λ (b : AcceptedTablet). option_map (case_of n b.header.id) (kind_at (of_tablets ts) n c b)) bs (b ∷ [])
        ∙ ap (or_else (first_some (λ (b : AcceptedTablet). option_map (case_of n b.header.id) (kind_at (of_tablets ts) n c b)) bs))
        (or-none (option_map (case_of n b.header.id) (kind_at (of_tablets ts) n c b)) ∙ ap (option_map (case_of n b.header.id)) (sym same))

-- one tablet more
pub tablet-more : (ts : List Tablet) (i : ℕ) (t : Tablet) (run : Run) (lasts : List ℕ) (commits : List Commit)
    (lefts after : List (Vec Held Global)) (left : Vec Held Global) (found : Option Found) (first next : Option Case)
    → IsWellFormed (of_tablets ts) → ((n : ℕ) → undone_of commits n ≡ undone (of_tablets ts) n) → i < length ts → t ≡ get_or ts i t
    → IsRun run (accepted_tablet_after (accepted_tablets_after [] (take i ts)) t) t → length lasts ≡ length ts → AreLast lasts ts
    → AreLeft lefts lasts commits (accepted_tablets_after [] (take i ts))
    → IsFirst first (cases_of (of_tablets ts) commits (accepted_tablets_after [] (take i ts)))
    → IsEnd found commits (seen_at_end commits t.header (held_from lefts t.header.parent) (take run.walk.accepted t.records))
    → ((k : ℕ) → slice_get lasts i ≡ Some k → i < k
    → IsLeft left.items commits t.header (held_from lefts t.header.parent) (take run.walk.accepted t.records)) → InSlots commits left.items
    → ((cases : ℕ → Option Disagreement) (kinds : ℕ → Option AgreeKind) → IsFirst first cases → IsLeast found kinds
    → IsFirst next (with_cases t.header.id kinds cases)) → Drops (lefts ++ left ∷ []) after lasts t.header.parent i
    → AreLeft after lasts commits (accepted_tablets_after [] (take (i + 1) ts)) × IsFirst next
    (cases_of (of_tablets ts) commits (accepted_tablets_after [] (take (i + 1) ts)))
tablet-more ts i t run lasts commits lefts after left found first next s undo below is r count last a f is_end is_left slots step drops =
    let bs : List AcceptedTablet = accepted_tablets_after [] (take i ts) in
    let b : AcceptedTablet = accepted_tablet_after bs t in
    let rest : List AcceptedTablet = more (bs ++ b ∷ []) (drop (suc i) ts) in
    let split : accepted_tablets_after [] ts ≡ accepted_tablets_after [] (take i ts) ++ accepted_tablet_after
    (accepted_tablets_after [] (take i ts)) t ∷ more (bs ++ b ∷ []) (drop (suc i) ts) = around ts i t below is in
    let tree : IsTree (bs ++ b ∷ rest) = subst IsTree split (valid-tree ts (headers_parts (headers_of ts) s.headers).1) in
    let all : accepted_tablets (of_tablets ts) ≡ bs ++ b ∷ rest = accepted-of ts ∙ split in
    let own : Each (OwnIn b.header) b.records = own-here ts i run b t s below is r in
    let order : accepted_from b.start b.records ≡ b.records = (accepted_tablet_after-grown bs t).in_order in
    let place : length bs ≡ i = (let n = count-after [] (take i ts) in let m = length-take-le i ts (omega arith) in omega arith) in
    let comes : Comes lasts bs t.header.parent =
    record {
      room = omega (arith, count, place);
      last = λ q k p get. subst (λ m. m ≤ k) (sym place)
          (last i q k t (slice_get_read ts (length ts) i t refl below is) p get);
    } in
    let ends : IsEnd found commits (seen_at_end commits b.header (held_from lefts b.header.parent) b.records) =
    subst (λ xs. IsEnd found commits (seen_at_end commits t.header (held_from lefts t.header.parent) xs)) (sym r.records) is_end in
    let leaves : (k : ℕ) → slice_get lasts (length bs) ≡ Some k → length bs < k
    → IsLeft left.items commits b.header (held_from lefts b.header.parent) b.records =
    λ k get more. subst (λ xs. IsLeft left.items commits t.header (held_from lefts t.header.parent) xs) (sym r.records)
    (is_left k (ap (slice_get lasts) (sym place) ∙ get) (subst (λ m. m < k) place more)) in
    let one : accepted_tablets_after [] (take (i + 1) ts) ≡ accepted_tablets_after [] (take i ts) ++ accepted_tablet_after
    (accepted_tablets_after [] (take i ts)) t ∷ [] = tablets-more ts i t below is in
    let lefts_now : AreLeft after lasts commits (bs ++ b ∷ []) =
    lefts-more lefts after lasts left commits bs b a slots
    (λ k get more. left-next lefts lasts left commits bs b rest a comes tree own (leaves k get more))
    (subst (Drops (lefts ++ left ∷ []) after lasts t.header.parent) (sym place) drops) in
    let first_now : IsFirst next (cases_of (of_tablets ts) commits (bs ++ b ∷ [])) =
    first-same next _ (cases_of (of_tablets ts) commits (bs ++ b ∷ []))
    (cases-next ts commits undo bs b rest lefts all tree lasts a comes own order)
    (step (cases_of (of_tablets ts) commits bs)
    (λ n. option_and_then (λ c. kind_at_end c (seen_at_end commits b.header (held_from lefts b.header.parent) b.records n c))
    (time_of commits n)) f ends) in (
      subst (λ xs. AreLeft after lasts commits xs) (sym one) lefts_now,
      subst (λ xs. IsFirst next (cases_of (of_tablets ts) commits xs))
          (sym one) first_now,
    )

-- before the first tablet
pub none-left : (lasts : List ℕ) (commits : List Commit) → AreLeft [] lasts commits []
none-left lasts commits = record { count = refl; slots = λ i. refl; each = λ i k b get last le n h. absurd (none-some b get) }

-- the same, where what the tablets before left is seen as a slice
pub tablet-next : (ts : List Tablet) (i : ℕ) (t : Tablet) (run : Run) (lasts : List ℕ) (commits : List Commit)
    (lefts now after : List (Vec Held Global)) (left : Vec Held Global) (found : Option Found) (first next : Option Case) (last : ℕ)
    → now ≡ lefts → IsWellFormed (of_tablets ts) → ((n : ℕ) → undone_of commits n ≡ undone (of_tablets ts) n) → i < length ts
    → t ≡ get_or ts i t → IsRun run (accepted_tablet_after (accepted_tablets_after [] (take i ts)) t) t → length lasts ≡ length ts
    → last ≡ get_or lasts i last → AreLast lasts ts
    → AreLeft lefts lasts commits (accepted_tablets_after [] (take i ts))
    → IsFirst first (cases_of (of_tablets ts) commits (accepted_tablets_after [] (take i ts)))
    → (InSlots commits (held_from now t.header.parent)
    → IsEnd found commits (seen_at_end commits t.header (held_from now t.header.parent) (take run.walk.accepted t.records)))
    → (InSlots commits (held_from now t.header.parent) → nat_lt i last ≡ true
    → IsLeft left.items commits t.header (held_from now t.header.parent) (take run.walk.accepted t.records))
    → (InSlots commits (held_from now t.header.parent) → InSlots commits left.items)
    → ((cases : ℕ → Option Disagreement) (kinds : ℕ → Option AgreeKind) → IsFirst first cases → IsLeast found kinds
    → IsFirst next (with_cases t.header.id kinds cases)) → Drops (lefts ++ left ∷ []) after lasts t.header.parent i
    → AreLeft after lasts commits (accepted_tablets_after [] (take (i + 1) ts)) × IsFirst next
    (cases_of (of_tablets ts) commits (accepted_tablets_after [] (take (i + 1) ts)))
tablet-next ts i t run lasts commits lefts now after left found first next last same s undo below is r count at all a f is_end is_left slots
    step drops =
    let k : InSlots commits (held_from now t.header.parent) =
    subst (λ xs. InSlots commits (held_from xs t.header.parent)) (sym same)
    (held-slots lefts lasts commits (accepted_tablets_after [] (take i ts)) t.header.parent a) in
    let get : slice_get lasts i ≡ Some last = slice_get_read lasts (length ts) i last (sym count) below at in
    tablet-more ts i t run lasts commits lefts after left found first next s undo below is r count all a f
    (subst (λ xs. IsEnd found commits (seen_at_end commits t.header (held_from xs t.header.parent) (take run.walk.accepted t.records))) same
    (is_end k))
    (λ m e more. subst (λ xs. IsLeft left.items commits t.header (held_from xs t.header.parent) (take run.walk.accepted t.records)) same
    (is_left k (lt_true i last (subst (λ x. i < x) (same_Some _ _ (sym e ∙ get)) more))))
    (slots k) step drops
  where
    lt_true : (a b : ℕ) → a < b → nat_lt a b ≡ true
    lt_true a b h = grind (arith, nat_tests)

-- what is held from the tablets before is in its slots
pub held-in : (lefts now : List (Vec Held Global)) (lasts : List ℕ) (commits : List Commit) (bs : List AcceptedTablet) (parent : Option ℕ)
    → now ≡ lefts → AreLeft lefts lasts commits bs → InSlots commits (held_from now parent)
held-in lefts now lasts commits bs parent same a =
    subst (λ xs. InSlots commits (held_from xs parent)) (sym same) (held-slots lefts lasts commits bs parent a)
