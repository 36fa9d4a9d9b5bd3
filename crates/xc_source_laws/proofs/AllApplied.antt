-- All that waits is applied, one tablet after another: no apply is refused, and each takes a write at least.
use Rattle.std.proofs.Common.{◌≡◌, ◌≢◌, ℕ, ◌+◌, ◌-◌, ◌^◌, ◌≤◌, true, false, Bool, List, [], ◌∷◌, ◌++◌, length, map, Option, Some, None}
use Rattle.std.proofs.Common.{refl, ap, sym, ◌∙◌, subst, arith, ⊎_elim, zero-add}
use Rattle.std.specs.Prelude.{not, slice_get, slice_set, if◌then◌else◌, ◌&&◌, ◌||◌, ◌==◌, is_none, is_some, filter}
use Rattle.std.specs.List.{enumerate_from, list_any}
use Rattle.std.specs.Option.{option_map_or}
use Rattle.std.proofs.lemmas.Bool.Decides.{nat_tests}
use Rattle.std.proofs.lemmas.Bool.{and_parts, and_from, cases_eq}
use Rattle.std.proofs.lemmas.List.{length_push}
use Rattle.std.proofs.lemmas.Option.{same_Some}
use Rattle.xc_time.specs.Times.{last_time}
use Rattle.xc_record.specs.declared.record.Header.{Header}
use Rattle.xc_record.specs.declared.record.Record.{Record}
use Rattle.xc_record.specs.declared.record.Tablet.{Tablet}
use Rattle.xc_record.specs.Grown.{with_record, grown}
use Rattle.xc_record.specs.Hash.{holds, hash_of}
use Rattle.xc_record.specs.Order.{is_split}
use Rattle.xc_record.proofs.ListLaws.{Each}
use Rattle.xc_model.proofs.Flat.{each-flat}
use Rattle.xc_source.specs.declared.fail.SourceFail.TheVariants.{Unknown, NotOpen, NotCommitted, NotThere}
use Rattle.xc_source.specs.declared.transaction.Provisional.{Provisional}
use Rattle.xc_source.specs.declared.transaction.Stage.{Stage}
use Rattle.xc_source.specs.declared.transaction.Stage.TheVariants.{Live, Committed, Aborted}
use Rattle.xc_source.specs.Machine.{Machine, Transaction, transaction, with_transaction, is_open, is_live, commit_of, record_count}
use Rattle.xc_source.specs.Waiting.{waits_on, is_waiting, tablets_of, pending, taken_write, taken}
use Rattle.xc_source.specs.Calls as call
use Rattle.xc_source.specs.Calls.{logged, apply_kind}
use Rattle.xc_source.specs.Commands.{step, run}
use Rattle.xc_source.specs.Workload.{apply_command}
use Rattle.xc_source_laws.proofs.Lists.{get-seam}
use Rattle.xc_source_laws.proofs.Base.{next_record, each-set, each-two, transaction-at}
use Rattle.xc_source_laws.proofs.Keeps.{Kept}
use Rattle.xc_source_laws.proofs.Steps.{unit-closed, step-keeps}
use Rattle.xc_source_laws.proofs.Opened.{get-set-same, get-set-other, transaction-set, transaction-other, enumerated, each-map, each-kept}
use Rattle.xc_source_laws.proofs.ValidSource.{length-set}
use Rattle.xc_source_laws.proofs.Counts.{one-place}
use Rattle.xc_source_laws.proofs.Answered.{AllAnswered, none-of, no-when, answers, leaves, Room, not-full, not-ended}
use Rattle.xc_source_laws.proofs.Loads.{waiting, headers, size-record, heads-record, waiting-set, taken-less, NotLive}
use Rattle.xc_source_laws.proofs.Places.{Sole, sole, holds_open}
use Rattle.xc_source_laws.proofs.Distinct.{Differ, Distinct, pending-distinct}

-- something of the committed transaction waits on the open tablet
pub record WaitsAt (m : Machine) (p : ℕ × ℕ) : Type 0 where
  pub t : Transaction
  pub c : ℕ
  pub b : Tablet
  pub there : transaction m p.0 ≡ Some t
  pub commit : commit_of t.stage ≡ Some c
  pub at : slice_get m.tablets p.1 ≡ Some b
  pub opened : is_open b ≡ true
  pub waits : waits_on b.header t ≡ true

-- ---- one apply

abbrev after_apply : (m : Machine) (p : ℕ × ℕ) → WaitsAt m p → Machine
after_apply m p w = logged p.1 (apply_kind p.0 w.t) (with_transaction p.0 (taken w.b.header w.t) m)

applies-here : (m : Machine) (p : ℕ × ℕ) (w : WaitsAt m p) → Room m 1 → call.apply_refusal p.0 p.1 m ≡ None
applies-here m p w r =
    let unknown : call.unknown m p.0 ≡ None = no-when _ (Unknown p.0) (ap is_none w.there) in
    let opened : call.not_open m p.1 ≡ None =
    no-when _ (NotOpen p.1) (ap (λ o. is_none (option_map_or (λ (t : Tablet). if is_open t then Some t else None) o None)) w.at
    ∙ ap (λ b. is_none (if b then Some w.b else None)) w.opened) in
    let commit : not (call.is_committed m p.0) ≡ false =
    ap (λ o. not (option_map_or (λ (t : Transaction). is_some (commit_of t.stage)) o false)) w.there ∙ ap (λ o. not (is_some o)) w.commit in
    let waits : not (call.waits_at m p.0 p.1) ≡ false =
    ap (λ o. not (option_map_or (λ (t : Transaction). option_map_or (λ (b : Tablet). waits_on b.header t) (slice_get m.tablets p.1) false)
    o false)) w.there
    ∙ ap (λ o. not (option_map_or (λ (b : Tablet). waits_on b.header w.t) o false)) w.at ∙ ap not w.waits in
    none-of
    (call.unknown m p.0 ∷ call.not_open m p.1 ∷ call.when (not (call.is_committed m p.0)) (NotCommitted p.0)
    ∷ call.when (not (call.waits_at m p.0 p.1)) (NotThere p.1) ∷ call.full m 1 ∷ call.clock_end m 1 ∷ [])
    (unknown, (opened, (no-when _ (NotCommitted p.0) commit, (no-when _ (NotThere p.1) waits, (not-full m 1 r, (not-ended m 1 r, tt))))))

apply-answered : (m : Machine) (p : ℕ × ℕ) → WaitsAt m p → Room m 1 → (step (apply_command p) m).0 ≡ None
unfolding step
apply-answered m p w r = answers (call.apply_refusal p.0 p.1 m) m (m.time + 1) (call.applied p.0 p.1 m) (applies-here m p w r)

apply-leaves : (m : Machine) (p : ℕ × ℕ) (w : WaitsAt m p) → Room m 1 → (step (apply_command p) m).1 ≡ after_apply m p w
unfolding step
apply-leaves m p w r =
    leaves (call.apply_refusal p.0 p.1 m) m (m.time + 1) (call.applied p.0 p.1 m) (applies-here m p w r)
    ∙ ap (λ o. option_map_or (λ t. logged p.1 (apply_kind p.0 t)
    (option_map_or (λ (b : Tablet). with_transaction p.0 (taken b.header t) m) (slice_get m.tablets p.1) m)) o m) w.there
    ∙ ap (λ o. logged p.1 (apply_kind p.0 w.t) (option_map_or (λ (b : Tablet). with_transaction p.0 (taken b.header w.t) m) o m)) w.at

apply-takes : (m : Machine) (p : ℕ × ℕ) (w : WaitsAt m p) → waiting (after_apply m p w) + 1 ≤ waiting m
apply-takes m p w =
    let a = waiting-set m p.0 w.t (taken w.b.header w.t) w.there in
    let b = taken-less w.b.header w.t.writes w.waits in omega arith

committed-rests : (s : Stage) (c : ℕ) → commit_of s ≡ Some c → is_live s ≡ false
committed-rests Live c e = cc
committed-rests (Committed d) c e = refl
committed-rests Aborted c e = cc

-- ---- what waits still

-- an open tablet with a record more, which is no split
record Still (ts : List Tablet) (i : ℕ) (b : Tablet) : Type 0 where
  now : Tablet
  at : slice_get ts i ≡ Some now
  opened : is_open now ≡ true
  header : now.header ≡ b.header

open-grown : (t : Tablet) (r : Record) → is_split r.kind ≡ false → is_open (grown t r) ≡ true
open-grown t r e =
    ap (λ o. option_map_or (λ (q : Record). not (is_split q.kind)) o true)
    (get-seam t.records r [] (length (t.records ++ r ∷ []) - 1) (let z = length_push t.records r in omega arith)) ∙ ap not e

still : (ts : List Tablet) (id i : ℕ) (r : Record) (b : Tablet) → is_split r.kind ≡ false → slice_get ts i ≡ Some b → is_open b ≡ true
    → Still (with_record id r ts) i b
still ts id i r b n e o = go (slice_get ts id) refl
  where
    go : (found : Option Tablet) → slice_get ts id ≡ found
        → Still (option_map_or (λ t. slice_set ts id (grown t r)) found ts) i b
    go None q = record { now = b; at = e; opened = o; header = refl }
    go (Some t) q =
        ⊎_elim
        (λ same. record {
          now = grown t r;
          at = subst (λ k. slice_get (slice_set ts id (grown t r)) k ≡ Some (grown t r)) same
              (get-set-same ts id t (grown t r) q);
          opened = open-grown t r n;
          header = ap (λ (x : Tablet). x.header) (same_Some t b (sym q ∙ subst (λ k. slice_get ts k ≡ Some b) (sym same) e));
        })
        (λ d. record { now = b; at = get-set-other ts id i (grown t r) d ∙ e; opened = o; header = refl }) (cases_eq id i)

-- a write that waits on one tablet is not taken by an apply on another
any-still : (p q : Header) (ws : List Provisional) → ((h : ℕ) → holds q h ≡ true → holds p h ≡ false) → list_any (is_waiting q) ws ≡ true
    → list_any (is_waiting q) (map (taken_write p) ws) ≡ true
any-still p q [] f e = e
any-still p q (w ∷ ws) f e =
    elim (is_waiting q w) as (λ v. is_waiting q w ≡ v → (v || list_any (is_waiting q) ws) ≡ true
    → list_any (is_waiting q) (map (taken_write p) (w ∷ ws)) ≡ true) [
      | true ↦ λ a z.
          let h = hash_of w.op.key in
          let parts = and_parts w.waits (holds q h) a in
          let same : taken_write p w ≡ w = ap (λ b. if b then record w { waits = false } else w) (f h parts.1) in
          ap (λ x. is_waiting q x || list_any (is_waiting q) (map (taken_write p) ws)) same
          ∙ ap (λ b. b || list_any (is_waiting q) (map (taken_write p) ws)) a
      | false ↦ λ a z. or-right (is_waiting q (taken_write p w)) (list_any (is_waiting q) (map (taken_write p) ws)) (any-still p q ws f z)
    ] refl e
  where
    or-right : (a b : Bool) → b ≡ true → (a || b) ≡ true
    or-right true b e = refl
    or-right false b e = e

-- two open tablets at two places share no hash
apart : (ts : List Tablet) (i j : ℕ) (a b : Tablet) → Sole ts → i ≢ j → slice_get ts i ≡ Some a → slice_get ts j ≡ Some b
    → is_open a ≡ true → is_open b ≡ true → (h : ℕ) → holds b.header h ≡ true → holds a.header h ≡ false
apart ts i j a b s n e f o w h held =
    elim (holds a.header h) as (λ v. holds a.header h ≡ v → v ≡ false) [
      | true ↦ λ q. absurd (n (one-place (holds_open h) ts i j a b (s.one h) e f (and_from _ _ o q) (and_from _ _ w held)))
      | false ↦ λ q. refl
    ] refl

waits-still : (m : Machine) (p q : ℕ × ℕ) (w : WaitsAt m p) → WaitsAt m q → Sole m.tablets → Differ p q → WaitsAt (after_apply m p w) q
waits-still m p q w v s d =
    let r = next_record m (apply_kind p.0 w.t) in
    let here = still m.tablets p.1 q.1 r v.b refl v.at v.opened in
    ⊎_elim
    (λ e. let both : w.t ≡ v.t = same_Some w.t v.t (sym w.there ∙ subst (λ i. transaction m i ≡ Some v.t) (sym e) v.there) in
    let free = apart m.tablets p.1 q.1 w.b v.b s (λ z. d e z) w.at v.at w.opened v.opened in
    record {
      t = taken w.b.header w.t;
      c = w.c;
      b = here.now;
      there = subst (λ i. transaction (after_apply m p w) i ≡ Some (taken w.b.header w.t)) e
          (transaction-set m p.0 w.t (taken w.b.header w.t) w.there);
      commit = w.commit;
      at = here.at;
      opened = here.opened;
      waits = subst (λ h. waits_on h (taken w.b.header w.t) ≡ true) (sym here.header)
          (any-still w.b.header v.b.header w.t.writes free (ap (λ t. waits_on v.b.header t) both ∙ v.waits));
    })
    (λ n. record {
      t = v.t;
      c = v.c;
      b = here.now;
      there = transaction-other m p.0 q.0 v.t (taken w.b.header w.t) (transaction-at m p.0 w.t w.there).0 n v.there;
      commit = v.commit;
      at = here.at;
      opened = here.opened;
      waits = subst (λ h. waits_on h v.t ≡ true) (sym here.header) v.waits;
    }) (cases_eq p.0 q.0)

-- ---- all of them

pub record AreApplied (ps : List (ℕ × ℕ)) (m : Machine) : Type 0 where
  pub answered : AllAnswered (map apply_command ps) m
  pub taken : length ps + waiting (run (map apply_command ps) m) ≤ waiting m
  pub records : record_count (run (map apply_command ps) m) ≤ record_count m + length ps
  pub time : (run (map apply_command ps) m).time ≡ m.time + length ps
  pub heads : headers (run (map apply_command ps) m).tablets ≡ headers m.tablets
  pub begun : length (run (map apply_command ps) m).txns ≡ length m.txns
  pub idle : Each NotLive m.txns → Each NotLive (run (map apply_command ps) m).txns

-- there is room for all that waits
pub record RoomToApply (m : Machine) : Type 0 where
  pub records : record_count m + waiting m ≤ 2 ^ 20
  pub times : m.time + waiting m ≤ last_time

-- the same of those behind the first, which left the machine v
record Rest (ps : List (ℕ × ℕ)) (m v : Machine) : Type 0 where
  answered : AllAnswered (map apply_command ps) v
  taken : length ps + 1 + waiting (run (map apply_command ps) v) ≤ waiting m
  records : record_count (run (map apply_command ps) v) ≤ record_count m + length ps + 1
  time : (run (map apply_command ps) v).time ≡ m.time + length ps + 1
  heads : headers (run (map apply_command ps) v).tablets ≡ headers m.tablets
  begun : length (run (map apply_command ps) v).txns ≡ length m.txns
  idle : Each NotLive m.txns → Each NotLive (run (map apply_command ps) v).txns

with-first : (p : ℕ × ℕ) (ps : List (ℕ × ℕ)) (m : Machine) → (step (apply_command p) m).0 ≡ None
    → Rest ps m (step (apply_command p) m).1 → AreApplied (p ∷ ps) m
with-first p ps m e r =
    let z : length (p ∷ ps) ≡ length ps + 1 = omega arith in record {
      answered = (e, r.answered);
      taken = let x = r.taken in omega arith;
      records = let x = r.records in omega arith;
      time = let x = r.time in omega arith;
      heads = r.heads;
      begun = r.begun;
      idle = r.idle;
    }

pub applies-all : (ps : List (ℕ × ℕ)) (m : Machine) → Kept (λ _ _. Unit {0}) m → Each (WaitsAt m) ps → Distinct ps → RoomToApply m
    → AreApplied ps m
applies-all [] m k h d r = record {
  answered = tt;
  taken = let z : length {A = ℕ × ℕ} [] ≡ 0 = refl in omega arith;
  records = omega arith;
  time = omega arith;
  heads = refl;
  begun = refl;
  idle = λ i. i;
}
applies-all (p ∷ ps) m k h d r =
    let w = h.0 in
    let u = after_apply m p w in
    let rec = next_record m (apply_kind p.0 w.t) in
    let less = apply-takes m p w in
    let more = size-record p.1 rec m.tablets in
    let room : Room m 1 = record { records = let x = r.records in omega arith; times = let x = r.times in omega arith } in
    let left = apply-leaves m p w room in
    let kept = subst (Kept (λ _ _. Unit {0})) left (step-keeps (λ _ _. Unit {0}) unit-closed (apply_command p) m tt k) in
    let alone = sole m k in
    let rests = each-two (WaitsAt m) (Differ p) (WaitsAt u) (λ q v n. waits-still m p q w v alone n) ps h.1 d.0 in
    let roomy : RoomToApply u =
    record { records = let x = r.records in omega arith; times = let x = r.times in omega arith } in
    let next = applies-all ps u kept rests d.1 roomy in
    with-first p ps m (apply-answered m p w room) (subst (Rest ps m) (sym left) (record {
      answered = next.answered;
      taken = let x = next.taken in omega arith;
      records = let x = next.records in omega arith;
      time = let x = next.time in omega arith;
      heads = next.heads ∙ heads-record p.1 rec m.tablets;
      begun = next.begun ∙ length-set m.txns (p.0 - 1) (taken w.b.header w.t);
      idle = λ i. next.idle (each-set NotLive m.txns (p.0 - 1) (taken w.b.header w.t) (committed-rests w.t.stage w.c w.commit) i);
    }))

-- ---- what is pending waits

pub pending-waits : (m : Machine) → Each (WaitsAt m) (pending m)
unfolding pending tablets_of
pending-waits m =
    let Known : ℕ × Transaction → Type 0 = λ p. transaction m p.0 ≡ Some p.1 in
    let known : Each Known (enumerate_from 1 m.txns) = enumerated Known 1 m.txns (λ i x e. txn-number i x e) in
    each-flat (WaitsAt m) (λ p. map (λ id. (p.0, id)) (tablets_of m p.1)) (λ p. Known p × (is_some (commit_of p.1.stage) ≡ true))
    (λ p h. each-map (WaitsAt m) (λ i. Here p.1 i) (λ id. (p.0, id)) (λ i w. one p i h.0 h.1 w) (tablets_of m p.1) (waiting-here p.1))
    (filter (λ p. is_some (commit_of p.1.stage)) (enumerate_from 1 m.txns))
    (each-kept Known (λ p. is_some (commit_of p.1.stage)) (enumerate_from 1 m.txns) known)
  where
    txn-number : (i : ℕ) (x : Transaction) → slice_get m.txns i ≡ Some x → transaction m (1 + i) ≡ Some x
    txn-number i x e =
        let z : (1 + i == 0) ≡ false = grind (arith, nat_tests) in
        let y : 1 + i - 1 ≡ i = omega arith in
        ap (λ b. if b then None else slice_get m.txns (1 + i - 1)) z ∙ ap (λ w. slice_get m.txns w) y ∙ e

    Here : Transaction → ℕ → Type 0
    Here t i = (b : Tablet) × (slice_get m.tablets i ≡ Some b) × (is_open b ≡ true) × (waits_on b.header t ≡ true)

    waiting-here : (t : Transaction) → Each (Here t) (tablets_of m t)
    waiting-here t =
        let There : ℕ × Tablet → Type 0 = λ p. slice_get m.tablets p.0 ≡ Some p.1 in
        each-map (Here t) (λ p. There p × ((is_open p.1 && waits_on p.1.header t) ≡ true)) (λ p. p.0)
        (λ p h. let parts = and_parts _ _ h.1 in (p.1, h.0, parts.0, parts.1))
        (filter (λ p. is_open p.1 && waits_on p.1.header t) (enumerate_from 0 m.tablets))
        (each-kept There (λ p. is_open p.1 && waits_on p.1.header t) (enumerate_from 0 m.tablets)
        (enumerated There 0 m.tablets (λ i x e. subst (λ w. slice_get m.tablets w ≡ Some x) (sym (zero-add i)) e)))

    one : (p : ℕ × Transaction) (i : ℕ) → transaction m p.0 ≡ Some p.1 → is_some (commit_of p.1.stage) ≡ true → Here p.1 i
        → WaitsAt m (p.0, i)
    one p i e s w = go (commit_of p.1.stage) refl s
      where
        go : (o : Option ℕ) → commit_of p.1.stage ≡ o → is_some o ≡ true → WaitsAt m (p.0, i)
        go None q z = cc
        go (Some c) q z = record { t = p.1; c = c; b = w.0; there = e; commit = q; at = w.1; opened = w.2; waits = w.3 }

-- what is pending is applied, no apply is refused, and there are as many as writes wait at most
pub applies-pending : (m : Machine) → Kept (λ _ _. Unit {0}) m → RoomToApply m → AreApplied (pending m) m
applies-pending m k r = applies-all (pending m) m k (pending-waits m) (pending-distinct m) r
