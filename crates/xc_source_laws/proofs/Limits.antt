-- Each command keeps the limits on records, tablets, transactions and times.
use Rattle.std.proofs.Common.{◌≡◌, ℕ, suc, ◌+◌, ◌-◌, ◌^◌, ◌<◌, ◌≤◌, List, [], ◌∷◌, ◌++◌, length, map, Option}
use Rattle.std.proofs.Common.{Some, None}
use Rattle.std.proofs.Common.{refl, ap, sym, ◌∙◌, subst, arith, zero-add}
use Rattle.std.specs.Prelude.{not, slice_get, slice_set, fold, sum_by}
use Rattle.std.specs.Option.{option_map_or}
use Rattle.std.proofs.lemmas.Bool.{leb-false, ltb-false}
use Rattle.std.proofs.lemmas.List.{length_push, length-map, map-append, length-append}
use Rattle.std.proofs.lemmas.List.Sums.{sum_by-append, sum_by-cons}
use Rattle.xc_time.specs.Times.{last_time}
use Rattle.xc_record.specs.declared.record.Kind.{Kind}
use Rattle.xc_record.specs.declared.record.Kind.TheVariants as kind
use Rattle.xc_record.specs.declared.record.Op.{Op}
use Rattle.xc_record.specs.declared.record.Record.{Record}
use Rattle.xc_record.specs.declared.record.Tablet.{Tablet}
use Rattle.xc_record.specs.Grown.{with_record, grown}
use Rattle.xc_record.specs.Accepted.{AcceptedTablet}
use Rattle.xc_record.proofs.ListLaws.{Each}
use Rattle.xc_source.specs.declared.command.SourceCommand.{SourceCommand}
use Rattle.xc_source.specs.declared.command.SourceCommand.TheVariants as command
use Rattle.xc_source.specs.declared.fail.SourceFail.{SourceFail}
use Rattle.xc_source.specs.declared.fail.SourceFail.TheVariants.{NotCommitted, NotThere}
use Rattle.xc_source.specs.declared.transaction.Stage.TheVariants.{Committed}
use Rattle.xc_source.specs.Machine.{Machine, Transaction, transaction, with_transaction, begun, record_count}
use Rattle.xc_source.specs.Waiting.{tablets_of, open_tablets, pending, taken as taken_on}
use Rattle.xc_source.specs.Calls as call
use Rattle.xc_source.specs.Calls.{unless, full, clock_end, with_aborts, all_applied, all_safe, to_transaction, logged, written, with_commit}
use Rattle.xc_source.specs.Calls.{listed, aborted}
use Rattle.xc_source.specs.Calls.{apply_kind, child}
use Rattle.xc_source.specs.Commands.{step, run}
use Rattle.xc_source_laws.specs.Laws.{CommandFits}
use Rattle.xc_source_laws.proofs.Lists.{Seam}
use Rattle.xc_source_laws.proofs.Grow.{tablet_of}
use Rattle.xc_source_laws.proofs.Base.{next_record, with_record-seam}
use Rattle.xc_source_laws.proofs.Moves.{Closed}
use Rattle.xc_source_laws.proofs.Keeps.{Kept}
use Rattle.xc_source_laws.proofs.Opened.{all-none, not-when, live-txn-at}
use Rattle.xc_source_laws.proofs.Steps.{unit-closed, step-keeps}
use Rattle.xc_source_laws.proofs.ValidSource.{length-set}

pub record Limits (m : Machine) : Type 0 where
  pub time : m.time ≤ last_time
  pub records : record_count m ≤ 2 ^ 20
  pub tablets : length m.tablets ≤ 64
  pub txns : length m.txns < 2 ^ 32

-- ---- a time for each record

abbrev size : List Tablet → ℕ
size ts = sum_by (λ t. length t.records) ts

size-seam : (xs : List Tablet) (t : Tablet) (ys : List Tablet) (r : Record) → size (xs ++ grown t r ∷ ys) ≡ size (xs ++ t ∷ ys) + 1
size-seam xs t ys r =
    let a = sum_by-append (λ (t : Tablet). length t.records) xs (grown t r ∷ ys) in
    let b = sum_by-append (λ (t : Tablet). length t.records) xs (t ∷ ys) in
    let c = sum_by-cons (λ (t : Tablet). length t.records) (grown t r) ys in
    let d = sum_by-cons (λ (t : Tablet). length t.records) t ys in
    let e = length_push t.records r in omega arith

size-logged : (m : Machine) (bs : List AcceptedTablet) (id : ℕ) (b : AcceptedTablet) (s : Seam bs id b) (r : Record)
    → m.tablets ≡ map tablet_of bs
    → size (with_record id r m.tablets) ≡ size m.tablets + 1
size-logged m bs id b s r k =
    let xs = map tablet_of s.before in
    let ys = map tablet_of s.after in
    let whole : m.tablets ≡ xs ++ tablet_of b ∷ ys = k ∙ ap (map tablet_of) s.whole ∙ map-append tablet_of s.before (b ∷ s.after) in
    ap (λ ts. size (with_record id r ts)) whole
    ∙ ap size (with_record-seam xs (tablet_of b) ys id r (length-map s.before tablet_of ∙ s.number))
    ∙ size-seam xs (tablet_of b) ys r ∙ ap (λ ts. size ts + 1) (sym whole)

-- since the time t0, at which there were r0 records, no more records came than times went by
abbrev Slow : ℕ → ℕ → Machine → List AcceptedTablet → Type 0
Slow t0 r0 m bs = record_count m + t0 ≤ m.time + r0

slow-listed : (t0 r0 time n : ℕ) (t : Transaction) (m : Machine) (bs : List AcceptedTablet) → Slow t0 r0 m bs
    → Slow t0 r0 (listed time n t m) bs
slow-listed t0 r0 time n t m bs s = s

slow-closed : (t0 r0 : ℕ) → Closed (Slow t0 r0)
slow-closed t0 r0 = record {
  clock = λ m bs u k l p. omega arith;
  begin = λ m bs k p. p;
  savepoint = λ m bs n t k l f p. p;
  roll_back = λ m bs n sub t k l i f p. p;
  write = λ m bs n op t id b o k l h f p.
      let e = size-logged m bs id b o.seam (next_record m (kind.Intent t.current n (op ∷ []))) k.shape in omega arith;
  put = λ m bs op id b o k h f p. let e = size-logged m bs id b o.seam (next_record m (kind.Write (op ∷ []))) k.shape in omega arith;
  commit = λ m bs n t k l p. slow-listed t0 r0 (m.time + 1) n t
      (with_transaction n (record t { stage = Committed (m.time + 1) }) (record m { time = m.time + 1 })) bs (let q = p in omega arith);
  abort = λ m bs n t k l p. p;
  abort_log = λ m bs n t id b o k e a p. let e = size-logged m bs id b o.seam (next_record m (kind.Abort n)) k.shape in omega arith;
  apply = λ m bs n c t id b o k a p. let e = size-logged m bs id b o.seam (next_record m (kind.Apply n c t.undone)) k.shape in omega arith;
  safe = λ m bs id v b o k s p. let e = size-logged m bs id b o.seam (next_record m (kind.Safe v)) k.shape in omega arith;
  split = λ m bs id at b o k l h p.
      let rec = next_record m (kind.Split at (length m.tablets) (length m.tablets + 1)) in
      let e = size-logged m bs id b o.seam rec k.shape in
      let one = child (length m.tablets) b.header.lo (at - 1) id in
      let two = child (length m.tablets + 1) at b.header.hi id in
      let q = sum_by-append (λ (t : Tablet). length t.records) (with_record id rec m.tablets) (one ∷ two ∷ []) in
      let z : size (one ∷ two ∷ []) ≡ 0 = refl in omega arith;
}

-- ---- how far a machine grew

-- by k times at most, and with no tablet and no transaction more
record Grew (k : ℕ) (m u : Machine) : Type 0 where
  time : u.time ≤ m.time + k
  tablets : length u.tablets ≡ length m.tablets
  txns : length u.txns ≡ length m.txns

length-record : (id : ℕ) (r : Record) (ts : List Tablet) → length (with_record id r ts) ≡ length ts
length-record id r ts = go (slice_get ts id)
  where
    go : (o : Option Tablet) → length (option_map_or (λ t. slice_set ts id (grown t r)) o ts) ≡ length ts
    go None = refl
    go (Some t) = length-set ts id (grown t r)

grew-logged : (id : ℕ) (kind : Kind) (m : Machine) → Grew 1 m (logged id kind m)
grew-logged id kind m = record { time = omega arith; tablets = length-record id (next_record m kind) m.tablets; txns = refl }

grew-then : (a b : ℕ) (m u w : Machine) → Grew a m u → Grew b u w → Grew (a + b) m w
grew-then a b m u w g h = record {
  time = let x = g.time in let y = h.time in omega arith;
  tablets = h.tablets ∙ g.tablets;
  txns = h.txns ∙ g.txns;
}

grew-txn : (n : ℕ) (t : Transaction) (m : Machine) → Grew 0 m (with_transaction n t m)
grew-txn n t m = record { time = omega arith; tablets = refl; txns = length-set m.txns (n - 1) t }

grew-none : (k : ℕ) (m : Machine) → Grew k m m
grew-none k m = record { time = omega arith; tablets = refl; txns = refl }

grew-applied : (n id : ℕ) (m : Machine) → Grew 1 m (call.applied n id m)
grew-applied n id m = go (transaction m n)
  where
    at : (t : Transaction) (o : Option Tablet) → Grew 0 m (option_map_or (λ (b : Tablet). with_transaction n (taken_on b.header t) m) o m)
    at t None = grew-none 0 m
    at t (Some b) = grew-txn n (taken_on b.header t) m

    go : (o : Option Transaction)
        → Grew 1 m (option_map_or (λ t. logged id (apply_kind n t)
        (option_map_or (λ (b : Tablet). with_transaction n (taken_on b.header t) m) (slice_get m.tablets id) m)) o m)
    go None = grew-none 1 m
    go (Some t) =
        let u = option_map_or (λ (b : Tablet). with_transaction n (taken_on b.header t) m) (slice_get m.tablets id) m in
        grew-then 0 1 m u (logged id (apply_kind n t) u) (at t (slice_get m.tablets id)) (grew-logged id (apply_kind n t) u)

grew-fold : {A : Type 0} (f : Machine → A → Machine) → ((m : Machine) (x : A) → Grew 1 m (f m x)) → (xs : List A) (m : Machine)
    → Grew (length xs) m (fold f m xs)
grew-fold f g [] m = grew-none 0 m
grew-fold f g (x ∷ xs) m =
    let one = grew-then 1 (length xs) m (f m x) (fold f (f m x) xs) (g m x) (grew-fold f g xs (f m x)) in
    subst (λ k. Grew k m (fold f (f m x) xs)) (let z : 1 + length xs ≡ suc (length xs) = omega arith in z) one

-- ---- each command

limits-after : (k : ℕ) (m u : Machine) → Limits m → Grew k m u → record_count u + m.time ≤ u.time + record_count m
    → record_count m + k ≤ 2 ^ 20
    → m.time + k ≤ last_time → Limits u
limits-after k m u l g s r t = record {
  time = let x = g.time in omega arith;
  records = let x = g.time in omega arith;
  tablets = let x = g.tablets in let y = l.tablets in omega arith;
  txns = let x = g.txns in let y = l.txns in omega arith;
}

limits-unless : {X : Type 0} (o : Option SourceFail) (m : Machine) (x : X) (after : Machine) → Limits m → (o ≡ None → Limits after)
    → Limits (unless o m x after).1
limits-unless None m x after l f = f refl
limits-unless (Some fail) m x after l f = l

-- records and times are left
record Room (m : Machine) (k : ℕ) : Type 0 where
  records : record_count m + k ≤ 2 ^ 20
  times : m.time + k ≤ last_time

room : (m : Machine) (k : ℕ) → full m k ≡ None → clock_end m k ≡ None → Room m k
room m k f c = record { records = ltb-false _ _ (not-when _ _ f); times = ltb-false _ _ (not-when _ _ c) }

abbrev SlowTo : Machine → Machine → Type 0
SlowTo m u = record_count u + m.time ≤ u.time + record_count m

by-unless : {X : Type 0} (o : Option SourceFail) (m : Machine) (x : X) (after : Machine) → Limits m → SlowTo m (unless o m x after).1
    → (o ≡ None → SlowTo m after → Limits after) → Limits (unless o m x after).1
by-unless None m x after l s f = f refl s
by-unless (Some fail) m x after l s f = l

with-room : (k : ℕ) (m u : Machine) → Limits m → Room m k → Grew k m u → SlowTo m u → Limits u
with-room k m u l r g s = limits-after k m u l g s r.records r.times

grew-to : (k : ℕ) (f : Transaction → Machine) (m : Machine) (n : ℕ) → ((t : Transaction) → Grew k m (f t)) → Grew k m (to_transaction f m n)
grew-to k f m n g = go (transaction m n)
  where
    go : (o : Option Transaction) → Grew k m (option_map_or f o m)
    go None = grew-none k m
    go (Some t) = g t

write-limits : (n : ℕ) (op : Op) (m : Machine) → Limits m → SlowTo m (call.write n op m).1 → Limits (call.write n op m).1
write-limits n op m l s =
    by-unless _ m _ _ l s (λ e q.
    let p = all-none (call.unknown m n ∷ call.ended m n ∷ call.conflict m n op ∷ full m 1 ∷ clock_end m 1 ∷ []) e in
    with-room 1 m (to_transaction (call.write_after n op m) m n) l (room m 1 p.1.1.1.0 p.1.1.1.1.0)
    (grew-to 1 (call.write_after n op m) m n (λ t.
    grew-then 0 1 m (with_transaction n (written op t) m) (call.write_after n op m t) (grew-txn n (written op t) m)
    (grew-logged (call.tablet_of m op.key) (kind.Intent t.current n (op ∷ [])) (with_transaction n (written op t) m)))) q)

put-limits : (op : Op) (m : Machine) → Limits m → SlowTo m (call.put op m).1 → Limits (call.put op m).1
put-limits op m l s =
    by-unless _ m _ _ l s (λ e q.
    let p = all-none (call.conflict m 0 op ∷ full m 1 ∷ clock_end m 1 ∷ []) e in
    let g = grew-logged (call.tablet_of m op.key) (kind.Write (op ∷ [])) m in
    with-room 1 m (with_commit (m.time + 1) 0 (op ∷ []) (logged (call.tablet_of m op.key) (kind.Write (op ∷ [])) m)) l
    (room m 1 p.1.0 p.1.1.0)
    (record { time = g.time; tablets = g.tablets; txns = g.txns }) q)

-- the clock moved, and nothing else
record Moved (m u : Machine) : Type 0 where
  time : u.time ≤ last_time
  tablets : u.tablets ≡ m.tablets
  txns : length u.txns ≡ length m.txns

limits-moved : (m u : Machine) → Limits m → Moved m u → Limits u
limits-moved m u l k = record {
  time = k.time;
  records = subst (λ ts. size ts ≤ 2 ^ 20) (sym k.tablets) l.records;
  tablets = subst (λ ts. length ts ≤ 64) (sym k.tablets) l.tablets;
  txns = let x = k.txns in let y = l.txns in omega arith;
}

moved-listed : (time n : ℕ) (t : Transaction) (m u : Machine) → Moved m u → Moved m (listed time n t u)
moved-listed time n t m u k = record { time = k.time; tablets = k.tablets; txns = k.txns }

commit-limits : (n : ℕ) (m : Machine) → Limits m → Limits (call.commit n m).1
commit-limits n m l =
    limits-unless _ m _ _ l (λ e.
    let p = all-none (call.unknown m n ∷ call.ended m n ∷ clock_end m 1 ∷ []) e in
    let times : m.time + 1 ≤ last_time = ltb-false _ _ (not-when _ _ p.1.1.0) in
    limits-moved m (to_transaction (call.commit_after n m) m n) l (go times (transaction m n)))
  where
    go : m.time + 1 ≤ last_time → (o : Option Transaction) → Moved m (option_map_or (call.commit_after n m) o m)
    go t None = record { time = omega arith; tablets = refl; txns = refl }
    go t (Some x) =
        moved-listed (m.time + 1) n x m (with_transaction n (record x { stage = Committed (m.time + 1) }) (record m { time = m.time + 1 }))
        (record { time = t; tablets = refl; txns = length-set m.txns (n - 1) (record x { stage = Committed (m.time + 1) }) })

abort-limits : (n : ℕ) (m : Machine) → Limits m → SlowTo m (call.abort n m).1 → Limits (call.abort n m).1
abort-limits n m l s =
    by-unless _ m _ _ l s (λ e q.
    let p = all-none (call.unknown m n ∷ call.ended m n ∷ full m (call.places_of m n) ∷ clock_end m (call.places_of m n) ∷ []) e in
    let live = live-txn-at m n p.0 p.1.0 in
    let t = live.0 in
    let k = length (tablets_of m t) in
    let count : call.places_of m n ≡ k = ap (λ o. option_map_or (λ (t : Transaction). length (tablets_of m t)) o 0) live.1.there in
    let after : to_transaction (call.abort_after n m) m n ≡ call.abort_after n m t =
    ap (λ o. option_map_or (call.abort_after n m) o m) live.1.there in
    let r = room m (call.places_of m n) p.1.1.0 p.1.1.1.0 in
    let grew : Grew k m (call.abort_after n m t) =
    subst (λ w. Grew w m (call.abort_after n m t)) (zero-add k)
    (grew-then 0 k m (with_transaction n (aborted t) m) (call.abort_after n m t) (grew-txn n (aborted t) m)
    (grew-fold (λ m' id. logged id (kind.Abort n) m') (λ m' id. grew-logged id (kind.Abort n) m') (tablets_of m t)
    (with_transaction n (aborted t) m))) in
    subst Limits (sym after)
    (with-room k m (call.abort_after n m t) l (subst (Room m) count r) grew (subst (SlowTo m) after q)))

apply-limits : (n id : ℕ) (m : Machine) → Limits m → SlowTo m (call.apply n id m).1 → Limits (call.apply n id m).1
apply-limits n id m l s =
    by-unless _ m _ _ l s (λ e q.
    let p = all-none
    (call.unknown m n ∷ call.not_open m id ∷ call.when (not (call.is_committed m n)) (NotCommitted n)
    ∷ call.when (not (call.waits_at m n id)) (NotThere id) ∷ full m 1 ∷ clock_end m 1 ∷ []) e in
    with-room 1 m (call.applied n id m) l (room m 1 p.1.1.1.1.0 p.1.1.1.1.1.0) (grew-applied n id m) q)

safe-limits : (id : ℕ) (m : Machine) → Limits m → SlowTo m (call.safe id m).1 → Limits (call.safe id m).1
safe-limits id m l s =
    by-unless _ m _ _ l s (λ e q.
    let p = all-none (call.not_open m id ∷ full m 1 ∷ clock_end m 1 ∷ []) e in
    with-room 1 m (call.with_safe id m) l (room m 1 p.1.0 p.1.1.0) (grew-logged id (kind.Safe (call.safe_value m id)) m) q)

split-limits : (id at : ℕ) (m : Machine) → Limits m → SlowTo m (call.split id at m).1 → Limits (call.split id at m).1
split-limits id at m l s =
    by-unless _ m _ _ l s (λ e q.
    let p = all-none (call.not_open m id ∷ call.bad_place m id at ∷ call.tablets_full m ∷ full m 1 ∷ clock_end m 1 ∷ []) e in
    let few : length m.tablets + 2 ≤ 64 = ltb-false _ _ (not-when _ _ p.1.1.0) in
    go few (room m 1 p.1.1.1.0 p.1.1.1.1.0) (slice_get m.tablets id) q)
  where
    go : length m.tablets + 2 ≤ 64 → Room m 1 → (o : Option Tablet)
        → SlowTo m (option_map_or (λ (b : Tablet). call.split_after id at m b.header) o m)
        → Limits (option_map_or (λ (b : Tablet). call.split_after id at m b.header) o m)
    go few r None q = l
    go few r (Some b) q =
        let rec = next_record m (kind.Split at (length m.tablets) (length m.tablets + 1)) in
        let one = child (length m.tablets) b.header.lo (at - 1) id in
        let two = child (length m.tablets + 1) at b.header.hi id in
        let a = length-append (with_record id rec m.tablets) (one ∷ two ∷ []) in
        let b = length-record id rec m.tablets in
        let z : length (one ∷ two ∷ []) ≡ 2 = refl in
        let x = r.records in
        let y = r.times in
        record { time = omega arith; records = omega arith; tablets = omega arith; txns = l.txns }

finish-limits : (m : Machine) → Limits m → SlowTo m (call.finish m).1 → Limits (call.finish m).1
finish-limits m l s =
    by-unless _ m _ _ l s (λ e q.
    let p = all-none (full m (call.finish_count m) ∷ clock_end m (call.finish_count m) ∷ []) e in
    let u = all_applied m in
    let w = all_safe (open_tablets m) u in
    with-room (call.finish_count m) m w l (room m (call.finish_count m) p.0 p.1.0)
    (grew-then (length (pending m)) (length (open_tablets m)) m u w
    (grew-fold (λ m' p. call.applied p.0 p.1 m') (λ m' p. grew-applied p.0 p.1 m') (pending m) m)
    (grew-fold (λ m' id. call.with_safe id m') (λ m' id. grew-logged id (kind.Safe (call.safe_value m' id)) m') (open_tablets m) u)) q)

begin-limits : (m : Machine) → Limits m → Limits (call.begin m).1
begin-limits m l =
    limits-unless _ m _ _ l (λ e.
    let few : length m.txns < 2 ^ 32 - 1 = leb-false _ _ (not-when _ _ e) in
    record {
      time = l.time;
      records = l.records;
      tablets = l.tablets;
      txns = let z = length_push m.txns begun in omega arith;
    })

txn-limits : (f : Transaction → Transaction) (n : ℕ) (m : Machine) → Limits m
    → Limits (to_transaction (λ t. with_transaction n (f t) m) m n)
txn-limits f n m l =
    limits-moved m (to_transaction (λ t. with_transaction n (f t) m) m n) l (go (transaction m n))
  where
    go : (o : Option Transaction) → Moved m (option_map_or (λ t. with_transaction n (f t) m) o m)
    go None = record { time = l.time; tablets = refl; txns = refl }
    go (Some t) = record { time = l.time; tablets = refl; txns = length-set m.txns (n - 1) (f t) }

tick-limits : (to : ℕ) (m : Machine) → to ≤ last_time → Limits m → Limits (call.tick to m).1
tick-limits to m t l =
    limits-unless _ m _ _ l (λ e. record { time = t; records = l.records; tablets = l.tablets; txns = l.txns })

slow-step : (c : SourceCommand) (m : Machine) → CommandFits c → Kept (λ _ _. Unit {0}) m → SlowTo m (step c m).1
slow-step c m f k =
    (step-keeps (Slow m.time (record_count m)) (slow-closed m.time (record_count m)) c m f
    (record { books = k.books; base = k.base; holds_of = omega arith })).holds_of

step-limits : (c : SourceCommand) (m : Machine) → CommandFits c → SlowTo m (step c m).1 → Limits m → Limits (step c m).1
unfolding step
step-limits command.Begin m f s l = begin-limits m l
step-limits (command.Write txn op) m f s l = write-limits txn op m l s
step-limits (command.Put op) m f s l = put-limits op m l s
step-limits (command.Commit txn) m f s l = commit-limits txn m l
step-limits (command.Abort txn) m f s l = abort-limits txn m l s
step-limits (command.Apply txn id) m f s l = apply-limits txn id m l s
step-limits (command.Safe id) m f s l = safe-limits id m l s
step-limits (command.Split id at) m f s l = split-limits id at m l s
step-limits (command.Tick to) m f s l = tick-limits to m f l
step-limits command.Finish m f s l = finish-limits m l s
step-limits (command.Savepoint txn) m f s l =
    limits-unless _ m _ _ l (λ e. txn-limits call.next_begun txn m l)
step-limits (command.Rollback txn sub) m f s l =
    limits-unless _ m _ _ l (λ e. txn-limits (λ t. call.next_begun (call.undone_from sub t)) txn m l)

pub run-limits : (cs : List SourceCommand) (m : Machine) → Each CommandFits cs → Kept (λ _ _. Unit {0}) m → Limits m → Limits (run cs m)
run-limits [] m f k l = l
run-limits (c ∷ cs) m f k l =
    run-limits cs (step c m).1 f.1 (step-keeps (λ _ _. Unit {0}) unit-closed c m f.0 k) (step-limits c m f.0 (slow-step c m f.0 k) l)
