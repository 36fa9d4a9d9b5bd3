-- What each move keeps, each command keeps, and each list of commands.
use Rattle.std.proofs.Common.{◌≡◌, ℕ, suc, ◌+◌, ◌-◌, ◌<◌, ◌≤◌, true, false, Bool, List, [], ◌∷◌, length, map, Option, Some, None}
use Rattle.std.proofs.Common.{refl, ap, sym, ◌∙◌, subst, arith, ⊎_elim, zero-add}
use Rattle.std.specs.Prelude.{not, slice_get, if◌then◌else◌, ◌&&◌, ◌||◌, ◌==◌, is_some, filter, fold, nat_le, nat_lt}
use Rattle.std.specs.List.{enumerate_from}
use Rattle.std.specs.Option.{option_map_or}
use Rattle.std.proofs.lemmas.Bool.Decides.{nat_tests}
use Rattle.std.proofs.lemmas.Bool.{and_parts, or_parts, leb-false, ltb-false, cases_eq}
use Rattle.std.proofs.lemmas.List.{length-map}
use Rattle.std.proofs.lemmas.Option.{same_Some}
use Rattle.xc_time.specs.Times.{last_time}
use Rattle.xc_record.specs.declared.record.Kind.TheVariants as kind
use Rattle.xc_record.specs.declared.record.Op.{Op}
use Rattle.xc_record.specs.declared.record.Record.{Record}
use Rattle.xc_record.specs.declared.record.Tablet.{Tablet}
use Rattle.xc_record.specs.Order.{is_split}
use Rattle.xc_record.specs.Accepted.{AcceptedTablet}
use Rattle.xc_record.proofs.ListLaws.{Each, Each-weaker}
use Rattle.xc_model.proofs.Flat.{each-flat}
use Rattle.xc_source.specs.declared.command.SourceCommand.{SourceCommand}
use Rattle.xc_source.specs.declared.command.SourceCommand.TheVariants as command
use Rattle.xc_source.specs.declared.fail.SourceFail.{SourceFail}
use Rattle.xc_source.specs.declared.fail.SourceFail.TheVariants.{BadPlace}
use Rattle.xc_source.specs.declared.transaction.Stage.TheVariants.{Aborted}
use Rattle.xc_source.specs.Machine.{Machine, Transaction, transaction, with_transaction, is_open, commit_of}
use Rattle.xc_source.specs.Waiting.{waits_on, is_waiting, tablets_of, open_tablets, pending, taken_write, taken as taken_on}
use Rattle.xc_source.specs.Calls as call
use Rattle.xc_source.specs.Calls.{Case, unless, when, clock_end, with_aborts, all_applied, all_safe, to_transaction, logged, aborted}
use Rattle.xc_source.specs.Calls.{apply_kind}
use Rattle.xc_source.specs.Commands.{step, run}
use Rattle.xc_source_laws.specs.Laws.{OpFits, CommandFits}
use Rattle.xc_source_laws.proofs.Lists.{each-here}
use Rattle.xc_source_laws.proofs.Grow.{tablet_of}
use Rattle.xc_source_laws.proofs.Books.{opens}
use Rattle.xc_source_laws.proofs.Base.{IsMachine, Above, next_record, grown_books, get-txn, transaction-at}
use Rattle.xc_source_laws.proofs.Moves.{Closed, OpenAt, MayApply}
use Rattle.xc_source_laws.proofs.Keeps.{Kept, move-clock, move-begin, move-savepoint, move-roll-back, move-commit, move-abort, move-write}
use Rattle.xc_source_laws.proofs.Keeps.{move-put}
use Rattle.xc_source_laws.proofs.Keeps.{wrote-some, move-abort-log, move-apply, move-safe, move-split, may-be-safe, safe-value-is}
use Rattle.xc_source_laws.proofs.Keeps.{safe_from}
use Rattle.xc_source_laws.proofs.Opened.{none-or, not-when, known-txn, live-txn-at, OpenBook, open-at, tablet-at, book-of, open-of}
use Rattle.xc_source_laws.proofs.Opened.{open-book}
use Rattle.xc_source_laws.proofs.Opened.{still-open, open-for, transaction-set, transaction-other, enumerated, each-map, each-kept}

-- a refused call leaves all as it is
kept-unless : {X : Type 0} (P : Machine → List AcceptedTablet → Type 0) (o : Option SourceFail) (m : Machine) (x : X) (after : Machine)
    → Kept P m
    → (o ≡ None → Kept P after) → Kept P (unless o m x after).1
kept-unless P None m x after k f = f refl
kept-unless P (Some fail) m x after k f = k

done-with : (f : Transaction → Machine) (m : Machine) (n : ℕ) (t : Transaction) → transaction m n ≡ Some t → f t ≡ to_transaction f m n
done-with f m n t e = sym (ap (λ o. option_map_or f o m) e)

-- ---- one record, or none

begin-keeps : (P : Machine → List AcceptedTablet → Type 0) → Closed P → (m : Machine) → Kept P m → Kept P (call.begin m).1
begin-keeps P cl m k = kept-unless P _ m _ _ k (λ _. move-begin P cl m k)

write-keeps : (P : Machine → List AcceptedTablet → Type 0) → Closed P → (n : ℕ) (op : Op) (m : Machine) → OpFits op → Kept P m
    → Kept P (call.write n op m).1
write-keeps P cl n op m f k =
    kept-unless P _ m _ _ k (λ e.
    let one = none-or _ _ e in
    let two = none-or _ _ one.1 in
    let live = live-txn-at m n one.0 two.0 in
    let found = open-for m k.books op.key k.base in
    subst (Kept P) (done-with (call.write_after n op m) m n live.0 live.1.there)
    (move-write P cl m n op live.0 (call.tablet_of m op.key) found.book k
    (open-at m k.books (call.tablet_of m op.key) (record { book = found.book; at = found.at; opened = found.opened })) live.1 found.held f))

put-keeps : (P : Machine → List AcceptedTablet → Type 0) → Closed P → (op : Op) (m : Machine) → OpFits op → Kept P m
    → Kept P (call.put op m).1
put-keeps P cl op m f k =
    kept-unless P _ m _ _ k (λ e.
    let found = open-for m k.books op.key k.base in
    move-put P cl m op (call.tablet_of m op.key) found.book k
    (open-at m k.books (call.tablet_of m op.key) (record { book = found.book; at = found.at; opened = found.opened })) found.held f)

commit-keeps : (P : Machine → List AcceptedTablet → Type 0) → Closed P → (n : ℕ) (m : Machine) → Kept P m → Kept P (call.commit n m).1
commit-keeps P cl n m k =
    kept-unless P _ m _ _ k (λ e.
    let one = none-or _ _ e in
    let two = none-or _ _ one.1 in
    let live = live-txn-at m n one.0 two.0 in
    subst (Kept P) (done-with (call.commit_after n m) m n live.0 live.1.there) (move-commit P cl m n live.0 live.1 k))

few-subs : (m : Machine) (n : ℕ) (t : Transaction) → transaction m n ≡ Some t → call.subs_full m n ≡ None → t.current < 64
few-subs m n t there e =
    let q : nat_le 64 t.current ≡ false =
    subst (λ o. option_map_or (λ (t : Transaction). nat_le 64 t.current) o false ≡ false) there (not-when _ _ e) in
    leb-false 64 t.current q

savepoint-keeps : (P : Machine → List AcceptedTablet → Type 0) → Closed P → (n : ℕ) (m : Machine) → Kept P m → Kept P (call.savepoint n m).1
savepoint-keeps P cl n m k =
    kept-unless P _ m _ _ k (λ e.
    let one = none-or _ _ e in
    let two = none-or _ _ one.1 in
    let three = none-or _ _ two.1 in
    let live = live-txn-at m n one.0 two.0 in
    subst (Kept P) (done-with (λ t. with_transaction n (call.next_begun t) m) m n live.0 live.1.there)
    (move-savepoint P cl m n live.0 live.1 (few-subs m n live.0 live.1.there three.0) k))

not-false : (b : Bool) → not b ≡ false → b ≡ true
not-false true e = refl
not-false false e = cc

roll-back-keeps : (P : Machine → List AcceptedTablet → Type 0) → Closed P → (n sub : ℕ) (m : Machine) → Kept P m
    → Kept P (call.roll_back n sub m).1
roll-back-keeps P cl n sub m k =
    kept-unless P _ m _ _ k (λ e.
    let one = none-or _ _ e in
    let two = none-or _ _ one.1 in
    let three = none-or _ _ two.1 in
    let four = none-or _ _ three.1 in
    let live = live-txn-at m n one.0 two.0 in
    let is : call.is_savepoint sub live.0 ≡ true =
    subst (λ o. option_map_or (call.is_savepoint sub) o false ≡ true) live.1.there (not-false _ (not-when _ _ three.0)) in
    subst (Kept P) (done-with (λ t. with_transaction n (call.next_begun (call.undone_from sub t)) m) m n live.0 live.1.there)
    (move-roll-back P cl m n sub live.0 live.1 is (few-subs m n live.0 live.1.there four.0) k))

tick-keeps : (P : Machine → List AcceptedTablet → Type 0) → Closed P → (to : ℕ) (m : Machine) → Kept P m → Kept P (call.tick to m).1
tick-keeps P cl to m k = kept-unless P _ m _ _ k (λ e. move-clock P cl m to (ltb-false to m.time (not-when _ _ e)) k)

-- ---- safe records and splits

pub room-for : (m : Machine) (more : ℕ) → clock_end m more ≡ None → m.time + more ≤ last_time
room-for m more e = ltb-false last_time (m.time + more) (not-when _ _ e)

safe-at : (P : Machine → List AcceptedTablet → Type 0) → Closed P → (m : Machine) (id : ℕ) (k : Kept P m) → OpenBook m k.books id
    → m.time + 1 ≤ last_time → Kept P (call.with_safe id m)
safe-at P cl m id k o l =
    subst (λ v. Kept P (logged id (kind.Safe v) m)) (sym (safe-value-is m id o.book (tablet-at m k.books id o.book k.base o.at)))
    (move-safe P cl m (safe_from m o.book.header) id o.book k (open-at m k.books id o)
    (may-be-safe m k.books id o.book k.base (open-at m k.books id o) l))

safe-keeps : (P : Machine → List AcceptedTablet → Type 0) → Closed P → (id : ℕ) (m : Machine) → Kept P m → Kept P (call.safe id m).1
safe-keeps P cl id m k =
    kept-unless P _ m _ _ k (λ e.
    let one = none-or _ _ e in
    let two = none-or _ _ one.1 in
    let three = none-or _ _ two.1 in
    safe-at P cl m id k (open-book m k.books id k.base one.0) (room-for m 1 three.0))

split-keeps : (P : Machine → List AcceptedTablet → Type 0) → Closed P → (id at : ℕ) (m : Machine) → Kept P m → Kept P (call.split id at m).1
split-keeps P cl id at m k =
    kept-unless P _ m _ _ k (λ e.
    let one = none-or _ _ e in
    let two = none-or _ _ one.1 in
    let o = open-book m k.books id k.base one.0 in
    let there = tablet-at m k.books id o.book k.base o.at in
    let place : (nat_le at o.book.header.lo || nat_lt o.book.header.hi at) ≡ false =
    not-when _ _ (subst (λ w. option_map_or (λ (b : Tablet). when (nat_le at b.header.lo || nat_lt b.header.hi at)
    (BadPlace b.header.lo b.header.hi)) w None ≡ None) there two.0) in
    let parts = or_parts (nat_le at o.book.header.lo) (nat_lt o.book.header.hi at) place in
    subst (Kept P) (sym (ap (λ w. option_map_or (λ (b : Tablet). call.split_after id at m b.header) w m) there))
    (move-split P cl m id at o.book k (open-at m k.books id o) (leb-false at o.book.header.lo parts.0)
    (ltb-false o.book.header.hi at parts.1)))

-- ---- an abort

abbrev pub OpenId : Machine → List AcceptedTablet → ℕ → Type 0
OpenId m bs id = OpenBook m bs id

pub all-open-still : (m u : Machine) (bs : List AcceptedTablet) (id : ℕ) (b : AcceptedTablet) (o : OpenAt bs id b) (r : Record)
    → is_split r.kind ≡ false → (ids : List ℕ) → Each (OpenId m bs) ids → Each (OpenId u (grown_books o.seam r)) ids
all-open-still m u bs id b o r n ids h =
    Each-weaker (OpenId m bs) (OpenId u (grown_books o.seam r)) (λ i p. (still-open m u bs id b o.seam r i n p).0) ids h

same-open : (m u : Machine) (bs : List AcceptedTablet) (ids : List ℕ) → Each (OpenId m bs) ids → Each (OpenId u bs) ids
same-open m u bs ids h =
    Each-weaker (OpenId m bs) (OpenId u bs) (λ i p. record { book = p.book; at = p.at; opened = p.opened }) ids h

aborts-keep : (P : Machine → List AcceptedTablet → Type 0) → Closed P
    → (n : ℕ) (t : Transaction) (ids : List ℕ) (m : Machine) (k : Kept P m)
    → transaction m n ≡ Some t → t.stage ≡ Aborted → Each (OpenId m k.books) ids → Kept P (with_aborts n ids m)
aborts-keep P cl n t [] m k e a h = k
aborts-keep P cl n t (id ∷ ids) m k e a h =
    let o = open-at m k.books id h.0 in
    let next = move-abort-log P cl m n t id h.0.book k o e a in
    aborts-keep P cl n t ids (logged id (kind.Abort n) m) next e a
    (all-open-still m (logged id (kind.Abort n) m) k.books id h.0.book o (next_record m (kind.Abort n)) refl ids h.1)

tablet-numbers : (m : Machine) (bs : List AcceptedTablet) (q : ℕ × Tablet → Bool) → IsMachine m bs
    → ((p : ℕ × Tablet) → q p ≡ true → is_open p.1 ≡ true)
    → Each (OpenId m bs) (map (λ p. p.0) (filter q (enumerate_from 0 m.tablets)))
tablet-numbers m bs q k f =
    let There : ℕ × Tablet → Type 0 = λ p. slice_get m.tablets p.0 ≡ Some p.1 in
    each-map (OpenId m bs) (λ p. There p × (q p ≡ true)) (λ p. p.0) (λ p h. open-of m bs p.0 p.1 k h.0 (f p h.1))
    (filter q (enumerate_from 0 m.tablets))
    (each-kept There q (enumerate_from 0 m.tablets)
    (enumerated There 0 m.tablets (λ i x e. subst (λ w. slice_get m.tablets w ≡ Some x) (sym (zero-add i)) e)))

tablets-open : (m : Machine) (bs : List AcceptedTablet) (t : Transaction) → IsMachine m bs → Each (OpenId m bs) (tablets_of m t)
unfolding tablets_of
tablets-open m bs t k = tablet-numbers m bs (λ p. is_open p.1 && waits_on p.1.header t) k (λ p e. (and_parts _ _ e).0)

abort-keeps : (P : Machine → List AcceptedTablet → Type 0) → Closed P → (n : ℕ) (m : Machine) → Kept P m → Kept P (call.abort n m).1
abort-keeps P cl n m k =
    kept-unless P _ m _ _ k (λ e.
    let one = none-or _ _ e in
    let two = none-or _ _ one.1 in
    let live = live-txn-at m n one.0 two.0 in
    let t = live.0 in
    let next = move-abort P cl m n t live.1 k in
    subst (Kept P) (done-with (call.abort_after n m) m n t live.1.there)
    (aborts-keep P cl n (aborted t) (tablets_of m t) (with_transaction n (aborted t) m) next
    (transaction-set m n t (aborted t) live.1.there) refl
    (same-open m (with_transaction n (aborted t) m) k.books (tablets_of m t) (tablets-open m k.books t k.base))))

-- ---- applies

-- a transaction that may be applied on an open tablet
pub record Ready (m : Machine) (bs : List AcceptedTablet) (n id : ℕ) : Type 0 where
  pub t : Transaction
  pub c : ℕ
  pub book : AcceptedTablet
  pub at : slice_get bs id ≡ Some book
  pub opened : opens book ≡ true
  pub may : MayApply m n t c book

abbrev pub IsReady : Machine → List AcceptedTablet → ℕ × ℕ → Type 0
IsReady m bs p = Ready m bs p.0 p.1

applied-is : (m : Machine) (n id c : ℕ) (t : Transaction) (b : Tablet) → transaction m n ≡ Some t → commit_of t.stage ≡ Some c
    → slice_get m.tablets id ≡ Some b → logged id (kind.Apply n c t.undone)
    (with_transaction n (taken_on b.header t) m) ≡ call.applied n id m
applied-is m n id c t b e f g =
    sym (ap (λ o. to_transaction_by o) e ∙ ap (λ o. logged id (apply_kind n t)
    (option_map_or (λ (b : Tablet). with_transaction n (taken_on b.header t) m) o m)) g
    ∙ ap (λ o. logged id (kind.Apply n (option_map_or (λ commit. commit) o 0) t.undone) (with_transaction n (taken_on b.header t) m)) f)
  where
    to_transaction_by : Option Transaction → Machine
    to_transaction_by o =
        option_map_or (λ t. logged id (apply_kind n t) (option_map_or (λ (b : Tablet). with_transaction n (taken_on b.header t) m)
        (slice_get m.tablets id) m)) o m

abbrev pub apply-at : (P : Machine → List AcceptedTablet → Type 0) → Closed P
    → (m : Machine) (n id : ℕ) (k : Kept P m) (r : Ready m k.books n id)
    → Kept P (logged id (kind.Apply n r.c r.t.undone) (with_transaction n (taken_on r.book.header r.t) m))
apply-at P cl m n id k r =
    move-apply P cl m n r.c r.t id r.book k (open-at m k.books id (record { book = r.book; at = r.at; opened = r.opened })) r.may

pub ready-is : (m : Machine) (bs : List AcceptedTablet) (n id : ℕ) → IsMachine m bs → (r : Ready m bs n id)
    → logged id (kind.Apply n r.c r.t.undone) (with_transaction n (taken_on r.book.header r.t) m) ≡ call.applied n id m
ready-is m bs n id k r = applied-is m n id r.c r.t (tablet_of r.book) r.may.there r.may.commit (tablet-at m bs id r.book k r.at)

-- what waits on an open tablet may be applied there
ready-if : (m : Machine) (bs : List AcceptedTablet) (n id : ℕ) (t : Transaction) (c : ℕ) → IsMachine m bs → (o : OpenBook m bs id)
    → transaction m n ≡ Some t → commit_of t.stage ≡ Some c → waits_on o.book.header t ≡ true → Ready m bs n id
ready-if m bs n id t c k o e f w =
    let at = open-at m bs id o in
    record {
      t = t;
      c = c;
      book = o.book;
      at = o.at;
      opened = o.opened;
      may = record {
        there = e;
        commit = f;
        wrote = wrote-some (is_waiting o.book.header) t.writes w;
        above = each-here (Above t c) at.seam.before o.book at.seam.after
            (subst (Each (Above t c)) at.seam.whole ((get-txn m bs n t k e).commits c f).above) o.opened w;
      };
    }

-- a transaction that isn't refused as uncommitted
committed-at : (m : Machine) (n : ℕ) (t : Transaction) → transaction m n ≡ Some t → call.is_committed m n ≡ true
    → (c : ℕ) × (commit_of t.stage ≡ Some c)
committed-at m n t e h = go (commit_of t.stage) refl (subst (λ o. option_map_or (λ (t : Transaction). is_some (commit_of t.stage)) o false
    ≡ true) e h)
  where
    go : (o : Option ℕ) → commit_of t.stage ≡ o → is_some o ≡ true → (c : ℕ) × (commit_of t.stage ≡ Some c)
    go None q w = cc
    go (Some c) q w = (c, q)

apply-keeps : (P : Machine → List AcceptedTablet → Type 0) → Closed P → (n id : ℕ) (m : Machine) → Kept P m → Kept P (call.apply n id m).1
apply-keeps P cl n id m k =
    kept-unless P _ m _ _ k (λ e.
    let one = none-or _ _ e in
    let two = none-or _ _ one.1 in
    let three = none-or _ _ two.1 in
    let four = none-or _ _ three.1 in
    let known = known-txn m n one.0 in
    let o = open-book m k.books id k.base two.0 in
    let committed = committed-at m n known.0 known.1 (not-false _ (not-when _ _ three.0)) in
    let waits : call.waits_at m n id ≡ true = not-false _ (not-when _ _ four.0) in
    let there : waits_on o.book.header known.0 ≡ true =
    subst (λ w. option_map_or (λ (b : Tablet). waits_on b.header known.0) w false ≡ true) (tablet-at m k.books id o.book k.base o.at)
    (subst (λ w. option_map_or (λ (t : Transaction). option_map_or (λ (b : Tablet). waits_on b.header t) (slice_get m.tablets id) false) w
    false ≡ true) known.1 waits) in
    let ready = ready-if m k.books n id known.0 committed.0 k.base o known.1 committed.1 there in
    subst (Kept P) (ready-is m k.books n id k.base ready) (apply-at P cl m n id k ready))

-- ---- a finish

-- nothing asked
pub unit-closed : Closed (λ _ _. Unit {0})
unit-closed = record {
  clock = λ m bs u k l p. tt;
  begin = λ m bs k p. tt;
  savepoint = λ m bs n t k l f p. tt;
  roll_back = λ m bs n sub t k l i f p. tt;
  write = λ m bs n op t id b o k l h f p. tt;
  put = λ m bs op id b o k h f p. tt;
  commit = λ m bs n t k l p. tt;
  abort = λ m bs n t k l p. tt;
  abort_log = λ m bs n t id b o k e a p. tt;
  apply = λ m bs n c t id b o k a p. tt;
  safe = λ m bs id v b o k s p. tt;
  split = λ m bs id at b o k l h p. tt;
}

-- it may be applied still, after another was
pub ready-still : (m : Machine) (bs : List AcceptedTablet) (n id : ℕ) (k : IsMachine m bs) (r : Ready m bs n id) (p : ℕ × ℕ)
    → IsReady m bs p → IsReady (logged id (kind.Apply n r.c r.t.undone) (with_transaction n (taken_on r.book.header r.t) m))
    (grown_books (open-at m bs id (record { book = r.book; at = r.at; opened = r.opened })).seam
    (next_record m (kind.Apply n r.c r.t.undone))) p
ready-still m bs n id k r p q =
    let rec = next_record m (kind.Apply n r.c r.t.undone) in
    let s = (open-at m bs id (record { book = r.book; at = r.at; opened = r.opened })).seam in
    let u = logged id rec.kind (with_transaction n (taken_on r.book.header r.t) m) in
    let o = still-open m u bs id r.book s rec p.1 refl (record { book = q.book; at = q.at; opened = q.opened }) in
    let floor : o.0.book.end.floor < q.c =
    ⊎_elim
    (λ w. let same : r.book ≡ q.book = same_Some r.book q.book (sym r.at ∙ subst (λ i. slice_get bs i ≡ Some q.book) w.1 q.at) in
    subst (λ x. x.end.floor < q.c) (sym w.0) (subst (λ x. x.end.floor < q.c) (sym same) q.may.above))
    (λ w. subst (λ x. x.end.floor < q.c) (same_Some q.book o.0.book (sym q.at ∙ w)) q.may.above) o.1 in
    ⊎_elim
    (λ e. let both : r.t ≡ q.t = same_Some r.t q.t (sym r.may.there ∙ subst (λ i. transaction m i ≡ Some q.t) e q.may.there) in
    record {
      t = taken_on r.book.header r.t;
      c = q.c;
      book = o.0.book;
      at = o.0.at;
      opened = o.0.opened;
      may = record {
        there = subst (λ i. transaction u i ≡ Some (taken_on r.book.header r.t)) (sym e)
            (transaction-set m n r.t (taken_on r.book.header r.t) r.may.there);
        commit = subst (λ (x : Transaction). commit_of x.stage ≡ Some q.c) (sym both) q.may.commit;
        wrote = subst (λ w. 1 ≤ w) (sym (length-map r.t.writes (taken_write r.book.header))) r.may.wrote;
        above = floor;
      };
    })
    (λ d. record {
      t = q.t;
      c = q.c;
      book = o.0.book;
      at = o.0.at;
      opened = o.0.opened;
      may = record {
        there = transaction-other m n p.0 q.t (taken_on r.book.header r.t) (transaction-at m n r.t r.may.there).0
            (λ e. d (sym e)) q.may.there;
        commit = q.may.commit;
        wrote = q.may.wrote;
        above = floor;
      };
    }) (cases_eq p.0 n)

-- the machine with its books after all applies, and the tablets that were open
record Applied (P : Machine → List AcceptedTablet → Type 0) (m : Machine) (ids : List ℕ) : Type 0 where
  kept : Kept P m
  open_ids : Each (OpenId m kept.books) ids

applies-keep : (P : Machine → List AcceptedTablet → Type 0) → Closed P → (ps : List (ℕ × ℕ)) (ids : List ℕ) (m : Machine) (k : Kept P m)
    → Each (IsReady m k.books) ps → Each (OpenId m k.books) ids → Applied P (fold (λ m' p. call.applied p.0 p.1 m') m ps) ids
applies-keep P cl [] ids m k h o = record { kept = k; open_ids = o }
applies-keep P cl (p ∷ ps) ids m k h o =
    let r = h.0 in
    let at = open-at m k.books p.1 (record { book = r.book; at = r.at; opened = r.opened }) in
    let rec = next_record m (kind.Apply p.0 r.c r.t.undone) in
    let u = logged p.1 rec.kind (with_transaction p.0 (taken_on r.book.header r.t) m) in
    subst (λ w. Applied P (fold (λ m' q. call.applied q.0 q.1 m') w ps) ids) (ready-is m k.books p.0 p.1 k.base r)
    (applies-keep P cl ps ids u (apply-at P cl m p.0 p.1 k r)
    (Each-weaker (IsReady m k.books) (IsReady u (grown_books at.seam rec)) (λ q w. ready-still m k.books p.0 p.1 k.base r q w) ps h.1)
    (all-open-still m u k.books p.1 r.book at rec refl ids o))

safes-keep : (P : Machine → List AcceptedTablet → Type 0) → Closed P → (ids : List ℕ) (m : Machine) (k : Kept P m)
    → Each (OpenId m k.books) ids
    → m.time + length ids ≤ last_time → Kept P (all_safe ids m)
safes-keep P cl [] m k o l = k
safes-keep P cl (id ∷ ids) m k o l =
    let v = safe_from m o.0.book.header in
    let at = open-at m k.books id o.0 in
    let one : m.time + 1 ≤ last_time = let z : length (id ∷ ids) ≡ suc (length ids) = refl in omega arith in
    let next = move-safe P cl m v id o.0.book k at (may-be-safe m k.books id o.0.book k.base at one) in
    subst (λ w. Kept P (all_safe ids (logged id (kind.Safe w) m)))
    (sym (safe-value-is m id o.0.book (tablet-at m k.books id o.0.book k.base o.0.at)))
    (safes-keep P cl ids (logged id (kind.Safe v) m) next
    (all-open-still m (logged id (kind.Safe v) m) k.books id o.0.book at (next_record m (kind.Safe v)) refl ids o.1)
    (let z : length (id ∷ ids) ≡ suc (length ids) = refl in omega arith))

pub applied-time : (ps : List (ℕ × ℕ)) (m : Machine) (bs : List AcceptedTablet) → IsMachine m bs → Each (IsReady m bs) ps
    → (fold (λ m' p. call.applied p.0 p.1 m') m ps).time ≡ m.time + length ps
applied-time [] m bs k h = omega arith
applied-time (p ∷ ps) m bs k h =
    let r = h.0 in
    let at = open-at m bs p.1 (record { book = r.book; at = r.at; opened = r.opened }) in
    let rec = next_record m (kind.Apply p.0 r.c r.t.undone) in
    let u = logged p.1 rec.kind (with_transaction p.0 (taken_on r.book.header r.t) m) in
    let next = apply-at (λ _ _. Unit {0}) unit-closed m p.0 p.1 (record { books = bs; base = k; holds_of = tt }) r in
    let deep = applied-time ps u next.books next.base
    (Each-weaker (IsReady m bs) (IsReady u (grown_books at.seam rec)) (λ q w. ready-still m bs p.0 p.1 k r q w) ps h.1) in
    subst (λ w. (fold (λ m' q. call.applied q.0 q.1 m') w ps).time ≡ m.time + length (p ∷ ps)) (ready-is m bs p.0 p.1 k r)
    (let z : length (p ∷ ps) ≡ suc (length ps) = refl in let y : u.time ≡ m.time + 1 = refl in omega arith)

pub pending-ready : (m : Machine) (bs : List AcceptedTablet) → IsMachine m bs → Each (IsReady m bs) (pending m)
unfolding pending tablets_of
pending-ready m bs k =
    let Known : ℕ × Transaction → Type 0 = λ p. transaction m p.0 ≡ Some p.1 in
    let known : Each Known (enumerate_from 1 m.txns) =
    enumerated Known 1 m.txns (λ i x e. txn-number m i x e) in
    each-flat (IsReady m bs) (λ p. map (λ id. (p.0, id)) (tablets_of m p.1)) (λ p. Known p × (is_some (commit_of p.1.stage) ≡ true))
    (λ p h. each-map (IsReady m bs) (λ i. Waits p.1 i) (λ id. (p.0, id)) (λ i w. one p i h.0 h.1 w) (tablets_of m p.1) (waiting p.1))
    (filter (λ p. is_some (commit_of p.1.stage)) (enumerate_from 1 m.txns))
    (each-kept Known (λ p. is_some (commit_of p.1.stage)) (enumerate_from 1 m.txns) known)
  where
    txn-number : (m : Machine) (i : ℕ) (x : Transaction) → slice_get m.txns i ≡ Some x → transaction m (1 + i) ≡ Some x
    txn-number m i x e =
        let z : (1 + i == 0) ≡ false = grind (arith, nat_tests) in
        let y : 1 + i - 1 ≡ i = omega arith in
        ap (λ b. if b then None else slice_get m.txns (1 + i - 1)) z ∙ ap (λ w. slice_get m.txns w) y ∙ e

    Waits : Transaction → ℕ → Type 0
    Waits t i = (o : OpenBook m bs i) × (waits_on o.book.header t ≡ true)

    waiting : (t : Transaction) → Each (Waits t) (tablets_of m t)
    waiting t =
        let There : ℕ × Tablet → Type 0 = λ p. slice_get m.tablets p.0 ≡ Some p.1 in
        each-map (Waits t) (λ p. There p × ((is_open p.1 && waits_on p.1.header t) ≡ true)) (λ p. p.0)
        (λ p h. let parts = and_parts _ _ h.1 in let o = book-of m bs p.0 p.1 k h.0 in
        (record { book = o.0; at = o.1; opened = ap is_open o.2 ∙ parts.0 }, ap (λ (b : Tablet). waits_on b.header t) o.2 ∙ parts.1))
        (filter (λ p. is_open p.1 && waits_on p.1.header t) (enumerate_from 0 m.tablets))
        (each-kept There (λ p. is_open p.1 && waits_on p.1.header t) (enumerate_from 0 m.tablets)
        (enumerated There 0 m.tablets (λ i x e. subst (λ w. slice_get m.tablets w ≡ Some x) (sym (zero-add i)) e)))

    one : (p : ℕ × Transaction) (i : ℕ) → transaction m p.0 ≡ Some p.1 → is_some (commit_of p.1.stage) ≡ true → Waits p.1 i
        → Ready m bs p.0 i
    one p i e s w = go (commit_of p.1.stage) refl s
      where
        go : (o : Option ℕ) → commit_of p.1.stage ≡ o → is_some o ≡ true → Ready m bs p.0 i
        go None q z = cc
        go (Some c) q z = ready-if m bs p.0 i p.1 c k w.0 e q w.1

pub open-numbers : (m : Machine) (bs : List AcceptedTablet) → IsMachine m bs → Each (OpenId m bs) (open_tablets m)
open-numbers m bs k = tablet-numbers m bs (λ p. is_open p.1) k (λ p e. e)

pub finish-keeps : (P : Machine → List AcceptedTablet → Type 0) → Closed P → (m : Machine) → Kept P m → Kept P (call.finish m).1
finish-keeps P cl m k =
    kept-unless P _ m _ _ k (λ e.
    let one = none-or _ _ e in
    let two = none-or _ _ one.1 in
    let room = room-for m (call.finish_count m) two.0 in
    let ready = pending-ready m k.books k.base in
    let a = applies-keep P cl (pending m) (open_tablets m) m k ready (open-numbers m k.books k.base) in
    let t = applied-time (pending m) m k.books k.base ready in
    safes-keep P cl (open_tablets m) (all_applied m) a.kept a.open_ids (omega arith))

-- ---- all commands

pub step-keeps : (P : Machine → List AcceptedTablet → Type 0) → Closed P → (c : SourceCommand) (m : Machine) → CommandFits c → Kept P m
    → Kept P (step c m).1
unfolding step
step-keeps P cl command.Begin m f k = begin-keeps P cl m k
step-keeps P cl (command.Write txn op) m f k = write-keeps P cl txn op m f k
step-keeps P cl (command.Put op) m f k = put-keeps P cl op m f k
step-keeps P cl (command.Commit txn) m f k = commit-keeps P cl txn m k
step-keeps P cl (command.Abort txn) m f k = abort-keeps P cl txn m k
step-keeps P cl (command.Apply txn id) m f k = apply-keeps P cl txn id m k
step-keeps P cl (command.Safe id) m f k = safe-keeps P cl id m k
step-keeps P cl (command.Split id at) m f k = split-keeps P cl id at m k
step-keeps P cl (command.Tick to) m f k = tick-keeps P cl to m k
step-keeps P cl command.Finish m f k = finish-keeps P cl m k
step-keeps P cl (command.Savepoint txn) m f k = savepoint-keeps P cl txn m k
step-keeps P cl (command.Rollback txn sub) m f k = roll-back-keeps P cl txn sub m k

pub run-keeps : (P : Machine → List AcceptedTablet → Type 0) → Closed P → (cs : List SourceCommand) (m : Machine) → Each CommandFits cs
    → Kept P m
    → Kept P (run cs m)
run-keeps P cl [] m f k = k
run-keeps P cl (c ∷ cs) m f k = run-keeps P cl cs (step c m).1 f.1 (step-keeps P cl c m f.0 k)
