-- After a finish that is answered, the logs are whole: each listed commit is one of the logs, and is within the safe time at their ends.
use Rattle.std.proofs.Common.{◌≡◌, ℕ, suc, ◌+◌, ◌-◌, ◌≤◌, ◌^◌, true, false, Bool, List, [], ◌∷◌, length, map, Some, None}
use Rattle.std.proofs.Common.{refl, ap, sym, ◌∙◌, subst, arith, inl, inr, ⊎_elim, ◌⊎◌}
use Rattle.std.specs.Prelude.{not, slice_get, if◌then◌else◌, ◌&&◌, ◌||◌, ◌==◌, filter, Option, Ok}
use Rattle.std.specs.List.{list_any}
use Rattle.std.proofs.lemmas.Bool.{cases_eq, true≢false, eq-eqb}
use Rattle.std.proofs.lemmas.Option.{same_Some}
use Rattle.xc_time.specs.Times.{last_time}
use Rattle.xc_record.specs.declared.record.Header.{Header}
use Rattle.xc_record.specs.declared.record.Kind.TheVariants as kind
use Rattle.xc_record.specs.Lists.{has, least}
use Rattle.xc_record.specs.Commits.{applied}
use Rattle.xc_record.specs.SafeTime.{safe_time, last_safe_in, is_closed_in, place}
use Rattle.xc_record.specs.Accepted.{AcceptedTablet}
use Rattle.xc_record.proofs.ListLaws.{Each, Each-weaker}
use Rattle.xc_model.proofs.Parents.{each-get}
use Rattle.xc_source.specs.declared.commit.Commit.{Commit}
use Rattle.xc_source.specs.declared.fail.SourceFail.{SourceFail}
use Rattle.xc_source.specs.declared.transaction.Provisional.{Provisional}
use Rattle.xc_source.specs.Machine.{Machine, Transaction, start, logs_of}
use Rattle.xc_source.specs.Waiting.{is_waiting, open_tablets, pending}
use Rattle.xc_source.specs.Calls as call
use Rattle.xc_source.specs.Calls.{unless, logged, with_safe, all_safe, all_applied, finish, safe_value}
use Rattle.xc_source.specs.Commands.{run}
use Rattle.xc_source_laws.specs.Laws.{is_shown, ends}
use Rattle.xc_source_laws.specs.Finished.{AreWhole, FinishedLogsAreWhole}
use Rattle.xc_source_laws.proofs.Lists.{get-seam}
use Rattle.xc_source_laws.proofs.Grow.{taken, other-get}
use Rattle.xc_source_laws.proofs.Books.{opens, IsBook}
use Rattle.xc_source_laws.proofs.Base.{IsMachine, next_record}
use Rattle.xc_source_laws.proofs.Keeps.{Kept, move-safe, may-be-safe, safe-value-is, safe_from, least-from, commit_there, there-parts}
use Rattle.xc_source_laws.proofs.Opened.{OpenBook, open-at, tablet-at, none-or}
use Rattle.xc_source_laws.proofs.Steps.{unit-closed, run-keeps, finish-keeps, all-open-still, applied-time, pending-ready, room-for}
use Rattle.xc_source_laws.proofs.Start.{root_books, base-start}
use Rattle.xc_source_laws.proofs.NoBreaks.{books-accepted}
use Rattle.xc_source_laws.proofs.Says.{txn_at}
use Rattle.xc_source_laws.proofs.AgreeMoves.{aborted-not}
use Rattle.xc_source_laws.proofs.LogsAgree.{start-agrees}
use Rattle.xc_source_laws.proofs.Listing.{Backed}
use Rattle.xc_source_laws.proofs.CommitLaws.{Both, both-closed, commits-in, start-lists}
use Rattle.xc_source_laws.proofs.TakenMoves.{TakenSo, taken-closed}
use Rattle.xc_source_laws.proofs.RowLaws.{AtEnd, ends-at, each-end, floor-at, applied-has, none-begun}
use Rattle.xc_source_laws.proofs.AllTaken.{AnyKept, Among, Rests, all-rest, applying-pending}

-- ---- the safe records of a finish

any-waits : (h : Header) (ws : List Provisional) → list_any (is_waiting h) ws ≡ true → list_any (λ w. w.waits) ws ≡ true
any-waits h [] e = cc
any-waits h (w ∷ ws) e = grind (arith, e, any-waits h ws)

-- where no committed transaction waits, the value of a safe record is at or above the time at which the clock stands
safe-from : (from : ℕ) (m : Machine) (h : Header) → Each Rests m.txns → from ≤ m.time → from ≤ last_time → from ≤ safe_from m h
safe-from from m h r l last =
    let all = least-from (commit_there h) m.txns from (omega arith)
    (Each-weaker Rests (λ t. (c : ℕ) → commit_there h t ≡ Some c → from ≤ c - 1)
    (λ t q c e. let p = there-parts h t c e in absurd (true≢false (sym (any-waits h t.writes p.0) ∙ q c p.1))) m.txns r) in
    omega arith

-- an open tablet is safe from there on, or is to get its safe record still
abbrev Safe : ℕ → List ℕ → List AcceptedTablet → Type 0
Safe from ids bs = (i : ℕ) (b : AcceptedTablet) → slice_get bs i ≡ Some b → opens b ≡ true → (from ≤ b.end.floor) ⊎ Among i ids

-- what the safe records leave
record Safed (from : ℕ) (m u : Machine) : Type 0 where
  kept : AnyKept u
  safe : Safe from [] kept.books
  rests : Each Rests u.txns
  commits : u.commits ≡ m.commits

abbrev step_safed : (from v : ℕ) (id : ℕ) (m u : Machine) → Safed from (logged id (kind.Safe v) m) u → Safed from m u
step_safed from v id m u s = record { kept = s.kept; safe = s.safe; rests = s.rests; commits = s.commits }

safes : (from : ℕ) (ids : List ℕ) (m : Machine) (k : AnyKept m) → Each (OpenBook m k.books) ids → m.time + length ids ≤ last_time
    → from ≤ m.time → Each Rests m.txns → Safe from ids k.books → Safed from m (all_safe ids m)
safes from [] m k o l f r s = record { kept = k; safe = s; rests = r; commits = refl }
safes from (id ∷ ids) m k o l f r s =
    let book = o.0.book in
    let v = safe_from m book.header in
    let at = open-at m k.books id o.0 in
    let more : length (id ∷ ids) ≡ suc (length ids) = refl in
    let one : m.time + 1 ≤ last_time = omega arith in
    let u = logged id (kind.Safe v) m in
    let rec = next_record m (kind.Safe v) in
    let high : from ≤ v = safe-from from m book.header r f (omega arith) in
    let next : AnyKept u =
    move-safe (λ _ _. Unit {0}) unit-closed m v id book k at (may-be-safe m k.books id book k.base at one) in
    subst (λ w. Safed from m (all_safe ids (logged id (kind.Safe w) m)))
    (sym (safe-value-is m id book (tablet-at m k.books id book k.base o.0.at)))
    (step_safed from v id m (all_safe ids u)
    (safes from ids u next (all-open-still m u k.books id book at rec refl ids o.1) (let t : u.time ≡ m.time + 1 = refl in omega arith)
    (let t : u.time ≡ m.time + 1 = refl in omega arith) r
    (λ i b e w. ⊎_elim
    (λ q. let same : taken book rec ≡ b =
    same_Some (taken book rec) b (sym (get-seam at.seam.before (taken book rec) at.seam.after i (at.seam.number ∙ sym q)) ∙ e) in
    inl (subst (λ (x : AcceptedTablet). from ≤ x.end.floor) same high))
    (λ d. ⊎_elim (λ l. inl l) (λ a. ⊎_elim (λ q. absurd (d (sym q))) (λ z. inr z) a)
    (s i b (subst (λ (cs : List AcceptedTablet). slice_get cs i ≡ Some b) (sym at.seam.whole)
    (other-get at.seam.before book (taken book rec) at.seam.after i (λ q. d (q ∙ at.seam.number)) ∙ e)) w))
    (cases_eq i id))))

-- ---- the safe time at the ends

least-above : (places : List ℕ) (bs : List AcceptedTablet) (v : ℕ) → v ≤ 2 ^ 62
    → Each (λ b. is_closed_in places b ≡ false → v ≤ last_safe_in places b) bs
    → v ≤ least (map (last_safe_in places) (filter (λ b. not (is_closed_in places b)) bs))
least-above places [] v l h = l
least-above places (b ∷ bs) v l h = go (is_closed_in places b) refl (least-above places bs v l h.1)
  where
    go : (c : Bool) → is_closed_in places b ≡ c
        → v ≤ least (map (last_safe_in places) (filter (λ b. not (is_closed_in places b)) bs))
        → v ≤ least (map (last_safe_in places) (if not c then (b ∷ filter (λ b. not (is_closed_in places b)) bs) else filter
        (λ b. not (is_closed_in places b)) bs))
    go true q more = more
    go false q more = let z = h.0 q in omega arith

each-open : (P : AcceptedTablet → Type 0) (bs : List AcceptedTablet)
    → ((i : ℕ) (b : AcceptedTablet) → slice_get bs i ≡ Some b → opens b ≡ true → P b) → Each (λ b. opens b ≡ true → P b) bs
each-open P [] f = tt
each-open P (b ∷ bs) f = (f 0 b refl, each-open P bs (λ i x e. f (suc i) x e))

safe-above : (m : Machine) (bs : List AcceptedTablet) (v : ℕ) → IsMachine m bs → v ≤ 2 ^ 62
    → Each (λ b. opens b ≡ true → v ≤ b.end.floor) bs → v ≤ safe_time (logs_of m) (ends (logs_of m))
unfolding safe_time
safe-above m bs v k l h =
    let all = books-accepted m bs k in
    subst (λ w. v ≤ least (map (last_safe_in (map (λ (b : AcceptedTablet). length b.records) w))
    (filter (λ b. not (is_closed_in (map (λ (b : AcceptedTablet). length b.records) w) b)) w)))
    (sym all)
    (least-above places bs v l (each bs (ends-at 0 [] bs refl k.books.numbered (each-end [] bs k.books.stays)) k.books.each h))
  where
    places : List ℕ
    places = map (λ (b : AcceptedTablet). length b.records) bs

    each : (cs : List AcceptedTablet) → Each (AtEnd places) cs → Each (IsBook m.time) cs
        → Each (λ b. opens b ≡ true → v ≤ b.end.floor) cs
        → Each (λ b. is_closed_in places b ≡ false → v ≤ last_safe_in places b) cs
    each [] a q h = tt
    each (b ∷ cs) a q h = (
      (λ e.
          let whole : (place places b == length b.records) ≡ true = eq-eqb (place places b) (length b.records) a.0.at in
          let split : not (opens b) ≡ false =
          sym q.0.splits ∙ sym (ap (λ c. c && b.end.split) whole) ∙ e in
          let high = h.0 (not-false (opens b) split) in
          let f = floor-at places b a.0 in
          omega arith),
      each cs a.1 q.1 h.1,
    )
      where
        not-false : (c : Bool) → not c ≡ false → c ≡ true
        not-false true e = refl
        not-false false e = cc

-- ---- the commits

-- a transaction of which nothing waits was taken
all-taken : (ws : List Provisional) → 1 ≤ length ws → list_any (λ w. w.waits) ws ≡ false → list_any (λ w. not w.waits) ws ≡ true
all-taken [] l e = absurd (omega arith)
all-taken (w ∷ ws) l e = grind (arith, e)

is-in : (m : Machine) (bs : List AcceptedTablet) (c : Commit) → IsMachine m bs → TakenSo m bs
    → ((t : Transaction) → txn_at m.txns c.txn ≡ Some t → Rests t) → Backed m.txns bs c → is_shown (logs_of m) c ≡ true
is-in m bs c k s r b =
    ⊎_elim (λ p. ap (λ n. n == 0 || has n (applied (logs_of m))) p.0)
    (λ x. ⊎_elim (λ a. absurd (aborted-not x.t.stage c.time a x.commit))
    (λ i. ap (λ b. c.txn == 0 || b) (applied-has m bs c.txn k i) ∙ or-true (c.txn == 0))
    (s.explains c.txn x.t x.there (all-taken x.t.writes x.wrote (r x.t x.there c.time x.commit)))) b
  where
    or-true : (b : Bool) → (b || true) ≡ true
    or-true true = refl
    or-true false = refl

each-txn : (P : Transaction → Type 0) (xs : List Transaction) → Each P xs → (n : ℕ) (t : Transaction) → txn_at xs n ≡ Some t → P t
each-txn P xs h n t e = go (n == 0) e
  where
    go : (b : Bool) → (if b then None else slice_get xs (n - 1)) ≡ Some t → P t
    go true q = cc
    go false q = each-get P xs (n - 1) t h q

filter-all : {A : Type 0} (p : A → Bool) (xs : List A) → Each (λ x. p x ≡ true) xs → filter p xs ≡ xs
filter-all p [] h = refl
filter-all p (x ∷ xs) h = ap (λ b. if b then (x ∷ filter p xs) else filter p xs) h.0 ∙ ap (λ w. x ∷ w) (filter-all p xs h.1)

-- ---- a finish

is-ok : (o : Option SourceFail) (m after : Machine) → (unless {X = Unit {0}} o m tt after).0 ≡ Ok tt → o ≡ None
is-ok None m after e = refl
is-ok (Some f) m after e = cc

is-after : (o : Option SourceFail) (m after : Machine) → o ≡ None → (unless {X = Unit {0}} o m tt after).1 ≡ after
is-after o m after e = ap (λ r. (unless {X = Unit {0}} r m tt after).1) e

finish-room : (m : Machine) → call.finish_refusal m ≡ None → m.time + call.finish_count m ≤ last_time
finish-room m e = room-for m (call.finish_count m) (none-or _ _ (none-or _ _ e).1).0

finished : (m : Machine) → AnyKept m → call.finish_refusal m ≡ None → Safed m.time m (all_safe (open_tablets m) (all_applied m))
finished m k e =
    let room = finish-room m e in
    let a = applying-pending m k in
    let t = applied-time (pending m) m k.books k.base (pending-ready m k.books k.base) in
    let s = safes m.time (open_tablets m) (all_applied m) a.kept a.opened (omega arith) a.time
    (all-rest m k) (λ i b at o. inr (a.all i b at o)) in
    record { kept = s.kept; safe = s.safe; rests = s.rests; commits = s.commits ∙ a.commits }

whole : (m : Machine) → AnyKept m → Kept Both m → Kept Both (finish m).1 → Kept TakenSo (finish m).1
    → (finish m).0 ≡ Ok tt
    → AreWhole (finish m).1
whole m any old both some ok =
    let none = is-ok (call.finish_refusal m) m (all_safe (open_tablets m) (all_applied m)) ok in
    let room = finish-room m none in
    let after : (finish m).1 ≡ all_safe (open_tablets m) (all_applied m) =
    is-after (call.finish_refusal m) m (all_safe (open_tablets m) (all_applied m)) none in
    let u = (finish m).1 in
    let s : Safed m.time m u = subst (Safed m.time m) (sym after) (finished m any none) in
    let rest : Each Rests u.txns = s.rests in
    let bs = both.books in
    let taken_so : TakenSo u bs =
    subst (TakenSo u) (sym (books-accepted u some.books some.base) ∙ books-accepted u bs both.base) some.holds_of in
    let shown = Each-weaker (Backed u.txns bs) (λ c. is_shown (logs_of u) c ≡ true)
    (λ c b. is-in u bs c both.base taken_so (λ t e. each-txn Rests u.txns rest c.txn t e) b) u.commits both.holds_of.1.backed in
    let high = safe-above u s.kept.books m.time s.kept.base (omega arith)
    (each-open (λ b. m.time ≤ b.end.floor) s.kept.books (λ i b e o. ⊎_elim (λ z. z) (λ z. absurd z) (s.safe i b e o))) in
    record {
      listed = commits-in u bs both.base both.holds_of.0 both.holds_of.1 ∙ filter-all (is_shown (logs_of u)) u.commits shown;
      safe = subst (Each (λ c. c.time ≤ safe_time (logs_of u) (ends (logs_of u)))) (sym s.commits)
          (Each-weaker (λ c. c.time ≤ m.time) (λ c. c.time ≤ safe_time (logs_of u) (ends (logs_of u))) (λ c z. omega arith) m.commits
          old.holds_of.1.top);
    }

pub finished-logs-are-whole : FinishedLogsAreWhole
finished-logs-are-whole roots time cs r l f ok =
    let base = base-start roots time r in
    let m = run cs (start roots time) in
    let any = run-keeps (λ _ _. Unit {0}) unit-closed cs (start roots time) f
    (record { books = root_books roots; base = base; holds_of = tt }) in
    let k = run-keeps Both both-closed cs (start roots time) f
    (record { books = root_books roots; base = base; holds_of = (start-agrees roots time, start-lists roots time) }) in
    let x = run-keeps TakenSo taken-closed cs (start roots time) f
    (record { books = root_books roots; base = base; holds_of = record { explains = λ n t e. absurd (none-begun n t e) } }) in
    whole m any k (finish-keeps Both both-closed m k) (finish-keeps TakenSo taken-closed m x) ok
