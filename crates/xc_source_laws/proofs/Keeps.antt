-- Each move leaves a source, and what it keeps.
--     Kept P m      the machine has books, and P holds of both
use Rattle.std.proofs.Common.{◌≡◌, ℕ, ◌+◌, ◌-◌, ◌^◌, ◌<◌, ◌≤◌, true, false, Bool, List, [], ◌∷◌, ◌++◌, length, map, Option, Some, None}
use Rattle.std.proofs.Common.{refl, ap, ◌∙◌, subst, arith}
use Rattle.std.specs.Prelude.{slice_get, if◌then◌else◌, min, filter_map}
use Rattle.std.specs.List.{list_any, cons_option}
use Rattle.std.specs.Option.{option_map_or}
use Rattle.std.proofs.lemmas.List.{length-map}
use Rattle.xc_time.specs.Times.{last_time}
use Rattle.xc_record.specs.declared.record.Header.{Header}
use Rattle.xc_record.specs.declared.record.Kind.TheVariants as kind
use Rattle.xc_record.specs.declared.record.Op.{Op}
use Rattle.xc_record.specs.declared.record.Tablet.{Tablet}
use Rattle.xc_record.specs.Hash.{holds, hash_of}
use Rattle.xc_record.specs.Lists.{least}
use Rattle.xc_record.specs.Accepted.{AcceptedTablet}
use Rattle.xc_record.proofs.ListLaws.{Each, Each-weaker}
use Rattle.xc_source.specs.declared.transaction.Provisional.{Provisional}
use Rattle.xc_source.specs.declared.transaction.Stage.{Stage}
use Rattle.xc_source.specs.declared.transaction.Stage.TheVariants.{Live, Committed, Aborted}
use Rattle.xc_source.specs.Machine.{Machine, Transaction, transaction, with_transaction, begun, is_live, commit_of}
use Rattle.xc_source.specs.Waiting.{waits_on, is_waiting, taken_write, commits_on, taken as taken_on}
use Rattle.xc_source.specs.Calls.{logged, written, with_commit, commit_after, aborted, aborted_write, split_after, next_begun, undone_from}
use Rattle.xc_source.specs.Calls.{is_savepoint, safe_value}
use Rattle.xc_source_laws.specs.Laws.{OpFits}
use Rattle.xc_source_laws.proofs.Lists.{each-here}
use Rattle.xc_source_laws.proofs.Grow.{tablet_of}
use Rattle.xc_source_laws.proofs.Base.{IsMachine, IsTxn, Above, next_record, grown_books, base-clock, base-txn, base-begin, base-plain}
use Rattle.xc_source_laws.proofs.Base.{base-apply, base-safe, get-txn, book-at}
use Rattle.xc_source_laws.proofs.BaseSteps.{split_books, base-commit, base-split}
use Rattle.xc_source_laws.proofs.Moves.{Closed, IsLive, OpenAt, MayApply, MayBeSafe}

pub record Kept (P : Machine → List AcceptedTablet → Type 0) (m : Machine) : Type 0 where
  pub books : List AcceptedTablet
  pub base : IsMachine m books
  pub holds_of : P m books

-- ---- transactions

live-uncommitted : (s : Stage) (c : ℕ) → is_live s ≡ true → commit_of s ≡ Some c → ⊥
live-uncommitted Live c l e = cc
live-uncommitted (Committed d) c l e = cc
live-uncommitted Aborted c l e = cc

-- as before but for what isn't asked of a live transaction
live-txn : (time : ℕ) (bs : List AcceptedTablet) (t : Transaction) → is_live t.stage ≡ true → (1 ≤ length t.writes → 1 ≤ time)
    → IsTxn time bs t
live-txn time bs t l w = record { written = w; commits = λ c e. absurd (live-uncommitted t.stage c l e) }

pub move-clock : (P : Machine → List AcceptedTablet → Type 0) → Closed P → (m : Machine) (u : ℕ) → m.time ≤ u → Kept P m
    → Kept P (record m { time = u })
move-clock P cl m u l k =
    record { books = k.books; base = base-clock m k.books u l k.base; holds_of = cl.clock m k.books u k.base l k.holds_of }

pub move-begin : (P : Machine → List AcceptedTablet → Type 0) → Closed P → (m : Machine) → Kept P m
    → Kept P (record m { txns = m.txns ++ begun ∷ [] })
move-begin P cl m k =
    record { books = k.books; base = base-begin m k.books k.base; holds_of = cl.begin m k.books k.base k.holds_of }

pub move-savepoint : (P : Machine → List AcceptedTablet → Type 0) → Closed P → (m : Machine) (n : ℕ) (t : Transaction) → IsLive m n t
    → t.current < 64 → Kept P m → Kept P (with_transaction n (next_begun t) m)
move-savepoint P cl m n t l few k = record {
  books = k.books;
  base = base-txn m k.books n (next_begun t) (live-txn m.time k.books (next_begun t) l.live (get-txn m k.books n t k.base l.there).written)
      k.base;
  holds_of = cl.savepoint m k.books n t k.base l few k.holds_of;
}

pub move-roll-back : (P : Machine → List AcceptedTablet → Type 0) → Closed P → (m : Machine) (n sub : ℕ) (t : Transaction) → IsLive m n t
    → is_savepoint sub t ≡ true → t.current < 64 → Kept P m → Kept P (with_transaction n (next_begun (undone_from sub t)) m)
move-roll-back P cl m n sub t l is few k = record {
  books = k.books;
  base = base-txn m k.books n (next_begun (undone_from sub t))
      (live-txn m.time k.books (next_begun (undone_from sub t)) l.live (get-txn m k.books n t k.base l.there).written) k.base;
  holds_of = cl.roll_back m k.books n sub t k.base l is few k.holds_of;
}

pub move-commit : (P : Machine → List AcceptedTablet → Type 0) → Closed P → (m : Machine) (n : ℕ) (t : Transaction) → IsLive m n t
    → Kept P m
    → Kept P (commit_after n m t)
move-commit P cl m n t l k = record {
  books = k.books;
  base = base-commit m k.books n t k.base (get-txn m k.books n t k.base l.there);
  holds_of = cl.commit m k.books n t k.base l k.holds_of;
}

pub abort-txn : (time : ℕ) (bs : List AcceptedTablet) (t : Transaction) → IsTxn time bs t → IsTxn time bs (aborted t)
abort-txn time bs t p = record {
  written = λ w. p.written (subst (λ n. 1 ≤ n) (length-map t.writes aborted_write) w);
  commits = λ c e. cc;
}

abbrev pub move-abort : (P : Machine → List AcceptedTablet → Type 0) → Closed P → (m : Machine) (n : ℕ) (t : Transaction) → IsLive m n t
    → Kept P m
    → Kept P (with_transaction n (aborted t) m)
move-abort P cl m n t l k = record {
  books = k.books;
  base = base-txn m k.books n (aborted t) (abort-txn m.time k.books t (get-txn m k.books n t k.base l.there)) k.base;
  holds_of = cl.abort m k.books n t k.base l k.holds_of;
}

-- ---- records

pub move-write : (P : Machine → List AcceptedTablet → Type 0) → Closed P → (m : Machine) (n : ℕ) (op : Op) (t : Transaction) (id : ℕ)
    (b : AcceptedTablet) (k : Kept P m) → OpenAt k.books id b → IsLive m n t → holds b.header (hash_of op.key) ≡ true → OpFits op
    → Kept P (logged id (kind.Intent t.current n (op ∷ [])) (with_transaction n (written op t) m))
move-write P cl m n op t id b k o l h f = record {
  books = grown_books o.seam (next_record m (kind.Intent t.current n (op ∷ [])));
  base = base-txn (logged id (kind.Intent t.current n (op ∷ [])) m)
      (grown_books o.seam (next_record m (kind.Intent t.current n (op ∷ [])))) n
      (written op t)
      (live-txn (m.time + 1) (grown_books o.seam (next_record m (kind.Intent t.current n (op ∷ [])))) (written op t) l.live
      (λ w. omega arith))
      (base-plain m k.books id b o.seam (kind.Intent t.current n (op ∷ [])) k.base o.opened refl refl refl);
  holds_of = cl.write m k.books n op t id b o k.base l h f k.holds_of;
}

pub move-put : (P : Machine → List AcceptedTablet → Type 0) → Closed P → (m : Machine) (op : Op) (id : ℕ)
    (b : AcceptedTablet) (k : Kept P m) → OpenAt k.books id b → holds b.header (hash_of op.key) ≡ true → OpFits op
    → Kept P (with_commit (m.time + 1) 0 (op ∷ []) (logged id (kind.Write (op ∷ [])) m))
move-put P cl m op id b k o h f = record {
  books = grown_books o.seam (next_record m (kind.Write (op ∷ [])));
  base = base-plain m k.books id b o.seam (kind.Write (op ∷ [])) k.base o.opened refl refl refl;
  holds_of = cl.put m k.books op id b o k.base h f k.holds_of;
}

abbrev pub move-abort-log : (P : Machine → List AcceptedTablet → Type 0) → Closed P → (m : Machine) (n : ℕ) (t : Transaction) (id : ℕ)
    (b : AcceptedTablet) (k : Kept P m) → OpenAt k.books id b → transaction m n ≡ Some t → t.stage ≡ Aborted
    → Kept P (logged id (kind.Abort n) m)
move-abort-log P cl m n t id b k o e a = record {
  books = grown_books o.seam (next_record m (kind.Abort n));
  base = base-plain m k.books id b o.seam (kind.Abort n) k.base o.opened refl refl refl;
  holds_of = cl.abort_log m k.books n t id b o k.base e a k.holds_of;
}

pub taken-waits : (h g : Header) (w : Provisional) → is_waiting g (taken_write h w) ≡ true → is_waiting g w ≡ true
taken-waits h g w e = go (holds h (hash_of w.op.key)) e
  where
    go : (b : Bool) → is_waiting g (if b then record w { waits = false } else w) ≡ true → is_waiting g w ≡ true
    go true e = cc
    go false e = e

pub any-map : {A : Type 0} (p q : A → Bool) (f : A → A) → ((x : A) → p (f x) ≡ true → q x ≡ true) → (xs : List A)
    → list_any p (map f xs) ≡ true → list_any q xs ≡ true
any-map p q f g [] e = e
any-map p q f g (x ∷ xs) e = grind (arith, g x, any-map p q f g xs)

-- what an apply took waits no more
pub taken-txn : (time : ℕ) (bs : List AcceptedTablet) (h : Header) (t : Transaction) → IsTxn time bs t → IsTxn time bs (taken_on h t)
taken-txn time bs h t p = record {
  written = λ w. p.written (subst (λ n. 1 ≤ n) (length-map t.writes (taken_write h)) w);
  commits = λ c e.
      let old = p.commits c e in
      record {
        within = old.within;
        positive = old.positive;
        after_write = λ w. old.after_write (subst (λ n. 1 ≤ n) (length-map t.writes (taken_write h)) w);
        above = Each-weaker (Above t c) (Above (taken_on h t) c)
            (λ b a o w. a o (any-map (is_waiting b.header) (is_waiting b.header) (taken_write h) (taken-waits h b.header) t.writes w)) bs
            old.above;
      };
}

abbrev pub move-apply : (P : Machine → List AcceptedTablet → Type 0) → Closed P → (m : Machine) (n c : ℕ) (t : Transaction) (id : ℕ)
    (b : AcceptedTablet) (k : Kept P m) → OpenAt k.books id b → MayApply m n t c b
    → Kept P (logged id (kind.Apply n c t.undone) (with_transaction n (taken_on b.header t) m))
move-apply P cl m n c t id b k o a =
    let bs = grown_books o.seam (next_record m (kind.Apply n c t.undone)) in
    let within = ((get-txn m k.books n t k.base a.there).commits c a.commit).within in
    let after = base-apply m k.books id b o.seam n c t.undone k.base o.opened a.above within in
    record {
      books = grown_books o.seam (next_record m (kind.Apply n c t.undone));
      base = base-txn (logged id (kind.Apply n c t.undone) m) bs n (taken_on b.header t)
          (taken-txn (m.time + 1) bs b.header t (get-txn (logged id (kind.Apply n c t.undone) m) bs n t after a.there)) after;
      holds_of = cl.apply m k.books n c t id b o k.base a k.holds_of;
    }

abbrev pub move-safe : (P : Machine → List AcceptedTablet → Type 0) → Closed P → (m : Machine) (v : ℕ) (id : ℕ)
    (b : AcceptedTablet) (k : Kept P m) → OpenAt k.books id b → MayBeSafe m b v → Kept P (logged id (kind.Safe v) m)
move-safe P cl m v id b k o s = record {
  books = grown_books o.seam (next_record m (kind.Safe v));
  base = base-safe m k.books id b o.seam v k.base o.opened s.from s.to s.below;
  holds_of = cl.safe m k.books id v b o k.base s k.holds_of;
}

pub move-split : (P : Machine → List AcceptedTablet → Type 0) → Closed P → (m : Machine) (id at : ℕ) (b : AcceptedTablet) (k : Kept P m)
    → OpenAt k.books id b → b.header.lo < at → at ≤ b.header.hi → Kept P (split_after id at m b.header)
move-split P cl m id at b k o lo hi = record {
  books = split_books m o.seam at;
  base = base-split m k.books id b o.seam at k.base o.opened lo hi;
  holds_of = cl.split m k.books id at b o k.base lo hi k.holds_of;
}

-- ---- the value of a safe record

-- of the numbers that f gives, each less 1, the least
abbrev pub least_of : (Transaction → Option ℕ) → List Transaction → ℕ
least_of f ts = least (map (λ commit. commit - 1) (filter_map f ts))

least-head : (f : Transaction → Option ℕ) (t : Transaction) (ts : List Transaction) (v c : ℕ) → v ≤ least_of f (t ∷ ts) → f t ≡ Some c
    → v ≤ c - 1
least-head f t ts v c l e =
    let q : v ≤ least (map (λ commit. commit - 1) (cons_option (Some c) (filter_map f ts))) =
    subst (λ o. v ≤ least (map (λ commit. commit - 1) (cons_option o (filter_map f ts)))) e l in
    omega arith

least-tail : (f : Transaction → Option ℕ) (t : Transaction) (ts : List Transaction) (v : ℕ) → v ≤ least_of f (t ∷ ts) → v ≤ least_of f ts
least-tail f t ts v l = go (f t) l
  where
    go : (o : Option ℕ) → v ≤ least (map (λ commit. commit - 1) (cons_option o (filter_map f ts))) → v ≤ least_of f ts
    go None q = q
    go (Some x) q = omega arith

pub least-from : (f : Transaction → Option ℕ) (ts : List Transaction) (v : ℕ) → v ≤ 2 ^ 62
    → Each (λ t. (c : ℕ) → f t ≡ Some c → v ≤ c - 1) ts → v ≤ least_of f ts
least-from f [] v l h = l
least-from f (t ∷ ts) v l h = go (f t) refl (least-from f ts v l h.1)
  where
    go : (o : Option ℕ) → f t ≡ o → v ≤ least_of f ts → v ≤ least (map (λ commit. commit - 1) (cons_option o (filter_map f ts)))
    go None e q = q
    go (Some x) e q = let a = h.0 x e in omega arith

abbrev pub commit_there : Header → Transaction → Option ℕ
commit_there h t = if waits_on h t then commit_of t.stage else None

pub there-parts : (h : Header) (t : Transaction) (c : ℕ) → commit_there h t ≡ Some c → (waits_on h t ≡ true) × (commit_of t.stage ≡ Some c)
there-parts h t c e = go (waits_on h t) refl e
  where
    go : (b : Bool) → waits_on h t ≡ b → (if b then commit_of t.stage else None) ≡ Some c → (waits_on h t ≡ true)
        × (commit_of t.stage ≡ Some c)
    go true w q = (w, q)
    go false w q = cc

below-all : (h : Header) (ts : List Transaction) (v : ℕ) → v ≤ least_of (commit_there h) ts
    → Each (λ t. (c : ℕ) → commit_of t.stage ≡ Some c → 1 ≤ c) ts
    → Each (λ t. (c : ℕ) → commit_of t.stage ≡ Some c → waits_on h t ≡ true → v < c) ts
below-all h [] v l p = tt
below-all h (t ∷ ts) v l p = (
  (λ c e w. let q = least-head (commit_there h) t ts v c l (ap (λ b. if b then commit_of t.stage else None) w ∙ e) in let one = p.0 c e in
      omega arith),
  below-all h ts v (least-tail (commit_there h) t ts v l) p.1,
)

pub wrote-some : (p : Provisional → Bool) (ws : List Provisional) → list_any p ws ≡ true → 1 ≤ length ws
wrote-some p [] e = cc
wrote-some p (w ∷ ws) e = omega arith

abbrev pub safe_from : Machine → Header → ℕ
safe_from m h = min (m.time + 1) (least_of (commit_there h) m.txns)

-- a safe record's value lies between the floor and the commits that wait
pub may-be-safe : (m : Machine) (bs : List AcceptedTablet) (id : ℕ) (b : AcceptedTablet) → IsMachine m bs → OpenAt bs id b
    → m.time + 1 ≤ last_time → MayBeSafe m b (safe_from m b.header)
may-be-safe m bs id b k o l =
    let here = book-at m bs id b k o.seam in
    let v = safe_from m b.header in
    let to : v ≤ m.time + 1 = omega arith in
    let least_to : v ≤ least_of (commit_there b.header) m.txns = omega arith in
    let floors : b.end.floor ≤ least_of (commit_there b.header) m.txns =
    least-from (commit_there b.header) m.txns b.end.floor (let f = here.floor in omega arith)
    (Each-weaker (IsTxn m.time bs) (λ t. (c : ℕ) → commit_there b.header t ≡ Some c → b.end.floor ≤ c - 1)
    (λ t p c e. let w = there-parts b.header t c e in
    let a = each-here (Above t c) o.seam.before b o.seam.after (subst (Each (Above t c)) o.seam.whole (p.commits c w.1).above) o.opened w.0
    in
    omega arith) m.txns k.txns) in
    let ones : 1 ≤ least_of (commit_there b.header) m.txns =
    least-from (commit_there b.header) m.txns 1 (omega arith)
    (Each-weaker (IsTxn m.time bs) (λ t. (c : ℕ) → commit_there b.header t ≡ Some c → 1 ≤ c - 1)
    (λ t p c e. let w = there-parts b.header t c e in
    let a = (p.commits c w.1).after_write (wrote-some (is_waiting b.header) t.writes w.0) in omega arith) m.txns k.txns) in
    record {
      from = let f = here.floor in omega arith;
      to = to;
      positive = omega arith;
      below = below-all b.header m.txns v least_to
          (Each-weaker (IsTxn m.time bs) (λ t. (c : ℕ) → commit_of t.stage ≡ Some c → 1 ≤ c)
          (λ t p c e. (p.commits c e).positive) m.txns k.txns);
    }

-- it is what the definition says
pub safe-value-is : (m : Machine) (id : ℕ) (b : AcceptedTablet) → slice_get m.tablets id ≡ Some (tablet_of b)
    → safe_value m id ≡ safe_from m b.header
unfolding commits_on
safe-value-is m id b e =
    ap (λ o. option_map_or (λ (x : Tablet). min (m.time + 1) (least (map (λ commit. commit - 1) (commits_on m x.header)))) o 0) e
