-- What holds of the source after every list of commands, beside its books: no committed transaction waits at or below the floor of a
-- tablet.
--     IsMachine m bs      the books bs are those of the machine
use Rattle.std.proofs.Common.{◌≡◌, ℕ, zero, suc, ◌+◌, ◌-◌, ◌<◌, ◌≤◌, true, false, Bool, List, [], ◌∷◌, ◌++◌, length, map, Option, Some}
use Rattle.std.proofs.Common.{None}
use Rattle.std.proofs.Common.{refl, ap, sym, ◌∙◌, subst, arith}
use Rattle.std.specs.Prelude.{not, slice_get, slice_set, if◌then◌else◌, ◌==◌}
use Rattle.std.specs.Option.{option_map_or}
use Rattle.std.proofs.lemmas.Bool.Decides.{nat_tests}
use Rattle.std.proofs.lemmas.List.{map-append, length-map}
use Rattle.xc_record.specs.declared.record.Kind.{Kind}
use Rattle.xc_record.specs.declared.record.Kind.TheVariants as kind
use Rattle.xc_record.specs.declared.record.Record.{Record}
use Rattle.xc_record.specs.declared.record.Tablet.{Tablet}
use Rattle.xc_record.specs.Grown.{with_record, grown}
use Rattle.xc_record.specs.Order.{Progress, after, break_of, is_split, commit_time, safe_value}
use Rattle.xc_record.specs.Accepted.{AcceptedTablet}
use Rattle.xc_record.proofs.ListLaws.{Each, Each-append, Each-weaker}
use Rattle.xc_model.proofs.Parents.{each-get}
use Rattle.xc_source.specs.Machine.{Machine, Transaction, transaction, with_transaction, begun, commit_of}
use Rattle.xc_source.specs.Waiting.{waits_on}
use Rattle.xc_source.specs.Calls.{logged}
use Rattle.xc_source_laws.proofs.Lists.{each-replaced, each-here, get-seam, set-seam, Seam}
use Rattle.xc_source_laws.proofs.Grow.{tablet_of, taken}
use Rattle.xc_source_laws.proofs.Books.{opens, Books, IsBook, FloorFits, books-later, books-taken}

-- no open tablet on which the transaction waits has a floor from its commit on
abbrev pub Above : Transaction → ℕ → AcceptedTablet → Type 0
Above t c b = opens b ≡ true → waits_on b.header t ≡ true → b.end.floor < c

-- a transaction with the commit c
pub record Commits (time : ℕ) (bs : List AcceptedTablet) (t : Transaction) (c : ℕ) : Type 0 where
  pub within : c ≤ time
  pub positive : 1 ≤ c
  pub after_write : 1 ≤ length t.writes → 2 ≤ c
  pub above : Each (Above t c) bs

pub record IsTxn (time : ℕ) (bs : List AcceptedTablet) (t : Transaction) : Type 0 where
  pub written : 1 ≤ length t.writes → 1 ≤ time
  pub commits : (c : ℕ) → commit_of t.stage ≡ Some c → Commits time bs t c

pub record IsMachineOf (time : ℕ) (tablets : List Tablet) (begun : List Transaction) (bs : List AcceptedTablet) : Type 0 where
  pub shape : tablets ≡ map tablet_of bs
  pub books : Books time bs
  pub txns : Each (IsTxn time bs) begun

abbrev pub IsMachine : Machine → List AcceptedTablet → Type 0
IsMachine m bs = IsMachineOf m.time m.tablets m.txns bs

-- ---- the clock and the transactions

commits-later : (t u : ℕ) (bs : List AcceptedTablet) (x : Transaction) (c : ℕ) → t ≤ u → Commits t bs x c → Commits u bs x c
commits-later t u bs x c l k =
    record { within = let a = k.within in omega arith; positive = k.positive; after_write = k.after_write; above = k.above }

txn-later : (t u : ℕ) (bs : List AcceptedTablet) → t ≤ u → (x : Transaction) → IsTxn t bs x → IsTxn u bs x
txn-later t u bs l x k = record {
  written = λ w. let a = k.written w in omega arith;
  commits = λ c e. commits-later t u bs x c l (k.commits c e);
}

pub base-clock : (m : Machine) (bs : List AcceptedTablet) (u : ℕ) → m.time ≤ u → IsMachine m bs → IsMachine (record m { time = u }) bs
base-clock m bs u l k = record {
  shape = k.shape;
  books = books-later m.time u bs l k.books;
  txns = Each-weaker (IsTxn m.time bs) (IsTxn u bs) (txn-later m.time u bs l) m.txns k.txns;
}

pub each-set : {A : Type 0} (P : A → Type 0) (xs : List A) (i : ℕ) (y : A) → P y → Each P xs → Each P (slice_set xs i y)
each-set P [] i y p h = tt
each-set P (x ∷ xs) zero y p h = (p, h.1)
each-set P (x ∷ xs) (suc i) y p h = (h.0, each-set P xs i y p h.1)

pub base-txn : (m : Machine) (bs : List AcceptedTablet) (n : ℕ) (t : Transaction) → IsTxn m.time bs t → IsMachine m bs
    → IsMachine (with_transaction n t m) bs
base-txn m bs n t p k =
    record { shape = k.shape; books = k.books; txns = each-set (IsTxn m.time bs) m.txns (n - 1) t p k.txns }

pub base-begin : (m : Machine) (bs : List AcceptedTablet) → IsMachine m bs → IsMachine (record m { txns = m.txns ++ begun ∷ [] }) bs
base-begin m bs k = record {
  shape = k.shape;
  books = k.books;
  txns = Each-append (IsTxn m.time bs) m.txns (begun ∷ []) k.txns
      (record { written = λ w. absurd (omega arith); commits = λ c e. cc }, tt);
}

pub unless-none : {A : Type 0} (b : Bool) (o : Option A) (x : A) → (if b then None else o) ≡ Some x → (b ≡ false) × (o ≡ Some x)
unless-none true o x e = cc
unless-none false o x e = (refl, e)

-- the transaction of a number that was begun stands at its place
pub transaction-at : (m : Machine) (n : ℕ) (t : Transaction) → transaction m n ≡ Some t → (1 ≤ n) × (slice_get m.txns (n - 1) ≡ Some t)
transaction-at m n t e =
    let p = unless-none (n == 0) (slice_get m.txns (n - 1)) t e in
    ((let z : (n == 0) ≡ false = p.0 in grind (arith, nat_tests)), p.1)

-- a transaction that was begun has what holds of each
pub get-txn : (m : Machine) (bs : List AcceptedTablet) (n : ℕ) (t : Transaction) → IsMachine m bs → transaction m n ≡ Some t
    → IsTxn m.time bs t
get-txn m bs n t k e = each-get (IsTxn m.time bs) m.txns (n - 1) t k.txns (transaction-at m n t e).1

-- ---- a record more

-- the record of this kind at the clock's next time
abbrev pub next_record : Machine → Kind → Record
next_record m kind = record { time = m.time + 1; kind = kind }

pub with_record-seam : (xs : List Tablet) (t : Tablet) (ys : List Tablet) (id : ℕ) (r : Record) → length xs ≡ id
    → with_record id r (xs ++ t ∷ ys) ≡ xs ++ grown t r ∷ ys
with_record-seam xs t ys id r e =
    ap (λ o. option_map_or (λ u. slice_set (xs ++ t ∷ ys) id (grown u r)) o (xs ++ t ∷ ys)) (get-seam xs t ys id e)
    ∙ set-seam xs t (grown t r) ys id e

pub grown_shape : (xs : List AcceptedTablet) (b : AcceptedTablet) (ys : List AcceptedTablet) (id : ℕ) (r : Record) → length xs ≡ id
    → with_record id r (map tablet_of (xs ++ b ∷ ys)) ≡ map tablet_of (xs ++ taken b r ∷ ys)
grown_shape xs b ys id r e =
    ap (with_record id r) (map-append tablet_of xs (b ∷ ys))
    ∙ with_record-seam (map tablet_of xs) (tablet_of b) (map tablet_of ys) id r (length-map xs tablet_of ∙ e)
    ∙ sym (map-append tablet_of xs (taken b r ∷ ys))

-- a committed transaction that waits there commits above the floor after the record
abbrev pub StaysAbove : AcceptedTablet → Record → Transaction → Type 0
StaysAbove b r t = (c : ℕ) → commit_of t.stage ≡ Some c → waits_on b.header t ≡ true → (after b.end r).floor < c

abbrev pub grown_books : {bs : List AcceptedTablet} {id : ℕ} {b : AcceptedTablet} → Seam bs id b → Record → List AcceptedTablet
grown_books {b = b} s r = s.before ++ taken b r ∷ s.after

txn-logged : (time : ℕ) (xs : List AcceptedTablet) (b : AcceptedTablet) (ys : List AcceptedTablet) (r : Record) (t : Transaction)
    → IsTxn time (xs ++ b ∷ ys) t → StaysAbove b r t → IsTxn (time + 1) (xs ++ taken b r ∷ ys) t
txn-logged time xs b ys r t k a = record {
  written = λ w. let q = k.written w in omega arith;
  commits = λ c e.
      let old = k.commits c e in
      record {
        within = let q = old.within in omega arith;
        positive = old.positive;
        after_write = old.after_write;
        above = each-replaced (Above t c) xs b (taken b r) ys (λ o w. a c e w) old.above;
      };
}

pub each-two : {A : Type 0} (P Q R : A → Type 0) → ((x : A) → P x → Q x → R x) → (xs : List A) → Each P xs → Each Q xs → Each R xs
each-two P Q R f [] p q = tt
each-two P Q R f (x ∷ xs) p q = (f x p.0 q.0, each-two P Q R f xs p.1 q.1)

pub base-logged : (m : Machine) (bs : List AcceptedTablet) (id : ℕ) (b : AcceptedTablet) (s : Seam bs id b) (kind : Kind) → IsMachine m bs
    → opens b ≡ true → is_split kind ≡ false → break_of b.end (next_record m kind) ≡ None → FloorFits (m.time + 1) b (next_record m kind)
    → Each (StaysAbove b (next_record m kind)) m.txns → IsMachine (logged id kind m) (grown_books s (next_record m kind))
base-logged m bs id b s kind k o n br f a =
    let r = next_record m kind in
    let same = s.whole in
    record {
      shape = ap (with_record id r) (k.shape ∙ ap (map tablet_of) same) ∙ grown_shape s.before b s.after id r s.number;
      books = books-taken m.time s.before b s.after r (subst (Books m.time) same k.books) o refl n f br;
      txns = each-two (IsTxn m.time (s.before ++ b ∷ s.after)) (StaysAbove b r) (IsTxn (m.time + 1) (s.before ++ taken b r ∷ s.after))
          (λ t p q. txn-logged m.time s.before b s.after r t p q) m.txns
          (subst (λ w. Each (IsTxn m.time w) m.txns) same k.txns) a;
    }

-- ---- the moves of the source

pub plain-break : (p : Progress) (r : Record) → p.last < r.time → p.split ≡ false → commit_time r.kind ≡ None → safe_value r.kind ≡ None
    → break_of p r ≡ None
unfolding break_of
plain-break p r l s c v = grind (arith, nat_tests, l, s, c, v)

apply-break : (p : Progress) (time n c : ℕ) (without : List ℕ) → p.last < time → p.split ≡ false → p.floor < c → c ≤ time
    → break_of p (record { time = time; kind = kind.Apply n c without }) ≡ None
unfolding break_of
apply-break p time n c without l s f w = grind (arith, nat_tests, l, s, f, w)

safe-break : (p : Progress) (time v : ℕ) → p.last < time → p.split ≡ false → p.floor ≤ v → v ≤ time
    → break_of p (record { time = time; kind = kind.Safe v }) ≡ None
unfolding break_of
safe-break p time v l s f w = grind (arith, nat_tests, l, s, f, w)

-- a tablet of the machine
pub book-at : (m : Machine) (bs : List AcceptedTablet) (id : ℕ) (b : AcceptedTablet) → IsMachine m bs → Seam bs id b → IsBook m.time b
book-at m bs id b k s =
    each-here (IsBook m.time) s.before b s.after (subst (Each (IsBook m.time)) s.whole k.books.each)

pub unsplit : (m : Machine) (b : AcceptedTablet) → IsBook m.time b → opens b ≡ true → b.end.split ≡ false
unsplit m b k o = k.splits ∙ ap not o

-- a record that is no safe record leaves all above the floor
still-above : (m : Machine) (bs : List AcceptedTablet) (id : ℕ) (b : AcceptedTablet) (s : Seam bs id b) (r : Record) → opens b ≡ true
    → safe_value r.kind ≡ None → Each (IsTxn m.time bs) m.txns → Each (StaysAbove b r) m.txns
still-above m bs id b s r o v k =
    Each-weaker (IsTxn m.time bs) (StaysAbove b r)
    (λ t p c e w. subst (λ x. option_map_or (λ (value : ℕ). value) x b.end.floor < c) (sym v)
    (each-here (Above t c) s.before b s.after (subst (Each (Above t c)) s.whole (p.commits c e).above) o w)) m.txns k

-- a record that is neither an apply nor a safe record nor a split
pub base-plain : (m : Machine) (bs : List AcceptedTablet) (id : ℕ) (b : AcceptedTablet) (s : Seam bs id b) (kind : Kind) → IsMachine m bs
    → opens b ≡ true → is_split kind ≡ false → commit_time kind ≡ None → safe_value kind ≡ None
    → IsMachine (logged id kind m) (grown_books s (next_record m kind))
base-plain m bs id b s kind k o n c v =
    let here = book-at m bs id b k s in
    base-logged m bs id b s kind k o n
    (plain-break b.end (next_record m kind) (let l = here.last in omega arith) (unsplit m b here o) c v)
    (subst (λ x. option_map_or (λ (value : ℕ). value) x b.end.floor ≤ m.time + 1) (sym v) (let f = here.floor in omega arith))
    (still-above m bs id b s (next_record m kind) o v k.txns)

pub base-apply : (m : Machine) (bs : List AcceptedTablet) (id : ℕ) (b : AcceptedTablet) (s : Seam bs id b) (n c : ℕ) (without : List ℕ)
    → IsMachine m bs → opens b ≡ true → b.end.floor < c → c ≤ m.time
    → IsMachine (logged id (kind.Apply n c without) m) (grown_books s (next_record m (kind.Apply n c without)))
base-apply m bs id b s n c without k o f w =
    let here = book-at m bs id b k s in
    base-logged m bs id b s (kind.Apply n c without) k o refl
    (apply-break b.end (m.time + 1) n c without (let l = here.last in omega arith) (unsplit m b here o) f (omega arith))
    (let q = here.floor in omega arith) (still-above m bs id b s (next_record m (kind.Apply n c without)) o refl k.txns)

pub base-safe : (m : Machine) (bs : List AcceptedTablet) (id : ℕ) (b : AcceptedTablet) (s : Seam bs id b) (v : ℕ)
    → IsMachine m bs → opens b ≡ true → b.end.floor ≤ v → v ≤ m.time + 1
    → Each (λ t. (c : ℕ) → commit_of t.stage ≡ Some c → waits_on b.header t ≡ true → v < c) m.txns
    → IsMachine (logged id (kind.Safe v) m) (grown_books s (next_record m (kind.Safe v)))
base-safe m bs id b s v k o f w a =
    let here = book-at m bs id b k s in
    base-logged m bs id b s (kind.Safe v) k o refl
    (safe-break b.end (m.time + 1) v (let l = here.last in omega arith) (unsplit m b here o) f w) w a
