-- What a tablet is seen as, after one more record.
use Rattle.std.proofs.Common.{◌≡◌, ℕ, zero, suc, ◌+◌, ◌*◌, ◌^◌, ◌<◌, ◌≤◌, Bool, true, false, cond, List, [], ◌∷◌, ◌++◌, length, Option}
use Rattle.std.proofs.Common.{Some, None, refl, ap, sym, ◌∙◌, arith, subst, ⊎_elim, ◌&&◌, ◌==◌, sum}
use Rattle.std.specs.Prelude.{nat_le, slice_get, slice_index, slice_index_or, slice_set}
use Rattle.std.specs.List.{list_all}
use Rattle.std.specs.Option.{option_map_or}
use Rattle.std.proofs.lemmas.Bool.{cases_Bool, true≢false, and_parts}
use Rattle.std.proofs.lemmas.Bool.Decides.{nat_tests}
use Rattle.std.proofs.lemmas.List.Sums.{sum_by-set, sum_by-cons}
use Rattle.std.proofs.Math.ListN.{length-set}
use Rattle.std.proofs.Common.{◌-◌, replicate, length-drop, get_or-set_same, get_or, drop, take, drop-cons, add-one}
use Rattle.std.proofs.lemmas.List.{take_more, get_or_read, length-replicate}
use Rattle.xc_record.proofs.ListLaws.{Each, Each-weaker}
use Rattle.xc_record.specs.declared.record.Header.{Header}
use Rattle.xc_record.specs.declared.record.Kind.{Kind}
use Rattle.xc_record.specs.declared.record.Kind.TheVariants as kind
use Rattle.xc_record.specs.declared.record.Record.{Record}
use Rattle.xc_record.specs.Hash.{hash_of, holds}
use Rattle.xc_record.specs.Headers.{are_headers, headers_fit, children}
use Rattle.xc_record.specs.Order.{is_split}
use Rattle.xc_record.specs.Path.{record_events}
use Rattle.xc_record.specs.Kept.{KeyVersion, KeyWaiting, steps}
use Rattle.xc_record.specs.Valid.{keeps_header, split_fits, ops_in}
use Rattle.xc_versions.specs.declared.stored.StoredVersion.{StoredVersion}
use Rattle.xc_versions.specs.Stored.{InOrder, key_versions}
use Rattle.xc_model.specs.Floors.{Floors, new_floors, has_closed, has_started, starts, split_into, split_at, floors_after}
use Rattle.xc_model.specs.Stands.{TargetTablet, KeepsWithin, TakesIn, past}
use Rattle.xc_tablet.specs.declared.contents.Contents.{Contents}
use Rattle.xc_tablet.specs.declared.state.State.{State}
use Rattle.xc_tablet.specs.Contents.{in_hashes, has_key, kept_in, IsContents, Alike, Changes, all_keep}
use Rattle.xc_tablet.specs.Room.{HasRoom}
use Rattle.xc_tablet.proofs.RoomLaws.{room-first, all-of_header}
use Rattle.xc_tablet.specs.Batch.{splits_end, records_keep, CanTake}
use Rattle.xc_tablet.specs.State.{seen, IsState, Ready, names_children}

-- ---- words

pub names-of_header : (h : Header) (pair : Option (Header × Header)) (kind : Kind) → keeps_header h pair kind ≡ true
    → names_children pair kind ≡ true
names-of_header h pair (kind.Write ops) e = refl
names-of_header h pair (kind.Intent sub txn ops) e = refl
names-of_header h pair (kind.Apply txn commit without) e = refl
names-of_header h pair (kind.Abort txn) e = refl
names-of_header h pair (kind.Safe value) e = refl
names-of_header h pair (kind.Split at left right) e = e

pub few-of_header : (h : Header) (pair : Option (Header × Header)) (kind : Kind) → keeps_header h pair kind ≡ true → ops_in kind ≤ 64
few-of_header h pair (kind.Write ops) e =
    let p : nat_le (length ops) 64 ≡ true =
    (and_parts (nat_le (length ops) 64) (list_all (λ op. holds h (hash_of op.key)) ops) e).0 in grind (arith, nat_tests)
few-of_header h pair (kind.Intent sub txn ops) e =
    let p : nat_le (length ops) 64 ≡ true =
    (and_parts (nat_le (length ops) 64) (list_all (λ op. holds h (hash_of op.key)) ops) e).0 in grind (arith, nat_tests)
few-of_header h pair (kind.Apply txn commit without) e = omega arith
few-of_header h pair (kind.Abort txn) e = omega arith
few-of_header h pair (kind.Safe value) e = omega arith
few-of_header h pair (kind.Split at left right) e = omega arith

-- ---- a split

pub split-named : (f : Floors) (s at left right : ℕ) → split_fits (children f.headers s) at left right ≡ true
    → split_at s f ≡ split_into s left right f
split-named f s at left right e = go (children f.headers s) e
  where
    go : (pair : Option (Header × Header)) → split_fits pair at left right ≡ true
        → option_map_or (λ pair. split_into s pair.0.id pair.1.id f) pair f ≡ split_into s left right f
    go None e = absurd (true≢false (sym e))
    go (Some pair) e =
        let p = (and_parts (at == pair.1.lo) ((left == pair.0.id) && (right == pair.1.id)) e).1 in
        let l : left ≡ pair.0.id =
        let t : (left == pair.0.id) ≡ true = (and_parts (left == pair.0.id) (right == pair.1.id) p).0 in grind (arith, nat_tests) in
        let r : right ≡ pair.1.id =
        let t : (right == pair.1.id) ≡ true = (and_parts (left == pair.0.id) (right == pair.1.id) p).1 in grind (arith, nat_tests) in
        ap (λ l. split_into s l pair.1.id f) (sym l) ∙ ap (λ r. split_into s left r f) (sym r)

-- ---- headers and closed tablets

pub headers-after : (s : ℕ) (kind : Kind) (f : Floors) → (floors_after s kind f).headers ≡ f.headers
headers-after s (kind.Write ops) f = refl
headers-after s (kind.Intent sub txn ops) f = refl
headers-after s (kind.Apply txn commit without) f = refl
headers-after s (kind.Abort txn) f = refl
headers-after s (kind.Safe value) f = refl
headers-after s (kind.Split at left right) f = refl

pub closed-after : (s : ℕ) (kind : Kind) (f : Floors) → is_split kind ≡ false → (floors_after s kind f).closed ≡ f.closed
closed-after s (kind.Write ops) f e = refl
closed-after s (kind.Intent sub txn ops) f e = refl
closed-after s (kind.Apply txn commit without) f e = refl
closed-after s (kind.Abort txn) f e = refl
closed-after s (kind.Safe value) f e = refl
closed-after s (kind.Split at left right) f e = absurd (true≢false e)

get-within : {X : Type 0} (xs : List X) (i : ℕ) (x : X) → slice_get xs i ≡ Some x → i < length xs
get-within [] i x e = cc
get-within (y ∷ xs) zero x e = omega arith
get-within (y ∷ xs) (suc i) x e = omega (arith, get-within xs i x e)

pub header-within : (id : ℕ) (h : Header) (rs : List Record) (s : State) → Ready id h rs s → id < length s.floor.headers
header-within id h rs s ready = get-within s.floor.headers id h ready.header

set-true : (xs : List Bool) (i p : ℕ) → slice_index_or xs p false ≡ true → slice_index_or (slice_set xs i true) p false ≡ true
set-true [] i p e = e
set-true (x ∷ xs) zero zero e = refl
set-true (x ∷ xs) zero (suc p) e = e
set-true (x ∷ xs) (suc i) zero e = e
set-true (x ∷ xs) (suc i) (suc p) e = set-true xs i p e

split-started : (f : Floors) (s left right : ℕ) → has_started f s ≡ true → has_started (split_into s left right f) s ≡ true
split-started f s left right e = go (slice_get f.headers s) e
  where
    parent : (p : Option ℕ) → option_map_or (has_closed f) p true ≡ true
        → option_map_or (has_closed (split_into s left right f)) p true ≡ true
    parent None e = refl
    parent (Some p) e = set-true f.closed s p e

    go : (o : Option Header) → option_map_or (starts f) o false ≡ true → option_map_or (starts (split_into s left right f)) o false ≡ true
    go None e = e
    go (Some h) e = parent h.parent e

pub started-after : (s : ℕ) (kind : Kind) (f : Floors) → has_started f s ≡ true → has_started (floors_after s kind f) s ≡ true
started-after s (kind.Write ops) f e = e
started-after s (kind.Intent sub txn ops) f e = e
started-after s (kind.Apply txn commit without) f e = e
started-after s (kind.Abort txn) f e = e
started-after s (kind.Safe value) f e = e
started-after s (kind.Split at left right) f e = split-started f s left right e

pub closed-length : (s : ℕ) (kind : Kind) (f : Floors) → length (floors_after s kind f).closed ≡ length f.closed
closed-length s (kind.Write ops) f = refl
closed-length s (kind.Intent sub txn ops) f = refl
closed-length s (kind.Apply txn commit without) f = refl
closed-length s (kind.Abort txn) f = refl
closed-length s (kind.Safe value) f = refl
closed-length s (kind.Split at left right) f = length-set f.closed s true

-- ---- places

pub each-index : (P : ℕ → Type 0) → P 0 → (xs : List ℕ) (i : ℕ) → Each P xs → P (slice_index xs i)
each-index P z [] i h = z
each-index P z (x ∷ xs) zero h = h.0
each-index P z (x ∷ xs) (suc i) h = each-index P z xs i h.1

each-set : (P : ℕ → Type 0) (xs : List ℕ) (i y : ℕ) → P y → Each P xs → Each P (slice_set xs i y)
each-set P [] i y p h = h
each-set P (x ∷ xs) zero y p h = (p, h.1)
each-set P (x ∷ xs) (suc i) y p h = (h.0, each-set P xs i y p h.1)

sum-set : (xs : List ℕ) (i y : ℕ) → i < length xs → sum (slice_set xs i y) + slice_index xs i ≡ sum xs + y
sum-set xs i y h = sum_by-set (λ (x : ℕ). x) xs i y 0 h

index-set : (xs : List ℕ) (i y : ℕ) → i < length xs → slice_index (slice_set xs i y) i ≡ y
index-set xs i y h = get_or-set_same xs i y 0 h

sum-small : (xs : List ℕ) → Each (λ x. x ≤ 1048576) xs → sum xs ≤ 1048576 * length xs
sum-small [] h = omega arith
sum-small (x ∷ xs) h = let a = sum_by-cons (λ (y : ℕ). y) x xs in let b = sum-small xs h.1 in let c = h.0 in omega arith

few-headers : (hs : List Header) → are_headers hs ≡ true → length hs ≤ 64
unfolding are_headers
few-headers hs e =
    let p : nat_le (length hs) 64 ≡ true = (and_parts (nat_le (length hs) 64) (headers_fit hs) e).0 in grind (arith, nat_tests)

-- the counter and what waits are far below 2^64
pub few-at_all : (s : State) → IsState s → s.contents.next + length s.contents.held.held ≤ 4294967296
few-at_all s is =
    let a = sum-small s.places.items is.small in
    let b = few-headers s.floor.headers is.headers in
    let c = is.count in
    let d = is.few in
    omega arith

-- ---- one more record

-- the parts of t are those of s after the record
pub record After (id : ℕ) (h : Header) (r : Record) (s t : State) : Type 0 where
  pub contents : Changes (λ k x. cond (holds h (hash_of k)) (steps (record_events k r) x) x) s.contents t.contents
  pub places : t.places.items ≡ slice_set s.places.items id (slice_index s.places.items id + 1)
  pub floor : t.floor ≡ floors_after id r.kind s.floor
  pub next : t.contents.next + length t.contents.held.held ≤ s.contents.next + length s.contents.held.held + ops_in r.kind

each-seen : (P : List ℕ → Type 0) (xs : List StoredVersion) → Each (λ v. P v.key) xs → Each (λ v. P v.key) (key_versions xs)
each-seen P [] h = tt
each-seen P (x ∷ xs) h = (h.0, each-seen P xs h.1)

pub seen-within : (s : State) → IsContents s.contents → KeepsWithin (seen s)
seen-within s is = record { versions = each-seen (λ k. has_key s.contents k ≡ true) s.contents.versions.items is.versions; held = is.held }

pub taken-in : (id : ℕ) (h : Header) (r : Record) (s t : State) → slice_get s.floor.headers id ≡ Some h → After id h r s t
    → TakesIn id r (seen s) (seen t)
taken-in id h r s t header a = record {
  range = a.contents.range;
  places = a.places;
  floors = a.floor;
  keys = λ k i. a.contents.keys k i
      ∙ ap (λ b. cond b (steps (record_events k r) (kept_in s.contents k)) (kept_in s.contents k))
      (sym (ap (λ o. option_map_or (λ (h : Header). holds h (hash_of k)) o false) header));
  within = seen-within t a.contents.is;
}

module _ (id : ℕ) (h : Header) (r : Record) (rs : List Record) (s t : State) (ready : Ready id h (r ∷ rs) s) (a : After id h r s t) where
  pub id-within : id < length s.places.items
  id-within = let x = header-within id h (r ∷ rs) s ready in let y = ready.is.count in omega arith

  headers-same : t.floor.headers ≡ s.floor.headers
  headers-same = ap (λ (f : Floors). f.headers) a.floor ∙ headers-after id r.kind s.floor

  pub keep-first : keeps_header h (children s.floor.headers id) r.kind ≡ true
  keep-first = (and_parts (keeps_header h (children s.floor.headers id) r.kind)
      (list_all (λ (r : Record). keeps_header h (children s.floor.headers id) r.kind) rs) ready.keep).0

  keep-rest : list_all (λ r. keeps_header h (children s.floor.headers id) r.kind) rs ≡ true
  keep-rest = (and_parts (keeps_header h (children s.floor.headers id) r.kind)
      (list_all (λ (r : Record). keeps_header h (children s.floor.headers id) r.kind) rs) ready.keep).1

  place-now : slice_index t.places.items id ≡ slice_index s.places.items id + 1
  place-now = ap (λ ps. slice_index ps id) a.places ∙ index-set s.places.items id (slice_index s.places.items id + 1) id-within

  state-after : IsState t
  state-after = record {
    contents = a.contents.is;
    headers = ap are_headers headers-same ∙ ready.is.headers;
    count = ap length a.places ∙ length-set s.places.items id (slice_index s.places.items id + 1) ∙ ready.is.count
        ∙ ap length (sym headers-same);
    closed = ap (λ (f : Floors). length f.closed) a.floor ∙ closed-length id r.kind s.floor ∙ ready.is.closed
        ∙ ap length (sym headers-same);
    small = subst (Each (λ p. p ≤ 2 ^ 20)) (sym a.places)
        (each-set (λ p. p ≤ 2 ^ 20) s.places.items id (slice_index s.places.items id + 1) (let x = ready.short in omega arith)
        ready.is.small);
    few = (let x = ap sum a.places in let y = sum-set s.places.items id (slice_index s.places.items id + 1) id-within in let z =
        few-of_header h (children s.floor.headers id) r.kind keep-first in let w = ready.is.few in let v = a.next in omega arith);
  }

  open-rest : has_closed t.floor id ≡ true → length rs ≡ 0
  open-rest e = ⊎_elim {C = length rs ≡ 0} split other (cases_Bool (is_split r.kind))
    where
      split : is_split r.kind ≡ true → length rs ≡ 0
      split q =
          let p = (and_parts (cond (is_split r.kind) (length rs == 0) true) (splits_end rs) ready.ends).0 in
          let n : (length rs == 0) ≡ true = ap (λ b. cond b (length rs == 0) true) (sym q) ∙ p in
          grind (arith, nat_tests)

      other : is_split r.kind ≡ false → length rs ≡ 0
      other q =
          let same : has_closed t.floor id ≡ has_closed s.floor id =
          ap (λ f. has_closed f id) a.floor ∙ ap (λ bs. slice_index_or bs id false) (closed-after id r.kind s.floor q) in
          let n = ready.open_still (sym same ∙ e) in
          omega arith

  pub ready-after : (HasRoom (r ∷ rs) s.contents → HasRoom rs t.contents) → Ready id h rs t
  ready-after room = record {
    is = state-after;
    header = ap (λ hs. slice_get hs id) headers-same ∙ ready.header;
    started = ap (λ f. has_started f id) a.floor ∙ started-after id r.kind s.floor ready.started;
    open_still = open-rest;
    keep = ap (λ hs. list_all (λ r. keeps_header h (children hs id) r.kind) rs) headers-same ∙ keep-rest;
    ends = (and_parts (cond (is_split r.kind) (length rs == 0) true) (splits_end rs) ready.ends).1;
    short = (let x = place-now in let y = ready.short in omega arith);
    room = room ready.room;
  }

-- the first of the records can be taken in
pub ready-first : (id : ℕ) (h : Header) (r : Record) (rs : List Record) (s : State) → Ready id h (r ∷ rs) s → Ready id h (r ∷ []) s
ready-first id h r rs s ready = record {
  is = ready.is;
  header = ready.header;
  started = ready.started;
  open_still = λ e. let n = ready.open_still e in omega arith;
  keep = ap (λ b. b && true)
      (and_parts (keeps_header h (children s.floor.headers id) r.kind)
      (list_all (λ (r : Record). keeps_header h (children s.floor.headers id) r.kind) rs) ready.keep).0;
  ends = elim (is_split r.kind) as (λ b. (cond b true true && true) ≡ true) [ true ↦ refl | false ↦ refl ];
  short = (let x = ready.short in omega arith);
  room = room-first r rs s.contents ready.room;
}

pub kept-first : (id : ℕ) (h : Header) (r : Record) (rs : List Record) (s : State) → Ready id h (r ∷ rs) s
    → keeps_header h (children s.floor.headers id) r.kind ≡ true
kept-first id h r rs s ready =
    (and_parts (keeps_header h (children s.floor.headers id) r.kind)
    (list_all (λ (r : Record). keeps_header h (children s.floor.headers id) r.kind) rs) ready.keep).0

pub place-within : (id : ℕ) (h : Header) (rs : List Record) (s : State) → Ready id h rs s → id < length s.places.items
place-within id h rs s ready = let x = header-within id h rs s ready in let y = ready.is.count in omega arith

-- ---- records one after another

pub drop-first : (rs : List Record) (i : ℕ) (r : Record) → i < length rs → r ≡ get_or rs i r → drop i rs ≡ r ∷ drop (i + 1) rs
drop-first rs i r h e = rw (add-one, drop-cons rs i r) (ap (λ q. q ∷ drop (suc i) rs) (sym e))

pub take-first : (rs : List Record) (i : ℕ) (r : Record) → i < length rs → r ≡ get_or rs i r → take (i + 1) rs ≡ take i rs ++ r ∷ []
take-first rs i r h e = take_more rs i r h ∙ ap (λ q. take i rs ++ q ∷ []) (sym e)

-- ---- room alone was made

pub alike-is : (c d : Contents) → Alike c d → IsContents c → IsContents d
alike-is c d a is = record {
  versions = subst (Each (λ v. has_key d v.key ≡ true)) (sym a.versions)
      (Each-weaker (λ v. has_key c v.key ≡ true) (λ v. has_key d v.key ≡ true) (λ v h. same v.key h) c.versions.items is.versions);
  held = subst (Each (λ w. has_key d w.key ≡ true)) (sym a.held)
      (Each-weaker (λ w. has_key c w.key ≡ true) (λ w. has_key d w.key ≡ true) (λ w h. same w.key h) c.held.held is.held);
  ordered = subst InOrder (sym a.versions) is.ordered;
  counted = subst (Each (λ v. v.place < d.next)) (sym a.versions)
      (subst (λ n. Each (λ v. v.place < n) c.versions.items) (sym a.next) is.counted);
}
  where
    same : (q : List ℕ) → has_key c q ≡ true → has_key d q ≡ true
    same q h = ap (λ lo. in_hashes lo d.hi q) a.range.0 ∙ ap (λ hi. in_hashes c.lo hi q) a.range.1 ∙ h

pub alike-state : (s : State) (d : Contents) → Alike s.contents d → IsState s → IsState (record s { contents = d })
alike-state s d a is = record {
  contents = alike-is s.contents d a is.contents;
  headers = is.headers;
  count = is.count;
  closed = is.closed;
  small = is.small;
  few = (let x = a.next in let y = ap length a.held in let z = is.few in omega arith);
}

tablet : ℕ → ℕ → List ℕ → Floors → List KeyVersion → List KeyWaiting → TargetTablet
tablet lo hi places floors versions held = record { lo = lo; hi = hi; places = places; floors = floors; versions = versions; held = held }

pub alike-seen : (s : State) (d : Contents) → Alike s.contents d → seen (record s { contents = d }) ≡ seen s
unfolding tablet
alike-seen s d a =
    ap (λ lo. tablet lo d.hi s.places.items s.floor (key_versions d.versions.items) d.held.held) a.range.0
    ∙ ap (λ hi. tablet s.contents.lo hi s.places.items s.floor (key_versions d.versions.items) d.held.held) a.range.1
    ∙ ap (λ vs. tablet s.contents.lo s.contents.hi s.places.items s.floor (key_versions vs) d.held.held) a.versions
    ∙ ap (λ hs. tablet s.contents.lo s.contents.hi s.places.items s.floor (key_versions s.contents.versions.items) hs) a.held

-- ---- a batch

all-drop : {X : Type 0} (p : X → Bool) (xs : List X) (n : ℕ) → list_all p xs ≡ true → list_all p (drop n xs) ≡ true
all-drop p xs zero e = e
all-drop p [] (suc n) e = e
all-drop p (x ∷ xs) (suc n) e = all-drop p xs n (and_parts (p x) (list_all p xs) e).1

ends-drop : (rs : List Record) (n : ℕ) → splits_end rs ≡ true → splits_end (drop n rs) ≡ true
ends-drop rs zero e = e
ends-drop [] (suc n) e = e
ends-drop (r ∷ rs) (suc n) e = ends-drop rs n (and_parts (cond (is_split r.kind) (length rs == 0) true) (splits_end rs) e).1

keep-all : (headers : List Header) (id : ℕ) (h : Header) (rs : List Record) → slice_get headers id ≡ Some h
    → records_keep headers id rs ≡ true → list_all (λ r. keeps_header h (children headers id) r.kind) rs ≡ true
keep-all headers id h rs e k =
    sym (ap (λ o. option_map_or (λ (h : Header). list_all (λ (r : Record). keeps_header h (children headers id) r.kind) rs) o false) e) ∙ k

small-all : (h : Header) (pair : Option (Header × Header)) (rs : List Record) → list_all (λ r. keeps_header h pair r.kind) rs ≡ true
    → list_all (λ r. nat_le (ops_in r.kind) 64) rs ≡ true
small-all h pair [] e = refl
small-all h pair (r ∷ rs) e =
    let p = and_parts (keeps_header h pair r.kind) (list_all (λ (r : Record). keeps_header h pair r.kind) rs) e in
    let few : ops_in r.kind ≤ 64 = few-of_header h pair r.kind p.0 in
    let one : nat_le (ops_in r.kind) 64 ≡ true = grind (arith, nat_tests) in
    ap (λ b. b && list_all (λ (r : Record). nat_le (ops_in r.kind) 64) rs) one ∙ small-all h pair rs p.1

module _ (id from : ℕ) (h : Header) (rs : List Record) (s : State) (is : IsState s) (can : CanTake id from rs (seen s))
    (header : slice_get s.floor.headers id ≡ Some h) where
  keep-past : list_all (λ r. keeps_header h (children s.floor.headers id) r.kind) (past (slice_index s.places.items id) from rs) ≡ true
  keep-past = all-drop (λ (r : Record). keeps_header h (children s.floor.headers id) r.kind) rs (slice_index s.places.items id + 1 - from)
      (keep-all s.floor.headers id h rs header can.keep)

  pub held-past : all_keep h (past (slice_index s.places.items id) from rs) ≡ true
  held-past = all-of_header h (children s.floor.headers id) (past (slice_index s.places.items id) from rs) keep-past

  pub small-past : list_all (λ r. nat_le (ops_in r.kind) 64) (past (slice_index s.places.items id) from rs) ≡ true
  small-past = small-all h (children s.floor.headers id) (past (slice_index s.places.items id) from rs) keep-past

  past-length : length (past (slice_index s.places.items id) from rs) ≡ length rs - (slice_index s.places.items id + 1 - from)
  past-length = length-drop (slice_index s.places.items id + 1 - from) rs

  pub few-past : length (past (slice_index s.places.items id) from rs) ≤ 2 ^ 20
  few-past = let a = past-length in let b = can.short in let c = can.next in let d = can.first in omega arith

  pub ready-past : (d : Contents) → Alike s.contents d → HasRoom (past (slice_index s.places.items id) from rs) d
      → Ready id h (past (slice_index s.places.items id) from rs) (record s { contents = d })
  ready-past d a room = record {
    is = alike-state s d a is;
    header = header;
    started = can.started;
    open_still = λ e. let n = can.closed e in let m = past-length in let b = can.first in let c = can.next in omega arith;
    keep = keep-past;
    ends = ends-drop rs (slice_index s.places.items id + 1 - from) can.ends;
    short = (let m = past-length in let a = can.short in let b = can.first in let c = can.next in let e = place-small in omega arith);
    room = room;
  }
    where
      place-small : slice_index s.places.items id ≤ 2 ^ 20
      place-small = each-index (λ p. p ≤ 2 ^ 20) (omega arith) s.places.items id is.small

pub past-is : (s : State) (id from : ℕ) (h : Header) (rs here : List Record) (place : ℕ) → IsState s
    → slice_get s.floor.headers id ≡ Some h → place ≡ get_or s.places.items id place → here ≡ past place from rs
    → here ≡ past (slice_index s.places.items id) from rs
past-is s id from h rs here place is header read e =
    e ∙ ap (λ p. past p from rs)
    (get_or_read s.places.items id place (let a = get-within s.floor.headers id h header in let b = is.count in omega arith) read 0)

-- ---- a new tablet

each-none : (n : ℕ) → Each (λ p. p ≤ 2 ^ 20) (replicate n 0)
each-none zero = tt
each-none (suc n) = (omega arith, each-none n)

pub new-state : (s : State) (headers : List Header) → are_headers headers ≡ true → s.floor ≡ new_floors headers
    → s.places.items ≡ replicate (length headers) 0 → IsContents s.contents → s.contents.next ≡ 0 → s.contents.held.held ≡ [] → IsState s
new-state s headers e floor places is next held = record {
  contents = is;
  headers = ap (λ (f : Floors). are_headers f.headers) floor ∙ e;
  count = ap length places ∙ length-replicate (length headers) 0 ∙ ap (λ (f : Floors). length f.headers) (sym floor);
  closed = ap (λ (f : Floors). length f.closed) floor ∙ length-replicate (length headers) false
      ∙ ap (λ (f : Floors). length f.headers) (sym floor);
  small = subst (Each (λ p. p ≤ 2 ^ 20)) (sym places) (each-none (length headers));
  few = (let x = ap length held in omega arith);
}
