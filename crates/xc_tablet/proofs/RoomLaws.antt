-- The room that is left behind a record, and the keys of its operations.
use Rattle.std.proofs.Common.{◌≡◌, ℕ, ◌+◌, ◌≤◌, Bool, true, false, cond, List, [], ◌∷◌, length, map, Option, refl, ap, sym, ◌∙◌, arith}
use Rattle.std.proofs.Common.{⊎_elim, ◌||◌, ◌&&◌}
use Rattle.std.specs.Prelude.{bytes_eq, nat_le}
use Rattle.std.specs.List.{list_all}
use Rattle.std.proofs.lemmas.Bool.{cases_Bool, true≢false, and_parts}
use Rattle.std.proofs.lemmas.List.Sums.{sum_by-cons}
use Rattle.std.proofs.lemmas.Slice.Eq.{bytes_eq-Decides}
use Rattle.xc_record.specs.declared.record.Header.{Header}
use Rattle.xc_record.specs.declared.record.Kind.{Kind}
use Rattle.xc_record.specs.declared.record.Kind.TheVariants as kind
use Rattle.xc_record.specs.declared.record.Op.{Op}
use Rattle.xc_record.specs.declared.record.Record.{Record}
use Rattle.xc_record.specs.Hash.{hash_of, holds}
use Rattle.xc_record.specs.Path.{Event, Written, puts}
use Rattle.xc_record.specs.Kept.{steps}
use Rattle.xc_record.specs.Valid.{ops_keep, keeps_header}
use Rattle.xc_tablet.specs.declared.contents.Contents.{Contents}
use Rattle.xc_tablet.specs.Contents.{kept_in, Changes, all_held, keys_keep, all_keep}
use Rattle.xc_tablet.specs.Room.{Settles, HasRoom, puts_of, holds_of, is_apply, puts_in, holds_in, has_apply}

-- ---- keys that the header's tablet owns

puts-none : (h : Header) (k : List ℕ) (ops : List Op) → list_all (λ op. holds h (hash_of op.key)) ops ≡ true → holds h (hash_of k) ≡ false
    → puts k ops ≡ []
puts-none h k [] e out = refl
puts-none h k (op ∷ ops) e out =
    let p = and_parts (holds h (hash_of op.key)) (list_all (λ (o : Op). holds h (hash_of o.key)) ops) e in
    ap (λ b. cond b (op.value ∷ puts k ops) (puts k ops)) (swapped k op.key p.0 out) ∙ puts-none h k ops p.1 out
  where
    swapped : (k q : List ℕ) → holds h (hash_of q) ≡ true → holds h (hash_of k) ≡ false → bytes_eq k q ≡ false
    swapped k q i o =
        ⊎_elim {C = bytes_eq k q ≡ false} (λ t. absurd (true≢false (sym i
        ∙ ap (λ (z : List ℕ). holds h (hash_of z)) (sym ((bytes_eq-Decides k q).0 t)) ∙ o))) (λ f. f) (cases_Bool (bytes_eq k q))

pub owned : (e : Written → Event) (h : Header) (ops : List Op) (c d : Contents) → ops_keep h ops ≡ true
    → Changes (λ k x. steps (map e (puts k ops)) x) c d
    → Changes (λ k x. cond (holds h (hash_of k)) (steps (map e (puts k ops)) x) x) c d
owned e h ops c d keep ch = record {
  range = ch.range;
  keys = λ k i. ch.keys k i
      ∙ ⊎_elim {C = steps (map e (puts k ops)) (kept_in c k) ≡ cond (holds h (hash_of k)) (steps (map e (puts k ops)) (kept_in c k))
      (kept_in c k)}
      (λ t. ap (λ b. cond b (steps (map e (puts k ops)) (kept_in c k)) (kept_in c k)) (sym t))
      (λ f. ap (λ vs. steps (map e vs) (kept_in c k))
      (puts-none h k ops (and_parts (nat_le (length ops) 64) (list_all (λ (o : Op). holds h (hash_of o.key)) ops) keep).1 f)
      ∙ ap (λ b. cond b (steps (map e (puts k ops)) (kept_in c k)) (kept_in c k)) (sym f))
      (cases_Bool (holds h (hash_of k)));
  is = ch.is;
}

pub keys-of_header : (h : Header) (pair : Option (Header × Header)) (kind : Kind) → keeps_header h pair kind ≡ true
    → keys_keep h kind ≡ true
keys-of_header h pair (kind.Write ops) e = e
keys-of_header h pair (kind.Intent sub txn ops) e = e
keys-of_header h pair (kind.Apply txn commit without) e = refl
keys-of_header h pair (kind.Abort txn) e = refl
keys-of_header h pair (kind.Safe value) e = refl
keys-of_header h pair (kind.Split at left right) e = refl

-- the first of operations that are all held, and those behind it
pub all-next : (h : Header) (op : Op) (rest ops : List Op) → ops ≡ op ∷ rest → all_held h ops ≡ true
    → (holds h (hash_of op.key) ≡ true) × (all_held h rest ≡ true)
all-next h op rest ops e keep = and_parts (holds h (hash_of op.key)) (all_held h rest) (ap (all_held h) (sym e) ∙ keep)

pub all-of_header : (h : Header) (pair : Option (Header × Header)) (rs : List Record)
    → list_all (λ r. keeps_header h pair r.kind) rs ≡ true → all_keep h rs ≡ true
all-of_header h pair [] e = refl
all-of_header h pair (r ∷ rs) e =
    let p = and_parts (keeps_header h pair r.kind) (list_all (λ (q : Record). keeps_header h pair q.kind) rs) e in
    ap (λ b. b && all_keep h rs) (keys-of_header h pair r.kind p.0) ∙ all-of_header h pair rs p.1

-- ---- room

same-puts : (c d : Contents) (rs : List Record) → (d.lo ≡ c.lo) × (d.hi ≡ c.hi) → puts_in d.lo d.hi rs ≡ puts_in c.lo c.hi rs
same-puts c d rs r = ap (λ lo. puts_in lo d.hi rs) r.0 ∙ ap (λ hi. puts_in c.lo hi rs) r.1

same-holds : (c d : Contents) (rs : List Record) → (d.lo ≡ c.lo) × (d.hi ≡ c.hi) → holds_in d.lo d.hi rs ≡ holds_in c.lo c.hi rs
same-holds c d rs r = ap (λ lo. holds_in lo d.hi rs) r.0 ∙ ap (λ hi. holds_in c.lo hi rs) r.1

puts-more : (lo hi : ℕ) (r : Record) (rs : List Record) → puts_in lo hi (r ∷ rs) ≡ puts_of lo hi r.kind + puts_in lo hi rs
puts-more lo hi r rs = sum_by-cons (λ (q : Record). puts_of lo hi q.kind) r rs

holds-more : (lo hi : ℕ) (r : Record) (rs : List Record) → holds_in lo hi (r ∷ rs) ≡ holds_of lo hi r.kind + holds_in lo hi rs
holds-more lo hi r rs = sum_by-cons (λ (q : Record). holds_of lo hi q.kind) r rs

apply-more : (r : Record) (rs : List Record) → is_apply r.kind ≡ false → has_apply (r ∷ rs) ≡ has_apply rs
apply-more r rs e = ap (λ b. b || has_apply rs) e

-- behind a record that is no apply, which added so much at most, and left so many waiting
pub room-behind : (r : Record) (rs : List Record) (c d : Contents) → (d.lo ≡ c.lo) × (d.hi ≡ c.hi) → is_apply r.kind ≡ false
    → c.versions.spare ≤ d.versions.spare + puts_of c.lo c.hi r.kind → c.held.spare ≤ d.held.spare + holds_of c.lo c.hi r.kind
    → length d.held.held ≤ length c.held.held + holds_of c.lo c.hi r.kind
    → HasRoom (r ∷ rs) c → HasRoom rs d
room-behind r rs c d range none versions held waits room =
    let a = same-puts c d rs range in
    let b = same-holds c d rs range in
    let f = puts-more c.lo c.hi r rs in
    let g = holds-more c.lo c.hi r rs in
    record {
      holds = omega (arith, room.holds);
      puts = omega (arith, room.puts);
      applied = λ e. let h = room.applied (apply-more r rs none ∙ e) in omega arith;
    }

-- behind an apply
pub room-applied : (r : Record) (rs : List Record) (c d : Contents) → (d.lo ≡ c.lo) × (d.hi ≡ c.hi) → is_apply r.kind ≡ true → Settles c d
    → HasRoom (r ∷ rs) c → HasRoom rs d
room-applied r rs c d range is settles room =
    let a = same-puts c d rs range in
    let b = same-holds c d rs range in
    let f = puts-more c.lo c.hi r rs in
    let g = holds-more c.lo c.hi r rs in
    let h = room.applied (ap (λ b. b || has_apply rs) is) in
    record {
      holds = omega (arith, room.holds, settles.held);
      puts = omega (arith, settles.versions, settles.fewer);
      applied = λ e. omega (arith, settles.versions, settles.fewer);
    }

-- behind a record that left all as it was
pub room-passed : (r : Record) (rs : List Record) (c : Contents) → HasRoom (r ∷ rs) c → HasRoom rs c
room-passed r rs c room =
    let f = puts-more c.lo c.hi r rs in
    let g = holds-more c.lo c.hi r rs in
    record {
      holds = omega (arith, room.holds);
      puts = omega (arith, room.puts);
      applied = λ e. let h = room.applied (behind (is_apply r.kind) (has_apply rs) e) in omega arith;
    }
  where
    behind : (b d : Bool) → d ≡ true → (b || d) ≡ true
    behind true d e = refl
    behind false d e = e

-- room for the first of the records
pub room-first : (r : Record) (rs : List Record) (c : Contents) → HasRoom (r ∷ rs) c → HasRoom (r ∷ []) c
room-first r rs c room =
    let a = puts-more c.lo c.hi r rs in
    let b = puts-more c.lo c.hi r [] in
    let f = holds-more c.lo c.hi r rs in
    let g = holds-more c.lo c.hi r [] in
    record {
      holds = omega (arith, room.holds);
      puts = omega (arith, room.puts);
      applied = λ e. let h = room.applied (more (is_apply r.kind) (has_apply rs) e) in omega arith;
    }
  where
    more : (b d : Bool) → (b || false) ≡ true → (b || d) ≡ true
    more true d e = refl
    more false d e = absurd (true≢false (sym e))
