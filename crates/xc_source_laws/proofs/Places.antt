-- An open tablet is alone with its hashes, so a write waits at one place at most.
use Rattle.std.proofs.Common.{◌≡◌, ℕ, ◌≤◌, true, false, Bool, List, [], ◌∷◌, length, map, refl, sym, subst}
use Rattle.std.proofs.Common.{arith, inl, inr, ◌⊎◌}
use Rattle.std.specs.Prelude.{◌&&◌, ◌||◌, count_by}
use Rattle.std.specs.List.{list_any}
use Rattle.std.proofs.lemmas.Bool.{and_parts}
use Rattle.xc_record.specs.declared.record.Tablet.{Tablet}
use Rattle.xc_record.specs.Hash.{holds, hash_of}
use Rattle.xc_record.specs.Accepted.{AcceptedTablet}
use Rattle.xc_record.proofs.ListLaws.{Each}
use Rattle.xc_source.specs.declared.transaction.Provisional.{Provisional}
use Rattle.xc_source.specs.Machine.{Machine, Transaction, is_open}
use Rattle.xc_source.specs.Waiting.{is_waiting, tablets_of}
use Rattle.xc_source_laws.proofs.Grow.{tablet_of}
use Rattle.xc_source_laws.proofs.Books.{opens, Free, AllFree}
use Rattle.xc_source_laws.proofs.Keeps.{Kept}
use Rattle.xc_source_laws.proofs.Opened.{each-map}
use Rattle.xc_source_laws.proofs.Counts.{bit, bit-true, bit-false, count-cons, count-none, count-two, count-numbered}
use Rattle.xc_source_laws.proofs.Loads.{waits_in}

abbrev pub holds_open : ℕ → Tablet → Bool
holds_open h t = is_open t && holds t.header h

-- no hash is held by two open tablets
pub record Sole (ts : List Tablet) : Type 0 where
  pub one : (h : ℕ) → count_by (holds_open h) ts ≤ 1

free-one : (h : ℕ) (bs : List AcceptedTablet) → AllFree bs → count_by (holds_open h) (map tablet_of bs) ≤ 1
free-one h [] f = omega arith
free-one h (b ∷ bs) f =
    let a = count-cons (holds_open h) (tablet_of b) (map tablet_of bs) in
    elim (holds_open h (tablet_of b)) as (λ v. holds_open h (tablet_of b) ≡ v
    → count_by (holds_open h) (map tablet_of (b ∷ bs)) ≤ 1) [
      | true ↦ λ e.
          let p = and_parts (opens b) (holds b.header h) e in
          let c = count-none (holds_open h) (map tablet_of bs)
          (each-map (λ t. holds_open h t ≡ false) (Free b) tablet_of (λ d q. none (opens d) (holds d.header h) (q.0 h p.1)) bs (f.0 p.0)) in
          let d = bit-true (holds_open h (tablet_of b)) e in omega arith
      | false ↦ λ e.
          let c = free-one h bs f.1 in
          let d = bit-false (holds_open h (tablet_of b)) e in omega arith
    ] refl
  where
    none : (p q : Bool) → q ≡ false → (p && q) ≡ false
    none p q e = grind (arith, e)

pub sole : (m : Machine) → Kept (λ _ _. Unit {0}) m → Sole m.tablets
sole m k = record {
  one = λ h. subst (λ ts. count_by (holds_open h) ts ≤ 1) (sym k.base.shape) (free-one h k.books k.base.books.free);
}

-- ---- at how many tablets a transaction waits

abbrev waits_open : List Provisional → Tablet → Bool
waits_open ws t = is_open t && list_any (is_waiting t.header) ws

abbrev write_open : Provisional → Tablet → Bool
write_open w t = is_open t && is_waiting t.header w

none-waits : (ts : List Tablet) → Each (λ t. waits_open [] t ≡ false) ts
none-waits [] = tt
none-waits (t ∷ ts) = (none (is_open t), none-waits ts)
  where
    none : (p : Bool) → (p && false) ≡ false
    none true = refl
    none false = refl

-- where a write waits
write-places : (w : Provisional) (ts : List Tablet) → Sole ts → count_by (write_open w) ts ≤ bit w.waits
write-places w ts s = go w.waits refl
  where
    go : (b : Bool) → w.waits ≡ b → count_by (λ (t : Tablet). is_open t && (b && holds t.header (hash_of w.op.key))) ts ≤ bit b
    go true e = let a = s.one (hash_of w.op.key) in let c = bit-true true refl in omega arith
    go false e = let a = count-none (λ (t : Tablet). is_open t && (false && holds t.header (hash_of w.op.key))) ts (none ts) in omega arith
      where
        off : (p : Bool) → (p && false) ≡ false
        off true = refl
        off false = refl

        none : (ts : List Tablet) → Each (λ t. (is_open t && (false && holds t.header (hash_of w.op.key))) ≡ false) ts
        none [] = tt
        none (t ∷ ts) = (off (is_open t), none ts)

either : (p q r : Bool) → (p && (q || r)) ≡ true → ((p && q) ≡ true) ⊎ ((p && r) ≡ true)
either true true r e = inl refl
either true false r e = inr e
either false q r e = cc

writes-places : (ts : List Tablet) (ws : List Provisional) → Sole ts → count_by (waits_open ws) ts ≤ count_by (λ w. w.waits) ws
writes-places ts [] s = let a = count-none (waits_open []) ts (none-waits ts) in omega arith
writes-places ts (w ∷ ws) s =
    let a = count-two (waits_open (w ∷ ws)) (write_open w) (waits_open ws)
    (λ t e. either (is_open t) (is_waiting t.header w) (list_any (is_waiting t.header) ws) e) ts in
    let b = write-places w ts s in
    let c = writes-places ts ws s in
    let d = count-cons (λ (w : Provisional). w.waits) w ws in omega arith

pub places-few : (m : Machine) (t : Transaction) → Sole m.tablets → length (tablets_of m t) ≤ waits_in t
unfolding tablets_of
places-few m t s =
    let a = count-numbered (waits_open t.writes) 0 m.tablets in
    let b = writes-places m.tablets t.writes s in omega arith
