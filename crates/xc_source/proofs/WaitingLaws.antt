-- What follows where something waits, and what is left of writes.
use Rattle.std.proofs.Common.{◌≡◌, ℕ, zero, suc, ◌+◌, ◌<◌, ◌≤◌, Bool, true, false, not, List, [], ◌∷◌, ◌++◌, length, get_or, arith}
use Rattle.std.proofs.Common.{refl, sym, ap, subst, ◌∙◌, map, filter, take, if◌then◌else◌}
use Rattle.xc_record.specs.Lists.{has}
use Rattle.xc_record.specs.declared.record.Header.{Header}
use Rattle.xc_source.specs.declared.transaction.Provisional.{Provisional}
use Rattle.xc_source.specs.Machine.{Transaction, begun}
use Rattle.xc_source.specs.Universe.{writes_in}
use Rattle.std.proofs.lemmas.List.Sums.{sum_by-set}
use Rattle.xc_source.specs.Waiting.{waits_on, is_waiting}
use Rattle.std.specs.List.{list_any}
use Rattle.std.proofs.Math.Bool.{true≢false}

pub some_waits : (header : Header) (ws : List Provisional) → list_any (is_waiting header) ws ≡ true → 0 < length ws
some_waits header [] h = absurd (true≢false (sym h))
some_waits header (w ∷ ws) h = omega arith

pub waits_on_wrote : (header : Header) (t : Transaction) → waits_on header t ≡ true → 0 < length t.writes
waits_on_wrote header t h = some_waits header t.writes h

-- no transaction has more writes than there are in all
pub writes-within : (ts : List Transaction) (i : ℕ) (t : Transaction) → i < length ts → t ≡ get_or ts i t → length t.writes ≤ writes_in ts
writes-within ts i t h e =
    let s = sum_by-set (λ (x : Transaction). length x.writes) ts i begun t h in
    let l : length t.writes ≡ length (get_or ts i t).writes = ap (λ (x : Transaction). length x.writes) e in
    omega (arith, s, l)

-- ---- what isn't rolled back

abbrev pub keeps : List ℕ → Provisional → Bool
keeps undone w = not (has w.sub undone)

kept-at : (undone : List ℕ) (ws : List Provisional) (i : ℕ) (w : Provisional) → i < length ws → w ≡ get_or ws i w
    → map (λ v. v.op) (filter (keeps undone) (take (suc i) ws))
    ≡ map (λ v. v.op) (filter (keeps undone) (take i ws)) ++ (if keeps undone w then w.op ∷ [] else [])
kept-at undone [] i w h e = absurd (omega arith)
kept-at undone (x ∷ xs) zero w h e = one (keeps undone x) ∙ ap (λ v. if keeps undone v then v.op ∷ [] else []) (sym e)
  where
    one : (b : Bool) → map {A = Provisional} (λ v. v.op) (if b then x ∷ [] else []) ≡ (if b then x.op ∷ [] else [])
    one true = refl
    one false = refl
kept-at undone (x ∷ xs) (suc i) w h e = more (keeps undone x) (filter (keeps undone) (take (suc i) xs)) (filter (keeps undone) (take i xs))
    (kept-at undone xs i w (omega arith) e)
  where
    more : (b : Bool) (us vs : List Provisional) → map (λ v. v.op) us ≡ map (λ v. v.op) vs ++ (if keeps undone w then w.op ∷ [] else [])
        → map (λ v. v.op) (if b then x ∷ us else us)
        ≡ map (λ v. v.op) (if b then x ∷ vs else vs) ++ (if keeps undone w then w.op ∷ [] else [])
    more true us vs q = ap (λ os. x.op ∷ os) q
    more false us vs q = q

-- one write more
pub kept-next : (undone : List ℕ) (ws : List Provisional) (i : ℕ) (w : Provisional) → i < length ws → w ≡ get_or ws i w
    → map (λ v. v.op) (filter (keeps undone) (take (i + 1) ws))
    ≡ map (λ v. v.op) (filter (keeps undone) (take i ws)) ++ (if keeps undone w then w.op ∷ [] else [])
kept-next undone ws i w h e =
    let j : suc i ≡ i + 1 = omega arith in
    subst (λ n. map (λ v. v.op) (filter (keeps undone) (take n ws))
    ≡ map (λ v. v.op) (filter (keeps undone) (take i ws)) ++ (if keeps undone w then w.op ∷ [] else [])) j (kept-at undone ws i w h e)
