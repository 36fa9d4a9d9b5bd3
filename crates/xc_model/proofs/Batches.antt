-- What a batch leaves of places and of closed source tablets, whatever logs there are.
use Rattle.xc_model.proofs.Common.{◌≡◌, ◌≢◌, ℕ, ◌+◌, ◌-◌, ◌<◌, Bool, true, false, ◌||◌, List, [], ◌∷◌, length, refl, ap, sym, ◌∙◌, subst}
use Rattle.xc_model.proofs.Common.{arith, slice_index, list_any, get_or-set_same, get_or-set_other, length-set, length-drop, drop_all, Kind}
use Rattle.xc_model.proofs.Common.{Record, is_split}
use Rattle.xc_record.specs.declared.record.Kind.TheVariants as kind
use Rattle.xc_model.{specs.Rows.range_of, specs.Laws.BatchesMovePlaces, specs.Laws.BatchesGrow}
use Rattle.xc_model.specs.Floors.{Floors, has_closed, floors_after}
use Rattle.xc_model.specs.Stands.{TargetTablet, TakesIn, TakesAll, past}

-- ---- what is kept of the source tablets, after one record

pub headers-kept : (s : ℕ) (k : Kind) (f : Floors) → (floors_after s k f).headers ≡ f.headers
headers-kept s (kind.Write ops) f = refl
headers-kept s _ f = refl

pub count-kept : (s : ℕ) (k : Kind) (f : Floors) → length (floors_after s k f).closed ≡ length f.closed
count-kept s (kind.Split at left right) f = length-set f.closed s true
count-kept s _ f = refl

pub others-kept : (s i : ℕ) (k : Kind) (f : Floors) → i ≢ s → has_closed (floors_after s k f) i ≡ has_closed f i
others-kept s i (kind.Split at left right) f n = get_or-set_other f.closed s i true false n
others-kept s i _ f n = refl

or-false : (b : Bool) → b ≡ (b || false)
or-false true = refl
or-false false = refl

or-true : (b : Bool) → true ≡ (b || true)
or-true true = refl
or-true false = refl

or-assoc : (a b c : Bool) → ((a || b) || c) ≡ (a || (b || c))
or-assoc true b c = refl
or-assoc false b c = refl

pub closed-by : (s : ℕ) (k : Kind) (f : Floors) → s < length f.closed → has_closed (floors_after s k f) s ≡ (has_closed f s || is_split k)
closed-by s (kind.Split at left right) f l = get_or-set_same f.closed s true false l ∙ or-true (has_closed f s)
closed-by s _ f l = or-false (has_closed f s)

-- ---- records one after another

pub record Moved (s : ℕ) (rs : List Record) (x y : TargetTablet) : Type 0 where
  pub range : range_of y ≡ range_of x
  pub headers : y.floors.headers ≡ x.floors.headers
  pub count : length y.places ≡ length x.places
  pub place : slice_index y.places s ≡ slice_index x.places s + length rs
  pub places : (i : ℕ) → i ≢ s → slice_index y.places i ≡ slice_index x.places i
  pub closed : (i : ℕ) → i ≢ s → has_closed y.floors i ≡ has_closed x.floors i
  pub splits : s < length x.floors.closed → has_closed y.floors s ≡ (has_closed x.floors s || list_any (λ r. is_split r.kind) rs)

moved-none : (s : ℕ) (x : TargetTablet) → Moved s [] x x
moved-none s x = record {
  range = refl;
  headers = refl;
  count = refl;
  place = omega arith;
  places = λ i n. refl;
  closed = λ i n. refl;
  splits = λ l. or-false (has_closed x.floors s);
}

same-range : (x y : TargetTablet) → y.lo ≡ x.lo → y.hi ≡ x.hi → range_of y ≡ range_of x
same-range x y l h = cc

moved-one : (s : ℕ) (r : Record) (rs : List Record) (x z y : TargetTablet) → s < length x.places → TakesIn s r x z → Moved s rs z y
    → Moved s (r ∷ rs) x y
moved-one s r rs x z y low t m = let more = slice_index x.places s + 1 in let at : slice_index z.places s ≡ slice_index x.places s + 1 =
    ap (λ w. slice_index w s) t.places ∙ get_or-set_same x.places s (slice_index x.places s + 1) 0 low in
    let l : length z.floors.closed ≡ length x.floors.closed =
    ap (λ (f : Floors). length f.closed) t.floors ∙ count-kept s r.kind x.floors in
    let p = m.place in
    record {
      range = m.range ∙ same-range x z t.range.0 t.range.1;
      headers = m.headers ∙ ap (λ (f : Floors). f.headers) t.floors ∙ headers-kept s r.kind x.floors;
      count = m.count ∙ ap length t.places ∙ length-set x.places s (slice_index x.places s + 1);
      place = omega arith;
      places = λ i n. m.places i n ∙ ap (λ w. slice_index w i) t.places ∙ get_or-set_other x.places s i (slice_index x.places s + 1) 0 n;
      closed = λ i n. m.closed i n ∙ ap (λ f. has_closed f i) t.floors ∙ others-kept s i r.kind x.floors n;
      splits = λ h. m.splits (omega arith)
          ∙ ap (λ b. b || list_any (λ r. is_split r.kind) rs) (ap (λ f. has_closed f s) t.floors ∙ closed-by s r.kind x.floors h)
          ∙ or-assoc (has_closed x.floors s) (is_split r.kind) (list_any (λ r. is_split r.kind) rs);
    }

all-moved : (s : ℕ) (rs : List Record) (x y : TargetTablet) → s < length x.places → TakesAll s rs x y → Moved s rs x y
all-moved s [] x y l t = subst (Moved s [] x) (sym t) (moved-none s x)
all-moved s (r ∷ rs) x y l t =
    let q : length t.0.places ≡ length x.places = ap length t.1.0.places ∙ length-set x.places s (slice_index x.places s + 1) in
    moved-one s r rs x t.0 y l t.1.0 (all-moved s rs t.0 y (omega arith) t.1.1)

pub batches-move : BatchesMovePlaces
batches-move s from rs x y one first low t = let more = past (slice_index x.places s) from rs in
    let m : Moved s (past (slice_index x.places s) from rs) x y = all-moved s more x y low t in
    let p = m.place in
    let n : length (past (slice_index x.places s) from rs) ≡ length rs - (slice_index x.places s + 1 - from) =
    length-drop (slice_index x.places s + 1 - from) rs in
    record {
      range = m.range;
      headers = m.headers;
      count = m.count;
      place = omega arith;
      places = m.places;
      closed = m.closed;
      splits = m.splits;
      through = λ h. subst (λ w. TakesAll s w x y) (drop_all (slice_index x.places s + 1 - from) rs (omega arith)) t;
    }

pub batches-grow : BatchesGrow
batches-grow s [] r x y z t one = (z, (subst (λ w. TakesIn s r w z) t one, refl))
batches-grow s (q ∷ rs) r x y z t one = (t.0, (t.1.0, batches-grow s rs r t.0 y z t.1.1 one))
