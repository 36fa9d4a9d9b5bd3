-- The parts of valid logs, as a text gives them record by record.
use Rattle.std.proofs.Common.{◌≡◌, ℕ, zero, suc, ◌-◌, ◌<◌, ◌==◌, Bool, true, false, ◌&&◌, not, nat_le, nat_lt, List, [], ◌∷◌, ◌++◌, length}
use Rattle.std.proofs.Common.{Option, Some, None, is_some, slice_get, slice_set, if◌then◌else◌, refl, sym, ap, ◌∙◌, arith}
use Rattle.std.proofs.lemmas.Bool.{and_parts, or_parts, not-false}
use Rattle.std.proofs.lemmas.Bool.Decides.{nat_tests}
use Rattle.std.specs.List.{list_all, list_any}
use Rattle.std.specs.Option.{option_map_or}
use Rattle.xc_base.specs.Names.{is_key, is_value}
use Rattle.xc_record.specs.Hash.{hash_of, holds}
use Rattle.xc_record.specs.Order.{is_split}
use Rattle.xc_record.specs.Headers.{children}
use Rattle.xc_record.specs.Valid.{is_time, is_txn, op_fits, ops_fit, kind_fits, record_fits, ends_fit, tablet_fits, ops_in}
use Rattle.xc_record.specs.declared.record.Op.{Op}
use Rattle.xc_record.specs.declared.record.Kind.{Kind}
use Rattle.xc_record.specs.declared.record.Kind.TheVariants.{Write, Intent, Apply, Abort, Safe, Split}
use Rattle.xc_record.specs.declared.record.Record.{Record}
use Rattle.xc_record.specs.declared.record.Header.{Header}
use Rattle.xc_record.specs.declared.record.Tablet.{Tablet}
use Rattle.xc_text.specs.Lines.{op_is_named, kind_numbers_fit, kind_names_fit}
use Rattle.xc_text.specs.LogText.{in_range, is_split_off, is_orphaned}

-- ---- one record

abbrev pub has_ops : Kind → Bool
has_ops (Write ops) = nat_le 1 (length ops)
has_ops (Intent sub txn ops) = nat_le 1 (length ops)
has_ops _ = true

all_fit : (h : Header) (ops : List Op) → list_all op_is_named ops ≡ true → list_all (λ op. holds h (hash_of op.key)) ops ≡ true
    → list_all (op_fits h) ops ≡ true
all_fit h [] named held = refl
all_fit h (op ∷ ops) named held =
    let n = and_parts (op_is_named op) (list_all op_is_named ops) named in
    let m = and_parts (holds h (hash_of op.key)) (list_all (λ o. holds h (hash_of o.key)) ops) held in
    let k = and_parts (is_key op.key) (option_map_or is_value op.value true) n.0 in
    rw (k.0, k.1, m.0) (all_fit h ops n.1 m.1)

ops_ok : (h : Header) (ops : List Op) → nat_le 1 (length ops) ≡ true → nat_lt 64 (length ops) ≡ false → list_all op_is_named ops ≡ true
    → list_all (λ op. holds h (hash_of op.key)) ops ≡ true → ops_fit h ops ≡ true
ops_ok h ops some few named held =
    let few_enough : nat_le (length ops) 64 ≡ true = grind (arith, nat_tests) in rw (some, few_enough) (all_fit h ops named held)

pub kind_ok : (hs : List Header) (h : Header) (k : Kind) → has_ops k ≡ true → nat_lt 64 (ops_in k) ≡ false → kind_numbers_fit k ≡ true
    → kind_names_fit k ≡ true → in_range hs h k ≡ true → kind_fits h (children hs h.id) k ≡ true
kind_ok hs h (Write ops) some few numbers names range = ops_ok h ops some few names range
kind_ok hs h (Intent sub txn ops) some few numbers names range =
    let p = and_parts (is_txn txn) (nat_le sub 64) numbers in rw (p.0, p.1) (ops_ok h ops some few names range)
kind_ok hs h (Apply txn commit without) some few numbers names range = numbers
kind_ok hs h (Abort txn) some few numbers names range = numbers
kind_ok hs h (Safe value) some few numbers names range = numbers
kind_ok hs h (Split place left right) some few numbers names range = range

-- ---- the records of a tablet

-- no record but the last is a split
abbrev pub open_fit : List Record → Bool
open_fit [] = true
open_fit (r ∷ rs) = if is_split r.kind then length rs == 0 else open_fit rs

abbrev pub ends_split : List Record → Bool
ends_split [] = false
ends_split (r ∷ []) = is_split r.kind
ends_split (r ∷ (x ∷ xs)) = ends_split (x ∷ xs)

last_is : (rs : List Record) → option_map_or (λ r. is_split r.kind) (slice_get rs (length rs - 1)) false ≡ ends_split rs
last_is [] = refl
last_is (r ∷ []) = refl
last_is (r ∷ (x ∷ xs)) =
    let e : length (r ∷ x ∷ xs) - 1 ≡ suc (length xs) = omega arith in
    let f : length xs ≡ length (x ∷ xs) - 1 = omega arith in
    ap (λ i. option_map_or (λ q. is_split q.kind) (slice_get (r ∷ x ∷ xs) i) false) e
    ∙ ap (λ i. option_map_or (λ q. is_split q.kind) (slice_get (x ∷ xs) i) false) f ∙ last_is (x ∷ xs)

pub split_off_is : (t : Tablet) → is_split_off t ≡ ends_split t.records
split_off_is t = last_is t.records

open_cases : (r : Record) (rs : List Record) → open_fit (r ∷ rs) ≡ true → (b : Bool) → is_split r.kind ≡ b
    → (elim b as (λ c. Type 0) [ true ↦ rs ≡ [] | false ↦ open_fit rs ≡ true ])
open_cases r [] h true is = refl
open_cases r (x ∷ xs) h true is = let e : (length (x ∷ xs) == 0) ≡ true = rw is at h in absurd (grind (arith, nat_tests))
open_cases r rs h false is = rw is at h

pub open_push : (rs : List Record) (r : Record) → open_fit rs ≡ true → ends_split rs ≡ false → open_fit (rs ++ r ∷ []) ≡ true
open_push [] r h last = elim (is_split r.kind) as (λ b. (if b then true else true) ≡ true) [ true ↦ refl | false ↦ refl ]
open_push (q ∷ []) r h last = rw last (elim (is_split r.kind) as (λ b. (if b then true else true) ≡ true) [ true ↦ refl | false ↦ refl ])
open_push (q ∷ (x ∷ xs)) r h last = by (λ e. open_push (x ∷ xs) r e last) (is_split q.kind) refl
  where
    by : (open_fit (x ∷ xs) ≡ true → open_fit ((x ∷ xs) ++ r ∷ []) ≡ true) → (b : Bool) → is_split q.kind ≡ b
        → open_fit ((q ∷ x ∷ xs) ++ r ∷ []) ≡ true
    by more true is = let e = open_cases q (x ∷ xs) h true is in cc
    by more false is = let e = open_cases q (x ∷ xs) h false is in rw is (more e)

not_split : (h : Header) (time : ℕ) (k : Kind) → (is_time time && kind_fits h None k) ≡ true → is_split k ≡ false
not_split h time (Write ops) e = refl
not_split h time (Intent sub txn ops) e = refl
not_split h time (Apply txn commit without) e = refl
not_split h time (Abort txn) e = refl
not_split h time (Safe value) e = refl
not_split h time (Split place left right) e = let p = and_parts (is_time time) false e in cc

no_splits : (h : Header) (rs : List Record) → list_all (record_fits h None) rs ≡ true → ends_fit false rs ≡ true
no_splits h [] all = refl
no_splits h (r ∷ rs) all =
    let p = and_parts (record_fits h None r) (list_all (record_fits h None) rs) all in
    let no : is_split r.kind ≡ false = not_split h r.time r.kind p.0 in
    rw no (no_splits h rs p.1)

split_last : (rs : List Record) → open_fit rs ≡ true → ends_split rs ≡ true → ends_fit true rs ≡ true
split_last [] h last = cc
split_last (r ∷ []) h last = rw last refl
split_last (r ∷ (x ∷ xs)) h last = by (λ e. split_last (x ∷ xs) e last) (is_split r.kind) refl
  where
    by : (open_fit (x ∷ xs) ≡ true → ends_fit true (x ∷ xs) ≡ true) → (b : Bool) → is_split r.kind ≡ b → ends_fit true (r ∷ x ∷ xs) ≡ true
    by more true is = let e = open_cases r (x ∷ xs) h true is in cc
    by more false is = let e = open_cases r (x ∷ xs) h false is in rw is (more e)

ends_ok : (h : Header) (pair : Option (Header × Header)) (rs : List Record) → list_all (record_fits h pair) rs ≡ true → open_fit rs ≡ true
    → (is_some pair && not (ends_split rs)) ≡ false → ends_fit (is_some pair) rs ≡ true
ends_ok h None rs all open_ no_orphan = no_splits h rs all
ends_ok h (Some p) rs all open_ no_orphan = split_last rs open_ (not-false (ends_split rs) no_orphan)

-- what holds of a tablet while its records come
abbrev pub grows : List Header → Tablet → Bool
grows hs t = list_all (record_fits t.header (children hs t.header.id)) t.records && open_fit t.records

pub tablet_ok : (hs : List Header) (t : Tablet) → grows hs t ≡ true → is_orphaned hs t ≡ false → tablet_fits hs t ≡ true
tablet_ok hs t g o =
    let p = and_parts (list_all (record_fits t.header (children hs t.header.id)) t.records) (open_fit t.records) g in
    let n : (is_some (children hs t.header.id) && not (ends_split t.records)) ≡ false =
    ap (λ b. is_some (children hs t.header.id) && not b) (sym (split_off_is t)) ∙ o in
    rw p.0 (ends_ok t.header (children hs t.header.id) t.records p.0 p.1 n)

pub all_tablets_ok : (hs : List Header) (ts : List Tablet) → list_all (grows hs) ts ≡ true → list_any (is_orphaned hs) ts ≡ false
    → list_all (tablet_fits hs) ts ≡ true
all_tablets_ok hs [] g o = refl
all_tablets_ok hs (t ∷ ts) g o =
    let p = and_parts (grows hs t) (list_all (grows hs) ts) g in
    let q = or_parts (is_orphaned hs t) (list_any (is_orphaned hs) ts) o in
    rw (tablet_ok hs t p.0 q.0) (all_tablets_ok hs ts p.1 q.1)

-- ---- before the first record

abbrev pub is_bare : List Record → Bool
is_bare [] = true
is_bare (r ∷ rs) = false

bare_grows : (h : Header) (pair : Option (Header × Header)) (rs : List Record) → is_bare rs ≡ true
    → (list_all (record_fits h pair) rs && open_fit rs) ≡ true
bare_grows h pair [] b = refl
bare_grows h pair (r ∷ rs) b = cc

pub all_bare_grow : (hs : List Header) (ts : List Tablet) → list_all (λ t. is_bare t.records) ts ≡ true → list_all (grows hs) ts ≡ true
all_bare_grow hs [] b = refl
all_bare_grow hs (t ∷ ts) b =
    let p = and_parts (is_bare t.records) (list_all (λ u. is_bare u.records) ts) b in
    rw (bare_grows t.header (children hs t.header.id) t.records p.0) (all_bare_grow hs ts p.1)

-- ---- the tablet of a number

pub record Place (id : ℕ) (ts : List Tablet) : Type 0 where
  pub before : List Tablet
  pub here : Tablet
  pub after : List Tablet
  pub whole : ts ≡ before ++ here ∷ after
  pub got : slice_get ts id ≡ Some here
  pub put : (t : Tablet) → slice_set ts id t ≡ before ++ t ∷ after

pub place : (id : ℕ) (ts : List Tablet) → id < length ts → Place id ts
place id [] h = absurd (omega arith)
place zero (t ∷ ts) h = record { before = []; here = t; after = ts; whole = refl; got = refl; put = λ u. refl }
place (suc n) (t ∷ ts) h =
    let less : n < length ts = omega arith in
    let p = place n ts less in
    record {
      before = t ∷ p.before;
      here = p.here;
      after = p.after;
      whole = ap (λ us. t ∷ us) p.whole;
      got = p.got;
      put = λ u. ap (λ us. t ∷ us) (p.put u);
    }
