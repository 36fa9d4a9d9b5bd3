-- How the number of records grows.
use Rattle.std.proofs.Common.{◌≡◌, ℕ, ◌+◌, ◌<◌, ◌≤◌, slice_set, Option, None, Bool, true, ◌&&◌, nat_le, is_none, length-set, List, [], ◌∷◌}
use Rattle.std.proofs.Common.{◌++◌, Some, map, length, get_or, refl, arith, length-append, ◌∙◌, ap, ◌⊎◌, inl, inr}
use Rattle.std.specs.Option.{option_map_or}
use Rattle.std.specs.List.{slice_get, list_all}
use Rattle.std.proofs.lemmas.Option.{slice_get-get_or, slice_get_past}
use Rattle.std.proofs.lemmas.Bool.{cases_lt}
use Rattle.std.proofs.lemmas.List.Sums.{sum_by-set, sum_by-append}
use Rattle.xc_record.specs.declared.record.Header.{Header}
use Rattle.xc_record.specs.declared.record.Tablet.{Tablet}
use Rattle.xc_record.specs.declared.record.Record.{Record}
use Rattle.xc_record.specs.Grown.{with_record, grown}
use Rattle.xc_source.specs.Machine.{records_in, empty_tablet, are_roots}
use Rattle.xc_record.specs.Headers.{are_headers, headers_fit}
use Rattle.xc_source.specs.Universe.{split_tablets}

pub records_in-new : (hs : List Header) → records_in (map empty_tablet hs) ≡ 0
records_in-new [] = refl
records_in-new (h ∷ hs) = records_in-new hs

pub records_in-with_record : (id : ℕ) (r : Record) (ts : List Tablet) → id < length ts
    → records_in (with_record id r ts) ≡ records_in ts + 1
records_in-with_record id r [] h = absurd (omega arith)
records_in-with_record id r (t ∷ ts) h =
    let x = get_or (t ∷ ts) id t in
    let e : slice_get (t ∷ ts) id ≡ Some x = slice_get-get_or (t ∷ ts) id t h in
    let g : length (x.records ++ r ∷ []) ≡ length x.records + 1 = length-append x.records (r ∷ []) in
    let s = sum_by-set (λ (b : Tablet). length b.records) (t ∷ ts) id (grown x r) t h in
    rw e (omega (arith, s, g))

pub records_in-append : (ts : List Tablet) (a b : Header) → records_in (ts ++ empty_tablet a ∷ empty_tablet b ∷ []) ≡ records_in ts
records_in-append ts a b =
    let s = sum_by-append (λ (t : Tablet). length t.records) ts (empty_tablet a ∷ empty_tablet b ∷ []) in omega (arith, s)

pub records_in-split : (id : ℕ) (r : Record) (left right : Header) (ts : List Tablet) → id < length ts
    → records_in (split_tablets id r left right ts) ≡ records_in ts + 1
records_in-split id r left right ts h = records_in-append (with_record id r ts) left right ∙ records_in-with_record id r ts h

pub with_record-past : (id : ℕ) (r : Record) (ts : List Tablet) → length ts ≤ id → with_record id r ts ≡ ts
with_record-past id r ts h =
    let e : slice_get ts id ≡ None = slice_get_past ts id h in
    ap (λ o. option_map_or (λ t. slice_set ts id (grown t r)) o ts) e

grown_or : (id : ℕ) (r : Record) (ts : List Tablet) → ((id < length ts) ⊎ (length ts ≤ id))
    → records_in (with_record id r ts) ≤ records_in ts + 1
grown_or id r ts (inl h) = let e = records_in-with_record id r ts h in omega (arith, e)
grown_or id r ts (inr h) = let e = ap records_in (with_record-past id r ts h) in omega (arith, e)

pub records_in-grown : (id : ℕ) (r : Record) (ts : List Tablet) → records_in (with_record id r ts) ≤ records_in ts + 1
records_in-grown id r ts = grown_or id r ts (cases_lt id (length ts))

length-grown : (o : Option Tablet) (id : ℕ) (r : Record) (ts : List Tablet)
    → length (option_map_or (λ t. slice_set ts id (grown t r)) o ts) ≡ length ts
length-grown None id r ts = refl
length-grown (Some t) id r ts = length-set ts id (grown t r)

pub length-with_record : (id : ℕ) (r : Record) (ts : List Tablet) → length (with_record id r ts) ≡ length ts
length-with_record id r ts = length-grown (slice_get ts id) id r ts

pub length-split : (id : ℕ) (r : Record) (left right : Header) (ts : List Tablet)
    → length (split_tablets id r left right ts) ≡ length ts + 2
length-split id r left right ts =
    let a = length-append (with_record id r ts) (empty_tablet left ∷ empty_tablet right ∷ []) in
    let b = length-with_record id r ts in
    omega (arith, a, b)

few-if : (b c : Bool) (n : ℕ) → (b && (nat_le n 64 && c)) ≡ true → n ≤ 64
few-if b c n h = grind (arith, h)

pub roots_few : (hs : List Header) → are_roots hs ≡ true → length hs ≤ 64
unfolding are_headers
roots_few hs h = few-if (list_all (λ x. is_none x.parent) hs) (headers_fit hs) (length hs) h
