-- The rules that a record's line meets, and the ends of a text.
use Rattle.std.proofs.Common.{◌≡◌, ℕ, ◌+◌, ◌-◌, ◌≤◌, ◌==◌, Bool, true, false, ◌&&◌, not, nat_le, nat_lt, List, [], ◌∷◌, ◌++◌, length, map}
use Rattle.std.proofs.Common.{flat_map, Some, None, is_some, slice_get, if◌then◌else◌, refl, ap, ◌∙◌, codes, arith}
use Rattle.std.proofs.lemmas.Bool.{and_parts, eqb-true}
use Rattle.std.specs.List.{list_all, list_any}
use Rattle.xc_base.specs.Words.{split_on}
use Rattle.xc_record.specs.Order.{is_split}
use Rattle.xc_record.specs.Headers.{may_end, children}
use Rattle.xc_record.specs.Valid.{headers_of, record_fits, ends_fit, tablet_fits, ops_in}
use Rattle.xc_record.specs.declared.headers.Next.{Next}
use Rattle.xc_record.specs.declared.headers.Next.TheVariants.{RootAt}
use Rattle.xc_record.specs.declared.record.Logs.{Logs}
use Rattle.xc_record.specs.declared.record.Record.{Record}
use Rattle.xc_record.specs.declared.record.Header.{Header}
use Rattle.xc_record.specs.declared.record.Tablet.{Tablet}
use Rattle.xc_text.specs.declared.line.Version.{Version}
use Rattle.xc_text.specs.declared.line.Version.TheVariants.{One, Two}
use Rattle.xc_text.specs.declared.line.LogLine.TheVariants as line
use Rattle.xc_text.specs.declared.reading.Stage.{Stage}
use Rattle.xc_text.specs.declared.reading.Stage.TheVariants.{Ended}
use Rattle.xc_text.specs.Kinds.{first_kind}
use Rattle.xc_text.specs.Lines.{line_of}
use Rattle.xc_text.specs.LogText.{begun, is_inner, in_range, is_split_off, is_orphaned, kinds}
use Rattle.xc_text.specs.Printed.{header_text, first_line}
use Rattle.xc_text.proofs.StepLaws.{entry_in_place, end_in_place}
use Rattle.xc_text.proofs.ValidParts.{ends_split, split_off_is}
use Rattle.xc_text.proofs.ValidLaws.{bare}
use Rattle.xc_text.proofs.PrintedLines.{EntryFits}
use Rattle.xc_text.proofs.PrintedLaws.{Gives, back, step_is, at, at_headers}

pub entry_kinds : (v : Version) (stage : Stage) (ts : List Tablet) (next : Next) (records operations id : ℕ) (r : Record) (t : Tablet)
    → is_inner stage ≡ true → EntryFits v id r → may_end next ≡ true
    → nat_le (length ts) id ≡ false → slice_get ts id ≡ Some t → in_range (headers_of ts) t.header r.kind ≡ true → is_split_off t ≡ false
    → nat_lt 64 (ops_in r.kind) ≡ false → (records == 0) ≡ false → nat_lt operations (ops_in r.kind) ≡ false
    → first_kind (kinds (at v stage ts next records operations) (line.Entry id r)) ≡ None
entry_kinds v stage ts next records operations id r t i f m known got range last few room space =
    rw (entry_in_place stage id r i)
    (rw (f.tablet, f.time, f.numbers, f.names) (rw m (rw known (rw got (rw range (rw last (rw (few, room, space) refl)))))))

abbrev pub bares : List Tablet → List Tablet
bares ts = map (λ t. bare t.header) ts

-- ---- the last line

ends_in_split : (rs : List Record) → ends_fit true rs ≡ true → ends_split rs ≡ true
ends_in_split [] f = cc
ends_in_split (r ∷ []) f = by (is_split r.kind) f
  where
    by : (t : Bool) → (if t then true else false) ≡ true → t ≡ true
    by true g = refl
    by false g = g
ends_in_split (r ∷ (x ∷ xs)) f = by (λ g. ends_in_split (x ∷ xs) g) (is_split r.kind) f
  where
    by : (ends_fit true (x ∷ xs) ≡ true → ends_split (x ∷ xs) ≡ true) → (t : Bool)
        → (if t then (length (x ∷ xs) == 0) else ends_fit true (x ∷ xs)) ≡ true → ends_split (x ∷ xs) ≡ true
    by more true g = let e = eqb-true (length (x ∷ xs)) 0 g in absurd (omega arith)
    by more false g = more g

not_orphaned_by : (b : Bool) (rs : List Record) → ends_fit b rs ≡ true → (b && not (ends_split rs)) ≡ false
not_orphaned_by false rs f = refl
not_orphaned_by true rs f = rw (ends_in_split rs f) refl

not_orphaned : (hs : List Header) (t : Tablet) → tablet_fits hs t ≡ true → is_orphaned hs t ≡ false
not_orphaned hs t f =
    let g = and_parts (list_all (record_fits t.header (children hs t.header.id)) t.records)
    (ends_fit (is_some (children hs t.header.id)) t.records) f in
    ap (λ b. is_some (children hs t.header.id) && not b) (split_off_is t)
    ∙ not_orphaned_by (is_some (children hs t.header.id)) t.records g.1

pub none_orphaned : (hs : List Header) (ts : List Tablet) → list_all (tablet_fits hs) ts ≡ true → list_any (is_orphaned hs) ts ≡ false
none_orphaned hs [] f = refl
none_orphaned hs (t ∷ ts) f =
    let p = and_parts (tablet_fits hs t) (list_all (tablet_fits hs) ts) f in rw (not_orphaned hs t p.0) (none_orphaned hs ts p.1)

end_line : (v : Version) → line_of v (split_on 32 (codes "end")) ≡ Some line.End
unfolding line_of
end_line v = refl

end_kinds : (v : Version) (stage : Stage) (ts : List Tablet) (next : Next) (x y : ℕ) → is_inner stage ≡ true → may_end next ≡ true
    → list_any (is_orphaned (headers_of ts)) ts ≡ false → first_kind (kinds (at v stage ts next x y) line.End) ≡ None
end_kinds v stage ts next x y i m o = rw (end_in_place stage i) (rw m (rw o refl))

pub end_gives : (v : Version) (stage : Stage) (ts : List Tablet) (next : Next) (x y : ℕ) → is_inner stage ≡ true → may_end next ≡ true
    → list_any (is_orphaned (headers_of ts)) ts ≡ false → Gives (at v stage ts next x y) (codes "end\n") (record { tablets = ts })
end_gives v stage ts next x y i m o =
    back (at v stage ts next x y) (at v Ended ts next x y) (codes "end") [] (codes "end\n") (record { tablets = ts }) refl
    (step_is (at v stage ts next x y) (codes "end") line.End (end_line v) (end_kinds v stage ts next x y i m o)) (λ n. refl)

-- ---- the first line and the headers

first_is : line_of One (split_on 32 (codes "xclog 1")) ≡ Some (line.First One)
unfolding line_of
first_is = refl

second_is : line_of One (split_on 32 (codes "xclog 2")) ≡ Some (line.First Two)
unfolding line_of
second_is = refl

pub starts : (v : Version) (rest : List ℕ) (logs : Logs) → Gives (at_headers v [] (RootAt 0)) rest logs
    → Gives begun (first_line v ++ rest) logs
starts One rest logs g =
    back begun (at_headers One [] (RootAt 0)) (codes "xclog 1") rest (codes "xclog 1\n" ++ rest) logs refl
    (step_is begun (codes "xclog 1") (line.First One) first_is refl) g
starts Two rest logs g =
    back begun (at_headers Two [] (RootAt 0)) (codes "xclog 2") rest (codes "xclog 2\n" ++ rest) logs refl
    (step_is begun (codes "xclog 2") (line.First Two) second_is refl) g

pub headers_text : (ts : List Tablet) → flat_map (λ t. header_text t.header) ts ≡ flat_map header_text (headers_of ts)
headers_text [] = refl
headers_text (t ∷ ts) = ap (λ rest. header_text t.header ++ rest) (headers_text ts)

pub bares_are : (ts : List Tablet) → map bare (headers_of ts) ≡ bares ts
bares_are [] = refl
bares_are (t ∷ ts) = ap (λ rest. bare t.header ∷ rest) (bares_are ts)

pub rest_of : (a b : ℕ) → a ≤ b → b ≡ a + (b - a)
rest_of a b h = omega arith
