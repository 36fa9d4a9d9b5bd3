-- The logs of every list of source commands are valid.
use Rattle.std.proofs.Common.{◌≡◌, ℕ, suc, ◌^◌, ◌≤◌, true, false, List, [], ◌∷◌, ◌++◌, length, map}
use Rattle.std.proofs.Common.{None}
use Rattle.std.proofs.Common.{refl, ap, sym, ◌∙◌, subst, arith, append-nil, append_assoc}
use Rattle.std.specs.Prelude.{◌&&◌, ◌||◌, ◌==◌, is_none, nat_le, sum_by}
use Rattle.std.specs.List.{list_all, list_any}
use Rattle.std.specs.Option.{option_map_or}
use Rattle.std.proofs.lemmas.Bool.{and_parts, le-leb, leb-true}
use Rattle.std.proofs.lemmas.List.{length-map}
use Rattle.std.proofs.lemmas.List.Sums.{sum_by-cons}
use Rattle.xc_time.specs.Times.{last_time}
use Rattle.xc_record.specs.declared.record.Header.{Header}
use Rattle.xc_record.specs.declared.record.Record.{Record}
use Rattle.xc_record.specs.declared.record.Tablet.{Tablet}
use Rattle.xc_record.specs.declared.headers.Next.{Next}
use Rattle.xc_record.specs.declared.headers.Next.TheVariants.{RootAt}
use Rattle.xc_record.specs.Headers.{is_child_of, fits, next_after, may_end, fit_from, headers_fit, are_headers}
use Rattle.xc_record.specs.Valid.{tablet_fits, headers_of, ops_in, is_valid}
use Rattle.xc_record.specs.Accepted.{AcceptedTablet}
use Rattle.xc_record.proofs.ListLaws.{Each}
use Rattle.xc_model.proofs.Flat.{each-all}
use Rattle.xc_model.proofs.Parents.{heads}
use Rattle.xc_source.specs.Machine.{Machine, start, are_roots, empty_tablet, logs_of}
use Rattle.xc_source.specs.Commands.{run}
use Rattle.xc_source_laws.specs.Laws.{LogsAreValid}
use Rattle.xc_source_laws.proofs.Grow.{tablet_of}
use Rattle.xc_source_laws.proofs.Base.{IsMachine}
use Rattle.xc_source_laws.proofs.Opened.{each-map}
use Rattle.xc_source_laws.proofs.Steps.{run-keeps}
use Rattle.xc_source_laws.proofs.Start.{root_book, root_books, IsRoot, roots-fit, roots-each, heads-roots, base-start}
use Rattle.xc_source_laws.proofs.Fitting.{FitsOf, OpenSaid, TabletFits, IsSmall, from-parts}
use Rattle.xc_source_laws.proofs.FittingSplit.{no-children}
use Rattle.xc_source_laws.proofs.ValidSource.{IsValidSource, valid-closed}
use Rattle.xc_source_laws.proofs.Limits.{Limits, run-limits}

-- ---- at the start

-- what may stand after headers that fit
record Ends (before : List Header) (next : Next) (hs : List Header) : Type 0 where
  last : Next
  ends : may_end last ≡ true
  fit : (tail : List Header) → fit_from before next (hs ++ tail) ≡ fit_from (before ++ hs) last tail

ends-after : (before : List Header) (next : Next) (hs : List Header) → fit_from before next hs ≡ true → Ends before next hs
ends-after before next [] e = record {
  last = next;
  ends = e;
  fit = λ tail. ap (λ w. fit_from w next tail) (sym (append-nil before));
}
ends-after before next (h ∷ hs) e =
    let p = and_parts (fits before next h) (fit_from (before ++ h ∷ []) (next_after before next h h.parent) hs) e in
    let deep = ends-after (before ++ h ∷ []) (next_after before next h h.parent) hs p.1 in
    record {
      last = deep.last;
      ends = deep.ends;
      fit = λ tail.
          ap (λ b. b && fit_from (before ++ h ∷ []) (next_after before next h h.parent) (hs ++ tail)) p.0 ∙ deep.fit tail
          ∙ ap (λ w. fit_from w deep.last tail) (append_assoc before (h ∷ []) hs);
    }

no-child : (id : ℕ) (hs : List Header) → Each IsRoot hs → list_any (is_child_of id) hs ≡ false
no-child id [] r = refl
no-child id (h ∷ hs) r =
    ap (λ o. option_map_or (λ (parent : ℕ). parent == id) o false || list_any (is_child_of id) hs) r.0 ∙ no-child id hs r.1

fits-roots : (hs : List Header) (time : ℕ) → are_roots hs ≡ true → FitsOf time 0 (root_books hs)
unfolding headers_fit
fits-roots hs time e =
    let roots = roots-each hs e in
    let ends = ends-after [] (RootAt 0) hs (roots-fit hs e) in
    let same = sym (heads-roots hs) in
    record {
      next = ends.last;
      ends = ends.ends;
      fit = subst (λ w. (tail : List Header) → fit_from [] (RootAt 0) (w ++ tail) ≡ fit_from w ends.last tail) same ends.fit;
      paired = λ id n. subst (λ w. list_any (is_child_of id) w ≡ false) same (no-child id hs roots);
      parents = λ id n. subst (λ w. list_any (is_child_of id) w ≡ false) same (no-child id hs roots);
      said = subst (λ w. Each (OpenSaid w) (root_books hs)) same
          (each-map (OpenSaid hs) (λ h. Unit {0}) root_book (λ h u. ap is_none (sym (no-children hs h.id (no-child h.id hs roots)))) hs
          (each-all (λ h. Unit {0}) (λ h. tt) hs));
      each = λ l m. subst (λ w. Each (TabletFits w) (root_books hs)) same
          (each-map (TabletFits hs) (λ h. Unit {0}) root_book
          (λ h u. from-parts hs h [] None (no-children hs h.id (no-child h.id hs roots)) refl refl) hs
          (each-all (λ h. Unit {0}) (λ h. tt) hs));
      small = each-map IsSmall (λ h. Unit {0}) root_book (λ h u. tt) hs (each-all (λ h. Unit {0}) (λ h. tt) hs);
    }

empty-count : (hs : List Header) → sum_by (λ t. length t.records) (map empty_tablet hs) ≡ 0
empty-count [] = refl
empty-count (h ∷ hs) =
    let e = sum_by-cons (λ (t : Tablet). length t.records) (empty_tablet h) (map empty_tablet hs) in
    let q = empty-count hs in
    let z : length (empty_tablet h).records ≡ 0 = refl in omega arith

roots-few : (hs : List Header) → are_roots hs ≡ true → length hs ≤ 64
unfolding are_headers
roots-few hs e =
    leb-true _ _ (and_parts _ _ (and_parts (list_all (λ h. is_none h.parent) hs) (nat_le (length hs) 64 && headers_fit hs) e).1).0

start-limits : (hs : List Header) (time : ℕ) → are_roots hs ≡ true → time ≤ last_time → Limits (start hs time)
start-limits hs time e l = record {
  time = l;
  records = let q = empty-count hs in omega arith;
  tablets = let q = roots-few hs e in let z = length-map hs empty_tablet in omega arith;
  txns = omega arith;
}

-- ---- well-formed logs

headers-tablets : (bs : List AcceptedTablet) → headers_of (map tablet_of bs) ≡ heads bs
headers-tablets [] = refl
headers-tablets (b ∷ bs) = ap (λ w. b.header ∷ w) (headers-tablets bs)

all-fit : (hs : List Header) (bs : List AcceptedTablet) → Each (TabletFits hs) bs → list_all (tablet_fits hs) (map tablet_of bs) ≡ true
all-fit hs [] h = refl
all-fit hs (b ∷ bs) h = rw (h.0, all-fit hs bs h.1) refl

few-ops : (rs : List Record) → Each (λ r. ops_in r.kind ≤ 1) rs → sum_by (λ r. ops_in r.kind) rs ≤ length rs
few-ops [] h = omega arith
few-ops (r ∷ rs) h =
    let e = sum_by-cons (λ (r : Record). ops_in r.kind) r rs in
    let q = few-ops rs h.1 in
    let z = h.0 in
    let y : length (r ∷ rs) ≡ suc (length rs) = refl in omega arith

few-all : (bs : List AcceptedTablet) → Each IsSmall bs
    → sum_by (λ t. sum_by (λ r. ops_in r.kind) t.records) (map tablet_of bs) ≤ sum_by (λ t. length t.records) (map tablet_of bs)
few-all [] h = omega arith
few-all (b ∷ bs) h =
    let e = sum_by-cons (λ (t : Tablet). sum_by (λ r. ops_in r.kind) t.records) (tablet_of b) (map tablet_of bs) in
    let f = sum_by-cons (λ (t : Tablet). length t.records) (tablet_of b) (map tablet_of bs) in
    let q = few-all bs h.1 in
    let z = few-ops b.records h.0 in omega arith

valid-in : (m : Machine) (bs : List AcceptedTablet) → IsMachine m bs → IsValidSource m bs → Limits m → is_valid (logs_of m) ≡ true
unfolding is_valid headers_fit are_headers
valid-in m bs k v l =
    let fit : fit_from [] (RootAt 0) (heads bs) ≡ true =
    ap (fit_from [] (RootAt 0)) (sym (append-nil (heads bs))) ∙ v.fits.fit [] ∙ v.fits.ends in
    let few : nat_le (length (heads bs)) 64 ≡ true =
    le-leb _ _ (let a = l.tablets in let b = length-map bs (λ (w : AcceptedTablet). w.header) in let c = ap length k.shape in
    let d = length-map bs tablet_of in omega arith) in
    let all = all-fit (heads bs) bs (v.fits.each l.time l.txns) in
    let count : sum_by (λ t. length t.records) (map tablet_of bs) ≤ 2 ^ 20 =
    subst (λ ts. sum_by (λ (t : Tablet). length t.records) ts ≤ 2 ^ 20) k.shape l.records in
    let records : nat_le (sum_by (λ t. length t.records) (map tablet_of bs)) (2 ^ 20) ≡ true = le-leb _ _ count in
    let operations : nat_le (sum_by (λ t. sum_by (λ r. ops_in r.kind) t.records) (map tablet_of bs)) (2 ^ 22) ≡ true =
    le-leb _ _ (let a = few-all bs v.fits.small in omega arith) in
    ap (λ ts. is_valid (record { tablets = ts })) k.shape ∙ rw (headers-tablets bs, few, fit, all, records, operations) refl

pub logs-are-valid : LogsAreValid
logs-are-valid roots time commands r l f =
    let base = base-start roots time r in
    let k = run-keeps IsValidSource valid-closed commands (start roots time) f
    (record { books = root_books roots; base = base; holds_of = record { fits = fits-roots roots time r; subs = tt } }) in
    valid-in (run commands (start roots time)) k.books k.base k.holds_of
    (run-limits commands (start roots time) f (record { books = root_books roots; base = base; holds_of = tt })
    (start-limits roots time r l))
