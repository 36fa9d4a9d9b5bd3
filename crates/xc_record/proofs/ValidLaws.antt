-- Laws of well-formed logs: what each accepted record keeps, which tablets may end in a split, and that no transaction has the number 0.
--     FitsTablet hs b      each accepted record of b fits b's header, among the headers hs
use Rattle.std.proofs.Common.{◌≡◌, ℕ, zero, suc, ◌<◌, true, false, cond, List, [], ◌∷◌, ◌++◌, Option, Some, None, refl, ap, sym, ◌∙◌, arith}
use Rattle.std.proofs.Common.{⊎_elim, zero-add}
use Rattle.std.proofs.lemmas.Bool.{and_parts, cases_Bool, true≢false}
use Rattle.std.proofs.lemmas.Bool.Decides.{nat_tests}
use Rattle.std.proofs.lemmas.Option.{none-some, slice_get-map}
use Rattle.std.proofs.lemmas.Slice.Eq.{bytes_eq-Decides}
use Rattle.std.specs.Prelude.{fold, is_none, bytes_eq, slice_get, option_map}
use Rattle.std.specs.List.{list_all}
use Rattle.xc_record.specs.declared.record.Header.{Header}
use Rattle.xc_record.specs.declared.record.Kind.{Kind}
use Rattle.xc_record.specs.declared.record.Kind.TheVariants.{Apply, Split}
use Rattle.xc_record.specs.declared.record.Op.{Op}
use Rattle.xc_record.specs.declared.record.Record.{Record}
use Rattle.xc_record.specs.declared.record.Tablet.{Tablet}
use Rattle.xc_record.specs.declared.record.Logs.{Logs}
use Rattle.xc_record.specs.Hash.{hash_of, holds}
use Rattle.xc_record.specs.Headers.{children, are_headers, headers_fit}
use Rattle.xc_record.specs.Order.{Progress, break_of, is_split, after, accepted_from}
use Rattle.xc_record.specs.Accepted.{AcceptedTablet, accepted_tablets, accepted_tablets_after, accepted_tablet_after, start_after}
use Rattle.xc_record.specs.Accepted.{reached_after, accepted_tablet}
use Rattle.xc_record.specs.Path.{puts}
use Rattle.xc_record.specs.Commits.{applies, commit_of}
use Rattle.xc_record.specs.Lists.{first_some, or_else}
use Rattle.xc_record.specs.Valid.{op_fits, ops_fit, kind_fits, record_fits, tablet_fits, headers_of, is_valid}
use Rattle.xc_record.proofs.ListLaws.{Each, Each-append, Each-weaker}
use Rattle.xc_record.proofs.AcceptedLaws.{headers-after}
use Rattle.xc_record.proofs.HeaderLaws.{Numbered-at, headers_fit-all}

abbrev pub FitsTablet : List Header → AcceptedTablet → Type 0
FitsTablet hs b = Each (λ r. kind_fits b.header (children hs b.header.id) r.kind ≡ true) b.records

pub valid-headers : (logs : Logs) → is_valid logs ≡ true → headers_fit (headers_of logs.tablets) ≡ true
unfolding is_valid are_headers
valid-headers logs v = (and_parts _ _ (and_parts _ _ v).0).1

-- ---- the numbers of the tablets

pub header-at : (logs : Logs) (i : ℕ) (b : AcceptedTablet) → accepted_tablet logs i ≡ Some b
    → slice_get (headers_of logs.tablets) i ≡ Some b.header
unfolding accepted_tablets
header-at logs i b at =
    ap (λ hs. slice_get hs i) (sym (headers-after [] logs.tablets))
    ∙ slice_get-map (λ (b : AcceptedTablet). b.header) (accepted_tablets_after [] logs.tablets) i
    ∙ ap (option_map (λ (b : AcceptedTablet). b.header)) at

-- a tablet's number is its place
pub number-is : (logs : Logs) (i : ℕ) (b : AcceptedTablet) → is_valid logs ≡ true → accepted_tablet logs i ≡ Some b → b.header.id ≡ i
number-is logs i b v at =
    Numbered-at 0 (headers_of logs.tablets) i b.header (headers_fit-all (headers_of logs.tablets) (valid-headers logs v)).1.numbered
    (header-at logs i b at) ∙ zero-add i

-- ---- each accepted record fits its tablet

kinds-fit : (t : Header) (pair : Option (Header × Header)) (o : Progress) (rs : List Record) → list_all (record_fits t pair) rs ≡ true
    → Each (λ r. kind_fits t pair r.kind ≡ true) (accepted_from o rs)
kinds-fit t pair o [] e = tt
kinds-fit t pair o (r ∷ rs) e =
    let parts = and_parts _ _ e in
    elim (is_none (break_of o r)) as (λ b. Each (λ r. kind_fits t pair r.kind ≡ true) (cond b (r ∷ accepted_from (after o r) rs) []))
    [ true ↦ ((and_parts _ _ parts.0).1, kinds-fit t pair (after o r) rs parts.1) | false ↦ tt ]

tablets-fit : (hs : List Header) (before : List AcceptedTablet) (ts : List Tablet) → list_all (tablet_fits hs) ts ≡ true
    → Each (FitsTablet hs) before → Each (FitsTablet hs) (accepted_tablets_after before ts)
tablets-fit hs before [] e f = f
tablets-fit hs before (t ∷ ts) e f =
    let parts = and_parts _ _ e in
    let start = start_after before t.header.parent in
    tablets-fit hs (before ++ accepted_tablet_after before t ∷ []) ts parts.1
    (Each-append (FitsTablet hs) before (accepted_tablet_after before t ∷ []) f (
      elim (reached_after before t.header.parent) as
          (λ b. Each (λ r. kind_fits t.header (children hs t.header.id) r.kind ≡ true) (cond b (accepted_from start t.records) []))
          [ true ↦ kinds-fit t.header (children hs t.header.id) start t.records (and_parts _ _ parts.0).0 | false ↦ tt ],
      tt,
    ))

pub accepted-fit : (logs : Logs) → is_valid logs ≡ true → Each (FitsTablet (headers_of logs.tablets)) (accepted_tablets logs)
unfolding is_valid accepted_tablets
accepted-fit logs v = tablets-fit (headers_of logs.tablets) [] logs.tablets (and_parts _ _ (and_parts _ _ v).1).0 tt

-- ---- one record

all-away : (k : List ℕ) (t : Header) (ops : List Op) → holds t (hash_of k) ≡ false → list_all (op_fits t) ops ≡ true → puts k ops ≡ []
all-away k t [] f e = refl
all-away k t (op ∷ ops) f e =
    let parts = and_parts _ _ e in
    ⊎_elim
    (λ same. absurd (true≢false (sym (and_parts _ _ (and_parts _ _ parts.0).1).1
    ∙ ap (λ q. holds t (hash_of q)) (sym ((bytes_eq-Decides k op.key).0 same)) ∙ f)))
    (λ other. ap (λ b. cond b (op.value ∷ puts k ops) (puts k ops)) other ∙ all-away k t ops f parts.1) (cases_Bool (bytes_eq k op.key))

-- the operations of a tablet that doesn't hold a key write nothing there
pub puts-away : (k : List ℕ) (t : Header) (ops : List Op) → holds t (hash_of k) ≡ false → ops_fit t ops ≡ true → puts k ops ≡ []
puts-away k t ops f e = all-away k t ops f (and_parts _ _ (and_parts _ _ e).1).1

split-pair : (t : Header) (pair : Option (Header × Header)) (kind : Kind) → is_split kind ≡ true → kind_fits t pair kind ≡ true
    → (p : Header × Header) × (pair ≡ Some p)
split-pair t None (Split at left right) s f = cc
split-pair t (Some p) (Split at left right) s f = (p, refl)
split-pair t pair _ s f = cc

-- only a tablet with children ends in a split
pub split-children : (t : Header) (pair : Option (Header × Header)) (o : Progress) (rs : List Record) → o.split ≡ false
    → Each (λ r. kind_fits t pair r.kind ≡ true) rs → (fold after o rs).split ≡ true → (p : Header × Header) × (pair ≡ Some p)
split-children t pair o [] n f s = absurd (true≢false (sym s ∙ n))
split-children t pair o (r ∷ rs) n f s =
    ⊎_elim (λ is. split-pair t pair r.kind is f.0)
    (λ other. split-children t pair (after o r) rs (ap (λ b. cond b true o.split) other ∙ n) f.1 s) (cases_Bool (is_split r.kind))

-- ---- numbers of transactions

zero-applies : (t : Header) (pair : Option (Header × Header)) (kind : Kind) → kind_fits t pair kind ≡ true → applies 0 kind ≡ None
zero-applies t pair (Apply zero commit without) f = cc
zero-applies t pair (Apply (suc n) commit without) f = grind (arith, nat_tests)
zero-applies t pair _ f = refl

first-none : {X Y : Type 0} (f : X → Option Y) (xs : List X) → Each (λ x. f x ≡ None) xs → first_some f xs ≡ None
first-none f [] h = refl
first-none f (x ∷ xs) h = ap (λ o. or_else o (first_some f xs)) h.0 ∙ first-none f xs h.1

-- a transaction with a commit has a number from 1 on
pub commit-number : (logs : Logs) (n c : ℕ) → is_valid logs ≡ true → commit_of logs n ≡ Some c → 0 < n
unfolding commit_of
commit-number logs zero c v e =
    let hs = headers_of logs.tablets in
    let none = first-none (λ (b : AcceptedTablet). first_some (λ r. applies 0 r.kind) b.records) (accepted_tablets logs)
    (Each-weaker (FitsTablet hs) (λ b. first_some (λ r. applies 0 r.kind) b.records ≡ None)
    (λ b f. first-none (λ (r : Record). applies 0 r.kind) b.records
    (Each-weaker (λ r. kind_fits b.header (children hs b.header.id) r.kind ≡ true) (λ r. applies 0 r.kind ≡ None)
    (λ r. zero-applies b.header (children hs b.header.id) r.kind) b.records f)) (accepted_tablets logs) (accepted-fit logs v)) in
    absurd (none-some c (sym none ∙ e))
commit-number logs (suc n) c v e = omega arith
