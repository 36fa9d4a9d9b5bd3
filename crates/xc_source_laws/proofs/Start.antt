-- A source as it starts has books, and so it has them after every list of commands.
use Rattle.std.proofs.Common.{◌≡◌, ℕ, ◌+◌, ◌<◌, ◌≤◌, true, List, [], ◌∷◌, ◌++◌, length, map, Option, Some, None}
use Rattle.std.proofs.Common.{refl, ap, sym, ◌∙◌, subst, arith, inl, inr, ⊎_elim}
use Rattle.std.specs.Prelude.{is_none}
use Rattle.std.specs.List.{list_all}
use Rattle.std.proofs.lemmas.Bool.Decides.{nat_tests}
use Rattle.std.proofs.lemmas.Bool.{and_parts, eqb-true, leb-true}
use Rattle.std.proofs.lemmas.List.{length_push}
use Rattle.xc_record.specs.declared.record.Header.{Header}
use Rattle.xc_record.specs.declared.headers.Next.TheVariants.{RootAt}
use Rattle.xc_record.specs.Headers.{are_headers, headers_fit, fit_from, fits, parent_fits, next_after}
use Rattle.xc_record.specs.Accepted.{AcceptedTablet, root_start}
use Rattle.xc_record.proofs.ListLaws.{Each, Each-weaker}
use Rattle.xc_record.proofs.HeaderLaws.{Numbered, headers_fit-all}
use Rattle.xc_model.proofs.StableSort.{Exists}
use Rattle.xc_model.proofs.Parents.{heads}
use Rattle.xc_model.proofs.FromRules.{RootOf, roots-cover}
use Rattle.xc_source.specs.Machine.{start, are_roots, empty_tablet}
use Rattle.xc_source_laws.proofs.Grow.{tablet_of, Stays, IsWhole}
use Rattle.xc_source_laws.proofs.Books.{Books, IsBook, AllFree, Free, HoldsOpen}
use Rattle.xc_source_laws.proofs.Base.{IsMachine}
use Rattle.xc_source_laws.proofs.Opened.{each-map}
use Rattle.xc_model.proofs.Flat.{each-all}

-- a root with no record yet
abbrev pub root_book : Header → AcceptedTablet
root_book h = record { header = h; reached = true; start = root_start; records = []; end = root_start }

abbrev pub root_books : List Header → List AcceptedTablet
root_books hs = map root_book hs

no-parent : (o : Option ℕ) → is_none o ≡ true → o ≡ None
no-parent None e = refl
no-parent (Some p) e = cc

abbrev pub IsRoot : Header → Type 0
IsRoot h = h.parent ≡ None

pub all-roots : (hs : List Header) → list_all (λ h. is_none h.parent) hs ≡ true → Each IsRoot hs
all-roots [] e = tt
all-roots (h ∷ hs) e = let p = and_parts _ _ e in (no-parent h.parent p.0, all-roots hs p.1)

whole-root : (before : List AcceptedTablet) (h : Header) → IsRoot h → IsWhole before (root_book h)
whole-root before h r = record {
  reached = refl;
  reaches = rw r refl;
  start = rw r refl;
  in_order = refl;
  end = refl;
}

stays-roots : (before : List AcceptedTablet) (hs : List Header) → Each IsRoot hs → Stays before (root_books hs)
stays-roots before [] r = tt
stays-roots before (h ∷ hs) r = (whole-root before h r.0, stays-roots (before ++ root_book h ∷ []) hs r.1)

pub heads-roots : (hs : List Header) → heads (root_books hs) ≡ hs
heads-roots [] = refl
heads-roots (h ∷ hs) = ap (λ w. h ∷ w) (heads-roots hs)

shape-roots : (hs : List Header) → map empty_tablet hs ≡ map tablet_of (root_books hs)
shape-roots [] = refl
shape-roots (h ∷ hs) = ap (λ w. empty_tablet h ∷ w) (shape-roots hs)

-- what stands at or after a hash, and at or after a number
record From (lo n : ℕ) (h : Header) : Type 0 where
  from : lo ≤ h.lo
  number : n ≤ h.id
  root : IsRoot h

-- a root that fits begins where the one before ends
root-next : (before : List Header) (lo : ℕ) (h : Header) → IsRoot h → fits before (RootAt lo) h ≡ true
    → (h.lo ≡ lo) × (h.lo ≤ h.hi) × (h.id ≡ length before) × (next_after before (RootAt lo) h h.parent ≡ RootAt (h.hi + 1))
root-next before lo h r e =
    let one = and_parts _ _ e in
    let two = and_parts _ _ one.1 in
    let three : parent_fits before (RootAt lo) h None ≡ true = subst (λ o. parent_fits before (RootAt lo) h o ≡ true) r two.1 in
    (eqb-true _ _ three, leb-true _ _ two.0, eqb-true _ _ one.0, ap (next_after before (RootAt lo) h) r)

roots-from : (before : List Header) (lo : ℕ) (hs : List Header) → Each IsRoot hs → fit_from before (RootAt lo) hs ≡ true
    → Each (From lo (length before)) hs
roots-from before lo [] r e = tt
roots-from before lo (h ∷ hs) r e =
    let p = and_parts _ _ e in
    let n = root-next before lo h r.0 p.0 in
    let rest = roots-from (before ++ h ∷ []) (h.hi + 1) hs r.1 (subst (λ w. fit_from (before ++ h ∷ []) w hs ≡ true) n.3 p.1) in (
      record { from = let z = n.0 in omega arith; number = let z = n.2 in omega arith; root = r.0 },
      Each-weaker (From (h.hi + 1) (length (before ++ h ∷ []))) (From lo (length before))
          (λ d f. record {
            from = let z = f.from in let y = n.0 in let x = n.1 in omega arith;
            number = let z = f.number in let y = length_push before h in omega arith;
            root = f.root;
          }) hs rest,
    )

root-free : (h : Header) (n : ℕ) → h.id < n → (d : Header) → From (h.hi + 1) n d → Free (root_book h) (root_book d)
root-free h n l d f = (
  (λ x e. let z = f.from in grind (arith, nat_tests, e)),
  (λ q. let z : None ≡ Some h.id = sym f.root ∙ q in cc),
  (λ q. let z = f.number in let y : ⊥ = omega arith in y),
)

free-roots : (before : List Header) (lo : ℕ) (hs : List Header) → Each IsRoot hs → fit_from before (RootAt lo) hs ≡ true
    → AllFree (root_books hs)
free-roots before lo [] r e = tt
free-roots before lo (h ∷ hs) r e =
    let p = and_parts _ _ e in
    let n = root-next before lo h r.0 p.0 in
    let fit = subst (λ w. fit_from (before ++ h ∷ []) w hs ≡ true) n.3 p.1 in
    let rest = roots-from (before ++ h ∷ []) (h.hi + 1) hs r.1 fit in (
      (λ o. each-map (Free (root_book h)) (From (h.hi + 1) (length (before ++ h ∷ []))) root_book
          (λ d f. root-free h (length (before ++ h ∷ [])) (let y = length_push before h in let x = n.2 in omega arith) d f) hs rest),
      free-roots (before ++ h ∷ []) (h.hi + 1) hs r.1 fit,
    )

exists-map : {A B : Type 0} (P : B → Type 0) (Q : A → Type 0) (f : A → B) → ((x : A) → Q x → P (f x)) → (xs : List A) → Exists Q xs
    → Exists P (map f xs)
exists-map P Q f g [] i = absurd i
exists-map P Q f g (x ∷ xs) i = ⊎_elim (λ a. inl (g x a)) (λ r. inr (exists-map P Q f g xs r)) i

pub roots-fit : (hs : List Header) → are_roots hs ≡ true → headers_fit hs ≡ true
unfolding are_headers
roots-fit hs e = (and_parts _ _ (and_parts _ _ e).1).1

pub roots-each : (hs : List Header) → are_roots hs ≡ true → Each IsRoot hs
roots-each hs e = all-roots hs (and_parts _ _ e).0

pub books-roots : (hs : List Header) (time : ℕ) → are_roots hs ≡ true → Books time (root_books hs)
unfolding headers_fit
books-roots hs time e =
    let fit = roots-fit hs e in
    let roots = roots-each hs e in
    record {
      stays = stays-roots [] hs roots;
      numbered = subst (Numbered 0) (sym (heads-roots hs)) (headers_fit-all hs fit).1.numbered;
      free = free-roots [] 0 hs roots fit;
      each = each-map (IsBook time) (λ h. Unit {0}) root_book
          (λ h u. record { last = omega arith; floor = omega arith; splits = refl; reached = refl }) hs
          (each-all (λ h. Unit {0}) (λ h. tt) hs);
      covers = λ h l. exists-map (HoldsOpen h) (RootOf h) root_book (λ d r. (refl, r.1)) hs (roots-cover h hs fit l);
    }

pub base-start : (hs : List Header) (time : ℕ) → are_roots hs ≡ true → IsMachine (start hs time) (root_books hs)
base-start hs time e = record { shape = shape-roots hs; books = books-roots hs time e; txns = tt }
