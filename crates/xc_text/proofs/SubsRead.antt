-- Numbers that rise, read one by one.
use Rattle.std.proofs.Common.{◌≡◌, ℕ, ◌<◌, ◌≤◌, Bool, true, false, ◌&&◌, ◌==◌, nat_le, nat_lt, List, [], ◌∷◌, ◌++◌, Option, Some, None, Ok}
use Rattle.std.proofs.Common.{Err, is_some, if◌then◌else◌, refl, sym, ap, subst, ◌∙◌, append_assoc, option_and_then, arith, inl, inr}
use Rattle.std.specs.List.{list_all}
use Rattle.std.specs.Option.{option_map}
use Rattle.std.specs.Str.{bytes_eq}
use Rattle.std.proofs.lemmas.Bool.{and_parts, and_from, ltb-true, leb-true, lt-ltb, le-leb, cases_lt, cases_eq, eq-eqb, ne_eqb}
use Rattle.std.proofs.lemmas.Bool.Decides.{nat_tests}
use Rattle.std.proofs.lemmas.List.{append-nil}
use Rattle.std.proofs.lemmas.List.Folds.{list_all-append}
use Rattle.std.proofs.lemmas.Slice.Eq.{bytes_eq-Decides}
use Rattle.xc_record.specs.Lists.{insert_number, distinct}
use Rattle.xc_record.specs.Subs.{are_subs}
use Rattle.xc_text.specs.declared.kind.LogKind.TheVariants.{Form, Number}
use Rattle.xc_text.specs.Lines.{number, all_numbers, numbers_of, subs_in}

-- ---- numbers that rise

-- each is above the one before, the first above `low`
abbrev pub rises : ℕ → List ℕ → Bool
rises low [] = true
rises low (n ∷ ns) = nat_lt low n && rises n ns

abbrev in_range : List ℕ → Bool
in_range ns = list_all (λ n. nat_le 1 n && nat_le n 64) ns

-- the first of rising numbers stays first
insert-first : (n : ℕ) (ns : List ℕ) → rises n ns ≡ true → insert_number n ns ≡ n ∷ ns
insert-first n [] h = refl
insert-first n (m ∷ ns) h =
    let p = and_parts (nat_lt n m) (rises m ns) h in
    grind (arith, nat_tests)

rises-distinct : (low : ℕ) (ns : List ℕ) → rises low ns ≡ true → distinct ns ≡ ns
rises-distinct low [] h = refl
rises-distinct low (n ∷ ns) h =
    let p = and_parts (nat_lt low n) (rises n ns) h in
    ap (insert_number n) (rises-distinct n ns p.1) ∙ insert-first n ns p.1

rises-insert : (low n : ℕ) (ns : List ℕ) → low < n → rises low ns ≡ true → rises low (insert_number n ns) ≡ true
rises-insert low n [] l h = let first : nat_lt low n ≡ true = lt-ltb low n l in rw first refl
rises-insert low n (m ∷ ns) l h =
    let p = and_parts (nat_lt low m) (rises m ns) h in
    let first : nat_lt low n ≡ true = lt-ltb low n l in
    elim (cases_lt n m) [
      | inl lt ↦ let here : nat_lt n m ≡ true = lt-ltb n m lt in rw (here, first, here) p.1
      | inr le ↦ elim (cases_eq n m) [
        | inl same ↦ rw (here_not n m le, eq-eqb n m same) h
        | inr ne ↦ rw (here_not n m le, ne_eqb n m ne, p.0) (rises-insert m n ns (omega arith) p.1)
      ]
    ]
  where
    here_not : (n m : ℕ) → m ≤ n → nat_lt n m ≡ false
    here_not n m le = grind (arith, nat_tests)

rises-all : (ns : List ℕ) → in_range ns ≡ true → rises 0 (distinct ns) ≡ true
rises-all [] h = refl
rises-all (n ∷ ns) h =
    let p = and_parts (nat_le 1 n && nat_le n 64) (in_range ns) h in
    let q = and_parts (nat_le 1 n) (nat_le n 64) p.0 in
    rises-insert 0 n (distinct ns) (leb-true 1 n q.0) (rises-all ns p.1)

-- what it is to be numbers of subtransactions
subs-parts : (ns : List ℕ) → are_subs ns ≡ true → (in_range ns ≡ true) × (rises 0 ns ≡ true)
subs-parts ns h =
    let p = and_parts (in_range ns) (bytes_eq (distinct ns) ns) h in
    (p.0, subst (λ xs. rises 0 xs ≡ true) ((bytes_eq-Decides (distinct ns) ns).0 p.1) (rises-all ns p.0))

parts-subs : (ns : List ℕ) → in_range ns ≡ true → rises 0 ns ≡ true → are_subs ns ≡ true
parts-subs ns a b = and_from _ _ a ((bytes_eq-Decides (distinct ns) ns).1 (rises-distinct 0 ns b))

-- ---- with one more

abbrev pub last_of : ℕ → List ℕ → ℕ
last_of low [] = low
last_of low (n ∷ ns) = last_of n ns

rises-append : (low : ℕ) (xs ys : List ℕ) → rises low (xs ++ ys) ≡ rises low xs && rises (last_of low xs) ys
rises-append low [] ys = refl
rises-append low (x ∷ xs) ys = let more = rises-append x xs ys in grind (arith, more)

last-of-push : (low : ℕ) (xs : List ℕ) (n : ℕ) → last_of low (xs ++ n ∷ []) ≡ n
last-of-push low [] n = refl
last-of-push low (x ∷ xs) n = last-of-push x xs n

last-above : (low : ℕ) (xs : List ℕ) → rises low xs ≡ true → low ≤ last_of low xs
last-above low [] h = omega arith
last-above low (x ∷ xs) h =
    let p = and_parts (nat_lt low x) (rises x xs) h in
    let a = ltb-true low x p.0 in let b = last-above x xs p.1 in omega arith

pub insert-last : (low n : ℕ) (xs : List ℕ) → rises low xs ≡ true → last_of low xs < n → insert_number n xs ≡ xs ++ n ∷ []
insert-last low n [] h l = refl
insert-last low n (x ∷ xs) h l =
    let p = and_parts (nat_lt low x) (rises x xs) h in
    let above = last-above x xs p.1 in
    let not_less : nat_lt n x ≡ false = grind (arith, nat_tests) in
    let not_same : n == x ≡ false = ne_eqb n x (λ e. omega arith) in
    rw (not_less, not_same) (ap (λ rest. x ∷ rest) (insert-last x n xs p.1 l))

-- the numbers so far, the last of them or 0, and those that are left
pub record Risen (seen : List ℕ) (last : ℕ) (left all : List (List ℕ)) : Type 0 where
  pub whole : all_numbers all ≡ option_map (λ ns. seen ++ ns) (all_numbers left)
  pub range : in_range seen ≡ true
  pub rise : rises 0 seen ≡ true
  pub last_is : last_of 0 seen ≡ last

with_none : (o : Option (List ℕ)) → o ≡ option_map (λ ns. [] ++ ns) o
with_none None = refl
with_none (Some ns) = refl

pub risen_none : (all : List (List ℕ)) → Risen [] 0 all all
risen_none all = record { whole = with_none (all_numbers all); range = refl; rise = refl; last_is = refl }

pub at_left : (seen : List ℕ) (last : ℕ) (left now all : List (List ℕ)) → Risen seen last left all → left ≡ now → Risen seen last now all
at_left seen last left now all h e = subst (λ words. Risen seen last words all) e h

with_more : (seen : List ℕ) (n : ℕ) (o : Option (List ℕ))
    → option_map (λ ns. seen ++ ns) (option_and_then (λ ns. Some (n ∷ ns)) o) ≡ option_map (λ ns. (seen ++ n ∷ []) ++ ns) o
with_more seen n None = refl
with_more seen n (Some ns) = ap Some (sym (append_assoc seen (n ∷ []) ns))

pub risen_more : (seen : List ℕ) (last n : ℕ) (w : List ℕ) (ws all : List (List ℕ)) → Risen seen last (w ∷ ws) all → number w ≡ Some n
    → last < n → n ≤ 64 → Risen (seen ++ n ∷ []) n ws all
risen_more seen last n w ws all h is above low =
    let last_is : last_of 0 seen ≡ last = h.last_is in
    record {
      whole = h.whole ∙ rw is (with_more seen n (all_numbers ws));
      range = list_all-append (λ n. nat_le 1 n && nat_le n 64) seen (n ∷ [])
          ∙ rw h.range (let one : nat_le 1 n ≡ true = le-leb 1 n (omega arith) in let most : nat_le n 64 ≡ true = le-leb n 64 low in rw
          (one, most) refl);
      rise = rises-append 0 seen (n ∷ []) ∙ rw (h.rise, last_is, lt-ltb last n above) refl;
      last_is = last-of-push 0 seen n;
    }

pub inserted : (seen : List ℕ) (last n : ℕ) (left all : List (List ℕ)) → Risen seen last left all → last < n
    → insert_number n seen ≡ seen ++ n ∷ []
inserted seen last n left all h above = let last_is : last_of 0 seen ≡ last = h.last_is in insert-last 0 n seen h.rise (omega arith)

-- ---- the answers

numbers_none : (all : List (List ℕ)) → all_numbers all ≡ None → numbers_of all ≡ None
numbers_none [] h = refl
numbers_none (w ∷ ws) h = h

numbers_some : (all : List (List ℕ)) (n : ℕ) (ns : List ℕ) → all_numbers all ≡ Some (n ∷ ns) → numbers_of all ≡ Some (n ∷ ns)
numbers_some [] n ns h = cc
numbers_some (w ∷ ws) n ns h = h

is_form : (all : List (List ℕ)) → all_numbers all ≡ None → subs_in all ≡ Err Form
unfolding subs_in
is_form all h = rw (numbers_none all h) refl

pub risen_form : (seen : List ℕ) (last : ℕ) (w : List ℕ) (ws all : List (List ℕ)) → Risen seen last (w ∷ ws) all → number w ≡ None
    → subs_in all ≡ Err Form
risen_form seen last w ws all h is = is_form all (h.whole ∙ rw is refl)

nonempty : (seen : List ℕ) (n : ℕ) (ns : List ℕ) → (first : ℕ) × (rest : List ℕ) × (seen ++ n ∷ ns ≡ first ∷ rest)
nonempty [] n ns = (n, ns, refl)
nonempty (x ∷ xs) n ns = (x, xs ++ n ∷ ns, refl)

-- a number that isn't above those before, or is too large
bad_number : (seen : List ℕ) (last n : ℕ) (ns : List ℕ) → last_of 0 seen ≡ last → (last < n → n ≤ 64 → ⊥)
    → are_subs (seen ++ n ∷ ns) ≡ true → ⊥
bad_number seen last n ns last_is bad fit =
    let p = subs-parts (seen ++ n ∷ ns) fit in
    let range = and_parts (in_range seen) (in_range (n ∷ ns)) (sym (list_all-append (λ n. nat_le 1 n && nat_le n 64) seen (n ∷ ns))
    ∙ p.0) in
    let here = and_parts (nat_le 1 n && nat_le n 64) (in_range ns) range.1 in
    let most = and_parts (nat_le 1 n) (nat_le n 64) here.0 in
    let rise = and_parts (rises 0 seen) (rises (last_of 0 seen) (n ∷ ns)) (sym (rises-append 0 seen (n ∷ ns)) ∙ p.1) in
    let above = and_parts (nat_lt (last_of 0 seen) n) (rises n ns) rise.1 in
    let higher : last_of 0 seen < n = ltb-true _ n above.0 in
    bad (omega arith) (leb-true n 64 most.1)

is_number : (all : List (List ℕ)) (seen : List ℕ) (n : ℕ) (ns : List ℕ) → all_numbers all ≡ Some (seen ++ n ∷ ns)
    → are_subs (seen ++ n ∷ ns) ≡ false → subs_in all ≡ Err Number
unfolding subs_in
is_number all seen n ns e bad =
    let parts = nonempty seen n ns in
    let some : numbers_of all ≡ Some (seen ++ n ∷ ns) = numbers_some all parts.0 parts.1 (e ∙ ap Some parts.2) ∙ ap Some (sym parts.2) in
    rw (some, bad) refl

not_so : (b : Bool) → (b ≡ true → ⊥) → b ≡ false
not_so true h = absurd (h refl)
not_so false h = refl

pub risen_misplaced : (seen : List ℕ) (last n : ℕ) (w : List ℕ) (ws all : List (List ℕ)) → Risen seen last (w ∷ ws) all → number w ≡ Some n
    → (last < n → n ≤ 64 → ⊥) → subs_in all ≡ Err (if is_some (all_numbers ws) then Number else Form)
risen_misplaced seen last n w ws all h is bad = by (all_numbers ws) refl
  where
    by : (o : Option (List ℕ)) → all_numbers ws ≡ o → subs_in all ≡ Err (if is_some (all_numbers ws) then Number else Form)
    by None left = rw left (is_form all (h.whole ∙ rw (is, left) refl))
    by (Some ns) left =
        rw left (is_number all seen n ns (h.whole ∙ rw (is, left) refl) (not_so _ (bad_number seen last n ns h.last_is bad)))

no_numbers : (all : List (List ℕ)) → all_numbers all ≡ Some [] → numbers_of all ≡ None
no_numbers [] h = refl
no_numbers (w ∷ ws) h = by (number w) (all_numbers ws) h
  where
    by : (o : Option ℕ) (p : Option (List ℕ)) → option_and_then (λ n. option_and_then (λ ns. Some (n ∷ ns)) p) o ≡ Some []
        → numbers_of (w ∷ ws) ≡ None
    by None p e = cc
    by (Some n) None e = cc
    by (Some n) (Some ns) e = cc

pub risen_all : (seen : List ℕ) (last : ℕ) (all : List (List ℕ)) → Risen seen last [] all → 0 < last → subs_in all ≡ Ok seen
unfolding subs_in
risen_all [] last all h some = let last_is : 0 ≡ last = h.last_is in absurd (omega arith)
risen_all (n ∷ ns) last all h some =
    let e : all_numbers all ≡ Some (n ∷ ns) = h.whole ∙ ap Some (append-nil (n ∷ ns)) in
    let is : numbers_of all ≡ Some (n ∷ ns) = numbers_some all n ns e in
    let fit : are_subs (n ∷ ns) ≡ true = parts-subs (n ∷ ns) h.range h.rise in
    rw (is, fit) refl

pub risen_empty : (seen : List ℕ) (last : ℕ) (all : List (List ℕ)) → Risen seen last [] all → last ≡ 0 → subs_in all ≡ Err Form
unfolding subs_in
risen_empty [] last all h none = rw (no_numbers all h.whole) refl
risen_empty (n ∷ ns) last all h none =
    let p = and_parts (nat_lt 0 n) (rises n ns) h.rise in
    let above = last-above n ns p.1 in
    let first : 0 < n = ltb-true 0 n p.0 in
    let last_is : last_of n ns ≡ last = h.last_is in
    absurd (omega arith)
