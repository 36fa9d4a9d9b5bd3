-- The order of versions, and lists in that order.
use Rattle.std.proofs.Common.{◌≡◌, ℕ, ◌≤◌, true, List, [], ◌∷◌, ◌++◌, ap, sym, ◌∙◌, arith}
use Rattle.std.specs.Prelude.{bytes_eq}
use Rattle.std.specs.declared.cmp.Ordering.{Ordering}
use Rattle.std.specs.declared.cmp.Ordering.TheVariants.{Less, Equal}
use Rattle.std.specs.Ordering.{nat_cmp, ordering_then}
use Rattle.std.specs.Cmp.{IsTotalOrder}
use Rattle.std.specs.Cmp.Lexicographic.{slice_cmp}
use Rattle.std.proofs.lemmas.Cmp.{then_total, on_total, nat_list_cmp_total, nat_cmp_total, tied_itself}
use Rattle.std.proofs.lemmas.Slice.Eq.{bytes_eq-Decides}
use Rattle.std.proofs.lemmas.Bool.Decides.{nat_tests}
use Rattle.xc_record.proofs.ListLaws.{Each}
use Rattle.xc_versions.specs.declared.stored.StoredVersion.{StoredVersion}
use Rattle.xc_versions.specs.Stored.{stored_cmp, IsBefore, InOrder}

pub stored-total : IsTotalOrder stored_cmp
stored-total =
    then_total (on_total (λ (x : StoredVersion). x.key) nat_list_cmp_total)
    (then_total (on_total (λ (x : StoredVersion). x.commit) nat_cmp_total)
    (then_total (on_total (λ (x : StoredVersion). x.txn) nat_cmp_total) (on_total (λ (x : StoredVersion). x.place) nat_cmp_total)))

pub before-trans : (x y z : StoredVersion) → IsBefore x y → IsBefore y z → IsBefore x z
before-trans = stored-total.trans

-- ---- versions of one key

-- by commit, number and place
abbrev pub place_cmp : StoredVersion → StoredVersion → Ordering
place_cmp x y = ordering_then (nat_cmp x.commit y.commit) (ordering_then (nat_cmp x.txn y.txn) (nat_cmp x.place y.place))

pub keys-tie : (k q : List ℕ) → bytes_eq k q ≡ true → slice_cmp nat_cmp k q ≡ Equal
keys-tie k q e = let same : k ≡ q = (bytes_eq-Decides k q).0 e in ap (slice_cmp nat_cmp k) (sym same) ∙ tied_itself nat_list_cmp_total k

pub same-key : (x y : StoredVersion) → bytes_eq x.key y.key ≡ true → stored_cmp x y ≡ place_cmp x y
same-key x y e = ap (λ o. ordering_then o (place_cmp x y)) (keys-tie x.key y.key e)

pub commits-rise : (x y : StoredVersion) → bytes_eq x.key y.key ≡ true → IsBefore x y → x.commit ≤ y.commit
commits-rise x y e b = let p : place_cmp x y ≡ Less = sym (same-key x y e) ∙ b in grind (arith, nat_tests)

-- ---- parts of a list in order

pub in_order-left : (xs ys : List StoredVersion) → InOrder (xs ++ ys) → InOrder xs
in_order-left [] ys o = tt
in_order-left (x ∷ xs) ys o = (each-left (IsBefore x) xs ys o.0, in_order-left xs ys o.1)
  where
    each-left : (P : StoredVersion → Type 0) (xs ys : List StoredVersion) → Each P (xs ++ ys) → Each P xs
    each-left P [] ys h = tt
    each-left P (x ∷ xs) ys h = (h.0, each-left P xs ys h.1)

pub in_order-right : (xs ys : List StoredVersion) → InOrder (xs ++ ys) → InOrder ys
in_order-right [] ys o = o
in_order-right (x ∷ xs) ys o = in_order-right xs ys o.1
