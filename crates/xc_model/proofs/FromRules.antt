-- What the rules on headers give for each hash: a root holds it, and a child of each tablet with children that holds it.
use Rattle.xc_model.proofs.Common.{◌≡◌, ℕ, ◌+◌, ◌<◌, ◌≤◌, true, cond, List, [], ◌∷◌, Option, Some, None, refl, arith, subst, inl, inr}
use Rattle.xc_model.proofs.Common.{⊎_elim, is_none, slice_get, map, cases_lt, nat_tests, ◌*◌, ◌%◌, Header, hash_of, hash_from, headers_fit}
use Rattle.xc_model.proofs.Common.{children, AcceptedTablet, Follows, roots-share-out, children-share-out, child-there, holds}
use Rattle.xc_record.specs.RangeLaws.{range, roots}
use Rattle.xc_model.{proofs.Parents.heads, proofs.Elements.exists-get, proofs.StableSort.Exists}

pub exists-heads : (P : Header → Type 0) (es : List AcceptedTablet) → Exists P (heads es) → Exists (λ e. P e.header) es
exists-heads P [] i = i
exists-heads P (e ∷ es) i = ⊎_elim (λ a. inl a) (λ r. inr (exists-heads P es r)) i

holds-within : (h : ℕ) (t : Header) → holds t h ≡ true → (t.lo ≤ h) × (h ≤ t.hi)
holds-within h t o = (grind (arith, nat_tests), grind (arith, nat_tests))

holds-from : (h : ℕ) (t : Header) → t.lo ≤ h → h ≤ t.hi → holds t h ≡ true
holds-from h t a b = grind (arith, nat_tests)

-- ---- each hash has a root

abbrev pub RootOf : ℕ → Header → Type 0
RootOf h d = (d.parent ≡ None) × (holds d h ≡ true)

-- of ranges that follow one another, one holds each hash between
follows-cover : (lo end h : ℕ) (rs : List (ℕ × ℕ)) → Follows lo end rs → lo ≤ h → h < end → Exists (λ r. (r.0 ≤ h) × (h ≤ r.1)) rs
follows-cover lo end h [] f a b = absurd (omega arith)
follows-cover lo end h (r ∷ rs) f a b = let first : r.0 ≡ lo = f.0 in
    ⊎_elim (λ above. inr (follows-cover (r.1 + 1) end h rs f.1.1 (omega arith) b)) (λ within. inl (omega arith, within)) (cases_lt r.1 h)

root-of : (h : ℕ) (hs : List Header) → Exists (λ r. (r.0 ≤ h) × (h ≤ r.1)) (map range (roots hs)) → Exists (RootOf h) hs
root-of h [] i = absurd i
root-of h (t ∷ hs) i = go t.parent refl i (λ deep. root-of h hs deep)
  where
    go : (q : Option ℕ) → t.parent ≡ q → Exists (λ r. (r.0 ≤ h) × (h ≤ r.1)) (map range (cond (is_none t.parent) (t ∷ roots hs) (roots hs)))
        → (Exists (λ r. (r.0 ≤ h) × (h ≤ r.1)) (map range (roots hs)) → Exists (RootOf h) hs) → Exists (RootOf h) (t ∷ hs)
    go None e j more = ⊎_elim (λ w. inl (e, holds-from h t w.0 w.1)) (λ deep. inr (more deep))
        (subst (λ (q : Option ℕ). Exists (λ r. (r.0 ≤ h) × (h ≤ r.1)) (map range (cond (is_none q) (t ∷ roots hs) (roots hs)))) e j)
    go (Some p) e j more =
        inr (more (subst (λ (q : Option ℕ). Exists (λ r. (r.0 ≤ h) × (h ≤ r.1)) (map range (cond (is_none q) (t ∷ roots hs) (roots hs)))) e
        j))

pub roots-cover : (h : ℕ) (hs : List Header) → headers_fit hs ≡ true → h < 65536 → Exists (RootOf h) hs
roots-cover h hs e b = root-of h hs (follows-cover 0 65536 h (map range (roots hs)) (roots-share-out hs e) (omega arith) b)

hash-from-below : (h : ℕ) (k : List ℕ) → h < 65536 → hash_from h k < 65536
hash-from-below h [] b = b
hash-from-below h (byte ∷ k) b = hash-from-below ((31 * h + byte) % 65536) k (omega arith)

pub hash-below : (k : List ℕ) → hash_of k < 65536
unfolding hash_of
hash-below k = hash-from-below 0 k (omega arith)

-- ---- the children of a tablet share its hashes

pub child-cover : (hs : List Header) (t l r : Header) (h : ℕ) → headers_fit hs ≡ true → slice_get hs t.id ≡ Some t
    → children hs t.id ≡ Some (l, r) → holds t h ≡ true → Exists (λ d. (d.parent ≡ Some t.id) × (holds d h ≡ true)) hs
child-cover hs t l r h e at is o = let w = holds-within h t o in let share = children-share-out hs t.id t l r e at is in
    let left-lo : l.lo ≡ t.lo = share.0 in
    let right-lo : r.lo ≡ l.hi + 1 = share.1.1.0 in
    let right-hi : r.hi + 1 ≡ t.hi + 1 = share.1.1.1.1 in
    ⊎_elim (λ k. one 1 r refl (holds-from h r (omega arith) (omega arith))) (λ k. one 0 l refl (holds-from h l (omega arith) k)) (cases_lt
    l.hi h)
  where
    one : (j : ℕ) (d : Header) → slice_get (l ∷ r ∷ []) j ≡ Some d → holds d h ≡ true
        → Exists (λ d. (d.parent ≡ Some t.id) × (holds d h ≡ true)) hs
    one j d g held = let f = child-there hs t.id l r e is j d g in
        exists-get (λ d. (d.parent ≡ Some t.id) × (holds d h ≡ true)) hs f.0 d f.1.0 (f.1.1, held)
