-- Laws of sorts by an order, in which elements that tie stay as they stood.
use Rattle.xc_model.proofs.Common.{◌≡◌, ℕ, ◌+◌, ◌≤◌, false, List, [], ◌∷◌, ◌++◌, refl, ap, ◌∙◌, arith, flat_map, Ordering, is_gt}
use Rattle.xc_model.proofs.Common.{AcceptedTablet, insert_by, sort_by, Numbered, Each-append, Each-weaker, ◌≢◌, ◌==◌, Bool, true, cond, sym}
use Rattle.xc_model.proofs.Common.{⊎_elim, filter, cases_Bool, cases_eq, eqb-true, eq-eqb, ne_eqb, put_after, Each-filter, has, ◌<◌, ◌||◌}
use Rattle.xc_model.proofs.Common.{false_from_ne_true}
use Rattle.std.proofs.lemmas.Bool.{or_parts}
use Rattle.xc_record.proofs.NumberLaws.{Rising}
use Rattle.xc_model.{proofs.Parents.heads, proofs.Elements.each-filtered}
use Rattle.xc_model.proofs.StableSort.{Each, Before, Orders, InOrder}

-- the two ways to put an element in don't disturb each other
pub put-both : {A : Type 0} (cmp : A → A → Ordering) (o : Orders cmp) (x y : A) (xs : List A)
    → insert_by cmp x (put_after cmp y xs) ≡ put_after cmp y (insert_by cmp x xs)
put-both cmp o x y [] = refl
put-both cmp o x y (z ∷ zs) = grind (
  arith,
  put-both cmp o x y zs,
  o.trans x z y,
  o.trans y z x,
  o.trans y x z,
  o.trans x y z,
  o.trans z x y,
  o.trans z y x,
  o.total y z,
  o.total z y,
  o.total x z,
  o.total z x,
)

-- one more at the end
pub sort-push : {A : Type 0} (cmp : A → A → Ordering) (o : Orders cmp) (xs : List A) (y : A)
    → sort_by cmp (xs ++ y ∷ []) ≡ put_after cmp y (sort_by cmp xs)
sort-push cmp o [] y = refl
sort-push cmp o (x ∷ xs) y = ap (insert_by cmp x) (sort-push cmp o xs y) ∙ put-both cmp o x y (sort_by cmp xs)

pub each-insert_by : {A : Type 0} (cmp : A → A → Ordering) (P : A → Type 0) (x : A) (xs : List A) → P x → Each P xs
    → Each P (insert_by cmp x xs)
each-insert_by cmp P x [] p h = (p, tt)
each-insert_by cmp P x (y ∷ ys) p h = elim (is_gt (cmp x y)) as (λ b. Each P (cond b (y ∷ insert_by cmp x ys) (x ∷ y ∷ ys)))
    [ true ↦ (h.0, each-insert_by cmp P x ys p h.1) | false ↦ (p, h) ]

pub each-sort : {A : Type 0} (cmp : A → A → Ordering) (P : A → Type 0) (xs : List A) → Each P xs → Each P (sort_by cmp xs)
each-sort cmp P [] h = tt
each-sort cmp P (x ∷ xs) h = each-insert_by cmp P x (sort_by cmp xs) h.0 (each-sort cmp P xs h.1)

pub insert_by-first : {A : Type 0} (cmp : A → A → Ordering) (x : A) (ys : List A) → Each (Before cmp x) ys → insert_by cmp x ys ≡ x ∷ ys
insert_by-first cmp x [] h = refl
insert_by-first cmp x (y ∷ ys) h = grind (arith, h.0)

pub in_order-insert : {A : Type 0} (cmp : A → A → Ordering) (o : Orders cmp) (x : A) (xs : List A) → InOrder cmp xs
    → InOrder cmp (insert_by cmp x xs)
in_order-insert cmp o x [] s = (tt, tt)
in_order-insert cmp o x (y ∷ ys) s =
    let at : (b : Bool) → is_gt (cmp x y) ≡ b → InOrder cmp (cond b (y ∷ insert_by cmp x ys) (x ∷ y ∷ ys)) =
    λ b. elim b as (λ b. is_gt (cmp x y) ≡ b → InOrder cmp (cond b (y ∷ insert_by cmp x ys) (x ∷ y ∷ ys))) [
      | true ↦ λ e. (each-insert_by cmp (Before cmp y) x ys (o.total x y e) s.0, in_order-insert cmp o x ys s.1)
      | false ↦ λ e. ((e, Each-weaker (Before cmp y) (Before cmp x) (λ z. o.trans x y z e) ys s.0), s)
    ]
    in at (is_gt (cmp x y)) refl

pub in_order-sort : {A : Type 0} (cmp : A → A → Ordering) (o : Orders cmp) (xs : List A) → InOrder cmp (sort_by cmp xs)
in_order-sort cmp o [] = tt
in_order-sort cmp o (x ∷ xs) = in_order-insert cmp o x (sort_by cmp xs) (in_order-sort cmp o xs)

pub sort-in_order : {A : Type 0} (cmp : A → A → Ordering) (xs : List A) → InOrder cmp xs → sort_by cmp xs ≡ xs
sort-in_order cmp [] s = refl
sort-in_order cmp (x ∷ xs) s = ap (insert_by cmp x) (sort-in_order cmp xs s.1) ∙ insert_by-first cmp x xs s.0

pub filter-insert_out : {A : Type 0} (cmp : A → A → Ordering) (p : A → Bool) (x : A) (xs : List A) → p x ≡ false
    → filter p (insert_by cmp x xs) ≡ filter p xs
filter-insert_out cmp p x [] e = grind arith
filter-insert_out cmp p x (y ∷ ys) e = grind (arith, filter-insert_out cmp p x ys e)

pub filter-insert_in : {A : Type 0} (cmp : A → A → Ordering) (o : Orders cmp) (p : A → Bool) (x : A) (xs : List A) → InOrder cmp xs
    → p x ≡ true → filter p (insert_by cmp x xs) ≡ insert_by cmp x (filter p xs)
filter-insert_in cmp o p x [] s e = grind arith
filter-insert_in cmp o p x (y ∷ ys) s e = ⊎_elim (λ t. grind (arith, filter-insert_in cmp o p x ys s.1 e))
    (λ f. let first : insert_by cmp x (filter p ys) ≡ x ∷ filter p ys = insert_by-first cmp x (filter p ys)
    (Each-filter (Before cmp x) p ys (Each-weaker (Before cmp y) (Before cmp x) (λ z. o.trans x y z f) ys s.0)) in grind
    arith) (cases_Bool (is_gt (cmp x y)))

-- a filter of what is sorted is what the filter leaves, sorted
pub filter-sort : {A : Type 0} (cmp : A → A → Ordering) (o : Orders cmp) (p : A → Bool) (xs : List A)
    → filter p (sort_by cmp xs) ≡ sort_by cmp (filter p xs)
filter-sort cmp o p [] = refl
filter-sort cmp o p (x ∷ xs) = let rest = filter-sort cmp o p xs in
    ⊎_elim (λ t. filter-insert_in cmp o p x (sort_by cmp xs) (in_order-sort cmp o xs) t ∙ ap (insert_by cmp x) rest
    ∙ ap (sort_by cmp) (let e : x ∷ filter p xs ≡ filter p (x ∷ xs) = grind arith in e))
    (λ f. filter-insert_out cmp p x (sort_by cmp xs) f ∙ rest
    ∙ ap (sort_by cmp) (let e : filter p xs ≡ filter p (x ∷ xs) = grind arith in e)) (cases_Bool (p x))

-- where nothing ties with x, the two ways to put it in are one
pub put-same : {A : Type 0} (cmp : A → A → Ordering) (o : Orders cmp) (x : A) (ys : List A)
    → Each (λ y. is_gt (cmp x y) ≡ false → is_gt (cmp y x) ≡ true) ys → insert_by cmp x ys ≡ put_after cmp x ys
put-same cmp o x [] h = refl
put-same cmp o x (y ∷ ys) h = grind (arith, h.0, o.total x y, put-same cmp o x ys h.1)

-- two elements that don't tie can be put in either way
pub put-swap : {A : Type 0} (cmp : A → A → Ordering) (o : Orders cmp) (x y : A) (xs : List A)
    → (is_gt (cmp x y) ≡ false → is_gt (cmp y x) ≡ true) → insert_by cmp x (insert_by cmp y xs) ≡ insert_by cmp y (insert_by cmp x xs)
put-swap cmp o x y [] h = grind (arith, h, o.total x y)
put-swap cmp o x y (z ∷ zs) h = grind (
  arith,
  h,
  put-swap cmp o x y zs h,
  o.trans x z y,
  o.trans y z x,
  o.trans y x z,
  o.trans x y z,
  o.total x y,
  o.total y x,
  o.total y z,
  o.total z y,
  o.total x z,
  o.total z x,
)

-- ---- sorts of blocks and of groups

-- puts a block in, its last element first
abbrev pub insert_all : {A : Type 0} → (A → A → Ordering) → List A → List A → List A
insert_all cmp [] ys = ys
insert_all cmp (x ∷ xs) ys = insert_by cmp x (insert_all cmp xs ys)

pub sort-append : {A : Type 0} (cmp : A → A → Ordering) (xs ys : List A) → sort_by cmp (xs ++ ys) ≡ insert_all cmp xs (sort_by cmp ys)
sort-append cmp [] ys = refl
sort-append cmp (x ∷ xs) ys = ap (insert_by cmp x) (sort-append cmp xs ys)

module _ {A B K : Type 0} (cmp : K → K → Ordering) (o : Orders cmp) (a_key : A → K) (b_key : B → K) (f : A → List B)
    (same : (a : A) → Each (λ b. b_key b ≡ a_key a) (f a)) where
  abbrev cmp_a : A → A → Ordering
  cmp_a x y = cmp (a_key x) (a_key y)

  abbrev cmp_b : B → B → Ordering
  cmp_b x y = cmp (b_key x) (b_key y)

  past-one : (k : K) (b : B) (cs rest : List B) → b_key b ≡ k → Each (λ c. is_gt (cmp k (b_key c)) ≡ true) cs
      → insert_by cmp_b b (cs ++ rest) ≡ cs ++ insert_by cmp_b b rest
  past-one k b [] rest e g = refl
  past-one k b (c ∷ cs) rest e g = let t : is_gt (cmp (b_key b) (b_key c)) ≡ true =
      ap (λ w. is_gt (cmp w (b_key c))) e ∙ g.0 in grind (arith, past-one k b cs rest e g.1)

  -- a block goes past what stands before it
  past-block : (k : K) (bs cs rest : List B) → Each (λ b. b_key b ≡ k) bs → Each (λ c. is_gt (cmp k (b_key c)) ≡ true) cs
      → insert_all cmp_b bs (cs ++ rest) ≡ cs ++ insert_all cmp_b bs rest
  past-block k [] cs rest h g = refl
  past-block k (b ∷ bs) cs rest h g =
      ap (insert_by cmp_b b) (past-block k bs cs rest h.1 g) ∙ past-one k b cs (insert_all cmp_b bs rest) h.0 g

  -- a block stands before what it may stand before
  block-first : (k : K) (bs rest : List B) → Before cmp k k → Each (λ b. b_key b ≡ k) bs → Each (λ c. Before cmp k (b_key c)) rest
      → insert_all cmp_b bs rest ≡ bs ++ rest
  block-first k [] rest r h g = refl
  block-first k (b ∷ bs) rest r h g = ap (insert_by cmp_b b) (block-first k bs rest r h.1 g) ∙ insert_by-first cmp_b b (bs ++ rest)
      (Each-append (Before cmp_b b) bs rest (Each-weaker (λ c. b_key c ≡ k) (Before cmp_b b) (λ c e. ap (λ w. is_gt (cmp w (b_key c))) h.0
      ∙ ap (λ w. is_gt (cmp k w)) e ∙ r) bs h.1)
      (Each-weaker (λ c. Before cmp k (b_key c)) (Before cmp_b b) (λ c e. ap (λ w. is_gt (cmp w (b_key c))) h.0 ∙ e) rest g))

  each-flat_map : (Q : A → Type 0) (P : B → Type 0) → ((a : A) (b : B) → Q a → b_key b ≡ a_key a → P b) → (xs : List A) → Each Q xs
      → Each P (flat_map f xs)
  each-flat_map Q P g [] h = tt
  each-flat_map Q P g (a ∷ rest) h =
      Each-append P (f a) (flat_map f rest) (Each-weaker (λ b. b_key b ≡ a_key a) P (λ b e. g a b h.0 e) (f a) (same a))
      (each-flat_map Q P g rest h.1)

  reflexive : (k : K) → Before cmp k k
  reflexive k = ⊎_elim (λ t. o.total k k t) (λ f. f) (cases_Bool (is_gt (cmp k k)))

  flat-insert : (x : A) (xs : List A) → InOrder cmp_a xs → flat_map f (insert_by cmp_a x xs) ≡ insert_all cmp_b (f x) (flat_map f xs)
  flat-insert x [] s = sym (block-first (a_key x) (f x) [] (reflexive (a_key x)) (same x) tt)
  flat-insert x (y ∷ ys) s = go (flat-insert x ys s.1) (is_gt (cmp_a x y)) refl
    where
      k : K
      k = a_key x

      go : flat_map f (insert_by cmp_a x ys) ≡ insert_all cmp_b (f x) (flat_map f ys) → (b : Bool) → is_gt (cmp_a x y) ≡ b
          → flat_map f (cond b (y ∷ insert_by cmp_a x ys) (x ∷ y ∷ ys)) ≡ insert_all cmp_b (f x) (f y ++ flat_map f ys)
      go ih true e = ap (λ w. f y ++ w) ih ∙ sym (past-block k (f x) (f y) (flat_map f ys) (same x)
          (Each-weaker (λ c. b_key c ≡ a_key y) (λ c. is_gt (cmp k (b_key c)) ≡ true) (λ c q. ap (λ w. is_gt (cmp k w)) q ∙ e) (f y)
          (same y)))
      go ih false e = sym (block-first k (f x) (flat_map f (y ∷ ys)) (reflexive k) (same x)
          (each-flat_map (Before cmp_a x) (λ c. Before cmp k (b_key c)) (λ a c h q. ap (λ w. is_gt (cmp k w)) q ∙ h) (y ∷ ys)
          (e, Each-weaker (Before cmp_a y) (Before cmp_a x) (λ z. o.trans k (a_key y) (a_key z) e) ys s.0)))

  -- the blocks of a sorted list, one after another, are the sorted elements of all blocks
  pub flat-sort : (oa : Orders cmp_a) (xs : List A) → flat_map f (sort_by cmp_a xs) ≡ sort_by cmp_b (flat_map f xs)
  flat-sort oa [] = refl
  flat-sort oa (x ∷ xs) = flat-insert x (sort_by cmp_a xs) (in_order-sort cmp_a oa xs) ∙ ap (insert_all cmp_b (f x)) (flat-sort oa xs)
      ∙ sym (sort-append cmp_b (f x) (flat_map f xs))

-- the elements with the first number, then those with the second, and so on
abbrev pub grouped : {A : Type 0} → (A → ℕ) → List ℕ → List A → List A
grouped number ns xs = flat_map (λ n. filter (λ y. n == number y) xs) ns

-- Groups: elements with different numbers never tie.
module _ {A : Type 0} (cmp : A → A → Ordering) (o : Orders cmp) (number : A → ℕ)
    (apart : (x y : A) → number x ≢ number y → is_gt (cmp x y) ≡ false → is_gt (cmp y x) ≡ true) where
  insert-past : (x : A) (fs zs : List A) → Each (λ y. number x ≢ number y) fs
      → insert_all cmp fs (insert_by cmp x zs) ≡ insert_by cmp x (insert_all cmp fs zs)
  insert-past x [] zs h = refl
  insert-past x (g ∷ fs) zs h =
      ap (insert_by cmp g) (insert-past x fs zs h.1) ∙ sym (put-swap cmp o x g (insert_all cmp fs zs) (apart x g h.0))

  not-in : (x : A) (ns : List ℕ) (xs : List A) → has (number x) ns ≡ false → grouped number ns (x ∷ xs) ≡ grouped number ns xs
  not-in x [] xs h = refl
  not-in x (n ∷ ns) xs h = let parts = or_parts (n == number x) (has (number x) ns) h in
      ap (λ b. cond b (x ∷ filter (λ y. n == number y) xs) (filter (λ y. n == number y) xs) ++ grouped number ns (x ∷ xs)) parts.0
      ∙ ap (λ w. filter (λ y. n == number y) xs ++ w) (not-in x ns xs parts.1)

  numbered : (n : ℕ) (x : A) (xs : List A) → n ≢ number x → Each (λ y. number x ≢ number y) (filter (λ y. n == number y) xs)
  numbered n x ys h = each-filtered (λ y. number x ≢ number y) (λ y. n == number y) ys (λ y e q. h (eqb-true n (number y) e ∙ sym q))

  group-insert : (x : A) (ns : List ℕ) (xs : List A) → Rising ns → has (number x) ns ≡ true
      → sort_by cmp (grouped number ns (x ∷ xs)) ≡ insert_by cmp x (sort_by cmp (grouped number ns xs))
  group-insert x [] xs d i = cc
  group-insert x (n ∷ ns) xs d i = ⊎_elim (λ e. let here : (n == number x) ≡ true = eq-eqb n (number x) e in
      ap (λ b. sort_by cmp (cond b (x ∷ filter (λ y. n == number y) xs) (filter (λ y. n == number y) xs) ++ grouped number ns (x ∷ xs)))
      here
      ∙ ap (λ w. insert_by cmp x (sort_by cmp (filter (λ y. n == number y) xs ++ w)))
      (not-in x ns xs (false_from_ne_true _ (λ t. let q : n < number x = d.0 (number x) t in let z : ⊥ = omega arith in z))))
      (λ e. let out : (n == number x) ≡ false = ne_eqb n (number x) e in
      let other : has (number x) ns ≡ true = sym (ap (λ b. b || has (number x) ns) out) ∙ i in
      ap (λ b. sort_by cmp (cond b (x ∷ filter (λ y. n == number y) xs) (filter (λ y. n == number y) xs) ++ grouped number ns (x ∷ xs))) out
      ∙ sort-append cmp (filter (λ y. n == number y) xs) (grouped number ns (x ∷ xs))
      ∙ ap (insert_all cmp (filter (λ y. n == number y) xs)) (group-insert x ns xs d.1 other)
      ∙ insert-past x (filter (λ y. n == number y) xs) (sort_by cmp (grouped number ns xs)) (numbered n x xs e)
      ∙ ap (insert_by cmp x) (sym (sort-append cmp (filter (λ y. n == number y) xs) (grouped number ns xs))))
      (cases_eq n (number x))

  grouped-none : (ns : List ℕ) → grouped number ns [] ≡ []
  grouped-none [] = refl
  grouped-none (n ∷ ns) = grouped-none ns

  -- a sort doesn't see that elements stand grouped by their numbers
  pub sort-grouped : (ns : List ℕ) (xs : List A) → Rising ns → Each (λ x. has (number x) ns ≡ true) xs
      → sort_by cmp (grouped number ns xs) ≡ sort_by cmp xs
  sort-grouped ns [] d h = ap (sort_by cmp) (grouped-none ns)
  sort-grouped ns (x ∷ xs) d h = group-insert x ns xs d h.0 ∙ ap (insert_by cmp x) (sort-grouped ns xs d h.1)

-- ---- a sort by a finer order: where elements come by rising tablets, an order that ends with the tablet sorts as one without it

-- where x may stand before y by the coarser order, it may by the finer
abbrev pub Agreeing : {A : Type 0} → (A → A → Ordering) → (A → A → Ordering) → A → A → Type 0
Agreeing fine coarse x y = is_gt (coarse x y) ≡ false → is_gt (fine x y) ≡ false

abbrev pub Ties : {A : Type 0} → (A → A → Ordering) → (A → A → Ordering) → List A → Type 0
Ties fine coarse [] = Unit {0}
Ties fine coarse (x ∷ xs) = Each (Agreeing fine coarse x) xs × Ties fine coarse xs

module _ {A : Type 0} (fine coarse : A → A → Ordering) (finer : (x y : A) → is_gt (fine x y) ≡ false → is_gt (coarse x y) ≡ false) where
  insert-finer : (x : A) (ys : List A) → Each (Agreeing fine coarse x) ys → insert_by fine x ys ≡ insert_by coarse x ys
  insert-finer x [] h = refl
  insert-finer x (y ∷ ys) h = grind (arith, h.0, finer x y, insert-finer x ys h.1)

  pub sort-finer : (xs : List A) → Ties fine coarse xs → sort_by fine xs ≡ sort_by coarse xs
  sort-finer [] t = refl
  sort-finer (x ∷ xs) t =
      ap (insert_by fine x) (sort-finer xs t.1) ∙ insert-finer x (sort_by coarse xs) (each-sort coarse (Agreeing fine coarse x) xs t.0)

pub ties-append : {A : Type 0} (fine coarse : A → A → Ordering) (xs ys : List A) → Ties fine coarse xs → Ties fine coarse ys
    → Each (λ x. Each (Agreeing fine coarse x) ys) xs → Ties fine coarse (xs ++ ys)
ties-append fine coarse [] ys t u b = u
ties-append fine coarse (x ∷ xs) ys t u b = (Each-append (Agreeing fine coarse x) xs ys t.0 b.0, ties-append fine coarse xs ys t.1 u b.1)

-- elements of rising tablets
module _ {A : Type 0} (fine coarse : A → A → Ordering) (tablet : A → ℕ)
    (by_tablet : (x y : A) → tablet x ≤ tablet y → Agreeing fine coarse x y) where
  pub ties-same : (s : ℕ) (xs : List A) → Each (λ x. tablet x ≡ s) xs → Ties fine coarse xs
  ties-same s [] h = tt
  ties-same s (x ∷ xs) h = (
    Each-weaker (λ y. tablet y ≡ s) (Agreeing fine coarse x) (λ y e. by_tablet x y (let q : tablet x ≡ s = h.0 in omega arith)) xs h.1,
    ties-same s xs h.1,
  )

  each-above : (f : AcceptedTablet → List A) → ((b : AcceptedTablet) → Each (λ x. tablet x ≡ b.header.id) (f b))
      → (n : ℕ) (bs : List AcceptedTablet) → Numbered n (heads bs) → Each (λ x. n ≤ tablet x) (flat_map f bs)
  each-above f own n [] m = tt
  each-above f own n (b ∷ bs) m = Each-append (λ x. n ≤ tablet x) (f b) (flat_map f bs)
      (Each-weaker (λ x. tablet x ≡ b.header.id) (λ x. n ≤ tablet x) (λ x e. let q = m.0 in omega arith) (f b) (own b))
      (Each-weaker (λ x. n + 1 ≤ tablet x) (λ x. n ≤ tablet x) (λ x e. omega arith) (flat_map f bs) (each-above f own (n + 1) bs m.1))

  pub ties-rising : (f : AcceptedTablet → List A) → ((b : AcceptedTablet) → Each (λ x. tablet x ≡ b.header.id) (f b))
      → (n : ℕ) (bs : List AcceptedTablet) → Numbered n (heads bs) → Ties fine coarse (flat_map f bs)
  ties-rising f own n [] m = tt
  ties-rising f own n (b ∷ bs) m =
      ties-append fine coarse (f b) (flat_map f bs) (ties-same b.header.id (f b) (own b)) (ties-rising f own (n + 1) bs m.1)
      (Each-weaker (λ x. tablet x ≡ b.header.id) (λ x. Each (Agreeing fine coarse x) (flat_map f bs))
      (λ x e. Each-weaker (λ y. n + 1 ≤ tablet y) (Agreeing fine coarse x) (λ y k. by_tablet x y (let q = m.0 in omega arith))
      (flat_map f bs) (each-above f own (n + 1) bs m.1)) (f b) (own b))
