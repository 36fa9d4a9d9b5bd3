-- What calls of Intents do to the list that is held, and to what waits at one key.
use Rattle.std.proofs.Common.{◌≡◌, ℕ, ◌+◌, Bool, true, false, cond, not, List, [], ◌∷◌, ◌++◌, length, map, filter, Option, Some, None, refl}
use Rattle.std.proofs.Common.{sym, ◌∙◌, ap, append_assoc, arith, ◌==◌, bytes_eq, ◌&&◌}
use Rattle.std.specs.List.{find}
use Rattle.std.specs.Option.{option_map, is_some}
use Rattle.std.proofs.lemmas.List.Elements.{filter-append}
use Rattle.std.proofs.lemmas.List.{map-append, append-nil}
use Rattle.std.proofs.lemmas.Slice.Eq.{bytes_eq-Decides}
use Rattle.xc_record.specs.Hash.{hash_of}
use Rattle.xc_record.specs.Kept.{KeyWaiting, waiting_of, waiting_at, is_of, is_of_other}
use Rattle.xc_intents.specs.HeldOps.{is_part, is_rest, in_range, without_first}

-- ---- an element taken out of a list, by any test

module _ {X : Type 0} (p : X → Bool) where
  -- where none passes
  pub filter-none : (xs : List X) → find p xs ≡ None → filter p xs ≡ []
  filter-none [] e = refl
  filter-none (x ∷ xs) e =
      elim (p x) as (λ b. cond b (Some x) (find p xs) ≡ None → cond b (x ∷ filter p xs) (filter p xs) ≡ [])
      [ true ↦ (λ f. (cc)) | false ↦ filter-none xs ] e

  pub filter_others-none : (xs : List X) → find p xs ≡ None → filter (λ x. not (p x)) xs ≡ xs
  filter_others-none [] e = refl
  filter_others-none (x ∷ xs) e =
      elim (p x) as (λ b. cond b (Some x) (find p xs) ≡ None
      → cond (not b) (x ∷ filter (λ y. not (p y)) xs) (filter (λ y. not (p y)) xs) ≡ x ∷ xs)
      [ true ↦ (λ f. (cc)) | false ↦ (λ f. ap (λ ys. x ∷ ys) (filter_others-none xs f)) ] e

  -- the first that passes, and the others that do
  pub filter-first : (xs : List X) (w : X) → find p xs ≡ Some w → filter p xs ≡ w ∷ filter p (without_first p xs)
  filter-first [] w e = (cc)
  filter-first (x ∷ xs) w e =
      elim (p x) as (λ b. p x ≡ b → cond b (Some x) (find p xs) ≡ Some w
      → cond b (x ∷ filter p xs) (filter p xs) ≡ w ∷ filter p (cond b xs (x ∷ without_first p xs)))
      [ true ↦ (λ h f. (cc)) | false ↦ (λ h f. rw h (filter-first xs w f)) ] refl e

  pub filter_others-without_first : (xs : List X) → filter (λ x. not (p x)) (without_first p xs) ≡ filter (λ x. not (p x)) xs
  filter_others-without_first [] = refl
  filter_others-without_first (x ∷ xs) =
      elim (p x) as (λ b. p x ≡ b
      → filter (λ y. not (p y)) (cond b xs (x ∷ without_first p xs)) ≡ cond (not b) (x ∷ filter (λ y. not (p y)) xs)
      (filter (λ y. not (p y)) xs))
      [ true ↦ (λ h. refl) | false ↦ (λ h. rw h (ap (λ ys. x ∷ ys) (filter_others-without_first xs))) ] refl

  pub length-without_first : (xs : List X) (w : X) → find p xs ≡ Some w → length (without_first p xs) + 1 ≡ length xs
  length-without_first [] w e = (cc)
  length-without_first (x ∷ xs) w e =
      elim (p x) as (λ b. cond b (Some x) (find p xs) ≡ Some w → length (cond b xs (x ∷ without_first p xs)) + 1 ≡ length (x ∷ xs))
      [ true ↦ (λ f. omega arith) | false ↦ (λ f. omega (arith, length-without_first xs w f)) ] e

  pub without_first-none : (xs : List X) → find p xs ≡ None → without_first p xs ≡ xs
  without_first-none [] e = refl
  without_first-none (x ∷ xs) e =
      elim (p x) as (λ b. cond b (Some x) (find p xs) ≡ None → cond b xs (x ∷ without_first p xs) ≡ x ∷ xs)
      [ true ↦ (λ f. (cc)) | false ↦ (λ f. ap (λ ys. x ∷ ys) (without_first-none xs f)) ] e

-- ---- by what a call answered

module _ {X Y : Type 0} (p : X → Bool) (f : X → Y) (r : Option Y) (xs : List X) (is : r ≡ option_map f (find p xs)) where
  pub find-by_some : is_some r ≡ true → (w : X) × (find p xs ≡ Some w) × (r ≡ Some (f w))
  find-by_some h = elim (find p xs) as (λ o. r ≡ option_map f o → (w : X) × (o ≡ Some w) × (r ≡ Some (f w)))
      [ None ↦ (λ e. absurd (cc)) | Some w ↦ (λ e. (w, refl, e)) ] is

  pub find-by_none : is_some r ≡ false → find p xs ≡ None
  find-by_none h = elim (find p xs) as (λ o. r ≡ option_map f o → o ≡ None)
      [ None ↦ (λ e. refl) | Some w ↦ (λ e. absurd (cc)) ] is

-- ---- all of a transaction within a range, taken one after another

-- from what was held at first: those taken so far, and what is held now
pub record TakenSoFar (txn lo hi : ℕ) (first taken now : List KeyWaiting) : Type 0 where
  pub parts : taken ++ filter (is_part txn lo hi) now ≡ filter (is_part txn lo hi) first
  pub others : filter (is_rest txn lo hi) now ≡ filter (is_rest txn lo hi) first

module _ (txn lo hi : ℕ) where
  pub taken-none : (hs : List KeyWaiting) → TakenSoFar txn lo hi hs [] hs
  taken-none hs = record { parts = refl; others = refl }

  pub taken-more : (first taken now : List KeyWaiting) (w : KeyWaiting) → TakenSoFar txn lo hi first taken now
      → find (is_part txn lo hi) now ≡ Some w
      → TakenSoFar txn lo hi first (taken ++ w ∷ []) (without_first (is_part txn lo hi) now)
  taken-more first taken now w t e = record {
    parts = append_assoc taken (w ∷ []) (filter (is_part txn lo hi) (without_first (is_part txn lo hi) now))
        ∙ ap (λ ys. taken ++ ys) (sym (filter-first (is_part txn lo hi) now w e)) ∙ t.parts;
    others = filter_others-without_first (is_part txn lo hi) now ∙ t.others;
  }

  pub taken-all : (first taken now : List KeyWaiting) → TakenSoFar txn lo hi first taken now → find (is_part txn lo hi) now ≡ None
      → (taken ≡ filter (is_part txn lo hi) first) × (now ≡ filter (is_rest txn lo hi) first)
  taken-all first taken now t e = (
    sym (append-nil taken) ∙ ap (λ ys. taken ++ ys) (sym (filter-none (is_part txn lo hi) now e)) ∙ t.parts,
    sym (filter_others-none (is_part txn lo hi) now e) ∙ t.others,
  )

-- ---- at one key

pub waiting_at-held : (k : List ℕ) (hs : List KeyWaiting) (w : KeyWaiting) → bytes_eq k w.key ≡ true
    → waiting_at k (hs ++ w ∷ []) ≡ waiting_at k hs ++ waiting_of w ∷ []
waiting_at-held k hs w e =
    ap (map waiting_of) (filter-append (λ v. bytes_eq k v.key) hs (w ∷ []) ∙ rw e refl)
    ∙ map-append waiting_of (filter (λ v. bytes_eq k v.key) hs) (w ∷ [])

pub waiting_at-held_elsewhere : (k : List ℕ) (hs : List KeyWaiting) (w : KeyWaiting) → bytes_eq k w.key ≡ false
    → waiting_at k (hs ++ w ∷ []) ≡ waiting_at k hs
waiting_at-held_elsewhere k hs w e =
    ap (map waiting_of) (filter-append (λ v. bytes_eq k v.key) hs (w ∷ []) ∙ rw e (append-nil (filter (λ v. bytes_eq k v.key) hs)))

same_key : (k key : List ℕ) → bytes_eq k key ≡ true → k ≡ key
same_key k key e = (bytes_eq-Decides k key).0 e

and_true : (b : Bool) → (b && true) ≡ b
and_true true = refl
and_true false = refl

and_false : (b : Bool) → (b && false) ≡ false
and_false true = refl
and_false false = refl

not-cond : (b : Bool) → not b ≡ cond b false true
not-cond true = refl
not-cond false = refl

-- two filters, where one decides what the other does at the elements that a third keeps
module _ {X Y : Type 0} (f : X → Y) (a q : X → Bool) (b : Y → Bool) where
  meet_step : (x : X) (xs : List X) (t u v : Bool) → a x ≡ t → q x ≡ u → b (f x) ≡ v → (a x ≡ true → q x ≡ b (f x))
      → map f (filter a (filter q xs)) ≡ filter b (map f (filter a xs))
      → map f (filter a (filter q (x ∷ xs))) ≡ filter b (map f (filter a (x ∷ xs)))
  meet_step x xs true true true ha hq hb same r = simp (ha, hq, hb) (ap (λ ys. f x ∷ ys) r)
  meet_step x xs true false false ha hq hb same r = simp (ha, hq, hb) r
  meet_step x xs true true false ha hq hb same r = let e = same ha in (cc)
  meet_step x xs true false true ha hq hb same r = let e = same ha in (cc)
  meet_step x xs false true v ha hq hb same r = simp (hq, ha) r
  meet_step x xs false false v ha hq hb same r = simp (hq, ha) r

  filters_meet : ((x : X) → a x ≡ true → q x ≡ b (f x)) → (xs : List X) → map f (filter a (filter q xs)) ≡ filter b (map f (filter a xs))
  filters_meet same [] = refl
  filters_meet same (x ∷ xs) = meet_step x xs (a x) (q x) (b (f x)) refl refl refl (same x) (filters_meet same xs)

filter_all : {X : Type 0} (xs : List X) → filter (λ x. true) xs ≡ xs
filter_all [] = refl
filter_all (x ∷ xs) = ap (λ ys. x ∷ ys) (filter_all xs)

filter_nothing : {X : Type 0} (xs : List X) → filter (λ x. false) xs ≡ []
filter_nothing [] = refl
filter_nothing (x ∷ xs) = filter_nothing xs

module _ (txn lo hi : ℕ) (k : List ℕ) where
  -- what is held at a key within the range is a part exactly where it is of the transaction, and at other keys never
  is_part-inside : in_range lo hi (hash_of k) ≡ true → (w : KeyWaiting) → bytes_eq k w.key ≡ true
      → is_part txn lo hi w ≡ is_of txn (waiting_of w)
  is_part-inside r w e = ap (λ key. txn == w.txn && in_range lo hi (hash_of key)) (sym (same_key k w.key e))
      ∙ ap (λ b. txn == w.txn && b) r ∙ and_true (txn == w.txn)

  is_part-outside : in_range lo hi (hash_of k) ≡ false → (w : KeyWaiting) → bytes_eq k w.key ≡ true → is_part txn lo hi w ≡ false
  is_part-outside r w e = ap (λ key. txn == w.txn && in_range lo hi (hash_of key)) (sym (same_key k w.key e))
      ∙ ap (λ b. txn == w.txn && b) r ∙ and_false (txn == w.txn)

  -- the rest, and the parts, as they wait at a key within the range
  pub waiting_at-rest : (hs : List KeyWaiting) → in_range lo hi (hash_of k) ≡ true
      → waiting_at k (filter (is_rest txn lo hi) hs) ≡ filter (is_of_other txn) (waiting_at k hs)
  waiting_at-rest hs r =
      filters_meet waiting_of (λ w. bytes_eq k w.key) (is_rest txn lo hi) (is_of_other txn)
      (λ w e. ap not (is_part-inside r w e) ∙ not-cond (is_of txn (waiting_of w))) hs

  pub waiting_at-parts : (hs : List KeyWaiting) → in_range lo hi (hash_of k) ≡ true
      → waiting_at k (filter (is_part txn lo hi) hs) ≡ filter (is_of txn) (waiting_at k hs)
  waiting_at-parts hs r = filters_meet waiting_of (λ w. bytes_eq k w.key) (is_part txn lo hi) (is_of txn) (is_part-inside r) hs

  -- and at a key out of it
  pub waiting_at-rest_outside : (hs : List KeyWaiting) → in_range lo hi (hash_of k) ≡ false
      → waiting_at k (filter (is_rest txn lo hi) hs) ≡ waiting_at k hs
  waiting_at-rest_outside hs r =
      filters_meet waiting_of (λ w. bytes_eq k w.key) (is_rest txn lo hi) (λ w. true) (λ w e. ap not (is_part-outside r w e)) hs
      ∙ filter_all (waiting_at k hs)

  pub waiting_at-parts_outside : (hs : List KeyWaiting) → in_range lo hi (hash_of k) ≡ false
      → waiting_at k (filter (is_part txn lo hi) hs) ≡ []
  waiting_at-parts_outside hs r =
      filters_meet waiting_of (λ w. bytes_eq k w.key) (is_part txn lo hi) (λ w. false) (is_part-outside r) hs
      ∙ filter_nothing (waiting_at k hs)
