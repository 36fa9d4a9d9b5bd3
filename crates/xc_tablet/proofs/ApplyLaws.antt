-- What an apply and an abort make of the operations that wait.
use Rattle.std.proofs.Common.{◌≡◌, ℕ, ◌+◌, Bool, true, false, cond, not, List, [], ◌∷◌, length, map, Option, Some, None, refl, ap, sym, ◌∙◌}
use Rattle.std.proofs.Common.{arith, subst, ⊎_elim, ◌==◌}
use Rattle.std.specs.Prelude.{bytes_eq, filter}
use Rattle.std.specs.List.{find}
use Rattle.std.specs.Option.{option_map}
use Rattle.std.proofs.lemmas.Bool.{cases_Bool, and_parts}
use Rattle.std.proofs.lemmas.Bool.Decides.{nat_tests}
use Rattle.xc_record.proofs.ListLaws.{Each, Each-filter}
use Rattle.xc_record.specs.Lists.{has}
use Rattle.xc_record.specs.Path.{Apply, Abort, Version}
use Rattle.xc_record.specs.Kept.{KeyWaiting, waiting_of, waiting_at, add, add_all, is_kept, is_of, step}
use Rattle.xc_versions.specs.Stored.{stored, stored_at}
use Rattle.xc_intents.specs.declared.held.Held.{Held}
use Rattle.xc_intents.specs.HeldOps.{is_part, is_rest, without_first, given}
use Rattle.xc_intents.proofs.IntentLaws.{filter-none, filter_others-none, filter-first, filter_others-without_first, length-without_first}
use Rattle.xc_intents.proofs.IntentLaws.{waiting_at-rest, waiting_at-parts, waiting_at-rest_outside, waiting_at-parts_outside}
use Rattle.xc_tablet.specs.declared.contents.Contents.{Contents}
use Rattle.xc_tablet.specs.Contents.{in_hashes, has_key, kept_in, IsContents, Changes, applied, LeavesAlike}
use Rattle.xc_tablet.specs.Room.{Settles}
use Rattle.xc_tablet.proofs.ContentsLaws.{kept, AddsVersion, adds-at, adds-is}

-- ---- the first that is taken out

pub find-passes : {X : Type 0} (p : X → Bool) (xs : List X) (w : X) → find p xs ≡ Some w → p w ≡ true
find-passes p [] w e = cc
find-passes p (x ∷ xs) w e =
    elim (p x) as (λ b. p x ≡ b → cond b (Some x) (find p xs) ≡ Some w → p w ≡ true)
    [ true ↦ (λ h f. let same : x ≡ w = cc in subst (λ y. p y ≡ true) same h) | false ↦ (λ h f. find-passes p xs w f) ] refl e

pub find-each : {X : Type 0} (P : X → Type 0) (p : X → Bool) (xs : List X) (w : X) → Each P xs → find p xs ≡ Some w → P w
find-each P p [] w h e = cc
find-each P p (x ∷ xs) w h e =
    elim (p x) as (λ b. cond b (Some x) (find p xs) ≡ Some w → P w)
    [ true ↦ (λ f. let same : x ≡ w = cc in subst P same h.0) | false ↦ (λ f. find-each P p xs w h.1 f) ] e

pub each-without : {X : Type 0} (P : X → Type 0) (p : X → Bool) (xs : List X) → Each P xs → Each P (without_first p xs)
each-without P p [] h = tt
each-without P p (x ∷ xs) h =
    elim (p x) as (λ b. Each P (cond b xs (x ∷ without_first p xs))) [ true ↦ h.1 | false ↦ (h.0, each-without P p xs h.1) ]

-- what was given was found
pub found : (o : Option KeyWaiting) (h : Held) → option_map given o ≡ Some h → (w : KeyWaiting) × ((o ≡ Some w) × (given w ≡ h))
found None h e = cc
found (Some w) h e = (w, (refl, (let same : given w ≡ h = cc in same)))

-- ---- one operation that an apply takes

kept-one : (commit : ℕ) (without : List ℕ) (k : List ℕ) (w : KeyWaiting) (ps : List KeyWaiting) (vs : List Version)
    → is_kept without (waiting_of w) ≡ true
    → add_all commit (filter (is_kept without) (waiting_at k ps))
    (cond (bytes_eq k w.key) (add (record { commit = commit; txn = w.txn; value = w.value }) vs) vs) ≡ add_all commit
    (filter (is_kept without) (waiting_at k (w ∷ ps))) vs
kept-one commit without k w ps vs e =
    let fs = filter (λ (v : KeyWaiting). bytes_eq k v.key) ps in
    let rest = filter (is_kept without) (map waiting_of fs) in
    elim (bytes_eq k w.key) as
    (λ b. add_all commit rest (cond b (add (record { commit = commit; txn = w.txn; value = w.value }) vs) vs) ≡ add_all commit
    (filter (is_kept without) (map waiting_of (cond b (w ∷ fs) fs))) vs)
    [ true ↦ ap (λ t. add_all commit (cond t (waiting_of w ∷ rest) rest) vs) (sym e) | false ↦ refl ]

dropped-one : (commit : ℕ) (without : List ℕ) (k : List ℕ) (w : KeyWaiting) (ps : List KeyWaiting) (vs : List Version)
    → is_kept without (waiting_of w) ≡ false
    → add_all commit (filter (is_kept without) (waiting_at k ps)) vs ≡ add_all commit (filter (is_kept without) (waiting_at k (w ∷ ps))) vs
dropped-one commit without k w ps vs e =
    let fs = filter (λ (v : KeyWaiting). bytes_eq k v.key) ps in
    let rest = filter (is_kept without) (map waiting_of fs) in
    elim (bytes_eq k w.key) as
    (λ b. add_all commit rest vs ≡ add_all commit (filter (is_kept without) (map waiting_of (cond b (w ∷ fs) fs))) vs)
    [ true ↦ ap (λ t. add_all commit (cond t (waiting_of w ∷ rest) rest) vs) (sym e) | false ↦ refl ]

pub taken-inside : (txn lo hi : ℕ) (c : Contents) (w : KeyWaiting) → IsContents c → find (is_part txn lo hi) c.held.held ≡ Some w
    → has_key c w.key ≡ true
taken-inside txn lo hi c w is first = find-each (λ v. has_key c v.key ≡ true) (is_part txn lo hi) c.held.held w is.held first

module _ (txn commit : ℕ) (without : List ℕ) (lo hi : ℕ) (c d : Contents) (w : KeyWaiting) (is : IsContents c)
    (first : find (is_part txn lo hi) c.held.held ≡ Some w)
    (held : d.held.held ≡ without_first (is_part txn lo hi) c.held.held) where
  parts-then : filter (is_part txn lo hi) c.held.held ≡ w ∷ filter (is_part txn lo hi) d.held.held
  parts-then = filter-first (is_part txn lo hi) c.held.held w first ∙ ap (λ hs. w ∷ filter (is_part txn lo hi) hs) (sym held)

  rest-same : filter (is_rest txn lo hi) d.held.held ≡ filter (is_rest txn lo hi) c.held.held
  rest-same = ap (filter (is_rest txn lo hi)) held ∙ filter_others-without_first (is_part txn lo hi) c.held.held

  held-inside : Each (λ v. has_key c v.key ≡ true) d.held.held
  held-inside = subst (Each (λ v. has_key c v.key ≡ true)) (sym held)
      (each-without (λ v. has_key c v.key ≡ true) (is_part txn lo hi) c.held.held is.held)

  pub taken-txn : w.txn ≡ txn
  taken-txn = let e : (txn == w.txn) ≡ true =
      (and_parts (txn == w.txn) (in_hashes lo hi w.key) (find-passes (is_part txn lo hi) c.held.held w first)).0 in grind (arith, nat_tests)

  pub taken-fewer : length d.held.held + 1 ≡ length c.held.held
  taken-fewer = ap (λ hs. length hs + 1) held ∙ length-without_first (is_part txn lo hi) c.held.held w first

  pub taken-kept : has w.sub without ≡ false → AddsVersion (stored w.key commit txn c.next w.value) c d
      → LeavesAlike txn commit without lo hi c d
  taken-kept e adds = record {
    range = adds.range;
    keys = λ k h.
        ap (λ hs. kept
        (add_all commit (filter (is_kept without) (waiting_at k (filter (is_part txn lo hi) d.held.held)))
        (stored_at k d.versions.items)) (waiting_at k hs)) rest-same
        ∙ ap (λ vs. kept (add_all commit (filter (is_kept without) (waiting_at k (filter (is_part txn lo hi) d.held.held))) vs)
        (waiting_at k (filter (is_rest txn lo hi) c.held.held))) (adds-at (stored w.key commit txn c.next w.value) c d is adds k)
        ∙ ap (λ n. kept
        (add_all commit (filter (is_kept without) (waiting_at k (filter (is_part txn lo hi) d.held.held)))
        (cond (bytes_eq k w.key) (add (record { commit = commit; txn = n; value = w.value }) (stored_at k c.versions.items))
        (stored_at k c.versions.items))) (waiting_at k (filter (is_rest txn lo hi) c.held.held))) (sym taken-txn)
        ∙ ap (λ vs. kept vs (waiting_at k (filter (is_rest txn lo hi) c.held.held)))
        (kept-one commit without k w (filter (is_part txn lo hi) d.held.held) (stored_at k c.versions.items) (ap not e))
        ∙ ap (λ ps. kept (add_all commit (filter (is_kept without) (waiting_at k ps)) (stored_at k c.versions.items))
        (waiting_at k (filter (is_rest txn lo hi) c.held.held))) (sym parts-then);
    is = adds-is (stored w.key commit txn c.next w.value) c d is adds held-inside;
  }

  pub taken-dropped : has w.sub without ≡ true → d ≡ record c { held = d.held } → LeavesAlike txn commit without lo hi c d
  taken-dropped e same = subst (LeavesAlike txn commit without lo hi c) (sym same) (record {
    range = (refl, refl);
    keys = λ k h.
        ap (λ hs. kept
        (add_all commit (filter (is_kept without) (waiting_at k (filter (is_part txn lo hi) d.held.held)))
        (stored_at k c.versions.items)) (waiting_at k hs)) rest-same
        ∙ ap (λ vs. kept vs (waiting_at k (filter (is_rest txn lo hi) c.held.held)))
        (dropped-one commit without k w (filter (is_part txn lo hi) d.held.held) (stored_at k c.versions.items) (ap not e))
        ∙ ap (λ ps. kept (add_all commit (filter (is_kept without) (waiting_at k ps)) (stored_at k c.versions.items))
        (waiting_at k (filter (is_rest txn lo hi) c.held.held))) (sym parts-then);
    is = record { versions = is.versions; held = held-inside; ordered = is.ordered; counted = is.counted };
  })

-- ---- none is left

pub alike-self : (txn commit : ℕ) (without : List ℕ) (lo hi : ℕ) (c : Contents) → IsContents c → LeavesAlike txn commit without lo hi c c
alike-self txn commit without lo hi c is = record { range = (refl, refl); keys = λ k h. refl; is = is }

pub alike-then : (txn commit : ℕ) (without : List ℕ) (lo hi : ℕ) (c d f : Contents) → LeavesAlike txn commit without lo hi c d
    → LeavesAlike txn commit without lo hi d f → LeavesAlike txn commit without lo hi c f
alike-then txn commit without lo hi c d f a b = record {
  range = (b.range.0 ∙ a.range.0, b.range.1 ∙ a.range.1);
  keys = λ k h. b.keys k (ap (λ lo. in_hashes lo d.hi k) a.range.0 ∙ ap (λ hi. in_hashes c.lo hi k) a.range.1 ∙ h) ∙ a.keys k h;
  is = b.is;
}

pub settles-self : (c : Contents) → Settles c c
settles-self c = record { next = omega arith; fewer = omega arith; versions = omega arith; held = omega arith }

pub settles-then : (c d f : Contents) → Settles c d → Settles d f → Settles c f
settles-then c d f a b = record {
  next = omega (arith, a.next, b.next);
  fewer = omega (arith, a.fewer, b.fewer);
  versions = omega (arith, a.versions, b.versions);
  held = omega (arith, a.held, b.held);
}

nothing-applied : (txn commit : ℕ) (without : List ℕ) (lo hi : ℕ) (d : Contents) (k : List ℕ) → find (is_part txn lo hi) d.held.held ≡ None
    → kept_in d k ≡ applied txn commit without lo hi d k
nothing-applied txn commit without lo hi d k e =
    ap (λ ps. kept (add_all commit (filter (is_kept without) (waiting_at k ps)) (stored_at k d.versions.items)) (waiting_at k d.held.held))
    (sym (filter-none (is_part txn lo hi) d.held.held e))
    ∙ ap (λ hs. kept
    (add_all commit (filter (is_kept without) (waiting_at k (filter (is_part txn lo hi) d.held.held))) (stored_at k d.versions.items))
    (waiting_at k hs)) (sym (filter_others-none (is_part txn lo hi) d.held.held e))

applied-is : (txn commit : ℕ) (without : List ℕ) (lo hi : ℕ) (c : Contents) (k : List ℕ)
    → applied txn commit without lo hi c k ≡ cond (in_hashes lo hi k) (step (Apply txn commit without) (kept_in c k)) (kept_in c k)
applied-is txn commit without lo hi c k =
    let vs = stored_at k c.versions.items in
    let hs = c.held.held in
    ⊎_elim {C = applied txn commit without lo hi c k ≡ cond (in_hashes lo hi k) (step (Apply txn commit without) (kept_in c k))
    (kept_in c k)}
    (λ e. ap (λ ps. kept (add_all commit (filter (is_kept without) ps) vs) (waiting_at k (filter (is_rest txn lo hi) hs)))
    (waiting_at-parts txn lo hi k hs e)
    ∙ ap (λ ws. kept (add_all commit (filter (is_kept without) (filter (is_of txn) (waiting_at k hs))) vs) ws)
    (waiting_at-rest txn lo hi k hs e)
    ∙ ap (λ b. cond b (step (Apply txn commit without) (kept_in c k)) (kept_in c k)) (sym e))
    (λ e. ap (λ ps. kept (add_all commit (filter (is_kept without) ps) vs) (waiting_at k (filter (is_rest txn lo hi) hs)))
    (waiting_at-parts_outside txn lo hi k hs e)
    ∙ ap (λ ws. kept vs ws) (waiting_at-rest_outside txn lo hi k hs e)
    ∙ ap (λ b. cond b (step (Apply txn commit without) (kept_in c k)) (kept_in c k)) (sym e))
    (cases_Bool (in_hashes lo hi k))

pub alike-applied : (txn commit : ℕ) (without : List ℕ) (lo hi : ℕ) (c d : Contents) → LeavesAlike txn commit without lo hi c d
    → find (is_part txn lo hi) d.held.held ≡ None
    → Changes (λ k x. cond (in_hashes lo hi k) (step (Apply txn commit without) x) x) c d
alike-applied txn commit without lo hi c d a none = record {
  range = a.range;
  keys = λ k h. nothing-applied txn commit without lo hi d k none ∙ a.keys k h ∙ applied-is txn commit without lo hi c k;
  is = a.is;
}

-- ---- an abort

pub aborted : (txn lo hi : ℕ) (c d : Contents) → IsContents c → d ≡ record c { held = d.held }
    → d.held.held ≡ filter (is_rest txn lo hi) c.held.held
    → Changes (λ k x. cond (in_hashes lo hi k) (step (Abort txn) x) x) c d
aborted txn lo hi c d is same held =
    subst (Changes (λ k x. cond (in_hashes lo hi k) (step (Abort txn) x) x) c) (sym same) (record {
      range = (refl, refl);
      keys = λ k h. ap (λ hs. kept (stored_at k c.versions.items) (waiting_at k hs)) held ∙ at k;
      is = record {
        versions = is.versions;
        held = subst (Each (λ v. has_key c v.key ≡ true)) (sym held)
            (Each-filter (λ v. has_key c v.key ≡ true) (is_rest txn lo hi) c.held.held is.held);
        ordered = is.ordered;
        counted = is.counted;
      };
    })
  where
    at : (k : List ℕ)
        → kept (stored_at k c.versions.items) (waiting_at k (filter (is_rest txn lo hi) c.held.held)) ≡ cond (in_hashes lo hi k)
        (step (Abort txn) (kept_in c k)) (kept_in c k)
    at k =
        let vs = stored_at k c.versions.items in
        let hs = c.held.held in
        ⊎_elim {C = kept vs (waiting_at k (filter (is_rest txn lo hi) hs)) ≡ cond (in_hashes lo hi k) (step (Abort txn) (kept_in c k))
        (kept_in c k)}
        (λ e. ap (λ ws. kept vs ws) (waiting_at-rest txn lo hi k hs e)
        ∙ ap (λ b. cond b (step (Abort txn) (kept_in c k)) (kept_in c k)) (sym e))
        (λ e. ap (λ ws. kept vs ws) (waiting_at-rest_outside txn lo hi k hs e)
        ∙ ap (λ b. cond b (step (Abort txn) (kept_in c k)) (kept_in c k)) (sym e))
        (cases_Bool (in_hashes lo hi k))

pub not-found : (o : Option KeyWaiting) → option_map given o ≡ None → o ≡ None
not-found None e = refl
not-found (Some w) e = cc

-- the same operations wait, with more room
pub alike-same : (txn commit : ℕ) (without : List ℕ) (lo hi : ℕ) (c d : Contents) → IsContents c → d ≡ record c { held = d.held }
    → d.held.held ≡ c.held.held → LeavesAlike txn commit without lo hi c d
alike-same txn commit without lo hi c d is same held =
    subst (LeavesAlike txn commit without lo hi c) (sym same) (record {
      range = (refl, refl);
      keys = λ k h. ap
          (λ hs. kept (add_all commit (filter (is_kept without) (waiting_at k (filter (is_part txn lo hi) hs)))
          (stored_at k c.versions.items)) (waiting_at k (filter (is_rest txn lo hi) hs))) held;
      is = record {
        versions = is.versions;
        held = subst (Each (λ v. has_key c v.key ≡ true)) (sym held) is.held;
        ordered = is.ordered;
        counted = is.counted;
      };
    })
