-- What a cutoff and a restore leave.
use Rattle.std.proofs.Common.{◌≡◌, ℕ, ◌<◌, true, false, cond, List, [], ◌∷◌, length, refl, ap, sym, ◌∙◌, arith, subst}
use Rattle.std.specs.Prelude.{nat_le, filter}
use Rattle.xc_record.proofs.ListLaws.{Each, Each-filter}
use Rattle.xc_record.specs.Kept.{KeyVersion, KeyWaiting}
use Rattle.xc_versions.specs.declared.stored.StoredVersion.{StoredVersion}
use Rattle.xc_versions.specs.Stored.{InOrder, Store, kept, up_to, key_versions, stored_at}
use Rattle.xc_versions.proofs.VersionLaws.{stored_at-kept, each-kept, kept-in_order, filter-in_order}
use Rattle.xc_intents.specs.HeldOps.{HeldOps}
use Rattle.xc_model.specs.Stands.{TargetTablet, KeepsFrom, restore}
use Rattle.xc_tablet.specs.declared.state.State.{State}
use Rattle.xc_tablet.specs.Contents.{has_key, IsContents}
use Rattle.xc_tablet.specs.State.{seen, IsState}
use Rattle.xc_tablet.proofs.StateLaws.{seen-within}

-- the same but for the versions
abbrev pub with_versions : State → Store → State
with_versions s v = record s { contents = record s.contents { versions = v } }

module _ (s : State) (v : Store) (u : ℕ) (is : IsState s) (items : v.items ≡ kept u s.contents.versions.items) where
  kept-contents : IsContents (record s.contents { versions = v })
  kept-contents = record {
    versions = subst (Each (λ x. has_key s.contents x.key ≡ true)) (sym items)
        (each-kept (λ x. has_key s.contents x.key ≡ true) u s.contents.versions.items is.contents.versions);
    held = is.contents.held;
    ordered = subst InOrder (sym items) (kept-in_order u s.contents.versions.items is.contents.ordered);
    counted = subst (Each (λ x. x.place < s.contents.next)) (sym items)
        (each-kept (λ x. x.place < s.contents.next) u s.contents.versions.items is.contents.counted);
  }

  pub kept-state : IsState (with_versions s v)
  kept-state = record
      { contents = kept-contents; headers = is.headers; count = is.count; closed = is.closed; small = is.small; few = is.few }

  pub kept-keeps : KeepsFrom u (seen s) (seen (with_versions s v))
  kept-keeps = record {
    rest = refl;
    keys = λ k h. ap (stored_at k) items ∙ stored_at-kept k u s.contents.versions.items is.contents.ordered;
    within = (seen-within (with_versions s v) kept-contents).versions;
  }

-- ---- a restore

seen-up_to : (t : ℕ) (xs : List StoredVersion)
    → key_versions (up_to t xs) ≡ filter (λ (v : KeyVersion). nat_le v.commit t) (key_versions xs)
seen-up_to t [] = refl
seen-up_to t (x ∷ xs) =
    elim (nat_le x.commit t) as
    (λ b. key_versions (cond b (x ∷ up_to t xs) (up_to t xs)) ≡ cond b
    (record { key = x.key; commit = x.commit; txn = x.txn; value = x.value } ∷ filter (λ (v : KeyVersion). nat_le v.commit t)
    (key_versions xs)) (filter (λ (v : KeyVersion). nat_le v.commit t) (key_versions xs))) [
      | true ↦ ap (λ (vs : List KeyVersion). record { key = x.key; commit = x.commit; txn = x.txn; value = x.value } ∷ vs) (seen-up_to t xs)
      | false ↦ seen-up_to t xs
    ]

abbrev pub with_both : State → Store → HeldOps → State
with_both s v h = record s { contents = record s.contents { versions = v; held = h } }

module _ (s : State) (v : Store) (h : HeldOps) (t : ℕ) (is : IsState s) (items : v.items ≡ up_to t s.contents.versions.items)
    (none : h.held ≡ []) where
  pub restored-state : IsState (with_both s v h)
  restored-state = record {
    contents = record {
      versions = subst (Each (λ x. has_key s.contents x.key ≡ true)) (sym items)
          (Each-filter (λ x. has_key s.contents x.key ≡ true) (λ x. nat_le x.commit t) s.contents.versions.items is.contents.versions);
      held = subst (Each (λ w. has_key s.contents w.key ≡ true)) (sym none) tt;
      ordered = subst InOrder (sym items)
          (filter-in_order (λ (x : StoredVersion). nat_le x.commit t) s.contents.versions.items is.contents.ordered);
      counted = subst (Each (λ x. x.place < s.contents.next)) (sym items)
          (Each-filter (λ x. x.place < s.contents.next) (λ x. nat_le x.commit t) s.contents.versions.items is.contents.counted);
    };
    headers = is.headers;
    count = is.count;
    closed = is.closed;
    small = is.small;
    few = (let x = ap length none in let y = is.few in omega arith);
  }

  pub restored-seen : seen (with_both s v h) ≡ restore t (seen s)
  restored-seen =
      ap (λ vs. with_lists vs h.held) (ap key_versions items ∙ seen-up_to t s.contents.versions.items)
      ∙ ap (λ hs. with_lists (filter (λ (v : KeyVersion). nat_le v.commit t) (key_versions s.contents.versions.items)) hs) none
    where
      with_lists : List KeyVersion → List KeyWaiting → TargetTablet
      with_lists vs hs = record (seen s) { versions = vs; held = hs }
