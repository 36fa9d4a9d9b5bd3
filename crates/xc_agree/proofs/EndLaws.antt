-- Laws of what is seen at a tablet's end: it is what the definitions say of the tablet's records.
use Rattle.std.proofs.Common.{◌≡◌, ℕ, ◌≤◌, Bool, true, false, ◌||◌, List, [], ◌∷◌, refl, ap, sym, ◌∙◌, arith}
use Rattle.std.proofs.lemmas.Bool.Decides.{nat_tests}
use Rattle.std.specs.Prelude.{Option, Some, None, ◌&&◌, ◌==◌, nat_le, not, bytes_eq, if◌then◌else◌, fold, is_some, is_none}
use Rattle.std.specs.List.{list_any}
use Rattle.std.specs.Option.{option_map_or}
use Rattle.xc_record.specs.declared.record.Kind.{Kind}
use Rattle.xc_record.specs.declared.record.Break.{Break}
use Rattle.xc_record.specs.declared.record.Op.{Op}
use Rattle.xc_record.specs.declared.record.Record.{Record}
use Rattle.xc_record.specs.Order.{Progress, break_of, after, accepted_from, safe_value}
use Rattle.xc_record.specs.Commits.{applies, rolls_back, intent_ops}
use Rattle.xc_record.specs.Agreement.{aborts}
use Rattle.xc_agree.specs.Seen.{Seen, see, see_kind, pends}
use Rattle.xc_agree.specs.Held.{wait_kind}
use Rattle.xc_record.proofs.SafeLaws.{break_of-floor}
use Rattle.xc_agree.proofs.WaitLaws.{Below, below-see}
use Rattle.std.proofs.Math.Bool.{or-false, or_assoc}

-- ---- the cases of single records

abbrev pub differs_at : ℕ → ℕ → Record → Bool
differs_at n c r = option_map_or (λ x. not (x == c)) (applies n r.kind) false

abbrev pub undoes_at : ℕ → List ℕ → Record → Bool
undoes_at n u r = option_map_or (λ x. not (bytes_eq x u)) (rolls_back n r.kind) false

abbrev pub late_at : ℕ → ℕ → Record → Bool
late_at n c r = is_some (intent_ops n r.kind) && nat_le c r.time

differs-see : (n c : ℕ) (u : List ℕ) (s : Seen) (time : ℕ) (kind : Kind)
    → (see_kind n c u s time kind).differs ≡ (s.differs || option_map_or (λ x. not (x == c)) (applies n kind) false)
differs-see n c u s time kind = grind arith

pub differs-all : (n c : ℕ) (u : List ℕ) (s : Seen) (rs : List Record)
    → (fold (see n c u) s rs).differs ≡ (s.differs || list_any (differs_at n c) rs)
differs-all n c u s [] = sym (or-false s.differs)
differs-all n c u s (r ∷ rs) =
    differs-all n c u (see n c u s r) rs ∙ ap (λ b. b || list_any (differs_at n c) rs) (differs-see n c u s r.time r.kind)
    ∙ or_assoc s.differs (differs_at n c r) (list_any (differs_at n c) rs)

undoes-see : (n c : ℕ) (u : List ℕ) (s : Seen) (time : ℕ) (kind : Kind)
    → (see_kind n c u s time kind).undoes ≡ (s.undoes || option_map_or (λ x. not (bytes_eq x u)) (rolls_back n kind) false)
undoes-see n c u s time kind = grind arith

pub undoes-all : (n c : ℕ) (u : List ℕ) (s : Seen) (rs : List Record)
    → (fold (see n c u) s rs).undoes ≡ (s.undoes || list_any (undoes_at n u) rs)
undoes-all n c u s [] = sym (or-false s.undoes)
undoes-all n c u s (r ∷ rs) =
    undoes-all n c u (see n c u s r) rs ∙ ap (λ b. b || list_any (undoes_at n u) rs) (undoes-see n c u s r.time r.kind)
    ∙ or_assoc s.undoes (undoes_at n u r) (list_any (undoes_at n u) rs)

late-see : (n c : ℕ) (u : List ℕ) (s : Seen) (time : ℕ) (kind : Kind)
    → (see_kind n c u s time kind).late ≡ (s.late || (is_some (intent_ops n kind) && nat_le c time))
late-see n c u s time kind = grind arith

pub late-all : (n c : ℕ) (u : List ℕ) (s : Seen) (rs : List Record) → (fold (see n c u) s rs).late ≡ (s.late || list_any (late_at n c) rs)
late-all n c u s [] = sym (or-false s.late)
late-all n c u s (r ∷ rs) =
    late-all n c u (see n c u s r) rs ∙ ap (λ b. b || list_any (late_at n c) rs) (late-see n c u s r.time r.kind)
    ∙ or_assoc s.late (late_at n c r) (list_any (late_at n c) rs)

aborted-see : (n c : ℕ) (u : List ℕ) (s : Seen) (time : ℕ) (kind : Kind)
    → (see_kind n c u s time kind).aborted ≡ (s.aborted || aborts n kind)
aborted-see n c u s time kind = grind arith

pub aborted-all : (n c : ℕ) (u : List ℕ) (s : Seen) (rs : List Record)
    → (fold (see n c u) s rs).aborted ≡ (s.aborted || list_any (λ r. aborts n r.kind) rs)
aborted-all n c u s [] = sym (or-false s.aborted)
aborted-all n c u s (r ∷ rs) =
    aborted-all n c u (see n c u s r) rs ∙ ap (λ b. b || list_any (λ r. aborts n r.kind) rs) (aborted-see n c u s r.time r.kind)
    ∙ or_assoc s.aborted (aborts n r.kind) (list_any (λ r. aborts n r.kind) rs)

-- ---- stragglers

-- whether the transaction waits at a safe record of value at or above the commit, by an operation among those that the test passes
abbrev pub straggles : (List Op → Bool) → ℕ → ℕ → Bool → List Record → Bool
straggles p n c w [] = false
straggles p n c w (r ∷ rs) =
    (option_map_or (λ value. nat_le c value) (safe_value r.kind) false && w) || straggles p n c (wait_kind n p w r.kind) rs

abbrev pub any_op : List Op → Bool
any_op ops = true

-- what a look relies on
pub record Sound (s : Seen) (p : Progress) : Type 0 where
  pub below : Below s.place s.since
  pub safe : s.safe ≤ s.place
  pub floor : s.floor ≤ p.floor

abbrev pub stands : ℕ → Seen → Bool
stands c s = s.straggles || pends c s

abbrev floor_after_kind : ℕ → Kind → ℕ
floor_after_kind floor kind = option_map_or (λ value. value) (safe_value kind) floor

safe-see : (n c : ℕ) (u : List ℕ) (s : Seen) (time : ℕ) (kind : Kind) → s.safe ≤ s.place
    → (see_kind n c u s time kind).safe ≤ (see_kind n c u s time kind).place
safe-see n c u s time kind h = grind arith

floor-see : (n c : ℕ) (u : List ℕ) (s : Seen) (floor time : ℕ) (kind : Kind) → s.floor ≤ floor
    → (see_kind n c u s time kind).floor ≤ floor_after_kind floor kind
floor-see n c u s floor time kind h = grind arith

sound-step : (n c : ℕ) (u : List ℕ) (s : Seen) (p : Progress) (r : Record) → Sound s p → Sound (see n c u s r) (after p r)
sound-step n c u s p r h = record {
  below = below-see n c u s r.time r.kind h.below;
  safe = safe-see n c u s r.time r.kind h.safe;
  floor = floor-see n c u s p.floor r.time r.kind h.floor;
}

stands-kind : (n c : ℕ) (u : List ℕ) (floor : ℕ) (s : Seen) (time : ℕ) (kind : Kind) → Below s.place s.since → s.safe ≤ s.place
    → s.floor ≤ floor → floor ≤ floor_after_kind floor kind
    → stands c (see_kind n c u s time kind) ≡
    (stands c s || (option_map_or (λ value. nat_le c value) (safe_value kind) false && is_some s.since))
stands-kind n c u floor s time kind b k f g = grind (arith, nat_tests)

stands-step : (n c : ℕ) (u : List ℕ) (s : Seen) (p : Progress) (r : Record) → Sound s p → break_of p r ≡ None
    → stands c (see n c u s r) ≡ (stands c s || (option_map_or (λ value. nat_le c value) (safe_value r.kind) false && is_some s.since))
stands-step n c u s p r h e = stands-kind n c u p.floor s r.time r.kind h.below h.safe h.floor (break_of-floor p r (rw e refl))

since-step : (n c : ℕ) (u : List ℕ) (s : Seen) (time : ℕ) (kind : Kind)
    → is_some (see_kind n c u s time kind).since ≡ wait_kind n any_op (is_some s.since) kind
since-step n c u s time kind = grind arith

pub stands-all : (n c : ℕ) (u : List ℕ) (s : Seen) (p : Progress) (rs : List Record) → Sound s p → accepted_from p rs ≡ rs
    → stands c (fold (see n c u) s rs) ≡ (stands c s || straggles any_op n c (is_some s.since) rs)
stands-all n c u s p [] h e = sym (or-false (stands c s))
stands-all n c u s p (r ∷ rs) h e =
    go (break_of p r) refl (λ f. stands-all n c u (see n c u s r) (after p r) rs (sound-step n c u s p r h)) e
  where
    rest : {xs ys : List Record} → r ∷ xs ≡ r ∷ ys → xs ≡ ys
    rest e = cc

    go : (o : Option Break) → break_of p r ≡ o
        → (break_of p r ≡ None → accepted_from (after p r) rs ≡ rs
        → stands c (fold (see n c u) (see n c u s r) rs) ≡
        (stands c (see n c u s r) || straggles any_op n c (is_some (see n c u s r).since) rs))
        → (if is_none o then (r ∷ accepted_from (after p r) rs) else []) ≡ r ∷ rs
        → stands c (fold (see n c u) (see n c u s r) rs) ≡ (stands c s || straggles any_op n c (is_some s.since) (r ∷ rs))
    go None f ih e =
        ih f (rest e) ∙ ap (λ b. b || straggles any_op n c (is_some (see n c u s r).since) rs) (stands-step n c u s p r h f)
        ∙ or_assoc (stands c s) (option_map_or (λ value. nat_le c value) (safe_value r.kind) false && is_some s.since)
        (straggles any_op n c (is_some (see n c u s r).since) rs)
        ∙ ap (λ w. stands c s ||
        ((option_map_or (λ value. nat_le c value) (safe_value r.kind) false && is_some s.since) || straggles any_op n c w rs)) (since-step n
        c u s r.time r.kind)
    go (Some x) f ih e = cc
