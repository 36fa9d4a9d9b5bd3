-- Where no case of disagreement stands, the events of a key agree, and no straggler stands on its path.
use Rattle.xc_model.proofs.Common.{◌≡◌, ℕ, ◌<◌, Bool, true, false, cond, List, [], Some, None, refl, ap, sym, ◌∙◌, arith, subst, ◌==◌, ◌&&◌}
use Rattle.xc_model.proofs.Common.{not, nat_le, bytes_eq, is_some, option_map_or, list_any, eq-eqb, nat_tests, slice_get, bytes_eq-Decides}
use Rattle.xc_model.proofs.Common.{true≢false, false_from_ne_true, filter, Kind, Op, Record, Logs, hash_of, holds, AcceptedTablet}
use Rattle.xc_model.proofs.Common.{accepted_tablets, events, record_events, kind_events, puts, Put, Hold, applies, rolls_back, commit_of}
use Rattle.xc_model.proofs.Common.{undone, intent_ops, aborts, HasNoCase, Agrees, path_above, straggles_at, is_valid, commit-any, has_apply}
use Rattle.xc_model.proofs.Common.{straggles-along, each-get, each-from, Each-filter, Each-weaker, Each}
use Rattle.std.proofs.lemmas.Map.Keys.{any_passes_from_place}
use Rattle.xc_record.specs.declared.record.Kind.TheVariants as log
use Rattle.xc_model.{proofs.Parents.each-numbered, proofs.Flat.each-flat, proofs.Elements.each-map, proofs.Elements.some-of}
use Rattle.xc_model.{proofs.Chain.by-commit, proofs.Elements.none-any}
use Rattle.xc_model.proofs.Along.{IsAfter, AgreesAt, NoStragglers, own}
pub use Rattle.xc_record.proofs.PathLaws.{above-before, path-of-append, path_of}

-- a test that no element passes
any-at : {A : Type 0} (p : A → Bool) (xs : List A) (i : ℕ) (x : A) → list_any p xs ≡ false → slice_get xs i ≡ Some x → p x ≡ false
any-at p xs i x e at = false_from_ne_true (p x) (λ t. true≢false (sym (any_passes_from_place p xs i x at t) ∙ e))

-- a transaction with an accepted apply has a commit
applied-commits : (logs : Logs) (i j : ℕ) (b : AcceptedTablet) (r : Record) (n d : ℕ) (without : List ℕ)
    → slice_get (accepted_tablets logs) i ≡ Some b → slice_get b.records j ≡ Some r → r.kind ≡ log.Apply n d without
    → (c : ℕ) × (commit_of logs n ≡ Some c)
applied-commits logs i j b r n d without at there e =
    let here = ap (λ k. is_some (applies n k)) e ∙ ap (λ b. is_some (cond b (Some d) None)) (eq-eqb n n refl) in
    some-of (commit_of logs n)
    (commit-any logs n ∙ any_passes_from_place (has_apply n) (accepted_tablets logs) i b at
    (any_passes_from_place (λ (r : Record). is_some (applies n r.kind)) b.records j r there here))

-- what the tests say of one kind
differs-not : (n d c : ℕ) (without : List ℕ) → option_map_or (λ c2. not (c2 == c)) (applies n (log.Apply n d without)) false ≡ false → d ≡ c
differs-not n d c without e = grind (arith, nat_tests)

undoes-not : (n d : ℕ) (without undone : List ℕ)
    → option_map_or (λ w. not (bytes_eq w undone)) (rolls_back n (log.Apply n d without)) false ≡ false → without ≡ undone
undoes-not n d without undone e = (bytes_eq-Decides without undone).0 (kept (bytes_eq without undone)
    (sym (ap (λ b. option_map_or (λ w. not (bytes_eq w undone)) (cond b (Some without) None) false) (eq-eqb n n refl)) ∙ e))
  where
    kept : (b : Bool) → not b ≡ false → b ≡ true
    kept true e = refl
    kept false e = cc

late-not : (n c time sub : ℕ) (ops : List Op) → (is_some (intent_ops n (log.Intent sub n ops)) && nat_le c time) ≡ false → time < c
late-not n c time sub ops e = grind (arith, nat_tests)

aborts-not : (n : ℕ) → aborts n (log.Abort n) ≡ false → ⊥
aborts-not n e = grind (arith, nat_tests)

-- what a record says of a key agrees
record-agrees : (logs : Logs) (i j : ℕ) (b : AcceptedTablet) (r : Record) (k : List ℕ) → slice_get (accepted_tablets logs) i ≡ Some b
    → slice_get b.records j ≡ Some r → ((n c : ℕ) → commit_of logs n ≡ Some c → HasNoCase logs n c b)
    → Each (AgreesAt logs) (record_events k r)
record-agrees logs i j b r k at there v = go r.kind refl
  where
    go : (kind : Kind) → r.kind ≡ kind → Each (AgreesAt logs) (kind_events k r.time kind)
    go (log.Write ops) e = each-map (AgreesAt logs) (λ v. Put r.time v) (puts k ops) (λ v. tt)
    go (log.Intent sub n ops) e = each-map (AgreesAt logs) (λ v. Hold n sub r.time v) (puts k ops)
        (λ _. by-commit (commit_of logs n) (IsAfter r.time) tt (λ c q. late-not n c r.time sub ops
        (subst (λ w. (is_some (intent_ops n w) && nat_le c r.time) ≡ false) e
        (any-at (λ x. is_some (intent_ops n x.kind) && nat_le c x.time) b.records j r (v n c q).early_intents there))))
    go (log.Apply n d without) e = let c = applied-commits logs i j b r n d without at there e in let case = v n c.0 c.1 in (
      (
        c.1 ∙ ap Some (sym (differs-not n d c.0 without (subst (λ w. option_map_or (λ c2. not (c2 == c.0)) (applies n w) false ≡ false) e
            (any-at (λ x. option_map_or (λ c2. not (c2 == c.0)) (applies n x.kind) false) b.records j r case.same_commit there)))),
        sym (undoes-not n d without (undone logs n)
            (subst (λ w. option_map_or (λ o. not (bytes_eq o (undone logs n))) (rolls_back n w) false ≡ false) e
            (any-at (λ x. option_map_or (λ o. not (bytes_eq o (undone logs n))) (rolls_back n x.kind) false) b.records j r
            case.same_rollback there))),
      ),
      tt,
    )
    go (log.Abort n) e = (
      by-commit (commit_of logs n) (λ o. o ≡ None) refl (λ c q. absurd (aborts-not n
          (subst (λ w. aborts n w ≡ false) e (any-at (λ x. aborts n x.kind) b.records j r (v n c q).no_abort there)))),
      tt,
    )
    go (log.Safe w) e = (tt, tt)
    go (log.Split at left right) e = tt

pub path-agrees : (logs : Logs) (k : List ℕ) → Agrees logs
    → Each (AgreesAt logs) (events k (path_of (hash_of k) (accepted_tablets logs)))
path-agrees logs k a = let bs = accepted_tablets logs in let P : Record → Type 0 = λ r. Each (AgreesAt logs) (record_events k r) in
    let each = each-from (λ b. Each P b.records) bs (λ i b at. each-from P b.records (λ j r there. record-agrees logs i j b r k at there
    (λ n c q. each-get (HasNoCase logs n c) bs i b (a.no_case n c q) at))) in
    each-flat (AgreesAt logs) (record_events k) P (λ r w. w) (path_of (hash_of k) bs)
    (each-flat P (λ (b : AcceptedTablet). b.records) (λ b. Each P b.records) (λ b w. w) (filter (own (hash_of k)) bs)
    (Each-filter (λ b. Each P b.records) (own (hash_of k)) bs each))

pub path-free : (logs : Logs) (k : List ℕ) → is_valid logs ≡ true → Agrees logs
    → NoStragglers logs k [] (path_of (hash_of k) (accepted_tablets logs))
path-free logs k valid a n c q = let bs = accepted_tablets logs in
    straggles-along bs n c k (each-numbered logs valid)
    ∙ none-any (λ b. holds b.header (hash_of k) && straggles_at n c k (path_above bs b k) b.records) bs
    (Each-weaker (HasNoCase logs n c) (λ b. (holds b.header (hash_of k) && straggles_at n c k (path_above bs b k) b.records) ≡ false)
    (λ b h. off (holds b.header (hash_of k)) _ (h.no_straggler k)) bs (a.no_case n c q))
  where
    off : (x y : Bool) → (x ≡ true → y ≡ false) → (x && y) ≡ false
    off true y f = f refl
    off false y f = refl
