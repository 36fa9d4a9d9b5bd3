-- Laws of waiting at a key, by the records and by the events of the key.
use Rattle.std.proofs.Common.{◌≡◌, ℕ, Bool, true, false, ◌||◌, List, [], ◌∷◌, ◌++◌, map, refl, ap, sym, ◌∙◌, arith}
use Rattle.std.proofs.lemmas.Bool.Decides.{nat_tests}
use Rattle.std.proofs.lemmas.List.Folds.{list_any-append}
use Rattle.std.specs.Prelude.{◌&&◌, ◌==◌, nat_le, if◌then◌else◌}
use Rattle.std.specs.Option.{option_map_or}
use Rattle.xc_record.specs.declared.record.Kind.{Kind}
use Rattle.xc_record.specs.declared.record.Kind.TheVariants as kind
use Rattle.xc_record.specs.declared.record.Record.{Record}
use Rattle.xc_record.specs.Order.{safe_value}
use Rattle.xc_record.specs.Path.{Event, Put, Hold, Apply, Abort, Safe, Written, puts, kind_events, events, Fate, Waits, Taken, Dropped}
use Rattle.xc_record.specs.Path.{RolledBack, fate, fate_at, waiting_by, waiting}
use Rattle.xc_record.specs.Agreement.{straggles_at}
use Rattle.xc_record.specs.Lists.{has}
use Rattle.xc_record.proofs.IntentLaws.{at_key}
use Rattle.xc_record.proofs.StragglerKeys.{waits_in, some_put, some_put-key}
use Rattle.xc_agree.specs.Held.{wait_kind, waits_by}
use Rattle.xc_agree.proofs.WaitLaws.{waits-append}
use Rattle.xc_agree.proofs.EndLaws.{straggles}

abbrev is_waits : Fate → Bool
is_waits Waits = true
is_waits (Taken commit) = false
is_waits RolledBack = false
is_waits Dropped = false

-- no later apply or abort decides, whatever the subtransaction
abbrev waits_on : ℕ → List Event → Bool
waits_on n es = is_waits (fate n 0 es)

apply-decides : (sub commit : ℕ) (without : List ℕ) → is_waits (fate_at sub commit without) ≡ false
apply-decides sub commit without =
    elim (has sub without) as (λ b. is_waits (if b then RolledBack else Taken commit) ≡ false) [ true ↦ refl | false ↦ refl ]

waits-alike : (n sub : ℕ) (es : List Event) → is_waits (fate n sub es) ≡ waits_on n es
waits-alike n sub [] = refl
waits-alike n sub (Put time v ∷ es) = waits-alike n sub es
waits-alike n sub (Hold m other time v ∷ es) = waits-alike n sub es
waits-alike n sub (Safe value ∷ es) = waits-alike n sub es
waits-alike n sub (Abort m ∷ es) =
    elim (m == n) as (λ b. is_waits (if b then Dropped else fate n sub es) ≡ is_waits (if b then Dropped else fate n 0 es))
    [ true ↦ refl | false ↦ waits-alike n sub es ]
waits-alike n sub (Apply m commit without ∷ es) =
    elim (m == n) as
    (λ b. is_waits (if b then fate_at sub commit without else fate n sub es) ≡ is_waits
    (if b then fate_at 0 commit without else fate n 0 es))
    [ true ↦ apply-decides sub commit without ∙ sym (apply-decides 0 commit without) | false ↦ waits-alike n sub es ]

fate-puts : (n sub time : ℕ) (vs : List Written) (es : List Event) → fate n sub (map (λ v. Put time v) vs ++ es) ≡ fate n sub es
fate-puts n sub time [] es = refl
fate-puts n sub time (v ∷ vs) es = fate-puts n sub time vs es

fate-holds : (n sub m other time : ℕ) (vs : List Written) (es : List Event)
    → fate n sub (map (λ v. Hold m other time v) vs ++ es) ≡ fate n sub es
fate-holds n sub m other time [] es = refl
fate-holds n sub m other time (v ∷ vs) es = fate-holds n sub m other time vs es

waiting-puts : (n time : ℕ) (vs : List Written) (es : List Event) → waiting (map (λ v. Put time v) vs ++ es) ≡ waiting es
waiting-puts n time [] es = refl
waiting-puts n time (v ∷ vs) es = waiting-puts n time vs es

waits-by-fate : (n m sub : ℕ) (f : Fate) (v : Written) → waits_in n (waiting_by f m sub v) ≡ (m == n && is_waits f)
waits-by-fate n m sub Waits v = grind (arith, nat_tests)
waits-by-fate n m sub (Taken commit) v = grind (arith, nat_tests)
waits-by-fate n m sub RolledBack v = grind (arith, nat_tests)
waits-by-fate n m sub Dropped v = grind (arith, nat_tests)

fate-equal : (n m : ℕ) (es : List Event) → (m == n && waits_on m es) ≡ (m == n && waits_on n es)
fate-equal n m es = grind (arith, nat_tests)

waiting-holds : (n m sub time : ℕ) (vs : List Written) (es : List Event)
    → waits_in n (waiting (map (λ v. Hold m sub time v) vs ++ es)) ≡ ((some_put vs && (m == n && waits_on n es)) || waits_in n (waiting es))
waiting-holds n m sub time [] es = refl
waiting-holds n m sub time (v ∷ vs) es =
    let f : is_waits (fate m sub (map (λ v. Hold m sub time v) vs ++ es)) ≡ waits_on m es =
    ap is_waits (fate-holds m sub m sub time vs es) ∙ waits-alike m sub es in
    list_any-append (λ w. w.txn == n) (waiting_by (fate m sub (map (λ v. Hold m sub time v) vs ++ es)) m sub v)
    (waiting (map (λ v. Hold m sub time v) vs ++ es))
    ∙ ap (λ b. b || waits_in n (waiting (map (λ v. Hold m sub time v) vs ++ es)))
    (waits-by-fate n m sub (fate m sub (map (λ v. Hold m sub time v) vs ++ es)) v ∙ ap (λ x. m == n && x) f ∙ fate-equal n m es)
    ∙ ap (λ b. (m == n && waits_on n es) || b) (waiting-holds n m sub time vs es)
    ∙ join (m == n && waits_on n es) (some_put vs) (waits_in n (waiting es))
  where
    join : (a p w : Bool) → (a || ((p && a) || w)) ≡ ((true && a) || w)
    join a p w = grind arith

-- what waits by the events is what waits by the records
pub waits-events : (n : ℕ) (k : List ℕ) (w : Bool) (rs : List Record)
    → waits_by n (at_key k) w rs ≡ ((w && waits_on n (events k rs)) || waits_in n (waiting (events k rs)))
waits-events n k w [] = grind arith
waits-events n k w (r ∷ rs) = go r.time r.kind (λ w. waits-events n k w rs)
  where
    settle : (b v : Bool) (f : Fate) → is_waits f ≡ false
        → (((if b then false else w) && waits_on n (events k rs)) || v) ≡ ((w && is_waits (if b then f else fate n 0 (events k rs))) || v)
    settle true v f e = rw e (grind arith)
    settle false v f e = refl

    go : (time : ℕ) (kind : Kind)
        → ((w : Bool) → waits_by n (at_key k) w rs ≡ ((w && waits_on n (events k rs)) || waits_in n (waiting (events k rs))))
        → waits_by n (at_key k) (wait_kind n (at_key k) w kind) rs ≡
        ((w && waits_on n (kind_events k time kind ++ events k rs)) || waits_in n (waiting (kind_events k time kind ++ events k rs)))
    go time (kind.Write ops) ih =
        ih w ∙ sym (ap (λ f. (w && is_waits f) || waits_in n (waiting (map (λ v. Put time v) (puts k ops) ++ events k rs)))
        (fate-puts n 0 time (puts k ops) (events k rs))
        ∙ ap (λ x. (w && waits_on n (events k rs)) || waits_in n x) (waiting-puts n time (puts k ops) (events k rs)))
    go time (kind.Intent sub m ops) ih =
        let a = fate-holds n 0 m sub time (puts k ops) (events k rs) in
        let b = waiting-holds n m sub time (puts k ops) (events k rs) in
        let d = some_put-key k ops in
        ih (if m == n && at_key k ops then true else w)
        ∙ join (m == n) (at_key k ops) w (waits_on n (events k rs)) (waits_in n (waiting (events k rs)))
        ∙ sym (ap (λ f. (w && is_waits f) || waits_in n (waiting (map (λ v. Hold m sub time v) (puts k ops) ++ events k rs))) a
        ∙ ap (λ x. (w && waits_on n (events k rs)) || x) b
        ∙ ap (λ p. (w && waits_on n (events k rs)) || ((p && (m == n && waits_on n (events k rs))) || waits_in n (waiting (events k rs))))
        d)
      where
        join : (e p w f v : Bool) → (((if e && p then true else w) && f) || v) ≡ ((w && f) || ((p && (e && f)) || v))
        join e p w f v = grind arith
    go time (kind.Apply m commit without) ih =
        ih (if m == n then false else w)
        ∙ settle (m == n) (waits_in n (waiting (events k rs))) (fate_at 0 commit without) (apply-decides 0 commit without)
    go time (kind.Abort m) ih = ih (if m == n then false else w) ∙ settle (m == n) (waits_in n (waiting (events k rs))) Dropped refl
    go time (kind.Safe value) ih = ih w
    go time (kind.Split at left right) ih = ih w

-- a straggler at the key, by the records
pub straggles-key : (n c : ℕ) (k : List ℕ) (before rs : List Record)
    → straggles_at n c k before rs ≡ straggles (at_key k) n c (waits_by n (at_key k) false before) rs
straggles-key n c k before [] = refl
straggles-key n c k before (r ∷ rs) =
    let w : waits_by n (at_key k) false before ≡ waits_in n (waiting (events k before)) = waits-events n k false before in
    step (option_map_or (λ value. nat_le c value) (safe_value r.kind) false) (waits_in n (waiting (events k before)))
    (waits_by n (at_key k) false before) w
    (straggles_at n c k (before ++ r ∷ []) rs)
    (straggles (at_key k) n c (wait_kind n (at_key k) (waits_by n (at_key k) false before) r.kind) rs)
    (straggles-key n c k (before ++ r ∷ []) rs ∙ ap (λ x. straggles (at_key k) n c x rs) (waits-append n (at_key k) false before (r ∷ [])))
  where
    step : (s w v : Bool) → v ≡ w → (x y : Bool) → x ≡ y → (if s && w then true else x) ≡ ((s && v) || y)
    step s w v e x y f = rw (e, f) (grind arith)
