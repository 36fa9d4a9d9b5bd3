-- Laws of the operations of a transaction's intents.
--     any_intent n q r      the record is an intent of n with an operation that the test q passes
--     at_key k ops      one of the operations is at the key
use Rattle.std.proofs.Common.{◌≡◌, ℕ, Bool, true, false, ◌||◌, List, [], ◌∷◌, ◌++◌, refl, ap, ◌∙◌, sym, arith}
use Rattle.std.proofs.lemmas.Bool.{or_right}
use Rattle.std.proofs.lemmas.List.Folds.{list_any-append}
use Rattle.std.proofs.lemmas.Slice.Eq.{bytes_eq-Decides}
use Rattle.std.specs.Prelude.{Option, Some, None, if◌then◌else◌, flat_map, filter, bytes_eq}
use Rattle.std.specs.List.{list_any}
use Rattle.std.specs.Option.{option_map_or}
use Rattle.std.specs.declared.cmp.Ordering.{Ordering}
use Rattle.std.specs.Ordering.{is_gt}
use Rattle.xc_record.specs.declared.record.Op.{Op}
use Rattle.xc_record.specs.declared.record.Record.{Record}
use Rattle.xc_record.specs.declared.record.Logs.{Logs}
use Rattle.xc_record.specs.Accepted.{AcceptedTablet, accepted_tablets}
use Rattle.xc_record.specs.Commits.{Provisional, provisional_cmp, intent_ops, sub_of, intents_in, intents, provisional_ops}
use Rattle.xc_record.specs.Lists.{insert_by, sort_by}

any-insert : {X : Type 0} (q : X → Bool) (cmp : X → X → Ordering) (x : X) (ys : List X)
    → list_any q (insert_by cmp x ys) ≡ (q x || list_any q ys)
any-insert q cmp x [] = refl
any-insert {X = X} q cmp x (y ∷ ys) = go (any-insert q cmp x ys) (is_gt (cmp x y))
  where
    swap : (a b c : Bool) → (b || (a || c)) ≡ (a || (b || c))
    swap a b c = grind arith

    go : list_any q (insert_by cmp x ys) ≡ (q x || list_any q ys) → (b : Bool)
        → list_any q (if b then (y ∷ insert_by cmp x ys) else (x ∷ y ∷ ys)) ≡ (q x || (q y || list_any q ys))
    go ih true = ap (λ b. q y || b) ih ∙ swap (q x) (q y) (list_any q ys)
    go ih false = refl

any-sort : {X : Type 0} (q : X → Bool) (cmp : X → X → Ordering) (xs : List X) → list_any q (sort_by cmp xs) ≡ list_any q xs
any-sort q cmp [] = refl
any-sort q cmp (x ∷ xs) = any-insert q cmp x (sort_by cmp xs) ∙ ap (λ b. q x || b) (any-sort q cmp xs)

pub any-flat : {X Y : Type 0} (q : Y → Bool) (f : X → List Y) (xs : List X)
    → list_any q (flat_map f xs) ≡ list_any (λ x. list_any q (f x)) xs
any-flat q f [] = refl
any-flat q f (x ∷ xs) = list_any-append q (f x) (flat_map f xs) ∙ ap (λ b. list_any q (f x) || b) (any-flat q f xs)

pub any-filter : {X : Type 0} (q p : X → Bool) (xs : List X) → list_any q (filter p xs) ≡ true → list_any q xs ≡ true
any-filter q p [] e = e
any-filter {X = X} q p (x ∷ xs) e = go (p x) (any-filter q p xs) e
  where
    go : (b : Bool) → (list_any q (filter p xs) ≡ true → list_any q xs ≡ true)
        → list_any q (if b then (x ∷ filter p xs) else filter p xs) ≡ true → (q x || list_any q xs) ≡ true
    go true ih e = first (q x) ih e
      where
        first : (c : Bool) → (list_any q (filter p xs) ≡ true → list_any q xs ≡ true) → (c || list_any q (filter p xs)) ≡ true
            → (c || list_any q xs) ≡ true
        first true ih e = refl
        first false ih e = ih e
    go false ih e = or_right (q x) _ (ih e)

-- an element that passes
pub any-elim : {X : Type 0} (f : X → Bool) (xs : List X) → list_any f xs ≡ true → (x : X) × (f x ≡ true)
any-elim f [] e = cc
any-elim f (x ∷ xs) e = go (f x) refl (any-elim f xs) e
  where
    go : (b : Bool) → f x ≡ b → (list_any f xs ≡ true → (x : _) × (f x ≡ true)) → (b || list_any f xs) ≡ true → (x : _) × (f x ≡ true)
    go true g ih e = (x, g)
    go false g ih e = ih e

abbrev pub any_intent : ℕ → (Op → Bool) → Record → Bool
any_intent n q r = option_map_or (λ ops. list_any q ops) (intent_ops n r.kind) false

any-intents : (n tablet : ℕ) (q : Op → Bool) (rs : List Record)
    → list_any (λ i. list_any q i.ops) (intents_in n tablet rs) ≡ list_any (any_intent n q) rs
any-intents n tablet q [] = refl
any-intents n tablet q (r ∷ rs) = go (any-intents n tablet q rs) (intent_ops n r.kind)
  where
    go : list_any (λ i. list_any q i.ops) (intents_in n tablet rs) ≡ list_any (any_intent n q) rs → (o : Option (List Op))
        → list_any (λ i. list_any q i.ops)
        (option_map_or (λ ops. record { time = r.time; tablet = tablet; sub = sub_of r.kind; ops = ops } ∷ []) o [] ++ intents_in n tablet
        rs)
        ≡ (option_map_or (λ ops. list_any q ops) o false || list_any (any_intent n q) rs)
    go ih None = ih
    go ih (Some ops) = ap (λ b. list_any q ops || b) ih

any-tablets : (n : ℕ) (q : Op → Bool) (bs : List AcceptedTablet)
    → list_any (λ b. list_any (λ i. list_any q i.ops) (intents_in n b.header.id b.records)) bs ≡ list_any
    (λ b. list_any (any_intent n q) b.records) bs
any-tablets n q [] = refl
any-tablets n q (b ∷ bs) =
    ap (λ x. x || list_any (λ b. list_any (λ i. list_any q i.ops) (intents_in n b.header.id b.records)) bs)
    (any-intents n b.header.id q b.records)
    ∙ ap (λ x. list_any (any_intent n q) b.records || x) (any-tablets n q bs)

-- an operation of a transaction is one of an accepted intent
pub any-provisional : (logs : Logs) (n : ℕ) (q : Op → Bool)
    → list_any q (provisional_ops logs n) ≡ list_any (λ b. list_any (any_intent n q) b.records) (accepted_tablets logs)
unfolding provisional_ops intents
any-provisional logs n q =
    let all : List Provisional = flat_map (λ (b : AcceptedTablet). intents_in n b.header.id b.records) (accepted_tablets logs) in
    any-flat q (λ (i : Provisional). i.ops) (sort_by provisional_cmp all)
    ∙ any-sort (λ (i : Provisional). list_any q i.ops) provisional_cmp all
    ∙ any-flat (λ (i : Provisional). list_any q i.ops) (λ (b : AcceptedTablet). intents_in n b.header.id b.records) (accepted_tablets logs)
    ∙ any-tablets n q (accepted_tablets logs)

abbrev pub at_key : List ℕ → List Op → Bool
at_key k ops = list_any (λ op. bytes_eq k op.key) ops

-- a test that the key passes is passed by an operation at the key
pub key-passes : (k : List ℕ) (q : List ℕ → Bool) (ops : List Op) → at_key k ops ≡ true → q k ≡ true → list_any (λ op. q op.key) ops ≡ true
key-passes k q [] e f = cc
key-passes k q (op ∷ ops) e f = go (bytes_eq k op.key) refl (λ e. key-passes k q ops e f) e
  where
    go : (b : Bool) → bytes_eq k op.key ≡ b → (at_key k ops ≡ true → list_any (λ op. q op.key) ops ≡ true) → (b || at_key k ops) ≡ true
        → (q op.key || list_any (λ op. q op.key) ops) ≡ true
    go true same ih e = rw (ap q (sym ((bytes_eq-Decides k op.key).0 same)) ∙ f) refl
    go false same ih e = or_right (q op.key) _ (ih e)
