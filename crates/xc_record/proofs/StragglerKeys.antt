-- A straggler is found at a tablet exactly where one stands at some key: the keys of the transaction's own operations are enough.
use Rattle.std.proofs.Common.{◌≡◌, ℕ, Bool, true, false, ◌||◌, List, [], ◌∷◌, ◌++◌, map, refl, ap, sym, ◌∙◌, append_assoc}
use Rattle.std.proofs.lemmas.Bool.{or_left, or_right, and_parts}
use Rattle.std.proofs.lemmas.List.Folds.{list_any-append}
use Rattle.std.proofs.lemmas.Map.Keys.{any_passes_from_place}
use Rattle.std.specs.Prelude.{◌&&◌, ◌==◌, ◌↔◌, Some, None, nat_le, nat_lt, if◌then◌else◌, bytes_eq, filter}
use Rattle.std.specs.List.{list_any}
use Rattle.std.specs.Option.{option_map_or}
use Rattle.xc_record.specs.declared.record.Kind.{Kind}
use Rattle.xc_record.specs.declared.record.Kind.TheVariants as kind
use Rattle.xc_record.specs.declared.record.Op.{Op}
use Rattle.xc_record.specs.declared.record.Record.{Record}
use Rattle.xc_record.specs.declared.record.Logs.{Logs}
use Rattle.xc_record.specs.Hash.{hash_of, holds}
use Rattle.xc_record.specs.Order.{safe_value}
use Rattle.xc_record.specs.Accepted.{AcceptedTablet, accepted_tablets, accepted_tablet}
use Rattle.xc_record.specs.Path.{Event, Put, Hold, Written, puts, kind_events, events, Fate, Waits, Taken, RolledBack, Dropped, fate}
use Rattle.xc_record.specs.Path.{Waiting, waiting_by, waiting}
use Rattle.xc_record.specs.Commits.{intent_ops, provisional_ops}
use Rattle.xc_record.specs.Agreement.{straggles_at, path_above, straggler, StragglesAt}
use Rattle.xc_record.proofs.IntentLaws.{any-flat, any-filter, any-elim, any_intent, any-provisional, at_key, key-passes}

abbrev pub waits_in : ℕ → List Waiting → Bool
waits_in n ws = list_any (λ w. w.txn == n) ws

-- whether the operations write at the key
abbrev pub some_put : List Written → Bool
some_put [] = false
some_put (v ∷ vs) = true

pub some_put-key : (k : List ℕ) (ops : List Op) → some_put (puts k ops) ≡ at_key k ops
some_put-key k [] = refl
some_put-key k (op ∷ ops) = go (some_put-key k ops) (bytes_eq k op.key)
  where
    go : some_put (puts k ops) ≡ at_key k ops → (b : Bool)
        → some_put (if b then (op.value ∷ puts k ops) else puts k ops) ≡ (b || at_key k ops)
    go ih true = refl
    go ih false = ih

puts-wait : (n time : ℕ) (vs : List Written) (es : List Event)
    → waits_in n (waiting (map (λ v. Put time v) vs ++ es)) ≡ waits_in n (waiting es)
puts-wait n time [] es = refl
puts-wait n time (v ∷ vs) es = puts-wait n time vs es

-- one more operation of m
by-fate : (n m sub : ℕ) (f : Fate) (v : Written) (ws : List Waiting) → waits_in n (waiting_by f m sub v ++ ws) ≡ true
    → (m == n || waits_in n ws) ≡ true
by-fate n m sub Waits v ws e = e
by-fate n m sub (Taken commit) v ws e = or_right (m == n) _ e
by-fate n m sub RolledBack v ws e = or_right (m == n) _ e
by-fate n m sub Dropped v ws e = or_right (m == n) _ e

holds-wait : (n m sub time : ℕ) (vs : List Written) (es : List Event) → waits_in n (waiting (map (λ v. Hold m sub time v) vs ++ es)) ≡ true
    → ((m == n && some_put vs) || waits_in n (waiting es)) ≡ true
holds-wait n m sub time [] es e = or_right (m == n && false) _ e
holds-wait n m sub time (v ∷ vs) es e =
    let rest : List Event = map (λ v. Hold m sub time v) vs ++ es in
    join (m == n) (some_put vs) (waits_in n (waiting rest)) (waits_in n (waiting es)) (by-fate n m sub (fate m sub rest) v (waiting rest) e)
    (holds-wait n m sub time vs es)
  where
    join : (a p w x : Bool) → (a || w) ≡ true → (w ≡ true → ((a && p) || x) ≡ true) → ((a && true) || x) ≡ true
    join true p w x e ih = refl
    join false p w x e ih = ih e

-- what waits at a key is of an intent with an operation there
waits-intent : (n : ℕ) (k : List ℕ) (rs : List Record) → waits_in n (waiting (events k rs)) ≡ true
    → list_any (any_intent n (λ op. bytes_eq k op.key)) rs ≡ true
waits-intent n k [] e = e
waits-intent n k (r ∷ rs) e = go r.time r.kind (waits-intent n k rs) e
  where
    go : (time : ℕ) (kind : Kind)
        → (waits_in n (waiting (events k rs)) ≡ true → list_any (any_intent n (λ op. bytes_eq k op.key)) rs ≡ true)
        → waits_in n (waiting (kind_events k time kind ++ events k rs)) ≡ true
        → (option_map_or (λ ops. at_key k ops) (intent_ops n kind) false || list_any (any_intent n (λ op. bytes_eq k op.key)) rs) ≡ true
    go time (kind.Write ops) ih e = ih (sym (puts-wait n time (puts k ops) (events k rs)) ∙ e)
    go time (kind.Apply m commit without) ih e = ih e
    go time (kind.Abort m) ih e = ih e
    go time (kind.Safe value) ih e = ih e
    go time (kind.Split at left right) ih e = ih e
    go time (kind.Intent sub m ops) ih e =
        pick (m == n) (waits_in n (waiting (events k rs))) ih
        (ap (λ p. (m == n && p) || waits_in n (waiting (events k rs))) (sym (some_put-key k ops))
        ∙ holds-wait n m sub time (puts k ops) (events k rs) e)
      where
        pick : (a w : Bool) → (w ≡ true → list_any (any_intent n (λ op. bytes_eq k op.key)) rs ≡ true) → ((a && at_key k ops) || w) ≡ true
            → (option_map_or (λ ops. at_key k ops) (if a then Some ops else None) false || list_any (any_intent n (λ op. bytes_eq k op.key))
            rs) ≡ true
        pick true w ih e = either (at_key k ops) w ih e
          where
            either : (p w : Bool) → (w ≡ true → list_any (any_intent n (λ op. bytes_eq k op.key)) rs ≡ true) → (p || w) ≡ true
                → (p || list_any (any_intent n (λ op. bytes_eq k op.key)) rs) ≡ true
            either true w ih e = refl
            either false w ih e = ih e
        pick false w ih e = ih e

straggles-intent : (n c : ℕ) (k : List ℕ) (before rs : List Record) → straggles_at n c k before rs ≡ true
    → list_any (any_intent n (λ op. bytes_eq k op.key)) (before ++ rs) ≡ true
straggles-intent n c k before [] e = cc
straggles-intent n c k before (r ∷ rs) e =
    go (option_map_or (λ value. nat_le c value) (safe_value r.kind) false) (list_any (λ w. w.txn == n) (waiting (events k before))) refl
    (λ e. ap (list_any (any_intent n (λ op. bytes_eq k op.key))) (sym (append_assoc before (r ∷ []) rs))
    ∙ straggles-intent n c k (before ++ r ∷ []) rs e) e
  where
    go : (s w : Bool) → list_any (λ w. w.txn == n) (waiting (events k before)) ≡ w
        → (straggles_at n c k (before ++ r ∷ []) rs ≡ true → list_any (any_intent n (λ op. bytes_eq k op.key)) (before ++ r ∷ rs) ≡ true)
        → (if s && w then true else straggles_at n c k (before ++ r ∷ []) rs) ≡ true
        → list_any (any_intent n (λ op. bytes_eq k op.key)) (before ++ r ∷ rs) ≡ true
    go true true f ih e =
        list_any-append (any_intent n (λ op. bytes_eq k op.key)) before (r ∷ rs)
        ∙ or_left (list_any (any_intent n (λ op. bytes_eq k op.key)) before) _ (waits-intent n k before f)
    go true false f ih e = ih e
    go false w f ih e = ih e

-- an intent of the records of the path above a tablet, or of the tablet's own, is one of the logs
path-intent : (logs : Logs) (n i : ℕ) (b : AcceptedTablet) (k : List ℕ) (q : Record → Bool) → accepted_tablet logs i ≡ Some b
    → list_any q (path_above (accepted_tablets logs) b k ++ b.records) ≡ true
    → list_any (λ b. list_any q b.records) (accepted_tablets logs) ≡ true
path-intent logs n i b k q at e =
    go (list_any q (path_above (accepted_tablets logs) b k)) refl
    (sym (list_any-append q (path_above (accepted_tablets logs) b k) b.records) ∙ e)
  where
    go : (a : Bool) → list_any q (path_above (accepted_tablets logs) b k) ≡ a → (a || list_any q b.records) ≡ true
        → list_any (λ b. list_any q b.records) (accepted_tablets logs) ≡ true
    go true f e =
        any-filter (λ (a : AcceptedTablet). list_any q a.records) (λ a. holds a.header (hash_of k) && nat_lt a.header.id b.header.id)
        (accepted_tablets logs)
        (sym (any-flat q (λ (a : AcceptedTablet). a.records)
        (filter (λ a. holds a.header (hash_of k) && nat_lt a.header.id b.header.id) (accepted_tablets logs))) ∙ f)
    go false f e = any_passes_from_place (λ (a : AcceptedTablet). list_any q a.records) (accepted_tablets logs) i b at e

-- a straggler is found at a tablet exactly where one stands at some key
pub straggler-found : (logs : Logs) (n c i : ℕ) (b : AcceptedTablet) → accepted_tablet logs i ≡ Some b
    → (straggler logs n c b ≡ true) ↔ ((k : List ℕ) × StragglesAt logs n c b k)
unfolding straggler
straggler-found logs n c i b at = (forth, back)
  where
    stands : List ℕ → Bool
    stands k = holds b.header (hash_of k) && straggles_at n c k (path_above (accepted_tablets logs) b k) b.records

    forth : list_any
        (λ op. holds b.header (hash_of op.key) && straggles_at n c op.key (path_above (accepted_tablets logs) b op.key) b.records)
        (provisional_ops logs n) ≡ true → (k : List ℕ) × StragglesAt logs n c b k
    forth e =
        let x = any-elim
        (λ (op : Op). holds b.header (hash_of op.key) && straggles_at n c op.key (path_above (accepted_tablets logs) b op.key)
        b.records) (provisional_ops logs n) e in
        let parts = and_parts (holds b.header (hash_of x.0.key))
        (straggles_at n c x.0.key (path_above (accepted_tablets logs) b x.0.key) b.records) x.1 in
        (x.0.key, record { within = parts.0; straggles = parts.1 })

    back : (k : List ℕ) × StragglesAt logs n c b k
        → list_any (λ op. holds b.header (hash_of op.key) && straggles_at n c op.key (path_above (accepted_tablets logs) b op.key)
        b.records) (provisional_ops logs n) ≡ true
    back x =
        let own : at_key x.0 (provisional_ops logs n) ≡ true =
        any-provisional logs n (λ op. bytes_eq x.0 op.key)
        ∙ path-intent logs n i b x.0 (any_intent n (λ op. bytes_eq x.0 op.key)) at
        (straggles-intent n c x.0 (path_above (accepted_tablets logs) b x.0) b.records x.1.straggles) in
        key-passes x.0 (λ k. holds b.header (hash_of k) && straggles_at n c k (path_above (accepted_tablets logs) b k) b.records)
        (provisional_ops logs n) own (rw (x.1.within, x.1.straggles) refl)
