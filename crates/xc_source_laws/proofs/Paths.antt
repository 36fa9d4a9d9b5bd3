-- The path of a key in the books of a source, as they grow, and what waits on it.
--     waits_in n k rs      an operation of n waits at the key after these records
use Rattle.std.proofs.Common.{◌≡◌, ◌≢◌, ℕ, true, false, Bool, List, [], ◌∷◌, ◌++◌, map}
use Rattle.std.proofs.Common.{refl, ap, sym, ◌∙◌, subst, arith, inl, inr, ⊎_elim, ◌⊎◌, append-nil, append_assoc}
use Rattle.std.specs.Prelude.{if◌then◌else◌, ◌&&◌, ◌==◌, filter, flat_map, bytes_eq, nat_le}
use Rattle.std.specs.List.{list_any}
use Rattle.std.specs.Option.{option_map_or}
use Rattle.std.proofs.lemmas.Bool.{cases_Bool}
use Rattle.std.proofs.lemmas.Bool.Decides.{nat_tests}
use Rattle.std.proofs.lemmas.Grind.{flat_map-append}
use Rattle.xc_record.specs.declared.record.Kind.TheVariants as kind
use Rattle.xc_record.specs.declared.record.Op.{Op}
use Rattle.xc_record.specs.declared.record.Record.{Record}
use Rattle.xc_record.specs.Hash.{holds}
use Rattle.xc_record.specs.Order.{safe_value}
use Rattle.xc_record.specs.Path.{Put, Hold, Waiting, waiting, events, record_events}
use Rattle.xc_record.specs.Kept.{is_of_other}
use Rattle.xc_record.specs.Agreement.{straggles_at}
use Rattle.xc_record.specs.Accepted.{AcceptedTablet}
use Rattle.xc_record.proofs.ListLaws.{Each}
use Rattle.xc_model.proofs.Along.{path_of, own}
use Rattle.xc_model.proofs.ApplyPath.{waiting-put, waiting-hold, waiting-safe, waiting-apply, waiting-abort}
use Rattle.xc_model.proofs.FromCases.{path-of-append}
use Rattle.xc_source_laws.proofs.Grow.{taken}
use Rattle.xc_source_laws.proofs.Books.{Free}

-- ---- the path grows

-- no tablet behind an open one is on the path of a hash that it holds
path-behind : (h : ℕ) (b : AcceptedTablet) (ys : List AcceptedTablet) → holds b.header h ≡ true → Each (Free b) ys → path_of h ys ≡ []
path-behind h b [] e f = refl
path-behind h b (y ∷ ys) e f =
    ap (λ c. flat_map (λ (w : AcceptedTablet). w.records) (if c then (y ∷ filter (own h) ys) else filter (own h) ys)) (f.0.0 h e)
    ∙ path-behind h b ys e f.1

path-one : (h : ℕ) (b : AcceptedTablet) → path_of h (b ∷ []) ≡ (if holds b.header h then b.records else [])
path-one h b = go (holds b.header h)
  where
    go : (c : Bool) → flat_map (λ (w : AcceptedTablet). w.records) (if c then (b ∷ []) else []) ≡ (if c then b.records else [])
    go true = append-nil b.records
    go false = refl

path-three : (h : ℕ) (xs : List AcceptedTablet) (b : AcceptedTablet) (ys : List AcceptedTablet)
    → path_of h (xs ++ b ∷ ys) ≡ path_of h xs ++ ((if holds b.header h then b.records else []) ++ path_of h ys)
path-three h xs b ys =
    path-of-append h xs (b ∷ ys)
    ∙ ap (λ w. path_of h xs ++ w) (path-of-append h (b ∷ []) ys ∙ ap (λ w. w ++ path_of h ys) (path-one h b))

pub path-held : (h : ℕ) (xs : List AcceptedTablet) (b : AcceptedTablet) (ys : List AcceptedTablet) (r : Record) → holds b.header h ≡ true
    → Each (Free b) ys → path_of h (xs ++ taken b r ∷ ys) ≡ path_of h (xs ++ b ∷ ys) ++ r ∷ []
path-held h xs b ys r e f =
    let none = path-behind h b ys e f in
    path-three h xs (taken b r) ys
    ∙ ap (λ c. path_of h xs ++ ((if c then (b.records ++ r ∷ []) else []) ++ path_of h ys)) e
    ∙ ap (λ w. path_of h xs ++ ((b.records ++ r ∷ []) ++ w)) none
    ∙ ap (λ w. path_of h xs ++ w) (append-nil (b.records ++ r ∷ []))
    ∙ sym (append_assoc (path_of h xs) b.records (r ∷ []))
    ∙ ap (λ w. (path_of h xs ++ w) ++ r ∷ []) (sym (append-nil b.records))
    ∙ ap (λ w. (path_of h xs ++ (b.records ++ w)) ++ r ∷ []) (sym none)
    ∙ ap (λ c. (path_of h xs ++ ((if c then b.records else []) ++ path_of h ys)) ++ r ∷ []) (sym e)
    ∙ ap (λ w. w ++ r ∷ []) (sym (path-three h xs b ys))

pub path-other : (h : ℕ) (xs : List AcceptedTablet) (b : AcceptedTablet) (ys : List AcceptedTablet) (r : Record) → holds b.header h ≡ false
    → path_of h (xs ++ taken b r ∷ ys) ≡ path_of h (xs ++ b ∷ ys)
path-other h xs b ys r e =
    path-three h xs (taken b r) ys
    ∙ ap (λ c. path_of h xs ++ ((if c then (b.records ++ r ∷ []) else []) ++ path_of h ys)) e
    ∙ ap (λ c. path_of h xs ++ ((if c then b.records else []) ++ path_of h ys)) (sym e) ∙ sym (path-three h xs b ys)

path-bare : (h : ℕ) (b : AcceptedTablet) → b.records ≡ [] → path_of h (b ∷ []) ≡ []
path-bare h b e = path-one h b ∙ go (holds b.header h) b.records e
  where
    go : (c : Bool) (none : List Record) → none ≡ [] → (if c then none else []) ≡ []
    go true none q = q
    go false none q = refl

-- children with no record are on no path yet
pub path-halves : (h : ℕ) (bs : List AcceptedTablet) (c : AcceptedTablet) (l r : AcceptedTablet) → l.records ≡ [] → r.records ≡ []
    → path_of h ((bs ++ l ∷ []) ++ r ∷ []) ≡ path_of h bs
path-halves h bs c l r el er =
    path-of-append h (bs ++ l ∷ []) (r ∷ []) ∙ ap (λ w. path_of h (bs ++ l ∷ []) ++ w) (path-bare h r er)
    ∙ append-nil (path_of h (bs ++ l ∷ [])) ∙ path-of-append h bs (l ∷ []) ∙ ap (λ w. path_of h bs ++ w) (path-bare h l el)
    ∙ append-nil (path_of h bs)

-- ---- what waits

abbrev pub waits_in : ℕ → List ℕ → List Record → Bool
waits_in n k rs = list_any (λ w. w.txn == n) (waiting (events k rs))

events-push : (k : List ℕ) (rs : List Record) (r : Record) → events k (rs ++ r ∷ []) ≡ events k rs ++ record_events k r
events-push k rs r =
    flat_map-append (record_events k) rs (r ∷ []) ∙ ap (λ w. events k rs ++ w) (append-nil (record_events k r))

-- the transaction's operation of the key waits, or one waited before
pub waits-intent : (n m sub time : ℕ) (op : Op) (k : List ℕ) (rs : List Record)
    → waits_in n k (rs ++ record { time = time; kind = kind.Intent sub m (op ∷ []) } ∷ []) ≡ true
    → (waits_in n k rs ≡ true) ⊎ ((m ≡ n) × (bytes_eq k op.key ≡ true))
waits-intent n m sub time op k rs e =
    go (bytes_eq k op.key) refl
    (subst (λ es. list_any (λ w. w.txn == n) (waiting es) ≡ true)
    (events-push k rs (record { time = time; kind = kind.Intent sub m (op ∷ []) })) e)
  where
    either : (ws : List Waiting) → list_any (λ w. w.txn == n) (ws ++ record { txn = m; sub = sub; value = op.value } ∷ []) ≡ true
        → (list_any (λ w. w.txn == n) ws ≡ true) ⊎ (m ≡ n)
    either [] e = inr (grind (arith, nat_tests))
    either (w ∷ ws) e = ⊎_elim (λ q. inl (grind (arith, q))) (λ q. ⊎_elim (λ z. inl (grind (arith, z))) (λ z. inr z)
        (either ws (grind (arith, q)))) (cases_Bool (w.txn == n))

    go : (b : Bool) → bytes_eq k op.key ≡ b
        → list_any (λ w. w.txn == n) (waiting (events k rs ++ map (λ v. Hold m sub time v) (if b then (op.value ∷ []) else []))) ≡ true
        → (waits_in n k rs ≡ true) ⊎ ((m ≡ n) × (bytes_eq k op.key ≡ true))
    go true q w =
        ⊎_elim (λ z. inl z) (λ z. inr (z, q))
        (either (waiting (events k rs)) (subst (λ ws. list_any (λ w. w.txn == n) ws ≡ true)
        (waiting-hold (events k rs) m sub time op.value) w))
    go false q w = inl (subst (λ es. list_any (λ w. w.txn == n) (waiting es) ≡ true) (append-nil (events k rs)) w)

pub waits-write : (n time : ℕ) (op : Op) (k : List ℕ) (rs : List Record)
    → waits_in n k (rs ++ record { time = time; kind = kind.Write (op ∷ []) } ∷ []) ≡ waits_in n k rs
waits-write n time op k rs =
    ap (λ es. list_any (λ w. w.txn == n) (waiting es)) (events-push k rs (record { time = time; kind = kind.Write (op ∷ []) }))
    ∙ go (bytes_eq k op.key)
  where
    go : (b : Bool) → list_any (λ w. w.txn == n) (waiting (events k rs ++ map (λ v. Put time v) (if b then (op.value ∷ []) else [])))
        ≡ waits_in n k rs
    go true = ap (list_any (λ w. w.txn == n)) (waiting-put (events k rs) time op.value)
    go false = ap (λ es. list_any (λ w. w.txn == n) (waiting es)) (append-nil (events k rs))

pub waits-safe : (n time v : ℕ) (k : List ℕ) (rs : List Record)
    → waits_in n k (rs ++ record { time = time; kind = kind.Safe v } ∷ []) ≡ waits_in n k rs
waits-safe n time v k rs =
    ap (λ es. list_any (λ w. w.txn == n) (waiting es)) (events-push k rs (record { time = time; kind = kind.Safe v }))
    ∙ ap (list_any (λ w. w.txn == n)) (waiting-safe (events k rs) v)

pub waits-split : (n time at left right : ℕ) (k : List ℕ) (rs : List Record)
    → waits_in n k (rs ++ record { time = time; kind = kind.Split at left right } ∷ []) ≡ waits_in n k rs
waits-split n time at left right k rs =
    ap (λ es. list_any (λ w. w.txn == n) (waiting es)) (events-push k rs (record { time = time; kind = kind.Split at left right }))
    ∙ ap (λ es. list_any (λ w. w.txn == n) (waiting es)) (append-nil (events k rs))

-- of what waits, what is of another transaction
other-any : (n m : ℕ) (ws : List Waiting) → list_any (λ w. w.txn == n) (filter (is_of_other m) ws) ≡ true
    → (m ≢ n) × (list_any (λ w. w.txn == n) ws ≡ true)
other-any n m [] e = cc
other-any n m (w ∷ ws) e = go (m == w.txn) refl e (λ q. other-any n m ws q)
  where
    go : (b : Bool) → (m == w.txn) ≡ b
        → list_any (λ w. w.txn == n) (if (if b then false else true) then (w ∷ filter (is_of_other m) ws) else filter (is_of_other m) ws)
        ≡ true
        → (list_any (λ w. w.txn == n) (filter (is_of_other m) ws) ≡ true → (m ≢ n) × (list_any (λ w. w.txn == n) ws ≡ true))
        → (m ≢ n) × (list_any (λ w. w.txn == n) (w ∷ ws) ≡ true)
    go true q z more = let deep = more z in (deep.0, (let d = deep.1 in grind (arith, d)))
    go false q z more =
        ⊎_elim (λ t. ((λ s. absurd (differ s t q)), grind (arith, t)))
        (λ f. let deep = more (grind (arith, f, z)) in (deep.0, (let d = deep.1 in grind (arith, d)))) (cases_Bool (w.txn == n))
      where
        differ : m ≡ n → (w.txn == n) ≡ true → (m == w.txn) ≡ false → ⊥
        differ s t f = grind (arith, nat_tests)

pub waits-apply : (n m c time : ℕ) (without : List ℕ) (k : List ℕ) (rs : List Record)
    → waits_in n k (rs ++ record { time = time; kind = kind.Apply m c without } ∷ []) ≡ true → (m ≢ n) × (waits_in n k rs ≡ true)
waits-apply n m c time without k rs e =
    other-any n m (waiting (events k rs))
    (subst (λ ws. list_any (λ w. w.txn == n) ws ≡ true) (waiting-apply (events k rs) m c without)
    (subst (λ es. list_any (λ w. w.txn == n) (waiting es) ≡ true)
    (events-push k rs (record { time = time; kind = kind.Apply m c without })) e))

pub waits-abort : (n m time : ℕ) (k : List ℕ) (rs : List Record)
    → waits_in n k (rs ++ record { time = time; kind = kind.Abort m } ∷ []) ≡ true → (m ≢ n) × (waits_in n k rs ≡ true)
waits-abort n m time k rs e =
    other-any n m (waiting (events k rs))
    (subst (λ ws. list_any (λ w. w.txn == n) ws ≡ true) (waiting-abort (events k rs) m)
    (subst (λ es. list_any (λ w. w.txn == n) (waiting es) ≡ true)
    (events-push k rs (record { time = time; kind = kind.Abort m })) e))

-- ---- stragglers

-- the record is a safe record of value at or above the commit
abbrev pub passes : ℕ → Record → Bool
passes c r = option_map_or (λ value. nat_le c value) (safe_value r.kind) false

if-false : (a b : Bool) → a ≡ false → b ≡ false → (if a then true else b) ≡ false
if-false a b e f = grind (arith, e, f)

if-parts : (a b : Bool) → (if a then true else b) ≡ false → (a ≡ false) × (b ≡ false)
if-parts true b e = cc
if-parts false b e = (refl, e)

pub straggles-push : (n c : ℕ) (k : List ℕ) (before rs : List Record) (r : Record) → straggles_at n c k before rs ≡ false
    → (passes c r && waits_in n k (before ++ rs)) ≡ false → straggles_at n c k before (rs ++ r ∷ []) ≡ false
straggles-push n c k before [] r e f =
    if-false (passes c r && waits_in n k before) false (subst (λ w. (passes c r && waits_in n k w) ≡ false) (append-nil before) f) refl
straggles-push n c k before (q ∷ rs) r e f =
    let p = if-parts (passes c q && waits_in n k before) (straggles_at n c k (before ++ q ∷ []) rs) e in
    if-false (passes c q && waits_in n k before) (straggles_at n c k (before ++ q ∷ []) (rs ++ r ∷ [])) p.0
    (straggles-push n c k (before ++ q ∷ []) rs r p.1 (subst (λ w. (passes c r && waits_in n k w) ≡ false)
    (sym (append_assoc before (q ∷ []) rs)) f))

-- no safe record comes up to the commit
pub straggles-late : (n c : ℕ) (k : List ℕ) (before rs : List Record) → Each (λ r. passes c r ≡ false) rs
    → straggles_at n c k before rs ≡ false
straggles-late n c k before [] h = refl
straggles-late n c k before (r ∷ rs) h =
    if-false (passes c r && waits_in n k before) (straggles_at n c k (before ++ r ∷ []) rs)
    (ap (λ b. b && waits_in n k before) h.0) (straggles-late n c k (before ++ r ∷ []) rs h.1)

-- no straggler on a path is none on each part of it
pub straggles-part : (n c : ℕ) (k : List ℕ) (before xs ys zs : List Record) → straggles_at n c k before (xs ++ (ys ++ zs)) ≡ false
    → straggles_at n c k (before ++ xs) ys ≡ false
straggles-part n c k before [] [] zs e = refl
straggles-part n c k before [] (y ∷ ys) zs e =
    let p = if-parts (passes c y && waits_in n k before) (straggles_at n c k (before ++ y ∷ []) (ys ++ zs)) e in
    subst (λ w. straggles_at n c k w (y ∷ ys) ≡ false) (sym (append-nil before))
    (if-false (passes c y && waits_in n k before) (straggles_at n c k (before ++ y ∷ []) ys) p.0
    (subst (λ w. straggles_at n c k w ys ≡ false) (append-nil (before ++ y ∷ [])) (straggles-part n c k (before ++ y ∷ []) [] ys zs p.1)))
straggles-part n c k before (x ∷ xs) ys zs e =
    let p = if-parts (passes c x && waits_in n k before) (straggles_at n c k (before ++ x ∷ []) (xs ++ (ys ++ zs))) e in
    subst (λ w. straggles_at n c k w ys ≡ false) (append_assoc before (x ∷ []) xs)
    (straggles-part n c k (before ++ x ∷ []) xs ys zs p.1)
