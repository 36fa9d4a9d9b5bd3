-- What a finish logs and takes is what the definition applies and logs in turn.
use Rattle.std.proofs.Common.{◌≡◌, ℕ, zero, suc, ◌+◌, ◌-◌, ◌<◌, ◌≤◌, Bool, true, false, List, [], ◌∷◌, ◌++◌, map, take, length, filter}
use Rattle.std.proofs.Common.{Option, Some, None, refl, ap, sym, ◌∙◌, subst, arith, ◌⊎◌, inl, inr, ⊎_elim, is_some, min, ◌^◌}
use Rattle.std.specs.Prelude.{slice_get, slice_set, option_map, ◌&&◌, ◌||◌, if◌then◌else◌, filter_map}
use Rattle.std.specs.List.{list_any, enumerate_from, cons_option}
use Rattle.std.specs.Option.{option_map_or}
use Rattle.std.proofs.lemmas.Bool.{cases_Bool, cases_eq, true≢false, and_parts, and_from, and_right, or_from}
use Rattle.std.proofs.lemmas.Option.{none-some, same_Some, slice_get-map}
use Rattle.std.proofs.lemmas.List.Folds.{list_all-append}
use Rattle.xc_time.specs.Times.{last_time}
use Rattle.xc_record.specs.declared.record.Header.{Header}
use Rattle.xc_record.specs.declared.record.Kind.{Kind}
use Rattle.xc_record.specs.declared.record.Kind.TheVariants.{Safe}
use Rattle.xc_record.specs.declared.record.Record.{Record}
use Rattle.xc_record.specs.declared.record.Tablet.{Tablet}
use Rattle.xc_record.specs.Grown.{grown}
use Rattle.xc_record.specs.Hash.{hash_of, holds}
use Rattle.xc_record.specs.Lists.{least}
use Rattle.xc_record.proofs.ListLaws.{Each}
use Rattle.xc_source.specs.declared.commit.Commit.{Commit}
use Rattle.xc_source.specs.declared.transaction.Provisional.{Provisional}
use Rattle.xc_source.specs.Machine.{Machine, Transaction, commit_of, is_open, with_transaction}
use Rattle.xc_source.specs.Waiting.{is_waiting, waits_on, tablets_of, open_tablets, commit_on, commits_on, pending_of, pending_by, pending}
use Rattle.xc_source.specs.Waiting.{taken, taken_write}
use Rattle.xc_source.specs.Calls.{apply_kind, applied, applied_pairs, all_applied, all_safe, logged, safe_on, safe_value}
use Rattle.xc_source.specs.Holders.{numbered, changed, committed_at}
use Rattle.xc_source.specs.Universe.{Logged, IsUniverse, logged_in, unlogged, unlogged_all}
use Rattle.xc_source.specs.Finish.{are_committed, apply_in, applies_in, safes_in, headers_of, taken_at, all_taken}
use Rattle.xc_source.proofs.CallLaws.{machine_of}
use Rattle.xc_source.proofs.NumberedLaws.{numbered-at, numbered-same, numbered-other, numbered-next}
use Rattle.xc_source.proofs.PendingLaws.{pending_whole}
use Rattle.xc_source.proofs.UniverseLaws.{universe-set, universe-later, same-taken, same-stage, unlogged-logged}

-- ---- going back

unlogged-apply : (ts : List Transaction) (p : ℕ × ℕ) (j : Logged) → committed_at (numbered ts p.0) ≡ true
    → unlogged p.1 (apply_in ts p j) ≡ j
unlogged-apply ts p j c = go (numbered ts p.0) c
  where
    go : (o : Option Transaction) → committed_at o ≡ true
        → unlogged p.1 (option_map_or (λ t. logged_in p.1 (apply_kind p.0 t) j) o j) ≡ j
    go None c = absurd (true≢false (sym c))
    go (Some t) c = unlogged-logged p.1 (apply_kind p.0 t) j

pub unlogged-applies : (ts : List Transaction) (ps : List (ℕ × ℕ)) (j : Logged) → are_committed ts ps ≡ true
    → unlogged_all (map (λ p. p.1) ps) (applies_in ts ps j) ≡ j
unlogged-applies ts [] j c = refl
unlogged-applies ts (p ∷ ps) j c =
    let parts = and_parts (committed_at (numbered ts p.0)) (are_committed ts ps) c in
    ap (unlogged p.1) (unlogged-applies ts ps (apply_in ts p j) parts.1) ∙ unlogged-apply ts p j parts.0

pub unlogged-first : (ts : List Transaction) (ps : List (ℕ × ℕ)) (i : ℕ) (j : Logged) → are_committed ts ps ≡ true
    → unlogged_all (take i (map (λ p. p.1) ps)) (applies_in ts (take i ps) j) ≡ j
unlogged-first ts [] zero j c = refl
unlogged-first ts [] (suc i) j c = refl
unlogged-first ts (p ∷ ps) zero j c = refl
unlogged-first ts (p ∷ ps) (suc i) j c =
    let parts = and_parts (committed_at (numbered ts p.0)) (are_committed ts ps) c in
    ap (unlogged p.1) (unlogged-first ts ps i (apply_in ts p j) parts.1) ∙ unlogged-apply ts p j parts.0

pub unlogged-safes : (ids : List ℕ) (j : Logged) → unlogged_all ids (safes_in ids j) ≡ j
unlogged-safes [] j = refl
unlogged-safes (id ∷ ids) j =
    ap (unlogged id) (unlogged-safes ids (logged_in id (Safe (j.time + 1)) j)) ∙ unlogged-logged id (Safe (j.time + 1)) j

-- ---- headers and times

headers-logged : (id : ℕ) (kind : Kind) (j : Logged) → headers_of (logged_in id kind j).tablets ≡ headers_of j.tablets
headers-logged id kind j = go (slice_get j.tablets id) refl
  where
    r : Record
    r = record { time = j.time + 1; kind = kind }

    go : (o : Option Tablet) → slice_get j.tablets id ≡ o
        → headers_of (option_map_or (λ t. slice_set j.tablets id (grown t r)) o j.tablets) ≡ headers_of j.tablets
    go None e = refl
    go (Some t) e = set-same j.tablets id t e
      where
        set-same : (ts : List Tablet) (i : ℕ) (t : Tablet) → slice_get ts i ≡ Some t
            → headers_of (slice_set ts i (grown t r)) ≡ headers_of ts
        set-same [] i t e = refl
        set-same (b ∷ bs) zero t e = ap (λ (x : Tablet). x.header ∷ headers_of bs) (sym (same_Some b t e))
        set-same (b ∷ bs) (suc i) t e = ap (λ hs. b.header ∷ hs) (set-same bs i t e)

headers-apply : (ts : List Transaction) (p : ℕ × ℕ) (j : Logged) → headers_of (apply_in ts p j).tablets ≡ headers_of j.tablets
headers-apply ts p j = go (numbered ts p.0)
  where
    go : (o : Option Transaction)
        → headers_of (option_map_or (λ t. logged_in p.1 (apply_kind p.0 t) j) o j).tablets ≡ headers_of j.tablets
    go None = refl
    go (Some t) = headers-logged p.1 (apply_kind p.0 t) j

pub headers-applies : (ts : List Transaction) (ps : List (ℕ × ℕ)) (j : Logged)
    → headers_of (applies_in ts ps j).tablets ≡ headers_of j.tablets
headers-applies ts [] j = refl
headers-applies ts (p ∷ ps) j = headers-applies ts ps (apply_in ts p j) ∙ headers-apply ts p j

pub headers-safes : (ids : List ℕ) (j : Logged) → headers_of (safes_in ids j).tablets ≡ headers_of j.tablets
headers-safes [] j = refl
headers-safes (id ∷ ids) j =
    headers-safes ids (logged_in id (Safe (j.time + 1)) j) ∙ headers-logged id (Safe (j.time + 1)) j

time-apply : (ts : List Transaction) (p : ℕ × ℕ) (j : Logged) → j.time ≤ (apply_in ts p j).time
time-apply ts p j = go (numbered ts p.0)
  where
    go : (o : Option Transaction) → j.time ≤ (option_map_or (λ t. logged_in p.1 (apply_kind p.0 t) j) o j).time
    go None = omega arith
    go (Some t) = omega arith

pub time-applies : (ts : List Transaction) (ps : List (ℕ × ℕ)) (j : Logged) → j.time ≤ (applies_in ts ps j).time
time-applies ts [] j = omega arith
time-applies ts (p ∷ ps) j =
    let a = time-apply ts p j in let b = time-applies ts ps (apply_in ts p j) in omega (arith, a, b)

pub time-safes : (ids : List ℕ) (j : Logged) → (safes_in ids j).time ≡ j.time + length ids
time-safes [] j = omega arith
time-safes (id ∷ ids) j = let a = time-safes ids (logged_in id (Safe (j.time + 1)) j) in omega (arith, a)

-- ---- what is taken

-- the transactions say of themselves in an apply what the others do
abbrev Alike : List Transaction → List Transaction → Type 0
Alike ts us = (n k : ℕ) → option_map (apply_kind k) (numbered ts n) ≡ option_map (apply_kind k) (numbered us n)

changed-alike : (h : Header) (n : ℕ) (ts : List Transaction) → Alike ts (changed (taken h) n ts)
changed-alike h n ts i k = go (numbered ts n) refl
  where
    go : (o : Option Transaction) → numbered ts n ≡ o
        → option_map (apply_kind k) (numbered ts i) ≡ option_map (apply_kind k) (numbered (changed (taken h) n ts) i)
    go None e = ap (λ o. option_map (apply_kind k) (numbered (option_map_or (λ t. slice_set ts (n - 1) (taken h t)) o ts) i)) (sym e)
    go (Some t) e = ⊎_elim
        (λ z. subst
        (λ x. option_map (apply_kind k) (numbered ts x) ≡ option_map (apply_kind k) (numbered (changed (taken h) n ts) x)) (sym z)
        (ap (option_map (apply_kind k)) e ∙ ap (option_map (apply_kind k)) (sym (numbered-same (taken h) n ts t e))))
        (λ d. ap (option_map (apply_kind k)) (sym (numbered-other (taken h) n i ts t e d))) (cases_eq i n)

taken-alike : (hs : List Header) (p : ℕ × ℕ) (ts : List Transaction) → Alike ts (taken_at hs p ts)
taken-alike hs p ts = go (slice_get hs p.1)
  where
    go : (o : Option Header) → Alike ts (option_map_or (λ h. changed (taken h) p.0 ts) o ts)
    go None n k = refl
    go (Some h) n k = changed-alike h p.0 ts n k

apply-alike : (ts us : List Transaction) (p : ℕ × ℕ) (j : Logged) → Alike ts us → apply_in ts p j ≡ apply_in us p j
apply-alike ts us p j a = go (numbered ts p.0) (numbered us p.0) (a p.0 p.0)
  where
    go : (o q : Option Transaction) → option_map (apply_kind p.0) o ≡ option_map (apply_kind p.0) q
        → option_map_or (λ t. logged_in p.1 (apply_kind p.0 t) j) o j ≡ option_map_or (λ t. logged_in p.1 (apply_kind p.0 t) j) q j
    go None None e = refl
    go None (Some u) e = absurd (none-some (apply_kind p.0 u) e)
    go (Some t) None e = absurd (none-some (apply_kind p.0 t) (sym e))
    go (Some t) (Some u) e = ap (λ k. logged_in p.1 k j) (same_Some (apply_kind p.0 t) (apply_kind p.0 u) e)

applies-alike : (ts us : List Transaction) (ps : List (ℕ × ℕ)) (j : Logged) → Alike ts us → applies_in ts ps j ≡ applies_in us ps j
applies-alike ts us [] j a = refl
applies-alike ts us (p ∷ ps) j a =
    ap (applies_in ts ps) (apply-alike ts us p j a) ∙ applies-alike ts us ps (apply_in us p j) a

-- the pair's transaction is applied on its tablet
applied-once : (p : ℕ × ℕ) (j : Logged) (cs : List Commit) (ts : List Transaction)
    → machine_of (apply_in ts p j) cs (taken_at (headers_of j.tablets) p ts) ≡ applied p.0 p.1 (machine_of j cs ts)
applied-once p j cs ts =
    ap (λ o. machine_of (apply_in ts p j) cs (option_map_or (λ h. changed (taken h) p.0 ts) o ts))
    (slice_get-map (λ (b : Tablet). b.header) j.tablets p.1)
    ∙ go (numbered ts p.0) (slice_get j.tablets p.1)
  where
    go : (o : Option Transaction) (q : Option Tablet)
        → machine_of (option_map_or (λ t. logged_in p.1 (apply_kind p.0 t) j) o j) cs
        (option_map_or (λ h. option_map_or (λ t. slice_set ts (p.0 - 1) (taken h t)) o ts) (option_map (λ (b : Tablet). b.header) q) ts)
        ≡ option_map_or (λ t. logged p.1 (apply_kind p.0 t)
        (option_map_or (λ (b : Tablet). with_transaction p.0 (taken b.header t) (machine_of j cs ts)) q (machine_of j cs ts))) o
        (machine_of j cs ts)
    go None None = refl
    go None (Some b) = refl
    go (Some t) None = refl
    go (Some t) (Some b) = refl

pub applied-all : (ps : List (ℕ × ℕ)) (j : Logged) (cs : List Commit) (ts : List Transaction)
    → machine_of (applies_in ts ps j) cs (all_taken (headers_of j.tablets) ps ts) ≡ applied_pairs ps (machine_of j cs ts)
applied-all [] j cs ts = refl
applied-all (p ∷ ps) j cs ts =
    let hs = headers_of j.tablets in
    let us = taken_at hs p ts in
    let k = apply_in ts p j in
    ap (λ x. machine_of x cs (all_taken hs ps us)) (applies-alike ts us ps k (taken-alike hs p ts))
    ∙ ap (λ gs. machine_of (applies_in us ps k) cs (all_taken gs ps us)) (sym (headers-apply ts p j))
    ∙ applied-all ps k cs us ∙ ap (applied_pairs ps) (applied-once p j cs ts)

-- ---- the universe

taken-universe : (time : ℕ) (hs : List Header) (p : ℕ × ℕ) (ts : List Transaction) → IsUniverse time ts
    → IsUniverse time (taken_at hs p ts)
taken-universe time hs p ts u = go (slice_get hs p.1)
  where
    go : (o : Option Header) → IsUniverse time (option_map_or (λ h. changed (taken h) p.0 ts) o ts)
    go None = u
    go (Some h) =
        universe-set time time p.0 0 (taken h) ts (changed (taken h) p.0 ts) refl (same-taken h) (omega arith)
        (same-stage (taken h) time (λ t. refl)) u

pub universe-taken : (time later : ℕ) (hs : List Header) (ps : List (ℕ × ℕ)) (ts : List Transaction) → time ≤ later → IsUniverse time ts
    → IsUniverse later (all_taken hs ps ts)
universe-taken time later hs [] ts l u = universe-later time later ts l u
universe-taken time later hs (p ∷ ps) ts l u = universe-taken time later hs ps (taken_at hs p ts) l (taken-universe time hs p ts u)

-- ---- all of them are committed

pub taken-committed : (hs : List Header) (p : ℕ × ℕ) (ts : List Transaction) (n : ℕ)
    → committed_at (numbered (taken_at hs p ts) n) ≡ committed_at (numbered ts n)
taken-committed hs p ts n = go (slice_get hs p.1)
  where
    at : (h : Header) (o : Option Transaction) → numbered ts p.0 ≡ o
        → committed_at (numbered (changed (taken h) p.0 ts) n) ≡ committed_at (numbered ts n)
    at h None e = ap (λ o. committed_at (numbered (option_map_or (λ t. slice_set ts (p.0 - 1) (taken h t)) o ts) n)) e
    at h (Some t) e = ⊎_elim
        (λ z. subst (λ x. committed_at (numbered (changed (taken h) p.0 ts) x) ≡ committed_at (numbered ts x)) (sym z)
        (ap committed_at (numbered-same (taken h) p.0 ts t e) ∙ ap committed_at (sym e)))
        (λ d. ap committed_at (numbered-other (taken h) p.0 n ts t e d)) (cases_eq n p.0)

    go : (o : Option Header) → committed_at (numbered (option_map_or (λ h. changed (taken h) p.0 ts) o ts) n) ≡ committed_at (numbered ts n)
    go None = refl
    go (Some h) = at h (numbered ts p.0) refl

-- ---- what is pending

-- an element of a list
abbrev Among : {A : Type 0} → A → List A → Type 0
Among x [] = ⊥
Among x (y ∷ ys) = (y ≡ x) ⊎ Among x ys

among-left : {A : Type 0} (x : A) (xs ys : List A) → Among x xs → Among x (xs ++ ys)
among-left x [] ys a = absurd a
among-left x (y ∷ xs) ys a = ⊎_elim (λ e. inl e) (λ b. inr (among-left x xs ys b)) a

among-right : {A : Type 0} (x : A) (xs ys : List A) → Among x ys → Among x (xs ++ ys)
among-right x [] ys a = a
among-right x (y ∷ xs) ys a = inr (among-right x xs ys a)

among-map : {A B : Type 0} (f : A → B) (x : A) (xs : List A) → Among x xs → Among (f x) (map f xs)
among-map f x [] a = absurd a
among-map f x (y ∷ xs) a = ⊎_elim (λ e. inl (ap f e)) (λ b. inr (among-map f x xs b)) a

-- a tablet that passes the test, at its number
among-passed : (q : Tablet → Bool) (k : ℕ) (ts : List Tablet) (i : ℕ) (b : Tablet) → slice_get ts i ≡ Some b → q b ≡ true
    → Among (k + i) (map (λ p. p.0) (filter (λ p. q p.1) (enumerate_from k ts)))
among-passed q k [] i b e h = absurd (none-some b e)
among-passed q k (t ∷ ts) zero b e h =
    let z : k ≡ k + 0 = omega arith in
    let passes : q t ≡ true = ap q (same_Some t b e) ∙ h in
    subst (λ x. Among (k + 0) (map {B = ℕ} (λ p. p.0) (if x then ((k, t) ∷ filter (λ p. q p.1) (enumerate_from (k + 1) ts)) else
    filter (λ p. q p.1) (enumerate_from (k + 1) ts)))) (sym passes) (inl z)
among-passed q k (t ∷ ts) (suc i) b e h =
    let z : k + 1 + i ≡ k + suc i = omega arith in
    let rest = filter (λ (p : ℕ × Tablet). q p.1) (enumerate_from (k + 1) ts) in
    let later : Among (k + suc i) (map {B = ℕ} (λ p. p.0) rest) =
    subst (λ n. Among n (map {B = ℕ} (λ p. p.0) rest)) z (among-passed q (k + 1) ts i b e h) in
    go rest (q t) later
  where
    go : (rest : List (ℕ × Tablet)) (x : Bool) → Among (k + suc i) (map {B = ℕ} (λ p. p.0) rest)
        → Among (k + suc i) (map {B = ℕ} (λ p. p.0) (if x then ((k, t) ∷ rest) else rest))
    go rest true a = inr a
    go rest false a = a

waits-there : (m : Machine) (t : Transaction) (i : ℕ) (b : Tablet) → slice_get m.tablets i ≡ Some b → is_open b ≡ true
    → waits_on b.header t ≡ true → Among i (tablets_of m t)
unfolding tablets_of
waits-there m t i b e o w =
    let z : 0 + i ≡ i = omega arith in
    subst
    (λ n. Among n (map {B = ℕ} (λ p. p.0) (filter (λ (p : ℕ × Tablet). is_open p.1 && waits_on p.1.header t)
    (enumerate_from 0 m.tablets)))) z
    (among-passed (λ x. is_open x && waits_on x.header t) 0 m.tablets i b e (and_from (is_open b) (waits_on b.header t) o w))

among-by : (m : Machine) (x : ℕ × ℕ) (k : ℕ) (us : List Transaction) (i : ℕ) (t : Transaction) → slice_get us i ≡ Some t
    → Among x (pending_of m (k + i) t) → Among x (pending_by m (enumerate_from k us))
among-by m x k [] i t e a = absurd (none-some t e)
among-by m x k (u ∷ us) zero t e a =
    let z : k + 0 ≡ k = omega arith in
    among-left x (pending_of m k u) (pending_by m (enumerate_from (k + 1) us))
    (subst (λ v. Among x (pending_of m k v)) (sym (same_Some u t e)) (subst (λ n. Among x (pending_of m n t)) z a))
among-by m x k (u ∷ us) (suc i) t e a =
    let z : k + suc i ≡ k + 1 + i = omega arith in
    among-right x (pending_of m k u) (pending_by m (enumerate_from (k + 1) us))
    (among-by m x (k + 1) us i t e (subst (λ n. Among x (pending_of m n t)) z a))

pending-has : (m : Machine) (n i : ℕ) (t : Transaction) (b : Tablet) → numbered m.txns n ≡ Some t → is_some (commit_of t.stage) ≡ true
    → slice_get m.tablets i ≡ Some b → is_open b ≡ true → waits_on b.header t ≡ true → Among (n, i) (pending m)
pending-has m n i t b e c at o w =
    let place = numbered-at m.txns n t e in
    let one = place.0 in
    let z : 1 + (n - 1) ≡ n = omega arith in
    let here : Among {A = ℕ × ℕ} (n, i) (pending_of m n t) =
    subst (λ x. Among {A = ℕ × ℕ} (n, i) (if x then map (λ id. (n, id)) (tablets_of m t) else [])) (sym c)
    (among-map (λ id. (n, id)) i (tablets_of m t) (waits-there m t i b at o w)) in
    subst (λ ps. Among {A = ℕ × ℕ} (n, i) ps) (pending_whole m)
    (among-by m (n, i) 1 m.txns (n - 1) t place.1 (subst (λ k. Among {A = ℕ × ℕ} (n, i) (pending_of m k t)) (sym z) here))

-- ---- nothing of a committed transaction waits on a tablet that was gone over

abbrev Rests : Header → List Transaction → ℕ → Type 0
Rests h ts n = (t : Transaction) → numbered ts n ≡ Some t → is_some (commit_of t.stage) ≡ true → waits_on h t ≡ false

taken-none : (g : Header) (ws : List Provisional) → list_any (is_waiting g) (map (taken_write g) ws) ≡ false
taken-none g [] = refl
taken-none g (w ∷ ws) = go (holds g (hash_of w.op.key)) refl (taken-none g ws)
  where
    go : (b : Bool) → holds g (hash_of w.op.key) ≡ b → list_any (is_waiting g) (map (taken_write g) ws) ≡ false
        → (is_waiting g (if b then record w { waits = false } else w) || list_any (is_waiting g) (map (taken_write g) ws)) ≡ false
    go true e rest = rest
    go false e rest =
        or_from (is_waiting g w) (list_any (is_waiting g) (map (taken_write g) ws)) (and_right w.waits (holds g (hash_of w.op.key)) e) rest

taken-less : (g h : Header) (ws : List Provisional) → list_any (is_waiting h) ws ≡ false
    → list_any (is_waiting h) (map (taken_write g) ws) ≡ false
taken-less g h [] e = refl
taken-less g h (w ∷ ws) e =
    let parts = or_parts (is_waiting h w) (list_any (is_waiting h) ws) e in
    go (holds g (hash_of w.op.key)) parts.0 (taken-less g h ws parts.1)
  where
    or_parts : (a b : Bool) → (a || b) ≡ false → (a ≡ false) × (b ≡ false)
    or_parts true b e = absurd (true≢false e)
    or_parts false b e = (refl, e)

    go : (b : Bool) → is_waiting h w ≡ false → list_any (is_waiting h) (map (taken_write g) ws) ≡ false
        → (is_waiting h (if b then record w { waits = false } else w) || list_any (is_waiting h) (map (taken_write g) ws)) ≡ false
    go true first rest = rest
    go false first rest = or_from (is_waiting h w) (list_any (is_waiting h) (map (taken_write g) ws)) first rest

rests-changed : (g h : Header) (k n : ℕ) (ts : List Transaction) → Rests h ts n → Rests h (changed (taken g) k ts) n
rests-changed g h k n ts r t e c = go (numbered ts k) refl
  where
    go : (o : Option Transaction) → numbered ts k ≡ o → waits_on h t ≡ false
    go None q =
        r t (ap (λ o. numbered (option_map_or (λ t. slice_set ts (k - 1) (taken g t)) o ts) n) (sym q) ∙ e) c
    go (Some u) q = ⊎_elim
        (λ z.
        let there : numbered (changed (taken g) k ts) k ≡ Some t = subst (λ x. numbered (changed (taken g) k ts) x ≡ Some t) z e in
        let same : taken g u ≡ t = same_Some (taken g u) t (sym (numbered-same (taken g) k ts u q) ∙ there) in
        let old : waits_on h u ≡ false =
        r u (subst (λ x. numbered ts x ≡ Some u) (sym z) q) (ap (λ (x : Transaction). is_some (commit_of x.stage)) same ∙ c) in
        sym (ap (waits_on h) same) ∙ taken-less g h u.writes old)
        (λ d. r t (sym (numbered-other (taken g) k n ts u q d) ∙ e) c) (cases_eq n k)

rests-taken : (hs : List Header) (p : ℕ × ℕ) (h : Header) (n : ℕ) (ts : List Transaction) → Rests h ts n → Rests h (taken_at hs p ts) n
rests-taken hs p h n ts r = go (slice_get hs p.1)
  where
    go : (o : Option Header) → Rests h (option_map_or (λ g. changed (taken g) p.0 ts) o ts) n
    go None = r
    go (Some g) = rests-changed g h p.0 n ts r

rests-here : (hs : List Header) (n i : ℕ) (h : Header) (ts : List Transaction) → slice_get hs i ≡ Some h
    → Rests h (taken_at hs (n, i) ts) n
rests-here hs n i h ts s =
    subst (λ o. Rests h (option_map_or (λ g. changed (taken g) n ts) o ts) n) (sym s) (λ t e c. go t (numbered ts n) refl e)
  where
    go : (t : Transaction) (o : Option Transaction) → numbered ts n ≡ o → numbered (changed (taken h) n ts) n ≡ Some t
        → waits_on h t ≡ false
    go t None q e =
        absurd (none-some t (sym q ∙ ap (λ o. numbered (option_map_or (λ t. slice_set ts (n - 1) (taken h t)) o ts) n) (sym q) ∙ e))
    go t (Some u) q e =
        let same : taken h u ≡ t = same_Some (taken h u) t (sym (numbered-same (taken h) n ts u q) ∙ e) in
        sym (ap (waits_on h) same) ∙ taken-none h u.writes

rests-all : (hs : List Header) (ps : List (ℕ × ℕ)) (n i : ℕ) (h : Header) (ts : List Transaction) → slice_get hs i ≡ Some h
    → (Among (n, i) ps ⊎ Rests h ts n) → Rests h (all_taken hs ps ts) n
rests-all hs [] n i h ts s a = ⊎_elim (λ none. absurd none) (λ r. r) a
rests-all hs (p ∷ ps) n i h ts s a =
    rests-all hs ps n i h (taken_at hs p ts) s (⊎_elim
    (λ b. ⊎_elim (λ e. inr (subst (λ q. Rests h (taken_at hs q ts) n) (sym e) (rests-here hs n i h ts s))) (λ c. inl c) b)
    (λ r. inr (rests-taken hs p h n ts r)) a)

rests-pending : (m : Machine) (i : ℕ) (b : Tablet) → slice_get m.tablets i ≡ Some b → is_open b ≡ true → (n : ℕ)
    → Rests b.header (all_taken (headers_of m.tablets) (pending m) m.txns) n
rests-pending m i b at o n =
    rests-all (headers_of m.tablets) (pending m) n i b.header m.txns
    (slice_get-map (λ (b : Tablet). b.header) m.tablets i ∙ ap (option_map (λ (b : Tablet). b.header)) at)
    (go (numbered m.txns n) refl)
  where
    go : (q : Option Transaction) → numbered m.txns n ≡ q → Among (n, i) (pending m) ⊎ Rests b.header m.txns n
    go None e = inr (λ t f c. absurd (none-some t (sym e ∙ f)))
    go (Some t) e = ⊎_elim
        (λ w. ⊎_elim (λ c. inl (pending-has m n i t b e c at o w))
        (λ c. inr (λ u f d. absurd (true≢false (sym d
        ∙ ap (λ (x : Transaction). is_some (commit_of x.stage)) (same_Some u t (sym f ∙ e)) ∙ c))))
        (cases_Bool (is_some (commit_of t.stage))))
        (λ w. inr (λ u f d. ap (waits_on b.header) (same_Some u t (sym f ∙ e)) ∙ w)) (cases_Bool (waits_on b.header t))

all-applied-txns : (m : Machine) → (all_applied m).txns ≡ all_taken (headers_of m.tablets) (pending m) m.txns
all-applied-txns m =
    sym (ap (λ (x : Machine). x.txns) (applied-all (pending m) (record { time = m.time; tablets = m.tablets }) m.commits m.txns))

-- when all that is pending is applied, nothing of a committed transaction waits on a tablet that was open before
pub none-waits : (m : Machine) (i n : ℕ) (b : Tablet) (t : Transaction) → slice_get m.tablets i ≡ Some b → is_open b ≡ true
    → numbered (all_applied m).txns n ≡ Some t → is_some (commit_of t.stage) ≡ true → waits_on b.header t ≡ false
none-waits m i n b t at o e c = rests-pending m i b at o n t (subst (λ ts. numbered ts n ≡ Some t) (all-applied-txns m) e) c

none-kept : (h : Header) (us : List Transaction)
    → ((i : ℕ) (t : Transaction) → slice_get us i ≡ Some t → is_some (commit_of t.stage) ≡ true → waits_on h t ≡ false)
    → filter_map (commit_on h) us ≡ []
none-kept h [] r = refl
none-kept h (u ∷ us) r =
    ap (λ o. cons_option o (filter_map (commit_on h) us)) none
    ∙ none-kept h us (λ i t e c. r (suc i) t e c)
  where
    go : (b : Bool) (o : Option ℕ) → (is_some o ≡ true → b ≡ false) → (if b then o else None) ≡ None
    go true None f = refl
    go true (Some c) f = absurd (true≢false (f refl))
    go false o f = refl

    none : commit_on h u ≡ None
    none = go (waits_on h u) (commit_of u.stage) (λ c. r 0 u refl c)

-- no commit waits there any more
abbrev Clear : List Header → List Transaction → ℕ → Type 0
Clear hs ts id = (h : Header) × (slice_get hs id ≡ Some h) × (filter_map (commit_on h) ts ≡ [])

open-clear : (m : Machine) (k : ℕ) (us : List Tablet)
    → ((i : ℕ) (b : Tablet) → slice_get us i ≡ Some b → slice_get m.tablets (k + i) ≡ Some b)
    → Each (Clear (headers_of m.tablets) (all_taken (headers_of m.tablets) (pending m) m.txns))
    (map (λ p. p.0) (filter (λ p. is_open p.1) (enumerate_from k us)))
open-clear m k [] f = tt
open-clear m k (u ∷ us) f = go (is_open u) refl (open-clear m (k + 1) us (λ i b e. let z : k + suc i ≡ k + 1 + i = omega arith in
    subst (λ n. slice_get m.tablets n ≡ Some b) z (f (suc i) b e)))
  where
    hs : List Header
    hs = headers_of m.tablets

    ts : List Transaction
    ts = all_taken hs (pending m) m.txns

    rest : List (ℕ × Tablet)
    rest = filter (λ p. is_open p.1) (enumerate_from (k + 1) us)

    here : slice_get m.tablets k ≡ Some u
    here = let z : k + 0 ≡ k = omega arith in subst (λ n. slice_get m.tablets n ≡ Some u) z (f 0 u refl)

    go : (x : Bool) → is_open u ≡ x → Each (Clear hs ts) (map (λ p. p.0) rest)
        → Each (Clear hs ts) (map (λ p. p.0) (if x then ((k, u) ∷ rest) else rest))
    go true o r = (
      (
        u.header,
        slice_get-map (λ (b : Tablet). b.header) m.tablets k ∙ ap (option_map (λ (b : Tablet). b.header)) here,
        none-kept u.header ts (λ i t e c. rests-pending m k u here o (1 + i) t (numbered-next ts i t e) c),
      ),
      r,
    )
    go false o r = r

-- ---- safe records

least-none : (time : ℕ) → time < last_time → min (time + 1) (2 ^ 62) ≡ time + 1
least-none time l = grind (arith, l)

safe-own : (k : Logged) (cs : List Commit) (ts : List Transaction) (id : ℕ) → Clear (headers_of k.tablets) ts id → k.time < last_time
    → safe_value (machine_of k cs ts) id ≡ k.time + 1
unfolding commits_on
safe-own k cs ts id c l =
    go (slice_get k.tablets id) (sym (slice_get-map (λ (b : Tablet). b.header) k.tablets id) ∙ c.1)
  where
    go : (o : Option Tablet) → option_map (λ (b : Tablet). b.header) o ≡ Some c.0
        → option_map_or (λ b. safe_on (machine_of k cs ts) b.header) o 0 ≡ k.time + 1
    go None e = absurd (none-some c.0 e)
    go (Some b) e =
        let same : b.header ≡ c.0 = same_Some b.header c.0 e in
        ap (λ h. safe_on (machine_of k cs ts) h) same
        ∙ ap (λ xs. min (k.time + 1) (least (map (λ commit. commit - 1) xs))) c.2 ∙ least-none k.time l

safes-all : (ids : List ℕ) (k : Logged) (cs : List Commit) (ts : List Transaction) → Each (Clear (headers_of k.tablets) ts) ids
    → k.time + length ids ≤ last_time → machine_of (safes_in ids k) cs ts ≡ all_safe ids (machine_of k cs ts)
safes-all [] k cs ts c l = refl
safes-all (id ∷ ids) k cs ts c l =
    let k' = logged_in id (Safe (k.time + 1)) k in
    let less : k.time < last_time = omega (arith, l) in
    let more : k'.time + length ids ≤ last_time = omega (arith, l) in
    safes-all ids k' cs ts (subst (λ hs. Each (Clear hs ts) ids) (sym (headers-logged id (Safe (k.time + 1)) k)) c.1) more
    ∙ ap (λ v. all_safe ids (machine_of (logged_in id (Safe v) k) cs ts)) (sym (safe-own k cs ts id c.0 less))

-- ---- a finish

time-most : (ts : List Transaction) (ps : List (ℕ × ℕ)) (j : Logged) → (applies_in ts ps j).time ≤ j.time + length ps
time-most ts [] j = omega arith
time-most ts (p ∷ ps) j = let a = time-most ts ps (apply_in ts p j) in let b = one (numbered ts p.0) in omega (arith, a, b)
  where
    one : (o : Option Transaction) → (option_map_or (λ t. logged_in p.1 (apply_kind p.0 t) j) o j).time ≤ j.time + 1
    one None = omega arith
    one (Some t) = omega arith

finish-whole : (j : Logged) (cs : List Commit) (ts : List Transaction) (m : Machine) → machine_of j cs ts ≡ m
    → m.time + (length (pending m) + length (open_tablets m)) ≤ last_time
    → machine_of (safes_in (open_tablets m) (applies_in m.txns (pending m) j)) cs
    (all_taken (headers_of m.tablets) (pending m) m.txns)
    ≡ all_safe (open_tablets m) (all_applied m)
finish-whole j cs ts m e l =
    let ps = pending m in
    let hs = headers_of m.tablets in
    let us = all_taken hs ps m.txns in
    let k = applies_in m.txns ps j in
    let same : headers_of k.tablets ≡ hs = headers-applies m.txns ps j ∙ ap (λ (x : Machine). headers_of x.tablets) e in
    let most = time-most m.txns ps j in
    let now : j.time ≡ m.time = ap (λ (x : Machine). x.time) e in
    let enough : k.time + length (open_tablets m) ≤ last_time = omega (arith, most, now, l) in
    safes-all (open_tablets m) k cs us
    (subst (λ gs. Each (Clear gs us) (open_tablets m)) (sym same)
    (open-clear m 0 m.tablets (λ i b at. let z : i ≡ 0 + i = omega arith in subst (λ n. slice_get m.tablets n ≡ Some b) z at)))
    enough
    ∙ ap (all_safe (open_tablets m))
    (ap (λ gs. machine_of k cs (all_taken gs ps m.txns)) (sym (ap (λ (x : Machine). headers_of x.tablets) e))
    ∙ ap (λ xs. machine_of (applies_in xs ps j) cs (all_taken (headers_of j.tablets) ps xs)) (sym (ap (λ (x : Machine). x.txns) e))
    ∙ applied-all ps j cs ts ∙ ap (applied_pairs ps) e)

pub finish-next : (j j' : Logged) (cs : List Commit) (ts us : List Transaction) (tablets : List Tablet) (ps : List (ℕ × ℕ)) (ids : List ℕ)
    (m : Machine) → machine_of j cs ts ≡ m → ps ≡ pending m → ids ≡ open_tablets m
    → m.time + (length (pending m) + length (open_tablets m)) ≤ last_time → j' ≡ safes_in ids (applies_in ts ps j)
    → tablets ≡ j'.tablets → us ≡ all_taken (headers_of tablets) ps ts
    → machine_of j' cs us ≡ all_safe (open_tablets m) (all_applied m)
finish-next j j' cs ts us tablets ps ids m e p i l d b t =
    let heads : headers_of tablets ≡ headers_of m.tablets =
    ap headers_of (b ∙ ap (λ (k : Logged). k.tablets) d) ∙ headers-safes ids (applies_in ts ps j) ∙ headers-applies ts ps j
    ∙ ap (λ (x : Machine). headers_of x.tablets) e in
    ap (λ x. machine_of j' cs x) (t ∙ ap (λ hs. all_taken hs ps ts) heads)
    ∙ ap (λ x. machine_of x cs (all_taken (headers_of m.tablets) ps ts)) d
    ∙ ap (λ xs. machine_of (safes_in xs (applies_in ts ps j)) cs (all_taken (headers_of m.tablets) ps ts)) i
    ∙ ap (λ xs. machine_of (safes_in (open_tablets m) (applies_in ts xs j)) cs (all_taken (headers_of m.tablets) xs ts)) p
    ∙ ap (λ xs. machine_of (safes_in (open_tablets m) (applies_in xs (pending m) j)) cs (all_taken (headers_of m.tablets) (pending m) xs))
    (ap (λ (x : Machine). x.txns) e)
    ∙ finish-whole j cs ts m e l

-- ---- what is pending is committed

committed-of : (m : Machine) (n : ℕ) (t : Transaction) → numbered m.txns n ≡ Some t → are_committed m.txns (pending_of m n t) ≡ true
committed-of m n t e = go (is_some (commit_of t.stage)) refl
  where
    each : is_some (commit_of t.stage) ≡ true → (ids : List ℕ) → are_committed m.txns (map (λ id. (n, id)) ids) ≡ true
    each c [] = refl
    each c (id ∷ ids) =
        and_from (committed_at (numbered m.txns n)) (are_committed m.txns (map (λ id. (n, id)) ids)) (ap committed_at e ∙ c) (each c ids)

    go : (b : Bool) → is_some (commit_of t.stage) ≡ b
        → are_committed m.txns (if b then map (λ id. (n, id)) (tablets_of m t) else []) ≡ true
    go true c = each c (tablets_of m t)
    go false c = refl

committed-by : (m : Machine) (k : ℕ) (us : List Transaction)
    → ((i : ℕ) (t : Transaction) → slice_get us i ≡ Some t → numbered m.txns (k + i) ≡ Some t)
    → are_committed m.txns (pending_by m (enumerate_from k us)) ≡ true
committed-by m k [] f = refl
committed-by m k (u ∷ us) f =
    let z : k + 0 ≡ k = omega arith in
    let here = committed-of m k u (subst (λ n. numbered m.txns n ≡ Some u) z (f 0 u refl)) in
    let rest = committed-by m (k + 1) us (λ i t e. let y : k + suc i ≡ k + 1 + i = omega arith in
    subst (λ n. numbered m.txns n ≡ Some t) y (f (suc i) t e)) in
    list_all-append (λ (p : ℕ × ℕ). committed_at (numbered m.txns p.0)) (pending_of m k u) (pending_by m (enumerate_from (k + 1) us))
    ∙ and_from (are_committed m.txns (pending_of m k u)) (are_committed m.txns (pending_by m (enumerate_from (k + 1) us))) here rest

pending-committed : (m : Machine) → are_committed m.txns (pending m) ≡ true
pending-committed m =
    subst (λ ps. are_committed m.txns ps ≡ true) (pending_whole m) (committed-by m 1 m.txns (λ i t e. numbered-next m.txns i t e))

pub pairs-committed : (ts : List Transaction) (ps : List (ℕ × ℕ)) (m : Machine) → m.txns ≡ ts → ps ≡ pending m
    → are_committed ts ps ≡ true
pairs-committed ts ps m e p =
    ap (λ us. are_committed us ps) (sym e) ∙ ap (are_committed m.txns) p ∙ pending-committed m
