-- Rows while versions are gone over in order: an operation at the greatest key so far changes only the end.
use Rattle.std.proofs.Common.{◌≡◌, ℕ, ◌≤◌, true, false, cond, List, [], ◌∷◌, ◌++◌, map, Some, None, refl, ap, sym, ◌∙◌, subst, append-nil}
use Rattle.std.proofs.Common.{⊎_elim, length, ◌+◌, ◌-◌, arith, length-append, take}
use Rattle.std.proofs.Common.{◌<◌, get_or, drop, zero, suc}
use Rattle.std.proofs.lemmas.List.{take_at, drop_more, drop_all}
use Rattle.std.specs.Prelude.{bytes_eq, nat_le, filter, slice_get, is_some}
use Rattle.std.specs.declared.cmp.Ordering.{Ordering}
use Rattle.std.specs.declared.cmp.Ordering.TheVariants.{Less, Equal, Greater}
use Rattle.std.specs.Ordering.{is_gt, is_eq, nat_cmp}
use Rattle.std.specs.Cmp.Lexicographic.{slice_cmp}
use Rattle.std.proofs.lemmas.Cmp.{nat_list_cmp_total, tied_itself}
use Rattle.std.proofs.lemmas.Map.Text.{is_eq-slice_cmp}
use Rattle.std.proofs.lemmas.Slice.Eq.{bytes_eq-Decides}
use Rattle.std.proofs.lemmas.Bool.{cases_Bool}
use Rattle.xc_record.proofs.ListLaws.{Each, Each-weaker, Each-append}
use Rattle.xc_record.specs.declared.record.Op.{Op}
use Rattle.xc_record.specs.Path.{Written}
use Rattle.xc_record.specs.Rows.{put_row, rows_after}
use Rattle.xc_record.specs.Kept.{written_by}
use Rattle.xc_versions.specs.declared.stored.StoredVersion.{StoredVersion}
use Rattle.xc_versions.specs.Stored.{IsBefore, InOrder, key_versions, without_place}
use Rattle.xc_versions.specs.RowsSeen.{row_of, is_row_of, Below, Under, MayPass, ops_to}
use Rattle.xc_versions.proofs.ShownLaws.{keys-rise, above-key}
use Rattle.xc_versions.proofs.StoredOrder.{in_order-right}

abbrev key_cmp : List ℕ → List ℕ → Ordering
key_cmp = slice_cmp nat_cmp

apart-keys : (a k : List ℕ) → key_cmp a k ≡ Less → bytes_eq a k ≡ false
apart-keys a k e = sym (is_eq-slice_cmp a k) ∙ ap is_eq e

-- behind lesser keys a row goes to the end, and takes the place of a row of its key
pub put_row-over : (k : List ℕ) (v w : Written) (rows : List (List ℕ × List ℕ)) → Below rows k
    → put_row k v (rows ++ row_of k w) ≡ rows ++ row_of k v
put_row-over k (Some v) (Some w) [] h = rw (tied_itself nat_list_cmp_total k) refl
put_row-over k (Some v) None [] h = refl
put_row-over k None (Some w) [] h = rw ((bytes_eq-Decides k k).1 refl) refl
put_row-over k None None [] h = refl
put_row-over k (Some v) w (r ∷ rows) h = rw (above-key r.0 k h.0) (ap (λ w. r ∷ w) (put_row-over k (Some v) w rows h.1))
put_row-over k None w (r ∷ rows) h = rw (apart-keys r.0 k h.0) (ap (λ w. r ∷ w) (put_row-over k None w rows h.1))

pub put_row-under : (k : List ℕ) (v : Written) (rows : List (List ℕ × List ℕ)) (u : Under rows k)
    → put_row k v rows ≡ u.lesser ++ row_of k v
put_row-under k v rows u = ap (put_row k v) u.is ∙ put_row-over k v u.at u.lesser u.below

pub under-none : (k : List ℕ) → Under [] k
under-none k = record { lesser = []; at = None; is = refl; below = tt }

below-row : (k q : List ℕ) (v : Written) → key_cmp k q ≡ Less → Below (row_of k v) q
below-row k q (Some value) e = (e, tt)
below-row k q None e = tt

below-further : (k q : List ℕ) (rows : List (List ℕ × List ℕ)) → key_cmp k q ≡ Less → Below rows k → Below rows q
below-further k q rows e h =
    Each-weaker (λ r. key_cmp r.0 k ≡ Less) (λ r. key_cmp r.0 q ≡ Less) (λ r b. nat_list_cmp_total.trans r.0 k q b e) rows h

-- what is under a key after a row of it was put is under each further key
pub under-further : (k q : List ℕ) (v : Written) (rows : List (List ℕ × List ℕ)) → is_gt (key_cmp k q) ≡ false → Below rows k
    → Under (rows ++ row_of k v) q
under-further k q v rows f h =
    ⊎_elim
    (λ e. subst (λ (q : List ℕ). Under (rows ++ row_of k v) q) ((bytes_eq-Decides k q).0 e)
    (record { lesser = rows; at = v; is = refl; below = h }))
    (λ e. let less = less-key (key_cmp k q) f (is_eq-slice_cmp k q ∙ e) in
    record {
      lesser = rows ++ row_of k v;
      at = None;
      is = sym (append-nil (rows ++ row_of k v));
      below = Each-append
          (λ r. key_cmp r.0 q ≡ Less) rows (row_of k v) (below-further k q rows less h) (below-row k q v less);
    })
    (cases_Bool (bytes_eq k q))
  where
    less-key : (o : Ordering) → is_gt o ≡ false → is_eq o ≡ false → o ≡ Less
    less-key Less f e = refl
    less-key Equal f e = cc
    less-key Greater f e = cc

pub under-put : (x y : StoredVersion) (rows : List (List ℕ × List ℕ)) → IsBefore x y → Under rows x.key
    → Under (put_row x.key x.value rows) y.key
under-put x y rows b u = rw (put_row-under x.key x.value rows u) (under-further x.key y.key x.value u.lesser (keys-rise x y b) u.below)

-- ---- the operations up to a time, one version at a time

pub ops_to-in : (t : ℕ) (x : StoredVersion) (xs : List StoredVersion) → nat_le x.commit t ≡ true
    → ops_to t (x ∷ xs) ≡ written_by (without_place x) ∷ ops_to t xs
ops_to-in t x xs e =
    let rest = filter (λ v. nat_le v.commit t) (key_versions xs) in ap (λ b. map written_by (cond b (without_place x ∷ rest) rest)) e

pub ops_to-out : (t : ℕ) (x : StoredVersion) (xs : List StoredVersion) → nat_le x.commit t ≡ false → ops_to t (x ∷ xs) ≡ ops_to t xs
ops_to-out t x xs e =
    let rest = filter (λ v. nat_le v.commit t) (key_versions xs) in ap (λ b. map written_by (cond b (without_place x ∷ rest) rest)) e

pub rows_after-append : (xs ys : List Op) (rows : List (List ℕ × List ℕ)) → rows_after (xs ++ ys) rows ≡ rows_after ys (rows_after xs rows)
rows_after-append [] ys rows = refl
rows_after-append (x ∷ xs) ys rows = rows_after-append xs ys (put_row x.key x.value rows)

-- what is put of the version x, and what of the versions behind it
pub rows-first : (t : ℕ) (x : StoredVersion) (xs : List StoredVersion) (rows : List (List ℕ × List ℕ))
    → rows_after (ops_to t (x ∷ xs)) rows ≡ rows_after (ops_to t xs) (cond (nat_le x.commit t) (put_row x.key x.value rows) rows)
rows-first t x xs rows =
    ⊎_elim
    (λ e. ap (λ ops. rows_after ops rows) (ops_to-in t x xs e)
    ∙ sym (ap (λ b. rows_after (ops_to t xs) (cond b (put_row x.key x.value rows) rows)) e))
    (λ e. ap (λ ops. rows_after ops rows) (ops_to-out t x xs e)
    ∙ sym (ap (λ b. rows_after (ops_to t xs) (cond b (put_row x.key x.value rows) rows)) e))
    (cases_Bool (nat_le x.commit t))

-- ---- a version that is passed

put_row-twice : (k : List ℕ) (v w : Written) (rows : List (List ℕ × List ℕ)) → Under rows k
    → put_row k w (put_row k v rows) ≡ put_row k w rows
put_row-twice k v w rows u =
    ap (put_row k w) (put_row-under k v rows u) ∙ put_row-over k w v u.lesser u.below ∙ sym (put_row-under k w rows u)

-- a later version of the key takes the place of what this one puts
pub pass-hidden : (t : ℕ) (x y : StoredVersion) (xs : List StoredVersion) (rows : List (List ℕ × List ℕ)) → Under rows x.key
    → x.key ≡ y.key → nat_le y.commit t ≡ true → rows_after (ops_to t (x ∷ y ∷ xs)) rows ≡ rows_after (ops_to t (y ∷ xs)) rows
pass-hidden t x y xs rows u k e =
    let twice : put_row y.key y.value (put_row x.key x.value rows) ≡ put_row y.key y.value rows =
    subst (λ (q : List ℕ). put_row q y.value (put_row x.key x.value rows) ≡ put_row q y.value rows) k
    (put_row-twice x.key x.value y.value rows u) in
    let put : put_row y.key y.value (cond (nat_le x.commit t) (put_row x.key x.value rows) rows) ≡ put_row y.key y.value rows =
    elim (nat_le x.commit t) as (λ b. put_row y.key y.value (cond b (put_row x.key x.value rows) rows) ≡ put_row y.key y.value rows)
    [ true ↦ twice | false ↦ refl ] in
    rows-first t x (y ∷ xs) rows
    ∙ ap (λ ops. rows_after ops (cond (nat_le x.commit t) (put_row x.key x.value rows) rows)) (ops_to-in t y xs e)
    ∙ ap (rows_after (ops_to t xs)) put ∙ sym (ap (λ ops. rows_after ops rows) (ops_to-in t y xs e))

-- the version i of a list, and those behind it
pub split-at : (xs : List StoredVersion) (i : ℕ) (x : StoredVersion) → i < length xs → x ≡ get_or xs i x → drop i xs ≡ x ∷ drop (i + 1) xs
split-at xs i x h e = drop_more xs i x h ∙ ap (λ y. y ∷ drop (i + 1) xs) (sym e)

pub may-pass_later : (t : ℕ) (xs : List StoredVersion) (i : ℕ) (x : StoredVersion) → i < length xs → x ≡ get_or xs i x
    → nat_le x.commit t ≡ false → MayPass t xs i
may-pass_later t xs i x h e f = λ rows _.
    ap (λ ys. rows_after (ops_to t ys) rows) (split-at xs i x h e) ∙ ap (λ ops. rows_after ops rows) (ops_to-out t x (drop (i + 1) xs) f)

pub may-pass_hidden : (t : ℕ) (xs : List StoredVersion) (i : ℕ) (x y : StoredVersion) → i + 1 < length xs → x ≡ get_or xs i x
    → y ≡ get_or xs (i + 1) y → x.key ≡ y.key → nat_le y.commit t ≡ true → MayPass t xs i
may-pass_hidden t xs i x y h e f k c = λ rows under.
    let rest = drop (i + 1 + 1) xs in
    let behind = split-at xs (i + 1) y h f in
    let whole : drop i xs ≡ x ∷ y ∷ rest = split-at xs i x (omega arith) e ∙ ap (λ ys. x ∷ ys) behind in
    let first = subst (λ (ys : List StoredVersion). Each (λ x. Under rows x.key) ys) whole under in
    ap (λ ys. rows_after (ops_to t ys) rows) whole ∙ pass-hidden t x y rest rows first.0 k c
    ∙ sym (ap (λ ys. rows_after (ops_to t ys) rows) behind)

-- ---- the last row

no-at : (k : List ℕ) (rows : List (List ℕ × List ℕ)) (i : ℕ) → Below rows k → is_row_of k (slice_get rows i) ≡ false
no-at k [] i h = refl
no-at k (r ∷ rows) zero h = apart-keys r.0 k h.0
no-at k (r ∷ rows) (suc i) h = no-at k rows i h.1

last-at : (k v : List ℕ) (rows : List (List ℕ × List ℕ)) (i : ℕ) → i ≡ length rows → is_row_of k (slice_get (rows ++ (k, v) ∷ []) i) ≡ true
last-at k v [] zero e = (bytes_eq-Decides k k).1 refl
last-at k v [] (suc i) e = absurd (omega arith)
last-at k v (r ∷ rows) zero e = absurd (omega arith)
last-at k v (r ∷ rows) (suc i) e = last-at k v rows i (omega arith)

-- the last row is of the key exactly where there is one
pub last-row : (k : List ℕ) (v : Written) (rows : List (List ℕ × List ℕ)) → Below rows k
    → is_row_of k (slice_get (rows ++ row_of k v) (length (rows ++ row_of k v) - 1)) ≡ is_some v
last-row k (Some v) rows h = last-at k v rows (length (rows ++ (k, v) ∷ []) - 1) (grind (arith, length-append))
last-row k None rows h = no-at k (rows ++ []) (length (rows ++ []) - 1) (rw (append-nil rows) h)

pub without-row : (k : List ℕ) (v : Written) (rows : List (List ℕ × List ℕ)) → is_some v ≡ true
    → take (length (rows ++ row_of k v) - 1) (rows ++ row_of k v) ≡ rows
without-row k (Some v) rows e = take_at rows ((k, v) ∷ []) (length (rows ++ (k, v) ∷ []) - 1) (grind (arith, length-append))
without-row k None rows e = cc

pub no-row : (k : List ℕ) (v : Written) (rows : List (List ℕ × List ℕ)) → is_some v ≡ false → rows ++ row_of k v ≡ rows
no-row k (Some v) rows e = cc
no-row k None rows e = append-nil rows

-- ---- a walk over versions: what is left to do gives the whole

pub record Seen (t : ℕ) (first rows : List (List ℕ × List ℕ)) (xs : List StoredVersion) (i : ℕ) : Type 0 where
  pub whole : rows_after (ops_to t (drop i xs)) rows ≡ rows_after (ops_to t xs) first
  pub under : Each (λ x. Under rows x.key) (drop i xs)
  pub ordered : InOrder (drop i xs)

-- rows after the version x, by its commit
abbrev pub after_version : ℕ → StoredVersion → List (List ℕ × List ℕ) → List (List ℕ × List ℕ)
after_version t x rows = cond (nat_le x.commit t) (put_row x.key x.value rows) rows

pub under-after : (t : ℕ) (x : StoredVersion) (xs : List StoredVersion) (rows : List (List ℕ × List ℕ)) → Under rows x.key
    → Each (IsBefore x) xs → Each (λ y. Under rows y.key) xs → Each (λ y. Under (after_version t x rows) y.key) xs
under-after t x xs rows u b e =
    elim (nat_le x.commit t) as (λ c. Each (λ y. Under (cond c (put_row x.key x.value rows) rows) y.key) xs)
    [ true ↦ Each-weaker (IsBefore x) (λ y. Under (put_row x.key x.value rows) y.key) (λ y h. under-put x y rows h u) xs b | false ↦ e ]

pub seen-more : (t : ℕ) (first rows : List (List ℕ × List ℕ)) (xs : List StoredVersion) (i : ℕ) (x : StoredVersion)
    → Seen t first rows xs i → i < length xs → x ≡ get_or xs i x → Seen t first (after_version t x rows) xs (i + 1)
seen-more t first rows xs i x s h e =
    let split = split-at xs i x h e in
    let under = subst (λ (ys : List StoredVersion). Each (λ y. Under rows y.key) ys) split s.under in
    let ordered = subst (λ (ys : List StoredVersion). InOrder ys) split s.ordered in
    record {
      whole = sym (rows-first t x (drop (i + 1) xs) rows) ∙ ap (λ ys. rows_after (ops_to t ys) rows) (sym split) ∙ s.whole;
      under = under-after t x (drop (i + 1) xs) rows under.0 ordered.0 under.1;
      ordered = ordered.1;
    }

pub seen-pass : (t : ℕ) (first rows : List (List ℕ × List ℕ)) (xs : List StoredVersion) (i : ℕ) (x : StoredVersion)
    → Seen t first rows xs i → i < length xs → x ≡ get_or xs i x → MayPass t xs i → Seen t first rows xs (i + 1)
seen-pass t first rows xs i x s h e p =
    let split = split-at xs i x h e in
    record {
      whole = sym (p rows s.under) ∙ s.whole;
      under = (subst (λ (ys : List StoredVersion). Each (λ y. Under rows y.key) ys) split s.under).1;
      ordered = (subst (λ (ys : List StoredVersion). InOrder ys) split s.ordered).1;
    }

pub seen-under : (t : ℕ) (first rows : List (List ℕ × List ℕ)) (xs : List StoredVersion) (i : ℕ) (x : StoredVersion)
    → Seen t first rows xs i → i < length xs → x ≡ get_or xs i x → Under rows x.key
seen-under t first rows xs i x s h e =
    let split = split-at xs i x h e in
    let under = subst (λ (ys : List StoredVersion). Each (λ y. Under rows y.key) ys) split s.under in
    under.0

pub seen-all : (t : ℕ) (first rows : List (List ℕ × List ℕ)) (xs : List StoredVersion) (i : ℕ) → Seen t first rows xs i → length xs ≤ i
    → rows ≡ rows_after (ops_to t xs) first
seen-all t first rows xs i s h = ap (λ ys. rows_after (ops_to t ys) rows) (sym (drop_all i xs h)) ∙ s.whole

pub seen-start : (t : ℕ) (rows : List (List ℕ × List ℕ)) (xs : List StoredVersion) → Each (λ x. Under rows x.key) xs → InOrder xs
    → Seen t rows rows xs 0
seen-start t rows xs u o = record { whole = refl; under = u; ordered = o }

pub under-nothing : (xs : List StoredVersion) → Each (λ x. Under [] x.key) xs
under-nothing [] = tt
under-nothing (x ∷ xs) = (under-none x.key, under-nothing xs)

-- a walk in parts: the versions that are left give the whole
pub record Left (t : ℕ) (first rows : List (List ℕ × List ℕ)) (xs rest : List StoredVersion) : Type 0 where
  pub whole : rows_after (ops_to t rest) rows ≡ rows_after (ops_to t xs) first
  pub under : Each (λ x. Under rows x.key) rest
  pub ordered : InOrder rest

ops_to-append : (t : ℕ) (xs ys : List StoredVersion) → ops_to t (xs ++ ys) ≡ ops_to t xs ++ ops_to t ys
ops_to-append t [] ys = refl
ops_to-append t (x ∷ xs) ys =
    ⊎_elim
    (λ e. ops_to-in t x (xs ++ ys) e ∙ ap (λ w. written_by (without_place x) ∷ w) (ops_to-append t xs ys)
    ∙ sym (ap (λ w. w ++ ops_to t ys) (ops_to-in t x xs e)))
    (λ e. ops_to-out t x (xs ++ ys) e ∙ ops_to-append t xs ys ∙ sym (ap (λ w. w ++ ops_to t ys) (ops_to-out t x xs e)))
    (cases_Bool (nat_le x.commit t))

-- behind the versions xs, the rest is above the rows that they leave
under-rest : (t : ℕ) (xs ys : List StoredVersion) (rows : List (List ℕ × List ℕ)) → InOrder (xs ++ ys)
    → Each (λ x. Under rows x.key) (xs ++ ys) → Each (λ x. Under (rows_after (ops_to t xs) rows) x.key) ys
under-rest t [] ys rows o u = u
under-rest t (x ∷ xs) ys rows o u =
    rw (rows-first t x xs rows) (under-rest t xs ys (after_version t x rows) o.1 (under-after t x (xs ++ ys) rows u.0 o.0 u.1))

pub left-more : (t : ℕ) (first rows : List (List ℕ × List ℕ)) (xs ys zs : List StoredVersion) → Left t first rows xs (ys ++ zs)
    → Left t first (rows_after (ops_to t ys) rows) xs zs
left-more t first rows xs ys zs l = record {
  whole = sym (rows_after-append (ops_to t ys) (ops_to t zs) rows) ∙ ap (λ ops. rows_after ops rows) (sym (ops_to-append t ys zs))
      ∙ l.whole;
  under = under-rest t ys zs rows l.ordered l.under;
  ordered = in_order-right ys zs l.ordered;
}
