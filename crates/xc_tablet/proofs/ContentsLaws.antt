-- What one more version, one more waiting operation, or one that is taken does to what is kept.
use Rattle.std.proofs.Common.{◌≡◌, ℕ, ◌+◌, ◌<◌, ◌≤◌, true, false, cond, List, [], ◌∷◌, ◌++◌, length, map, refl, ap, sym, ◌∙◌, arith, subst}
use Rattle.std.proofs.Common.{⊎_elim}
use Rattle.std.specs.Prelude.{bytes_eq}
use Rattle.std.specs.Ordering.{is_gt}
use Rattle.std.proofs.lemmas.Bool.{cases_Bool, true≢false}
use Rattle.std.proofs.lemmas.Slice.Eq.{bytes_eq-Decides}
use Rattle.std.proofs.lemmas.List.Sums.{sum_by-cons}
use Rattle.xc_record.proofs.ListLaws.{Each, Each-weaker, Each-append}
use Rattle.xc_record.specs.declared.record.Op.{Op}
use Rattle.xc_record.specs.Path.{Event, Put, Hold, Version, Waiting, Written, puts}
use Rattle.xc_record.specs.Kept.{Kept, KeyWaiting, waiting_of, waiting_at, add, steps}
use Rattle.xc_versions.specs.declared.stored.StoredVersion.{StoredVersion}
use Rattle.xc_versions.specs.Stored.{stored_cmp, InOrder, IsLast, stored, with_version, stored_at}
use Rattle.xc_versions.proofs.VersionLaws.{version, stored_at-with, stored_at-with_other, new-last, with-in_order}
use Rattle.xc_intents.specs.HeldOps.{held_op}
use Rattle.xc_intents.proofs.IntentLaws.{waiting_at-held, waiting_at-held_elsewhere}
use Rattle.xc_tablet.specs.declared.contents.Contents.{Contents}
use Rattle.xc_tablet.specs.Contents.{in_hashes, has_key, kept_in, IsContents, Changes, put_events, hold_events}
use Rattle.xc_tablet.specs.Room.{count_in, Adds}

abbrev pub kept : List Version → List Waiting → Kept
kept vs ws = record { versions = vs; held = ws }

-- ---- one more version

pub last-of_counted : (v : StoredVersion) (xs : List StoredVersion) → Each (λ x. x.place < v.place) xs → IsLast v xs
last-of_counted v xs h =
    Each-weaker (λ x. x.place < v.place) (λ x. x.key ≡ v.key → x.commit ≡ v.commit → x.txn ≡ v.txn → x.place < v.place) (λ x p _ _ _. p) xs
    h

pub each-with : (P : StoredVersion → Type 0) (v : StoredVersion) (xs : List StoredVersion) → P v → Each P xs → Each P (with_version v xs)
each-with P v [] p h = (p, tt)
each-with P v (y ∷ ys) p h =
    elim (is_gt (stored_cmp v y)) as (λ b. Each P (cond b (y ∷ with_version v ys) (v ∷ y ∷ ys)))
    [ true ↦ (h.0, each-with P v ys p h.1) | false ↦ (p, h) ]

pub stored_at-more : (k : List ℕ) (v : StoredVersion) (xs : List StoredVersion) → InOrder xs → IsLast v xs
    → stored_at k (with_version v xs) ≡ cond (bytes_eq k v.key) (add (version v) (stored_at k xs)) (stored_at k xs)
stored_at-more k v xs o last =
    ⊎_elim {C = stored_at k (with_version v xs) ≡ cond (bytes_eq k v.key) (add (version v) (stored_at k xs)) (stored_at k xs)}
    (λ e. let same : v.key ≡ k = sym ((bytes_eq-Decides k v.key).0 e) in
    subst (λ (q : List ℕ). stored_at q (with_version v xs) ≡ add (version v) (stored_at q xs)) same (stored_at-with v xs o last)
    ∙ ap (λ b. cond b (add (version v) (stored_at k xs)) (stored_at k xs)) (sym e))
    (λ e. stored_at-with_other k v xs e ∙ ap (λ b. cond b (add (version v) (stored_at k xs)) (stored_at k xs)) (sym e))
    (cases_Bool (bytes_eq k v.key))

-- a key outside the range is none of those in it
pub other-key : (lo hi : ℕ) (k q : List ℕ) → in_hashes lo hi k ≡ true → in_hashes lo hi q ≡ false → bytes_eq k q ≡ false
other-key lo hi k q i o =
    ⊎_elim {C = bytes_eq k q ≡ false} (λ e. absurd (true≢false (sym i ∙ ap (in_hashes lo hi) ((bytes_eq-Decides k q).0 e)
    ∙ o))) (λ e. e) (cases_Bool (bytes_eq k q))

-- the versions of d are those of c and one more, of a key in the range, at the place of c
pub record AddsVersion (v : StoredVersion) (c d : Contents) : Type 0 where
  pub range : (d.lo ≡ c.lo) × (d.hi ≡ c.hi)
  pub inside : has_key c v.key ≡ true
  pub at : v.place ≡ c.next
  pub items : d.versions.items ≡ with_version v c.versions.items
  pub next : d.next ≡ c.next + 1

module _ (v : StoredVersion) (c d : Contents) (is : IsContents c) (adds : AddsVersion v c d) where
  pub adds-last : IsLast v c.versions.items
  adds-last = last-of_counted v c.versions.items (subst (λ n. Each (λ x. x.place < n) c.versions.items) (sym adds.at) is.counted)

  pub adds-at : (k : List ℕ)
      → stored_at k d.versions.items ≡ cond (bytes_eq k v.key) (add (version v) (stored_at k c.versions.items))
      (stored_at k c.versions.items)
  adds-at k = ap (stored_at k) adds.items ∙ stored_at-more k v c.versions.items is.ordered adds-last

  pub within-same : (q : List ℕ) → has_key c q ≡ true → has_key d q ≡ true
  within-same q h = ap (λ lo. in_hashes lo d.hi q) adds.range.0 ∙ ap (λ hi. in_hashes c.lo hi q) adds.range.1 ∙ h

  pub adds-is : Each (λ w. has_key c w.key ≡ true) d.held.held → IsContents d
  adds-is held = record {
    versions = subst (Each (λ x. has_key d x.key ≡ true)) (sym adds.items)
        (each-with (λ x. has_key d x.key ≡ true) v c.versions.items (within-same v.key adds.inside)
        (Each-weaker (λ x. has_key c x.key ≡ true) (λ x. has_key d x.key ≡ true) (λ x h. within-same x.key h) c.versions.items
        is.versions));
    held = Each-weaker (λ w. has_key c w.key ≡ true) (λ w. has_key d w.key ≡ true) (λ w h. within-same w.key h) d.held.held held;
    ordered = subst InOrder (sym adds.items) (with-in_order v c.versions.items is.ordered (new-last v c.versions.items adds-last));
    counted = subst (Each (λ x. x.place < d.next)) (sym adds.items)
        (each-with (λ x. x.place < d.next) v c.versions.items
        (let a : v.place ≡ c.next = adds.at in let b : d.next ≡ c.next + 1 = adds.next in omega arith)
        (Each-weaker (λ x. x.place < c.next) (λ x. x.place < d.next) (λ x h. let b : d.next ≡ c.next + 1 = adds.next in omega arith)
        c.versions.items is.counted));
  }

-- ---- one operation of a write

put-one : (k : List ℕ) (time : ℕ) (op : Op) (vs : List Version) (ws : List Waiting)
    → kept (cond (bytes_eq k op.key) (add (record { commit = time; txn = 0; value = op.value }) vs) vs) ws ≡ steps
    (map (λ v. Put time v) (puts k (op ∷ []))) (kept vs ws)
put-one k time op vs ws =
    elim (bytes_eq k op.key) as
    (λ b. kept (cond b (add (record { commit = time; txn = 0; value = op.value }) vs) vs) ws ≡ steps
    (map (λ v. Put time v) (cond b (op.value ∷ []) [])) (kept vs ws)) [ true ↦ refl | false ↦ refl ]

pub ops-none : (e : Written → Event) (k : List ℕ) (op : Op) (x : Kept) → bytes_eq k op.key ≡ false → x ≡ steps (map e (puts k (op ∷ []))) x
ops-none e k op x h = ap (λ b. steps (map e (cond b (op.value ∷ []) [])) x) (sym h)

pub put-inside : (c d : Contents) (time : ℕ) (op : Op) → IsContents c → AddsVersion (stored op.key time 0 c.next op.value) c d
    → d.held.held ≡ c.held.held → Changes (put_events time (op ∷ [])) c d
put-inside c d time op is adds held =
    let v : StoredVersion = stored op.key time 0 c.next op.value in
    record {
      range = adds.range;
      keys = λ k h. ap (λ ws. kept (stored_at k d.versions.items) (waiting_at k ws)) held
          ∙ ap (λ vs. kept vs (waiting_at k c.held.held)) (adds-at v c d is adds k)
          ∙ put-one k time op (stored_at k c.versions.items) (waiting_at k c.held.held);
      is = adds-is v c d is adds (subst (Each (λ w. has_key c w.key ≡ true)) (sym held) is.held);
    }

pub outside : (e : Written → Event) (c : Contents) (op : Op) → IsContents c → has_key c op.key ≡ false
    → Changes (λ k x. steps (map e (puts k (op ∷ []))) x) c c
outside e c op is out = record {
  range = (refl, refl);
  keys = λ k h. ops-none e k op (kept_in c k) (other-key c.lo c.hi k op.key h out);
  is = is;
}

-- ---- one operation of an intent

hold-one : (k : List ℕ) (txn sub time : ℕ) (op : Op) (vs : List Version) (ws : List Waiting)
    → kept vs (cond (bytes_eq k op.key) (ws ++ record { txn = txn; sub = sub; value = op.value } ∷ []) ws) ≡ steps
    (map (λ v. Hold txn sub time v) (puts k (op ∷ []))) (kept vs ws)
hold-one k txn sub time op vs ws =
    elim (bytes_eq k op.key) as
    (λ b. kept vs (cond b (ws ++ record { txn = txn; sub = sub; value = op.value } ∷ []) ws) ≡ steps
    (map (λ v. Hold txn sub time v) (cond b (op.value ∷ []) [])) (kept vs ws)) [ true ↦ refl | false ↦ refl ]

waiting_at-more : (k : List ℕ) (w : KeyWaiting) (hs : List KeyWaiting)
    → waiting_at k (hs ++ w ∷ []) ≡ cond (bytes_eq k w.key) (waiting_at k hs ++ waiting_of w ∷ []) (waiting_at k hs)
waiting_at-more k w hs =
    ⊎_elim {C = waiting_at k (hs ++ w ∷ []) ≡ cond (bytes_eq k w.key) (waiting_at k hs ++ waiting_of w ∷ []) (waiting_at k hs)}
    (λ e. waiting_at-held k hs w e ∙ ap (λ b. cond b (waiting_at k hs ++ waiting_of w ∷ []) (waiting_at k hs)) (sym e))
    (λ e. waiting_at-held_elsewhere k hs w e ∙ ap (λ b. cond b (waiting_at k hs ++ waiting_of w ∷ []) (waiting_at k hs)) (sym e))
    (cases_Bool (bytes_eq k w.key))

pub hold-inside : (c d : Contents) (txn sub time : ℕ) (op : Op) → IsContents c → has_key c op.key ≡ true → d ≡ record c { held = d.held }
    → d.held.held ≡ c.held.held ++ held_op txn sub op ∷ []
    → Changes (hold_events txn sub time (op ∷ [])) c d
hold-inside c d txn sub time op is inside rest held =
    subst (Changes (hold_events txn sub time (op ∷ [])) c) (sym rest) (record {
      range = (refl, refl);
      keys = λ k h. ap (λ ws. kept (stored_at k c.versions.items) (waiting_at k ws)) held
          ∙ ap (kept (stored_at k c.versions.items)) (waiting_at-more k (held_op txn sub op) c.held.held)
          ∙ hold-one k txn sub time op (stored_at k c.versions.items) (waiting_at k c.held.held);
      is = record {
        versions = is.versions;
        held = subst (Each (λ w. has_key c w.key ≡ true)) (sym held)
            (Each-append (λ w. has_key c w.key ≡ true) c.held.held (held_op txn sub op ∷ []) is.held (inside, tt));
        ordered =
            is.ordered;
        counted = is.counted;
      };
    })

-- ---- operations one after another

-- what is left to do of the operations gives the whole
pub record Left (e : Written → Event) (ops rest : List Op) (c d : Contents) : Type 0 where
  pub range : (d.lo ≡ c.lo) × (d.hi ≡ c.hi)
  pub keys : (k : List ℕ) → has_key c k ≡ true → steps (map e (puts k rest)) (kept_in d k) ≡ steps (map e (puts k ops)) (kept_in c k)
  pub is : IsContents d

first-then : (e : Written → Event) (k : List ℕ) (op : Op) (ops : List Op) (x : Kept)
    → steps (map e (puts k (op ∷ ops))) x ≡ steps (map e (puts k ops)) (steps (map e (puts k (op ∷ []))) x)
first-then e k op ops x =
    elim (bytes_eq k op.key) as
    (λ b. steps (map e (cond b (op.value ∷ puts k ops) (puts k ops))) x ≡ steps (map e (puts k ops))
    (steps (map e (cond b (op.value ∷ []) [])) x)) [ true ↦ refl | false ↦ refl ]

pub left-all : (e : Written → Event) (ops : List Op) (c : Contents) → IsContents c → Left e ops ops c c
left-all e ops c is = record { range = (refl, refl); keys = λ k h. refl; is = is }

pub left-more : (e : Written → Event) (ops : List Op) (op : Op) (rest : List Op) (c d f : Contents) → Left e ops (op ∷ rest) c d
    → Changes (λ k x. steps (map e (puts k (op ∷ []))) x) d f → Left e ops rest c f
left-more e ops op rest c d f left one = record {
  range = (one.range.0 ∙ left.range.0, one.range.1 ∙ left.range.1);
  keys = λ k h. ap (steps (map e (puts k rest))) (one.keys k (ap (λ lo. in_hashes lo d.hi k) left.range.0
      ∙ ap (λ hi. in_hashes c.lo hi k) left.range.1 ∙ h))
      ∙ sym (first-then e k op rest (kept_in d k)) ∙ left.keys k h;
  is = one.is;
}

pub left-none : (e : Written → Event) (ops : List Op) (c d : Contents) → Left e ops [] c d
    → Changes (λ k x. steps (map e (puts k ops)) x) c d
left-none e ops c d left = record { range = left.range; keys = left.keys; is = left.is }

-- how many were added, and how many are left to be
pub record AddsLeft (ops rest : List Op) (c d : Contents) : Type 0 where
  pub next : d.next + count_in c.lo c.hi rest ≡ c.next + count_in c.lo c.hi ops
  pub waits : length d.held.held ≡ length c.held.held
  pub versions : c.versions.spare + count_in c.lo c.hi rest ≤ d.versions.spare + count_in c.lo c.hi ops
  pub held : c.held.spare ≤ d.held.spare
  pub fit : d.next + length rest ≤ c.next + length ops

pub record HoldsLeft (ops rest : List Op) (c d : Contents) : Type 0 where
  pub next : d.next ≡ c.next
  pub waits : length d.held.held + count_in c.lo c.hi rest ≡ length c.held.held + count_in c.lo c.hi ops
  pub held : c.held.spare + count_in c.lo c.hi rest ≤ d.held.spare + count_in c.lo c.hi ops
  pub versions : c.versions.spare ≤ d.versions.spare

count-more : (lo hi : ℕ) (op : Op) (rest : List Op) → count_in lo hi (op ∷ rest) ≡ count_in lo hi (op ∷ []) + count_in lo hi rest
count-more lo hi op rest =
    omega (
      arith,
      sum_by-cons (λ (o : Op). cond (in_hashes lo hi o.key) 1 0) op rest,
      sum_by-cons
          (λ (o : Op). cond (in_hashes lo hi o.key) 1 0) op [],
    )

count-one : (lo hi : ℕ) (op : Op) → count_in lo hi (op ∷ []) ≤ 1
count-one lo hi op = elim (in_hashes lo hi op.key) as (λ b. 0 + cond b 1 0 ≤ 1) [ true ↦ omega arith | false ↦ omega arith ]

count-range : (c d : Contents) (ops : List Op) → (d.lo ≡ c.lo) × (d.hi ≡ c.hi) → count_in d.lo d.hi ops ≡ count_in c.lo c.hi ops
count-range c d ops r = ap (λ lo. count_in lo d.hi ops) r.0 ∙ ap (λ hi. count_in c.lo hi ops) r.1

pub adds-more : (ops : List Op) (op : Op) (rest : List Op) (c d f : Contents) → (d.lo ≡ c.lo) × (d.hi ≡ c.hi)
    → AddsLeft ops (op ∷ rest) c d → Adds (count_in d.lo d.hi (op ∷ [])) 0 d f → AddsLeft ops rest c f
adds-more ops op rest c d f r left one =
    let more = count-more c.lo c.hi op rest in
    let same = count-range c d (op ∷ []) r in
    let small = count-one c.lo c.hi op in
    record {
      next = omega (arith, more, same, left.next, one.next);
      waits = omega (arith, left.waits, one.waits);
      versions = omega (arith, more, same, left.versions, one.versions);
      held = omega (arith, left.held, one.held);
      fit = omega (arith, same, small, left.fit, one.next);
    }

pub holds-more : (ops : List Op) (op : Op) (rest : List Op) (c d f : Contents) → (d.lo ≡ c.lo) × (d.hi ≡ c.hi)
    → HoldsLeft ops (op ∷ rest) c d → Adds 0 (count_in d.lo d.hi (op ∷ [])) d f → HoldsLeft ops rest c f
holds-more ops op rest c d f r left one =
    let more = count-more c.lo c.hi op rest in
    let same = count-range c d (op ∷ []) r in
    record {
      next = omega (arith, left.next, one.next);
      waits = omega (arith, more, same, left.waits, one.waits);
      held = omega (arith, more, same, left.held, one.held);
      versions = omega (arith, left.versions, one.versions);
    }

pub room-first : (d : Contents) (op : Op) (rest : List Op) → count_in d.lo d.hi (op ∷ rest) ≤ d.held.spare
    → count_in d.lo d.hi (op ∷ []) ≤ d.held.spare
room-first d op rest h = omega (arith, count-more d.lo d.hi op rest)

pub room-rest : (d f : Contents) (op : Op) (rest : List Op) → (f.lo ≡ d.lo) × (f.hi ≡ d.hi) → Adds 0 (count_in d.lo d.hi (op ∷ [])) d f
    → count_in d.lo d.hi (op ∷ rest) ≤ d.held.spare → count_in f.lo f.hi rest ≤ f.held.spare
room-rest d f op rest r adds h = omega (arith, count-more d.lo d.hi op rest, count-range d f rest r, adds.held)
