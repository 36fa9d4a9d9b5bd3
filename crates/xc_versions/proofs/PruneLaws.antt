-- A prune of a page, from its last version to its first.
use Rattle.std.proofs.Common.{◌≡◌, ℕ, suc, ◌+◌, ◌<◌, ◌≤◌, Bool, true, false, cond, List, [], ◌∷◌, ◌++◌, length, get_or, take, drop}
use Rattle.std.proofs.Common.{Option, Some}
use Rattle.std.proofs.Common.{refl, ap, sym, ◌∙◌, subst, arith, add-one, length-append}
use Rattle.std.specs.Prelude.{remove, slice_get}
use Rattle.std.specs.Option.{option_to_list}
use Rattle.std.proofs.lemmas.List.{drop_more, drop_all, length-take-le, take_at, drop_at, length-drop, get_or-take, take-take}
use Rattle.xc_versions.specs.declared.stored.StoredVersion.{StoredVersion}
use Rattle.xc_versions.specs.Stored.{next_commit, is_due, next_replaces, pruned_before}
use Rattle.xc_versions.specs.Pages.{IdleNext}

-- from the place i on all is done, and `behind` stands first there
pub record Going (u : ℕ) (next : Option StoredVersion) (old items : List StoredVersion) (behind : Option StoredVersion) (due i : ℕ) : Type 0
  where
    pub within : i ≤ length old
    pub long : length items ≤ length old
    pub short : i ≤ length items
    pub front : take i items ≡ take i old
    pub tail : (rest : List StoredVersion) → slice_get rest 0 ≡ next → drop i items ++ rest ≡ pruned_before u (drop i old) rest
    pub head : (rest : List StoredVersion) → slice_get rest 0 ≡ next → slice_get (drop i items ++ rest) 0 ≡ behind
    pub idle : (w : ℕ) (rest : List StoredVersion) → slice_get rest 0 ≡ next → w < due → IdleNext w (drop i items) rest

pub going-start : (u : ℕ) (next : Option StoredVersion) (old : List StoredVersion) (due : ℕ) → Going u next old old next due (length old)
going-start u next old due =
    let none : drop (length old) old ≡ [] = drop_all (length old) old (omega arith) in
    record {
      within = omega arith;
      long = omega arith;
      short = omega arith;
      front = refl;
      tail = λ rest e. ap (λ w. w ++ rest) none ∙ sym (ap (λ w. pruned_before u w rest) none);
      head = λ rest e. ap (λ w. slice_get (w ++ rest) 0) none ∙ e;
      idle = λ w rest e l. subst (λ (xs : List StoredVersion). IdleNext w xs rest) (sym none) tt;
    }

by-head : (x : StoredVersion) (ys : List StoredVersion) → next_commit x (option_to_list (slice_get ys 0)) ≡ next_commit x ys
by-head x [] = refl
by-head x (y ∷ ys) = refl

read-old : (old items : List StoredVersion) (i : ℕ) (x : StoredVersion) → i < length old → i < length items
    → take (i + 1) items ≡ take (i + 1) old → x ≡ get_or items i x → x ≡ get_or old i x
read-old old items i x h k e f =
    f ∙ sym (get_or-take (i + 1) items i x (omega arith)) ∙ ap (λ xs. get_or xs i x) e ∙ get_or-take (i + 1) old i x (omega arith)

shorter : (xs ys : List StoredVersion) (i : ℕ) → take (i + 1) xs ≡ take (i + 1) ys → take i xs ≡ take i ys
shorter xs ys i e = sym (take-take i (i + 1) xs (omega arith)) ∙ ap (take i) e ∙ take-take i (i + 1) ys (omega arith)

-- what stands behind the version tells whether it is replaced
told : (u : ℕ) (next : Option StoredVersion) (old items : List StoredVersion) (behind : Option StoredVersion) (due i : ℕ)
    (x : StoredVersion) → Going u next old items behind due i → (w : ℕ) (rest : List StoredVersion) → slice_get rest 0 ≡ next
    → next_replaces w x (drop i items ++ rest) ≡ is_due w (next_commit x (option_to_list behind))
told u next old items behind due i x g w rest r =
    ap (is_due w) (sym (by-head x (drop i items ++ rest)) ∙ ap (λ o. next_commit x (option_to_list o)) (g.head rest r))

-- a version more of what is pruned
pruned-more : (u : ℕ) (next : Option StoredVersion) (old items : List StoredVersion) (behind : Option StoredVersion) (due i : ℕ)
    (x : StoredVersion) (is : Bool) → Going u next old items behind due (i + 1) → drop i old ≡ x ∷ drop (i + 1) old
    → is_due u (next_commit x (option_to_list behind)) ≡ is → (rest : List StoredVersion) → slice_get rest 0 ≡ next
    → pruned_before u (drop i old) rest ≡ cond is (drop (i + 1) items ++ rest) (x ∷ (drop (i + 1) items ++ rest))
pruned-more u next old items behind due i x is g split n rest r =
    let below = g.tail rest r in
    let test : next_replaces u x (drop (i + 1) items ++ rest) ≡ is = told u next old items behind due (i + 1) x g u rest r ∙ n in
    ap (λ ys. pruned_before u ys rest) split
    ∙ ap (λ ys. cond (next_replaces u x ys) ys (x ∷ ys)) (sym below)
    ∙ ap (λ b. cond b (drop (i + 1) items ++ rest) (x ∷ (drop (i + 1) items ++ rest))) test

-- the version stays
pub going-kept : (u : ℕ) (next : Option StoredVersion) (old items : List StoredVersion) (behind : Option StoredVersion) (due later i : ℕ)
    (x : StoredVersion) → Going u next old items behind due (i + 1) → x ≡ get_or items i x
    → is_due u (next_commit x (option_to_list behind)) ≡ false
    → ((w : ℕ) → w < later → (w < due) × (is_due w (next_commit x (option_to_list behind)) ≡ false))
    → Going u next old items (Some x) later i
going-kept u next old items behind due later i x g e n l =
    let w = g.within in
    let s = g.short in
    let is_old = read-old old items i x (omega arith) (omega arith) g.front e in
    let split : drop i items ≡ x ∷ drop (i + 1) items = drop_more items i x (omega arith) ∙ ap (λ y. y ∷ drop (i + 1) items) (sym e) in
    let split_old : drop i old ≡ x ∷ drop (i + 1) old = drop_more old i x (omega arith) ∙ ap (λ y. y ∷ drop (i + 1) old) (sym is_old) in
    record {
      within = omega arith;
      long = g.long;
      short = omega arith;
      front = shorter items old i g.front;
      tail = λ rest r. ap (λ ys. ys ++ rest) split ∙ sym (pruned-more u next old items behind due i x false g split_old n rest r);
      head = λ rest r. ap (λ ys. slice_get (ys ++ rest) 0) split;
      idle = λ v rest r k.
          let later = l v k in
          let test = told u next old items behind due (i + 1) x g v rest r ∙ later.1 in
          subst (λ (ys : List StoredVersion). IdleNext v ys rest) (sym split) (test, g.idle v rest r later.0);
    }

-- the version goes
pub going-removed : (u : ℕ) (next : Option StoredVersion) (old items : List StoredVersion) (behind : Option StoredVersion) (due i : ℕ)
    (x : StoredVersion) → Going u next old items behind due (i + 1) → x ≡ get_or items i x
    → is_due u (next_commit x (option_to_list behind)) ≡ true → Going u next old (remove items i) behind due i
going-removed u next old items behind due i x g e n =
    let w = g.within in
    let s = g.short in
    let g_long = g.long in
    let is_old = read-old old items i x (omega arith) (omega arith) g.front e in
    let split_old : drop i old ≡ x ∷ drop (i + 1) old = drop_more old i x (omega arith) ∙ ap (λ y. y ∷ drop (i + 1) old) (sym is_old) in
    let long = length-take-le i items (omega arith) in
    let behind_is : drop (suc i) items ≡ drop (i + 1) items = ap (λ k. drop k items) (sym (add-one i)) in
    let after : drop i (remove items i) ≡ drop (i + 1) items = drop_at (take i items) (drop (suc i) items) i long ∙ behind_is in
    let before : take i (remove items i) ≡ take i items = take_at (take i items) (drop (suc i) items) i long in
    let whole = length-append (take i items) (drop (suc i) items) in
    let rest_long = ap length behind_is ∙ length-drop (i + 1) items in
    record {
      within = omega arith;
      long = omega arith;
      short = omega arith;
      front = before ∙ shorter items old i g.front;
      tail = λ rest r. ap (λ ys. ys ++ rest) after ∙ sym (pruned-more u next old items behind due i x true g split_old n rest r);
      head = λ rest r. ap (λ ys. slice_get (ys ++ rest) 0) after ∙ g.head rest r;
      idle = λ v rest r k. subst (λ (ys : List StoredVersion). IdleNext v ys rest) (sym after) (g.idle v rest r k);
    }

pub going-done : (u : ℕ) (next : Option StoredVersion) (old items : List StoredVersion) (behind : Option StoredVersion) (due i : ℕ)
    → Going u next old items behind due i → i ≡ 0 → Going u next old items behind due 0
going-done u next old items behind due i g e = subst (λ (k : ℕ). Going u next old items behind due k) e g
