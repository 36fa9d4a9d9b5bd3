-- The logs of a source fit the rules on headers and records after a split.
use Rattle.std.proofs.Common.{◌≡◌, ◌≢◌, ℕ, suc, ◌+◌, ◌<◌, ◌≤◌, true, false, List, [], ◌∷◌, ◌++◌, length}
use Rattle.std.proofs.Common.{Some, None}
use Rattle.std.proofs.Common.{refl, ap, sym, ◌∙◌, subst, arith, ⊎_elim, append_assoc, append-nil, zero-add}
use Rattle.std.specs.Prelude.{not, ◌&&◌, is_none, is_some}
use Rattle.std.specs.List.{list_all, list_any}
use Rattle.std.proofs.lemmas.Bool.{cases_eq}
use Rattle.std.proofs.lemmas.Option.{none-some}
use Rattle.std.proofs.lemmas.List.{length_push, length-map, map-append, length-append}
use Rattle.std.proofs.lemmas.List.Folds.{list_all-append}
use Rattle.xc_time.specs.Times.{last_time}
use Rattle.xc_record.specs.declared.record.Header.{Header}
use Rattle.xc_record.specs.declared.record.Record.{Record}
use Rattle.xc_record.specs.declared.headers.Next.TheVariants.{RootAt, LeftChild}
use Rattle.xc_record.specs.Headers.{is_child_of, fit_from, children}
use Rattle.xc_record.specs.Order.{is_split}
use Rattle.xc_record.specs.Valid.{record_fits, ends_fit, ops_in}
use Rattle.xc_record.specs.Accepted.{AcceptedTablet}
use Rattle.xc_record.proofs.ListLaws.{Each, Each-append, Each-weaker}
use Rattle.xc_record.proofs.HeaderLaws.{Numbered}
use Rattle.xc_model.proofs.Elements.{each-front, each-back}
use Rattle.xc_model.proofs.Parents.{heads}
use Rattle.xc_source_laws.proofs.Lists.{each-here}
use Rattle.xc_source_laws.proofs.Grow.{taken, born}
use Rattle.xc_source_laws.proofs.Base.{each-two}
use Rattle.xc_source_laws.proofs.Books.{opens, opens-taken, with_halves}
use Rattle.xc_source_laws.proofs.Fitting.{FitsOf, OpenSaid, TabletFits, IsSmall, AreNext, fit-two, none-of, parts-of, from-parts}
use Rattle.xc_source_laws.proofs.Fitting.{heads-same}
use Rattle.xc_source_laws.proofs.Fitting.{length-same, small-taken, records-more, split-more, children-past, children-born, children-other}
use Rattle.xc_source_laws.proofs.Fitting.{any-two}

heads-halves : (bs : List AcceptedTablet) (c : AcceptedTablet) (l r : Header) → heads (with_halves bs c l r) ≡ heads bs ++ l ∷ r ∷ []
heads-halves bs c l r =
    ap heads (append_assoc bs (born c l ∷ []) (born c r ∷ []))
    ∙ map-append (λ (w : AcceptedTablet). w.header) bs (born c l ∷ born c r ∷ [])

-- the other tablets have other numbers
above-number : (n : ℕ) (bs : List AcceptedTablet) → Numbered n (heads bs) → Each (λ w. n ≤ w.header.id) bs
above-number n [] m = tt
above-number n (b ∷ bs) m = (
  let e = m.0 in omega arith,
  Each-weaker (λ w. n + 1 ≤ w.header.id) (λ w. n ≤ w.header.id) (λ w l. omega arith) bs (above-number (n + 1) bs m.1),
)

abbrev Other : ℕ → AcceptedTablet → Type 0
Other p w = p ≢ w.header.id

others : (n : ℕ) (xs : List AcceptedTablet) (b : AcceptedTablet) (ys : List AcceptedTablet) → Numbered n (heads (xs ++ b ∷ ys))
    → Each (Other (n + length xs)) xs × Each (Other (n + length xs)) ys
others n [] b ys m = (
  tt,
  Each-weaker (λ w. n + 1 ≤ w.header.id) (Other (n + length {A = AcceptedTablet} [])) (λ w l e. let z : ⊥ = omega arith in z) ys
      (above-number (n + 1) ys m.1),
)
others n (x ∷ xs) b ys m =
    let deep = others (n + 1) xs b ys m.1 in
    let same : n + 1 + length xs ≡ n + length (x ∷ xs) = let z : length (x ∷ xs) ≡ suc (length xs) = refl in omega arith in (
      (
        (λ e. let q = m.0 in let z : length (x ∷ xs) ≡ suc (length xs) = refl in let y : ⊥ = omega arith in y),
        subst (λ p. Each (Other p) xs) same deep.0,
      ),
      subst (λ p. Each (Other p) ys) same deep.1,
    )

pub no-children : (hs : List Header) (id : ℕ) → list_any (is_child_of id) hs ≡ false → children hs id ≡ None
no-children hs id e = ap (λ w. children w id) (sym (append-nil hs)) ∙ children-past hs [] id e

same-said : (hs gs : List Header) (b : AcceptedTablet) → children gs b.header.id ≡ children hs b.header.id → OpenSaid hs b → OpenSaid gs b
same-said hs gs b e o = o ∙ ap is_none (sym e)

same-fits : (hs gs : List Header) (b : AcceptedTablet) → children gs b.header.id ≡ children hs b.header.id → TabletFits hs b
    → TabletFits gs b
same-fits hs gs b e o =
    ap (λ w. list_all (record_fits b.header w) b.records && ends_fit (is_some w) b.records) e ∙ o

parent-fits : (hs gs : List Header) (b : AcceptedTablet) (rec : Record) (l r : Header) → opens b ≡ true → OpenSaid hs b
    → is_split rec.kind ≡ true → record_fits b.header (Some (l, r)) rec ≡ true → children gs b.header.id ≡ Some (l, r) → TabletFits hs b
    → TabletFits gs (taken b rec)
parent-fits hs gs b rec l r o said n fit c f =
    let none = none-of (children hs b.header.id) (sym said ∙ o) in
    let p = parts-of hs b.header b.records None none f in
    from-parts gs b.header (b.records ++ rec ∷ []) (Some (l, r)) c
    (list_all-append (record_fits b.header (Some (l, r))) b.records (rec ∷ []) ∙ rw (records-more b.header (l, r) b.records p.0, fit) refl)
    (split-more b.records rec n p.1)

born-fits : (gs : List Header) (c : AcceptedTablet) (l : Header) → list_any (is_child_of l.id) gs ≡ false
    → OpenSaid gs (born c l) × TabletFits gs (born c l)
born-fits gs c l e =
    let none = no-children gs l.id e in
    (ap is_none (sym none), from-parts gs l [] None none refl refl)

pub fits-split : (t count : ℕ) (xs : List AcceptedTablet) (b : AcceptedTablet) (ys : List AcceptedTablet) (rec : Record) (l r : Header)
    → FitsOf t count (xs ++ b ∷ ys) → Numbered 0 (heads (xs ++ b ∷ ys)) → opens b ≡ true → is_split rec.kind ≡ true → ops_in rec.kind ≤ 1
    → b.header.id ≡ length xs → AreNext (heads (xs ++ b ∷ ys)) (length xs) b.header l r
    → (t + 1 ≤ last_time → record_fits b.header (Some (l, r)) rec ≡ true)
    → FitsOf (t + 1) count (with_halves (xs ++ taken b rec ∷ ys) (taken b rec) l r)
fits-split t count xs b ys rec l r f m o n s id a ok = record {
  next = LeftChild;
  ends = refl;
  fit = subst (λ w. (tail : List Header) → fit_from [] (RootAt 0) (w ++ tail) ≡ fit_from w LeftChild tail) (sym all)
      (fit-two hs f.next p b.header l r f.ends a f.fit);
  paired = subst (λ w. (id : ℕ) → children w id ≡ None → list_any (is_child_of id) w ≡ false) (sym all) paired;
  parents = λ k q. subst (λ w. list_any (is_child_of k) w ≡ false) (sym all)
      (let z = length-halves in
      any-two hs l r p k (λ e. let y : ⊥ = omega arith in y) a.left a.right (f.parents k (omega arith)));
  said = subst (λ w. Each (OpenSaid w) (with_halves ws c l r)) (sym all)
      (whole-list (OpenSaid gs) said-x (closed ∙ sym (ap is_none (ap (children gs) id ∙ here))) said-y left.0 right.0);
  each = λ lt ct. subst (λ w. Each (TabletFits w) (with_halves ws c l r)) (sym all)
      (let old = f.each (omega arith) ct in
      let moved-x = each-two (TabletFits hs) (Other p) (TabletFits gs) (λ w g d. same-fits hs gs w (other w d) g) xs
      (each-front (TabletFits hs) xs (b ∷ ys) old) rest.0 in
      let moved-y = each-two (TabletFits hs) (Other p) (TabletFits gs) (λ w g d. same-fits hs gs w (other w d) g) ys
      (each-back (TabletFits hs) xs (b ∷ ys) old).1 rest.1 in
      whole-list (TabletFits gs) moved-x
      (parent-fits hs gs b rec l r o (each-here (OpenSaid hs) xs b ys f.said) n (ok lt) (ap (children gs) id ∙ here)
      (each-here (TabletFits hs) xs b ys old)) moved-y
      left.1 right.1);
  small = whole-halves IsSmall (small-taken xs b ys rec s f.small) tt tt;
}
  where
    c : AcceptedTablet
    c = taken b rec

    ws : List AcceptedTablet
    ws = xs ++ taken b rec ∷ ys

    p : ℕ
    p = length xs

    hs : List Header
    hs = heads (xs ++ b ∷ ys)

    gs : List Header
    gs = hs ++ l ∷ r ∷ []

    all : heads (with_halves ws c l r) ≡ gs
    all = heads-halves ws c l r ∙ ap (λ w. w ++ l ∷ r ∷ []) (sym (heads-same xs b ys rec))

    here : children gs p ≡ Some (l, r)
    here = children-born hs l r p a.free a.left

    rest : Each (Other p) xs × Each (Other p) ys
    rest = let q = others 0 xs b ys m in
        (subst (λ w. Each (Other w) xs) (zero-add p) q.0, subst (λ w. Each (Other w) ys) (zero-add p) q.1)

    other : (w : AcceptedTablet) → Other p w → children gs w.header.id ≡ children hs w.header.id
    other w d = children-other hs l r p w.header.id d a.left a.right (f.paired w.header.id)

    paired : (id : ℕ) → children gs id ≡ None → list_any (is_child_of id) gs ≡ false
    paired id e =
        ⊎_elim (λ q. absurd (none-some (l, r) (sym e ∙ ap (children gs) (sym q) ∙ here)))
        (λ d. any-two hs l r p id d a.left a.right
        (f.paired id (sym (children-other hs l r p id d a.left a.right (f.paired id)) ∙ e))) (cases_eq p id)

    within : p < length (xs ++ b ∷ ys)
    within = let e = length-append xs (b ∷ ys) in let z : length (b ∷ ys) ≡ suc (length ys) = refl in omega arith

    length-halves : (length (with_halves ws c l r) ≡ length (xs ++ b ∷ ys) + 2) × (p < length (xs ++ b ∷ ys))
    length-halves = (
      let e = length_push (ws ++ born c l ∷ []) (born c r) in let q = length_push ws (born c l) in let z = length-same xs b c ys in
          omega arith,
      within,
    )

    closed : opens c ≡ false
    closed = opens-taken b rec ∙ ap not n

    none-at : (k : ℕ) → length hs ≤ k → list_any (is_child_of k) gs ≡ false
    none-at k q =
        let z = length-map (xs ++ b ∷ ys) (λ (w : AcceptedTablet). w.header) in
        let y = within in
        any-two hs l r p k (λ e. let x : ⊥ = omega arith in x) a.left a.right (f.parents k (omega arith))

    left : OpenSaid gs (born c l) × TabletFits gs (born c l)
    left = born-fits gs c l (none-at l.id (let z = a.left_id in omega arith))

    right : OpenSaid gs (born c r) × TabletFits gs (born c r)
    right = born-fits gs c r (none-at r.id (let z = a.right_id in omega arith))

    said-x : Each (OpenSaid gs) xs
    said-x = each-two (OpenSaid hs) (Other p) (OpenSaid gs) (λ w g d. same-said hs gs w (other w d) g) xs
        (each-front (OpenSaid hs) xs (b ∷ ys) f.said) rest.0

    said-y : Each (OpenSaid gs) ys
    said-y = each-two (OpenSaid hs) (Other p) (OpenSaid gs) (λ w g d. same-said hs gs w (other w d) g) ys
        (each-back (OpenSaid hs) xs (b ∷ ys) f.said).1 rest.1

    whole-halves : (P : AcceptedTablet → Type 0) → Each P ws → P (born c l) → P (born c r) → Each P (with_halves ws c l r)
    whole-halves P w x y = Each-append P (ws ++ born c l ∷ []) (born c r ∷ []) (Each-append P ws (born c l ∷ []) w (x, tt)) (y, tt)

    whole-list : (P : AcceptedTablet → Type 0) → Each P xs → P c → Each P ys → P (born c l) → P (born c r) → Each P (with_halves ws c l r)
    whole-list P u v w x y = whole-halves P (Each-append P xs (c ∷ ys) u (v, w)) x y
