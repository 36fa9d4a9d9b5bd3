-- Laws of children: the two of a tablet are the only headers that name it as their parent, and they share out its range.
use Rattle.std.proofs.Common.{◌≡◌, ℕ, zero, suc, ◌+◌, Bool, true, false, cond, ◌||◌, ◌⊎◌, List, [], ◌∷◌, ◌++◌, Option, Some, None, refl, ap}
use Rattle.std.proofs.Common.{sym, ◌∙◌, subst, append_assoc, inl, inr, ⊎_elim, zero-add}
use Rattle.std.proofs.lemmas.Bool.{and_parts, cases_Bool, true≢false, eqb-true, eq-eqb, or_right}
use Rattle.std.proofs.lemmas.List.Folds.{list_any-append}
use Rattle.std.proofs.lemmas.Option.{same_Some}
use Rattle.std.specs.Prelude.{filter, slice_get, ◌==◌, ◌↔◌}
use Rattle.std.specs.List.{list_any}
use Rattle.std.specs.Option.{option_map_or}
use Rattle.xc_record.specs.declared.record.Header.{Header}
use Rattle.xc_record.specs.declared.headers.Next.{Next}
use Rattle.xc_record.specs.declared.headers.Next.TheVariants.{RootAt, LeftChild, RightChild}
use Rattle.xc_record.specs.Headers.{is_child_of, hi_of, fits, parent_fits, child_fits, next_after, after_child, fit_from, headers_fit}
use Rattle.xc_record.specs.Headers.{with_next, children}
use Rattle.xc_record.specs.Bounds.{SharesOut}
use Rattle.xc_record.specs.Valid.{split_fits}
use Rattle.xc_record.specs.RangeLaws.{range, ChildrenShareOut}
use Rattle.xc_record.proofs.ListLaws.{slice_get-append, filtered-get, get-filtered}
use Rattle.xc_record.proofs.HeaderLaws.{Numbered-at, headers_fit-all, SplitsOff, splits_off-parts}
use Rattle.xc_record.proofs.RangeLaws.{fits-parent, fits-wide}

child-named : (id : ℕ) (h : Header) → is_child_of id h ≡ true → h.parent ≡ Some id
child-named id h e = go h.parent refl e
  where
    go : (q : Option ℕ) → h.parent ≡ q → option_map_or (λ parent. parent == id) q false ≡ true → h.parent ≡ Some id
    go None f e = cc
    go (Some p) f e = f ∙ ap Some (eqb-true _ _ e)

named-child : (id : ℕ) (h : Header) → h.parent ≡ Some id → is_child_of id h ≡ true
named-child id h e = ap (λ q. option_map_or (λ parent. parent == id) q false) e ∙ eq-eqb id id refl

-- ---- what may stand next

-- what stands next is no right child of id
abbrev IsApart : ℕ → Next → Type 0
IsApart id (RightChild parent lo hi) = id ≡ parent → ⊥
IsApart id _ = Unit {0}

apart-after : (before : List Header) (next : Next) (id : ℕ) (h : Header) (q : Option ℕ) → h.parent ≡ q → is_child_of id h ≡ false
    → IsApart id (next_after before next h q)
apart-after before next id h None e n = tt
apart-after before (RootAt lo) id h (Some p) e n = λ same. true≢false (sym (named-child id h (e ∙ ap Some (sym same))) ∙ n)
apart-after before LeftChild id h (Some p) e n = λ same. true≢false (sym (named-child id h (e ∙ ap Some (sym same))) ∙ n)
apart-after before (RightChild parent lo hi) id h (Some p) e n = tt

-- a left child comes first, and the right one right after it
record LeftAt (before : List Header) (next : Next) (id : ℕ) (t : Header) : Type 0 where
  off : SplitsOff before id t
  after : next_after before next t t.parent ≡ RightChild id (t.hi + 1) (hi_of before id)

left-at : (before : List Header) (next : Next) (id : ℕ) (t : Header) → IsApart id next → fits before next t ≡ true
    → is_child_of id t ≡ true → LeftAt before next id t
left-at before next id t a e c = record { off = parts.0; after = ap (next_after before next t) named ∙ parts.1 }
  where
    named : t.parent ≡ Some id
    named = child-named id t c

    go : (next : Next) → IsApart id next → child_fits before id next t ≡ true
        → SplitsOff before id t × (after_child before id next t ≡ RightChild id (t.hi + 1) (hi_of before id))
    go (RootAt lo) a f = (splits_off-parts before id t (and_parts _ _ f).1, refl)
    go LeftChild a f = (splits_off-parts before id t f, refl)
    go (RightChild parent lo hi) a f = absurd (a (eqb-true _ _ (and_parts _ _ f).0))

    parts : SplitsOff before id t × (after_child before id next t ≡ RightChild id (t.hi + 1) (hi_of before id))
    parts = go next a (subst (λ q. parent_fits before next t q ≡ true) named (fits-parent before next t e))

record RightAt (before : List Header) (id lo hi : ℕ) (u : Header) : Type 0 where
  named : u.parent ≡ Some id
  lo_is : u.lo ≡ lo
  hi_is : u.hi ≡ hi
  after : next_after before (RightChild id lo hi) u u.parent ≡ LeftChild

right-at : (before : List Header) (id lo hi : ℕ) (u : Header) → fits before (RightChild id lo hi) u ≡ true → RightAt before id lo hi u
right-at before id lo hi u e = go u.parent refl (fits-parent before (RightChild id lo hi) u e)
  where
    go : (q : Option ℕ) → u.parent ≡ q → parent_fits before (RightChild id lo hi) u q ≡ true → RightAt before id lo hi u
    go None is f = cc
    go (Some p) is f =
        let parts = and_parts _ _ f in
        let ends = and_parts _ _ parts.1 in
        record {
          named = is ∙ ap Some (eqb-true _ _ parts.0);
          lo_is = eqb-true _ _ ends.0;
          hi_is = eqb-true _ _ ends.1;
          after = ap (next_after before (RightChild id lo hi) u) is;
        }

-- once a tablet has a child, only the right one that is awaited may come
no-more : (before : List Header) (next : Next) (hs : List Header) (id : ℕ) → IsApart id next → list_any (is_child_of id) before ≡ true
    → fit_from before next hs ≡ true → filter (is_child_of id) hs ≡ []
no-more before next [] id a has e = refl
no-more before next (t ∷ ts) id a has e =
    let parts = and_parts _ _ e in
    ⊎_elim (λ c. absurd (true≢false (sym has ∙ (left-at before next id t a parts.0 c).off.free)))
    (λ n. ap (λ b. cond b (t ∷ filter (is_child_of id) ts) (filter (is_child_of id) ts)) n
    ∙ no-more (before ++ t ∷ []) (next_after before next t t.parent) ts id (apart-after before next id t t.parent refl n)
    (list_any-append (is_child_of id) before (t ∷ []) ∙ ap (λ b. b || list_any (is_child_of id) (t ∷ [])) has) parts.1)
    (cases_Bool (is_child_of id t))

-- ---- the two children

record AreChildren (before hs : List Header) (id : ℕ) (l r : Header) : Type 0 where
  only : filter (is_child_of id) hs ≡ l ∷ r ∷ []
  share : (parent : Header) → slice_get (before ++ hs) id ≡ Some parent → SharesOut (range parent) (range l ∷ range r ∷ [])

pair-are : (before : List Header) (next : Next) (id : ℕ) (t : Header) (ts : List Header) (l r : Header) → IsApart id next
    → fit_from before next (t ∷ ts) ≡ true → is_child_of id t ≡ true → with_next t ts ≡ Some (l, r)
    → AreChildren before (t ∷ ts) id l r
pair-are before next id t [] l r a e c w = cc
pair-are before next id t (u ∷ us) l r a e c w =
    let seen = before ++ t ∷ [] in
    let parts = and_parts _ _ e in
    let left : LeftAt before next id t = left-at before next id t a parts.0 c in
    let fit = and_parts _ _ (subst (λ n. fit_from seen n (u ∷ us) ≡ true) left.after parts.1) in
    let right : RightAt seen id (t.hi + 1) (hi_of before id) u = right-at seen id (t.hi + 1) (hi_of before id) u fit.0 in
    let none = no-more (seen ++ u ∷ []) LeftChild us id tt
    (list_any-append (is_child_of id) seen (u ∷ [])
    ∙ ap (λ b. list_any (is_child_of id) seen || (b || false)) (named-child id u right.named)
    ∙ or_right (list_any (is_child_of id) seen) _ refl)
    (subst (λ n. fit_from (seen ++ u ∷ []) n us ≡ true) right.after fit.1) in
    subst (λ (p : Header × Header). AreChildren before (t ∷ u ∷ us) id p.0 p.1) (same_Some (t, u) (l, r) w)
    (record {
      only = ap (λ b. cond b (t ∷ filter (is_child_of id) (u ∷ us)) (filter (is_child_of id) (u ∷ us))) c
          ∙ ap (λ b. t ∷ cond b (u ∷ filter (is_child_of id) us) (filter (is_child_of id) us)) (named-child id u right.named)
          ∙ ap (λ ws. t ∷ u ∷ ws) none;
      share = λ parent there.
          let o = left.off in
          let same : o.parent ≡ parent = same_Some o.parent parent (sym (slice_get-append before (t ∷ u ∷ us) id o.parent o.at) ∙ there) in
          let hi : hi_of before id ≡ parent.hi =
          ap (λ (o : Option Header). option_map_or (λ (x : Header). x.hi) o 0) o.at ∙ ap (λ (x : Header). x.hi) same in
          let start : t.lo ≡ parent.lo = o.lo ∙ ap (λ (x : Header). x.lo) same in
          let end : u.hi ≡ parent.hi = right.hi_is ∙ hi in (
            start,
            (
              fits-wide before next t parts.0,
              (
                right.lo_is,
                (
                  fits-wide seen (RightChild id (t.hi + 1) (hi_of before id)) u fit.0,
                  ap (λ n. n + 1) end,
                ),
              ),
            ),
          );
    })

children-from : (before : List Header) (next : Next) (hs : List Header) (id : ℕ) (l r : Header) → IsApart id next
    → fit_from before next hs ≡ true → children hs id ≡ Some (l, r) → AreChildren before hs id l r
children-from before next [] id l r a e c = cc
children-from before next (t ∷ ts) id l r a e c =
    go (is_child_of id t) refl c (λ n q f w. children-from (before ++ t ∷ []) n ts id l r q f w)
  where
    go : (b : Bool) → is_child_of id t ≡ b → cond b (with_next t ts) (children ts id) ≡ Some (l, r)
        → ((n : Next) → IsApart id n → fit_from (before ++ t ∷ []) n ts ≡ true → children ts id ≡ Some (l, r)
        → AreChildren (before ++ t ∷ []) ts id l r) → AreChildren before (t ∷ ts) id l r
    go true is w more = pair-are before next id t ts l r a e is w
    go false is w more =
        let rest : AreChildren (before ++ t ∷ []) ts id l r =
        more (next_after before next t t.parent) (apart-after before next id t t.parent refl is) (and_parts _ _ e).1 w in
        record {
          only = ap (λ b. cond b (t ∷ filter (is_child_of id) ts) (filter (is_child_of id) ts)) is ∙ rest.only;
          share = λ parent there. rest.share parent (subst (λ ws. slice_get ws id ≡ Some parent) (sym (append_assoc before (t ∷ []) ts))
              there);
        }

children-are : (hs : List Header) (id : ℕ) (l r : Header) → headers_fit hs ≡ true → children hs id ≡ Some (l, r)
    → AreChildren [] hs id l r
unfolding headers_fit
children-are hs id l r e c = children-from [] (RootAt 0) hs id l r tt e c

pub children-share-out : ChildrenShareOut
children-share-out hs id parent left right e there c = (children-are hs id left right e c).share parent there

-- a child stands among the headers, and names the tablet
pub child-there : (hs : List Header) (id : ℕ) (l r : Header) → headers_fit hs ≡ true → children hs id ≡ Some (l, r) → (j : ℕ) (x : Header)
    → slice_get (l ∷ r ∷ []) j ≡ Some x → (i : ℕ) × ((slice_get hs i ≡ Some x) × (x.parent ≡ Some id))
child-there hs id l r e c j x g =
    let f = filtered-get (is_child_of id) hs j x (ap (λ w. slice_get w j) (children-are hs id l r e c).only ∙ g) in
    (f.0, (f.1.0, child-named id x f.1.1))

-- a header names the tablet as its parent exactly where its number is that of a child
child-is : (hs : List Header) (id i : ℕ) (l r h : Header) → headers_fit hs ≡ true → children hs id ≡ Some (l, r)
    → slice_get hs i ≡ Some h → (h.parent ≡ Some id) ↔ ((h.id ≡ l.id) ⊎ (h.id ≡ r.id))
child-is hs id i l r h e c at = (forth, ⊎_elim (back 0 l refl) (back 1 r refl))
  where
    numbered : (j : ℕ) (x : Header) → slice_get hs j ≡ Some x → x.id ≡ j
    numbered j x there = Numbered-at 0 hs j x (headers_fit-all hs e).1.numbered there ∙ zero-add j

    back : (j : ℕ) (x : Header) → slice_get (l ∷ r ∷ []) j ≡ Some x → h.id ≡ x.id → h.parent ≡ Some id
    back j x g same =
        let f = child-there hs id l r e c j x g in
        let place : i ≡ f.0 = sym (numbered i h at) ∙ same ∙ numbered f.0 x f.1.0 in
        ap (λ (w : Header). w.parent) (same_Some h x (sym at ∙ ap (slice_get hs) place ∙ f.1.0)) ∙ f.1.1

    among : (j : ℕ) → slice_get (l ∷ r ∷ []) j ≡ Some h → (h.id ≡ l.id) ⊎ (h.id ≡ r.id)
    among zero w = inl (ap (λ (x : Header). x.id) (sym (same_Some l h w)))
    among (suc zero) w = inr (ap (λ (x : Header). x.id) (sym (same_Some r h w)))
    among (suc (suc j)) w = cc

    forth : h.parent ≡ Some id → (h.id ≡ l.id) ⊎ (h.id ≡ r.id)
    forth p =
        let g = get-filtered (is_child_of id) hs i h at (named-child id h p) in
        among g.0 (ap (λ w. slice_get w g.0) (sym (children-are hs id l r e c).only) ∙ g.1)

-- a header names the tablet as its parent exactly where its number is one that the tablet's split names
pub split-names : (hs : List Header) (id i at left right : ℕ) (h : Header) → headers_fit hs ≡ true
    → split_fits (children hs id) at left right ≡ true → slice_get hs i ≡ Some h
    → (h.parent ≡ Some id) ↔ ((h.id ≡ left) ⊎ (h.id ≡ right))
split-names hs id i at left right h e f there = go (children hs id) refl f
  where
    go : (o : Option (Header × Header)) → children hs id ≡ o → split_fits o at left right ≡ true
        → (h.parent ≡ Some id) ↔ ((h.id ≡ left) ⊎ (h.id ≡ right))
    go None is f = cc
    go (Some pair) is f =
        let parts = and_parts _ _ (and_parts _ _ f).1 in
        rw (eqb-true left pair.0.id parts.0, eqb-true right pair.1.id parts.1) (child-is hs id i pair.0 pair.1 h e is there)
