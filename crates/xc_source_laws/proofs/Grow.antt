-- Logs whose records are all accepted, as they grow by a record or by two children.
--     tablet_of b      the tablet of an accepted tablet, all of whose records are accepted
--     Stays before bs      the tablets bs, behind the tablets before, are reached, and each of their records is accepted
use Rattle.std.proofs.Common.{◌≡◌, ◌≢◌, ℕ, zero, suc, ◌+◌, true, false, List, [], ◌∷◌, ◌++◌, length, map, Option, Some, None, refl, ap}
use Rattle.std.proofs.Common.{sym, ◌∙◌, subst, arith, append_assoc, append-nil}
use Rattle.std.specs.Prelude.{fold, slice_get, is_none, if◌then◌else◌, ◌&&◌}
use Rattle.std.specs.Option.{option_map_or}
use Rattle.std.proofs.lemmas.List.{length_push}
use Rattle.xc_record.proofs.ListLaws.{Each}
use Rattle.xc_model.proofs.Parents.{get-append}
use Rattle.xc_record.specs.declared.record.Header.{Header}
use Rattle.xc_record.specs.declared.record.Record.{Record}
use Rattle.xc_record.specs.declared.record.Tablet.{Tablet}
use Rattle.xc_record.specs.Order.{Progress, after, break_of, accepted_from}
use Rattle.xc_record.specs.Accepted.{AcceptedTablet, root_start, child_start, start_after, reached_after, accepted_tablet_after}
use Rattle.xc_record.specs.Accepted.{accepted_tablets_after}

abbrev pub tablet_of : AcceptedTablet → Tablet
tablet_of b = record { header = b.header; records = b.records }

-- behind the tablets before, all records of b are accepted
pub record IsWhole (before : List AcceptedTablet) (b : AcceptedTablet) : Type 0 where
  pub reached : b.reached ≡ true
  pub reaches : reached_after before b.header.parent ≡ true
  pub start : start_after before b.header.parent ≡ b.start
  pub in_order : accepted_from b.start b.records ≡ b.records
  pub end : b.end ≡ fold after b.start b.records

abbrev pub Stays : List AcceptedTablet → List AcceptedTablet → Type 0
Stays before [] = Unit {0}
Stays before (b ∷ bs) = IsWhole before b × Stays (before ++ b ∷ []) bs

whole-after : (before : List AcceptedTablet) (b : AcceptedTablet) → IsWhole before b → accepted_tablet_after before (tablet_of b) ≡ b
whole-after before b w = grind (arith, w.reached, w.reaches, w.start, w.in_order, w.end)

pub stays-after : (before bs : List AcceptedTablet) → Stays before bs → accepted_tablets_after before (map tablet_of bs) ≡ before ++ bs
stays-after before [] s = sym (append-nil before)
stays-after before (b ∷ bs) s =
    ap (λ x. accepted_tablets_after (before ++ x ∷ []) (map tablet_of bs)) (whole-after before b s.0)
    ∙ stays-after (before ++ b ∷ []) bs s.1 ∙ append_assoc before (b ∷ []) bs

-- ---- one record more

abbrev pub taken : AcceptedTablet → Record → AcceptedTablet
taken b r = record b { records = b.records ++ r ∷ []; end = after b.end r }

accepted-push : (p : Progress) (rs : List Record) (r : Record) → accepted_from p rs ≡ rs → break_of (fold after p rs) r ≡ None
    → accepted_from p (rs ++ r ∷ []) ≡ rs ++ r ∷ []
accepted-push p [] r e n = grind (arith, n)
accepted-push p (q ∷ rs) r e n =
    elim (is_none (break_of p q)) as
    (λ c. is_none (break_of p q) ≡ c → (if c then (q ∷ accepted_from (after p q) rs) else []) ≡ q ∷ rs
    → (if c then (q ∷ accepted_from (after p q) (rs ++ r ∷ [])) else []) ≡ q ∷ (rs ++ r ∷ [])) [
      | true ↦ λ t k. let rest : accepted_from (after p q) rs ≡ rs = cc in ap (λ w. q ∷ w) (accepted-push (after p q) rs r rest n)
      | false ↦ λ t k. cc
    ] refl e

fold-push : (p : Progress) (rs : List Record) (r : Record) → fold after p (rs ++ r ∷ []) ≡ after (fold after p rs) r
fold-push p [] r = refl
fold-push p (q ∷ rs) r = fold-push (after p q) rs r

pub other-get : (xs : List AcceptedTablet) (b c : AcceptedTablet) (ys : List AcceptedTablet) (p : ℕ) → p ≢ length xs
    → slice_get (xs ++ b ∷ ys) p ≡ slice_get (xs ++ c ∷ ys) p
other-get [] b c ys zero n = absurd (n refl)
other-get [] b c ys (suc p) n = refl
other-get (x ∷ xs) b c ys zero n = refl
other-get (x ∷ xs) b c ys (suc p) n = other-get xs b c ys p (λ e. n (ap suc e))

-- of two lists that differ at one place, what tablets of other parents find is the same
other-start : (xs : List AcceptedTablet) (b c : AcceptedTablet) (ys : List AcceptedTablet) (q : Option ℕ) → q ≢ Some (length xs)
    → start_after (xs ++ b ∷ ys) q ≡ start_after (xs ++ c ∷ ys) q
other-start xs b c ys None n = refl
other-start xs b c ys (Some p) n =
    ap (λ o. option_map_or child_start o root_start) (other-get xs b c ys p (λ e. n (ap Some e)))

other-reached : (xs : List AcceptedTablet) (b c : AcceptedTablet) (ys : List AcceptedTablet) (q : Option ℕ) → q ≢ Some (length xs)
    → reached_after (xs ++ b ∷ ys) q ≡ reached_after (xs ++ c ∷ ys) q
other-reached xs b c ys None n = refl
other-reached xs b c ys (Some p) n =
    ap (λ o. option_map_or (λ (a : AcceptedTablet). a.reached && a.end.split) o false) (other-get xs b c ys p (λ e. n (ap Some e)))

-- ---- another tablet in the place of one that has no child

abbrev pub NoChild : ℕ → AcceptedTablet → Type 0
NoChild id b = b.header.parent ≢ Some id

whole-other : (xs : List AcceptedTablet) (b c : AcceptedTablet) (ys : List AcceptedTablet) (d : AcceptedTablet) → NoChild (length xs) d
    → IsWhole (xs ++ b ∷ ys) d → IsWhole (xs ++ c ∷ ys) d
whole-other xs b c ys d n w = record {
  reached = w.reached;
  reaches = sym (other-reached xs b c ys d.header.parent n) ∙ w.reaches;
  start = sym (other-start xs b c ys d.header.parent n) ∙ w.start;
  in_order = w.in_order;
  end = w.end;
}

stays-other : (xs : List AcceptedTablet) (b c : AcceptedTablet) (ys ds : List AcceptedTablet) → Each (NoChild (length xs)) ds
    → Stays (xs ++ b ∷ ys) ds → Stays (xs ++ c ∷ ys) ds
stays-other xs b c ys [] n s = tt
stays-other xs b c ys (d ∷ ds) n s = (
  whole-other xs b c ys d n.0 s.0,
  subst (λ w. Stays w ds) (sym (append_assoc xs (c ∷ ys) (d ∷ [])))
      (stays-other xs b c (ys ++ d ∷ []) ds n.1 (subst (λ w. Stays w ds) (append_assoc xs (b ∷ ys) (d ∷ [])) s.1)),
)

whole-taken : (before : List AcceptedTablet) (b : AcceptedTablet) (r : Record) → break_of b.end r ≡ None → IsWhole before b
    → IsWhole before (taken b r)
whole-taken before b r n w = record {
  reached = w.reached;
  reaches = w.reaches;
  start = w.start;
  in_order = accepted-push b.start b.records r w.in_order (subst (λ p. break_of p r ≡ None) w.end n);
  end = ap (λ p. after p r) w.end ∙ sym (fold-push b.start b.records r);
}

-- a record more behind those of a tablet with no child, which keeps the order rules
pub stays-taken : (before xs : List AcceptedTablet) (b : AcceptedTablet) (ys : List AcceptedTablet) (r : Record)
    → Each (NoChild (length before + length xs)) ys → break_of b.end r ≡ None → Stays before (xs ++ b ∷ ys)
    → Stays before (xs ++ taken b r ∷ ys)
stays-taken before [] b ys r n k s =
    (whole-taken before b r k s.0, stays-other before b (taken b r) [] ys (subst (λ w. Each (NoChild w) ys) (omega arith) n) s.1)
stays-taken before (x ∷ xs) b ys r n k s = (
  s.0,
  stays-taken (before ++ x ∷ []) xs b ys r
      (subst (λ w. Each (NoChild w) ys) (let e = length_push before x in omega arith) n) k s.1,
)

-- ---- two children more

pub stays-append : (before bs cs : List AcceptedTablet) → Stays before bs → Stays (before ++ bs) cs → Stays before (bs ++ cs)
stays-append before [] cs s t = subst (λ w. Stays w cs) (append-nil before) t
stays-append before (b ∷ bs) cs s t =
    (s.0, stays-append (before ++ b ∷ []) bs cs s.1 (subst (λ w. Stays w cs) (sym (append_assoc before (b ∷ []) bs)) t))

-- a child with no record yet
abbrev pub born : AcceptedTablet → Header → AcceptedTablet
born parent h =
    record { header = h; reached = true; start = child_start parent; records = []; end = child_start parent }

whole-born : (before : List AcceptedTablet) (p : ℕ) (b : AcceptedTablet) (h : Header) → slice_get before p ≡ Some b → h.parent ≡ Some p
    → b.reached ≡ true → b.end.split ≡ true → IsWhole before (born b h)
whole-born before p b h at is r s = record {
  reached = refl;
  reaches = ap (reached_after before) is ∙ ap (λ o. option_map_or (λ (a : AcceptedTablet). a.reached && a.end.split) o false) at
      ∙ rw (r, s) refl;
  start = ap (start_after before) is ∙ ap (λ o. option_map_or child_start o root_start) at;
  in_order = refl;
  end = refl;
}

pub stays-born : (before : List AcceptedTablet) (p : ℕ) (b : AcceptedTablet) (l r : Header) → slice_get before p ≡ Some b
    → l.parent ≡ Some p → r.parent ≡ Some p → b.reached ≡ true → b.end.split ≡ true → Stays before (born b l ∷ born b r ∷ [])
stays-born before p b l r at il ir reached s = (
  whole-born before p b l at il reached s,
  (whole-born (before ++ born b l ∷ []) p b r (get-append before (born b l ∷ []) p b at) ir reached s, tt),
)
