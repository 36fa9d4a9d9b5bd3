-- The whole list of rows that a tablet shows.
use Rattle.xc_model.proofs.Common.{◌≤◌, subst, ◌≡◌, ℕ, Bool, true, false, cond, List, [], ◌∷◌, map, None, refl, ap, sym, ◌∙◌, arith, ⊎_elim}
use Rattle.xc_model.proofs.Common.{filter, nat_le, bytes_eq, Ordering, nat_cmp, slice_cmp, nat_list_cmp_total, find, where_key}
use Rattle.xc_model.proofs.Common.{find-where_key, is_sorted-where_key, same_entries, cases_Bool, true≢false, bytes_eq-Decides, Version}
use Rattle.xc_model.proofs.Common.{puts, rows, row, after_puts, find-rows_after, rows_after-sorted, rows-sorted, KeyVersion, version_of}
use Rattle.xc_model.proofs.Common.{versions_at, written_by, upto, newest, read, value_of}
use Rattle.std.specs.declared.cmp.Ordering.TheVariants.{Equal}
use Rattle.std.specs.FinMap.{slice_cmp-IsAntisymmetric, nat_cmp-IsAntisymmetric}
use Rattle.xc_model.{proofs.StableSort.Each, proofs.RowsAt.after-last, proofs.Restores.restores-keep, proofs.ReadLaw.reads-show-rows}
use Rattle.xc_model.specs.Stands.{covers, TargetTablet, in_range, kept_at, rows_shown}
use Rattle.xc_model.specs.Laws.{ReadsShowLists, RestoredShowRows}

abbrev cmp : List ℕ → List ℕ → Ordering
cmp = slice_cmp nat_cmp

puts-versions : (k : List ℕ) (t : ℕ) (vs : List KeyVersion)
    → puts k (map written_by (filter (λ v. nat_le v.commit t) vs)) ≡ map (λ v. v.value) (filter (upto t) (versions_at k vs))
puts-versions k t [] = refl
puts-versions k t (v ∷ vs) = grind (arith, puts-versions k t vs)

same-cmp : (q x : List ℕ) → cmp q x ≡ Equal → q ≡ x
same-cmp q x e = slice_cmp-IsAntisymmetric nat_cmp-IsAntisymmetric q x e

-- what the list shows at a key is what a read of the key answers
find-shown : (t : ℕ) (x : TargetTablet) (k : List ℕ) → find cmp k (rows_shown t x) ≡ read t (kept_at x k)
find-shown t x k = let ys = filter (upto t) (versions_at k x.versions) in
    find-rows_after k (map written_by (filter (λ v. nat_le v.commit t) x.versions)) []
    ∙ ap (after_puts None) (puts-versions k t x.versions) ∙ after-last ys

-- nothing is kept outside the range
none-kept : (x : TargetTablet) (k : List ℕ) (vs : List KeyVersion) → Each (λ v. in_range x v.key ≡ true) vs → in_range x k ≡ false
    → versions_at k vs ≡ []
none-kept x k [] h o = refl
none-kept x k (v ∷ vs) h o = let rest : versions_at k vs ≡ [] = none-kept x k vs h.1 o in
    ⊎_elim (λ e. absurd (true≢false (sym h.0 ∙ ap (in_range x) (sym ((bytes_eq-Decides k v.key).0 e)) ∙ o)))
    (λ e. ap (λ b. map version_of (cond b (v ∷ filter (λ v. bytes_eq k v.key) vs) (filter (λ v. bytes_eq k v.key) vs))) e
    ∙ rest) (cases_Bool (bytes_eq k v.key))

none-read : (x : TargetTablet) (t : ℕ) (k : List ℕ) → Each (λ v. in_range x v.key ≡ true) x.versions → in_range x k ≡ false
    → read t (kept_at x k) ≡ None
none-read x t k h o = ap (λ (vs : List Version). value_of (newest t vs)) (none-kept x k x.versions h o)

pub reads-show-lists : ReadsShowLists
unfolding row
reads-show-lists logs x u t s agree b c =
    same_entries cmp nat_list_cmp_total same-cmp (rows_shown t x) (where_key cmp (in_range x) (rows logs t))
    (rows_after-sorted (map written_by (filter (λ v. nat_le v.commit t) x.versions)) [] tt)
    (is_sorted-where_key cmp (in_range x) (rows logs t) (rows-sorted logs t))
    (λ k. find-shown t x k ∙ go k (in_range x k) refl
    ∙ sym (find-where_key cmp (in_range x) k (λ q e. ap (in_range x) (sym (same-cmp k q e))) (rows logs t)))
  where
    go : (k : List ℕ) (o : Bool) → in_range x k ≡ o → read t (kept_at x k) ≡ cond o (find cmp k (rows logs t)) None
    go k true e = reads-show-rows logs x u t k s agree b c e
    go k false e = none-read x t k s.within.versions e

-- ---- restored tablets

pub restored-show : RestoredShowRows
restored-show logs x y u t v r agree b h = let c : v ≤ covers logs y = let q : t ≤ covers logs y = r.covered in omega arith in
    subst (λ (z : TargetTablet). ((k : List ℕ) → in_range z k ≡ true → read v (kept_at z k) ≡ row logs v k) ×
    (rows_shown v z ≡ where_key cmp (in_range z) (rows logs v))) (sym r.is) (
      (λ k q. (restores-keep y t v h).0 k ∙ reads-show-rows logs y u v k r.stood agree b c q),
      (restores-keep y t v h).1 ∙ reads-show-lists logs y u v r.stood agree b c,
    )
