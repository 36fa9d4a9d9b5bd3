-- The list of commits stays as operations are put behind the others, and gets a commit more.
use Rattle.std.proofs.Common.{◌≡◌, ℕ, ◌+◌, ◌-◌, ◌≤◌, true, List, [], ◌∷◌, ◌++◌, length, take, drop, map, ◌&&◌}
use Rattle.std.proofs.Common.{refl, sym, ap, arith, ◌∙◌, length-append}
use Rattle.std.specs.List.{list_all}
use Rattle.std.proofs.lemmas.Bool.{and_parts, and_from}
use Rattle.std.proofs.lemmas.Bool.Decides.{nat_tests}
use Rattle.std.proofs.lemmas.List.{length-drop, take_all, map-append, take-append-le, drop-append-le}
use Rattle.std.proofs.lemmas.List.Folds.{list_all-append}
use Rattle.std.proofs.Math.Seq.{drop-append_seam}
use Rattle.xc_record.specs.declared.record.Op.{Op}
use Rattle.xc_source.specs.declared.commits.Place.{Place}
use Rattle.xc_source.specs.Listed.{AreCommits, commit_of, lies_in}

within-more : (ps : List Place) (ops ops' : List Op) → length ops ≤ length ops' → list_all (lies_in ops) ps ≡ true
    → list_all (lies_in ops') ps ≡ true
within-more [] ops ops' l h = refl
within-more (p ∷ ps) ops ops' l h =
    let w = and_parts (lies_in ops p) (list_all (lies_in ops) ps) h in
    let first : lies_in ops p ≡ true = w.0 in
    and_from (lies_in ops' p) (list_all (lies_in ops') ps) (grind (arith, nat_tests, first)) (within-more ps ops ops' l w.1)

same-more : (ps : List Place) (ops zs : List Op) → list_all (lies_in ops) ps ≡ true
    → map (commit_of (ops ++ zs)) ps ≡ map (commit_of ops) ps
same-more [] ops zs h = refl
same-more (p ∷ ps) ops zs h =
    let w = and_parts (lies_in ops p) (list_all (lies_in ops) ps) h in
    let here : lies_in ops p ≡ true = w.0 in
    let in_range : p.first + p.count ≤ length ops = grind (arith, nat_tests, here) in
    let l = length-drop p.first ops in
    let same : take p.count (drop p.first (ops ++ zs)) ≡ take p.count (drop p.first ops) =
    ap (take p.count) (drop-append-le p.first ops zs (omega (arith, in_range)))
    ∙ take-append-le p.count (drop p.first ops) zs (omega (arith, in_range, l)) in
    ap (λ os. record { time = p.time; txn = p.txn; ops = os } ∷ map (commit_of (ops ++ zs)) ps) same
    ∙ ap (λ cs. commit_of ops p ∷ cs) (same-more ps ops zs w.1)

-- ---- operations behind the others

pub commits-kept : (ps : List Place) (ops ops' : List Op) (count count' : ℕ) → ops ++ drop (length ops) ops' ≡ ops' → count' ≡ length ops'
    → AreCommits ps ops count → AreCommits ps ops' count'
commits-kept ps ops ops' count count' k e h = record {
  within = within-more ps ops ops' (let l = length-append ops (drop (length ops) ops') in let s = ap length k in omega (arith, l, s))
      h.within;
  counted = e;
}

pub commits-same : (ps : List Place) (ops ops' : List Op) (count : ℕ) → ops ++ drop (length ops) ops' ≡ ops' → AreCommits ps ops count
    → map (commit_of ops') ps ≡ map (commit_of ops) ps
commits-same ps ops ops' count k h =
    ap (λ os. map (commit_of os) ps) (sym k) ∙ same-more ps ops (drop (length ops) ops') h.within

-- ---- a commit more

-- the place of a commit whose operations are those from the first to the last but for that
abbrev pub place_of : ℕ → ℕ → ℕ → ℕ → Place
place_of time txn first last = record { time = time; txn = txn; first = first; count = last - first }

pub commits-more : (ps ps' : List Place) (p : Place) (ops ops' : List Op) (count count' : ℕ) → ops ++ drop (length ops) ops' ≡ ops'
    → count' ≡ length ops' → ps' ≡ ps ++ p ∷ [] → p.first ≡ count → p.count ≡ count' - count → AreCommits ps ops count
    → AreCommits ps' ops' count'
commits-more ps ps' p ops ops' count count' k e is first size h =
    let old = commits-kept ps ops ops' count count' k e h in
    let l = length-append ops (drop (length ops) ops') in
    let s = ap length k in
    let counted = h.counted in
    let last : p.first + p.count ≤ length ops' = omega (arith, l, s, first, size, e, counted) in
    let here : lies_in ops' p ≡ true = grind (arith, nat_tests, last) in
    record {
      within = ap (list_all (lies_in ops')) is ∙ list_all-append (lies_in ops') ps (p ∷ [])
          ∙ and_from (list_all (lies_in ops') ps) (lies_in ops' p && true) old.within (and_from (lies_in ops' p) true here refl);
      counted = e;
    }

pub commits-put : (ps ps' : List Place) (p : Place) (ops ops' os : List Op) (count count' : ℕ) → ops ++ drop (length ops) ops' ≡ ops'
    → ops' ≡ ops ++ os → count' ≡ length ops' → ps' ≡ ps ++ p ∷ [] → p.first ≡ count → p.count ≡ count' - count → AreCommits ps ops count
    → map (commit_of ops') ps' ≡ map (commit_of ops) ps ++ record { time = p.time; txn = p.txn; ops = os } ∷ []
commits-put ps ps' p ops ops' os count count' k a e is first size h =
    let counted = h.counted in
    let l = length-append ops os in
    let s = ap length a in
    let at : p.first ≡ length ops = first ∙ counted in
    let many : p.count ≡ length os = omega (arith, l, s, size, e, counted) in
    let own : take p.count (drop p.first ops') ≡ os =
    ap (λ xs. take p.count (drop p.first xs)) a ∙ ap (λ i. take p.count (drop i (ops ++ os))) at
    ∙ ap (take p.count) (drop-append_seam ops os) ∙ take_all p.count os (omega (arith, many)) in
    ap (map (commit_of ops')) is ∙ map-append (commit_of ops') ps (p ∷ [])
    ∙ ap (λ cs. cs ++ commit_of ops' p ∷ []) (commits-same ps ops ops' count k h)
    ∙ ap (λ xs. map (commit_of ops) ps ++ record { time = p.time; txn = p.txn; ops = xs } ∷ []) own
