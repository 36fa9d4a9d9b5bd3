-- Laws of the accepted tablets' headers: what stands above a tablet on the path of a hash ends with its parent.
use Rattle.std.proofs.Common.{◌≡◌, ℕ, suc, ◌+◌, ◌≤◌, Bool, true, false, cond, List, [], ◌∷◌, ◌++◌, length, take, map, refl, ap, sym, ◌∙◌}
use Rattle.std.proofs.Common.{subst, arith}
use Rattle.std.proofs.lemmas.Bool.Decides.{nat_tests}
use Rattle.std.proofs.lemmas.List.{append-nil, map-append}
use Rattle.std.proofs.lemmas.Option.{same_Some}
use Rattle.std.proofs.lemmas.List.Elements.{filter-append}
use Rattle.std.specs.Prelude.{Option, Some, None, ◌&&◌, filter, slice_get, nat_lt}
use Rattle.xc_record.specs.declared.record.Header.{Header}
use Rattle.xc_record.specs.declared.record.Tablet.{Tablet}
use Rattle.xc_record.specs.Hash.{holds}
use Rattle.xc_record.specs.Headers.{headers_fit}
use Rattle.xc_record.specs.Valid.{headers_of}
use Rattle.xc_record.specs.Accepted.{AcceptedTablet, accepted_tablets_after}
use Rattle.xc_record.proofs.AcceptedLaws.{headers-after}
use Rattle.xc_record.proofs.HeaderLaws.{Line, line_end, Numbered, headers_fit-all}

abbrev pub at_hash : ℕ → List AcceptedTablet → List AcceptedTablet
at_hash h bs = filter (λ b. holds b.header h) bs

abbrev pub headers : List AcceptedTablet → List Header
headers bs = map (λ b. b.header) bs

-- the tablets are numbered, and those that hold a hash form a line from a root down
pub record IsTree (bs : List AcceptedTablet) : Type 0 where
  pub numbered : Numbered 0 (headers bs)
  pub lines : (h : ℕ) → Line None (headers (at_hash h bs))

headers-at_hash : (h : ℕ) (bs : List AcceptedTablet) → headers (at_hash h bs) ≡ filter (λ x. holds x h) (headers bs)
headers-at_hash h [] = refl
headers-at_hash h (b ∷ bs) =
    elim (holds b.header h) as
    (λ c. headers (cond c (b ∷ at_hash h bs) (at_hash h bs)) ≡ cond c (b.header ∷ filter (λ x. holds x h) (headers bs))
    (filter (λ x. holds x h) (headers bs))) [
      | true ↦ ap (λ hs. b.header ∷ hs) (headers-at_hash h bs)
      | false ↦ headers-at_hash h bs
    ]

pub valid-tree : (ts : List Tablet) → headers_fit (headers_of ts) ≡ true → IsTree (accepted_tablets_after [] ts)
valid-tree ts e =
    let f = headers_fit-all (headers_of ts) e in
    let same : headers (accepted_tablets_after [] ts) ≡ headers_of ts = headers-after [] ts in
    record {
      numbered = rw same f.1.numbered;
      lines = λ h. rw (headers-at_hash h (accepted_tablets_after [] ts), same) (f.1.lines h);
    }

-- ---- the end of a line

-- the line of a hash ends at p: before these tablets, which are numbered from m, or at one of them
pub data EndsAt (h m p : ℕ) (q : Option ℕ) (bs : List AcceptedTablet) : Type 0 where
  Before : at_hash h bs ≡ [] → q ≡ Some p → EndsAt h m p q bs
  Within : (j : ℕ) (b : AcceptedTablet) → p ≡ m + j → slice_get bs j ≡ Some b → holds b.header h ≡ true
      → at_hash h bs ≡ at_hash h (take (suc j) bs) → EndsAt h m p q bs

at_hash-take : (h : ℕ) (j : ℕ) (b : AcceptedTablet) (s : List AcceptedTablet) → at_hash h s ≡ at_hash h (take j s)
    → at_hash h (b ∷ s) ≡ at_hash h (b ∷ take j s)
at_hash-take h j b s e =
    elim (holds b.header h) as (λ c. cond c (b ∷ at_hash h s) (at_hash h s) ≡ cond c (b ∷ at_hash h (take j s)) (at_hash h (take j s))) [
      | true ↦ ap (λ xs. b ∷ xs) e
      | false ↦ e
    ]

pub ends_at : (h m p : ℕ) (q : Option ℕ) (bs : List AcceptedTablet) → Numbered m (headers bs)
    → line_end q (headers (at_hash h bs)) ≡ Some p → EndsAt h m p q bs
ends_at h m p q [] n e = Before refl e
ends_at h m p q (b ∷ bs) n e = go (λ q. ends_at h (m + 1) p q bs n.1) (holds b.header h) refl e
  where
    later : (q r : Option ℕ) → EndsAt h (m + 1) p r bs → (at_hash h bs ≡ [] → r ≡ Some p → EndsAt h m p q (b ∷ bs))
        → EndsAt h m p q (b ∷ bs)
    later q r (Before none is) k = k none is
    later q r (Within j c at get s same) k = Within (suc j) c (omega arith) get s (at_hash-take h (suc j) b bs same)

    go : ((q : Option ℕ) → line_end q (headers (at_hash h bs)) ≡ Some p → EndsAt h (m + 1) p q bs) → (c : Bool) → holds b.header h ≡ c
        → line_end q (headers (cond c (b ∷ at_hash h bs) (at_hash h bs))) ≡ Some p → EndsAt h m p q (b ∷ bs)
    go ih true s e =
        later q (Some b.header.id) (ih (Some b.header.id) e)
        (λ none is. Within 0 b (let i : b.header.id ≡ p = same_Some _ _ is in let k : b.header.id ≡ m = n.0 in omega arith) refl s
        (at_hash-take h 0 b bs none))
    go ih false s e = later q q (ih q e) (λ none is. Before (rw s none) is)

line-split : (q : Option ℕ) (xs : List Header) (t : Header) (ys : List Header) → Line q (xs ++ t ∷ ys) → t.parent ≡ line_end q xs
line-split q [] t ys l = l.0
line-split q (x ∷ xs) t ys l = line-split (Some x.id) xs t ys l.1

parent-line : (h : ℕ) (before : List AcceptedTablet) (b : AcceptedTablet) (rest : List AcceptedTablet)
    → Line None (headers (at_hash h (before ++ b ∷ rest))) → holds b.header h ≡ true
    → b.header.parent ≡ line_end None (headers (at_hash h before))
parent-line h before b rest l s =
    let whole : headers (at_hash h (before ++ b ∷ rest)) ≡ headers (at_hash h before) ++ b.header ∷ headers (at_hash h rest) =
    ap headers (filter-append (λ (b : AcceptedTablet). holds b.header h) before (b ∷ rest) ∙ ap (λ xs. at_hash h before ++ xs) (rw s refl))
    ∙ map-append (λ (b : AcceptedTablet). b.header) (at_hash h before) (b ∷ at_hash h rest) in
    line-split None (headers (at_hash h before)) b.header (headers (at_hash h rest)) (subst (Line None) whole l)

numbered-before : (m : ℕ) (before rest : List AcceptedTablet) → Numbered m (headers (before ++ rest)) → Numbered m (headers before)
numbered-before m [] rest n = tt
numbered-before m (b ∷ before) rest n = (n.0, numbered-before (m + 1) before rest n.1)

ends-some : (a : ℕ) (hs : List Header) → line_end (Some a) hs ≡ None → ⊥
ends-some a [] e = cc
ends-some a (h ∷ hs) e = ends-some h.id hs e

-- nothing holds a root's hash before it
pub above_root : (h : ℕ) (before : List AcceptedTablet) (b : AcceptedTablet) (rest : List AcceptedTablet) → IsTree (before ++ b ∷ rest)
    → holds b.header h ≡ true → b.header.parent ≡ None → at_hash h before ≡ []
above_root h before b rest t s p = go (at_hash h before) (sym (parent-line h before b rest (t.lines h) s) ∙ p)
  where
    go : (xs : List AcceptedTablet) → line_end None (headers xs) ≡ None → xs ≡ []
    go [] e = refl
    go (x ∷ xs) e = absurd (ends-some x.header.id (headers xs) e)

-- what holds a child's hash before it ends with its parent
pub above_child : (h p : ℕ) (before : List AcceptedTablet) (b : AcceptedTablet) (rest : List AcceptedTablet) → IsTree (before ++ b ∷ rest)
    → holds b.header h ≡ true → b.header.parent ≡ Some p → EndsAt h 0 p None before
above_child h p before b rest t s e =
    ends_at h 0 p None before (numbered-before 0 before (b ∷ rest) t.numbered) (sym (parent-line h before b rest (t.lines h) s) ∙ e)

abbrev below : ℕ → ℕ → List AcceptedTablet → List AcceptedTablet
below h k bs = filter (λ a. holds a.header h && nat_lt a.header.id k) bs

all-below : (h k m : ℕ) (bs : List AcceptedTablet) → Numbered m (headers bs) → m + length bs ≤ k → below h k bs ≡ at_hash h bs
all-below h k m [] n le = refl
all-below h k m (b ∷ bs) n le =
    let low : nat_lt b.header.id k ≡ true = (let i : b.header.id ≡ m = n.0 in grind (arith, nat_tests)) in
    go (nat_lt b.header.id k) low (holds b.header h) (all-below h k (m + 1) bs n.1 (omega arith))
  where
    go : (d : Bool) → d ≡ true → (c : Bool) → below h k bs ≡ at_hash h bs
        → cond (c && d) (b ∷ below h k bs) (below h k bs) ≡ cond c (b ∷ at_hash h bs) (at_hash h bs)
    go d e true ih = rw e (ap (λ xs. b ∷ xs) ih)
    go d e false ih = ih

none-below : (h k m : ℕ) (bs : List AcceptedTablet) → Numbered m (headers bs) → k ≤ m → below h k bs ≡ []
none-below h k m [] n le = refl
none-below h k m (b ∷ bs) n le =
    let high : nat_lt b.header.id k ≡ false = (let i : b.header.id ≡ m = n.0 in grind (arith, nat_tests)) in
    go (nat_lt b.header.id k) high (holds b.header h) (none-below h k (m + 1) bs n.1 (omega arith))
  where
    go : (d : Bool) → d ≡ false → (c : Bool) → below h k bs ≡ [] → cond (c && d) (b ∷ below h k bs) (below h k bs) ≡ []
    go d e true ih = rw e ih
    go d e false ih = ih

numbered-after : (m : ℕ) (before rest : List AcceptedTablet) → Numbered m (headers (before ++ rest))
    → Numbered (m + length before) (headers rest)
numbered-after m [] rest n = subst (λ x. Numbered x (headers rest)) (omega arith) n
numbered-after m (b ∷ before) rest n = subst (λ x. Numbered x (headers rest)) (omega arith) (numbered-after (m + 1) before rest n.1)

-- a tablet's number says how many stand before
pub number-before : (before : List AcceptedTablet) (b : AcceptedTablet) (rest : List AcceptedTablet) → IsTree (before ++ b ∷ rest)
    → b.header.id ≡ length before
number-before before b rest t =
    let n = numbered-after 0 before (b ∷ rest) t.numbered in let i : b.header.id ≡ 0 + length before = n.0 in omega arith

-- the tablets of a lower number are those before
pub below_number : (h : ℕ) (before : List AcceptedTablet) (b : AcceptedTablet) (rest : List AcceptedTablet) → IsTree (before ++ b ∷ rest)
    → filter (λ a. holds a.header h && nat_lt a.header.id b.header.id) (before ++ b ∷ rest) ≡ at_hash h before
below_number h before b rest t =
    let i : b.header.id ≡ length before = number-before before b rest t in
    filter-append (λ (a : AcceptedTablet). holds a.header h && nat_lt a.header.id b.header.id) before (b ∷ rest)
    ∙ ap (λ xs. below h b.header.id before ++ xs)
    (none-below h b.header.id (0 + length before) (b ∷ rest) (numbered-after 0 before (b ∷ rest) t.numbered) (omega arith))
    ∙ append-nil (below h b.header.id before)
    ∙ all-below h b.header.id 0 before (numbered-before 0 before (b ∷ rest) t.numbered) (omega arith)
