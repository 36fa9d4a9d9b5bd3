-- The books of a source: of each tablet its header, its records, which are all accepted, and the progress after them.
--     Books time bs      what holds of them while the clock stands at `time`
use Rattle.std.proofs.Common.{◌≡◌, ◌≢◌, ℕ, suc, ◌+◌, ◌-◌, ◌<◌, ◌≤◌, true, false, Bool, List, [], ◌∷◌, ◌++◌, length, Some, None}
use Rattle.std.proofs.Common.{refl, ap, sym, ◌∙◌, subst, arith, append_assoc, zero-add, inl, inr, ⊎_elim, ◌⊎◌}
use Rattle.std.specs.Prelude.{not, slice_get, if◌then◌else◌}
use Rattle.std.specs.Option.{option_map_or}
use Rattle.std.proofs.lemmas.List.{length-map, map-append, length-append, length_push}
use Rattle.std.proofs.lemmas.Option.{same_Some}
use Rattle.std.proofs.lemmas.Bool.{true≢false}
use Rattle.xc_record.specs.declared.record.Header.{Header}
use Rattle.xc_record.specs.declared.record.Record.{Record}
use Rattle.xc_record.specs.Hash.{holds}
use Rattle.xc_record.specs.Order.{after, break_of, is_split}
use Rattle.xc_record.specs.Accepted.{AcceptedTablet}
use Rattle.xc_record.proofs.ListLaws.{Each, Each-append, Each-weaker}
use Rattle.xc_record.proofs.HeaderLaws.{Numbered, Numbered-at, Numbered-snoc}
use Rattle.xc_model.proofs.StableSort.{Exists}
use Rattle.xc_model.proofs.Elements.{exists-left, exists-right}
use Rattle.xc_model.proofs.Parents.{heads}
use Rattle.xc_source.specs.Machine.{is_open}
use Rattle.xc_source_laws.proofs.Lists.{each-replaced, exists-replaced, each-here, map-replaced, get-seam}
use Rattle.xc_source_laws.proofs.Grow.{tablet_of, Stays, taken, born, NoChild, stays-taken, stays-append, stays-born}

abbrev pub opens : AcceptedTablet → Bool
opens b = is_open (tablet_of b)

-- no hash is held by both
abbrev pub Apart : AcceptedTablet → AcceptedTablet → Type 0
Apart b d = (h : ℕ) → holds b.header h ≡ true → holds d.header h ≡ false

-- an open tablet has no child behind it, and no hash and no number with a tablet behind it
abbrev pub Free : AcceptedTablet → AcceptedTablet → Type 0
Free b d = Apart b d × NoChild b.header.id d × (b.header.id ≢ d.header.id)

abbrev pub AllFree : List AcceptedTablet → Type 0
AllFree [] = Unit {0}
AllFree (b ∷ bs) = (opens b ≡ true → Each (Free b) bs) × AllFree bs

abbrev pub HoldsOpen : ℕ → AcceptedTablet → Type 0
HoldsOpen h b = (opens b ≡ true) × (holds b.header h ≡ true)

pub record IsBook (time : ℕ) (b : AcceptedTablet) : Type 0 where
  pub last : b.end.last ≤ time
  pub floor : b.end.floor ≤ time
  pub splits : b.end.split ≡ not (opens b)
  pub reached : b.reached ≡ true

pub record Books (time : ℕ) (bs : List AcceptedTablet) : Type 0 where
  pub stays : Stays [] bs
  pub numbered : Numbered 0 (heads bs)
  pub free : AllFree bs
  pub each : Each (IsBook time) bs
  pub covers : (h : ℕ) → h < 65536 → Exists (HoldsOpen h) bs

-- ---- the clock

book-later : (t u : ℕ) → t ≤ u → (b : AcceptedTablet) → IsBook t b → IsBook u b
book-later t u l b k = record {
  last = let a = k.last in omega arith;
  floor = let a = k.floor in omega arith;
  splits = k.splits;
  reached =
      k.reached;
}

pub books-later : (t u : ℕ) (bs : List AcceptedTablet) → t ≤ u → Books t bs → Books u bs
books-later t u bs l k = record {
  stays = k.stays;
  numbered = k.numbered;
  free = k.free;
  each = Each-weaker (IsBook t) (IsBook u) (book-later t u l) bs k.each;
  covers = k.covers;
}

-- ---- a record more

-- in the place of b, with the same header
free-same : (x b c : AcceptedTablet) → b.header ≡ c.header → Free x b → Free x c
free-same x b c e f = (
  (λ h o. ap (λ w. holds w h) (sym e) ∙ f.0 h o),
  (λ q. f.1 (ap (λ (w : Header). w.parent) e ∙ q)),
  (λ q. f.2 (q ∙ ap (λ (w : Header). w.id) (sym e))),
)

free-from : (b c : AcceptedTablet) → b.header ≡ c.header → (d : AcceptedTablet) → Free b d → Free c d
free-from b c e d f =
    subst (λ (w : Header). ((h : ℕ) → holds w h ≡ true → holds d.header h ≡ false) × NoChild w.id d × (w.id ≢ d.header.id)) e f

all-free : (xs : List AcceptedTablet) (b c : AcceptedTablet) (ys : List AcceptedTablet) → b.header ≡ c.header
    → (opens c ≡ true → opens b ≡ true) → AllFree (xs ++ b ∷ ys) → AllFree (xs ++ c ∷ ys)
all-free [] b c ys e o f = ((λ k. Each-weaker (Free b) (Free c) (free-from b c e) ys (f.0 (o k))), f.1)
all-free (x ∷ xs) b c ys e o f = (
  (λ k. let old = f.0 k in each-replaced (Free x) xs b c ys (free-same x b c e (each-here (Free x) xs b ys old)) old),
  all-free xs b c ys e o f.1,
)

pub opens-taken : (b : AcceptedTablet) (r : Record) → opens (taken b r) ≡ not (is_split r.kind)
opens-taken b r =
    ap (λ o. option_map_or (λ (q : Record). not (is_split q.kind)) o true)
    (get-seam b.records r [] (length (b.records ++ r ∷ []) - 1) (let e = length_push b.records r in omega arith))

pub heads-replaced : (xs : List AcceptedTablet) (b c : AcceptedTablet) (ys : List AcceptedTablet) → b.header ≡ c.header
    → heads (xs ++ b ∷ ys) ≡ heads (xs ++ c ∷ ys)
heads-replaced xs b c ys e = map-replaced (λ (w : AcceptedTablet). w.header) xs b c ys e

pub free-here : (xs : List AcceptedTablet) (b : AcceptedTablet) (ys : List AcceptedTablet) → AllFree (xs ++ b ∷ ys) → opens b ≡ true
    → Each (Free b) ys
free-here [] b ys f o = f.0 o
free-here (x ∷ xs) b ys f o = free-here xs b ys f.1 o

pub seam-id : (xs : List AcceptedTablet) (b : AcceptedTablet) (ys : List AcceptedTablet) → Numbered 0 (heads (xs ++ b ∷ ys))
    → b.header.id ≡ length xs
seam-id xs b ys n =
    Numbered-at 0 (heads (xs ++ b ∷ ys)) (length xs) b.header n
    (ap (λ w. slice_get w (length xs)) (map-append (λ (w : AcceptedTablet). w.header) xs (b ∷ ys))
    ∙ get-seam (heads xs) b.header (heads ys) (length xs) (length-map xs (λ (w : AcceptedTablet). w.header))) ∙ zero-add (length xs)

-- the floor after the record is at most the time
abbrev pub FloorFits : ℕ → AcceptedTablet → Record → Type 0
FloorFits time b r = (after b.end r).floor ≤ time

-- tablets with a record more of the open tablet b
pub stays-with : (t : ℕ) (xs : List AcceptedTablet) (b : AcceptedTablet) (ys : List AcceptedTablet) (r : Record) → Books t (xs ++ b ∷ ys)
    → opens b ≡ true → break_of b.end r ≡ None → Stays [] (xs ++ taken b r ∷ ys)
stays-with t xs b ys r k o n =
    stays-taken [] xs b ys r
    (subst (λ w. Each (NoChild w) ys) (seam-id xs b ys k.numbered ∙ sym (zero-add (length xs)))
    (Each-weaker (Free b) (NoChild b.header.id) (λ d f. f.1) ys (free-here xs b ys k.free o))) n k.stays

taken-split : (a b o s : Bool) → a ≡ not b → b ≡ true → o ≡ not s → (if s then true else a) ≡ not o
taken-split a b o s e f g = grind (arith, e, f, g)

pub taken-book : (t : ℕ) (b : AcceptedTablet) (r : Record) → IsBook t b → opens b ≡ true → r.time ≡ t + 1 → FloorFits (t + 1) b r
    → IsBook (t + 1) (taken b r)
taken-book t b r k o e f = record {
  last = omega arith;
  floor = f;
  splits = taken-split b.end.split (opens b) (opens (taken b r)) (is_split r.kind) k.splits o (opens-taken b r);
  reached = k.reached;
}

pub books-taken : (t : ℕ) (xs : List AcceptedTablet) (b : AcceptedTablet) (ys : List AcceptedTablet) (r : Record) → Books t (xs ++ b ∷ ys)
    → opens b ≡ true → r.time ≡ t + 1 → is_split r.kind ≡ false → FloorFits (t + 1) b r → break_of b.end r ≡ None
    → Books (t + 1) (xs ++ taken b r ∷ ys)
books-taken t xs b ys r k o e s f n =
    let later : t ≤ t + 1 = omega arith in
    let still : opens (taken b r) ≡ true = opens-taken b r ∙ ap not s in
    record {
      stays = stays-with t xs b ys r k o n;
      numbered = subst (Numbered 0) (heads-replaced xs b (taken b r) ys refl) k.numbered;
      free = all-free xs b (taken b r) ys refl (λ _. o) k.free;
      each = each-replaced (IsBook (t + 1)) xs b (taken b r) ys
          (taken-book t b r (each-here (IsBook t) xs b ys k.each) o e f)
          (Each-weaker (IsBook t) (IsBook (t + 1)) (book-later t (t + 1) later) (xs ++ b ∷ ys) k.each);
      covers = λ h l. exists-replaced (HoldsOpen h) xs b (taken b r) ys (λ p. (still, p.1)) (k.covers h l);
    }

-- ---- two children more

-- a child has the tablet's number as its parent, and no hash that the tablet has not
pub record IsChild (b : AcceptedTablet) (l : Header) : Type 0 where
  pub parent : l.parent ≡ Some b.header.id
  pub within : (h : ℕ) → holds b.header h ≡ false → holds l h ≡ false

-- an open tablet other than b has no hash and not the number of b
abbrev Clear : AcceptedTablet → AcceptedTablet → Type 0
Clear b w = opens w ≡ true → ((h : ℕ) → holds w.header h ≡ true → holds b.header h ≡ false) × (w.header.id ≢ b.header.id)

not-both : (p q : Bool) → (p ≡ true → q ≡ false) → q ≡ true → p ≡ false
not-both true q f e = absurd (true≢false (sym e ∙ f refl))
not-both false q f e = refl

clear-before : (xs : List AcceptedTablet) (b : AcceptedTablet) (ys : List AcceptedTablet) → AllFree (xs ++ b ∷ ys) → Each (Clear b) xs
clear-before [] b ys f = tt
clear-before (x ∷ xs) b ys f =
    ((λ o. let free = each-here (Free x) xs b ys (f.0 o) in (free.0, free.2)), clear-before xs b ys f.1)

clear-after : (b : AcceptedTablet) (ys : List AcceptedTablet) → Each (Free b) ys → Each (Clear b) ys
clear-after b ys f =
    Each-weaker (Free b) (Clear b)
    (λ w free o. ((λ h e. not-both (holds b.header h) (holds w.header h) (free.0 h) e), (λ q. free.2 (sym q)))) ys f

-- all are clear of the tablet once it is split
all-clear : (t : ℕ) (xs : List AcceptedTablet) (b c : AcceptedTablet) (ys : List AcceptedTablet) → Books t (xs ++ b ∷ ys) → opens b ≡ true
    → opens c ≡ false → Each (Clear b) (xs ++ c ∷ ys)
all-clear t xs b c ys k o n =
    Each-append (Clear b) xs (c ∷ ys) (clear-before xs b ys k.free)
    ((λ e. absurd (true≢false (sym e ∙ n))), clear-after b ys (free-here xs b ys k.free o))

numbered-below : (n : ℕ) (bs : List AcceptedTablet) → Numbered n (heads bs) → Each (λ w. w.header.id < n + length bs) bs
numbered-below n [] m = tt
numbered-below n (b ∷ bs) m = (
  let e = m.0 in omega arith,
  Each-weaker (λ w. w.header.id < n + 1 + length bs) (λ w. w.header.id < n + length (b ∷ bs)) (λ w l. omega arith) bs
      (numbered-below (n + 1) bs m.1),
)

free-snoc : (bs : List AcceptedTablet) (d : AcceptedTablet) → AllFree bs → Each (λ w. opens w ≡ true → Free w d) bs → AllFree (bs ++ d ∷ [])
free-snoc [] d f g = ((λ o. tt), tt)
free-snoc (b ∷ bs) d f g = ((λ o. Each-append (Free b) bs (d ∷ []) (f.0 o) (g.0 o, tt)), free-snoc bs d f.1 g.1)

free-child : (b w d : AcceptedTablet) (n : ℕ) → IsChild b d.header → d.header.id ≡ n → Clear b w → w.header.id < n → opens w ≡ true
    → Free w d
free-child b w d n c e clear l o = (
  (λ h held. c.within h ((clear o).0 h held)),
  (λ q. (clear o).1 (sym (same_Some b.header.id w.header.id (sym c.parent ∙ q)))),
  (λ q. let z : ⊥ = omega arith in z),
)

free-children : (b d : AcceptedTablet) (n : ℕ) (bs : List AcceptedTablet) → IsChild b d.header → d.header.id ≡ n → Each (Clear b) bs
    → Each (λ w. w.header.id < n) bs → Each (λ w. opens w ≡ true → Free w d) bs
free-children b d n [] c e clear l = tt
free-children b d n (w ∷ bs) c e clear l = (free-child b w d n c e clear.0 l.0, free-children b d n bs c e clear.1 l.1)

exists-moved : {A : Type 0} (P : A → Type 0) (xs : List A) (b c : A) (ys : List A) → Exists P (xs ++ b ∷ ys) → P b ⊎ Exists P (xs ++ c ∷ ys)
exists-moved P [] b c ys i = ⊎_elim (λ p. inl p) (λ r. inr (inr r)) i
exists-moved P (x ∷ xs) b c ys i =
    ⊎_elim (λ p. inr (inl p)) (λ r. ⊎_elim (λ p. inl p) (λ q. inr (inr q)) (exists-moved P xs b c ys r)) i

-- the two children of b, numbered next, share out its hashes
pub record AreHalves (b : AcceptedTablet) (n : ℕ) (l r : Header) : Type 0 where
  pub left : IsChild b l
  pub right : IsChild b r
  pub left_id : l.id ≡ n
  pub right_id : r.id ≡ n + 1
  pub apart : (h : ℕ) → holds l h ≡ true → holds r h ≡ false
  pub halves : (h : ℕ) → holds b.header h ≡ true → (holds l h ≡ true) ⊎ (holds r h ≡ true)

abbrev pub with_halves : List AcceptedTablet → AcceptedTablet → Header → Header → List AcceptedTablet
with_halves bs c l r = (bs ++ born c l ∷ []) ++ born c r ∷ []

heads-snoc : (bs : List AcceptedTablet) (c : AcceptedTablet) → heads (bs ++ c ∷ []) ≡ heads bs ++ c.header ∷ []
heads-snoc bs c = map-append (λ (w : AcceptedTablet). w.header) bs (c ∷ [])

numbered-push : (bs : List AcceptedTablet) (c : AcceptedTablet) → Numbered 0 (heads bs) → c.header.id ≡ length bs
    → Numbered 0 (heads (bs ++ c ∷ []))
numbered-push bs c n e =
    subst (Numbered 0) (sym (heads-snoc bs c))
    (Numbered-snoc 0 (heads bs) c.header n (e ∙ sym (length-map bs (λ (w : AcceptedTablet). w.header))
    ∙ sym (zero-add (length (heads bs)))))

born-book : (t : ℕ) (c : AcceptedTablet) (l : Header) → IsBook t c → IsBook t (born c l)
born-book t c l k = record { last = k.last; floor = k.floor; splits = refl; reached = refl }

length-replaced : {A : Type 0} (xs : List A) (b c : A) (ys : List A) → length (xs ++ b ∷ ys) ≡ length (xs ++ c ∷ ys)
length-replaced [] b c ys = refl
length-replaced (x ∷ xs) b c ys = ap suc (length-replaced xs b c ys)

pub books-split : (t : ℕ) (xs : List AcceptedTablet) (b : AcceptedTablet) (ys : List AcceptedTablet) (rec : Record) (l r : Header)
    → Books t (xs ++ b ∷ ys) → opens b ≡ true → rec.time ≡ t + 1 → is_split rec.kind ≡ true → FloorFits (t + 1) b rec
    → break_of b.end rec ≡ None → AreHalves b (length (xs ++ b ∷ ys)) l r
    → Books (t + 1) (with_halves (xs ++ taken b rec ∷ ys) (taken b rec) l r)
books-split t xs b ys rec l r k o e s f n a = record {
  stays = subst (Stays []) (sym (append_assoc ws (born c l ∷ []) (born c r ∷ [])))
      (stays-append [] ws (born c l ∷ born c r ∷ []) (stays-with t xs b ys rec k o n)
      (stays-born ws (length xs) c l r (get-seam xs c ys (length xs) refl) (a.left.parent ∙ ap Some id)
      (a.right.parent ∙ ap Some id) here.reached
      (here.splits ∙ ap not closed)));
  numbered = numbered-push (ws ++ born c l ∷ []) (born c r)
      (numbered-push ws (born c l) nums (a.left_id ∙ same)) (a.right_id ∙ ap (λ w. w + 1) same ∙ sym (length_push ws (born c l)));
  free = free-snoc (ws ++ born c l ∷ []) (born c r) (free-snoc ws (born c l) old
      (free-children b (born c l) (length ws) ws a.left (a.left_id ∙ same) clear below))
      (Each-append (λ w. opens w ≡ true → Free w (born c r)) ws (born c l ∷ [])
      (free-children b (born c r) (length ws + 1) ws a.right (a.right_id ∙ ap (λ w. w + 1) same) clear
      (Each-weaker (λ w. w.header.id < length ws) (λ w. w.header.id < length ws + 1) (λ w q. omega arith) ws below))
      ((λ _. (a.apart, (λ q. own-child q), (λ q. let i = a.left_id in let j = a.right_id in let z : ⊥ = omega arith in z))), tt));
  each = Each-append (IsBook (t + 1)) (ws ++ born c l ∷ []) (born c r ∷ [])
      (Each-append (IsBook (t + 1)) ws (born c l ∷ []) all (born-book (t + 1) c l here, tt)) (born-book (t + 1) c r here, tt);
  covers = λ h below_all. ⊎_elim
      (λ p. ⊎_elim (λ left. exists-left (HoldsOpen h) (ws ++ born c l ∷ []) (born c r ∷ [])
      (exists-right (HoldsOpen h) ws (born c l ∷ []) (inl (refl, left))))
      (λ right. exists-right (HoldsOpen h) (ws ++ born c l ∷ []) (born c r ∷ []) (inl (refl, right))) (a.halves h p.1))
      (λ i. exists-left (HoldsOpen h) (ws ++ born c l ∷ []) (born c r ∷ []) (exists-left (HoldsOpen h) ws (born c l ∷ []) i))
      (exists-moved (HoldsOpen h) xs b c ys (k.covers h below_all));
}
  where
    c : AcceptedTablet
    c = taken b rec

    ws : List AcceptedTablet
    ws = xs ++ taken b rec ∷ ys

    id : b.header.id ≡ length xs
    id = seam-id xs b ys k.numbered

    closed : opens c ≡ false
    closed = opens-taken b rec ∙ ap not s

    here : IsBook (t + 1) c
    here = taken-book t b rec (each-here (IsBook t) xs b ys k.each) o e f

    same : length (xs ++ b ∷ ys) ≡ length ws
    same = length-replaced xs b c ys

    nums : Numbered 0 (heads ws)
    nums = subst (Numbered 0) (heads-replaced xs b c ys refl) k.numbered

    old : AllFree ws
    old = all-free xs b c ys refl (λ _. o) k.free

    clear : Each (Clear b) ws
    clear = all-clear t xs b c ys k o closed

    below : Each (λ w. w.header.id < length ws) ws
    below = subst (λ n. Each (λ (w : AcceptedTablet). w.header.id < n) ws) (zero-add (length ws)) (numbered-below 0 ws nums)

    own-child : r.parent ≡ Some l.id → ⊥
    own-child q =
        let p : b.header.id ≡ l.id = same_Some b.header.id l.id (sym a.right.parent ∙ q) in
        let i = a.left_id in
        let w = id in
        let j : length (xs ++ b ∷ ys) ≡ length xs + length (b ∷ ys) = length-append xs (b ∷ ys) in
        let z : length (b ∷ ys) ≡ suc (length ys) = refl in omega arith

    all : Each (IsBook (t + 1)) ws
    all = each-replaced (IsBook (t + 1)) xs b c ys here
        (Each-weaker (IsBook t) (IsBook (t + 1)) (book-later t (t + 1) (let z : t ≤ t + 1 = omega arith in z)) (xs ++ b ∷ ys) k.each)
