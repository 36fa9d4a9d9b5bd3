-- The logs of every list of source commands agree.
use Rattle.std.proofs.Common.{◌≡◌, ℕ, ◌<◌, true, false, Bool, List, [], ◌∷◌, ◌++◌, Option, Some}
use Rattle.std.proofs.Common.{None}
use Rattle.std.proofs.Common.{refl, ap, sym, ◌∙◌, subst, arith, ⊎_elim, append_assoc}
use Rattle.std.specs.Prelude.{not, if◌then◌else◌, ◌&&◌, ◌||◌, ◌==◌, bytes_eq, nat_le, is_some, filter, flat_map}
use Rattle.std.specs.List.{list_any}
use Rattle.std.specs.Option.{option_map_or}
use Rattle.std.proofs.lemmas.Bool.{true≢false, cases_eq, eq-eqb, ne_eqb, eqb-true}
use Rattle.std.proofs.lemmas.Bool.Decides.{nat_tests}
use Rattle.std.proofs.lemmas.Option.{same_Some, none-some}
use Rattle.std.proofs.lemmas.Slice.Eq.{bytes_eq-Decides}
use Rattle.xc_record.specs.declared.record.Header.{Header}
use Rattle.xc_record.specs.declared.record.Kind.{Kind}
use Rattle.xc_record.specs.declared.record.Kind.TheVariants as kind
use Rattle.xc_record.specs.declared.record.Record.{Record}
use Rattle.xc_record.specs.Hash.{holds, hash_of}
use Rattle.xc_record.specs.Lists.{first_some, or_else}
use Rattle.xc_record.specs.Commits.{applies, rolls_back, commit_of as commit_in, undone as undone_in, intent_ops}
use Rattle.xc_record.specs.Agreement.{Agrees, HasNoCase, rollback_differs, aborts}
use Rattle.xc_record.specs.Agreement.{path_above, straggles_at}
use Rattle.xc_record.specs.Accepted.{AcceptedTablet, accepted_tablets}
use Rattle.xc_record.proofs.ListLaws.{Each}
use Rattle.xc_record.proofs.HeaderLaws.{Numbered}
use Rattle.xc_model.proofs.Along.{path_of}
use Rattle.xc_model.proofs.FromCases.{above-before, path-of-append}
use Rattle.xc_model.proofs.NoDisagreement.{agrees-found}
use Rattle.xc_model.proofs.Parents.{heads}
use Rattle.xc_source.specs.declared.transaction.Stage.TheVariants.{Aborted}
use Rattle.xc_source.specs.Machine.{Machine, Transaction, start, logs_of, commit_of}
use Rattle.xc_source.specs.Commands.{run}
use Rattle.xc_source_laws.specs.Laws.{LogsAgree}
use Rattle.xc_source_laws.proofs.Base.{IsMachine}
use Rattle.xc_source_laws.proofs.Steps.{run-keeps}
use Rattle.xc_source_laws.proofs.Start.{root_book, root_books, base-start}
use Rattle.xc_source_laws.proofs.NoBreaks.{books-accepted}
use Rattle.xc_source_laws.proofs.Says.{txn_at, none-there, Says, KindSays}
use Rattle.xc_source_laws.proofs.Paths.{waits_in, straggles-part}
use Rattle.xc_source_laws.proofs.Agreeing.{AgreesSo, key_path}
use Rattle.xc_source_laws.proofs.AgreeMoves.{agree-closed, aborted-not}

-- ---- what is found first

pub first-of : {A B : Type 0} (P : A → Type 0) (f : A → Option B) (xs : List A) (y : B) → Each P xs → first_some f xs ≡ Some y
    → (x : A) × P x × (f x ≡ Some y)
first-of P f [] y h e = cc
first-of {A = A} {B = B} P f (x ∷ xs) y h e = go (f x) refl e (λ q. first-of P f xs y h.1 q)
  where
    go : (o : Option B) → f x ≡ o → or_else o (first_some f xs) ≡ Some y → (first_some f xs ≡ Some y → (z : A) × P z × (f z ≡ Some y))
        → (z : A) × P z × (f z ≡ Some y)
    go None q w more = more w
    go (Some z) q w more = (x, h.0, q ∙ w)

-- a record of the books
pub record Found (ts : List Transaction) (time : ℕ) (n c : ℕ) : Type 0 where
  pub t : Transaction
  pub there : txn_at ts n ≡ Some t
  pub commit : commit_of t.stage ≡ Some c

kind-found : (time : ℕ) (ts : List Transaction) (n c at : ℕ) (k : Kind) → KindSays time ts at k → applies n k ≡ Some c → Found ts time n c
kind-found time ts n c at (kind.Write ops) s e = cc
kind-found time ts n c at (kind.Intent sub m ops) s e = cc
kind-found time ts n c at (kind.Apply m d without) s e = go (m == n) refl e
  where
    go : (b : Bool) → (m == n) ≡ b → (if b then Some d else None) ≡ Some c → Found ts time n c
    go true q w =
        let a = s in
        let same : m ≡ n = eqb-true m n q in
        record {
          t = a.t;
          there = subst (λ i. txn_at ts i ≡ Some a.t) same a.there;
          commit = a.commit ∙ w;
        }
    go false q w = cc
kind-found time ts n c at (kind.Abort m) s e = cc
kind-found time ts n c at (kind.Safe v) s e = cc
kind-found time ts n c at (kind.Split place left right) s e = cc

-- the commit that the logs give a transaction is its own
pub commit-found : (m : Machine) (bs : List AcceptedTablet) (n c : ℕ) → AgreesSo m bs
    → first_some (λ (b : AcceptedTablet). first_some (λ (r : Record). applies n r.kind) b.records) bs ≡ Some c → Found m.txns m.time n c
commit-found m bs n c a e =
    let b = first-of (λ (b : AcceptedTablet). Each (Says m.time m.txns) b.records)
    (λ b. first_some (λ (r : Record). applies n r.kind) b.records) bs c a.says e in
    let r = first-of (Says m.time m.txns) (λ r. applies n r.kind) b.0.records c b.1 b.2 in
    kind-found m.time m.txns n c r.0.time r.0.kind r.1.kind r.2

-- ---- the cases

any-false : {A : Type 0} (P : A → Type 0) (p : A → Bool) → ((x : A) → P x → p x ≡ false) → (xs : List A) → Each P xs → list_any p xs ≡ false
any-false P p f [] h = refl
any-false P p f (x ∷ xs) h = ap (λ b. b || list_any p xs) (f x h.0) ∙ any-false P p f xs h.1

if-some : {A : Type 0} (b : Bool) (x : A) (f : A → Bool) → (b ≡ true → f x ≡ false)
    → option_map_or f (if b then Some x else None) false ≡ false
if-some true x f h = h refl
if-some false x f h = refl

kind-commit : (time : ℕ) (ts : List Transaction) (n c at : ℕ) (k : Kind) → Found ts time n c → KindSays time ts at k
    → option_map_or (λ d. not (d == c)) (applies n k) false ≡ false
kind-commit time ts n c at (kind.Write ops) f s = refl
kind-commit time ts n c at (kind.Intent sub m ops) f s = refl
kind-commit time ts n c at (kind.Apply m d without) f s =
    if-some (m == n) d (λ d. not (d == c))
    (λ q. let same : m ≡ n = eqb-true m n q in
    let one : s.t ≡ f.t = same_Some s.t f.t (sym (subst (λ i. txn_at ts i ≡ Some s.t) same s.there) ∙ f.there) in
    let two : d ≡ c = same_Some d c (sym s.commit ∙ ap (λ (w : Transaction). commit_of w.stage) one ∙ f.commit) in ap not (eq-eqb d c two))
kind-commit time ts n c at (kind.Abort m) f s = refl
kind-commit time ts n c at (kind.Safe v) f s = refl
kind-commit time ts n c at (kind.Split place left right) f s = refl

kind-rollback : (time : ℕ) (ts : List Transaction) (n c at : ℕ) (k : Kind) (u : List ℕ) → (f : Found ts time n c) → f.t.undone ≡ u
    → KindSays time ts at k
    → option_map_or (λ w. not (bytes_eq w u)) (rolls_back n k) false ≡ false
kind-rollback time ts n c at (kind.Write ops) u f e s = refl
kind-rollback time ts n c at (kind.Intent sub m ops) u f e s = refl
kind-rollback time ts n c at (kind.Apply m d without) u f e s =
    if-some (m == n) without (λ w. not (bytes_eq w u))
    (λ q. let same : m ≡ n = eqb-true m n q in
    let one : s.t ≡ f.t = same_Some s.t f.t (sym (subst (λ i. txn_at ts i ≡ Some s.t) same s.there) ∙ f.there) in
    let two : without ≡ u = sym s.undone ∙ ap (λ (w : Transaction). w.undone) one ∙ e in
    ap not ((bytes_eq-Decides without u).1 two))
kind-rollback time ts n c at (kind.Abort m) u f e s = refl
kind-rollback time ts n c at (kind.Safe v) u f e s = refl
kind-rollback time ts n c at (kind.Split place left right) u f e s = refl

some-if : {A : Type 0} (b : Bool) (x : A) → (b ≡ true → ⊥) → is_some (if b then Some x else None) ≡ false
some-if true x h = absurd (h refl)
some-if false x h = refl

kind-intent : (time : ℕ) (ts : List Transaction) (n c at : ℕ) (k : Kind) → Found ts time n c → KindSays time ts at k
    → (is_some (intent_ops n k) && nat_le c at) ≡ false
kind-intent time ts n c at (kind.Write ops) f s = refl
kind-intent time ts n c at (kind.Intent sub m ops) f s = go (m == n) refl
  where
    go : (b : Bool) → (m == n) ≡ b → (is_some (if b then Some ops else None) && nat_le c at) ≡ false
    go true q =
        let same : m ≡ n = eqb-true m n q in
        let one : s.t ≡ f.t = same_Some s.t f.t (sym (subst (λ i. txn_at ts i ≡ Some s.t) same s.there) ∙ f.there) in
        let early : at < c = s.before c (ap (λ (w : Transaction). commit_of w.stage) one ∙ f.commit) in grind (arith, nat_tests)
    go false q = refl
kind-intent time ts n c at (kind.Apply m d without) f s = refl
kind-intent time ts n c at (kind.Abort m) f s = refl
kind-intent time ts n c at (kind.Safe v) f s = refl
kind-intent time ts n c at (kind.Split place left right) f s = refl

kind-abort : (time : ℕ) (ts : List Transaction) (n c at : ℕ) (k : Kind) → Found ts time n c → KindSays time ts at k → aborts n k ≡ false
kind-abort time ts n c at (kind.Write ops) f s = refl
kind-abort time ts n c at (kind.Intent sub m ops) f s = refl
kind-abort time ts n c at (kind.Apply m d without) f s = refl
kind-abort time ts n c at (kind.Abort m) f s =
    ⊎_elim
    (λ same. let one : s.t ≡ f.t = same_Some s.t f.t (sym (subst (λ i. txn_at ts i ≡ Some s.t) same s.there) ∙ f.there) in
    absurd (aborted-not f.t.stage c (subst (λ (w : Transaction). w.stage ≡ Aborted) one s.aborted) f.commit))
    (λ d. ne_eqb m n d) (cases_eq m n)
kind-abort time ts n c at (kind.Safe v) f s = refl
kind-abort time ts n c at (kind.Split place left right) f s = refl

-- what was rolled back, as the logs give it
rolls-none : (n : ℕ) (k : Kind) → rolls_back n k ≡ None → applies n k ≡ None
rolls-none n (kind.Write ops) e = refl
rolls-none n (kind.Intent sub m ops) e = refl
rolls-none n (kind.Apply m d without) e = go (m == n) e
  where
    go : (b : Bool) → (if b then Some without else None) ≡ None → (if b then Some d else None) ≡ None
    go true q = cc
    go false q = refl
rolls-none n (kind.Abort m) e = refl
rolls-none n (kind.Safe v) e = refl
rolls-none n (kind.Split place left right) e = refl

none-first : {A B C : Type 0} (f : A → Option B) (g : A → Option C) → ((x : A) → f x ≡ None → g x ≡ None) → (xs : List A)
    → first_some f xs ≡ None → first_some g xs ≡ None
none-first f g h [] e = refl
none-first {B = B} f g h (x ∷ xs) e = go (f x) refl e (λ q. none-first f g h xs q)
  where
    go : (o : Option B) → f x ≡ o → or_else o (first_some f xs) ≡ None → (first_some f xs ≡ None → first_some g xs ≡ None)
        → or_else (g x) (first_some g xs) ≡ None
    go None q w more = ap (λ o. or_else o (first_some g xs)) (h x q) ∙ more w
    go (Some y) q w more = cc

kind-rolled : (time : ℕ) (ts : List Transaction) (n c at : ℕ) (k : Kind) (w : List ℕ) → (f : Found ts time n c) → KindSays time ts at k
    → rolls_back n k ≡ Some w → f.t.undone ≡ w
kind-rolled time ts n c at (kind.Write ops) w f s e = cc
kind-rolled time ts n c at (kind.Intent sub m ops) w f s e = cc
kind-rolled time ts n c at (kind.Apply m d without) w f s e = go (m == n) refl e
  where
    go : (b : Bool) → (m == n) ≡ b → (if b then Some without else None) ≡ Some w → f.t.undone ≡ w
    go true q z =
        let same : m ≡ n = eqb-true m n q in
        let one : s.t ≡ f.t = same_Some s.t f.t (sym (subst (λ i. txn_at ts i ≡ Some s.t) same s.there) ∙ f.there) in
        sym (ap (λ (w : Transaction). w.undone) one) ∙ s.undone ∙ same_Some without w z
    go false q z = cc
kind-rolled time ts n c at (kind.Abort m) w f s e = cc
kind-rolled time ts n c at (kind.Safe v) w f s e = cc
kind-rolled time ts n c at (kind.Split place left right) w f s e = cc

pub undone-found : (m : Machine) (bs : List AcceptedTablet) (n c : ℕ) → AgreesSo m bs → (f : Found m.txns m.time n c)
    → first_some (λ (b : AcceptedTablet). first_some (λ (r : Record). applies n r.kind) b.records) bs ≡ Some c
    → f.t.undone ≡ option_map_or (λ without. without) (first_some
    (λ (b : AcceptedTablet). first_some (λ (r : Record). rolls_back n r.kind) b.records) bs) []
undone-found m bs n c a f e =
    go (first_some (λ (b : AcceptedTablet). first_some (λ (r : Record). rolls_back n r.kind) b.records) bs) refl
  where
    go : (o : Option (List ℕ)) → first_some (λ (b : AcceptedTablet). first_some (λ (r : Record). rolls_back n r.kind) b.records) bs ≡ o
        → f.t.undone ≡ option_map_or (λ without. without) o []
    go None q =
        absurd (none-some c (sym (none-first (λ (b : AcceptedTablet). first_some (λ (r : Record). rolls_back n r.kind) b.records)
        (λ b. first_some (λ (r : Record). applies n r.kind) b.records)
        (λ b w. none-first (λ (r : Record). rolls_back n r.kind) (λ r. applies n r.kind) (λ r z. rolls-none n r.kind z) b.records w) bs q)
        ∙ e))
    go (Some w) q =
        let b = first-of (λ (b : AcceptedTablet). Each (Says m.time m.txns) b.records)
        (λ b. first_some (λ (r : Record). rolls_back n r.kind) b.records) bs w a.says q in
        let r = first-of (Says m.time m.txns) (λ r. rolls_back n r.kind) b.0.records w b.1 b.2 in
        kind-rolled m.time m.txns n c r.0.time r.0.kind w f r.1.kind r.2

-- ---- stragglers

abbrev FreeAt : List AcceptedTablet → ℕ → ℕ → AcceptedTablet → Type 0
FreeAt bs n c b = (k : List ℕ) → holds b.header (hash_of k) ≡ true → straggles_at n c k (path_above bs b k) b.records ≡ false

path-on : (h : ℕ) (b : AcceptedTablet) (after : List AcceptedTablet) → holds b.header h ≡ true
    → path_of h (b ∷ after) ≡ b.records ++ path_of h after
path-on h b after e =
    ap (λ c. flat_map (λ (w : AcceptedTablet). w.records) (if c then
    (b ∷ filter (λ (w : AcceptedTablet). holds w.header h) after) else filter (λ (w : AcceptedTablet). holds w.header h) after)) e

free-from-path : (bs : List AcceptedTablet) (n c : ℕ) (before after : List AcceptedTablet) → Numbered 0 (heads bs) → bs ≡ before ++ after
    → ((k : List ℕ) → straggles_at n c k [] (key_path k bs) ≡ false) → Each (FreeAt bs n c) after
free-from-path bs n c before [] m s f = tt
free-from-path bs n c before (b ∷ after) m s f = (
  (λ k h.
      let above : path_above bs b k ≡ path_of (hash_of k) before =
      ap (λ w. path_above w b k) s ∙ above-before k before b after (subst (λ w. Numbered 0 (heads w)) s m) in
      let whole : key_path k bs ≡ path_of (hash_of k) before ++ (b.records ++ path_of (hash_of k) after) =
      ap (path_of (hash_of k)) s ∙ path-of-append (hash_of k) before (b ∷ after)
      ∙ ap (λ w. path_of (hash_of k) before ++ w) (path-on (hash_of k) b after h) in
      subst (λ w. straggles_at n c k w b.records ≡ false) (sym above)
      (straggles-part n c k [] (path_of (hash_of k) before) b.records (path_of (hash_of k) after)
      (subst (λ w. straggles_at n c k [] w ≡ false) whole (f k)))),
  free-from-path bs n c (before ++ b ∷ []) after m (s ∙ sym (append_assoc before (b ∷ []) after)) f,
)

-- ---- the logs agree

no-cases : (m : Machine) (bs all : List AcceptedTablet) (n c : ℕ) (undone : List ℕ) → (f : Found m.txns m.time n c) → f.t.undone ≡ undone
    → undone_in (logs_of m) n ≡ undone → accepted_tablets (logs_of m) ≡ all
    → Each (λ b. Each (Says m.time m.txns) b.records) bs → Each (FreeAt all n c) bs → Each (HasNoCase (logs_of m) n c) bs
no-cases m [] all n c undone f e u q s free = tt
no-cases m (b ∷ bs) all n c undone f e u q s free = (
  record {
    same_commit = any-false (Says m.time m.txns) (λ r. option_map_or (λ d. not (d == c)) (applies n r.kind) false)
        (λ r z. kind-commit m.time m.txns n c r.time r.kind f z.kind) b.records s.0;
    same_rollback = subst (λ w. rollback_differs n w b ≡ false) (sym u)
        (any-false (Says m.time m.txns) (λ r. option_map_or (λ w. not (bytes_eq w undone)) (rolls_back n r.kind) false)
        (λ r z. kind-rollback m.time m.txns n c r.time r.kind undone f e z.kind) b.records s.0);
    early_intents = any-false (Says m.time m.txns) (λ r. is_some (intent_ops n r.kind) && nat_le c r.time)
        (λ r z. kind-intent m.time m.txns n c r.time r.kind f z.kind) b.records s.0;
    no_abort = any-false (Says m.time m.txns) (λ r. aborts n r.kind)
        (λ r z. kind-abort m.time m.txns n c r.time r.kind f z.kind) b.records s.0;
    no_straggler = λ k h. subst (λ w. straggles_at n c k (path_above w b k) b.records ≡ false) (sym q) (free.0 k h);
  },
  no-cases m bs all n c undone f e u q s.1 free.1,
)

pub agrees-in : (m : Machine) (bs : List AcceptedTablet) → IsMachine m bs → AgreesSo m bs → Agrees (logs_of m)
unfolding commit_in undone_in
agrees-in m bs k a = record {
  no_case = λ n c e.
      let all = books-accepted m bs k in
      let first = sym (ap (first_some (λ (b : AcceptedTablet). first_some (λ (r : Record). applies n r.kind) b.records)) all) ∙ e in
      let f = commit-found m bs n c a first in
      let undone = undone-found m bs n c a f first in
      subst (Each (HasNoCase (logs_of m) n c)) (sym all)
      (no-cases m bs bs n c f.t.undone f refl
      (ap (λ w. option_map_or (λ without. without) (first_some (λ (b : AcceptedTablet). first_some
      (λ (r : Record). rolls_back n r.kind) b.records) w) []) all
      ∙ sym undone) all a.says (free-from-path bs n c [] bs k.books.numbered refl (λ key. a.free key n c f.t f.there f.commit)));
}

pub start-agrees : (roots : List Header) (time : ℕ) → AgreesSo (start roots time) (root_books roots)
start-agrees roots time = record {
  says = said roots;
  waits = λ k n e. absurd (true≢false (sym e ∙ ap (waits_in n k) (bare (hash_of k) roots)));
  free = λ k n c t e f. absurd (none-there n t e);
}
  where
    said : (hs : List Header) → Each (λ b. Each (Says time []) b.records) (root_books hs)
    said [] = tt
    said (h ∷ hs) = (tt, said hs)

    bare : (h : ℕ) (hs : List Header) → path_of h (root_books hs) ≡ []
    bare h [] = refl
    bare h (x ∷ hs) = go (holds x h) (bare h hs)
      where
        go : (b : Bool) → path_of h (root_books hs) ≡ []
            → flat_map (λ (w : AcceptedTablet). w.records) (if b then
            (root_book x ∷ filter (λ (w : AcceptedTablet). holds w.header h) (root_books hs)) else filter
            (λ (w : AcceptedTablet). holds w.header h) (root_books hs)) ≡ []
        go true e = e
        go false e = e

pub logs-agree : LogsAgree
logs-agree roots time commands r l f =
    let k = run-keeps AgreesSo agree-closed commands (start roots time) f
    (record { books = root_books roots; base = base-start roots time r; holds_of = start-agrees roots time }) in
    agrees-found (logs_of (run commands (start roots time))) (agrees-in (run commands (start roots time)) k.books k.base k.holds_of)
