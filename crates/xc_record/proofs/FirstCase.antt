-- The disagreement of logs is the first of the cases that stand: that of the least transaction, then of the least tablet, then of the first
-- kind.
use Rattle.std.proofs.Common.{◌≡◌, ℕ, zero, suc, ◌+◌, ◌<◌, ◌≤◌, Bool, true, false, ◌||◌, List, [], ◌∷◌, length, refl, ap, sym, ◌∙◌, subst}
use Rattle.std.proofs.Common.{arith, inl, inr}
use Rattle.std.proofs.lemmas.Bool.{eqb-true, cases_eq, cases_lt, true≢false, false_from_ne_true}
use Rattle.std.proofs.lemmas.Option.{same_Some, none-some}
use Rattle.std.specs.Prelude.{Option, Some, None, ◌==◌, ◌↔◌, option_map, slice_get, if◌then◌else◌, flat_map}
use Rattle.std.specs.List.{filter_map}
use Rattle.std.specs.Option.{option_map_or}
use Rattle.xc_record.specs.declared.record.AgreeKind.{AgreeKind}
use Rattle.xc_record.specs.declared.record.AgreeKind.TheVariants.{CommitDiffers, RollbackDiffers, LateIntent, Aborted, Straggler}
use Rattle.xc_record.specs.declared.record.Logs.{Logs}
use Rattle.xc_record.specs.Accepted.{AcceptedTablet, accepted_tablets, accepted_tablet}
use Rattle.xc_record.specs.Valid.{is_valid}
use Rattle.xc_record.specs.Commits.{commit_of, undone, applied_txn, applied}
use Rattle.xc_record.specs.Agreement.{Disagreement, commit_differs, rollback_differs, late_intent, aborted, straggler, first_kind, kind_at}
use Rattle.xc_record.specs.Agreement.{disagreement_on, disagreement, rank, HasNoCase, Agrees, Stands, IsCase, IsFirstCase}
use Rattle.xc_record.specs.Lists.{first_some, or_else, has}
use Rattle.xc_record.proofs.NumberLaws.{Rising, distinct-rising}
use Rattle.xc_record.proofs.ValidLaws.{number-is}
use Rattle.xc_record.proofs.AgreementLaws.{commit-applied}
use Rattle.xc_record.proofs.ListLaws.{each-get, each-from}
use Rattle.xc_record.proofs.StragglerKeys.{straggler-found}

-- ---- the first kind

abbrev kinds : List AgreeKind
kinds = CommitDiffers ∷ RollbackDiffers ∷ LateIntent ∷ Aborted ∷ Straggler ∷ []

abbrev rows : (AgreeKind → Bool) → List AgreeKind → List (Bool × AgreeKind)
rows test [] = []
rows test (k ∷ ks) = (test k, k) ∷ rows test ks

-- the ranks are n and the numbers after it
abbrev Ranked : ℕ → List AgreeKind → Type 0
Ranked n [] = Unit {0}
Ranked n (k ∷ ks) = (rank k ≡ n) × Ranked (n + 1) ks

kind_of_rank : ℕ → AgreeKind
kind_of_rank zero = CommitDiffers
kind_of_rank (suc zero) = RollbackDiffers
kind_of_rank (suc (suc zero)) = LateIntent
kind_of_rank (suc (suc (suc zero))) = Aborted
kind_of_rank (suc (suc (suc (suc n)))) = Straggler

of-rank : (k : AgreeKind) → kind_of_rank (rank k) ≡ k
unfolding kind_of_rank
of-rank CommitDiffers = refl
of-rank RollbackDiffers = refl
of-rank LateIntent = refl
of-rank Aborted = refl
of-rank Straggler = refl

pub same-rank : (k l : AgreeKind) → rank k ≡ rank l → k ≡ l
same-rank k l e = sym (of-rank k) ∙ ap kind_of_rank e ∙ of-rank l

rank-below : (k : AgreeKind) → rank k < 5
rank-below CommitDiffers = omega arith
rank-below RollbackDiffers = omega arith
rank-below LateIntent = omega arith
rank-below Aborted = omega arith
rank-below Straggler = omega arith

first-passes : (test : AgreeKind → Bool) (ks : List AgreeKind) (k : AgreeKind) → first_kind (rows test ks) ≡ Some k → test k ≡ true
first-passes test [] k e = cc
first-passes test (l ∷ ks) k e = go (test l) refl (first-passes test ks k) e
  where
    go : (b : Bool) → test l ≡ b → (first_kind (rows test ks) ≡ Some k → test k ≡ true)
        → (if b then Some l else first_kind (rows test ks)) ≡ Some k → test k ≡ true
    go true f ih e = ap test (sym (same_Some l k e)) ∙ f
    go false f ih e = ih e

-- a kind that is told before this one or is this one
record Told (o : Option AgreeKind) (kind : AgreeKind) : Type 0 where
  first : AgreeKind
  is : o ≡ Some first
  before : rank first ≤ rank kind

first-told : (test : AgreeKind → Bool) (n : ℕ) (ks : List AgreeKind) → Ranked n ks → (kind : AgreeKind) → n ≤ rank kind
    → rank kind < n + length ks → test kind ≡ true → Told (first_kind (rows test ks)) kind
first-told test n [] r kind low high t = absurd (omega arith)
first-told test n (k ∷ ks) r kind low high t = go (test k) refl (λ l h. first-told test (n + 1) ks r.1 kind l h t)
  where
    go : (b : Bool) → test k ≡ b → (n + 1 ≤ rank kind → rank kind < n + 1 + length ks → Told (first_kind (rows test ks)) kind)
        → Told (if b then Some k else first_kind (rows test ks)) kind
    go true e ih = record { first = k; is = refl; before = omega (arith, r.0) }
    go false e ih = elim (cases_eq n (rank kind)) [
      | inl same ↦ absurd (true≢false (sym t ∙ ap test (sym (same-rank k kind (r.0 ∙ same))) ∙ e))
      | inr apart ↦ ih (omega arith) (omega arith)
    ]

-- ---- the kind at a tablet

test_at : Logs → ℕ → ℕ → AcceptedTablet → AgreeKind → Bool
test_at logs n c b CommitDiffers = commit_differs n c b
test_at logs n c b RollbackDiffers = rollback_differs n (undone logs n) b
test_at logs n c b LateIntent = late_intent n c b
test_at logs n c b Aborted = aborted n b
test_at logs n c b Straggler = straggler logs n c b

kind-rows : (logs : Logs) (n c : ℕ) (b : AcceptedTablet) → kind_at logs n c b ≡ first_kind (rows (test_at logs n c b) kinds)
unfolding kind_at test_at
kind-rows logs n c b = refl

passes-stands : (logs : Logs) (n c i : ℕ) (b : AcceptedTablet) (kind : AgreeKind) → accepted_tablet logs i ≡ Some b
    → (test_at logs n c b kind ≡ true) ↔ Stands logs n c b kind
unfolding test_at
passes-stands logs n c i b CommitDiffers at = (λ e. e, λ e. e)
passes-stands logs n c i b RollbackDiffers at = (λ e. e, λ e. e)
passes-stands logs n c i b LateIntent at = (λ e. e, λ e. e)
passes-stands logs n c i b Aborted at = (λ e. e, λ e. e)
passes-stands logs n c i b Straggler at = straggler-found logs n c i b at

kind-stands : (logs : Logs) (n c i : ℕ) (b : AcceptedTablet) (kind : AgreeKind) → accepted_tablet logs i ≡ Some b
    → kind_at logs n c b ≡ Some kind → Stands logs n c b kind
kind-stands logs n c i b kind at e =
    (passes-stands logs n c i b kind at).0 (first-passes (test_at logs n c b) kinds kind (sym (kind-rows logs n c b) ∙ e))

stands-told : (logs : Logs) (n c i : ℕ) (b : AcceptedTablet) (kind : AgreeKind) → accepted_tablet logs i ≡ Some b → Stands logs n c b kind
    → Told (kind_at logs n c b) kind
stands-told logs n c i b kind at s =
    subst (λ o. Told o kind) (sym (kind-rows logs n c b))
    (first-told (test_at logs n c b) 0 kinds (refl, (refl, (refl, (refl, (refl, tt))))) kind (omega arith) (rank-below kind)
    ((passes-stands logs n c i b kind at).1 s))

none-stands : (logs : Logs) (n c i : ℕ) (b : AcceptedTablet) (kind : AgreeKind) → accepted_tablet logs i ≡ Some b
    → kind_at logs n c b ≡ None → Stands logs n c b kind → ⊥
none-stands logs n c i b kind at none s =
    let told : Told (kind_at logs n c b) kind = stands-told logs n c i b kind at s in none-some told.first (sym none ∙ told.is)

-- ---- the first tablet

abbrev case_of : ℕ → ℕ → AgreeKind → Disagreement
case_of n tablet kind = record { txn = n; tablet = tablet; kind = kind }

abbrev case_there : (AcceptedTablet → Option AgreeKind) → ℕ → AcceptedTablet → Option Disagreement
case_there f n b = option_map (case_of n b.header.id) (f b)

-- the case is of the tablet at a place, and none is of one before
record AtTablet (f : AcceptedTablet → Option AgreeKind) (n : ℕ) (bs : List AcceptedTablet) (d : Disagreement) : Type 0 where
  place : ℕ
  tablet : AcceptedTablet
  kind : AgreeKind
  there : slice_get bs place ≡ Some tablet
  found : f tablet ≡ Some kind
  is : d ≡ case_of n tablet.header.id kind
  before : (j : ℕ) (x : AcceptedTablet) → j < place → slice_get bs j ≡ Some x → f x ≡ None

at-tablet : (f : AcceptedTablet → Option AgreeKind) (n : ℕ) (bs : List AcceptedTablet) (d : Disagreement)
    → first_some (case_there f n) bs ≡ Some d → AtTablet f n bs d
at-tablet f n [] d e = cc
at-tablet f n (b ∷ bs) d e = go (f b) refl (at-tablet f n bs d) e
  where
    go : (o : Option AgreeKind) → f b ≡ o → (first_some (case_there f n) bs ≡ Some d → AtTablet f n bs d)
        → or_else (option_map (case_of n b.header.id) o) (first_some (case_there f n) bs) ≡ Some d → AtTablet f n (b ∷ bs) d
    go (Some k) h ih e =
        record {
          place = 0;
          tablet = b;
          kind = k;
          there = refl;
          found = h;
          is = sym (same_Some _ _ e);
          before = λ j x low get. absurd
              (omega arith);
        }
    go None h ih e =
        let later : AtTablet f n bs d = ih e in
        record {
          place = suc later.place;
          tablet = later.tablet;
          kind = later.kind;
          there = later.there;
          found = later.found;
          is = later.is;
          before = before later;
        }
      where
        before : (later : AtTablet f n bs d) (j : ℕ) (x : AcceptedTablet) → j < suc later.place → slice_get (b ∷ bs) j ≡ Some x → f x ≡ None
        before later zero x low get = ap f (sym (same_Some _ _ get)) ∙ h
        before later (suc j) x low get = later.before j x (omega arith) get

no-tablet : (f : AcceptedTablet → Option AgreeKind) (n : ℕ) (bs : List AcceptedTablet) → first_some (case_there f n) bs ≡ None
    → (j : ℕ) (x : AcceptedTablet) → slice_get bs j ≡ Some x → f x ≡ None
no-tablet f n [] e j x get = cc
no-tablet f n (b ∷ bs) e j x get = go (f b) refl (no-tablet f n bs) e j get
  where
    go : (o : Option AgreeKind) → f b ≡ o
        → (first_some (case_there f n) bs ≡ None → (j : ℕ) (x : AcceptedTablet) → slice_get bs j ≡ Some x → f x ≡ None)
        → or_else (option_map (case_of n b.header.id) o) (first_some (case_there f n) bs) ≡ None → (j : ℕ) → slice_get (b ∷ bs) j ≡ Some x
        → f x ≡ None
    go (Some k) h ih e j get = cc
    go None h ih e zero get = ap f (sym (same_Some _ _ get)) ∙ h
    go None h ih e (suc j) get = ih e j x get

-- ---- the least transaction

record AtNumber {Y : Type 0} (f : ℕ → Option Y) (ns : List ℕ) (y : Y) : Type 0 where
  number : ℕ
  found : f number ≡ Some y
  before : (m : ℕ) → m < number → has m ns ≡ true → f m ≡ None

at-number : {Y : Type 0} (f : ℕ → Option Y) (ns : List ℕ) (y : Y) → Rising ns → first_some f ns ≡ Some y → AtNumber f ns y
at-number f [] y r e = cc
at-number {Y = Y} f (n ∷ ns) y r e = go (f n) refl (at-number f ns y r.1) e
  where
    go : (o : Option Y) → f n ≡ o → (first_some f ns ≡ Some y → AtNumber f ns y) → or_else o (first_some f ns) ≡ Some y
        → AtNumber f (n ∷ ns) y
    go (Some z) h ih e = record { number = n; found = h ∙ e; before = λ m low there. absurd (none-below m low (n == m) refl there) }
      where
        none-below : (m : ℕ) → m < n → (b : Bool) → n == m ≡ b → (b || has m ns) ≡ true → ⊥
        none-below m low true same there = let e : n ≡ m = eqb-true n m same in omega arith
        none-below m low false apart there = let above : n < m = r.0 m there in omega arith
    go None h ih e =
        let later : AtNumber f ns y = ih e in
        record { number = later.number; found = later.found; before = λ m low there. before later m low (n == m) refl there }
      where
        before : (later : AtNumber f ns y) (m : ℕ) → m < later.number → (b : Bool) → n == m ≡ b → (b || has m ns) ≡ true → f m ≡ None
        before later m low true same there = ap f (sym (eqb-true n m same)) ∙ h
        before later m low false apart there = later.before m low there

no-number : {Y : Type 0} (f : ℕ → Option Y) (ns : List ℕ) → first_some f ns ≡ None → (m : ℕ) → has m ns ≡ true → f m ≡ None
no-number f [] e m there = cc
no-number {Y = Y} f (n ∷ ns) e m there = go (f n) refl (no-number f ns) e (n == m) refl there
  where
    go : (o : Option Y) → f n ≡ o → (first_some f ns ≡ None → (m : ℕ) → has m ns ≡ true → f m ≡ None) → or_else o (first_some f ns) ≡ None
        → (b : Bool) → n == m ≡ b → (b || has m ns) ≡ true → f m ≡ None
    go (Some z) h ih e b same there = cc
    go None h ih e true same there = ap f (sym (eqb-true n m same)) ∙ h
    go None h ih e false apart there = ih e m there

-- ---- the first case

abbrev cases_of : Logs → ℕ → Option Disagreement
cases_of logs n = option_map_or (disagreement_on logs n) (commit_of logs n) None

-- no case of the transaction, so none at any tablet
none-of : (logs : Logs) (e : Disagreement) → cases_of logs e.txn ≡ None → IsCase logs e → ⊥
unfolding disagreement_on
none-of logs e none x =
    let here : disagreement_on logs e.txn x.commit ≡ None = rw x.commits at none in
    none-stands logs e.txn x.commit e.tablet x.at e.kind x.there
    (no-tablet (kind_at logs e.txn x.commit) e.txn (accepted_tablets logs) here e.tablet x.at x.there) x.stands

-- the case that is found, with what it is found by
record Found (logs : Logs) (d : Disagreement) : Type 0 where
  commit : ℕ
  commits : commit_of logs d.txn ≡ Some commit
  at : AtTablet (kind_at logs d.txn commit) d.txn (accepted_tablets logs) d
  before : (m : ℕ) → m < d.txn → has m (applied logs) ≡ true → cases_of logs m ≡ None

found : (logs : Logs) (d : Disagreement) → disagreement logs ≡ Some d → Found logs d
unfolding disagreement disagreement_on applied
found logs d e =
    let x : AtNumber (cases_of logs) (applied logs) d =
    at-number (cases_of logs) (applied logs) d
    (distinct-rising (flat_map (λ b. filter_map (λ r. applied_txn r.kind) b.records) (accepted_tablets logs))) e in
    go x (commit_of logs x.number) refl x.found
  where
    go : (x : AtNumber (cases_of logs) (applied logs) d) (o : Option ℕ) → commit_of logs x.number ≡ o
        → option_map_or (disagreement_on logs x.number) o None ≡ Some d → Found logs d
    go x None h e = cc
    go x (Some c) h e =
        let t : AtTablet (kind_at logs x.number c) x.number (accepted_tablets logs) d =
        at-tablet (kind_at logs x.number c) x.number (accepted_tablets logs) d e in
        let same : x.number ≡ d.txn = sym (ap (λ (d : Disagreement). d.txn) t.is) in
        record {
          commit = c;
          commits = ap (commit_of logs) (sym same) ∙ h;
          at = subst (λ n. AtTablet (kind_at logs n c) n (accepted_tablets logs) d) same t;
          before = subst (λ n. (m : ℕ) → m < n → has m (applied logs) ≡ true → cases_of logs m ≡ None) same x.before;
        }

-- a case of the transaction that is found
at-once : (logs : Logs) (d e : Disagreement) (x : Found logs d) → (y : IsCase logs e) → e.txn ≡ d.txn → y.commit ≡ x.commit
at-once logs d e x y same = same_Some y.commit x.commit (sym y.commits ∙ ap (commit_of logs) same ∙ x.commits)

is-first : (logs : Logs) (d : Disagreement) → is_valid logs ≡ true → Found logs d → IsFirstCase logs d
is-first logs d v x =
    let place : d.tablet ≡ x.at.place = ap (λ (d : Disagreement). d.tablet) x.at.is ∙ number-is logs x.at.place x.at.tablet v x.at.there in
    let kind : d.kind ≡ x.at.kind = ap (λ (d : Disagreement). d.kind) x.at.is in
    record {
      stands = record {
        commit = x.commit;
        at = x.at.tablet;
        commits = x.commits;
        there = ap (accepted_tablet logs) place ∙ x.at.there;
        stands = kind-stands logs d.txn x.commit x.at.place x.at.tablet d.kind x.at.there (x.at.found ∙ ap (λ k. Some k) (sym kind));
      };
      least_transaction =
          λ e y. elim (cases_lt e.txn d.txn) [
            | inl below ↦ absurd (none-of logs e (x.before e.txn below (commit-applied logs e.txn y.commit y.commits)) y)
            | inr above ↦
                above
          ];
      least_tablet =
          λ e y same. elim (cases_lt e.tablet d.tablet)
          [ inl below ↦ absurd (none-before e y same (subst (λ p. e.tablet < p) place below)) | inr above ↦ above ];
      first_kind = λ e y same here. first e y same (here ∙ place) kind;
    }
  where
    none-before : (e : Disagreement) (y : IsCase logs e) → e.txn ≡ d.txn → e.tablet < x.at.place → ⊥
    none-before e y same below =
        let none : kind_at logs d.txn x.commit y.at ≡ None = x.at.before e.tablet y.at below y.there in
        none-stands logs e.txn y.commit e.tablet y.at e.kind y.there (ap (λ n. kind_at logs n y.commit y.at) same
        ∙ ap (λ c. kind_at logs d.txn c y.at) (at-once logs d e x y same) ∙ none) y.stands

    first : (e : Disagreement) (y : IsCase logs e) → e.txn ≡ d.txn → e.tablet ≡ x.at.place → d.kind ≡ x.at.kind → rank d.kind ≤ rank e.kind
    first e y same here kind =
        let told : Told (kind_at logs e.txn y.commit y.at) e.kind = stands-told logs e.txn y.commit e.tablet y.at e.kind y.there y.stands in
        let one : y.at ≡ x.at.tablet = same_Some y.at x.at.tablet (sym y.there ∙ ap (accepted_tablet logs) here ∙ x.at.there) in
        let both : kind_at logs e.txn y.commit y.at ≡ Some x.at.kind =
        ap (kind_at logs e.txn y.commit) one ∙ ap (λ c. kind_at logs e.txn c x.at.tablet) (at-once logs d e x y same)
        ∙ ap (λ n. kind_at logs n x.commit x.at.tablet) same ∙ x.at.found in
        let k : told.first ≡ x.at.kind = same_Some told.first x.at.kind (sym told.is ∙ both) in
        let r : rank d.kind ≡ rank told.first = ap rank (kind ∙ sym k) in
        omega (arith, told.before)

-- two first cases are one
same-first : (logs : Logs) (d e : Disagreement) → IsFirstCase logs d → IsFirstCase logs e → d ≡ e
same-first logs d e x y =
    let txn : d.txn ≡ e.txn = omega (arith, x.least_transaction e y.stands, y.least_transaction d x.stands) in
    let tablet : d.tablet ≡ e.tablet = omega (arith, x.least_tablet e y.stands (sym txn), y.least_tablet d x.stands txn) in
    let kind : d.kind ≡ e.kind =
    same-rank d.kind e.kind (omega (arith, x.first_kind e y.stands (sym txn) (sym tablet), y.first_kind d x.stands txn tablet)) in
    rw (txn, tablet, kind) refl

none-stands-anywhere : (logs : Logs) → disagreement logs ≡ None → (e : Disagreement) → IsCase logs e → ⊥
unfolding disagreement
none-stands-anywhere logs none e x =
    none-of logs e (no-number (cases_of logs) (applied logs) none e.txn (commit-applied logs e.txn x.commit x.commits)) x

-- the disagreement of well-formed logs is the first case that stands
pub first-case : (logs : Logs) (d : Disagreement) → is_valid logs ≡ true → (disagreement logs ≡ Some d) ↔ IsFirstCase logs d
first-case logs d v = (λ e. is-first logs d v (found logs d e), λ x. back x (disagreement logs) refl)
  where
    back : IsFirstCase logs d → (o : Option Disagreement) → disagreement logs ≡ o → o ≡ Some d
    back x None e = absurd (none-stands-anywhere logs e d x.stands)
    back x (Some c) e = ap (λ d. Some d) (same-first logs c d (is-first logs c v (found logs c e)) x)

-- and there is none exactly where none stands
pub no-case : (logs : Logs) → is_valid logs ≡ true → (disagreement logs ≡ None) ↔ ((d : Disagreement) → IsCase logs d → ⊥)
no-case logs v = (none-stands-anywhere logs, λ none. back none (disagreement logs) refl)
  where
    back : ((d : Disagreement) → IsCase logs d → ⊥) → (o : Option Disagreement) → disagreement logs ≡ o → o ≡ None
    back none None e = refl
    back none (Some d) e = absurd (none d (is-first logs d v (found logs d e)).stands)

-- ---- agreement

no-clash : (logs : Logs) (n c : ℕ) (b : AcceptedTablet) (kind : AgreeKind) → HasNoCase logs n c b → Stands logs n c b kind → ⊥
no-clash logs n c b CommitDiffers h s = true≢false (sym s ∙ h.same_commit)
no-clash logs n c b RollbackDiffers h s = true≢false (sym s ∙ h.same_rollback)
no-clash logs n c b LateIntent h s = true≢false (sym s ∙ h.early_intents)
no-clash logs n c b Aborted h s = true≢false (sym s ∙ h.no_abort)
no-clash logs n c b Straggler h s = true≢false (sym s.1.straggles ∙ h.no_straggler s.0 s.1.within)

-- logs agree exactly where no disagreement is found
pub agree-exactly : (logs : Logs) → (disagreement logs ≡ None) ↔ Agrees logs
agree-exactly logs = (
  λ none. record { no_case = λ n c q. each-from (HasNoCase logs n c) (accepted_tablets logs) (clear none n c q) },
  λ a. back a (disagreement logs) refl,
)
  where
    clear : disagreement logs ≡ None → (n c : ℕ) → commit_of logs n ≡ Some c → (i : ℕ) (b : AcceptedTablet)
        → slice_get (accepted_tablets logs) i ≡ Some b → HasNoCase logs n c b
    clear none n c q i b there =
        let out : (kind : AgreeKind) → Stands logs n c b kind → ⊥ =
        λ kind s. none-stands-anywhere logs none (record { txn = n; tablet = i; kind = kind })
        (record { commit = c; at = b; commits = q; there = there; stands = s }) in
        record {
          same_commit = false_from_ne_true _ (out CommitDiffers);
          same_rollback = false_from_ne_true _ (out RollbackDiffers);
          early_intents = false_from_ne_true _ (out LateIntent);
          no_abort = false_from_ne_true _ (out Aborted);
          no_straggler = λ k w. false_from_ne_true _ (λ s. out Straggler (k, record { within = w; straggles = s }));
        }

    back : Agrees logs → (o : Option Disagreement) → disagreement logs ≡ o → o ≡ None
    back a None e = refl
    back a (Some d) e =
        let x = found logs d e in
        absurd
        (no-clash logs d.txn x.commit x.at.tablet x.at.kind
        (each-get (HasNoCase logs d.txn x.commit) (accepted_tablets logs) x.at.place x.at.tablet (a.no_case d.txn x.commit x.commits)
        x.at.there) (kind-stands logs d.txn x.commit x.at.place x.at.tablet x.at.kind x.at.there x.at.found))
