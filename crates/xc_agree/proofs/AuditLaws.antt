-- Laws of the audit.
use Rattle.std.proofs.Common.{◌≡◌, ℕ, ◌+◌, ◌<◌, Bool, true, false, ◌||◌, List, [], ◌∷◌, ◌++◌, length, map, refl, ap, sym, ◌∙◌, subst, arith}
use Rattle.std.proofs.Common.{length-append}
use Rattle.std.proofs.lemmas.Bool.{eqb-true, eq-eqb, true≢false}
use Rattle.std.specs.Prelude.{Option, Some, None, Err, ◌==◌, flat_map, if◌then◌else◌, is_some, option_map}
use Rattle.std.specs.List.{filter_map, cons_option}
use Rattle.std.specs.Option.{option_map_or}
use Rattle.std.specs.declared.cmp.Ordering.{Ordering}
use Rattle.std.specs.Ordering.{is_gt}
use Rattle.xc_record.specs.declared.record.Break.{Break}
use Rattle.xc_record.specs.declared.record.Op.{Op}
use Rattle.xc_record.specs.declared.record.Record.{Record}
use Rattle.xc_record.specs.declared.record.Tablet.{Tablet}
use Rattle.xc_record.specs.declared.record.Logs.{Logs}
use Rattle.xc_record.specs.Accepted.{AcceptedTablet, accepted_tablets_after, halt_of}
use Rattle.xc_record.specs.Commits.{Commit, commit_cmp, applies, rolls_back, undone, applied_txn, write_ops, writes_in, write_commits}
use Rattle.xc_record.specs.Commits.{txn_ops, txn_commits, commits, commit_of, applied}
use Rattle.xc_record.specs.Agreement.{Disagreement, disagreement, disagreement_on, kind_at}
use Rattle.xc_record.specs.Lists.{first_some, or_else, sort_by, insert_by, has, distinct}
use Rattle.xc_record.proofs.AgreementLaws.{commit-applied}
use Rattle.xc_agree.specs.declared.audit.EndState.TheVariants.{Unreached}
use Rattle.xc_agree.specs.declared.cases.Case.{Case}
use Rattle.xc_order.specs.declared.walk.Halt.{Halt}
use Rattle.xc_agree.specs.declared.run.Run.{Run}
use Rattle.xc_agree.specs.declared.tally.Tally.{Tally}
use Rattle.xc_agree.specs.Runs.{IsRun, IsRuns, end_from, halt_state}
use Rattle.xc_order.specs.Walks.{halt_at}
use Rattle.xc_agree.specs.Slots.{time_of, undone_of}
use Rattle.xc_agree.specs.Tally.{first_commit, writes, applied_in, IsTally}
use Rattle.xc_agree.specs.declared.audit.Audit.{Audit}
use Rattle.xc_agree.specs.Audit.{end_of, ends_of, ends, state_of, audit_of, IsAudit}
use Rattle.xc_agree.specs.Cases.{IsFirst, case_of, cases_of, of_tablets, all_records}
use Rattle.xc_record.proofs.NumberLaws.{has-distinct, Rising, distinct-rising}
use Rattle.xc_agree.proofs.RunLaws.{accepted-of}
use Rattle.xc_agree.proofs.TallyLaws.{has-applied, first-append, filter_map-append, writes-append}
use Rattle.std.proofs.lemmas.Bool.{or_right}

-- ---- the ends

state-same : (reached : Bool) (b : AcceptedTablet) (h : Option Halt) (at : Option (ℕ × Break)) → reached ≡ b.reached
    → option_map halt_at h ≡ at → (if reached then halt_state b.end h else Unreached) ≡ state_of b at
state-same reached b None at e f = rw (e, ← f) refl
state-same reached b (Some h) at e f = rw (e, ← f) refl

end-same : (run : Run) (b : AcceptedTablet) (t : Tablet) → IsRun run b t → end_from run ≡ end_of b t.records
end-same run b t r = rw (r.accepted, r.order, state-same run.reached b run.walk.halt (halt_of b t.records) r.reached r.halt) refl

ends-same : (runs : List Run) (bs : List AcceptedTablet) (ts : List Tablet) → IsRuns runs bs ts → map end_from runs ≡ ends_of bs ts
ends-same [] [] [] h = refl
ends-same (run ∷ runs) (b ∷ bs) (t ∷ ts) h = rw (end-same run b t h.0, ends-same runs bs ts h.1) refl
ends-same [] [] (u ∷ ts) h = absurd h
ends-same [] (c ∷ bs) ts h = absurd h
ends-same (x ∷ runs) [] ts h = absurd h
ends-same (x ∷ runs) (c ∷ bs) [] h = absurd h

pub ends-here : (ts : List Tablet) (runs : List Run) → IsRuns runs (accepted_tablets_after [] ts) ts
    → map end_from runs ≡ ends (of_tablets ts)
unfolding ends
ends-here ts runs h = ends-same runs (accepted_tablets_after [] ts) ts h ∙ ap (λ bs. ends_of bs ts) (sym (accepted-of ts))

-- ---- the commits

flat : {A : Type 0} (f : Record → Option A) (bs : List AcceptedTablet)
    → first_some f (all_records bs) ≡ first_some (λ b. first_some f b.records) bs
flat f [] = refl
flat f (b ∷ bs) = first-append f b.records (all_records bs) ∙ ap (or_else (first_some f b.records)) (flat f bs)

-- the commit of a transaction is that of its first apply along all tablets
pub commit-here : (ts : List Tablet) (n : ℕ) → first_commit n (all_records (accepted_tablets_after [] ts)) ≡ commit_of (of_tablets ts) n
unfolding commit_of
commit-here ts n =
    flat (λ (r : Record). applies n r.kind) (accepted_tablets_after [] ts)
    ∙ ap (first_some (λ (b : AcceptedTablet). first_some (λ r. applies n r.kind) b.records)) (sym (accepted-of ts))

-- and so are its subtransactions that were rolled back
pub undone-here : (ts : List Tablet) (tally : Tally) → IsTally tally (all_records (accepted_tablets_after [] ts)) → (n : ℕ)
    → undone_of tally.commits n ≡ undone (of_tablets ts) n
unfolding undone
undone-here ts tally h n =
    ap (λ o. option_map_or (λ without. without) o []) (h.undone n
    ∙ flat (λ (r : Record). rolls_back n r.kind) (accepted_tablets_after [] ts)
    ∙ ap (first_some (λ (b : AcceptedTablet). first_some (λ r. rolls_back n r.kind) b.records)) (sym (accepted-of ts)))

applied-flat : (bs : List AcceptedTablet) → applied_in (all_records bs) ≡ flat_map (λ b. filter_map (λ r. applied_txn r.kind) b.records) bs
applied-flat [] = refl
applied-flat (b ∷ bs) =
    filter_map-append (λ (r : Record). applied_txn r.kind) b.records (all_records bs)
    ∙ ap (λ xs. applied_in b.records ++ xs) (applied-flat bs)

applied-here : (ts : List Tablet) → applied (of_tablets ts) ≡ distinct (applied_in (all_records (accepted_tablets_after [] ts)))
unfolding applied
applied-here ts =
    ap (λ bs. distinct (flat_map (λ (b : AcceptedTablet). filter_map (λ r. applied_txn r.kind) b.records) bs)) (accepted-of ts)
    ∙ ap distinct (sym (applied-flat (accepted_tablets_after [] ts)))

length-insert : {X : Type 0} (cmp : X → X → Ordering) (x : X) (xs : List X) → length (insert_by cmp x xs) ≡ 1 + length xs
length-insert cmp x [] = refl
length-insert {X = X} cmp x (y ∷ ys) = go (length-insert cmp x ys) (is_gt (cmp x y))
  where
    go : length (insert_by cmp x ys) ≡ 1 + length ys → (b : Bool)
        → length (if b then (y ∷ insert_by cmp x ys) else (x ∷ y ∷ ys)) ≡ 1 + length (y ∷ ys)
    go ih true = omega arith
    go ih false = omega arith

length-sort : {X : Type 0} (cmp : X → X → Ordering) (xs : List X) → length (sort_by cmp xs) ≡ length xs
length-sort cmp [] = refl
length-sort cmp (x ∷ xs) = let e = length-insert cmp x (sort_by cmp xs) in let f = length-sort cmp xs in omega arith

writes-cons : (r : Record) (rs : List Record) (tablet : ℕ) → length (writes_in tablet rs) ≡ writes rs
    → length (writes_in tablet (r ∷ rs)) ≡ writes (r ∷ rs)
writes-cons r rs tablet ih = go (write_ops r.kind)
  where
    go : (o : Option (List Op))
        → length (option_map_or (λ ops. record { time = r.time; txn = 0; tablet = tablet; ops = ops } ∷ []) o [] ++ writes_in tablet rs) ≡
        length (cons_option o (filter_map (λ r. write_ops r.kind) rs))
    go None = ih
    go (Some ops) = omega (arith, ih)

writes-in : (tablet : ℕ) (rs : List Record) → length (writes_in tablet rs) ≡ writes rs
writes-in tablet [] = refl
writes-in tablet (r ∷ rs) = writes-cons r rs tablet (writes-in tablet rs)

writes-flat : (bs : List AcceptedTablet) → length (flat_map (λ b. writes_in b.header.id b.records) bs) ≡ writes (all_records bs)
writes-flat [] = refl
writes-flat (b ∷ bs) =
    length-append (writes_in b.header.id b.records) (flat_map (λ b. writes_in b.header.id b.records) bs)
    ∙ ap (λ k. k + length (flat_map (λ (b : AcceptedTablet). writes_in b.header.id b.records) bs)) (writes-in b.header.id b.records)
    ∙ ap (λ k. writes b.records + k) (writes-flat bs) ∙ sym (writes-append b.records (all_records bs))

writes-here : (ts : List Tablet) → length (write_commits (of_tablets ts)) ≡ writes (all_records (accepted_tablets_after [] ts))
unfolding write_commits
writes-here ts =
    ap (λ bs. length (flat_map (λ (b : AcceptedTablet). writes_in b.header.id b.records) bs)) (accepted-of ts)
    ∙ writes-flat (accepted_tablets_after [] ts)

each-one : (f : ℕ → Option ℕ) (g : ℕ → ℕ → Commit) (ns : List ℕ) → ((n : ℕ) → has n ns ≡ true → is_some (f n) ≡ true)
    → length (flat_map (λ n. option_map_or (λ c. g n c ∷ []) (f n) []) ns) ≡ length ns
each-one f g [] k = refl
each-one f g (n ∷ ns) k = go (f n) refl (k n (rw (eq-eqb n n refl) refl)) (each-one f g ns (λ m h. k m (or_right (n == m) _ h)))
  where
    go : (o : Option ℕ) → f n ≡ o → is_some (f n) ≡ true → length (flat_map (λ n. option_map_or (λ c. g n c ∷ []) (f n) []) ns) ≡ length ns
        → length (option_map_or (λ c. g n c ∷ []) o [] ++ flat_map (λ n. option_map_or (λ c. g n c ∷ []) (f n) []) ns) ≡ length (n ∷ ns)
    go None e h ih = absurd (true≢false (sym h ∙ ap (λ o. is_some o) e))
    go (Some c) e h ih = omega arith

txns-here : (ts : List Tablet)
    → length (txn_commits (of_tablets ts)) ≡ length (distinct (applied_in (all_records (accepted_tablets_after [] ts))))
unfolding txn_commits
txns-here ts =
    each-one (commit_of (of_tablets ts)) (λ n c. record { time = c; txn = n; tablet = 0; ops = txn_ops (of_tablets ts) n })
    (applied (of_tablets ts))
    (λ n h. ap (λ o. is_some o) (sym (commit-here ts n)) ∙ sym (has-applied n (all_records (accepted_tablets_after [] ts)))
    ∙ sym (has-distinct n (applied_in (all_records (accepted_tablets_after [] ts)))) ∙ ap (has n) (sym (applied-here ts)) ∙ h)
    ∙ ap length (applied-here ts)

pub commits-here : (ts : List Tablet) (found : Tally) → IsTally found (all_records (accepted_tablets_after [] ts))
    → found.count ≡ length (commits (of_tablets ts))
unfolding commits
commits-here ts found h =
    let a = length-sort commit_cmp (write_commits (of_tablets ts) ++ txn_commits (of_tablets ts)) in
    let b = length-append (write_commits (of_tablets ts)) (txn_commits (of_tablets ts)) in
    let c = writes-here ts in
    let d = txns-here ts in
    let e = h.count in
    omega arith

-- ---- the first case

first-of-rising : {Y : Type 0} (f : ℕ → Option Y) (y : Y) (n : ℕ) (ns : List ℕ) → Rising ns → has n ns ≡ true → f n ≡ Some y
    → ((m : ℕ) → m < n → f m ≡ None) → first_some f ns ≡ Some y
first-of-rising f y n [] r h e k = cc
first-of-rising f y n (m ∷ ns) r h e k = go (m == n) refl h (λ h. first-of-rising f y n ns r.1 h e k)
  where
    go : (b : Bool) → m == n ≡ b → (b || has n ns) ≡ true → (has n ns ≡ true → first_some f ns ≡ Some y)
        → or_else (f m) (first_some f ns) ≡ Some y
    go true same h ih = rw (ap f (eqb-true m n same) ∙ e) refl
    go false apart h ih = rw (k m (r.0 n h)) (ih h)

none-first : {Y : Type 0} (f : ℕ → Option Y) (ns : List ℕ) → ((n : ℕ) → f n ≡ None) → first_some f ns ≡ None
none-first f [] k = refl
none-first f (n ∷ ns) k = rw (k n) (none-first f ns k)

abbrev case_at : Logs → ℕ → Option Disagreement
case_at logs n = option_map_or (disagreement_on logs n) (commit_of logs n) None

cases-here : (ts : List Tablet) (tally : Tally) → IsTally tally (all_records (accepted_tablets_after [] ts)) → (n : ℕ)
    → case_at (of_tablets ts) n ≡ cases_of (of_tablets ts) tally.commits (accepted_tablets_after [] ts) n
unfolding disagreement_on
cases-here ts tally h n = go (commit_of (of_tablets ts) n) (h.times n ∙ commit-here ts n)
  where
    go : (o : Option ℕ) → time_of tally.commits n ≡ o
        → option_map_or (disagreement_on (of_tablets ts) n) o None ≡ cases_of (of_tablets ts) tally.commits (accepted_tablets_after [] ts) n
    go None e = rw e refl
    go (Some c) e =
        rw e (ap (first_some (λ (b : AcceptedTablet). option_map (case_of n b.header.id) (kind_at (of_tablets ts) n c b))) (accepted-of ts))

pub agrees-here : (ts : List Tablet) (tally : Tally) → IsTally tally (all_records (accepted_tablets_after [] ts))
    → IsFirst None (cases_of (of_tablets ts) tally.commits (accepted_tablets_after [] ts)) → disagreement (of_tablets ts) ≡ None
unfolding disagreement
agrees-here ts tally h f = none-first (case_at (of_tablets ts)) (applied (of_tablets ts)) (λ n. cases-here ts tally h n ∙ f n)

has-case : (logs : Logs) (n : ℕ) (y : Disagreement) → case_at logs n ≡ Some y → has n (applied logs) ≡ true
has-case logs n y e = go (commit_of logs n) refl e
  where
    go : (o : Option ℕ) → commit_of logs n ≡ o → option_map_or (disagreement_on logs n) o None ≡ Some y → has n (applied logs) ≡ true
    go None f e = cc
    go (Some c) f e = commit-applied logs n c f

pub disagrees-here : (ts : List Tablet) (tally : Tally) (d : Case) → IsTally tally (all_records (accepted_tablets_after [] ts))
    → IsFirst (Some d) (cases_of (of_tablets ts) tally.commits (accepted_tablets_after [] ts))
    → disagreement (of_tablets ts) ≡ Some (case_of d.txn d.tablet d.kind)
unfolding disagreement
disagrees-here ts tally d h f =
    let here : case_at (of_tablets ts) d.txn ≡ Some (case_of d.txn d.tablet d.kind) = cases-here ts tally h d.txn ∙ f.0 in
    first-of-rising (case_at (of_tablets ts)) (case_of d.txn d.tablet d.kind) d.txn (applied (of_tablets ts))
    (subst Rising (sym (applied-here ts)) (distinct-rising (applied_in (all_records (accepted_tablets_after [] ts)))))
    (has-case (of_tablets ts) d.txn (case_of d.txn d.tablet d.kind) here) here (λ m below. cases-here ts tally h m ∙ f.1 m below)

-- ---- the whole audit

pub fails : (ts : List Tablet) (logs : Logs) (tally : Tally) (first : Option Case) (d : Case) → ts ≡ logs.tablets
    → IsTally tally (all_records (accepted_tablets_after [] ts))
    → IsFirst first (cases_of (of_tablets ts) tally.commits (accepted_tablets_after [] ts)) → first ≡ Some d
    → audit_of logs ≡ Err (case_of d.txn d.tablet d.kind)
fails ts logs tally first d same h f is =
    let case : disagreement (of_tablets ts) ≡ Some (case_of d.txn d.tablet d.kind) =
    disagrees-here ts tally d h (subst (λ o. IsFirst o (cases_of (of_tablets ts) tally.commits (accepted_tablets_after [] ts))) is f) in
    subst (λ l. audit_of l ≡ Err (case_of d.txn d.tablet d.kind)) (ap of_tablets same) (rw case refl)

audits-tablets : (ts : List Tablet) (runs : List Run) (found : Tally) (first : Option Case) (a : Audit)
    → IsRuns runs (accepted_tablets_after [] ts) ts → IsTally found (all_records (accepted_tablets_after [] ts))
    → IsFirst first (cases_of (of_tablets ts) found.commits (accepted_tablets_after [] ts)) → first ≡ None → a.ends ≡ map end_from runs
    → a.commits ≡ found.count → IsAudit (of_tablets ts) a
audits-tablets ts runs found first a r h f is all count =
    let none : disagreement (of_tablets ts) ≡ None =
    agrees-here ts found h (subst (λ o. IsFirst o (cases_of (of_tablets ts) found.commits (accepted_tablets_after [] ts))) is f) in
    let ends : a.ends ≡ ends (of_tablets ts) = all ∙ ends-here ts runs r in
    let commits : a.commits ≡ length (commits (of_tablets ts)) = count ∙ commits-here ts found h in
    rw (none, ← ends, ← commits) refl

pub audits : (ts : List Tablet) (logs : Logs) (runs now : List Run) (found : Tally) (first : Option Case) (a : Audit) → ts ≡ logs.tablets
    → now ≡ runs → IsRuns runs (accepted_tablets_after [] ts) ts → IsTally found (all_records (accepted_tablets_after [] ts))
    → IsFirst first (cases_of (of_tablets ts) found.commits (accepted_tablets_after [] ts)) → first ≡ None → a.ends ≡ map end_from now
    → a.commits ≡ found.count → IsAudit logs a
audits ts logs runs now found first a same slice r h f is ends count =
    subst (λ l. IsAudit l a) (ap of_tablets same) (audits-tablets ts runs found first a r h f is (ends ∙ ap (map end_from) slice) count)
