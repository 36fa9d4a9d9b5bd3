-- Laws of agreement: the transactions that were applied are those with a commit.
use Rattle.std.proofs.Common.{◌≡◌, ℕ, Bool, true, false, cond, ◌||◌, List, [], ◌∷◌, refl, ap, sym, ◌∙◌}
use Rattle.std.specs.Prelude.{Option, Some, None, flat_map, is_some, ◌==◌}
use Rattle.std.specs.List.{filter_map, cons_option, list_any}
use Rattle.xc_record.specs.declared.record.Kind.{Kind}
use Rattle.xc_record.specs.declared.record.Kind.TheVariants.{Apply}
use Rattle.xc_record.specs.declared.record.Record.{Record}
use Rattle.xc_record.specs.declared.record.Logs.{Logs}
use Rattle.xc_record.specs.Accepted.{AcceptedTablet, accepted_tablets}
use Rattle.xc_record.specs.Commits.{applies, applied_txn, applied, commit_of}
use Rattle.xc_record.specs.Lists.{first_some, or_else, has}
use Rattle.xc_record.proofs.NumberLaws.{has-distinct, has-append}

-- an apply of n names n
applied-kind : (n : ℕ) (kind : Kind) (ms : List ℕ) → has n (cons_option (applied_txn kind) ms) ≡ (is_some (applies n kind) || has n ms)
applied-kind n (Apply txn commit without) ms =
    elim (txn == n) as (λ b. (b || has n ms) ≡ (is_some (cond b (Some commit) None) || has n ms)) [ true ↦ refl | false ↦ refl ]
applied-kind n _ ms = refl

some-any : {X Y : Type 0} (f : X → Option Y) (xs : List X) → is_some (first_some f xs) ≡ list_any (λ x. is_some (f x)) xs
some-any f [] = refl
some-any {Y = Y} f (x ∷ xs) = go (f x) (some-any f xs)
  where
    go : (o : Option Y) → is_some (first_some f xs) ≡ list_any (λ x. is_some (f x)) xs
        → is_some (or_else o (first_some f xs)) ≡ (is_some o || list_any (λ x. is_some (f x)) xs)
    go None ih = ih
    go (Some y) ih = refl

abbrev applied_in : List Record → List ℕ
applied_in rs = filter_map (λ r. applied_txn r.kind) rs

abbrev pub has_apply : ℕ → AcceptedTablet → Bool
has_apply n b = list_any (λ r. is_some (applies n r.kind)) b.records

-- a transaction has a commit exactly where one of the tablets has an apply of it
pub commit-any : (logs : Logs) (n : ℕ) → is_some (commit_of logs n) ≡ list_any (has_apply n) (accepted_tablets logs)
unfolding commit_of
commit-any logs n =
    some-any (λ (b : AcceptedTablet). first_some (λ r. applies n r.kind) b.records) (accepted_tablets logs)
    ∙ each (accepted_tablets logs)
  where
    each : (bs : List AcceptedTablet)
        → list_any (λ b. is_some (first_some (λ r. applies n r.kind) b.records)) bs ≡ list_any (has_apply n) bs
    each [] = refl
    each (b ∷ bs) =
        ap (λ x. x || list_any (λ b. is_some (first_some (λ r. applies n r.kind) b.records)) bs)
        (some-any (λ (r : Record). applies n r.kind) b.records) ∙ ap (λ x. has_apply n b || x) (each bs)

applied-records : (n : ℕ) (rs : List Record) → has n (applied_in rs) ≡ list_any (λ r. is_some (applies n r.kind)) rs
applied-records n [] = refl
applied-records n (r ∷ rs) =
    applied-kind n r.kind (applied_in rs) ∙ ap (λ b. is_some (applies n r.kind) || b) (applied-records n rs)

applied-tablets : (n : ℕ) (bs : List AcceptedTablet) → has n (flat_map (λ b. applied_in b.records) bs) ≡ list_any (has_apply n) bs
applied-tablets n [] = refl
applied-tablets n (b ∷ bs) =
    has-append n (applied_in b.records) (flat_map (λ b. applied_in b.records) bs)
    ∙ ap (λ x. x || has n (flat_map (λ b. applied_in b.records) bs)) (applied-records n b.records)
    ∙ ap (λ x. has_apply n b || x) (applied-tablets n bs)

-- those applied are those with a commit
pub applied-commits : (logs : Logs) (n : ℕ) → has n (applied logs) ≡ is_some (commit_of logs n)
unfolding applied
applied-commits logs n =
    has-distinct n (flat_map (λ b. applied_in b.records) (accepted_tablets logs)) ∙ applied-tablets n (accepted_tablets logs)
    ∙ sym (commit-any logs n)

pub commit-applied : (logs : Logs) (n c : ℕ) → commit_of logs n ≡ Some c → has n (applied logs) ≡ true
commit-applied logs n c e = applied-commits logs n ∙ ap is_some e
