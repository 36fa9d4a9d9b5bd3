-- Laws of the commits of some records.
use Rattle.std.proofs.Common.{◌≡◌, ℕ, ◌+◌, ◌≤◌, ◌||◌, List, [], ◌∷◌, ◌++◌, length, map, refl, ap, sym, ◌∙◌, arith}
use Rattle.std.proofs.Common.{length-append}
use Rattle.std.proofs.lemmas.Bool.Decides.{nat_tests}
pub use Rattle.std.proofs.lemmas.List.Elements.{filter_map-append}
use Rattle.std.specs.Prelude.{Option, Some, None, is_some}
use Rattle.std.specs.List.{filter_map, cons_option}
use Rattle.xc_record.specs.declared.record.Kind.{Kind}
use Rattle.xc_record.specs.declared.record.Record.{Record}
use Rattle.xc_record.specs.Commits.{applies, rolls_back, applied_txn, write_ops}
use Rattle.xc_record.specs.Lists.{first_some, or_else, has, insert_number, distinct}
use Rattle.xc_agree.specs.declared.commits.Commit.{Commit}
use Rattle.xc_agree.specs.Slots.{time_of, without_of}
use Rattle.xc_agree.specs.Tally.{first_commit, first_without, commit_by, applies_in, writes, applied_in}

insert-longer : (n : ℕ) (ms : List ℕ) → length (insert_number n ms) ≤ length ms + 1
insert-longer n [] = omega arith
insert-longer n (m ∷ ms) = grind (arith, insert-longer n ms)

pub distinct-within : (ns : List ℕ) → length (distinct ns) ≤ length ns
distinct-within [] = omega arith
distinct-within (n ∷ ns) = omega (arith, insert-longer n (distinct ns), distinct-within ns)

pub first-append : {X Y : Type 0} (f : X → Option Y) (xs ys : List X)
    → first_some f (xs ++ ys) ≡ or_else (first_some f xs) (first_some f ys)
first-append f [] ys = refl
first-append f (x ∷ xs) ys = grind (arith, first-append f xs ys)

applies-txn : (n : ℕ) (kind : Kind) (ms : List ℕ) → has n (cons_option (applied_txn kind) ms) ≡ (is_some (applies n kind) || has n ms)
applies-txn n kind ms = grind (arith, nat_tests)

or-some : (o p : Option ℕ) → is_some (or_else o p) ≡ (is_some o || is_some p)
or-some None p = refl
or-some (Some x) p = refl

-- a transaction was applied where it has a commit
pub has-applied : (n : ℕ) (rs : List Record) → has n (applied_in rs) ≡ is_some (first_commit n rs)
has-applied n [] = refl
has-applied n (r ∷ rs) =
    applies-txn n r.kind (applied_in rs) ∙ ap (λ b. is_some (applies n r.kind) || b) (has-applied n rs)
    ∙ sym (or-some (applies n r.kind) (first_commit n rs))

-- ---- the applies and the writes

-- each record writes or applies or neither
kind-within : (kind : Kind) → length (cons_option (write_ops kind) []) + length (cons_option (commit_by kind) []) ≤ 1
kind-within kind = grind arith

pub writes-append : (rs ss : List Record) → writes (rs ++ ss) ≡ writes rs + writes ss
writes-append rs ss =
    ap length (filter_map-append (λ (r : Record). write_ops r.kind) rs ss)
    ∙ length-append (filter_map (λ r. write_ops r.kind) rs) (filter_map (λ r. write_ops r.kind) ss)

pub applies-append : (rs ss : List Record) → applies_in (rs ++ ss) ≡ applies_in rs ++ applies_in ss
applies-append rs ss = filter_map-append (λ (r : Record). commit_by r.kind) rs ss

-- a transaction's first apply among the applies is its first record that applies it
time-by : (kind : Kind) (n : ℕ) (cs : List Commit) → time_of (cons_option (commit_by kind) cs) n ≡ or_else (applies n kind) (time_of cs n)
time-by kind n cs = grind arith

pub time-applies : (rs : List Record) (n : ℕ) → time_of (applies_in rs) n ≡ first_commit n rs
time-applies [] n = refl
time-applies (r ∷ rs) n = time-by r.kind n (applies_in rs) ∙ ap (or_else (applies n r.kind)) (time-applies rs n)

without-by : (kind : Kind) (n : ℕ) (cs : List Commit)
    → without_of (cons_option (commit_by kind) cs) n ≡ or_else (rolls_back n kind) (without_of cs n)
without-by kind n cs = grind arith

pub without-applies : (rs : List Record) (n : ℕ) → without_of (applies_in rs) n ≡ first_without n rs
without-applies [] n = refl
without-applies (r ∷ rs) n = without-by r.kind n (applies_in rs) ∙ ap (or_else (rolls_back n r.kind)) (without-applies rs n)

txns-by : (kind : Kind) (cs : List Commit)
    → map (λ c. c.txn) (cons_option (commit_by kind) cs) ≡ cons_option (applied_txn kind) (map (λ c. c.txn) cs)
txns-by kind cs = grind arith

pub txns-applies : (rs : List Record) → map (λ c. c.txn) (applies_in rs) ≡ applied_in rs
txns-applies [] = refl
txns-applies (r ∷ rs) = txns-by r.kind (applies_in rs) ∙ ap (cons_option (applied_txn r.kind)) (txns-applies rs)

pub count-within : (rs : List Record) → writes rs + length (applies_in rs) ≤ length rs
count-within [] = omega arith
count-within (r ∷ rs) =
    let w = writes-append (r ∷ []) rs in
    let a = ap length (applies-append (r ∷ []) rs) ∙ length-append (applies_in (r ∷ [])) (applies_in rs) in
    let one = kind-within r.kind in
    let ih = count-within rs in
    omega arith
