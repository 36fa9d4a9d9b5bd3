-- How the calls' contracts follow from what is done to the parts.
use Rattle.std.proofs.Common.{◌≡◌, ℕ, ◌+◌, ◌-◌, List, [], ◌∷◌, ◌++◌, Some, slice_set, refl, ◌∙◌, ap}
use Rattle.xc_record.specs.declared.record.Op.{Op}
use Rattle.xc_record.specs.declared.record.Kind.TheVariants as kind
use Rattle.xc_source.specs.declared.commit.Commit.{Commit}
use Rattle.xc_source.specs.Machine.{Machine, Transaction, transaction}
use Rattle.xc_source.specs.Calls.{put_after, written, tablet_of, to_transaction, write_after, commit_after, committed, commits_and}
use Rattle.xc_source.specs.Universe.{Logged, logged_in, stepped}

abbrev pub machine_of : Logged → List Commit → List Transaction → Machine
machine_of j commits txns = record { time = j.time; tablets = j.tablets; commits = commits; txns = txns }

pub put-next : (op : Op) (m : Machine) (j j' : Logged) (cs cs' : List Commit) (ts : List Transaction) (ops listed : List Op) (id at : ℕ)
    → machine_of j cs ts ≡ m → id ≡ tablet_of (machine_of j cs ts) op.key
    → ops ≡ op ∷ [] → j' ≡ logged_in id (kind.Write ops) j
    → listed ≡ op ∷ [] → at ≡ j.time + 1 → cs' ≡ cs ++ record { time = at; txn = 0; ops = listed } ∷ []
    → machine_of j' cs' ts ≡ put_after op m
put-next op m j j' cs cs' ts ops listed id at e i o l g a p =
    let M = machine_of j cs ts in
    let l' = l ∙ ap (λ x. logged_in x (kind.Write ops) j) i ∙ ap (λ x. logged_in (tablet_of M op.key) (kind.Write x) j) o in
    let p' = p ∙ ap (λ x. cs ++ record { time = x; txn = 0; ops = listed } ∷ []) a
    ∙ ap (λ x. cs ++ record { time = j.time + 1; txn = 0; ops = x } ∷ []) g in
    ap (λ x. machine_of x cs' ts) l' ∙ ap (λ x. machine_of (logged_in (tablet_of M op.key) (kind.Write (op ∷ [])) j) x ts) p'
    ∙ ap (put_after op) e

pub to_transaction-found : (f : Transaction → Machine) (m : Machine) (n : ℕ) (t : Transaction) → transaction m n ≡ Some t
    → f t ≡ to_transaction f m n
to_transaction-found f m n t e = rw e refl

pub write-next : (n : ℕ) (op : Op) (m : Machine) (j j' : Logged) (cs : List Commit) (ts : List Transaction) (t t' : Transaction)
    (ops : List Op) (id sub : ℕ) → machine_of j cs ts ≡ m → transaction m n ≡ Some t → id ≡ tablet_of (machine_of j cs ts) op.key
    → t' ≡ written op t → ops ≡ op ∷ [] → sub ≡ t.current → j' ≡ logged_in id (kind.Intent sub n ops) j
    → machine_of j' cs (slice_set ts (n - 1) t') ≡ to_transaction (write_after n op m) m n
write-next n op m j j' cs ts t t' ops id sub e f i w o u l =
    let M = machine_of j cs ts in
    let tablet = tablet_of M op.key in
    let l' = l ∙ ap (λ x. logged_in x (kind.Intent sub n ops) j) i ∙ ap (λ x. logged_in tablet (kind.Intent x n ops) j) u
    ∙ ap (λ x. logged_in tablet (kind.Intent t.current n x) j) o in
    ap (λ x. machine_of x cs (slice_set ts (n - 1) t')) l'
    ∙ ap (λ x. machine_of (logged_in tablet (kind.Intent t.current n (op ∷ [])) j) cs (slice_set ts (n - 1) x)) w
    ∙ ap (λ x. write_after n op x t) e
    ∙ to_transaction-found (write_after n op m) m n t f

pub commit-next : (n : ℕ) (m : Machine) (j j' : Logged) (cs cs' : List Commit) (ts : List Transaction) (t t' : Transaction)
    (at stamp : ℕ) → machine_of j cs ts ≡ m → transaction m n ≡ Some t
    → j' ≡ stepped j → at ≡ j.time + 1 → stamp ≡ j.time + 1 → t' ≡ committed stamp t → cs' ≡ commits_and at n t cs
    → machine_of j' cs' (slice_set ts (n - 1) t') ≡ to_transaction (commit_after n m) m n
commit-next n m j j' cs cs' ts t t' at stamp e f l a k w p =
    let p' = p ∙ ap (λ x. commits_and x n t cs) a in
    let w' = w ∙ ap (λ x. committed x t) k in
    ap (λ x. machine_of x cs' (slice_set ts (n - 1) t')) l
    ∙ ap (λ x. machine_of (stepped j) x (slice_set ts (n - 1) t')) p'
    ∙ ap (λ x. machine_of (stepped j) (commits_and (j.time + 1) n t cs) (slice_set ts (n - 1) x)) w'
    ∙ ap (λ x. commit_after n x t) e
    ∙ to_transaction-found (commit_after n m) m n t f
