-- After every list of commands the commits of the logs are those that the source lists, but for transactions that no tablet applied.
use Rattle.std.proofs.Common.{◌≡◌, ◌≢◌, ℕ, ◌<◌, true, false, Bool, List, [], ◌∷◌, ◌++◌, map}
use Rattle.std.proofs.Common.{refl, ap, sym, ◌∙◌, subst, arith, inl, inr, ⊎_elim}
use Rattle.std.specs.Prelude.{if◌then◌else◌, ◌==◌, ◌||◌, flat_map, filter}
use Rattle.std.specs.List.{filter_map}
use Rattle.std.specs.Option.{option_map_or}
use Rattle.std.specs.Ordering.{is_gt}
use Rattle.std.proofs.lemmas.Bool.{eqb-true, ne_eqb}
use Rattle.std.proofs.lemmas.Bool.Decides.{nat_tests}
use Rattle.std.proofs.lemmas.Option.{same_Some}
use Rattle.xc_record.specs.declared.record.Header.{Header}
use Rattle.xc_record.specs.declared.record.Record.{Record}
use Rattle.xc_record.specs.declared.record.Logs.{Logs}
use Rattle.xc_record.specs.Lists.{has, sort_by}
use Rattle.xc_record.specs.Commits.{Commit as LogCommit, commit_cmp, writes_in, write_ops, applied, applied_txn, txn_ops, write_commits}
use Rattle.xc_record.specs.Commits.{txn_commits, commits}
use Rattle.xc_record.specs.Accepted.{AcceptedTablet, accepted_tablets}
use Rattle.xc_record.proofs.ListLaws.{Each, Each-append, Each-weaker}
use Rattle.xc_record.proofs.NumberLaws.{Rising, distinct-rising}
use Rattle.xc_model.proofs.Flat.{each-flat}
use Rattle.xc_model.proofs.StableSort.{Exists, Orders, InOrder, Before}
use Rattle.xc_model.proofs.Sorts.{in_order-sort, each-sort}
use Rattle.xc_model.proofs.Elements.{exists-left, exists-right, exists-filter}
use Rattle.xc_source.specs.declared.commit.Commit.{Commit}
use Rattle.xc_source.specs.Machine.{Machine, Transaction, start, logs_of, kept_ops, commit_of as commit_stage}
use Rattle.xc_source.specs.Commands.{run}
use Rattle.xc_source_laws.specs.Laws.{plain, is_shown, CommitsAreListed}
use Rattle.xc_source_laws.proofs.Base.{IsMachine, each-two}
use Rattle.xc_source_laws.proofs.Moves.{Closed}
use Rattle.xc_source_laws.proofs.Steps.{run-keeps}
use Rattle.xc_source_laws.proofs.Start.{root_books, base-start}
use Rattle.xc_source_laws.proofs.NoBreaks.{books-accepted}
use Rattle.xc_source_laws.proofs.Opened.{each-map, each-kept}
use Rattle.xc_source_laws.proofs.Says.{none-there}
use Rattle.xc_source_laws.proofs.Agreeing.{AgreesSo}
use Rattle.xc_source_laws.proofs.AgreeMoves.{agree-closed}
use Rattle.xc_source_laws.proofs.LogsAgree.{start-agrees}
use Rattle.xc_source_laws.proofs.SortLaws.{Pairwise, pairwise-append, pairwise-sort, exists-sort, Up, up-same}
use Rattle.xc_source_laws.proofs.Listing.{all_writes, all_intents, Differ, InList, IsPut, TxnOf, Backed}
use Rattle.xc_source_laws.proofs.ListMoves.{ListsSo, lists-closed}
use Rattle.xc_source_laws.proofs.Shown.{IsListed, IsShown, IsOf, txn_of, one-of, each-has, IsWriteOf, all-listed, differ-by, txns-apart}
use Rattle.xc_source_laws.proofs.Shown.{committing}
use Rattle.xc_source_laws.proofs.Shown.{applied-commits, number-some}

-- ---- the order of commits

commit-total : (x y : LogCommit) → is_gt (commit_cmp x y) ≡ true → is_gt (commit_cmp y x) ≡ false
commit-total x y h = grind (arith, nat_tests)

commit-trans : (x y z : LogCommit) → is_gt (commit_cmp x y) ≡ false → is_gt (commit_cmp y z) ≡ false → is_gt (commit_cmp x z) ≡ false
commit-trans x y z h k = grind (arith, nat_tests)

commit-orders : Orders commit_cmp
commit-orders = record { total = λ x y h. commit-total x y h; trans = λ x y z h k. commit-trans x y z h k }

before-time : (x y : LogCommit) → Before commit_cmp x y → Differ x y → x.time < y.time
before-time x y h d = grind (arith, nat_tests, h, d)

pairwise-both : (xs : List LogCommit) → InOrder commit_cmp xs → Pairwise Differ xs → Pairwise (λ x y. x.time < y.time) xs
pairwise-both [] o d = tt
pairwise-both (x ∷ xs) o d =
    (each-two (Before commit_cmp x) (Differ x) (λ y. x.time < y.time) (λ y p q. before-time x y p q) xs o.0 d.0, pairwise-both xs o.1 d.1)

up-plain : (xs : List LogCommit) → Pairwise (λ x y. x.time < y.time) xs → Up (λ (c : Commit). c.time) (map plain xs)
up-plain [] p = tt
up-plain (x ∷ xs) p =
    (each-map (λ (c : Commit). x.time < c.time) (λ y. x.time < y.time) plain (λ y q. q) xs p.0, up-plain xs p.1)

each-filter : {A : Type 0} (P : A → Type 0) (p : A → Bool) (xs : List A) → Each P xs → Each P (filter p xs)
each-filter P p [] h = tt
each-filter P p (x ∷ xs) h =
    elim (p x) as (λ b. Each P (if b then (x ∷ filter p xs) else filter p xs))
    [ true ↦ (h.0, each-filter P p xs h.1) | false ↦ each-filter P p xs h.1 ]

up-filter : (p : Commit → Bool) (cs : List Commit) → Up (λ (c : Commit). c.time) cs → Up (λ (c : Commit). c.time) (filter p cs)
up-filter p [] u = tt
up-filter p (c ∷ cs) u =
    elim (p c) as (λ b. Up (λ (c : Commit). c.time) (if b then (c ∷ filter p cs) else filter p cs))
    [ true ↦ (each-filter (λ d. c.time < d.time) p cs u.0, up-filter p cs u.1) | false ↦ up-filter p cs u.1 ]

-- ---- all commits of the logs

abbrev parts : Machine → List AcceptedTablet → List LogCommit
parts m bs = all_writes bs ++ flat_map (txn_of (logs_of m)) (applied (logs_of m))

commits-are : (m : Machine) (bs : List AcceptedTablet) → IsMachine m bs → commits (logs_of m) ≡ sort_by commit_cmp (parts m bs)
unfolding commits write_commits txn_commits
commits-are m bs k = ap (λ w. sort_by commit_cmp (all_writes w ++ flat_map (txn_of (logs_of m)) (applied (logs_of m))))
    (books-accepted m bs k)

record IsBoth (m : Machine) (x : LogCommit) : Type 0 where
  listed : IsListed m x
  shown : IsShown m x

txns-of : (m : Machine) (bs : List AcceptedTablet) → IsMachine m bs → AgreesSo m bs → ListsSo m bs
    → Each (λ n. Each (IsOf m n) (txn_of (logs_of m) n)) (applied (logs_of m))
txns-of m bs k a s =
    Each-weaker (λ n. has n (applied (logs_of m)) ≡ true) (λ n. Each (IsOf m n) (txn_of (logs_of m) n)) (λ n h. one-of m bs n k a s h)
    (applied (logs_of m)) (each-has (applied (logs_of m)) (applied (logs_of m)) (λ n h. h))

parts-both : (m : Machine) (bs : List AcceptedTablet) → IsMachine m bs → AgreesSo m bs → ListsSo m bs → Each (IsBoth m) (parts m bs)
parts-both m bs k a s =
    Each-append (IsBoth m) (all_writes bs) (flat_map (txn_of (logs_of m)) (applied (logs_of m)))
    (Each-weaker (IsWriteOf m) (IsBoth m)
    (λ x w. record { listed = w.listed; shown = ap (λ n. n == 0 || has n (applied (logs_of m))) w.txn }) (all_writes bs)
    (all-listed m bs s))
    (each-flat (IsBoth m) (txn_of (logs_of m)) (λ n. Each (IsOf m n) (txn_of (logs_of m) n))
    (λ n h. Each-weaker (IsOf m n) (IsBoth m) (λ x w. record { listed = w.listed; shown = w.shown }) (txn_of (logs_of m) n) h)
    (applied (logs_of m)) (txns-of m bs k a s))

applied-rising : (logs : Logs) → Rising (applied logs)
unfolding applied
applied-rising logs =
    distinct-rising (flat_map (λ (b : AcceptedTablet). filter_map (λ (r : Record). applied_txn r.kind) b.records) (accepted_tablets logs))

parts-apart : (m : Machine) (bs : List AcceptedTablet) → IsMachine m bs → AgreesSo m bs → ListsSo m bs → Pairwise Differ (parts m bs)
parts-apart m bs k a s =
    let of = txns-of m bs k a s in
    pairwise-append Differ (all_writes bs) (flat_map (txn_of (logs_of m)) (applied (logs_of m))) s.apart
    (txns-apart m bs (applied (logs_of m)) s (applied-rising (logs_of m)) of)
    (Each-weaker (IsWriteOf m) (λ x. Each (Differ x) (flat_map (txn_of (logs_of m)) (applied (logs_of m))))
    (λ x w. each-flat (Differ x) (txn_of (logs_of m)) (λ n. Each (IsOf m n) (txn_of (logs_of m) n))
    (λ n h. Each-weaker (IsOf m n) (Differ x)
    (λ y v. differ-by m bs x y s w.listed v.listed (λ e. v.some (sym v.txn ∙ sym e ∙ w.txn))) (txn_of (logs_of m) n) h)
    (applied (logs_of m)) of) (all_writes bs) (all-listed m bs s))

-- ---- each that the source lists

abbrev IsPlain : Commit → LogCommit → Type 0
IsPlain c x = plain x ≡ c

pub exists-flat : {A B : Type 0} (P : B → Type 0) (Q : A → Type 0) (g : A → List B) → ((x : A) → Q x → Exists P (g x)) → (xs : List A)
    → Exists Q xs
    → Exists P (flat_map g xs)
exists-flat P Q g f [] i = absurd i
exists-flat P Q g f (x ∷ xs) i =
    ⊎_elim (λ q. exists-left P (g x) (flat_map g xs) (f x q)) (λ r. exists-right P (g x) (flat_map g xs) (exists-flat P Q g f xs r)) i

put-found : (c : Commit) (id : ℕ) (rs : List Record) → c.txn ≡ 0 → Exists (IsPut c) rs → Exists (IsPlain c) (writes_in id rs)
put-found c id [] z i = absurd i
put-found c id (r ∷ rs) z i =
    ⊎_elim
    (λ e. exists-left (IsPlain c) (option_map_or (λ ops. record { time = r.time; txn = 0; tablet = id; ops = ops } ∷ [])
    (write_ops r.kind) []) (writes_in id rs)
    (subst (λ (q : Record). Exists (IsPlain c) (option_map_or (λ ops. record { time = q.time; txn = 0; tablet = id; ops = ops } ∷ [])
    (write_ops q.kind) [])) (sym e)
    (inl (ap (λ n. record { time = c.time; txn = n; ops = c.ops }) (sym z)))))
    (λ q. exists-right (IsPlain c) (option_map_or (λ ops. record { time = r.time; txn = 0; tablet = id; ops = ops } ∷ [])
    (write_ops r.kind) []) (writes_in id rs)
    (put-found c id rs z q)) i

has-exists : (n : ℕ) (ns : List ℕ) → has n ns ≡ true → Exists (λ k. k ≡ n) ns
has-exists n [] e = cc
has-exists n (k ∷ ns) e = go (k == n) refl e (λ q. has-exists n ns q)
  where
    go : (b : Bool) → (k == n) ≡ b → (b || has n ns) ≡ true → (has n ns ≡ true → Exists (λ k. k ≡ n) ns) → Exists (λ k. k ≡ n) (k ∷ ns)
    go true q w more = inl (eqb-true k n q)
    go false q w more = inr (more w)

txn-found : (m : Machine) (bs : List AcceptedTablet) (c : Commit) → IsMachine m bs → AgreesSo m bs → ListsSo m bs → TxnOf m.txns c
    → is_shown (logs_of m) c ≡ true → Exists (IsPlain c) (flat_map (txn_of (logs_of m)) (applied (logs_of m)))
txn-found m bs c k a s x h =
    let number : c.txn ≢ 0 = number-some m.txns c.txn x.t x.there in
    let there : has c.txn (applied (logs_of m)) ≡ true = sym (ap (λ b. b || has c.txn (applied (logs_of m))) (ne_eqb c.txn 0 number)) ∙ h in
    let at = applied-commits (logs_of m) c.txn there in
    let f = committing m bs c.txn at.0 k a s at.1 in
    let same : f.t ≡ x.t = same_Some f.t x.t (sym f.there ∙ x.there) in
    let time : at.0 ≡ c.time = same_Some at.0 c.time (sym f.commit ∙ ap (λ (w : Transaction). commit_stage w.stage) same ∙ x.commit) in
    let ops : txn_ops (logs_of m) c.txn ≡ c.ops = f.ops ∙ ap kept_ops same ∙ sym x.ops in
    exists-flat (IsPlain c) (λ n. n ≡ c.txn) (txn_of (logs_of m))
    (λ n e. subst (λ i. Exists (IsPlain c) (txn_of (logs_of m) i)) (sym e)
    (subst (λ o. Exists (IsPlain c) (option_map_or (λ d. record { time = d; txn = c.txn; tablet = 0; ops = txn_ops (logs_of m) c.txn } ∷ [])
    o [])) (sym at.1)
    (inl (ap (λ t. record { time = t; txn = c.txn; ops = txn_ops (logs_of m) c.txn }) time
    ∙ ap (λ o. record { time = c.time; txn = c.txn; ops = o }) ops))))
    (applied (logs_of m)) (has-exists c.txn (applied (logs_of m)) there)

found : (m : Machine) (bs : List AcceptedTablet) (c : Commit) → IsMachine m bs → AgreesSo m bs → ListsSo m bs → Backed m.txns bs c
    → is_shown (logs_of m) c ≡ true → Exists (IsPlain c) (parts m bs)
found m bs c k a s b h =
    ⊎_elim
    (λ p. exists-left (IsPlain c) (all_writes bs) (flat_map (txn_of (logs_of m)) (applied (logs_of m)))
    (exists-flat (IsPlain c) (λ (b : AcceptedTablet). Exists (IsPut c) b.records) (λ (b : AcceptedTablet). writes_in b.header.id b.records)
    (λ b q. put-found c b.header.id b.records p.0 q) bs p.1))
    (λ x. exists-right (IsPlain c) (all_writes bs) (flat_map (txn_of (logs_of m)) (applied (logs_of m))) (txn-found m bs c k a s x h)) b

exists-plain : (c : Commit) (xs : List LogCommit) → Exists (IsPlain c) xs → Exists (λ d. d ≡ c) (map plain xs)
exists-plain c [] i = absurd i
exists-plain c (x ∷ xs) i = ⊎_elim (λ p. inl p) (λ r. inr (exists-plain c xs r)) i

-- ---- both lists are one

pub commits-in : (m : Machine) (bs : List AcceptedTablet) → IsMachine m bs → AgreesSo m bs → ListsSo m bs
    → map plain (commits (logs_of m)) ≡ filter (is_shown (logs_of m)) m.commits
commits-in m bs k a s =
    let sorted = sort_by commit_cmp (parts m bs) in
    let ordered = in_order-sort commit_cmp commit-orders (parts m bs) in
    let apart = pairwise-sort commit_cmp Differ (λ x z e q. e (sym q)) (parts m bs) (parts-apart m bs k a s) in
    ap (map plain) (commits-are m bs k)
    ∙ up-same (λ (c : Commit). c.time) (map plain sorted) (filter (is_shown (logs_of m)) m.commits)
    (up-plain sorted (pairwise-both sorted ordered apart)) (up-filter (is_shown (logs_of m)) m.commits s.up)
    (each-map (λ c. Exists (λ d. d ≡ c) (filter (is_shown (logs_of m)) m.commits)) (IsBoth m) plain
    (λ x b. exists-filter (λ d. d ≡ plain x) (λ d. d ≡ plain x) (is_shown (logs_of m))
    (λ d e. (ap (is_shown (logs_of m)) e ∙ b.shown, e)) m.commits b.listed)
    sorted (each-sort commit_cmp (IsBoth m) (parts m bs) (parts-both m bs k a s)))
    (Each-weaker (λ c. Backed m.txns bs c × (is_shown (logs_of m) c ≡ true)) (λ c. Exists (λ d. d ≡ c) (map plain sorted))
    (λ c p. exists-plain c sorted (exists-sort commit_cmp (IsPlain c) (parts m bs) (found m bs c k a s p.0 p.1)))
    (filter (is_shown (logs_of m)) m.commits) (each-kept (Backed m.txns bs) (is_shown (logs_of m)) m.commits s.backed))

pub start-lists : (roots : List Header) (time : ℕ) → ListsSo (start roots time) (root_books roots)
start-lists roots time = record {
  up = tt;
  top = tt;
  records = said roots;
  backed = tt;
  listed = λ n c t e f w. absurd (none-there n t e);
  apart = subst (Pairwise Differ) (sym (no-writes roots)) tt;
  intents = λ n t e. absurd (none-there n t e);
  none = λ n e. no-intents n roots;
}
  where
    said : (hs : List Header) → Each (λ b. Each (InList time [] []) b.records) (root_books hs)
    said [] = tt
    said (h ∷ hs) = (tt, said hs)

    no-writes : (hs : List Header) → all_writes (root_books hs) ≡ []
    no-writes [] = refl
    no-writes (h ∷ hs) = no-writes hs

    no-intents : (n : ℕ) (hs : List Header) → all_intents n (root_books hs) ≡ []
    no-intents n [] = refl
    no-intents n (h ∷ hs) = no-intents n hs

-- ---- both at once

abbrev pub Both : Machine → List AcceptedTablet → Type 0
Both m bs = AgreesSo m bs × ListsSo m bs

pub both-closed : Closed Both
both-closed =
    let p = agree-closed in
    let q = lists-closed in
    record {
      clock = λ m bs u k l s. (p.clock m bs u k l s.0, q.clock m bs u k l s.1);
      begin = λ m bs k s. (p.begin m bs k s.0, q.begin m bs k s.1);
      savepoint = λ m bs n t k l f s. (p.savepoint m bs n t k l f s.0, q.savepoint m bs n t k l f s.1);
      roll_back = λ m bs n sub t k l i f s. (p.roll_back m bs n sub t k l i f s.0, q.roll_back m bs n sub t k l i f s.1);
      write = λ m bs n op t id b o k l h f s. (p.write m bs n op t id b o k l h f s.0, q.write m bs n op t id b o k l h f s.1);
      put = λ m bs op id b o k h f s. (p.put m bs op id b o k h f s.0, q.put m bs op id b o k h f s.1);
      commit = λ m bs n t k l s. (p.commit m bs n t k l s.0, q.commit m bs n t k l s.1);
      abort = λ m bs n t k l s. (p.abort m bs n t k l s.0, q.abort m bs n t k l s.1);
      abort_log = λ m bs n t id b o k e a s. (p.abort_log m bs n t id b o k e a s.0, q.abort_log m bs n t id b o k e a s.1);
      apply = λ m bs n c t id b o k a s. (p.apply m bs n c t id b o k a s.0, q.apply m bs n c t id b o k a s.1);
      safe = λ m bs id v b o k w s. (p.safe m bs id v b o k w s.0, q.safe m bs id v b o k w s.1);
      split = λ m bs id at b o k l h s. (p.split m bs id at b o k l h s.0, q.split m bs id at b o k l h s.1);
    }

pub commits-are-listed : CommitsAreListed
commits-are-listed roots time cs r l f =
    let k = run-keeps Both both-closed cs (start roots time) f
    (record { books = root_books roots; base = base-start roots time r; holds_of = (start-agrees roots time, start-lists roots time) }) in
    commits-in (run cs (start roots time)) k.books k.base k.holds_of.0 k.holds_of.1
