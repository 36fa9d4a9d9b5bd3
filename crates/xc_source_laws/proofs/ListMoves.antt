-- Each move of a source keeps its list of commits that of its logs.
use Rattle.std.proofs.Common.{◌≡◌, ℕ, ◌+◌, ◌-◌, ◌<◌, ◌≤◌, true, false, Bool, List, [], ◌∷◌, ◌++◌, length, map, Option, Some}
use Rattle.std.proofs.Common.{None}
use Rattle.std.proofs.Common.{refl, ap, sym, ◌∙◌, subst, arith, inl, inr, ⊎_elim, append-nil}
use Rattle.std.specs.Prelude.{not, slice_set, if◌then◌else◌, ◌==◌, flat_map, filter}
use Rattle.std.specs.Option.{option_map_or}
use Rattle.std.proofs.lemmas.Bool.{cases_eq, eq-eqb, ne_eqb}
use Rattle.std.proofs.lemmas.Bool.Decides.{nat_tests}
use Rattle.std.proofs.lemmas.Option.{same_Some, none-some}
use Rattle.std.proofs.lemmas.List.{map-append}
use Rattle.std.proofs.lemmas.Grind.{flat_map-append}
use Rattle.xc_record.specs.declared.record.Header.{Header}
use Rattle.xc_record.specs.declared.record.Kind.{Kind}
use Rattle.xc_record.specs.declared.record.Kind.TheVariants as kind
use Rattle.xc_record.specs.declared.record.Op.{Op}
use Rattle.xc_record.specs.declared.record.Record.{Record}
use Rattle.xc_record.specs.Hash.{holds, hash_of}
use Rattle.xc_record.specs.Lists.{has, sort_by}
use Rattle.xc_record.specs.Commits.{Commit as LogCommit, Provisional as LogIntent, provisional_cmp, writes_in, intents_in, intent_ops}
use Rattle.xc_record.specs.Commits.{write_ops, sub_of}
use Rattle.xc_record.specs.Accepted.{AcceptedTablet}
use Rattle.xc_record.proofs.ListLaws.{Each, Each-append, Each-weaker}
use Rattle.xc_model.proofs.Flat.{each-flat}
use Rattle.xc_model.proofs.StableSort.{Exists}
use Rattle.xc_model.proofs.Elements.{exists-left, exists-right}
use Rattle.xc_source.specs.declared.commit.Commit.{Commit}
use Rattle.xc_source.specs.declared.transaction.Provisional.{Provisional}
use Rattle.xc_source.specs.declared.transaction.Stage.TheVariants.{Committed}
use Rattle.xc_source.specs.Machine.{Machine, Transaction, begun, commit_of, is_live, kept_ops}
use Rattle.xc_source.specs.Waiting.{taken_write, taken as taken_on}
use Rattle.xc_source.specs.Calls.{written, commits_and, aborted, aborted_write, child}
use Rattle.xc_source.specs.Calls.{next_begun, undone_from}
use Rattle.xc_source_laws.proofs.Grow.{taken, born}
use Rattle.xc_source_laws.proofs.Base.{next_record, grown_books}
use Rattle.xc_source_laws.proofs.BaseSteps.{split_record}
use Rattle.xc_source_laws.proofs.Moves.{Closed, OpenAt}
use Rattle.xc_source_laws.proofs.Says.{txn_at, at-set-same, at-set-other, at-left, live-not, new-one}
use Rattle.xc_source_laws.proofs.SortLaws.{After, sort-last, Added, added-none, Pairwise, pairwise-append, pairwise-middle, Up}
use Rattle.xc_source_laws.proofs.Listing.{all_writes, all_intents, said_of, said, strip, Differ, PutIn, ApplyOf, InList, IsPut}
use Rattle.xc_source_laws.proofs.Listing.{Backed, commit_as, ListsOf}
use Rattle.xc_source_laws.proofs.Listing.{lists-later, GoesOn, lists-set, records-set, by-number, none-set, backed-set, backed-grown}
use Rattle.xc_source_laws.proofs.Listing.{records-grown}
use Rattle.xc_source_laws.proofs.Listing.{added-writes, added-intents, lists-plain}

abbrev pub ListsSo : Machine → List AcceptedTablet → Type 0
ListsSo m bs = ListsOf m.time m.txns m.commits bs

-- ---- transactions

live-goes : (t u : Transaction) → is_live t.stage ≡ true → u.stage ≡ t.stage → said u ≡ said t → GoesOn t u
live-goes t u l s w = record {
  writes = w;
  same = λ c e. absurd (live-not t.stage c l (sym (ap commit_of s) ∙ e));
  still = λ c e. absurd (live-not t.stage c l e);
}

said-aborted : (ws : List Provisional) → said_of (map aborted_write ws) ≡ said_of ws
said-aborted [] = refl
said-aborted (w ∷ ws) = ap (λ x. (w.sub, w.op ∷ []) ∷ x) (said-aborted ws)

abort-goes : (t : Transaction) → is_live t.stage ≡ true → GoesOn t (aborted t)
abort-goes t l = record {
  writes = said-aborted t.writes;
  same = λ c e. cc;
  still = λ c e. absurd (live-not t.stage c l e);
}

taken-parts : (h : Header) (w : Provisional) → ((taken_write h w).sub ≡ w.sub) × ((taken_write h w).op ≡ w.op)
taken-parts h w = go (holds h (hash_of w.op.key))
  where
    go : (b : Bool) → ((if b then record w { waits = false } else w).sub ≡ w.sub)
        × ((if b then record w { waits = false } else w).op ≡ w.op)
    go true = (refl, refl)
    go false = (refl, refl)

said-taken : (h : Header) (ws : List Provisional) → said_of (map (taken_write h) ws) ≡ said_of ws
said-taken h [] = refl
said-taken h (w ∷ ws) =
    let p = taken-parts h w in rw (p.0, p.1) (ap (λ x. (w.sub, w.op ∷ []) ∷ x) (said-taken h ws))

kept-taken : (h : Header) (undone : List ℕ) (ws : List Provisional)
    → map (λ w. w.op) (filter (λ w. not (has w.sub undone)) (map (taken_write h) ws)) ≡ map (λ w. w.op)
    (filter (λ w. not (has w.sub undone)) ws)
kept-taken h undone [] = refl
kept-taken h undone (w ∷ ws) =
    let p = taken-parts h w in
    ap (λ s. map (λ (w : Provisional). w.op) (if not (has s undone) then
    (taken_write h w ∷ filter (λ (w : Provisional). not (has w.sub undone)) (map (taken_write h) ws)) else filter
    (λ (w : Provisional). not (has w.sub undone)) (map (taken_write h) ws))) p.0
    ∙ go (not (has w.sub undone)) p.1 (kept-taken h undone ws)
  where
    go : (b : Bool) → (taken_write h w).op ≡ w.op
        → map (λ w. w.op) (filter (λ w. not (has w.sub undone)) (map (taken_write h) ws)) ≡ map (λ w. w.op)
        (filter (λ w. not (has w.sub undone)) ws)
        → map (λ (w : Provisional). w.op) (if b then (taken_write h w
        ∷ filter (λ (w : Provisional). not (has w.sub undone)) (map (taken_write h) ws)) else filter
        (λ (w : Provisional). not (has w.sub undone)) (map (taken_write h) ws))
        ≡ map (λ (w : Provisional). w.op) (if b then (w ∷ filter (λ (w : Provisional). not (has w.sub undone)) ws) else filter
        (λ (w : Provisional). not (has w.sub undone)) ws)
    go true o e = ap (λ x. x ∷ map (λ (w : Provisional). w.op) (filter (λ (w : Provisional). not (has w.sub undone))
        (map (taken_write h) ws))) o ∙ ap (λ x. w.op ∷ x) e
    go false o e = e

taken-goes : (h : Header) (t : Transaction) → GoesOn t (taken_on h t)
taken-goes h t = record {
  writes = said-taken h t.writes;
  same = λ c e. (e, kept-taken h t.undone t.writes);
  still = λ c e. e;
}

-- ---- begin

-- what stands there stood there before, or is new
pub either-begun : (ts : List Transaction) (n : ℕ) (t : Transaction) → txn_at (ts ++ begun ∷ []) n ≡ Some t → (P : Transaction → Type 0)
    → (txn_at ts n ≡ Some t → P t) → (txn_at ts n ≡ None → P begun) → P t
either-begun ts n t e P f g = go (txn_at ts n) refl
  where
    go : (o : Option Transaction) → txn_at ts n ≡ o → P t
    go (Some x) q = let same : x ≡ t = same_Some x t (sym (at-left ts n x q) ∙ e) in f (subst (λ y. txn_at ts n ≡ Some y) same q)
    go None q = subst P (sym (new-one ts n t e q)) (g q)

begin-lists : (time : ℕ) (ts : List Transaction) (cs : List Commit) (bs : List AcceptedTablet) → ListsOf time ts cs bs
    → ListsOf time (ts ++ begun ∷ []) cs bs
begin-lists time ts cs bs s = record {
  up = s.up;
  top = s.top;
  records = Each-weaker (λ b. Each (InList time ts cs) b.records) (λ b. Each (InList time (ts ++ begun ∷ []) cs) b.records)
      (λ b p. Each-weaker (InList time ts cs) (InList time (ts ++ begun ∷ []) cs)
      (λ r i. record { past = i.past; put = i.put; apply = apply-more r.kind i.apply }) b.records p) bs s.records;
  backed = Each-weaker (Backed ts bs) (Backed (ts ++ begun ∷ []) bs)
      (λ c p. ⊎_elim (λ q. inl q)
      (λ x. inr (record { t = x.t; there = at-left ts c.txn x.t x.there; commit = x.commit; ops = x.ops; wrote = x.wrote })) p) cs s.backed;
  listed = λ n c t e f w. either-begun ts n t e (λ x. commit_of x.stage ≡ Some c → 1 ≤ length x.writes
      → Exists (λ d. d ≡ commit_as n c x) cs)
      (λ q f w. s.listed n c t q f w) (λ q f w. absurd (let z : 1 ≤ length begun.writes = w in let y : ⊥ = omega arith in y)) f w;
  apart = s.apart;
  intents = λ n t e. either-begun ts n t e (λ x. map strip (sort_by provisional_cmp (all_intents n bs)) ≡ said x) (λ q. s.intents n t q)
      (λ q. ap (λ w. map strip (sort_by provisional_cmp w)) (s.none n q));
  none = λ n e. s.none n (none-left n e);
}
  where
    apply-more : (k : Kind) → ApplyOf ts k → ApplyOf (ts ++ begun ∷ []) k
    apply-more (kind.Write ops) a = tt
    apply-more (kind.Intent sub m ops) a = tt
    apply-more (kind.Apply m c without) a = (a.0, at-left ts m a.0 a.1, a.2)
    apply-more (kind.Abort m) a = tt
    apply-more (kind.Safe v) a = tt
    apply-more (kind.Split place left right) a = tt

    none-left : (n : ℕ) → txn_at (ts ++ begun ∷ []) n ≡ None → txn_at ts n ≡ None
    none-left n e = go (txn_at ts n) refl
      where
        go : (o : Option Transaction) → txn_at ts n ≡ o → o ≡ None
        go None q = refl
        go (Some t) q = absurd (none-some t (sym e ∙ at-left ts n t q))

-- ---- a commit

-- commits all at or before the time, and one after it
up-more : (time : ℕ) (cs : List Commit) (d : Commit) → time < d.time → Each (λ c. c.time ≤ time) cs → Up (λ c. c.time) cs
    → Up (λ c. c.time) (cs ++ d ∷ [])
up-more time cs d l t u =
    pairwise-append (λ x y. x.time < y.time) cs (d ∷ []) u (tt, tt)
    (Each-weaker (λ c. c.time ≤ time) (λ c. Each (λ y. c.time < y.time) (d ∷ []))
    (λ c p. ((let z : c.time < d.time = omega arith in z), tt)) cs t)

put-more : (cs ds : List Commit) (at : ℕ) (k : Kind) → PutIn cs at k → PutIn (cs ++ ds) at k
put-more cs ds at (kind.Write ops) p = exists-left (λ c. c ≡ record { time = at; txn = 0; ops = ops }) cs ds p
put-more cs ds at (kind.Intent sub m ops) p = tt
put-more cs ds at (kind.Apply m c without) p = tt
put-more cs ds at (kind.Abort m) p = tt
put-more cs ds at (kind.Safe v) p = tt
put-more cs ds at (kind.Split place left right) p = tt

records-more : (time : ℕ) (ts : List Transaction) (cs ds : List Commit) (bs : List AcceptedTablet)
    → Each (λ b. Each (InList time ts cs) b.records) bs → Each (λ b. Each (InList time ts (cs ++ ds)) b.records) bs
records-more time ts cs ds bs h =
    Each-weaker (λ b. Each (InList time ts cs) b.records) (λ b. Each (InList time ts (cs ++ ds)) b.records)
    (λ b p. Each-weaker (InList time ts cs) (InList time ts (cs ++ ds))
    (λ r i. record { past = i.past; put = put-more cs ds r.time r.kind i.put; apply = i.apply }) b.records p) bs h

top-more : (t : ℕ) (cs : List Commit) (d : Commit) → d.time ≤ t + 1 → Each (λ c. c.time ≤ t) cs → Each (λ c. c.time ≤ t + 1) (cs ++ d ∷ [])
top-more t cs d l h =
    Each-append (λ c. c.time ≤ t + 1) cs (d ∷ []) (Each-weaker (λ c. c.time ≤ t) (λ c. c.time ≤ t + 1) (λ c p. omega arith) cs h) (l, tt)

commit-lists : (time : ℕ) (ts : List Transaction) (cs : List Commit) (bs : List AcceptedTablet) (n : ℕ) (t : Transaction)
    → txn_at ts n ≡ Some t → is_live t.stage ≡ true → ListsOf time ts cs bs
    → ListsOf (time + 1) (slice_set ts (n - 1) (record t { stage = Committed (time + 1) })) (commits_and (time + 1) n t cs) bs
commit-lists time ts cs bs n t e l old = go (length t.writes == 0) refl
  where
    u : Transaction
    u = record t { stage = Committed (time + 1) }

    ys : List Transaction
    ys = slice_set ts (n - 1) u

    s : ListsOf (time + 1) ts cs bs
    s = lists-later time (time + 1) ts cs bs (let z : time ≤ time + 1 = omega arith in z) old

    backed : Each (Backed ys bs) cs
    backed = Each-weaker (Backed ts bs) (Backed ys bs) (backed-set ts bs n t u e (λ c q. absurd (live-not t.stage c l q)) (λ w. w)) cs
        s.backed

    records : Each (λ b. Each (InList (time + 1) ys cs) b.records) bs
    records = records-set (time + 1) ts cs bs n t u e (λ w. w) s.records

    intents : (i : ℕ) (x : Transaction) → txn_at ys i ≡ Some x → map strip (sort_by provisional_cmp (all_intents i bs)) ≡ said x
    intents i x q =
        by-number ts n i t u x (λ x. map strip (sort_by provisional_cmp (all_intents i bs)) ≡ said x) e q
        (λ z. s.intents i t (sym (ap (txn_at ts) z) ∙ e)) (λ q. s.intents i x q)

    new : Commit
    new = commit_as n (time + 1) t

    go : (b : Bool) → (length t.writes == 0) ≡ b
        → ListsOf (time + 1) ys (if b then cs else (cs ++ record { time = time + 1; txn = n; ops = kept_ops t } ∷ [])) bs
    go true z = record {
      up = s.up;
      top = s.top;
      records = records;
      backed = backed;
      listed = λ i c x q f w. by-number ts n i t u x (λ x. commit_of x.stage ≡ Some c → 1 ≤ length x.writes
          → Exists (λ d. d ≡ commit_as i c x) cs) e q
          (λ y f w. absurd (let none : (length t.writes == 0) ≡ true = z in let some : 1 ≤ length t.writes = w in let v : ⊥ =
          grind (arith, nat_tests) in v))
          (λ q f w. s.listed i c x q f w) f w;
      apart = s.apart;
      intents = intents;
      none = λ i q. s.none i (none-set ts n i t u e q);
    }
    go false z = record {
      up = up-more time cs new (let y : time < time + 1 = omega arith in y) old.top s.up;
      top = top-more time cs new (let y : time + 1 ≤ time + 1 = omega arith in y) old.top;
      records = records-more (time + 1) ys cs (new ∷ []) bs records;
      backed = Each-append (Backed ys bs) cs (new ∷ []) backed (
        inr (record {
          t = u;
          there = at-set-same ts n t u e;
          commit = refl;
          ops = refl;
          wrote = (let no : (length t.writes == 0) ≡ false = z in grind (arith, nat_tests));
        }),
        tt,
      );
      listed = λ i c x q f w. by-number ts n i t u x
          (λ x. commit_of x.stage ≡ Some c → 1 ≤ length x.writes → Exists (λ d. d ≡ commit_as i c x) (cs ++ new ∷ [])) e q
          (λ y f w. exists-right (λ d. d ≡ commit_as i c u) cs (new ∷ [])
          (inl (let same : time + 1 ≡ c = same_Some (time + 1) c f in
          ap (λ j. record { time = time + 1; txn = j; ops = kept_ops t }) y
          ∙ ap (λ j. record { time = j; txn = i; ops = kept_ops t }) same)))
          (λ q f w. exists-left (λ d. d ≡ commit_as i c x) cs (new ∷ []) (s.listed i c x q f w)) f w;
      apart = s.apart;
      intents = intents;
      none = λ i q. s.none i (none-set ts n i t u e q);
    }

-- ---- a put

writes-past : (time id : ℕ) (ts : List Transaction) (cs : List Commit) (rs : List Record) → Each (InList time ts cs) rs
    → Each (λ w. w.time ≤ time) (writes_in id rs)
writes-past time id ts cs [] h = tt
writes-past time id ts cs (r ∷ rs) h = go (write_ops r.kind) (writes-past time id ts cs rs h.1)
  where
    go : (o : Option (List Op)) → Each (λ w. w.time ≤ time) (writes_in id rs)
        → Each (λ w. w.time ≤ time) (option_map_or (λ ops. record { time = r.time; txn = 0; tablet = id; ops = ops } ∷ []) o []
        ++ writes_in id rs)
    go None more = more
    go (Some ops) more = (h.0.past, more)

all-past : (time : ℕ) (ts : List Transaction) (cs : List Commit) (bs : List AcceptedTablet)
    → Each (λ b. Each (InList time ts cs) b.records) bs
    → Each (λ w. w.time ≤ time) (all_writes bs)
all-past time ts cs bs h =
    each-flat (λ w. w.time ≤ time) (λ (b : AcceptedTablet). writes_in b.header.id b.records) (λ b. Each (InList time ts cs) b.records)
    (λ b p. writes-past time b.header.id ts cs b.records p) bs h

put-lists : (t : ℕ) (ts : List Transaction) (cs : List Commit) (xs : List AcceptedTablet) (b : AcceptedTablet) (ys : List AcceptedTablet)
    (op : Op)
    → ListsOf t ts cs (xs ++ b ∷ ys)
    → ListsOf (t + 1) ts (cs ++ record { time = t + 1; txn = 0; ops = op ∷ [] } ∷ [])
    (xs ++ taken b (record { time = t + 1; kind = kind.Write (op ∷ []) }) ∷ ys)
put-lists t ts cs xs b ys op old = record {
  up = up-more t cs new (let y : t < t + 1 = omega arith in y) old.top old.up;
  top = top-more t cs new (let y : t + 1 ≤ t + 1 = omega arith in y) old.top;
  records = records-grown (t + 1) ts (cs ++ new ∷ []) xs b ys r
      (record { past = omega arith; put = exists-right (λ c. c ≡ new) cs (new ∷ []) (inl refl); apply = tt })
      (records-more (t + 1) ts cs (new ∷ []) (xs ++ b ∷ ys) s.records);
  backed = Each-append (Backed ts (xs ++ taken b r ∷ ys)) cs (new ∷ [])
      (Each-weaker (Backed ts (xs ++ b ∷ ys)) (Backed ts (xs ++ taken b r ∷ ys)) (backed-grown ts xs b ys r) cs s.backed) (
        inl (
          refl,
          exists-right (λ b. Exists (IsPut new) b.records) xs (taken b r ∷ ys)
              (inl (exists-right (IsPut new) b.records (r ∷ []) (inl refl))),
        ),
        tt,
      );
  listed = λ n c x q f w. exists-left (λ d. d ≡ commit_as n c x) cs (new ∷ []) (s.listed n c x q f w);
  apart = subst (Pairwise Differ) (sym added.is)
      (pairwise-middle Differ added.before made added.after (λ x z e q. e (sym q))
      (subst (Each (Differ made)) added.was
      (Each-weaker (λ (w : LogCommit). w.time ≤ t) (Differ made) (λ w p e. let q : t + 1 ≡ w.time = e in let z : ⊥ = omega arith in z)
      (all_writes (xs ++ b ∷ ys))
      (all-past t ts cs (xs ++ b ∷ ys) old.records)))
      (subst (Pairwise Differ) added.was s.apart));
  intents = λ n x q. ap (λ w. map strip (sort_by provisional_cmp w)) (same n) ∙ s.intents n x q;
  none = λ n q. same n ∙ s.none n q;
}
  where
    new : Commit
    new = record { time = t + 1; txn = 0; ops = op ∷ [] }

    r : Record
    r = record { time = t + 1; kind = kind.Write (op ∷ []) }

    made : LogCommit
    made = record { time = t + 1; txn = 0; tablet = b.header.id; ops = op ∷ [] }

    s : ListsOf (t + 1) ts cs (xs ++ b ∷ ys)
    s = lists-later t (t + 1) ts cs (xs ++ b ∷ ys) (let z : t ≤ t + 1 = omega arith in z) old

    added : Added (all_writes (xs ++ b ∷ ys)) (all_writes (xs ++ taken b r ∷ ys)) (made ∷ [])
    added = added-writes xs b ys r

    same : (n : ℕ) → all_intents n (xs ++ taken b r ∷ ys) ≡ all_intents n (xs ++ b ∷ ys)
    same n = added-none _ _ (added-intents n xs b ys r)

-- ---- a write

intents-past : (time n id : ℕ) (ts : List Transaction) (cs : List Commit) (rs : List Record) → Each (InList time ts cs) rs
    → Each (λ w. w.time ≤ time) (intents_in n id rs)
intents-past time n id ts cs [] h = tt
intents-past time n id ts cs (r ∷ rs) h = go (intent_ops n r.kind) (intents-past time n id ts cs rs h.1)
  where
    go : (o : Option (List Op)) → Each (λ w. w.time ≤ time) (intents_in n id rs)
        → Each (λ w. w.time ≤ time) (option_map_or (λ ops. record { time = r.time; tablet = id; sub = sub_of r.kind; ops = ops } ∷ []) o []
        ++ intents_in n id rs)
    go None more = more
    go (Some ops) more = (h.0.past, more)

all-intents-past : (time n : ℕ) (ts : List Transaction) (cs : List Commit) (bs : List AcceptedTablet)
    → Each (λ b. Each (InList time ts cs) b.records) bs → Each (λ w. w.time ≤ time) (all_intents n bs)
all-intents-past time n ts cs bs h =
    each-flat (λ w. w.time ≤ time) (λ (b : AcceptedTablet). intents_in n b.header.id b.records) (λ b. Each (InList time ts cs) b.records)
    (λ b p. intents-past time n b.header.id ts cs b.records p) bs h

comes-after : (x y : LogIntent) → x.time < y.time → After provisional_cmp y x
comes-after x y l = (grind (arith, nat_tests), grind (arith, nat_tests))

write-lists : (t : ℕ) (ts : List Transaction) (cs : List Commit) (xs : List AcceptedTablet) (b : AcceptedTablet) (ys : List AcceptedTablet)
    (n : ℕ) (op : Op) (x : Transaction) → txn_at ts n ≡ Some x → is_live x.stage ≡ true → ListsOf t ts cs (xs ++ b ∷ ys)
    → ListsOf (t + 1) (slice_set ts (n - 1) (written op x)) cs
    (xs ++ taken b (record { time = t + 1; kind = kind.Intent x.current n (op ∷ []) }) ∷ ys)
write-lists t ts cs xs b ys n op x e l old = record {
  up = s.up;
  top = s.top;
  records = records-grown (t + 1) zs cs xs b ys r (record { past = omega arith; put = tt; apply = tt })
      (records-set (t + 1) ts cs (xs ++ b ∷ ys) n x u e (λ w. some-more x.writes) s.records);
  backed = Each-weaker (Backed zs (xs ++ b ∷ ys)) (Backed zs (xs ++ taken b r ∷ ys)) (backed-grown zs xs b ys r) cs
      (Each-weaker (Backed ts (xs ++ b ∷ ys)) (Backed zs (xs ++ b ∷ ys))
      (backed-set ts (xs ++ b ∷ ys) n x u e (λ c q. absurd (live-not x.stage c l q)) (λ w. some-more x.writes)) cs s.backed);
  listed = λ i c y q f w. by-number ts n i x u y (λ y. commit_of y.stage ≡ Some c → 1 ≤ length y.writes
      → Exists (λ d. d ≡ commit_as i c y) cs) e q
      (λ z f w. absurd (live-not x.stage c l f)) (λ q f w. s.listed i c y q f w) f w;
  apart = subst (Pairwise Differ) (sym (added-none _ _ (added-writes xs b ys r))) s.apart;
  intents = λ i y q. ⊎_elim
      (λ z. let is : u ≡ y = same_Some u y (sym (subst (λ w. txn_at zs w ≡ Some u) z (at-set-same ts n x u e)) ∙ q) in
      subst (λ j. map strip (sort_by provisional_cmp (all_intents j (xs ++ taken b r ∷ ys))) ≡ said y) z (own ∙ ap said is))
      (λ d. ap (λ w. map strip (sort_by provisional_cmp w)) (same i d) ∙ s.intents i y (sym (at-set-other ts n i x u e d) ∙ q))
      (cases_eq n i);
  none = λ i q. let old-none = none-set ts n i x u e q in same i (λ z. none-some x (sym old-none ∙ ap (txn_at ts) (sym z) ∙ e))
      ∙ s.none i old-none;
}
  where
    u : Transaction
    u = written op x

    zs : List Transaction
    zs = slice_set ts (n - 1) u

    r : Record
    r = record { time = t + 1; kind = kind.Intent x.current n (op ∷ []) }

    made : LogIntent
    made = record { time = t + 1; tablet = b.header.id; sub = x.current; ops = op ∷ [] }

    s : ListsOf (t + 1) ts cs (xs ++ b ∷ ys)
    s = lists-later t (t + 1) ts cs (xs ++ b ∷ ys) (let z : t ≤ t + 1 = omega arith in z) old

    some-more : (ws : List Provisional) → 1 ≤ length (ws ++ record { sub = x.current; op = op; waits = true } ∷ [])
    some-more [] = omega arith
    some-more (w ∷ ws) = omega arith

    same : (i : ℕ) → (n ≡ i → ⊥) → all_intents i (xs ++ taken b r ∷ ys) ≡ all_intents i (xs ++ b ∷ ys)
    same i d = added-none _ _
        (subst (Added (all_intents i (xs ++ b ∷ ys)) (all_intents i (xs ++ taken b r ∷ ys)))
        (ap (λ c. option_map_or (λ ops. record { time = t + 1; tablet = b.header.id; sub = x.current; ops = ops } ∷ [])
        (if c then Some (op ∷ []) else None) [] ++ []) (ne_eqb n i d))
        (added-intents i xs b ys r))

    added : Added (all_intents n (xs ++ b ∷ ys)) (all_intents n (xs ++ taken b r ∷ ys)) (made ∷ [])
    added =
        subst (Added (all_intents n (xs ++ b ∷ ys)) (all_intents n (xs ++ taken b r ∷ ys)))
        (ap (λ c. option_map_or (λ ops. record { time = t + 1; tablet = b.header.id; sub = x.current; ops = ops } ∷ [])
        (if c then Some (op ∷ []) else None) [] ++ []) (eq-eqb n n refl))
        (added-intents n xs b ys r)

    own : map strip (sort_by provisional_cmp (all_intents n (xs ++ taken b r ∷ ys))) ≡ said u
    own =
        ap (λ w. map strip (sort_by provisional_cmp w)) added.is
        ∙ ap (map strip) (sort-last provisional_cmp added.before made added.after
        (subst (Each (After provisional_cmp made)) added.was
        (Each-weaker (λ (w : LogIntent). w.time ≤ t) (After provisional_cmp made)
        (λ w p. comes-after w made (let z : w.time < t + 1 = omega arith in z)) (all_intents n (xs ++ b ∷ ys))
        (all-intents-past t n ts cs (xs ++ b ∷ ys) old.records))))
        ∙ map-append strip (sort_by provisional_cmp (added.before ++ added.after)) (made ∷ [])
        ∙ ap (λ w. map strip (sort_by provisional_cmp w) ++ (x.current, op ∷ []) ∷ []) (sym added.was)
        ∙ ap (λ w. w ++ (x.current, op ∷ []) ∷ []) (s.intents n x e)
        ∙ sym (map-append (λ (w : Provisional). (w.sub, w.op ∷ [])) x.writes (record { sub = x.current; op = op; waits = true } ∷ []))

-- ---- a split

flat-two : {A : Type 0} (g : AcceptedTablet → List A) (bs : List AcceptedTablet) (l r : AcceptedTablet) → g l ≡ [] → g r ≡ []
    → flat_map g ((bs ++ l ∷ []) ++ r ∷ []) ≡ flat_map g bs
flat-two g bs l r el er =
    flat_map-append g (bs ++ l ∷ []) (r ∷ []) ∙ ap (λ w. flat_map g (bs ++ l ∷ []) ++ (w ++ [])) er
    ∙ append-nil (flat_map g (bs ++ l ∷ [])) ∙ flat_map-append g bs (l ∷ []) ∙ ap (λ w. flat_map g bs ++ (w ++ [])) el
    ∙ append-nil (flat_map g bs)

halves-lists : (time : ℕ) (ts : List Transaction) (cs : List Commit) (bs : List AcceptedTablet) (c : AcceptedTablet) (l r : Header)
    → ListsOf time ts cs bs → ListsOf time ts cs ((bs ++ born c l ∷ []) ++ born c r ∷ [])
halves-lists time ts cs bs c l r s = record {
  up = s.up;
  top = s.top;
  records = Each-append (λ b. Each (InList time ts cs) b.records) (bs ++ born c l ∷ []) (born c r ∷ [])
      (Each-append (λ b. Each (InList time ts cs) b.records) bs (born c l ∷ []) s.records (tt, tt)) (tt, tt);
  backed = Each-weaker (Backed ts bs) (Backed ts ((bs ++ born c l ∷ []) ++ born c r ∷ []))
      (λ d p. ⊎_elim
      (λ q. inl (
        q.0,
        exists-left (λ b. Exists (IsPut d) b.records) (bs ++ born c l ∷ []) (born c r ∷ [])
            (exists-left (λ b. Exists (IsPut d) b.records) bs (born c l ∷ []) q.1),
      )) (λ x. inr x) p) cs s.backed;
  listed = s.listed;
  apart = subst (Pairwise Differ) (sym (flat-two (λ b. writes_in b.header.id b.records) bs (born c l) (born c r) refl refl)) s.apart;
  intents = λ n t e.
      ap (λ w. map strip (sort_by provisional_cmp w)) (flat-two (λ b. intents_in n b.header.id b.records) bs (born c l)
      (born c r) refl refl)
      ∙ s.intents n t e;
  none = λ n e. flat-two (λ b. intents_in n b.header.id b.records) bs (born c l) (born c r) refl refl ∙ s.none n e;
}

-- ---- all moves

seam-lists : (m : Machine) (bs : List AcceptedTablet) (id : ℕ) (b : AcceptedTablet) (o : OpenAt bs id b) → ListsSo m bs
    → ListsOf m.time m.txns m.commits (o.seam.before ++ b ∷ o.seam.after)
seam-lists m bs id b o s = subst (ListsOf m.time m.txns m.commits) o.seam.whole s

plain-lists : (m : Machine) (bs : List AcceptedTablet) (id : ℕ) (b : AcceptedTablet) (o : OpenAt bs id b) (kind : Kind)
    → write_ops kind ≡ None
    → ((n : ℕ) → intent_ops n kind ≡ None) → PutIn m.commits (m.time + 1) kind → ApplyOf m.txns kind → ListsSo m bs
    → ListsOf (m.time + 1) m.txns m.commits (grown_books o.seam (next_record m kind))
plain-lists m bs id b o kind w i p a s =
    lists-plain m.time m.txns m.commits o.seam.before b o.seam.after (next_record m kind) refl w i p a (seam-lists m bs id b o s)

pub lists-closed : Closed ListsSo
lists-closed = record {
  clock = λ m bs u k l s. lists-later m.time u m.txns m.commits bs l s;
  begin = λ m bs k s. begin-lists m.time m.txns m.commits bs s;
  savepoint = λ m bs n t k l few s. lists-set m.time m.txns m.commits bs n t (next_begun t) l.there
      (live-goes t (next_begun t) l.live refl refl) s;
  roll_back = λ m bs n sub t k l is few s.
      lists-set m.time m.txns m.commits bs n t (next_begun (undone_from sub t)) l.there
      (live-goes t (next_begun (undone_from sub t)) l.live refl refl) s;
  write = λ m bs n op t id b o k l h f s.
      write-lists m.time m.txns m.commits o.seam.before b o.seam.after n op t l.there l.live (seam-lists m bs id b o s);
  put = λ m bs op id b o k h f s. put-lists m.time m.txns m.commits o.seam.before b o.seam.after op (seam-lists m bs id b o s);
  commit = λ m bs n t k l s. commit-lists m.time m.txns m.commits bs n t l.there l.live s;
  abort = λ m bs n t k l s. lists-set m.time m.txns m.commits bs n t (aborted t) l.there (abort-goes t l.live) s;
  abort_log = λ m bs n t id b o k e a s. plain-lists m bs id b o (kind.Abort n) refl (λ i. refl) tt tt s;
  apply = λ m bs n c t id b o k a s.
      lists-set (m.time + 1) m.txns m.commits (grown_books o.seam (next_record m (kind.Apply n c t.undone))) n t
      (taken_on b.header t) a.there
      (taken-goes b.header t) (plain-lists m bs id b o (kind.Apply n c t.undone) refl (λ i. refl) tt (t, a.there, a.wrote) s);
  safe = λ m bs id v b o k w s. plain-lists m bs id b o (kind.Safe v) refl (λ i. refl) tt tt s;
  split = λ m bs id at b o k lo hi s.
      halves-lists (m.time + 1) m.txns m.commits (grown_books o.seam (split_record m at)) (taken b (split_record m at))
      (child (length m.tablets) b.header.lo (at - 1) id).header (child (length m.tablets + 1) at b.header.hi id).header
      (plain-lists m bs id b o (split_record m at).kind refl (λ i. refl) tt tt s);
}
