-- The list of commits of a source and its logs have the same commits: what every move keeps for this.
--     ListsOf time ts cs bs      while the clock stands at `time`, with the transactions ts and the commits cs
use Rattle.std.proofs.Common.{◌≡◌, ◌≢◌, ℕ, ◌+◌, ◌-◌, ◌≤◌, List, [], ◌∷◌, ◌++◌, length, map, Some}
use Rattle.std.proofs.Common.{None}
use Rattle.std.proofs.Common.{refl, ap, sym, ◌∙◌, subst, arith, inl, inr, ⊎_elim, ◌⊎◌, append_assoc}
use Rattle.std.specs.Prelude.{slice_set, flat_map}
use Rattle.std.specs.Option.{option_map_or}
use Rattle.std.proofs.lemmas.Bool.{cases_eq}
use Rattle.std.proofs.lemmas.Option.{same_Some, none-some}
use Rattle.std.proofs.lemmas.List.{length-map}
use Rattle.xc_record.specs.declared.record.Kind.{Kind}
use Rattle.xc_record.specs.declared.record.Kind.TheVariants as kind
use Rattle.xc_record.specs.declared.record.Op.{Op}
use Rattle.xc_record.specs.declared.record.Record.{Record}
use Rattle.xc_record.specs.Lists.{sort_by}
use Rattle.xc_record.specs.Commits.{Commit as LogCommit, Provisional as LogIntent, provisional_cmp, writes_in, intents_in, intent_ops}
use Rattle.xc_record.specs.Commits.{write_ops, sub_of}
use Rattle.xc_record.specs.Accepted.{AcceptedTablet}
use Rattle.xc_record.proofs.ListLaws.{Each, Each-append, Each-weaker}
use Rattle.xc_model.proofs.StableSort.{Exists}
use Rattle.xc_model.proofs.Elements.{exists-left}
use Rattle.xc_source.specs.declared.commit.Commit.{Commit}
use Rattle.xc_source.specs.declared.transaction.Provisional.{Provisional}
use Rattle.xc_source.specs.Machine.{Transaction, commit_of, kept_ops}
use Rattle.xc_source_laws.proofs.Lists.{each-here, each-replaced, exists-replaced}
use Rattle.xc_source_laws.proofs.Grow.{taken}
use Rattle.xc_source_laws.proofs.Says.{txn_at, at-set-same, at-set-other}
use Rattle.xc_source_laws.proofs.SortLaws.{Added, flat-added, added-none, Pairwise, Up}

abbrev pub all_writes : List AcceptedTablet → List LogCommit
all_writes bs = flat_map (λ b. writes_in b.header.id b.records) bs

abbrev pub all_intents : ℕ → List AcceptedTablet → List LogIntent
all_intents n bs = flat_map (λ b. intents_in n b.header.id b.records) bs

-- a write of a transaction: its subtransaction and its operation
abbrev pub said_of : List Provisional → List (ℕ × List Op)
said_of ws = map (λ w. (w.sub, w.op ∷ [])) ws

abbrev pub said : Transaction → List (ℕ × List Op)
said t = said_of t.writes

abbrev pub strip : LogIntent → ℕ × List Op
strip i = (i.sub, i.ops)

abbrev pub Differ : LogCommit → LogCommit → Type 0
Differ x y = x.time ≢ y.time

-- a put of the logs is listed
abbrev pub PutIn : List Commit → ℕ → Kind → Type 0
PutIn cs at (kind.Write ops) = Exists (λ c. c ≡ record { time = at; txn = 0; ops = ops }) cs
PutIn cs at _ = Unit {0}

-- an apply is of a transaction that wrote
abbrev pub ApplyOf : List Transaction → Kind → Type 0
ApplyOf ts (kind.Apply n c without) = (t : Transaction) × (txn_at ts n ≡ Some t) × (1 ≤ length t.writes)
ApplyOf ts _ = Unit {0}

pub record InList (time : ℕ) (ts : List Transaction) (cs : List Commit) (r : Record) : Type 0 where
  pub past : r.time ≤ time
  pub put : PutIn cs r.time r.kind
  pub apply : ApplyOf ts r.kind

abbrev pub IsPut : Commit → Record → Type 0
IsPut c r = r ≡ record { time = c.time; kind = kind.Write c.ops }

pub record TxnOf (ts : List Transaction) (c : Commit) : Type 0 where
  pub t : Transaction
  pub there : txn_at ts c.txn ≡ Some t
  pub commit : commit_of t.stage ≡ Some c.time
  pub ops : c.ops ≡ kept_ops t
  pub wrote : 1 ≤ length t.writes

abbrev pub Backed : List Transaction → List AcceptedTablet → Commit → Type 0
Backed ts bs c = ((c.txn ≡ 0) × Exists (λ b. Exists (IsPut c) b.records) bs) ⊎ TxnOf ts c

abbrev pub commit_as : ℕ → ℕ → Transaction → Commit
commit_as n c t = record { time = c; txn = n; ops = kept_ops t }

pub record ListsOf (time : ℕ) (ts : List Transaction) (cs : List Commit) (bs : List AcceptedTablet) : Type 0 where
  pub up : Up (λ c. c.time) cs
  pub top : Each (λ c. c.time ≤ time) cs
  pub records : Each (λ b. Each (InList time ts cs) b.records) bs
  pub backed : Each (Backed ts bs) cs
  pub listed : (n c : ℕ) (t : Transaction) → txn_at ts n ≡ Some t → commit_of t.stage ≡ Some c → 1 ≤ length t.writes
      → Exists (λ d. d ≡ commit_as n c t) cs
  pub apart : Pairwise Differ (all_writes bs)
  pub intents : (n : ℕ) (t : Transaction) → txn_at ts n ≡ Some t → map strip (sort_by provisional_cmp (all_intents n bs)) ≡ said t
  pub none : (n : ℕ) → txn_at ts n ≡ None → all_intents n bs ≡ []

-- ---- the clock and the transactions

pub in-later : (t u : ℕ) (ts : List Transaction) (cs : List Commit) → t ≤ u → (r : Record) → InList t ts cs r → InList u ts cs r
in-later t u ts cs l r i = record { past = let p = i.past in omega arith; put = i.put; apply = i.apply }

pub lists-later : (t u : ℕ) (ts : List Transaction) (cs : List Commit) (bs : List AcceptedTablet) → t ≤ u → ListsOf t ts cs bs
    → ListsOf u ts cs bs
lists-later t u ts cs bs l s = record {
  up = s.up;
  top = Each-weaker (λ c. c.time ≤ t) (λ c. c.time ≤ u) (λ c p. omega arith) cs s.top;
  records = Each-weaker (λ b. Each (InList t ts cs) b.records) (λ b. Each (InList u ts cs) b.records)
      (λ b p. Each-weaker (InList t ts cs) (InList u ts cs) (in-later t u ts cs l) b.records p) bs s.records;
  backed = s.backed;
  listed = s.listed;
  apart = s.apart;
  intents = s.intents;
  none = s.none;
}

-- the transaction goes on, and neither its writes nor a commit of it change
pub record GoesOn (t u : Transaction) : Type 0 where
  pub writes : said u ≡ said t
  pub same : (c : ℕ) → commit_of u.stage ≡ Some c → (commit_of t.stage ≡ Some c) × (kept_ops u ≡ kept_ops t)
  pub still : (c : ℕ) → commit_of t.stage ≡ Some c → commit_of u.stage ≡ Some c

length-said : (t u : Transaction) → said u ≡ said t → length u.writes ≡ length t.writes
length-said t u e =
    sym (length-map u.writes (λ w. (w.sub, w.op ∷ []))) ∙ ap length e ∙ length-map t.writes (λ w. (w.sub, w.op ∷ []))

apply-set : (xs : List Transaction) (n : ℕ) (t u : Transaction) (k : Kind) → txn_at xs n ≡ Some t
    → (1 ≤ length t.writes → 1 ≤ length u.writes) → ApplyOf xs k
    → ApplyOf (slice_set xs (n - 1) u) k
apply-set xs n t u (kind.Write ops) e w a = tt
apply-set xs n t u (kind.Intent sub m ops) e w a = tt
apply-set xs n t u (kind.Apply m c without) e w a =
    ⊎_elim
    (λ s. let same : t ≡ a.0 = same_Some t a.0 (sym e ∙ ap (txn_at xs) s ∙ a.1) in
    let l : 1 ≤ length t.writes = subst (λ (x : Transaction). 1 ≤ length x.writes) (sym same) a.2 in
    (u, subst (λ i. txn_at (slice_set xs (n - 1) u) i ≡ Some u) s (at-set-same xs n t u e), w l))
    (λ d. (a.0, at-set-other xs n m t u e d ∙ a.1, a.2)) (cases_eq n m)
apply-set xs n t u (kind.Abort m) e w a = tt
apply-set xs n t u (kind.Safe v) e w a = tt
apply-set xs n t u (kind.Split place left right) e w a = tt

pub records-set : (time : ℕ) (xs : List Transaction) (cs : List Commit) (bs : List AcceptedTablet) (n : ℕ) (t u : Transaction)
    → txn_at xs n ≡ Some t
    → (1 ≤ length t.writes → 1 ≤ length u.writes) → Each (λ b. Each (InList time xs cs) b.records) bs
    → Each (λ b. Each (InList time (slice_set xs (n - 1) u) cs) b.records) bs
records-set time xs cs bs n t u e w h =
    Each-weaker (λ b. Each (InList time xs cs) b.records) (λ b. Each (InList time (slice_set xs (n - 1) u) cs) b.records)
    (λ b p. Each-weaker (InList time xs cs) (InList time (slice_set xs (n - 1) u) cs)
    (λ r i. record { past = i.past; put = i.put; apply = apply-set xs n t u r.kind e w i.apply }) b.records p) bs h

-- where the transaction of the number stands, or another
pub by-number : (xs : List Transaction) (n i : ℕ) (t u x : Transaction) (P : Transaction → Type 0) → txn_at xs n ≡ Some t
    → txn_at (slice_set xs (n - 1) u) i ≡ Some x → (n ≡ i → P u) → (txn_at xs i ≡ Some x → P x) → P x
by-number xs n i t u x P e q f g =
    ⊎_elim
    (λ s. subst P (same_Some u x (sym (subst (λ w. txn_at (slice_set xs (n - 1) u) w ≡ Some u) s (at-set-same xs n t u e)) ∙ q)) (f s))
    (λ d. g (sym (at-set-other xs n i t u e d) ∙ q)) (cases_eq n i)

pub none-set : (xs : List Transaction) (n i : ℕ) (t u : Transaction) → txn_at xs n ≡ Some t → txn_at (slice_set xs (n - 1) u) i ≡ None
    → txn_at xs i ≡ None
none-set xs n i t u e q =
    ⊎_elim
    (λ s. absurd (none-some u (sym q ∙ subst (λ w. txn_at (slice_set xs (n - 1) u) w ≡ Some u) s (at-set-same xs n t u e))))
    (λ d. sym (at-set-other xs n i t u e d) ∙ q) (cases_eq n i)

pub backed-set : (xs : List Transaction) (bs : List AcceptedTablet) (n : ℕ) (t u : Transaction) → txn_at xs n ≡ Some t
    → ((c : ℕ) → commit_of t.stage ≡ Some c → (commit_of u.stage ≡ Some c) × (kept_ops u ≡ kept_ops t))
    → (1 ≤ length t.writes → 1 ≤ length u.writes) → (c : Commit)
    → Backed xs bs c → Backed (slice_set xs (n - 1) u) bs c
backed-set xs bs n t u e g more c b =
    ⊎_elim (λ p. inl p)
    (λ x. inr (⊎_elim
    (λ s. let same : x.t ≡ t = same_Some x.t t (sym x.there ∙ sym (ap (txn_at xs) s) ∙ e) in
    let commit : commit_of t.stage ≡ Some c.time = subst (λ (y : Transaction). commit_of y.stage ≡ Some c.time) same x.commit in
    record {
      t = u;
      there = subst (λ i. txn_at (slice_set xs (n - 1) u) i ≡ Some u) s (at-set-same xs n t u e);
      commit = (g c.time commit).0;
      ops = x.ops ∙ ap kept_ops same ∙ sym (g c.time commit).1;
      wrote = more (subst (λ (y : Transaction). 1 ≤ length y.writes) same x.wrote);
    })
    (λ d. record { t = x.t; there = at-set-other xs n c.txn t u e d ∙ x.there; commit = x.commit; ops = x.ops; wrote = x.wrote })
    (cases_eq n c.txn))) b

pub lists-set : (time : ℕ) (xs : List Transaction) (cs : List Commit) (bs : List AcceptedTablet) (n : ℕ) (t u : Transaction)
    → txn_at xs n ≡ Some t → GoesOn t u → ListsOf time xs cs bs → ListsOf time (slice_set xs (n - 1) u) cs bs
lists-set time xs cs bs n t u e g s =
    let count = length-said t u g.writes in
    record {
      up = s.up;
      top = s.top;
      records = records-set time xs cs bs n t u e (λ w. omega arith) s.records;
      backed = Each-weaker (Backed xs bs) (Backed (slice_set xs (n - 1) u) bs)
          (backed-set xs bs n t u e (λ c q. (g.still c q, (g.same c (g.still c q)).1)) (λ w. omega arith)) cs s.backed;
      listed = λ i c x q f w. by-number xs n i t u x
          (λ x. commit_of x.stage ≡ Some c → 1 ≤ length x.writes → Exists (λ d. d ≡ commit_as i c x) cs) e q
          (λ z f w. let both = g.same c f in
          subst (λ o. Exists (λ d. d ≡ record { time = c; txn = i; ops = o }) cs) (sym both.1)
          (s.listed i c t (sym (ap (txn_at xs) z) ∙ e) both.0 (omega arith)))
          (λ q f w. s.listed i c x q f w) f w;
      apart = s.apart;
      intents = λ i x q. by-number xs n i t u x (λ x. map strip (sort_by provisional_cmp (all_intents i bs)) ≡ said x) e q
          (λ z. s.intents i t (sym (ap (txn_at xs) z) ∙ e) ∙ sym g.writes) (λ q. s.intents i x q);
      none = λ i q. s.none i (none-set xs n i t u e q);
    }

-- ---- a record more

writes-push : (id : ℕ) (rs : List Record) (r : Record) → writes_in id (rs ++ r ∷ []) ≡ writes_in id rs ++ writes_in id (r ∷ [])
writes-push id [] r = refl
writes-push id (q ∷ rs) r =
    ap (λ w. option_map_or (λ ops. record { time = q.time; txn = 0; tablet = id; ops = ops } ∷ []) (write_ops q.kind) [] ++ w)
    (writes-push id rs r)
    ∙ sym (append_assoc (option_map_or (λ ops. record { time = q.time; txn = 0; tablet = id; ops = ops } ∷ []) (write_ops q.kind) [])
    (writes_in id rs) (writes_in id (r ∷ [])))

intents-push : (n id : ℕ) (rs : List Record) (r : Record) → intents_in n id (rs ++ r ∷ []) ≡ intents_in n id rs ++ intents_in n id (r ∷ [])
intents-push n id [] r = refl
intents-push n id (q ∷ rs) r =
    ap (λ w. option_map_or (λ ops. record { time = q.time; tablet = id; sub = sub_of q.kind; ops = ops } ∷ []) (intent_ops n q.kind) []
    ++ w)
    (intents-push n id rs r)
    ∙ sym (append_assoc (option_map_or (λ ops. record { time = q.time; tablet = id; sub = sub_of q.kind; ops = ops } ∷ [])
    (intent_ops n q.kind) [])
    (intents_in n id rs) (intents_in n id (r ∷ [])))

pub added-writes : (xs : List AcceptedTablet) (b : AcceptedTablet) (ys : List AcceptedTablet) (r : Record)
    → Added (all_writes (xs ++ b ∷ ys)) (all_writes (xs ++ taken b r ∷ ys)) (writes_in b.header.id (r ∷ []))
added-writes xs b ys r =
    flat-added (λ b. writes_in b.header.id b.records) xs b (taken b r) ys (writes_in b.header.id (r ∷ []))
    (writes-push b.header.id b.records r)

pub added-intents : (n : ℕ) (xs : List AcceptedTablet) (b : AcceptedTablet) (ys : List AcceptedTablet) (r : Record)
    → Added (all_intents n (xs ++ b ∷ ys)) (all_intents n (xs ++ taken b r ∷ ys)) (intents_in n b.header.id (r ∷ []))
added-intents n xs b ys r =
    flat-added (λ b. intents_in n b.header.id b.records) xs b (taken b r) ys (intents_in n b.header.id (r ∷ []))
    (intents-push n b.header.id b.records r)

pub backed-grown : (ts : List Transaction) (xs : List AcceptedTablet) (b : AcceptedTablet) (ys : List AcceptedTablet) (r : Record)
    (c : Commit)
    → Backed ts (xs ++ b ∷ ys) c → Backed ts (xs ++ taken b r ∷ ys) c
backed-grown ts xs b ys r c p =
    ⊎_elim
    (λ q. inl (
      q.0,
      exists-replaced (λ b. Exists (IsPut c) b.records) xs b (taken b r) ys
          (λ i. exists-left (IsPut c) b.records (r ∷ []) i) q.1,
    ))
    (λ x. inr x) p

pub records-grown : (time : ℕ) (ts : List Transaction) (cs : List Commit) (xs : List AcceptedTablet) (b : AcceptedTablet)
    (ys : List AcceptedTablet)
    (r : Record) → InList time ts cs r → Each (λ b. Each (InList time ts cs) b.records) (xs ++ b ∷ ys)
    → Each (λ b. Each (InList time ts cs) b.records) (xs ++ taken b r ∷ ys)
records-grown time ts cs xs b ys r i h =
    each-replaced (λ b. Each (InList time ts cs) b.records) xs b (taken b r) ys
    (Each-append (InList time ts cs) b.records (r ∷ []) (each-here (λ b. Each (InList time ts cs) b.records) xs b ys h) (i, tt)) h

-- a record that is neither a write nor an intent
pub lists-plain : (t : ℕ) (ts : List Transaction) (cs : List Commit) (xs : List AcceptedTablet) (b : AcceptedTablet)
    (ys : List AcceptedTablet)
    (r : Record) → r.time ≡ t + 1 → write_ops r.kind ≡ None → ((n : ℕ) → intent_ops n r.kind ≡ None) → PutIn cs r.time r.kind
    → ApplyOf ts r.kind
    → ListsOf t ts cs (xs ++ b ∷ ys) → ListsOf (t + 1) ts cs (xs ++ taken b r ∷ ys)
lists-plain t ts cs xs b ys r e w i put apply old =
    let s = lists-later t (t + 1) ts cs (xs ++ b ∷ ys) (let z : t ≤ t + 1 = omega arith in z) old in
    let no-writes : writes_in b.header.id (r ∷ []) ≡ [] =
    ap (λ o. option_map_or (λ ops. record { time = r.time; txn = 0; tablet = b.header.id; ops = ops } ∷ []) o [] ++ []) w in
    let writes : all_writes (xs ++ taken b r ∷ ys) ≡ all_writes (xs ++ b ∷ ys) =
    added-none _ _ (subst (Added (all_writes (xs ++ b ∷ ys)) (all_writes (xs ++ taken b r ∷ ys))) no-writes (added-writes xs b ys r)) in
    let intents : (n : ℕ) → all_intents n (xs ++ taken b r ∷ ys) ≡ all_intents n (xs ++ b ∷ ys) =
    λ n. added-none _ _ (subst (Added (all_intents n (xs ++ b ∷ ys)) (all_intents n (xs ++ taken b r ∷ ys)))
    (ap (λ o. option_map_or (λ ops. record { time = r.time; tablet = b.header.id; sub = sub_of r.kind; ops = ops } ∷ []) o [] ++ []) (i n))
    (added-intents n xs b ys r)) in
    record {
      up = s.up;
      top = s.top;
      records = records-grown (t + 1) ts cs xs b ys r (record { past = omega arith; put = put; apply = apply }) s.records;
      backed = Each-weaker (Backed ts (xs ++ b ∷ ys)) (Backed ts (xs ++ taken b r ∷ ys)) (backed-grown ts xs b ys r) cs s.backed;
      listed = s.listed;
      apart = subst (Pairwise Differ) (sym writes) s.apart;
      intents = λ n x q. ap (λ w. map strip (sort_by provisional_cmp w)) (intents n) ∙ s.intents n x q;
      none = λ n q. intents n ∙ s.none n q;
    }
