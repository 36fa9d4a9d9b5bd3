-- Laws of stragglers: the keys of a transaction's own operations are enough, and what waits at a tablet's start is what its parent held.
use Rattle.std.proofs.Common.{◌≡◌, ℕ, Bool, true, false, ◌||◌, List, [], ◌∷◌, ◌++◌, refl, ap, sym, ◌∙◌, subst, append_assoc, arith}
use Rattle.std.proofs.lemmas.Bool.{eqb-true, eq-eqb, and_parts, both_ways, false≢true}
use Rattle.std.proofs.lemmas.List.{append-nil}
use Rattle.std.proofs.lemmas.Slice.Eq.{bytes_eq-Decides}
use Rattle.std.specs.Prelude.{◌&&◌, ◌==◌, nat_le, if◌then◌else◌, flat_map, filter, bytes_eq, nat_lt}
use Rattle.std.specs.List.{list_any, list_all}
use Rattle.std.specs.Option.{option_map_or}
use Rattle.std.proofs.Math.Bool.{or_assoc}
use Rattle.std.specs.Cmp.{both_ways as both}
use Rattle.xc_record.specs.declared.record.Kind.{Kind}
use Rattle.xc_record.specs.declared.record.Kind.TheVariants.{Write, Intent, Apply, Abort, Safe, Split}
use Rattle.xc_record.specs.declared.record.Op.{Op}
use Rattle.xc_record.specs.declared.record.Header.{Header}
use Rattle.xc_record.specs.declared.record.Record.{Record}
use Rattle.xc_record.specs.declared.record.Logs.{Logs}
use Rattle.xc_record.specs.Hash.{hash_of, holds}
use Rattle.xc_record.specs.Order.{safe_value}
use Rattle.xc_record.specs.Accepted.{AcceptedTablet, accepted_tablets}
use Rattle.xc_record.specs.Commits.{provisional_ops}
use Rattle.xc_record.specs.Agreement.{straggles_at, path_above, straggler}
use Rattle.xc_record.proofs.AcceptedLaws.{Each}
use Rattle.xc_agree.specs.declared.held.Held.{Held}
use Rattle.xc_agree.specs.Seen.{waits_from}
use Rattle.xc_agree.specs.Held.{is_held, writes_at, wait_kind, waits_by}
use Rattle.xc_agree.proofs.WaitLaws.{waits-append, held-waits}
use Rattle.xc_agree.proofs.EndLaws.{straggles, any_op}
use Rattle.xc_agree.proofs.KeyLaws.{straggles-key}
use Rattle.xc_agree.proofs.OpLaws.{OpsIn, ops-in, each-flat}
use Rattle.xc_agree.proofs.TreeLaws.{IsTree, at_hash, below_number}
use Rattle.xc_record.proofs.IntentLaws.{any-elim, at_key, key-passes}
use Rattle.xc_record.proofs.ListLaws.{Each-filter}
use Rattle.std.proofs.lemmas.Bool.{or_right}

-- ---- a wider test

abbrev Wider : (List Op → Bool) → (List Op → Bool) → Type 0
Wider p q = (ops : List Op) → p ops ≡ true → q ops ≡ true

-- a wait that may begin, and one that may end
either : (b v : Bool) → v ≡ true → (if b then true else v) ≡ true
either true v e = refl
either false v e = e

stops-wider : (b w v : Bool) → (w ≡ true → v ≡ true) → (if b then false else w) ≡ true → (if b then false else v) ≡ true
stops-wider true w v k e = e
stops-wider false w v k e = k e

wait-wider : (n : ℕ) (p q : List Op → Bool) (w v : Bool) (kind : Kind) → Wider p q → (w ≡ true → v ≡ true) → wait_kind n p w kind ≡ true
    → wait_kind n q v kind ≡ true
wait-wider n p q w v (Write ops) h k e = k e
wait-wider n p q w v (Safe value) h k e = k e
wait-wider n p q w v (Split at left right) h k e = k e
wait-wider n p q w v (Apply txn commit without) h k e = stops-wider (txn == n) w v k e
wait-wider n p q w v (Abort txn) h k e = stops-wider (txn == n) w v k e
wait-wider n p q w v (Intent sub txn ops) h k e = go (txn == n) (p ops) refl e
  where
    go : (b a : Bool) → p ops ≡ a → (if b && a then true else w) ≡ true → (if b && q ops then true else v) ≡ true
    go true true f e = rw (h ops f) refl
    go true false f e = either (q ops) v (k e)
    go false a f e = k e

waits-wider : (n : ℕ) (p q : List Op → Bool) (w v : Bool) (rs : List Record) → Wider p q → (w ≡ true → v ≡ true) → waits_by n p w rs ≡ true
    → waits_by n q v rs ≡ true
waits-wider n p q w v [] h k e = k e
waits-wider n p q w v (r ∷ rs) h k e =
    waits-wider n p q (wait_kind n p w r.kind) (wait_kind n q v r.kind) rs h (wait-wider n p q w v r.kind h k) e

straggles-wider : (n c : ℕ) (p q : List Op → Bool) (w v : Bool) (rs : List Record) → Wider p q → (w ≡ true → v ≡ true)
    → straggles p n c w rs ≡ true → straggles q n c v rs ≡ true
straggles-wider n c p q w v [] h k e = cc
straggles-wider n c p q w v (r ∷ rs) h k e =
    go (option_map_or (λ value. nat_le c value) (safe_value r.kind) false) w refl
    (straggles-wider n c p q (wait_kind n p w r.kind) (wait_kind n q v r.kind) rs h (wait-wider n p q w v r.kind h k)) e
  where
    go : (s x : Bool) → w ≡ x → (straggles p n c (wait_kind n p w r.kind) rs ≡ true → straggles q n c (wait_kind n q v r.kind) rs ≡ true)
        → ((s && x) || straggles p n c (wait_kind n p w r.kind) rs) ≡ true
        → ((s && v) || straggles q n c (wait_kind n q v r.kind) rs) ≡ true
    go true true f ih e = rw (k f) refl
    go true false f ih e = or_right v _ (ih e)
    go false x f ih e = ih e

straggles-append : (p : List Op → Bool) (n c : ℕ) (w : Bool) (xs ys : List Record)
    → straggles p n c w (xs ++ ys) ≡ (straggles p n c w xs || straggles p n c (waits_by n p w xs) ys)
straggles-append p n c w [] ys = refl
straggles-append p n c w (x ∷ xs) ys =
    ap (λ b. (option_map_or (λ value. nat_le c value) (safe_value x.kind) false && w) || b)
    (straggles-append p n c (wait_kind n p w x.kind) xs ys)
    ∙ sym (or_assoc (option_map_or (λ value. nat_le c value) (safe_value x.kind) false && w) (straggles p n c (wait_kind n p w x.kind) xs)
    (straggles p n c (waits_by n p (wait_kind n p w x.kind) xs) ys))

-- ---- a key at which it waits

key-hash : (h : ℕ) (k : List ℕ) → hash_of k ≡ h → Wider (at_key k) (writes_at h)
key-hash h k e [] f = cc
key-hash h k e (op ∷ ops) f = go (bytes_eq k op.key) refl (key-hash h k e ops) f
  where
    go : (b : Bool) → bytes_eq k op.key ≡ b → (at_key k ops ≡ true → writes_at h ops ≡ true) → (b || at_key k ops) ≡ true
        → (hash_of op.key == h || writes_at h ops) ≡ true
    go true same ih f = rw (eq-eqb (hash_of op.key) h (sym (ap hash_of ((bytes_eq-Decides k op.key).0 same)) ∙ e)) refl
    go false same ih f = or_right (hash_of op.key == h) _ (ih f)

key-any : (k : List ℕ) → Wider (at_key k) any_op
key-any k ops e = refl

-- an operation that the test passes, as a key
record Found (test : List ℕ → Bool) (ops : List Op) : Type 0 where
  key : List ℕ
  passes : test key ≡ true
  at : at_key key ops ≡ true

find-key : (test : List ℕ → Bool) (ops : List Op) → list_any (λ op. test op.key) ops ≡ true → Found test ops
find-key test [] e = cc
find-key test (op ∷ ops) e = go (test op.key) refl (find-key test ops) e
  where
    go : (b : Bool) → test op.key ≡ b → (list_any (λ op. test op.key) ops ≡ true → Found test ops)
        → (b || list_any (λ op. test op.key) ops) ≡ true → Found test (op ∷ ops)
    go true f ih e = record { key = op.key; passes = f; at = rw ((bytes_eq-Decides op.key op.key).1 refl) refl }
    go false f ih e =
        let x : Found test ops = ih e in record { key = x.key; passes = x.passes; at = or_right (bytes_eq x.key op.key) _ x.at }

-- the key is one of an operation of the transaction
abbrev IsOwn : Logs → ℕ → List ℕ → Type 0
IsOwn logs n k = (q : List ℕ → Bool) → q k ≡ true → list_any (λ op. q op.key) (provisional_ops logs n) ≡ true

-- an own key that the test passes, at which the transaction waits after the records of its line
record WaitsAt (logs : Logs) (n : ℕ) (test : List ℕ → Bool) (line : List ℕ → List Record) : Type 0 where
  key : List ℕ
  passes : test key ≡ true
  own : IsOwn logs n key
  waits : waits_by n (at_key key) false (line key) ≡ true

-- an intent of n whose operations pass p has one at an own key that the test passes
record Intends (logs : Logs) (n : ℕ) (p : List Op → Bool) (test : List ℕ → Bool) (r : Record) : Type 0 where
  found : (sub : ℕ) (ops : List Op) → r.kind ≡ Intent sub n ops → p ops ≡ true
      → Found test ops × ((k : List ℕ) → at_key k ops ≡ true → IsOwn logs n k)

keep-waiting : (logs : Logs) (n : ℕ) (test : List ℕ → Bool) (line : List ℕ → List Record) (r : Record)
    → ((k : List ℕ) → wait_kind n (at_key k) true r.kind ≡ true) → WaitsAt logs n test line → WaitsAt logs n test (λ k. line k ++ r ∷ [])
keep-waiting logs n test line r keeps x = record {
  key = x.key;
  passes = x.passes;
  own = x.own;
  waits = waits-append n (at_key x.key) false (line x.key) (r ∷ []) ∙ ap (λ w. wait_kind n (at_key x.key) w r.kind) x.waits ∙ keeps x.key;
}

stop-waiting : (logs : Logs) (n : ℕ) (test : List ℕ → Bool) (line : List ℕ → List Record) (r : Record) (w stops : Bool)
    → (stops ≡ false → (k : List ℕ) → wait_kind n (at_key k) true r.kind ≡ true)
    → (w ≡ true → WaitsAt logs n test line) → (if stops then false else w) ≡ true → WaitsAt logs n test (λ k. line k ++ r ∷ [])
stop-waiting logs n test line r w true keeps k e = cc
stop-waiting logs n test line r w false keeps k e = keep-waiting logs n test line r (keeps refl) (k e)

wait-step : (logs : Logs) (n : ℕ) (p : List Op → Bool) (test : List ℕ → Bool) (line : List ℕ
    → List Record) (r : Record) (w : Bool) (kind : Kind) → r.kind ≡ kind → (w ≡ true → WaitsAt logs n test line) → Intends logs n p test r
    → wait_kind n p w kind ≡ true → WaitsAt logs n test (λ k. line k ++ r ∷ [])
wait-step logs n p test line r w (Write ops) is k h e = keep-waiting logs n test line r (λ q. rw is refl) (k e)
wait-step logs n p test line r w (Safe value) is k h e = keep-waiting logs n test line r (λ q. rw is refl) (k e)
wait-step logs n p test line r w (Split at left right) is k h e = keep-waiting logs n test line r (λ q. rw is refl) (k e)
wait-step logs n p test line r w (Apply txn commit without) is k h e =
    stop-waiting logs n test line r w (txn == n) (λ f q. rw (is, f) refl) k e
wait-step logs n p test line r w (Abort txn) is k h e = stop-waiting logs n test line r w (txn == n) (λ f q. rw (is, f) refl) k e
wait-step logs n p test line r w (Intent sub txn ops) is k h e = go (txn == n) (p ops) refl refl e
  where
    begins : (q : List ℕ) (v : Bool) → txn == n ≡ true → at_key q ops ≡ true → wait_kind n (at_key q) v r.kind ≡ true
    begins q v f g = rw (is, f, g) refl

    go : (b a : Bool) → txn == n ≡ b → p ops ≡ a → (if b && a then true else w) ≡ true → WaitsAt logs n test (λ k. line k ++ r ∷ [])
    go true true f g e =
        let same : txn ≡ n = eqb-true txn n f in
        let found = h.found sub ops (is ∙ ap (λ m. Intent sub m ops) same) g in
        record {
          key = found.0.key;
          passes = found.0.passes;
          own = found.1 found.0.key found.0.at;
          waits = waits-append n (at_key found.0.key) false (line found.0.key) (r ∷ [])
              ∙ begins found.0.key (waits_by n (at_key found.0.key) false (line found.0.key)) f found.0.at;
        }
    go true false f g e = keep-waiting logs n test line r (λ q. rw is (either (txn == n && at_key q ops) true refl)) (k e)
    go false a f g e = keep-waiting logs n test line r (λ q. rw is (either (txn == n && at_key q ops) true refl)) (k e)

WaitsAt-line : (logs : Logs) (n : ℕ) (test : List ℕ → Bool) (line other : List ℕ → List Record)
    → ((k : List ℕ) → test k ≡ true → line k ≡ other k) → WaitsAt logs n test line → WaitsAt logs n test other
WaitsAt-line logs n test line other same x =
    record {
      key = x.key;
      passes = x.passes;
      own = x.own;
      waits = ap (waits_by n (at_key x.key) false) (sym (same x.key x.passes))
          ∙ x.waits;
    }

-- what waits after the records waits at one of the keys
waits-key : (logs : Logs) (n : ℕ) (p : List Op → Bool) (test : List ℕ → Bool) (line : List ℕ → List Record) (rs : List Record) (w : Bool)
    → (w ≡ true → WaitsAt logs n test line) → Each (Intends logs n p test) rs
    → waits_by n p w rs ≡ true → WaitsAt logs n test (λ k. line k ++ rs)
waits-key logs n p test line [] w k h e = WaitsAt-line logs n test line (λ k. line k ++ []) (λ k f. sym (append-nil (line k))) (k e)
waits-key logs n p test line (r ∷ rs) w k h e =
    WaitsAt-line logs n test (λ k. (line k ++ r ∷ []) ++ rs) (λ k. line k ++ r ∷ rs) (λ k f. append_assoc (line k) (r ∷ []) rs)
    (waits-key logs n p test (λ k. line k ++ r ∷ []) rs (wait_kind n p w r.kind) (wait-step logs n p test line r w r.kind refl k h.0) h.1 e)

-- an own key that the test passes, at which the transaction straggles
record StragglesAt (logs : Logs) (n c : ℕ) (test : List ℕ → Bool) (line : List ℕ → List Record) (rs : List Record) : Type 0 where
  key : List ℕ
  passes : test key ≡ true
  own : IsOwn logs n key
  straggles : straggles (at_key key) n c (waits_by n (at_key key) false (line key)) rs ≡ true

straggles-somewhere : (logs : Logs) (n c : ℕ) (p : List Op → Bool) (test : List ℕ → Bool) (line : List ℕ
    → List Record) (before rs : List Record) (w : Bool) → (w ≡ true → WaitsAt logs n test (λ k. line k ++ before))
    → Each (Intends logs n p test) rs → straggles p n c w rs ≡ true → StragglesAt logs n c test line (before ++ rs)
straggles-somewhere logs n c p test line before [] w k h e = cc
straggles-somewhere logs n c p test line before (r ∷ rs) w k h e =
    go (option_map_or (λ value. nat_le c value) (safe_value r.kind) false) w refl refl
    (λ e. straggles-somewhere logs n c p test line (before ++ r ∷ []) rs (wait_kind n p w r.kind)
    (λ f. WaitsAt-line logs n test (λ k. (line k ++ before) ++ r ∷ []) (λ k. line k ++ (before ++ r ∷ []))
    (λ k g. append_assoc (line k) before (r ∷ [])) (wait-step logs n p test (λ k. line k ++ before) r w r.kind refl k h.0 f)) h.1 e)
    e
  where
    go : (s x : Bool) → option_map_or (λ value. nat_le c value) (safe_value r.kind) false ≡ s → w ≡ x
        → (straggles p n c (wait_kind n p w r.kind) rs ≡ true → StragglesAt logs n c test line ((before ++ r ∷ []) ++ rs))
        → ((s && x) || straggles p n c (wait_kind n p w r.kind) rs) ≡ true → StragglesAt logs n c test line (before ++ r ∷ rs)
    go true true f g ih e =
        let x : WaitsAt logs n test (λ k. line k ++ before) = k g in
        let now : waits_by n (at_key x.key) (waits_by n (at_key x.key) false (line x.key)) before ≡ true =
        sym (waits-append n (at_key x.key) false (line x.key) before) ∙ x.waits in
        record {
          key = x.key;
          passes = x.passes;
          own = x.own;
          straggles = straggles-append (at_key x.key) n c (waits_by n (at_key x.key) false (line x.key)) before (r ∷ rs)
              ∙ or_right (straggles (at_key x.key) n c (waits_by n (at_key x.key) false (line x.key)) before) _ (rw (f, now) refl);
        }
    go true false f g ih e = subst (λ xs. StragglesAt logs n c test line xs) (append_assoc before (r ∷ []) rs) (ih e)
    go false x f g ih e = subst (λ xs. StragglesAt logs n c test line xs) (append_assoc before (r ∷ []) rs) (ih e)

-- ---- at a tablet

-- all operations of an intent are of the range, and there is one
pub record OwnIn (header : Header) (r : Record) : Type 0 where
  pub holds_one : (n sub : ℕ) (ops : List Op) → r.kind ≡ Intent sub n ops → list_any (λ op. holds header (hash_of op.key)) ops ≡ true
  pub holds_all : (n sub : ℕ) (ops : List Op) → r.kind ≡ Intent sub n ops → list_all (λ op. holds header (hash_of op.key)) ops ≡ true

own-key : (logs : Logs) (n : ℕ) (r : Record) (sub : ℕ) (ops : List Op) → OpsIn logs n r → r.kind ≡ Intent sub n ops → (k : List ℕ)
    → at_key k ops ≡ true → IsOwn logs n k
own-key logs n r sub ops h is k at q e = h.all (λ op. q op.key) (rw is (rw (eq-eqb n n refl) (key-passes k q ops at e)))

intends-hash : (logs : Logs) (n h : ℕ) (rs : List Record) → Each (OpsIn logs n) rs
    → Each (Intends logs n (writes_at h) (λ k. hash_of k == h)) rs
intends-hash logs n h [] e = tt
intends-hash logs n h (r ∷ rs) e = (
  record { found = λ sub ops is f. (find-key (λ k. hash_of k == h) ops f, own-key logs n r sub ops e.0 is) },
  intends-hash logs n h rs
      e.1,
)

intends-range : (logs : Logs) (n : ℕ) (header : Header) (rs : List Record) → Each (OpsIn logs n) rs → Each (OwnIn header) rs
    → Each (Intends logs n any_op (λ k. holds header (hash_of k))) rs
intends-range logs n header [] e o = tt
intends-range logs n header (r ∷ rs) e o = (
  record {
    found = λ sub ops is f.
        (find-key (λ k. holds header (hash_of k)) ops (o.0.holds_one n sub ops is), own-key logs n r sub ops e.0 is);
  },
  intends-range logs n header rs e.1 o.1,
)

-- a hash of the range at which something is held
record HeldAt (header : Header) (held : List Held) (n : ℕ) : Type 0 where
  hash : ℕ
  within : holds header hash ≡ true
  held_there : is_held held n hash ≡ true

held-somewhere : (header : Header) (held : List Held) (n : ℕ) → waits_from header held n ≡ true → HeldAt header held n
held-somewhere header [] n e = cc
held-somewhere header (x ∷ held) n e = go (x.txn == n) (holds header x.hash) refl refl (held-somewhere header held n) e
  where
    later : HeldAt header held n → HeldAt header (x ∷ held) n
    later y = record { hash = y.hash; within = y.within; held_there = or_right (x.txn == n && x.hash == y.hash) _ y.held_there }

    go : (p q : Bool) → x.txn == n ≡ p → holds header x.hash ≡ q → (waits_from header held n ≡ true → HeldAt header held n)
        → ((p && q) || waits_from header held n) ≡ true → HeldAt header (x ∷ held) n
    go true true f g ih e = record { hash = x.hash; within = g; held_there = rw (f, eq-eqb x.hash x.hash refl) refl }
    go true false f g ih e = later (ih e)
    go false q f g ih e = later (ih e)

abbrev pub line_above : List AcceptedTablet → ℕ → List Record
line_above before h = flat_map (λ b. b.records) (at_hash h before)

each-before : (logs : Logs) (n : ℕ) (before rest : List AcceptedTablet) → Each (λ b. Each (OpsIn logs n) b.records) (before ++ rest)
    → Each (λ b. Each (OpsIn logs n) b.records) before
each-before logs n [] rest e = tt
each-before logs n (b ∷ before) rest e = (e.0, each-before logs n before rest e.1)

each-here : (logs : Logs) (n : ℕ) (before : List AcceptedTablet) (b : AcceptedTablet) (rest : List AcceptedTablet)
    → Each (λ b. Each (OpsIn logs n) b.records) (before ++ b ∷ rest) → Each (OpsIn logs n) b.records
each-here logs n [] b rest e = e.0
each-here logs n (a ∷ before) b rest e = each-here logs n before b rest e.1

-- a straggler at a tablet is one by all its operations there and what its parent held
pub straggler-held : (logs : Logs) (before : List AcceptedTablet) (b : AcceptedTablet) (rest : List AcceptedTablet)
    → accepted_tablets logs ≡ before ++ b ∷ rest → IsTree (before ++ b ∷ rest) → (n c : ℕ) (held : List Held)
    → ((h : ℕ) → holds b.header h ≡ true → is_held held n h ≡ waits_by n (writes_at h) false (line_above before h))
    → Each (OwnIn b.header) b.records
    → straggler logs n c b ≡ straggles any_op n c (waits_from b.header held n) b.records
unfolding straggler
straggler-held logs before b rest all tree n c held start own = both _ _ forth back
  where
    ops : Each (λ b. Each (OpsIn logs n) b.records) (before ++ b ∷ rest)
    ops = subst (λ bs. Each (λ b. Each (OpsIn logs n) b.records) bs) all (ops-in logs n)

    above : (k : List ℕ) → path_above (accepted_tablets logs) b k ≡ line_above before (hash_of k)
    above k = ap (flat_map (λ a. a.records)) (ap (λ bs. filter (λ a. holds a.header (hash_of k) && nat_lt a.header.id b.header.id) bs) all
        ∙ below_number (hash_of k) before b rest tree)

    key : (k : List ℕ)
        → straggles_at n c k (path_above (accepted_tablets logs) b k) b.records ≡ straggles (at_key k) n c
        (waits_by n (at_key k) false (line_above before (hash_of k))) b.records
    key k = ap (λ p. straggles_at n c k p b.records) (above k) ∙ straggles-key n c k (line_above before (hash_of k)) b.records

    held-at : (k : List ℕ) → holds b.header (hash_of k) ≡ true → waits_by n (at_key k) false (line_above before (hash_of k)) ≡ true
        → waits_from b.header held n ≡ true
    held-at k s w =
        let there : is_held held n (hash_of k) ≡ true =
        start (hash_of k) s
        ∙ waits-wider n (at_key k) (writes_at (hash_of k)) false false (line_above before (hash_of k)) (key-hash (hash_of k) k refl)
        (λ e. e) w in
        held-waits n (hash_of k) b.header held (rw (there, s) refl)

    forth : list_any
        (λ op. holds b.header (hash_of op.key) && straggles_at n c op.key (path_above (accepted_tablets logs) b op.key) b.records)
        (provisional_ops logs n) ≡ true → straggles any_op n c (waits_from b.header held n) b.records ≡ true
    forth e =
        let x = any-elim
        (λ (op : Op). holds b.header (hash_of op.key) && straggles_at n c op.key (path_above (accepted_tablets logs) b op.key)
        b.records) (provisional_ops logs n) e in
        let parts : (holds b.header (hash_of x.0.key) ≡ true) ×
        (straggles_at n c x.0.key (path_above (accepted_tablets logs) b x.0.key) b.records ≡ true) =
        and_parts (holds b.header (hash_of x.0.key)) (straggles_at n c x.0.key (path_above (accepted_tablets logs) b x.0.key) b.records) x.1
        in
        straggles-wider n c (at_key x.0.key) any_op (waits_by n (at_key x.0.key) false (line_above before (hash_of x.0.key)))
        (waits_from b.header held n) b.records (key-any x.0.key) (held-at x.0.key parts.0)
        (sym (key x.0.key) ∙ parts.1)

    begins : waits_from b.header held n ≡ true → WaitsAt logs n (λ k. holds b.header (hash_of k)) (λ k. line_above before (hash_of k) ++ [])
    begins e =
        let y : HeldAt b.header held n = held-somewhere b.header held n e in
        let waits : waits_by n (writes_at y.hash) false (line_above before y.hash) ≡ true = sym (start y.hash y.within) ∙ y.held_there in
        let none : false ≡ true → WaitsAt logs n (λ k. hash_of k == y.hash) (λ k. []) = λ f. absurd (false≢true f) in
        let x : WaitsAt logs n (λ k. hash_of k == y.hash) (λ k. line_above before y.hash) =
        waits-key logs n (writes_at y.hash) (λ k. hash_of k == y.hash) (λ k. []) (line_above before y.hash) false none
        (intends-hash logs n y.hash (line_above before y.hash)
        (each-flat (OpsIn logs n) (λ (a : AcceptedTablet). a.records) (at_hash y.hash before)
        (Each-filter (λ (a : AcceptedTablet). Each (OpsIn logs n) a.records) (λ a. holds a.header y.hash) before
        (each-before logs n before (b ∷ rest) ops))))
        waits in
        let same : hash_of x.key ≡ y.hash = eqb-true (hash_of x.key) y.hash x.passes in
        record {
          key = x.key;
          passes = ap (holds b.header) same ∙ y.within;
          own = x.own;
          waits = ap (waits_by n (at_key x.key) false) (append-nil (line_above before (hash_of x.key)) ∙ ap (line_above before) same)
              ∙ x.waits;
        }

    back : straggles any_op n c (waits_from b.header held n) b.records ≡ true
        → list_any (λ op. holds b.header (hash_of op.key) && straggles_at n c op.key (path_above (accepted_tablets logs) b op.key)
        b.records) (provisional_ops logs n) ≡ true
    back e =
        let x : StragglesAt logs n c (λ k. holds b.header (hash_of k)) (λ k. line_above before (hash_of k)) b.records =
        straggles-somewhere logs n c any_op (λ k. holds b.header (hash_of k)) (λ k. line_above before (hash_of k)) [] b.records
        (waits_from b.header held n) begins
        (intends-range logs n b.header b.records (each-here logs n before b rest ops) own) e in
        x.own (λ k. holds b.header (hash_of k) && straggles_at n c k (path_above (accepted_tablets logs) b k) b.records)
        (rw (x.passes, key x.key, x.straggles) refl)

-- nothing waits at a hash outside the range
nothing-at : (header : Header) (h : ℕ) (ops : List Op) → holds header h ≡ false → list_all (λ op. holds header (hash_of op.key)) ops ≡ true
    → writes_at h ops ≡ false
nothing-at header h [] e f = refl
nothing-at header h (op ∷ ops) e f =
    go (hash_of op.key == h) refl (nothing-at header h ops e)
    (and_parts (holds header (hash_of op.key)) (list_all (λ op. holds header (hash_of op.key)) ops) f)
  where
    go : (b : Bool) → hash_of op.key == h ≡ b → (list_all (λ op. holds header (hash_of op.key)) ops ≡ true → writes_at h ops ≡ false)
        → (holds header (hash_of op.key) ≡ true) × (list_all (λ op. holds header (hash_of op.key)) ops ≡ true)
        → (b || writes_at h ops) ≡ false
    go true same ih f = absurd (both_ways _ e (ap (holds header) (sym (eqb-true (hash_of op.key) h same)) ∙ f.0))
    go false same ih f = ih f.1

nothing-kind : (n h : ℕ) (header : Header) (r : Record) (kind : Kind) → r.kind ≡ kind → holds header h ≡ false → OwnIn header r
    → wait_kind n (writes_at h) false kind ≡ false
nothing-kind n h header r (Intent sub txn ops) is e o = grind (arith, nothing-at header h ops e (o.holds_all txn sub ops is))
nothing-kind n h header r kind is e o = grind arith

pub nothing-waits : (n h : ℕ) (header : Header) (rs : List Record) → holds header h ≡ false → Each (OwnIn header) rs
    → waits_by n (writes_at h) false rs ≡ false
nothing-waits n h header [] e o = refl
nothing-waits n h header (r ∷ rs) e o =
    ap (λ w. waits_by n (writes_at h) w rs) (nothing-kind n h header r r.kind refl e o.0) ∙ nothing-waits n h header rs e o.1
