-- Tablets of the target over small logs, from a new one on, record by record, and that each stands for the logs. The logs have a split
-- tablet, a transaction over both of its children, a removal, and a subtransaction that was rolled back. Their keys are a and z.
use Rattle.xc_model.proofs.Common.{◌≡◌, ℕ, ◌+◌, true, false, List, [], ◌∷◌, Bool, Some, None, refl, sym, subst, arith, ⊎_elim, codes}
use Rattle.xc_model.proofs.Common.{slice_index, slice_set, bytes_eq, if◌then◌else◌, cases_Bool, false≢true, bytes_eq-Decides, Record}
use Rattle.xc_model.proofs.Common.{record_events, is_valid, headers_of, Kept, KeyVersion, KeyWaiting, steps, list_all, and_parts, ◌&&◌, map}
use Rattle.xc_record.specs.declared.record.Kind.TheVariants.{Write, Intent, Apply, Safe, Split}
use Rattle.xc_record.proofs.WorkedLogs.{computed, at, sets, removes, a, z, with_both_children as logs}
use Rattle.xc_model.{proofs.Elements.all-each, specs.Floors.floors_after, proofs.KeepLaws.new-stands, proofs.Batches.batches-grow}
use Rattle.xc_model.specs.Stands.{TargetTablet, in_range, kept_at, StandsFor, new_tablet, owned_by, TakesIn, TakesAll}
use Rattle.xc_model.proofs.DeliverLaw.{deliveries-keep, batches-keep}

pub valid : is_valid logs ≡ true
unfolding computed
valid = refl

-- ---- key by key

pub record IsOther (k : List ℕ) : Type 0 where
  pub a : bytes_eq k a ≡ false
  pub z : bytes_eq k z ≡ false

pub by-key : (P : List ℕ → Type 0) → P a → P z → ((k : List ℕ) → IsOther k → P k) → (k : List ℕ) → P k
by-key P at-a at-z at-other k = ⊎_elim (λ e. subst P (sym ((bytes_eq-Decides k a).0 e)) at-a)
    (λ not-a. ⊎_elim (λ e. subst P (sym ((bytes_eq-Decides k z).0 e)) at-z) (λ not-z. at-other k (record { a = not-a; z = not-z }))
    (cases_Bool (bytes_eq k z)))
    (cases_Bool (bytes_eq k a))

-- ---- one more record

-- x after the record r of the source tablet s, with these versions and these operations that wait
abbrev after : ℕ → Record → List KeyVersion → List KeyWaiting → TargetTablet → TargetTablet
after s r versions held x = record x {
  places = slice_set x.places s (slice_index x.places s + 1);
  floors = floors_after s r.kind x.floors;
  versions = versions;
  held = held;
}

-- what y keeps at k is what the record makes of what x keeps there
abbrev At : ℕ → Record → TargetTablet → TargetTablet → List ℕ → Type 0
At s r x y k = kept_at y k ≡ if owned_by x s k then steps (record_events k r) (kept_at x k) else kept_at x k

taken : (s : ℕ) (r : Record) (vs : List KeyVersion) (ws : List KeyWaiting) (x : TargetTablet)
    → ((k : List ℕ) → in_range x k ≡ true → At s r x (after s r vs ws x) k)
    → (list_all (λ v. in_range x v.key) vs && list_all (λ w. in_range x w.key) ws) ≡ true → TakesIn s r x (after s r vs ws x)
taken s r vs ws x keys within = record {
  range = (refl, refl);
  places = refl;
  floors = refl;
  keys = keys;
  within = record {
    versions = all-each (λ v. in_range x v.key) vs (and_parts _ _ within).0;
    held = all-each (λ w. in_range x w.key) ws (and_parts _ _ within).1;
  };
}

-- ---- records one after another

-- a record, and the versions and the operations that wait after it
record Stage : Type 0 where
  r : Record
  versions : List KeyVersion
  held : List KeyWaiting

abbrev to : Record → List KeyVersion → List KeyWaiting → Stage
to r versions held = record { r = r; versions = versions; held = held }

abbrev next : ℕ → Stage → TargetTablet → TargetTablet
next s t x = after s t.r t.versions t.held x

abbrev through : ℕ → List Stage → TargetTablet → TargetTablet
through s [] x = x
through s (t ∷ ts) x = through s ts (next s t x)

abbrev AtEach : ℕ → List Stage → TargetTablet → List ℕ → Type 0
AtEach s [] x k = Unit {0}
AtEach s (t ∷ ts) x k = At s t.r x (next s t x) k × AtEach s ts (next s t x) k

abbrev within : TargetTablet → List Stage → Bool
within x ts = list_all (λ t. list_all (λ v. in_range x v.key) t.versions && list_all (λ w. in_range x w.key) t.held) ts

all-taken : (s : ℕ) (ts : List Stage) (x : TargetTablet) → ((k : List ℕ) → in_range x k ≡ true → AtEach s ts x k)
    → within x ts ≡ true → TakesAll s (map (λ t. t.r) ts) x (through s ts x)
all-taken s [] x keys all = refl
all-taken s (t ∷ ts) x keys all = let parts = and_parts _ _ all in (
  next s t x,
  (taken s t.r t.versions t.held x (λ k e. (keys k e).0) parts.0, all-taken s ts (next s t x) (λ k e. (keys k e).1) parts.1),
)

-- a key out of the range
beyond : {A : Type 0} → false ≡ true → A
beyond e = absurd (false≢true e)

-- where the record changes nothing, it doesn't matter whether its tablet owns the key
either : (b : Bool) (x : Kept) → x ≡ if b then x else x
either true x = refl
either false x = refl

-- ---- the records

abbrev the_write : Record
the_write = at 10 (Write (sets a (codes "1") ∷ sets z (codes "2") ∷ []))

-- of the subtransaction that is rolled back
abbrev undone_intent : Record
undone_intent = at 11 (Intent 1 5 (sets a (codes "8") ∷ []))

abbrev the_intent : Record
the_intent = at 12 (Intent 0 5 (sets a (codes "3") ∷ removes z ∷ []))

abbrev parent_safe : Record
parent_safe = at 13 (Safe 12)

abbrev pub the_split : Record
the_split = at 14 (Split 32768 1 2)

abbrev pub before_split : List Record
before_split = the_write ∷ undone_intent ∷ the_intent ∷ parent_safe ∷ []

abbrev pub parent_records : List Record
parent_records = the_write ∷ undone_intent ∷ the_intent ∷ parent_safe ∷ the_split ∷ []

abbrev pub left_apply : Record
left_apply = at 18 (Apply 5 16 (1 ∷ []))

abbrev left_safe : Record
left_safe = at 20 (Safe 19)

abbrev right_apply : Record
right_apply = at 21 (Apply 5 16 (1 ∷ []))

abbrev right_safe : Record
right_safe = at 23 (Safe 22)

abbrev pub right_records : List Record
right_records = right_apply ∷ right_safe ∷ []

-- ---- what is kept

abbrev pub version : List ℕ → ℕ → ℕ → List ℕ → KeyVersion
version key commit txn value = record { key = key; commit = commit; txn = txn; value = Some value }

abbrev pub removed : List ℕ → ℕ → ℕ → KeyVersion
removed key commit txn = record { key = key; commit = commit; txn = txn; value = None }

abbrev written : List KeyVersion
written = version a 10 0 (codes "1") ∷ version z 10 0 (codes "2") ∷ []

abbrev waits-undone : KeyWaiting
waits-undone = record { key = a; txn = 5; sub = 1; value = Some (codes "8") }

abbrev waits-a : KeyWaiting
waits-a = record { key = a; txn = 5; sub = 0; value = Some (codes "3") }

abbrev waits-z : KeyWaiting
waits-z = record { key = z; txn = 5; sub = 0; value = None }

abbrev waits : List KeyWaiting
waits = waits-undone ∷ waits-a ∷ waits-z ∷ []

abbrev written-a : List KeyVersion
written-a = version a 10 0 (codes "1") ∷ version a 16 5 (codes "3") ∷ version z 10 0 (codes "2") ∷ []

abbrev written-both : List KeyVersion
written-both = version a 10 0 (codes "1") ∷ version a 16 5 (codes "3") ∷ version z 10 0 (codes "2") ∷ removed z 16 5 ∷ []

-- ---- tablets of all hashes, after the parent's records

abbrev pub new : TargetTablet
new = new_tablet 0 65535 (headers_of logs.tablets)

pub new-stands-for : StandsFor logs 0 new
new-stands-for = new-stands logs 0 65535 valid

abbrev first_stages : List Stage
first_stages = to the_write written [] ∷ to undone_intent written (waits-undone ∷ []) ∷ to the_intent written waits ∷ []

-- three of the parent's records
abbrev pub after_intent : TargetTablet
after_intent = through 0 first_stages new

abbrev pub after_safe : TargetTablet
after_safe = after 0 parent_safe written waits after_intent

-- the transaction waits
abbrev pub early : TargetTablet
early = after 0 the_split written waits after_safe

three-taken : TakesAll 0 (the_write ∷ undone_intent ∷ the_intent ∷ []) new after_intent
unfolding computed
three-taken = all-taken 0 first_stages new
    (by-key (λ k. in_range new k ≡ true → AtEach 0 first_stages new k) (λ _. (refl, (refl, (refl, tt))))
    (λ _. (refl, (refl, (refl, tt)))) (λ k other _. rw (other.a, other.z) (either _ _, (either _ _, (either _ _, tt))))) refl

safe-taken : TakesIn 0 parent_safe after_intent after_safe
unfolding computed
safe-taken = taken 0 parent_safe written waits after_intent (λ k _. either _ _) refl

pub split-taken : TakesIn 0 the_split after_safe early
unfolding computed
split-taken = taken 0 the_split written waits after_safe (λ k _. either _ _) refl

pub before-split-taken : TakesAll 0 before_split new after_safe
before-split-taken = batches-grow 0
    (the_write ∷ undone_intent ∷ the_intent ∷ []) parent_safe new after_intent after_safe three-taken safe-taken

pub last-taken : TakesAll 0 (parent_safe ∷ the_split ∷ []) after_intent early
last-taken = (after_safe, (safe-taken, (early, (split-taken, refl))))

three-stand : StandsFor logs 0 after_intent
unfolding computed
three-stand = batches-keep logs new after_intent 0 0 1 (the_write ∷ undone_intent ∷ the_intent ∷ []) new-stands-for refl
    (omega arith) (omega arith) refl three-taken

-- the records from the second on, of which two are skipped
pub early-stands : StandsFor logs 0 early
unfolding computed
early-stands = batches-keep logs after_intent early 0 0 2 (undone_intent ∷ the_intent ∷ parent_safe ∷ the_split ∷ []) three-stand refl
    (omega arith) (omega arith) refl last-taken

-- ---- and after the children's

-- after the apply of the left child
abbrev pub half : TargetTablet
half = after 1 left_apply written-a (waits-z ∷ []) early

abbrev after_left : TargetTablet
after_left = after 1 left_safe written-a (waits-z ∷ []) half

abbrev right_stages : List Stage
right_stages = to right_apply written-both [] ∷ to right_safe written-both [] ∷ []

abbrev pub drained : TargetTablet
drained = through 2 right_stages after_left

pub left_apply-taken : TakesIn 1 left_apply early half
unfolding computed
left_apply-taken = taken 1 left_apply written-a (waits-z ∷ []) early (by-key (λ k. in_range early k ≡ true → At 1 left_apply early half k)
    (λ _. refl) (λ _. refl) (λ k other _. rw (other.a, other.z) (either _ _))) refl

pub half-stands : StandsFor logs 0 half
unfolding computed
half-stands = deliveries-keep logs early half 0 1 left_apply early-stands refl refl left_apply-taken

left-stands : StandsFor logs 0 after_left
unfolding computed
left-stands = deliveries-keep logs half after_left 0 1 left_safe half-stands refl refl
    (taken 1 left_safe written-a (waits-z ∷ []) half (λ k _. either _ _) refl)

pub drained-stands : StandsFor logs 0 drained
unfolding computed
drained-stands = batches-keep logs after_left drained 0 2 1 right_records left-stands refl (omega arith) (omega arith) refl
    (all-taken 2 right_stages after_left (by-key (λ k. in_range after_left k ≡ true → AtEach 2 right_stages after_left k)
    (λ _. (refl, (refl, tt))) (λ _. (refl, (refl, tt))) (λ k other _. rw (other.a, other.z) (either _ _, (either _ _, tt)))) refl)

-- ---- a tablet of the lower hashes; that of z is not among them

abbrev lower_new : TargetTablet
lower_new = new_tablet 0 32767 (headers_of logs.tablets)

abbrev lower_written : List KeyVersion
lower_written = version a 10 0 (codes "1") ∷ []

abbrev lower_waits : List KeyWaiting
lower_waits = waits-undone ∷ waits-a ∷ []

abbrev lower_committed : List KeyVersion
lower_committed = version a 10 0 (codes "1") ∷ version a 16 5 (codes "3") ∷ []

abbrev lower_stages : List Stage
lower_stages = to the_write lower_written [] ∷ to undone_intent lower_written (waits-undone ∷ []) ∷ to the_intent lower_written lower_waits
    ∷ to parent_safe lower_written lower_waits ∷ to the_split lower_written lower_waits ∷ []

abbrev lower_split : TargetTablet
lower_split = through 0 lower_stages lower_new

lower_split-stands : StandsFor logs 0 lower_split
unfolding computed
lower_split-stands = batches-keep logs lower_new lower_split 0 0 1 parent_records
    (new-stands logs 0 32767 valid) refl (omega arith) (omega arith) refl
    (all-taken 0 lower_stages lower_new (by-key (λ k. in_range lower_new k ≡ true → AtEach 0 lower_stages lower_new k)
    (λ _. (refl, (refl, (refl, (refl, (refl, tt)))))) beyond
    (λ k other _. rw (other.a, other.z) (either _ _, (either _ _, (either _ _, (either _ _, (either _ _, tt))))))) refl)

abbrev left_stages : List Stage
left_stages = to left_apply lower_committed [] ∷ to left_safe lower_committed [] ∷ []

-- after the parent's and the left child's records
abbrev pub lower : TargetTablet
lower = through 1 left_stages lower_split

pub lower-stands : StandsFor logs 0 lower
unfolding computed
lower-stands = batches-keep logs lower_split lower 0 1 1 (left_apply ∷ left_safe ∷ []) lower_split-stands refl (omega arith)
    (omega arith) refl (all-taken 1 left_stages lower_split
    (by-key (λ k. in_range lower_split k ≡ true → AtEach 1 left_stages lower_split k)
    (λ _. (refl, (refl, tt))) beyond (λ k other _. rw other.a (either _ _, (either _ _, tt)))) refl)

-- ---- a tablet of the upper hashes; that of a is not among them

abbrev upper_new : TargetTablet
upper_new = new_tablet 32768 65535 (headers_of logs.tablets)

abbrev upper_written : List KeyVersion
upper_written = version z 10 0 (codes "2") ∷ []

abbrev upper_committed : List KeyVersion
upper_committed = version z 10 0 (codes "2") ∷ removed z 16 5 ∷ []

abbrev upper_stages : List Stage
upper_stages = to the_write upper_written [] ∷ to undone_intent upper_written [] ∷ to the_intent upper_written (waits-z ∷ [])
    ∷ to parent_safe upper_written (waits-z ∷ []) ∷ to the_split upper_written (waits-z ∷ []) ∷ []

abbrev upper_split : TargetTablet
upper_split = through 0 upper_stages upper_new

upper_split-stands : StandsFor logs 0 upper_split
unfolding computed
upper_split-stands = batches-keep logs upper_new upper_split 0 0 1 parent_records
    (new-stands logs 32768 65535 valid) refl (omega arith) (omega arith) refl
    (all-taken 0 upper_stages upper_new (by-key (λ k. in_range upper_new k ≡ true → AtEach 0 upper_stages upper_new k) beyond
    (λ _. (refl, (refl, (refl, (refl, (refl, tt))))))
    (λ k other _. rw (other.a, other.z) (either _ _, (either _ _, (either _ _, (either _ _, (either _ _, tt))))))) refl)

-- after the parent's records and the right child's apply
abbrev pub upper : TargetTablet
upper = after 2 right_apply upper_committed [] upper_split

pub upper-stands : StandsFor logs 0 upper
unfolding computed
upper-stands = deliveries-keep logs upper_split upper 0 2 right_apply upper_split-stands refl refl
    (taken 2 right_apply upper_committed [] upper_split (by-key (λ k. in_range upper_split k ≡ true → At 2 right_apply upper_split upper k)
    beyond (λ _. refl) (λ k other _. rw other.z (either _ _))) refl)
