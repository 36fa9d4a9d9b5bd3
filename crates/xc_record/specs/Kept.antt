-- What a target tablet keeps at one key, what one event of the key's path does to it, and what is read of it.
--     Kept      the versions, by commit and transaction number, and the operations that wait, in the order of the path
--     step e x      what is kept after the event e: it sees what is kept, and no path
--     kept_from u xs      of the versions with commit at most u only the newest, and all later ones
--     newest t xs      the newest version with commit at most t, as a list of one, or none
use Rattle.std.specs.Prelude.{ℕ, Bool, ◌==◌, not, bytes_eq, map, true, false, nat_lt, nat_le, List, [], ◌∷◌, ◌++◌, Option, None}
use Rattle.std.specs.Prelude.{if◌then◌else◌, filter}
use Rattle.xc_record.specs.Path.{Event, Put, Hold, Apply, Abort, Safe, Written, Version, Waiting, version_cmp}
use Rattle.xc_record.specs.Lists.{put_after, has}
use Rattle.xc_record.specs.Rows.{rows_after}
use Rattle.xc_record.specs.declared.record.Op.{Op}

pub record Kept : Type 0 where
  pub versions : List Version
  pub held : List Waiting

-- ---- versions in order

-- a version behind those that tie with it
abbrev pub add : Version → List Version → List Version
add v vs = put_after version_cmp v vs

-- ---- one event

abbrev pub is_of : ℕ → Waiting → Bool
is_of n w = n == w.txn

abbrev pub is_of_other : ℕ → Waiting → Bool
is_of_other n w = if n == w.txn then false else true

-- what was not rolled back
abbrev pub is_kept : List ℕ → Waiting → Bool
is_kept without w = not (has w.sub without)

-- adds what waited as versions of this commit, one after another
abbrev pub add_all : ℕ → List Waiting → List Version → List Version
add_all commit [] vs = vs
add_all commit (w ∷ ws) vs = add_all commit ws (add (record { commit = commit; txn = w.txn; value = w.value }) vs)

abbrev pub step : Event → Kept → Kept
step (Put time v) x = record { versions = add (record { commit = time; txn = 0; value = v }) x.versions; held = x.held }
step (Hold n sub time v) x = record { versions = x.versions; held = x.held ++ record { txn = n; sub = sub; value = v } ∷ [] }
step (Apply n commit without) x = record {
  versions = add_all commit (filter (is_kept without) (filter (is_of n) x.held)) x.versions;
  held = filter (is_of_other n) x.held;
}
step (Abort n) x = record { versions = x.versions; held = filter (is_of_other n) x.held }
step (Safe value) x = x

abbrev pub steps : List Event → Kept → Kept
steps [] x = x
steps (e ∷ es) x = steps es (step e x)

-- ---- times

abbrev pub upto : ℕ → Version → Bool
upto t x = nat_le x.commit t

abbrev pub above : ℕ → Version → Bool
above t x = nat_lt t x.commit

-- the last element as a list of one, or no element
abbrev pub last_of : {A : Type 0} → List A → List A
last_of [] = []
last_of (x ∷ []) = x ∷ []
last_of (x ∷ (y ∷ ys)) = last_of (y ∷ ys)

abbrev pub kept_from : ℕ → List Version → List Version
kept_from u xs = last_of (filter (upto u) xs) ++ filter (above u) xs

abbrev pub newest : ℕ → List Version → List Version
newest t xs = last_of (filter (upto t) xs)

-- the value of a version that is there and sets the key
abbrev pub value_of : List Version → Option (List ℕ)
value_of [] = None
value_of (x ∷ xs) = x.value

-- what is shown of versions at t
abbrev pub shown : ℕ → List Version → Option (List ℕ)
shown t vs = value_of (newest t vs)

-- what a read of the key at t answers
abbrev pub read : ℕ → Kept → Option (List ℕ)
read t x = shown t x.versions

-- a cutoff w is kept from
abbrev pub pruned : ℕ → Kept → Kept
pruned w x = record { versions = kept_from w x.versions; held = x.held }

-- a restore to t: no version after t, and nothing waits
abbrev pub restored : ℕ → Kept → Kept
restored t x = record { versions = filter (upto t) x.versions; held = [] }

-- ---- versions and operations of many keys

pub record KeyVersion : Type 0 where
  pub key : List ℕ
  pub commit : ℕ
  pub txn : ℕ
  pub value : Written

pub record KeyWaiting : Type 0 where
  pub key : List ℕ
  pub txn : ℕ
  pub sub : ℕ
  pub value : Written

abbrev pub version_of : KeyVersion → Version
version_of v = record { commit = v.commit; txn = v.txn; value = v.value }

abbrev pub waiting_of : KeyWaiting → Waiting
waiting_of w = record { txn = w.txn; sub = w.sub; value = w.value }

-- those of the key
abbrev pub versions_at : List ℕ → List KeyVersion → List Version
versions_at k vs = map version_of (filter (λ v. bytes_eq k v.key) vs)

abbrev pub waiting_at : List ℕ → List KeyWaiting → List Waiting
waiting_at k ws = map waiting_of (filter (λ w. bytes_eq k w.key) ws)

abbrev pub written_by : KeyVersion → Op
written_by v = record { key = v.key; value = v.value }

-- the rows that versions show at t, in byte order of keys: of each key the newest version with commit at most t, unless it removes the key
abbrev pub rows_at : ℕ → List KeyVersion → List (List ℕ × List ℕ)
rows_at t vs = rows_after (map written_by (filter (λ v. nat_le v.commit t) vs)) []
