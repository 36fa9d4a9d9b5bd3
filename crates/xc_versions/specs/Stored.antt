-- Versions of many keys as they are kept: in order, with room for some more.
--     Store      what contracts see: the versions in order, and how many more can be added without memory
--     stored key commit txn place value      a version
--     stored_cmp      by the bytes of the key, then by commit, transaction number and place
--     InOrder xs      each stands before all that follow it
--     IsLast v xs      v stands behind those of its key, commit and number by its place
--     IsNew v xs      none of them is of the same key, commit, number and place as v
--     with_version v xs      v put in its place
--     kept u xs      without those of commit at most u that a later one of the key, of commit at most u, has replaced
--     up_to t xs      those of commit at most t
--     reaches k t x      x stands at or before all versions of the key k with commit at most t
--     key_versions xs      the same versions without their places
use Rattle.std.specs.Prelude.{◌≡◌, ◌<◌, ℕ, Bool, true, false, ◌&&◌, bytes_eq, nat_le, Option, Some, None, List, [], ◌∷◌, map, filter}
use Rattle.std.specs.Prelude.{if◌then◌else◌}
use Rattle.std.specs.List.{AllByRecursion, list_any}
use Rattle.std.specs.declared.cmp.Ordering.{Ordering}
use Rattle.std.specs.declared.cmp.Ordering.TheVariants.{Less, Equal}
use Rattle.std.specs.Ordering.{nat_cmp, ordering_then, match_ordering}
use Rattle.std.specs.Cmp.Lexicographic.{slice_cmp}
use Rattle.xc_record.specs.Path.{Written, Version}
use Rattle.xc_record.specs.Kept.{KeyVersion, versions_at}
use Rattle.xc_record.specs.Lists.{insert_by}
use Rattle.xc_versions.specs.declared.stored.StoredVersion.{StoredVersion}

pub record Store : Type 0 where
  pub items : List StoredVersion
  pub spare : ℕ

abbrev pub stored : List ℕ → ℕ → ℕ → ℕ → Written → StoredVersion
stored key commit txn place value = record { commit = commit; place = place; txn = txn; value = value; key = key }

-- ---- order

abbrev pub stored_cmp : StoredVersion → StoredVersion → Ordering
stored_cmp x y =
    ordering_then (slice_cmp nat_cmp x.key y.key)
    (ordering_then (nat_cmp x.commit y.commit) (ordering_then (nat_cmp x.txn y.txn) (nat_cmp x.place y.place)))

abbrev pub IsBefore : StoredVersion → StoredVersion → Type 0
IsBefore x y = stored_cmp x y ≡ Less

abbrev pub InOrder : List StoredVersion → Type 0
InOrder [] = Unit {0}
InOrder (x ∷ xs) = AllByRecursion (IsBefore x) xs × InOrder xs

abbrev pub IsNew : StoredVersion → List StoredVersion → Type 0
IsNew v xs = AllByRecursion (λ x. ¬ (stored_cmp v x ≡ Equal)) xs

-- its place is above those of the versions of its key, commit and number
abbrev pub IsLast : StoredVersion → List StoredVersion → Type 0
IsLast v xs = AllByRecursion (λ x. x.key ≡ v.key → x.commit ≡ v.commit → x.txn ≡ v.txn → x.place < v.place) xs

-- ---- what the calls do

abbrev pub with_version : StoredVersion → List StoredVersion → List StoredVersion
with_version v xs = insert_by stored_cmp v xs

-- a later version of the key has a commit of at most u
abbrev pub is_replaced : ℕ → StoredVersion → List StoredVersion → Bool
is_replaced u x later = list_any (λ y. bytes_eq x.key y.key && nat_le y.commit u) later

-- the commit of the first of them, where it is of the key
abbrev pub next_commit : StoredVersion → List StoredVersion → Option ℕ
next_commit x [] = None
next_commit x (y ∷ ys) = if bytes_eq x.key y.key then Some y.commit else None

abbrev pub is_due : ℕ → Option ℕ → Bool
is_due u None = false
is_due u (Some commit) = nat_le commit u

-- the first of them is of the key and has a commit of at most u
abbrev pub next_replaces : ℕ → StoredVersion → List StoredVersion → Bool
next_replaces u x later = is_due u (next_commit x later)

-- In order, a version that was replaced at u has itself a commit of at most u.
abbrev pub kept : ℕ → List StoredVersion → List StoredVersion
kept u [] = []
kept u (x ∷ xs) = if is_replaced u x xs then kept u xs else (x ∷ kept u xs)

abbrev pub up_to : ℕ → List StoredVersion → List StoredVersion
up_to t xs = filter (λ x. nat_le x.commit t) xs

-- the version is of a lesser key, or of this key with commit at most t
abbrev pub reaches : List ℕ → ℕ → StoredVersion → Bool
reaches k t x = match_ordering (slice_cmp nat_cmp x.key k) true (nat_le x.commit t) false

-- ---- what a key's versions are

abbrev pub without_place : StoredVersion → KeyVersion
without_place x = record { key = x.key; commit = x.commit; txn = x.txn; value = x.value }

abbrev pub key_versions : List StoredVersion → List KeyVersion
key_versions xs = map without_place xs

abbrev pub stored_at : List ℕ → List StoredVersion → List Version
stored_at k xs = versions_at k (key_versions xs)

-- ---- a prune from the last version to the first

-- xs without those that the next version, of xs or of rest behind it, replaces at u; and rest
abbrev pub pruned_before : ℕ → List StoredVersion → List StoredVersion → List StoredVersion
pruned_before u [] rest = rest
pruned_before u (x ∷ xs) rest =
    if next_replaces u x (pruned_before u xs rest) then pruned_before u xs rest else (x ∷ pruned_before u xs rest)
