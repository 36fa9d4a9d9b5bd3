-- Laws of the records of the tablets one by one: how many there are, and what applies among them.
use Rattle.std.proofs.Common.{◌≡◌, ℕ, ◌+◌, ◌<◌, ◌≤◌, ◌^◌, List, [], ◌∷◌, ◌++◌, length, map, take, get_or, sum_by, ap, sym, ◌∙◌, subst}
use Rattle.std.proofs.Common.{arith, length-append, length-take}
use Rattle.std.proofs.lemmas.List.{append-nil, length-map, take_all}
use Rattle.std.proofs.lemmas.List.Sums.{sum_by_more}
use Rattle.std.proofs.lemmas.List.Concat.{flat_map-append}
use Rattle.xc_record.specs.declared.record.Record.{Record}
use Rattle.xc_record.specs.declared.record.Tablet.{Tablet}
use Rattle.xc_record.specs.Accepted.{AcceptedTablet, accepted_tablets_after, accepted_tablet_after}
use Rattle.xc_record.specs.Lists.{distinct}
use Rattle.xc_logs.proofs.ValidFacts.{IsWellFormed}
use Rattle.xc_agree.specs.declared.commits.Commit.{Commit}
use Rattle.xc_agree.specs.declared.run.Run.{Run}
use Rattle.xc_agree.specs.declared.tally.Applies.{Applies}
use Rattle.xc_agree.specs.declared.tally.Tally.{Tally}
use Rattle.xc_agree.specs.Runs.{IsRun}
use Rattle.xc_agree.specs.Slots.{time_of, without_of}
use Rattle.xc_agree.specs.Tally.{applies_in, writes, IsTally}
use Rattle.xc_agree.specs.Cases.{all_records, of_tablets}
use Rattle.xc_agree.proofs.RunLaws.{tablets-more}
use Rattle.xc_agree.proofs.SplitLaws.{sum-at}
use Rattle.xc_agree.proofs.TallyLaws.{applies-append, writes-append, count-within, distinct-within, time-applies, without-applies}
use Rattle.xc_agree.proofs.TallyLaws.{txns-applies}

-- all accepted records of these tablets
abbrev pub records_of : List Tablet → List Record
records_of ts = all_records (accepted_tablets_after [] ts)

-- one tablet more
records-more : (ts : List Tablet) (i : ℕ) (t : Tablet) (run : Run)
    → IsRun run (accepted_tablet_after (accepted_tablets_after [] (take i ts)) t) t → i < length ts → t ≡ get_or ts i t
    → records_of (take (i + 1) ts) ≡ records_of (take i ts) ++ take run.walk.accepted t.records
records-more ts i t run h below is =
    let bs : List AcceptedTablet = accepted_tablets_after [] (take i ts) in
    let b : AcceptedTablet = accepted_tablet_after bs t in
    ap all_records (tablets-more ts i t below is) ∙ flat_map-append (λ (b : AcceptedTablet). b.records) bs (b ∷ [])
    ∙ ap (λ xs. all_records bs ++ xs) (append-nil b.records ∙ h.records)

sum-more : (ts : List Tablet) (i : ℕ) (t : Tablet) → i < length ts → t ≡ get_or ts i t
    → sum_by (λ t. length t.records) (take (i + 1) ts) ≡ sum_by (λ t. length t.records) (take i ts) + length t.records
sum-more ts i t below is =
    sum_by_more (λ t. length t.records) ts i t below
    ∙ ap (λ (u : Tablet). sum_by (λ t. length t.records) (take i ts) + length u.records) (sym is)

-- the applies and the writes of the tablets, of which there are no more than records
pub record AreNoted (applies : Applies) (ts : List Tablet) : Type 0 where
  pub items : applies.items.items ≡ applies_in (records_of ts)
  pub writes : applies.writes ≡ writes (records_of ts)
  pub within : length (records_of ts) ≤ sum_by (λ t. length t.records) ts

pub note-bound : (ts : List Tablet) (i : ℕ) (t : Tablet) (run : Run) (applies : Applies) (rs : List Record) → IsWellFormed (of_tablets ts)
    → i < length ts → t ≡ get_or ts i t → rs ≡ take run.walk.accepted t.records
    → AreNoted applies (take i ts) → applies.writes + length rs < 2 ^ 63
note-bound ts i t run applies rs s below is e k =
    let sum = sum-at ts i t below is in
    let part : length rs ≤ length t.records = omega (arith, ap length e, length-take run.walk.accepted t.records) in
    let within = count-within (records_of (take i ts)) in
    omega (arith, s.records, k.writes, k.within)

pub note-more : (ts : List Tablet) (i : ℕ) (t : Tablet) (run : Run) (old new : Applies) (rs : List Record)
    → IsRun run (accepted_tablet_after (accepted_tablets_after [] (take i ts)) t) t → i < length ts → t ≡ get_or ts i t
    → rs ≡ take run.walk.accepted t.records → AreNoted old (take i ts) → new.items.items ≡ old.items.items ++ applies_in rs
    → new.writes ≡ old.writes + writes rs → AreNoted new (take (i + 1) ts)
note-more ts i t run old new rs h below is e k items count =
    let more : records_of (take (i + 1) ts) ≡ records_of (take i ts) ++ rs =
    records-more ts i t run h below is ∙ ap (λ xs. records_of (take i ts) ++ xs) (sym e) in
    let part : length rs ≤ length t.records = omega (arith, ap length e, length-take run.walk.accepted t.records) in
    record {
      items = items ∙ ap (λ xs. xs ++ applies_in rs) k.items ∙ sym (applies-append (records_of (take i ts)) rs) ∙ ap applies_in (sym more);
      writes = let w = ap writes more ∙ writes-append (records_of (take i ts)) rs in omega (arith, count, k.writes);
      within = let l = ap length more ∙ length-append (records_of (take i ts)) rs in omega (arith, k.within, sum-more ts i t below is);
    }

-- past the last tablet
pub noted-all : (ts : List Tablet) (i : ℕ) (applies : Applies) → length ts ≤ i → AreNoted applies (take i ts) → AreNoted applies ts
noted-all ts i applies h k = subst (AreNoted applies) (take_all i ts h) k

pub count-bound : (ts : List Tablet) (applies : Applies) (n : ℕ) → IsWellFormed (of_tablets ts) → AreNoted applies ts
    → n ≡ length (distinct (map (λ c. c.txn) applies.items.items)) → applies.writes + n < 2 ^ 63
count-bound ts applies n s k e =
    let within = count-within (records_of ts) in
    let long = distinct-within (map (λ (c : Commit). c.txn) applies.items.items) in
    omega (arith, s.records, k.writes, k.within, ap length k.items, length-map applies.items.items (λ (c : Commit). c.txn))

-- what the applies of all tablets make
pub tally-noted : (ts : List Tablet) (applies : Applies) (tally : Tally) → AreNoted applies ts
    → ((n : ℕ) → time_of tally.commits n ≡ time_of applies.items.items n)
    → ((n : ℕ) → without_of tally.commits n ≡ without_of applies.items.items n)
    → length tally.commits ≡ length (distinct (map (λ c. c.txn) applies.items.items)) → tally.count ≡ applies.writes + length tally.commits
    → IsTally tally (records_of ts)
tally-noted ts applies tally k times undone long count = record {
  times = λ n. times n ∙ ap (λ cs. time_of cs n) k.items ∙ time-applies (records_of ts) n;
  undone = λ n. undone n ∙ ap (λ cs. without_of cs n) k.items ∙ without-applies (records_of ts) n;
  count = let l = long ∙ ap (λ (cs : List Commit). length (distinct (map (λ c. c.txn) cs))) k.items
      ∙ ap (λ ns. length (distinct ns)) (txns-applies (records_of ts)) in omega (arith, count, k.writes);
}
