-- The calls on the transaction that began last, of which the others are not live: none is refused.
use Rattle.std.proofs.Common.{◌≡◌, ℕ, ◌+◌, ◌≤◌, true, false, List, [], ◌∷◌, ◌++◌, length, Some, None}
use Rattle.std.proofs.Common.{refl, ap, sym, ◌∙◌, subst, arith}
use Rattle.std.specs.Prelude.{not, is_none, option_map, sum_by, cond}
use Rattle.std.specs.Option.{option_map_or}
use Rattle.std.proofs.lemmas.Bool.Decides.{nat_tests}
use Rattle.std.proofs.lemmas.List.Sums.{sum_by_push}
use Rattle.xc_record.specs.declared.record.Kind.TheVariants as kind
use Rattle.xc_record.specs.declared.record.Op.{Op}
use Rattle.xc_record.proofs.ListLaws.{Each}
use Rattle.xc_source.specs.declared.command.SourceCommand.{SourceCommand}
use Rattle.xc_source.specs.declared.command.SourceCommand.TheVariants as command
use Rattle.xc_source.specs.declared.fail.SourceFail.TheVariants.{Unknown, Ended, Conflict, Full}
use Rattle.xc_source.specs.declared.transaction.Provisional.{Provisional}
use Rattle.xc_source.specs.declared.workload.TheConstants.{MOST_STEPS}
use Rattle.xc_source.specs.Machine.{Machine, Transaction, transaction, with_transaction, begun, is_live}
use Rattle.xc_source.specs.Waiting.{tablets_of}
use Rattle.xc_source.specs.Calls as call
use Rattle.xc_source.specs.Calls.{logged, written, committed, aborted, to_transaction, with_aborts, when}
use Rattle.xc_source.specs.Commands.{step}
use Rattle.xc_source_laws.proofs.Answered.{none-of, no-when, answers, leaves, Room, not-full, not-ended}
use Rattle.xc_source_laws.proofs.Loads.{waits_in, waiting, Little, little-then, little-logged, little-txn, aborts-logged, waiting-begun}
use Rattle.xc_source_laws.proofs.Loads.{waiting-set, waits-aborted, Own, own-there, own-set, NotLive, no-own-conflict}
use Rattle.xc_source_laws.proofs.Places.{Sole, places-few}

-- the command is answered, and leaves the transaction so
pub record Did (c : SourceCommand) (m : Machine) (xs : List Transaction) (t : Transaction) (a : ℕ) : Type 0 where
  pub answered : (step c m).0 ≡ None
  pub own : Own (step c m).1 xs t
  pub little : Little a m (step c m).1

pub did-begin : (m : Machine) → length m.txns ≤ MOST_STEPS → Did command.Begin m m.txns begun 0
unfolding step
did-begin m l =
    let e : call.begin_refusal m ≡ None = no-when _ Full (grind (arith, nat_tests, l)) in
    let after = record m { txns = m.txns ++ begun ∷ [] } in
    let left = leaves (call.begin_refusal m) m (length m.txns + 1) after e in
    let same = waiting-begun m in
    record {
      answered = answers (call.begin_refusal m) m (length m.txns + 1) after e;
      own = subst (λ u. Own u m.txns begun) (sym left) (record { whole = refl });
      little = subst (Little 0 m) (sym left) (record { load = omega arith; clock = omega arith; heads = refl });
    }

is-known : (m : Machine) (n : ℕ) (t : Transaction) → transaction m n ≡ Some t → call.unknown m n ≡ None
is-known m n t e = no-when _ (Unknown n) (ap is_none e)

is-not-ended : (m : Machine) (n : ℕ) (t : Transaction) → transaction m n ≡ Some t → is_live t.stage ≡ true → call.ended m n ≡ None
is-not-ended m n t e l =
    no-when _ (Ended n) (ap (λ o. not (option_map_or (λ (t : Transaction). is_live t.stage) o false)) e ∙ ap not l)

waits-written : (op : Op) (t : Transaction) → waits_in (written op t) ≡ waits_in t + 1
waits-written op t = sum_by_push (λ (w : Provisional). cond w.waits 1 0) t.writes (record { sub = t.current; op = op; waits = true })

pub did-write : (m : Machine) (xs : List Transaction) (t : Transaction) (op : Op) → Own m xs t → Each NotLive xs → is_live t.stage ≡ true
    → Room m 1 → Did (command.Write (length xs + 1) op) m xs (written op t) 2
unfolding step
did-write m xs t op o h l r =
    let n = length xs + 1 in
    let there = own-there m xs t o in
    let free : call.conflict m n op ≡ None = ap (option_map (λ other. Conflict other)) (no-own-conflict m xs t op.key o h) in
    let e : call.write_refusal n op m ≡ None =
    none-of (call.unknown m n ∷ call.ended m n ∷ call.conflict m n op ∷ call.full m 1 ∷ call.clock_end m 1 ∷ [])
    (is-known m n t there, (is-not-ended m n t there l, (free, (not-full m 1 r, (not-ended m 1 r, tt))))) in
    let some = to_transaction (call.write_after n op m) m n in
    let u = with_transaction n (written op t) m in
    let k = kind.Intent t.current n (op ∷ []) in
    let id = call.tablet_of m op.key in
    let left : (call.write n op m).1 ≡ logged id k u =
    leaves (call.write_refusal n op m) m (m.time + 1) some e ∙ ap (λ o. option_map_or (call.write_after n op m) o m) there in
    let more = waits-written op t in
    let set = own-set m xs t (written op t) o in
    record {
      answered = answers (call.write_refusal n op m) m (m.time + 1) some e;
      own = subst (λ u. Own u xs (written op t)) (sym left) (record { whole = set.whole });
      little = subst (Little 2 m) (sym left)
          (little-then 1 1 m u (logged id k u) (little-txn n 1 t (written op t) m there (omega arith)) (little-logged id k u));
    }

pub did-commit : (m : Machine) (xs : List Transaction) (t : Transaction) → Own m xs t → is_live t.stage ≡ true → Room m 1
    → Did (command.Commit (length xs + 1)) m xs (committed (m.time + 1) t) 1
unfolding step
did-commit m xs t o l r =
    let n = length xs + 1 in
    let there = own-there m xs t o in
    let e : call.commit_refusal n m ≡ None =
    none-of (call.unknown m n ∷ call.ended m n ∷ call.clock_end m 1 ∷ [])
    (is-known m n t there, (is-not-ended m n t there l, (not-ended m 1 r, tt))) in
    let some = to_transaction (call.commit_after n m) m n in
    let left : (call.commit n m).1 ≡ call.commit_after n m t =
    leaves (call.commit_refusal n m) m (m.time + 1) some e ∙ ap (λ o. option_map_or (call.commit_after n m) o m) there in
    let set = own-set m xs t (committed (m.time + 1) t) o in
    let same = waiting-set m n t (committed (m.time + 1) t) there in
    record {
      answered = answers (call.commit_refusal n m) m (m.time + 1) some e;
      own = subst (λ u. Own u xs (committed (m.time + 1) t)) (sym left) (record { whole = set.whole });
      little = subst (Little 1 m) (sym left) (record { load = omega arith; clock = omega arith; heads = refl });
    }

pub did-abort : (m : Machine) (xs : List Transaction) (t : Transaction) → Own m xs t → is_live t.stage ≡ true → Sole m.tablets
    → Room m (waits_in t) → Did (command.Abort (length xs + 1)) m xs (aborted t) 0
unfolding step
did-abort m xs t o l s r =
    let n = length xs + 1 in
    let there = own-there m xs t o in
    let few = places-few m t s in
    let count : call.places_of m n ≡ length (tablets_of m t) =
    ap (λ o. option_map_or (λ (t : Transaction). length (tablets_of m t)) o 0) there in
    let room : Room m (call.places_of m n) =
    record { records = let x = r.records in omega arith; times = let x = r.times in omega arith } in
    let e : call.abort_refusal n m ≡ None =
    none-of (call.unknown m n ∷ call.ended m n ∷ call.full m (call.places_of m n) ∷ call.clock_end m (call.places_of m n) ∷ []) (
      is-known m n t there,
      (
        is-not-ended m n t there l,
        (
          not-full m (call.places_of m n) room,
          (not-ended m (call.places_of m n) room, tt),
        ),
      ),
    ) in
    let some = to_transaction (call.abort_after n m) m n in
    let u = with_transaction n (aborted t) m in
    let left : (call.abort n m).1 ≡ with_aborts n (tablets_of m t) u =
    leaves (call.abort_refusal n m) m tt some e ∙ ap (λ o. option_map_or (call.abort_after n m) o m) there in
    let logs = aborts-logged n (tablets_of m t) u in
    let set = own-set m xs t (aborted t) o in
    let none = waits-aborted t in
    let same = waiting-set m n t (aborted t) there in
    let more : waiting (with_aborts n (tablets_of m t) u) ≡ waiting u = ap (λ ts. sum_by waits_in ts) logs.txns in
    record {
      answered = answers (call.abort_refusal n m) m tt some e;
      own = subst (λ u. Own u xs (aborted t)) (sym left) (record { whole = logs.txns ∙ set.whole });
      little = subst (Little 0 m) (sym left)
          (record { load = let x = logs.records in omega arith; clock = let x = logs.time in omega arith; heads = logs.heads });
    }
