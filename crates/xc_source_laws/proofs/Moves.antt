-- Every command of the source is a list of moves, and what each move keeps, every command keeps.
--     Closed P      each move keeps P, of a machine and its books
use Rattle.std.proofs.Common.{◌≡◌, ℕ, ◌+◌, ◌<◌, ◌≤◌, true, List, [], ◌∷◌, ◌++◌, length, Some}
use Rattle.xc_record.specs.declared.record.Kind.TheVariants as kind
use Rattle.xc_record.specs.declared.record.Op.{Op}
use Rattle.xc_record.specs.Hash.{holds, hash_of}
use Rattle.xc_record.specs.Accepted.{AcceptedTablet}
use Rattle.xc_record.proofs.ListLaws.{Each}
use Rattle.xc_source.specs.declared.transaction.Stage.TheVariants.{Aborted}
use Rattle.xc_source.specs.Machine.{Machine, Transaction, transaction, with_transaction, begun, is_live, commit_of}
use Rattle.xc_source.specs.Waiting.{waits_on, taken as taken_on}
use Rattle.xc_source.specs.Calls.{logged, written, with_commit, commit_after, aborted, split_after, next_begun, undone_from, is_savepoint}
use Rattle.xc_source_laws.specs.Laws.{OpFits}
use Rattle.xc_source_laws.proofs.Lists.{Seam}
use Rattle.xc_source_laws.proofs.Books.{opens}
use Rattle.xc_source_laws.proofs.Base.{IsMachine, next_record, grown_books}
use Rattle.xc_source_laws.proofs.BaseSteps.{split_books}

-- a live transaction
pub record IsLive (m : Machine) (n : ℕ) (t : Transaction) : Type 0 where
  pub there : transaction m n ≡ Some t
  pub live : is_live t.stage ≡ true

-- an open tablet
pub record OpenAt (bs : List AcceptedTablet) (id : ℕ) (b : AcceptedTablet) : Type 0 where
  pub seam : Seam bs id b
  pub opened : opens b ≡ true

-- a transaction that may be applied on the tablet b
pub record MayApply (m : Machine) (n : ℕ) (t : Transaction) (c : ℕ) (b : AcceptedTablet) : Type 0 where
  pub there : transaction m n ≡ Some t
  pub commit : commit_of t.stage ≡ Some c
  pub wrote : 1 ≤ length t.writes
  pub above : b.end.floor < c

-- a value that a safe record of the tablet b may have
pub record MayBeSafe (m : Machine) (b : AcceptedTablet) (v : ℕ) : Type 0 where
  pub from : b.end.floor ≤ v
  pub to : v ≤ m.time + 1
  pub positive : 1 ≤ v
  pub below : Each (λ t. (c : ℕ) → commit_of t.stage ≡ Some c → waits_on b.header t ≡ true → v < c) m.txns

pub record Closed (P : Machine → List AcceptedTablet → Type 0) : Type 0 where
  pub clock : (m : Machine) (bs : List AcceptedTablet) (u : ℕ) → IsMachine m bs → m.time ≤ u → P m bs → P (record m { time = u }) bs
  pub begin : (m : Machine) (bs : List AcceptedTablet) → IsMachine m bs → P m bs → P (record m { txns = m.txns ++ begun ∷ [] }) bs
  pub savepoint : (m : Machine) (bs : List AcceptedTablet) (n : ℕ) (t : Transaction) → IsMachine m bs → IsLive m n t → t.current < 64
      → P m bs → P (with_transaction n (next_begun t) m) bs
  pub roll_back : (m : Machine) (bs : List AcceptedTablet) (n sub : ℕ) (t : Transaction) → IsMachine m bs → IsLive m n t
      → is_savepoint sub t ≡ true → t.current < 64 → P m bs → P (with_transaction n (next_begun (undone_from sub t)) m) bs
  pub write : (m : Machine) (bs : List AcceptedTablet) (n : ℕ) (op : Op) (t : Transaction) (id : ℕ) (b : AcceptedTablet)
      (o : OpenAt bs id b) → IsMachine m bs → IsLive m n t → holds b.header (hash_of op.key) ≡ true → OpFits op → P m bs
      → P (logged id (kind.Intent t.current n (op ∷ [])) (with_transaction n (written op t) m))
      (grown_books o.seam (next_record m (kind.Intent t.current n (op ∷ []))))
  pub put : (m : Machine) (bs : List AcceptedTablet) (op : Op) (id : ℕ) (b : AcceptedTablet)
      (o : OpenAt bs id b) → IsMachine m bs → holds b.header (hash_of op.key) ≡ true → OpFits op → P m bs
      → P (with_commit (m.time + 1) 0 (op ∷ []) (logged id (kind.Write (op ∷ [])) m))
      (grown_books o.seam (next_record m (kind.Write (op ∷ []))))
  pub commit : (m : Machine) (bs : List AcceptedTablet) (n : ℕ) (t : Transaction) → IsMachine m bs → IsLive m n t → P m bs
      → P (commit_after n m t) bs
  pub abort : (m : Machine) (bs : List AcceptedTablet) (n : ℕ) (t : Transaction) → IsMachine m bs → IsLive m n t → P m bs
      → P (with_transaction n (aborted t) m) bs
  pub abort_log : (m : Machine) (bs : List AcceptedTablet) (n : ℕ) (t : Transaction) (id : ℕ) (b : AcceptedTablet) (o : OpenAt bs id b)
      → IsMachine m bs → transaction m n ≡ Some t → t.stage ≡ Aborted → P m bs
      → P (logged id (kind.Abort n) m) (grown_books o.seam (next_record m (kind.Abort n)))
  pub apply : (m : Machine) (bs : List AcceptedTablet) (n c : ℕ) (t : Transaction) (id : ℕ) (b : AcceptedTablet) (o : OpenAt bs id b)
      → IsMachine m bs → MayApply m n t c b → P m bs
      → P (logged id (kind.Apply n c t.undone) (with_transaction n (taken_on b.header t) m))
      (grown_books o.seam (next_record m (kind.Apply n c t.undone)))
  pub safe : (m : Machine) (bs : List AcceptedTablet) (id v : ℕ) (b : AcceptedTablet) (o : OpenAt bs id b)
      → IsMachine m bs → MayBeSafe m b v → P m bs → P (logged id (kind.Safe v) m) (grown_books o.seam (next_record m (kind.Safe v)))
  pub split : (m : Machine) (bs : List AcceptedTablet) (id at : ℕ) (b : AcceptedTablet) (o : OpenAt bs id b)
      → IsMachine m bs → b.header.lo < at → at ≤ b.header.hi → P m bs → P (split_after id at m b.header) (split_books m o.seam at)
