use Rattle.std.proofs.Common.{◌≡◌, ◌≢◌, ◌<◌, ℕ, Bool, List, Option, Some, None, length, get_or, ap, sym, ◌∙◌, rules}
use Rattle.xc_intents.specs.declared.slots.Chain.{Chain}
use Rattle.xc_intents.specs.Slots.{chain_at, is_right, below}
use Rattle.xc_intents.proofs.Chains.{chain-read}
use Rattle.xc_intents.proofs.Trees.{sought-first, sought-none, sought-next}
use Rattle.xc_intents.proofs.tree.search.Goals as goal

pub loop-cur-init : goal.loop-cur-init
loop-cur-init c = record {
  within = search rules;
  sought = sought-first c.args.chains.now c.args.txn c.requires;
}

-- the chain that was read is not the transaction's
other : (cs : List Chain) (t cur : ℕ) (d : Chain) → cur < length cs → (get_or cs cur d).txn ≢ t → (chain_at cs cur).txn ≢ t
other cs t cur d low ne = λ e. ne (ap (λ (c : Chain). c.txn) (chain-read cs cur d low) ∙ e)

-- where it leads
leads : (cs : List Chain) (cur : ℕ) (c : Chain) (side : Bool) (o : Option ℕ) → cur < length cs → c ≡ get_or cs cur c → o ≡ below side c
    → below side (chain_at cs cur) ≡ o
leads cs cur c side o low is e = ap (below side) (sym (is ∙ chain-read cs cur c low)) ∙ sym e

pub returns-in-None : goal.returns-in-None
returns-in-None c =
    let cs = c.args.chains.now in
    let cur = c.loop-cur.cur in
    let low = c.loop-cur.invariant.within in
    sought-none cs c.args.txn c.loop-cur.rest cur c.loop-cur.invariant.sought (other cs c.args.txn cur _ low c.loop-cur-test.true)
    (leads cs cur _ (is_right c.loop-cur.rest) None low c.index-chains-cur-in-loop-cur.is c.in-None.ensures)

pub loop-cur-preserved : goal.loop-cur-preserved
loop-cur-preserved c =
    let cs = c.args.chains.now in
    let cur = c.loop-cur.cur in
    let next = c.in-Some.next in
    let side = is_right c.loop-cur.rest in
    let low = c.loop-cur.invariant.within in
    let on = leads cs cur _ side (Some next) low c.index-chains-cur-in-loop-cur.is c.in-Some.ensures in
    record {
      within = (c.requires.later cur next side low on).1;
      sought = rw c.behind_bit-rest.ensures (sought-next cs c.args.txn c.loop-cur.rest cur next c.loop-cur.invariant.sought
          (other cs c.args.txn cur _ low c.loop-cur-test.true) on);
    }
