use Rattle.std.proofs.Common.{◌≡◌, ℕ, ap, subst, sym, ◌∙◌, rules}
use Rattle.std.proofs.lemmas.Fn.{dedup_same}
use Rattle.std.specs.List.{dedup}
use Rattle.xc_agree.specs.declared.commits.Commit.{Commit}
use Rattle.xc_agree.specs.Slots.{field_of, Rises}
use Rattle.xc_agree.proofs.ApplyLaws.{field-sorted, sorted-by-txn, same_txn, field-dedup, rises-dedup, count-distinct}
use Rattle.xc_agree.proofs.commits.Commits.of_applies.Goals as goal
use Rattle.xc_agree.proofs.commits.Commits.of_applies.Goals.{After-dedup_by_key}

kept : (c : After-dedup_by_key) → c.dedup_by_key.new.self.items ≡ dedup same_txn c.sort_by_key.new.self.items
kept c = dedup_same _ same_txn _ (λ x y b f x' y' k. search rules) _ _ c.dedup_by_key.ensures.filtered

rises : (c : After-dedup_by_key) → Rises c.dedup_by_key.new.self.items
rises c = subst Rises (sym (kept c))
    (rises-dedup c.sort_by_key.new.self.items
    (sorted-by-txn c.sort_by_key.new.self.items c.in_ok-sort_by_key.ensures.sorted (λ a r f k. search rules)))

fields : {X : Type 0} (field : Commit → X) (c : After-dedup_by_key) (n : ℕ)
    → field_of field c.dedup_by_key.new.self.items n ≡ field_of field c.args.applies.items n
fields field c n =
    ap (λ cs. field_of field cs n) (kept c) ∙ field-dedup field c.sort_by_key.new.self.items n
    ∙ field-sorted field c.args.applies.items c.sort_by_key.new.self.items c.in_ok-sort_by_key.ensures.stable (λ a r f k. search rules) n

pub invariant_of-result : goal.invariant_of-result
invariant_of-result c = rises c

pub returns-clause-times : goal.returns-clause-times
returns-clause-times c = fields (λ commit. commit.time) (goal.at.returns-clause-times c).After-dedup_by_key

pub returns-clause-undone : goal.returns-clause-undone
returns-clause-undone c = fields (λ commit. commit.without) (goal.at.returns-clause-undone c).After-dedup_by_key

pub returns-clause-count : goal.returns-clause-count
returns-clause-count c =
    let d = (goal.at.returns-clause-count c).After-dedup_by_key in
    count-distinct c.args.applies.items c.dedup_by_key.new.self.items (rises d) (fields (λ commit. commit.time) d)
