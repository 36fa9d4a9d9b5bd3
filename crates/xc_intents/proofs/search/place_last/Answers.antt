use Rattle.std.proofs.Common.{◌≡◌, ◌+◌, length, sym, subst, ◌∙◌, false}
use Rattle.xc_intents.specs.Slots.{IsTree, Rising, is_planted}
use Rattle.xc_intents.proofs.Searches.{tree-searchable, rising-searchable}
use Rattle.xc_intents.proofs.search.place_last.Goals as goal

pub returns-then-is_planted-clause-searchable : goal.returns-then-is_planted-clause-searchable
returns-then-is_planted-clause-searchable c =
    let ds = c.plant.new.chains in
    let long : length ds ≡ c.args.n + 1 = c.plant.auto.chains ∙ c.requires.last in
    tree-searchable ds (length ds) (subst (IsTree ds) (sym long) c.plant.ensures.tree)

pub returns-else-not-ends_rising-clause-searchable : goal.returns-else-not-ends_rising-clause-searchable
returns-else-not-ends_rising-clause-searchable c =
    let cs = c.args.chains.now in
    let none : is_planted cs ≡ false = sym c.is_planted.ensures ∙ c.if-is_planted.false in
    let rising = c.ends_rising.ensures c.if-not-ends_rising.false c.args.n c.requires.last (c.requires.searchable.rising none) in
    rising-searchable cs (length cs) none (subst (Rising cs) (sym c.requires.last) rising)
