use Rattle.std.proofs.Common.{map, length, sym, subst, ap, ◌∙◌}
use Rattle.xc_intents.specs.Slots.{Distinct, loose, is_planted}
use Rattle.xc_intents.proofs.Trees.{distinct-loose, loose-twice}
use Rattle.xc_intents.proofs.Searches.{tree-searchable, rising-searchable, loose-bare}
use Rattle.xc_intents.proofs.search.arrange.Goals as goal

pub plant_all-requires-clause-distinct : goal.plant_all-requires-clause-distinct
plant_all-requires-clause-distinct c =
    subst Distinct (sym c.uproot.ensures)
    (distinct-loose c.args.chains.now (map loose c.args.chains.now) (loose-twice c.args.chains.now) c.requires.distinct)

pub plant_all-requires-clause-loose : goal.plant_all-requires-clause-loose
plant_all-requires-clause-loose c = ap (map loose) c.uproot.ensures ∙ loose-twice c.args.chains.now ∙ sym c.uproot.ensures

pub returns-then-not-are_rising-clause-searchable : goal.returns-then-not-are_rising-clause-searchable
returns-then-not-are_rising-clause-searchable c =
    tree-searchable c.plant_all.new.chains (length c.plant_all.new.chains) c.plant_all.ensures.tree

pub returns-then-not-are_rising-clause-same : goal.returns-then-not-are_rising-clause-same
returns-then-not-are_rising-clause-same c =
    c.plant_all.ensures.same ∙ ap (map loose) c.uproot.ensures ∙ loose-twice c.args.chains.now

pub returns-else-not-are_rising-clause-searchable : goal.returns-else-not-are_rising-clause-searchable
returns-else-not-are_rising-clause-searchable c =
    let ds = c.uproot.new.chains in
    rising-searchable ds (length ds) (ap is_planted c.uproot.ensures ∙ loose-bare c.args.chains.now)
    (c.are_rising.ensures c.if-not-are_rising.false)

pub returns-else-not-are_rising-clause-same : goal.returns-else-not-are_rising-clause-same
returns-else-not-are_rising-clause-same c = ap (map loose) c.uproot.ensures ∙ loose-twice c.args.chains.now
