use Rattle.std.proofs.Common.{sym, subst, ◌∙◌}
use Rattle.xc_intents.specs.Slots.{Distinct, is_used}
use Rattle.xc_intents.proofs.Searches.{searchable-distinct}
use Rattle.xc_intents.proofs.Gathers.{distinct-filter}
use Rattle.xc_intents.proofs.search.drop_unused.Goals as goal

pub arrange-requires-clause-distinct : goal.arrange-requires-clause-distinct
arrange-requires-clause-distinct c =
    subst Distinct (sym (c.deref_mut.ensures.value ∙ c.retain_used.ensures.chains))
    (distinct-filter is_used c.args.chains.now.items (searchable-distinct c.args.chains.now.items c.requires.searchable))
