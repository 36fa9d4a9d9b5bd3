use Rattle.std.proofs.Common.{◌≡◌, ◌+◌, ◌++◌, ◌∷◌, List, [], length, map, sym, subst, ap, ◌∙◌, arith}
use Rattle.std.proofs.lemmas.List.{with_items_is, length_push}
use Rattle.xc_intents.specs.declared.slots.Chain.{Chain}
use Rattle.xc_intents.specs.Slots.{Linked, IsSearchable, NoChain, loose, no_chain}
use Rattle.xc_intents.proofs.Trees.{length-loose}
use Rattle.xc_intents.proofs.Searches.{searchable-same}
use Rattle.xc_intents.proofs.Links.{Linked-open, chain-at-before}
use Rattle.xc_intents.proofs.search.open.Goals as goal
use Rattle.xc_intents.proofs.search.open.Goals.{After-deref_mut}

len : (c : After-deref_mut) → c.len-e.result ≡ length c.args.chains.now.items
len c = omega (arith, c.args.chains.now.ok.0)

pushed : (c : After-deref_mut) → c.deref_mut.result.now ≡ c.args.chains.now.items ++ no_chain c.args.txn ∷ []
pushed c = c.deref_mut.ensures.value ∙ c.put_chain.ensures.chains

none : (c : After-deref_mut) → NoChain c.args.chains.now.items c.args.txn
none c = subst (λ (ds : List Chain). NoChain ds c.args.txn) c.deref.ensures.value c.in_default.ensures

pub place_last-requires-clause-searchable : goal.place_last-requires-clause-searchable
place_last-requires-clause-searchable c =
    let cs = c.args.chains.now.items in
    let after = (goal.at.place_last-requires-clause-searchable c).After-deref_mut in
    subst (IsSearchable c.deref_mut.result.now) (sym (len after))
    (subst (λ (ds : List Chain). IsSearchable ds (length cs)) (sym (pushed after))
    (searchable-same cs (cs ++ no_chain c.args.txn ∷ []) (length cs)
    (λ k low. ap (λ d. record (no_chain d.txn) { left = d.left; right = d.right }) (chain-at-before cs (no_chain c.args.txn) k low))
    c.requires.searchable))

pub returns-clause-linked : goal.returns-clause-linked
returns-clause-linked c = λ xs n l.
    let cs = c.args.chains.now.items in
    let after = (goal.at.returns-clause-linked c).After-deref_mut in
    let ds = c.place_last.new.chains in
    let same : map loose ds ≡ map loose (cs ++ no_chain c.args.txn ∷ []) = c.place_last.ensures.same ∙ ap (map loose) (pushed after) in
    let long : length ds ≡ c.len-e.result + 1 = length-loose (cs ++ no_chain c.args.txn ∷ []) ds same ∙ length_push cs (no_chain c.args.txn)
    ∙ sym (ap (λ k. k + 1) (len after)) in
    let is = with_items_is c.put_chain.new.chains ds (omega (arith, c.place_last.auto.chains, c.deref_mut.ensures.len)) in
    subst (λ z. Linked xs z n) (sym is)
    (Linked-open cs ds c.args.txn (none after) same c.place_last.ensures.searchable xs n l)
