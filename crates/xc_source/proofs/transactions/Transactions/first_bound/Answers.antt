use Rattle.std.proofs.Common.{◌≡◌, ◌∙◌, ap, subst, sym, min}
use Rattle.std.specs.BTreeMap as tree
use Rattle.std.specs.BTreeMap.Range.{entries_between}
use Rattle.std.specs.declared.ops.Bound.TheVariants.{Included, Unbounded}
use Rattle.std.specs.Option.{option_map_or}
use Rattle.std.specs.Ordering.{nat_cmp}
use Rattle.xc_record.specs.Lists.{first_some}
use Rattle.xc_source.specs.Holders.{numbered, bound_at, least_bound, IsEarliest}
use Rattle.xc_source.proofs.BoundLaws.{first-bound, first-earliest, earliest-known, earliest-next, earliest-same, cursors-put}
use Rattle.xc_source.proofs.transactions.Transactions.first_bound.Goals as goal

pub invariant_of-self : goal.invariant_of-self
invariant_of-self c =
    let header = c.args.header.now in
    let ts = c.self.inside.items.items in
    let waiting = c.self.inside.waiting in
    let cursors = tree.get nat_cmp c.self.inside.cursors in
    let old = c.self.invariant in
    let ordered = c.first_bound-bound.ensures.ordered in
    let known : IsEarliest header c.earliest_on-earliest.result ts =
    subst (λ n. IsEarliest header n ts) (sym c.earliest_on-earliest.ensures) (earliest-known cursors header ts old.cursors) in
    let found : first_some (λ n. bound_at header (numbered ts n)) (tree.values waiting) ≡ c.first_bound-bound.result =
    sym (first-earliest header waiting ts c.earliest_on-earliest.result ordered old.waiting known)
    ∙ ap (λ us. first_some (λ p. bound_at header (numbered us p.1))
    (entries_between nat_cmp (Included c.earliest_on-earliest.result) Unbounded waiting.entries)) (sym c.as_slice.ensures.value)
    ∙ sym c.first_bound-bound.ensures.value in
    let next : IsEarliest header c.next_earliest-next.result ts =
    earliest-next header waiting ts c.first_bound-bound.result c.next_earliest-next.result ordered old.waiting found
    c.first_bound-bound.ensures.time c.next_earliest-next.ensures.found c.next_earliest-next.ensures.none in
    record {
      few = old.few;
      holders = old.holders;
      waiting = old.waiting;
      cursors = cursors-put cursors (tree.get nat_cmp c.set_earliest.new.cursors) header c.next_earliest-next.result ts old.cursors
          (λ a lo hi. earliest-same a header c.next_earliest-next.result ts lo hi next) c.set_earliest.ensures;
    }

pub returns-clause-value : goal.returns-clause-value
returns-clause-value c = λ x l.
    let header = c.args.header.now in
    let ts = c.self.inside.items.items in
    let waiting = c.self.inside.waiting in
    let old = c.self.invariant in
    let ordered = c.first_bound-bound.ensures.ordered in
    let known : IsEarliest header c.earliest_on-earliest.result ts =
    subst (λ n. IsEarliest header n ts) (sym c.earliest_on-earliest.ensures)
    (earliest-known (tree.get nat_cmp c.self.inside.cursors) header ts old.cursors) in
    let found : first_some (λ n. bound_at header (numbered ts n)) (tree.values waiting) ≡ c.first_bound-bound.result =
    sym (first-earliest header waiting ts c.earliest_on-earliest.result ordered old.waiting known)
    ∙ ap (λ us. first_some (λ p. bound_at header (numbered us p.1))
    (entries_between nat_cmp (Included c.earliest_on-earliest.result) Unbounded waiting.entries)) (sym c.as_slice.ensures.value)
    ∙ sym c.first_bound-bound.ensures.value in
    ap (λ r. option_map_or (λ bound. min x bound) r x) (sym found)
    ∙ first-bound header waiting ts x l ordered old.waiting
    ∙ ap (λ us. least_bound header us x) c.self.view_is
