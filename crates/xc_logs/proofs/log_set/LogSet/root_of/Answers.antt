use Rattle.std.proofs.Common.{◌≡◌, [], length, drop, sym, ap, ◌∙◌, subst, refl, arith, ℕ, false, Option, None, Some}
use Rattle.std.specs.Prelude.{option_map, slice_get, is_some}
use Rattle.std.proofs.lemmas.List.{drop_all}
use Rattle.std.proofs.lemmas.Option.{slice_get_read}
use Rattle.std.proofs.lemmas.Bool.{both_ways}
use Rattle.xc_record.specs.declared.record.Tablet.{Tablet}
use Rattle.xc_record.specs.Valid.{headers_of}
use Rattle.xc_record.proofs.HeaderLists.{get_of_headers}
use Rattle.xc_logs.proofs.HeaderFacts.{some_root, root_behind, no_root_in_none, HasRoot}
use Rattle.xc_logs.proofs.ValidFacts.{valid_parts}
use Rattle.xc_logs.proofs.log_set.LogSet.root_of.Goals as goal
use Rattle.xc_logs.proofs.log_set.LogSet.root_of.Goals.{else-is_none-via-then-is_none+else-holds, else-is_none-via-else-is_none}

none_there : (parent : Option ℕ) → is_some parent ≡ false → parent ≡ None
none_there None e = refl
none_there (Some p) e = cc

pub loop-i-init : goal.loop-i-init
loop-i-init c =
    subst (λ ts. HasRoot c.args.hash (headers_of ts)) (sym c.tablets-tablet-items.ensures.tablets)
    (some_root (headers_of c.args.self.now.tablets) c.args.hash (valid_parts _ c.tablets-tablet-items.ensures.valid).fit (omega arith))

pub overflow_cast-result : goal.overflow_cast-result
overflow_cast-result c =
    let few = (valid_parts _ c.tablets-tablet-items.ensures.valid).few in
    omega (arith, ap length c.tablets-tablet-items.ensures.tablets)

pub returns-then-holds : goal.returns-then-holds
returns-then-holds c =
    let items = c.tablets-tablet-items.result.now in
    let item = c.tablet-item.result in
    let stands : slice_get (headers_of items) c.loop-i.i ≡ Some item.header =
    get_of_headers items c.loop-i.i
    ∙ ap (option_map (λ (t : Tablet). t.header)) (slice_get_read items _ c.loop-i.i item refl c.loop-i-test.true c.tablet-item.is) in
    record {
      header = item.header;
      stands = subst (λ ts. slice_get (headers_of ts) c.loop-i.i ≡ Some item.header) c.tablets-tablet-items.ensures.tablets stands;
      root = none_there _ c.if-is_none.ensures;
      holds_it = sym c.if-holds.ensures;
    }

pub loop-i-preserved : goal.loop-i-preserved
loop-i-preserved c =
    root_behind c.args.hash c.tablets-tablet-items.result.now c.loop-i.i c.tablet-item.result c.loop-i-test.true c.tablet-item.is
    (λ root held. elim c.else-is_none.branch [
      | else-is_none-via-then-is_none+else-holds w ↦ both_ways _ (sym w.if-holds.ensures) held
      | else-is_none-via-else-is_none w ↦
          both_ways _ (ap is_some root) w.if-is_none.ensures
    ])
    c.loop-i.invariant

pub returns : goal.returns
returns c =
    let none : drop c.loop-i.i c.tablets-tablet-items.result.now ≡ [] =
    drop_all c.loop-i.i c.tablets-tablet-items.result.now c.loop-i-test.false in
    absurd (no_root_in_none c.args.hash (subst (λ ts. HasRoot c.args.hash (headers_of ts)) none c.loop-i.invariant))
