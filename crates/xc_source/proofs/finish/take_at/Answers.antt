use Rattle.std.proofs.Common.{◌≡◌, ◌∙◌, ◌<◌, ap, sym, arith, length, true, Some}
use Rattle.std.specs.Prelude.{slice_get, option_map, nat_lt}
use Rattle.std.specs.Option.{option_map_or}
use Rattle.std.proofs.lemmas.Bool.Decides.{nat_tests}
use Rattle.std.proofs.lemmas.Option.{slice_get-get_or, slice_get-map}
use Rattle.xc_record.specs.declared.record.Tablet.{Tablet}
use Rattle.xc_source.specs.Waiting.{taken}
use Rattle.xc_source.specs.Holders.{changed}
use Rattle.xc_source.proofs.finish.take_at.Goals as goal

pub returns-in-Some : goal.returns-in-Some
returns-in-Some c =
    let p = c.args.pair.now in
    let ts = c.args.txns.now in
    let found = c.in-Some.ensures.lookup in
    let test : true ≡ nat_lt p.1 (length c.args.tablets.now) = found.0 in
    let within : p.1 < length c.args.tablets.now = grind (arith, nat_tests, test) in
    let at : slice_get c.args.tablets.now p.1 ≡ Some c.in-Some.tablet.now =
    slice_get-get_or c.args.tablets.now p.1 c.in-Some.tablet.now within ∙ ap Some (sym found.1) in
    c.take.ensures
    ∙ ap (λ o. option_map_or (λ h. changed (taken h) p.0 ts) o ts)
    (sym (slice_get-map (λ (b : Tablet). b.header) c.args.tablets.now p.1 ∙ ap (option_map (λ (b : Tablet). b.header)) at))
