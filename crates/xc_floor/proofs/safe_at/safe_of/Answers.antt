use Rattle.std.proofs.Common.{◌≡◌, ◌+◌, ◌<◌, List, length, take, set, refl, ap, sym, subst, ◌∙◌, arith}
use Rattle.std.specs.Prelude.{slice_get}
use Rattle.std.proofs.lemmas.List.{length-set, length-take-le}
use Rattle.std.proofs.lemmas.Option.{slice_get_read}
use Rattle.xc_record.specs.declared.record.Tablet.{Tablet}
use Rattle.xc_record.specs.Order.{Progress}
use Rattle.xc_record.specs.Valid.{headers_of}
use Rattle.xc_model.specs.Floors.{least_kept}
use Rattle.xc_model.proofs.FloorLaw.{kept-values}
use Rattle.xc_floor.specs.Orders.{floors_of}
use Rattle.xc_floor.proofs.SafeAt.{Known, known-more, known-first, floors-known, few-tablets}
use Rattle.xc_floor.proofs.safe_at.safe_of.Goals as goal

pub listed : goal.listed
listed c = omega (arith, few-tablets c.args.logs.now c.requires.valid, ap length c.as_slice-tablets.ensures)

pub bounds-orders-i : goal.bounds-orders-i
bounds-orders-i c = omega (arith, few-tablets c.args.logs.now c.requires.valid, ap length c.as_slice-tablets.ensures)

pub loop-i-preserved : goal.loop-i-preserved
loop-i-preserved c =
    let os = c.loop-i.orders in
    let i = c.loop-i.i in
    let there = slice_get_read c.as_slice-tablets.result.now
    (length c.as_slice-tablets.result.now) i c.index-tablets-i.result refl c.loop-i-test.true c.index-tablets-i.is in
    let at_t = ap (λ (ts : List Tablet). slice_get ts i) (sym c.as_slice-tablets.ensures) ∙ there in
    let low : i < length os = omega (arith, few-tablets c.args.logs.now c.requires.valid, ap length c.as_slice-tablets.ensures) in
    let more = known-more c.args.logs.now c.args.places.now c.requires.valid c.requires.places i c.index-tablets-i.result os low at_t
    c.loop-i.invariant.known in
    record {
      known = subst (λ (o : Progress). Known c.args.logs.now c.args.places.now (set os i o) (i + 1)) (sym c.order_from.ensures) more;
      long = length-set os i c.order_from.result ∙ c.loop-i.invariant.long;
    }

pub shared_whole_as_front-least_over : goal.shared_whole_as_front-least_over
shared_whole_as_front-least_over c =
    (omega (arith, few-tablets c.args.logs.now c.requires.valid, ap length c.as_slice-tablets.ensures), omega arith)

pub returns : goal.returns
returns c =
    let logs = c.args.logs.now in
    let places = c.args.places.now in
    let os = c.loop-i.orders in
    let n : length c.as_slice-tablets.result.now ≡ length logs.tablets = ap length c.as_slice-tablets.ensures in
    let few = few-tablets logs c.requires.valid in
    let known = known-first logs places os (length logs.tablets) c.loop-i.i (omega arith) c.loop-i.invariant.known in
    let long : length (take (length logs.tablets) os) ≡ length logs.tablets = length-take-le (length logs.tablets) os (omega arith) in
    let floors = floors-known logs places c.requires.valid c.requires.places (take (length logs.tablets) os) long known in
    c.least_over.ensures
    ∙ ap (λ (ts : List Tablet). least_kept (floors_of (headers_of ts) (take (length ts) os))) c.as_slice-tablets.ensures
    ∙ kept-values logs places
    (floors_of (headers_of logs.tablets) (take (length logs.tablets) os)) c.requires.valid c.requires.places floors
