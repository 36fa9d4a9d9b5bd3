use Rattle.std.proofs.Common.{◌≡◌, ◌+◌, ◌-◌, ◌≤◌, length, take, drop, refl, sym, subst}
use Rattle.xc_poller.specs.Poller.{PollerState, StandsFor, Rises, done}
use Rattle.xc_poller.proofs.StandLaws.{seen, done-stands, done-rises, last-part}
use Rattle.xc_poller.proofs.poller.Poller.done.Goals as goal

abbrev new : goal.After-move_to → PollerState
new c = record {
  header = c.self.inside.header;
  reader = c.move_to.new.self;
  acknowledged = c.self.inside.acknowledged;
  applied = c.max-self-inside.result;
  floor = c.raised-self-inside.result;
  is_open = c.self.inside.is_open;
}

new-is : (c : goal.After-move_to) → new c ≡ done c.args.batch.now.records (seen c.self.inside)
new-is c =
    let p = seen c.self.inside in
    rw (
      c.move_to.ensures,
      c.max-self-inside.ensures,
      c.raised-self-inside.ensures,
      c.min.ensures,
      c.as_slice-records.ensures,
      c.cursor-from.ensures,
      last-part (p.applied - p.reader.cursor) c.args.batch.now.records,
    )
    refl

pub returns-clause-stands : goal.returns-clause-stands
returns-clause-stands c logs b st is =
    let rs = c.args.batch.now.records in
    let p = seen c.self.inside in
    let stood : StandsFor logs p b = subst (λ (q : PollerState). StandsFor logs q b) (sym c.self.view_is) st in
    let within : p.reader.cursor + length rs ≤ p.reader.checked =
    subst (λ (q : PollerState). q.reader.cursor + length rs ≤ q.reader.checked) (sym c.self.view_is) c.requires.checked in
    let records_are : rs ≡ take (length rs) (drop p.reader.cursor b.records) =
    subst (λ (q : PollerState). rs ≡ take (length rs) (drop q.reader.cursor b.records)) (sym c.self.view_is) is in
    subst (λ (q : PollerState). StandsFor logs q b) (sym (new-is c))
    (done-stands logs p b rs c.self.invariant.cursor c.self.invariant.applied within stood records_are)

pub returns-clause-rises : goal.returns-clause-rises
returns-clause-rises c =
    let rs = c.args.batch.now.records in
    let p = seen c.self.inside in
    subst (Rises c.args.self.now) (sym (new-is c)) (subst (λ (q : PollerState). Rises q (done rs p)) c.self.view_is (done-rises rs p))
