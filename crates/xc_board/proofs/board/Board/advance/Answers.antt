use Rattle.std.proofs.Common.{◌≤◌, length, sym, ◌∙◌, ap, subst, arith}
use Rattle.std.proofs.lemmas.List.{take_all}
use Rattle.std.specs.Prelude.{slice_index}
use Rattle.xc_board.specs.Tree.{unbounded, IsTree}
use Rattle.xc_board.specs.States.{KnowsAll}
use Rattle.xc_board.specs.Rule.{AreWords}
use Rattle.xc_board.specs.Steps.{Seated}
use Rattle.xc_board.specs.Words.{least}
use Rattle.xc_board.specs.Seats.{BoardValue, SeatValue, known_at, least_known}
use Rattle.xc_board.proofs.LeastLaws.{least_rises}
use Rattle.xc_board.proofs.StepLaws.{publishes}
use Rattle.xc_board.proofs.ValueLaws.{keeps_seat, knows_no_gap, least_view}
use Rattle.xc_board.proofs.board.Board.advance.Goals as goal

pub fetch_max-found-requires : goal.fetch_max-found-requires
fetch_max-found-requires c =
    let board = c.self.invariant in
    let now = c.scan-bound.ensures.0 in
    let tablets = ap (λ (b : BoardValue). length b.tablets) c.self.view_is in
    let count = ap length (c.as_slice-count.ensures ∙ sym board.0) in
    let size = ap length c.as_slice-count.ensures ∙ tablets in (
      now.id ∙ ap (λ (s : SeatValue). s.id) c.seat.view_is ∙ c.requires.seat.0 ∙ sym (ap (λ (b : BoardValue). b.id) c.self.view_is),
      omega (arith, board.1, ap length board.0, count),
      publishes c.self.inside.table.shared.key _ _ c.scan-bound.new.seat.me _ c.scan-bound.result count
          (now.next ∙ sym size) now.bound now.live,
    )

pub returns-clause-seat : goal.returns-clause-seat
returns-clause-seat c =
    let now = c.scan-bound.ensures.0 in
    let tree = subst (λ (b : BoardValue). IsTree b.tablets) c.self.view_is c.self.invariant.2 in
    let me = c.fetch_max-found.ensures.2.0 in
    let v = c.seat.inside.seat.me.0 in
    let seen = c.fetch_max-found.ensures.2.1 in
    let tablets = ap (λ (m : Seated). m.0.tablets) me ∙ now.tablets in
    let known = ap (λ (m : Seated). m.0.known) me in
    keeps_seat c.args.self.now c.args.seat.now _ _ v c.fetch_max-found.new.seat.me.0 tree c.seat.view_is c.requires.seat
    (c.fetch_max-found.ensures.0 ∙ now.id) tablets
    (let a = now.seen in let e = ap (λ (m : Seated). m.0.seen) me in omega (arith, seen, e, a))
    (ap length known ∙ now.size ∙ c.seat.invariant.4 ∙ sym (ap length tablets))
    (subst (λ (m : Seated). AreWords m.0.tablets (slice_index m.0.known)) (sym me) now.words)
    (λ i. subst (λ (m : Seated). slice_index v.known i ≤ slice_index m.0.known i) (sym me) (now.up i))

pub returns-clause-loaded : goal.returns-clause-loaded
returns-clause-loaded c =
    let now = c.scan-bound.ensures.0 in
    let me = c.fetch_max-found.ensures.2.0 in
    let mine = ap (λ (s : SeatValue). length s.tablets) c.seat.view_is ∙ ap length c.requires.seat.1 in
    let whole = take_all (length c.args.self.now.tablets) c.scan-bound.new.seat.me.0.known
    (omega (arith, now.size, c.seat.invariant.4, mine)) in
    let loaded = now.loaded ∙ ap (least unbounded) whole in
    let view = least_view c.fetch_max-found.new.seat.table_id c.fetch_max-found.new.seat.me.0 in
    let known = ap (λ (m : Seated). least unbounded m.0.known) me in
    omega (arith, loaded, view, known, c.max.ensures)

pub returns-clause-known : goal.returns-clause-known
returns-clause-known c all =
    let now = c.scan-bound.ensures.0 in
    let ts = c.args.self.now.tablets in
    let tree = subst (λ (b : BoardValue). IsTree b.tablets) c.self.view_is c.self.invariant.2 in
    let mine = ap (λ (s : SeatValue). s.tablets) c.seat.view_is ∙ c.requires.seat.1 in
    let size = now.size ∙ c.seat.invariant.4 ∙ ap length mine in
    let v = c.seat.inside.seat.me.0 in
    let new = c.scan-bound.new.seat.me.0.known in
    let id = c.seat.inside.seat.table_id in
    let gap = knows_no_gap ts id v (subst (λ s. KnowsAll ts (known_at s)) (sym c.seat.view_is) all) in
    let rises = least_rises ts v.known new tree (subst (λ t. AreWords t (slice_index v.known)) mine c.seat.invariant.5) gap
    (subst (λ t. AreWords t (slice_index new)) (now.tablets ∙ mine) now.words) size now.up in
    let loaded = now.loaded ∙ ap (least unbounded) (take_all (length ts) new (omega (arith, size))) in
    let view = sym (ap least_known c.seat.view_is) ∙ least_view id v in
    omega (arith, rises, loaded, view, c.max.ensures)
