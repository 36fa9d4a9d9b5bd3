use Rattle.std.proofs.Common.{◌<◌, ◌+◌, length, sym, ◌∙◌, ap, subst, arith}
use Rattle.xc_board.specs.Scans.{Scanning}
use Rattle.xc_board.specs.Seats.{BoardValue}
use Rattle.xc_board.proofs.FitLaws.{lesser_le}
use Rattle.xc_board.proofs.StepLaws.{scans, scan_goes}
use Rattle.xc_board.proofs.board.Board.scan.Goals as goal

pub load-found-requires : goal.load-found-requires
load-found-requires c =
    let board = c.self.invariant in
    let now = c.loop-next.invariant.0 in
    let count = ap length (c.as_slice-count.ensures ∙ sym board.0) in
    let within : c.loop-next.next < length c.self.inside.table.shared.key = omega (arith, count, c.loop-next-test.true) in (
      now.id ∙ c.requires.id ∙ sym (ap (λ (b : BoardValue). b.id) c.self.view_is),
      omega (arith, board.1, ap length board.0, within),
      scans c.self.inside.table.shared.key _ _ c.loop-next.seat.me c.loop-next.next now.next within now.live,
    )

pub loop-next-preserved : goal.loop-next-preserved
loop-next-preserved c =
    let now = c.loop-next.invariant.0 in
    let count = ap length (c.as_slice-count.ensures ∙ ap (λ (b : BoardValue). b.tablets) c.self.view_is) in
    let is = c.lesser_of-bound.ensures in
    let le = lesser_le c.loop-next.bound c.load-found.result in (
      subst (Scanning c.args.seat.now c.load-found.new.seat (c.loop-next.next + 1)) (sym is)
          (scan_goes c.args.seat.now c.loop-next.seat c.load-found.new.seat c.self.inside.table.shared.table_id.slots c.loop-next.next
          c.loop-next.bound c.load-found.result
          (omega (arith, now.size, c.requires.known, count, c.loop-next-test.true)) now c.load-found.ensures.0 c.load-found.ensures.2),
      omega (arith, is, le, c.loop-next.invariant.1),
    )
