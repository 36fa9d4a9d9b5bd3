use Rattle.std.proofs.Common.{◌≡◌, map, ◌∙◌, ap}
use Rattle.xc_board.specs.Rule.{first_view}
use Rattle.xc_board.specs.declared.rule.SeatView.{SeatView}
use Rattle.xc_board.specs.Steps.{Seated}
use Rattle.xc_board.specs.Words.{state_of}
use Rattle.xc_board.proofs.StartLaws.{starts, start_known, start_seen}
use Rattle.xc_board.proofs.board.Board.new.Goals as goal

pub of_words-requires : goal.of_words-requires
of_words-requires c = rw (c.in_ok-tablets.ensures, c.as_slice.ensures.value, c.in_ok-words.ensures) (starts c.args.tablets.now c.requires)

told : (c : goal.After-drop-words-in-Ok) → c.in-Ok.seat.me.0 ≡ first_view c.args.tablets.now
told c = ap (λ (m : Seated). m.0) c.in-Ok.ensures.4 ∙ ap first_view c.in_ok-tablets.ensures

pub returns-in-Ok-clause-known : goal.returns-in-Ok-clause-known
returns-in-Ok-clause-known c = ap (λ (v : SeatView). map state_of v.known) (told c) ∙ start_known c.args.tablets.now c.requires

pub returns-in-Ok-clause-seen : goal.returns-in-Ok-clause-seen
returns-in-Ok-clause-seen c = ap (λ (v : SeatView). v.seen) (told c) ∙ start_seen c.args.tablets.now c.requires
