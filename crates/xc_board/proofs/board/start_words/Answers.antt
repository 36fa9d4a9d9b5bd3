use Rattle.std.proofs.Common.{◌≡◌, ◌++◌, ◌∷◌, [], arith}
use Rattle.std.proofs.lemmas.Grind.{common_steps}
use Rattle.xc_board.proofs.StartLaws.{start_goes}
use Rattle.xc_board.proofs.board.start_words.Goals as goal

pub loop-tablet-preserved : goal.loop-tablet-preserved
loop-tablet-preserved c =
    let pushed : c.push.new.self.items ≡ c.loop-tablet.words.items ++ c.word-found.result ∷ [] = grind (arith, common_steps) in
    start_goes c.args.tablets.now c.loop-tablet.tablet-index _ c.loop-tablet.words.items c.push.new.self.items c.loop-tablet.mark
    c.lesser_of-mark.result c.word-found.result c.loop-tablet-test.true c.loop-tablet.invariant c.word-found.ensures pushed
    c.lesser_of-mark.ensures
