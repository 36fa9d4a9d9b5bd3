use Rattle.xc_script.proofs.words.read_bounds.Goals.{in-Some+in_ok-push-in-Some, in-None}
use Rattle.xc_script.proofs.WordLists.{hash_read, hash_refused}
use Rattle.xc_script.proofs.words.read_bounds.Goals as goal

pub loop-word-preserved : goal.loop-word-preserved
loop-word-preserved c = elim c.match-branch-2.branch [
  | in-Some+in_ok-push-in-Some w ↦ rw (w.bounds-is, w.all_fit-is, w.in_ok-push-in-Some.ensures)
      (hash_read c.args.words.now c.loop-word.word-index _ _ _ _ c.loop-word-test.true
      (rw w.in-Some.is at c.in_ok-bound.ensures) c.loop-word.invariant)
  | in-None w ↦ rw (w.bounds-is, w.all_fit-is)
      (hash_refused c.args.words.now c.loop-word.word-index _ _ _ c.loop-word-test.true
      (rw w.in-None.is at c.in_ok-bound.ensures) c.loop-word.invariant)
]
