use Rattle.std.proofs.Common.{◌≡◌, ℕ, take}
use Rattle.xc_source.specs.Finish.{all_taken, headers_of}
use Rattle.xc_source.specs.Holders.{numbered, committed_at}
use Rattle.xc_source.proofs.finish.take_all.Given as goal

abbrev pub invariant-loop-pair : goal.invariant-loop-pair
invariant-loop-pair l = record {
  taken : l.txns ≡ all_taken (headers_of l.tablets) (take l.pair-index l.pairs) l.fn.txns;
  committed : (n : ℕ) → committed_at (numbered l.txns n) ≡ committed_at (numbered l.fn.txns n);
}
