-- The root stands among the tablets that are left.
use Rattle.std.proofs.Common.{drop}
use Rattle.xc_record.specs.Valid.{headers_of}
use Rattle.xc_logs.proofs.HeaderFacts.{HasRoot}
use Rattle.xc_logs.proofs.log_set.LogSet.root_of.Given as goal

abbrev pub invariant-loop-i : goal.invariant-loop-i
invariant-loop-i l = HasRoot l.hash (headers_of (drop l.i l.tablet-items))
