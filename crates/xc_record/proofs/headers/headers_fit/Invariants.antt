use Rattle.std.proofs.Common.{◌≡◌, take, drop, []}
use Rattle.xc_record.specs.declared.headers.Next.TheVariants.{RootAt}
use Rattle.xc_record.specs.Headers.{fit_from}
use Rattle.xc_record.specs.Valid.{headers_of}
use Rattle.xc_record.proofs.headers.headers_fit.Given as goal

abbrev pub invariant-loop-i : goal.invariant-loop-i
invariant-loop-i l =
    fit_from (headers_of (take l.i l.tablets)) l.next (headers_of (drop l.i l.tablets)) ≡ fit_from [] (RootAt 0) (headers_of l.tablets)
