use Rattle.std.proofs.Common.{◌≡◌, drop}
use Rattle.xc_record.specs.Headers.{children}
use Rattle.xc_record.specs.Valid.{headers_of}
use Rattle.xc_record.proofs.headers.children.Given as goal

abbrev pub invariant-loop-i : goal.invariant-loop-i
invariant-loop-i l = children (headers_of (drop l.i l.tablets)) l.id ≡ children (headers_of l.tablets) l.id
