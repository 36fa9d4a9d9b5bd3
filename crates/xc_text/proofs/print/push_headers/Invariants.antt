use Rattle.std.proofs.Common.{◌≡◌, ◌++◌, drop, flat_map}
use Rattle.xc_text.specs.Printed.{header_text}
use Rattle.xc_text.proofs.print.push_headers.Given as goal

abbrev pub invariant-loop-tablet : goal.invariant-loop-tablet
invariant-loop-tablet l =
    l.out ++ flat_map (λ t. header_text t.header) (drop l.tablet-index l.tablets) ≡ l.fn.out ++ flat_map (λ t. header_text t.header)
    l.tablets
