use Rattle.std.proofs.Common.{refl}
use Rattle.xc_record.specs.Headers.{are_headers, headers_fit}
use Rattle.xc_tablet.proofs.tests.tablet.Goals as goal

pub new-requires-clause-headers : goal.new-requires-clause-headers
unfolding are_headers headers_fit
new-requires-clause-headers c = refl
