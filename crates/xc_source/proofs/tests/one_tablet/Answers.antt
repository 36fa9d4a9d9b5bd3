use Rattle.std.proofs.Common.{refl}
use Rattle.xc_record.specs.Headers.{are_headers, headers_fit}
use Rattle.xc_source.proofs.tests.one_tablet.Goals as goal

pub new-requires-clause-roots : goal.new-requires-clause-roots
unfolding are_headers headers_fit
new-requires-clause-roots c = refl
