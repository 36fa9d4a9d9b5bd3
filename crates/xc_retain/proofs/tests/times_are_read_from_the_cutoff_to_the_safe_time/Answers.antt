use Rattle.std.proofs.Common.{refl}
use Rattle.xc_record.specs.Headers.{are_headers, headers_fit}
use Rattle.xc_retain.proofs.tests.times_are_read_from_the_cutoff_to_the_safe_time.Goals as goal

pub new-made-requires-clause-headers : goal.new-made-requires-clause-headers
unfolding are_headers headers_fit
new-made-requires-clause-headers g c = refl
