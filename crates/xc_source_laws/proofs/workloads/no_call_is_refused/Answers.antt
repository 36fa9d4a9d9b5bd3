use Rattle.xc_source_laws.proofs.NoRefusals.{no-refusal}
use Rattle.xc_source_laws.proofs.workloads.no_call_is_refused.Goals as goal

pub returns : goal.returns
returns c = no-refusal
