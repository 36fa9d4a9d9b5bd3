-- How a part of the input stops.
--     stop_of fail      where logs have no audit
use Rattle.xc_agree.specs.declared.audit.AgreeFail.{AgreeFail}
use Rattle.xc_agree.specs.declared.audit.AgreeFail.TheVariants as fail
use Rattle.xc_run.specs.declared.stop.Stop.{Stop}
use Rattle.xc_run.specs.declared.stop.Stop.TheVariants as stop
use Rattle.xc_tool.specs.declared.refusal.Refusal.{Refusal}
use Rattle.xc_tool.specs.declared.refusal.Refusal.TheVariants.{Disagree}

abbrev pub stop_of : AgreeFail → Stop Refusal
stop_of (fail.Disagree txn tablet kind) = stop.Refused (Disagree txn tablet kind)
stop_of fail.NoMemory = stop.NoMemory
