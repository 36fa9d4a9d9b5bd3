-- Why a source script makes no logs, in words.
--     fail_name fail      why a source refuses a command; none is refused since memory ran out
--     bad_source line name      the line that says so
use Rattle.std.specs.Prelude.{ℕ, List, ◌++◌, codes, decimal}
use Rattle.xc_source.specs.declared.fail.SourceFail.{SourceFail}
use Rattle.xc_source.specs.declared.fail.SourceFail.TheVariants.{Unknown, Ended, Conflict, NotOpen, NotCommitted, NotThere, BadPlace}
use Rattle.xc_source.specs.declared.fail.SourceFail.TheVariants.{NoSavepoint}
use Rattle.xc_source.specs.declared.fail.SourceFail.TheVariants.{Full, ClockEnd, Back, NoMemory}

abbrev pub fail_name : SourceFail → List ℕ
fail_name (Unknown txn) = codes "unknown"
fail_name (Ended txn) = codes "ended"
fail_name (Conflict txn) = codes "conflict"
fail_name (NotOpen id) = codes "not-open"
fail_name (NotCommitted txn) = codes "not-committed"
fail_name (NotThere id) = codes "not-there"
fail_name (BadPlace lo hi) = codes "bad-place"
fail_name (NoSavepoint sub) = codes "no-savepoint"
fail_name Full = codes "full"
fail_name ClockEnd = codes "clock-end"
fail_name (Back time) = codes "back"
fail_name NoMemory = codes "no-memory"

abbrev pub bad_source : ℕ → List ℕ → List ℕ
bad_source line name = codes "bad source " ++ decimal line ++ codes " " ++ name ++ codes "\n"
