use Rattle.xc_text.proofs.PrintedSpelled.{text_back, logs_least}
use Rattle.xc_text.proofs.print.print_logs.Goals as goal

pub returns-clause-read_back : goal.returns-clause-read_back
returns-clause-read_back c =
    text_back c.least_version.result c.args.logs.now c.printed.result c.requires (rw c.least_version.ensures (logs_least c.args.logs.now))
    c.printed.ensures
