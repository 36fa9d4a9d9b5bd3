use Rattle.xc_text.specs.declared.line.Version.TheVariants.{Two}
use Rattle.xc_text.proofs.PrintedSpelled.{text_back, logs_two}
use Rattle.xc_text.proofs.print.print_logs2.Goals as goal

pub returns-clause-read_back : goal.returns-clause-read_back
returns-clause-read_back c = text_back Two c.args.logs.now c.printed.result c.requires (logs_two c.args.logs.now) c.printed.ensures
