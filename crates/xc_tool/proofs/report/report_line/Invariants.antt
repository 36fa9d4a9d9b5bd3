-- the numbers of the source tablets up to this one
use Rattle.std.proofs.Common.{take}
use Rattle.xc_record.specs.declared.record.Logs.{Logs}
use Rattle.xc_record.specs.Session.{Session, IsSession}
use Rattle.xc_target.specs.Stands.{StandsForSession}
use Rattle.xc_tool.proofs.ReportLine.{AreTold}
use Rattle.xc_tool.proofs.report.report_line.Given as goal

abbrev pub invariant-loop-id : goal.invariant-loop-id
invariant-loop-id l =
    record {
      told : (logs : Logs) (m : Session) → IsSession logs m → StandsForSession logs m l.target → AreTold (take l.id m.positions)
          l.acks.items l.cursors.items l.places.items;
    }
