use Rattle.std.proofs.Common.{sym, ap}
use Rattle.rd_dump.proofs.Writing.{prints-as}
use Rattle.rd_audit.specs.Verdicts.{line_of}
use Rattle.rd_audit.proofs.report.tell.Goals as goal

pub returns-in-Usage : goal.returns-in-Usage
returns-in-Usage g c = prints-as _ _ _ _ _ _ _ (ap line_of (sym c.in-Usage.is)) c.write_whole-in-Usage.ensures

pub returns-in-ReadFault : goal.returns-in-ReadFault
returns-in-ReadFault g c = prints-as _ _ _ _ _ _ _ (ap line_of (sym c.in-ReadFault.is)) c.write_whole-in-ReadFault.ensures
