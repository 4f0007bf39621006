use Rattle.std.proofs.Common.{sym, ap}
use Rattle.rd_dump.proofs.Writing.{prints-as}
use Rattle.rd_audit.specs.Verdicts.{difference_line}
use Rattle.rd_audit.proofs.report.tell_difference.Goals as goal

pub returns-in-Confused : goal.returns-in-Confused
returns-in-Confused g c = prints-as _ _ _ _ _ _ _ (ap difference_line (sym c.in-Confused.is)) c.write_whole.ensures
