use Rattle.std.proofs.Common.{sym, ap}
use Rattle.rd_dump.proofs.Writing.{prints-as}
use Rattle.rd_run.specs.Reports.{last_line}
use Rattle.rd_player.proofs.last_line.LastLinePrinted.print.Goals as goal

pub returns-in-Usage : goal.returns-in-Usage
returns-in-Usage g c = prints-as _ _ _ _ _ _ _ (ap (λ s. last_line s c.args.self.now.1) (sym c.in-Usage.is)) c.write_whole.ensures

pub returns-in-BadData : goal.returns-in-BadData
returns-in-BadData g c = prints-as _ _ _ _ _ _ _ (ap (λ s. last_line s c.args.self.now.1) (sym c.in-BadData.is)) (c.print_bad_data.ensures c.args.self.now.1)

pub returns-in-BadScript : goal.returns-in-BadScript
returns-in-BadScript g c = prints-as _ _ _ _ _ _ _ (ap (λ s. last_line s c.args.self.now.1) (sym c.in-BadScript.is)) (c.print_bad.ensures c.args.self.now.1)

pub returns-in-ReadFault : goal.returns-in-ReadFault
returns-in-ReadFault g c = prints-as _ _ _ _ _ _ _ (ap (λ s. last_line s c.args.self.now.1) (sym c.in-ReadFault.is)) c.write_whole-in-ReadFault.ensures
