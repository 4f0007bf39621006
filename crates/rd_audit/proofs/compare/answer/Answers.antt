use Rattle.std.proofs.Common.{rules}
use Rattle.rd_audit.proofs.Comparing.{rows-same}
use Rattle.rd_audit.proofs.compare.answer.Goals as goal

pub returns-then-eq : goal.returns-then-eq
returns-then-eq c = record {
  sure = search rules;
  cells = rows-same 0 c.args.dump.now.rows c.args.terminal.now.rows (search rules);
  cursor = search rules;
}
