use Rattle.std.proofs.Common.{rules}
use Rattle.rd_audit.proofs.Cutting.{last-here, last-none}
use Rattle.rd_audit.proofs.cuts.cut_last.Goals as goal

pub returns : goal.returns
returns c =
    let here = last-here c.args.byte c.in_ok-end.end c.args.bytes.now (search rules) (search rules) (search rules) in
    search rules

pub returns-in_err-end : goal.returns-in_err-end
returns-in_err-end c =
    let none = last-none c.args.byte c.args.bytes.now (search rules) in
    search rules
