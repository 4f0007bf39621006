use Rattle.std.proofs.Common.{◌≡◌, take, drop, None}
use Rattle.rd_start.proofs.Spans.{spans}
use Rattle.rd_start.proofs.strip.Strip.span.Given as goal

abbrev pub invariant-loop-place : goal.invariant-loop-place
invariant-loop-place l = l.span ≡ spans None (drop l.from (take l.place l.self.strip_rows.items))
