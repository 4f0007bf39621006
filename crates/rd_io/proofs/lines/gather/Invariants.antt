use Rattle.std.proofs.Common.{◌≡◌, ◌⊎◌, ◌+◌, ◌-◌, length}
use Rattle.rd_base.specs.declared.limits.TheConstants.{LINE_BYTES}
use Rattle.rd_io.specs.Lines.{IsUnbroken}
use Rattle.rd_io.proofs.Gathering.{Gathering}
use Rattle.rd_io.proofs.lines.gather.Given as goal

abbrev pub invariant-loop-n : goal.invariant-loop-n
invariant-loop-n g l = record {
  come : Gathering l.fn.chunk (g.S.Source.left l.fn.source) (g.S.Source.left l.source) l.line.items l.chunk l.given;
  unread : ((l.source ≡ l.fn.source) × (l.chunk ≡ l.fn.chunk)) ⊎ IsUnbroken l.fn.chunk;
  count : g.S.Source.faults l.source ≡ g.S.Source.faults l.fn.source;
}

-- the line grows, but where nothing was held at first
abbrev pub decreases-loop-n : goal.decreases-loop-n
decreases-loop-n g l = (LINE_BYTES + 1 - length l.line.items) + (1 - length l.chunk)
