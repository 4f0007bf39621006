use Rattle.std.proofs.Common.{◌≡◌, ℕ, ◌-◌, ◌≤◌, List, length}
use Rattle.std.specs.Io.KnownBytes.{Consumes}
use Rattle.rd_base.specs.declared.limits.TheConstants.{STREAM_BYTES}
use Rattle.rd_term.specs.Terminals.{feed_bytes}
use Rattle.rd_audit.proofs.stream.feed_stream.Given as goal

abbrev pub invariant-loop-n : goal.invariant-loop-n
invariant-loop-n g l = record {
  read : (bytes : List ℕ) × Consumes (g.S.Source.left l.fn.stream) (g.S.Source.left l.stream) bytes × (l.terminal ≡ feed_bytes l.fn.terminal bytes) × (length bytes ≡ l.taken);
  few : l.taken ≤ STREAM_BYTES;
  kept : g.S.Source.faults l.stream ≡ g.S.Source.faults l.fn.stream;
}

abbrev pub decreases-loop-n : goal.decreases-loop-n
decreases-loop-n g l = STREAM_BYTES - l.taken
