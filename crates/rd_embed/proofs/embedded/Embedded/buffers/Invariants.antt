use Rattle.std.proofs.Common.{◌≤◌, ◌-◌, length}
use Rattle.rd_embed.proofs.embedded.Embedded.buffers.Given as goal

abbrev pub invariant-each_buffer : goal.invariant-each_buffer
invariant-each_buffer l = l.count ≤ length l.self.session.state.buffers

abbrev pub decreases-each_buffer : goal.decreases-each_buffer
decreases-each_buffer l = length l.self.session.state.buffers - l.count
