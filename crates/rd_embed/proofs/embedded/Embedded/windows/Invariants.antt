use Rattle.std.proofs.Common.{◌≤◌, ◌-◌, length}
use Rattle.rd_layout.specs.Facts.{facts_of}
use Rattle.rd_embed.proofs.embedded.Embedded.windows.Given as goal

abbrev pub invariant-each_window : goal.invariant-each_window
invariant-each_window l = l.count ≤ length (facts_of l.self.session)

abbrev pub decreases-each_window : goal.decreases-each_window
decreases-each_window l = length (facts_of l.self.session) - l.count
