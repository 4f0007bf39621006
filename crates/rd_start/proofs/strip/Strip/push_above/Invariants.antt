use Rattle.std.proofs.Common.{◌≡◌, ◌≤◌, ◌++◌, length, map, drop}
use Rattle.rd_matrix.specs.Entries.{numbered}
use Rattle.rd_rows.specs.Copies.{shown_rows}
use Rattle.rd_start.specs.Strips.{strip_row_of}
use Rattle.rd_start.proofs.strip.Strip.push_above.Given as goal

abbrev pub invariant-loop-number : goal.invariant-loop-number
invariant-loop-number l = record {
  low : l.number ≤ length l.rows;
  sweep : l.self.sweep ≡ l.fn.self.sweep;
  home : l.self.home ≡ l.fn.self.home;
  blocks : l.self.blocks.items ≡ l.fn.self.blocks.items;
  strip_rows : l.self.strip_rows.items ≡ map (strip_row_of l.fn.self.sweep.point) (drop l.number (numbered l.block.start 0 (shown_rows l.rows))) ++ l.fn.self.strip_rows.items;
}

abbrev pub decreases-loop-number : goal.decreases-loop-number
decreases-loop-number l = l.number
