use Rattle.std.proofs.Common.{◌≡◌, ◌++◌, map, take}
use Rattle.rd_matrix.specs.Entries.{numbered}
use Rattle.rd_rows.specs.Copies.{shown_rows}
use Rattle.rd_start.specs.Strips.{strip_row_of}
use Rattle.rd_start.proofs.strip.Strip.push_below.Given as goal

abbrev pub invariant-loop-number : goal.invariant-loop-number
invariant-loop-number l = record {
  sweep : l.self.sweep ≡ l.fn.self.sweep;
  home : l.self.home ≡ l.fn.self.home;
  blocks : l.self.blocks.items ≡ l.fn.self.blocks.items;
  strip_rows : l.self.strip_rows.items ≡ l.fn.self.strip_rows.items ++ map (strip_row_of l.fn.self.sweep.point) (take l.number (numbered l.block.start 0 (shown_rows l.rows)));
}
