use Rattle.rd_layout.proofs.Fitting.{columns-hold}
use Rattle.rd_layout.proofs.laws.fit_laws.Goals as goal

pub returns : goal.returns
returns c = record {
  whole = c.rows_of_buffers_are_whole.ensures.all;
  margin = c.margins_are_whole.ensures;
  mode_width = c.mode_lines_are_whole.ensures.width;
  columns = columns-hold c.items_begin_in_the_window.ensures;
}
