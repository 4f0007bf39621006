use Rattle.rd_dump.specs.Dumps.{cell_text}
use Rattle.rd_dump.proofs.dump.print_cells.Goals as goal

pub returns : goal.returns
returns g c = c.print_each.ensures cell_text (λ sink left cell result printed. printed)
