use Rattle.rd_rows.proofs.LineLaws.{quiet-leads, last-rows, begun-rows, placed-once}
use Rattle.rd_rows.proofs.laws.rows_of_every_line.Goals as goal

pub returns : goal.returns
returns c = record {
  last = λ k es leads. last-rows k es (quiet-leads k leads);
  placed = placed-once;
  begun = λ k es leads end. begun-rows k es (quiet-leads k leads);
}
