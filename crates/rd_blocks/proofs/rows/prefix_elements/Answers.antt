use Rattle.rd_blocks.proofs.Prefixes.{prefix-ok}
use Rattle.rd_blocks.proofs.rows.prefix_elements.Goals as goal

pub returns-in-Some-clause-prefix : goal.returns-in-Some-clause-prefix
returns-in-Some-clause-prefix c = prefix-ok c.string_line.result c.string_line.ensures.inside c.string_line.ensures.row
