use Rattle.std.proofs.Common.{[], subst, sym}
use Rattle.rd_base.specs.Glyphs.{IsRowAfter}
use Rattle.rd_update.proofs.plan.whole_cells_of.Goals as goal

pub returns-clause-whole : goal.returns-clause-whole
returns-clause-whole c = subst (IsRowAfter 0) (sym c.row.ensures.cells) (c.requires.form.glyphs c.args.row [] c.requires.row)
