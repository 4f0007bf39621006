use Rattle.std.proofs.Common.{◌-◌}
use Rattle.rd_state.specs.contracts.parts.StateParts.{the_view}
use Rattle.rd_tree.proofs.Free.{resize-free}
use Rattle.rd_state.proofs.Free.{tree-free}
use Rattle.rd_state.proofs.parts.StateParts.resize.Goals as goal

pub returns-in_err-resize-clause-free : goal.returns-in_err-resize-clause-free
returns-in_err-resize-clause-free c =
    tree-free c.from_residual.result _ c.in_err-resize.field-0.0 c.from_residual.ensures.1 c.in_err-resize.ensures.1
    (resize-free (the_view c.self.inside).tree c.args.width (c.args.height - 1))
