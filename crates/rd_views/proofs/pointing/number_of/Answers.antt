use Rattle.std.proofs.Common.{arith}
use Rattle.rd_state.proofs.Leaves.{unmade}
use Rattle.rd_views.proofs.pointing.number_of.Goals as goal

pub returns-then-window-from-clause-absent : goal.returns-then-window-from-clause-absent
returns-then-window-from-clause-absent c =
    let few = c.states_are_valid.ensures.windows.tree.made in
    unmade c.args.state.now c.args.window c.states_are_valid.ensures (omega (arith, few, c.from.ensures, c.if-window-from.true))
