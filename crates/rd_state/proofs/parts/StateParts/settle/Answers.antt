use Rattle.std.proofs.Common.{sym}
use Rattle.rd_state.specs.contracts.parts.StateParts.{the_view}
use Rattle.rd_state.specs.Steps.{settled_window}
use Rattle.rd_state.proofs.Finding.{found-in, changes-window}
use Rattle.rd_state.proofs.parts.StateParts.settle.Goals as goal

pub returns-in-Ok : goal.returns-in-Ok
returns-in-Ok c =
    let t = the_view c.self.inside in
    let there = found-in t c.as_slice.result.now c.args.window c.in-Ok.i c.index_mut.result.now c.as_slice.ensures.value c.in-Ok.ensures.0 c.in-Ok.ensures.1 c.index_mut.ensures.value in
    sym (changes-window c.args.self.now t c.args.window c.in-Ok.i c.index_mut.result.now (settled_window c.args.anchor c.args.point) c.self.view_is there)
