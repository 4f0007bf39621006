use Rattle.std.proofs.Common.{◌∙◌, ap}
use Rattle.rd_state.specs.States.{seen}
use Rattle.rd_state.proofs.Tables.{as-seen}
use Rattle.rd_state.proofs.content.Content.state.Goals as goal

pub returns : goal.returns
returns c = as-seen c.self.inside.state c.self.inside.marks c.self.invariant ∙ ap seen c.self.view_is
