use Rattle.std.proofs.Common.{ap, sym, ◌∙◌}
use Rattle.rd_props.specs.Buffers.{meaning}
use Rattle.rd_props.specs.declared.state.BufferState.{BufferState}
use Rattle.rd_state.specs.Edits.{deletion}
use Rattle.rd_state.proofs.Edited.{deletion-is}
use Rattle.rd_state.proofs.Within.{shrunk-within}
use Rattle.rd_state.proofs.content.Content.delete.Goals as goal

pub invariant_of-self-2 : goal.invariant_of-self-2
invariant_of-self-2 c =
    let left : BufferState = record { text = c.delete.new.self; spans = c.close.new.spans; overlays = c.deleted.new.self; settings = c.mark_modified.new.settings } in
    shrunk-within (meaning c.self.inside.state) (meaning left) c.args.from c.args.to c.buffers_are_valid.ensures.text c.self.invariant c.in_ok-delete.ensures.0
    c.in_ok-delete.ensures.1 c.close.ensures c.deleted.ensures

pub returns-clause-changes : goal.returns-clause-changes
returns-clause-changes c =
    let left : BufferState = record { text = c.delete.new.self; spans = c.close.new.spans; overlays = c.deleted.new.self; settings = c.mark_modified.new.settings } in
    ap (deletion c.args.from c.args.to) (sym c.self.view_is)
    ∙ deletion-is c.self.inside.state left c.args.from c.args.to c.self.invariant c.in_ok-delete.ensures.0
    c.in_ok-delete.ensures.1 c.close.ensures c.deleted.ensures c.mark_modified.ensures c.self.inside.marks
