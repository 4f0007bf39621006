use Rattle.std.proofs.Common.{refl}
use Rattle.rd_script.specs.declared.op.Op.TheVariants.{Remove}
use Rattle.rd_tree.specs.Calls.{remove_tree}
use Rattle.rd_state.specs.contracts.parts.StateParts.{the_view}
use Rattle.rd_state.specs.Effects.{effect_of}
use Rattle.rd_state.specs.Steps.{on_tree, step, without_window}
use Rattle.rd_state.proofs.Finding.{found-in}
use Rattle.rd_state.proofs.Sharing.{tree-refuses, asked, removes-window, heir-selected}
use Rattle.rd_tree.proofs.Free.{remove-free}
use Rattle.rd_state.proofs.Free.{tree-free}
use Rattle.rd_state.proofs.parts.StateParts.remove.Goals as goal

pub returns-in_err-heir-clause-applies : goal.returns-in_err-heir-clause-applies
unfolding step
returns-in_err-heir-clause-applies c =
    let t = the_view c.self.inside in
    let there = found-in t c.as_slice.result.now c.args.window c.in_ok-i.i c.index.result.now c.as_slice.ensures.value c.in_ok-i.ensures.0 c.in_ok-i.ensures.1 c.index.ensures in
    let n = c.args.window in
    tree-refuses c.from_residual-in_err-heir.result (Remove n) c.args.self.now t n c.in_ok-i.i c.index.result.now c.remove.new.self (λ d k. remove_tree d k) (λ x w r. on_tree r (without_window n x))
    c.in_err-heir.field-0.0 c.from_residual-in_err-heir.ensures.0 c.from_residual-in_err-heir.ensures.1 c.self.view_is there c.in_err-heir.ensures refl refl

pub returns-clause-applies : goal.returns-clause-applies
unfolding step effect_of
returns-clause-applies c =
    let t = the_view c.self.inside in
    let there = found-in t c.as_slice.result.now c.args.window c.in_ok-i.i c.index.result.now c.as_slice.ensures.value c.in_ok-i.ensures.0 c.in_ok-i.ensures.1 c.index.ensures in
    let n = c.args.window in (
      removes-window c.args.self.now t n c.in_ok-i.i c.index.result.now c.remove.new.self c.remove-2.new.self.items c.selected_without-self-inside.result c.self.view_is there
          (asked (λ k. remove_tree t.tree k) n c.in_ok-i.i t.windows c.index.result.now _ there c.in_ok-heir.ensures.0) c.remove-2.ensures.items
          (heir-selected t.selected n c.index.result.now.0 c.in_ok-heir.heir c.selected_without-self-inside.result t.tree.windows there.number c.in_ok-heir.ensures.1 c.selected_without-self-inside.ensures),
      refl,
    )

pub returns-in_err-heir-clause-free : goal.returns-in_err-heir-clause-free
returns-in_err-heir-clause-free c =
    tree-free c.from_residual-in_err-heir.result _ c.in_err-heir.field-0.0 c.from_residual-in_err-heir.ensures.1 c.in_err-heir.ensures.1
    (remove-free (the_view c.self.inside).tree c.index.result.now.0)
