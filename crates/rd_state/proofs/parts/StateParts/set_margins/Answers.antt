use Rattle.std.proofs.Common.{◌+◌, refl}
use Rattle.rd_script.specs.declared.op.Op.TheVariants.{Margin}
use Rattle.rd_tree.specs.Calls.{margins_tree}
use Rattle.rd_state.specs.contracts.parts.StateParts.{the_view}
use Rattle.rd_state.specs.declared.window.WindowState.{WindowState}
use Rattle.rd_state.specs.Effects.{effect_of}
use Rattle.rd_state.specs.Steps.{changing, on_tree, step}
use Rattle.rd_state.proofs.Finding.{found-in}
use Rattle.rd_state.proofs.Sharing.{tree-refuses, changes-with-tree}
use Rattle.rd_tree.proofs.Free.{margins-free}
use Rattle.rd_state.proofs.Free.{tree-free}
use Rattle.rd_state.proofs.parts.StateParts.set_margins.Goals as goal

pub returns-in_err-margins-clause-applies : goal.returns-in_err-margins-clause-applies
unfolding step
returns-in_err-margins-clause-applies c =
    let t = the_view c.self.inside in
    let there = found-in t c.as_slice.result.now c.args.window c.in_ok-i.i c.index.result.now c.as_slice.ensures.value c.in_ok-i.ensures.0 c.in_ok-i.ensures.1 c.index.ensures in
    let n = c.args.window in
    let f : WindowState → WindowState = λ old. record old { numbers = c.args.numbers; strings = c.args.strings } in
    tree-refuses c.from_residual-in_err-margins.result (Margin n c.args.numbers c.args.strings) c.args.self.now t n c.in_ok-i.i c.index.result.now c.margins.new.self
    (λ d k. margins_tree d k (c.args.numbers + c.args.strings)) (λ x w r. changing n f (on_tree r (λ d. record x { tree = d }))) c.in_err-margins.field-0.0
    c.from_residual-in_err-margins.ensures.0 c.from_residual-in_err-margins.ensures.1 c.self.view_is there c.in_err-margins.ensures refl refl

pub returns-clause-applies : goal.returns-clause-applies
unfolding step effect_of
returns-clause-applies c =
    let t = the_view c.self.inside in
    let f : WindowState → WindowState = λ old. record old { numbers = c.args.numbers; strings = c.args.strings } in (
      changes-with-tree c.args.self.now t c.as_slice.result.now c.args.window c.in_ok-i.i c.index.result.now c.index_mut.result.now f (λ d k. margins_tree d k (c.args.numbers + c.args.strings))
          c.margins.new.self c.self.view_is c.as_slice.ensures.value c.in_ok-i.ensures.0 c.in_ok-i.ensures.1 c.index.ensures c.index_mut.ensures.value c.in_ok-margins.ensures,
      refl,
    )

pub returns-in_err-margins-clause-free : goal.returns-in_err-margins-clause-free
returns-in_err-margins-clause-free c =
    tree-free c.from_residual-in_err-margins.result _ c.in_err-margins.field-0.0 c.from_residual-in_err-margins.ensures.1 c.in_err-margins.ensures.1
    (margins-free (the_view c.self.inside).tree c.index.result.now.0 (c.args.numbers + c.args.strings))
