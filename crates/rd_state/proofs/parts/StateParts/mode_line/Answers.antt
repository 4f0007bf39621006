use Rattle.std.proofs.Common.{is_some, refl, ap, sym, ◌∙◌}
use Rattle.rd_script.specs.declared.op.Op.TheVariants.{ModeLine}
use Rattle.rd_tree.specs.Calls.{mode_tree}
use Rattle.rd_state.specs.contracts.parts.StateParts.{the_view}
use Rattle.rd_state.specs.declared.window.WindowState.{WindowState}
use Rattle.rd_state.specs.Effects.{effect_of}
use Rattle.rd_state.specs.Steps.{changing, on_tree, step}
use Rattle.rd_state.proofs.Finding.{found-in, some-found}
use Rattle.rd_state.proofs.Sharing.{refuses, tree-refuses, changes-with-tree, good-format, format-refuses}
use Rattle.rd_tree.proofs.Free.{mode-free}
use Rattle.rd_state.proofs.Free.{tree-free}
use Rattle.rd_state.proofs.parts.StateParts.mode_line.Goals as goal

pub returns-in_err-check_format-clause-applies : goal.returns-in_err-check_format-clause-applies
unfolding step
returns-in_err-check_format-clause-applies c =
    let t = the_view c.self.inside in
    let n = c.args.window in
    let there = some-found t c.as_slice.result.now n c.in_ok-i.i c.as_slice.ensures.value c.in_ok-i.ensures.0 c.in_ok-i.ensures.1 in
    refuses c.from_residual-in_err-check_format.result (ModeLine n c.args.format) c.args.self.now c.args.self.now c.in_err-check_format.field-0.0 c.from_residual-in_err-check_format.ensures.0
    c.from_residual-in_err-check_format.ensures.1 refl
    (format-refuses c.args.self.now t n c.in_ok-i.i there.0 c.args.format c.in_err-check_format.field-0.0 c.self.view_is there.1 c.in_err-check_format.ensures)

pub returns-in_err-mode-clause-applies : goal.returns-in_err-mode-clause-applies
unfolding step
returns-in_err-mode-clause-applies c =
    let t = the_view c.self.inside in
    let n = c.args.window in
    let there = found-in t c.as_slice.result.now n c.in_ok-i.i c.index.result.now c.as_slice.ensures.value c.in_ok-i.ensures.0 c.in_ok-i.ensures.1 c.index.ensures in
    let f : WindowState → WindowState = λ old. record old { format = c.args.format } in
    tree-refuses c.from_residual-in_err-mode.result (ModeLine n c.args.format) c.args.self.now t n c.in_ok-i.i c.index.result.now c.mode.new.self
    (λ d k. mode_tree d k (is_some c.args.format)) (λ x w r. changing n f (on_tree r (λ d. record x { tree = d }))) c.in_err-mode.field-0.0
    c.from_residual-in_err-mode.ensures.0 c.from_residual-in_err-mode.ensures.1 c.self.view_is there
    (c.in_err-mode.ensures.0, ap (λ b. mode_tree t.tree c.index.result.now.0 b) (sym c.is_some.ensures) ∙ c.in_err-mode.ensures.1) refl
    (good-format c.args.self.now n c.args.format c.in_ok-check_format.ensures)

pub returns-clause-applies : goal.returns-clause-applies
unfolding step effect_of
returns-clause-applies c =
    let t = the_view c.self.inside in
    let n = c.args.window in
    let f : WindowState → WindowState = λ old. record old { format = c.args.format } in (
      good-format c.args.self.now n c.args.format c.in_ok-check_format.ensures
          ∙ changes-with-tree c.args.self.now t c.as_slice.result.now n c.in_ok-i.i c.index.result.now c.index_mut.result.now f (λ d k. mode_tree d k (is_some c.args.format)) c.mode.new.self
          c.self.view_is c.as_slice.ensures.value c.in_ok-i.ensures.0 c.in_ok-i.ensures.1 c.index.ensures c.index_mut.ensures.value
          (ap (λ b. mode_tree t.tree c.index.result.now.0 b) (sym c.is_some.ensures) ∙ c.in_ok-mode.ensures),
      refl,
    )

pub returns-in_err-mode-clause-free : goal.returns-in_err-mode-clause-free
returns-in_err-mode-clause-free c =
    tree-free c.from_residual-in_err-mode.result _ c.in_err-mode.field-0.0 c.from_residual-in_err-mode.ensures.1 c.in_err-mode.ensures.1
    (mode-free (the_view c.self.inside).tree c.index.result.now.0 c.is_some.result)
