use Rattle.std.proofs.Common.{Err, refl, ap, sym, ◌∙◌}
use Rattle.rd_script.specs.declared.op.Op.TheVariants.{Show}
use Rattle.rd_state.specs.declared.effect.Effect.TheVariants.{Window}
use Rattle.rd_text.specs.Texts.{TextValue}
use Rattle.rd_state.specs.contracts.parts.StateParts.{the_view}
use Rattle.rd_state.specs.Effects.{effect_of}
use Rattle.rd_state.specs.Steps.{step}
use Rattle.rd_state.proofs.Finding.{found-in, some-found}
use Rattle.rd_state.proofs.Sharing.{refuses}
use Rattle.rd_state.proofs.Viewing.{shows-buffer, shows-none}
use Rattle.rd_state.proofs.parts.StateParts.show.Goals as goal

pub returns-in_err-buffer-clause-applies : goal.returns-in_err-buffer-clause-applies
unfolding step
returns-in_err-buffer-clause-applies c =
    let t = the_view c.self.inside in
    let n = c.args.window in
    let there = some-found t c.as_slice.result.now n c.in_ok-i.i c.as_slice.ensures.value c.in_ok-i.ensures.0 c.in_ok-i.ensures.1 in
    refuses c.from_residual-in_err-buffer.result (Show n c.args.name.now) c.args.self.now c.args.self.now c.in_err-buffer.field-0.0 c.from_residual-in_err-buffer.ensures.0 c.from_residual-in_err-buffer.ensures.1 refl
    (shows-none c.args.self.now t n c.in_ok-i.i there.0 c.args.name.now c.self.view_is there.1 c.in_err-buffer.ensures.0 ∙ ap (λ e. Err e) (sym c.in_err-buffer.ensures.1))

pub returns-clause-applies : goal.returns-clause-applies
unfolding step effect_of
returns-clause-applies c =
    let t = the_view c.self.inside in
    let n = c.args.window in
    let there = found-in t c.as_slice.result.now n c.in_ok-i.i c.index_mut-shown.result.now c.as_slice.ensures.value c.in_ok-i.ensures.0 c.in_ok-i.ensures.1 c.index_mut-shown.ensures.value in
    let b = c.text_at.ensures in (
      shows-buffer c.args.self.now t n c.in_ok-i.i c.index_mut-shown.result.now c.args.name.now c.in_ok-buffer.buffer c.begin-begin.result b.0 c.self.view_is there c.in_ok-buffer.ensures.0 b.1
          (c.begin-begin.ensures.value ∙ ap (λ (x : TextValue). x.begin) b.2),
      ap (λ k. Window k) there.number,
    )
