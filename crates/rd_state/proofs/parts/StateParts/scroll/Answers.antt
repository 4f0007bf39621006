use Rattle.std.proofs.Common.{Ok, true, ℤ, ◌+ℤ◌, set, subst, refl, ap, sym, ◌∙◌}
use Rattle.rd_state.specs.contracts.parts.StateParts.{the_view}
use Rattle.rd_state.specs.declared.window.WindowState.{WindowState}
use Rattle.rd_state.specs.Effects.{effect_of}
use Rattle.rd_state.specs.Steps.{held, step}
use Rattle.rd_state.specs.Valid.{IsValid}
use Rattle.rd_state.proofs.Finding.{found-in, sets-window}
use Rattle.rd_state.proofs.Viewing.{rows-near, rows-fit, rows-held}
use Rattle.rd_state.proofs.parts.StateParts.scroll.Goals as goal

pub overflow_add-view : goal.overflow_add-view
overflow_add-view c =
    let t = the_view c.self.inside in
    let n = c.args.window in
    let there = found-in t c.as_slice.result.now n c.in_ok-i.i c.index_mut.result.now c.as_slice.ensures.value c.in_ok-i.ensures.0 c.in_ok-i.ensures.1 c.index_mut.ensures.value in
    let valid : IsValid t = subst IsValid (sym c.self.view_is) c.requires.valid in
    rows-fit c.index_mut.result.now.1.pending c.args.rows (rows-near t n c.in_ok-i.i c.index_mut.result.now valid there) c.requires.form.1

pub returns-clause-applies : goal.returns-clause-applies
unfolding step effect_of
returns-clause-applies c =
    let t = the_view c.self.inside in
    let n = c.args.window in
    let there = found-in t c.as_slice.result.now n c.in_ok-i.i c.index_mut.result.now c.as_slice.ensures.value c.in_ok-i.ensures.0 c.in_ok-i.ensures.1 c.index_mut.ensures.value in
    let valid : IsValid t = subst IsValid (sym c.self.view_is) c.requires.valid in
    let e = c.index_mut.result.now in
    let f : WindowState → WindowState = λ old. record old { forced = true; pending = held (old.pending +ℤ c.args.rows) } in (
      sets-window c.args.self.now t n c.in_ok-i.i e f c.self.view_is there
          ∙ ap (λ (p : ℤ). Ok (record t { windows = set t.windows c.in_ok-i.i (e.0, record e.1 { forced = true; pending = p }) }))
          (sym (rows-held e.1.pending c.args.rows c.held-view.result (rows-near t n c.in_ok-i.i e valid there) c.requires.form.1 c.held-view.ensures)),
      refl,
    )
