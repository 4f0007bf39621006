use Rattle.std.proofs.Common.{◌≡◌, Some, subst, sym}
use Rattle.std.specs.Prelude.{slice_get}
use Rattle.rd_text.specs.Texts.{IsAccessible}
use Rattle.rd_state.specs.declared.window.WindowState.{WindowState}
use Rattle.rd_state.specs.States.{BufferValue, StateValue}
use Rattle.rd_state.specs.Valid.{IsValid}
use Rattle.rd_state.specs.Windows.{window_of}
use Rattle.rd_state.proofs.state.State.settle.Goals as goal

pub invariant_of-self : goal.invariant_of-self
invariant_of-self c =
    let accessible : StateValue → Type 0 = λ s.
    (w : WindowState) (b : BufferValue) → window_of c.args.w s.windows ≡ Some w → slice_get s.buffers w.buffer ≡ Some b
    → IsAccessible b.content.text c.args.anchor.pos × IsAccessible b.content.text c.args.point in
    let at : accessible c.self.inside.parts = subst accessible (sym c.self.view_is) (λ w b found shown. (c.requires.anchor w b found shown, c.requires.point w b found shown)) in
    subst IsValid (sym c.settle.ensures) (c.settling_keeps_states.ensures c.self.inside.parts c.args.w c.args.anchor c.args.point c.self.invariant at)
