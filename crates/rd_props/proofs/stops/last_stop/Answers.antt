use Rattle.std.proofs.Common.{ℕ, subst}
use Rattle.rd_props.specs.Buffers.{values_of}
use Rattle.rd_props.specs.Stops.{IsLastChange}
use Rattle.rd_props.proofs.stops.last_stop.Goals as goal

pub returns : goal.returns
returns c =
    let s = c.args.view.now.state.now in
    let P : ℕ → Type 0 = λ begin. IsLastChange (values_of s.spans) s.overlays begin c.args.pos c.last_change.result in
    subst P c.begin.ensures.value c.last_change.ensures
