use Rattle.std.proofs.Common.{ℕ, subst}
use Rattle.rd_props.specs.Buffers.{values_of}
use Rattle.rd_props.specs.Stops.{IsFirstChange}
use Rattle.rd_props.proofs.stops.next_stop.Goals as goal

pub returns : goal.returns
returns c =
    let s = c.args.view.now.state.now in
    let P : ℕ → Type 0 = λ end. IsFirstChange (values_of s.spans) s.overlays end c.args.pos c.first_change.result in
    subst P c.end.ensures.value c.first_change.ensures
