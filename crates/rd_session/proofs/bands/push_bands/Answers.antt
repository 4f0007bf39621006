use Rattle.std.specs.List.{flat_map}
use Rattle.std.proofs.Common.{◌≡◌, ◌++◌, ◌+◌, drop, ap, None, Some, slice_get, sym, ◌∙◌}
use Rattle.rd_tree.specs.Calls.{frame_of}
use Rattle.rd_tree.specs.Windows.{placed}
use Rattle.rd_layout.specs.Redisplays.{band_of}
use Rattle.rd_session.proofs.Banding.{all-made, next-made}
use Rattle.rd_session.proofs.bands.push_bands.Goals as goal

pub loop-place-preserved : goal.loop-place-preserved
loop-place-preserved c =
    let windows = placed c.args.tree.now.windows (frame_of c.args.tree.now) in
    let at : slice_get windows c.loop-place.i ≡ Some c.in-Some.place = sym c.placed_leaf.ensures.place ∙ c.in-Some.is in
    sym (ap (λ bands. bands ++ flat_map (band_of c.args.width) (drop (c.loop-place.i + 1) windows)) (sym c.in_ok-push_band.ensures))
    ∙ next-made (band_of c.args.width) windows c.loop-place.i c.in-Some.place c.loop-place.bands _ at c.loop-place.invariant

pub returns : goal.returns
returns c =
    let windows = placed c.args.tree.now.windows (frame_of c.args.tree.now) in
    let none : slice_get windows c.loop-place.i ≡ None = cc in
    all-made (band_of c.args.width) windows c.loop-place.i c.loop-place.bands _ none c.loop-place.invariant
