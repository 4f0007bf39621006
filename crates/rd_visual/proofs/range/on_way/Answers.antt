use Rattle.std.proofs.Common.{ℕ, ◌-◌, sym, ap, ◌∙◌}
use Rattle.std.specs.Prelude.{slice_get}
use Rattle.rd_visual.specs.Ways.{along}
use Rattle.rd_visual.specs.declared.way.Way.{Way}
use Rattle.rd_visual.proofs.Listing.{reverse-at}
use Rattle.rd_visual.proofs.range.on_way.Goals as goal

pub returns-in-Backward : goal.returns-in-Backward
returns-in-Backward c =
    let ranges = c.args.ranges.now in
    let place = c.args.place in
    ap (λ (way : Way). slice_get (along way ranges) place) c.in-Backward.is
    ∙ reverse-at ranges place c.at-in-Backward.result c.requires (ap (λ (n : ℕ). slice_get ranges (n - 1 - place)) (sym c.len.ensures) ∙ c.at-in-Backward.ensures)
