use Rattle.std.proofs.Common.{◌∙◌, ◌+◌, ap, drop, get_or, Some, arith}
use Rattle.std.specs.Prelude.{pos, neg_ℤ}
use Rattle.std.specs.List.{flat_map}
use Rattle.rd_lineshift.specs.Choices.{cheapest, shift_by, shifts_of}
use Rattle.rd_lineshift.specs.Numbers.{lesser, number_cost, priced}
use Rattle.rd_lineshift.specs.declared.band.Band.{Band}
use Rattle.rd_lineshift.proofs.Pricing.{band-begins, band-ends, band-step, lesser-bound, priced-is}
use Rattle.rd_lineshift.proofs.choice.cheapest_of.Goals as goal

abbrev none : Band
none = record { top = 0; height = 0 }

pub loop-by-init : goal.loop-by-init
loop-by-init c =
    let f = number_cost c.args.numbers.now.old.items c.args.numbers.now.new.items c.args.numbers.now.blank in
    (band-begins f c.args.bands.now c.loop-i.i none c.loop-i.best (priced f (cheapest f (flat_map shifts_of c.args.bands.now))) c.loop-i-test.true c.loop-i.invariant.0, c.loop-i.invariant.1)

pub loop-by-preserved : goal.loop-by-preserved
loop-by-preserved c =
    let f = number_cost c.args.numbers.now.old.items c.args.numbers.now.new.items c.args.numbers.now.blank in
    let bands = c.args.bands.now in
    let band = get_or bands c.loop-i.i none in
    let by = c.loop-by.by in
    let best = c.loop-by.best in
    let up = c.priced_shift.result in
    let down = c.priced_shift-in-loop-by.result in
    let is = c.cheaper-best-in-loop-by.ensures ∙ ap (λ p. lesser p (Some down)) c.cheaper-best.ensures in
    let first = priced-is f up (shift_by band (pos by)) c.priced_shift.ensures.shift c.priced_shift.ensures.cost in
    let second = priced-is f down (shift_by band (neg_ℤ (pos by))) c.priced_shift-in-loop-by.ensures.shift c.priced_shift-in-loop-by.ensures.cost in
    let bound = lesser-bound (lesser best (Some up)) (Some down) (lesser-bound best (Some up) c.loop-by.invariant.1 c.priced_shift.ensures.bound) c.priced_shift-in-loop-by.ensures.bound in
    let whole = priced f (cheapest f (flat_map shifts_of bands)) in
    rw is (band-step f band by (flat_map shifts_of (drop (c.loop-i.i + 1) bands)) best (Some up) (Some down) whole c.loop-by-test.true first second c.loop-by.invariant.0, bound)

pub loop-i-preserved : goal.loop-i-preserved
loop-i-preserved c =
    let f = number_cost c.args.numbers.now.old.items c.args.numbers.now.new.items c.args.numbers.now.blank in
    let bands = c.args.bands.now in
    let whole = priced f (cheapest f (flat_map shifts_of bands)) in
    (band-ends f (get_or bands c.loop-i.i none) c.loop-by.by (flat_map shifts_of (drop (c.loop-i.i + 1) bands)) c.loop-by.best whole (omega (arith, c.loop-by-test.false)) c.loop-by.invariant.0, c.loop-by.invariant.1)
