use Rattle.std.proofs.Common.{◌∙◌, sym, ap}
use Rattle.rd_props.specs.Buffers.{files_of, meaning}
use Rattle.rd_visual.specs.Ways.{entered}
use Rattle.rd_visual.proofs.Steps.{goes-beside, goes-nowhere, goes-on}
use Rattle.rd_visual.proofs.motion.step.Goals as goal

pub returns-in-Some : goal.returns-in-Some
returns-in-Some g c =
    let v = c.args.view.now in
    let once = c.ranges_cover_once.ensures (meaning v.state.now) v.objects.now (files_of v) c.begin-begin.ensures.right in
    goes-beside v once c.args.pos c.args.block.now c.requires.place c.requires.block c.args.way c.in_ok-ranges.ranges c.in_ok-ranges.ensures
    c.in-Some.found (sym c.beside.ensures ∙ c.in-Some.is)

pub returns-in_default-2 : goal.returns-in_default-2
returns-in_default-2 g c =
    let v = c.args.view.now in
    let once = c.ranges_cover_once.ensures (meaning v.state.now) v.objects.now (files_of v) c.begin-begin.ensures.right in
    goes-nowhere v once c.args.pos c.args.block.now c.requires.place c.requires.block c.args.way c.in_ok-ranges.ranges c.in_ok-ranges.ensures
    (g.B.BlockSource.meaning c.args.source.now).blocks c.in_ok-other.field-0 c.requires.source c.in_ok-other.ensures.next (sym c.beside.ensures ∙ c.in_default.is) c.in_default-2.is

pub returns : goal.returns
returns g c =
    let v = c.args.view.now in
    let once = c.ranges_cover_once.ensures (meaning v.state.now) v.objects.now (files_of v) c.begin-begin.ensures.right in
    c.entered.ensures ∙ ap (entered c.args.way) c.in_ok-others.ensures
    ∙ goes-on v once c.args.pos c.args.block.now c.requires.place c.requires.block c.args.way c.in_ok-ranges.ranges c.in_ok-ranges.ensures
    (g.B.BlockSource.meaning c.args.source.now).blocks c.in_ok-other.field-0 c.in-Some-2.other c.requires.source c.in_ok-other.ensures.next (sym c.beside.ensures ∙ c.in_default.is) c.in-Some-2.is
    c.block_beside.ensures.source.blocks.stand
