use Rattle.std.proofs.Common.{◌+◌, ◌<◌, ◌∙◌}
use Rattle.rd_base.proofs.Lists.{all-at}
use Rattle.rd_items.specs.declared.item.Item.{Item}
use Rattle.rd_visual.specs.Motion.{ranges_in_turn}
use Rattle.rd_visual.proofs.Listing.{turns-next}
use Rattle.rd_visual.proofs.ranges.in_turn.Goals as goal

pub add_range-requires : goal.add_range-requires
add_range-requires c =
    all-at (λ (x : Item). x.from < x.to → c.args.start + x.to < 4294967296) c.args.items.now c.in-Some.turn.index c.item.result.now c.requires.fits c.item.ensures

pub loop-turn-preserved : goal.loop-turn-preserved
loop-turn-preserved c = record {
  places = c.next.ensures.places ∙ c.loop-turn.invariant.places;
  all = turns-next c.args.start c.args.items.now c.loop-turn.order.turns c.in-Some.turn c.next.new.self.turns c.item.result.now c.loop-turn.ranges c.add_range.new.ranges
      (ranges_in_turn c.args.start c.args.items.now c.args.order.now.turns) c.in-Some.ensures.turns c.item.ensures c.in_ok-add_range.ensures c.loop-turn.invariant.all;
}
