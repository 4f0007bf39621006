use Rattle.rd_props.specs.Buffers.{meaning}
use Rattle.rd_items.proofs.Alike.{range-before}
use Rattle.rd_items.proofs.alike_range.alike_range_before.Goals as goal

pub returns-clause-shown : goal.returns-clause-shown
returns-clause-shown c =
    range-before c.nothing_changes_behind_the_last_stop.ensures (meaning c.args.view.now.state.now) c.args.view.now.objects.now c.args.until c.last_stop.result c.requires.first c.requires.last c.last_stop.ensures c.in_ok-showing.showing c.in_ok-showing.ensures
