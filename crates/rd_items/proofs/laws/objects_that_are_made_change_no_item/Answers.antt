use Rattle.rd_items.proofs.Growing.{same-items, same-table, scenes-go-on}
use Rattle.rd_items.proofs.laws.objects_that_are_made_change_no_item.Goals as goal

pub returns : goal.returns
returns c = record { items = same-items; table = same-table; scenes = scenes-go-on }
