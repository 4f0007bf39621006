use Rattle.std.proofs.Common.{◌≡◌, drop}
use Rattle.serde_json.specs.View.{items_view}
use Rattle.rd_script.specs.Fields.{each_item}
use Rattle.rd_script.proofs.Items.{behind_found}
use Rattle.rd_script.proofs.item.each.Given as goal

-- what was found, and then what is left
abbrev pub invariant-loop-item : goal.invariant-loop-item
invariant-loop-item g l =
    behind_found l.list (each_item (g.F.Form.kind l.fn.form) (items_view (drop l.item-index l.items))) ≡ each_item (g.F.Form.kind l.fn.form) (items_view l.items)
