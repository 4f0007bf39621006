use Rattle.std.proofs.Common.{[]}
use Rattle.rd_base.proofs.Lists.{all-at, mapped-more}
use Rattle.rd_layout.specs.Panes.{margin_of}
use Rattle.rd_matrix.proofs.EachRow.{entry-at}
use Rattle.rd_matrix.specs.Entries.{shown_entries, shown_entry}
use Rattle.rd_paint.specs.Shown.{of_classes}
use Rattle.rd_paint.proofs.Starts.{StartsIn}
use Rattle.rd_paint.proofs.margins.WindowMargins.beside_each.Goals as goal

pub beside-requires : goal.beside-requires
beside-requires c =
    all-at (StartsIn c.args.self.now.content.now.content.text) (shown_entries c.args.matrix.now) c.loop-row.row (shown_entry c.entry-entry.result.now) c.requires
    (entry-at c.args.matrix.now c.loop-row.row c.entry-entry.result.now c.entry-entry.ensures)

pub loop-row-preserved : goal.loop-row-preserved
loop-row-preserved c =
    let f = margin_of (of_classes c.args.self.now.classes.now) c.args.self.now.objects.now c.args.self.now.content.now.content c.args.self.now.widths in
    mapped-more f (shown_entries c.args.matrix.now) c.loop-row.row (shown_entry c.entry-entry.result.now) [] c.loop-row.lists.items _ c.in_ok-cells.cells
    (entry-at c.args.matrix.now c.loop-row.row c.entry-entry.result.now c.entry-entry.ensures) c.in_ok-cells.ensures c.loop-row.invariant c.in_ok-push.ensures.items
