use Rattle.std.proofs.Common.{◌≡◌, map, take}
use Rattle.rd_layout.specs.Panes.{margin_of}
use Rattle.rd_matrix.specs.Entries.{shown_entries}
use Rattle.rd_paint.specs.Shown.{of_classes}
use Rattle.rd_paint.proofs.margins.WindowMargins.beside_each.Given as goal

abbrev pub invariant-loop-row : goal.invariant-loop-row
invariant-loop-row l = l.lists.items ≡ map (margin_of (of_classes l.self.classes.now) l.self.objects.now l.self.content.now.content l.self.widths) (take l.row (shown_entries l.matrix))
