use Rattle.std.proofs.Common.{◌≡◌, ℕ}
use Rattle.rd_items.specs.Pieces.{scene_of}
use Rattle.rd_stack.specs.Strings.{run_heads, places_from, rows_from, shown_from}
use Rattle.rd_stack.proofs.row.read_row.Given as goal

abbrev pub invariant-loop-i : goal.invariant-loop-i
invariant-loop-i l = (base : ℕ) → rows_from (scene_of l.view) base l.parts (run_heads l.before (places_from l.replaced l.text l.under l.i)) ≡ shown_from (scene_of l.view) base l.replaced l.text l.under l.from
