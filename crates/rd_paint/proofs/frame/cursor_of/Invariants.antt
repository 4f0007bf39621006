use Rattle.std.proofs.Common.{◌≡◌, ◌≢◌, ℕ, ◌<◌, Some}
use Rattle.std.specs.Prelude.{slice_get}
use Rattle.rd_layout.specs.Windows.{places}
use Rattle.rd_tree.specs.declared.placed.Placed.{Placed}
use Rattle.rd_paint.proofs.frame.cursor_of.Given as goal

abbrev pub invariant-loop-i : goal.invariant-loop-i
invariant-loop-i l = (k : ℕ) (p : Placed) → k < l.i → slice_get (places l.state) k ≡ Some p → p.number ≢ l.number
