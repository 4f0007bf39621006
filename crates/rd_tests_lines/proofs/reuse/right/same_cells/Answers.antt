use Rattle.std.proofs.Common.{◌≡◌}
use Rattle.std.proofs.lemmas.Bool.{OnTrue_from}
use Rattle.std.proofs.lemmas.Slice.Eq.{slice_eq-Decides}
use Rattle.rd_tests_lines.proofs.Same.{cell-decides}
use Rattle.rd_tests_lines.proofs.reuse.right.same_cells.Goals as goal

pub returns : goal.returns
returns c = OnTrue_from c.eq.result (c.args.cells.now ≡ c.args.other.now) (slice_eq-Decides cell-decides c.args.cells.now c.args.other.now c.eq.result c.eq.ensures).0
