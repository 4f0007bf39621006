use Rattle.std.proofs.Common.{◌≡◌, flat_map, take}
use Rattle.rd_rows.specs.Rows.{seen_in}
use Rattle.rd_rows.proofs.draft.Draft.behind.Given as goal

abbrev pub invariant-loop-placed : goal.invariant-loop-placed
invariant-loop-placed l = l.cells ≡ flat_map (seen_in l.shape) (take l.placed-index l.placed-items)
