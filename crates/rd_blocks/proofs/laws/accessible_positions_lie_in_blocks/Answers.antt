use Rattle.std.proofs.Common.{◌≤◌, arith}
use Rattle.rd_blocks.proofs.Listed.{accessible-within}
use Rattle.rd_blocks.proofs.laws.accessible_positions_lie_in_blocks.Goals as goal

pub returns : goal.returns
returns c = λ s objects files pos at.
    let low = at.0 in
    let high = at.1 in
    let order : s.text.begin ≤ s.text.end = omega (arith, low, high) in
    accessible-within files.classes s (c.blocks_are_listed.ensures s order) pos at
