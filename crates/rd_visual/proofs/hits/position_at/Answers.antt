use Rattle.std.proofs.lemmas.Bool.Decides.{nat_tests}
use Rattle.std.proofs.Common.{arith, sym, ◌∙◌, ◌≤◌, length}
use Rattle.rd_visual.proofs.Covered.{fits-entry, hit-entry, hit-outside}
use Rattle.rd_visual.proofs.hits.position_at.Goals as goal

pub returns-then-row-len : goal.returns-then-row-len
returns-then-row-len c =
    let few : length c.args.matrix.now ≤ c.args.row = let test = c.if-row-len.true in let size = c.len.ensures in grind (arith, nat_tests) in
    sym (hit-outside c.args.matrix.now c.args.row c.args.column few)

pub least_at-requires : goal.least_at-requires
least_at-requires c = fits-entry c.args.matrix.now c.args.row c.entry.result.now c.requires c.entry.ensures

pub returns : goal.returns
returns c = c.least_at.ensures ∙ sym (hit-entry c.args.matrix.now c.args.row c.args.column c.entry.result.now c.entry.ensures)
