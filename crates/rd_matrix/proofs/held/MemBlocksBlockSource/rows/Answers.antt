use Rattle.std.proofs.Common.{◌≡◌, arith, ap, sym, ◌∙◌}
use Rattle.std.proofs.lemmas.Result.{IfOk-weaker}
use Rattle.rd_rows.specs.Laws.{seen_rows}
use Rattle.rd_rows.specs.Rows.{weight_of}
use Rattle.rd_matrix.specs.Held.{laid_at, laid_from}
use Rattle.rd_matrix.proofs.HeldLemmas.{rows-there}
use Rattle.rd_matrix.proofs.held.MemBlocksBlockSource.rows.Given as given
use Rattle.rd_matrix.proofs.held.MemBlocksBlockSource.rows.Goals as goal
use Rattle.rd_matrix.proofs.held.MemBlocksBlockSource.rows.Goals.{After-rows}

-- the rows of the block that was found are those of the source
there : (g : given.Over) (c : After-rows g) → laid_from c.args.shape c.args.block.now.start c.args.self.now ≡ laid_at c.args.shape c.index.result.now
there g c =
    rows-there c.args.block.now c.args.shape c.args.self.now c.self.inside.held.items c.place_of-place.result c.index.result.now c.place_of-place.ensures.held c.self.view_is c.place_of-place.ensures.there
    c.place_of-place.ensures.within c.index.ensures

pub returns-clause-rows : goal.returns-clause-rows
returns-clause-rows g c = IfOk-weaker c.rows.result _ _ (λ rows h. h ∙ ap seen_rows (sym (there g (goal.at.returns-clause-rows g c).After-rows))) c.rows.ensures.rows

pub returns-clause-steps : goal.returns-clause-steps
returns-clause-steps g c =
    let weight = ap weight_of (there g (goal.at.returns-clause-steps g c).After-rows) in
    let steps = c.rows.ensures.steps in
    omega (arith, weight, steps)

pub returns-clause-source : goal.returns-clause-source
returns-clause-source g c = c.rules.ensures.among c.args.block.now c.requires
