use Rattle.std.proofs.Common.{◌∙◌}
use Rattle.rd_update.proofs.Telling.{columns-told, words-even}
use Rattle.rd_update.proofs.span.differences.Goals as goal

pub columns_between-requires : goal.columns_between-requires
columns_between-requires c =
    words-even c.args.old.now c.args.new.now c.as_slice.result.now c.as_slice-2.result.now c.requires.length
    (c.as_slice.ensures ∙ c.in_ok-read.ensures.words) (c.as_slice-2.ensures ∙ c.in_ok-read-2.ensures.words)

pub returns : goal.returns
returns c =
    let told = c.in_ok-read.ensures.told in
    let old = c.good_cells_are_small.ensures.rows 0 c.args.old.now c.requires.old (λ k d lt. (told k d lt).0) in
    let new = c.good_cells_are_small.ensures.rows 0 c.args.new.now c.requires.new (λ k d lt. (c.in_ok-read-2.ensures.told k d lt).0) in
    c.columns_between.ensures
    ∙ columns-told c.args.old.now c.args.new.now c.as_slice.result.now c.as_slice-2.result.now c.requires.length
    (c.as_slice.ensures ∙ c.in_ok-read.ensures.words) (c.as_slice-2.ensures ∙ c.in_ok-read-2.ensures.words) told old new
