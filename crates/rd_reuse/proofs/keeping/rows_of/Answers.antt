use Rattle.std.proofs.Common.{◌≡◌, ap, sym, ◌∙◌}
use Rattle.rd_reuse.specs.Keeping.{copied_rows, taken}
use Rattle.std.proofs.lemmas.Result.{IfOk-weaker}
use Rattle.rd_reuse.proofs.Taking.{shown-copied}
use Rattle.rd_rows.specs.Copies.{shown_rows}
use Rattle.rd_reuse.proofs.keeping.rows_of.Goals as goal

pub returns-then-is_kept-clause-rows : goal.returns-then-is_kept-clause-rows
returns-then-is_kept-clause-rows g c =
    let b = c.args.block.now in
    let rows = taken c.args.old.now c.args.change b.start in
    let right = c.requires.right b c.requires.among (sym c.is_kept.ensures ∙ c.if-is_kept.true) in
    IfOk-weaker c.copies.result (λ found. found.items ≡ copied_rows rows) (λ found. shown_rows found.items ≡ (g.B.BlockSource.meaning c.args.source.now).rows_of b c.args.shape)
    (λ found h. ap shown_rows h ∙ (shown-copied rows ∙ right)) c.copies.ensures.rows
