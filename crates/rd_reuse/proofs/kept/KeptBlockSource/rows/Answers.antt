use Rattle.std.proofs.Common.{◌≡◌, ap, subst, sym, ◌∙◌}
use Rattle.std.proofs.lemmas.Result.{IfOk-weaker}
use Rattle.rd_matrix.specs.Blocks.{IsAmong}
use Rattle.rd_reuse.specs.Keeping.{copied_rows, taken}
use Rattle.rd_reuse.proofs.Taking.{kept-parts, shown-copied}
use Rattle.rd_rows.specs.Copies.{shown_rows}
use Rattle.rd_rows.proofs.SameShapes.{same-shape}
use Rattle.rd_reuse.proofs.kept.KeptBlockSource.rows.Goals as goal

pub returns-clause-rows : goal.returns-clause-rows
returns-clause-rows g c =
    let k = c.self.inside in
    let l = c.self-2.inside in
    let b = c.args.block.now in
    let before = kept-parts k.source k.older.now k.change k.shape c.args.self.now c.self.view_is in
    let behind = kept-parts l.source l.older.now l.change l.shape c.ask.new.self c.self-2.view_is in
    let older : l.older.now ≡ k.older.now = behind.1 ∙ (c.ask.ensures.rows ∙ sym before.1) in
    let change : l.change ≡ k.change = behind.2 ∙ (c.ask.ensures.change ∙ sym before.2) in
    let among = subst (λ s. IsAmong (g.B.BlockSource.meaning s).blocks b) (sym before.0) c.requires in
    let right = c.self.invariant.0 b among (sym c.is_kept.ensures ∙ c.if-not-is_kept.false) in
    let shape = same-shape c.args.shape k.shape (sym c.is_same.ensures ∙ c.if-not-is_same.false) in
    IfOk-weaker c.copies.result (λ found. found.items ≡ copied_rows (taken l.older.now l.change b.start))
    (λ found. shown_rows found.items ≡ (g.B.BlockSource.meaning c.args.self.now.0).rows_of b c.args.shape)
    (λ found h.
    ap shown_rows h
    ∙ (ap (λ o. shown_rows (copied_rows (taken o l.change b.start))) older
    ∙ (ap (λ x. shown_rows (copied_rows (taken k.older.now x b.start))) change
    ∙ (shown-copied (taken k.older.now k.change b.start)
    ∙ (right ∙ (ap ((g.B.BlockSource.meaning k.source).rows_of b) (sym shape) ∙ ap (λ s. (g.B.BlockSource.meaning s).rows_of b c.args.shape) before.0))))))
    c.copies.ensures.rows
