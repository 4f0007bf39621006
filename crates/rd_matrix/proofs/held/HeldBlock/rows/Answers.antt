use Rattle.std.proofs.Common.{refl, ap, ◌∙◌}
use Rattle.std.proofs.lemmas.Result.{IfOk-weaker}
use Rattle.rd_rows.specs.Copies.{shown_rows, made_rows}
use Rattle.rd_matrix.proofs.HeldLemmas.{shown-made}
use Rattle.rd_matrix.proofs.held.HeldBlock.rows.Goals as goal

pub returns-clause-rows : goal.returns-clause-rows
returns-clause-rows g c =
    IfOk-weaker c.make_all.result _ _ (λ rows h. ap shown_rows (h ∙ ap made_rows (c.in_ok-maker.ensures.fresh.rows c.as_slice.result.now ∙ rw (c.as_slice.ensures, c.as_slice-2.ensures, c.as_slice-3.ensures) refl)) ∙ shown-made _) c.make_all.ensures.rows
