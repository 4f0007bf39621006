use Rattle.std.proofs.Common.{◌≡◌, ◌++◌, ◌∷◌, [], ℕ, List, append_assoc, subst, ap, ◌∙◌}
use Rattle.std.specs.Prelude.{decimal}
use Rattle.rd_embed.specs.Fills.{Fills}
use Rattle.rd_embed.proofs.words.fill_column.Goals as goal

pub returns : goal.returns
returns c text before filled =
    subst (λ (t : List ℕ). Fills c.fill_behind.result t before c.fill_behind.new.out) (append_assoc text (32 ∷ []) c.as_bytes.result.now ∙ ap (λ (b : List ℕ). text ++ 32 ∷ b) (c.as_bytes.ensures.value ∙ c.format.ensures.text))
    (c.fill_behind.ensures.filled (text ++ 32 ∷ []) before (c.fill_behind-end.ensures.filled text before filled))
