use Rattle.std.proofs.Common.{refl, ◌∙◌, [], ◌∷◌}
use Rattle.unicode_width.specs.Width.{char_width}
use Rattle.rd_base.specs.Cells.{single}
use Rattle.rd_objects.specs.Things.{nothing_made}
use Rattle.rd_rows.specs.Examples.{letter, line_end, twelve_truncated}
use Rattle.rd_rows.specs.Rows.{cutting_of}
use Rattle.rd_blocks.specs.Examples.{buffer}
use Rattle.rd_blocks.proofs.Steps.{by-parts}
use Rattle.rd_blocks.proofs.examples.a_row_from_the_right_edge.Goals as goal

pub returns : goal.returns
unfolding char_width
returns c = by-parts twelve_truncated (buffer (114 ∷ 116 ∷ 32 ∷ 49 ∷ 50 ∷ [])) nothing_made (record { start = 1; end = 7; base = 1 }) (cutting_of twelve_truncated 1 [] [] (single 36 1) (single 47 1)) (letter 0 114 ∷ letter 1 116 ∷ letter 2 32 ∷ letter 4 50 ∷ letter 3 49 ∷ line_end 5) refl refl ∙ refl
