use Rattle.std.proofs.Common.{refl, ◌∙◌, [], ◌∷◌, ◌++◌}
use Rattle.unicode_width.specs.Width.{char_width}
use Rattle.rd_base.specs.Cells.{single}
use Rattle.rd_objects.specs.Things.{nothing_made}
use Rattle.rd_rows.specs.Examples.{letters, line_end, twelve_truncated}
use Rattle.rd_rows.specs.Rows.{cutting_of}
use Rattle.rd_blocks.specs.Examples.{buffer}
use Rattle.rd_blocks.proofs.Steps.{by-parts}
use Rattle.rd_blocks.proofs.examples.a_row_scrolled_sideways.Goals as goal

pub returns-clause-scrolled : goal.returns-clause-scrolled
unfolding char_width
returns-clause-scrolled c = by-parts (record twelve_truncated { hscroll = 3 }) (buffer (97 ∷ 98 ∷ 99 ∷ 100 ∷ 101 ∷ 102 ∷ 103 ∷ 104 ∷ 105 ∷ 106 ∷ 107 ∷ 108 ∷ 109 ∷ 110 ∷ 111 ∷ 112 ∷ [])) nothing_made (record { start = 1; end = 18; base = 0 }) (cutting_of (record twelve_truncated { hscroll = 3 }) 0 [] [] (single 36 1) (single 92 1)) (letters 0 (97 ∷ 98 ∷ 99 ∷ 100 ∷ 101 ∷ 102 ∷ 103 ∷ 104 ∷ 105 ∷ 106 ∷ 107 ∷ 108 ∷ 109 ∷ 110 ∷ 111 ∷ 112 ∷ []) ++ line_end 16) refl refl ∙ refl

pub returns-clause-whole : goal.returns-clause-whole
unfolding char_width
returns-clause-whole c = by-parts twelve_truncated (buffer (97 ∷ 98 ∷ 99 ∷ 100 ∷ 101 ∷ 102 ∷ 103 ∷ 104 ∷ 105 ∷ 106 ∷ 107 ∷ 108 ∷ 109 ∷ 110 ∷ 111 ∷ 112 ∷ [])) nothing_made (record { start = 1; end = 18; base = 0 }) (cutting_of twelve_truncated 0 [] [] (single 36 1) (single 92 1)) (letters 0 (97 ∷ 98 ∷ 99 ∷ 100 ∷ 101 ∷ 102 ∷ 103 ∷ 104 ∷ 105 ∷ 106 ∷ 107 ∷ 108 ∷ 109 ∷ 110 ∷ 111 ∷ 112 ∷ []) ++ line_end 16) refl refl ∙ refl
