use Rattle.std.proofs.Common.{refl, ◌∙◌, [], ◌∷◌, ◌++◌}
use Rattle.unicode_width.specs.Width.{char_width}
use Rattle.rd_base.specs.Cells.{single}
use Rattle.rd_objects.specs.Things.{nothing_made}
use Rattle.rd_rows.specs.Examples.{letters, line_end, twelve_continued, twelve_truncated}
use Rattle.rd_rows.specs.Rows.{cutting_of}
use Rattle.rd_blocks.specs.Examples.{buffer, with_marks, marks}
use Rattle.rd_blocks.proofs.Steps.{by-parts}
use Rattle.rd_blocks.proofs.examples.marks_of_rows_that_go_on.Goals as goal

pub returns-clause-left : goal.returns-clause-left
unfolding char_width
returns-clause-left c = by-parts twelve_continued (buffer (97 ∷ 98 ∷ 99 ∷ 100 ∷ 101 ∷ 102 ∷ 103 ∷ 104 ∷ 105 ∷ 106 ∷ 107 ∷ 108 ∷ [])) nothing_made (record { start = 1; end = 14; base = 0 }) (cutting_of twelve_continued 0 [] [] (single 36 1) (single 92 1)) (letters 0 (97 ∷ 98 ∷ 99 ∷ 100 ∷ 101 ∷ 102 ∷ 103 ∷ 104 ∷ 105 ∷ 106 ∷ 107 ∷ 108 ∷ []) ++ line_end 12) refl refl ∙ refl

pub returns-clause-right : goal.returns-clause-right
unfolding char_width
returns-clause-right c = by-parts twelve_continued (buffer (114 ∷ 114 ∷ 114 ∷ 114 ∷ 114 ∷ 114 ∷ 114 ∷ 114 ∷ 114 ∷ 114 ∷ 114 ∷ 114 ∷ [])) nothing_made (record { start = 1; end = 14; base = 1 }) (cutting_of twelve_continued 1 [] [] (single 36 1) (single 47 1)) (letters 0 (114 ∷ 114 ∷ 114 ∷ 114 ∷ 114 ∷ 114 ∷ 114 ∷ 114 ∷ 114 ∷ 114 ∷ 114 ∷ 114 ∷ []) ++ line_end 12) refl refl ∙ refl

pub returns-clause-table : goal.returns-clause-table
unfolding char_width
returns-clause-table c = by-parts twelve_continued (with_marks (97 ∷ 98 ∷ 99 ∷ 100 ∷ 101 ∷ 102 ∷ 103 ∷ 104 ∷ 105 ∷ 106 ∷ 107 ∷ 108 ∷ [])) marks (record { start = 1; end = 14; base = 0 }) (cutting_of twelve_continued 0 [] [] (single 43 1) (single 38 1)) (letters 0 (97 ∷ 98 ∷ 99 ∷ 100 ∷ 101 ∷ 102 ∷ 103 ∷ 104 ∷ 105 ∷ 106 ∷ 107 ∷ 108 ∷ []) ++ line_end 12) refl refl ∙ refl

pub returns-clause-cut : goal.returns-clause-cut
unfolding char_width
returns-clause-cut c = by-parts twelve_truncated (with_marks (97 ∷ 98 ∷ 99 ∷ 100 ∷ 101 ∷ 102 ∷ 103 ∷ 104 ∷ 105 ∷ 106 ∷ 107 ∷ 108 ∷ [])) marks (record { start = 1; end = 14; base = 0 }) (cutting_of twelve_truncated 0 [] [] (single 43 1) (single 38 1)) (letters 0 (97 ∷ 98 ∷ 99 ∷ 100 ∷ 101 ∷ 102 ∷ 103 ∷ 104 ∷ 105 ∷ 106 ∷ 107 ∷ 108 ∷ []) ++ line_end 12) refl refl ∙ refl
