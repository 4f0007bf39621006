use Rattle.std.proofs.Common.{refl, ◌∙◌, [], ◌∷◌, ◌++◌}
use Rattle.unicode_width.specs.Width.{char_width}
use Rattle.rd_base.specs.Cells.{single}
use Rattle.rd_rows.specs.Examples.{letters, line_end, prefix, twelve_continued}
use Rattle.rd_rows.specs.Rows.{cutting_of}
use Rattle.rd_blocks.specs.Examples.{with_prefixes, prefixed, arrows}
use Rattle.rd_blocks.proofs.Steps.{by-parts}
use Rattle.rd_blocks.proofs.examples.rows_behind_prefixes.Goals as goal

pub returns-clause-settings : goal.returns-clause-settings
unfolding char_width
returns-clause-settings c = by-parts twelve_continued (with_prefixes (97 ∷ 98 ∷ 99 ∷ 100 ∷ 101 ∷ 102 ∷ 103 ∷ 104 ∷ 105 ∷ 106 ∷ 107 ∷ 108 ∷ [])) arrows (record { start = 1; end = 14; base = 0 }) (cutting_of twelve_continued 0 (prefix (62 ∷ 32 ∷ [])) (prefix (43 ∷ 32 ∷ [])) (single 36 1) (single 92 1)) (letters 0 (97 ∷ 98 ∷ 99 ∷ 100 ∷ 101 ∷ 102 ∷ 103 ∷ 104 ∷ 105 ∷ 106 ∷ 107 ∷ 108 ∷ []) ++ line_end 12) refl refl ∙ refl

pub returns-clause-first : goal.returns-clause-first
unfolding char_width
returns-clause-first c = by-parts twelve_continued (prefixed 1) arrows (record { start = 1; end = 4; base = 0 }) (cutting_of twelve_continued 0 (prefix (43 ∷ 32 ∷ [])) (prefix (43 ∷ 32 ∷ [])) (single 36 1) (single 92 1)) (letters 0 (97 ∷ 98 ∷ []) ++ line_end 2) refl refl ∙ refl

pub returns-clause-second : goal.returns-clause-second
unfolding char_width
returns-clause-second c = by-parts twelve_continued (prefixed 2) arrows (record { start = 1; end = 4; base = 0 }) (cutting_of twelve_continued 0 (prefix (62 ∷ 32 ∷ [])) (prefix (43 ∷ 32 ∷ [])) (single 36 1) (single 92 1)) (letters 0 (97 ∷ 98 ∷ []) ++ line_end 2) refl refl ∙ refl

pub returns-clause-empty : goal.returns-clause-empty
unfolding char_width
returns-clause-empty c = by-parts twelve_continued (with_prefixes []) arrows (record { start = 1; end = 2; base = 0 }) (cutting_of twelve_continued 0 (prefix (62 ∷ 32 ∷ [])) (prefix (43 ∷ 32 ∷ [])) (single 36 1) (single 92 1)) (line_end 0) refl refl ∙ refl
