use Rattle.rd_tests_lines.proofs.blocks.rows_come_from_blocks.Given as goal

abbrev pub ghosts-has_rows : goal.ghosts-has_rows
ghosts-has_rows g a = record { name = a.blank.name; parts = a.blank.parts }
