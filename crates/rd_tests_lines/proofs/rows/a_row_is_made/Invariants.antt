use Rattle.rd_tests_lines.proofs.rows.a_row_is_made.Given as goal

abbrev pub ghosts-is_marked : goal.ghosts-is_marked
ghosts-is_marked g a = record { name = a.blank.name; parts = a.blank.parts }
