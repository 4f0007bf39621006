use Rattle.rd_tests_lines.proofs.visual.cells_show_positions.Given as goal

abbrev pub ghosts-first_rows : goal.ghosts-first_rows
ghosts-first_rows g a = record { name = a.blank.name; parts = a.blank.parts }
