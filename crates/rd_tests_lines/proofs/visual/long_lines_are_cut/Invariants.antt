use Rattle.rd_tests_lines.proofs.visual.long_lines_are_cut.Given as goal

abbrev pub ghosts-shows : goal.ghosts-shows
ghosts-shows g a = record { name = a.blank.name; parts = a.blank.parts }
