use Rattle.rd_tests_lines.proofs.reuse.assert_all.Given as goal

abbrev pub ghosts-holds : goal.ghosts-holds
ghosts-holds g a = record { name = a.blank.name; parts = a.blank.parts }
