use Rattle.rd_tests_plays.proofs.plays.reuse.is_kept.Given as goal

abbrev pub ghosts-keeps : goal.ghosts-keeps
ghosts-keeps a = record { name = a.blank.name; parts = a.blank.parts }
