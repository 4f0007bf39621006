use Rattle.rd_tests_texts.proofs.base.steps_are_counted.Given as goal

abbrev pub ghosts-count_two : goal.ghosts-count_two
ghosts-count_two a = record { name = a.blank.name; parts = a.blank.parts }
