use Rattle.redisplay_c.proofs.showing.redisplay_line.Given as goal

abbrev pub ghosts-run_line : goal.ghosts-run_line
ghosts-run_line a = record { name = a.blank.name; parts = a.blank.parts }
