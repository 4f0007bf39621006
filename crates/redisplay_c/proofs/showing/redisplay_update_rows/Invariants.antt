use Rattle.redisplay_c.proofs.showing.redisplay_update_rows.Given as goal

abbrev pub ghosts-update : goal.ghosts-update
ghosts-update a = record { name = a.blank.name; parts = a.blank.parts }
