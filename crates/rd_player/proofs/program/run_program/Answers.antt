use Rattle.rd_player.proofs.program.run_program.Goals as goal

pub returns-in-Ok : goal.returns-in-Ok
returns-in-Ok g c = record { answered = (c.play-status.result, c.code.ensures, rw c.in-Ok.is (c.play-status.ensures.ran, c.play-status.ensures.faults)) }
