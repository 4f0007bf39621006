use Rattle.rd_lineshift.proofs.Reaching.{taken-fits}
use Rattle.rd_lineshift.proofs.law.shifts_stay_on_the_screen.Goals as goal

pub returns : goal.returns
returns c = taken-fits
