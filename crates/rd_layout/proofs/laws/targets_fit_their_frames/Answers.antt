use Rattle.rd_layout.proofs.Fitting.{fits}
use Rattle.rd_layout.proofs.laws.targets_fit_their_frames.Goals as goal

pub returns : goal.returns
returns c = fits c.fit_laws.ensures
