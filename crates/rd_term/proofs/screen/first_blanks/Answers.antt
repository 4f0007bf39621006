use Rattle.std.proofs.Common.{◌∙◌, take, ap}
use Rattle.std.proofs.lemmas.List.{take-replicate}
use Rattle.rd_term.specs.Pictures.{blank}
use Rattle.rd_term.proofs.screen.first_blanks.Goals as goal

pub returns : goal.returns
returns c = ap (take c.args.columns) c.requires.blanks ∙ take-replicate c.args.columns 400 blank c.requires.columns
