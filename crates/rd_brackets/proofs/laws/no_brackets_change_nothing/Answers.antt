use Rattle.rd_brackets.proofs.Steps.{without-brackets}
use Rattle.rd_brackets.proofs.laws.no_brackets_change_nothing.Goals as goal

pub returns : goal.returns
returns c = without-brackets
