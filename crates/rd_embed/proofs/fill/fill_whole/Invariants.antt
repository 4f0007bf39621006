use Rattle.std.proofs.Common.{◌-◌, length}
use Rattle.rd_embed.proofs.Filling.{IsFilled}
use Rattle.rd_embed.proofs.fill.fill_whole.Given as goal

abbrev pub invariant-each_text : goal.invariant-each_text
invariant-each_text g l = IsFilled (g.T.Texts.texts l.texts) l.fn.out l.filled.texts l.filled.bytes l.out

abbrev pub decreases-each_text : goal.decreases-each_text
decreases-each_text g l = length (g.T.Texts.texts l.texts) - l.filled.texts
