use Rattle.rd_glyphs.proofs.Wholeness.{plain-length, plain-whole, plain-coloured}
use Rattle.rd_glyphs.proofs.laws.plain_lines_are_whole.Goals as goal

pub returns : goal.returns
returns c = record { width = plain-length; whole = plain-whole; coloured = plain-coloured }
