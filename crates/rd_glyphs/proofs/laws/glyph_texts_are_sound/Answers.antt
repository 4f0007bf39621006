use Rattle.rd_glyphs.proofs.Elements.{of-glyphs}
use Rattle.rd_glyphs.proofs.laws.glyph_texts_are_sound.Goals as goal

pub returns : goal.returns
returns c = of-glyphs
