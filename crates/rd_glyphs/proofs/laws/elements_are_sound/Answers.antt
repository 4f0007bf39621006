use Rattle.rd_glyphs.proofs.Elements.{of-character, some-element}
use Rattle.rd_glyphs.proofs.laws.elements_are_sound.Goals as goal

pub returns : goal.returns
returns c = record { elements = of-character; some = some-element }
