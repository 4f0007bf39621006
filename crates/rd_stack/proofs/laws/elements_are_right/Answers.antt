use Rattle.rd_stack.proofs.Sound.{GlyphLaws, read-good, prefix-good}
use Rattle.rd_stack.proofs.laws.elements_are_right.Goals as goal

pub returns : goal.returns
returns c =
    let glyphs : GlyphLaws = record {
      character = c.elements_are_sound.ensures.elements;
      text = c.glyph_texts_are_sound.ensures;
    } in
    let marks = c.marks_join_measured_glyphs.ensures in
    record {
      line = λ scene base es sound parts measured coded. read-good glyphs marks scene base sound parts es measured coded;
      prefix = λ scene base number sound parts. prefix-good glyphs marks scene base sound parts number;
    }
