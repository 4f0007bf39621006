use Rattle.rd_layout.proofs.Soundness.{target-size, target-sound}
use Rattle.rd_layout.proofs.laws.targets_are_sound.Goals as goal

pub returns-clause-size : goal.returns-clause-size
returns-clause-size c = target-size c.fit_laws.ensures c.frames_are_pictures.ensures.size

pub returns-clause-sound : goal.returns-clause-sound
returns-clause-sound c = target-sound (record {
  fit = c.fit_laws.ensures;
  coloured = c.rows_of_buffers_are_coloured.ensures.all;
  mode_coloured = c.mode_lines_are_whole.ensures.coloured;
  mode_whole = c.mode_lines_are_whole.ensures.whole;
  bar = c.borders_are_whole.ensures.bar;
  slot = c.borders_are_whole.ensures.slot;
  border_coloured = c.borders_are_whole.ensures.coloured;
  measured = λ face origin text is. (c.glyph_texts_are_sound.ensures face origin text is).measured;
  whole = c.frames_are_pictures.ensures.whole;
  frame_coloured = c.frames_are_pictures.ensures.coloured;
})
