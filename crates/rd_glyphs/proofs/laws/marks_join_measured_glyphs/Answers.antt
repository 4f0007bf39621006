use Rattle.rd_glyphs.proofs.Measures.{on_blank-measured}
use Rattle.rd_glyphs.proofs.Wholeness.{mark_role_of-measured, base-measured, mark-measured, marked_glyph-measured}
use Rattle.rd_glyphs.proofs.laws.marks_join_measured_glyphs.Goals as goal

pub returns : goal.returns
returns c = record {
  role = mark_role_of-measured;
  base = base-measured;
  mark = mark-measured;
  blank = λ code mark. on_blank-measured code mark.0 mark.1;
  joined = marked_glyph-measured;
}
