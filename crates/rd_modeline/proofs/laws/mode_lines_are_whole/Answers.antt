use Rattle.std.proofs.Common.{arith}
use Rattle.rd_base.specs.Cells.{HasColours}
use Rattle.rd_modeline.specs.Lines.{inverse, line_text}
use Rattle.rd_modeline.proofs.Characters.{text-characters}
use Rattle.rd_modeline.proofs.laws.mode_lines_are_whole.Goals as goal

inverse-coloured : HasColours inverse
inverse-coloured = record { fg = omega arith; bg = omega arith }

pub returns : goal.returns
returns c =
    let plain = c.plain_lines_are_whole.ensures in
    record {
      width = λ classes facts width pieces. plain.width classes inverse width (line_text classes facts width pieces);
      coloured = λ classes facts width pieces. plain.coloured classes inverse width (line_text classes facts width pieces) inverse-coloured;
      whole = λ classes facts width format pieces is characters found.
          plain.whole classes inverse width (line_text classes facts width pieces) (text-characters classes facts width format pieces is characters found);
    }
