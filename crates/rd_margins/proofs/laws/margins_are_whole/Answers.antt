use Rattle.std.proofs.Common.{ℕ, ◌+◌, ◌^◌, ◌<◌, IsTrue, List, [], Option, None, Some, All}
use Rattle.std.specs.Prelude.{◌==◌, IfSome}
use Rattle.std.proofs.lemmas.List.Elements.{All-nil}
use Rattle.rd_base.specs.Chars.{is_code}
use Rattle.rd_base.specs.Faces.{plain}
use Rattle.rd_base.proofs.Choices.{either}
use Rattle.rd_base.proofs.Colours.{plain-coloured}
use Rattle.rd_glyphs.specs.Lines.{plain_cells}
use Rattle.rd_ucd.specs.declared.spans.Span.{Span}
use Rattle.rd_margins.specs.declared.rows.Widths.{Widths}
use Rattle.rd_margins.specs.Cells.{IsMargin, margin_cells, number_cells}
use Rattle.rd_margins.proofs.Whole.{beside-margin, numbers-margin}
use Rattle.rd_margins.proofs.laws.margins_are_whole.Goals as goal

pub returns : goal.returns
returns c = λ classes widths row line text fits codes.
    either (IsMargin (widths.numbers + widths.strings)) (row == 0) (margin_cells classes widths (Some line) text) (margin_cells classes widths None [])
    (both classes widths (Some line) text fits codes) (both classes widths None [] tt (All-nil (λ c. IsTrue (is_code c)))) where
      string : (classes : List Span) (columns : ℕ) (text : List ℕ) → All (λ c. IsTrue (is_code c)) text → IsMargin columns (plain_cells classes plain columns text)
      string classes columns text codes =
          let lines = c.plain_lines_are_whole.ensures in
          record { count = lines.width classes plain columns text; whole = lines.whole classes plain columns text codes; coloured = lines.coloured classes plain columns text plain-coloured }

      both : (classes : List Span) (widths : Widths) (line : Option ℕ) (text : List ℕ) → IfSome line (λ n. n < 2 ^ 64) → All (λ c. IsTrue (is_code c)) text
          → IsMargin (widths.numbers + widths.strings) (margin_cells classes widths line text)
      both classes widths line text fits codes =
          beside-margin widths.numbers widths.strings (number_cells widths.numbers line) (plain_cells classes plain widths.strings text)
          (numbers-margin widths.numbers line fits) (string classes widths.strings text codes)
