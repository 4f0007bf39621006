-- What is known of the paragraph of a position.
use Rattle.std.specs.Prelude.{◌≡◌, ℕ, ◌≤◌, List}
use Rattle.rd_text.specs.Texts.{TextValue, next_newline, IsParagraphStart}
use Rattle.rd_ucd.specs.declared.spans.Span.{Span}
use Rattle.rd_para.specs.Paragraphs.{text_level, paragraph_place}
use Rattle.rd_para.specs.declared.paragraph.Paragraph.{Paragraph}

-- each position from its start up to the end of a line has its base level
pub record IsKnown (classes : List Span) (t : TextValue) (p : Paragraph) : Type 0 where
  pub first : t.begin ≤ p.from
  pub order : p.from ≤ p.to
  pub last : p.to ≤ t.end
  pub ends : p.to ≡ next_newline t p.to
  pub same : (pos : ℕ) → p.from ≤ pos → pos ≤ p.to → text_level classes t pos ≡ p.base

-- that of a position: where it begins, and where the position's line ends
pub record IsParagraph (classes : List Span) (t : TextValue) (pos : ℕ) (p : Paragraph) : Type 0 where
  pub known : IsKnown classes t p
  pub start : IsParagraphStart t (paragraph_place t pos) p.from
  pub low : p.from ≤ pos
  pub high : p.to ≡ next_newline t pos
