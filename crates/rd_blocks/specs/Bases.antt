-- The blocks of a buffer, each with the level from which its rows are read.
use Rattle.std.specs.Prelude.{ℕ, ◌≤◌, if◌then◌else◌, List, map}
use Rattle.rd_text.specs.Texts.{TextValue}
use Rattle.rd_ucd.specs.declared.spans.Span.{Span}
use Rattle.rd_para.specs.Known.{IsKnown}
use Rattle.rd_para.specs.Paragraphs.{base_at}
use Rattle.rd_para.specs.declared.paragraph.Paragraph.{Paragraph}
use Rattle.rd_props.specs.Buffers.{BufferValue}
use Rattle.rd_items.specs.Blocks.{blocks_of}
use Rattle.rd_matrix.specs.declared.block.Block.{Block}

-- a paragraph that is known, with a position in it
pub record IsParagraphAt (classes : List Span) (t : TextValue) (pos : ℕ) (p : Paragraph) : Type 0 where
  pub known : IsKnown classes t p
  pub from : p.from ≤ pos
  pub to : pos ≤ p.to

-- the base level of the block that starts at a position: that of its paragraph, and 0 where nothing is reordered
abbrev pub block_base : List Span → BufferValue → ℕ → ℕ
block_base classes s start = if s.settings.reorder then base_at classes s.text s.settings.direction start else 0

abbrev pub block_in : List Span → BufferValue → ℕ × ℕ → Block
block_in classes s b = record { start = b.0; end = b.1; base = block_base classes s b.0 }

-- all blocks of the accessible text, in order
abbrev pub blocks_in : List Span → BufferValue → List Block
blocks_in classes s = map (block_in classes s) (blocks_of s)
