-- Blocks with their lines.
use Rattle.std.specs.Prelude.{◌≡◌, ℕ, zero, suc, ◌-◌, ◌^◌, ◌<◌, ◌≤◌, ◌==◌, ◌&&◌, nat_le, Bool, true, if◌then◌else◌, IsTrue, List, [], ◌∷◌, map, count_by, All, None}
use Rattle.rd_base.specs.Elements.{AreSound, ends_once, columns_at_most}
use Rattle.rd_base.specs.Lists.{is_between}
use Rattle.rd_matrix.specs.Blocks.{StandFrom, first_start}
use Rattle.rd_matrix.specs.Sources.{SourceValues, source_by_itself}
use Rattle.rd_matrix.specs.declared.block.Block.{Block}
use Rattle.rd_matrix.specs.declared.held.HeldBlock.{HeldBlock}
use Rattle.rd_rows.specs.Laws.{seen_rows, ranges_of}
use Rattle.rd_rows.specs.Prefixes.{IsPrefix}
use Rattle.rd_rows.specs.Rows.{LaidRow, cutting_of, rows_of, weight_of}
use Rattle.rd_rows.specs.Shapes.{ShapeValues}

abbrev pub blocks_held : List HeldBlock → List Block
blocks_held hs = map (λ h. h.block) hs

-- the rows of a block's line
abbrev pub laid_at : ShapeValues → HeldBlock → List LaidRow
laid_at shape h = rows_of (cutting_of shape h.block.base h.first h.wrap h.truncation h.continuation) h.elements

-- the rows of the block that starts at a position
abbrev pub laid_from : ShapeValues → ℕ → List HeldBlock → List LaidRow
laid_from shape start [] = []
laid_from shape start (h ∷ hs) = if h.block.start == start then laid_at shape h else laid_from shape start hs

-- the source that these blocks are
abbrev pub source_of : List HeldBlock → SourceValues
source_of hs =
    source_by_itself (blocks_held hs) (λ b shape. seen_rows (laid_from shape b.start hs)) (λ b shape. weight_of (laid_from shape b.start hs))

abbrev pub in_range : ℕ → ℕ × ℕ → Bool
in_range offset r = is_between r.0 r.1 offset

-- whether each offset below a number is in exactly one of these ranges
abbrev pub covers_each : ℕ → List (ℕ × ℕ) → Bool
covers_each zero rs = true
covers_each (suc n) rs = (count_by (in_range n) rs == 1) && covers_each n rs

-- whether ranges end where they begin or later, and not behind a number
abbrev pub are_inside : ℕ → List (ℕ × ℕ) → Bool
are_inside size [] = true
are_inside size (r ∷ rs) = nat_le r.0 r.1 && nat_le r.1 size && are_inside size rs

-- a block with the line of its positions: sound elements up to one line end, in fewer than 2^63 columns, whose items cover each of
-- the block's positions once
pub record IsHeld (h : HeldBlock) : Type 0 where
  pub base : h.block.base ≤ 1
  pub some : h.block.start < h.block.end
  pub first : IsPrefix h.first
  pub wrap : IsPrefix h.wrap
  pub truncation : h.truncation.width ≡ 1
  pub continuation : h.continuation.width ≡ 1
  pub sound : AreSound h.elements
  pub end : IsTrue (ends_once h.elements)
  pub columns : columns_at_most h.elements < 2 ^ 63
  pub covers : IsTrue (covers_each (h.block.end - h.block.start) (ranges_of None h.elements))
  pub inside : IsTrue (are_inside (h.block.end - h.block.start) (ranges_of None h.elements))

-- blocks one behind the other, with their lines
pub record AreHeld (hs : List HeldBlock) : Type 0 where
  pub stand : StandFrom (first_start (blocks_held hs)) (blocks_held hs)
  pub lines : All IsHeld hs
