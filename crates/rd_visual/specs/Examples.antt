-- Two lines, and the ranges of their items in visual order.
use Rattle.std.specs.Prelude.{ℕ, ◌+◌, Bool, true, false, List, [], ◌∷◌, map}
use Rattle.rd_base.specs.Faces.{plain}
use Rattle.rd_base.specs.Glyphs.{blanks}
use Rattle.rd_objects.specs.Things.{nothing_made}
use Rattle.rd_props.specs.Buffers.{BufferValue}
use Rattle.rd_matrix.specs.Entries.{EntryMeaning}
use Rattle.rd_matrix.specs.declared.block.Block.{Block}
use Rattle.rd_rows.specs.declared.begin.Begin.{Begin}
use Rattle.rd_blocks.specs.Examples.{buffer, files}
use Rattle.rd_visual.specs.Motion.{block_ranges}
use Rattle.rd_visual.specs.declared.range.Range.{Range}

-- the ranges of items that cover one position each
abbrev pub single : ℕ → Range
single pos = record { from = pos; to = pos + 1 }

abbrev pub singles : List ℕ → List Range
singles ps = map single ps

-- two letters that are read from the right, a blank and 12, in a block that is read from the right edge
abbrev pub from_the_right : BufferValue
from_the_right = buffer (114 ∷ 116 ∷ 32 ∷ 49 ∷ 50 ∷ [])

abbrev pub right_block : Block
right_block = record { start = 1; end = 7; base = 1 }

-- an a, two letters that are read from the right, and a b
abbrev pub from_the_left : BufferValue
from_the_left = buffer (97 ∷ 114 ∷ 116 ∷ 98 ∷ [])

abbrev pub left_block : Block
left_block = record { start = 1; end = 6; base = 0 }

abbrev pub ranges_in : BufferValue → Block → List Range
ranges_in s b = block_ranges s nothing_made files b

-- an item, by the offsets from which and to which it covers, and its column
abbrev pub item : ℕ → ℕ → ℕ → Begin
item from to column = record { from = from; to = to; column = column }

-- the row of a block that starts at a position, in a window of twelve columns, in which these items begin
abbrev pub row_of : Bool → ℕ → List Begin → EntryMeaning
row_of reversed start begins = record { start = start; number = 0; row = record { cells = blanks 12 plain; begins = begins; reversed = reversed; ends_block = true } }

-- the rows of a block that starts at 5, read from the left edge and from the right edge
abbrev pub row_from_the_left : List Begin → List EntryMeaning
row_from_the_left begins = row_of false 5 begins ∷ []

abbrev pub row_from_the_right : List Begin → List EntryMeaning
row_from_the_right begins = row_of true 5 begins ∷ []

-- the row of the first line
abbrev pub right_row : EntryMeaning
right_row = row_of true 1 (item 0 1 0 ∷ item 1 2 1 ∷ item 2 3 2 ∷ item 4 5 3 ∷ item 3 4 4 ∷ item 5 6 5 ∷ [])
