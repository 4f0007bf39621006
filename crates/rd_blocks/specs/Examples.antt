-- Buffers on which the definitions are worked out.
use Rattle.std.specs.Prelude.{ℕ, ◌+◌, Bool, List, [], ◌∷◌, map, Some}
use Rattle.rd_base.specs.Cells.{single}
use Rattle.rd_base.specs.Settings.{opening}
use Rattle.rd_base.specs.declared.cell.Cell.{Cell}
use Rattle.rd_base.specs.declared.class.Class.TheVariants.{R, WS, EN}
use Rattle.rd_base.specs.declared.settings.Direction.{Direction}
use Rattle.rd_ucd.specs.Data.{Data}
use Rattle.rd_objects.specs.Tables.{empty_table}
use Rattle.rd_objects.specs.Things.{ObjectLists, nothing_made}
use Rattle.rd_props.specs.Buffers.{BufferValue, values_of}
use Rattle.rd_props.specs.Examples.{put_once}
use Rattle.rd_props.specs.Examples as props
use Rattle.rd_items.specs.Examples.{bare}
use Rattle.rd_matrix.specs.Entries.{made_entry}
use Rattle.rd_matrix.specs.Sources.{rows_at}
use Rattle.rd_matrix.specs.declared.block.Block.{Block}
use Rattle.rd_matrix.specs.declared.matrix.Entry.{Entry}
use Rattle.rd_reuse.specs.Keeping.{is_kept}
use Rattle.rd_reuse.specs.declared.change.Change.{Change}
use Rattle.rd_rows.specs.Examples.{cells, twelve_continued}
use Rattle.rd_rows.specs.Shapes.{ShapeValues}
use Rattle.rd_blocks.specs.Bases.{blocks_in}
use Rattle.rd_blocks.specs.Sources.{rows_in, text_source}

-- blanks, digits, and two letters that are read from the right, r and t
abbrev pub files : Data
files = record {
  classes =
      record { first = 32; last = 32; class = WS } ∷ record { first = 48; last = 57; class = EN } ∷ record { first = 114; last = 114; class = R }
      ∷ record { first = 116; last = 116; class = R } ∷ [];
  mirrors = [];
  brackets = [];
}

-- a text without properties and overlays
abbrev pub buffer : List ℕ → BufferValue
buffer chars = props.buffer chars [] [] opening

-- an a, and in a line of its own an r, with and without reordering
abbrev pub two_lines : Bool → Direction → BufferValue
two_lines reorder direction =
    let s = buffer (97 ∷ 10 ∷ 114 ∷ []) in
    record s { settings = record opening { reorder = reorder; direction = direction } }

-- a text of which one position is invisible
abbrev pub hidden_at : ℕ → List ℕ → BufferValue
hidden_at at chars =
    let s = buffer chars in
    record s { properties = values_of ([] ∷ [] ∷ put_once at (at + 1) 1 ∷ []) }

-- a text of which the positions from one to another are accessible
abbrev pub narrowed_to : ℕ → ℕ → List ℕ → BufferValue
narrowed_to begin end chars =
    let s = buffer chars in
    record s { text = record { text = chars; begin = begin; end = end } }

-- the strings of an arrow and a plus sign, each with a blank
abbrev pub arrows : ObjectLists
arrows = record nothing_made { strings = bare (62 ∷ 32 ∷ []) ∷ bare (43 ∷ 32 ∷ []) ∷ [] }

-- a text behind these prefixes
abbrev pub with_prefixes : List ℕ → BufferValue
with_prefixes chars =
    let s = buffer chars in
    record s { settings = record opening { line_prefix = Some 0; wrap_prefix = Some 1 } }

-- the letters a and b, of which the one at a position has the second string as its line prefix
abbrev pub prefixed : ℕ → BufferValue
prefixed at =
    let s = with_prefixes (97 ∷ 98 ∷ []) in
    record s { properties = values_of ([] ∷ [] ∷ [] ∷ put_once at (at + 1) 1 ∷ []) }

-- a table with the marks + and &
abbrev pub marks : ObjectLists
marks = record nothing_made { tables = record empty_table { truncation = Some (single 43 1); continuation = Some (single 38 1) } ∷ [] }

abbrev pub with_marks : List ℕ → BufferValue
with_marks chars =
    let s = buffer chars in
    record s { settings = record opening { table = Some 0 } }

-- the blocks of a buffer with their base levels
abbrev pub bases_of : BufferValue → List Block
bases_of s = blocks_in files.classes s

-- the cells of the rows of a block
abbrev pub cells_of : ShapeValues → BufferValue → ObjectLists → Block → List (List Cell)
cells_of shape s objects b = cells (rows_in s objects files b shape)

-- all rows of a text, as they were laid out
abbrev pub older_rows : BufferValue → List Entry
older_rows s = map made_entry (rows_at (text_source s nothing_made files) twelve_continued)

-- which blocks of a text keep the rows that they had in an older one
abbrev pub keeping : BufferValue → BufferValue → Change → List Bool
keeping old new change = map (is_kept (older_rows old) change) (bases_of new)
