-- The walk over the positions of a block that makes its items.
use Rattle.std.specs.Prelude.{◌≡◌, ℕ, Bool, true, false, ◌-◌, ◌<◌, ◌≤◌, List, [], ◌∷◌, ◌++◌, Option, None, Some, Result, Ok, Err}
use Rattle.rd_base.specs.declared.memory.Memory.{Memory}
use Rattle.rd_glyphs.specs.Marks.{marked, with_held}
use Rattle.rd_props.specs.Buffers.{BufferValue}
use Rattle.rd_items.specs.Readings.{reading}
use Rattle.rd_items.specs.Pieces.{Scene, pieces_from}
use Rattle.rd_items.specs.Items.{piece_joins, covering}
use Rattle.rd_items.specs.declared.item.Item.{Item}
use Rattle.rd_items.specs.declared.piece.Piece.{Piece}

-- the pieces of a position and of those after it up to the block's ender, by their offsets from a start
abbrev pub pieces_left : BufferValue → Scene → ℕ → ℕ → List Piece
pieces_left s scene start p = pieces_from scene 0 (p - start) (reading s scene.objects p)

-- all items, where some are made, a piece is held, and pieces are left
abbrev pub whole : List Item → ℕ → Option Piece → List Piece → List Item
whole items since held xs = items ++ covering since (with_held piece_joins held xs)

-- what a step over the positions answers, by what all items are of the pieces that are left before and after it: behind the
-- ender none are left, and else those from a later position on
abbrev pub Steps : Result (Option ℕ) Memory → BufferValue → Scene → ℕ → ℕ → (List Piece → List Item) → (List Piece → List Item) → Type 0
Steps (Ok None) s scene start p before after = after [] ≡ before (pieces_left s scene start p)
Steps (Ok (Some next)) s scene start p before after =
    (p < next) × (next ≤ s.text.end) × (after (pieces_left s scene start next) ≡ before (pieces_left s scene start p))
Steps (Err stop) s scene start p before after = Unit {0}

-- whether the mark of the next piece joins one, which is changed then alone
abbrev pub TakesMark : Bool → Piece → Piece → Piece → Type 0
TakesMark true old new next = marked piece_joins old next ≡ Some new
TakesMark false old new next = (marked piece_joins old next ≡ None) × (new ≡ old)

-- whether a piece that may be held took a mark, and what is held then
abbrev pub TakesMarkIn : Bool → Option Piece → Option Piece → Piece → Type 0
TakesMarkIn true old new next = (xs : List Piece) → with_held piece_joins new xs ≡ with_held piece_joins old (next ∷ xs)
TakesMarkIn false old new next = (new ≡ old) × ((held : Piece) → old ≡ Some held → marked piece_joins held next ≡ None)
