-- The order in which the places of a line are shown, by L2.
use Rattle.std.specs.Prelude.{◌≡◌, ℕ, ◌%◌, ◌<◌, ◌==◌, [], ◌∷◌, ◌++◌, All, Bool, if◌then◌else◌, List, length, map, replicate, slice_index}
use Rattle.rd_base.specs.declared.class.Class.{Class}
use Rattle.rd_ucd.specs.declared.spans.BracketEntry.{BracketEntry}
use Rattle.rd_order.specs.Order.{l2_visual_order}
use Rattle.rd_levels.specs.Levels.{line_levels}
use Rattle.rd_levels.specs.declared.turn.Turn.{Turn}

-- the level of each place of a line of these classes and codes: 0 where reordering is off
abbrev pub levels_with : List BracketEntry → Bool → ℕ → List Class → List ℕ → List ℕ
levels_with entries reorder base cs codes = if reorder then line_levels entries base cs codes else replicate (length cs) 0

-- for L2, a place with whether its level is odd
abbrev pub turn_of : List ℕ → ℕ → Turn
turn_of levels i = record { index = i; odd = slice_index levels i % 2 == 1 }

-- for L2, places of these levels in visual order, each with whether its level is odd
abbrev pub turns_by : ℕ → List ℕ → List Turn
turns_by base levels = map (turn_of levels) (l2_visual_order base levels)

-- the places of a line of these classes and codes in visual order
abbrev pub turns_of : List BracketEntry → Bool → ℕ → List Class → List ℕ → List Turn
turns_of entries reorder base cs codes = turns_by base (levels_with entries reorder base cs codes)

-- what a walk through a line in visual order has before it: the turns that are left, and how many places the line has
pub record Ahead : Type 0 where
  pub turns : List Turn
  pub places : ℕ

-- the place with this index comes last, and each other has a lower one
pub record ComesLast (turns : List Turn) (n : ℕ) : Type 0 where
  pub front : List Turn
  pub last : Turn
  pub whole : turns ≡ front ++ last ∷ []
  pub index : last.index ≡ n
  pub others : All (λ t. t.index < n) front
