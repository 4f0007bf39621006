-- Words for what the code holds while it chooses: a strip of rows that were laid out. The crate's public contract does not name
-- them.
use Rattle.std.specs.Prelude.{◌≡◌, ℕ, ◌+◌, ◌-◌, ◌*◌, ◌^◌, ◌<◌, ◌≤◌, ◌⊎◌, min, max, nat_lt, Bool, true, false, if◌then◌else◌, List, [], ◌∷◌, ◌++◌, length, map, slice_get, ℤ, Option, None, Some, Result, MatchResult}
use Rattle.std.specs.List.{AllByRecursion, find, fold, list_any, position, range_with_len}
use Rattle.std.specs.Option.{option_map}
use Rattle.rd_base.specs.Lists.{moved}
use Rattle.rd_matrix.specs.Blocks.{IsAmong, IsWithin}
use Rattle.rd_matrix.specs.Entries.{EntryMeaning, all_rows, numbered}
use Rattle.rd_matrix.specs.Rows.{blocks_with}
use Rattle.rd_matrix.specs.Sources.{SourceValues, IsSource, costs_of, rows_at}
use Rattle.rd_matrix.specs.declared.block.Block.{Block}
use Rattle.rd_rows.specs.Rows.{RowMeaning}
use Rattle.rd_rows.specs.Shapes.{ShapeValues, IsShape}
use Rattle.rd_start.specs.Chosen.{anchor_at, anchor_row, begins_item, chosen_of, places_of, positions_of, row_of}
use Rattle.rd_start.specs.Near.{is_near, near_costs}
use Rattle.rd_start.specs.Starts.{around, centred, suits, wanted_above, wanted_below}
use Rattle.rd_start.specs.declared.strip.Edge.{Edge}
use Rattle.rd_start.specs.declared.strip.Edge.TheVariants.{Bottom, Top}
use Rattle.rd_start.specs.declared.strip.StripRow.{StripRow}
use Rattle.rd_start.specs.declared.wanted.Chosen.{Chosen}
use Rattle.rd_start.specs.declared.wanted.Wanted.{Wanted}
use Rattle.rd_start.specs.declared.strip.PointSide.{PointSide}
use Rattle.rd_start.specs.declared.strip.PointSide.TheVariants.{Above, Below, Within}
use Rattle.rd_start.specs.declared.strip.Strip.{Strip}
use Rattle.rd_start.specs.declared.strip.Sweep.{Sweep}
use Rattle.rd_start.specs.declared.span.Span.{Span}
use Rattle.rd_start.specs.declared.window.Window.{Window}

-- the least and the greatest of positions
abbrev pub span_of : List ℕ → Option Span
span_of [] = None
span_of (p ∷ ps) = Some (record { first = fold min p ps; last = fold max p ps })

-- the least and the greatest of the positions of two spans
abbrev pub span_of_both : Option Span → Option Span → Option Span
span_of_both None b = b
span_of_both (Some a) None = Some a
span_of_both (Some a) (Some b) = Some (record { first = min a.first b.first; last = max a.last b.last })

-- what is kept of a row
abbrev pub strip_row_of : ℕ → EntryMeaning → StripRow
strip_row_of point e = record { start = e.start; number = e.number; has_point = begins_item point e; span = span_of (positions_of e) }

-- the rows of a block, and their cost, as a sweep asks for them
abbrev pub rows_in : SourceValues → Sweep → Block → List RowMeaning
rows_in m sweep b = m.rows_of b sweep.shape

abbrev pub cost_in : SourceValues → Sweep → Block → ℕ
cost_in m sweep b = m.cost_of b sweep.shape

-- how many rows blocks have
abbrev pub count_in : SourceValues → Sweep → List Block → ℕ
count_in m sweep bs = length (all_rows (rows_in m sweep) bs)

-- the row of a sweep's anchor, and that of its point
abbrev pub home_row : SourceValues → Sweep → ℕ
home_row m sweep = anchor_row (rows_in m sweep) sweep.anchor m.blocks

abbrev pub point_row : SourceValues → Sweep → ℕ
point_row m sweep = row_of sweep.point (all_rows (rows_in m sweep) m.blocks)

-- these are the rows of blocks that stand one behind the other, as a strip keeps them, and the row of a sweep's anchor is at a place among
-- them
pub record IsStripOf (m : SourceValues) (sweep : Sweep) (bs : List Block) (ls : List StripRow) (at : ℕ) : Type 0 where
  pub source : IsSource m
  pub shape : IsShape sweep.shape
  pub point : IsWithin sweep.point m.blocks
  pub before : List Block
  pub after : List Block
  pub pieces : m.blocks ≡ before ++ (bs ++ after)
  pub some : 0 < length bs
  pub small : AllByRecursion (λ b. b.end < 2 ^ 32) bs
  pub strip_rows : ls ≡ map (strip_row_of sweep.point) (all_rows (rows_in m sweep) bs)
  pub home : count_in m sweep before + at ≡ home_row m sweep
  pub inside : at < length ls

abbrev pub IsStrip : SourceValues → Strip → Type 0
IsStrip m s = IsStripOf m s.sweep s.blocks.items s.strip_rows.items s.home

-- the number of a strip's first row
abbrev pub first_row : SourceValues → Strip → ℕ
first_row m s = home_row m s.sweep - s.home

-- each of these blocks has a row of a kind, where the first of their rows has a number
abbrev pub HaveRows : (ℕ → Bool) → (Block → List RowMeaning) → ℕ → List Block → Type 0
HaveRows kind rows first [] = Unit {0}
HaveRows kind rows first (b ∷ bs) =
    (list_any kind (range_with_len first (length (rows b))) ≡ true) × HaveRows kind rows (first + length (rows b)) bs

-- the row of a sweep's anchor moved down or up, held to the rows that there are
abbrev pub moved_row : SourceValues → Sweep → ℤ → ℕ
moved_row m sweep rows = min (moved rows (home_row m sweep)) (count_in m sweep m.blocks - 1)

-- the costs of all blocks that have a row of a kind
abbrev pub all_costs : (ℕ → Bool) → SourceValues → Sweep → ℕ
all_costs kind m sweep = costs_of (cost_in m sweep) (blocks_with kind (rows_in m sweep) 0 m.blocks)

-- the blocks of a strip each have a row of a kind, and cost no less than the steps that were taken since there were `base`
pub record IsPaidOf (kind : ℕ → Bool) (base : ℕ) (m : SourceValues) (sweep : Sweep) (bs : List Block) (at steps : ℕ) : Type 0 where
  pub have : HaveRows kind (rows_in m sweep) (home_row m sweep - at) bs
  pub paid : steps ≤ base + costs_of (cost_in m sweep) bs

abbrev pub IsPaid : (ℕ → Bool) → ℕ → SourceValues → Strip → ℕ → Type 0
IsPaid kind base m s steps = IsStrip m s × IsPaidOf kind base m s.sweep s.blocks.items s.home steps

-- the steps from one count to another, and those that a strip was paid with, are at most so many times the costs of the blocks near a
-- window
abbrev pub Affords : ℕ → SourceValues → ShapeValues → Wanted → Strip → ℕ → ℕ → Type 0
Affords times m shape w s old new = (base : ℕ) → IsPaid (is_near w (places_of m shape w)) base m s old → new ≤ base + times * near_costs m shape w

-- how far a strip reaches at an edge: at the top, how many rows stand above its anchor's; at the bottom, how many rows it has
abbrev pub extent : Edge → Strip → ℕ
extent Top s = s.home
extent Bottom s = length s.strip_rows.items

-- the text ends at an edge of a strip
abbrev pub EndsAt : Edge → SourceValues → Strip → Type 0
EndsAt Top m s = s.home ≡ home_row m s.sweep
EndsAt Bottom m s = first_row m s + length s.strip_rows.items ≡ count_in m s.sweep m.blocks

-- a strip reaches so many rows at an edge, or to the text's end there
abbrev pub ReachesAt : Edge → SourceValues → Strip → ℕ → Type 0
ReachesAt edge m s count = (count ≤ extent edge s) ⊎ EndsAt edge m s

-- a strip reaches a row, counted from its first, or ends with the text
abbrev pub Reaches : SourceValues → Strip → ℕ → Type 0
Reaches m s row = ReachesAt Bottom m s row

-- a strip begins so many rows before its anchor's, or with the text
abbrev pub BeginsAbove : SourceValues → Strip → ℕ → Type 0
BeginsAbove m s rows = ReachesAt Top m s rows

-- each number from one up to another is of a kind
abbrev pub Between : (ℕ → Bool) → ℕ → ℕ → Type 0
Between kind from to = (k : ℕ) → from ≤ k → k < to → kind k ≡ true

-- the first block of a sweep has a row of a kind: that of its anchor, or that of point, where point is the anchor's position
abbrev pub IsAsked : (ℕ → Bool) → SourceValues → Sweep → Type 0
IsAsked kind m sweep =
    (kind (home_row m sweep) ≡ true) ⊎ ((sweep.anchor.pos ≡ sweep.point) × (kind (point_row m sweep) ≡ true))

-- the rows of the text that a strip lacks to reach so many rows at an edge are each of a kind
abbrev pub AsksAt : Edge → (ℕ → Bool) → SourceValues → Strip → ℕ → Type 0
AsksAt Top kind m s count = Between kind (home_row m s.sweep - count) (first_row m s)
AsksAt Bottom kind m s count = Between kind (first_row m s + length s.strip_rows.items) (min (first_row m s + count) (count_in m s.sweep m.blocks))

-- the steps of a call that lays out rows beyond a strip, for each kind of rows of which it asks for no others: the strip stays paid, and
-- where memory is wanting no more steps were taken than the blocks cost that have such a row
abbrev pub PaysOn : {T E : Type 0} → SourceValues → ((ℕ → Bool) → Type 0) → Strip → Strip → ℕ → ℕ → Result T E → Type 0
PaysOn m Asks old new before after result =
    (kind : ℕ → Bool) (base : ℕ) → IsPaid kind base m old before → Asks kind
    → MatchResult result (λ _. IsPaid kind base m new after) (λ _. after ≤ base + all_costs kind m old.sweep)

-- a list to which more was added at an edge, and the place of one of its elements behind so many
abbrev pub pushed_at : {X : Type 0} → Edge → List X → List X → List X
pushed_at Top xs more = more ++ xs
pushed_at Bottom xs more = xs ++ more

abbrev pub moved_at : Edge → ℕ → ℕ → ℕ
moved_at Top place count = place + count
moved_at Bottom place count = place

-- a strip to which a block and its rows were added at an edge
pub record IsPushed (edge : Edge) (old new : Strip) (b : Block) (rows : List RowMeaning) : Type 0 where
  pub small : b.end < 2 ^ 32
  pub sweep : new.sweep ≡ old.sweep
  pub home : new.home ≡ moved_at edge old.home (length rows)
  pub blocks : new.blocks.items ≡ pushed_at edge old.blocks.items (b ∷ [])
  pub strip_rows : new.strip_rows.items ≡ pushed_at edge old.strip_rows.items (map (strip_row_of old.sweep.point) (numbered b.start 0 rows))

-- a strip that rows were added to at an edge
abbrev pub GrowsAt : Edge → Strip → Strip → Type 0
GrowsAt Top old new = (length new.strip_rows.items + old.home ≡ length old.strip_rows.items + new.home) × (old.home ≤ new.home)
GrowsAt Bottom old new = (new.home ≡ old.home) × (length old.strip_rows.items ≤ length new.strip_rows.items)

-- a block stands beyond an edge of a strip, among a source's blocks
pub record StandsBeyond (m : SourceValues) (s : Strip) (edge : Edge) (b : Block) : Type 0 where
  pub before : List Block
  pub after : List Block
  pub pieces : m.blocks ≡ before ++ (pushed_at edge s.blocks.items (b ∷ []) ++ after)
  pub home : count_in m s.sweep before + moved_at edge s.home (length (rows_in m s.sweep b)) ≡ home_row m s.sweep
  pub among : IsAmong m.blocks b

-- the block beyond an edge of a strip, and None where the text ends there
abbrev pub IsBeyond : SourceValues → Strip → Edge → Option Block → Type 0
IsBeyond m s edge None = EndsAt edge m s
IsBeyond m s edge (Some b) = StandsBeyond m s edge b

-- whether the view that starts with a row of a strip does not have the strip's row at an edge
abbrev pub hides_edge : Edge → Wanted → Strip → ℕ → Bool
hides_edge Top w s start = nat_lt 0 start
hides_edge Bottom w s start = nat_lt (start + w.height) (length s.strip_rows.items)

-- the rows that are wanted between point's and an edge of the view that starts with a row, of so many
abbrev pub wanted_at : Edge → Wanted → ℕ → ℕ → ℕ
wanted_at Top w count start = wanted_above w start
wanted_at Bottom w count start = wanted_below w count start

-- where point's row is, as seen from the rows from one place up to another
abbrev pub seen_from : ℕ → ℕ → ℕ → PointSide
seen_from from to row = if nat_lt row from then Above else if nat_lt row to then Within else Below

abbrev pub unseen_from : ℕ → Option Block → PointSide
unseen_from point None = Below
unseen_from point (Some b) = if nat_lt point b.start then Above else Below

abbrev pub side_of : ℕ → ℕ → PointSide → Option ℕ → PointSide
side_of from to unseen None = unseen
side_of from to unseen (Some row) = seen_from from to row

abbrev pub side_in : Strip → ℕ → ℕ → PointSide
side_in s from to = side_of from to (unseen_from s.sweep.point (slice_get s.blocks.items 0)) (position (λ (r : StripRow). r.has_point) s.strip_rows.items)

-- a sweep from a window's anchor
pub record IsFor (w : Wanted) (sweep : Sweep) : Type 0 where
  pub anchor : sweep.anchor ≡ w.anchor
  pub point : sweep.point ≡ w.point

-- a window's rows are laid out from its old start, and whether its start is forced
pub record IsLaidOut (m : SourceValues) (window : Window) (forced : Bool) : Type 0 where
  pub strip : IsStrip m window.strip
  pub of : IsFor window.wanted window.strip.sweep
  pub height : 1 ≤ window.wanted.height
  pub kind : window.wanted.forced ≡ forced

-- what is chosen for a window by all rows of a source
abbrev pub window_chosen : SourceValues → Window → Chosen
window_chosen m window = chosen_of m window.strip.sweep.shape window.wanted

-- a window that follows point, and whose old start does not suit
pub record IsUnsuited (m : SourceValues) (window : Window) : Type 0 where
  pub laid : IsLaidOut m window false
  pub home : suits window.wanted (places_of m window.strip.sweep.shape window.wanted) (first_row m window.strip + window.strip.home) ≡ false

-- the first of these rows that suits as the start, as a place of a window's strip, and None exactly where none suits
abbrev pub Finds : SourceValues → Window → Option ℕ → List ℕ → Type 0
Finds m window o rows =
    option_map (λ place. first_row m window.strip + place) o
    ≡ find (suits window.wanted (places_of m window.strip.sweep.shape window.wanted)) rows

-- the first row that suits as the start, as `Finds` says it, of those at most as far from the anchor's as the start may be moved: the
-- nearest first, and the lesser first where two are equally near
abbrev pub FindsNear : SourceValues → Window → Option ℕ → Type 0
FindsNear m window o = Finds m window o (around (first_row m window.strip + window.strip.home) window.wanted.conservatively)

-- a window that follows point, and whose strip has point's row at a place
pub record ShowsPoint (m : SourceValues) (window : Window) (row : ℕ) : Type 0 where
  pub laid : IsLaidOut m window false
  pub inside : row < length window.strip.strip_rows.items
  pub point : first_row m window.strip + row ≡ point_row m window.strip.sweep

-- the row at a place of a strip that starts with a row
abbrev pub row_at : ℕ → Option ℕ → List ℕ
row_at first None = []
row_at first (Some place) = (first + place) ∷ []

-- a strip has the row in which the item that covers its point begins
pub record HasPoint (m : SourceValues) (s : Strip) : Type 0 where
  pub strip : IsStrip m s
  pub from : first_row m s ≤ point_row m s.sweep
  pub to : point_row m s.sweep < first_row m s + length s.strip_rows.items

-- the choice of the start that brings point's row to the middle
abbrev pub centred_chosen : SourceValues → ShapeValues → Wanted → Chosen
centred_chosen m shape w = record { anchor = anchor_at (rows_at m shape) (centred w (places_of m shape w)); point = w.point }
