-- The numbers of what ops make: each sort of things counts from 0 in order of making.
use Rattle.std.specs.Prelude.{◌≡◌, ℕ, Bool, true, false, is_some, Option, None, Some, List, length, option_map, slice_get}
use Rattle.rd_script.specs.declared.op.Op.{Op}
use Rattle.rd_script.specs.declared.op.Op.TheVariants.{Buffer, Overlay as MakeOverlay, AddString, AddSpec, AddFace, AddTable, Split}
use Rattle.rd_state.specs.Effects.{overlay_in}
use Rattle.rd_state.specs.States.{StateValue, number_of}
use Rattle.rd_state.specs.Windows.{window_of}

-- how many overlays were made in the buffer with a name
abbrev pub overlays_made : StateValue → List ℕ → Option ℕ
overlays_made s name = option_map (λ b. length b.content.overlays) (slice_get s.buffers (number_of name s.buffers))

-- the number of what an op makes where it is accepted: of a buffer, of an overlay among those of its buffer, of an object among those
-- of its sort, and of a window
abbrev pub number_made : StateValue → Op → Option ℕ
number_made s (Buffer name) = Some (length s.buffers)
number_made s (MakeOverlay name from to priority front rear) = overlays_made s name
number_made s (AddString text runs) = Some (length s.objects.strings)
number_made s (AddSpec spec) = Some (length s.objects.specs)
number_made s (AddFace face) = Some (length s.objects.faces)
number_made s (AddTable entries truncation continuation escape control ellipsis border) = Some (length s.objects.tables)
number_made s (Split window side size) = Some s.tree.made
number_made s op = None

-- whether a thing of the sort that an op makes is there under a number
abbrev pub is_there : StateValue → Op → ℕ → Bool
is_there s (Buffer name) number = is_some (slice_get s.buffers number)
is_there s (MakeOverlay name from to priority front rear) number = is_some (overlay_in s name number)
is_there s (AddString text runs) number = is_some (slice_get s.objects.strings number)
is_there s (AddSpec spec) number = is_some (slice_get s.objects.specs number)
is_there s (AddFace face) number = is_some (slice_get s.objects.faces number)
is_there s (AddTable entries truncation continuation escape control ellipsis border) number = is_some (slice_get s.objects.tables number)
is_there s (Split window side size) number = is_some (window_of number s.windows)
is_there s op number = false

-- an op that led from one state to another made the one thing that has this number: it is there behind the op, and was not before
abbrev pub IsMade : StateValue → Op → ℕ → StateValue → Type 0
IsMade old op number new = (is_there old op number ≡ false) × (is_there new op number ≡ true)
