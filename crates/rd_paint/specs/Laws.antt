-- What the proofs here take from the laws of the layers below.
use Rattle.std.specs.Prelude.{◌≡◌, ℕ, ◌+◌, List, Some, slice_get}
use Rattle.rd_base.specs.declared.cell.Cell.{Cell}
use Rattle.rd_ucd.specs.Data.{Data}
use Rattle.rd_frame.specs.Fits.{FitsFrame}
use Rattle.rd_frame.specs.Frames.{FrameValues}
use Rattle.rd_frame.specs.OneByOne.{IsPaintedNext}
use Rattle.rd_items.specs.Blocks.{ListedLaw}
use Rattle.rd_state.specs.States.{StateValue}
use Rattle.rd_state.specs.Valid.{IsValid}
use Rattle.rd_tree.specs.Calls.{frame_of}
use Rattle.rd_tree.specs.Compositions.{HasSize}
use Rattle.rd_tree.specs.Windows.{placed, window_at}
use Rattle.rd_tree.specs.declared.placed.Placed.{Placed}
use Rattle.rd_layout.specs.Laws.{ChosenLaw}
use Rattle.rd_layout.specs.Screens.{frame_in}

-- laws of the layers below: of blocks, of a frame's windows, of the window that is painted next, and of a window's start and point
pub record PaintLaws : Type 0 where
  pub listed : ListedLaw
  pub fits : (files : Data) (s : StateValue) → IsValid s → FitsFrame (frame_in files s)
  pub next : (f : FrameValues) (i number : ℕ) (window : Placed) (rows : List (List Cell)) → FitsFrame f → HasSize f.tree.width (f.tree.height + 1) rows → window_at number f.tree.windows (frame_of f.tree) ≡ Some window
      → slice_get (placed f.tree.windows (frame_of f.tree)) i ≡ Some window → IsPaintedNext f i window rows
  pub chosen : ChosenLaw
