-- A valid state with other parts.
use Rattle.std.proofs.Common.{ℕ, List}
use Rattle.rd_objects.specs.Sound.{AreObjects, IsClosed}
use Rattle.rd_objects.specs.Things.{ObjectLists}
use Rattle.rd_tree.specs.Calls.{Configuration}
use Rattle.rd_state.specs.States.{BufferValue, StateValue}
use Rattle.rd_state.specs.Valid.{AreBuffers, AreWindows, IsFrame, IsValid}
use Rattle.rd_state.specs.Windows.{NumberedWindow}

pub with_parts : (s : StateValue) (bs : List BufferValue) (objects : ObjectLists) (c : Configuration) (ws : List NumberedWindow) (n width height : ℕ) → IsValid s
    → AreBuffers objects bs → AreObjects objects → IsClosed objects → AreWindows bs c ws n → IsFrame c width height
    → IsValid (record s { buffers = bs; objects = objects; tree = c; windows = ws; selected = n; width = width; height = height })
with_parts s bs objects c ws n width height valid buffers sound closed windows frame = record {
  buffers = buffers;
  objects = sound;
  closed = closed;
  windows = windows;
  frame = frame;
  margin = valid.margin;
  conservatively = valid.conservatively;
  echo = valid.echo;
}
