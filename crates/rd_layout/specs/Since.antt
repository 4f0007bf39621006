-- What holds of each session: its state is valid, a known screen is the frame's, and the last layouts are still known.
use Rattle.std.specs.Prelude.{◌≡◌, ℕ, ◌<◌, Option, None, Some}
use Rattle.rd_ucd.specs.Data.{Data}
use Rattle.rd_blocks.specs.Kept.{AreRowsAt}
use Rattle.rd_blocks.specs.Leads.{LeadsTo}
use Rattle.rd_blocks.specs.Sources.{text_source}
use Rattle.rd_objects.specs.Things.{ObjectLists}
use Rattle.rd_props.specs.Buffers as props
use Rattle.rd_reuse.specs.Changes.{IsChange}
use Rattle.rd_rows.specs.Shapes.{IsShape}
use Rattle.rd_state.specs.States.{StateValue, seen}
use Rattle.rd_state.specs.Valid.{IsValid}
use Rattle.rd_state.specs.Windows.{shown_content, window_of}
use Rattle.rd_state.specs.declared.window.WindowState.{WindowState}
use Rattle.rd_term.specs.Pictures.{Picture, IsOfSize}
use Rattle.rd_text.specs.Texts.{IsText}
use Rattle.rd_update.specs.Laws.{IsSound}
use Rattle.rd_window.specs.Layouts.{StandsUnchanged}
use Rattle.rd_window.specs.declared.layout.Layout.{Layout}
use Rattle.rd_layout.specs.Sessions.{SessionValue, layout_of}
use Rattle.rd_layout.specs.Windows.{window_source}

-- A last layout of a window has rows of an older state of the buffer, and the change since leads from that state to the present one. Where
-- nothing changed and the window's start was not set by command, it shows what the window shows from its start on.
pub record IsKnown (files : Data) (s : StateValue) (w : WindowState) (l : Layout) : Type 0 where
  pub old : props.BufferValue
  pub made : ObjectLists
  pub text : IsText old.text
  pub shape : IsShape l.shape
  pub rows : AreRowsAt (text_source old made files) l.shape l.matrix
  pub change : IsChange l.change
  pub leads : LeadsTo old made (seen (shown_content s w)) s.objects l.change
  pub stands : StandsUnchanged (Some l) (window_source files s w) w.forced w.anchor

-- a known screen has the frame's size and is sound
abbrev pub KnownScreenFits : Option Picture → StateValue → Type 0
KnownScreenFits None s = Unit {0}
KnownScreenFits (Some screen) s = IsOfSize s.width s.height screen × IsSound screen

-- the windows of the last layouts were made, if they don't live any more, so that no window that is made later has one of these
pub record IsSession (v : SessionValue) : Type 0 where
  pub state : IsValid v.state
  pub screen : KnownScreenFits v.current v.state
  pub made : (number : ℕ) (l : Layout) → layout_of number v.layouts ≡ Some l → number < v.state.tree.made
  pub layouts : (number : ℕ) (w : WindowState) (l : Layout) → window_of number v.state.windows ≡ Some w → layout_of number v.layouts ≡ Some l → IsKnown v.files v.state w l
