-- What several proofs of this crate take from the laws of the layers below; what one alone takes stands beside it. And clauses of this
-- crate's laws that proofs of crates above take: `ChosenLaw` of `redisplays_keep_states`, and `LeadLaw` of `redisplays_lead_on`.
use Rattle.std.specs.Prelude.{◌≡◌, ℕ, ◌+◌, ◌^◌, ◌<◌, ◌≤◌, Bool, List, Option, Some, length, IsTrue}
use Rattle.std.specs.List.{All}
use Rattle.rd_base.specs.Chars.{is_code}
use Rattle.rd_base.specs.declared.limits.TheConstants.{TAB_COLUMNS}
use Rattle.rd_blocks.specs.Sources.{text_source}
use Rattle.rd_items.specs.Blocks.{ListedLaw}
use Rattle.rd_margins.specs.Cells.{IsMargin, row_margin}
use Rattle.rd_margins.specs.declared.rows.Widths.{Widths}
use Rattle.rd_matrix.specs.Blocks.{IsWithin}
use Rattle.rd_matrix.specs.Entries.{EntryMeaning}
use Rattle.rd_matrix.specs.Sources.{IsSource, rows_at}
use Rattle.rd_modeline.specs.Lines.{line_cells}
use Rattle.rd_modeline.specs.Values.{FactValues}
use Rattle.rd_modeline.specs.declared.piece.Piece.{Piece}
use Rattle.rd_objects.specs.Sound.{AreCodes, AreObjects}
use Rattle.rd_objects.specs.Things.{ObjectLists}
use Rattle.rd_props.specs.Buffers as props
use Rattle.rd_rows.specs.Shapes.{IsShape, ShapeValues}
use Rattle.rd_rows.specs.Whole.{IsWhole}
use Rattle.rd_rows.specs.declared.begin.Begin.{Begin}
use Rattle.rd_state.specs.States.{StateValue}
use Rattle.rd_state.specs.Valid.{IsValid}
use Rattle.rd_state.specs.Windows.{shown_content, window_of}
use Rattle.rd_state.specs.declared.window.WindowState.{WindowState}
use Rattle.rd_text.specs.Texts.{IsAccessible, IsText}
use Rattle.rd_tree.specs.declared.placed.Placed.{Placed}
use Rattle.rd_ucd.specs.Data.{Data}
use Rattle.rd_ucd.specs.declared.spans.Span.{Span}
use Rattle.rd_layout.specs.Redisplays.{IsSent}
use Rattle.rd_layout.specs.Sessions.{SessionValue}
use Rattle.rd_layout.specs.Since.{IsSession}
use Rattle.rd_layout.specs.Windows.{place_of, view_in}

-- the laws of what a window shows
pub record ViewLaws : Type 0 where
  pub source : (s : props.BufferValue) (objects : ObjectLists) (files : Data) → IsText s.text → IsSource (text_source s objects files)
  pub within : (s : props.BufferValue) (objects : ObjectLists) (files : Data) (pos : ℕ) → IsAccessible s.text pos → IsWithin pos (text_source s objects files).blocks
  pub listed : ListedLaw

-- the laws of the sizes of what windows show
pub record FitLaws : Type 0 where
  pub whole : (s : props.BufferValue) (objects : ObjectLists) (files : Data) (shape : ShapeValues) → AreObjects objects → 1 ≤ s.settings.tab_width → s.settings.tab_width ≤ TAB_COLUMNS → AreCodes s.text.text → IsShape shape
      → All (λ (e : EntryMeaning). IsWhole shape.width e.row) (rows_at (text_source s objects files) shape)
  pub margin : (classes : List Span) (widths : Widths) (row line : ℕ) (text : List ℕ) → line < 2 ^ 64 → All (λ c. IsTrue (is_code c)) text → IsMargin (widths.numbers + widths.strings) (row_margin classes widths row line text)
  pub mode_width : (classes : List Span) (facts : FactValues) (width : ℕ) (pieces : List Piece) → length (line_cells classes facts width pieces) ≡ width
  pub columns : (s : props.BufferValue) (objects : ObjectLists) (files : Data) (shape : ShapeValues) → IsShape shape → All (λ (e : EntryMeaning). All (λ (b : Begin). b.column < shape.width) e.row.begins) (rows_at (text_source s objects files) shape)

-- the start and the point that a redisplay chooses for a window of a valid state are accessible
abbrev pub ChosenLaw : Type 0
ChosenLaw = (files : Data) (s : StateValue) (number : ℕ) (w : WindowState) (place : Placed) → IsValid s → window_of number s.windows ≡ Some w → place_of number s ≡ Some place
    → IsAccessible (shown_content s w).text (view_in files s w place).anchor.pos × IsAccessible (shown_content s w).text (view_in files s w place).point

-- a redisplay that is sent leads from a session to a session
abbrev pub LeadLaw : Type 0
LeadLaw = (rows : ℕ) (done : Bool) (stop : Option ℕ) (old new : SessionValue) (before after : Option (List ℕ)) → IsSession old → IsSent rows done stop old new before after → IsSession new
