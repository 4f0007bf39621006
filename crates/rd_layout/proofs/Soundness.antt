-- Each part of a target screen is whole and coloured.
use Rattle.std.proofs.Common.{◌≡◌, ℕ, ◌+◌, ◌==◌, ◌&&◌, Bool, true, Option, None, Some, Ok, List, [], ◌∷◌, sym, ap, refl, subst, subst₂, unwrap_or}
use Rattle.std.proofs.lemmas.Bool.{and_parts, eqb-true, or_left}
use Rattle.std.proofs.lemmas.List.Elements.{All-map, All-nil, All-weaker, recursion_from_All}
use Rattle.std.proofs.lemmas.List.Sums.{AllPass-from_list_all}
use Rattle.std.proofs.lemmas.Option.{option_and_then_some}
use Rattle.rd_base.proofs.Colours.{plain-coloured}
use Rattle.rd_base.proofs.Lists.{all-at, element-at}
use Rattle.std.specs.List.{All, list_all}
use Rattle.std.specs.Prelude.{IsTrue, slice_get, slice_index_or}
use Rattle.std.specs.Str.{chars}
use Rattle.rd_base.specs.Cells.{AreColoured, IsColoured}
use Rattle.rd_base.specs.Chars.{is_code, is_scalar}
use Rattle.rd_base.specs.Faces.{Attributes, plain}
use Rattle.rd_base.specs.Glyphs.{AreMeasured, IsMeasuredLook, IsRowAfter}
use Rattle.rd_base.specs.declared.cell.Cell.{Cell}
use Rattle.rd_base.specs.declared.cell.Glyph.{Glyph}
use Rattle.rd_base.specs.declared.element.Element.{Element}
use Rattle.rd_base.specs.declared.element.Origin.{Origin}
use Rattle.rd_blocks.specs.Sources.{text_source}
use Rattle.rd_frame.specs.Fits.{EachPart, EachPartOf, FitsFrame, IsColouredFrame, IsWholeFrame}
use Rattle.rd_frame.specs.Frames.{FrameValues, frame_picture, frame_rows}
use Rattle.rd_frame.specs.Held.{glyph_row}
use Rattle.rd_frame.specs.Panes.{GlyphRow, border_cell}
use Rattle.rd_glyphs.proofs.Wholeness.{plain-coloured as line-coloured, plain-whole}
use Rattle.rd_glyphs.specs.Characters.{glyph_elements}
use Rattle.rd_glyphs.specs.Lines.{plain_cells}
use Rattle.rd_items.specs.Pieces.{table_in}
use Rattle.rd_margins.specs.Cells.{IsMargin}
use Rattle.rd_matrix.specs.Entries.{EntryMeaning}
use Rattle.rd_matrix.specs.Sources.{rows_at}
use Rattle.rd_modeline.specs.Formats.{pieces_of}
use Rattle.rd_modeline.specs.Lines.{line_cells}
use Rattle.rd_modeline.specs.Values.{AreFacts, FactValues}
use Rattle.rd_modeline.specs.declared.piece.Piece.{Piece}
use Rattle.rd_objects.specs.Sound.{AreCodes, AreObjects}
use Rattle.rd_objects.specs.Tables.{IsTable, TableValue, is_glyph_character, is_glyph_text, is_slot_glyph}
use Rattle.rd_objects.specs.Things.{ObjectLists}
use Rattle.rd_props.specs.Buffers as props
use Rattle.rd_rows.specs.Shapes.{ShapeValues}
use Rattle.rd_rows.specs.Whole.{IsMark}
use Rattle.rd_script.specs.Forms.{is_buffer_name, is_name_character, is_plain_text}
use Rattle.rd_state.specs.States.{BufferValue, ContentValue, StateValue, new_buffer, seen}
use Rattle.rd_state.specs.Valid.{IsGoodFormat, IsValid, IsWindow}
use Rattle.rd_state.specs.Windows.{shown_content}
use Rattle.rd_state.specs.declared.window.WindowState.{WindowState}
use Rattle.rd_term.specs.Pictures.{IsOfSize, IsWellFormed}
use Rattle.rd_tree.specs.declared.placed.Placed.{Placed}
use Rattle.rd_ucd.specs.Data.{Data}
use Rattle.rd_ucd.specs.declared.spans.Span.{Span}
use Rattle.rd_update.specs.Laws.{IsSound}
use Rattle.rd_window.specs.Views.{WindowView}
use Rattle.rd_state.proofs.Showing.{window-valid}
use Rattle.rd_state.proofs.Tests.{text-codes}
use Rattle.rd_layout.specs.Laws.{FitLaws}
use Rattle.rd_layout.specs.Panes.{border_in, border_slot, line_facts, margin_of, widths_of}
use Rattle.rd_layout.specs.Screens.{frame_in, laid_out, pane_at, pane_by}
use Rattle.rd_layout.specs.Windows.{place_of, shown_buffer, view_in, window_shape}
use Rattle.rd_layout.proofs.Fitting.{fits, in-view, line-small, margin-right, mode-has, place-window, view-whole}
use Rattle.rd_layout.proofs.Placed.{all-places}

-- what the layers below say
pub record FramePartLaws : Type 0 where
  pub fit : FitLaws
  pub coloured : (s : props.BufferValue) (objects : ObjectLists) (files : Data) (shape : ShapeValues) → AreObjects objects → All (λ (e : EntryMeaning). All IsColoured e.row.cells) (rows_at (text_source s objects files) shape)
  pub mode_coloured : (classes : List Span) (facts : FactValues) (width : ℕ) (pieces : List Piece) → All IsColoured (line_cells classes facts width pieces)
  pub mode_whole : (classes : List Span) (facts : FactValues) (width : ℕ) (format : List ℕ) (pieces : List Piece) → AreFacts facts → All (λ c. IsTrue (is_code c)) format → pieces_of format ≡ Ok pieces → IsRowAfter 0 (line_cells classes facts width pieces)
  pub bar : IsRowAfter 0 (border_cell None ∷ [])
  pub slot : (slot : Glyph) → IsMark slot → IsRowAfter 0 (border_cell (Some slot) ∷ [])
  pub border_coloured : (slot : Option Glyph) → All IsColoured (border_cell slot ∷ [])
  pub measured : (face : Attributes) (origin : Origin) (text : List Glyph) → IsTrue (is_glyph_text text) → AreMeasured (glyph_elements face origin text)
  pub whole : (f : FrameValues) → FitsFrame f → IsWholeFrame f → IsWellFormed (frame_picture f)
  pub frame_coloured : (f : FrameValues) → IsColouredFrame f → AreColoured (frame_rows f)

-- ---- characters

plain-codes : (text : List ℕ) → IsTrue (is_plain_text text) → AreCodes text
plain-codes text h = text-codes text (and_parts (list_all is_scalar text) _ h).0

-- the characters of a buffer's name
name-codes : (name : List ℕ) → IsTrue (is_buffer_name name) → AreCodes (chars name)
name-codes name h =
    All-weaker (λ c. IsTrue (is_name_character c)) (λ c. IsTrue (is_code c)) (λ c yes. or_left (is_scalar c) _ (and_parts (is_scalar c) _ yes).0) (chars name)
    (AllPass-from_list_all is_name_character (chars name) (and_parts _ (list_all is_name_character (chars name)) h).1)

-- ---- the border

slot-mark : FramePartLaws → (g : Glyph) → IsTrue (is_slot_glyph g) → IsMark g
slot-mark laws g h =
    let parts = and_parts (is_glyph_character g) (g.width == 1) h in
    let one : IsTrue (is_glyph_text (g ∷ [])) = ap (λ (t : Bool). t && true) parts.0 in
    let origin : Origin = record { item = 0; from = 0; to = 0 } in
    let all = recursion_from_All (λ (e : Element). IsMeasuredLook e.look) (glyph_elements plain origin (g ∷ [])) (laws.measured plain origin (g ∷ []) one) in
    record { measured = all.0; columns = eqb-true g.width 1 parts.1 }

border-whole : FramePartLaws → (o : Option Glyph) → ((g : Glyph) → o ≡ Some g → IsTrue (is_slot_glyph g)) → IsRowAfter 0 (border_cell o ∷ [])
border-whole laws None h = laws.bar
border-whole laws (Some g) h = laws.slot g (slot-mark laws g (h g refl))

module _ (laws : FramePartLaws) (files : Data) (s : StateValue) (valid : IsValid s) where
  slot-right : (c : ContentValue) (g : Glyph) → border_slot s.objects c ≡ Some g → IsTrue (is_slot_glyph g)
  slot-right c g h = by (table_in s.objects c.settings.table) right h where
    right : (t : TableValue) → table_in s.objects c.settings.table ≡ Some t → IsTable t
    right t is = option_and_then_some (λ n. slice_get s.objects.tables n) c.settings.table t is (λ n there at. all-at IsTable s.objects.tables n t valid.objects.tables at)

    by : (o : Option TableValue) → ((t : TableValue) → o ≡ Some t → IsTable t) → border_in o ≡ Some g → IsTrue (is_slot_glyph g)
    by None f h = absurd (cc)
    by (Some t) f h = (f t refl).border g h

  -- ---- mode lines

  facts-right : (w : WindowState) (v : WindowView) → IsWindow s.buffers w → AreFacts (line_facts (shown_buffer s w) v)
  facts-right w v window =
      let b = element-at s.buffers w.buffer window.made in
      let is : b.0 ≡ shown_buffer s w = sym (ap (λ (o : Option BufferValue). unwrap_or o (new_buffer [])) b.1) in
      subst (λ (x : BufferValue). AreFacts (line_facts x v)) is
      (record { name = name-codes b.0.name (valid.buffers.names w.buffer b.0 b.1); line = line-small b.0.content.text v.point (valid.buffers.contents w.buffer b.0 b.1).text })

  -- ---- windows

  -- what holds of the margins, the texts, the borders, the mode lines and the echo area holds of each part of the frame
  parts-have : (P : List Cell → Type 0) → ((n : ℕ) (cells : List Cell) → IsMargin n cells → P cells)
      → ((w : WindowState) (p : Placed) → place_of p.number s ≡ Some p → IsWindow s.buffers w
      → All (λ (e : EntryMeaning). P e.row.cells) (view_in files s w p).rows)
      → ((c : ContentValue) → P (border_cell (border_slot s.objects c) ∷ []))
      → P [] → ((w : WindowState) (v : WindowView) (width : ℕ) (format : List ℕ) (ps : List Piece) → IsWindow s.buffers w → IsGoodFormat format → pieces_of format ≡ Ok ps
      → P (line_cells files.classes (line_facts (shown_buffer s w) v) width ps))
      → P (plain_cells files.classes plain s.width s.echo) → EachPartOf P (frame_in files s)
  parts-have P margin text border none line echo = record {
    windows = all-places s valid (λ (p : Placed). EachPart P (pane_at files s p) p) (λ p at.
        let x = place-window laws.fit files s valid p at in
        let w = x.0 in
        let window = window-valid s p.number w valid x.1 in
        let v = view_in files s w p in
        let row = glyph_row (margin_of files s.objects (shown_content s w) (widths_of w)) in
        subst (λ (o : Option WindowState). EachPart P (pane_by files s p o) p) (sym x.1) (record {
          margins = All-map (λ (r : GlyphRow). P r.margin) row v.rows
              (λ k d less. margin p.margins _ (margin-right laws.fit files s valid w p (slice_index_or v.rows k d) window x.2));
          texts = All-map (λ (r : GlyphRow). P r.text) row v.rows (text w p at window);
          border = border (shown_content s w);
          mode_line = λ shown. mode-has P files (line_facts (shown_buffer s w) v) p.rect.width w.format window.format (λ _. none)
              (λ format ps good is. line w v p.rect.width format ps window good is);
        }));
    echo = echo;
  }

  whole-frame : IsWholeFrame (frame_in files s)
  whole-frame = parts-have (IsRowAfter 0) (λ n cells m. m.whole)
      (λ w p at window k d less. (view-whole laws.fit files s valid w p at window k d less).whole)
      (λ c. border-whole laws (border_slot s.objects c) (slot-right c)) tt
      (λ w v width format ps window good is. laws.mode_whole files.classes (line_facts (shown_buffer s w) v) width format ps (facts-right w v window) (plain-codes format good.plain) is)
      (plain-whole files.classes plain s.width s.echo (plain-codes s.echo valid.echo))

  coloured-frame : IsColouredFrame (frame_in files s)
  coloured-frame = parts-have (All IsColoured) (λ n cells m. m.coloured)
      (λ w p at window. in-view laws.fit files s valid (λ (e : EntryMeaning). All IsColoured e.row.cells) w p
      (laws.coloured (seen (shown_content s w)) s.objects files (window_shape s w p) valid.objects))
      (λ c. laws.border_coloured (border_slot s.objects c)) (All-nil IsColoured)
      (λ w v width format ps window good is. laws.mode_coloured files.classes (line_facts (shown_buffer s w) v) width ps)
      (line-coloured files.classes plain s.width s.echo plain-coloured)

  -- ---- the target

  pub target-sound : IsSound (laid_out files s).picture
  unfolding laid_out
  target-sound = record { whole = laws.whole (frame_in files s) (fits laws.fit files s valid) whole-frame; colours = laws.frame_coloured (frame_in files s) coloured-frame }

pub target-size : FitLaws → ((f : FrameValues) → FitsFrame f → IsOfSize f.tree.width (f.tree.height + 1) (frame_picture f)) → (files : Data) (s : StateValue) → IsValid s
    → IsOfSize s.width s.height (laid_out files s).picture
unfolding laid_out
target-size laws size files s valid =
    subst₂ (λ (w : ℕ) (h : ℕ). IsOfSize w h (frame_picture (frame_in files s))) valid.frame.columns valid.frame.rows (size (frame_in files s) (fits laws files s valid))
