-- What each window of a valid state shows has the sizes of its rectangle.
use Rattle.std.proofs.Common.{◌≡◌, ℕ, ◌-◌, ◌^◌, ◌<◌, ◌≤◌, Bool, true, false, is_some, Option, None, Some, Result, Ok, Err, List, [], length, drop, sym, ap, refl, subst, ◌∙◌, arith, length-take, length-drop}
use Rattle.std.proofs.lemmas.List.{length-map}
use Rattle.std.proofs.lemmas.List.Sums.{count_by-le-length}
use Rattle.std.proofs.lemmas.List.Elements.{All-from_recursion, All-map, All-take, All-drop}
use Rattle.std.specs.List.{All, find}
use Rattle.std.specs.Option.{option_and_then}
use Rattle.std.specs.Result.{result_err}
use Rattle.std.proofs.lemmas.Option.{option_and_then_some, slice_get_within}
use Rattle.std.specs.Prelude.{IfSome, IsTrue, option_map, slice_get, slice_index_or}
use Rattle.rd_base.proofs.Choices.{either, if-value, some-of}
use Rattle.rd_base.specs.Chars.{is_code}
use Rattle.rd_base.specs.Faces.{plain}
use Rattle.rd_base.specs.declared.cell.Cell.{Cell}
use Rattle.rd_base.specs.declared.element.Element.{Element}
use Rattle.rd_base.proofs.Lists.{all-at, found-each}
use Rattle.rd_blocks.specs.Rows.{block_cutting}
use Rattle.rd_blocks.specs.Sources.{rows_in, text_source}
use Rattle.rd_items.specs.Pieces.{scene_in}
use Rattle.rd_items.specs.Readings.{reading}
use Rattle.rd_stack.specs.Lines.{line_elements}
use Rattle.rd_rows.specs.declared.cutting.Cutting.{Cutting}
use Rattle.rd_frame.specs.Fits.{FitsFrame, FitsRow, FitsWindow, IsInBody}
use Rattle.rd_frame.specs.Panes.{body_height, body_width}
use Rattle.rd_frame.specs.Held.{glyph_row}
use Rattle.rd_glyphs.proofs.Wholeness.{plain-length}
use Rattle.rd_margins.specs.Cells.{IsMargin}
use Rattle.rd_margins.specs.Marks.{margin_string}
use Rattle.rd_matrix.specs.Columns.{covers, shown_column}
use Rattle.rd_matrix.specs.Cursors.{cursor_in}
use Rattle.rd_matrix.specs.Entries.{EntryMeaning}
use Rattle.rd_matrix.specs.Sources.{rows_at}
use Rattle.rd_matrix.proofs.Covering.{cursor-row}
use Rattle.rd_matrix.proofs.EachRow.{rows-each}
use Rattle.rd_modeline.specs.Formats.{pieces_of}
use Rattle.rd_modeline.specs.Lines.{line_cells}
use Rattle.rd_modeline.specs.Values.{FactValues}
use Rattle.rd_modeline.specs.declared.piece.Piece.{Piece}
use Rattle.rd_objects.specs.Sound.{AreCodes, IsString}
use Rattle.rd_objects.specs.Texts.{TextValue}
use Rattle.rd_objects.specs.Things.{ObjectLists}
use Rattle.rd_props.specs.Buffers as props
use Rattle.rd_rows.specs.Rows.{LaidRow, RowMeaning, rows_of}
use Rattle.rd_rows.specs.Shapes.{IsShape, ShapeValues}
use Rattle.rd_rows.specs.Whole.{IsWhole}
use Rattle.rd_rows.specs.declared.begin.Begin.{Begin}
use Rattle.rd_state.specs.States.{StateValue, seen}
use Rattle.rd_state.proofs.Leaves.{is_some-leaf, placed-window}
use Rattle.rd_state.proofs.Showing.{window-valid}
use Rattle.rd_state.specs.Valid.{IsGoodFormat, IsValid, IsWindow}
use Rattle.rd_state.specs.Windows.{leaf_at, leaf_of, shown_content, window_of}
use Rattle.rd_state.specs.declared.window.WindowState.{WindowState}
use Rattle.rd_text.specs.Texts as text
use Rattle.rd_tree.specs.Calls.{frame_of}
use Rattle.rd_tree.proofs.Keeping.{found_held}
use Rattle.rd_tree.proofs.Rooms.{found_number}
use Rattle.rd_tree.specs.Windows.{Windows, window_at}
use Rattle.rd_tree.specs.declared.placed.Placed.{Placed}
use Rattle.rd_tree.specs.declared.rect.Rect.{Rect}
use Rattle.rd_ucd.specs.Data.{Data}
use Rattle.rd_window.specs.Views.{start_row}
use Rattle.rd_layout.specs.Laws.{FitLaws}
use Rattle.rd_layout.specs.Panes.{cells_of_pieces, line_facts, margin_of, margin_text, mode_line, pane_of, text_of, widths_of}
use Rattle.rd_layout.specs.Screens.{cursor_at, cursor_by, frame_in, pane_at, pane_by}
use Rattle.rd_layout.specs.Windows.{place_of, places, shown_buffer, view_in, wanted_of, window_shape, window_source}
use Rattle.rd_layout.proofs.Placed.{all-places}
use Rattle.rd_layout.proofs.Settling.{is-shape, shown-right}

-- ---- what holds of all rows

-- each item begins in a column of its row's window
pub columns-hold : ((c : Cutting) (line : List Element) → 1 ≤ c.shape.width → All (λ (r : LaidRow). All (λ (b : Begin). b.column < c.shape.width) r.row.begins) (rows_of c line))
    → (s : props.BufferValue) (objects : ObjectLists) (files : Data) (shape : ShapeValues) → IsShape shape → All (λ (e : EntryMeaning). All (λ (b : Begin). b.column < shape.width) e.row.begins) (rows_at (text_source s objects files) shape)
columns-hold law s objects files shape is =
    let least = is.least in
    let source = text_source s objects files in
    rows-each (λ (r : RowMeaning). All (λ (b : Begin). b.column < shape.width) r.begins) (λ b. source.rows_of b shape) source.blocks
    (λ b. All-map (λ (r : RowMeaning). All (λ (x : Begin). x.column < shape.width) r.begins) (λ (r : LaidRow). r.row) (rows_in s objects files b shape)
    (law (block_cutting (scene_in s.settings objects files) b.base shape (reading s objects b.start)) (line_elements (scene_in s.settings objects files) b.base (reading s objects b.start)) (omega arith)))

-- ---- the cursor in a view

column-hold : (o : Option Begin) (row : RowMeaning) (width : ℕ) → length row.cells ≡ width → IfSome o (λ b. b.column < width) → IfSome (option_map (shown_column row) (option_map (λ (b : Begin). b.column) o)) (λ c. c < width)
column-hold None row width wide h = tt
column-hold (Some b) row width wide h = either (λ (c : ℕ). c < width) row.reversed _ _ (omega (arith, h, wide)) h

pub cursor-hold : (width point : ℕ) (es : List EntryMeaning) → All (λ (e : EntryMeaning). length e.row.cells ≡ width) es → All (λ (e : EntryMeaning). All (λ (b : Begin). b.column < width) e.row.begins) es
    → (place : ℕ × ℕ) → cursor_in point es ≡ Some place → (place.0 < length es) × (place.1 < width)
cursor-hold width point es wide columns place at =
    let row = cursor-row point es place at in
    let e = row.0 in
    let cells = all-at (λ (x : EntryMeaning). length x.row.cells ≡ width) es place.0 e wide row.1 in
    let begins = all-at (λ (x : EntryMeaning). All (λ (b : Begin). b.column < width) x.row.begins) es place.0 e columns row.1 in
    let column = column-hold (find (covers e.start point) e.row.begins) e.row width cells (found-each (λ b. b.column < width) (covers e.start point) e.row.begins begins) in
    (slice_get_within es place.0 e row.1, subst (λ o. IfSome o (λ c. c < width)) row.2 column)

-- ---- windows and their leaves

leaf-found : (n : ℕ) (windows : Windows) (rect : Rect) (leaf : Bool × ℕ) → leaf_at n windows ≡ Some leaf → is_some (window_at n windows rect) ≡ true
leaf-found n windows rect leaf h = found_held n windows rect ∙ (sym (is_some-leaf n windows) ∙ ap is_some h)

codes-of : (o : Option TextValue) → ((t : TextValue) → o ≡ Some t → AreCodes t.chars) → AreCodes (text_of o)
codes-of None h = All-from_recursion (λ c. IsTrue (is_code c)) [] tt
codes-of (Some t) h = h t refl

-- what holds of the cells of pieces holds of the mode line of a good format
pub mode-has : (P : List Cell → Type 0) (files : Data) (facts : FactValues) (width : ℕ) (format : Option (List ℕ)) → IfSome format IsGoodFormat → (format ≡ None → P [])
    → ((text : List ℕ) (ps : List Piece) → IsGoodFormat text → pieces_of text ≡ Ok ps → P (line_cells files.classes facts width ps)) → P (mode_line files facts width format)
mode-has P files facts width None good none each = none refl
mode-has P files facts width (Some text) good none each = by (pieces_of text) refl good.good where
  by : (r : Result (List Piece) ℕ) → pieces_of text ≡ r → result_err r ≡ None → P (cells_of_pieces files facts width r)
  by (Ok ps) is h = each text ps good is
  by (Err place) is h = absurd (cc)

-- ---- one window

pub line-small : (t : text.TextValue) (pos : ℕ) → text.IsText t → text.line_of t pos < 2 ^ 32
line-small t pos is =
    let short = is.short in
    let count = count_by-le-length text.is_newline (text.between t t.begin pos) in
    let taken = length-take ((pos - 1) - (t.begin - 1)) (drop (t.begin - 1) t.text) in
    let dropped = length-drop (t.begin - 1) t.text in
    omega (arith, count, taken, dropped)

line-told : (t : text.TextValue) (pos : ℕ) → text.IsText t → text.line_of t pos < 2 ^ 64
line-told t pos is = let small = line-small t pos is in omega (arith, small)

module _ (laws : FitLaws) (files : Data) (s : StateValue) (valid : IsValid s) where
  pub place-window : (p : Placed) → place_of p.number s ≡ Some p → (w : WindowState) × (window_of p.number s.windows ≡ Some w) × (leaf_of w ≡ (p.mode, p.margins))
  place-window p at = placed-window s p.number p valid at

  -- what holds of all rows of a window's text holds of those in view
  pub in-view : (P : EntryMeaning → Type 0) (w : WindowState) (p : Placed) → All P (rows_at (window_source files s w) (window_shape s w p)) → All P (view_in files s w p).rows
  in-view P w p all = All-take P (body_height p) _ (All-drop P (start_row (window_source files s w) (window_shape s w p) (wanted_of s w p)) _ all)

  pub view-whole : (w : WindowState) (p : Placed) → place_of p.number s ≡ Some p → IsWindow s.buffers w → All (λ (e : EntryMeaning). IsWhole (body_width s.width p) e.row) (view_in files s w p).rows
  view-whole w p at window =
      let content = shown-right s w valid window in
      in-view (λ (e : EntryMeaning). IsWhole (body_width s.width p) e.row) w p
      (laws.whole (seen (shown_content s w)) s.objects files (window_shape s w p) valid.objects content.least_tab content.most_tab content.characters (is-shape s valid p.number w p at))

  pub string-codes : (w : WindowState) (start : ℕ) → AreCodes (margin_text s.objects (shown_content s w) start)
  string-codes w start =
      let string : ℕ → Option TextValue = λ n. slice_get s.objects.strings n in
      let number = margin_string (shown_content s w).marks (shown_content s w).overlays start in
      codes-of (option_and_then string number) (λ t is. option_and_then_some string number t is (λ n there at. (all-at IsString s.objects.strings n t valid.objects.strings at).chars))

  pub margin-right : (w : WindowState) (p : Placed) (e : EntryMeaning) → IsWindow s.buffers w → leaf_of w ≡ (p.mode, p.margins)
      → IsMargin p.margins (margin_of files s.objects (shown_content s w) (widths_of w) e)
  margin-right w p e window leaf =
      subst (λ (n : ℕ). IsMargin n (margin_of files s.objects (shown_content s w) (widths_of w) e)) (ap (λ (x : Bool × ℕ). x.1) leaf)
      (laws.margin files.classes (widths_of w) e.number (text.line_of (shown_content s w).text e.start) (margin_text s.objects (shown_content s w) e.start) (line-told (shown_content s w).text e.start (shown-right s w valid window).text)
      (string-codes w e.start))

  window-fits : (w : WindowState) (p : Placed) → place_of p.number s ≡ Some p → IsWindow s.buffers w → leaf_of w ≡ (p.mode, p.margins)
      → FitsWindow s.width (pane_of files s w p (view_in files s w p)) p
  window-fits w p at window leaf = record {
    few =
        let rows = (view_in files s w p).rows in
        let as_many = length-map rows (glyph_row (margin_of files s.objects (shown_content s w) (widths_of w))) in
        let taken = length-take (body_height p) (drop (start_row (window_source files s w) (window_shape s w p) (wanted_of s w p)) (rows_at (window_source files s w) (window_shape s w p))) in
        omega (arith, as_many, taken);
    rows =
        let whole = view-whole w p at window in
        All-map (FitsRow s.width p) (glyph_row (margin_of files s.objects (shown_content s w) (widths_of w))) (view_in files s w p).rows
        (λ k d less. record { margin = (margin-right w p (slice_index_or (view_in files s w p).rows k d) window leaf).count; text = (whole k d less).wide });
    mode_line = λ shown.
        let facts = line_facts (shown_buffer s w) (view_in files s w p) in
        mode-has (λ (cells : List Cell). length cells ≡ p.rect.width) files facts p.rect.width w.format window.format
        (λ none. absurd (let some : false ≡ true = sym (ap is_some none) ∙ (ap (λ (x : Bool × ℕ). x.0) leaf ∙ shown) in cc))
        (λ text ps good is. laws.mode_width files.classes facts p.rect.width ps);
  }

  pane-fits : (p : Placed) → place_of p.number s ≡ Some p → FitsWindow s.width (pane_at files s p) p
  pane-fits p at =
      let w = place-window p at in
      subst (λ (o : Option WindowState). FitsWindow s.width (pane_by files s p o) p) (sym w.1) (window-fits w.0 p at (window-valid s p.number w.0 valid w.1) w.2)

  -- ---- the selected window and its cursor

  cursor-fits : (w : WindowState) (p : Placed) → place_of p.number s ≡ Some p → IsWindow s.buffers w → IfSome (cursor_in (view_in files s w p).point (view_in files s w p).rows) (IsInBody s.width p)
  cursor-fits w p at window =
      let rows = (view_in files s w p).rows in
      let whole = view-whole w p at window in
      let columns = in-view (λ (e : EntryMeaning). All (λ (b : Begin). b.column < body_width s.width p) e.row.begins) w p
      (laws.columns (seen (shown_content s w)) s.objects files (window_shape s w p) (is-shape s valid p.number w p at)) in
      let taken = length-take (body_height p) (drop (start_row (window_source files s w) (window_shape s w p) (wanted_of s w p)) (rows_at (window_source files s w) (window_shape s w p))) in
      if-value (IsInBody s.width p) (cursor_in (view_in files s w p).point rows) (λ place at.
      let held = cursor-hold (body_width s.width p) (view_in files s w p).point rows (λ k d less. (whole k d less).wide) columns place at in
      record { row = omega (arith, taken, held.0); column = held.1 })

  selected-fits : (o : Option Placed) → place_of s.selected s ≡ o → IfSome o (λ (p : Placed). IfSome (cursor_by files s (window_of s.selected s.windows) o) (IsInBody s.width p))
  selected-fits None at = tt
  selected-fits (Some p) at = by (window_of s.selected s.windows) refl where
    number : p.number ≡ s.selected
    number = found_number s.selected (places s) p at

    by : (w : Option WindowState) → window_of s.selected s.windows ≡ w → IfSome (cursor_by files s w (Some p)) (IsInBody s.width p)
    by None is = tt
    by (Some w) is = cursor-fits w p (ap (λ (n : ℕ). place_of n s) number ∙ at) (window-valid s s.selected w valid is)

  selected-there : is_some (place_of s.selected s) ≡ true
  selected-there =
      let w = some-of (window_of s.selected s.windows) valid.windows.selected in
      leaf-found s.selected s.tree.windows (frame_of s.tree) (leaf_of w.0) (valid.windows.leaves s.selected ∙ ap (option_map leaf_of) w.1)

  pub fits : FitsFrame (frame_in files s)
  fits = record {
    room = valid.windows.tree.room;
    windows = all-places s valid (λ (p : Placed). FitsWindow s.tree.width (pane_at files s p) p)
        (λ p at. subst (λ (n : ℕ). FitsWindow n (pane_at files s p) p) (sym valid.frame.columns) (pane-fits p at));
    echo = plain-length files.classes plain s.width s.echo ∙ sym valid.frame.columns;
    selected = selected-there;
    cursor = subst (λ (n : ℕ). IfSome (place_of s.selected s) (λ (p : Placed). IfSome (cursor_at files s s.selected) (IsInBody n p))) (sym valid.frame.columns) (selected-fits (place_of s.selected s) refl);
  }
