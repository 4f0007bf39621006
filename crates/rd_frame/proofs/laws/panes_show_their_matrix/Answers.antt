use Rattle.std.proofs.Common.{◌≡◌, List, [], ◌∷◌, length, map, refl, ap, sym, ◌∙◌}
use Rattle.std.specs.List.{AllByRecursion}
use Rattle.std.proofs.lemmas.List.{nil_from_length}
use Rattle.std.proofs.lemmas.List.Elements.{recursion_from_All}
use Rattle.rd_base.specs.declared.cell.Cell.{Cell}
use Rattle.rd_matrix.specs.Entries.{EntryMeaning, shown_entry, shown_entries}
use Rattle.rd_matrix.specs.declared.matrix.Entry.{Entry}
use Rattle.rd_frame.specs.Held.{glyph_rows, glyph_row}
use Rattle.rd_frame.specs.Panes.{GlyphRow}
use Rattle.rd_frame.proofs.laws.panes_show_their_matrix.Goals as goal

pub returns : goal.returns
returns c = record { margins = margins; none = λ margin_of es h. none margin_of es (recursion_from_All (λ e. length (margin_of e) ≡ 0) (shown_entries es) h) } where
  margins : (margin_of : EntryMeaning → List Cell) (es : List Entry) → glyph_rows (map margin_of (shown_entries es)) es ≡ map (glyph_row margin_of) (shown_entries es)
  margins margin_of [] = refl
  margins margin_of (e ∷ es) = ap (λ (rows : List GlyphRow). glyph_row margin_of (shown_entry e) ∷ rows) (margins margin_of es)

  none : (margin_of : EntryMeaning → List Cell) (es : List Entry) → AllByRecursion (λ e. length (margin_of e) ≡ 0) (shown_entries es) → glyph_rows [] es ≡ map (glyph_row margin_of) (shown_entries es)
  none margin_of [] h = refl
  none margin_of (e ∷ es) h =
      let empty : [] ≡ margin_of (shown_entry e) = sym (nil_from_length (margin_of (shown_entry e)) h.0) in
      let first : GlyphRow = record { margin = []; text = e.row.shown.cells } in
      ap (λ (rows : List GlyphRow). first ∷ rows) (none margin_of es h.1)
      ∙ ap (λ (margin : List Cell). let row : GlyphRow = record { margin = margin; text = e.row.shown.cells } in row ∷ map (glyph_row margin_of) (shown_entries es)) empty
