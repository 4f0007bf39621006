-- The rows of a known layout that the blocks of its window keep are the rows that they have now.
use Rattle.std.proofs.Common.{◌≡◌, inl, inr, ℕ, Bool, true, false, if◌then◌else◌, Option, None, Some, List, [], sym, refl, subst}
use Rattle.rd_blocks.specs.Kept.{AreRowsAt, Follows}
use Rattle.rd_blocks.specs.Sources.{text_source}
use Rattle.rd_matrix.specs.Sources.{SourceValues}
use Rattle.rd_matrix.specs.declared.matrix.Entry.{Entry}
use Rattle.rd_objects.specs.Things.{ObjectLists}
use Rattle.rd_props.specs.Buffers as props
use Rattle.rd_reuse.specs.Changes.{all}
use Rattle.rd_reuse.specs.Keeping.{AreRight}
use Rattle.rd_reuse.specs.declared.change.Change.{Change}
use Rattle.rd_rows.specs.Shapes.{IsShape, ShapeValues, is_same_shape}
use Rattle.rd_rows.proofs.SameShapes.{same-shape}
use Rattle.rd_state.specs.States.{StateValue, seen}
use Rattle.rd_state.specs.Windows.{shown_content, window_of}
use Rattle.rd_state.specs.declared.window.WindowState.{WindowState}
use Rattle.rd_text.specs.Texts.{IsText}
use Rattle.rd_ucd.specs.Data.{Data}
use Rattle.rd_window.specs.Layouts.{StandsUnchanged, change_since, older_rows}
use Rattle.rd_window.specs.declared.layout.Layout.{Layout}
use Rattle.rd_layout.specs.Sessions.{SessionValue, layout_of}
use Rattle.rd_layout.specs.Since.{IsKnown, IsSession}
use Rattle.rd_layout.specs.Windows.{window_source}
use Rattle.rd_state.proofs.Showing.{window-valid}
use Rattle.rd_layout.proofs.Settling.{shown-right}

-- what the layers below say
pub record KeptLaws : Type 0 where
  pub changed : (old new : props.BufferValue) (made objects : ObjectLists) (files : Data) (change : Change) (shape : ShapeValues) (rows : List Entry)
      → IsText old.text → IsText new.text → IsShape shape → Follows old made new objects change → AreRowsAt (text_source old made files) shape rows
      → AreRight (text_source new objects files) rows change shape
  pub all : (s : props.BufferValue) (objects : ObjectLists) (files : Data) (shape : ShapeValues) (rows : List Entry) → IsText s.text → AreRight (text_source s objects files) rows all shape
  pub none : (m : SourceValues) (c : Change) (shape : ShapeValues) → AreRight m [] c shape

-- ---- rows

module _ (laws : KeptLaws) (files : Data) (s : StateValue) (w : WindowState) (text : IsText (shown_content s w).text) where
  known-right : (l : Layout) → IsKnown files s w l → AreRight (window_source files s w) l.matrix l.change l.shape
  known-right l known = elim known.leads [
    | inl is ↦
        subst (λ (c : Change). AreRight (window_source files s w) l.matrix c l.shape) (sym is)
        (laws.all (seen (shown_content s w)) s.objects files l.shape l.matrix text)
    | inr leads ↦
        laws.changed known.old (seen (shown_content s w)) known.made s.objects files l.change l.shape l.matrix known.text text known.shape leads.follows known.rows
  ]

  layout-right : (l : Layout) (shape : ShapeValues) → IsKnown files s w l → AreRight (window_source files s w) (older_rows (Some l) shape) l.change shape
  layout-right l shape known = by (is_same_shape l.shape shape) refl where
    by : (t : Bool) → is_same_shape l.shape shape ≡ t → AreRight (window_source files s w) (if t then l.matrix else []) l.change shape
    by true is = subst (λ (x : ShapeValues). AreRight (window_source files s w) l.matrix l.change x) (same-shape l.shape shape is) (known-right l known)
    by false is = laws.none (window_source files s w) l.change shape

  pub kept-right : (last : Option Layout) (shape : ShapeValues) → ((l : Layout) → last ≡ Some l → IsKnown files s w l)
      → AreRight (window_source files s w) (older_rows last shape) (change_since last) shape
  kept-right None shape known = laws.none (window_source files s w) (change_since None) shape
  kept-right (Some l) shape known = layout-right l shape (known l refl)

-- ---- the session

pub kept-session : KeptLaws → (v : SessionValue) (number : ℕ) (w : WindowState) (shape : ShapeValues) → IsSession v → window_of number v.state.windows ≡ Some w
    → AreRight (window_source v.files v.state w) (older_rows (layout_of number v.layouts) shape) (change_since (layout_of number v.layouts)) shape
kept-session laws v number w shape session lives =
    kept-right laws v.files v.state w (shown-right v.state w session.state (window-valid v.state number w session.state lives)).text (layout_of number v.layouts) shape
    (λ l at. session.layouts number w l lives at)

pub session-stands : (v : SessionValue) (number : ℕ) (w : WindowState) → IsSession v → window_of number v.state.windows ≡ Some w
    → StandsUnchanged (layout_of number v.layouts) (window_source v.files v.state w) w.forced w.anchor
session-stands v number w session lives = by (layout_of number v.layouts) (λ l at. (session.layouts number w l lives at).stands) where
  by : (last : Option Layout) → ((l : Layout) → last ≡ Some l → StandsUnchanged (Some l) (window_source v.files v.state w) w.forced w.anchor)
      → StandsUnchanged last (window_source v.files v.state w) w.forced w.anchor
  by None h = tt
  by (Some l) h = h l refl
