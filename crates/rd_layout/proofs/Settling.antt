-- A redisplay leaves a valid state valid: the starts and the points that it chooses are accessible.
use Rattle.std.proofs.Common.{◌≡◌, ℕ, ◌+◌, ◌-◌, ◌≤◌, Bool, true, false, if◌then◌else◌, Option, None, Some, List, map, ap, refl, subst, arith}
use Rattle.rd_blocks.proofs.Listed.{within-accessible}
use Rattle.rd_blocks.specs.Bases.{blocks_in}
use Rattle.rd_frame.specs.Panes.{has_border}
use Rattle.rd_matrix.specs.Blocks.{IsWithin}
use Rattle.rd_props.specs.Buffers as props
use Rattle.rd_rows.specs.Shapes.{IsShape}
use Rattle.rd_start.proofs.Inside.{start-inside}
use Rattle.rd_state.specs.States.{ContentValue, StateValue, seen}
use Rattle.rd_state.specs.Valid.{AreWindows, IsContent, IsValid, IsWindow}
use Rattle.rd_state.specs.Windows.{content_in, leaf_of, shown_content}
use Rattle.rd_state.specs.declared.window.WindowState.{WindowState}
use Rattle.rd_text.specs.Texts.{IsAccessible, IsText}
use Rattle.rd_tree.specs.Calls.{frame_of}
use Rattle.rd_tree.specs.Places.{StandsIn}
use Rattle.rd_tree.specs.declared.placed.Placed.{Placed}
use Rattle.rd_ucd.specs.Data.{Data}
use Rattle.rd_ucd.specs.declared.spans.Span.{Span}
use Rattle.rd_layout.specs.Laws.{ViewLaws}
use Rattle.rd_layout.specs.Screens.{settled_at, settled_by, settled_state}
use Rattle.rd_layout.specs.Windows.{place_of, view_in, wanted_of, window_shape, window_source}
use Rattle.rd_state.proofs.Keeping.{windows-became}
use Rattle.rd_state.proofs.Showing.{placed-keeps, shown-has}
use Rattle.rd_state.proofs.WithParts.{with_parts}
use Rattle.rd_tree.proofs.Standing.{stands_in}
use Rattle.rd_layout.proofs.Chosen.{chosen-anchor, chosen-point}

-- ---- positions of the blocks are accessible

pub accessible : ViewLaws → (classes : List Span) (s : props.BufferValue) (p : ℕ) → IsText s.text → IsWithin p (blocks_in classes s) → IsAccessible s.text p
accessible laws classes s p text at = within-accessible classes s (laws.listed s text.ordered) text.ordered p at

-- ---- shapes

shape-fits : (t : Bool) (width margins : ℕ) → 11 + margins ≤ width → width ≤ 400 → (10 ≤ width - margins - (if t then 1 else 0)) × (width - margins - (if t then 1 else 0) ≤ 400)
shape-fits true width margins least most = (omega arith, omega arith)
shape-fits false width margins least most = (omega arith, omega arith)

module _ (s : StateValue) (valid : IsValid s) where
  pub stands : (number : ℕ) (place : Placed) → place_of number s ≡ Some place → StandsIn place (frame_of s.tree)
  stands number place at = stands_in number s.tree.windows (frame_of s.tree) place valid.windows.tree.room at

  pub is-shape : (number : ℕ) (w : WindowState) (place : Placed) → place_of number s ≡ Some place → IsShape (window_shape s w place)
  is-shape number w place at =
      let there = stands number place at in
      let wide = valid.windows.tree.wide in
      let right = there.0.1 in
      let fits = shape-fits (has_border s.width place) place.rect.width place.margins there.1 (omega arith) in
      record { least = fits.0; most = fits.1 }

-- what a window shows is right
pub shown-right : (s : StateValue) (w : WindowState) → IsValid s → IsWindow s.buffers w → IsContent s.objects (shown_content s w)
shown-right s w valid window = shown-has (IsContent s.objects) s w window (valid.buffers.contents w.buffer)

module _ (laws : ViewLaws) (files : Data) (s : StateValue) (valid : IsValid s) where
  pub point-within : (w : WindowState) → IsWindow s.buffers w → IsWithin w.point (window_source files s w).blocks
  point-within w window = laws.within (seen (shown_content s w)) s.objects files w.point (shown-has (λ c. IsAccessible c.text w.point) s w window window.point)

  -- the start and the point are accessible in the buffer that is shown
  pub chosen-accessible : (number : ℕ) (w : WindowState) (place : Placed) → place_of number s ≡ Some place → IsWindow s.buffers w
      → IsAccessible (shown_content s w).text (view_in files s w place).anchor.pos × IsAccessible (shown_content s w).text (view_in files s w place).point
  chosen-accessible number w place there window =
      let m = window_source files s w in
      let shape = window_shape s w place in
      let wanted = wanted_of s w place in
      let text = (shown-right s w valid window).text in
      let source = laws.source (seen (shown_content s w)) s.objects files text in
      let is = is-shape s valid number w place there in
      let point = point-within w window in
      let first = accessible laws files.classes (seen (shown_content s w)) _ text (chosen-anchor m shape source is wanted (start-inside m shape wanted source is point)) in
      let second = accessible laws files.classes (seen (shown_content s w)) _ text (chosen-point m shape source is wanted point) in
      (first, second)

  -- ---- windows

  settled-window : (number : ℕ) (w : WindowState) (place : Option Placed) → place_of number s ≡ place → IsWindow s.buffers w → IsWindow s.buffers (settled_by files s w place)
  settled-window number w None there window = window
  settled-window number w (Some place) there window =
      let v = view_in files s w place in
      let both = chosen-accessible number w place there window in
      placed-keeps s.buffers w w.buffer v.point v.anchor false window window.made (λ b at. subst (λ (c : ContentValue). IsAccessible c.text v.point) (ap content_in at) both.1)
      (λ b at. subst (λ (c : ContentValue). IsAccessible c.text v.anchor.pos) (ap content_in at) both.0)

  abbrev pub settled : ℕ → WindowState → WindowState
  settled number w = settled_by files s w (place_of number s)

  same-leaf : (w : WindowState) (place : Option Placed) → leaf_of (settled_by files s w place) ≡ leaf_of w
  same-leaf w None = refl
  same-leaf w (Some place) = refl

  windows-stay : AreWindows s.buffers s.tree (map (settled_at files s) s.windows) s.selected
  windows-stay =
      windows-became s.buffers s.buffers s.tree settled s.windows s.selected (λ n w. same-leaf w (place_of n s)) (λ n w old. settled-window n w (place_of n s) refl old) valid.windows

  pub state-stays : IsValid (settled_state files s)
  state-stays =
      with_parts s s.buffers s.objects s.tree (map (settled_at files s) s.windows) s.selected s.width s.height valid valid.buffers valid.objects valid.closed windows-stay valid.frame
