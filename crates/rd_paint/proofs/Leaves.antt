-- The windows of a state in leaf order, and their views.
use Rattle.std.proofs.Common.{◌≡◌, ℕ, ◌<◌, ◌≤◌, Option, None, Some, List, length, sym, ap, subst, ◌∙◌, arith}
use Rattle.std.proofs.lemmas.Option.{none-some}
use Rattle.std.specs.Prelude.{option_map, slice_get}
use Rattle.rd_base.proofs.Choices.{map-some}
use Rattle.rd_base.proofs.Lists.{element-at}
use Rattle.rd_base.specs.declared.limits.TheConstants.{WINDOWS}
use Rattle.rd_state.specs.States.{BufferValue, StateValue}
use Rattle.rd_state.specs.Valid.{IsValid}
use Rattle.rd_state.specs.Windows.{window_of}
use Rattle.rd_state.specs.declared.window.WindowState.{WindowState}
use Rattle.rd_state.proofs.Leaves.{placed-window}
use Rattle.rd_state.proofs.Showing.{window-valid}
use Rattle.rd_tree.proofs.Standing.{placed-count}
use Rattle.rd_tree.specs.Calls.{Configuration, frame_of}
use Rattle.rd_tree.specs.Windows.{placed, window_at}
use Rattle.rd_tree.specs.declared.placed.Placed.{Placed}
use Rattle.rd_ucd.specs.Data.{Data}
use Rattle.rd_window.specs.Views.{WindowView}
use Rattle.rd_layout.specs.Windows.{place_of, places, view_in, views_in}
use Rattle.rd_layout.proofs.Placed.{shown-at, shown-count}
use Rattle.rd_paint.specs.Shown.{IsLeaf, painted_of}

-- what is asked of a tree that is the state's
pub listed-of-tree : (s : StateValue) (t : Configuration) (i : ℕ) (o : Option Placed) → t ≡ s.tree → o ≡ slice_get (placed t.windows (frame_of t)) i → slice_get (places s) i ≡ o
listed-of-tree s t i o is h = sym (h ∙ ap (λ (c : Configuration). slice_get (placed c.windows (frame_of c)) i) is)

pub found-of-tree : (s : StateValue) (t : Configuration) (p : Placed) → t ≡ s.tree → window_at p.number t.windows (frame_of t) ≡ Some p → place_of p.number s ≡ Some p
found-of-tree s t p is h = sym (ap (λ (c : Configuration). window_at p.number c.windows (frame_of c)) is) ∙ h

module _ (s : StateValue) (valid : IsValid s) where
  pub few : length (places s) ≤ WINDOWS
  few = let most = valid.windows.tree.few in omega (arith, placed-count s.tree.windows (frame_of s.tree), most)

  -- a window of the frame lives, and shows a buffer that was made
  pub lives : (p : Placed) → place_of p.number s ≡ Some p → window_of p.number s.windows ≡ None → ⊥
  lives p at none = let w = placed-window s p.number p valid at in none-some w.0 (sym none ∙ w.1)

  pub shows-buffer : (number : ℕ) (w : WindowState) → window_of number s.windows ≡ Some w → None ≡ option_map painted_of (slice_get s.buffers w.buffer) → ⊥
  shows-buffer number w at none =
      let b = element-at s.buffers w.buffer (window-valid s number w valid at).made in
      none-some (painted_of b.0) (none ∙ ap (option_map painted_of) b.1)

  pub is-leaf : (i : ℕ) (p : Placed) (w : WindowState) (content : BufferValue) → slice_get (places s) i ≡ Some p → place_of p.number s ≡ Some p
      → Some w ≡ window_of p.number s.windows → Some content ≡ option_map painted_of (slice_get s.buffers w.buffer) → IsLeaf s i p w content
  is-leaf i p w content listed at window buffer = record {
    listed = listed;
    placed = at;
    window = sym window;
    buffer = let b = map-some painted_of (slice_get s.buffers w.buffer) content (sym buffer) in (b.0, b.1, sym b.2);
  }

  pub view-at : (files : Data) (i : ℕ) (p : Placed) (w : WindowState) → slice_get (places s) i ≡ Some p → window_of p.number s.windows ≡ Some w
      → slice_get (views_in files s) i ≡ Some (view_in files s w p)
  view-at files = shown-at s valid (λ p w. view_in files s w p)

  pub views-count : (files : Data) → length (views_in files s) ≡ length (places s)
  views-count files = shown-count s valid (λ p w. view_in files s w p)

  -- a place in a list of views is one of the leaf order
  pub inside : (files : Data) (views : List WindowView) (i : ℕ) → views ≡ views_in files s → i < length views → i < length (places s)
  inside files views i shown less = subst (λ (n : ℕ). i < n) (ap length shown ∙ views-count files) less

  pub small : (files : Data) (views : List WindowView) (i : ℕ) → views ≡ views_in files s → i < length views → i < 4294967296
  small files views i shown less = let there = inside files views i shown less in let most = few in omega arith
