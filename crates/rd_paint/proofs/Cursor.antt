-- The cursor of the window with a number.
use Rattle.std.proofs.Common.{◌≡◌, ◌≢◌, ℕ, ◌<◌, ◌==◌, Option, None, Some, List, length, sym, ap, refl, ◌∙◌, unwrap_or}
use Rattle.std.proofs.lemmas.Option.{slice_get_within}
use Rattle.std.specs.Prelude.{slice_get}
use Rattle.rd_base.proofs.Lists.{found-passes}
use Rattle.rd_ucd.specs.Data.{Data}
use Rattle.rd_state.specs.States.{BufferValue, StateValue}
use Rattle.rd_state.specs.Valid.{IsValid}
use Rattle.rd_state.specs.Windows.{window_of}
use Rattle.rd_state.specs.declared.window.WindowState.{WindowState}
use Rattle.rd_tree.proofs.Rooms.{found_number}
use Rattle.rd_tree.specs.declared.placed.Placed.{Placed}
use Rattle.rd_window.specs.Views.{WindowView}
use Rattle.rd_layout.specs.Screens.{cursor_at, cursor_by, cursor_of}
use Rattle.rd_layout.specs.Windows.{place_of, places, view_in, views_in}
use Rattle.rd_paint.specs.Shown.{IsLeaf}
use Rattle.rd_paint.proofs.Leaves.{view-at}

none-by : (files : Data) (s : StateValue) (o : Option WindowState) → cursor_by files s o None ≡ None
none-by files s None = refl
none-by files s (Some w) = refl

-- no window of the frame has the number
pub no-cursor : (files : Data) (s : StateValue) (number : ℕ) → ((k : ℕ) (p : Placed) → k < length (places s) → slice_get (places s) k ≡ Some p → p.number ≢ number) → None ≡ cursor_at files s number
no-cursor files s number none = by (place_of number s) refl where
  by : (o : Option Placed) → place_of number s ≡ o → None ≡ cursor_by files s (window_of number s.windows) o
  by None is = sym (none-by files s (window_of number s.windows))
  by (Some p) is =
      let found = found-passes (λ (q : Placed). q.number == number) (places s) p is in
      absurd (none found.1 p (slice_get_within (places s) found.1 p found.2) found.2 (found_number number (places s) p is))

-- the window at a place of the leaf order has the number
pub cursor-here : (files : Data) (s : StateValue) → IsValid s → (views : List WindowView) → views ≡ views_in files s → (i number : ℕ) (place : Placed) (w : WindowState) (content : BufferValue)
    → IsLeaf s i place w content → place.number ≡ number → (v : WindowView) → slice_get views i ≡ Some v → cursor_of v ≡ cursor_at files s number
cursor-here files s valid views shown i number place w content leaf same v at =
    let is : v ≡ view_in files s w place
    = ap (λ o. unwrap_or o v) (sym at ∙ (ap (λ (vs : List WindowView). slice_get vs i) shown ∙ view-at s valid files i place w leaf.listed leaf.window)) in
    ap cursor_of is
    ∙ (sym (ap (cursor_by files s (Some w)) leaf.placed)
    ∙ (sym (ap (λ (o : Option WindowState). cursor_by files s o (place_of place.number s)) leaf.window) ∙ ap (cursor_at files s) same))
