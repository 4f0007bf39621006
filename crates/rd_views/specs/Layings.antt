-- What laying out all windows of a session gives, and what is left when it is kept.
use Rattle.std.specs.Prelude.{◌≡◌, ℕ, false, if◌then◌else◌, is_some, Option, None, Some, List, [], ◌∷◌, unwrap_or, IsSome}
use Rattle.rd_base.specs.declared.limits.TheConstants.{LEAST_TEXT_COLUMNS}
use Rattle.rd_base.specs.declared.settings.Wrap.TheVariants.{Truncate}
use Rattle.rd_matrix.specs.Entries.{shown_entries}
use Rattle.rd_reuse.specs.Changes.{none}
use Rattle.rd_start.specs.Chosen.{chosen_of}
use Rattle.rd_state.specs.Shown.{IsShownAt}
use Rattle.rd_state.specs.States.{StateValue}
use Rattle.rd_state.specs.Steps.{settled}
use Rattle.rd_state.specs.Windows.{window_of}
use Rattle.rd_state.specs.declared.window.WindowState.{WindowState}
use Rattle.rd_tree.specs.declared.placed.Placed.{Placed}
use Rattle.rd_ucd.specs.Data.{Data}
use Rattle.rd_window.specs.Layouts.{IsLaidOut, TellsEnds}
use Rattle.rd_window.specs.Views.{WindowView, shows_at, starts_at}
use Rattle.rd_window.specs.declared.layout.Layout.{Layout}
use Rattle.rd_layout.specs.Sessions.{SessionValue, layout_of}
use Rattle.rd_layout.specs.Windows.{places, wanted_of, window_shape, window_source}
use Rattle.rd_views.specs.declared.desired.Desired.{Desired}
use Rattle.rd_views.specs.declared.desired.LaidWindow.{LaidWindow}
use Rattle.rd_views.specs.declared.laying.TextLaying.{TextLaying}

-- ---- one window

-- the layout of a window with no row, which stands where a last layout stays
abbrev pub no_layout : Layout
no_layout = record {
  matrix = [];
  shape = record { width = LEAST_TEXT_COLUMNS; wrap = Truncate; hscroll = 0 };
  height = 0;
  margin = 0;
  conservatively = 0;
  change = none;
}

-- what is chosen for no window
abbrev pub nothing_chosen : LaidWindow
nothing_chosen = record { chosen = record { anchor = record { pos = 0; row = 0 }; point = 0 }; ends = record { begin = 0; end = 0 }; anew = false }

-- the layout at no place
abbrev pub nobody : ℕ × Layout
nobody = (0, no_layout)

-- what is held of a window that was laid out
abbrev pub window_in : TextLaying → LaidWindow
window_in laid = record { chosen = laid.laying.chosen; ends = laid.ends; anew = is_some laid.laying.anew }

abbrev pub layout_in : TextLaying → Layout
layout_in laid = unwrap_or laid.laying.anew no_layout

-- the layout that a window has once it is taken: the new one, or its last one where it was not laid out anew
abbrev pub layout_taken : Option Layout → LaidWindow → Layout → Layout
layout_taken last x new = if x.anew then new else unwrap_or last new

-- what is held of a window in its place is what the rules choose for it, under its number
pub record IsDesiredAt (files : Data) (s : StateValue) (last : Option Layout) (place : Placed) (w : WindowState) (x : LaidWindow) (e : ℕ × Layout) : Type 0 where
  pub number : e.0 ≡ place.number
  pub chosen : x.chosen ≡ chosen_of (window_source files s w) (window_shape s w place) (wanted_of s w place)
  pub layout : IsLaidOut last (window_source files s w) (window_shape s w place) (wanted_of s w place) (layout_taken last x e.1)
  pub tells : TellsEnds x.ends (window_source files s w) (window_shape s w place) (wanted_of s w place) (layout_taken last x e.1)

abbrev pub IsDesiredBy : Data → StateValue → Option Layout → Placed → Option WindowState → LaidWindow → ℕ × Layout → Type 0
IsDesiredBy files s last place None x e = ⊥
IsDesiredBy files s last place (Some w) x e = IsDesiredAt files s last place w x e

-- ---- all windows

-- what is held of the windows at these places, one behind the other
abbrev pub AreDesired : SessionValue → List Placed → List LaidWindow → List (ℕ × Layout) → Type 0
AreDesired v [] [] [] = Unit {0}
AreDesired v (place ∷ places) (x ∷ xs) (e ∷ es) =
    IsDesiredBy v.files v.state (layout_of place.number v.layouts) place (window_of place.number v.state.windows) x e × AreDesired v places xs es
AreDesired v _ _ _ = ⊥

-- what laying out the windows of a session gives: for each of them the start and the point that are chosen for it, and its new layout
abbrev pub IsDesired : SessionValue → Desired → Type 0
IsDesired v d = AreDesired v (places v.state) d.windows d.layouts.items

-- ---- what is shown

-- what a window shows of its layout
abbrev pub shown_by : LaidWindow → Layout → WindowView
shown_by x l = record {
  anchor = x.chosen.anchor;
  point = x.chosen.point;
  rows = shown_entries l.matrix;
  top = starts_at x.ends.begin (shown_entries l.matrix);
  bottom = shows_at x.ends.end (shown_entries l.matrix);
}

-- what each window shows, where these are the last layouts
abbrev pub views_taken : List (ℕ × Layout) → List LaidWindow → List (ℕ × Layout) → List WindowView
views_taken lasts (x ∷ xs) (e ∷ es) = shown_by x (layout_taken (layout_of e.0 lasts) x e.1) ∷ views_taken lasts xs es
views_taken lasts _ _ = []

-- ---- what is kept

-- the layout that a window has once it is taken, under its number, where these are the last ones
abbrev pub taken_at : List (ℕ × Layout) → LaidWindow → ℕ × Layout → ℕ × Layout
taken_at lasts x e = (e.0, layout_taken (layout_of e.0 lasts) x e.1)

-- the layouts that windows have once they are taken, where these are the last ones
abbrev pub layouts_taken : List (ℕ × Layout) → List LaidWindow → List (ℕ × Layout) → List (ℕ × Layout)
layouts_taken lasts (x ∷ xs) (e ∷ es) = taken_at lasts x e ∷ layouts_taken lasts xs es
layouts_taken lasts _ _ = []

-- no two layouts have one number
abbrev pub AreOnce : List (ℕ × Layout) → Type 0
AreOnce [] = Unit {0}
AreOnce (e ∷ es) = (layout_of e.0 es ≡ None) × AreOnce es

-- the state where the windows with these numbers have the starts and the points that were chosen for them
abbrev pub all_settled : List LaidWindow → List (ℕ × Layout) → StateValue → StateValue
all_settled (x ∷ xs) (e ∷ es) s = all_settled xs es (settled s e.0 x.chosen.anchor x.chosen.point)
all_settled _ _ s = s

-- windows that live, with starts and points that are accessible in what they show
abbrev pub CanSettle : StateValue → List LaidWindow → List (ℕ × Layout) → Type 0
CanSettle s (x ∷ xs) (e ∷ es) =
    IsSome (window_of e.0 s.windows) × IsShownAt s e.0 x.chosen.anchor.pos × IsShownAt s e.0 x.chosen.point × CanSettle s xs es
CanSettle s _ _ = Unit {0}
