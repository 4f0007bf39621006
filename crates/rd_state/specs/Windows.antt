-- Things by their numbers, the windows of a state among them, and what the tree says of each window.
use Rattle.std.specs.Prelude.{◌≡◌, ℕ, ◌+◌, ◌==◌, Bool, is_some, if◌then◌else◌, Option, None, Some, List, [], ◌∷◌, slice_get, unwrap_or}
use Rattle.std.specs.List.{position_or_len}
use Rattle.std.specs.Map.{lookup}
use Rattle.std.specs.Option.{option_or}
use Rattle.rd_tree.specs.Windows.{Windows, Window, Split}
use Rattle.rd_state.specs.declared.window.WindowState.{WindowState}
use Rattle.rd_state.specs.States.{BufferValue, ContentValue, StateValue, new_content, opening_window}

-- a window under its number
abbrev pub NumberedWindow : Type 0
NumberedWindow = ℕ × WindowState

-- what stands under a number
abbrev pub under : {X : Type 0} → ℕ → List (ℕ × X) → Option X
under number es = lookup (λ k. k == number) es

-- the window with a number, where it lives
abbrev pub window_of : ℕ → List NumberedWindow → Option WindowState
window_of number windows = under number windows

-- the place of what stands under a number, and the length of the list where nothing does
abbrev pub place_in : {X : Type 0} → ℕ → List (ℕ × X) → ℕ
place_in number es = position_or_len (λ e. e.0 == number) es

-- what stands under a number before others, where there is something
abbrev pub kept_as : {X : Type 0} → ℕ → Option X → List (ℕ × X) → List (ℕ × X)
kept_as number None rest = rest
kept_as number (Some x) rest = (number, x) ∷ rest

-- the list where what stands under a number became something else, or went
abbrev pub becoming : {X : Type 0} → ℕ → (X → Option X) → List (ℕ × X) → List (ℕ × X)
becoming number f [] = []
becoming number f (e ∷ rest) = if e.0 == number then kept_as e.0 (f e.1) rest else e ∷ becoming number f rest

-- the list where what stands under a number became something else
abbrev pub changed_under : {X : Type 0} → ℕ → (X → X) → List (ℕ × X) → List (ℕ × X)
changed_under number f es = becoming number (λ x. Some (f x)) es

-- the list where what stands under a number went
abbrev pub removed_under : {X : Type 0} → ℕ → List (ℕ × X) → List (ℕ × X)
removed_under number es = becoming number (λ x. None) es

-- no two windows have one number
abbrev pub AreApart : List NumberedWindow → Type 0
AreApart [] = Unit {0}
AreApart (e ∷ rest) = (window_of e.0 rest ≡ None) × AreApart rest

-- whether the window with a number shows a mode line, and the columns of its margins, where the tree has it
abbrev pub leaf_at : ℕ → Windows → Option (Bool × ℕ)
leaf_at number (Window n mode margins) = if n == number then Some (mode, margins) else None
leaf_at number (Split side size first second) = option_or (leaf_at number first) (leaf_at number second)

-- whether a window shows a mode line, as it does where it has a format for one, and the columns of its margins
abbrev pub leaf_of : WindowState → Bool × ℕ
leaf_of w = (is_some w.format, w.numbers + w.strings)

-- the selected window; one that is selected always lives
abbrev pub selected_window : StateValue → WindowState
selected_window s = unwrap_or (window_of s.selected s.windows) opening_window

abbrev pub content_in : Option BufferValue → ContentValue
content_in None = new_content
content_in (Some b) = b.content

-- what the buffer that a window shows holds; a window always shows one that was made
abbrev pub shown_content : StateValue → WindowState → ContentValue
shown_content s w = content_in (slice_get s.buffers w.buffer)
