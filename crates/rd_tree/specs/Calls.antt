-- What the calls of a window tree answer, and what they leave.
use Rattle.std.specs.Prelude.{◌≡◌, ℕ, suc, ◌≤◌, Bool, false, if◌then◌else◌, nat_le, ◌&&◌, ◌||◌, length, Option, option_map, Result, Ok, Err, ⊤}
use Rattle.rd_base.specs.declared.limits.TheConstants.{FRAME_COLUMNS, FRAME_ROWS, LEAST_WINDOW_COLUMNS, WINDOWS, WINDOWS_MADE}
use Rattle.rd_tree.specs.declared.rect.Rect.{Rect}
use Rattle.rd_tree.specs.declared.side.Side.{Side}
use Rattle.rd_tree.specs.declared.fault.TreeFault.{TreeFault}
use Rattle.rd_tree.specs.declared.fault.TreeFault.TheVariants.{NoWindow, TooSmall, TooMany, LastWindow, Memory}
use Rattle.rd_tree.specs.Windows.{Windows, Window, HasRoom, window_at, columns_needed, rows_needed, leaves, holds, fits, resized, split_at, is_single, sibling, removed, first_leaf, with_mode, with_margins, times}

-- a window tree: its windows, the columns and rows that they fill, and how many windows were made so far
pub record Configuration : Type 0 where
  pub windows : Windows
  pub width : ℕ
  pub height : ℕ
  pub made : ℕ

-- the rectangle that the windows fill
abbrev pub frame : ℕ → ℕ → Rect
frame width height = record { x = 0; y = 0; width = width; height = height }

abbrev pub frame_of : Configuration → Rect
frame_of c = frame c.width c.height

-- the first window, which has the number 0, no mode line and no margins
abbrev pub opening : ℕ → ℕ → Configuration
opening width height = record { windows = Window 0 false 0; width = width; height = height; made = 1 }

-- no more windows can be made
abbrev pub is_full : Configuration → Bool
is_full c = nat_le WINDOWS (length (leaves c.windows)) || nat_le WINDOWS_MADE c.made

abbrev pub split_to : Configuration → Windows → Result Configuration TreeFault
split_to c windows =
    if fits windows (frame_of c) then (if is_full c then Err TooMany else Ok (record c { windows = windows; made = suc c.made })) else Err TooSmall

-- a split: the new window's number is the count of windows made so far
unfoldable pub split_tree : Configuration → ℕ → Side → ℕ → Result Configuration TreeFault
split_tree c window side size =
    if holds window c.windows then split_to c (split_at window side size c.made c.windows) else Err NoWindow

unfoldable pub remove_tree : Configuration → ℕ → Result Configuration TreeFault
remove_tree c window =
    if holds window c.windows then (if is_single c.windows then Err LastWindow else Ok (record c { windows = removed window c.windows (frame_of c) })) else Err NoWindow

unfoldable pub resize_tree : Configuration → ℕ → ℕ → Result Configuration TreeFault
resize_tree c width height =
    if nat_le (columns_needed c.windows) width && nat_le (rows_needed c.windows) height
    then Ok (record c { windows = resized c.windows (frame width height); width = width; height = height })
    else Err TooSmall

-- a configuration with other windows, where they have room
abbrev pub changed_to : Configuration → Windows → Result Configuration TreeFault
changed_to c windows = if fits windows (frame_of c) then Ok (record c { windows = windows }) else Err TooSmall

unfoldable pub mode_tree : Configuration → ℕ → Bool → Result Configuration TreeFault
mode_tree c window shown = if holds window c.windows then changed_to c (with_mode window shown c.windows) else Err NoWindow

unfoldable pub margins_tree : Configuration → ℕ → ℕ → Result Configuration TreeFault
margins_tree c window columns = if holds window c.windows then changed_to c (with_margins window columns c.windows) else Err NoWindow

-- the rectangle of a window that lives
abbrev pub rect_of : ℕ → Configuration → Option Rect
rect_of window c = option_map (λ placed. placed.rect) (window_at window c.windows (frame_of c))

-- a call leaves what was said, or answers the fault that was said and changes nothing
abbrev pub Answers : Result ⊤ TreeFault → Result Configuration TreeFault → Configuration → Configuration → Type 0
Answers (Ok _) said old new = said ≡ Ok new
Answers (Err fault) said old new = (new ≡ old) × (said ≡ Err fault)

-- a split leaves what was said and answers the new window's number; or it answers the fault that was said, or Memory, and changes nothing
abbrev pub Splits : Result ℕ TreeFault → Result Configuration TreeFault → Configuration → Configuration → Type 0
Splits (Ok number) said old new = (said ≡ Ok new) × (number ≡ old.made)
Splits (Err Memory) said old new = new ≡ old
Splits (Err fault) said old new = (new ≡ old) × (said ≡ Err fault)

-- a removal leaves what was said and answers the first window of the sibling; or it answers the fault that was said and changes nothing
abbrev pub Removes : Result ℕ TreeFault → ℕ → Result Configuration TreeFault → Configuration → Configuration → Type 0
Removes (Ok heir) window said old new = (said ≡ Ok new) × (heir ≡ first_leaf (sibling window old.windows))
Removes (Err fault) window said old new = (new ≡ old) × (said ≡ Err fault)

-- what holds of each tree that the calls make: each window has room, a number stands once and was made, and there are at most 64
pub record IsValid (c : Configuration) : Type 0 where
  pub room : HasRoom c.windows (frame_of c)
  pub wide : c.width ≤ FRAME_COLUMNS
  pub high : c.height ≤ FRAME_ROWS
  pub few : length (leaves c.windows) ≤ WINDOWS
  pub made : c.made ≤ WINDOWS_MADE
  pub once : (number : ℕ) → times number c.windows ≤ 1
  pub known : (number : ℕ) → c.made ≤ number → times number c.windows ≡ 0

-- the opening is a valid tree, and each call that is not refused leaves a valid tree valid
pub record TreeLaws : Type 0 where
  pub opening : (width height : ℕ) → LEAST_WINDOW_COLUMNS ≤ width → 1 ≤ height → width ≤ FRAME_COLUMNS → height ≤ FRAME_ROWS → IsValid (opening width height)
  pub split : (c d : Configuration) (window : ℕ) (side : Side) (size : ℕ) → IsValid c → split_tree c window side size ≡ Ok d → IsValid d
  pub remove : (c d : Configuration) (window : ℕ) → IsValid c → remove_tree c window ≡ Ok d → IsValid d
  pub resize : (c d : Configuration) (width height : ℕ) → width ≤ FRAME_COLUMNS → height ≤ FRAME_ROWS → IsValid c → resize_tree c width height ≡ Ok d → IsValid d
  pub mode : (c d : Configuration) (window : ℕ) (shown : Bool) → IsValid c → mode_tree c window shown ≡ Ok d → IsValid d
  pub margins : (c d : Configuration) (window columns : ℕ) → IsValid c → margins_tree c window columns ≡ Ok d → IsValid d
