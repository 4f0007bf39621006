-- What the calls say, from the window that was found.
use Rattle.std.proofs.Common.{◌≡◌, ℕ, suc, ◌≤◌, ◌<◌, Bool, true, false, length, Option, None, Some, Result, Ok, Err, refl, sym, ap, ◌∙◌, arith}
use Rattle.std.specs.Prelude.{is_some, option_map, ⊤}
use Rattle.rd_base.proofs.Choices.{map-some}
use Rattle.std.proofs.lemmas.Bool.Decides.{nat_tests}
use Rattle.rd_tree.specs.declared.side.Side.{Side}
use Rattle.rd_tree.specs.declared.placed.Placed.{Placed}
use Rattle.rd_tree.specs.declared.fault.TreeFault.{TreeFault}
use Rattle.rd_tree.specs.declared.fault.TreeFault.TheVariants.{NoWindow, TooSmall, TooMany}
use Rattle.rd_tree.specs.Windows.{Windows, Window, Split, HasRoom, fits, leaves, placed, window_at, holds, replaced, halves, split_at, dressed}
use Rattle.rd_tree.specs.Calls.{Configuration, frame_of, is_full, split_tree, changed_to, mode_tree, margins_tree, rect_of, Answers}
use Rattle.rd_tree.proofs.Keeping.{found_held, replaced_fits, replaced_found}
use Rattle.rd_tree.proofs.Rooms.{found_number}

-- a window is among the windows exactly where it is found
pub held_by : (c : Configuration) (w : ℕ) (found : Option Placed) → window_at w c.windows (frame_of c) ≡ found → holds w c.windows ≡ is_some found
held_by c w found e = sym (found_held w c.windows (frame_of c)) ∙ ap is_some e

-- whether a split leaves room, by the window that was found
pub split_room : (c : Configuration) (w : ℕ) (side : Side) (size : ℕ) (window : Placed) → HasRoom c.windows (frame_of c) → window_at w c.windows (frame_of c) ≡ Some window → fits (split_at w side size c.made c.windows) (frame_of c) ≡ fits (Split side size (Window window.number window.mode window.margins) (Window 0 window.mode window.margins)) window.rect
split_room c w side size window room e = replaced_fits w (halves w side size c.made) c.windows (frame_of c) window room e

-- a window that was found, in two, stands in its place as a split says
pub split_replaced : (c : Configuration) (w : ℕ) (side : Side) (size new : ℕ) (window : Placed) (other : Windows) → window_at w c.windows (frame_of c) ≡ Some window
    → other ≡ halves window.number side size new window.mode window.margins → replaced w (λ _ _. other) c.windows ≡ split_at w side size new c.windows
split_replaced c w side size new window other e is =
    ap (λ (o : Windows). replaced w (λ _ _. o) c.windows) (is ∙ ap (λ (n : ℕ). halves n side size new window.mode window.margins) (found_number w (placed c.windows (frame_of c)) window e))
    ∙ replaced_found w (halves w side size new) c.windows (frame_of c) window e

pub split_unknown : (c : Configuration) (w : ℕ) (side : Side) (size : ℕ) → window_at w c.windows (frame_of c) ≡ None → split_tree c w side size ≡ Err NoWindow
unfolding split_tree
split_unknown c w side size e = rw (held_by c w None e) refl

pub split_small : (c : Configuration) (w : ℕ) (side : Side) (size : ℕ) → holds w c.windows ≡ true → fits (split_at w side size c.made c.windows) (frame_of c) ≡ false → split_tree c w side size ≡ Err TooSmall
unfolding split_tree
split_small c w side size h f = rw (h, f) refl

pub split_many : (c : Configuration) (w : ℕ) (side : Side) (size : ℕ) → holds w c.windows ≡ true → fits (split_at w side size c.made c.windows) (frame_of c) ≡ true → is_full c ≡ true → split_tree c w side size ≡ Err TooMany
unfolding split_tree
split_many c w side size h f full = rw (h, f, full) refl

pub split_done : (c : Configuration) (w : ℕ) (side : Side) (size : ℕ) → holds w c.windows ≡ true → fits (split_at w side size c.made c.windows) (frame_of c) ≡ true → is_full c ≡ false → split_tree c w side size ≡ Ok (record c { windows = split_at w side size c.made c.windows; made = suc c.made })
unfolding split_tree
split_done c w side size h f full = rw (h, f, full) refl

pub full_of_windows : (c : Configuration) → 64 ≤ length (leaves c.windows) → is_full c ≡ true
full_of_windows c p = grind (arith, nat_tests)

pub full_of_numbers : (c : Configuration) → 4294967295 ≤ c.made → is_full c ≡ true
full_of_numbers c p = grind (arith, nat_tests)

pub not_full : (c : Configuration) → length (leaves c.windows) < 64 → c.made < 4294967295 → is_full c ≡ false
not_full c p q = grind (arith, nat_tests)

-- a window that was found stands in its rectangle
pub found_rect : (c : Configuration) (w : ℕ) (found : Option Placed) (window : Placed) → found ≡ window_at w c.windows (frame_of c) → found ≡ Some window → rect_of window.number c ≡ Some window.rect
found_rect c w found window looked e = rw (found_number w (placed c.windows (frame_of c)) window (sym looked ∙ e)) (ap (option_map (λ (p : Placed). p.rect)) (sym looked ∙ e))

-- a window that stands in its rectangle is among the windows, and its change leaves room where it has room then
pub dressed_room : (c : Configuration) (window : Placed) → HasRoom c.windows (frame_of c) → rect_of window.number c ≡ Some window.rect
    → (holds window.number c.windows ≡ true) × (fits (dressed window c.windows) (frame_of c) ≡ fits (Window window.number window.mode window.margins) window.rect)
dressed_room c window room e =
    let old = map-some (λ (p : Placed). p.rect) (window_at window.number c.windows (frame_of c)) window.rect e in
    let as_said : Bool → ℕ → Windows = λ _ _. Window window.number window.mode window.margins in
    (held_by c window.number (Some old.0) old.1, replaced_fits window.number as_said c.windows (frame_of c) old.0 room old.1 ∙ ap (fits (Window window.number window.mode window.margins)) old.2)

pub changed_small : (c : Configuration) (windows : Windows) → fits windows (frame_of c) ≡ false → changed_to c windows ≡ Err TooSmall
changed_small c windows f = rw f refl

pub changed_done : (c : Configuration) (windows : Windows) → fits windows (frame_of c) ≡ true → changed_to c windows ≡ Ok (record c { windows = windows })
changed_done c windows f = rw f refl

pub mode_unknown : (c : Configuration) (w : ℕ) (shown : Bool) (found : Option Placed) → found ≡ window_at w c.windows (frame_of c) → found ≡ None → mode_tree c w shown ≡ Err NoWindow
unfolding mode_tree
mode_unknown c w shown found looked e = rw (held_by c w None (sym looked ∙ e)) refl

-- a tree in which a window has another mode line, by the window that was found
pub mode_found : (result : Result ⊤ TreeFault) (c d : Configuration) (w : ℕ) (shown : Bool) (found : Option Placed) (window : Placed) → found ≡ window_at w c.windows (frame_of c) → found ≡ Some window
    → Answers result (changed_to c (dressed (record window { mode = shown }) c.windows)) c d → Answers result (mode_tree c w shown) c d
unfolding mode_tree
mode_found result c d w shown found window looked e =
    let here = sym looked ∙ e in
    rw (held_by c w (Some window) here, found_number w (placed c.windows (frame_of c)) window here, replaced_found w (λ _ margins. Window w shown margins) c.windows (frame_of c) window here) (λ a. a)

pub margins_unknown : (c : Configuration) (w columns : ℕ) (found : Option Placed) → found ≡ window_at w c.windows (frame_of c) → found ≡ None → margins_tree c w columns ≡ Err NoWindow
unfolding margins_tree
margins_unknown c w columns found looked e = rw (held_by c w None (sym looked ∙ e)) refl

-- a tree in which a window has other margins, by the window that was found
pub margins_found : (result : Result ⊤ TreeFault) (c d : Configuration) (w columns : ℕ) (found : Option Placed) (window : Placed) → found ≡ window_at w c.windows (frame_of c) → found ≡ Some window
    → Answers result (changed_to c (dressed (record window { margins = columns }) c.windows)) c d → Answers result (margins_tree c w columns) c d
unfolding margins_tree
margins_found result c d w columns found window looked e =
    let here = sym looked ∙ e in
    rw (held_by c w (Some window) here, found_number w (placed c.windows (frame_of c)) window here, replaced_found w (λ mode _. Window w mode columns) c.windows (frame_of c) window here) (λ a. a)
