-- Where windows stand.
use Rattle.std.proofs.Common.{◌≡◌, ℕ, zero, suc, ◌+◌, ◌-◌, ◌≤◌, Bool, true, false, if◌then◌else◌, ◌==◌, ◌&&◌, ◌||◌, List, [], ◌∷◌, ◌++◌, append_assoc, append-nil, map, length, Option, None, Some, ◌⊎◌, inl, inr, refl, sym, ap, ◌∙◌, arith}
use Rattle.std.specs.Prelude.{IfSome, slice_get}
use Rattle.std.specs.List.{list_any}
use Rattle.std.proofs.lemmas.Bool.{cases_Bool, or_left, or_right, or_parts}
use Rattle.std.proofs.Math.Bool.{or-false, and-true, and-false}
use Rattle.std.proofs.lemmas.Bool.Decides.{nat_tests}
use Rattle.std.proofs.lemmas.List.{length-map, map-append}
use Rattle.std.proofs.lemmas.List.Folds.{list_any-append}
use Rattle.std.specs.Option.{option_map, option_or}
use Rattle.rd_base.proofs.Choices.{none-of}
use Rattle.rd_base.proofs.Lists.{each-append, found-passes, total-append}
use Rattle.std.specs.Int.{from_bool}
use Rattle.rd_tree.specs.declared.rect.Rect.{Rect}
use Rattle.rd_tree.specs.declared.side.Side.{Side}
use Rattle.rd_tree.specs.declared.side.Side.TheVariants.{Below, Right}
use Rattle.rd_tree.specs.declared.placed.Placed.{Placed}
use Rattle.rd_tree.specs.Windows.{Windows, Window, Split, columns_for, rows_for, first_part, second_part, HasRoom, resized, leaves, placed, window_at, holds, replaced, is_leaf_of, is_single, sibling, removed, times}
use Rattle.rd_tree.specs.Calls.{Configuration, IsValid, frame_of}
use Rattle.rd_tree.specs.Places.{is_from, lies_in, windows_with, AllHaveRoom, in_place_of, replaced_first, without, is_among, IsWithin, StandsIn, LiesIn}
use Rattle.rd_tree.proofs.Rooms.{rows_for-some, room_within, of_number-append}
use Rattle.rd_tree.proofs.Keeping.{found_held, placed_among, by_way, resized_same}

-- a place in a range that is cut is in one of the two parts
is_from-cut : (first size whole place : ℕ) → size ≤ whole → from_bool (is_from first size place) + from_bool (is_from (first + size) (whole - size) place) ≡ from_bool (is_from first whole place)
is_from-cut first size whole place h = grind (arith, nat_tests)

from_bool-and : (a b c other : Bool) → from_bool a + from_bool b ≡ from_bool c → from_bool (a && other) + from_bool (b && other) ≡ from_bool (c && other)
from_bool-and a b c true e = rw (and-true a, and-true b, and-true c) e
from_bool-and a b c false e = rw (and-false a, and-false b, and-false c)

and_from_bool : (other a b c : Bool) → from_bool a + from_bool b ≡ from_bool c → from_bool (other && a) + from_bool (other && b) ≡ from_bool (other && c)
and_from_bool true a b c e = e
and_from_bool false a b c e = refl

parts_hold : (column row : ℕ) (side : Side) (size : ℕ) (first second : Windows) (rect : Rect) → HasRoom (Split side size first second) rect → from_bool (lies_in column row (first_part side size rect)) + from_bool (lies_in column row (second_part side size rect)) ≡ from_bool (lies_in column row rect)
parts_hold column row Right size first second rect h =
    from_bool-and (is_from rect.x size column) (is_from (rect.x + size) (rect.width - size) column) (is_from rect.x rect.width column) (is_from rect.y rect.height row)
    (is_from-cut rect.x size rect.width column (room_within Right size first second rect h).0)
parts_hold column row Below size first second rect h =
    and_from_bool (is_from rect.x rect.width column) (is_from rect.y size row) (is_from (rect.y + size) (rect.height - size) row) (is_from rect.y rect.height row)
    (is_from-cut rect.y size rect.height row (room_within Below size first second rect h).0)

-- each cell of the rectangle lies in one window, and no other cell does
pub one_window : (windows : Windows) (rect : Rect) → HasRoom windows rect → (column row : ℕ) → windows_with column row (placed windows rect) ≡ from_bool (lies_in column row rect)
one_window (Window number mode margins) rect h column row = omega arith
one_window (Split side size first second) rect h column row =
    let a = first_part side size rect in
    let b = second_part side size rect in
    omega (arith, total-append (λ (window : Placed). from_bool (lies_in column row window.rect)) (placed first a) (placed second b), one_window first a h.0 column row, one_window second b h.1 column row, parts_hold column row side size first second rect h)

pub listed : (windows : Windows) (rect : Rect) → map (λ (window : Placed). window.number) (placed windows rect) ≡ leaves windows
listed (Window number mode margins) rect = refl
listed (Split side size first second) rect =
    let a = first_part side size rect in
    let b = second_part side size rect in
    rw (map-append (λ (window : Placed). window.number) (placed first a) (placed second b), listed first a, listed second b) refl

pub placed-count : (windows : Windows) (rect : Rect) → length (placed windows rect) ≡ length (leaves windows)
placed-count windows rect = sym (length-map (placed windows rect) (λ (window : Placed). window.number)) ∙ ap length (listed windows rect)

pub all_room : (windows : Windows) (rect : Rect) → HasRoom windows rect → AllHaveRoom (placed windows rect)
all_room (Window number mode margins) rect h = (h, tt)
all_room (Split side size first second) rect h =
    let a = first_part side size rect in
    let b = second_part side size rect in
    each-append (λ (window : Placed). (columns_for window.margins ≤ window.rect.width) × (rows_for window.mode ≤ window.rect.height)) (placed first a) (placed second b) (all_room first a h.0) (all_room second b h.1)

-- others in place of the first of two lists' elements that passes, where that stands in the first list, or in the second
first-front : {X : Type 0} (p : X → Bool) (others : X → List X) (xs ys : List X) → list_any p xs ≡ true → replaced_first p others (xs ++ ys) ≡ replaced_first p others xs ++ ys
first-front p others [] ys e = absurd (cc)
first-front p others (x ∷ xs) ys e =
    elim (cases_Bool (p x)) [
      | inl h ↦ rw (h, append_assoc) refl
      | inr h ↦ rw h (ap (λ zs. x ∷ zs) (first-front p others xs ys (rw h at e)))
    ]

first-back : {X : Type 0} (p : X → Bool) (others : X → List X) (xs ys : List X) → list_any p xs ≡ false → replaced_first p others (xs ++ ys) ≡ xs ++ replaced_first p others ys
first-back p others [] ys e = refl
first-back p others (x ∷ xs) ys e =
    let both = or_parts (p x) (list_any p xs) e in
    rw both.0 (ap (λ zs. x ∷ zs) (first-back p others xs ys both.1))

at_place : (b : Bool) (others : Placed → List Placed) (other same : Windows) (rect : Rect) (window : Placed) → placed other rect ≡ others window → placed same rect ≡ window ∷ [] → placed (if b then other else same) rect ≡ (if b then others window ++ [] else window ∷ [])
at_place true others other same rect window e s = rw e (sym (append-nil (others window)))
at_place false others other same rect window e s = s

-- where something else stands for a window, each other window stays where it is
pub replaced_places : (w : ℕ) (other : Bool → ℕ → Windows) (windows : Windows) (rect : Rect) → placed (replaced w other windows) rect ≡ in_place_of w (λ window. placed (other window.mode window.margins) window.rect) (placed windows rect)
replaced_places w other (Window number mode margins) rect =
    at_place (number == w) (λ window. placed (other window.mode window.margins) window.rect) (other mode margins) (Window number mode margins) rect (record { number = number; mode = mode; margins = margins; rect = rect }) refl refl
replaced_places w other (Split side size first second) rect =
    let a = first_part side size rect in
    let b = second_part side size rect in
    let others : Placed → List Placed = λ window. placed (other window.mode window.margins) window.rect in
    elim (cases_Bool (holds w first)) [
      | inl p ↦ rw (p, first-front (λ (window : Placed). window.number == w) others (placed first a) (placed second b) (sym (placed_among w first a) ∙ p)) (ap (λ (zs : List Placed). zs ++ placed second b) (replaced_places w other first a))
      | inr p ↦ rw (p, first-back (λ (window : Placed). window.number == w) others (placed first a) (placed second b) (sym (placed_among w first a) ∙ p)) (ap (λ (zs : List Placed). placed first a ++ zs) (replaced_places w other second b))
    ]

-- the windows of a rectangle that is shared anew are the same in the same order
pub resized_leaves : (windows : Windows) (rect : Rect) → leaves (resized windows rect) ≡ leaves windows
resized_leaves = resized_same leaves ◌++◌ (λ _ _ _ _. refl)

-- sharing the same rectangle anew changes nothing
pub resized_same_place : (windows : Windows) (rect : Rect) → HasRoom windows rect → resized windows rect ≡ windows
resized_same_place (Window number mode margins) rect h = refl
resized_same_place (Split side size first second) rect h =
    rw ((room_within side size first second rect h).1, resized_same_place first (first_part side size rect) h.0, resized_same_place second (second_part side size rect) h.1) refl

-- a window is one of those whose numbers are listed
pub held_among : (n : ℕ) (windows : Windows) → holds n windows ≡ is_among n (leaves windows)
held_among n (Window number mode margins) = sym (or-false (number == n))
held_among n (Split side size first second) = rw (held_among n first, held_among n second) (sym (list_any-append (λ (m : ℕ). m == n) (leaves first) (leaves second)))

pub resized_held : (n : ℕ) (windows : Windows) (rect : Rect) → holds n (resized windows rect) ≡ holds n windows
resized_held n windows rect = held_among n (resized windows rect) ∙ (ap (is_among n) (resized_leaves windows rect) ∙ sym (held_among n windows))

-- the sibling is a part of the windows, and of those that are left
pub sibling_held : (v n : ℕ) (windows : Windows) (rect : Rect) → holds v (sibling n windows) ≡ true → (holds v (removed n windows rect) ≡ true) × (holds v windows ≡ true)
sibling_held v n (Window number mode margins) rect = λ e. (e, e)
sibling_held v n (Split side size first second) rect =
    by_way (λ left beside _. holds v beside ≡ true → (holds v left ≡ true) × (holds v first || holds v second ≡ true)) n side size first second rect
    (λ _ e. (resized_held v second rect ∙ e, or_right (holds v first) (holds v second) e))
    (λ _ e. (resized_held v first rect ∙ e, or_left (holds v first) (holds v second) e))
    (λ _ _ e. let both = sibling_held v n first (first_part side size rect) e in (or_left _ _ both.0, or_left _ _ both.1))
    (λ _ _ e. let both = sibling_held v n second (second_part side size rect) e in (or_right _ _ both.0, or_right _ _ both.1))

window_without : (n : ℕ) (windows : Windows) (numbers : List ℕ) → is_leaf_of n windows ≡ true → without n (leaves windows ++ numbers) ≡ numbers
window_without n (Window number mode margins) numbers e = rw e refl
window_without n (Split side size first second) numbers e = absurd (cc)

window_held : (n : ℕ) (windows : Windows) → is_leaf_of n windows ≡ true → holds n windows ≡ true
window_held n (Window number mode margins) e = e
window_held n (Split side size first second) e = absurd (cc)

pub held_times : (n : ℕ) (windows : Windows) → holds n windows ≡ true → 1 ≤ times n windows
held_times n (Window number mode margins) e = rw e (omega arith)
held_times n (Split side size first second) e =
    elim (cases_Bool (holds n first)) [
      | inl p ↦ omega (arith, held_times n first p)
      | inr p ↦ omega (arith, held_times n second (rw p at e))
    ]

-- a window that stands in the second part does not stand in the first too
pub once_in_first : (n : ℕ) (first second : Windows) → times n first + times n second ≤ 1 → holds n second ≡ true → holds n first ≡ false
once_in_first n first second once e =
    elim (cases_Bool (holds n first)) [
      | inl p ↦ absurd (omega (arith, held_times n first p, held_times n second e))
      | inr p ↦ p
    ]

-- a removal takes one number away
pub removed_leaves : (n : ℕ) (windows : Windows) (rect : Rect) → times n windows ≤ 1 → holds n windows ≡ true → is_single windows ≡ false → leaves (removed n windows rect) ≡ without n (leaves windows)
removed_leaves n (Window number mode margins) rect once e s = absurd (cc)
removed_leaves n (Split side size first second) rect once e s =
    let away : holds n second ≡ true → is_among n (leaves first) ≡ false =
    λ k. sym (held_among n first) ∙ once_in_first n first second once k in
    by_way (λ left _ _. leaves left ≡ without n (leaves first ++ leaves second)) n side size first second rect
    (λ p. rw (resized_leaves second rect, window_without n first (leaves second) p) refl)
    (λ p. rw (resized_leaves first rect, first-back (λ (m : ℕ). m == n) (λ _. []) (leaves first) (leaves second) (away (window_held n second p)))
    (sym (ap (λ (zs : List ℕ). leaves first ++ zs) (ap (without n) (sym (append-nil (leaves second))) ∙ window_without n second [] p)
    ∙ append-nil (leaves first))))
    (λ h many. rw (first-front (λ (m : ℕ). m == n) (λ _. []) (leaves first) (leaves second) (sym (held_among n first) ∙ h))
    (ap (λ (zs : List ℕ). zs ++ leaves second) (removed_leaves n first (first_part side size rect) (omega arith) h many)))
    (λ h there. rw (first-back (λ (m : ℕ). m == n) (λ _. []) (leaves first) (leaves second) (away (there e).0))
    (ap (λ (zs : List ℕ). leaves first ++ zs) (removed_leaves n second (second_part side size rect) (omega arith) (there e).0 (there e).1)))

pub not_found : (v : ℕ) (windows : Windows) (rect : Rect) → holds v windows ≡ false → window_at v windows rect ≡ None
not_found v windows rect e = none-of (window_at v windows rect) (found_held v windows rect ∙ e)

other_window : (v n : ℕ) (windows : Windows) → is_leaf_of n windows ≡ true → (v == n) ≡ false → holds v windows ≡ false
other_window v n (Window number mode margins) e d = grind (arith, nat_tests)
other_window v n (Split side size first second) e d = absurd (cc)

pub two_lists : (v : ℕ) (side : Side) (size : ℕ) (first second : Windows) (rect : Rect) → window_at v (Split side size first second) rect ≡ option_or (window_at v first (first_part side size rect)) (window_at v second (second_part side size rect))
two_lists v side size first second rect = of_number-append v (placed first (first_part side size rect)) (placed second (second_part side size rect))

neither_found : (v : ℕ) (side : Side) (size : ℕ) (first second : Windows) (rect : Rect) → holds v first ≡ false → holds v second ≡ false → window_at v (Split side size first second) rect ≡ None
neither_found v side size first second rect p q = not_found v (Split side size first second) rect (rw (p, q) refl)

-- a removal leaves each window that is not in the sibling where it is
pub removed_others : (v n : ℕ) (windows : Windows) (rect : Rect) → (v == n) ≡ false → holds v (sibling n windows) ≡ false → window_at v (removed n windows rect) rect ≡ window_at v windows rect
removed_others v n (Window number mode margins) rect d = λ _. refl
removed_others v n (Split side size first second) rect d =
    let a = first_part side size rect in
    let b = second_part side size rect in
    let whole = two_lists v side size first second rect in
    by_way (λ left beside _. holds v beside ≡ false → window_at v left rect ≡ window_at v (Split side size first second) rect)
    n side size first second rect
    (λ p e. not_found v (resized second rect) rect (resized_held v second rect ∙ e)
    ∙ sym (neither_found v side size first second rect (other_window v n first p d) e))
    (λ p e. not_found v (resized first rect) rect (resized_held v first rect ∙ e)
    ∙ sym (neither_found v side size first second rect e (other_window v n second p d)))
    (λ _ _ e. two_lists v side size (removed n first a) second rect
    ∙ (ap (λ (o : Option Placed). option_or o (window_at v second b)) (removed_others v n first a d e) ∙ sym whole))
    (λ _ _ e. two_lists v side size first (removed n second b) rect
    ∙ (ap (option_or (window_at v first a)) (removed_others v n second b d e) ∙ sym whole))

-- both parts of a split rectangle lie within it
pub parts_within : (side : Side) (size : ℕ) (first second : Windows) (rect : Rect) → HasRoom (Split side size first second) rect → IsWithin (first_part side size rect) rect × IsWithin (second_part side size rect) rect
parts_within Right size first second rect h =
    let w = room_within Right size first second rect h in ((omega arith, omega arith, omega arith, omega arith), (omega arith, omega arith, omega arith, omega arith))
parts_within Below size first second rect h =
    let w = room_within Below size first second rect h in ((omega arith, omega arith, omega arith, omega arith), (omega arith, omega arith, omega arith, omega arith))

stands_further : (window : Placed) (part rect : Rect) → StandsIn window part → IsWithin part rect → StandsIn window rect
stands_further window part rect s w = ((omega arith, omega arith, omega arith, omega arith), s.1, s.2)

-- what stands in two lists stands in one of them
pub in_one : (xs ys : List Placed) (i : ℕ) (window : Placed) → slice_get (xs ++ ys) i ≡ Some window → ((j : ℕ) × (slice_get xs j ≡ Some window)) ⊎ ((j : ℕ) × (slice_get ys j ≡ Some window))
in_one [] ys i window e = inr (i, e)
in_one (x ∷ xs) ys zero window e = inl (0, e)
in_one (x ∷ xs) ys (suc i) window e =
    elim (in_one xs ys i window e) [ inl p ↦ inl (suc p.0, p.1) | inr p ↦ inr p ]

-- each window that is listed stands in the rectangle, with the room that it needs
pub stands_listed : (windows : Windows) (rect : Rect) (i : ℕ) (window : Placed) → HasRoom windows rect → slice_get (placed windows rect) i ≡ Some window → StandsIn window rect
stands_listed (Window number mode margins) rect zero window h e =
    let s : record { number = number; mode = mode; margins = margins; rect = rect } ≡ window = cc in
    rw (← s) ((omega arith, omega arith, omega arith, omega arith), h.0, h.1)
stands_listed (Window number mode margins) rect (suc i) window h e = absurd (cc)
stands_listed (Split side size first second) rect i window h e =
    let a = first_part side size rect in
    let b = second_part side size rect in
    elim (in_one (placed first a) (placed second b) i window e) [
      | inl p ↦ stands_further window a rect (stands_listed first a p.0 window h.0 p.1) (parts_within side size first second rect h).0
      | inr p ↦ stands_further window b rect (stands_listed second b p.0 window h.1 p.1) (parts_within side size first second rect h).1
    ]

-- a window that is found stands in the rectangle
pub stands_in : (number : ℕ) (windows : Windows) (rect : Rect) (window : Placed) → HasRoom windows rect → window_at number windows rect ≡ Some window → StandsIn window rect
stands_in number windows rect window h e =
    let found = found-passes (λ (p : Placed). p.number == number) (placed windows rect) window e in stands_listed windows rect found.1 window h found.2

-- a rectangle that is answered of a valid tree lies in its frame
pub lies_in_frame : (c : Configuration) (found : Option Placed) (number : ℕ) → IsValid c → window_at number c.windows (frame_of c) ≡ found → LiesIn (option_map (λ (p : Placed). p.rect) found) (frame_of c)
lies_in_frame c None number valid e = tt
lies_in_frame c (Some window) number valid e =
    let s = stands_in number c.windows (frame_of c) window valid.room e in
    (s.0, omega (arith, s.1), omega (arith, rows_for-some window.mode, s.2), valid.wide, valid.high)

-- a window that is answered of a valid tree stands in its frame
pub stands_in_frame : (c : Configuration) (found : Option Placed) (number : ℕ) → IsValid c → window_at number c.windows (frame_of c) ≡ found → IfSome found (λ window. StandsIn window (frame_of c))
stands_in_frame c None number valid e = tt
stands_in_frame c (Some window) number valid e = stands_in number c.windows (frame_of c) window valid.room e
