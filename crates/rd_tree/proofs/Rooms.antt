-- Needs, sizes and rectangles.
use Rattle.std.proofs.Common.{◌≡◌, ℕ, ◌≤◌, ◌<◌, length, length-append, Bool, true, false, ◌==◌, List, ◌++◌, Option, None, Some, sym, ap, ◌∙◌, arith}
use Rattle.std.specs.Option.{option_or}
use Rattle.std.proofs.lemmas.Bool.{eqb-true}
use Rattle.std.proofs.lemmas.List.Folds.{find-append}
use Rattle.rd_base.proofs.Lists.{found-passes}
use Rattle.rd_tree.specs.declared.rect.Rect.{Rect}
use Rattle.rd_tree.specs.declared.side.Side.{Side}
use Rattle.rd_tree.specs.declared.side.Side.TheVariants.{Below, Right}
use Rattle.rd_tree.specs.declared.placed.Placed.{Placed}
use Rattle.rd_tree.specs.Windows.{Windows, Window, Split, rows_for, columns_needed, rows_needed, first_part, second_part, along, InFrame, NeedsMet, FirstPartsFit, HasRoom, first_size, resized, leaves, placed, of_number, window_at}

pub rows_for-some : (mode : Bool) → 1 ≤ rows_for mode
rows_for-some true = omega arith
rows_for-some false = omega arith

pub columns-some : (windows : Windows) → 1 ≤ columns_needed windows
columns-some (Window number mode margins) = omega arith
columns-some (Split Right size first second) = omega (arith, columns-some first)
columns-some (Split Below size first second) = omega (arith, columns-some first)

pub rows-some : (windows : Windows) → 1 ≤ rows_needed windows
rows-some (Window number mode margins) = rows_for-some mode
rows-some (Split Right size first second) = omega (arith, rows-some first)
rows-some (Split Below size first second) = omega (arith, rows-some first)

pub leaves-some : (windows : Windows) → 1 ≤ length (leaves windows)
leaves-some (Window number mode margins) = omega arith
leaves-some (Split side size first second) = omega (arith, leaves-some first, length-append (leaves first) (leaves second))

-- both parts have fewer windows than the whole
parts-fewer : (first second : Windows) (n : ℕ) → length (leaves first ++ leaves second) ≡ n → (length (leaves first) < n) × (length (leaves second) < n)
parts-fewer first second n e =
    let whole = length-append (leaves first) (leaves second) in
    (omega (arith, whole, leaves-some second), omega (arith, whole, leaves-some first))

-- where both parts of a split rectangle have what they need, so has the whole; the first part lies within it, and keeps its size
-- where the rectangle is shared anew; and what each part needs is met in the whole rectangle
parts-met : (side : Side) (size : ℕ) (first second : Windows) (rect : Rect) → NeedsMet first (first_part side size rect) → NeedsMet second (second_part side size rect)
    → NeedsMet (Split side size first second) rect × ((size ≤ along side rect) × (first_size side size second rect ≡ size)) × (NeedsMet first rect × NeedsMet second rect)
parts-met Right size first second rect a b =
    let c = columns-some second in
    ((omega arith, omega arith), (omega arith, omega arith), ((omega arith, a.1), (omega arith, b.1)))
parts-met Below size first second rect a b =
    let c = rows-some second in
    ((omega arith, omega arith), (omega arith, omega arith), ((a.0, omega arith), (b.0, omega arith)))

-- where each window has room, the needs of all are met
pub room_needs : (windows : Windows) (rect : Rect) → HasRoom windows rect → NeedsMet windows rect
room_needs (Window number mode margins) rect h = h
room_needs (Split side size first second) rect h =
    (parts-met side size first second rect (room_needs first (first_part side size rect) h.0) (room_needs second (second_part side size rect) h.1)).0

pub room_first_parts : (windows : Windows) (rect : Rect) → HasRoom windows rect → FirstPartsFit windows
room_first_parts (Window number mode margins) rect h = tt
room_first_parts (Split Right size first second) rect h =
    ((room_needs first (first_part Right size rect) h.0).0, room_first_parts first (first_part Right size rect) h.0, room_first_parts second (second_part Right size rect) h.1)
room_first_parts (Split Below size first second) rect h =
    ((room_needs first (first_part Below size rect) h.0).1, room_first_parts first (first_part Below size rect) h.0, room_first_parts second (second_part Below size rect) h.1)

-- a first part lies within the split rectangle, and keeps its size where the rectangle is shared anew
pub room_within : (side : Side) (size : ℕ) (first second : Windows) (rect : Rect) → HasRoom (Split side size first second) rect → (size ≤ along side rect) × (first_size side size second rect ≡ size)
room_within side size first second rect h =
    (parts-met side size first second rect (room_needs first (first_part side size rect) h.0) (room_needs second (second_part side size rect) h.1)).1

parts-in_frame : (side : Side) (size : ℕ) (rect : Rect) → InFrame rect → size ≤ along side rect → InFrame (first_part side size rect) × InFrame (second_part side size rect)
parts-in_frame Right size rect h w = ((omega arith, h.1), (omega arith, h.1))
parts-in_frame Below size rect h w = ((h.0, omega arith), (h.0, omega arith))

-- each part of a split rectangle that has room has fewer windows, has room, and lies in the frame
abbrev pub Lies : Windows → Rect → ℕ → Type 0
Lies windows part n = (length (leaves windows) < n) × (HasRoom windows part × InFrame part)

pub parts_lie : {windows : Windows} {side : Side} {size : ℕ} {first second : Windows} {n : ℕ} (rect : Rect) → windows ≡ Split side size first second
    → HasRoom windows rect → InFrame rect → length (leaves windows) ≡ n → Lies first (first_part side size rect) n × Lies second (second_part side size rect) n
parts_lie {windows} {side} {size} {first} {second} {n} rect is room inside count =
    let h = rw is at room in
    let fewer = parts-fewer first second n (rw is at count) in
    let framed = parts-in_frame side size rect inside (room_within side size first second rect h).0 in
    ((fewer.0, (h.0, framed.0)), (fewer.1, (h.1, framed.1)))

-- where a rectangle is shared anew, both parts have what they need, and lie in it
pub shared : (side : Side) (size : ℕ) (first second : Windows) (rect : Rect) → FirstPartsFit (Split side size first second) → NeedsMet (Split side size first second) rect → NeedsMet first (first_part side (first_size side size second rect) rect) × NeedsMet second (second_part side (first_size side size second rect) rect) × (first_size side size second rect ≤ along side rect)
shared Right size first second rect p n = ((omega arith, omega arith), (omega arith, omega arith), omega arith)
shared Below size first second rect p n = ((omega arith, omega arith), (omega arith, omega arith), omega arith)

first_parts-split : (side : Side) (size : ℕ) (first second : Windows) → FirstPartsFit (Split side size first second) → FirstPartsFit first × FirstPartsFit second
first_parts-split Right size first second p = (p.1, p.2)
first_parts-split Below size first second p = (p.1, p.2)

-- each part of a split rectangle that has room can share the whole rectangle
pub parts_fill : {windows : Windows} {side : Side} {size : ℕ} {first second : Windows} (rect : Rect) → windows ≡ Split side size first second
    → HasRoom windows rect → (FirstPartsFit first × NeedsMet first rect) × (FirstPartsFit second × NeedsMet second rect)
parts_fill {windows} {side} {size} {first} {second} rect is room =
    let h = rw is at room in
    let fit = first_parts-split side size first second (room_first_parts (Split side size first second) rect h) in
    let needs = (parts-met side size first second rect (room_needs first (first_part side size rect) h.0) (room_needs second (second_part side size rect) h.1)).2 in
    ((fit.0, needs.0), (fit.1, needs.1))

-- each part of a rectangle that is shared anew has fewer windows, has what it needs, and lies in the frame
abbrev pub Shares : Windows → Rect → ℕ → Type 0
Shares windows part n = (length (leaves windows) < n) × (FirstPartsFit windows × (NeedsMet windows part × InFrame part))

pub parts_share : {windows : Windows} {side : Side} {size : ℕ} {first second : Windows} {n : ℕ} (rect : Rect) → windows ≡ Split side size first second
    → FirstPartsFit windows → NeedsMet windows rect → InFrame rect → length (leaves windows) ≡ n
    → let new = first_size side size second rect in Shares first (first_part side new rect) n × Shares second (second_part side new rect) n
parts_share {windows} {side} {size} {first} {second} {n} rect is parts needs inside count =
    let p = rw is at parts in
    let both = shared side size first second rect p (rw is at needs) in
    let fit = first_parts-split side size first second p in
    let fewer = parts-fewer first second n (rw is at count) in
    let framed = parts-in_frame side (first_size side size second rect) rect inside both.2 in
    ((fewer.0, (fit.0, (both.0, framed.0))), (fewer.1, (fit.1, (both.1, framed.1))))

-- windows that share a rectangle which meets their needs have room
pub resized_room : (windows : Windows) (rect : Rect) → FirstPartsFit windows → NeedsMet windows rect → HasRoom (resized windows rect) rect
resized_room (Window number mode margins) rect p n = n
resized_room (Split side size first second) rect p n =
    let s = shared side size first second rect p n in
    let q = first_parts-split side size first second p in
    let new = first_size side size second rect in
    (resized_room first (first_part side new rect) q.0 s.0, resized_room second (second_part side new rect) q.1 s.1)

-- a window that a number finds has this number
pub found_number : (w : ℕ) (windows : List Placed) (window : Placed) → of_number w windows ≡ Some window → window.number ≡ w
found_number w windows window e = eqb-true window.number w (found-passes (λ (p : Placed). p.number == w) windows window e).0

-- the window with a number among two lists
pub of_number-append : (number : ℕ) (xs ys : List Placed) → of_number number (xs ++ ys) ≡ option_or (of_number number xs) (of_number number ys)
of_number-append number xs ys = find-append (λ (window : Placed). window.number == number) xs ys

pub second_found : (w : ℕ) (side : Side) (size : ℕ) (first second : Windows) (rect a b : Rect) → a ≡ first_part side size rect → b ≡ second_part side size rect → window_at w first a ≡ None → window_at w (Split side size first second) rect ≡ window_at w second b
second_found w side size first second rect a b p q e =
    of_number-append w (placed first (first_part side size rect)) (placed second (second_part side size rect))
    ∙ (ap (λ (o : Option Placed). option_or o (window_at w second (second_part side size rect))) (rw p at e)
    ∙ ap (λ (r : Rect). window_at w second r) (sym q))

pub first_found : (w : ℕ) (side : Side) (size : ℕ) (first second : Windows) (rect a : Rect) (found : Placed) → a ≡ first_part side size rect → window_at w first a ≡ Some found → window_at w (Split side size first second) rect ≡ Some found
first_found w side size first second rect a found p e =
    of_number-append w (placed first (first_part side size rect)) (placed second (second_part side size rect))
    ∙ ap (λ (o : Option Placed). option_or o (window_at w second (second_part side size rect))) (rw p at e)
