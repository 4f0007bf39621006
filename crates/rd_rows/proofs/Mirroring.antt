-- The mirror image of a row, from its last cell to its first.
use Rattle.std.proofs.Common.{◌≡◌, ℕ, ◌+◌, ◌-◌, ◌<◌, ◌≤◌, ◌&&◌, max, nat_lt, Bool, true, false, if◌then◌else◌, List, [], ◌∷◌, ◌++◌, length, flat_map, refl, ap, ◌∙◌, arith, length-append}
use Rattle.std.specs.Prelude.{replicate}
use Rattle.std.proofs.lemmas.List.{length-replicate}
use Rattle.rd_base.specs.Faces.{plain}
use Rattle.rd_base.specs.Glyphs.{blanks}
use Rattle.rd_base.specs.declared.cell.Cell.{Cell}
use Rattle.rd_base.specs.declared.cell.Cell.TheVariants.{Blank, First, Rest}
use Rattle.std.proofs.lemmas.Bool.Decides.{nat_tests}
use Rattle.rd_rows.specs.declared.cutting.Cutting.{Cutting}
use Rattle.rd_rows.specs.declared.spot.Placed.{Placed}
use Rattle.rd_rows.specs.Mirrors.{mirror_image, leading_rests}
use Rattle.rd_rows.specs.Rows.{filled, front_mark, first_seen, from_edge, last_cell, mark, row_of, seen_in}
use Rattle.rd_rows.specs.Shapes.{room}

-- what holds of no cells, and goes on past a later column and past each other cell, by its mirror image, holds of all cells
pub by-mirror : (P : List Cell → Type 0) → P [] → ((cells : List Cell) → P cells → P (Rest ∷ cells))
    → ((x : Cell) (cells : List Cell) → mirror_image (x ∷ cells) ≡ mirror_image cells ++ x ∷ replicate (leading_rests cells) Rest
    → leading_rests (x ∷ cells) ≡ 0 → P cells → P (x ∷ cells))
    → (cells : List Cell) → P cells
by-mirror P none rest other [] = none
by-mirror P none rest other (Rest ∷ cells) = rest cells (by-mirror P none rest other cells)
by-mirror P none rest other (Blank f ∷ cells) = other (Blank f) cells refl refl (by-mirror P none rest other cells)
by-mirror P none rest other (First g f ∷ cells) = other (First g f) cells refl refl (by-mirror P none rest other cells)

-- no cell is lost but later columns at the beginning, whose glyph is not there
mirror-length : (cells : List Cell) → length (mirror_image cells) + leading_rests cells ≡ length cells
mirror-length = by-mirror (λ cells. length (mirror_image cells) + leading_rests cells ≡ length cells) refl
    (λ cells e. omega (arith, e)) (λ x cells image none e.
    let a = length-append (mirror_image cells) (x ∷ replicate (leading_rests cells) Rest) in
    omega (arith, e, none, ap length image, a, length-replicate (leading_rests cells) Rest))

edge-length : (b : Bool) (cells : List Cell) → length (from_edge b cells) ≤ length cells
edge-length true cells = let e = mirror-length cells in omega (arith, e)
edge-length false cells = omega arith

edge-size : (b : Bool) (cells : List Cell) → leading_rests cells ≡ 0 → length (from_edge b cells) ≡ length cells
edge-size true cells none = let e = mirror-length cells in omega (arith, e, none)
edge-size false cells none = refl

-- a row of cells that begin with no later column has those of its mark and elements, at least as many as there is room for, and one more
pub row-length : (c : Cutting) (used : ℕ) (continued : Bool) (ps : List Placed)
    → leading_rests (filled (room c.shape) (front_mark c used ++ flat_map (seen_in c.shape) ps) ++ last_cell c used continued ∷ []) ≡ 0
    → length (row_of c used continued ps).cells ≡ max (room c.shape) (length (front_mark c used ++ flat_map (seen_in c.shape) ps)) + 1
row-length c used continued ps none =
    let r = room c.shape in
    let body = front_mark c used ++ flat_map (seen_in c.shape) ps in
    let last = last_cell c used continued ∷ [] in
    let edge = edge-size c.reversed (filled r body ++ last) none in
    let more = length-append (filled r body) last in
    let fill = length-append body (blanks (r - length body) plain) in
    let blank = length-replicate (r - length body) (Blank plain) in
    omega (arith, edge, more, fill, blank)

front-by : (b d : Bool) (x : Cell) (h r n : ℕ) → nat_lt 0 h ≡ b → 1 ≤ r → n ≤ h + r - (if b then h + 1 else 0) → length (if b && d then x ∷ [] else []) + n ≤ r
front-by true true x h r n i some few = omega arith
front-by true false x h r n i some few = omega arith
front-by false d x h r n i some few = let none : h ≡ 0 = grind (arith, nat_tests) in omega (arith, none)

-- the mark of a scrolled row and the cells that are seen have room before the last column
pub front-length : (c : Cutting) (used : ℕ) (cells : List Cell) → 1 ≤ room c.shape → length cells ≤ c.shape.hscroll + room c.shape - first_seen c.shape
    → length (front_mark c used ++ cells) ≤ room c.shape
front-length c used cells some few =
    let front = front-by (nat_lt 0 c.shape.hscroll) (nat_lt 0 used) (mark c.truncation) c.shape.hscroll (room c.shape) (length cells) refl some few in
    let size = length-append (front_mark c used) cells in
    omega (arith, front, size)

-- a row has at most the window's columns
pub made-length : (c : Cutting) (used missing : ℕ) (cells marked whole pushed shown : List Cell) (x y : Cell) → 9 ≤ room c.shape → room c.shape < 400
    → length cells ≤ c.shape.hscroll + room c.shape - first_seen c.shape → marked ≡ front_mark c used ++ cells → missing ≡ room c.shape - length marked → whole ≡ marked ++ replicate missing x
    → pushed ≡ whole ++ y ∷ [] → shown ≡ from_edge c.reversed pushed → length shown ≤ 400
made-length c used missing cells marked whole pushed shown x y some few within h i j k l =
    let front : length marked ≤ room c.shape = rw h (front-length c used cells (omega arith) within) in
    let all : length whole ≡ length marked + missing = ap length j ∙ (length-append marked (replicate missing x) ∙ ap (λ n. length marked + n) (length-replicate missing x)) in
    let more : length pushed ≡ length whole + 1 = ap length k ∙ length-append whole (y ∷ []) in
    let edge = edge-length c.reversed pushed in
    let last : length shown ≡ length (from_edge c.reversed pushed) = ap length l in
    omega (arith, front, all, more, edge, last)
