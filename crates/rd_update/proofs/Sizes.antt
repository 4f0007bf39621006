-- Pictures of a frame's size.
use Rattle.std.proofs.Common.{◌≡◌, ℕ, ◌<◌, ◌≤◌, Some, length, sym, ◌∙◌, subst, subst₂, arith}
use Rattle.rd_term.specs.Pictures.{IsOfSize, IsScreen, Picture, width_of}
use Rattle.rd_term.proofs.Shapes.{grid-width}
use Rattle.rd_update.specs.Plans.{HaveOneSize}

-- a picture that has a size has a row, so it is as wide as that
pub width-is : (width height : ℕ) (p : Picture) → IsOfSize width height p → width_of p.rows ≡ width
width-is width height p size =
    let some : 0 < length p.rows = let a = size.row in let b = size.rows in omega arith in
    grid-width width p.rows some size.each

-- a picture may be a screen where a screen may be of its size
pub is-screen : (width height : ℕ) (p : Picture) → width ≤ 400 → height ≤ 200 → IsOfSize width height p → IsScreen p
is-screen width height p narrow low size =
    let wide = width-is width height p size in
    record {
      size = subst₂ (λ (x : ℕ) (y : ℕ). IsOfSize x y p) (sym wide) (sym size.rows) size;
      wide = subst (λ (x : ℕ). x ≤ 400) (sym wide) narrow;
      tall = subst (λ (x : ℕ). x ≤ 200) (sym size.rows) low;
    }

-- two of one size, as a current screen and its target
pub one-size : (width height : ℕ) (screen target : Picture) → IsOfSize width height screen → IsOfSize width height target → HaveOneSize (Some screen) target
one-size width height screen target old new = (old.rows ∙ sym new.rows, width-is width height screen old ∙ sym (width-is width height target new))
