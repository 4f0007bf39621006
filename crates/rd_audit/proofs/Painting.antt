-- The cells of a run, painted one after the other.
use Rattle.std.proofs.Common.{◌≡◌, ℕ, suc, ◌+◌, ◌-◌, ◌<◌, ◌≤◌, List, ◌++◌, Some, length, slice_get, take, drop, sym, ap, ◌∙◌, arith}
use Rattle.std.specs.Prelude.{slice_set}
use Rattle.std.proofs.lemmas.List.{drop-set-lt}
use Rattle.rd_base.proofs.Lists.{drop-at, written}
use Rattle.rd_base.specs.Faces.{Attributes}
use Rattle.rd_base.specs.declared.cell.Cell.{Cell}
use Rattle.rd_audit.specs.FaceRuns.{with_face, faced}

-- a walk over the columns of a run keeps what the whole is when it paints the next one
pub paint-on : (k end : ℕ) (face : Attributes) (cell : Cell) (cells next whole : List Cell) → k < end → end ≤ length cells → slice_get cells k ≡ Some cell → next ≡ slice_set cells k (with_face face cell)
    → take k cells ++ faced (end - k) face (drop k cells) ≡ whole
    → take (k + 1) next ++ faced (end - (k + 1)) face (drop (k + 1) next) ≡ whole
paint-on k end face cell cells next whole less within at set inv =
    let inside : k < length cells = omega (arith, less, within) in
    let left : suc (end - (k + 1)) ≡ end - k = omega (arith, less) in
    let n = end - (k + 1) in
    let x = with_face face cell in
    ap (λ l. take (k + 1) l ++ faced n face (drop (k + 1) l)) set
    ∙ ap (λ l. take (k + 1) (slice_set cells k x) ++ faced n face l) (drop-set-lt (k + 1) cells k x (omega arith))
    ∙ written cells k x _ whole inside
    (sym (ap (λ l. take k cells ++ faced (suc n) face l) (drop-at cells k cell at))
    ∙ ap (λ j. take k cells ++ faced j face (drop k cells)) left ∙ inv)
