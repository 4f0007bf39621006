-- A start is a row.
use Rattle.std.proofs.Common.{◌≡◌, ℕ, ◌<◌, ltb, length, Option, None, Some, refl, arith}
use Rattle.std.proofs.lemmas.Bool.{and_parts, ltb-true}
use Rattle.std.specs.List.{find}
use Rattle.std.specs.Option.{unwrap_or}
use Rattle.rd_base.proofs.Choices.{either}
use Rattle.rd_base.proofs.Lists.{found-passes}
use Rattle.rd_matrix.proofs.Passing.{first-inside}
use Rattle.rd_matrix.specs.Blocks.{IsWithin}
use Rattle.rd_matrix.specs.Sources.{IsSource, SourceValues, rows_at}
use Rattle.rd_rows.specs.Shapes.{IsShape, ShapeValues}
use Rattle.rd_start.specs.Chosen.{begins_item, places_of}
use Rattle.rd_start.specs.Starts.{Places, around, centred, following, is_inside, scrolled, start_of, suits, wanted_above, wanted_below}
use Rattle.rd_start.specs.declared.wanted.Wanted.{Wanted}
use Rattle.rd_start.proofs.Blocks.{some-begins}

point-inside : (m : SourceValues) (shape : ShapeValues) (w : Wanted) → IsSource m → IsShape shape → IsWithin w.point m.blocks → (places_of m shape w).point < (places_of m shape w).count
point-inside m shape w source is within =
    first-inside (begins_item w.point) (rows_at m shape) (some-begins m shape w.point source is within)

following-inside : (w : Wanted) (at : Places) (o : Option ℕ) → find (suits w at) (around at.old w.conservatively) ≡ o → at.point < at.count → unwrap_or o (centred w at) < at.count
following-inside w at None e low = omega arith
following-inside w at (Some j) e low =
    let fits = (found-passes (suits w at) (around at.old w.conservatively) j e).0 in
    ltb-true j at.count (and_parts (ltb j at.count) (is_inside w.height (wanted_above w j) (wanted_below w at.count j) j at.point) fits).0

pub start-inside : (m : SourceValues) (shape : ShapeValues) (w : Wanted) → IsSource m → IsShape shape → IsWithin w.point m.blocks → start_of w (places_of m shape w) < length (rows_at m shape)
start-inside m shape w source is within =
    let at = places_of m shape w in
    let low : at.point < at.count = point-inside m shape w source is within in
    either (λ n. n < at.count) w.forced (scrolled w at) (following w at) (omega arith)
    (following-inside w at (find (suits w at) (around at.old w.conservatively)) refl low)
