-- The start and the point that are chosen for a window are positions of the blocks that it shows.
use Rattle.std.proofs.Common.{ℕ, ◌<◌, ◌≤◌, min, max, nat_lt, Bool, true, false, if◌then◌else◌, List, [], ◌∷◌, length, take, drop, arith, unwrap_or}
use Rattle.std.proofs.lemmas.List.Elements.{All-take, All-drop}
use Rattle.std.specs.List.{AllByRecursion, reduce}
use Rattle.rd_matrix.proofs.HeldLemmas.{among-within}
use Rattle.rd_matrix.specs.Blocks.{IsAmong, IsWithin}
use Rattle.rd_matrix.specs.Entries.{EntryMeaning}
use Rattle.rd_matrix.specs.Sources.{IsSource, SourceValues, rows_at}
use Rattle.rd_matrix.specs.declared.block.Block.{Block}
use Rattle.rd_reuse.proofs.Places.{within}
use Rattle.rd_rows.specs.Shapes.{IsShape, ShapeValues}
use Rattle.rd_start.proofs.Lists.{fold-keeps}
use Rattle.rd_start.proofs.Positions.{OfRow, positions-each, rows-cover}
use Rattle.rd_start.specs.Chosen.{chosen_of, first_positions, places_of}
use Rattle.rd_start.specs.Starts.{is_in_view, start_of}
use Rattle.rd_start.specs.declared.wanted.Wanted.{Wanted}
use Rattle.rd_window.proofs.Starting.{start-named}
use Rattle.rd_window.specs.Views.{start_row}

-- ---- the blocks of a source

module _ (m : SourceValues) (shape : ShapeValues) (source : IsSource m) (is : IsShape shape) where
  abbrev pub Inside : ℕ → Type 0
  Inside p = IsWithin p m.blocks

  block-inside : (b : Block) → IsAmong m.blocks b → (p : ℕ) → b.start ≤ p → p < b.end → Inside p
  block-inside b at p low high = among-within m.blocks b p source.blocks.stand at low high

  view-inside : (height start : ℕ) → AllByRecursion Inside (first_positions (take height (drop start (rows_at m shape))))
  view-inside height start =
      positions-each Inside (take height (drop start (rows_at m shape)))
      (All-take (OfRow Inside) height (drop start (rows_at m shape)) (All-drop (OfRow Inside) start (rows_at m shape)
      (rows-cover Inside (λ b. m.rows_of b shape) m.blocks (λ b among. source.rows b shape among is) block-inside)))

  -- ---- point

  reduced : (f : ℕ → ℕ → ℕ) → ((a b : ℕ) → Inside a → Inside b → Inside (f a b)) → (point : ℕ) (ps : List ℕ) → Inside point → AllByRecursion Inside ps → Inside (unwrap_or (reduce f ps) point)
  reduced f keep point [] at h = at
  reduced f keep point (p ∷ ps) at h = fold-keeps Inside f keep p ps h.0 h.1

  least-inside : (a b : ℕ) → Inside a → Inside b → Inside (min a b)
  least-inside a b x y = let p = x.0 in let q = x.1 in let r = y.0 in let s = y.1 in (omega arith, omega arith)

  most-inside : (a b : ℕ) → Inside a → Inside b → Inside (max a b)
  most-inside a b x y = let p = x.0 in let q = x.1 in let r = y.0 in let s = y.1 in (omega arith, omega arith)

  pub chosen-point : (w : Wanted) → Inside w.point → Inside (chosen_of m shape w).point
  chosen-point w at = by w.forced (is_in_view w.height start row) (nat_lt row start) where
    start : ℕ
    start = start_of w (places_of m shape w)

    row : ℕ
    row = (places_of m shape w).point

    view : List EntryMeaning
    view = take w.height (drop start (rows_at m shape))

    by : (forced shown above : Bool) → Inside
        (if forced
        then (if shown then w.point else if above then unwrap_or (reduce min (first_positions view)) w.point else unwrap_or (reduce max (first_positions view)) w.point)
        else w.point)
    by false shown above = at
    by true true above = at
    by true false true = reduced min least-inside w.point (first_positions view) at (view-inside w.height start)
    by true false false = reduced max most-inside w.point (first_positions view) at (view-inside w.height start)

  -- ---- the start

  pub chosen-anchor : (w : Wanted) → start_row m shape w < length (rows_at m shape) → Inside (chosen_of m shape w).anchor.pos
  chosen-anchor w low = within m shape (chosen_of m shape w).anchor (start_row m shape w) source (start-named m shape w low)
