-- The rows in view from a new start are near the window.
use Rattle.std.proofs.Common.{◌≡◌, ℕ, ◌+◌, ◌<◌, ◌≤◌, ◌⊎◌, inl, inr, Bool, true, leb, ltb, List, [], ◌∷◌, length, Option, None, Some, IfSome, if◌then◌else◌, refl, sym, ap, subst, arith}
use Rattle.std.specs.List.{find, list_any, range_with_len}
use Rattle.std.specs.Option.{unwrap_or}
use Rattle.std.proofs.lemmas.Bool.{and_parts, cases_Bool, leb-true, ltb-true}
use Rattle.std.proofs.lemmas.List.Folds.{Any-from_list_any, list_any-from_Any}
use Rattle.rd_base.proofs.Lists.{found-each}
use Rattle.rd_base.specs.Lists.{is_between}
use Rattle.rd_matrix.proofs.Counting.{costs-if}
use Rattle.rd_matrix.specs.Rows.{blocks_with}
use Rattle.rd_matrix.specs.Sources.{SourceValues, costs_of}
use Rattle.rd_matrix.specs.declared.block.Block.{Block}
use Rattle.rd_matrix.specs.declared.matrix.Entry.{Entry}
use Rattle.rd_reuse.specs.Keeping.{fresh_cost, kept_source}
use Rattle.rd_reuse.specs.Views.{fresh_costs}
use Rattle.rd_reuse.specs.declared.change.Change.{Change}
use Rattle.rd_rows.specs.Rows.{RowMeaning}
use Rattle.rd_rows.specs.Shapes.{ShapeValues, is_same_shape}
use Rattle.rd_rows.proofs.SameShapes.{shape-itself}
use Rattle.rd_start.specs.Chosen.{places_of}
use Rattle.rd_start.specs.Near.{is_near, near_costs}
use Rattle.rd_start.specs.Starts.{Places, around, centred, following, scrolled, start_of, suits}
use Rattle.rd_start.specs.declared.wanted.Wanted.{Wanted}
use Rattle.rd_start.proofs.Lists.{IsAround, around-each, find-first}
use Rattle.rd_start.proofs.NearRows.{forced-near, moving-near, point-near, view-near}
use Rattle.rd_window.specs.Views.{start_row}

-- what holds of what is found holds of the value that is taken, unless nothing is found
found-or : (P : ℕ → Type 0) (o : Option ℕ) (x : ℕ) → IfSome o P → P (unwrap_or o x) ⊎ (unwrap_or o x ≡ x)
found-or P None x holds = inr refl
found-or P (Some y) x holds = inl holds

-- the start of a window that follows point is at most as many rows away from the old one as it may be moved, or brings point to the middle
follows : (w : Wanted) (at : Places) → IsAround at.old w.conservatively (following w at) ⊎ (following w at ≡ centred w at)
follows w at =
    let near = found-each (IsAround at.old w.conservatively) (suits w at) (around at.old w.conservatively) (around-each at.old w.conservatively) in
    found-or (IsAround at.old w.conservatively) (find (suits w at) (around at.old w.conservatively)) (centred w at) near

-- each row in view from the new start is near
pub start-near : (w : Wanted) (at : Places) (k : ℕ) → start_of w at ≤ k → k < start_of w at + w.height → is_near w at k ≡ true
start-near w at k low high =
    elim (cases_Bool w.forced) [
      | inl forced ↦
          let start : start_of w at ≡ scrolled w at = rw forced refl in
          forced-near w at k forced (omega (arith, start, low)) (omega (arith, start, high))
      | inr free ↦
          let start : start_of w at ≡ following w at = rw free refl in
          elim (cases_Bool (suits w at at.old)) [
            | inl stays ↦
                let same : following w at ≡ at.old = ap (λ o. unwrap_or o (centred w at)) (find-first (suits w at) at.old w.conservatively stays) in
                view-near w at k free (omega (arith, start, same, low)) (omega (arith, start, same, high))
            | inr moves ↦
                elim (follows w at) [
                  | inl around ↦
                      let above = around.0 in
                      let below = around.1 in
                      moving-near w at k free moves (omega (arith, start, above, low)) (omega (arith, start, below, high))
                  | inr centre ↦ point-near w at k free moves (omega (arith, start, centre, low, high)) (omega (arith, start, centre, low, high))
                ]
          ]
    ]

-- ---- what the rows in view cost

any-other : (p q : ℕ → Bool) (ks : List ℕ) → ((k : ℕ) → p k ≡ true → q k ≡ true) → list_any p ks ≡ true → list_any q ks ≡ true
any-other p q ks each e = let found = Any-from_list_any p ks e in list_any-from_Any q ks (found.0, found.1, found.2, found.3, each found.1 found.4)

-- blocks that have rows of a kind cost no more than those that have rows of a wider one, where each costs no more
pub costs-wider : (p q : ℕ → Bool) (rows : Block → List RowMeaning) (cost more : Block → ℕ) (first : ℕ) (bs : List Block) → ((b : Block) → cost b ≤ more b) → ((k : ℕ) → p k ≡ true → q k ≡ true)
    → costs_of cost (blocks_with p rows first bs) ≤ costs_of more (blocks_with q rows first bs)
costs-wider p q rows cost more first [] less each = omega arith
costs-wider p q rows cost more first (b ∷ bs) less each =
    let rest = costs-wider p q rows cost more (first + length (rows b)) bs less each in
    let here = less b in
    let numbers = range_with_len first (length (rows b)) in
    elim (cases_Bool (list_any p numbers)) [
      | inl has ↦
          let other = any-other p q numbers each has in
          let left : costs_of cost (blocks_with p rows first (b ∷ bs)) ≡ cost b + costs_of cost (blocks_with p rows (first + length (rows b)) bs) = rw has refl in
          let right : costs_of more (blocks_with q rows first (b ∷ bs)) ≡ more b + costs_of more (blocks_with q rows (first + length (rows b)) bs) = rw other refl in
          omega (arith, left, right, rest, here)
      | inr none ↦
          let left : costs_of cost (blocks_with p rows first (b ∷ bs)) ≡ costs_of cost (blocks_with p rows (first + length (rows b)) bs) = rw none refl in
          let right = costs-if more b (blocks_with q rows (first + length (rows b)) bs) (list_any q numbers) in
          omega (arith, left, right, rest)
    ]

-- the rows in view from a new start cost no more than the rows near the window, where blocks keep their older rows
pub view-costs : (m : SourceValues) (old : List Entry) (c : Change) (shape : ShapeValues) (w : Wanted)
    → fresh_costs m old c shape (start_row m shape w) (start_row m shape w + w.height) ≤ near_costs (kept_source m old c shape) shape w
view-costs m old c shape w =
    let at = places_of m shape w in
    let cost = fresh_cost m old c shape in
    costs-wider (is_between (start_row m shape w) (start_row m shape w + w.height)) (is_near w at) (λ b. m.rows_of b shape) cost (λ b. if is_same_shape shape shape then cost b else m.cost_of b shape) 0 m.blocks
    (λ b. subst (λ (t : Bool). cost b ≤ (if t then cost b else m.cost_of b shape)) (sym (shape-itself shape)) (omega arith))
    (λ k inside.
    let parts = and_parts (leb (start_row m shape w) k) (ltb k (start_row m shape w + w.height)) inside in
    start-near w at k (leb-true (start_row m shape w) k parts.0) (ltb-true k (start_row m shape w + w.height) parts.1))
