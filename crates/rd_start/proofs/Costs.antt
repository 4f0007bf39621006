-- What the blocks of a strip cost.
use Rattle.std.proofs.Common.{◌≡◌, ℕ, ◌+◌, ◌≤◌, Bool, true, List, [], ◌∷◌, ◌++◌, length, ap, subst, arith}
use Rattle.std.proofs.Math.Nat.{add-zero}
use Rattle.std.specs.List.{list_any, range_with_len}
use Rattle.rd_matrix.proofs.Counting.{costs-behind, costs-here, count-cons}
use Rattle.rd_matrix.specs.Entries.{all_rows}
use Rattle.rd_matrix.specs.Rows.{blocks_with}
use Rattle.rd_matrix.specs.Sources.{costs_of}
use Rattle.rd_matrix.specs.declared.block.Block.{Block}
use Rattle.rd_rows.specs.Rows.{RowMeaning}
use Rattle.rd_start.specs.Strips.{HaveRows}

costs-front : (kind : ℕ → Bool) (rows : Block → List RowMeaning) (cost : Block → ℕ) (first : ℕ) (bs after : List Block) → HaveRows kind rows first bs
    → costs_of cost bs ≤ costs_of cost (blocks_with kind rows first (bs ++ after))
costs-front kind rows cost first [] after h = omega arith
costs-front kind rows cost first (b ∷ bs) after h =
    let here = costs-here kind rows cost first b (bs ++ after) h.0 in
    let rest = costs-front kind rows cost (first + length (rows b)) bs after h.1 in
    omega (arith, rest, here)

-- blocks that have a row of a kind cost no more than all such blocks
pub costs-piece : (kind : ℕ → Bool) (rows : Block → List RowMeaning) (cost : Block → ℕ) (all before bs after : List Block) (first : ℕ) → all ≡ before ++ (bs ++ after)
    → length (all_rows rows before) ≡ first → HaveRows kind rows first bs → costs_of cost bs ≤ costs_of cost (blocks_with kind rows 0 all)
costs-piece kind rows cost all before bs after first pieces count h =
    let behind = costs-behind kind rows cost 0 before (bs ++ after) in
    let place : 0 + length (all_rows rows before) ≡ first = omega (arith, count) in
    let same = ap (λ n. costs_of cost (blocks_with kind rows n (bs ++ after))) place in
    let front = costs-front kind rows cost first bs after h in
    let whole = ap (λ xs. costs_of cost (blocks_with kind rows 0 xs)) pieces in
    omega (arith, behind, same, front, whole)

pub have-more : (kind : ℕ → Bool) (rows : Block → List RowMeaning) (first : ℕ) (bs : List Block) (b : Block) → HaveRows kind rows first bs
    → list_any kind (range_with_len (first + length (all_rows rows bs)) (length (rows b))) ≡ true → HaveRows kind rows first (bs ++ (b ∷ []))
have-more kind rows first [] b h here =
    (subst (λ n. list_any kind (range_with_len n (length (rows b))) ≡ true) (add-zero first) here, tt)
have-more kind rows first (x ∷ bs) b h here =
    let place : first + length (all_rows rows (x ∷ bs)) ≡ (first + length (rows x)) + length (all_rows rows bs) = omega (arith, count-cons rows x bs) in
    (h.0, have-more kind rows (first + length (rows x)) bs b h.1 (subst (λ n. list_any kind (range_with_len n (length (rows b))) ≡ true) place here))
