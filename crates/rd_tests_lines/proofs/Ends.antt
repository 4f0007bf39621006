-- Where blocks begin and end.
use Rattle.std.proofs.Common.{◌≡◌, ℕ, List, [], ◌∷◌, ◌++◌, refl, arith}
use Rattle.rd_matrix.specs.Blocks.{end_from, first_start}
use Rattle.rd_matrix.specs.Held.{blocks_held}
use Rattle.rd_matrix.specs.declared.held.HeldBlock.{HeldBlock}

-- blocks end where the last of them does
pub end-more : (from : ℕ) (hs : List HeldBlock) (h : HeldBlock) → end_from from (blocks_held (hs ++ h ∷ [])) ≡ h.block.end
end-more from [] h = refl
end-more from (g ∷ hs) h = end-more g.block.end hs h

-- blocks that end somewhere whatever comes before them are some, so one more leaves the first
pub first-more : (hs : List HeldBlock) (h : HeldBlock) (end : ℕ) → ((from : ℕ) → end_from from (blocks_held hs) ≡ end)
    → first_start (blocks_held (hs ++ h ∷ [])) ≡ first_start (blocks_held hs)
first-more [] h end ends = let a = ends 0 in let b = ends 1 in absurd (omega (arith, a, b))
first-more (g ∷ hs) h end ends = refl
