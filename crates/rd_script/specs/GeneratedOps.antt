-- The ops that the lines of a generated script say.
use Rattle.std.specs.Prelude.{ℕ, ◌+◌, ◌*◌, pos, List, [], ◌∷◌, ◌++◌, None, Some, codes, flat_map, replicate}
use Rattle.std.specs.List.{range_with_len}
use Rattle.rd_base.specs.declared.settings.Wrap.TheVariants as wraps
use Rattle.rd_generate.specs.Generated.{hundred}
use Rattle.rd_tree.specs.declared.side.Side.TheVariants as sides
use Rattle.rd_script.specs.declared.op.Op.{Op}
use Rattle.rd_script.specs.declared.op.Op.TheVariants as ops

-- an op and a redisplay
abbrev pub with_redisplay : Op → List Op
with_redisplay op = op ∷ ops.Redisplay None ∷ []

-- an op and a redisplay, so many times
abbrev pub shown_ops : ℕ → Op → List Op
shown_ops times op = flat_map with_redisplay (replicate times op)

-- the op that puts in the j-th hundred of lines
abbrev pub insertion_op : ℕ → List ℕ → Op
insertion_op j text = ops.Insert (codes "main") (2500 * j + 1) text

abbrev pub hundred_ops : ℕ → ℕ → List Op
hundred_ops seed n = flat_map (λ j. with_redisplay (insertion_op j (hundred seed j))) (range_with_len 0 n)

abbrev pub opening_ops : List Op
opening_ops = ops.Frame 80 24 ∷ ops.ModeLine 0 (Some (codes "%* %b %l %p")) ∷ ops.Wrap 0 wraps.Continue ∷ []

abbrev pub ending_ops : List Op
ending_ops = shown_ops 200 (ops.TypeText (codes "x"))
    ++ shown_ops 50 (ops.Scroll 0 (pos 22))
    ++ shown_ops 1 (ops.Split 0 sides.Below 11)
    ++ shown_ops 20 (ops.TypeText (codes "y"))

abbrev pub generated_ops : ℕ → List Op
generated_ops seed = opening_ops ++ hundred_ops seed 30 ++ ending_ops
