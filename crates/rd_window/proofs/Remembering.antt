-- Rows that are remembered stay those of the source.
use Rattle.std.proofs.Common.{◌≡◌, List, All, sym, subst}
use Rattle.rd_matrix.specs.Sources.{SourceValues}
use Rattle.rd_window.specs.Remembering.{IsLaid}
use Rattle.rd_window.specs.declared.remembered.LaidBlock.{LaidBlock}

-- the rows of a source that means the same
pub still-laid : (m n : SourceValues) (xs : List LaidBlock) → n ≡ m → All (IsLaid m) xs → All (IsLaid n) xs
still-laid m n xs same all = subst (λ (s : SourceValues). All (IsLaid s) xs) (sym same) all
