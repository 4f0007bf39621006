-- What `==` says of cells, and of places where items begin.
use Rattle.std.proofs.Common.{◌≡◌, true, sym, ◌∙◌, subst, rules}
use Rattle.std.specs.Bool.{Decides}
use Rattle.rd_base.proofs.Equals.{cell-itself, cell-told}
use Rattle.rd_base.specs.Equals.{same_cell}
use Rattle.rd_base.specs.contracts.cell.CellPartialEq.TheImpl as cells
use Rattle.rd_base.specs.declared.cell.Cell.{Cell}
use Rattle.rd_base.specs.declared.cell.Cell.TheVariants.{Blank, First, Rest}
use Rattle.rd_rows.specs.contracts.begin.BeginPartialEq.TheImpl as begins
use Rattle.rd_rows.specs.declared.begin.Begin.{Begin}

-- `==` of two cells is their test, which decides whether they are the same
cell-is : (x y : Cell) → cells.eq-value.it x y ≡ same_cell x y
cell-is (Blank f) (Blank g) = search rules
cell-is (First g f) (First h e) = search rules
cell-is Rest Rest = search rules
cell-is x y = search rules

pub cell-decides : (x y : Cell) → Decides (cells.eq-value.it x y) (x ≡ y)
cell-decides x y = (λ e. cell-told x y (sym (cell-is x y) ∙ e), λ e. cell-is x y ∙ subst (λ z. same_cell x z ≡ true) e (cell-itself x))

-- `==` decides whether two places where items begin are the same
pub begin-decides : (x y : Begin) → Decides (begins.eq-value.it x y) (x ≡ y)
begin-decides x y = (λ e. search rules, λ e. search rules)
