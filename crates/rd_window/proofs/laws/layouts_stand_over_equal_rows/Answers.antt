use Rattle.rd_window.proofs.Standing.{stands-on}
use Rattle.rd_window.proofs.laws.layouts_stand_over_equal_rows.Goals as goal

pub returns : goal.returns
returns c = λ m n anchor l blocks each stands. stands-on m n anchor l blocks each stands
