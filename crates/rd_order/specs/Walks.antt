-- A walk through a line in the visual order of L2.
use Rattle.std.specs.Prelude.{◌≡◌, ℕ, ◌≤◌, List, length, drop, slice_get}
use Rattle.rd_order.specs.Order.{l2_visual_order}
use Rattle.rd_order.specs.declared.visual.Visual.{Visual}

-- for L2, what a walk has still to give
abbrev pub left : Visual → List ℕ → List ℕ
left walk levels = drop walk.given (l2_visual_order walk.base levels)

-- for L2, a walk over these levels: it stands at the index that it gives next
pub record IsWalkOf (walk : Visual) (levels : List ℕ) : Type 0 where
  pub place : walk.place ≡ slice_get (l2_visual_order walk.base levels) walk.given
  pub given : walk.given ≤ length levels
  pub base : walk.base ≤ 1
