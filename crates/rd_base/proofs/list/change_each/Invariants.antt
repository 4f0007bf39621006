use Rattle.std.proofs.Common.{◌≡◌, ◌++◌, length, map, take, drop}
use Rattle.std.specs.Borrow.{MutBor}
use Rattle.rd_base.proofs.list.change_each.Given as goal

-- the elements of a list before a place are what calls made of them, and those from it on stand as they stood
abbrev pub invariant-loop-i : goal.invariant-loop-i
invariant-loop-i g l = record {
  size : length l.list ≡ length l.initial.list;
  back : drop l.i l.list ≡ drop l.i l.initial.list;
  whole : (f : g.row.T.Denot → g.row.T.Denot) → ((x y : MutBor g.row.T.Denot) → goal.F-post g l.change x tt y → y.now ≡ f x.now)
      → l.list ≡ map f (take l.i l.initial.list) ++ drop l.i l.initial.list;
}
