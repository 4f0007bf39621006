use Rattle.std.proofs.Common.{◌≡◌, ◌+◌, ◌<◌, ◌^◌, min, length, None, Some, sym, ◌∙◌, arith}
use Rattle.rd_matrix.specs.Sources.{SourceValues}
use Rattle.rd_start.specs.Chosen.{forced_point}
use Rattle.rd_start.specs.Strips.{IsStrip, Reaches, first_row, point_row}
use Rattle.rd_start.specs.declared.strip.PointSide.{PointSide}
use Rattle.rd_start.specs.declared.strip.PointSide.TheVariants.{Above, Below, Within}
use Rattle.rd_start.proofs.Choosing.{point-kept, point-spanned, point_by}
use Rattle.rd_start.proofs.Places.{view_of, view-spans}
use Rattle.rd_start.proofs.Sides.{seen}
use Rattle.rd_start.proofs.Small.{view-small}
use Rattle.rd_start.proofs.choice.forced_point.Goals as goal
use Rattle.rd_start.proofs.choice.forced_point.Goals.{In-Some}

-- what the view spans is small
small : (c : goal.In-Some) → (c.in-Some.span.first < 2 ^ 32) × (c.in-Some.span.last < 2 ^ 32)
small c =
    let win = c.args.window.now in
    let height = win.wanted.height in
    let back : c.min-end.result ≡ min (c.args.start + height) (length win.strip.strip_rows.items) = omega (arith, c.min-end.ensures, c.count.ensures.value) in
    view-small c.requires.strip.0 win.strip c.args.start height c.min-end.result c.in-Some.span c.requires.strip.1 c.requires.start back c.in-Some.ensures

-- point where it is to stand, by the side on which its row is
chosen : (c : goal.In-Some) (there : PointSide) → c.side_of_point-side.result ≡ there → (m : SourceValues) → IsStrip m c.args.window.now.strip
    → Reaches m c.args.window.now.strip (c.args.start + c.args.window.now.wanted.height)
    → point_by there c.args.window.now.wanted c.in-Some.span ≡ forced_point c.args.window.now.wanted (first_row m c.args.window.now.strip + c.args.start)
    (point_row m c.args.window.now.strip.sweep) (view_of m c.args.window.now.strip c.args.start c.args.window.now.wanted.height)
chosen c there is m h reached =
    let win = c.args.window.now in
    let height = win.wanted.height in
    let back : c.min-end.result ≡ min (c.args.start + height) (length win.strip.strip_rows.items) = omega (arith, c.min-end.ensures, c.count.ensures.value) in
    point-spanned there win.wanted (first_row m win.strip + c.args.start) (point_row m win.strip.sweep) (view_of m win.strip c.args.start height) c.in-Some.span
    (view-spans m win.strip c.args.start height c.min-end.result (Some c.in-Some.span) h reached c.requires.start back c.in-Some.ensures)
    (seen m win.strip c.args.start c.min-end.result height there h reached c.requires.start back (sym c.side_of_point-side.ensures ∙ is))

pub overflow_cast-result : goal.overflow_cast-result
overflow_cast-result c = let here = small (goal.at.overflow_cast-result c).In-Some in omega (arith, here.0)

pub overflow_cast-result-in-Below : goal.overflow_cast-result-in-Below
overflow_cast-result-in-Below c = let here = small (goal.at.overflow_cast-result-in-Below c).In-Some in omega (arith, here.1)

pub returns-in-None : goal.returns-in-None
returns-in-None c = λ m h reached.
    let win = c.args.window.now in
    let height = win.wanted.height in
    let back : c.min-end.result ≡ min (c.args.start + height) (length win.strip.strip_rows.items) = omega (arith, c.min-end.ensures, c.count.ensures.value) in
    point-kept win.wanted (first_row m win.strip + c.args.start) (point_row m win.strip.sweep) (view_of m win.strip c.args.start height)
    (view-spans m win.strip c.args.start height c.min-end.result None h reached c.requires.start back c.in-None.ensures)

pub returns-in-Above : goal.returns-in-Above
returns-in-Above c = chosen (goal.at.returns-in-Above c).In-Some Above c.in-Above.is

pub returns-in-Within : goal.returns-in-Within
returns-in-Within c = chosen (goal.at.returns-in-Within c).In-Some Within c.in-Within.is

pub returns-in-Below : goal.returns-in-Below
returns-in-Below c = chosen (goal.at.returns-in-Below c).In-Some Below c.in-Below.is
