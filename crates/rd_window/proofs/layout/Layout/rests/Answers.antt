use Rattle.std.proofs.Common.{◌&&◌, ◌∙◌, Bool, sym, ap, subst, arith}
use Rattle.rd_rows.specs.Shapes.{IsShape, ShapeValues}
use Rattle.rd_rows.proofs.SameShapes.{same-shape}
use Rattle.rd_start.specs.Chosen.{places_of}
use Rattle.rd_start.specs.Starts.{suits}
use Rattle.rd_window.proofs.Standing.{current}
use Rattle.rd_window.proofs.layout.Layout.rests.Goals as goal

pub returns : goal.returns
returns c = λ m of within stands.
    let l = c.args.self.now in
    let w = c.args.wanted in
    let yes = sym c.is_current.ensures ∙ c.if-not-is_current.false in
    let now = current l c.args.shape w yes in
    let same = same-shape l.shape c.args.shape now.shapes in
    let given : IsShape c.args.shape = record { least = omega arith; most = omega arith } in
    let shaped : IsShape l.shape = subst IsShape (sym same) given in
    c.suits.ensures m of shaped within now.height (stands now.unchanged now.free)
    ∙ (ap (λ (s : ShapeValues). suits w (places_of m s w) (places_of m s w).old) same
    ∙ sym (ap (λ (b : Bool). b && suits w (places_of m c.args.shape w) (places_of m c.args.shape w).old) yes))
