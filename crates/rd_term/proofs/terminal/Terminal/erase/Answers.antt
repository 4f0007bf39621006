use Rattle.std.proofs.Common.{◌≡◌, ◌≤◌, ◌∙◌, [], length, arith, ap, subst}
use Rattle.std.proofs.lemmas.List.{get_or_default}
use Rattle.rd_term.specs.Pictures.{width_of}
use Rattle.rd_term.specs.Terminals.{IsWithin}
use Rattle.rd_term.proofs.Erasing.{length-erased}
use Rattle.rd_term.proofs.Shapes.{whole-set}
use Rattle.rd_term.proofs.terminal.Terminal.erase.Goals as goal

pub invariant_of-self-in-Some : goal.invariant_of-self-in-Some
invariant_of-self-in-Some c =
    let t = c.self.inside in
    let rows = t.rows.items in
    let cells = c.index_mut-cells.result.now in
    let h = c.self.invariant.0 in
    let place = subst (IsWithin rows) c.in-Some.is h.place in
    let same = c.index_mut-cells.ensures.value ∙ get_or_default rows c.in-Some.row cells [] place.0 in
    let total : length c.index_mut-cells.result.now ≡ width_of c.self.inside.rows.items = ap length same ∙ h.each c.in-Some.row [] place.0 in
    let within : c.in-Some.column ≤ length c.index_mut-cells.result.now = omega (arith, total, place.1) in
    let long = ap length c.erase_from.ensures ∙ length-erased c.in-Some.column cells within ∙ total in
    whole-set rows t.cursor t.cursor t.latest t.region c.in-Some.row c.erase_from.new.row c.self.invariant long h.place
