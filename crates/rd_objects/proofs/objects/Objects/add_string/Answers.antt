use Rattle.std.proofs.Common.{arith, sym, ◌∙◌}
use Rattle.rd_objects.specs.contracts.objects.Objects.{the_view}
use Rattle.rd_objects.proofs.Soundness.{string_made, string_right, string_extends}
use Rattle.rd_objects.proofs.objects.Objects.add_string.Goals as goal

pub invariant_of-self-2 : goal.invariant_of-self-2
invariant_of-self-2 c =
    let made = sym (rw (c.len.ensures, c.len-2.ensures) at c.are_made.ensures) ∙ c.if-not-are_made.false in
    let inside = sym c.are_inside.ensures ∙ c.if-not-are_inside.false in
    rw (c.in_ok-push.ensures.ok, c.in_ok-text.ensures, c.as_slice.ensures)
    (string_right (the_view c.self.inside) c.args.text.now c.args.runs.now c.characters_have_codes.ensures
    (string_made (the_view c.self.inside) c.args.text.now c.args.runs.now made inside (omega (arith, c.if-text-gt-LONGEST.false)) (omega (arith, c.in_ok-number.ensures.number, c.in_ok-number.ensures.few))) c.self.invariant)

pub returns-clause-extends : goal.returns-clause-extends
returns-clause-extends c =
    rw (← c.self.view_is, c.in_ok-push.ensures.ok, c.in_ok-text.ensures, c.as_slice.ensures) (string_extends (the_view c.self.inside) c.args.text.now c.args.runs.now)
