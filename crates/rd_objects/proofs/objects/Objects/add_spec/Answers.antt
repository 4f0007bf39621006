use Rattle.std.proofs.Common.{arith, sym, ◌∙◌}
use Rattle.rd_objects.specs.contracts.objects.Objects.{the_view}
use Rattle.rd_objects.proofs.Soundness.{spec_made, spec_right, spec_extends}
use Rattle.rd_objects.proofs.objects.Objects.add_spec.Goals as goal

pub invariant_of-self-2 : goal.invariant_of-self-2
invariant_of-self-2 c =
    let made = sym (rw (← c.self.view_is) at c.names_made.ensures) ∙ c.if-not-names_made.false in
    rw c.in_ok-push.ensures.ok
    (spec_right (the_view c.self.inside) c.args.spec c.requires (spec_made (the_view c.self.inside) c.args.spec made (omega (arith, c.in_ok-number.ensures.number, c.in_ok-number.ensures.few))) c.self.invariant)

pub returns-clause-extends : goal.returns-clause-extends
returns-clause-extends c = rw (← c.self.view_is, c.in_ok-push.ensures.ok) (spec_extends (the_view c.self.inside) c.args.spec)
