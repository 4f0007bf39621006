use Rattle.std.proofs.Common.{arith}
use Rattle.rd_objects.specs.contracts.objects.Objects.{the_view}
use Rattle.rd_objects.proofs.Soundness.{has_room, face_right, face_extends}
use Rattle.rd_objects.proofs.objects.Objects.add_face.Goals as goal

pub invariant_of-self-2 : goal.invariant_of-self-2
invariant_of-self-2 c =
    rw c.in_ok-push.ensures.ok
    (face_right (the_view c.self.inside) c.args.face c.faces_have_colours.ensures (has_room _ _ (omega (arith, c.in_ok-number.ensures.number, c.in_ok-number.ensures.few))) c.self.invariant)

pub returns-clause-extends : goal.returns-clause-extends
returns-clause-extends c = rw (← c.self.view_is, c.in_ok-push.ensures.ok) (face_extends (the_view c.self.inside) c.args.face)
