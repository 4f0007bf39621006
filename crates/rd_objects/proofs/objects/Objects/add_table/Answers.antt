use Rattle.std.proofs.Common.{arith}
use Rattle.rd_objects.specs.contracts.objects.Objects.{the_view}
use Rattle.rd_objects.proofs.Soundness.{has_room, table_right, table_extends}
use Rattle.rd_objects.proofs.objects.Objects.add_table.Goals as goal

pub invariant_of-self-2 : goal.invariant_of-self-2
invariant_of-self-2 c =
    rw c.in_ok-push.ensures.ok
    (table_right (the_view c.self.inside) c.args.table c.tables_are_valid.ensures (has_room _ _ (omega (arith, c.in_ok-number.ensures.number, c.in_ok-number.ensures.few))) c.self.invariant)

pub returns-clause-extends : goal.returns-clause-extends
returns-clause-extends c = rw (← c.self.view_is, c.in_ok-push.ensures.ok) (table_extends (the_view c.self.inside) c.args.table)
