use Rattle.std.proofs.Common.{rules}
use Rattle.rd_stack.specs.Strings.{part_class, part_code}
use Rattle.rd_stack.proofs.row.order_of_parts.Goals as goal

pub order_of-requires-clause-class : goal.order_of-requires-clause-class
order_of-requires-clause-class c = (part_class, λ x y told. search rules)

pub order_of-requires-clause-code : goal.order_of-requires-clause-code
order_of-requires-clause-code c = (part_code, λ x y told. search rules)

pub returns-clause-turns : goal.returns-clause-turns
returns-clause-turns c = c.order_of.ensures.turns part_class part_code (λ x y told. search rules) (λ x y told. search rules)
