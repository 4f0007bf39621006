use Rattle.std.proofs.Common.{rules}
use Rattle.rd_stack.specs.Lines.{item_class, item_code}
use Rattle.rd_stack.proofs.line.order_of_items.Goals as goal

pub order_of-requires-clause-class : goal.order_of-requires-clause-class
order_of-requires-clause-class c = (item_class, λ x y told. search rules)

pub order_of-requires-clause-code : goal.order_of-requires-clause-code
order_of-requires-clause-code c = (item_code, λ x y told. search rules)

pub returns-clause-turns : goal.returns-clause-turns
returns-clause-turns c = rw (← c.as_slice.ensures.items) (c.order_of.ensures.turns item_class item_code (λ x y told. search rules) (λ x y told. search rules))
