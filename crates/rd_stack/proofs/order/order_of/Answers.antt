use Rattle.std.proofs.Common.{◌∙◌, length, ap, arith}
use Rattle.std.proofs.lemmas.List.{length-map}
use Rattle.rd_stack.proofs.order.order_of.Goals as goal

pub new-requires : goal.new-requires
new-requires g c =
    let classes = ap length (c.as_slice.ensures ∙ c.in_ok-classes.ensures c.requires.class.0 c.requires.class.1) ∙ length-map c.args.items.now c.requires.class.0 in
    let codes = ap length (c.as_slice-2.ensures ∙ c.in_ok-codes.ensures c.requires.code.0 c.requires.code.1) ∙ length-map c.args.items.now c.requires.code.0 in
    record {
      short = omega (arith, classes, c.requires.few);
      codes = omega (arith, classes, codes);
      base = c.requires.base;
    }

pub returns-clause-places : goal.returns-clause-places
returns-clause-places g c =
    let classes = ap length (c.as_slice.ensures ∙ c.in_ok-classes.ensures c.requires.class.0 c.requires.class.1) ∙ length-map c.args.items.now c.requires.class.0 in
    rw (← classes) c.new.ensures.places
