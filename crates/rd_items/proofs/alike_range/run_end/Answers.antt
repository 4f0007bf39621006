use Rattle.std.proofs.Common.{sym, ◌∙◌, arith}
use Rattle.rd_props.specs.Buffers.{meaning}
use Rattle.rd_items.proofs.Runs.{open-end, run-begins, range-goes-on, range-stops}
use Rattle.rd_items.proofs.alike_range.run_end.Goals as goal

pub returns-then-is_open-clause-end : goal.returns-then-is_open-clause-end
returns-then-is_open-clause-end c = open-end (meaning c.args.view.now.state.now) c.args.view.now.objects.now c.args.pos c.args.showing.now (sym c.is_open.ensures ∙ c.if-is_open.true)

pub loop-to-init : goal.loop-to-init
loop-to-init c =
    let begins = run-begins (meaning c.args.view.now.state.now) c.args.view.now.objects.now c.args.pos c.args.showing.now c.requires.accessible.1 c.requires.showing (sym c.is_open.ensures ∙ c.if-is_open.false) in
    record { ordered = omega arith; within = omega arith; range = c.requires.range; length = begins.1 }

pub loop-to-preserved : goal.loop-to-preserved
loop-to-preserved c =
    let reach = c.in_ok-reach.ensures in
    let from = reach.from in
    let until = reach.until in
    let within = reach.range.within (omega arith) in
    record {
      ordered = omega arith;
      within = omega (arith, within);
      range = reach.range;
      length = range-goes-on (meaning c.args.view.now.state.now) c.args.view.now.objects.now c.args.showing.now c.reach.new.self c.loop-to.to _ reach.range from until within (sym c.goes_on.ensures ∙ c.if-not-goes_on.false) c.loop-to.invariant.length;
    }

pub returns-then-not-goes_on-clause-end : goal.returns-then-not-goes_on-clause-end
returns-then-not-goes_on-clause-end c =
    let reach = c.in_ok-reach.ensures in
    let ends = range-stops (meaning c.args.view.now.state.now) c.args.view.now.objects.now c.args.showing.now c.reach.new.self c.loop-to.to _ reach.range reach.from reach.until (omega arith) (sym c.goes_on.ensures ∙ c.if-not-goes_on.true) c.loop-to.invariant.length in
    omega arith
