use Rattle.std.proofs.Common.{arith, None, sym}
use Rattle.rd_spans.specs.declared.run.ValueRun.{ValueRun}
use Rattle.rd_spans.proofs.Sides.{found-within, reach-before, end-at, run-value}
use Rattle.rd_spans.proofs.side.run_at.Goals as goal

pub bounds-runs-i : goal.bounds-runs-i
bounds-runs-i c = found-within c.args.runs.now c.first_reaching-i.result c.args.place c.first_reaching-i.ensures.before c.requires.within

pub returns : goal.returns
returns c =
    let runs = c.args.runs.now in
    let i = c.first_reaching-i.result in
    let d : ValueRun = record { end = 0; value = None } in
    let before = c.first_reaching-i.ensures.before in
    let within = found-within runs i c.args.place before c.requires.within in
    let reaches = c.first_reaching-i.ensures.behind i d (omega arith) within in
    let first = reach-before 0 runs i c.args.place (omega arith) (λ j x l. omega (arith, before j x l)) in
    record {
      first = omega (arith, c.end_before.ensures, first);
      last = (omega arith, end-at 0 runs i d c.requires.order within);
      value = sym (run-value runs i c.args.place d c.requires.order within first (omega arith));
      same = λ p low high. run-value runs i p d c.requires.order within (omega (arith, c.end_before.ensures, low)) high;
    }
