use Rattle.std.proofs.Common.{◌+◌, ◌-◌, ◌<◌, inl, inr, length, slice_index, sym, arith}
use Rattle.rd_order.specs.Places.{BeginsLow}
use Rattle.rd_order.proofs.Steps.{IsReversedBy, beside, between, known, last, reversed_by}
use Rattle.rd_order.proofs.visual.l2_following.Goals as goal

pub loop-beside-init : goal.loop-beside-init
loop-beside-init c =
    let level = c.max-level.ensures in
    record {
      base = omega arith;
      place = omega arith;
      high = λ more. omega arith;
      comes = λ p at. known c.args.base p c.args.index c.args.levels.now (c.max-level.result - c.args.base) (omega arith) (λ more. omega arith) at;
    }

pub returns-in-Some : goal.returns-in-Some
returns-in-Some c = λ p at.
    let inv = c.loop-beside.invariant in
    let base = inv.base in
    let high = inv.high in
    let found = c.in-Some.ensures in
    c.l2_settled.ensures (p + 1) (beside (slice_index c.args.levels.now) (length c.args.levels.now) c.args.base (c.loop-beside.level - c.args.base) p c.loop-beside.place
    c.in-Some.beside found.0 inv.place found.1 (λ more. omega arith) found.2 (inv.comes p at))

pub returns-then-level-base : goal.returns-then-level-base
returns-then-level-base c = λ p at.
    last c.args.base (c.loop-beside.level - c.args.base) p c.loop-beside.place c.args.levels.now (omega arith) (c.loop-beside.invariant.comes p at) c.in_default.ensures

pub loop-beside-preserved : goal.loop-beside-preserved
loop-beside-preserved c =
    let inv = c.loop-beside.invariant in
    let run = c.l2_run_around-run.result in
    let facts = c.l2_run_around-run.ensures in
    let beside_run = c.highest_beside-beside_run.result in
    let beside_it = c.highest_beside-beside_run.ensures in
    let (turn, from, to) = reversed_by (c.loop-beside.level - beside_run) run.start run.end c.loop-beside.place c.reversed_place-place.result facts.from facts.to c.reversed_place-place.ensures in
    let fall : beside_run < c.loop-beside.level = elim beside_it.known [
      | inl same ↦ omega arith
      | inr rest ↦ elim rest [
        | inl before ↦ let low = facts.run.before before.0 before.1 in let e = before.2 in omega arith
        | inr after ↦ let low = facts.run.after after.0 in let e = after.1 in omega arith
      ]
    ] in
    let before : BeginsLow (slice_index c.args.levels.now) (beside_run + 1) run.start = λ q e. let h = beside_it.before q e in omega arith in
    let back : IsReversedBy (c.loop-beside.level - beside_run) run.start run.end c.reversed_place-place.result c.loop-beside.place = record { even = λ e. sym (turn.even e); odd = λ e. let h = turn.odd e in omega (arith, h) } in
    record {
      base = beside_it.base;
      place = omega (arith, facts.run.within);
      high = λ _. let h = facts.run.high c.reversed_place-place.result from to in omega arith;
      comes = λ p at. (between (slice_index c.args.levels.now) (length c.args.levels.now) c.args.base beside_run c.loop-beside.level run.start run.end p
          c.reversed_place-place.result c.loop-beside.place beside_it.base fall facts.run.order facts.run.within facts.run.high before (λ less. let h = beside_it.after less in omega arith) from to back).1 (inv.comes p at);
    }
