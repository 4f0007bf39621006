use Rattle.std.proofs.Common.{ℕ, ◌+◌, ◌-◌, ◌≤◌, Bool, ◌==◌, Result, min, cond, refl, sym, ap, ◌∙◌, arith}
use Rattle.std.proofs.lemmas.Result.{MatchResult-from_err}
use Rattle.std.specs.Prelude.{IsErr, MatchResult}
use Rattle.rd_base.specs.declared.memory.Memory.{Memory}
use Rattle.rd_rows.specs.Copies.{shown_rows}
use Rattle.rd_rows.specs.Shapes.{IsShape}
use Rattle.rd_start.specs.Strips.{IsAsked, IsPaid, all_costs}
use Rattle.rd_start.specs.declared.strip.Strip.{Strip}
use Rattle.rd_start.proofs.Around.{Made, made-paid, made-point, made-strip, made-sweep, paid-around}
use Rattle.rd_start.proofs.Pushing.{count-shown}
use Rattle.rd_start.proofs.Reaching.{cost-same, rows-same}
use Rattle.rd_start.proofs.strip.Strip.around.Given as given
use Rattle.rd_start.proofs.strip.Strip.around.Goals as goal
use Rattle.rd_start.proofs.strip.Strip.around.Goals.{After-rows}

-- where memory was wanting once the rows of the anchor's block were asked for
failed : (g : given.Over) (c : goal.After-rows g) (r : Result Strip Memory) → IsErr r → (kind : ℕ → Bool) → IsAsked kind (g.B.BlockSource.meaning c.args.source.now) c.args.sweep
    → MatchResult r (λ s. IsPaid kind c.args.steps.now (g.B.BlockSource.meaning c.args.source.now) s c.rows.new.steps) (λ _. c.rows.new.steps ≤ c.args.steps.now + all_costs kind (g.B.BlockSource.meaning c.args.source.now) c.args.sweep)
failed g c r err kind asked =
    let m = g.B.BlockSource.meaning c.args.source.now in
    let sweep = c.args.sweep in
    let n = c.rows.new.steps in
    let shape : IsShape sweep.shape = record { least = omega arith; most = omega arith } in
    let cost = cost-same m (g.B.BlockSource.meaning c.block_of.new.self) sweep c.in_ok-block.block n c.args.steps.now c.block_of.ensures.stays c.rows.ensures.steps in
    MatchResult-from_err r (λ (s : Strip). IsPaid kind c.args.steps.now m s n) (λ _. n ≤ c.args.steps.now + all_costs kind m sweep) err
    (λ _. (paid-around kind c.args.steps.now m sweep c.in_ok-block.block n c.block_of.ensures.source shape c.in_ok-block.ensures.found asked cost).1)

pub returns-in_err-rows-clause-paid : goal.returns-in_err-rows-clause-paid
returns-in_err-rows-clause-paid g c =
    failed g (goal.at.returns-in_err-rows-clause-paid g c).After-rows c.from_residual-in_err-rows.result c.from_residual-in_err-rows.ensures.0

pub returns-in_err-push_below-clause-paid : goal.returns-in_err-push_below-clause-paid
returns-in_err-push_below-clause-paid g c =
    failed g (goal.at.returns-in_err-push_below-clause-paid g c).After-rows c.from_residual-in_err-push_below.result c.from_residual-in_err-push_below.ensures.0

pub returns : goal.returns
returns g c =
    let m = g.B.BlockSource.meaning c.args.source.now in
    let sweep = c.args.sweep in
    let b = c.in_ok-block.block in
    let rows = shown_rows c.as_slice.result.now in
    let new = c.push_below.new.self in
    let empty : Strip = record { sweep = sweep; blocks = c.new.result; strip_rows = c.new-2.result; home = c.row_in_block.result } in
    let count = c.len.ensures ∙ (sym c.as_slice.ensures.len ∙ sym (count-shown c.as_slice.result.now)) in
    let cost = cost-same m (g.B.BlockSource.meaning c.block_of.new.self) sweep b c.rows.new.steps c.args.steps.now c.block_of.ensures.stays c.rows.ensures.steps in
    let made : Made m sweep b empty new rows = record {
      source = c.block_of.ensures.source;
      shape = record { least = omega arith; most = omega arith };
      point = c.requires.point;
      holds = c.in_ok-block.ensures.found;
      same = rows-same m (g.B.BlockSource.meaning c.block_of.new.self) sweep b rows c.block_of.ensures.stays (ap shown_rows c.as_slice.ensures.value ∙ c.in_ok-rows.ensures.rows);
      sweep_is = refl;
      blocks = c.new.ensures.items;
      strip_rows = c.new-2.ensures.items;
      home = c.row_in_block.ensures ∙ ap (λ n. cond (sweep.anchor.pos == b.start) (min sweep.anchor.row (n - 1)) 0) count;
      below = c.in_ok-push_below.ensures;
    } in
    record {
      stays = c.rows.ensures.stays ∙ c.block_of.ensures.stays;
      source = c.block_of.ensures.source;
      strip = (made-strip m sweep b empty new rows made, made-sweep m sweep b empty new rows made);
      point = made-point m sweep b empty new rows made;
      paid = λ kind asked. made-paid kind c.args.steps.now m sweep b empty new rows c.rows.new.steps made asked cost;
    }
