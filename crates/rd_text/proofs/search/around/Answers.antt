use Rattle.std.proofs.Common.{◌≡◌, ◌+◌, length, ap, ◌∙◌, arith}
use Rattle.std.specs.Prelude.{slice_range}
use Rattle.rd_text.proofs.search.around.Goals as goal

pub returns-clause-part : goal.returns-clause-part
returns-clause-part c =
    let first = c.requires.first in
    let order = c.requires.order in
    let low = c.max-start.ensures in
    let high = c.min-stop.ensures in
    let size = c.piece_between.ensures.len in
    let stop : c.min-stop.result ≡ c.max-start.result + length c.piece_between.result.codes.now = omega arith in
    record {
      start = c.max-start.result;
      first = omega arith;
      before = omega arith;
      behind = omega arith;
      last = omega arith;
      same = c.piece_between.ensures.value ∙ ap (slice_range c.args.codes.now c.max-start.result) stop;
    }
