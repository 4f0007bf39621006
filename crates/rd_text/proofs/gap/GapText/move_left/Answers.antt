use Rattle.std.proofs.Common.{refl, arith}
use Rattle.rd_text.proofs.Moves.{left_text, left_right}
use Rattle.rd_text.proofs.gap.GapText.move_left.Goals as goal

pub returns : goal.returns
returns c =
    let g = c.args.self.now in
    let moved = c.copy.new.self in
    let first = c.div_ceil-2.ensures in
    let up = c.div_ceil.ensures in
    let min = c.min-last.ensures in
    let len = c.len.ensures in
    record {
      right = left_right g.codes.items moved.codes.items g.stretches.items moved.stretches.items g.front g.back c.args.at c.div_ceil-2.result c.min-last.result c.requires.right
          c.requires.place c.copy.ensures.copied c.copy.ensures.recounted (omega arith) (omega arith) (λ k near whole. omega arith) (λ k far. omega arith);
      text = left_text g.codes.items moved.codes.items g.stretches.items g.stretches.items g.front g.back c.args.at 0 0 c.requires.right c.requires.place c.copy.ensures.copied;
      front = refl;
      places = c.copy.ensures.copied.size;
    }
