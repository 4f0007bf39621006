use Rattle.std.proofs.Common.{◌≡◌, ◌+◌, ◌-◌, ◌/◌, ◌≤◌, ℕ, length, refl, subst, arith}
use Rattle.rd_text.specs.declared.gap.TheConstants.{STRETCH}
use Rattle.rd_text.specs.Gaps.{IsCopied}
use Rattle.rd_text.proofs.Ranges.{length-gap}
use Rattle.rd_text.proofs.Moves.{right_text, right_right}
use Rattle.rd_text.proofs.gap.GapText.move_right.Goals as goal

pub returns : goal.returns
returns c =
    let g = c.args.self.now in
    let new = c.copy.new.self in
    let at = c.args.at in
    let gap = length-gap g.codes.items g.front g.back c.requires.right.order c.requires.right.within in
    let place = c.requires.place in
    let room : at ≤ g.front + (length g.codes.items - g.back) = omega arith in
    let size : g.back + (at - g.front) - g.back ≡ at - g.front = omega arith in
    let copied = subst (λ (n : ℕ). IsCopied g.codes.items new.codes.items g.back g.front n) size c.copy.ensures.copied in
    record {
      right = right_right g.codes.items new.codes.items g.stretches.items new.stretches.items g.front g.back at (g.front / STRETCH) (at / STRETCH) c.requires.right c.requires.behind room
          copied c.copy.ensures.recounted (omega arith) (omega arith) (omega arith) (omega arith);
      text = right_text g.codes.items new.codes.items g.stretches.items g.stretches.items g.front g.back at 0 0 c.requires.right c.requires.behind room copied;
      front = refl;
      places = copied.size;
    }
