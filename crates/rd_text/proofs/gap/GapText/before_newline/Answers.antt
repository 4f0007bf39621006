use Rattle.std.proofs.Common.{not, ap, arith}
use Rattle.std.specs.List.{position_or_len}
use Rattle.rd_text.specs.Texts.{is_newline}
use Rattle.rd_text.specs.Gaps.{text_of}
use Rattle.rd_text.proofs.Ranges.{first_part, prefix_goes, prefix_stops, range_none}
use Rattle.rd_text.proofs.gap.GapText.before_newline.Goals as goal

pub returns-then-before-len-clause-value : goal.returns-then-before-len-clause-value
returns-then-before-len-clause-value c =
    let inv = c.pieces.invariant in
    let stops = prefix_stops (λ x. not (is_newline x)) (text_of c.args.self.now) c.pieces.at c.args.to c.piece_at-piece.result.codes.now c.before_newline-before.result
    (first_part c.piece_at-piece.ensures.part) c.before_newline-before.ensures.value (omega (arith, c.len.ensures, c.if-before-len.true)) in
    omega (arith, inv.low, inv.rest, stops)

pub pieces-preserved : goal.pieces-preserved
pieces-preserved c =
    let inv = c.pieces.invariant in
    let part = first_part c.piece_at-piece.ensures.part in
    let bound = c.before_newline-before.ensures.bound in
    let goes = prefix_goes (λ x. not (is_newline x)) (text_of c.args.self.now) c.pieces.at c.args.to c.piece_at-piece.result.codes.now c.before_newline-before.result
    part c.before_newline-before.ensures.value (omega (arith, bound, c.len.ensures, c.if-before-len.false)) in
    record { low = omega (arith, inv.low); high = omega (arith, bound, part.fits); rest = omega (arith, inv.low, inv.rest, goes) }

pub returns-clause-value : goal.returns-clause-value
returns-clause-value c =
    let none = ap (position_or_len is_newline) (range_none (text_of c.args.self.now) c.pieces.at c.args.to c.pieces-test.false) in
    omega (arith, c.pieces.invariant.rest, none)
