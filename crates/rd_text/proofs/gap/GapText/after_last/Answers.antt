use Rattle.std.proofs.Common.{not, ap, arith}
use Rattle.std.specs.List.{suffix_len}
use Rattle.rd_text.specs.Gaps.{text_of}
use Rattle.rd_text.specs.Pieces.{is_sought}
use Rattle.rd_text.proofs.Ranges.{last_part, suffix_goes, suffix_stops, range_none}
use Rattle.rd_text.proofs.gap.GapText.after_last.Goals as goal

pub returns-then-after-len-clause-value : goal.returns-then-after-len-clause-value
returns-then-after-len-clause-value c =
    let inv = c.pieces.invariant in
    let stops = suffix_stops (λ x. not (is_sought c.args.sought x)) (text_of c.args.self.now) c.args.from c.pieces.at c.piece_at-piece.result.codes.now c.after_last-after.result
    (last_part c.piece_at-piece.ensures.part) c.after_last-after.ensures.value (omega (arith, c.len.ensures, c.if-after-len.true)) in
    omega (arith, inv.high, inv.rest, stops)

pub pieces-preserved : goal.pieces-preserved
pieces-preserved c =
    let inv = c.pieces.invariant in
    let part = last_part c.piece_at-piece.ensures.part in
    let bound = c.after_last-after.ensures.bound in
    let goes = suffix_goes (λ x. not (is_sought c.args.sought x)) (text_of c.args.self.now) c.args.from c.pieces.at c.piece_at-piece.result.codes.now c.after_last-after.result
    part c.after_last-after.ensures.value (omega (arith, bound, c.len.ensures, c.if-after-len.false)) in
    record { low = omega (arith, bound, part.fits); high = omega (arith, inv.high); rest = omega (arith, bound, part.fits, inv.high, inv.rest, goes) }

pub returns-clause-value : goal.returns-clause-value
returns-clause-value c =
    let none = ap (suffix_len (λ x. not (is_sought c.args.sought x))) (range_none (text_of c.args.self.now) c.args.from c.pieces.at c.pieces-test.false) in
    omega (arith, c.pieces.invariant.rest, none)
