use Rattle.std.proofs.Common.{◌≡◌, ◌+◌, ◌-◌, Bool, ◌&&◌, ◌||◌, ap, ◌∙◌, sym, subst, arith, ℕ, false}
use Rattle.std.specs.Prelude.{slice_range}
use Rattle.rd_text.specs.Gaps.{text_of}
use Rattle.rd_text.specs.Stretches.{opens, closes, separated}
use Rattle.rd_text.specs.Pieces.{IsOpening}
use Rattle.rd_text.specs.declared.stretch.Stretch.{Stretch}
use Rattle.rd_text.proofs.Openings.{opening_goes, opening_found, with_part}
use Rattle.rd_text.proofs.Ranges.{last_part}
use Rattle.rd_text.proofs.gap.GapText.opening.Goals as goal

pub returns-then-separates : goal.returns-then-separates
returns-then-separates c =
    let inv = c.pieces.invariant in
    let text = text_of c.args.self.now in
    let piece = c.piece_at-piece.result.codes.now in
    let part = last_part c.piece_at-piece.ensures.part in
    let o = c.last_opening.ensures in
    let C : ℕ → Type 0 = λ n. IsOpening text c.args.from c.args.to (c.pieces.at - n + c.last_opening.result) in
    subst C (sym c.len.ensures)
    (opening_found text c.args.from c.pieces.at c.args.to c.last_opening.result piece c.pieces.opened part inv.high c.requires.last o.some o.bound o.newline inv.begins inv.clear o.opens o.clear)

pub pieces-preserved : goal.pieces-preserved
pieces-preserved c =
    let inv = c.pieces.invariant in
    let text = text_of c.args.self.now in
    let piece = c.piece_at-piece.result.codes.now in
    let part = last_part c.piece_at-piece.ensures.part in
    let fits = part.fits in
    let size = c.len-at.ensures in
    let high = inv.high in
    let none : (separated piece || (closes piece && opens (slice_range text c.pieces.at c.args.to))) ≡ false
    = ap (λ (b : Bool). separated piece || (closes piece && b)) inv.begins
    ∙ ap (λ (s : Stretch). s.separated || (s.closes && c.pieces.opened)) (sym c.stretch-stretch.ensures) ∙ sym c.separates.ensures ∙ c.if-separates.false in
    record {
      low = omega arith;
      high = omega arith;
      begins = ap (λ (n : ℕ). opens (slice_range text (c.pieces.at - n) c.args.to)) size ∙ ap opens (with_part text c.args.from c.pieces.at c.args.to piece part high)
          ∙ c.opens_before-opened.ensures piece (slice_range text c.pieces.at c.args.to) c.stretch-stretch.ensures inv.begins;
      clear = ap (λ (n : ℕ). separated (slice_range text (c.pieces.at - n) c.args.to)) size
          ∙ opening_goes text c.args.from c.pieces.at c.args.to piece part high none inv.clear;
    }
