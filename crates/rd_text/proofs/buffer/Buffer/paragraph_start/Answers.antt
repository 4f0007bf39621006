use Rattle.std.proofs.Common.{◌≡◌, ◌≤◌, ◌+◌, ◌-◌, ℕ, not, ap, sym, subst, ◌∙◌, arith}
use Rattle.std.specs.Prelude.{slice_range}
use Rattle.std.specs.List.{position_or_len, suffix_len}
use Rattle.rd_text.specs.Gaps.{text_of}
use Rattle.rd_text.specs.Texts.{TextValue, IsText, is_newline, is_ink, IsParagraphStart}
use Rattle.rd_text.proofs.Paragraphs.{start_no_newline, start_ink, start_behind}
use Rattle.rd_text.proofs.buffer.Buffer.paragraph_start.Goals as goal
use Rattle.rd_text.proofs.buffer.Buffer.paragraph_start.Goals.{After-before_newline, then-end-to-via-then-end-to, then-end-to-via-else-end-to+then-after_last-end}

abbrev text : goal.After-before_newline → TextValue
text c = let s = c.self.inside in record { text = text_of s.chars; begin = s.begin; end = s.end }

-- the position is accessible in it
known : (c : goal.After-before_newline) → IsText (text c) × ((text c).begin ≤ c.args.pos) × (c.args.pos ≤ (text c).end)
known c =
    let begin = ap (λ (x : TextValue). x.begin) c.self.view_is in
    let end = ap (λ (x : TextValue). x.end) c.self.view_is in
    let low = c.requires.0 in
    let high = c.requires.1 in
    (subst IsText (sym c.self.view_is) c.buffers_are_valid.ensures.text, omega arith, omega arith)

-- how many of the first line's characters, from its end, have no ink
blanks : (c : goal.After-before_newline) (n : ℕ) → let first : ℕ = c.opening-at.result in let line = text_of c.self.inside.chars in
    n ≡ suffix_len (λ x. not (is_ink x)) (slice_range line first (first + c.before_newline.result))
    → n ≡ suffix_len (λ x. not (is_ink x)) (slice_range line first (first + position_or_len is_newline (slice_range line first (c.args.pos - 1))))
blanks c n value = value ∙ ap (λ (n : ℕ). suffix_len (λ x. not (is_ink x)) (slice_range (text_of c.self.inside.chars) c.opening-at.result (c.opening-at.result + n))) c.before_newline.ensures.value

pub returns-then-end-to : goal.returns-then-end-to
returns-then-end-to c =
    let at = (goal.at.returns-then-end-to c).After-before_newline in
    let (right, low, high) = known at in
    let value = c.before_newline.ensures.value in
    let bound = c.before_newline.ensures.bound in
    let start : IsParagraphStart (text at) c.args.pos (c.opening-at.result + 1) =
    elim c.then-end-to.branch [
      | then-end-to-via-then-end-to w ↦
          let stop = w.if-end-to.true in
          start_no_newline (text at) c.args.pos c.opening-at.result right low high c.opening-at.ensures (omega arith)
      | then-end-to-via-else-end-to+then-after_last-end w ↦
          let line = blanks at w.after_last.result w.after_last.ensures.value in
          let ink = w.if-after_last-end.true in
          let apart = w.if-end-to.false in
          start_ink (text at) c.args.pos c.opening-at.result right low high c.opening-at.ensures (omega arith) (omega arith)
    ] in
    subst (λ (x : TextValue). IsParagraphStart x c.args.pos (c.opening-at.result + 1)) c.self.view_is start

pub returns : goal.returns
returns c =
    let at = (goal.at.returns c).After-before_newline in
    let (right, low, high) = known at in
    let value = c.before_newline.ensures.value in
    let bound = c.before_newline.ensures.bound in
    let line = blanks at c.after_last.result c.after_last.ensures.value in
    let whole = c.if-after_last-end.false in
    let apart = c.if-end-to.false in
    subst (λ (x : TextValue). IsParagraphStart x c.args.pos (c.opening-at.result + c.before_newline.result + 2)) c.self.view_is
    (subst (λ (n : ℕ). IsParagraphStart (text at) c.args.pos (c.opening-at.result + n + 2)) (sym value)
    (start_behind (text at) c.args.pos c.opening-at.result right low high c.opening-at.ensures (omega arith) (omega arith)))
