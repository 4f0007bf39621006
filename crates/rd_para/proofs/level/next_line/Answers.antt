use Rattle.std.proofs.Common.{◌≡◌, ◌≤◌, ◌<◌, ◌+◌, ◌-◌, ◌⊎◌, ℕ, Bool, true, false, List, get_or, inl, inr, sym, ap, ◌∙◌, arith}
use Rattle.std.specs.Prelude.{unwrap_or}
use Rattle.std.proofs.lemmas.Bool.{cases_lt}
use Rattle.rd_text.specs.Texts.{TextValue, IsText, between, is_newline, is_separator, next_newline, prev_newline, prev_ink}
use Rattle.rd_ucd.specs.declared.spans.Span.{Span}
use Rattle.rd_para.specs.Paragraphs.{decided}
use Rattle.rd_para.specs.Known.{IsKnown}
use Rattle.rd_para.specs.declared.paragraph.Paragraph.{Paragraph}
use Rattle.rd_text.proofs.Searches.{next_at}
use Rattle.rd_para.proofs.Walks.{NextLine, next_line_is, known_to, rows}
use Rattle.rd_para.proofs.level.next_line.Goals as goal
use Rattle.rd_para.proofs.level.next_line.Goals.{then-is_blank_line-via-then-is_blank_line, then-is_blank_line-via-else-is_blank_line+then-prev_newline-prev_ink}

-- a line that ends before the text's end has a line behind it
next-behind : (classes : List Span) (t : TextValue) (right : IsText t) (p : Paragraph) → IsKnown classes t p → p.to < t.end
    → NextLine classes t p.to
next-behind classes t right p known more =
    let first = known.first in
    let order = known.order in
    let ends = known.ends in
    next_line_is classes t right p.to (omega arith) more
    (ap (λ (n : ℕ). is_newline (get_or t.text (n - 1) 0)) ends ∙ next_at t right p.to (omega arith) (omega arith) (omega arith))

further : (classes : List Span) (t : TextValue) (right : IsText t) (p : Paragraph) (to : ℕ) → IsKnown classes t p → p.to < t.end → to ≡ next_newline t (p.to + 1)
    → (is_separator (between t (p.to + 1) (next_newline t (p.to + 1))) ≡ true) ⊎ (prev_newline t p.to < prev_ink t p.to) → IsKnown classes t (record { from = p.from; to = to; base = p.base })
further classes t right p to known more is kind =
    let first = known.first in
    let order = known.order in
    known_to classes t right _ (p.to + 1) (omega arith) (omega arith) is first (omega arith) (λ pos low high. elim (cases_lt p.to pos) [
      | inl past ↦ (next-behind classes t right p known more).kept pos (omega arith) (omega arith) kind ∙ known.same p.to order (omega arith)
      | inr here ↦ known.same pos low here
    ])

fresh : (classes : List Span) (t : TextValue) (right : IsText t) (p : Paragraph) (to base : ℕ) → IsKnown classes t p → p.to < t.end → to ≡ next_newline t (p.to + 1)
    → is_separator (between t (p.to + 1) (next_newline t (p.to + 1))) ≡ false → prev_ink t p.to ≤ prev_newline t p.to → base ≡ unwrap_or (decided classes (rows t (p.to + 1))) 0
    → IsKnown classes t (record { from = p.to + 1; to = to; base = base })
fresh classes t right p to base known more is other blank level =
    let first = known.first in
    let order = known.order in
    known_to classes t right _ (p.to + 1) (omega arith) (omega arith) is (omega arith) (omega arith)
    (λ pos low high. (next-behind classes t right p known more).fresh pos low (omega arith) other blank ∙ sym level)

-- whether the line behind is a separator, as the code asks for it
asked : (t : TextValue) (from to : ℕ) (blank : Bool) → blank ≡ is_separator (between t from to) → to ≡ next_newline t from → is_separator (between t from (next_newline t from)) ≡ blank
asked t from to blank says is = sym (says ∙ ap (λ (n : ℕ). is_separator (between t from n)) is)

pub returns-then-is_blank_line-clause-known : goal.returns-then-is_blank_line-clause-known
returns-then-is_blank_line-clause-known c =
    let t = c.args.text.now in
    let end = c.args.known.now.to in
    let is = c.next_newline-to.ensures in
    let kind : (is_separator (between t (end + 1) (next_newline t (end + 1))) ≡ true) ⊎ (prev_newline t end < prev_ink t end) =
    elim c.then-is_blank_line.branch [
      | then-is_blank_line-via-then-is_blank_line w ↦ inl (asked t (end + 1) c.next_newline-to.result true (sym w.if-is_blank_line.true ∙ c.is_blank_line.ensures) is)
      | then-is_blank_line-via-else-is_blank_line+then-prev_newline-prev_ink w ↦
          let some = w.if-prev_newline-prev_ink.true in
          let a = w.prev_newline.ensures in
          let b = w.prev_ink.ensures in
          inr (omega arith)
    ] in
    further c.args.classes.now t c.begin-begin.ensures.right c.args.known.now c.next_newline-to.result c.requires.known c.requires.more is kind

pub returns-clause-known : goal.returns-clause-known
returns-clause-known c =
    let t = c.args.text.now in
    let from = c.args.known.now.to + 1 in
    let is = c.next_newline-to.ensures in
    let none = c.if-prev_newline-prev_ink.false in
    let a = c.prev_newline.ensures in
    let b = c.prev_ink.ensures in
    fresh c.args.classes.now t c.begin-begin.ensures.right c.args.known.now c.next_newline-to.result c.p2_p3_level_from_line-base.result c.requires.known c.requires.more is
    (asked t from c.next_newline-to.result false (sym c.if-is_blank_line.false ∙ c.is_blank_line.ensures) is) (omega arith) c.p2_p3_level_from_line-base.ensures
