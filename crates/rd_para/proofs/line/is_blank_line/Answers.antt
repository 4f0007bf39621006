use Rattle.std.proofs.Common.{◌≡◌, ◌≤◌, ℕ, leb, inl, inr, sym, ap, ◌∙◌, arith}
use Rattle.std.proofs.lemmas.Bool.{cases_lt, le-leb, lt-leb}
use Rattle.rd_text.specs.Texts.{TextValue, IsText, next_newline, prev_ink, is_separator, between}
use Rattle.rd_text.proofs.Searches.{next_bound, next_before}
use Rattle.rd_para.proofs.Walks.{line_blank, line_ink}
use Rattle.rd_para.proofs.line.is_blank_line.Goals as goal

pub prev_ink-requires : goal.prev_ink-requires
prev_ink-requires c =
    let (low, high) = c.requires.place in
    let (order, within) = next_bound c.args.text.now c.requires.right c.args.from low high in
    (omega (arith, c.requires.end), omega (arith, c.requires.end))

-- blank just where the last other character stands before it
blank_line : (t : TextValue) (from to : ℕ) → IsText t → t.begin ≤ from → from ≤ t.end → to ≡ next_newline t from → leb (prev_ink t to) from ≡ is_separator (between t from to)
blank_line t from to right low high end =
    let (to_order, inside) = next_bound t right from low high in
    let order : from ≤ to = omega arith in
    let within : to ≤ t.end = omega arith in
    elim (cases_lt from (prev_ink t to)) [
      | inr none ↦ le-leb _ _ none ∙ sym (line_blank t right from to low order within (λ k at less. next_before t right from k low high at (omega arith) (omega arith)) none)
      | inl some ↦ lt-leb _ _ some ∙ sym (line_ink t right from to low order within some)
    ]

pub returns : goal.returns
returns c = ap (λ (n : ℕ). leb n c.args.from) c.prev_ink.ensures ∙ blank_line c.args.text.now c.args.from c.args.to c.requires.right c.requires.place.0 c.requires.place.1 c.requires.end
