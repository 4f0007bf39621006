use Rattle.std.proofs.Common.{◌≤◌, ◌-◌, ℕ, sym, ap, subst, ◌∙◌, arith}
use Rattle.std.specs.Prelude.{max}
use Rattle.rd_text.specs.Texts.{IsAccessible, IsParagraphStart, prev_ink}
use Rattle.rd_para.proofs.Walks.{paragraph_is, start_before, known_to, line_bounds}
use Rattle.rd_para.proofs.level.paragraph_at.Goals as goal
use Rattle.rd_para.proofs.level.paragraph_at.Goals.{After-next_newline-to, After-max-place}

-- the end of the position's line, and the last ink before it
bounds : (c : goal.After-next_newline-to) → let t = c.args.text.now in let to = c.next_newline-to.result in
    (c.args.pos ≤ to) × (to ≤ t.end) × (t.begin ≤ prev_ink t to) × (prev_ink t to ≤ to)
bounds c =
    line_bounds c.args.text.now c.begin-begin.ensures.right c.args.pos c.next_newline-to.result c.requires.0 c.requires.1 c.next_newline-to.ensures

-- so the place by which the paragraph is found is accessible
placed : (c : goal.After-max-place) → prev_ink c.args.text.now c.next_newline-to.result ≤ c.args.text.now.end
    → IsAccessible c.args.text.now c.max-place.result
placed c ink_high =
    let value = c.begin-begin.ensures.value in
    let ordered = c.begin-begin.ensures.right.ordered in
    let ink = c.prev_ink.ensures in
    let max = c.max-place.ensures in
    (omega arith, omega arith)

pub prev_ink-requires : goal.prev_ink-requires
prev_ink-requires c =
    let (order, last, ink_low, ink_high) = bounds (goal.at.prev_ink-requires c).After-next_newline-to in
    let low = c.requires.0 in
    (omega arith, last)

pub overflow_sub-prev_ink : goal.overflow_sub-prev_ink
overflow_sub-prev_ink c =
    let (order, last, ink_low, ink_high) = bounds (goal.at.overflow_sub-prev_ink c).After-next_newline-to in
    omega (arith, c.begin-begin.ensures.right.first, c.prev_ink.ensures)

pub paragraph_start-from-requires : goal.paragraph_start-from-requires
paragraph_start-from-requires c =
    let at = goal.at.paragraph_start-from-requires c in
    let (order, last, ink_low, ink_high) = bounds at.After-next_newline-to in
    placed at.After-max-place (omega arith)

pub p2_p3_level_of_paragraph-base-requires : goal.p2_p3_level_of_paragraph-base-requires
p2_p3_level_of_paragraph-base-requires c =
    let at = goal.at.p2_p3_level_of_paragraph-base-requires c in
    let (order, last, ink_low, ink_high) = bounds at.After-next_newline-to in
    let (place_low, place_high) = placed at.After-max-place (omega arith) in
    let start = c.paragraph_start-from.ensures in
    (start.first, omega (arith, start.order, place_high))

pub returns : goal.returns
returns c =
    let t = c.args.text.now in
    let classes = c.args.classes.now in
    let right = c.begin-begin.ensures.right in
    let value = c.begin-begin.ensures.value in
    let is = c.next_newline-to.ensures in
    let ink_is = c.prev_ink.ensures ∙ ap (prev_ink t) is in
    let place_is = c.max-place.ensures ∙ ap (λ (n : ℕ). max n (c.prev_ink.result - 1)) value in
    let start = c.paragraph_start-from.ensures in
    let from = c.paragraph_start-from.result in
    let level = paragraph_is classes t right c.args.pos c.prev_ink.result c.max-place.result from c.requires.0 c.requires.1 ink_is place_is start in
    let before = start_before t right c.args.pos c.prev_ink.result c.max-place.result from c.requires.0 c.requires.1 ink_is place_is start in
    let whole = place_is ∙ ap (λ (n : ℕ). max t.begin (n - 1)) ink_is in
    record {
      known = known_to classes t right _ c.args.pos c.requires.0 c.requires.1 is start.first before
          (λ p low high. level p low (omega arith) ∙ sym c.p2_p3_level_of_paragraph-base.ensures);
      start = subst (λ (n : ℕ). IsParagraphStart t n from) whole start;
      low = before;
      high = is;
    }
