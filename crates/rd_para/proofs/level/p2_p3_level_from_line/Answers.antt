use Rattle.std.proofs.Common.{◌≡◌, ◌+◌, ◌<◌, ◌≤◌, ℕ, false, List, [], ◌∷◌, Option, None, Some, sym, ap, ◌∙◌, arith}
use Rattle.std.specs.Prelude.{unwrap_or}
use Rattle.std.specs.Option.{option_or}
use Rattle.rd_text.specs.Texts.{TextValue, between, is_separator}
use Rattle.rd_ucd.specs.declared.spans.Span.{Span}
use Rattle.rd_para.specs.Paragraphs.{p2_p3_level_of_line, decided}
use Rattle.rd_para.proofs.Cuts.{line_cut_to, some_line, decided_from, decided_none}
use Rattle.rd_para.proofs.Walks.{rows}
use Rattle.rd_para.proofs.level.p2_p3_level_from_line.Goals as goal
use Rattle.rd_para.proofs.level.p2_p3_level_from_line.Goals.{After-next_newline-to}

-- what a line that is no separator says is the level of the lines from it on
told : (classes : List Span) (t : TextValue) (from to : ℕ) (lines : List (List ℕ)) (level : Option ℕ) → rows t from ≡ between t from to ∷ lines → is_separator (between t from to) ≡ false
    → level ≡ p2_p3_level_of_line classes (between t from to) → unwrap_or (option_or level (decided classes lines)) 0 ≡ unwrap_or (decided classes (rows t from)) 0
told classes t from to lines level is other found =
    sym (ap (λ (o : Option ℕ). unwrap_or o 0) (decided_from classes (between t from to) lines (rows t from) false level is other found))

-- where the text goes on behind a line that says none, the next line begins in it, and the lines from there on have the paragraph's level
behind : (c : goal.After-next_newline-to) → let t = c.args.text.now in let next = c.lines.to + 1 in
    (t.begin ≤ next) × (next ≤ t.end) × (unwrap_or (decided c.args.classes.now (rows t next)) 0 ≡ unwrap_or (decided c.args.classes.now (rows t c.args.from)) 0)
behind c =
    let t = c.args.text.now in
    let inv = c.lines.invariant in
    let cut = line_cut_to t c.lines.from c.lines.to inv.text inv.begin inv.end inv.line_end in
    let order = cut.order in
    let begin = inv.begin in
    let value = c.end-end.ensures.value in
    let less : c.lines.to < t.end = omega (arith, c.if-to-end.false) in
    (omega arith, omega arith, told c.args.classes.now t c.lines.from c.lines.to (rows t (c.lines.to + 1)) None (cut.more less) inv.other c.in_default.ensures ∙ inv.rest)

pub p2_p3_level_of_line-requires-clause-last : goal.p2_p3_level_of_line-requires-clause-last
p2_p3_level_of_line-requires-clause-last c =
    let inv = c.lines.invariant in
    let within = (line_cut_to c.args.text.now c.lines.from c.lines.to inv.text inv.begin inv.end inv.line_end).within in
    let last = inv.text.last in
    omega arith

pub returns-in-Some : goal.returns-in-Some
returns-in-Some c =
    let t = c.args.text.now in
    let inv = c.lines.invariant in
    let some = some_line t c.lines.from c.lines.to (line_cut_to t c.lines.from c.lines.to inv.text inv.begin inv.end inv.line_end) in
    told c.args.classes.now t c.lines.from c.lines.to some.0 (Some c.in-Some.level) some.1 inv.other c.in-Some.ensures ∙ inv.rest

pub returns-then-to-end : goal.returns-then-to-end
returns-then-to-end c =
    let t = c.args.text.now in
    let inv = c.lines.invariant in
    let cut = line_cut_to t c.lines.from c.lines.to inv.text inv.begin inv.end inv.line_end in
    let within = cut.within in
    let value = c.end-end.ensures.value in
    let past = c.if-to-end.true in
    told c.args.classes.now t c.lines.from c.lines.to [] None (cut.last (omega arith)) inv.other c.in_default.ensures ∙ inv.rest

pub returns-then-is_blank_line : goal.returns-then-is_blank_line
returns-then-is_blank_line c =
    let t = c.args.text.now in
    let (begin, end, rest) = behind (goal.at.returns-then-is_blank_line c).After-next_newline-to in
    let next = line_cut_to t (c.lines.to + 1) c.next_newline-to.result c.lines.invariant.text begin end c.next_newline-to.ensures in
    let none = decided_none c.args.classes.now t (c.lines.to + 1) c.next_newline-to.result next (sym c.is_blank_line.ensures ∙ c.if-is_blank_line.true) in
    sym (ap (λ (o : Option ℕ). unwrap_or o 0) none) ∙ rest

pub lines-preserved : goal.lines-preserved
lines-preserved c =
    let (begin, end, rest) = behind (goal.at.lines-preserved c).After-next_newline-to in
    record {
      text = c.lines.invariant.text;
      begin = begin;
      end = end;
      line_end = c.next_newline-to.ensures;
      other = sym c.is_blank_line.ensures ∙ c.if-is_blank_line.false;
      rest = rest;
    }
