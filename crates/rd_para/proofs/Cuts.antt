-- Lines of a text, as the code finds them.
use Rattle.std.proofs.Common.{◌≡◌, ℕ, ◌+◌, ◌-◌, ◌<◌, ◌≤◌, inl, inr, Bool, true, not, if◌then◌else◌, List, [], ◌∷◌, length, get_or, take, drop, replicate, Option, None, refl, sym, ap, subst, ◌∙◌, arith}
use Rattle.std.specs.List.{slice_split, position_or_len}
use Rattle.std.proofs.lemmas.List.Sums.{prefix_len-le-length, fails_before_first}
use Rattle.std.proofs.lemmas.Bool.{cases_lt}
use Rattle.std.proofs.lemmas.List.{length-take-le, length-drop, length-replicate, get_or_append_left, get_or-append_right, get_or-replicate, take-take, take_all}
use Rattle.std.proofs.lemmas.List.Splits.{slice_split_first, slice_split_none}
use Rattle.std.specs.Option.{option_or}
use Rattle.rd_base.proofs.Lists.{range-from}
use Rattle.rd_text.specs.Texts.{TextValue, IsText, between, is_newline, next_newline}
use Rattle.rd_ucd.specs.declared.spans.Span.{Span}
use Rattle.rd_text.specs.Texts.{is_separator}
use Rattle.rd_para.specs.Paragraphs.{p2_p3_level_of_line, decided, level_by, levels_of}

-- what is known of the line that begins at a position
pub record IsCut (t : TextValue) (from to : ℕ) : Type 0 where
  pub order : from ≤ to
  pub within : to ≤ t.end
  pub last : to ≡ t.end → slice_split is_newline (between t from t.end) ≡ between t from to ∷ []
  pub more : to < t.end → slice_split is_newline (between t from t.end) ≡ between t from to ∷ slice_split is_newline (between t (to + 1) t.end)

pub line_cut : (t : TextValue) (from : ℕ) → IsText t → t.begin ≤ from → from ≤ t.end → IsCut t from (next_newline t from)
line_cut t from right begin end =
    let first = right.first in
    let last_ok = right.last in
    let n = t.end - 1 - (from - 1) in
    let rest = drop (from - 1) t.text in
    let all = between t from t.end in
    let i = position_or_len is_newline all in
    let size_rest : length rest ≡ length t.text - (from - 1) = length-drop (from - 1) t.text in
    let size : length all ≡ n = length-take-le n rest (omega arith) in
    let fits : i ≤ length all = prefix_len-le-length (λ c. not (is_newline c)) all in
    let line : between t from (from + i) ≡ take i all =
    (let e : from + i - 1 - (from - 1) ≡ i = omega arith in ap (λ (k : ℕ). take k rest) e) ∙ sym (take-take i n rest (omega arith)) in
    record {
      order = omega arith;
      within = omega arith;
      last = λ e.
          let full : i ≡ length all = omega arith in
          slice_split_none is_newline all (λ k d less. fails_before_first is_newline all k d (omega arith)) ∙ ap (λ (xs : List ℕ). xs ∷ []) (sym (line ∙ ap (λ (k : ℕ). take k all) full ∙ take_all (length all) all (omega arith)));
      more = λ less.
          let inside : i < length all = omega arith in
          let cut = slice_split_first is_newline all 0 inside in
          let place : from - 1 + (i + 1) ≡ from + i + 1 - 1 = omega arith in
          let behind : drop (i + 1) all ≡ between t (from + i + 1) t.end =
          sym (range-from t.text (from - 1) (i + 1) (t.end - 1) (omega arith)) ∙ ap (λ (k : ℕ). take (t.end - 1 - k) (drop k t.text)) place in
          cut ∙ ap (λ (xs : List ℕ). xs ∷ slice_split is_newline (drop (i + 1) all)) (sym line) ∙ ap (λ (xs : List ℕ). between t from (from + i) ∷ slice_split is_newline xs) behind;
    }

pub line_cut_to : (t : TextValue) (from to : ℕ) → IsText t → t.begin ≤ from → from ≤ t.end → to ≡ next_newline t from → IsCut t from to
line_cut_to t from to right begin end is = subst (IsCut t from) (sym is) (line_cut t from right begin end)

-- the level of a line is that at each of its places
pub levels_here : (classes : List Span) (last : ℕ) (inside : Bool) (line : List ℕ) (lines pieces : List (List ℕ)) (n : ℕ) → pieces ≡ line ∷ lines
    → n ≤ length line → get_or (levels_of classes last inside pieces) n 0 ≡ level_by classes last inside line lines
levels_here classes last inside line lines pieces n cut low =
    let b = level_by classes last inside line lines in
    let size = length-replicate (length line + 1) b in
    ap (λ (p : List (List ℕ)). get_or (levels_of classes last inside p) n 0) cut
    ∙ get_or_append_left (replicate (length line + 1) b) (levels_of classes b (not (is_separator line)) lines) 0 n (omega arith) ∙ get_or-replicate (length line + 1) n b 0 (omega arith)

-- behind a line come the levels of the next lines
pub levels_next : (classes : List Span) (last : ℕ) (inside : Bool) (line : List ℕ) (lines pieces : List (List ℕ)) (n : ℕ) → pieces ≡ line ∷ lines
    → length line < n → get_or (levels_of classes last inside pieces) n 0
    ≡ get_or (levels_of classes (level_by classes last inside line lines) (not (is_separator line)) lines) (n - (length line + 1)) 0
levels_next classes last inside line lines pieces n cut high =
    let b = level_by classes last inside line lines in
    ap (λ (p : List (List ℕ)). get_or (levels_of classes last inside p) n 0) cut
    ∙ get_or-append_right (replicate (length line + 1) b) (levels_of classes b (not (is_separator line)) lines) (length line + 1) n 0 (length-replicate (length line + 1) b) (omega arith)

-- what the first line says of the level of a paragraph
pub decided_from : (classes : List Span) (line : List ℕ) (lines pieces : List (List ℕ)) (blank : Bool) (level : Option ℕ) → pieces ≡ line ∷ lines
    → is_separator line ≡ blank → level ≡ p2_p3_level_of_line classes line → decided classes pieces ≡ (if blank then None else option_or level (decided classes lines))
decided_from classes line lines pieces blank level cut is found =
    ap (decided classes) cut ∙ ap (λ (v : Bool). if v then None else option_or (p2_p3_level_of_line classes line) (decided classes lines)) is
    ∙ ap (λ (o : Option ℕ). if blank then None else option_or o (decided classes lines)) (sym found)

-- a text from a cut on has a first line
pub some_line : (t : TextValue) (from to : ℕ) → IsCut t from to → (lines : List (List ℕ)) × (slice_split is_newline (between t from t.end) ≡ between t from to ∷ lines)
some_line t from to cut = elim (cases_lt to t.end) [
  | inl less ↦ (slice_split is_newline (between t (to + 1) t.end), cut.more less)
  | inr past ↦ let within = cut.within in ([], cut.last (omega arith))
]

-- a separator that comes first decides no level
pub decided_none : (classes : List Span) (t : TextValue) (from to : ℕ) → IsCut t from to → is_separator (between t from to) ≡ true
    → decided classes (slice_split is_newline (between t from t.end)) ≡ None
decided_none classes t from to cut blank =
    let some = some_line t from to cut in
    let line = between t from to in
    decided_from classes line some.0 (slice_split is_newline (between t from t.end)) true (p2_p3_level_of_line classes line) some.1 blank refl
