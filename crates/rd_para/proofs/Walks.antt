-- The levels of a text from the start of a paragraph on.
use Rattle.std.proofs.Common.{◌≡◌, ℕ, zero, suc, ◌+◌, ◌-◌, ◌<◌, ◌≤◌, ◌⊎◌, Bool, true, false, ◌||◌, not, if◌then◌else◌, List, ◌∷◌, length, get_or, inl, inr, None, refl, sym, ap, subst, ◌∙◌, arith}
use Rattle.std.specs.Prelude.{unwrap_or, max}
use Rattle.std.specs.List.{slice_split}
use Rattle.std.proofs.lemmas.Bool.{both_ways, cases_lt, cases_Bool, or_right}
use Rattle.std.specs.Option.{option_or}
use Rattle.rd_text.specs.Texts.{TextValue, IsText, between, is_newline, is_ink, is_separator, next_newline, prev_newline, prev_ink, IsLineStart, EndsSeparator, IsParagraphStart}
use Rattle.rd_text.proofs.Characters.{blank_else, blank_not_ink, newline_not_ink}
use Rattle.rd_text.proofs.Searches.{next_bound, next_before, next_at, ink_after, ink_at, prev_after, prev_at, prev_bound, prev_ink_bound, between_size, all_blank, some_ink, blank_at}
use Rattle.rd_ucd.specs.declared.spans.Span.{Span}
use Rattle.rd_para.specs.Known.{IsKnown}
use Rattle.rd_para.specs.Paragraphs.{p2_p3_level_of_line, decided, level_by, levels_of, text_level}
use Rattle.rd_para.specs.declared.paragraph.Paragraph.{Paragraph}
use Rattle.rd_para.proofs.Cuts.{line_cut, some_line, levels_here, levels_next}

-- the lines from a position on
abbrev pub rows : TextValue → ℕ → List (List ℕ)
rows t from = slice_split is_newline (between t from t.end)

-- the levels from a line on, by the level and the kind of the line before it
pub record Reached (classes : List Span) (t : TextValue) (from : ℕ) : Type 0 where
  pub last : ℕ
  pub inside : Bool
  pub rest : (p : ℕ) → from ≤ p → p ≤ t.end → text_level classes t p ≡ get_or (levels_of classes last inside (rows t from)) (p - from) 0

-- the line before a position, with the levels from that position on
pub record ReachedBehind (classes : List Span) (t : TextValue) (from : ℕ) : Type 0 where
  pub start : ℕ
  pub begins : IsLineStart t start
  pub first : t.begin ≤ start
  pub order : start < from
  pub clear : (k : ℕ) → start ≤ k → k < from - 1 → is_newline (get_or t.text (k - 1) 0) ≡ false
  pub reached : Reached classes t from
  pub inside_is : reached.inside ≡ not (is_separator (between t start (from - 1)))
  pub last_is : reached.last ≡ text_level classes t (from - 1)

-- the levels from the start of a paragraph on
pub record FromStart (classes : List Span) (t : TextValue) (start : ℕ) : Type 0 where
  pub last : ℕ
  pub none : start ≡ t.begin → last ≡ 0
  pub rest : (p : ℕ) → start ≤ p → p ≤ t.end → text_level classes t p ≡ get_or (levels_of classes last false (rows t start)) (p - start) 0

-- no line that begins up to the end of a position's line goes beyond that end
ends_within : (t : TextValue) (right : IsText t) (pos from : ℕ) → t.begin ≤ pos → pos ≤ t.end → t.begin ≤ from → from ≤ next_newline t pos → next_newline t from ≤ next_newline t pos
ends_within t right pos from low high at upto = elim (cases_lt (next_newline t pos) (next_newline t from)) [
  | inr fine ↦ fine
  | inl past ↦
      let (order, last) = next_bound t right pos low high in
      let (from_order, from_last) = next_bound t right from at (omega arith) in
      let here = next_at t right pos low high (omega arith) in
      absurd (both_ways _ (next_before t right from (next_newline t pos) at (omega arith) (omega arith) past (omega arith)) here)
]

module _ (classes : List Span) (t : TextValue) (right : IsText t) where
  abbrev from_begin : Reached classes t t.begin
  from_begin = record { last = 0; inside = false; rest = λ p low high. refl }

  -- the level of a line
  line_is : (from : ℕ) (r : Reached classes t from) → t.begin ≤ from → from ≤ t.end → (p : ℕ) → from ≤ p → p ≤ next_newline t from
      → (lines : List (List ℕ)) → rows t from ≡ between t from (next_newline t from) ∷ lines
      → text_level classes t p ≡ level_by classes r.last r.inside (between t from (next_newline t from)) lines
  line_is from r low high p at within lines cut =
      let to = next_newline t from in
      let (order, inside) = next_bound t right from low high in
      let size = between_size t right from to low order inside in
      r.rest p at (omega arith)
      ∙ levels_here classes r.last r.inside (between t from to) lines (rows t from) (p - from) cut (omega arith)

  -- one line further
  abbrev step : (from : ℕ) → Reached classes t from → t.begin ≤ from → from ≤ t.end → next_newline t from < t.end → Reached classes t (next_newline t from + 1)
  step from r low high more =
      let to = next_newline t from in
      let c = line_cut t from right low high in
      let order = c.order in
      let size = between_size t right from to low order c.within in
      let line = between t from to in
      record {
        last = level_by classes r.last r.inside line (rows t (to + 1));
        inside = not (is_separator line);
        rest = λ p at within.
            let place : p - from - (length line + 1) ≡ p - (to + 1) = omega arith in
            r.rest p (omega arith) within
            ∙ levels_next classes r.last r.inside line (rows t (to + 1)) (rows t from) (p - from) (c.more more) (omega arith)
            ∙ ap (λ (n : ℕ). get_or (levels_of classes (level_by classes r.last r.inside line (rows t (to + 1))) (not (is_separator line)) (rows t (to + 1))) n 0) place;
      }

  behind : (from : ℕ) → Reached classes t from → IsLineStart t from → t.begin ≤ from → from ≤ t.end → next_newline t from < t.end → ReachedBehind classes t (next_newline t from + 1)
  behind from r begins low high more =
      let to = next_newline t from in
      let c = line_cut t from right low high in
      let order = c.order in
      let back : to + 1 - 1 ≡ to = omega arith in
      record {
        start = from;
        begins = begins;
        first = low;
        order = omega arith;
        clear = λ k at less. next_before t right from k low high at (omega arith) (omega arith);
        reached = step from r low high more;
        inside_is = ap (λ (n : ℕ). not (is_separator (between t from n))) (sym back);
        last_is = sym (ap (text_level classes t) back ∙ line_is from r low high to order (omega arith) (rows t (to + 1)) (c.more more));
      }

  reach : (n from to : ℕ) → to ≤ from + n → Reached classes t from → IsLineStart t from → t.begin ≤ from → from < to → to ≤ t.end → is_newline (get_or t.text (to - 1 - 1) 0) ≡ true
      → ReachedBehind classes t to
  reach zero from to room r begins low less high newline = absurd (omega arith)
  reach (suc n) from to room r begins low less high newline = elim (cases_lt (to - 1) (next_newline t from)) [
    | inl past ↦ absurd (both_ways _ (next_before t right from (to - 1) low (omega arith) (omega arith) past (omega arith)) newline)
    | inr found ↦
        let (order, inside) = next_bound t right from low (omega arith) in
        elim (cases_lt (next_newline t from + 1) to) [
          | inl before ↦ reach n (next_newline t from + 1) to (omega arith) (step from r low (omega arith) (omega arith))
              (inr (omega arith, ap (λ (k : ℕ). is_newline (get_or t.text k 0)) (let e : next_newline t from + 1 - 1 - 1 ≡ next_newline t from - 1 = omega arith in e) ∙ next_at t right from low (omega arith) (omega arith)))
              (omega arith) before high newline
          | inr here ↦
              let e : next_newline t from + 1 ≡ to = omega arith in
              subst (ReachedBehind classes t) e (behind from r begins low (omega arith) (omega arith))
        ]
  ]

  -- the line before a paragraph is one of blanks alone
  from_start : (start : ℕ) → start ≤ t.end → (start ≡ t.begin) ⊎ EndsSeparator t start → FromStart classes t start
  from_start start high (inl is) = record {
    last = 0;
    none = λ _. refl;
    rest = λ p at within.
        let C : ℕ → Type 0 = λ n. text_level classes t p ≡ get_or (levels_of classes 0 false (rows t n)) (p - n) 0 in
        subst C (sym is) (from_begin.rest p (omega arith) within);
  }
  from_start start high (inr e) =
      let ordered = right.ordered in
      let order = e.order in
      let low : t.begin ≤ e.start = elim e.begins [ inl is ↦ omega arith | inr more ↦ let h = more.0 in omega arith ] in
      let b = reach start t.begin start (omega arith) from_begin (inl refl) (omega arith) (omega arith) high e.newline in
      let first = b.first in
      let b_order = b.order in
      let same : e.start ≤ b.start = elim (cases_lt b.start e.start) [
        | inr not_past ↦ not_past
        | inl past ↦ elim e.begins [
          | inl is ↦ absurd (omega arith)
          | inr line ↦ absurd (both_ways _ (b.clear (e.start - 1) (omega arith) (omega arith)) line.1)
        ]
      ] in
      let blank : is_separator (between t b.start (start - 1)) ≡ true
      = all_blank t right b.start (start - 1) first (omega arith) (omega arith) (λ k at less. blank_at t right e.start (start - 1) k low (omega arith) less (omega arith) e.blank) in
      let outside : b.reached.inside ≡ false = b.inside_is ∙ ap not blank in
      record {
        last = b.reached.last;
        none = λ is. absurd (omega arith);
        rest = λ p at within.
            b.reached.rest p at within ∙ ap (λ (v : Bool). get_or (levels_of classes b.reached.last v (rows t start)) (p - start) 0) outside;
      }

  -- a paragraph, from its start up to the line of a position: `place` is the last character up to that line's end that is
  -- neither newline nor blank, or the beginning
  module _ (pos place start : ℕ) (low : t.begin ≤ pos) (high : pos ≤ t.end) (from_low : t.begin ≤ place) (within : place ≤ next_newline t pos) (begins : IsParagraphStart t place start)
      (first : t.begin ≤ start) (reaches : start ≤ place) (line_within : next_newline t pos ≤ t.end)
      (no_ink : (k : ℕ) → place < k → k < next_newline t pos → is_ink (get_or t.text (k - 1) 0) ≡ false)
      (ink : (place ≡ t.begin) ⊎ ((place < next_newline t pos) × (is_ink (get_or t.text (place - 1) 0) ≡ true))) where
    -- a line of blanks alone lies behind the place
    past_place : (from : ℕ) → start ≤ from → IsLineStart t from → from ≤ t.end → next_newline t from < t.end → is_separator (between t from (next_newline t from)) ≡ true → place < next_newline t from + 1
    past_place from at line high' more blank = elim (cases_lt place (next_newline t from + 1)) [
      | inl fine ↦ fine
      | inr past ↦
          let to = next_newline t from in
          let (order, inside) = next_bound t right from (omega arith) high' in
          let back : to + 1 - 1 ≡ to = omega arith in
          absurd (begins.last (to + 1) (omega arith) past (record {
            start = from;
            begins = line;
            order = omega arith;
            newline = ap (λ (k : ℕ). is_newline (get_or t.text k 0)) (let e : to + 1 - 1 - 1 ≡ to - 1 = omega arith in e) ∙ next_at t right from (omega arith) high' more;
            blank = ap (λ (n : ℕ). is_separator (between t from n)) back ∙ blank;
          }))
    ]

    blank_behind : (from p : ℕ) → t.begin ≤ from → from ≤ p → p ≤ next_newline t pos → place < from → is_separator (between t from (next_newline t from)) ≡ true
    blank_behind from p at order p_high past =
        let ends = ends_within t right pos from low high at (omega arith) in
        let (to_order, inside) = next_bound t right from at (omega arith) in
        all_blank t right from (next_newline t from) at to_order inside
        (λ k lo hi. blank_else (get_or t.text (k - 1) 0) (next_before t right from k at (omega arith) lo hi (omega arith)) (no_ink k (omega arith) (omega arith)))

    -- a line has one level, where those behind it keep that
    on_line : (from p last level : ℕ) (inside : Bool) → start ≤ from → IsLineStart t from → from ≤ p → p ≤ next_newline t pos
        → ((lines : List (List ℕ)) → rows t from ≡ between t from (next_newline t from) ∷ lines → level_by classes last inside (between t from (next_newline t from)) lines ≡ level)
        → (next_newline t from < p → IsLineStart t (next_newline t from + 1) → (not (is_separator (between t from (next_newline t from))) ≡ true) ⊎ (place < next_newline t from + 1)
        → get_or (levels_of classes level (not (is_separator (between t from (next_newline t from)))) (rows t (next_newline t from + 1))) (p - (next_newline t from + 1)) 0 ≡ level)
        → get_or (levels_of classes last inside (rows t from)) (p - from) 0 ≡ level
    on_line from p last level inside at line order p_high one behind =
        let to = next_newline t from in
        let c = line_cut t from right (omega arith) (omega arith) in
        let c_order = c.order in
        let c_within = c.within in
        let size = between_size t right from to (omega arith) c_order c_within in
        let text = between t from to in
        elim (cases_lt to p) [
          | inr here ↦
              let some = some_line t from to c in
              levels_here classes last inside text some.0 (rows t from) (p - from) some.1 (omega arith) ∙ one some.0 some.1
          | inl further ↦
              let more : to < t.end = omega arith in
              let place_is : p - from - (length text + 1) ≡ p - (to + 1) = omega arith in
              let next_line : IsLineStart t (to + 1)
              = inr (omega arith, ap (λ (k : ℕ). is_newline (get_or t.text k 0)) (let e : to + 1 - 1 - 1 ≡ to - 1 = omega arith in e) ∙ next_at t right from (omega arith) (omega arith) more) in
              let next_kind : (not (is_separator text) ≡ true) ⊎ (place < to + 1) = elim (cases_Bool (is_separator text)) [
                | inl blank ↦ inr (past_place from at line (omega arith) more blank)
                | inr other ↦ inl (ap not other)
              ] in
              levels_next classes last inside text (rows t (to + 1)) (rows t from) (p - from) (c.more more) (omega arith)
              ∙ ap (λ (k : ℕ). get_or (levels_of classes (level_by classes last inside text (rows t (to + 1))) (not (is_separator text)) (rows t (to + 1))) k 0) place_is
              ∙ ap (λ (v : ℕ). get_or (levels_of classes v (not (is_separator text)) (rows t (to + 1))) (p - (to + 1)) 0) (one (rows t (to + 1)) (c.more more))
              ∙ behind further next_line next_kind
        ]

    stays : (n from p : ℕ) (level : ℕ) (inside : Bool) → t.end < from + n → start ≤ from → IsLineStart t from → from ≤ p → p ≤ next_newline t pos → (inside ≡ true) ⊎ (place < from)
        → get_or (levels_of classes level inside (rows t from)) (p - from) 0 ≡ level
    stays zero from p level inside room at line order p_high kind = absurd (omega arith)
    stays (suc n) from p level inside room at line order p_high kind =
        let to = next_newline t from in
        let (to_order, to_last) = next_bound t right from (omega arith) (omega arith) in
        let text = between t from to in
        on_line from p level level inside at line order p_high (λ lines _. elim kind [
          | inl is ↦ ap (λ (b : Bool). if is_separator text || b then level else unwrap_or (decided classes (text ∷ lines)) 0) is
              ∙ ap (λ (b : Bool). if b then level else unwrap_or (decided classes (text ∷ lines)) 0) (or_right (is_separator text) true refl)
          | inr past ↦ ap (λ (b : Bool). if b || inside then level else unwrap_or (decided classes (text ∷ lines)) 0) (blank_behind from p (omega arith) order p_high past)
        ])
        (λ more next next_kind. stays n (to + 1) p level (not (is_separator text)) (omega arith) (omega arith) next (omega arith) p_high next_kind)

    -- the line that begins the paragraph
    begins_line : IsLineStart t start
    begins_line = elim begins.begins [
      | inl is ↦ inl is
      | inr e ↦
          let order = e.order in
          let e_low : t.begin ≤ e.start = elim e.begins [ inl is ↦ omega arith | inr more ↦ let h = more.0 in omega arith ] in
          inr (omega arith, e.newline)
    ]

    -- where its first line is blank there is no other character
    no_text : is_separator (between t start (next_newline t start)) ≡ true → start ≡ t.begin
    no_text blank =
        let to = next_newline t start in
        let (order, inside) = next_bound t right start first (omega arith) in
        elim ink [
          | inl is ↦ omega arith
          | inr some ↦
              let some_at = some.0 in
              elim (cases_lt place to) [
                | inl less ↦ absurd (both_ways _ (blank_not_ink (get_or t.text (place - 1) 0) (blank_at t right start to place first reaches less inside blank)) some.1)
                | inr reached ↦ elim (cases_lt to t.end) [
                  | inr last ↦ absurd (omega arith)
                  | inl more ↦
                      let past = past_place start (omega arith) begins_line (omega arith) more blank in
                      let same : place ≡ to = omega arith in
                      absurd (both_ways _ (newline_not_ink (get_or t.text (place - 1) 0) (ap (λ (n : ℕ). is_newline (get_or t.text (n - 1) 0)) same ∙ next_at t right start first (omega arith) more)) some.1)
                ]
              ]
        ]

    -- each position from the start up to the end of the position's line has the level that the paragraph's lines give
    pub level_is : (p : ℕ) → start ≤ p → p ≤ next_newline t pos → text_level classes t p ≡ unwrap_or (decided classes (rows t start)) 0
    level_is p at p_high =
        let f = from_start start (omega arith) begins.begins in
        let to = next_newline t start in
        let (order, inside) = next_bound t right start first (omega arith) in
        let text = between t start to in
        let whole : ℕ = unwrap_or (decided classes (rows t start)) 0 in
        f.rest p at (omega arith) ∙ on_line start p f.last whole false (omega arith) begins_line at p_high (λ lines cut. elim (cases_Bool (is_separator text)) [
          | inr other ↦ ap (λ (b : Bool). if b || false then f.last else unwrap_or (decided classes (text ∷ lines)) 0) other
              ∙ ap (λ (ls : List (List ℕ)). unwrap_or (decided classes ls) 0) (sym cut)
          | inl blank ↦
              let nothing : f.last ≡ 0 = f.none (no_text blank) in
              ap (λ (b : Bool). if b || false then f.last else unwrap_or (decided classes (text ∷ lines)) 0) blank ∙ nothing
              ∙ sym (ap (λ (ls : List (List ℕ)). unwrap_or (decided classes ls) 0) cut
              ∙ ap (λ (b : Bool). unwrap_or (if b then None else option_or (p2_p3_level_of_line classes text) (decided classes lines)) 0) blank)
        ])
        (λ more next next_kind. stays t.end (to + 1) p whole (not (is_separator text)) (omega arith) (omega arith) next (omega arith) p_high next_kind)

-- the end of a line is its own
ends_itself : (t : TextValue) (right : IsText t) (pos : ℕ) → t.begin ≤ pos → pos ≤ t.end → next_newline t pos ≡ next_newline t (next_newline t pos)
ends_itself t right pos low high =
    let (order, last) = next_bound t right pos low high in
    omega (arith, (next_bound t right (next_newline t pos) (omega arith) last).0, ends_within t right pos (next_newline t pos) low high (omega arith) (omega arith))

-- the end of a position's line, and the place behind the last character before it that is no blank
pub line_bounds : (t : TextValue) (right : IsText t) (pos to : ℕ) → t.begin ≤ pos → pos ≤ t.end → to ≡ next_newline t pos
    → (pos ≤ to) × (to ≤ t.end) × (t.begin ≤ prev_ink t to) × (prev_ink t to ≤ to)
line_bounds t right pos to low high is =
    let (order, last) = next_bound t right pos low high in
    let ink = prev_ink_bound t right to (omega arith) (omega arith) in
    (omega arith, omega arith, ink.0, ink.1)

-- a paragraph is known up to the end of a position's line, where it begins at the position or before it
pub known_to : (classes : List Span) (t : TextValue) (right : IsText t) (p : Paragraph) (pos : ℕ) → t.begin ≤ pos → pos ≤ t.end
    → p.to ≡ next_newline t pos → t.begin ≤ p.from → p.from ≤ pos
    → ((place : ℕ) → p.from ≤ place → place ≤ p.to → text_level classes t place ≡ p.base) → IsKnown classes t p
known_to classes t right p pos low high is first before same =
    let (order, last) = next_bound t right pos low high in
    let ends = is ∙ ends_itself t right pos low high ∙ ap (next_newline t) (sym is) in
    record { first = first; order = omega arith; last = omega arith; ends = ends; same = same }

-- the start of a paragraph, by the places that the code finds, stands before the position
pub start_before : (t : TextValue) (right : IsText t) (pos ink place start : ℕ) → t.begin ≤ pos → pos ≤ t.end → ink ≡ prev_ink t (next_newline t pos) → place ≡ max t.begin (ink - 1)
    → IsParagraphStart t place start → start ≤ pos
start_before t right pos ink place start low high ink_is place_is begins = elim (cases_lt pos start) [
  | inr fine ↦ fine
  | inl past ↦
      let to = next_newline t pos in
      let (order, within, ink_low, ink_high) = line_bounds t right pos to low high refl in
      let b_order = begins.order in
      elim begins.begins [
        | inl is ↦ absurd (omega arith)
        | inr e ↦ absurd (both_ways _ (next_before t right pos (start - 1) low high (omega arith) (omega arith) (omega arith)) e.newline)
      ]
]

-- each position from a paragraph's start on has the level that the paragraph's lines give
pub paragraph_is : (classes : List Span) (t : TextValue) (right : IsText t) (pos ink place start : ℕ) → t.begin ≤ pos → pos ≤ t.end → ink ≡ prev_ink t (next_newline t pos) → place ≡ max t.begin (ink - 1)
    → IsParagraphStart t place start → (p : ℕ) → start ≤ p → p ≤ next_newline t pos → text_level classes t p ≡ unwrap_or (decided classes (rows t start)) 0
paragraph_is classes t right pos ink place start low high ink_is place_is begins p at p_high =
    let first = right.first in
    let to = next_newline t pos in
    let (order, within, ink_low, ink_high) = line_bounds t right pos to low high refl in
    level_is classes t right pos place start low high (omega arith) (omega arith) begins begins.first begins.order within
    (λ k past before. ink_after t right to k (omega arith) within (omega arith) (omega arith) before)
    (elim (cases_lt t.begin (prev_ink t to)) [
      | inl some ↦
          let there : place ≡ prev_ink t to - 1 = omega arith in
          inr (omega arith, ap (λ (n : ℕ). is_ink (get_or t.text (n - 1) 0)) there ∙ ink_at t right to (omega arith) within some)
      | inr none ↦ inl (omega arith)
    ])
    p at p_high

-- the level of the line behind one that ends at `end`, by the level there and by what the two lines are
pub record NextLine (classes : List Span) (t : TextValue) (end : ℕ) : Type 0 where
  pub kept : (p : ℕ) → end + 1 ≤ p → p ≤ next_newline t (end + 1)
      → (is_separator (between t (end + 1) (next_newline t (end + 1))) ≡ true) ⊎ (prev_newline t end < prev_ink t end) → text_level classes t p ≡ text_level classes t end
  pub fresh : (p : ℕ) → end + 1 ≤ p → p ≤ next_newline t (end + 1) → is_separator (between t (end + 1) (next_newline t (end + 1))) ≡ false → prev_ink t end ≤ prev_newline t end
      → text_level classes t p ≡ unwrap_or (decided classes (rows t (end + 1))) 0

-- where a line begins, as a search finds it
prev_is : (t : TextValue) (right : IsText t) (start pos : ℕ) → t.begin ≤ start → start ≤ pos → pos ≤ t.end → IsLineStart t start
    → ((k : ℕ) → start ≤ k → k < pos → is_newline (get_or t.text (k - 1) 0) ≡ false) → prev_newline t pos ≡ start
prev_is t right start pos low order high begins clear =
    let (least, most) = prev_bound t right pos (omega arith) high in
    elim (cases_lt start (prev_newline t pos)) [
      | inl past ↦
          absurd (both_ways _ (clear (prev_newline t pos - 1) (omega arith) (omega arith)) (prev_at t right pos (omega arith) high (omega arith)))
      | inr fine ↦ elim begins [
        | inl is ↦ omega arith
        | inr line ↦ elim (cases_lt (prev_newline t pos) start) [
          | inl short ↦ absurd (both_ways _ (prev_after t right pos (start - 1) (omega arith) high (omega arith) (omega arith)) line.1)
          | inr long ↦ omega arith
        ]
      ]
    ]

-- a line is one of blanks alone just where nothing else stands in it
pub line_blank : (t : TextValue) (right : IsText t) (from to : ℕ) → t.begin ≤ from → from ≤ to → to ≤ t.end → ((k : ℕ) → from ≤ k → k < to → is_newline (get_or t.text (k - 1) 0) ≡ false)
    → prev_ink t to ≤ from → is_separator (between t from to) ≡ true
line_blank t right from to low order high clear none =
    all_blank t right from to low order high
    (λ k at less. blank_else (get_or t.text (k - 1) 0) (clear k at less) (ink_after t right to k (omega arith) high (omega arith) (omega arith) less))

pub line_ink : (t : TextValue) (right : IsText t) (from to : ℕ) → t.begin ≤ from → from ≤ to → to ≤ t.end → from < prev_ink t to → is_separator (between t from to) ≡ false
line_ink t right from to low order high some =
    let bound = prev_ink_bound t right to (omega arith) high in
    some_ink t right from to (prev_ink t to - 1) low (omega arith) (omega arith) high (ink_at t right to (omega arith) high (omega arith))

pub next_line_is : (classes : List Span) (t : TextValue) (right : IsText t) (end : ℕ) → t.begin ≤ end → end < t.end → is_newline (get_or t.text (end - 1) 0) ≡ true → NextLine classes t end
next_line_is classes t right end low more newline =
    let from : ℕ = end + 1 in
    let back : from - 1 ≡ end = omega arith in
    let code : from - 1 - 1 ≡ end - 1 = omega arith in
    let b = reach classes t right from t.begin from (omega arith) (from_begin classes t right) (inl refl) (omega arith) (omega arith) (omega arith) (ap (λ (n : ℕ). is_newline (get_or t.text n 0)) code ∙ newline) in
    let first = b.first in
    let order = b.order in
    let start_is : prev_newline t end ≡ b.start = prev_is t right b.start end first (omega arith) (omega arith) b.begins (λ k at less. b.clear k at (omega arith)) in
    let inside : b.reached.inside ≡ not (is_separator (between t b.start end)) = b.inside_is ∙ ap (λ (n : ℕ). not (is_separator (between t b.start n))) back in
    let last : b.reached.last ≡ text_level classes t end = b.last_is ∙ ap (text_level classes t) back in
    let to = next_newline t from in
    let c = line_cut t from right (omega arith) (omega arith) in
    let c_order = c.order in
    let c_within = c.within in
    let some = some_line t from to c in
    let text = between t from to in
    let level = λ (p : ℕ) (at : from ≤ p) (within : p ≤ to). line_is classes t right from b.reached (omega arith) (omega arith) p at within some.0 some.1 in
    record {
      kept = λ p at within kind. level p at within ∙ elim kind [
        | inl blank ↦
            ap (λ (v : Bool). if v || b.reached.inside then b.reached.last else unwrap_or (decided classes (text ∷ some.0)) 0) blank ∙ last
        | inr ink ↦
            ap (λ (v : Bool). if is_separator text || v then b.reached.last else unwrap_or (decided classes (text ∷ some.0)) 0)
            (inside ∙ ap not (line_ink t right b.start end first (omega arith) (omega arith) (omega arith)))
            ∙ ap (λ (v : Bool). if v then b.reached.last else unwrap_or (decided classes (text ∷ some.0)) 0) (or_right (is_separator text) true refl) ∙ last
      ];
      fresh = λ p at within other blank. level p at within
          ∙ ap (λ (v : Bool). if v || b.reached.inside then b.reached.last else unwrap_or (decided classes (text ∷ some.0)) 0) other
          ∙ ap (λ (v : Bool). if v then b.reached.last else unwrap_or (decided classes (text ∷ some.0)) 0)
          (inside ∙ ap not (line_blank t right b.start end first (omega arith) (omega arith) (λ k lo hi. b.clear k lo (omega arith)) (omega arith)))
          ∙ ap (λ (ls : List (List ℕ)). unwrap_or (decided classes ls) 0) (sym some.1);
    }
