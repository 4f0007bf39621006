-- Where paragraphs begin.
use Rattle.std.proofs.Common.{◌≡◌, ℕ, ◌+◌, ◌-◌, ◌<◌, ◌≤◌, true, false, not, List, length, get_or, inl, inr, sym, ap, ◌∙◌, arith}
use Rattle.std.specs.Prelude.{slice_range}
use Rattle.std.specs.List.{position_or_len, suffix_len}
use Rattle.std.proofs.lemmas.Bool.{both_ways, cases_lt, not-true}
use Rattle.std.proofs.lemmas.List.Edits.{length-between, get_or-between}
use Rattle.std.proofs.lemmas.List.Elements.{All-from_get_or}
use Rattle.std.proofs.lemmas.List.Sums.{list_all-from_AllPass, passes_at_first, fails_before_first}
use Rattle.rd_text.specs.Texts.{TextValue, IsText, is_newline, is_blank, is_ink, is_separator, EndsSeparator, IsParagraphStart}
use Rattle.rd_text.specs.Pieces.{IsOpening}
use Rattle.rd_text.proofs.Openings.{opened, separated_is}
use Rattle.rd_text.proofs.Characters.{newline_not_blank, blank_not_ink, blank_else}
use Rattle.rd_text.proofs.Searches.{suffix_passes_at, blank_at}
use Rattle.rd_text.proofs.Summaries.{suffix_passes}

module _ (t : TextValue) (pos at : ℕ) (right : IsText t) (low : t.begin ≤ pos) (high : pos ≤ t.end) (o : IsOpening t.text (t.begin - 1) (pos - 1) at) where
  abbrev seen : List ℕ
  seen = slice_range t.text at (pos - 1)

  seen_size : length seen ≡ pos - 1 - at
  seen_size =
      let last = right.last in
      length-between t.text at (pos - 1) (omega arith)

  seen_at : (k : ℕ) → at + k < pos - 1 → get_or seen k 0 ≡ get_or t.text (at + k) 0
  seen_at k less = get_or-between t.text at (pos - 1) k 0 less

  -- a line of blanks alone that ends later holds all from there on
  from_opening : (r : ℕ) → at + 1 < r → r ≤ pos → EndsSeparator t r → (k : ℕ) → at ≤ k → k < r - 1 - 1 → is_blank (get_or t.text k 0) ≡ true
  from_opening r after before e k from to =
      let first = right.first in
      let last = right.last in
      let order = e.order in
      let in_line : (i : ℕ) → e.start - 1 ≤ i → i < r - 1 - 1 → is_blank (get_or t.text i 0) ≡ true
      = λ i lo hi.
      let there : i + 1 - 1 ≡ i = omega arith in
      ap (λ (n : ℕ). is_blank (get_or t.text n 0)) (sym there)
      ∙ blank_at t right e.start (r - 1) (i + 1) (elim e.begins [ inl same ↦ omega arith | inr line ↦ omega (arith, line.0) ]) (omega arith) (omega arith) (omega arith) e.blank in
      elim (cases_lt at (e.start - 1)) [
        | inr past ↦ in_line k (omega arith) to
        | inl starts_later ↦ elim e.begins [
          | inl is ↦ let f = o.first in absurd (omega arith)
          | inr line ↦
              let i : ℕ = e.start - 1 - 1 - at in
              let j : ℕ = r - 1 - 1 - at in
              let size = seen_size in
              let pi : at + i ≡ e.start - 1 - 1 = omega arith in
              let pj : at + j ≡ r - 1 - 1 = omega arith in
              absurd (both_ways _ o.clear (separated_is seen i j (omega arith) (omega arith)
              (ap is_newline (seen_at i (omega arith) ∙ ap (λ (n : ℕ). get_or t.text n 0) pi) ∙ line.1)
              (ap is_newline (seen_at j (omega arith) ∙ ap (λ (n : ℕ). get_or t.text n 0) pj) ∙ e.newline)
              (λ m lo hi. ap is_blank (seen_at m (omega arith)) ∙ in_line (at + m) (omega arith) (omega arith))))
        ]
      ]

  abbrev first_end : ℕ
  first_end = position_or_len is_newline seen

  -- no newline stands before the first one
  before_end : (k : ℕ) → at ≤ k → k < at + first_end → k < pos - 1 → is_newline (get_or t.text k 0) ≡ false
  before_end k from to inside =
      let back : at + (k - at) ≡ k = omega arith in
      ap is_newline (sym (seen_at (k - at) (omega arith) ∙ ap (λ (n : ℕ). get_or t.text n 0) back)) ∙ fails_before_first is_newline seen (k - at) 0 (omega arith)

  at_end : at + first_end < pos - 1 → is_newline (get_or t.text (at + first_end) 0) ≡ true
  at_end inside =
      let size = seen_size in
      ap is_newline (sym (seen_at first_end inside)) ∙ passes_at_first is_newline seen 0 (omega arith)

  -- where the first line is blank, or a search stopped there, it ends with the first newline
  end_is : (m : ℕ) → at + m < pos - 1 → is_newline (get_or t.text (at + m) 0) ≡ true → ((k : ℕ) → at ≤ k → k < at + m → is_blank (get_or t.text k 0) ≡ true) → first_end ≡ m
  end_is m inside newline blank = elim (cases_lt first_end m) [
    | inl less ↦ absurd (both_ways _ (newline_not_blank _ (blank (at + first_end) (omega arith) (omega arith))) (at_end (omega arith)))
    | inr more ↦ elim (cases_lt m first_end) [
      | inl past ↦ absurd (both_ways _ (before_end (at + m) (omega arith) (omega arith) inside) newline)
      | inr same ↦ omega arith
    ]
  ]

  abbrev line : List ℕ
  line = slice_range t.text at (at + first_end)

  line_size : at + first_end ≤ pos - 1 → length line ≡ first_end
  line_size within =
      let last = right.last in
      length-between t.text at (at + first_end) (omega arith) ∙ omega arith

  line_at : (k : ℕ) → k < first_end → get_or line k 0 ≡ get_or t.text (at + k) 0
  line_at k less = get_or-between t.text at (at + first_end) k 0 (omega arith)

  blank_line : at + first_end ≤ pos - 1 → ((k : ℕ) → at ≤ k → k < at + first_end → is_blank (get_or t.text k 0) ≡ true) → first_end ≡ suffix_len (λ c. not (is_ink c)) line
  blank_line within blank =
      let size = line_size within in
      let e = suffix_passes is_ink line (λ k less. ap is_ink (line_at k (omega arith)) ∙ blank_not_ink (get_or t.text (at + k) 0) (blank (at + k) (omega arith) (omega arith))) in
      omega arith

  -- what a search that stopped before its end found
  found_blank : t.begin - 1 < at → (at + first_end < pos - 1) × ((k : ℕ) → at ≤ k → k < at + first_end → is_blank (get_or t.text k 0) ≡ true)
  found_blank less =
      let f = opened seen (o.begins less) in
      let size = seen_size in
      let inside = f.inside in
      let blank : (k : ℕ) → at ≤ k → k < at + f.place → is_blank (get_or t.text k 0) ≡ true
      = λ k lo hi.
      let back : at + (k - at) ≡ k = omega arith in
      ap is_blank (sym (seen_at (k - at) (omega arith) ∙ ap (λ (n : ℕ). get_or t.text n 0) back)) ∙ f.blank (k - at) (omega arith) in
      let e = end_is f.place (omega arith) (ap is_newline (sym (seen_at f.place (omega arith))) ∙ f.newline) blank in
      (omega arith, λ k lo hi. blank k lo (omega arith))

  -- a search that goes back to the accessible beginning, and no separator that ends later
  starts : (t.begin - 1 < at → ⊥) → ((r : ℕ) → at + 1 < r → r ≤ pos → EndsSeparator t r → ⊥) → IsParagraphStart t pos (at + 1)
  starts none last =
      let first = right.first in
      let of = o.first in
      let ol = o.last in
      record {
        first = omega arith;
        order = omega arith;
        begins = elim (cases_lt (t.begin - 1) at) [ inl less ↦ absurd (none less) | inr same ↦ inl (omega arith) ];
        last = last;
      }

  -- the three ends of the search
  pub start_no_newline : at + first_end ≡ pos - 1 → IsParagraphStart t pos (at + 1)
  start_no_newline none =
      starts (λ less. let h = (found_blank less).0 in omega arith)
      (λ r after before e. absurd (both_ways _ (before_end (r - 1 - 1) (omega arith) (omega arith) (omega arith)) e.newline))

  pub start_ink : at + first_end < pos - 1 → suffix_len (λ c. not (is_ink c)) line < first_end → IsParagraphStart t pos (at + 1)
  start_ink inside ink =
      starts (λ less. let h = blank_line (omega arith) (found_blank less).1 in omega arith)
      (λ r after before e.
      let blank = from_opening r after before e in
      let back : at + (r - 1 - 1 - at) ≡ r - 1 - 1 = omega arith in
      let m = end_is (r - 1 - 1 - at) (omega arith) (ap (λ (n : ℕ). is_newline (get_or t.text n 0)) back ∙ e.newline) (λ k lo hi. blank k lo (omega arith)) in
      let h = blank_line (omega arith) (λ k lo hi. blank k lo (omega arith)) in
      omega arith)

  pub start_behind : at + first_end < pos - 1 → first_end ≤ suffix_len (λ c. not (is_ink c)) line → IsParagraphStart t pos (at + first_end + 2)
  start_behind inside whole =
      let first = right.first in
      let of = o.first in
      let ol = o.last in
      let size = line_size (omega arith) in
      let line_end : at + first_end + 2 - 1 - 1 ≡ at + first_end = omega arith in
      let zero_off : at + 1 - 1 ≡ at = omega arith in
      let blank : (k : ℕ) → k < first_end → is_blank (get_or line k 0) ≡ true
      = λ k less. blank_else _ (ap is_newline (line_at k less) ∙ before_end (at + k) (omega arith) (omega arith) (omega arith))
      (not-true _ (suffix_passes_at (λ c. not (is_ink c)) line k (omega arith) (omega arith))) in
      record {
        first = omega arith;
        order = omega arith;
        begins = inr (record {
          start = at + 1;
          begins = elim (cases_lt (t.begin - 1) at) [
            | inl less ↦ inr (omega arith, ap (λ (n : ℕ). is_newline (get_or t.text n 0)) (let e : at + 1 - 1 - 1 ≡ at - 1 = omega arith in e) ∙ o.newline less)
            | inr same ↦ inl (omega arith)
          ];
          order = omega arith;
          newline = ap (λ (n : ℕ). is_newline (get_or t.text n 0)) line_end ∙ at_end inside;
          blank = ap is_separator (ap (λ (n : ℕ). slice_range t.text n (at + first_end + 2 - 1 - 1)) zero_off ∙ ap (slice_range t.text at) line_end)
              ∙ list_all-from_AllPass is_blank line (All-from_get_or (λ c. is_blank c ≡ true) line 0 (λ k less. blank k (omega arith)));
        });
        last = λ r after before e.
            absurd (both_ways _ (newline_not_blank _ (from_opening r (omega arith) before e (at + first_end) (omega arith) (omega arith))) (at_end inside));
      }
