-- What the searches of a text tell of its characters.
use Rattle.std.proofs.Common.{◌≡◌, ℕ, ◌+◌, ◌-◌, ◌<◌, ◌≤◌, Bool, true, false, not, List, length, get_or, reverse, sym, ap, ◌∙◌, arith}
use Rattle.std.specs.List.{position_or_len, suffix_len}
use Rattle.std.proofs.lemmas.Bool.{not-true, not-false}
use Rattle.std.proofs.lemmas.List.{get_or-reverse, length-reverse}
use Rattle.std.proofs.lemmas.List.Edits.{length-between, get_or-between}
use Rattle.std.proofs.lemmas.List.Elements.{All-from_get_or}
use Rattle.std.proofs.lemmas.List.Folds.{list_all_at}
use Rattle.std.proofs.lemmas.List.Sums.{list_all-from_AllPass, AllPass-from_list_all, passes_at_first, fails_before_first, prefix_len_passes, prefix_len_stops, prefix_len-le-length, suffix_len-le-length}
use Rattle.rd_text.specs.Texts.{TextValue, IsText, is_newline, is_blank, is_ink, is_separator, between, next_newline, prev_newline, prev_ink}
use Rattle.rd_text.proofs.Characters.{ink_not_blank}

pub suffix_passes_at : (p : ℕ → Bool) (xs : List ℕ) (k : ℕ) → length xs ≤ k + suffix_len p xs → k < length xs → p (get_or xs k 0) ≡ true
suffix_passes_at p xs k high less =
    let m : ℕ = length xs - 1 - k in
    let place : length xs - 1 - m ≡ k = omega arith in
    ap p (sym (get_or-reverse xs m 0 (omega arith) ∙ ap (λ (n : ℕ). get_or xs n 0) place)) ∙ prefix_len_passes p (reverse xs) m 0 (omega arith)

pub suffix_stops_at : (p : ℕ → Bool) (xs : List ℕ) → suffix_len p xs < length xs → p (get_or xs (length xs - 1 - suffix_len p xs) 0) ≡ false
suffix_stops_at p xs less =
    let size = length-reverse xs in
    ap p (sym (get_or-reverse xs (suffix_len p xs) 0 less)) ∙ prefix_len_stops p (reverse xs) 0 (omega arith)

module _ (t : TextValue) (right : IsText t) where
  -- the character at a place of a range
  pub between_at : (from to k : ℕ) → t.begin ≤ from → from ≤ k → k < to → get_or (between t from to) (k - from) 0 ≡ get_or t.text (k - 1) 0
  between_at from to k low at less =
      let first = right.first in
      let place : from - 1 + (k - from) ≡ k - 1 = omega arith in
      get_or-between t.text (from - 1) (to - 1) (k - from) 0 (omega arith) ∙ ap (λ (n : ℕ). get_or t.text n 0) place

  pub between_size : (from to : ℕ) → t.begin ≤ from → from ≤ to → to ≤ t.end → length (between t from to) ≡ to - from
  between_size from to low order high =
      let first = right.first in
      let last = right.last in
      length-between t.text (from - 1) (to - 1) (omega arith) ∙ omega arith

  pub next_bound : (from : ℕ) → t.begin ≤ from → from ≤ t.end → (from ≤ next_newline t from) × (next_newline t from ≤ t.end)
  next_bound from low high =
      let size = between_size from t.end low high (omega arith) in
      let bound = prefix_len-le-length (λ c. not (is_newline c)) (between t from t.end) in
      (omega arith, omega arith)

  -- no newline stands before the next one
  pub next_before : (from k : ℕ) → t.begin ≤ from → from ≤ t.end → from ≤ k → k < next_newline t from → k < t.end → is_newline (get_or t.text (k - 1) 0) ≡ false
  next_before from k low high at less inside =
      ap is_newline (sym (between_at from t.end k low at inside)) ∙ fails_before_first is_newline (between t from t.end) (k - from) 0 (omega arith)

  pub next_at : (from : ℕ) → t.begin ≤ from → from ≤ t.end → next_newline t from < t.end → is_newline (get_or t.text (next_newline t from - 1) 0) ≡ true
  next_at from low high inside =
      let n : ℕ = position_or_len is_newline (between t from t.end) in
      let size = between_size from t.end low high (omega arith) in
      let place : from + n - from ≡ n = omega arith in
      ap is_newline (sym (ap (λ (i : ℕ). get_or (between t from t.end) i 0) (sym place) ∙ between_at from t.end (from + n) low (omega arith) inside))
      ∙ passes_at_first is_newline (between t from t.end) 0 (omega arith)

  -- where a search back passes, and where it stops
  behind : (p : ℕ → Bool) (pos k : ℕ) → t.begin ≤ pos → pos ≤ t.end → t.begin ≤ k → pos - suffix_len (λ c. not (p c)) (between t t.begin pos) ≤ k → k < pos → p (get_or t.text (k - 1) 0) ≡ false
  behind p pos k low high first at less =
      let xs = between t t.begin pos in
      let size = between_size t.begin pos (omega arith) low high in
      not-true _ (ap (λ (c : ℕ). not (p c)) (sym (between_at t.begin pos k (omega arith) first less))
      ∙ suffix_passes_at (λ c. not (p c)) xs (k - t.begin) (omega arith) (omega arith))

  last_at : (p : ℕ → Bool) (pos : ℕ) → t.begin ≤ pos → pos ≤ t.end → t.begin < pos - suffix_len (λ c. not (p c)) (between t t.begin pos)
      → p (get_or t.text (pos - suffix_len (λ c. not (p c)) (between t t.begin pos) - 1 - 1) 0) ≡ true
  last_at p pos low high some =
      let xs = between t t.begin pos in
      let size = between_size t.begin pos (omega arith) low high in
      let k : ℕ = pos - suffix_len (λ c. not (p c)) xs - 1 in
      let place : length xs - 1 - suffix_len (λ c. not (p c)) xs ≡ k - t.begin = omega arith in
      let e = suffix_stops_at (λ c. not (p c)) xs (omega arith) in
      ap p (sym (between_at t.begin pos k (omega arith) (omega arith) (omega arith))) ∙ ap (λ (n : ℕ). p (get_or xs n 0)) (sym place) ∙ not-false _ e

  bound : (p : ℕ → Bool) (pos : ℕ) → t.begin ≤ pos → pos ≤ t.end
      → (t.begin ≤ pos - suffix_len (λ c. not (p c)) (between t t.begin pos)) × (pos - suffix_len (λ c. not (p c)) (between t t.begin pos) ≤ pos)
  bound p pos low high =
      let size = between_size t.begin pos (omega arith) low high in
      let most = suffix_len-le-length (λ c. not (p c)) (between t t.begin pos) in
      (omega arith, omega arith)

  pub prev_bound : (pos : ℕ) → t.begin ≤ pos → pos ≤ t.end → (t.begin ≤ prev_newline t pos) × (prev_newline t pos ≤ pos)
  prev_bound = bound is_newline

  -- none stands behind the last one before a position
  pub prev_after : (pos k : ℕ) → t.begin ≤ pos → pos ≤ t.end → prev_newline t pos ≤ k → k < pos → is_newline (get_or t.text (k - 1) 0) ≡ false
  prev_after pos k low high at less =
      let bound = prev_bound pos low high in
      behind is_newline pos k low high (omega arith) (omega arith) less

  pub prev_at : (pos : ℕ) → t.begin ≤ pos → pos ≤ t.end → t.begin < prev_newline t pos → is_newline (get_or t.text (prev_newline t pos - 1 - 1) 0) ≡ true
  prev_at = last_at is_newline

  -- nothing but newlines and blanks stands behind the last other character
  pub ink_after : (pos k : ℕ) → t.begin ≤ pos → pos ≤ t.end → t.begin ≤ k → prev_ink t pos ≤ k → k < pos → is_ink (get_or t.text (k - 1) 0) ≡ false
  ink_after = behind is_ink

  pub ink_at : (pos : ℕ) → t.begin ≤ pos → pos ≤ t.end → t.begin < prev_ink t pos → is_ink (get_or t.text (prev_ink t pos - 1 - 1) 0) ≡ true
  ink_at = last_at is_ink

  pub prev_ink_bound : (pos : ℕ) → t.begin ≤ pos → pos ≤ t.end → (t.begin ≤ prev_ink t pos) × (prev_ink t pos ≤ pos)
  prev_ink_bound = bound is_ink

  -- a range of blanks alone, and one with another character
  pub all_blank : (from to : ℕ) → t.begin ≤ from → from ≤ to → to ≤ t.end → ((k : ℕ) → from ≤ k → k < to → is_blank (get_or t.text (k - 1) 0) ≡ true) → is_separator (between t from to) ≡ true
  all_blank from to low order high blank =
      let size = between_size from to low order high in
      list_all-from_AllPass is_blank (between t from to) (All-from_get_or (λ c. is_blank c ≡ true) (between t from to) 0
      (λ k less. let place : from + k - from ≡ k = omega arith in
      ap is_blank (ap (λ (n : ℕ). get_or (between t from to) n 0) (sym place) ∙ between_at from to (from + k) low (omega arith) (omega arith)) ∙ blank (from + k) (omega arith) (omega arith)))

  pub some_ink : (from to k : ℕ) → t.begin ≤ from → from ≤ k → k < to → to ≤ t.end → is_ink (get_or t.text (k - 1) 0) ≡ true → is_separator (between t from to) ≡ false
  some_ink from to k low at less high ink =
      let size = between_size from to low (omega arith) high in
      list_all_at is_blank (between t from to) (k - from) 0 (omega arith) (ap is_blank (between_at from to k low at less) ∙ ink_not_blank (get_or t.text (k - 1) 0) ink)

  pub blank_at : (from to k : ℕ) → t.begin ≤ from → from ≤ k → k < to → to ≤ t.end → is_separator (between t from to) ≡ true → is_blank (get_or t.text (k - 1) 0) ≡ true
  blank_at from to k low at less high blank =
      let size = between_size from to low (omega arith) high in
      ap is_blank (sym (between_at from to k low at less)) ∙ AllPass-from_list_all is_blank (between t from to) blank (k - from) 0 (omega arith)
