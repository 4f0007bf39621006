-- Texts without a newline, and the lines of a text.
use Rattle.std.proofs.Common.{◌≡◌, ◌≢◌, ℕ, ◌+◌, ◌<◌, ◌≤◌, ◌==◌, Bool, true, false, cond, List, [], ◌∷◌, ◌++◌, length, take, drop, get_or, nat_lt, Option, None, Some, refl, ap, ◌∙◌, subst, append_assoc, arith, MatchOption}
use Rattle.std.specs.List.{AllByRecursion, position_or_len}
use Rattle.std.specs.Prelude.{position}
use Rattle.std.proofs.lemmas.Bool.{eqb-true, eqb-false, ltb-true, ltb-false, ne_eqb}
use Rattle.std.proofs.lemmas.List.{get_or-take, length-take, take_all}
use Rattle.std.proofs.lemmas.List.Elements.{recursion_from_All}
use Rattle.std.proofs.lemmas.List.Sums.{fails_before_first, passes_at_first, split_at_first}
use Rattle.rd_base.proofs.Lists.{each-append, each-take}
use Rattle.rd_io.specs.Lines.{IsUnbroken, lines_of, text_of_lines, last_of}
use Rattle.rd_io.specs.Pieces.{BreaksAt}

pub unbroken-append : (xs ys : List ℕ) → IsUnbroken xs → IsUnbroken ys → IsUnbroken (xs ++ ys)
unbroken-append = each-append (λ b. b ≢ 10)

pub unbroken-take : (n : ℕ) (xs : List ℕ) → IsUnbroken xs → IsUnbroken (take n xs)
unbroken-take = each-take (λ b. b ≢ 10)

-- a search finds the first newline
pub position-place : (xs : List ℕ) (o : Option ℕ) → o ≡ position (λ b. b == 10) xs → MatchOption o (IsUnbroken xs) (λ i. BreaksAt xs i)
position-place xs o e = rw e (by-place (nat_lt n (length xs)) refl) where
  n : ℕ
  n = position_or_len (λ b. b == 10) xs

  none-before : (m : ℕ) → m ≤ n → IsUnbroken (take m xs)
  none-before m low = recursion_from_All (λ b. b ≢ 10) (take m xs) (λ k d inside.
      let size = length-take m xs in
      rw (get_or-take m xs k d (omega arith)) (eqb-false (get_or xs k d) 10 (fails_before_first (λ b. b == 10) xs k d (omega arith))))

  by-place : (t : Bool) → nat_lt n (length xs) ≡ t → MatchOption (cond t (Some n) None) (IsUnbroken xs) (λ i. BreaksAt xs i)
  by-place true found =
      let inside = ltb-true n (length xs) found in
      let here : get_or xs n 10 ≡ 10 = eqb-true (get_or xs n 10) 10 (passes_at_first (λ b. b == 10) xs 10 inside) in
      (inside, none-before n (omega arith), split_at_first (λ b. b == 10) xs 10 inside ∙ ap (λ b. take n xs ++ b ∷ drop (n + 1) xs) here)
  by-place false none = subst IsUnbroken (take_all n xs (ltb-false n (length xs) none)) (none-before n (omega arith))

-- ---- the law of lines

pub lines-whole : (line rest : List ℕ) → IsUnbroken line → lines_of (line ++ 10 ∷ rest) ≡ line ∷ lines_of rest
lines-whole [] rest p = refl
lines-whole (b ∷ bs) rest p = rw (ne_eqb b 10 p.0, lines-whole bs rest p.1) refl

pub lines-rest : (rest : List ℕ) → IsUnbroken rest → lines_of rest ≡ last_of rest
lines-rest [] p = refl
lines-rest (b ∷ []) p = rw (ne_eqb b 10 p.0) refl
lines-rest (b ∷ c ∷ cs) p = rw (ne_eqb b 10 p.0, lines-rest (c ∷ cs) p.1) refl

pub last-some : (line : List ℕ) → 0 < length line → last_of line ≡ line ∷ []
last-some [] p = absurd (omega arith)
last-some (b ∷ bs) p = refl

pub lines-behind : (lines : List (List ℕ)) (rest : List ℕ) → AllByRecursion IsUnbroken lines → lines_of (text_of_lines lines ++ rest) ≡ lines ++ lines_of rest
lines-behind [] rest p = refl
lines-behind (line ∷ lines) rest p =
    let regrouped : text_of_lines (line ∷ lines) ++ rest ≡ line ++ 10 ∷ (text_of_lines lines ++ rest) = simp append_assoc in
    ap lines_of regrouped ∙ lines-whole line (text_of_lines lines ++ rest) p.0 ∙ ap (λ ls. line ∷ ls) (lines-behind lines rest p.1)

pub lines-text_of_lines : (lines : List (List ℕ)) (rest : List ℕ) → AllByRecursion IsUnbroken lines → IsUnbroken rest → lines_of (text_of_lines lines ++ rest) ≡ lines ++ last_of rest
lines-text_of_lines lines rest p q = lines-behind lines rest p ∙ ap (λ ls. lines ++ ls) (lines-rest rest q)
