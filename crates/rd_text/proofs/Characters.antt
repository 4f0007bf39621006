-- A character is a newline, blank, or neither.
use Rattle.std.proofs.Common.{◌≡◌, ℕ, Bool, true, false, not, ◌||◌, inl, inr, refl, sym, ap, ◌∙◌}
use Rattle.std.proofs.lemmas.Bool.{both_ways, cases_eq, not-false, ne_eqb, or_right}
use Rattle.rd_text.specs.Texts.{is_newline, is_blank, is_ink}

pub newline_not_blank : (c : ℕ) → is_blank c ≡ true → is_newline c ≡ false
newline_not_blank c e = elim (cases_eq c 10) [
  | inl is ↦ let no : false ≡ true = sym (ap is_blank is) ∙ e in absurd (cc)
  | inr other ↦ ne_eqb c 10 other
]

pub blank_not_ink : (c : ℕ) → is_blank c ≡ true → is_ink c ≡ false
blank_not_ink c e = ap not (or_right (is_newline c) (is_blank c) e)

pub newline_not_ink : (c : ℕ) → is_newline c ≡ true → is_ink c ≡ false
newline_not_ink c e = ap (λ (b : Bool). not (b || is_blank c)) e

pub blank_else : (c : ℕ) → is_newline c ≡ false → is_ink c ≡ false → is_blank c ≡ true
blank_else c n e = not-false (is_blank c) (sym (ap (λ (b : Bool). not (b || is_blank c)) n) ∙ e)

pub ink_not_blank : (c : ℕ) → is_ink c ≡ true → is_blank c ≡ false
ink_not_blank c e = go (is_blank c) refl where
  go : (b : Bool) → is_blank c ≡ b → b ≡ false
  go true h = absurd (both_ways (is_ink c) (blank_not_ink c h) e)
  go false h = refl
