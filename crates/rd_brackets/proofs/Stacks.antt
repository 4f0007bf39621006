-- The stack of the brackets that stand open, from its top (BD16).
use Rattle.std.proofs.Common.{◌≡◌, ◌≢◌, ℕ, ◌+◌, ◌<◌, ◌==◌, Bool, true, false, List, [], ◌∷◌, length, take, get_or, reverse, sym, ap, ◌∙◌}
use Rattle.std.specs.Prelude.{if◌then◌else◌}
use Rattle.std.proofs.lemmas.Bool.{eq-eqb, ne_eqb}
use Rattle.std.proofs.lemmas.List.{take_more, reverse-append}
use Rattle.rd_brackets.specs.declared.matching.Opened.{Opened}

-- what is looked up by a code's first entry from the top, here and at one entry of the stack
module _ {A : Type 0} (F : List Opened → A) (found : Opened → List Opened → A) (code : ℕ)
    (each : (x : Opened) (os : List Opened) → F (x ∷ os) ≡ (if x.partner == code then found x os else F os))
    (xs : List Opened) (n m : ℕ) (d : Opened) (next : n ≡ m + 1) (inside : m < length xs) where
  from-top : (b : Bool) → ((get_or xs m d).partner == code) ≡ b
      → F (reverse (take n xs)) ≡ (if b then found (get_or xs m d) (reverse (take m xs)) else F (reverse (take m xs)))
  from-top b test =
      let x = get_or xs m d in let os = reverse (take m xs) in
      ap (λ k. F (reverse (take k xs))) next ∙ ap (λ ys. F (reverse ys)) (take_more xs m d inside)
      ∙ ap F (reverse-append (take m xs) (x ∷ [])) ∙ each x os ∙ ap (λ t. if t then found x os else F os) test

  pub fits : (get_or xs m d).partner ≡ code → F (reverse (take n xs)) ≡ found (get_or xs m d) (reverse (take m xs))
  fits same = from-top true (eq-eqb _ code same)

  pub unlike : (get_or xs m d).partner ≢ code → F (reverse (take m xs)) ≡ F (reverse (take n xs))
  unlike other = sym (from-top false (ne_eqb _ code other))
