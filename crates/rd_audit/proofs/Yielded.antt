-- Pieces as an iterator gives them, each the step of a walk.
use Rattle.std.proofs.Common.{◌≡◌, ℕ, ◌+◌, Option, None, Some, option_and_then, List, [], ◌∷◌, ◌++◌, length, drop, ap, sym, ◌∙◌, arith}
use Rattle.std.specs.Iterator.{Yields}
use Rattle.std.proofs.lemmas.Iterator.{YieldsList}
use Rattle.std.proofs.lemmas.Iterator.Consumers.{YieldsList-end, YieldsList-turn}
use Rattle.std.proofs.lemmas.List.{at_drop_more, at_drop_all, length_push}

-- what a walk that has met xs and stands at a makes of the whole: by its step at the piece that comes next, or at the end
pub record Goes {A B T : Type 0} (v : A → List ℕ) (made : T → List (List ℕ) → Option B) (step : T → List ℕ → Option T) (texts : List (List ℕ)) (xs : List A) (a : T) (r : Option A) (whole : Option B) : Type 0 where
  pub on : (x : A) → r ≡ Some x → option_and_then (λ b. made b (drop (length (xs ++ x ∷ [])) texts)) (step a (v x)) ≡ whole
  pub out : r ≡ None → made a [] ≡ whole

-- a walk makes the whole by its next step, or at the end, where what it holds so far and the texts that are left make the whole
pub goes : {S A B T : Type 0} {steps : S → Option A → S → Type 0} {v : A → List ℕ} {s : S} {made : T → List (List ℕ) → Option B} {step : T → List ℕ → Option T} {texts : List (List ℕ)} {a : T} {whole : Option B}
    → ((b : T) (x : List ℕ) (xs : List (List ℕ)) → made b (x ∷ xs) ≡ option_and_then (λ n. made n xs) (step b x))
    → YieldsList steps v s texts → (xs : List A) (t : S) → Yields steps s xs t → (r : Option A) (u : S) → steps t r u
    → made a (drop (length xs) texts) ≡ whole → Goes v made step texts xs a r whole
goes {v = v} {made = made} {step = step} {texts = texts} {a = a} turn all xs t yielded r u next so-far = record {
  on = λ x is.
      let turned = YieldsList-turn all xs t yielded r u x is next in
      ap (λ n. option_and_then (λ b. made b (drop n texts)) (step a (v x))) (length_push xs x)
      ∙ sym (turn a (v x) (drop (length xs + 1) texts))
      ∙ ap (λ text. made a (text ∷ drop (length xs + 1) texts)) turned.1
      ∙ sym (at_drop_more (made a) texts (length xs) (v x) turned.0)
      ∙ so-far;
  out = λ is. sym (at_drop_all (made a) texts (length xs) (omega (arith, (YieldsList-end all xs t yielded r u is next).1))) ∙ so-far;
}
