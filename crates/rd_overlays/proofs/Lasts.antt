-- The last of some numbers that has a value.
use Rattle.std.proofs.Common.{◌≡◌, ℕ, zero, suc, ◌+◌, ◌<◌, List, [], ◌∷◌, length, get_or, drop, Option, Some, None, sym, ap, ◌∙◌}
use Rattle.std.specs.Option.{option_or}
use Rattle.std.proofs.lemmas.List.{drop_more}
use Rattle.rd_overlays.specs.Values.{last_given}

module _ (value : ℕ → Option ℕ) where
  -- where none behind a place has a value, the last from the place on is what the one there has
  pub here-from : (numbers : List ℕ) (i n : ℕ) (o : Option ℕ) → n ≡ i + 1 → i < length numbers → value (get_or numbers i 0) ≡ o → last_given value (drop n numbers) ≡ None → last_given value (drop i numbers) ≡ o
  here-from numbers i n o next within is none =
      ap (last_given value) (drop_more numbers i 0 within)
      ∙ ap (λ (p : Option ℕ). option_or p (value (get_or numbers i 0))) (ap (λ (k : ℕ). last_given value (drop k numbers)) (sym next) ∙ none) ∙ is

  -- the last value from a place on is the last of all
  pub last-from : (numbers : List ℕ) (i given : ℕ) → last_given value (drop i numbers) ≡ Some given → last_given value numbers ≡ Some given
  last-from numbers zero given e = e
  last-from [] (suc i) given e = e
  last-from (number ∷ numbers) (suc i) given e = ap (λ (o : Option ℕ). option_or o (value number)) (last-from numbers i given e)
