-- The definition's own words for one word and for a number are those that `clap` has.
use Rattle.std.proofs.Common.{arith, ◌≡◌, ◌∙◌, ℕ, ◌+◌, ◌==◌, ◌&&◌, ◌^◌, Bool, true, false, not, suc, [], ◌∷◌, length, Option, None, Some, option_map, refl, ap, ap₂}
use Rattle.std.specs.Prelude.{if◌then◌else◌, nat_le, nat_lt, option_and_then}
use Rattle.std.specs.List.{list_all, prefix_len}
use Rattle.std.specs.Option.{option_map_or}
use Rattle.std.specs.Char.{digit_value, is_ascii_digit}
use Rattle.std.specs.Str.{all_ascii_digits}
use Rattle.std.specs.Str.Parse.{digits_value, without_leading_plus}
use Rattle.std.proofs.lemmas.Bool.Decides.{nat_tests}
use native.Mathlib.Numerals.{unary_clauses}
use Rattle.clap.specs.Lexer.{long_of, long_of_rest, name_and_value as name_and_value_by_clap, strip_byte}
use Rattle.clap.specs.ValueTests.{is_numeral, is_unsigned_in}
use Rattle.rd_base.specs.Cuts.{cut}
use Rattle.rd_base.specs.declared.limits.TheConstants.{GENERATED_NUMBER}
use Rattle.rd_words.specs.Words.{Text, is_decimal, is_number, name_and_value, named_in}

-- ---- a name and its value

-- the name and the value where the text was cut so
abbrev parts_of : Option (Text × Text) → Text → Text × Option Text
parts_of o text = option_map_or (λ parts. (parts.0, Some parts.1)) o (text, None)

-- a byte more before the name
abbrev with_byte : ℕ → Text × Option Text → Text × Option Text
with_byte b p = (b ∷ p.0, p.1)

cut-more : (b : ℕ) (bs : Text) (o : Option (Text × Text)) → with_byte b (parts_of o bs) ≡ parts_of (option_map (λ parts. (b ∷ parts.0, parts.1)) o) (b ∷ bs)
cut-more b bs None = refl
cut-more b bs (Some parts) = refl

clap-more : (b : ℕ) (bs : Text) → (b == 61) ≡ false → name_and_value_by_clap (b ∷ bs) ≡ with_byte b (name_and_value_by_clap bs)
clap-more b bs e =
    let step : 1 + prefix_len (λ x. not (x == 61)) bs ≡ suc (prefix_len (λ x. not (x == 61)) bs) = omega arith in
    rw (e, step) (simp unary_clauses refl)

pub name_and_value-is : (text : Text) → name_and_value_by_clap text ≡ name_and_value text
name_and_value-is [] = refl
name_and_value-is (b ∷ bs) = go (b == 61) refl (name_and_value-is bs)
  where
    go : (t : Bool) → (b == 61) ≡ t → name_and_value_by_clap bs ≡ name_and_value bs → name_and_value_by_clap (b ∷ bs) ≡ name_and_value (b ∷ bs)
    go true e rest = rw e refl
    go false e rest = clap-more b bs e ∙ (ap (with_byte b) rest ∙ (cut-more b bs (cut 61 bs) ∙ rw e refl))

-- ---- a word with two hyphens

one_hyphen : (t : Bool) → option_and_then long_of_rest (option_and_then (strip_byte 45) (if t then Some [] else None)) ≡ None
one_hyphen true = refl
one_hyphen false = refl

-- two bytes, by whether they are hyphens
two : (b : ℕ) (rest : Text) (named : Option (Text × Option Text)) (t u : Bool) → (b == 45) ≡ u → long_of_rest rest ≡ named
    → option_and_then long_of_rest (option_and_then (strip_byte 45) (if t then Some (b ∷ rest) else None)) ≡ (if t && u then named else None)
two b rest named true true e h = rw e h
two b rest named true false e h = rw e refl
two b rest named false u e h = refl

nothing : (t : Bool) (o : Option (Text × Option Text)) → o ≡ None → (if t then o else None) ≡ None
nothing true o e = e
nothing false o e = refl

mapped : (t : Bool) (text : Text) → (if t then Some (name_and_value text) else None) ≡ option_map name_and_value (if t then Some text else None)
mapped true text = refl
mapped false text = refl

pub named_in-is : (word : Text) → long_of word ≡ named_in word
named_in-is [] = refl
named_in-is (a ∷ []) = one_hyphen (a == 45)
named_in-is (a ∷ b ∷ []) = two b [] None (a == 45) (b == 45) refl refl ∙ nothing (a == 45 && b == 45) None refl
named_in-is (a ∷ b ∷ c ∷ cs) =
    two b (c ∷ cs) (Some (name_and_value (c ∷ cs))) (a == 45) (b == 45) refl (ap Some (name_and_value-is (c ∷ cs))) ∙ mapped (a == 45 && b == 45) (c ∷ cs)

-- ---- a number

digit-is : (c : ℕ) → nat_lt (digit_value c) 10 ≡ is_ascii_digit c
digit-is c = grind (arith, nat_tests)

digits-are : (ds : Text) → list_all (λ d. nat_lt (digit_value d) 10) ds ≡ all_ascii_digits ds
digits-are [] = refl
digits-are (d ∷ ds) = rw (digit-is d, digits-are ds) refl

some_length : (n : ℕ) → nat_lt 0 (suc n) ≡ true
some_length n = grind (arith, nat_tests)

decimal-is : (ds : Text) → is_numeral ds ≡ is_decimal ds
decimal-is [] = refl
decimal-is (d ∷ ds) = ap₂ (λ a b. a && b) (some_length (length ds)) (digits-are (d ∷ ds))

limit-is : (n : ℕ) → (nat_lt n (2 ^ 64) && (nat_le 0 n && nat_le n GENERATED_NUMBER)) ≡ nat_le n GENERATED_NUMBER
limit-is n = grind (arith, nat_tests)

pub is_number-is : (text : Text) → is_unsigned_in 0 GENERATED_NUMBER text ≡ is_number text
is_number-is text = ap₂ (λ a b. a && b) (decimal-is (without_leading_plus text)) (limit-is (digits_value 10 (without_leading_plus text)))
