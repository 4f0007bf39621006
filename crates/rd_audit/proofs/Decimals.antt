-- Numbers below 1,000, read back.
use Rattle.std.proofs.Common.{◌≡◌, ℕ, ◌+◌, ◌*◌, ◌/◌, ◌%◌, ◌<◌, ◌≤◌, true, Option, Some, option_and_then, decimal, List, [], ◌∷◌, ◌++◌, inl, inr, ap, ap₂, ◌∙◌, arith}
use Rattle.std.proofs.lemmas.Bool.{cases_lt}
use Rattle.std.proofs.lemmas.Bool.Decides.{nat_tests}
use Rattle.std.proofs.lemmas.Fmt.{decimal_digit, decimal_step}
use Rattle.std.specs.Option.{option_zip}
use Rattle.rd_audit.specs.Numbers.{digit, lead, longer, number_of, pair_of}
use Rattle.rd_audit.proofs.Lacking.{cut-seam, is_no_digit, lacks-decimal}

digit-read : (d : ℕ) → d < 10 → digit (48 + d) ≡ Some d
digit-read d less = grind (arith, nat_tests)

lead-read : (d : ℕ) → 0 < d → d < 10 → lead (48 + d) ≡ Some d
lead-read d some less = grind (arith, nat_tests)

two-digits : (n : ℕ) → 10 ≤ n → n < 100 → decimal n ≡ (48 + n / 10) ∷ (48 + n % 10) ∷ []
two-digits n low high = decimal_step n low (omega arith) ∙ ap (λ l. l ++ (48 + n % 10) ∷ []) (decimal_digit (n / 10) (omega arith))

three-digits : (n : ℕ) → 100 ≤ n → n < 1000 → decimal n ≡ (48 + n / 10 / 10) ∷ (48 + n / 10 % 10) ∷ (48 + n % 10) ∷ []
three-digits n low high = decimal_step n (omega arith) (omega arith) ∙ ap (λ l. l ++ (48 + n % 10) ∷ []) (two-digits (n / 10) (omega arith) (omega arith))

longer-read : (m d : Option ℕ) (a b : ℕ) → m ≡ Some a → d ≡ Some b → longer m d ≡ Some (10 * a + b)
longer-read m d a b p q = ap₂ longer p q

-- the number that a number's digits say
pub number-read : (n : ℕ) → n < 1000 → number_of (decimal n) ≡ Some n
number-read n small = elim (cases_lt n 10) [
  | inl one ↦ ap number_of (decimal_digit n one) ∙ digit-read n one
  | inr more ↦ elim (cases_lt n 100) [
    | inl two ↦
        let sum : 10 * (n / 10) + n % 10 ≡ n = omega arith in
        ap number_of (two-digits n more two)
        ∙ longer-read (lead (48 + n / 10)) (digit (48 + n % 10)) (n / 10) (n % 10) (lead-read (n / 10) (omega arith) (omega arith)) (digit-read (n % 10) (omega arith))
        ∙ ap Some sum
    | inr three ↦
        let sum : 10 * (10 * (n / 10 / 10) + n / 10 % 10) + n % 10 ≡ n = omega arith in
        ap number_of (three-digits n three small)
        ∙ longer-read (longer (lead (48 + n / 10 / 10)) (digit (48 + n / 10 % 10))) (digit (48 + n % 10)) (10 * (n / 10 / 10) + n / 10 % 10) (n % 10)
        (longer-read (lead (48 + n / 10 / 10)) (digit (48 + n / 10 % 10)) (n / 10 / 10) (n / 10 % 10) (lead-read (n / 10 / 10) (omega arith) (omega arith)) (digit-read (n / 10 % 10) (omega arith)))
        (digit-read (n % 10) (omega arith))
        ∙ ap Some sum
  ]
]

-- two numbers with a byte between them
pub pair-read : (byte m n : ℕ) → is_no_digit byte ≡ true → m < 1000 → n < 1000 → pair_of byte (decimal m ++ byte ∷ decimal n) ≡ Some (m, n)
pair-read byte m n apart p q =
    ap (option_and_then (λ (parts : List ℕ × List ℕ). option_zip (number_of parts.0) (number_of parts.1))) (cut-seam byte (decimal m) (decimal n) (lacks-decimal byte m apart))
    ∙ ap₂ option_zip (number-read m p) (number-read n q)
