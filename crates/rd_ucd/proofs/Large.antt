-- A number that is too large stays so.
use Rattle.std.proofs.Common.{◌≡◌, ℕ, ◌+◌, ◌*◌, ◌<◌, ◌≤◌, Bool, true, false, if◌then◌else◌, List, [], ◌∷◌, None, refl, sym, ap, ◌∙◌, length, get_or, drop, arith}
use Rattle.std.proofs.lemmas.List.{drop_more}
use Rattle.std.proofs.lemmas.Bool.Decides.{nat_tests}
use Rattle.std.specs.Char.{digit_value, is_digit}
use Rattle.std.specs.Int.{is_in_range}
use Rattle.rd_base.specs.declared.limits.TheConstants.{CODE_POINTS}
use Rattle.rd_ucd.specs.Codes.{number_from, in_range, code_of}

pub too_large : (n : ℕ) (digits : List ℕ) → CODE_POINTS ≤ n → in_range (number_from n digits) ≡ None
too_large n [] large = grind (arith, nat_tests)
too_large n (b ∷ bs) large =
    elim (is_digit b 16) as (λ v. in_range (if v then number_from (16 * n + digit_value b) bs else None) ≡ None) [
      | true ↦ too_large (16 * n + digit_value b) bs (omega arith)
      | false ↦ refl
    ]

-- the code of digits, when those read so far already make a number that is too large
pub code_of-too_large : (digits : List ℕ) (n i d v : ℕ) → 4 ≤ length digits → length digits ≤ 6 → i < length digits → get_or digits i 0 ≡ d
    → (is_digit d 16 ≡ true) → digit_value d ≡ v → CODE_POINTS ≤ 16 * n + v → in_range (number_from n (drop i digits)) ≡ in_range (number_from 0 digits)
    → code_of digits ≡ None
code_of-too_large digits n i d v long short within at hex value large rest =
    let four : is_in_range 4 6 (length digits) ≡ true = grind (arith, nat_tests) in
    let whole : code_of digits ≡ in_range (number_from 0 digits) = ap (λ (t : Bool). if t then in_range (number_from 0 digits) else None) four in
    let here : drop i digits ≡ d ∷ drop (i + 1) digits = drop_more digits i 0 within ∙ ap (λ (x : ℕ). x ∷ drop (i + 1) digits) at in
    let step : number_from n (d ∷ drop (i + 1) digits) ≡ number_from (16 * n + digit_value d) (drop (i + 1) digits) =
    ap (λ (t : Bool). if t then number_from (16 * n + digit_value d) (drop (i + 1) digits) else None) hex in
    whole ∙ sym rest ∙ ap (λ (xs : List ℕ). in_range (number_from n xs)) here ∙ ap in_range step ∙ too_large (16 * n + digit_value d) (drop (i + 1) digits) (omega arith)
