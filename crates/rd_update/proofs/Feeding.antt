-- What the numbers and clears of an update do to a terminal that is not confused and stands between two sequences.
use Rattle.std.proofs.Common.{◌≡◌, ℕ, suc, ◌+◌, ◌-◌, ◌/◌, ◌%◌, ◌^◌, ◌<◌, ◌≤◌, Bool, true, false, nat_lt, List, [], ◌∷◌, ◌++◌, length, map, Option, None, Some, refl, ap, ◌∙◌, arith}
use Rattle.std.specs.Fmt.{decimal}
use Rattle.std.proofs.lemmas.Bool.Decides.{nat_tests}
use Rattle.std.proofs.lemmas.Fmt.{decimal_by_steps}
use Rattle.std.specs.Char.{is_ascii_digit}
use Rattle.rd_base.specs.Faces.{Attributes, plain}
use Rattle.rd_term.specs.Parameters.{longer}
use Rattle.rd_term.specs.Terminals.{Tty, feed_byte, feed_bytes}
use Rattle.rd_term.specs.Shifts.{cleared}
use Rattle.rd_term.specs.declared.reading.Reading.TheVariants.{Sequence}
use Rattle.rd_term.proofs.Encoded.{Rows, reading_at, standing}
use Rattle.std.proofs.lemmas.List.Sums.{fold-append}
use Rattle.rd_update.specs.Updates.{repaint}

-- a terminal within a sequence
abbrev pub amid : (region : Option (ℕ × ℕ)) → Rows → Option (ℕ × ℕ) → Bool → Option Attributes → List ℕ → Option ℕ → Tty
amid region rows cursor wait pen ended last = reading_at region rows cursor wait pen None (Sequence (record { ended = ended; last = last; gap = false }))

-- ---- numbers

first_digit : (region : Option (ℕ × ℕ)) → (rows : Rows) (cursor : Option (ℕ × ℕ)) (wait : Bool) (pen : Option Attributes) (ended : List ℕ) (byte : ℕ)
    → is_ascii_digit byte ≡ true → nat_lt (length ended) 16 ≡ true
    → feed_byte (amid region rows cursor wait pen ended None) byte ≡ amid region rows cursor wait pen ended (Some (byte - 48))
first_digit region rows cursor wait pen ended byte d l = rw (d, l)

more_digit : (region : Option (ℕ × ℕ)) → (rows : Rows) (cursor : Option (ℕ × ℕ)) (wait : Bool) (pen : Option Attributes) (ended : List ℕ) (m byte : ℕ)
    → is_ascii_digit byte ≡ true
    → feed_byte (amid region rows cursor wait pen ended (Some (suc m))) byte ≡ amid region rows cursor wait pen ended (Some (longer (suc m) (byte - 48)))
more_digit region rows cursor wait pen ended m byte d = rw d

digit-is : (d : ℕ) → d < 10 → is_ascii_digit (48 + d) ≡ true
digit-is d p = grind (arith, nat_tests)

pub decimal_fed : (region : Option (ℕ × ℕ)) → (rows : Rows) (cursor : Option (ℕ × ℕ)) (wait : Bool) (pen : Option Attributes) (ended : List ℕ) (n : ℕ)
    → length ended < 16 → n ≤ 65535
    → feed_bytes (amid region rows cursor wait pen ended None) (decimal n) ≡ amid region rows cursor wait pen ended (Some n)
decimal_fed region rows cursor wait pen ended n room small =
    let P : ℕ → List ℕ → Type 0 = λ k ds. k ≤ 65535 → feed_bytes (amid region rows cursor wait pen ended None) ds ≡ amid region rows cursor wait pen ended (Some k) in
    let one : (k : ℕ) → k < 10 → P k ((48 + k) ∷ []) = λ k lt le.
    let some : nat_lt (length ended) 16 ≡ true = grind (arith, nat_tests) in
    let back : 48 + k - 48 ≡ k = omega arith in
    first_digit region rows cursor wait pen ended (48 + k) (digit-is k lt) some ∙ ap (λ j. amid region rows cursor wait pen ended (Some j)) back in
    let more : (k : ℕ) (ds : List ℕ) → 10 ≤ k → P (k / 10) ds → P k (ds ++ ((48 + k % 10) ∷ [])) = λ k ds ge ih le.
    let high : k / 10 ≡ suc (k / 10 - 1) = omega arith in
    let low : k % 10 < 10 = omega arith in
    let few : k / 10 ≤ 65535 = omega arith in
    let value : longer (suc (k / 10 - 1)) (48 + k % 10 - 48) ≡ k = omega arith in
    fold-append feed_byte (amid region rows cursor wait pen ended None) ds ((48 + k % 10) ∷ [])
    ∙ ap (λ t. feed_byte t (48 + k % 10)) (ih few ∙ ap (λ j. amid region rows cursor wait pen ended (Some j)) high)
    ∙ more_digit region rows cursor wait pen ended (k / 10 - 1) (48 + k % 10) (digit-is (k % 10) low)
    ∙ ap (λ j. amid region rows cursor wait pen ended (Some j)) value in
    let fits : n < 2 ^ 64 = omega arith in
    decimal_by_steps P one more n fits small

-- ---- clears

pub repaint_fed : (region : Option (ℕ × ℕ)) → (rows : Rows) (cursor : Option (ℕ × ℕ)) (wait : Bool) (pen : Option Attributes) (latest : Option (ℕ × ℕ))
    → feed_bytes (standing region rows cursor wait pen latest) repaint ≡ standing region (map cleared rows) cursor wait (Some plain) None
repaint_fed region rows cursor wait None latest = refl
repaint_fed region rows cursor wait (Some face) latest = refl
