-- The bytes of a character, read by a terminal that stands between two sequences.
use Rattle.std.proofs.Common.{◌≡◌, ◌≢◌, ℕ, ◌+◌, ◌*◌, ◌/◌, ◌%◌, ◌<◌, ◌≤◌, ◌==◌, Bool, true, false, nat_lt, nat_le, List, [], ◌∷◌, Option, Some, refl, sym, ap, ◌∙◌, arith, inl, inr}
use Rattle.std.specs.Char.{encode_utf8}
use Rattle.std.proofs.lemmas.Bool.{cases_lt, cases_eq, lt-ltb, le-ltb, ne_eqb}
use Rattle.std.proofs.lemmas.Bool.Decides.{nat_tests}
use Rattle.rd_base.specs.Chars.{is_scalar, columns_of}
use Rattle.rd_base.specs.Faces.{Attributes}
use Rattle.rd_term.specs.Characters.{CharacterRead, begun, with_bits, continued, read}
use Rattle.rd_term.specs.Terminals.{Tty, feed_byte, feed_bytes, show}
use Rattle.rd_term.specs.declared.reading.Reading.{Reading}
use Rattle.rd_term.specs.declared.reading.Reading.TheVariants.{Between, Character}
pub use Rattle.rd_term.proofs.Shapes.{Rows}

-- a terminal that is not confused, by what it has read
abbrev pub reading_at : Option (ℕ × ℕ) → Rows → Option (ℕ × ℕ) → Bool → Option Attributes → Option (ℕ × ℕ) → Reading → Tty
reading_at region rows cursor wait pen latest reading = record { rows = rows; region = region; cursor = cursor; wait = wait; pen = pen; latest = latest; reading = reading; confused = false }

-- a terminal between two sequences
abbrev pub standing : Option (ℕ × ℕ) → Rows → Option (ℕ × ℕ) → Bool → Option Attributes → Option (ℕ × ℕ) → Tty
standing region rows cursor wait pen latest = reading_at region rows cursor wait pen latest Between

-- ---- first bytes

begun-two : (n : ℕ) → 2 ≤ n → n < 32 → begun (192 + n) ≡ read n 1 128 191
begun-two n low high = grind (arith, nat_tests)

begun-three : (n : ℕ) → 1 ≤ n → n < 16 → (n == 13) ≡ false → begun (224 + n) ≡ read n 2 128 191
begun-three n low high other = grind (arith, nat_tests)

begun-four : (n : ℕ) → 1 ≤ n → n < 4 → begun (240 + n) ≡ read n 3 128 191
begun-four n low high = grind (arith, nat_tests)

scalar-high : (code : ℕ) → is_scalar code ≡ true → 55296 ≤ code → 57344 ≤ code
scalar-high code scalar le = grind (arith, nat_tests)

scalar-most : (code : ℕ) → is_scalar code ≡ true → code < 1114112
scalar-most code scalar = grind (arith, nat_tests)

-- ---- a terminal that stands between two sequences

module _ (region : Option (ℕ × ℕ)) (rows : Rows) (cursor : Option (ℕ × ℕ)) (wait : Bool) (pen : Option Attributes) (latest : Option (ℕ × ℕ)) where
  abbrev at : Reading → Tty
  at reading = reading_at region rows cursor wait pen latest reading

  abbrev between : Tty
  between = at Between

  begin-step : (byte : ℕ) (c : CharacterRead) → (byte == 27) ≡ false → nat_lt byte 128 ≡ false → begun byte ≡ Some c
      → feed_byte between byte ≡ at (Character c)
  begin-step byte c p q e = rw (p, q, e) refl

  next-step : (byte : ℕ) (c : CharacterRead) → nat_lt byte c.low ≡ false → nat_lt c.high byte ≡ false → nat_le c.due 1 ≡ false
      → feed_byte (at (Character c)) byte ≡ at (Character (continued c byte))
  next-step byte c p q r = rw (p, q, r) refl

  last-step : (byte : ℕ) (c : CharacterRead) (code : ℕ)
      → nat_lt byte c.low ≡ false → nat_lt c.high byte ≡ false → nat_le c.due 1 ≡ true → with_bits c byte ≡ code
      → feed_byte (at (Character c)) byte ≡ show code (columns_of code) between
  last-step byte c code p q r e = rw (p, q, r, e) refl

  -- ---- by the number of bytes

  abbrev Fed : ℕ → List ℕ → Type 0
  Fed code bytes = feed_bytes between bytes ≡ show code (columns_of code) between

  one-fed : (code : ℕ) → (code == 27) ≡ false → nat_lt code 128 ≡ true → Fed code (code ∷ [])
  one-fed code p q = rw (p, q) refl

  two-fed : (code a b bits : ℕ)
      → (a == 27) ≡ false → nat_lt a 128 ≡ false → begun a ≡ read bits 1 128 191 → nat_lt b 128 ≡ false → nat_lt 191 b ≡ false → 64 * bits + b % 64 ≡ code
      → Fed code (a ∷ b ∷ [])
  two-fed code a b bits p q e l h s =
      ap (λ t. feed_byte t b) (begin-step a (record { bits = bits; due = 1; low = 128; high = 191 }) p q e)
      ∙ last-step b (record { bits = bits; due = 1; low = 128; high = 191 }) code l h refl s

  -- the last two bytes of three or four
  two-left : (code b c bits low high : ℕ) → nat_lt b low ≡ false → nat_lt high b ≡ false → nat_lt c 128 ≡ false → nat_lt 191 c ≡ false
      → 64 * (64 * bits + b % 64) + c % 64 ≡ code
      → feed_bytes (at (Character (record { bits = bits; due = 2; low = low; high = high }))) (b ∷ c ∷ []) ≡ show code (columns_of code) between
  two-left code b c bits low high l h m i s =
      ap (λ t. feed_byte t c) (next-step b (record { bits = bits; due = 2; low = low; high = high }) l h refl)
      ∙ last-step c (record { bits = 64 * bits + b % 64; due = 1; low = 128; high = 191 }) code m i refl s

  three-fed : (code a b c bits low high : ℕ)
      → (a == 27) ≡ false → nat_lt a 128 ≡ false → begun a ≡ read bits 2 low high → nat_lt b low ≡ false → nat_lt high b ≡ false
      → nat_lt c 128 ≡ false → nat_lt 191 c ≡ false → 64 * (64 * bits + b % 64) + c % 64 ≡ code
      → Fed code (a ∷ b ∷ c ∷ [])
  three-fed code a b c bits low high p q e l h m i s =
      ap (λ t. feed_bytes t (b ∷ c ∷ [])) (begin-step a (record { bits = bits; due = 2; low = low; high = high }) p q e)
      ∙ two-left code b c bits low high l h m i s

  four-fed : (code a b c d bits low high : ℕ)
      → (a == 27) ≡ false → nat_lt a 128 ≡ false → begun a ≡ read bits 3 low high → nat_lt b low ≡ false → nat_lt high b ≡ false
      → nat_lt c 128 ≡ false → nat_lt 191 c ≡ false → nat_lt d 128 ≡ false → nat_lt 191 d ≡ false → 64 * (64 * (64 * bits + b % 64) + c % 64) + d % 64 ≡ code
      → Fed code (a ∷ b ∷ c ∷ d ∷ [])
  four-fed code a b c d bits low high p q e l h m i n j s =
      let one : CharacterRead = record { bits = bits; due = 3; low = low; high = high } in
      ap (λ t. feed_bytes t (b ∷ c ∷ d ∷ [])) (begin-step a one p q e)
      ∙ ap (λ t. feed_bytes t (c ∷ d ∷ [])) (next-step b one l h refl)
      ∙ two-left code c d (64 * bits + b % 64) 128 191 m i n j s

  -- ---- all characters

  fed-two : (code : ℕ) → 128 ≤ code → code < 2048 → Fed code ((192 + code / 64) ∷ (128 + code % 64) ∷ [])
  fed-two code low high =
      let n : code / 64 < 32 = omega arith in
      let m : 2 ≤ code / 64 = omega arith in
      two-fed code (192 + code / 64) (128 + code % 64) (code / 64)
      (ne_eqb (192 + code / 64) 27 (λ e. omega arith)) (le-ltb (192 + code / 64) 128 (omega arith)) (begun-two (code / 64) m n)
      (le-ltb (128 + code % 64) 128 (omega arith)) (le-ltb 191 (128 + code % 64) (omega arith)) (omega arith)

  -- three bytes and four, by the bits that the first gives: at 0 the second has another least bound, and at one place (13, before the
  -- surrogates; 4, the last codes) another greatest
  by-bits : (base n due least last most second : ℕ) {P : Type 0}
      → begun (base + 0) ≡ read 0 due least 191 → begun (base + last) ≡ read last due 128 most → (1 ≤ n → n ≢ last → begun (base + n) ≡ read n due 128 191)
      → (n ≡ 0 → least ≤ second) → (n ≡ last → second ≤ most) → 128 ≤ second → second ≤ 191
      → ((bits low high : ℕ) → bits ≡ n → begun (base + n) ≡ read bits due low high → low ≤ second → second ≤ high → P) → P
  by-bits base n due least last most second first end between above below low high made = elim (cases_eq n 0) [
    | inl zero ↦ made 0 least 191 (sym zero) (ap (λ m. begun (base + m)) zero ∙ first) (above zero) high
    | inr some ↦ elim (cases_eq n last) [
      | inl is ↦ made last 128 most (sym is) (ap (λ m. begun (base + m)) is ∙ end) low (below is)
      | inr not ↦ made n 128 191 refl (between (omega arith) not) low high
    ]
  ]

  fed-three : (code : ℕ) → is_scalar code ≡ true → 2048 ≤ code → code < 65536
      → Fed code ((224 + code / 4096) ∷ (128 + code / 64 % 64) ∷ (128 + code % 64) ∷ [])
  fed-three code scalar low high =
      let few : code / 4096 < 16 = omega arith in
      let last : code / 4096 ≡ 13 → code < 55296 = λ is. elim (cases_lt code 55296) [ inl h ↦ h | inr h ↦ absurd (omega (arith, scalar-high code scalar h, is)) ] in
      by-bits 224 (code / 4096) 2 160 13 159 (128 + code / 64 % 64) refl refl
      (λ some differ. begun-three (code / 4096) some few (ne_eqb (code / 4096) 13 differ))
      (λ is. omega (arith, is)) (λ is. omega (arith, is, last is)) (omega arith) (omega arith)
      (λ bits least most is b l h. three-fed code (224 + code / 4096) (128 + code / 64 % 64) (128 + code % 64) bits least most
      (ne_eqb (224 + code / 4096) 27 (λ e. omega arith)) (le-ltb (224 + code / 4096) 128 (omega arith)) b
      (le-ltb (128 + code / 64 % 64) least l) (le-ltb most (128 + code / 64 % 64) h)
      (le-ltb (128 + code % 64) 128 (omega arith)) (le-ltb 191 (128 + code % 64) (omega arith)) (omega (arith, is)))

  fed-four : (code : ℕ) → 65536 ≤ code → code < 1114112
      → Fed code ((240 + code / 262144) ∷ (128 + code / 4096 % 64) ∷ (128 + code / 64 % 64) ∷ (128 + code % 64) ∷ [])
  fed-four code low high =
      let few : code / 262144 < 5 = omega arith in
      by-bits 240 (code / 262144) 3 144 4 143 (128 + code / 4096 % 64) refl refl
      (λ some differ. begun-four (code / 262144) some (omega (arith, few, differ)))
      (λ is. omega (arith, is)) (λ is. omega (arith, is)) (omega arith) (omega arith)
      (λ bits least most is b l h. four-fed code (240 + code / 262144) (128 + code / 4096 % 64) (128 + code / 64 % 64) (128 + code % 64) bits least most
      (ne_eqb (240 + code / 262144) 27 (λ e. omega arith)) (le-ltb (240 + code / 262144) 128 (omega arith)) b
      (le-ltb (128 + code / 4096 % 64) least l) (le-ltb most (128 + code / 4096 % 64) h)
      (le-ltb (128 + code / 64 % 64) 128 (omega arith)) (le-ltb 191 (128 + code / 64 % 64) (omega arith))
      (le-ltb (128 + code % 64) 128 (omega arith)) (le-ltb 191 (128 + code % 64) (omega arith)) (omega (arith, is)))

  pub encoded_fed : (code : ℕ) → is_scalar code ≡ true → (code == 27) ≡ false → Fed code (encode_utf8 code)
  unfolding encode_utf8
  encoded_fed code scalar plain = elim (cases_lt code 128) [
    | inl one ↦ rw (lt-ltb code 128 one) (one-fed code plain (lt-ltb code 128 one))
    | inr past ↦ elim (cases_lt code 2048) [
      | inl two ↦ rw (le-ltb code 128 past, lt-ltb code 2048 two) (fed-two code past two)
      | inr more ↦ elim (cases_lt code 65536) [
        | inl three ↦ rw (le-ltb code 128 past, le-ltb code 2048 more, lt-ltb code 65536 three) (fed-three code scalar more three)
        | inr four ↦ rw (le-ltb code 128 past, le-ltb code 2048 more, le-ltb code 65536 four) (fed-four code four (scalar-most code scalar))
      ]
    ]
  ]
