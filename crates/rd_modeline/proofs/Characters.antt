-- The text of a mode line has characters alone.
use Rattle.std.proofs.Common.{rules, tests, arith, ◌≡◌, ℕ, ◌+◌, ◌*◌, ◌-◌, ◌<◌, ◌≤◌, ◌^◌, Bool, true, false, IsTrue, List, [], ◌∷◌, ◌++◌, Option, Some, None, IfSome, Result, Ok, Err, IfOk, All, replicate, codes, decimal, get_or, refl, subst}
use Rattle.std.specs.Prelude.{◌==◌, ◌&&◌, nat_lt, if◌then◌else◌}
use Rattle.std.specs.List.{AllByRecursion}
use Rattle.std.proofs.lemmas.Bool.Decides.{nat_tests}
use Rattle.std.proofs.lemmas.Fmt.{IsAscii-decimal}
use Rattle.std.proofs.lemmas.List.Elements.{All-append, All-nil, All-cons, All-from_get_or, All-replicate, All-from_recursion, recursion_from_All}
use Rattle.std.specs.Char.{is_ascii_digit}
use Rattle.rd_base.proofs.Choices.{either}
use Rattle.rd_base.specs.Chars.{is_code}
use Rattle.rd_ucd.specs.declared.spans.Span.{Span}
use Rattle.rd_glyphs.specs.Lines.{plain_columns}
use Rattle.rd_modeline.specs.declared.piece.Field.{Field}
use Rattle.rd_modeline.specs.declared.piece.Field.TheVariants.{Name, Line, Place, ReadOnly, Modified, Narrowing}
use Rattle.rd_modeline.specs.declared.piece.Piece.{Piece}
use Rattle.rd_modeline.specs.declared.piece.Piece.TheVariants.{Literal, Value, Dashes}
use Rattle.rd_modeline.specs.declared.reading.Begun.{Begun}
use Rattle.rd_modeline.specs.declared.reading.Begun.TheVariants.{Text, Percent}
use Rattle.rd_modeline.specs.Formats.{field_of, sign_of, value_or, piece_of, before, before_or, pieces_from, pieces_of}
use Rattle.rd_modeline.specs.Values.{FactValues, AreFacts, share, place_text, value_text}
use Rattle.rd_modeline.specs.Lines.{filled, value_in, line_text}

abbrev pub IsCharacter : ℕ → Type 0
IsCharacter c = IsTrue (is_code c)

ascii : (c : ℕ) → c < 128 → IsCharacter c
ascii c low =
    let is : is_code c ≡ true = grind (arith, nat_tests) in
    search (rules, tests)

-- ---- values

numbers : (n : ℕ) → n < 2 ^ 64 → All IsCharacter (decimal n)
numbers n fits =
    All-from_get_or IsCharacter (decimal n) 0 (λ i within. ascii (get_or (decimal n) i 0) (IsAscii-decimal n fits i))

share-small : (above total : ℕ) → share above total ≤ 99
share-small above total = either (λ (n : ℕ). n ≤ 99) (total == 0) _ _ (omega arith) (grind arith)

places : (f : FactValues) → All IsCharacter (place_text f)
places f = by-ends f.top f.bottom where
  by-ends : (top bottom : Bool) → All IsCharacter (if top then (if bottom then codes "All" else codes "Top") else if bottom then codes "Bottom" else decimal (share f.above f.total) ++ codes "%")
  by-ends true true = All-from_recursion IsCharacter (codes "All") (refl, (refl, (refl, tt)))
  by-ends true false = All-from_recursion IsCharacter (codes "Top") (refl, (refl, (refl, tt)))
  by-ends false true = All-from_recursion IsCharacter (codes "Bottom") (refl, (refl, (refl, (refl, (refl, (refl, tt))))))
  by-ends false false =
      let few = share-small f.above f.total in
      All-append IsCharacter (decimal (share f.above f.total)) (codes "%") (numbers (share f.above f.total) (omega arith)) (All-from_recursion IsCharacter (codes "%") (refl, tt))

signs : (first second : Bool) (a b c : ℕ) → IsCharacter a → IsCharacter b → IsCharacter c → All IsCharacter (if first then a ∷ [] else if second then b ∷ [] else c ∷ [])
signs true second a b c x y z = All-cons IsCharacter a [] x (All-nil IsCharacter)
signs false true a b c x y z = All-cons IsCharacter b [] y (All-nil IsCharacter)
signs false false a b c x y z = All-cons IsCharacter c [] z (All-nil IsCharacter)

values : (f : FactValues) → AreFacts f → (field : Field) → All IsCharacter (value_text f field)
values f is Name = is.name
values f is Line = numbers f.line (omega (arith, is.line))
values f is Place = places f
values f is ReadOnly = signs f.read_only f.modified 37 42 45 refl refl refl
values f is Modified = signs f.modified f.read_only 42 37 45 refl refl refl
values f is Narrowing =
    either (All IsCharacter) f.narrowed (codes "Narrow") []
    (All-from_recursion IsCharacter (codes "Narrow") (refl, (refl, (refl, (refl, (refl, (refl, tt))))))) (All-nil IsCharacter)

filled-characters : (field : Field) (blanks : ℕ) (text : List ℕ) → All IsCharacter text → All IsCharacter (filled field blanks text)
filled-characters Line blanks text is = All-append IsCharacter (replicate blanks 32) text (All-replicate IsCharacter blanks 32 refl) is
filled-characters field blanks text is = All-append IsCharacter text (replicate blanks 32) is (All-replicate IsCharacter blanks 32 refl)

-- ---- pieces

-- a character that stands for itself is one
abbrev IsPiece : Piece → Type 0
IsPiece (Literal c) = IsCharacter c
IsPiece (Value field width) = Unit {0}
IsPiece Dashes = Unit {0}

before-pieces : (p : Piece) (r : Result (List Piece) ℕ) → IsPiece p → IfOk r (λ ps. AllByRecursion IsPiece ps) → IfOk (before p r) (λ ps. AllByRecursion IsPiece ps)
before-pieces p (Ok ps) is each = (is, each)
before-pieces p (Err place) is each = tt

before_or-pieces : (o : Option Piece) (start : ℕ) (r : Result (List Piece) ℕ) → IfSome o (λ p. IsPiece p) → IfOk r (λ ps. AllByRecursion IsPiece ps) → IfOk (before_or o start r) (λ ps. AllByRecursion IsPiece ps)
before_or-pieces None start r is each = tt
before_or-pieces (Some p) start r is each = before-pieces p r is each

piece-is : (digits width c : ℕ) → IsCharacter c → IfSome (piece_of digits width c) (λ p. IsPiece p)
piece-is digits width c is = by-field (field_of c) where
  by-sign : (free dashes percent : Bool) → IfSome (if free then (if dashes then Some Dashes else if percent then Some (Literal c) else None) else None) (λ p. IsPiece p)
  by-sign false dashes percent = tt
  by-sign true true percent = tt
  by-sign true false true = is
  by-sign true false false = tt

  by-field : (field : Option Field) → IfSome (value_or field width (sign_of digits c)) (λ p. IsPiece p)
  by-field (Some field) = tt
  by-field None = by-sign (digits == 0) (c == 45) (c == 37)

abbrev HasPieces : Result (List Piece) ℕ → Type 0
HasPieces r = IfOk r (λ ps. AllByRecursion IsPiece ps)

pieces : (begun : Begun) (place : ℕ) (text : List ℕ) → AllByRecursion IsCharacter text → HasPieces (pieces_from begun place text)
pieces Text place [] each = tt
pieces (Percent start digits width) place [] each = tt
pieces Text place (c ∷ cs) each =
    either HasPieces (c == 37) (pieces_from (Percent place 0 0) (place + 1) cs) (before (Literal c) (pieces_from Text (place + 1) cs))
    (pieces (Percent place 0 0) (place + 1) cs each.1)
    (before-pieces (Literal c) (pieces_from Text (place + 1) cs) each.0 (pieces Text (place + 1) cs each.1))
pieces (Percent start digits width) place (c ∷ cs) each =
    either HasPieces (is_ascii_digit c && nat_lt digits 3) (pieces_from (Percent start (digits + 1) (10 * width + (c - 48))) (place + 1) cs)
    (before_or (piece_of digits width c) start (pieces_from Text (place + 1) cs))
    (pieces (Percent start (digits + 1) (10 * width + (c - 48))) (place + 1) cs each.1)
    (before_or-pieces (piece_of digits width c) start (pieces_from Text (place + 1) cs) (piece-is digits width c each.0) (pieces Text (place + 1) cs each.1))

text-of-pieces : (classes : List Span) (f : FactValues) (columns : ℕ) (ps : List Piece) → AreFacts f → AllByRecursion IsPiece ps → All IsCharacter (line_text classes f columns ps)
text-of-pieces classes f columns [] is each = All-nil IsCharacter
text-of-pieces classes f columns (Literal c ∷ ps) is each =
    All-cons IsCharacter c (line_text classes f columns ps) each.0 (text-of-pieces classes f columns ps is each.1)
text-of-pieces classes f columns (Value field width ∷ ps) is each =
    let value = value_text f field in
    All-append IsCharacter (value_in classes width field value) (line_text classes f columns ps)
    (filled-characters field (width - plain_columns classes value) value (values f is field)) (text-of-pieces classes f columns ps is each.1)
text-of-pieces classes f columns (Dashes ∷ ps) is each = All-replicate IsCharacter columns 45 refl

-- the text of the pieces of a format of characters
pub text-characters : (classes : List Span) (f : FactValues) (columns : ℕ) (format : List ℕ) (ps : List Piece) → AreFacts f → All IsCharacter format → pieces_of format ≡ Ok ps → All IsCharacter (line_text classes f columns ps)
text-characters classes f columns format ps is each found =
    text-of-pieces classes f columns ps is
    (subst (λ (r : Result (List Piece) ℕ). IfOk r (λ (qs : List Piece). AllByRecursion IsPiece qs)) found (pieces Text 0 format (recursion_from_All IsCharacter format each)))
