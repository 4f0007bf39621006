-- Bytes that lack a byte, and where they are cut by it.
use Rattle.std.proofs.Common.{◌≡◌, ◌==◌, ℕ, zero, suc, ◌/◌, ◌%◌, ◌<◌, ◌||◌, not, nat_lt, Bool, true, false, if◌then◌else◌, None, Some, option_map, decimal, List, [], ◌∷◌, ◌++◌, get_or, refl, sym, ap, ◌∙◌, arith}
use Rattle.std.proofs.lemmas.Bool.{and_from, and_parts, not-true, eqb-false}
use Rattle.std.proofs.lemmas.Bool.Decides.{nat_tests, Decides-eqb}
use Rattle.std.specs.List.{All, AllByRecursion, list_all}
use Rattle.std.proofs.lemmas.List.Elements.{All-cons, All-nil}
use Rattle.std.proofs.lemmas.List.Folds.{list_all-append}
use Rattle.std.proofs.lemmas.List.Splits.{slice_split_at, slice_split_none}
use Rattle.std.specs.Fmt.{digits, digits_onto, digit_glyph}
use Rattle.rd_io.specs.Lines.{lines_of}
use Rattle.rd_base.specs.Cuts.{cut}
use Rattle.rd_base.proofs.Choices.{either}
use Rattle.rd_audit.specs.Cuts.{cut_last_or, cut_last, pieces}
use Rattle.rd_audit.proofs.Cutting.{lines-cut, last-none}

-- whether bytes do not have a byte
abbrev pub lacks : ℕ → List ℕ → Bool
lacks byte bytes = list_all (λ (b : ℕ). not (b == byte)) bytes

pub lacks-append : (byte : ℕ) (front back : List ℕ) → lacks byte front ≡ true → lacks byte back ≡ true → lacks byte (front ++ back) ≡ true
lacks-append byte front back p q = list_all-append (λ (b : ℕ). not (b == byte)) front back ∙ rw (p, q) refl

-- none of these texts has this byte
abbrev pub AllLack : ℕ → List (List ℕ) → Type 0
AllLack byte texts = AllByRecursion (λ (text : List ℕ). lacks byte text ≡ true) texts

-- ---- numbers

-- a byte that is no digit
abbrev pub is_no_digit : ℕ → Bool
is_no_digit byte = nat_lt byte 48 || nat_lt 57 byte

glyph-other : (byte d : ℕ) → is_no_digit byte ≡ true → d < 10 → not (digit_glyph false d == byte) ≡ true
glyph-other byte d other less = grind (arith, nat_tests)

lacks-onto : (byte k n : ℕ) (acc : List ℕ) → is_no_digit byte ≡ true → lacks byte acc ≡ true → lacks byte (digits_onto k 10 false n acc) ≡ true
lacks-onto byte zero n acc other h = h
lacks-onto byte (suc k) n acc other h =
    let small : n % 10 < 10 = omega arith in
    let more = digit_glyph false (n % 10) ∷ acc in
    let lack : lacks byte more ≡ true = and_from (not (digit_glyph false (n % 10) == byte)) (lacks byte acc) (glyph-other byte (n % 10) other small) h in
    either (λ l. lacks byte l ≡ true) (n / 10 == 0) more (digits_onto k 10 false (n / 10) more) lack (lacks-onto byte k (n / 10) more other lack)

pub lacks-decimal : (byte n : ℕ) → is_no_digit byte ≡ true → lacks byte (decimal n) ≡ true
unfolding digits
lacks-decimal byte n other = lacks-onto byte 64 n [] other refl

-- ---- cuts

pub cut-seam : (byte : ℕ) (front back : List ℕ) → lacks byte front ≡ true → cut byte (front ++ byte ∷ back) ≡ Some (front, back)
cut-seam byte [] back h = ap (λ t. if t then Some ([], back) else option_map (λ parts. (byte ∷ parts.0, parts.1)) (cut byte back)) ((Decides-eqb byte byte).1 refl)
cut-seam byte (b ∷ bs) back h =
    let both = and_parts (not (b == byte)) (lacks byte bs) h in
    ap (λ t. if t then Some ([], bs ++ byte ∷ back) else option_map (λ parts. (b ∷ parts.0, parts.1)) (cut byte (bs ++ byte ∷ back))) (not-true (b == byte) both.0)
    ∙ ap (option_map (λ parts. (b ∷ parts.0, parts.1))) (cut-seam byte bs back both.1)

all-other : (byte : ℕ) (bytes : List ℕ) → lacks byte bytes ≡ true → All (λ b. (b == byte) ≡ false) bytes
all-other byte [] h = All-nil (λ b. (b == byte) ≡ false)
all-other byte (b ∷ bs) h =
    let both = and_parts (not (b == byte)) (lacks byte bs) h in
    All-cons (λ c. (c == byte) ≡ false) b bs (not-true (b == byte) both.0) (all-other byte bs both.1)

pub pieces-seam : (byte : ℕ) (front back : List ℕ) → lacks byte front ≡ true → pieces byte (front ++ byte ∷ back) ≡ front ∷ pieces byte back
pieces-seam byte front back h = slice_split_at (λ b. b == byte) front byte back (all-other byte front h) ((Decides-eqb byte byte).1 refl)

pub pieces-one : (byte : ℕ) (bytes : List ℕ) → lacks byte bytes ≡ true → pieces byte bytes ≡ bytes ∷ []
pieces-one byte bytes h = slice_split_none (λ b. b == byte) bytes (all-other byte bytes h)

pub lines-seam : (line back : List ℕ) → lacks 10 line ≡ true → lines_of (line ++ 10 ∷ back) ≡ line ∷ lines_of back
lines-seam line back h = lines-cut (line ++ 10 ∷ back) line back (cut-seam 10 line back h)

pub last-seam : (byte : ℕ) (front back : List ℕ) → lacks byte back ≡ true → cut_last byte (front ++ byte ∷ back) ≡ Some (front, back)
last-seam byte [] back h =
    ap (cut_last_or byte byte back) (sym (last-none byte back (λ k less. eqb-false (get_or back k 0) byte (all-other byte back h k 0 less))))
    ∙ ap (λ t. if t then Some ([], back) else None) ((Decides-eqb byte byte).1 refl)
last-seam byte (b ∷ bs) back h = ap (cut_last_or byte b (bs ++ byte ∷ back)) (last-seam byte bs back h)
