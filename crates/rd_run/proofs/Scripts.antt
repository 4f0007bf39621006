-- The lines of a script, by the bytes of it that were taken.
use Rattle.std.proofs.Common.{◌≡◌, ℕ, zero, suc, ◌<◌, ◌≤◌, inl, inr, ◌==◌, Bool, true, false, if◌then◌else◌, List, [], ◌∷◌, ◌++◌, length, take, Option, None, Some, refl, sym, ap, ◌∙◌, subst, append_assoc, append-nil, arith, length-append}
use Rattle.std.proofs.lemmas.List.{take-append-le}
use Rattle.std.specs.List.{onto_first}
use Rattle.std.specs.Io.KnownBytes.{Consumes}
use Rattle.std.proofs.KnownBytes.{Consumes-whole}
use Rattle.std.proofs.lemmas.Bool.{ne_eqb}
use Rattle.rd_io.specs.Lines.{lines_of, text_of_lines, IsUnbroken}
use Rattle.rd_io.proofs.Cuts.{lines-behind}
use Rattle.rd_run.specs.Ends.{Begins, AreFirst}

-- ---- lines

-- a first line, which has at least so many bytes
pub record HasFirst (n : ℕ) (lines : List (List ℕ)) : Type 0 where
  pub line : List ℕ
  pub others : List (List ℕ)
  pub split : lines ≡ line ∷ others
  pub long : n ≤ length line

longer : (n b : ℕ) (lines : List (List ℕ)) → HasFirst n lines → HasFirst (suc n) (onto_first b lines)
longer n b lines h =
    let long : suc n ≤ length (b ∷ h.line) = let k = h.long in omega arith in
    record { line = b ∷ h.line; others = h.others; split = ap (onto_first b) h.split; long = long }

alone : (b : ℕ) (lines : List (List ℕ)) → HasFirst 1 (onto_first b lines)
alone b [] = record { line = b ∷ []; others = []; split = refl; long = omega arith }
alone b (line ∷ lines) = record { line = b ∷ line; others = lines; split = refl; long = omega arith }

-- bytes that begin with so many that are no newline have a line that is as long
first-long : (n : ℕ) (bytes : List ℕ) → suc n ≤ length bytes → IsUnbroken (take (suc n) bytes) → HasFirst (suc n) (lines_of bytes)
first-long n [] p h = absurd (omega arith)
first-long zero (b ∷ bs) p h = rw (ne_eqb b 10 h.0) (alone b (lines_of bs))
first-long (suc n) (b ∷ bs) p h =
    let within : suc n ≤ length bs = omega arith in
    rw (ne_eqb b 10 h.0) (longer (suc n) b (lines_of bs) (first-long n bs within h.1))

-- a text that is not empty has a line
some-if : (c : Bool) (b : ℕ) (lines : List (List ℕ)) → 0 < length (if c then [] ∷ lines else onto_first b lines)
some-if true b lines = omega arith
some-if false b [] = omega arith
some-if false b (line ∷ lines) = omega arith

some-line : (bytes : List ℕ) → 0 < length bytes → 0 < length (lines_of bytes)
some-line [] p = p
some-line (b ∷ bs) p = some-if (b == 10) b (lines_of bs)

first-some : (lines : List (List ℕ)) → 0 < length lines → HasFirst 0 lines
first-some [] p = absurd (omega arith)
first-some (line ∷ others) p = record { line = line; others = others; split = refl; long = omega arith }

-- a rest that is not empty begins a line, whatever comes behind it
pub more-line : (rest more : List ℕ) → 0 < length rest → HasFirst 0 (lines_of (rest ++ more))
more-line rest more p = first-some (lines_of (rest ++ more)) (some-line (rest ++ more) (omega (arith, length-append rest more)))

-- a rest that has come to be too long begins a line that is too long, whatever comes behind it
pub long-line : (n m : ℕ) (rest more : List ℕ) → m ≡ suc n → n < length rest → IsUnbroken (take m rest) → HasFirst (suc n) (lines_of (rest ++ more))
long-line n m rest more e long free =
    let same : take (suc n) (rest ++ more) ≡ take m rest = let within : suc n ≤ length rest = omega arith in take-append-le (suc n) rest more within ∙ ap (λ k. take k rest) (sym e) in
    let reach : suc n ≤ length (rest ++ more) = omega (arith, length-append rest more) in
    first-long n (rest ++ more) reach (subst IsUnbroken (sym same) free)

-- ---- the bytes taken

-- the whole script, where these bytes of it were taken
abbrev pub IsTakenFrom : List ℕ → List ℕ → Option (List ℕ) → Type 0
IsTakenFrom script bytes left = Consumes (Some script) left bytes

-- where no script is generated: these bytes of the script were taken
abbrev pub IsTakenIn : Option ℕ → List ℕ → List ℕ → Option (List ℕ) → Type 0
IsTakenIn generated script bytes left = generated ≡ None → IsTakenFrom script bytes left

-- the script goes on as the bytes taken do
pub goes-on : (lines : List (List ℕ)) (script bytes rest : List ℕ) (left : Option (List ℕ)) → IsTakenFrom script bytes left → Begins lines bytes rest
    → (more : List ℕ) × (lines_of script ≡ lines ++ lines_of (rest ++ more))
goes-on lines script bytes rest None p b = absurd p
goes-on lines script bytes rest (Some more) p b =
    let whole : script ≡ text_of_lines lines ++ (rest ++ more) = p ∙ ap (λ l. l ++ more) b.1 ∙ append_assoc (text_of_lines lines) rest more in
    (more, ap lines_of whole ∙ lines-behind lines (rest ++ more) b.0)

-- the first lines of the bytes taken are the first of the script
pub first-lines : (lines : List (List ℕ)) (script bytes : List ℕ) (left : Option (List ℕ)) → IsTakenFrom script bytes left → AreFirst lines bytes left
    → (more : List (List ℕ)) × (lines_of script ≡ lines ++ more)
first-lines lines script bytes left p (limits, inl first) = let on = goes-on lines script bytes first.0 left p first.1 in (lines_of (first.0 ++ on.0), on.1)
first-lines lines script bytes left p (limits, inr all) = ([], ap lines_of (Consumes-whole (Some script) left bytes (λ s. s ≡ bytes) p all.1 refl) ∙ all.0 ∙ sym (append-nil lines))
