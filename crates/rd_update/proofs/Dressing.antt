-- What renditions do to the pen.
use Rattle.std.proofs.Common.{◌≡◌, if◌then◌else◌, ℕ, ◌+◌, ◌<◌, ◌≤◌, ◌==◌, Bool, true, false, List, [], ◌∷◌, length, Option, None, Some, option_to_list, inl, inr, refl, sym, ap, subst, ◌∙◌, arith}
use Rattle.std.specs.List.{flat_map, AllByRecursion}
use Rattle.std.proofs.lemmas.Bool.{and_parts, cases_eq}
use Rattle.std.proofs.lemmas.Bool.Decides.{nat_tests}
use Rattle.rd_base.specs.Cells.{HasColours}
use Rattle.rd_base.specs.Faces.{Attributes, plain}
use Rattle.rd_base.specs.declared.limits.TheConstants.{COLOURS}
use Rattle.rd_term.specs.Pens.{is_rendition, are_renditions, dressed, flag_number, colour_number, numbers_of_face, pen_by}
use Rattle.rd_term.specs.Terminals.{Tty, feed_bytes}
use Rattle.rd_term.proofs.Encoded.{Rows, standing}
use Rattle.rd_base.specs.Equals.{same_face}
use Rattle.rd_update.specs.Updates.{renditions, rendition, dress}
use Rattle.rd_update.proofs.Sequences.{parameters_fed}
use Rattle.rd_base.proofs.Equals.{face-told}

-- ---- the pen after the numbers of a face

-- whether those numbers that there are change a pen, and the pen of this face behind them
abbrev pub worn : List (Option ℕ) → Attributes → Bool × Option Attributes
worn numbers f = (are_renditions (flat_map option_to_list numbers), pen_by (flat_map option_to_list numbers) (Some f))

-- flags by themselves
flags-worn : (b u i : Bool) (rest : List (Option ℕ)) → worn (flag_number b 1 ∷ flag_number u 4 ∷ flag_number i 7 ∷ rest) plain
    ≡ worn rest (record { fg = 8; bg = 8; bold = b; underline = u; inverse = i })
flags-worn false false false rest = refl
flags-worn false false true rest = refl
flags-worn false true false rest = refl
flags-worn false true true rest = refl
flags-worn true false false rest = refl
flags-worn true false true rest = refl
flags-worn true true false rest = refl
flags-worn true true true rest = refl

number-worn : (n : ℕ) (rest : List (Option ℕ)) (f g : Attributes) → is_rendition n ≡ true → dressed n f ≡ g → worn (Some n ∷ rest) f ≡ worn rest g
number-worn n rest f g right e = rw (right, e) refl

front-worn : (n : ℕ) (rest : List (Option ℕ)) (f : Attributes) → n < 8 → worn (Some (30 + n) ∷ rest) f ≡ worn rest (record f { fg = n })
front-worn n rest f lt = number-worn (30 + n) rest f (record f { fg = n }) (grind (arith, nat_tests)) (grind (arith, nat_tests))

back-worn : (n : ℕ) (rest : List (Option ℕ)) (f : Attributes) → n < 8 → worn (Some (40 + n) ∷ rest) f ≡ worn rest (record f { bg = n })
back-worn n rest f lt = number-worn (40 + n) rest f (record f { bg = n }) (grind (arith, nat_tests)) (grind (arith, nat_tests))

-- what holds of no number where a colour is the terminal's own, and of its number where it is not, holds of the colour's number
pub by-colour : (n base : ℕ) (P : Option ℕ → Type 0) → n ≤ COLOURS → (n ≡ COLOURS → P None) → (n < COLOURS → P (Some (base + n))) → P (colour_number n base)
by-colour n base P le own other = elim (cases_eq n COLOURS) [
  | inl same ↦ subst (λ k. P (colour_number k base)) (sym same) (own same)
  | inr apart ↦
      let differ : (n == COLOURS) ≡ false = grind (arith, nat_tests) in
      subst (λ t. P (if t then None else Some (base + n))) (sym differ) (other (omega (arith, le, apart)))
]

pub face-worn : (f : Attributes) → HasColours f → worn (numbers_of_face f) plain ≡ (true, Some f)
face-worn f h =
    let flags : ℕ → ℕ → Attributes = λ fg bg. record { fg = fg; bg = bg; bold = f.bold; underline = f.underline; inverse = f.inverse } in
    let back : List (Option ℕ) = colour_number f.bg 40 ∷ [] in
    flags-worn f.bold f.underline f.inverse (colour_number f.fg 30 ∷ back)
    ∙ by-colour f.fg 30 (λ n. worn (n ∷ back) (flags 8 8) ≡ worn back (flags f.fg 8)) h.fg (λ own. ap (λ n. worn back (flags n 8)) (sym own)) (front-worn f.fg back (flags 8 8))
    ∙ by-colour f.bg 40 (λ n. worn (n ∷ []) (flags f.fg 8) ≡ worn [] (flags f.fg f.bg)) h.bg (λ own. ap (λ n. worn [] (flags f.fg n)) (sym own)) (back-worn f.bg [] (flags f.fg 8))

-- ---- few and small numbers

few-numbers : (numbers : List (Option ℕ)) → length (flat_map option_to_list numbers) ≤ length numbers
few-numbers [] = omega arith
few-numbers (None ∷ numbers) = omega (arith, few-numbers numbers)
few-numbers (Some n ∷ numbers) = omega (arith, few-numbers numbers)

small-number : (n : ℕ) → is_rendition n ≡ true → n ≤ 65535
small-number n right = grind (arith, nat_tests)

small-numbers : (ns : List ℕ) → are_renditions ns ≡ true → AllByRecursion (λ n. n ≤ 65535) ns
small-numbers [] right = tt
small-numbers (n ∷ ns) right =
    let parts = and_parts (is_rendition n) (are_renditions ns) right in
    (small-number n parts.0, small-numbers ns parts.1)

-- ---- a rendition

rendition_fed : (region : Option (ℕ × ℕ)) → (rows : Rows) (cursor : Option (ℕ × ℕ)) (wait : Bool) (pen f : Attributes) (latest : Option (ℕ × ℕ)) → HasColours f
    → feed_bytes (standing region rows cursor wait (Some pen) latest) (rendition f) ≡ standing region rows cursor wait (Some f) None
rendition_fed region rows cursor wait pen f latest h =
    let few : length {A = ℕ} [] + length (renditions f) < 16 = omega (arith, few-numbers (numbers_of_face f)) in
    parameters_fed region rows cursor wait (Some pen) [] 0 109 (renditions f) refl refl few (small-numbers (renditions f) (ap (λ w. w.0) (face-worn f h)))
    ∙ ap (λ w. let t : Tty = if w.0 then standing region rows cursor wait w.1 None else (record (standing region rows cursor wait (Some pen) None) { confused = true }) in t) (face-worn f h)

dress-chosen : (region : Option (ℕ × ℕ)) → (rows : Rows) (cursor : Option (ℕ × ℕ)) (wait : Bool) (pen f : Attributes) (latest : Option (ℕ × ℕ)) (same : Bool) → (same ≡ true → pen ≡ f)
    → feed_bytes (standing region rows cursor wait (Some pen) latest) (rendition f) ≡ standing region rows cursor wait (Some f) None
    → (after : Option (ℕ × ℕ)) × (feed_bytes (standing region rows cursor wait (Some pen) latest) (if same then [] else rendition f) ≡ standing region rows cursor wait (Some f) after)
dress-chosen region rows cursor wait pen f latest true e h = (latest, ap (λ g. standing region rows cursor wait (Some g) latest) (e refl))
dress-chosen region rows cursor wait pen f latest false e h = (None, h)

-- what makes a pen one of a face
pub dress_fed : (region : Option (ℕ × ℕ)) → (rows : Rows) (cursor : Option (ℕ × ℕ)) (wait : Bool) (pen f : Attributes) (latest : Option (ℕ × ℕ)) → HasColours f
    → (after : Option (ℕ × ℕ)) × (feed_bytes (standing region rows cursor wait (Some pen) latest) (dress pen f) ≡ standing region rows cursor wait (Some f) after)
dress_fed region rows cursor wait pen f latest h = dress-chosen region rows cursor wait pen f latest (same_face pen f) (face-told pen f) (rendition_fed region rows cursor wait pen f latest h)
