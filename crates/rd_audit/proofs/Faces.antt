-- The numbers of a face, and the run that they stand in, read back.
use Rattle.std.proofs.Common.{◌≡◌, ◌==◌, ℕ, ◌+◌, ◌<◌, ◌≤◌, ◌&&◌, not, Bool, true, false, if◌then◌else◌, Option, None, Some, option_and_then, option_to_list, nat_lt, decimal, List, [], ◌∷◌, ◌++◌, refl, sym, ap, ap₂, subst, ◌∙◌, arith, append-nil, true≢false}
use Rattle.std.specs.List.{flat_map}
use Rattle.std.proofs.lemmas.Bool.{and_from, and_parts, lt-ltb, ltb-true}
use Rattle.std.proofs.lemmas.Bool.Decides.{nat_tests}
use Rattle.rd_base.specs.Cells.{HasColours}
use Rattle.rd_base.specs.Equals.{same_face}
use Rattle.rd_base.specs.Faces.{Attributes, plain}
use Rattle.rd_term.specs.Pens.{dressed, is_rendition, flag_number, colour_number, numbers_of_face, pen_by}
use Rattle.rd_update.proofs.Dressing.{by-colour, face-worn}
use Rattle.rd_dump.specs.Dumps.{numbers_behind, numbers_text}
use Rattle.rd_audit.specs.Cuts.{pieces}
use Rattle.rd_audit.specs.Numbers.{pair_of}
use Rattle.rd_audit.specs.FaceRuns.{place_of, comes_behind, face_from, face_of, run_by, face_run}
use Rattle.rd_audit.proofs.Decimals.{number-read, pair-read}
use Rattle.rd_audit.proofs.Lacking.{lacks, lacks-append, lacks-decimal, is_no_digit, cut-seam, pieces-seam, pieces-one}

-- ---- numbers between semicolons

-- the numbers that there are
abbrev pub there : List (Option ℕ) → List ℕ
there = flat_map option_to_list

-- the text of numbers: this mark before the first, a semicolon before each other one
abbrev pub marked : ℕ → List ℕ → List ℕ
marked mark [] = []
marked mark (n ∷ ns) = mark ∷ (decimal n ++ marked 59 ns)

number-marked : (mark n : ℕ) (ns : List (Option ℕ)) → numbers_behind true ns ≡ marked 59 (there ns)
    → (mark ∷ (decimal n ++ [])) ++ numbers_behind true ns ≡ marked mark (n ∷ there ns)
number-marked mark n ns e =
    ap (λ l. (mark ∷ l) ++ numbers_behind true ns) (append-nil (decimal n)) ∙ ap (λ l. mark ∷ (decimal n ++ l)) e

behind-marked : (any : Bool) (ns : List (Option ℕ)) → numbers_behind any ns ≡ marked (if any then 59 else 58) (there ns)
behind-marked any [] = refl
behind-marked true (None ∷ ns) = behind-marked true ns
behind-marked false (None ∷ ns) = behind-marked false ns
behind-marked true (Some n ∷ ns) = number-marked 59 n ns (behind-marked true ns)
behind-marked false (Some n ∷ ns) = number-marked 58 n ns (behind-marked true ns)

marked-lacks : (byte mark : ℕ) (ns : List ℕ) → is_no_digit byte ≡ true → not (mark == byte) ≡ true → not (59 == byte) ≡ true
    → lacks byte (marked mark ns) ≡ true
marked-lacks byte mark [] p q r = refl
marked-lacks byte mark (n ∷ ns) p q r =
    and_from (not (mark == byte)) (lacks byte (decimal n ++ marked 59 ns)) q
    (lacks-append byte (decimal n) (marked 59 ns) (lacks-decimal byte n p) (marked-lacks byte 59 ns p r r))

-- ---- the face of numbers

-- numbers below 1,000, each behind the place of the one before it
abbrev AreInOrder : ℕ → List ℕ → Type 0
AreInOrder place [] = Unit {0}
AreInOrder place (n ∷ ns) = (n < 1000) × (comes_behind place n ≡ true) × AreInOrder (place_of n) ns

numbered : (place n : ℕ) (face : Attributes) (texts : List (List ℕ)) → n < 1000 → comes_behind place n ≡ true → face_from place face (decimal n ∷ texts) ≡ face_from (place_of n) (dressed n face) texts
numbered place n face texts small stands =
    ap (λ o. option_and_then (λ (next : ℕ × Attributes). face_from next.0 next.1 texts) (option_and_then (λ (m : ℕ). if comes_behind place m then Some (place_of m, dressed m face) else None) o)) (number-read n small)
    ∙ ap (λ t. option_and_then (λ (next : ℕ × Attributes). face_from next.0 next.1 texts) (if t then Some (place_of n, dressed n face) else None)) stands

-- the numbers behind a first one
read-more : (place n : ℕ) (face : Attributes) (ns : List ℕ) → AreInOrder place (n ∷ ns)
    → face_from place face (pieces 59 (decimal n ++ marked 59 ns)) ≡ pen_by (n ∷ ns) (Some face)
read-more place n face [] h =
    ap (face_from place face) (ap (pieces 59) (append-nil (decimal n)) ∙ pieces-one 59 (decimal n) (lacks-decimal 59 n refl))
    ∙ numbered place n face [] h.0 h.1
read-more place n face (m ∷ ns) h =
    ap (face_from place face) (pieces-seam 59 (decimal n) (decimal m ++ marked 59 ns) (lacks-decimal 59 n refl))
    ∙ numbered place n face (pieces 59 (decimal m ++ marked 59 ns)) h.0 h.1
    ∙ read-more (place_of n) m (dressed n face) ns h.2

-- ---- the numbers of a face

sooner : (p q : ℕ) (ns : List ℕ) → p ≤ q → AreInOrder q ns → AreInOrder p ns
sooner p q [] le h = tt
sooner p q (n ∷ ns) le h =
    let both = and_parts (is_rendition n) (nat_lt q (place_of n)) h.1 in
    let less = ltb-true q (place_of n) both.1 in
    (h.0, and_from (is_rendition n) (nat_lt p (place_of n)) both.0 (lt-ltb p (place_of n) (omega (arith, le, less))), h.2)

in-order : (f : Attributes) → HasColours f → AreInOrder 0 (there (numbers_of_face f))
in-order f h =
    let back : List (Option ℕ) = colour_number f.bg 40 ∷ [] in
    let colours : List (Option ℕ) = colour_number f.fg 30 ∷ back in
    let last : List (Option ℕ) = flag_number f.inverse 7 ∷ colours in
    flag f.bold 1 0 (flag_number f.underline 4 ∷ last) (omega arith) refl (omega arith)
    (flag f.underline 4 1 last (omega arith) refl (omega arith)
    (flag f.inverse 7 4 colours (omega arith) refl (omega arith)
    (colour f.fg 30 7 back h.fg (omega arith) (λ k less. (omega (arith, less), grind (arith, nat_tests), grind (arith, nat_tests)))
    (colour f.bg 40 30 [] h.bg (omega arith) (λ k less. (omega (arith, less), grind (arith, nat_tests), grind (arith, nat_tests))) tt))))
  where
    flag : (set : Bool) (n place : ℕ) (ns : List (Option ℕ)) → n < 1000 → comes_behind place n ≡ true → place ≤ place_of n → AreInOrder (place_of n) (there ns) → AreInOrder place (there (flag_number set n ∷ ns))
    flag true n place ns less stands le h = (less, stands, h)
    flag false n place ns less stands le h = sooner place (place_of n) (there ns) le h

    colour : (c base place : ℕ) (ns : List (Option ℕ)) → c ≤ 8 → place ≤ base → ((k : ℕ) → k < 8 → (base + k < 1000) × (comes_behind place (base + k) ≡ true) × (place_of (base + k) ≡ base))
        → AreInOrder base (there ns) → AreInOrder place (there (colour_number c base ∷ ns))
    colour c base place ns most le stands h =
        by-colour c base (λ n. AreInOrder place (there (n ∷ ns))) most (λ own. sooner place base (there ns) le h)
        (λ less. let all = stands c less in (all.0, all.1, subst (λ p. AreInOrder p (there ns)) (sym all.2) h))

-- the text of numbers says their face
abbrev Reads : Attributes → List ℕ → Type 0
Reads f text = (codes : List ℕ) × (text ≡ 58 ∷ codes) × (face_of codes ≡ Some f)

reads-by : (f : Attributes) (ns : List ℕ) → AreInOrder 0 ns → pen_by ns (Some plain) ≡ Some f → same_face f plain ≡ false → Reads f (marked 58 ns)
reads-by f [] small e other =
    let same : plain ≡ f = cc in
    absurd (true≢false (subst (λ g. true ≡ same_face g plain) same refl ∙ other))
reads-by f (n ∷ ns) small e other = (decimal n ++ marked 59 ns, refl, read-more 0 n plain ns small ∙ e)

numbers-read : (f : Attributes) → HasColours f → same_face f plain ≡ false → Reads f (numbers_text f)
numbers-read f range other =
    let ns = there (numbers_of_face f) in
    let h = reads-by f ns (in-order f range) (ap (λ w. w.1) (face-worn f range)) other in
    (h.0, behind-marked false (numbers_of_face f) ∙ h.1, h.2)

-- ---- a run

-- a run's first and last column, and the numbers of its face
abbrev pub span_text : ℕ → ℕ → List ℕ
span_text first last = decimal first ++ 45 ∷ decimal last

abbrev pub run_piece : ℕ → ℕ → Attributes → List ℕ
run_piece first last face = span_text first last ++ numbers_text face

-- a byte that is in no run
abbrev pub is_apart : ℕ → Bool
is_apart byte = is_no_digit byte && (not (45 == byte) && (not (58 == byte) && not (59 == byte)))

span-lacks : (byte first last : ℕ) → is_no_digit byte ≡ true → not (45 == byte) ≡ true → lacks byte (span_text first last) ≡ true
span-lacks byte first last p q =
    lacks-append byte (decimal first) (45 ∷ decimal last) (lacks-decimal byte first p) (and_from (not (45 == byte)) (lacks byte (decimal last)) q (lacks-decimal byte last p))

pub piece-lacks : (byte first last : ℕ) (face : Attributes) → is_apart byte ≡ true → lacks byte (run_piece first last face) ≡ true
piece-lacks byte first last face h =
    let one = and_parts (is_no_digit byte) (not (45 == byte) && (not (58 == byte) && not (59 == byte))) h in
    let two = and_parts (not (45 == byte)) (not (58 == byte) && not (59 == byte)) one.1 in
    let three = and_parts (not (58 == byte)) (not (59 == byte)) two.1 in
    lacks-append byte (span_text first last) (numbers_text face) (span-lacks byte first last one.0 two.0)
    (ap (lacks byte) (behind-marked false (numbers_of_face face)) ∙ marked-lacks byte 58 (there (numbers_of_face face)) one.0 three.0 three.1)

-- the run that its text says
pub run-read : (first last : ℕ) (face : Attributes) → first < 1000 → last < 1000 → HasColours face → same_face face plain ≡ false
    → face_run (run_piece first last face) ≡ Some (record { first = first; last = last; face = face })
run-read first last face p q range other =
    let h = numbers-read face range other in
    ap (λ l. face_run (span_text first last ++ l)) h.1
    ∙ ap (option_and_then (λ (parts : List ℕ × List ℕ). run_by (pair_of 45 parts.0) (face_of parts.1))) (cut-seam 58 (span_text first last) h.0 (span-lacks 58 first last refl refl))
    ∙ ap₂ run_by (pair-read 45 first last refl p q) h.2
