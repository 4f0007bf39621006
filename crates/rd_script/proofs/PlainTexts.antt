-- Characters that a text of JSON has as they are, or with a short escape, and the texts of generated lines, which have no others.
use Rattle.std.proofs.Common.{arith, ◌≡◌, ◌≢◌, ℕ, zero, suc, ◌+◌, ◌*◌, ◌/◌, ◌%◌, ◌<◌, ◌≤◌, ◌==◌, ◌&&◌, ◌||◌, Bool, true, false, not, nat_lt, nat_le, if◌then◌else◌, cond, List, [], ◌∷◌, ◌++◌, get_or, replicate, codes, refl, sym, ap, ap₂, ◌∙◌}
use Rattle.std.proofs.lemmas.Bool.{and_from, and_parts, eqb-true, eqb-false, ltb-true, leb-true, not-true}
use Rattle.std.proofs.lemmas.Bool.Decides.{nat_tests}
use Rattle.std.proofs.lemmas.Grind.{flat_map-append}
use Rattle.std.proofs.lemmas.List.Folds.{list_all-append}
use Rattle.std.proofs.lemmas.Str.{chars_from_encodes}
use Rattle.std.specs.Char.{encode_utf8}
use Rattle.std.specs.List.{flat_map, list_all, range_with_len}
use Rattle.std.specs.Str.{IsUtf8, all_scalars, chars, encode_utf8_all}
use Rattle.json.specs.Print.{escape, escape_byte}
use Rattle.json.proofs.Printed.Strings.{escape_byte_plain}
use Rattle.rd_base.specs.Chars.{is_scalar}
use Rattle.rd_generate.specs.Generated.{choice, hundred, lines_from, number, spelled, spelling, templates, text_line}
use Rattle.rd_script.specs.Forms.{is_text}

-- a character below the surrogates that is a tab, a newline, or neither a control, a quote nor a backslash
abbrev pub is_plain : ℕ → Bool
is_plain c = nat_lt c 55296 && ((c == 9) || ((c == 10) || (nat_le 32 c && (not (c == 34) && not (c == 92)))))

-- ---- how they are spelled

-- bytes that stand in a text of JSON as they are
stays : (b : ℕ) → 128 ≤ b → escape_byte b ≡ b ∷ []
stays b h = escape_byte_plain b (λ e. omega arith) (λ e. omega arith) (omega arith)

escape-two : (a b : ℕ) → 128 ≤ a → 128 ≤ b → escape (a ∷ b ∷ []) ≡ a ∷ b ∷ []
escape-two a b p q = rw (stays a p, stays b q) refl

escape-three : (a b c : ℕ) → 128 ≤ a → 128 ≤ b → 128 ≤ c → escape (a ∷ b ∷ c ∷ []) ≡ a ∷ b ∷ c ∷ []
escape-three a b c p q r = rw (stays a p, stays b q, stays c r) refl

escape-four : (a b c d : ℕ) → 128 ≤ a → 128 ≤ b → 128 ≤ c → 128 ≤ d → escape (a ∷ b ∷ c ∷ d ∷ []) ≡ a ∷ b ∷ c ∷ d ∷ []
escape-four a b c d p q r s = rw (stays a p, stays b q, stays c r, stays d s) refl

-- the bytes of a character that is neither a control, a quote nor a backslash
escape-char : (c : ℕ) → 32 ≤ c → c ≢ 34 → c ≢ 92 → escape (encode_utf8 c) ≡ encode_utf8 c
unfolding encode_utf8
escape-char c h q s = by (nat_lt c 128) (nat_lt c 2048) (nat_lt c 65536)
  where
    two : List ℕ
    two = (192 + c / 64) ∷ (128 + c % 64) ∷ []

    three : List ℕ
    three = (224 + c / 4096) ∷ (128 + c / 64 % 64) ∷ (128 + c % 64) ∷ []

    four : List ℕ
    four = (240 + c / 262144) ∷ (128 + c / 4096 % 64) ∷ (128 + c / 64 % 64) ∷ (128 + c % 64) ∷ []

    by : (x y z : Bool) → escape (cond x (c ∷ []) (cond y two (cond z three four))) ≡ cond x (c ∷ []) (cond y two (cond z three four))
    by true y z = rw (escape_byte_plain c q s h) refl
    by false true z = escape-two (192 + c / 64) (128 + c % 64) (omega arith) (omega arith)
    by false false true = escape-three (224 + c / 4096) (128 + c / 64 % 64) (128 + c % 64) (omega arith) (omega arith) (omega arith)
    by false false false = escape-four (240 + c / 262144) (128 + c / 4096 % 64) (128 + c / 64 % 64) (128 + c % 64) (omega arith) (omega arith) (omega arith) (omega arith)

escape-tab : escape (encode_utf8 9) ≡ codes "\\t"
unfolding encode_utf8 escape_byte
escape-tab = refl

escape-newline : escape (encode_utf8 10) ≡ codes "\\n"
unfolding encode_utf8 escape_byte
escape-newline = refl

spelled-is : (c : ℕ) → is_plain c ≡ true → escape (encode_utf8 c) ≡ spelled c
spelled-is c h = by (c == 9) (c == 10) refl refl (and_parts (nat_lt c 55296) _ h).1
  where
    by : (t u : Bool) → (c == 9) ≡ t → (c == 10) ≡ u → (t || (u || (nat_le 32 c && (not (c == 34) && not (c == 92))))) ≡ true
        → escape (encode_utf8 c) ≡ (if t then codes "\\t" else if u then codes "\\n" else encode_utf8 c)
    by true u e f p = ap (λ x. escape (encode_utf8 x)) (eqb-true c 9 e) ∙ escape-tab
    by false true e f p = ap (λ x. escape (encode_utf8 x)) (eqb-true c 10 f) ∙ escape-newline
    by false false e f p =
        let both = and_parts (nat_le 32 c) _ p in
        let letters = and_parts (not (c == 34)) _ both.1 in
        escape-char c (leb-true _ _ both.0) (eqb-false c 34 (not-true _ letters.0)) (eqb-false c 92 (not-true _ letters.1))

pub spelling-is : (text : List ℕ) → list_all is_plain text ≡ true → escape (encode_utf8_all text) ≡ spelling text
spelling-is [] h = refl
spelling-is (c ∷ cs) h =
    let both = and_parts (is_plain c) (list_all is_plain cs) h in
    flat_map-append escape_byte (encode_utf8 c) (encode_utf8_all cs) ∙ ap₂ (λ a b. a ++ b) (spelled-is c both.0) (spelling-is cs both.1)

-- ---- the characters of their bytes

scalars-are : (text : List ℕ) → list_all is_plain text ≡ true → all_scalars text ≡ true
scalars-are [] h = refl
scalars-are (c ∷ cs) h =
    let both = and_parts (is_plain c) (list_all is_plain cs) h in
    let low = (and_parts (nat_lt c 55296) _ both.0).0 in
    and_from (if nat_lt c 55296 then true else nat_le 57344 c && nat_lt c 1114112) (all_scalars cs)
    (ap (λ t. if t then true else nat_le 57344 c && nat_lt c 1114112) low) (scalars-are cs both.1)

pub plain-utf8 : (text : List ℕ) → list_all is_plain text ≡ true → IsUtf8 (encode_utf8_all text)
plain-utf8 text h = (text, (scalars-are text h, refl))

pub plain-chars : (text : List ℕ) → list_all is_plain text ≡ true → chars (encode_utf8_all text) ≡ text
plain-chars text h = sym (chars_from_encodes text (encode_utf8_all text) (plain-utf8 text h) refl)

plain-scalar : (c : ℕ) → is_plain c ≡ true → is_scalar c ≡ true
plain-scalar c h =
    let low : c < 55296 = ltb-true _ _ (and_parts (nat_lt c 55296) _ h).0 in
    grind (arith, nat_tests, low)

pub plain-text : (text : List ℕ) → list_all is_plain text ≡ true → is_text text ≡ true
plain-text [] h = refl
plain-text (c ∷ cs) h =
    let both = and_parts (is_plain c) (list_all is_plain cs) h in
    and_from (is_scalar c) (list_all is_scalar cs) (plain-scalar c both.0) (plain-text cs both.1)

-- ---- the texts of generated lines

spaces-plain : (n : ℕ) → list_all is_plain (replicate n 32) ≡ true
spaces-plain zero = refl
spaces-plain (suc n) = spaces-plain n

chosen-plain : (texts : List (List ℕ)) (i : ℕ) → list_all (list_all is_plain) texts ≡ true → list_all is_plain (get_or texts i []) ≡ true
chosen-plain [] zero h = refl
chosen-plain [] (suc i) h = refl
chosen-plain (t ∷ ts) zero h = (and_parts (list_all is_plain t) _ h).0
chosen-plain (t ∷ ts) (suc i) h = chosen-plain ts i (and_parts (list_all is_plain t) _ h).1

templates-plain : list_all (list_all is_plain) templates ≡ true
templates-plain = refl

line-plain : (k x : ℕ) → list_all is_plain (text_line k x) ≡ true
line-plain k x =
    let spaces : List ℕ = replicate (2 * (k % 5)) 32 in
    let letters : List ℕ = get_or templates (choice x) [] in
    list_all-append is_plain (spaces ++ letters) (10 ∷ [])
    ∙ ap (λ b. b && true) (list_all-append is_plain spaces letters ∙ ap₂ (λ a b. a && b) (spaces-plain (2 * (k % 5))) (chosen-plain templates (choice x) templates-plain))

flat-plain : (f : ℕ → List ℕ) → ((i : ℕ) → list_all is_plain (f i) ≡ true) → (is : List ℕ) → list_all is_plain (flat_map f is) ≡ true
flat-plain f each [] = refl
flat-plain f each (i ∷ is) = list_all-append is_plain (f i) (flat_map f is) ∙ ap₂ (λ a b. a && b) (each i) (flat-plain f each is)

pub hundred-plain : (seed j : ℕ) → list_all is_plain (hundred seed j) ≡ true
unfolding lines_from
hundred-plain seed j =
    flat-plain (λ i. text_line (100 * j + i) (number (number seed (100 * j)) (i + 1))) (λ i. line-plain (100 * j + i) (number (number seed (100 * j)) (i + 1))) (range_with_len 0 100)
