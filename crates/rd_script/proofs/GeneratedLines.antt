-- The lines of a generated script are read as the ops that they spell.
use Rattle.std.proofs.Common.{arith, ◌≡◌, ℕ, zero, suc, ◌+◌, ◌*◌, ◌^◌, ◌<◌, ◌≤◌, ◌&&◌, true, nat_le, List, [], ◌∷◌, ◌++◌, Option, None, Some, option_and_then, Ok, map, codes, decimal, pos, refl, sym, ap, ap₂, ◌∙◌, append_assoc}
use Rattle.std.specs.List.{AllByRecursion, flat_map, list_all, range_with_len}
use Rattle.std.specs.Str.{IsUtf8, chars, encode_utf8_all, is_utf8}
use Rattle.std.specs.Char.{encode_utf8}
use Rattle.std.proofs.lemmas.Bool.Decides.{nat_tests}
use Rattle.std.proofs.lemmas.Fmt.{IsAscii-decimal}
use Rattle.std.proofs.lemmas.List.{map-append}
use Rattle.std.proofs.lemmas.Str.{IsUtf8-append, IsUtf8-from_ascii, IsUtf8-from_is_utf8}
use Rattle.json.proofs.Printed.Decimals.{IsNumber-decimal}
use Rattle.json.proofs.Printed.Tokens.{tokens-print}
use Rattle.json.proofs.Printed.Utf8.{IsUtf8-quoted}
use Rattle.json.specs.Json.{if_last, items, members, value}
use Rattle.json.specs.Lex.{tokens}
use Rattle.json.specs.Print.{ArePrintable, escape, escape_byte, print, print_from, quoted}
use Rattle.json.specs.Token.{Token, begin_object, end_object, key, string, number}
use Rattle.serde_json.proofs.Numbers.{number_of-decimal}
use Rattle.serde_json.specs.Data as values
use Rattle.serde_json.specs.Data.{Data, Members, Num, no_members, member, unsigned}
use Rattle.serde_json.specs.Read.{max_depth, number_of, of_json, read}
use Rattle.rd_base.proofs.Lists.{heads}
use Rattle.rd_generate.specs.Generated.{ending, hundred, hundreds, insertion, insertions, opening, redisplay, script, shown}
use Rattle.rd_tree.specs.declared.side.Side.TheVariants as sides
use Rattle.rd_script.proofs.InForm.{reading-in_form}
use Rattle.rd_script.proofs.Json.{json_of-value}
use Rattle.rd_script.proofs.OnLines.{on_lines}
use Rattle.rd_script.proofs.PlainTexts.{hundred-plain, is_plain, plain-chars, plain-text, plain-utf8, spelling-is}
use Rattle.rd_script.specs.Fields.{text, whole}
use Rattle.rd_script.specs.Forms.{IsInForm, is_buffer_name, is_text}
use Rattle.rd_script.specs.GeneratedOps.{ending_ops, generated_ops, hundred_ops, insertion_op, opening_ops, shown_ops, with_redisplay}
use Rattle.rd_script.specs.Reading.{json_of, reading, reading_members}
use Rattle.rd_script.specs.declared.op.Op.{Op}
use Rattle.rd_script.specs.declared.op.Op.TheVariants as ops

-- ---- the line that puts a text in, as JSON

-- its tokens, where its number is spelled so and its text has these bytes
abbrev line_tokens : List ℕ → List ℕ → List Token
line_tokens digits bytes =
    begin_object ∷ key (codes "op") ∷ string (codes "insert") ∷ key (codes "buffer") ∷ string (codes "main") ∷ key (codes "pos") ∷ number digits ∷ key (codes "text") ∷ string bytes
    ∷ end_object ∷ []

-- the members that it says, in the order of their keys
abbrev line_members : ℕ → List ℕ → Members
line_members n bytes =
    member (codes "buffer") (values.string (codes "main")) (member (codes "op") (values.string (codes "insert"))
    (member (codes "pos") (values.number (unsigned n)) (member (codes "text") (values.string bytes) no_members)))

abbrev pieces : List ℕ → List ℕ → List ℕ
pieces digits bytes = codes "{\"op\":\"insert\",\"buffer\":\"main\",\"pos\":" ++ (digits ++ (codes ",\"text\":" ++ (quoted bytes ++ codes "}")))

printed : (digits bytes : List ℕ) → print (line_tokens digits bytes) ≡ pieces digits bytes
unfolding print_from escape_byte
printed digits bytes = refl

regroup : (a d b s c : List ℕ) → (((a ++ d) ++ b) ++ s) ++ c ≡ a ++ (d ++ (b ++ (s ++ c)))
regroup a d b s c = simp append_assoc

line-pieces : (j : ℕ) (text : List ℕ) → list_all is_plain text ≡ true → insertion j text ≡ pieces (decimal (2500 * j + 1)) (encode_utf8_all text)
line-pieces j text h =
    let digits = decimal (2500 * j + 1) in
    ap (λ s. (((codes "{\"op\":\"insert\",\"buffer\":\"main\",\"pos\":" ++ digits) ++ codes ",\"text\":\"") ++ s) ++ codes "\"}") (sym (spelling-is text h))
    ∙ (regroup (codes "{\"op\":\"insert\",\"buffer\":\"main\",\"pos\":") digits (codes ",\"text\":\"") (escape (encode_utf8_all text)) (codes "\"}")
    ∙ ap (λ s. codes "{\"op\":\"insert\",\"buffer\":\"main\",\"pos\":" ++ (digits ++ (codes ",\"text\":\"" ++ s))) (sym (append_assoc (escape (encode_utf8_all text)) (34 ∷ []) (codes "}"))))

printable : (n : ℕ) (bytes : List ℕ) → n < 2 ^ 64 → ArePrintable (line_tokens (decimal n) bytes)
unfolding ArePrintable
printable n bytes h = (tt, (tt, (tt, (tt, (tt, (tt, (IsNumber-decimal n h, (tt, (tt, (tt, tt))))))))))

line-tokens : (n : ℕ) (bytes : List ℕ) → n < 2 ^ 64 → tokens (pieces (decimal n) bytes) ≡ line_tokens (decimal n) bytes
line-tokens n bytes h = ap tokens (sym (printed (decimal n) bytes)) ∙ tokens-print (line_tokens (decimal n) bytes) (printable n bytes h)

abbrev read_tokens : List Token → Option Data
read_tokens ts = option_and_then of_json (option_and_then (λ p. if_last p.0 p.1) (value max_depth ts))

tokens-read : (digits bytes : List ℕ) (n : ℕ) → number_of digits ≡ Some (unsigned n) → read_tokens (line_tokens digits bytes) ≡ Some (values.object (line_members n bytes))
unfolding value items members
tokens-read digits bytes n e = rw e refl

line-read : (n : ℕ) (bytes : List ℕ) → n < 2 ^ 64 → read (pieces (decimal n) bytes) ≡ Some (values.object (line_members n bytes))
line-read n bytes h = ap read_tokens (line-tokens n bytes h) ∙ tokens-read (decimal n) bytes n (number_of-decimal n h)

front-utf8 : IsUtf8 (codes "{\"op\":\"insert\",\"buffer\":\"main\",\"pos\":")
unfolding is_utf8 chars encode_utf8
front-utf8 = IsUtf8-from_is_utf8 (codes "{\"op\":\"insert\",\"buffer\":\"main\",\"pos\":") refl

between-utf8 : IsUtf8 (codes ",\"text\":")
unfolding is_utf8 chars encode_utf8
between-utf8 = IsUtf8-from_is_utf8 (codes ",\"text\":") refl

end-utf8 : IsUtf8 (codes "}")
unfolding is_utf8 chars encode_utf8
end-utf8 = IsUtf8-from_is_utf8 (codes "}") refl

line-utf8 : (n : ℕ) (bytes : List ℕ) → n < 2 ^ 64 → IsUtf8 bytes → IsUtf8 (pieces (decimal n) bytes)
line-utf8 n bytes h u =
    IsUtf8-append _ _ front-utf8 (IsUtf8-append _ _ (IsUtf8-from_ascii (decimal n) (IsAscii-decimal n h)) (IsUtf8-append _ _ between-utf8 (IsUtf8-append _ _ (IsUtf8-quoted bytes u) end-utf8)))

-- ---- and as an op

main-name : is_buffer_name (codes "main") ≡ true
unfolding chars
main-name = refl

whole-is : (n : ℕ) → n < 2 ^ 64 → whole (values.number (unsigned n)) ≡ Some n
whole-is n h =
    let most : n ≤ 18446744073709551615 = omega arith in
    let fits : (nat_le 0 n && nat_le n 18446744073709551615) ≡ true = grind (arith, nat_tests, most) in
    rw fits refl

text-is : (bytes said : List ℕ) → chars bytes ≡ said → is_text said ≡ true → text (values.string bytes) ≡ Some said
text-is bytes said e h = rw e (rw h refl)

members-say : (n : ℕ) (bytes said : List ℕ) → whole (values.number (unsigned n)) ≡ Some n → text (values.string bytes) ≡ Some said
    → reading_members (line_members n bytes) ≡ Ok (ops.Insert (codes "main") n said)
members-say n bytes said digits letters = rw (main-name, digits, letters) refl

reading-of : (line : List ℕ) (ms : Members) → json_of line ≡ Ok (values.object ms) → reading line ≡ reading_members ms
unfolding reading
reading-of line ms e = rw e refl

insertion-said : (j : ℕ) (said : List ℕ) → j < 1000 → list_all is_plain said ≡ true → reading (insertion j said) ≡ Ok (insertion_op j said)
insertion-said j said few h =
    let n = 2500 * j + 1 in
    let bytes = encode_utf8_all said in
    let fits : n < 2 ^ 64 = omega arith in
    ap reading (line-pieces j said h)
    ∙ (reading-of (pieces (decimal n) bytes) (line_members n bytes) (json_of-value (pieces (decimal n) bytes) (values.object (line_members n bytes)) (line-utf8 n bytes fits (plain-utf8 said h)) (line-read n bytes fits))
    ∙ members-say n bytes said (whole-is n fits) (text-is bytes said (plain-chars said h) (plain-text said h)))

-- ---- all lines

redisplay-said : reading redisplay ≡ Ok (ops.Redisplay None)
unfolding on_lines
redisplay-said = refl

-- lines and their ops, of which each is what its line says
abbrev Say : List (List ℕ) → List Op → Type 0
Say lines said = map reading lines ≡ map Ok said

say-both : (one two : List (List ℕ)) (first second : List Op) → Say one first → Say two second → Say (one ++ two) (first ++ second)
say-both one two first second p q = map-append reading one two ∙ (ap₂ (λ a b. a ++ b) p q ∙ sym (map-append Ok first second))

say-shown : (n : ℕ) (line : List ℕ) (op : Op) → reading line ≡ Ok op → Say (shown n line) (shown_ops n op)
unfolding shown
say-shown zero line op e = refl
say-shown (suc n) line op e =
    ap₂ (λ a b. a ∷ b) e (ap₂ (λ a b. a ∷ b) redisplay-said (say-shown n line op e))

say-hundreds : (seed start n : ℕ) → start + n ≤ 1000
    → Say (flat_map (λ j. insertion j (hundred seed j) ∷ redisplay ∷ []) (range_with_len start n)) (flat_map (λ j. with_redisplay (insertion_op j (hundred seed j))) (range_with_len start n))
say-hundreds seed start zero h = refl
say-hundreds seed start (suc n) h =
    ap₂ (λ a b. a ∷ b) (insertion-said start (hundred seed start) (omega (arith, h)) (hundred-plain seed start))
    (ap₂ (λ a b. a ∷ b) redisplay-said (say-hundreds seed (start + 1) n (omega (arith, h))))

say-opening : Say opening opening_ops
unfolding on_lines
say-opening = refl

x-said : reading (codes "{\"op\":\"type\",\"text\":\"x\"}") ≡ Ok (ops.TypeText (codes "x"))
unfolding on_lines
x-said = refl

scroll-said : reading (codes "{\"op\":\"scroll\",\"window\":0,\"rows\":22}") ≡ Ok (ops.Scroll 0 (pos 22))
unfolding on_lines
scroll-said = refl

split-said : reading (codes "{\"op\":\"split\",\"window\":0,\"side\":\"below\",\"size\":11}") ≡ Ok (ops.Split 0 sides.Below 11)
unfolding on_lines
split-said = refl

y-said : reading (codes "{\"op\":\"type\",\"text\":\"y\"}") ≡ Ok (ops.TypeText (codes "y"))
unfolding on_lines
y-said = refl

say-ending : Say ending ending_ops
say-ending =
    let keys = codes "{\"op\":\"type\",\"text\":\"x\"}" in
    let scroll = codes "{\"op\":\"scroll\",\"window\":0,\"rows\":22}" in
    let split = codes "{\"op\":\"split\",\"window\":0,\"side\":\"below\",\"size\":11}" in
    let last = codes "{\"op\":\"type\",\"text\":\"y\"}" in
    let keys_op = ops.TypeText (codes "x") in
    let scroll_op = ops.Scroll 0 (pos 22) in
    let split_op = ops.Split 0 sides.Below 11 in
    let last_op = ops.TypeText (codes "y") in
    say-both ((shown 200 keys ++ shown 50 scroll) ++ shown 1 split) (shown 20 last) ((shown_ops 200 keys_op ++ shown_ops 50 scroll_op) ++ shown_ops 1 split_op) (shown_ops 20 last_op)
    (say-both (shown 200 keys ++ shown 50 scroll) (shown 1 split) (shown_ops 200 keys_op ++ shown_ops 50 scroll_op) (shown_ops 1 split_op)
    (say-both (shown 200 keys) (shown 50 scroll) (shown_ops 200 keys_op) (shown_ops 50 scroll_op) (say-shown 200 keys keys_op x-said) (say-shown 50 scroll scroll_op scroll-said))
    (say-shown 1 split split_op split-said))
    (say-shown 20 last last_op y-said)

say-insertions : (seed : ℕ) → Say (insertions seed) (hundred_ops seed 30)
unfolding hundreds
say-insertions seed = say-hundreds seed 0 30 (omega arith)

pub said : (seed : ℕ) → map reading (script seed) ≡ map Ok (generated_ops seed)
said seed =
    say-both (opening ++ insertions seed) ending (opening_ops ++ hundred_ops seed 30) ending_ops
    (say-both opening (insertions seed) opening_ops (hundred_ops seed 30) say-opening (say-insertions seed)) say-ending

in-form : (lines : List (List ℕ)) (said : List Op) → Say lines said → AllByRecursion IsInForm said
in-form lines [] e = tt
in-form [] (op ∷ said) e = absurd (cc)
in-form (line ∷ lines) (op ∷ said) e = let both = heads e in (reading-in_form line op both.0, in-form lines said both.1)

-- each of these ops is in form
pub form : (seed : ℕ) → AllByRecursion IsInForm (generated_ops seed)
form seed = in-form (script seed) (generated_ops seed) (said seed)
