-- The texts of characters.
use Rattle.std.proofs.Common.{◌≡◌, ℕ, ◌+◌, ◌-◌, ◌<◌, ◌≤◌, Bool, true, false, Some, None, Option, List, [], length, take, drop, map, get_or, refl, sym, ap, ◌∙◌, arith}
use Rattle.std.specs.Prelude.{nat_le, if◌then◌else◌, slice_get, slice_range, option_map}
use Rattle.std.specs.Char.{encode_utf8}
use Rattle.std.proofs.lemmas.Bool.Decides.{nat_tests}
use Rattle.std.proofs.lemmas.Str.{length-encode, len_utf8_bounds}
use Rattle.std.proofs.lemmas.List.{length-map, length-take}
use Rattle.std.proofs.lemmas.Option.{get_or_from_slice_get, slice_get-map, slice_get_past}
use Rattle.rd_base.proofs.Choices.{either}
use Rattle.rd_base.proofs.Lists.{element-at, ended, get-drop, get-take}
use Rattle.rd_base.specs.Chars.{encoded, is_scalar}
use Rattle.rd_text.specs.Texts.{TextValue, between, char_at}
use Rattle.rd_embed.specs.Spelling.{IsRange}

-- a scalar value takes at most four bytes in UTF-8
pub encoded-short : (c : ℕ) → length (encoded c) ≤ 4
encoded-short c = either (λ (xs : List ℕ). length xs ≤ 4) (is_scalar c) (encode_utf8 c) [] (omega (arith, length-encode c, (len_utf8_bounds c).1)) (omega arith)

here : (t : TextValue) (pos : ℕ) → 1 ≤ pos → slice_get t.text (pos - 1) ≡ char_at t pos
here t pos first = grind (arith, nat_tests)

-- the character at a place of a range
pub range-at : (t : TextValue) (from to i : ℕ) → 1 ≤ from → i < to - from → slice_get (between t from to) i ≡ char_at t (from + i)
range-at t from to i first within =
    let e : from + i - 1 ≡ from - 1 + i = omega arith in
    let w : i < (to - 1) - (from - 1) = omega arith in
    get-take ((to - 1) - (from - 1)) (drop (from - 1) t.text) i w ∙ get-drop (from - 1) t.text (from + i - 1) i e ∙ here t (from + i) (omega arith)

pub spelt-at : (f : ℕ → List ℕ) (t : TextValue) (from to i : ℕ) (o : Option ℕ) → IsRange t from to → i < length (map f (between t from to)) → o ≡ char_at t (from + i)
    → slice_get (map f (between t from to)) i ≡ option_map f o
spelt-at f t from to i o range within is =
    let m : length (map f (between t from to)) ≡ length (between t from to) = simp length-map in
    let w : i < to - from = omega (arith, m, length-take ((to - 1) - (from - 1)) (drop (from - 1) t.text), range.first) in
    slice_get-map f (between t from to) i ∙ ap (option_map f) (range-at t from to i range.first w ∙ sym is)

-- each place within a list has an element
pub none-past : {X : Type 0} (xs : List X) (i : ℕ) → slice_get xs i ≡ None → i < length xs → ⊥
none-past xs i none within = let past = ended xs i none in omega arith

-- what was met at a place is what stands there
pub got-at : (xs : List ℕ) (n i x : ℕ) → n ≡ i → n < length xs → x ≡ get_or xs n x → Some x ≡ slice_get xs i
got-at xs n i x e within is =
    let there = element-at xs n within in
    ap Some (is ∙ get_or_from_slice_get xs n there.0 x there.1) ∙ sym there.1 ∙ ap (slice_get xs) e
