-- What is told of buffers and their texts.
use Rattle.std.specs.Prelude.{◌≡◌, ℕ, ◌+◌, ◌-◌, ◌&&◌, nat_le, if◌then◌else◌, List, [], ◌∷◌, length, map, Option, None, Some, option_and_then, option_map, slice_get}
use Rattle.std.specs.Str.{chars}
use Rattle.rd_base.specs.Chars.{encoded}
use Rattle.rd_state.specs.States.{BufferValue}
use Rattle.rd_text.specs.Texts.{TextValue, between}
use Rattle.rd_embed.specs.Fills.{FillsWhole, fitting}
use Rattle.rd_embed.specs.Spelling.{character_bytes}
use Rattle.rd_embed.specs.declared.texts.TextGiven.{TextGiven}

-- the characters of a name, each in UTF-8
abbrev pub name_texts : List ℕ → List (List ℕ)
name_texts name = map encoded (chars name)

-- the characters of a range of a text, where it is one
abbrev pub range_of : TextValue → ℕ → ℕ → Option (List ℕ)
range_of t from to = if (nat_le 1 from && nat_le from to) && nat_le to (length t.text + 1) then Some (between t from to) else None

-- the text of the buffer with a number
abbrev pub text_of : ℕ → List BufferValue → Option TextValue
text_of number buffers = option_map (λ b. b.content.text) (slice_get buffers number)

-- the characters of a range of the text of the buffer with a number
abbrev pub range_in : ℕ → ℕ → ℕ → List BufferValue → Option (List ℕ)
range_in number from to buffers = option_and_then (λ t. range_of t from to) (text_of number buffers)

-- the characters that fit whole are the front of a buffer, and it is told behind which position they end; where there are none to be
-- told nothing is put in
abbrev pub GivesText : Option TextGiven → Option (List ℕ) → ℕ → List ℕ → List ℕ → Type 0
GivesText (Some given) (Some text) from before after =
    FillsWhole given.bytes (map character_bytes text) before after × (given.next ≡ from + fitting (length before) (map character_bytes text))
GivesText None None from before after = after ≡ before
GivesText given text from before after = ⊥
