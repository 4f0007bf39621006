-- What is seen at a position.
use Rattle.std.specs.Prelude.{◌≡◌, ℕ, nat_lt, if◌then◌else◌, List, Option, None}
use Rattle.rd_text.specs.Texts.{TextValue, char_at}
use Rattle.rd_objects.specs.Things.{ObjectLists}
use Rattle.rd_props.specs.Buffers.{BufferValue}
use Rattle.rd_props.specs.Appearance.{appearance_at}
use Rattle.rd_props.specs.Strings.{strings_at}
use Rattle.rd_props.specs.declared.appearance.Appearance.{Appearance}

-- the character at a position, and none at the end of the accessible text
abbrev pub accessible_char : TextValue → ℕ → Option ℕ
accessible_char text p = if nat_lt p text.end then char_at text p else None

-- all that is seen at a position: the character, or none at the end of the accessible text; what it looks like; and the numbers of
-- the overlays' strings that stand before it
pub record Seen : Type 0 where
  pub character : Option ℕ
  pub appearance : Appearance
  pub strings : List ℕ

abbrev pub seen_at : BufferValue → ObjectLists → ℕ → Seen
seen_at s objects p = record {
  character = accessible_char s.text p;
  appearance = appearance_at s objects p;
  strings = strings_at s p;
}

-- two buffers agree at a position of the one and a position of the other where the same is seen there
abbrev pub Agree : BufferValue → ObjectLists → ℕ → BufferValue → ObjectLists → ℕ → Type 0
Agree s objects x t things y = seen_at s objects x ≡ seen_at t things y
