-- What is read of a block: what is seen at each of its positions, up to its ender.
use Rattle.std.specs.Prelude.{◌≡◌, ℕ, zero, suc, ◌-◌, Bool, true, false, not, ◌&&◌, is_some, if◌then◌else◌, List, [], ◌∷◌, Option, None, Some, IfSome, IsTrue, All}
use Rattle.rd_base.specs.Chars.{is_code}
use Rattle.rd_base.specs.declared.settings.Invisible.{Invisible}
use Rattle.rd_text.specs.Texts.{is_newline}
use Rattle.rd_objects.specs.Things.{ObjectLists}
use Rattle.rd_props.specs.Buffers.{BufferValue}
use Rattle.rd_props.specs.Appearance.{hidden_by}
use Rattle.rd_props.specs.Shown.{is_replaced, hidden}
use Rattle.rd_props.specs.Seen.{Seen, seen_at, accessible_char}
use Rattle.rd_props.specs.declared.appearance.Appearance.{Appearance}
use Rattle.rd_props.specs.declared.hiding.Hidden.{Hidden}
use Rattle.rd_props.specs.declared.hiding.Hidden.TheVariants.{No, Plain, Ellipsis}
use Rattle.rd_items.specs.declared.showing.Showing.{Showing}

abbrev pub is_hidden : Hidden → Bool
is_hidden No = false
is_hidden Plain = true
is_hidden Ellipsis = true

-- a newline, or the end of the accessible text
abbrev pub ends_line : Option ℕ → Bool
ends_line None = true
ends_line (Some c) = is_newline c

-- whether a position ends a block: it is the end of the accessible text, or has a newline that is neither replaced nor hidden
abbrev pub ends_block : BufferValue → ℕ → Bool
ends_block s p = (not (is_replaced s p) && not (is_hidden (hidden s p))) && ends_line (accessible_char s.text p)

-- how a position that looks like this is shown: the number of the display spec that replaces it, how it is hidden, and its face
abbrev pub showing_by : Invisible → Appearance → Showing
showing_by setting appearance = record { display = appearance.display; hidden = hidden_by setting appearance; face = appearance.face }

-- how a position shows where this is seen
abbrev pub showing_of : Invisible → Seen → Showing
showing_of setting seen = showing_by setting seen.appearance

abbrev pub showing_at : BufferValue → ObjectLists → ℕ → Showing
showing_at s objects p = showing_of s.settings.invisible (seen_at s objects p)

-- whether text that is shown so is neither replaced nor hidden
abbrev pub is_open : Showing → Bool
is_open showing = not (is_some showing.display) && not (is_hidden showing.hidden)

-- whether what is seen at a position ends a block
abbrev pub is_ender : Invisible → Seen → Bool
is_ender setting seen = is_open (showing_of setting seen) && ends_line seen.character

-- what is seen at a position and at those after it up to the block's ender, where the end is so many positions away
abbrev pub reading_from : BufferValue → ObjectLists → ℕ → ℕ → List Seen
reading_from s objects zero p = seen_at s objects p ∷ []
reading_from s objects (suc n) p =
    seen_at s objects p ∷ (if ends_block s p then [] else reading_from s objects n (suc p))

-- what is seen at a position and at those after it up to the block's ender
abbrev pub reading : BufferValue → ObjectLists → ℕ → List Seen
reading s objects p = reading_from s objects (s.text.end - p) p

-- what can be read of a block: the last ends it, and no other does
abbrev pub IsReading : Invisible → List Seen → Type 0
IsReading setting [] = ⊥
IsReading setting (e ∷ []) = is_ender setting e ≡ true
IsReading setting (e ∷ f ∷ es) = (is_ender setting e ≡ false) × IsReading setting (f ∷ es)

-- where a character is seen it has a code
abbrev pub HasCode : Seen → Type 0
HasCode e = IfSome e.character (λ c. IsTrue (is_code c))

-- each character that is seen has a code
abbrev pub HaveCodes : List Seen → Type 0
HaveCodes es = All HasCode es
