-- How many items and columns a line has at most, by the limits of texts, overlays, strings and specs.
use Rattle.std.specs.Prelude.{ℕ, ◌+◌, ◌*◌, ◌≤◌, List, length}
use Rattle.rd_base.specs.declared.limits.TheConstants.{OVERLAYS, SPACE_COLUMNS, STRING_CHARACTERS, TEXT_CHARACTERS}
use Rattle.rd_base.specs.declared.element.Element.{Element}
use Rattle.rd_base.specs.Elements.{columns_at_most}
use Rattle.rd_base.specs.Lists.{total}
use Rattle.rd_props.specs.Seen.{Seen}
use Rattle.rd_stack.specs.Shown.{AreRight}

-- how many strings of overlays stand before the positions that are read
abbrev pub strings_in : List Seen → ℕ
strings_in es = total (λ e. length e.strings) es

-- the most items of a line: one for each position of a text, its end included, and both strings of each overlay
abbrev pub most_items : ℕ
most_items = TEXT_CHARACTERS + 1 + 2 * OVERLAYS

-- no more positions and strings are read than there may be
abbrev pub AreFew : List Seen → Type 0
AreFew es = length es + strings_in es ≤ most_items

-- the most columns of a display string: no place of it has more than a space may have
abbrev pub most_display_columns : ℕ
most_display_columns = STRING_CHARACTERS * SPACE_COLUMNS

-- the most columns of an overlay's string: no place of it has more than a display string
abbrev pub most_overlay_columns : ℕ
most_overlay_columns = STRING_CHARACTERS * most_display_columns

-- the most columns of a line: no item of it has more than an overlay's string
abbrev pub most_columns : ℕ
most_columns = most_items * most_overlay_columns

-- elements that are sound and measured, of so many columns at most
pub record AreRightWithin (most : ℕ) (es : List Element) : Type 0 where
  pub right : AreRight es
  pub few : columns_at_most es ≤ most
