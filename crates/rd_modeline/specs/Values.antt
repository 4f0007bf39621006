-- What a mode line can show, as contracts see it.
use Rattle.std.specs.Prelude.{ℕ, ◌<◌, ◌^◌, ◌+◌, ◌-◌, ◌*◌, ◌/◌, ◌==◌, min, Bool, IsTrue, All, if◌then◌else◌, List, [], ◌++◌, codes, decimal}
use Rattle.rd_base.specs.Chars.{is_code}
use Rattle.rd_modeline.specs.declared.piece.Field.{Field}
use Rattle.rd_modeline.specs.declared.piece.Field.TheVariants.{Name, Line, Place, ReadOnly, Modified, Narrowing}

pub record FactValues : Type 0 where
  pub name : List ℕ
  pub line : ℕ
  pub top : Bool
  pub bottom : Bool
  pub above : ℕ
  pub total : ℕ
  pub modified : Bool
  pub read_only : Bool
  pub narrowed : Bool

-- a name of characters, and a line whose number has 32 bits
pub record AreFacts (f : FactValues) : Type 0 where
  pub name : All (λ c. IsTrue (is_code c)) f.name
  pub line : f.line < 2 ^ 32

-- the share of the text above the view, in whole percent, rounded up and at most 99
abbrev pub share : ℕ → ℕ → ℕ
share above total = if total == 0 then 0 else min 99 ((100 * above + (total - 1)) / total)

-- where the view stands in the text
abbrev pub place_text : FactValues → List ℕ
place_text f =
    if f.top then (if f.bottom then codes "All" else codes "Top")
    else if f.bottom then codes "Bottom"
    else decimal (share f.above f.total) ++ codes "%"

-- the text that a mode line shows for a field, by a window's facts
abbrev pub value_text : FactValues → Field → List ℕ
value_text f Name = f.name
value_text f Line = decimal f.line
value_text f Place = place_text f
value_text f ReadOnly = if f.read_only then codes "%" else if f.modified then codes "*" else codes "-"
value_text f Modified = if f.modified then codes "*" else if f.read_only then codes "%" else codes "-"
value_text f Narrowing = if f.narrowed then codes "Narrow" else []
