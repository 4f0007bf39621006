-- Elements of a line.
use Rattle.std.specs.Prelude.{◌≡◌, ◌≤◌, ℕ, Bool, true, false, not, ◌&&◌, List, [], ◌∷◌, Option, None, Some, Result, Ok, Err, All}
use Rattle.rd_base.specs.Lists.{total}
use Rattle.rd_base.specs.declared.element.Element.{Element}
use Rattle.rd_base.specs.declared.element.Extent.{Extent}
use Rattle.rd_base.specs.declared.element.Extent.TheVariants.{Fixed, Tab, Column}
use Rattle.rd_base.specs.declared.element.Look.{Look}
use Rattle.rd_base.specs.declared.element.Look.TheVariants.{Blank, Glyph, RowEnd, LineEnd}
use Rattle.rd_base.specs.declared.limits.TheConstants.{TAB_COLUMNS}
use Rattle.rd_base.specs.declared.memory.Memory.{Memory}

-- an element with this look and this extent is sound: a glyph has its 1 to 3 columns, ends have none, stretches are blank
abbrev pub IsSoundLook : Look → Extent → Type 0
IsSoundLook (Glyph g) (Fixed n) = (n ≡ g.width) × (1 ≤ n) × (n ≤ 3)
IsSoundLook (Glyph g) _ = ⊥
IsSoundLook RowEnd (Fixed n) = n ≡ 0
IsSoundLook RowEnd _ = ⊥
IsSoundLook LineEnd (Fixed n) = n ≡ 0
IsSoundLook LineEnd _ = ⊥
IsSoundLook Blank (Tab t) = (1 ≤ t) × (t ≤ TAB_COLUMNS)
IsSoundLook Blank _ = Unit {0}

abbrev pub IsSound : Element → Type 0
IsSound e = IsSoundLook e.look e.extent

abbrev pub AreSound : List Element → Type 0
AreSound es = All IsSound es

-- what a call that takes the next element does to the elements that are left
abbrev pub Takes : Result (Option Element) Memory → List Element → List Element → Type 0
Takes (Ok (Some e)) old new = old ≡ e ∷ new
Takes (Ok None) old new = (old ≡ []) × (new ≡ [])
Takes (Err _) old new = Unit {0}

-- the most columns that an extent can have
abbrev pub width_at_most : Extent → ℕ
width_at_most (Fixed n) = n
width_at_most (Tab t) = t
width_at_most (Column n) = n

-- the most columns that elements can take
abbrev pub columns_at_most : List Element → ℕ
columns_at_most es = total (λ e. width_at_most e.extent) es

abbrev pub is_line_end : Look → Bool
is_line_end LineEnd = true
is_line_end look = false

-- whether the last element is a line end, and no other
abbrev pub ends_once : List Element → Bool
ends_once [] = false
ends_once (e ∷ []) = is_line_end e.look
ends_once (e ∷ f ∷ es) = not (is_line_end e.look) && ends_once (f ∷ es)
