-- The prefixes of a block's rows, by what is effective at its first position.
use Rattle.std.proofs.Common.{◌≡◌, ℕ, zero, suc, ◌-◌, true, false, IsTrue, List, [], ◌∷◌, Option, refl, ap, ap₂, sym, ◌∙◌, arith}
use Rattle.std.specs.Prelude.{Result, Ok, Err, IfOk}
use Rattle.std.specs.Option.{option_or}
use Rattle.std.proofs.lemmas.List.Elements.{All-tail}
use Rattle.rd_base.specs.Elements.{is_line_end}
use Rattle.rd_base.specs.declared.element.Element.{Element}
use Rattle.rd_base.specs.declared.element.Look.{Look}
use Rattle.rd_base.specs.declared.element.Look.TheVariants.{Blank, Glyph as Shown, RowEnd, LineEnd}
use Rattle.rd_base.specs.declared.memory.Memory.{Memory}
use Rattle.rd_objects.specs.Things.{ObjectLists}
use Rattle.rd_props.specs.Buffers.{BufferValue}
use Rattle.rd_props.specs.Seen.{Seen, seen_at}
use Rattle.rd_items.specs.Pieces.{Scene}
use Rattle.rd_items.specs.Readings.{reading, reading_from}
use Rattle.rd_rows.specs.Placing.{ends_row}
use Rattle.rd_rows.specs.Prefixes.{IsPrefix, ends_none}
use Rattle.rd_stack.specs.Shown.{AreInside, IsInside, AreOfOneRow, is_row_end}
use Rattle.rd_blocks.specs.Rows.{prefix_of, prefix_elements}

prefix-from : (own : Seen → Option ℕ) (s : BufferValue) (objects : ObjectLists) (n p : ℕ) (setting : Option ℕ) → prefix_of own setting (reading_from s objects n p) ≡ option_or (own (seen_at s objects p)) setting
prefix-from own s objects zero p setting = refl
prefix-from own s objects (suc n) p setting = refl

-- the elements of a prefix of a position, by the number that it has there and the setting
pub prefix-at : (own : Seen → Option ℕ) (scene : Scene) (base : ℕ) (s : BufferValue) (objects : ObjectLists) (p : ℕ) (here setting given : Option ℕ) (es : List Element)
    → here ≡ own (seen_at s objects p) → given ≡ setting → es ≡ prefix_elements scene base (option_or here given)
    → es ≡ prefix_elements scene base (prefix_of own setting (reading s objects p))
prefix-at own scene base s objects p here setting given es looks set made =
    made ∙ ap (prefix_elements scene base) (ap₂ option_or looks set ∙ sym (prefix-from own s objects (s.text.end - p) p setting))

-- elements that end no row and no line may stand in a prefix

ends-no-row : (look : Look) → is_line_end look ≡ false → is_row_end look ≡ false → ends_row look ≡ false
ends-no-row Blank a b = refl
ends-no-row (Shown g) a b = refl
ends-no-row RowEnd a b = absurd (let e : true ≡ false = b in cc)
ends-no-row LineEnd a b = absurd (let e : true ≡ false = a in cc)

none-ends : (es : List Element) → AreInside es → AreOfOneRow es → IsTrue (ends_none es)
none-ends [] inside row = refl
none-ends (e ∷ es) inside row =
    let here = ends-no-row e.look (inside 0 e (omega arith)).inside (row 0 e (omega arith)) in
    let rest = none-ends es (All-tail IsInside e es inside) (All-tail (λ (x : Element). is_row_end x.look ≡ false) e es row) in
    rw here rest

pub is-prefix : (es : List Element) → AreInside es → AreOfOneRow es → IsPrefix es
is-prefix es inside row = record { sound = λ k d within. (inside k d within).sound; on = none-ends es inside row }

pub prefix-ok : (r : Result (List Element) Memory) → IfOk r AreInside → IfOk r AreOfOneRow → IfOk r IsPrefix
prefix-ok (Ok es) inside row = is-prefix es inside row
prefix-ok (Err e) inside row = tt
