-- Prefixes that are cut to fit end no line and begin no item of it.
use Rattle.std.proofs.Common.{◌≡◌, ℕ, ◌+◌, ◌/◌, nat_le, false, List, [], ◌∷◌, Option, None, Some, refl, arith}
use Rattle.std.proofs.lemmas.Bool.{cond_both}
use Rattle.std.proofs.lemmas.List.Elements.{All-nil, All-tail}
use Rattle.rd_base.specs.Elements.{is_line_end}
use Rattle.rd_base.specs.declared.element.Element.{Element}
use Rattle.rd_items.specs.Pieces.{Scene}
use Rattle.rd_props.specs.Seen.{Seen}
use Rattle.rd_rows.specs.declared.spot.Placed.{Placed}
use Rattle.rd_rows.specs.Placing.{width_at}
use Rattle.rd_rows.specs.Prefixes.{fitted}
use Rattle.rd_rows.specs.Leads.{IsQuiet, HasQuietLeads}
use Rattle.rd_rows.specs.Shapes.{ShapeValues}
use Rattle.rd_stack.specs.Shown.{prefix, AreOpen}
use Rattle.rd_blocks.specs.Rows.{line_prefix_of, wrap_prefix_of, prefix_elements, block_cutting}

quiet-nil : IsQuiet []
quiet-nil = record { on = refl; items = refl }

quiet-cons : (p : Placed) (ps : List Placed) → is_line_end p.element.look ≡ false → p.first ≡ false → IsQuiet ps → IsQuiet (p ∷ ps)
quiet-cons p ps on first rest = record { on = rw on rest.on; items = rw first rest.items }

quiet-fitted : (limit column : ℕ) (es : List Element) → AreOpen es → IsQuiet (fitted limit column es)
quiet-fitted limit column [] each = quiet-nil
quiet-fitted limit column (e ∷ es) each =
    let p : Placed = record { element = e; start = column; columns = width_at e.extent column; first = false } in
    cond_both (nat_le (column + p.columns) limit) (p ∷ fitted limit (column + p.columns) es) [] IsQuiet
    (λ _. quiet-cons p (fitted limit (column + p.columns) es) (each 0 e (omega arith)) refl
    (quiet-fitted limit (column + p.columns) es (All-tail (λ (x : Element). is_line_end x.look ≡ false) e es each)))
    (λ _. quiet-nil)

abbrev pub PrefixesOpen : Type 0
PrefixesOpen = (scene : Scene) (base number : ℕ) → AreOpen (prefix scene base number)

prefix-open : PrefixesOpen → (scene : Scene) (base : ℕ) (number : Option ℕ) → AreOpen (prefix_elements scene base number)
prefix-open law scene base None = All-nil (λ (x : Element). is_line_end x.look ≡ false)
prefix-open law scene base (Some number) = law scene base number

pub quiet-cutting : PrefixesOpen → (scene : Scene) (base : ℕ) (shape : ShapeValues) (es : List Seen) → HasQuietLeads (block_cutting scene base shape es)
quiet-cutting law scene base shape es = record {
  first = quiet-fitted (shape.width / 2) 0 (prefix_elements scene base (line_prefix_of scene.parts.settings.line_prefix es)) (prefix-open law scene base (line_prefix_of scene.parts.settings.line_prefix es));
  wrap = quiet-fitted (shape.width / 2) 0 (prefix_elements scene base (wrap_prefix_of scene.parts.settings.wrap_prefix es)) (prefix-open law scene base (wrap_prefix_of scene.parts.settings.wrap_prefix es));
}
