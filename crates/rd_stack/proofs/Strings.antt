-- The steps of a string, row by row.
use Rattle.std.proofs.Common.{◌≡◌, ℕ, Bool, true, false, List, [], ◌∷◌, ◌++◌, refl, sym, ap, ◌∙◌, arith}
use Rattle.std.specs.Prelude.{◌+◌, ◌<◌, length, nat_lt, if◌then◌else◌, Result, IfOk}
use Rattle.std.proofs.lemmas.Bool.Decides.{nat_tests}
use Rattle.std.specs.List.{flat_map}
use Rattle.rd_base.specs.Faces.{Attributes}
use Rattle.rd_base.specs.declared.element.Element.{Element}
use Rattle.rd_base.specs.declared.element.Origin.{Origin}
use Rattle.rd_base.specs.declared.memory.Memory.{Memory}
use Rattle.rd_objects.specs.Texts.{TextValue}
use Rattle.rd_base.specs.declared.element.Look.TheVariants as look
use Rattle.rd_glyphs.specs.Characters.{element_of}
use Rattle.rd_items.specs.Pieces.{Scene}
use Rattle.rd_items.specs.declared.item.ItemKind.{ItemKind}
use Rattle.rd_levels.specs.declared.turn.Turn.{Turn}
use Rattle.rd_stack.specs.Strings.{place_of, row_end, shown_from}
use Rattle.rd_stack.specs.Shown.{put_text, put_named}
use Rattle.rd_stack.specs.Steps.{kind_steps, part_steps, string_left}
use Rattle.rd_stack.specs.Walks.{IsStep}
use Rattle.rd_stack.specs.declared.part.Part.{Part}
use Rattle.rd_stack.specs.declared.step.Step.{Step}

row-end-steps : (s : Scene) (base : ℕ) (replaced : Bool) (origin : Origin) (face : Attributes) → part_steps s base replaced origin (row_end face) ≡ (element_of face origin look.RowEnd ∷ []) ∷ []
row-end-steps s base true origin face = refl
row-end-steps s base false origin face = refl

-- a row ends, and the next begins
pub row-over : (s : Scene) (base : ℕ) (replaced : Bool) (origin : Origin) (under face : Attributes) (text : TextValue) (parts : List Part) (turns : List Turn) (i n : ℕ) (end : Element) (few : List Element) (next : List (List Element))
    → turns ≡ [] → n ≡ length text.chars → i < n → face ≡ (place_of replaced text under i).face → end ≡ element_of face origin look.RowEnd → few ≡ []
    → next ≡ flat_map (part_steps s base replaced origin) (shown_from s base replaced text under (i + 1))
    → string_left s base replaced origin under text parts turns i ≡ (end ∷ few) ∷ next
row-over s base replaced origin under face text parts turns i n end few next none size inside here ends empty begins =
    let steps = part_steps s base replaced origin in
    let place = place_of replaced text under i in
    let behind = shown_from s base replaced text under (i + 1) in
    let before_end : nat_lt i (length text.chars) ≡ true = grind (arith, nat_tests) in
    ap (λ ts. string_left s base replaced origin under text parts ts i) none
    ∙ ap (λ t. flat_map steps (if t then row_end place.face ∷ behind else [])) before_end
    ∙ ap (λ l. l ++ flat_map steps behind) (row-end-steps s base replaced origin place.face)
    ∙ sym (ap (λ f. (element_of f origin look.RowEnd ∷ []) ∷ flat_map steps behind) here)
    ∙ sym (ap (λ e. (e ∷ []) ∷ flat_map steps behind) ends)
    ∙ sym (ap (λ l. (end ∷ l) ∷ flat_map steps behind) empty)
    ∙ sym (ap (λ l. (end ∷ few) ∷ l) begins)

-- the step of a part of a string, by whether its display runs are used
pub part-step : (s : Scene) (base : ℕ) (replaced : Bool) (origin : Origin) (k : ItemKind) (odd : Bool) (face : Attributes) (few : List Element) (result : Result Step Memory)
    → IfOk result (λ step. IsStep step few (kind_steps look.RowEnd (λ text. if replaced then put_text kind_steps s base false origin face text else []) s k odd face origin) [])
    → IfOk result (λ step. IsStep step few (kind_steps look.RowEnd (put_named kind_steps s base replaced origin face) s k odd face origin) [])
part-step s base true origin k odd face few result h = h
part-step s base false origin k odd face few result h = h
