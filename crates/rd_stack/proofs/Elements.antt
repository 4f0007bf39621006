-- The elements of the steps of a line are those of its items.
use Rattle.std.proofs.Common.{◌≡◌, ℕ, Bool, true, false, List, [], ◌∷◌, ◌++◌, Option, None, Some, refl, ap₂, ◌∙◌, append-nil}
use Rattle.std.specs.Prelude.{slice_get, Result, Ok, Err, IfOk}
use Rattle.std.specs.List.{flat_map}
use Rattle.std.proofs.lemmas.Grind.{flat_map-append}
use Rattle.rd_base.specs.Faces.{Attributes}
use Rattle.rd_base.specs.declared.element.Element.{Element}
use Rattle.rd_base.specs.declared.element.Look.{Look}
use Rattle.rd_base.specs.declared.element.Look.TheVariants as look
use Rattle.rd_base.specs.declared.element.Origin.{Origin}
use Rattle.rd_base.specs.declared.memory.Memory.{Memory}
use Rattle.rd_objects.specs.Texts.{TextValue}
use Rattle.rd_items.specs.Pieces.{Scene}
use Rattle.rd_items.specs.declared.item.Item.{Item}
use Rattle.rd_items.specs.declared.item.ItemKind.{ItemKind}
use Rattle.rd_items.specs.declared.item.ItemKind.TheVariants as item
use Rattle.rd_levels.specs.declared.turn.Turn.{Turn}
use Rattle.rd_stack.specs.Strings.{string_parts}
use Rattle.rd_base.specs.Elements.{AreSound}
use Rattle.rd_base.specs.Glyphs.{AreMeasured}
use Rattle.rd_stack.specs.Shown.{AreRight, kind_elements, put_part, put_string, put_named, put_text}
use Rattle.rd_stack.specs.Lines.{origin_of, put_turn, put_item}
use Rattle.rd_stack.specs.Steps.{kind_steps, line_left, elements_in}

one-by-one : {X : Type 0} (f : X → List (List Element)) (g : X → List Element) → ((x : X) → elements_in (f x) ≡ g x) → (xs : List X) → elements_in (flat_map f xs) ≡ flat_map g xs
one-by-one f g each [] = refl
one-by-one f g each (x ∷ xs) =
    flat_map-append (λ (es : List Element). es) (f x) (flat_map f xs) ∙ ap₂ (λ these those. these ++ those) (each x) (one-by-one f g each xs)

-- the elements in the steps of what an item shows are the item's, where those of strings are the strings'
kind-elements : (end : Look) (steps : Option TextValue → List (List Element)) (string : Option TextValue → List Element) → ((text : Option TextValue) → elements_in (steps text) ≡ string text)
    → (s : Scene) (k : ItemKind) (odd : Bool) (face : Attributes) (origin : Origin) → elements_in (kind_steps end steps s k odd face origin) ≡ kind_elements end string s k odd face origin
kind-elements end steps string each s (item.Text n) odd face origin = each (slice_get s.objects.strings n)
kind-elements end steps string each s (item.Char c) odd face origin = append-nil (kind_elements end string s (item.Char c) odd face origin)
kind-elements end steps string each s (item.Marked g) odd face origin = refl
kind-elements end steps string each s (item.Space spec) odd face origin = append-nil (kind_elements end string s (item.Space spec) odd face origin)
kind-elements end steps string each s item.Ellipsis odd face origin = append-nil (kind_elements end string s item.Ellipsis odd face origin)
kind-elements end steps string each s item.Ender odd face origin = refl

module _ (s : Scene) (base : ℕ) (origin : Origin) where
  string-elements : (steps : Attributes → Option TextValue → List (List Element)) (named : Attributes → Option TextValue → List Element) → ((face : Attributes) (text : Option TextValue) → elements_in (steps face text) ≡ named face text)
      → (replaced : Bool) (under : Attributes) (text : Option TextValue) → elements_in (put_string kind_steps steps s base replaced origin under text) ≡ put_string kind_elements named s base replaced origin under text
  string-elements steps named each replaced under None = refl
  string-elements steps named each replaced under (Some text) =
      one-by-one (put_part kind_steps steps s origin) (put_part kind_elements named s origin)
      (λ x. kind-elements look.RowEnd (steps x.face) (named x.face) (each x.face) s x.kind x.odd x.face origin) (string_parts s base replaced text under)

  named-elements : (overlay : Bool) (face : Attributes) (text : Option TextValue) → elements_in (put_named kind_steps s base overlay origin face text) ≡ put_named kind_elements s base overlay origin face text
  named-elements true = string-elements (λ over other. []) (λ over other. []) (λ over other. refl) false
  named-elements false = λ face text. refl

  pub text-elements : (overlay : Bool) (face : Attributes) (text : Option TextValue) → elements_in (put_text kind_steps s base overlay origin face text) ≡ put_text kind_elements s base overlay origin face text
  text-elements overlay = string-elements (put_named kind_steps s base overlay origin) (put_named kind_elements s base overlay origin) (named-elements overlay) overlay

turn-elements : (s : Scene) (base : ℕ) (turn : Turn) (found : Option Item) → elements_in (put_turn kind_steps s base turn found) ≡ put_turn kind_elements s base turn found
turn-elements s base turn None = refl
turn-elements s base turn (Some x) =
    let origin = origin_of turn.index x in
    kind-elements look.LineEnd (put_text kind_steps s base x.overlay origin x.face) (put_text kind_elements s base x.overlay origin x.face) (text-elements s base origin x.overlay x.face) s x.kind turn.odd x.face origin

pub line-elements : (s : Scene) (base : ℕ) (items : List Item) (turns : List Turn) → elements_in (line_left s base items turns) ≡ flat_map (put_item kind_elements s base items) turns
line-elements s base items turns =
    one-by-one (put_item kind_steps s base items) (put_item kind_elements s base items) (λ turn. turn-elements s base turn (slice_get items turn.index)) turns

pub if-made : {W : Type 0} (left : W → List Element) (result : Result W Memory) (a b : List Element) → IfOk result (λ w. left w ≡ a) → a ≡ b → IfOk result (λ w. left w ≡ b)
if-made left (Ok w) a b same more = same ∙ more
if-made left (Err e) a b same more = same

pub right-sound : (es : List Element) → AreRight es → AreSound es
right-sound es right = λ k d inside. (right k d inside).sound

pub right-measured : (es : List Element) → AreRight es → AreMeasured es
right-measured es right = λ k d inside. (right k d inside).measured
