-- The ender of items comes last in visual order; the last element of a line is its end, and no other is.
use Rattle.std.proofs.Common.{◌≡◌, ℕ, zero, suc, ◌<◌, Bool, true, false, List, [], ◌∷◌, ◌++◌, length, All, refl, sym, subst, ap, ap₂, ◌∙◌, append-nil, arith}
use Rattle.std.specs.Prelude.{not, ◌&&◌, map, slice_get}
use Rattle.std.specs.List.{flat_map, AllByRecursion}
use Rattle.std.proofs.lemmas.Grind.{flat_map-append}
use Rattle.std.proofs.lemmas.List.{map-append, length-map}
use Rattle.std.proofs.lemmas.List.Elements.{recursion_from_All}
use Rattle.rd_base.proofs.Lists.{at-seam}
use Rattle.rd_base.specs.Faces.{Attributes}
use Rattle.rd_base.specs.Elements.{is_line_end, ends_once}
use Rattle.rd_base.specs.declared.class.Class.{Class}
use Rattle.rd_base.specs.declared.class.Class.TheVariants.{B}
use Rattle.rd_base.specs.declared.element.Element.{Element}
use Rattle.rd_base.specs.declared.element.Origin.{Origin}
use Rattle.rd_base.specs.declared.element.Look.TheVariants as look
use Rattle.rd_glyphs.specs.Characters.{element_of}
use Rattle.rd_ucd.specs.declared.spans.BracketEntry.{BracketEntry}
use Rattle.rd_levels.specs.Turns.{turns_of, ComesLast}
use Rattle.rd_levels.specs.declared.turn.Turn.{Turn}
use Rattle.rd_items.specs.Pieces.{Scene}
use Rattle.rd_items.specs.Covers.{is_ender_kind, EndOnce}
use Rattle.rd_items.proofs.Ended.{Ended, ended}
use Rattle.rd_items.specs.declared.item.Item.{Item}
use Rattle.rd_items.specs.declared.item.ItemKind.{ItemKind}
use Rattle.rd_items.specs.declared.item.ItemKind.TheVariants as item
use Rattle.rd_stack.specs.Lines.{origin_of, item_class, item_code, item_turns, line_of_items, put_kind, put_turn, put_item}
use Rattle.rd_stack.specs.Shown.{kind_elements}
use Rattle.rd_stack.proofs.Ends.{IsOpen, item-open}
use Rattle.rd_stack.proofs.Lists.{each-flat}

-- elements of which none ends the line, and one that does
ends-append : (es : List Element) (e : Element) → AllByRecursion IsOpen es → is_line_end e.look ≡ true → ends_once (es ++ e ∷ []) ≡ true
ends-append [] e each is = is
ends-append (x ∷ []) e each is = ap₂ (λ a b. not a && b) each.0 is
ends-append (x ∷ y ∷ ys) e each is = ap₂ (λ a b. not a && b) each.0 (ends-append (y ∷ ys) e each.1 is)

-- a separator of paragraphs at the end of a line comes last in visual order
abbrev pub LastLaw : Type 0
LastLaw = (entries : List BracketEntry) (reorder : Bool) (base : ℕ) (classes : List Class) (codes : List ℕ) → ComesLast (turns_of entries reorder base (classes ++ B ∷ []) codes) (length classes)

-- the ender of items comes last
pub ender-last : LastLaw → (s : Scene) (base : ℕ) (items : List Item) (e : Ended items) → ComesLast (item_turns s base items) (length e.others)
ender-last law s base items e =
    let fronts = map item_class e.others in
    let classes : map item_class items ≡ fronts ++ B ∷ [] =
    ap (map item_class) e.whole ∙ map-append item_class e.others (e.ender ∷ []) ∙ ap (λ c. fronts ++ c ∷ []) e.is.class in
    let turned : List Class → List Turn = λ cs. turns_of s.brackets s.parts.settings.reorder base cs (map item_code items) in
    subst (ComesLast (item_turns s base items)) (length-map e.others item_class)
    (subst (λ cs. ComesLast (turned cs) (length fronts)) (sym classes) (law s.brackets s.parts.settings.reorder base fronts (map item_code items)))

module _ (s : Scene) (base : ℕ) where
  kind-ends : (k : ItemKind) (overlay odd : Bool) (face : Attributes) (origin : Origin) → is_ender_kind k ≡ true
      → put_kind kind_elements s base k overlay odd face origin ≡ element_of face origin look.LineEnd ∷ []
  kind-ends item.Ender overlay odd face origin is = refl
  kind-ends k overlay odd face origin is = absurd (let never : false ≡ true = is in cc)

  -- a line is the elements of the turns before its ender's, and the ender's one element
  pub line-parts : (items : List Item) (e : Ended items) (comes : ComesLast (item_turns s base items) (length e.others))
      → line_of_items s base items ≡ flat_map (put_item kind_elements s base (e.others ++ e.ender ∷ [])) comes.front ++ element_of e.ender.face (origin_of comes.last.index e.ender) look.LineEnd ∷ []
  line-parts items e comes =
      let all = e.others ++ e.ender ∷ [] in
      let f = put_item kind_elements s base all in
      ap (λ xs. flat_map (put_item kind_elements s base xs) (item_turns s base items)) e.whole
      ∙ ap (flat_map f) comes.whole
      ∙ flat_map-append f comes.front (comes.last ∷ [])
      ∙ ap (λ es. flat_map f comes.front ++ es)
      (append-nil (f comes.last)
      ∙ ap (λ i. put_turn kind_elements s base comes.last (slice_get all i)) comes.index
      ∙ ap (put_turn kind_elements s base comes.last) (at-seam e.others e.ender [])
      ∙ kind-ends e.ender.kind e.ender.overlay comes.last.odd e.ender.face (origin_of comes.last.index e.ender) e.is.kind)

  open-at : (front : List Item) (last : Item) (turn : Turn) → AllByRecursion (λ (x : Item). is_ender_kind x.kind ≡ false) front → (i : ℕ) → i < length front → AllByRecursion IsOpen (put_turn kind_elements s base turn (slice_get (front ++ last ∷ []) i))
  open-at [] last turn each i inside = absurd (omega arith)
  open-at (x ∷ xs) last turn each zero inside = item-open s base x.kind x.overlay turn.odd x.face (origin_of turn.index x) each.0
  open-at (x ∷ xs) last turn each (suc i) inside = open-at xs last turn each.1 i (omega arith)

  front-open : (front : List Item) (last : Item) (turns : List Turn) → AllByRecursion (λ (x : Item). is_ender_kind x.kind ≡ false) front → All (λ (t : Turn). t.index < length front) turns
      → AllByRecursion IsOpen (flat_map (put_item kind_elements s base (front ++ last ∷ [])) turns)
  front-open front last turns each low =
      each-flat (put_item kind_elements s base (front ++ last ∷ [])) (λ (t : Turn). t.index < length front) IsOpen (λ t below. open-at front last t each t.index below) turns
      (recursion_from_All (λ (t : Turn). t.index < length front) turns low)

  pub line-ends : LastLaw → (items : List Item) → EndOnce items → ends_once (line_of_items s base items) ≡ true
  line-ends law items once =
      let e = ended items once in
      let comes = ender-last law s base items e in
      ap ends_once (line-parts items e comes) ∙ ends-append _ _ (front-open e.others e.ender comes.front e.no_enders comes.others) refl
