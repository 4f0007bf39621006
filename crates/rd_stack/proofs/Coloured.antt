-- The faces of lines and prefixes have their colours in range, where those that are read and those of all objects have.
use Rattle.std.proofs.Common.{◌≡◌, ℕ, List, Some, All}
use Rattle.std.specs.Prelude.{slice_get}
use Rattle.std.specs.List.{AllByRecursion}
use Rattle.std.proofs.lemmas.List.Elements.{All-from_recursion, recursion_from_All}
use Rattle.rd_base.specs.Cells.{HasColours}
use Rattle.rd_base.specs.Faces.{Attributes, plain, over}
use Rattle.rd_base.proofs.Choices.{if-value}
use Rattle.rd_base.proofs.Colours.{plain-coloured, over-coloured}
use Rattle.rd_base.proofs.Lists.{all-at}
use Rattle.rd_base.specs.declared.element.Element.{Element}
use Rattle.rd_objects.specs.Sound.{AreObjects, IsString}
use Rattle.rd_objects.specs.Texts.{TextValue, face_of}
use Rattle.rd_glyphs.proofs.Joined.{Grows}
use Rattle.rd_props.specs.Seen.{Seen}
use Rattle.rd_items.specs.Pieces.{Scene}
use Rattle.rd_items.specs.Items.{piece_joins, items_of}
use Rattle.rd_items.specs.declared.item.Item.{Item}
use Rattle.rd_items.specs.declared.item.ItemKind.{ItemKind}
use Rattle.rd_items.specs.declared.piece.Piece.{Piece}
use Rattle.rd_items.proofs.EachItem.{GivesOnly, items-each}
use Rattle.rd_stack.specs.Shown.{display_elements, outside, prefix, AreColoured}
use Rattle.rd_stack.specs.Lines.{origin_of, item_turns, line_elements}
use Rattle.rd_stack.proofs.EachElement.{display-each, item-each, line-each}
use Rattle.rd_stack.proofs.Prefixes.{before-each}

abbrev IsColoured : Element → Type 0
IsColoured e = HasColours e.face

-- ---- the items of what is read

abbrev PieceColours : Piece → Type 0
PieceColours x = HasColours x.face

abbrev ItemColours : Item → Type 0
ItemColours x = HasColours x.face

module _ (s : Scene) where
  gives : (k to : ℕ) (e : Seen) → HasColours e.appearance.face → GivesOnly s PieceColours k to e
  gives k to e h = record {
    string = λ i d inside. h;
    text = λ covers m n shown is. h;
    space = λ m spec shown is. h;
    char = λ c is. h;
    nothing = h;
    ellipsis = λ covers. h;
    ender = h;
  }

  pieces-grow : Grows piece_joins PieceColours
  pieces-grow held next glyph these those e = these

  items-coloured : (es : List Seen) → AllByRecursion (λ (e : Seen). HasColours e.appearance.face) es → AllByRecursion ItemColours (items_of s es)
  items-coloured = items-each s PieceColours ItemColours (λ (e : Seen). HasColours e.appearance.face) gives pieces-grow (λ since x h. if-value (λ (k : ItemKind). HasColours x.face) x.kind (λ k e. h))

-- ---- lines and prefixes

module _ (own : (text : TextValue) (i : ℕ) → IsString text → HasColours (face_of text i)) (s : Scene) (base : ℕ) (sound : AreObjects s.objects) where
  faces : (n : ℕ) (text : TextValue) → slice_get s.objects.strings n ≡ Some text → (i : ℕ) (under : Attributes) → HasColours under → HasColours (over (face_of text i) under)
  faces n text found i under h = over-coloured (face_of text i) under (own text i (all-at (λ (t : TextValue). IsString t) s.objects.strings n text sound.strings found)) h

  pub line-coloured : (es : List Seen) → All (λ e. HasColours e.appearance.face) es → AreColoured (line_elements s base es)
  line-coloured es all =
      line-each s base ItemColours IsColoured
      (λ t x h. item-each s base (origin_of t.index x) (λ f. HasColours f) IsColoured faces (λ extent l face no_end coloured. coloured) x.kind x.overlay t.odd x.face (λ ends. h) h)
      (items_of s es) (item_turns s base (items_of s es))
      (All-from_recursion ItemColours (items_of s es) (items-coloured s es (recursion_from_All (λ (e : Seen). HasColours e.appearance.face) es all)))

  pub prefix-coloured : (number : ℕ) → AreColoured (prefix s base number)
  prefix-coloured number =
      let es = display_elements s base outside plain (slice_get s.objects.strings number) in
      before-each IsColoured es (All-from_recursion IsColoured es
      (display-each s base outside (λ f. HasColours f) IsColoured faces (λ extent l face no_end coloured. coloured) number plain plain-coloured))
