-- What holds of each element of strings and of items, by what holds of their faces.
use Rattle.std.proofs.Common.{◌≡◌, ℕ, Bool, true, false, List, [], ◌∷◌, map, Option, None, Some, All, IfSome, refl}
use Rattle.std.specs.Prelude.{◌==◌, slice_get}
use Rattle.std.specs.List.{flat_map, AllByRecursion}
use Rattle.std.proofs.lemmas.Bool.{cond_both}
use Rattle.std.proofs.lemmas.List.Elements.{All-from_recursion}
use Rattle.rd_base.specs.Elements.{is_line_end}
use Rattle.rd_base.specs.Faces.{Attributes, over}
use Rattle.rd_base.specs.declared.cell.Glyph.{Glyph}
use Rattle.rd_base.specs.declared.element.Element.{Element}
use Rattle.rd_base.specs.declared.element.Extent.{Extent}
use Rattle.rd_base.specs.declared.element.Extent.TheVariants.{Fixed, Tab, Column}
use Rattle.rd_base.specs.declared.element.Look.{Look}
use Rattle.rd_base.specs.declared.element.Look.TheVariants as look
use Rattle.rd_base.specs.declared.element.Origin.{Origin}
use Rattle.rd_objects.specs.Texts.{TextValue, face_of}
use Rattle.rd_objects.specs.declared.run.Slot.TheVariants.{Escape, Control}
use Rattle.rd_objects.specs.declared.run.Spec.{Spec}
use Rattle.rd_objects.specs.declared.run.Spec.TheVariants.{Text, Width, Align}
use Rattle.rd_glyphs.specs.declared.shown.Shown.{Shown}
use Rattle.rd_glyphs.specs.Characters.{element_of, look_columns, glyph_elements, tab_of, looks_of, own_shown, own_looks, slot_or, glyphs_for, elements_by, elements_of}
use Rattle.rd_glyphs.proofs.Measures.{looks_of-each}
use Rattle.rd_items.specs.Covers.{is_ender_kind}
use Rattle.rd_items.specs.Pieces.{Scene}
use Rattle.rd_items.specs.declared.item.Item.{Item}
use Rattle.rd_items.specs.declared.item.ItemKind.{ItemKind}
use Rattle.rd_items.specs.declared.item.ItemKind.TheVariants as item
use Rattle.rd_levels.specs.declared.turn.Turn.{Turn}
use Rattle.rd_stack.specs.Strings.{part_by, string_parts}
use Rattle.rd_stack.specs.Shown.{ellipsis_glyphs, space_elements, kind_elements, put_part, put_string, put_text, display_elements}
use Rattle.rd_stack.specs.Lines.{put_kind, put_turn, put_item}
use Rattle.rd_stack.specs.declared.part.Place.{Place}
use Rattle.rd_stack.specs.declared.part.Part.{Part}
use Rattle.rd_stack.specs.declared.part.Shown.{Shown as ShownPart}
use Rattle.rd_stack.proofs.EachPart.{string-each}
use Rattle.rd_stack.proofs.Good.{found}
use Rattle.rd_stack.proofs.Lists.{each-any, each-flat}

-- no look of a character ends the line
abbrev IsOpenLook : Look → Type 0
IsOpenLook l = is_line_end l ≡ false

looks-open : (escape control : Glyph) (shown : Shown) → AllByRecursion IsOpenLook (looks_of escape control shown)
looks-open escape control shown =
    looks_of-each IsOpenLook (λ s. Unit {0}) (λ letter any. refl) (λ n. refl) refl (λ code any. refl) (λ code width any. refl)
    escape control refl refl shown tt

-- P holds of each element of this origin that ends no line and has a face of which F holds; the faces of strings keep F
module _ (s : Scene) (base : ℕ) (origin : Origin) (F : Attributes → Type 0) (P : Element → Type 0)
    (faces : (n : ℕ) (text : TextValue) → slice_get s.objects.strings n ≡ Some text → (i : ℕ) (under : Attributes) → F under → F (over (face_of text i) under))
    (element : (extent : Extent) (l : Look) (face : Attributes) → IsOpenLook l → F face → P (record { extent = extent; look = l; face = face; origin = origin })) where
  abbrev Each : List Element → Type 0
  Each es = AllByRecursion P es

  looks-each : (face : Attributes) (looks : List Look) → F face → AllByRecursion IsOpenLook looks → Each (map (element_of face origin) looks)
  looks-each face [] h no_end = tt
  looks-each face (l ∷ ls) h no_end = (element (Fixed (look_columns l)) l face no_end.0 h, looks-each face ls h no_end.1)

  glyphs-each : (face : Attributes) (text : List Glyph) → F face → Each (glyph_elements face origin text)
  glyphs-each face [] h = tt
  glyphs-each face (g ∷ gs) h = (element (Fixed g.width) (look.Glyph g) face refl h, glyphs-each face gs h)

  by-entry : (entry : Option (List Glyph)) (ch : ℕ) (odd : Bool) (face : Attributes) → F face → Each (elements_by entry s.parts ch odd face origin)
  by-entry (Some text) ch odd face h = glyphs-each face text h
  by-entry None ch odd face h =
      let looks = own_looks s.parts ch odd in
      let stop = s.parts.settings.tab_width in
      cond_both (ch == 9) (tab_of stop face origin ∷ []) (map (element_of face origin) looks) Each (λ tab. (element (Tab stop) look.Blank face refl h, tt))
      (λ none. looks-each face looks h (looks-open (slot_or Escape s.parts.table 92) (slot_or Control s.parts.table 94) (own_shown s.parts ch odd)))

  character-each : (ch : ℕ) (odd : Bool) (face : Attributes) → F face → Each (elements_of s.parts ch odd face origin)
  character-each ch odd face h = by-entry (glyphs_for s.parts.table ch) ch odd face h

  space-each : (spec : Spec) (face : Attributes) → F face → Each (space_elements spec face origin)
  space-each (Width n) face h = (element (Fixed n) look.Blank face refl h, tt)
  space-each (Align n) face h = (element (Column n) look.Blank face refl h, tt)
  space-each (Text n) face h = tt

  kind-each : (end : Look) (string : Option TextValue → List Element) (k : ItemKind) (odd : Bool) (face : Attributes) → (is_ender_kind k ≡ true → P (element_of face origin end))
      → ((n : ℕ) → Each (string (slice_get s.objects.strings n))) → F face → Each (kind_elements end string s k odd face origin)
  kind-each end string (item.Char c) odd face ends strings h = character-each c odd face h
  kind-each end string (item.Marked g) odd face ends strings h = (element (Fixed g.width) (look.Glyph g) face refl h, tt)
  kind-each end string (item.Text n) odd face ends strings h = strings n
  kind-each end string (item.Space spec) odd face ends strings h = space-each spec face h
  kind-each end string item.Ellipsis odd face ends strings h = glyphs-each face (ellipsis_glyphs s.parts.table) h
  kind-each end string item.Ender odd face ends strings h = (ends refl, tt)

  -- a part of a string ends no line
  part-each : (string : Option TextValue → List Element) (x : ShownPart) → ((n : ℕ) → Each (string (slice_get s.objects.strings n))) → F x.face → Each (kind_elements look.RowEnd string s x.kind x.odd x.face origin)
  part-each string x strings h = kind-each look.RowEnd string x.kind x.odd x.face (λ ends. element (Fixed 0) look.RowEnd x.face refl h) strings h

  -- ---- strings

  part-face : (spec : Option Spec) (p : Place) → F p.face → F (part_by s spec p).face
  part-face None p h = h
  part-face (Some spec) p h = h

  -- the parts of a string that was made
  shown-faces : (replaced : Bool) (n : ℕ) (text : TextValue) → slice_get s.objects.strings n ≡ Some text → (under : Attributes) → F under
      → AllByRecursion (λ (x : ShownPart). F x.face) (string_parts s base replaced text under)
  shown-faces replaced n text found under h =
      string-each s base (λ (p : Place). F p.face) (λ (x : Part). F x.face) (λ (x : ShownPart). F x.face) (λ p own. part-face _ p own) (λ held next glyph these those e. these)
      (λ odd x own. own) (λ p own ends. own) replaced text under (λ i less. faces n text found i under h)

  string-by : (named : Attributes → Option TextValue → List Element) → ((m : ℕ) (face : Attributes) → F face → Each (named face (slice_get s.objects.strings m)))
      → (replaced : Bool) (n : ℕ) (text : Option TextValue) → slice_get s.objects.strings n ≡ text → (under : Attributes) → F under → Each (put_string kind_elements named s base replaced origin under text)
  string-by named each replaced n None found under h = tt
  string-by named each replaced n (Some text) found under h =
      each-flat (put_part kind_elements named s origin) (λ (x : ShownPart). F x.face) P (λ x own. part-each (named x.face) x (λ m. each m x.face own) own)
      (string_parts s base replaced text under) (shown-faces replaced n text found under h)

  pub display-each : (n : ℕ) (under : Attributes) → F under → Each (display_elements s base origin under (slice_get s.objects.strings n))
  display-each n under h = string-by (λ face text. []) (λ m face own. tt) false n (slice_get s.objects.strings n) refl under h

  text-each : (overlay : Bool) (n : ℕ) (face : Attributes) → F face → Each (put_text kind_elements s base overlay origin face (slice_get s.objects.strings n))
  text-each true n face h = string-by (display_elements s base origin) display-each true n (slice_get s.objects.strings n) refl face h
  text-each false n face h = display-each n face h

  -- ---- items

  pub item-each : (k : ItemKind) (overlay odd : Bool) (face : Attributes) → (is_ender_kind k ≡ true → P (element_of face origin look.LineEnd)) → F face → Each (put_kind kind_elements s base k overlay odd face origin)
  item-each k overlay odd face end h = kind-each look.LineEnd (put_text kind_elements s base overlay origin face) k odd face end (λ n. text-each overlay n face h) h

-- what holds of each element that an item gives holds of each element of a line of such items
pub line-each : (s : Scene) (base : ℕ) (I : Item → Type 0) (P : Element → Type 0) → ((t : Turn) (x : Item) → I x → AllByRecursion P (put_turn kind_elements s base t (Some x)))
    → (items : List Item) (ts : List Turn) → All I items → All P (flat_map (put_item kind_elements s base items) ts)
line-each s base I P own items ts all =
    All-from_recursion P (flat_map (put_item kind_elements s base items) ts)
    (each-flat (put_item kind_elements s base items) (λ (t : Turn). Unit {0}) P (λ t any. by t (slice_get items t.index) (found I items t.index all)) ts (each-any ts)) where
      by : (t : Turn) (o : Option Item) → IfSome o I → AllByRecursion P (put_turn kind_elements s base t o)
      by t None h = tt
      by t (Some x) h = own t x h
