-- The elements of strings and of items of sound objects are sound and measured, and take few columns.
use Rattle.std.proofs.Common.{◌≡◌, ℕ, ◌*◌, ◌≤◌, ◌^◌, ◌<◌, Bool, true, false, IsTrue, List, [], ◌∷◌, length, map, Option, None, Some, All, IfSome, refl, ◌∙◌, arith}
use Rattle.std.specs.Prelude.{slice_get, replicate, if◌then◌else◌, unwrap_or}
use Rattle.std.specs.List.{flat_map}
use Rattle.std.proofs.Math.Nat.{mul-le-mul_right}
use Rattle.std.proofs.lemmas.List.{length-map}
use Rattle.std.proofs.lemmas.List.Elements.{All-from_recursion, recursion_from_All}
use Rattle.unicode_width.specs.Width.{char_width}
use Rattle.rd_base.specs.Cells.{single}
use Rattle.rd_base.specs.Chars.{is_code}
use Rattle.rd_base.specs.Elements.{columns_at_most}
use Rattle.rd_base.specs.Faces.{Attributes, plain}
use Rattle.rd_base.specs.Glyphs.{IsMeasured}
use Rattle.rd_base.specs.declared.cell.Glyph.{Glyph}
use Rattle.rd_base.specs.declared.element.Element.{Element}
use Rattle.rd_base.specs.declared.element.Extent.TheVariants.{Fixed, Column}
use Rattle.rd_base.specs.declared.element.Look.{Look}
use Rattle.rd_base.specs.declared.element.Look.TheVariants as look
use Rattle.rd_base.specs.declared.element.Origin.{Origin}
use Rattle.rd_base.specs.declared.limits.TheConstants.{ENTRY_GLYPHS, SPACE_COLUMNS, STRING_CHARACTERS}
use Rattle.rd_objects.specs.Sound.{AreObjects, IsString}
use Rattle.rd_objects.specs.Tables.{TableValue, IsTable, is_glyph_text}
use Rattle.rd_objects.specs.Texts.{TextValue}
use Rattle.rd_objects.specs.Things.{ObjectLists, IsSmallSpec}
use Rattle.rd_objects.specs.declared.run.Spec.{Spec}
use Rattle.rd_objects.specs.declared.run.Spec.TheVariants.{Text, Width, Align}
use Rattle.rd_glyphs.specs.MarkRoles.{MarkLaws}
use Rattle.rd_glyphs.specs.Characters.{PartValues, AreSoundParts, AreOfCharacter, element_of, elements_of, glyph_elements}
use Rattle.rd_items.specs.Pieces.{Scene, table_in}
use Rattle.rd_items.specs.Items.{items_of, AreMeasuredItems}
use Rattle.rd_items.specs.Readings.{HaveCodes}
use Rattle.rd_items.specs.declared.item.Item.{Item}
use Rattle.rd_items.specs.declared.item.ItemKind.{ItemKind}
use Rattle.rd_items.specs.declared.item.ItemKind.TheVariants as item
use Rattle.rd_props.specs.Seen.{Seen}
use Rattle.rd_levels.specs.declared.turn.Turn.{Turn}
use Rattle.rd_levels.proofs.Turns.{turns-count}
use Rattle.rd_stack.specs.Strings.{string_parts}
use Rattle.rd_stack.specs.Shown.{ellipsis_glyphs, space_elements, kind_elements, display_part_elements, display_elements, before_row_end, is_row_end, outside, prefix, IsRight, put_text, put_part}
use Rattle.rd_stack.specs.Lines.{origin_of, item_class, item_code, item_turns, line_of_items, line_elements, IsKind, IsCodedKind, AreCodedItems, put_turn, put_item}
use Rattle.rd_stack.specs.Limits.{AreFew, AreRightWithin, most_display_columns, most_overlay_columns, most_columns}
use Rattle.rd_stack.specs.declared.part.Shown.{Shown}
use Rattle.rd_stack.proofs.Good.{both-right, good-nil, good-one, good-more, good-each, found}
use Rattle.rd_stack.proofs.Holds.{items-hold, all-read, items-few}
use Rattle.rd_stack.proofs.Parts.{IsFitKind, IsFitShown, spec-small, string-at, string-fit, string-few}
use Rattle.rd_stack.proofs.Lists.{each-any}
use Rattle.rd_stack.proofs.Prefixes.{before-each}

-- what is known of the elements of characters and of glyph characters
pub record GlyphLaws : Type 0 where
  pub character : (parts : PartValues) (ch : ℕ) (odd : Bool) (face : Attributes) (origin : Origin) → AreSoundParts parts → IsTrue (is_code ch) → AreOfCharacter face origin (elements_of parts ch odd face origin)
  pub text : (face : Attributes) (origin : Origin) (text : List Glyph) → IsTrue (is_glyph_text text) → AreOfCharacter face origin (glyph_elements face origin text)

-- a space that an item shows is small
abbrev IsSmallItem : ItemKind → Type 0
IsSmallItem k = IsKind (λ c. Unit {0}) IsSmallSpec k

-- ---- tables

dots-fit : IsTrue (is_glyph_text (replicate 3 (single 46 1)))
unfolding char_width
dots-fit = refl

text-or : (text : Option (List Glyph)) → ((t : List Glyph) → text ≡ Some t → IsTrue (is_glyph_text t)) → IsTrue (is_glyph_text (unwrap_or text (replicate 3 (single 46 1))))
text-or None is = dots-fit
text-or (Some t) is = is t refl

ellipsis-fit : (table : Option TableValue) → IfSome table (λ t. IsTable t) → IsTrue (is_glyph_text (ellipsis_glyphs table))
ellipsis-fit None is = dots-fit
ellipsis-fit (Some t) is = text-or t.ellipsis is.ellipsis

pub table-sound : (o : ObjectLists) → AreObjects o → (number : Option ℕ) → IfSome (table_in o number) (λ t. IsTable t)
table-sound o sound None = tt
table-sound o sound (Some n) = found (λ (t : TableValue). IsTable t) o.tables n sound.tables

-- ---- items

items-small : (s : Scene) → AreObjects s.objects → (es : List Seen) → All (λ (i : Item). IsSmallItem i.kind) (items_of s es)
items-small s sound es =
    All-from_recursion (λ (i : Item). IsSmallItem i.kind) (items_of s es)
    (items-hold (λ c. Unit {0}) IsSmallSpec s (spec-small s.objects sound) es (all-read es))

-- the items of what has codes
pub items-coded : (s : Scene) (es : List Seen) → HaveCodes es → AreCodedItems (items_of s es)
items-coded s es codes =
    All-from_recursion (λ (i : Item). IsCodedKind i.kind) (items_of s es)
    (items-hold (λ c. IsTrue (is_code c)) (λ spec. Unit {0}) s (λ number. tt) es (recursion_from_All (λ (e : Seen). IfSome e.character (λ c. IsTrue (is_code c))) es codes))

-- ---- elements of one part

glyph-good : (most : ℕ) (g : Glyph) (face : Attributes) (origin : Origin) → IsMeasured g → 3 ≤ most → AreRightWithin most (element_of face origin (look.Glyph g) ∷ [])
glyph-good most g face origin measured room =
    let few = measured.few in
    good-one most (element_of face origin (look.Glyph g)) (refl, measured.some, few) measured (omega (arith, few, room))

space-good : (spec : Spec) (face : Attributes) (origin : Origin) → IsSmallSpec spec → AreRightWithin SPACE_COLUMNS (space_elements spec face origin)
space-good (Text n) face origin small = good-nil SPACE_COLUMNS
space-good (Width n) face origin small = good-one SPACE_COLUMNS (record { extent = Fixed n; look = look.Blank; face = face; origin = origin }) tt tt small
space-good (Align n) face origin small = good-one SPACE_COLUMNS (record { extent = Column n; look = look.Blank; face = face; origin = origin }) tt tt small

character-good : (face : Attributes) (origin : Origin) (es : List Element) → AreOfCharacter face origin es → AreRightWithin (3 * ENTRY_GLYPHS) es
character-good face origin es are = record { right = both-right es are.sound are.measured; few = are.columns }

-- ---- columns

pub few-columns : (s : Scene) (es : List Seen) (columns : ℕ) → AreFew es → columns ≤ length (items_of s es) * most_overlay_columns → columns ≤ most_columns
few-columns s es columns few own = let items = items-few s es in omega (arith, items, few, own)

pub below : (columns : ℕ) → columns ≤ most_columns → columns < 2 ^ 60
below columns few = omega (arith, few)

-- ---- elements before the end of a row

fewer : (b : Bool) (e : Element) (es more : List Element) → columns_at_most es ≤ columns_at_most more → columns_at_most (if b then [] else e ∷ es) ≤ columns_at_most (e ∷ more)
fewer true e es more less = omega arith
fewer false e es more less = omega (arith, less)

before-few : (es : List Element) → columns_at_most (before_row_end es) ≤ columns_at_most es
before-few [] = omega arith
before-few (e ∷ es) = fewer (is_row_end e.look) e (before_row_end es) es (before-few es)

module _ (laws : GlyphLaws) (marks : MarkLaws) (s : Scene) (base : ℕ) (sound : AreObjects s.objects) (parts : AreSoundParts s.parts) where
  kind-good : (end : Look) (string : Option TextValue → List Element) (most : ℕ) → SPACE_COLUMNS ≤ most → (k : ItemKind) (odd : Bool) (face : Attributes) (origin : Origin)
      → AreRightWithin most (element_of face origin end ∷ []) → ((n : ℕ) → AreRightWithin most (string (slice_get s.objects.strings n))) → IsFitKind k
      → AreRightWithin most (kind_elements end string s k odd face origin)
  kind-good end string most room (item.Char c) odd face origin ender strings fit =
      good-more (3 * ENTRY_GLYPHS) most (elements_of s.parts c odd face origin) (omega (arith, room)) (character-good face origin (elements_of s.parts c odd face origin) (laws.character s.parts c odd face origin parts fit.1))
  kind-good end string most room (item.Marked g) odd face origin ender strings fit = glyph-good most g face origin fit.0 (omega (arith, room))
  kind-good end string most room (item.Text n) odd face origin ender strings fit = strings n
  kind-good end string most room (item.Space spec) odd face origin ender strings fit = good-more SPACE_COLUMNS most (space_elements spec face origin) room (space-good spec face origin fit.2)
  kind-good end string most room item.Ellipsis odd face origin ender strings fit =
      let glyphs = ellipsis_glyphs s.parts.table in
      good-more (3 * ENTRY_GLYPHS) most (glyph_elements face origin glyphs) (omega (arith, room)) (character-good face origin (glyph_elements face origin glyphs) (laws.text face origin glyphs (ellipsis-fit s.parts.table parts.table)))
  kind-good end string most room item.Ender odd face origin ender strings fit = ender

  part-good : (string : Option TextValue → List Element) (most : ℕ) → SPACE_COLUMNS ≤ most → (x : Shown) (origin : Origin) → ((n : ℕ) → AreRightWithin most (string (slice_get s.objects.strings n)))
      → IsFitShown x → AreRightWithin most (kind_elements look.RowEnd string s x.kind x.odd x.face origin)
  part-good string most room x origin strings fit =
      kind-good look.RowEnd string most room x.kind x.odd x.face origin (good-one most (element_of x.face origin look.RowEnd) refl tt (omega arith)) strings fit

  -- ---- strings

  -- a string whose parts are good, whether its display runs are used or not
  parts-good : (replaced : Bool) (f : Shown → List Element) (most : ℕ) → ((x : Shown) → IsFitShown x → AreRightWithin most (f x)) → (under : Attributes) (text : TextValue) → IsString text
      → AreRightWithin (STRING_CHARACTERS * most) (flat_map f (string_parts s base replaced text under))
  parts-good replaced f most each under text is =
      let xs = string_parts s base replaced text under in
      let fit = string-fit marks s base sound replaced text under is in
      let few = string-few s base replaced text under is in
      good-more (length xs * most) (STRING_CHARACTERS * most) (flat_map f xs) (mul-le-mul_right most few) (good-each f IsFitShown most each xs fit)

  display-good : (origin : Origin) (under : Attributes) (text : Option TextValue) → IfSome text (λ t. IsString t) → AreRightWithin most_display_columns (display_elements s base origin under text)
  display-good origin under None is = good-nil most_display_columns
  display-good origin under (Some text) is =
      parts-good false (display_part_elements s origin) SPACE_COLUMNS (λ x own. part-good (λ t. []) SPACE_COLUMNS (omega arith) x origin (λ n. good-nil SPACE_COLUMNS) own) under text is

  overlay-good : (origin : Origin) (under : Attributes) (text : Option TextValue) → IfSome text (λ t. IsString t) → AreRightWithin most_overlay_columns (put_text kind_elements s base true origin under text)
  overlay-good origin under None is = good-nil most_overlay_columns
  overlay-good origin under (Some text) is =
      parts-good true (put_part kind_elements (display_elements s base origin) s origin) most_display_columns
      (λ x own. part-good (display_elements s base origin x.face) most_display_columns (omega arith) x origin (λ n. display-good origin x.face (slice_get s.objects.strings n) (string-at s.objects sound n)) own)
      under text is

  -- ---- items

  string-good : (overlay : Bool) (origin : Origin) (face : Attributes) (n : ℕ) → AreRightWithin most_overlay_columns (put_text kind_elements s base overlay origin face (slice_get s.objects.strings n))
  string-good true origin face n = overlay-good origin face (slice_get s.objects.strings n) (string-at s.objects sound n)
  string-good false origin face n =
      let text = slice_get s.objects.strings n in
      good-more most_display_columns most_overlay_columns (display_elements s base origin face text) (omega arith) (display-good origin face text (string-at s.objects sound n))

  turn-good : (turn : Turn) (x : Option Item) → IfSome x (λ (i : Item). IsFitKind i.kind) → AreRightWithin most_overlay_columns (put_turn kind_elements s base turn x)
  turn-good turn None fit = good-nil most_overlay_columns
  turn-good turn (Some x) fit =
      let origin = origin_of turn.index x in
      kind-good look.LineEnd (put_text kind_elements s base x.overlay origin x.face) most_overlay_columns (omega arith) x.kind turn.odd x.face origin
      (good-one most_overlay_columns (element_of x.face origin look.LineEnd) refl tt (omega arith)) (λ n. string-good x.overlay origin x.face n) fit

  -- a line of fit items
  pub line-good : (items : List Item) → All (λ (i : Item). IsFitKind i.kind) items → AreRightWithin (length items * most_overlay_columns) (line_of_items s base items)
  line-good items fit =
      let turns = item_turns s base items in
      let reorder = s.parts.settings.reorder in
      let count : length turns ≡ length items = turns-count s.brackets reorder base (map item_class items) (map item_code items) ∙ length-map items item_class in
      good-more (length turns * most_overlay_columns) (length items * most_overlay_columns) (line_of_items s base items) (omega (arith, count))
      (good-each (put_item kind_elements s base items) (λ (t : Turn). Unit {0}) most_overlay_columns
      (λ t own. turn-good t (slice_get items t.index) (found (λ (i : Item). IsFitKind i.kind) items t.index fit)) turns (each-any turns))

  -- the line of what is read, where its items are measured and coded
  pub read-good : (es : List Seen) → AreMeasuredItems (items_of s es) → AreCodedItems (items_of s es) → AreRightWithin (length (items_of s es) * most_overlay_columns) (line_elements s base es)
  read-good es measured coded =
      let small = items-small s sound es in
      line-good (items_of s es) (λ k d inside. (measured k d inside, coded k d inside, small k d inside))

  -- ---- prefixes

  before-good : (most : ℕ) (es : List Element) → AreRightWithin most es → AreRightWithin most (before_row_end es)
  before-good most es good =
      let own = good.few in
      let less = before-few es in
      record { right = before-each IsRight es good.right; few = omega (arith, own, less) }

  pub prefix-good : (number : ℕ) → AreRightWithin most_display_columns (prefix s base number)
  prefix-good number =
      let text = slice_get s.objects.strings number in
      before-good most_display_columns (display_elements s base outside plain text) (display-good outside plain text (string-at s.objects sound number))
