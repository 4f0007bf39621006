-- What the elements of a character always are.
use Rattle.std.proofs.Common.{rules, ◌≡◌, ℕ, ◌*◌, ◌≤◌, Bool, true, false, IsTrue, List, [], ◌∷◌, length, Option, Some, None, IfSome, All, refl, map, arith, slice_index_or}
use Rattle.std.specs.Prelude.{◌≢◌, ◌==◌, nat_le, ◌&&◌, if◌then◌else◌}
use Rattle.std.specs.List.{AllByRecursion, list_all}
use Rattle.std.proofs.lemmas.Bool.Decides.{nat_tests}
use Rattle.std.proofs.lemmas.List.{length-map}
use Rattle.std.proofs.lemmas.List.Sums.{AllPass-from_list_all}
use Rattle.std.proofs.lemmas.List.Elements.{All-map, All-from_recursion, recursion_from_All}
use Rattle.rd_base.proofs.Choices.{either}
use Rattle.rd_base.specs.Chars.{is_code}
use Rattle.rd_base.specs.Elements.{IsSound, width_at_most, columns_at_most}
use Rattle.rd_base.specs.Faces.{Attributes}
use Rattle.rd_base.specs.Glyphs.{IsMeasuredLook}
use Rattle.rd_base.specs.declared.cell.Glyph.{Glyph}
use Rattle.rd_base.specs.declared.class.Class.{Class}
use Rattle.rd_base.specs.declared.element.Element.{Element}
use Rattle.rd_base.specs.declared.element.Look.{Look}
use Rattle.rd_base.specs.declared.element.Look.TheVariants as look
use Rattle.rd_base.specs.declared.element.Origin.{Origin}
use Rattle.rd_ucd.specs.Lookup.{class_of}
use Rattle.rd_objects.specs.Tables.{TableValue, IsTable, is_glyph_character, is_glyph_text}
use Rattle.rd_objects.specs.Widths.{columns}
use Rattle.rd_objects.proofs.Entries.{entry-text}
use Rattle.rd_objects.proofs.Widths.{few-columns}
use Rattle.rd_objects.specs.declared.run.Slot.TheVariants.{Escape, Control}
use Rattle.rd_glyphs.specs.declared.shown.Shown.{Shown}
use Rattle.rd_glyphs.specs.declared.shown.Shown.TheVariants.{Caret, Octal, Space, Mark, Itself}
use Rattle.rd_glyphs.specs.Characters.{PartValues, AreSoundParts, HasOrigin, AreOfCharacter, TakesColumns, ShowsColumns, IsShort, IsShortElement, is_control, is_formatting, shown_as, looks_of, element_of, glyph_elements, glyphs_for, own_looks, elements_by, elements_of, tab_of}
use Rattle.rd_glyphs.specs.MarkRoles.{is_empty_entry}
use Rattle.rd_glyphs.proofs.Measures.{ShowsMeasured, character-measured, slot_or-is, shown-by, shown_as-measured, mirror-measured, mirrored-keeps, looks_of-each, looks-measured}

-- ---- how a character is shown

itself-columns : (code : ℕ) → columns code ≢ 0 → ShowsColumns (Itself code (columns code))
itself-columns code some = (omega arith, few-columns code)

-- a character that is shown itself takes 1 to 3 columns
pub shown_as-columns : (arrow : Bool) (class : Class) (code : ℕ) → ShowsColumns (shown_as arrow class code)
shown_as-columns arrow class code =
    shown-by ShowsColumns (is_control code) arrow (nat_le 1114112 code) (nat_le 128 code && nat_le code 159) (is_formatting class code) (columns code == 0) code
    (λ control. tt) (λ byte. tt) tt (λ control raw high none. tt) (λ none. itself-columns code (grind (arith, nat_tests)))

-- ---- what is put for it

pub looks-columns : (escape control : Glyph) (shown : Shown) → escape.width ≡ 1 → control.width ≡ 1 → ShowsColumns shown → AllByRecursion TakesColumns (looks_of escape control shown)
looks-columns escape control shown e c =
    looks_of-each TakesColumns ShowsColumns (λ letter s. (omega arith, omega arith)) (λ n. (omega arith, omega arith))
    (omega arith, omega arith) (λ code s. (omega arith, omega arith)) (λ code width s. s)
    escape control (omega arith, omega arith) (omega arith, omega arith) shown

looks-count : (escape control : Glyph) (shown : Shown) → (1 ≤ length (looks_of escape control shown)) × (length (looks_of escape control shown) ≤ 4)
looks-count escape control (Caret letter) = (omega arith, omega arith)
looks-count escape control (Octal byte) = (omega arith, omega arith)
looks-count escape control Space = (omega arith, omega arith)
looks-count escape control (Mark code) = (omega arith, omega arith)
looks-count escape control (Itself code width) = (omega arith, omega arith)

own-takes_columns : (parts : PartValues) (ch : ℕ) (odd : Bool) → AreSoundParts parts → AllByRecursion TakesColumns (own_looks parts ch odd)
own-takes_columns parts ch odd is =
    looks-columns _ _ _ (slot_or-is Escape parts.table 92 is.table (omega arith) (omega arith)).width
    (slot_or-is Control parts.table 94 is.table (omega arith) (omega arith)).width
    (mirrored-keeps ShowsColumns (λ code width other s. s) parts.mirrors odd _ (shown_as-columns parts.settings.ctl_arrow (class_of parts.classes ch) ch))

own-measured : (parts : PartValues) (ch : ℕ) (odd : Bool) → AreSoundParts parts → IsTrue (is_code ch) → All IsMeasuredLook (own_looks parts ch odd)
own-measured parts ch odd is code =
    looks-measured _ _ _ (slot_or-is Escape parts.table 92 is.table (omega arith) (omega arith)).measured
    (slot_or-is Control parts.table 94 is.table (omega arith) (omega arith)).measured
    (mirrored-keeps ShowsMeasured mirror-measured parts.mirrors odd _ (shown_as-measured parts.settings.ctl_arrow (class_of parts.classes ch) ch code))

-- ---- columns

columns-few : (es : List Element) → AllByRecursion (λ e. width_at_most e.extent ≤ 3) es → columns_at_most es ≤ 3 * length es
columns-few [] each = omega arith
columns-few (e ∷ es) each =
    let first : width_at_most e.extent ≤ 3 = each.0 in
    let rest = columns-few es each.1 in
    omega arith

-- ---- elements

-- the element of a look that takes columns is short
short_element : (face : Attributes) (origin : Origin) (l : Look) → TakesColumns l → IsShortElement (element_of face origin l)
short_element face origin (look.Glyph g) takes = ((refl, takes.0, takes.1), takes)
short_element face origin look.Blank takes = (_, takes)
short_element face origin look.RowEnd takes = grind arith
short_element face origin look.LineEnd takes = grind arith

-- a table's glyph takes columns
short_glyph : (g : Glyph) → is_glyph_character g ≡ true → TakesColumns (look.Glyph g)
short_glyph g is = grind (arith, nat_tests)

-- the elements of a few things that put a look each
of-each : {X : Type 0} (face : Attributes) (origin : Origin) (put : X → Look) (xs : List X) → All (λ x. TakesColumns (put x)) xs → All (λ x. IsMeasuredLook (put x)) xs → length xs ≤ 16
    → AreOfCharacter face origin (map (λ x. element_of face origin (put x)) xs)
of-each {X} face origin put xs columns measured few =
    let made : X → Element = λ x. element_of face origin (put x) in
    let same = length-map xs made in
    let narrow = All-map (λ (e : Element). width_at_most e.extent ≤ 3) made xs (λ k d inside. (columns k d inside).1) in
    let sum = columns-few (map made xs) (recursion_from_All (λ (e : Element). width_at_most e.extent ≤ 3) (map made xs) narrow) in
    let short = All-map IsShortElement made xs (λ k d inside. short_element face origin (put (slice_index_or xs k d)) (columns k d inside)) in
    record {
      sound = λ k d inside. (short k d inside).0;
      short = λ k d inside. (short k d inside).1;
      measured = All-map (λ (e : Element). IsMeasuredLook e.look) made xs measured;
      own = All-map (HasOrigin face origin) made xs (λ k d inside. (refl, refl));
      count = omega arith;
      columns = omega arith;
    }

-- the elements of a table's glyphs
pub of-glyphs : (face : Attributes) (origin : Origin) (text : List Glyph) → IsTrue (is_glyph_text text) → AreOfCharacter face origin (glyph_elements face origin text)
of-glyphs face origin text is =
    let count : nat_le (length text) 16 ≡ true = search rules in
    let each : list_all is_glyph_character text ≡ true = search rules in
    of-each face origin (λ (g : Glyph). look.Glyph g) text
    (λ k d inside. short_glyph (slice_index_or text k d) (AllPass-from_list_all is_glyph_character text each k d inside))
    (λ k d inside. character-measured (slice_index_or text k d) (AllPass-from_list_all is_glyph_character text each k d inside))
    (grind (arith, nat_tests))

entry-sound : (table : Option TableValue) (code : ℕ) → IfSome table (λ t. IsTable t) → IfSome (glyphs_for table code) (λ text. IsTrue (is_glyph_text text))
entry-sound None code is = tt
entry-sound (Some t) code is = entry-text t.entries code is.entries

-- the elements of a character
pub of-character : (parts : PartValues) (ch : ℕ) (odd : Bool) (face : Attributes) (origin : Origin) → AreSoundParts parts → IsTrue (is_code ch) → AreOfCharacter face origin (elements_of parts ch odd face origin)
of-character parts ch odd face origin is code = by-entry (glyphs_for parts.table ch) (entry-sound parts.table ch is.table) where
  by-tab : (tab : Bool) → AreOfCharacter face origin (if tab then tab_of parts.settings.tab_width face origin ∷ [] else map (element_of face origin) (own_looks parts ch odd))
  by-tab true =
      let tab = tab_of parts.settings.tab_width face origin in
      record {
        sound = All-from_recursion IsSound (tab ∷ []) (is.tab, tt);
        short = All-from_recursion (λ (e : Element). IsShort e.extent) (tab ∷ []) (is.tab, tt);
        measured = All-from_recursion (λ (e : Element). IsMeasuredLook e.look) (tab ∷ []) (tt, tt);
        own = All-from_recursion (HasOrigin face origin) (tab ∷ []) ((refl, refl), tt);
        count = omega arith;
        columns = omega (arith, is.tab.1);
      }
  by-tab false =
      let few : length (own_looks parts ch odd) ≤ 4 = (looks-count _ _ _).1 in
      of-each face origin (λ (l : Look). l) (own_looks parts ch odd) (All-from_recursion TakesColumns (own_looks parts ch odd) (own-takes_columns parts ch odd is)) (own-measured parts ch odd is code) (omega (arith, few))

  by-entry : (entry : Option (List Glyph)) → IfSome entry (λ text. IsTrue (is_glyph_text text)) → AreOfCharacter face origin (elements_by entry parts ch odd face origin)
  by-entry (Some text) own = of-glyphs face origin text own
  by-entry None own = by-tab (ch == 9)

-- the elements of a character are at most four where the table does not show it
pub few-elements : (parts : PartValues) (ch : ℕ) (odd : Bool) (face : Attributes) (origin : Origin) → glyphs_for parts.table ch ≡ None → length (elements_of parts ch odd face origin) ≤ 4
few-elements parts ch odd face origin none =
    rw none (either (λ (es : List Element). length es ≤ 4) (ch == 9) _ _ (omega arith) (rw (length-map (own_looks parts ch odd) (element_of face origin)) (looks-count _ _ _).1))

-- a character that the table does not show as nothing has an element
pub some-element : (parts : PartValues) (ch : ℕ) (odd : Bool) (face : Attributes) (origin : Origin) → is_empty_entry (glyphs_for parts.table ch) ≡ false → 1 ≤ length (elements_of parts ch odd face origin)
some-element parts ch odd face origin some = by-entry (glyphs_for parts.table ch) some where
  by-entry : (entry : Option (List Glyph)) → is_empty_entry entry ≡ false → 1 ≤ length (elements_by entry parts ch odd face origin)
  by-entry None some =
      either (λ (es : List Element). 1 ≤ length es) (ch == 9) _ _ (omega arith) (rw (length-map (own_looks parts ch odd) (element_of face origin)) (looks-count _ _ _).0)
  by-entry (Some []) some = grind arith
  by-entry (Some (g ∷ gs)) some = omega arith
