-- A display table of an op in form keeps what tables keep.
use Rattle.std.proofs.Common.{◌≡◌, ℕ, ◌&&◌, ◌||◌, ◌==◌, not, Bool, true, false, nat_le, List, [], ◌∷◌, length, map, Option, None, Some, subst, ap, refl, ◌∙◌, arith, IsTrue}
use Rattle.std.proofs.lemmas.Bool.{and_parts, and_from}
use Rattle.std.proofs.lemmas.Bool.Decides.{nat_tests}
use Rattle.std.proofs.lemmas.List.{length-map}
use Rattle.std.proofs.lemmas.List.Elements.{All-map, All-weaker}
use Rattle.std.specs.List.{list_all}
use Rattle.std.specs.Prelude.{All, option_map}
use Rattle.rd_base.specs.Chars.{is_scalar}
use Rattle.rd_base.specs.declared.cell.Glyph.{Glyph}
use Rattle.rd_base.specs.declared.limits.TheConstants.{ENTRY_GLYPHS}
use Rattle.rd_objects.specs.Tables as tables
use Rattle.rd_objects.specs.Tables.{is_control, has_no_glyph, is_glyph_character, is_slot_glyph, HoldsGlyph, IsTable}
use Rattle.rd_objects.specs.Widths.{columns}
use Rattle.rd_objects.proofs.Widths.{few-columns}
use Rattle.rd_objects.specs.declared.table.TableEntry.{TableEntry}
use Rattle.rd_script.specs.Forms.{is_glyph, is_glyph_text, is_slot, IsSlot, IsEllipsis, IsEntryInForm}
use Rattle.rd_script.specs.declared.object.OpEntry.{OpEntry}
use Rattle.rd_state.specs.Making.{glyph_of, table_entry, table_of}

neither : (a b : Bool) → not (a || b) ≡ true → (not a ≡ true) × (b ≡ false)
neither true b h = absurd (cc)
neither false true h = absurd (cc)
neither false false h = (refl, refl)

pub glyph-right : (c : ℕ) → is_glyph c ≡ true → is_glyph_character (glyph_of c) ≡ true
glyph-right c h =
    let parts = and_parts (is_scalar c) (not (has_no_glyph c)) h in
    let shown = neither (is_control c) (columns c == 0) parts.1 in
    let few = few-columns c in
    let none = shown.1 in
    let same : (columns c == columns c) ≡ true = grind (arith, nat_tests) in
    let least : nat_le 1 (columns c) ≡ true = grind (arith, nat_tests) in
    let most : nat_le (columns c) 3 ≡ true = grind (arith, nat_tests) in
    and_from _ _ (and_from _ _ (and_from _ _ (and_from _ _ (and_from _ _ (and_from (is_scalar c && not (is_control c)) (columns c == columns c) (and_from (is_scalar c) (not (is_control c)) parts.0 shown.0) same) least) most) refl) refl) refl

slot-right : (c : ℕ) → is_slot c ≡ true → is_slot_glyph (glyph_of c) ≡ true
slot-right c h =
    let parts = and_parts (is_glyph c) (columns c == 1) h in
    and_from (is_glyph_character (glyph_of c)) (columns c == 1) (glyph-right c parts.0) parts.1

slot-holds : (slot : Option ℕ) → IsSlot slot → HoldsGlyph is_slot_glyph (option_map glyph_of slot)
slot-holds None form g h = absurd (cc)
slot-holds (Some c) form g h = let same : glyph_of c ≡ g = cc in subst (λ (x : Glyph). is_slot_glyph x ≡ true) same (slot-right c form)

glyphs-right : (text : List ℕ) → list_all is_glyph text ≡ true → list_all is_glyph_character (map glyph_of text) ≡ true
glyphs-right [] h = refl
glyphs-right (c ∷ cs) h =
    let parts = and_parts (is_glyph c) (list_all is_glyph cs) h in
    and_from (is_glyph_character (glyph_of c)) (list_all is_glyph_character (map glyph_of cs)) (glyph-right c parts.0) (glyphs-right cs parts.1)

pub text-right : (text : List ℕ) → is_glyph_text text ≡ true → tables.is_glyph_text (map glyph_of text) ≡ true
text-right text h =
    let parts = and_parts (nat_le (length text) ENTRY_GLYPHS) (list_all is_glyph text) h in
    and_from (nat_le (length (map glyph_of text)) ENTRY_GLYPHS) (list_all is_glyph_character (map glyph_of text))
    (ap (λ (n : ℕ). nat_le n ENTRY_GLYPHS) (length-map text glyph_of) ∙ parts.0) (glyphs-right text parts.1)

ellipsis-right : (ellipsis : Option (List ℕ)) → IsEllipsis ellipsis → (text : List Glyph) → option_map (map glyph_of) ellipsis ≡ Some text → IsTrue (tables.is_glyph_text text)
ellipsis-right None form text h = absurd (cc)
ellipsis-right (Some cs) form text h = let same : map glyph_of cs ≡ text = cc in subst (λ (x : List Glyph). tables.is_glyph_text x ≡ true) same (text-right cs form)

pub table-right : (entries : List OpEntry) (truncation continuation escape control : Option ℕ) (ellipsis : Option (List ℕ)) (border : Option ℕ) → All IsEntryInForm entries
    → IsSlot truncation → IsSlot continuation → IsSlot escape → IsSlot control → IsEllipsis ellipsis → IsSlot border
    → IsTable (table_of entries truncation continuation escape control ellipsis border)
table-right entries truncation continuation escape control ellipsis border e t n s c l b = record {
  entries = All-map (λ (x : TableEntry). IsTrue (tables.is_glyph_text x.text)) table_entry entries
      (All-weaker IsEntryInForm (λ x. IsTrue (tables.is_glyph_text (table_entry x).text)) (λ x form. text-right x.text form.text) entries e);
  truncation = slot-holds truncation t;
  continuation = slot-holds continuation n;
  escape = slot-holds escape s;
  control = slot-holds control c;
  border = slot-holds border b;
  ellipsis = ellipsis-right ellipsis l;
}
