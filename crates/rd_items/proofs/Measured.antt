-- The glyphs of items have the columns that Unicode gives them.
use Rattle.std.proofs.Common.{ℕ, List, Option, IfSome, IsTrue, subst}
use Rattle.std.proofs.lemmas.List.Elements.{All-from_recursion, recursion_from_All}
use Rattle.rd_base.specs.Chars.{is_code}
use Rattle.rd_base.specs.Faces.{Attributes}
use Rattle.rd_base.specs.Glyphs.{IsMeasured}
use Rattle.rd_base.specs.declared.cell.Glyph.{Glyph}
use Rattle.rd_glyphs.specs.MarkRoles.{mark_role_of, IsMark, MarkLaws}
use Rattle.rd_glyphs.proofs.Joined.{Grows}
use Rattle.rd_props.specs.Seen.{Seen}
use Rattle.rd_items.specs.declared.piece.Piece.{Piece}
use Rattle.rd_items.specs.declared.item.Item.{Item}
use Rattle.rd_items.specs.Readings.{HasCode, HaveCodes}
use Rattle.rd_items.specs.Pieces.{Scene, char_piece, IsMeasuredKind}
use Rattle.rd_items.specs.Items.{piece_joins, items_of, AreMeasuredItems}
use Rattle.rd_items.proofs.EachItem.{GivesOnly, items-each}

-- the glyphs of a piece are measured, and its mark is one
record IsMeasuredPiece (x : Piece) : Type 0 where
  kind : IfSome x.kind IsMeasuredKind
  base : IfSome x.base (λ g. IsMeasured g)
  mark : IfSome x.mark (λ code. IsMark code)

-- ---- the pieces of what is read

of-char : (laws : MarkLaws) → (s : Scene) (face : Attributes) (c p : ℕ) → IsTrue (is_code c) → IsMeasuredPiece (char_piece s face c p)
of-char laws s face c p code =
    let role = laws.role s.parts c code in
    record { kind = tt; base = laws.base (mark_role_of s.parts c) role; mark = laws.mark (mark_role_of s.parts c) role }

gives : MarkLaws → (s : Scene) (k to : ℕ) (e : Seen) → HasCode e → GivesOnly s IsMeasuredPiece k to e
gives laws s k to e code = record {
  string = λ i d inside. record { kind = tt; base = tt; mark = tt };
  text = λ covers m n shown is. record { kind = tt; base = tt; mark = tt };
  space = λ m spec shown is. record { kind = tt; base = tt; mark = tt };
  char = λ c is. of-char laws s e.appearance.face c k (subst (λ (ch : Option ℕ). IfSome ch (λ c. IsTrue (is_code c))) is code);
  nothing = record { kind = tt; base = tt; mark = tt };
  ellipsis = λ covers. record { kind = tt; base = tt; mark = tt };
  ender = record { kind = tt; base = tt; mark = tt };
}

-- ---- marks that join

grows : MarkLaws → Grows piece_joins IsMeasuredPiece
grows laws held next glyph h n e =
    let joined : IsMeasured glyph = subst (λ (m : Option Glyph). IfSome m (λ (b : Glyph). IsMeasured b)) e (laws.joined held.base next.mark h.base n.mark) in
    record { kind = joined; base = joined; mark = h.mark }

-- ---- the items

-- the items of what has codes are measured
pub reading-measured : (laws : MarkLaws) → (s : Scene) (es : List Seen) → HaveCodes es → AreMeasuredItems (items_of s es)
reading-measured laws s es codes =
    All-from_recursion (λ (i : Item). IsMeasuredKind i.kind) (items_of s es)
    (items-each s IsMeasuredPiece (λ (i : Item). IsMeasuredKind i.kind) HasCode (gives laws s) (grows laws) (λ since x measured. measured.kind) es (recursion_from_All HasCode es codes))
