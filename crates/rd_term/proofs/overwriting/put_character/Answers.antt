use Rattle.std.proofs.Common.{◌≡◌, if◌then◌else◌, ℕ, ◌+◌, ◌-◌, ◌∙◌, ◌∷◌, ◌++◌, Bool, map, take, drop, replicate, Some, ap, sym, arith}
use Rattle.rd_base.specs.Faces.{Attributes}
use Rattle.rd_base.specs.declared.cell.Glyph.{Glyph}
use Rattle.rd_base.specs.declared.cell.Cell.TheVariants.{Blank, First, Rest}
use Rattle.rd_base.specs.Glyphs.{blanks}
use Rattle.rd_term.specs.Overwriting.{overwritten}
use Rattle.rd_term.proofs.Cutting.{Row, refilled-same, refilled-first, map-replicate}
use Rattle.rd_term.proofs.overwriting.put_character.Goals as goal

-- a row with a character put into it, by whether it is a space
abbrev put : Row → ℕ → Glyph → Attributes → Bool → Row
put row column g face space = overwritten column (map Some (if space then blanks g.width face else First g face ∷ replicate (g.width - 1) Rest)) row

pub returns-then-is_space : goal.returns-then-is_space
returns-then-is_space c =
    let row = c.args.row.now in
    let column = c.args.column in
    let n = c.args.glyph.now.width in
    let blank = Some (Blank c.args.face) in
    let width : c.args.column + c.args.glyph.now.width - c.args.column ≡ c.args.glyph.now.width = omega arith in
    c.fill.ensures
    ∙ refilled-same row c.cut.new.row column (column + n) blank (omega arith) c.requires.room c.cut.ensures
    ∙ ap (λ cells. overwritten column cells row) (ap (λ k. replicate k blank) width ∙ sym (map-replicate Some n (Blank c.args.face)))
    ∙ ap (put row column c.args.glyph.now c.args.face) (sym c.if-is_space.true ∙ c.is_space.ensures)

pub returns-else-is_space : goal.returns-else-is_space
returns-else-is_space c =
    let row = c.args.row.now in
    let column = c.args.column in
    let n = c.args.glyph.now.width in
    let first = Some (First c.args.glyph.now c.args.face) in
    let width : c.args.column + c.args.glyph.now.width - (c.args.column + 1) ≡ c.args.glyph.now.width - 1 = omega arith in
    c.fill-else-is_space.ensures
    ∙ ap (λ r. take (column + 1) r ++ (replicate (column + n - (column + 1)) (Some Rest) ++ drop (column + n) r)) c.set.ensures
    ∙ refilled-first row c.cut.new.row column (column + n) first (Some Rest) (omega (arith, c.requires.some)) c.requires.room c.cut.ensures
    ∙ ap (λ cells. overwritten column (first ∷ cells) row) (ap (λ k. replicate k (Some Rest)) width ∙ sym (map-replicate Some (n - 1) Rest))
    ∙ ap (put row column c.args.glyph.now c.args.face) (sym c.if-is_space.false ∙ c.is_space.ensures)
