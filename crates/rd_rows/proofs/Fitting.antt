-- A prefix that is cut to its columns, element by element.
use Rattle.std.proofs.Common.{◌≡◌, ℕ, zero, ◌+◌, ◌/◌, ◌<◌, ◌≤◌, nat_le, not, Bool, true, false, IsTrue, List, [], ◌∷◌, ◌++◌, flat_map, refl, ap, sym, ◌∙◌, subst, arith, append_assoc}
use Rattle.std.proofs.lemmas.Bool.{and_parts, not-true}
use Rattle.std.proofs.lemmas.Bool.Decides.{nat_tests}
use Rattle.std.proofs.lemmas.List.{append-nil}
use Rattle.std.proofs.lemmas.List.Folds.{list_all-append}
use Rattle.std.proofs.lemmas.List.Elements.{All-tail}
use Rattle.rd_base.specs.declared.element.Element.{Element}
use Rattle.rd_base.specs.declared.cell.Glyph.{Glyph}
use Rattle.rd_base.specs.Elements.{IsSound, is_line_end}
use Rattle.rd_rows.specs.declared.spot.Placed.{Placed}
use Rattle.rd_rows.specs.Leads.{HasLeads}
use Rattle.rd_rows.specs.Placing.{width_at, ends_row, has_line_end, columns_of}
use Rattle.rd_rows.specs.Prefixes.{fitted, prefix_of, ends_none, begins_none, IsPrefix, IsLead, StandFrom}
use Rattle.rd_rows.specs.Rows.{begin_of, cutting_of}
use Rattle.rd_rows.specs.Shapes.{ShapeValues}
use Rattle.rd_rows.proofs.Stands.{stand-more, stand-columns, sound-fills}
use Rattle.rd_rows.proofs.Ends.{line_end-ends, any-more}

-- an element of a prefix in its columns
abbrev pub part_at : Element → ℕ → ℕ → Placed
part_at e column columns = record { element = e; start = column; columns = columns; first = false }

-- the elements that were placed, where these are left
pub record Fitting (limit : ℕ) (all es : List Element) (placed : List Placed) (columns : ℕ) : Type 0 where
  pub rest : fitted limit 0 all ≡ placed ++ fitted limit columns es
  pub stand : StandFrom 0 placed columns
  pub short : columns ≤ limit
  pub on : has_line_end placed ≡ false
  pub items : begins_none placed ≡ true
  pub left : IsPrefix es

pub fitting-start : (limit : ℕ) (all : List Element) → IsPrefix all → Fitting limit all all [] 0
fitting-start limit all h = record { rest = refl; stand = refl; short = omega arith; on = refl; items = refl; left = h }

on-end : (b d : Bool) → (b ≡ true → d ≡ true) → d ≡ false → b ≡ false
on-end true d h k = let e = h refl in cc
on-end false d h k = refl

none-more : (ps : List Placed) (p : Placed) → begins_none ps ≡ true → p.first ≡ false → begins_none (ps ++ p ∷ []) ≡ true
none-more ps p h first = list_all-append (λ (q : Placed). not q.first) ps (p ∷ []) ∙ rw (h, first) refl

prefix-tail : (e : Element) (es : List Element) → IsPrefix (e ∷ es) → (ends_row e.look ≡ false) × IsPrefix es
prefix-tail e es h =
    let parts = and_parts (not (ends_row e.look)) (ends_none es) h.on in
    (not-true (ends_row e.look) parts.0, record { sound = All-tail IsSound e es h.sound; on = parts.1 })

fit-step : (limit column columns : ℕ) (e : Element) (es : List Element) → columns ≡ width_at e.extent column → column + columns ≤ limit
    → fitted limit column (e ∷ es) ≡ part_at e column columns ∷ fitted limit (column + columns) es
fit-step limit column columns e es h fit =
    let b : nat_le (column + width_at e.extent column) limit ≡ true = grind (arith, nat_tests) in
    rw b (ap (λ k. part_at e column k ∷ fitted limit (column + k) es) (sym h))

fit-stop : (limit column columns : ℕ) (e : Element) (es : List Element) → columns ≡ width_at e.extent column → limit < column + columns → fitted limit column (e ∷ es) ≡ []
fit-stop limit column columns e es h past =
    let b : nat_le (column + width_at e.extent column) limit ≡ false = grind (arith, nat_tests) in
    rw b refl

pub fitting-more : (limit columns width : ℕ) (all left : List Element) (placed : List Placed) (e : Element) (es : List Element) → Fitting limit all left placed columns → left ≡ e ∷ es
    → width ≡ width_at e.extent columns → columns + width ≤ limit → Fitting limit all es (placed ++ part_at e columns width ∷ []) (columns + width)
fitting-more limit columns width all left placed e es f more h fit =
    let p : Placed = part_at e columns width in
    let prefix = subst IsPrefix more f.left in
    let tail = prefix-tail e es prefix in
    let fills = sound-fills e columns (prefix.sound zero e (omega arith)) in
    record {
      rest = f.rest ∙ (ap (λ xs. placed ++ fitted limit columns xs) more ∙ (ap (λ xs. placed ++ xs) (fit-step limit columns width e es h fit) ∙ sym (append_assoc placed (p ∷ []) (fitted limit (columns + width) es))));
      stand = stand-more 0 columns placed p f.stand refl (rw h fills);
      short = fit;
      on = any-more (λ (q : Placed). is_line_end q.element.look) placed p ∙ rw f.on (on-end (is_line_end e.look) (ends_row e.look) (line_end-ends e.look) tail.0);
      items = none-more placed p f.items refl;
      left = tail.1;
    }

lead-of : (limit columns : ℕ) (all left : List Element) (placed : List Placed) → Fitting limit all left placed columns → limit ≤ 200 → IsLead placed
lead-of limit columns all left placed f few =
    let e = stand-columns 0 columns placed f.stand in
    let short = f.short in
    let same : columns ≡ columns_of placed = omega (arith, e) in
    record { stand = subst (StandFrom 0 placed) same f.stand; short = omega (arith, e, short, few); on = f.on; items = f.items }

pub record Fitted (limit : ℕ) (all : List Element) (placed : List Placed) (columns : ℕ) : Type 0 where
  pub whole : placed ≡ fitted limit 0 all
  pub columns_are : columns ≡ columns_of placed
  pub lead : IsLead placed

ending : (limit columns : ℕ) (all left : List Element) (placed : List Placed) → Fitting limit all left placed columns → limit ≤ 200 → fitted limit columns left ≡ [] → Fitted limit all placed columns
ending limit columns all left placed f few none =
    let e = stand-columns 0 columns placed f.stand in
    record {
      whole = sym (f.rest ∙ (ap (λ xs. placed ++ xs) none ∙ append-nil placed));
      columns_are = omega (arith, e);
      lead = lead-of limit columns all left placed f few;
    }

pub fitting-all : (limit columns : ℕ) (all left : List Element) (placed : List Placed) → Fitting limit all left placed columns → limit ≤ 200 → left ≡ [] → Fitted limit all placed columns
fitting-all limit columns all left placed f few over = ending limit columns all left placed f few (ap (fitted limit columns) over)

pub fitting-stop : (limit columns width : ℕ) (all left : List Element) (placed : List Placed) (e : Element) (es : List Element) → Fitting limit all left placed columns → limit ≤ 200 → left ≡ e ∷ es
    → width ≡ width_at e.extent columns → limit < columns + width → Fitted limit all placed columns
fitting-stop limit columns width all left placed e es f few more h past =
    ending limit columns all left placed f few (ap (fitted limit columns) more ∙ fit-stop limit columns width e es h past)

-- the prefix of every list

from-left : (b : Bool) (limit columns : ℕ) (all : List Element) (placed : List Placed) (e : Element) (es : List Element) → nat_le (columns + width_at e.extent columns) limit ≡ b
    → Fitting limit all (e ∷ es) placed columns → limit ≤ 200
    → ((ps : List Placed) (k : ℕ) → Fitting limit all es ps k → IsLead (fitted limit 0 all)) → IsLead (fitted limit 0 all)
from-left true limit columns all placed e es h f few rest =
    rest (placed ++ part_at e columns (width_at e.extent columns) ∷ []) (columns + width_at e.extent columns)
    (fitting-more limit columns (width_at e.extent columns) all (e ∷ es) placed e es f refl refl (let k : columns + width_at e.extent columns ≤ limit = grind (arith, nat_tests) in k))
from-left false limit columns all placed e es h f few rest =
    let past : limit < columns + width_at e.extent columns = grind (arith, nat_tests) in
    let over = fitting-stop limit columns (width_at e.extent columns) all (e ∷ es) placed e es f few refl refl past in
    subst IsLead over.whole over.lead

lead-left : (limit columns : ℕ) (all left : List Element) (placed : List Placed) → Fitting limit all left placed columns → limit ≤ 200 → IsLead (fitted limit 0 all)
lead-left limit columns all [] placed f few = let over = fitting-all limit columns all [] placed f few refl in subst IsLead over.whole over.lead
lead-left limit columns all (e ∷ es) placed f few =
    from-left (nat_le (columns + width_at e.extent columns) limit) limit columns all placed e es refl f few (λ ps k g. lead-left limit k all es ps g few)

pub prefix-leads : (shape : ShapeValues) (es : List Element) → shape.width ≤ 400 → IsPrefix es → IsLead (prefix_of shape es)
prefix-leads shape es few h = lead-left (shape.width / 2) 0 es es [] (fitting-start (shape.width / 2) es h) (omega arith)

pub cutting-leads : (shape : ShapeValues) (base : ℕ) (first wrap : List Element) (truncation continuation : Glyph)
    → shape.width ≤ 400 → IsPrefix first → IsPrefix wrap → HasLeads (cutting_of shape base first wrap truncation continuation)
cutting-leads shape base first wrap truncation continuation few h k =
    record { first = prefix-leads shape first few h; wrap = prefix-leads shape wrap few k }

-- no item begins in a prefix
pub begins-none : (shape : ShapeValues) (ps : List Placed) → IsTrue (begins_none ps) → flat_map (begin_of shape) ps ≡ []
begins-none shape [] h = refl
begins-none shape (p ∷ ps) h =
    let parts = and_parts (not p.first) (begins_none ps) h in
    rw (not-true p.first parts.0) (begins-none shape ps parts.1)
