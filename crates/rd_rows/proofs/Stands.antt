-- Elements that stand one behind the other, and how many cells are seen of them.
use Rattle.std.proofs.Common.{◌≡◌, ℕ, zero, suc, ◌+◌, ◌-◌, ◌≤◌, ◌&&◌, min, max, nat_le, not, Bool, true, false, if◌then◌else◌, List, [], ◌∷◌, ◌++◌, length, flat_map, Some, refl, ap, sym, ◌∙◌, subst, arith, length-append}
use Rattle.std.specs.Prelude.{slice_get}
use Rattle.std.proofs.lemmas.Bool.Decides.{nat_tests}
use Rattle.std.proofs.lemmas.List.{length-replicate}
use Rattle.std.proofs.lemmas.List.Elements.{All-tail}
use Rattle.rd_base.proofs.Rows.{glyph_length}
use Rattle.rd_base.specs.Elements.{IsSound, IsSoundLook, AreSound}
use Rattle.rd_base.specs.Faces.{Attributes}
use Rattle.rd_base.specs.Glyphs.{look_cells}
use Rattle.rd_base.specs.declared.element.Element.{Element}
use Rattle.rd_base.specs.declared.element.Extent.{Extent}
use Rattle.rd_base.specs.declared.element.Extent.TheVariants.{Fixed, Tab, Column}
use Rattle.rd_base.specs.declared.element.Look.{Look}
use Rattle.rd_base.specs.declared.element.Look.TheVariants.{Blank, Glyph as Shown, RowEnd, LineEnd}
use Rattle.rd_rows.specs.declared.spot.Placed.{Placed}
use Rattle.rd_rows.specs.declared.spot.Spot.{Spot}
use Rattle.rd_rows.specs.Placing.{width_at, is_blank, columns_in, placed_at, behind, behind_all, place_all, columns_of}
use Rattle.rd_rows.specs.Prefixes.{FillsColumns, StandFrom}
use Rattle.rd_rows.specs.Rows.{seen, seen_in, first_seen}
use Rattle.rd_rows.specs.Shapes.{ShapeValues, room, truncates}

-- one more element

pub stand-more : (from to : ℕ) (ps : List Placed) (p : Placed) → StandFrom from ps to → p.start ≡ to → FillsColumns p.element.look p.columns → StandFrom from (ps ++ p ∷ []) (to + p.columns)
stand-more from to [] p h start fills = (start ∙ sym h, fills, ap (λ k. k + p.columns) h)
stand-more from to (q ∷ ps) p h start fills = (h.0, h.1, stand-more (from + q.columns) to ps p h.2 start fills)

pub stand-columns : (from to : ℕ) (ps : List Placed) → StandFrom from ps to → to ≡ from + columns_of ps
stand-columns from to [] h = let e = h in omega (arith, e)
stand-columns from to (p ∷ ps) h = let e = stand-columns (from + p.columns) to ps h.2 in omega (arith, e)

-- a glyph fills its columns

sound-look : (look : Look) (extent : Extent) (column : ℕ) → IsSoundLook look extent → FillsColumns look (width_at extent column)
sound-look Blank extent column h = tt
sound-look RowEnd extent column h = tt
sound-look LineEnd extent column h = tt
sound-look (Shown g) (Fixed n) column h = (h.0, h.1)
sound-look (Shown g) (Tab t) column h = absurd h
sound-look (Shown g) (Column n) column h = absurd h

pub sound-fills : (e : Element) (column : ℕ) → IsSound e → FillsColumns e.look (width_at e.extent column)
sound-fills e column h = sound-look e.look e.extent column h

cut-fills : (look : Look) (b : Bool) (width k : ℕ) → FillsColumns look width → FillsColumns look (if is_blank look && b then min width k else width)
cut-fills Blank b width k h = tt
cut-fills RowEnd b width k h = tt
cut-fills LineEnd b width k h = tt
cut-fills (Shown g) b width k h = h

pub placed-fills : (shape : ShapeValues) (spot : Spot) (e : Element) → IsSound e → FillsColumns e.look (columns_in shape spot e)
placed-fills shape spot e h = cut-fills e.look (not (truncates shape)) (width_at e.extent spot.column) (room shape - spot.used) (sound-fills e spot.column h)

-- elements of a line one behind the other

pub stand-append : (a b c : ℕ) (ps qs : List Placed) → StandFrom a ps b → StandFrom b qs c → StandFrom a (ps ++ qs) c
stand-append a b c [] qs h k = subst (λ from. StandFrom from qs c) (sym h) k
stand-append a b c (p ∷ ps) qs h k = (h.0, h.1, stand-append (a + p.columns) b c ps qs h.2 k)

pub stand-placed : (shape : ShapeValues) (spot : Spot) (xs : List Element) → AreSound xs → StandFrom spot.used (place_all shape spot xs) (behind_all spot (place_all shape spot xs)).used
stand-placed shape spot [] h = refl
stand-placed shape spot (x ∷ xs) h =
    let p = placed_at shape spot x in
    (refl, placed-fills shape spot x (h zero x (omega arith)), stand-placed shape (behind spot p) xs (All-tail IsSound x xs h))

-- the cells that are seen

whole-length : (look : Look) (columns : ℕ) (face : Attributes) → FillsColumns look columns → length (look_cells columns look face) ≡ columns
whole-length (Shown g) columns face h = glyph_length columns g face h.1
whole-length other columns face h = length-replicate columns _

seen-length : (b : Bool) (from to : ℕ) (p : Placed) → (nat_le from p.start && nat_le (p.start + p.columns) to) ≡ b → FillsColumns p.element.look p.columns
    → length (seen from to p) ≡ min to (p.start + p.columns) - max from p.start
seen-length true from to p h fills =
    let whole = whole-length p.element.look p.columns p.element.face fills in
    let low : from ≤ p.start = grind (arith, nat_tests) in
    let high : p.start + p.columns ≤ to = grind (arith, nat_tests) in
    rw h (whole ∙ (let k : p.columns ≡ min to (p.start + p.columns) - max from p.start = omega (arith, low, high) in k))
seen-length false from to p h fills = rw h (length-replicate _ _)

columns-beside : (from to a b n c x y : ℕ) → a + n ≡ b → b ≤ c → x ≡ min to (a + n) - max from a → y ≡ min to c - max from b → x + y ≡ min to c - max from a
columns-beside from to a b n c x y h i j k = omega arith

pub stand-length : (from to a b : ℕ) (ps : List Placed) → StandFrom a ps b → length (flat_map (seen from to) ps) ≡ min to b - max from a
stand-length from to a b [] h = let e = h in omega (arith, e)
stand-length from to a b (p ∷ ps) h =
    let one = seen-length _ from to p refl h.1 in
    let start = h.0 in
    let rest = stand-length from to (a + p.columns) b ps h.2 in
    let end = stand-columns (a + p.columns) b ps h.2 in
    let first : length (seen from to p) ≡ min to (a + p.columns) - max from a = one ∙ ap (λ (k : ℕ). min to (k + p.columns) - max from k) start in
    length-append (seen from to p) (flat_map (seen from to) ps) ∙ columns-beside from to a (a + p.columns) p.columns b _ _ refl (omega (arith, end)) first rest

pub room-length : (shape : ShapeValues) (b : ℕ) (ps : List Placed) → StandFrom 0 ps b → length (flat_map (seen_in shape) ps) ≤ shape.hscroll + room shape - first_seen shape
room-length shape b ps h = let e = stand-length (first_seen shape) (shape.hscroll + room shape) 0 b ps h in omega (arith, e)

-- an element that stands ends where all end, or before

pub stand-at : (k from to : ℕ) (ps : List Placed) (p : Placed) → StandFrom from ps to → slice_get ps k ≡ Some p → p.start + p.columns ≤ to
stand-at k from to [] p h i = absurd cc
stand-at zero from to (q ∷ ps) p h i = let e = stand-columns (from + q.columns) to ps h.2 in let start = h.0 in let same : q ≡ p = cc in subst (λ (x : Placed). x.start + x.columns ≤ to) same (omega (arith, e, start))
stand-at (suc k) from to (q ∷ ps) p h i = stand-at k (from + q.columns) to ps p h.2 i
