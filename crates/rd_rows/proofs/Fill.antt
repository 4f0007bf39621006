-- A row that is filled element by element, against the cut of its line.
use Rattle.std.proofs.Common.{◌≡◌, ℕ, ◌+◌, ◌-◌, ◌<◌, ◌≤◌, ◌&&◌, ◌||◌, min, Bool, true, false, if◌then◌else◌, IsTrue, List, [], ◌∷◌, ◌++◌, length, take, flat_map, None, Some, refl, ap, sym, ◌∙◌, subst, arith, length-append, append_assoc}
use Rattle.std.proofs.Math.Bool.{or-false, or-true}
use Rattle.std.proofs.lemmas.Bool.{or_parts}
use Rattle.std.proofs.lemmas.List.{append-nil}
use Rattle.std.proofs.lemmas.Grind.{flat_map-append}
use Rattle.std.proofs.Math.Seq.{take-append_seam}
use Rattle.rd_base.proofs.Rows.{columns-append}
use Rattle.rd_base.specs.Elements.{IsSound, AreSound, width_at_most, columns_at_most, is_line_end, ends_once}
use Rattle.rd_base.specs.declared.element.Element.{Element}
use Rattle.rd_base.specs.declared.element.Extent.{Extent}
use Rattle.rd_base.specs.declared.element.Extent.TheVariants.{Fixed, Tab, Column}
use Rattle.rd_base.proofs.Lists.{all-back}
use Rattle.rd_rows.specs.declared.draft.Draft.{Draft}
use Rattle.rd_rows.specs.declared.draft.Break.{Break}
use Rattle.rd_rows.specs.declared.spot.Placed.{Placed}
use Rattle.rd_rows.specs.declared.spot.Spot.{Spot}
use Rattle.rd_rows.specs.Cuts.{is_break, has_break, up_to_break, fitting, room_for}
use Rattle.rd_rows.specs.Left.{IsLine}
use Rattle.rd_rows.specs.Makers.{Grows, IsDraft, IsBreak, IsNoted, standing, reached, is_empty, has_room, room_behind}
use Rattle.rd_rows.specs.Placing.{width_at, ends_row, columns_in, placed_at, behind, place_all}
use Rattle.rd_rows.specs.Rows.{seen_in, first_seen, begin_of}
use Rattle.rd_rows.specs.Shapes.{ShapeValues, room, is_word}
use Rattle.rd_rows.proofs.Ends.{any-more, line_ends, unfit-on, ends_once-tail}
use Rattle.rd_rows.proofs.LineLaws.{length-placed}
use Rattle.rd_rows.proofs.Stands.{stand-append, stand-placed, room-length}
use Rattle.rd_rows.specs.Prefixes.{StandFrom}

-- elements placed one behind the other

pub placed-append : (shape : ShapeValues) (spot : Spot) (xs ys : List Element) → place_all shape spot (xs ++ ys) ≡ place_all shape spot xs ++ place_all shape (reached shape spot xs) ys
placed-append shape spot [] ys = refl
placed-append shape spot (x ∷ xs) ys = ap (λ ps. placed_at shape spot x ∷ ps) (placed-append shape (behind spot (placed_at shape spot x)) xs ys)

pub reached-append : (shape : ShapeValues) (spot : Spot) (xs ys : List Element) → reached shape spot (xs ++ ys) ≡ reached shape (reached shape spot xs) ys
reached-append shape spot [] ys = refl
reached-append shape spot (x ∷ xs) ys = reached-append shape (behind spot (placed_at shape spot x)) xs ys

standing-append : (shape : ShapeValues) (lead : List Placed) (start : Spot) (xs ys : List Element) → standing shape lead start (xs ++ ys) ≡ standing shape lead start xs ++ place_all shape (reached shape start xs) ys
standing-append shape lead start xs ys =
    ap (λ ps. lead ++ ps) (placed-append shape start xs ys) ∙ sym (append_assoc lead (place_all shape start xs) (place_all shape (reached shape start xs) ys))

seen-append : {A : Type 0} (f : Placed → List A) (shape : ShapeValues) (lead : List Placed) (start : Spot) (xs ys : List Element)
    → flat_map f (standing shape lead start (xs ++ ys)) ≡ flat_map f (standing shape lead start xs) ++ flat_map f (place_all shape (reached shape start xs) ys)
seen-append f shape lead start xs ys =
    ap (flat_map f) (standing-append shape lead start xs ys) ∙ flat_map-append f (standing shape lead start xs) (place_all shape (reached shape start xs) ys)

pub standing-length : (shape : ShapeValues) (lead : List Placed) (start : Spot) (xs : List Element) → length (standing shape lead start xs) ≡ length lead + length xs
standing-length shape lead start xs = length-append lead (place_all shape start xs) ∙ ap (λ k. length lead + k) (length-placed shape start xs)

-- one more element in a draft

one-behind : {A : Type 0} (new old all one : List A) → new ≡ old ++ one → old ≡ all → new ≡ all ++ (one ++ [])
one-behind new old all one h k = rw (append-nil one) (h ∙ ap (λ xs. xs ++ one) k)

pub grown : (shape : ShapeValues) (lead : List Placed) (start : Spot) (xs : List Element) (e : Element) (old new : Draft) → IsDraft shape lead start xs old
    → Grows shape (placed_at shape old.spot e) old new → IsDraft shape lead start (xs ++ e ∷ []) new
grown shape lead start xs e old new d g =
    let h : Grows shape (placed_at shape (reached shape start xs) e) old new = subst (λ (s : Spot). Grows shape (placed_at shape s e) old new) d.spot g in
    let p = placed_at shape (reached shape start xs) e in
    let size = length-append xs (e ∷ []) in
    let placed = d.placed in
    let more = h.placed in
    record {
      cells = one-behind new.cells old.cells (flat_map (seen_in shape) (standing shape lead start xs)) (seen_in shape p) h.cells d.cells ∙ sym (seen-append (seen_in shape) shape lead start xs (e ∷ []));
      begins = one-behind new.begins old.begins (flat_map (begin_of shape) (standing shape lead start xs)) (begin_of shape p) h.begins d.begins ∙ sym (seen-append (begin_of shape) shape lead start xs (e ∷ []));
      spot = h.spot ∙ (ap (λ (s : Spot). behind s p) d.spot ∙ sym (reached-append shape start xs (e ∷ [])));
      placed = omega (arith, size, placed, more);
    }

-- a draft that is cut back

pub cut-draft : (shape : ShapeValues) (lead : List Placed) (start : Spot) (xs ys : List Element) (old new : Draft) (b : Break) → IsDraft shape lead start (xs ++ ys) old → IsBreak shape lead start xs b
    → new.cells ≡ take b.cells old.cells → new.begins ≡ take b.begins old.begins → new.spot ≡ b.spot → new.placed ≡ b.placed → IsDraft shape lead start xs new
cut-draft shape lead start xs ys old new b d k cells begins spot placed = record {
  cells = cells ∙ (ap (λ (n : ℕ). take n old.cells) k.cells ∙ (ap (take (length (flat_map (seen_in shape) (standing shape lead start xs)))) (d.cells ∙ seen-append (seen_in shape) shape lead start xs ys)
      ∙ take-append_seam (flat_map (seen_in shape) (standing shape lead start xs)) (flat_map (seen_in shape) (place_all shape (reached shape start xs) ys))));
  begins = begins ∙ (ap (λ (n : ℕ). take n old.begins) k.begins ∙ (ap (take (length (flat_map (begin_of shape) (standing shape lead start xs)))) (d.begins ∙ seen-append (begin_of shape) shape lead start xs ys)
      ∙ take-append_seam (flat_map (begin_of shape) (standing shape lead start xs)) (flat_map (begin_of shape) (place_all shape (reached shape start xs) ys))));
  spot = spot ∙ k.spot;
  placed = placed ∙ k.placed;
}

-- the last break

kept-here : (a b : Bool) (x : Element) (ys zs : List Element) → ys ≡ zs → (if a || (b || true) then x ∷ ys else []) ≡ x ∷ zs
kept-here true b x ys zs h = ap (λ xs. x ∷ xs) h
kept-here false true x ys zs h = ap (λ xs. x ∷ xs) h
kept-here false false x ys zs h = ap (λ xs. x ∷ xs) h

kept-before : (a b : Bool) (x : Element) (ys zs : List Element) → ys ≡ zs → (if a || (b || false) then x ∷ ys else []) ≡ (if a || b then x ∷ zs else [])
kept-before true b x ys zs h = ap (λ xs. x ∷ xs) h
kept-before false true x ys zs h = ap (λ xs. x ∷ xs) h
kept-before false false x ys zs h = refl

pub break-more : (xs : List Element) (e : Element) → has_break (xs ++ e ∷ []) ≡ (has_break xs || is_break e.look)
break-more xs e = any-more (λ (x : Element). is_break x.look) xs e

pub break-here : (xs : List Element) (e : Element) → is_break e.look ≡ true → up_to_break (xs ++ e ∷ []) ≡ xs ++ e ∷ []
break-here [] e h = rw h refl
break-here (x ∷ xs) e h = rw (break-more xs e, h) (kept-here (is_break x.look) (has_break xs) x (up_to_break (xs ++ e ∷ [])) (xs ++ e ∷ []) (break-here xs e h))

pub break-before : (xs : List Element) (e : Element) → is_break e.look ≡ false → up_to_break (xs ++ e ∷ []) ≡ up_to_break xs
break-before [] e h = rw h refl
break-before (x ∷ xs) e h = rw (break-more xs e, h) (kept-before (is_break x.look) (has_break xs) x (up_to_break (xs ++ e ∷ [])) (up_to_break xs) (break-before xs e h))

pub noted-here : (shape : ShapeValues) (lead : List Placed) (start : Spot) (xs : List Element) (e : Element) (b : Break) (waiting : List Element) → is_word shape.wrap ≡ true → is_break e.look ≡ true
    → IsBreak shape lead start (xs ++ e ∷ []) b → waiting ≡ [] → IsNoted shape lead start (xs ++ e ∷ []) (Some b) waiting
noted-here shape lead start xs e b waiting word break is none =
    let here = break-here xs e break in
    (rw (word, break-more xs e, break) (or-true (has_break xs)), subst (λ ys. IsBreak shape lead start ys b) (sym here) is, rw (here, none) (sym (append-nil (xs ++ e ∷ []))))

pub noted-none : (shape : ShapeValues) (lead : List Placed) (start : Spot) (xs : List Element) (e : Element) (waiting : List Element) → is_word shape.wrap ≡ true → is_break e.look ≡ false
    → IsNoted shape lead start xs None waiting → IsNoted shape lead start (xs ++ e ∷ []) None waiting
noted-none shape lead start xs e waiting word break h = (rw (break-more xs e, break) (ap (λ (b : Bool). is_word shape.wrap && b) (or-false (has_break xs)) ∙ h.0), h.1)

pub noted-behind : (shape : ShapeValues) (lead : List Placed) (start : Spot) (xs : List Element) (e : Element) (b : Break) (old new : List Element) → is_break e.look ≡ false
    → new ≡ old ++ e ∷ [] → IsNoted shape lead start xs (Some b) old → IsNoted shape lead start (xs ++ e ∷ []) (Some b) new
noted-behind shape lead start xs e b old new break more h =
    let before = break-before xs e break in (
      rw (break-more xs e, break) (ap (λ (b : Bool). is_word shape.wrap && b) (or-false (has_break xs)) ∙ h.0),
      subst (λ ys. IsBreak shape lead start ys b) (sym before) h.1,
      rw (before, more) (ap (λ ys. ys ++ e ∷ []) h.2 ∙ append_assoc (up_to_break xs) old (e ∷ [])),
    )

-- ---- how wide an element is

width-bound : (x : Extent) (column : ℕ) → width_at x column ≤ width_at_most x
width-bound (Fixed n) column = omega arith
width-bound (Tab t) column = omega arith
width-bound (Column n) column = omega arith

if-min : (b : Bool) (w k m : ℕ) → w ≤ m → (if b then min w k else w) ≤ m
if-min true w k m h = omega arith
if-min false w k m h = h

pub columns-bound : (shape : ShapeValues) (spot : Spot) (e : Element) → columns_in shape spot e ≤ width_at_most e.extent
columns-bound shape spot e = if-min _ _ _ _ (width-bound e.extent spot.column)

pub reached-column : (shape : ShapeValues) (spot : Spot) (xs : List Element) → (reached shape spot xs).column ≤ spot.column + columns_at_most xs
reached-column shape spot [] = omega arith
reached-column shape spot (x ∷ xs) =
    let one = columns-bound shape spot x in
    let rest = reached-column shape (behind spot (placed_at shape spot x)) xs in
    omega (arith, one, rest)

pub reached-used : (shape : ShapeValues) (spot : Spot) (xs : List Element) → spot.used ≤ spot.column + 200 → (reached shape spot xs).used ≤ (reached shape spot xs).column + 200
reached-used shape spot [] h = h
reached-used shape spot (x ∷ xs) h = reached-used shape (behind spot (placed_at shape spot x)) xs (omega (arith, h))

-- what is left of a line behind elements that do not end it

pub once-behind : (xs ys : List Element) → line_ends xs ≡ false → IsTrue (ends_once (xs ++ ys)) → IsTrue (ends_once ys)
once-behind [] ys on h = h
once-behind (x ∷ xs) ys on h =
    let parts = or_parts (is_line_end x.look) (line_ends xs) on in
    once-behind xs ys parts.1 (ends_once-tail x (xs ++ ys) parts.0 h)

pub line-behind : (column more : ℕ) (xs ys : List Element) → line_ends xs ≡ false → more ≤ column + columns_at_most xs → IsLine column (xs ++ ys) → IsLine more ys
line-behind column more xs ys on few line = record {
  sound = all-back IsSound xs ys line.sound;
  end = once-behind xs ys on line.end;
  columns = let all = line.columns in let sum = columns-append xs ys in omega (arith, few, all, sum);
}

pub once-some : (es : List Element) → IsTrue (ends_once es) → 0 < length es
once-some [] h = cc
once-some (e ∷ es) h = omega arith

-- the elements for which there is room

empty-more : (xs : List Element) (e : Element) → is_empty (xs ++ e ∷ []) ≡ false
empty-more [] e = refl
empty-more (x ∷ xs) e = refl

pub filled-more : (xs : List Element) (e : Element) (b : Bool) → b ≡ false → b ≡ is_empty (xs ++ e ∷ [])
filled-more xs e b h = h ∙ sym (empty-more xs e)

pub room-here : (shape : ShapeValues) (xs : List Element) (spot : Spot) (e : Element) (es : List Element) → has_room shape xs spot e ≡ true
    → room_behind shape xs spot (e ∷ es) ≡ e ∷ (if ends_row e.look then [] else fitting shape (behind spot (placed_at shape spot e)) es)
room-here shape [] spot e es h = refl
room-here shape (x ∷ xs) spot e es h = rw h refl

pub room-none : (shape : ShapeValues) (xs : List Element) (spot : Spot) (e : Element) (es : List Element) → has_room shape xs spot e ≡ false → room_behind shape xs spot (e ∷ es) ≡ []
room-none shape [] spot e es h = cc
room-none shape (x ∷ xs) spot e es h = rw h refl

behind-more : (shape : ShapeValues) (xs : List Element) (e : Element) (spot : Spot) (es : List Element) → room_behind shape (xs ++ e ∷ []) spot es ≡ fitting shape spot es
behind-more shape [] e spot es = refl
behind-more shape (x ∷ xs) e spot es = refl

pub room-on : (shape : ShapeValues) (start : Spot) (xs all es : List Element) (e : Element) → has_room shape xs (reached shape start xs) e ≡ true → ends_row e.look ≡ false
    → room_for shape start all ≡ xs ++ room_behind shape xs (reached shape start xs) (e ∷ es)
    → room_for shape start all ≡ (xs ++ e ∷ []) ++ room_behind shape (xs ++ e ∷ []) (reached shape start (xs ++ e ∷ [])) es
room-on shape start xs all es e fit on h =
    let spot = reached shape start xs in
    let next : reached shape start (xs ++ e ∷ []) ≡ behind spot (placed_at shape spot e) = reached-append shape start xs (e ∷ []) in
    let more : room_behind shape (xs ++ e ∷ []) (reached shape start (xs ++ e ∷ [])) es ≡ fitting shape (behind spot (placed_at shape spot e)) es
    = behind-more shape xs e (reached shape start (xs ++ e ∷ [])) es ∙ ap (λ (s : Spot). fitting shape s es) next in
    rw more (h ∙ (ap (λ ys. xs ++ ys) (room-here shape xs spot e es fit ∙ rw on refl) ∙ sym (append_assoc xs (e ∷ []) (fitting shape (behind spot (placed_at shape spot e)) es))))

pub room-ended : (shape : ShapeValues) (start : Spot) (xs all es : List Element) (e : Element) → has_room shape xs (reached shape start xs) e ≡ true → ends_row e.look ≡ true
    → room_for shape start all ≡ xs ++ room_behind shape xs (reached shape start xs) (e ∷ es) → room_for shape start all ≡ xs ++ e ∷ []
room-ended shape start xs all es e fit close h = h ∙ ap (λ ys. xs ++ ys) (room-here shape xs (reached shape start xs) e es fit ∙ rw close refl)

pub room-full : (shape : ShapeValues) (start : Spot) (xs all es : List Element) (e : Element) → has_room shape xs (reached shape start xs) e ≡ false
    → room_for shape start all ≡ xs ++ room_behind shape xs (reached shape start xs) (e ∷ es) → room_for shape start all ≡ xs
room-full shape start xs all es e unfit h = h ∙ (ap (λ ys. xs ++ ys) (room-none shape xs (reached shape start xs) e es unfit) ∙ append-nil xs)

-- an element for which there is no room ends no row
pub unfit-ends : (shape : ShapeValues) (xs : List Element) (spot : Spot) (e : Element) → has_room shape xs spot e ≡ false → ends_row e.look ≡ false
unfit-ends shape xs spot e h = unfit-on shape spot e (or_parts (is_empty xs) _ h).1

-- the cells of a row have room before its last column
pub cells-room : (shape : ShapeValues) (lead : List Placed) (start : Spot) (xs : List Element) (d : Draft) → IsDraft shape lead start xs d → StandFrom 0 lead start.used → AreSound xs
    → length d.cells ≤ shape.hscroll + room shape - first_seen shape
cells-room shape lead start xs d is stand sound =
    let all = stand-append 0 start.used (reached shape start xs).used lead (place_all shape start xs) stand (stand-placed shape start xs sound) in
    let few = room-length shape (reached shape start xs).used (standing shape lead start xs) all in
    let same = ap length is.cells in
    omega (arith, few, same)
