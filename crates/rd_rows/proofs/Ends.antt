-- Elements that end a row or the line.
use Rattle.std.proofs.Common.{◌≡◌, ◌||◌, not, Bool, true, false, IsTrue, List, [], ◌∷◌, ◌++◌, refl, ap, sym, ◌∙◌, arith}
use Rattle.std.proofs.Math.Bool.{or-false}
use Rattle.std.specs.List.{list_any}
use Rattle.std.proofs.lemmas.List.Folds.{list_any-append}
use Rattle.std.proofs.lemmas.Bool.{and_parts, not-true, or_parts}
use Rattle.rd_base.specs.Elements.{is_line_end, ends_once}
use Rattle.rd_base.specs.declared.element.Element.{Element}
use Rattle.rd_base.specs.declared.element.Look.{Look}
use Rattle.rd_base.specs.declared.element.Look.TheVariants.{Blank, Glyph, RowEnd, LineEnd}
use Rattle.rd_rows.specs.declared.spot.Placed.{Placed}
use Rattle.rd_rows.specs.declared.spot.Spot.{Spot}
use Rattle.rd_rows.specs.Cuts.{ends_some}
use Rattle.rd_rows.specs.Laws.{lines_in}
use Rattle.rd_rows.specs.Placing.{ends_row, fits, place_all, behind, placed_at, has_line_end}
use Rattle.rd_rows.specs.Shapes.{ShapeValues}

pub line_end-ends : (look : Look) → is_line_end look ≡ true → ends_row look ≡ true
line_end-ends Blank h = cc
line_end-ends (Glyph g) h = cc
line_end-ends RowEnd h = refl
line_end-ends LineEnd h = refl

pub on-no_line_end : (look : Look) → ends_row look ≡ false → is_line_end look ≡ false
on-no_line_end Blank h = refl
on-no_line_end (Glyph g) h = refl
on-no_line_end RowEnd h = cc
on-no_line_end LineEnd h = cc

-- what does not fit ends no row
pub unfit-on : (shape : ShapeValues) (spot : Spot) (e : Element) → fits shape spot e ≡ false → ends_row e.look ≡ false
unfit-on shape spot e h = (or_parts _ _ (or_parts _ _ (or_parts _ _ h).0).0).0

-- one more passes or one of those before it does
pub any-more : {X : Type 0} (test : X → Bool) (xs : List X) (x : X) → list_any test (xs ++ x ∷ []) ≡ (list_any test xs || test x)
any-more test xs x = list_any-append test xs (x ∷ []) ∙ ap (λ b. list_any test xs || b) (or-false (test x))

-- whether one of the elements is the line end
abbrev pub line_ends : List Element → Bool
line_ends es = list_any (λ (e : Element). is_line_end e.look) es

pub placed-ends : (shape : ShapeValues) (spot : Spot) (xs : List Element) → has_line_end (place_all shape spot xs) ≡ line_ends xs
placed-ends shape spot [] = refl
placed-ends shape spot (x ∷ xs) = ap (λ b. is_line_end x.look || b) (placed-ends shape (behind spot (placed_at shape spot x)) xs)

pub standing-ends : (shape : ShapeValues) (lead : List Placed) (start : Spot) (xs : List Element) → has_line_end lead ≡ false → has_line_end (lead ++ place_all shape start xs) ≡ line_ends xs
standing-ends shape lead start xs none = list_any-append (λ (p : Placed). is_line_end p.element.look) lead (place_all shape start xs) ∙ rw none (placed-ends shape start xs)

-- no line end stands where no row end does
pub on-line_ends : (es : List Element) → ends_some es ≡ false → line_ends es ≡ false
on-line_ends [] h = refl
on-line_ends (e ∷ es) h =
    let parts = or_parts (ends_row e.look) (ends_some es) h in
    rw (on-no_line_end e.look parts.0) (on-line_ends es parts.1)

pub on-lines : (es : List Element) → ends_some es ≡ false → lines_in es ≡ 0
on-lines [] h = refl
on-lines (e ∷ es) h =
    let parts = or_parts (ends_row e.look) (ends_some es) h in
    rw parts.0 (let k = on-lines es parts.1 in omega (arith, k))

pub ends-append : (xs ys : List Element) → ends_some (xs ++ ys) ≡ (ends_some xs || ends_some ys)
ends-append xs ys = list_any-append (λ (e : Element). ends_row e.look) xs ys

pub on-append : (xs ys : List Element) → ends_some xs ≡ false → ends_some ys ≡ false → ends_some (xs ++ ys) ≡ false
on-append xs ys h k = ends-append xs ys ∙ rw (h, k) refl

pub on-parts : (xs ys : List Element) → ends_some (xs ++ ys) ≡ false → (ends_some xs ≡ false) × (ends_some ys ≡ false)
on-parts xs ys h = or_parts (ends_some xs) (ends_some ys) (sym (ends-append xs ys) ∙ h)

-- behind an element that is no line end, the line goes on
pub ends_once-tail : (e : Element) (es : List Element) → is_line_end e.look ≡ false → IsTrue (ends_once (e ∷ es)) → IsTrue (ends_once es)
ends_once-tail e [] h end = cc
ends_once-tail e (f ∷ es) h end = rw h at end

first-on : (e f : Element) (fs : List Element) → IsTrue (ends_once (e ∷ f ∷ fs)) → is_line_end e.look ≡ false
first-on e f fs h = not-true (is_line_end e.look) (and_parts (not (is_line_end e.look)) (ends_once (f ∷ fs)) h).0

-- the line end is last: where elements follow, none of those before it is the line end
pub ends_once-parts : (xs : List Element) (f : Element) (fs : List Element) → IsTrue (ends_once (xs ++ f ∷ fs)) → (line_ends xs ≡ false) × IsTrue (ends_once (f ∷ fs))
ends_once-parts [] f fs h = (refl, h)
ends_once-parts (x ∷ []) f fs h =
    let on = first-on x f fs h in
    (rw on refl, ends_once-tail x (f ∷ fs) on h)
ends_once-parts (x ∷ y ∷ xs) f fs h =
    let on = first-on x y (xs ++ f ∷ fs) h in
    let rest = ends_once-parts (y ∷ xs) f fs (ends_once-tail x (y ∷ (xs ++ f ∷ fs)) on h) in
    (rw on rest.0, rest.1)

pub ends_once-all : (xs : List Element) → IsTrue (ends_once xs) → line_ends xs ≡ true
ends_once-all [] h = cc
ends_once-all (x ∷ []) h = let k : is_line_end x.look ≡ true = h in rw k refl
ends_once-all (x ∷ y ∷ xs) h =
    let on = first-on x y xs h in
    rw on (ends_once-all (y ∷ xs) (ends_once-tail x (y ∷ xs) on h))

-- elements that end no row stand before a line
before-one : (e : Element) (es : List Element) → is_line_end e.look ≡ false → IsTrue (ends_once es) → IsTrue (ends_once (e ∷ es))
before-one e [] h end = cc
before-one e (f ∷ fs) h end = rw h end

pub once-before : (xs es : List Element) → ends_some xs ≡ false → IsTrue (ends_once es) → IsTrue (ends_once (xs ++ es))
once-before [] es h end = end
once-before (x ∷ xs) es h end =
    let parts = or_parts (ends_row x.look) (ends_some xs) h in
    before-one x (xs ++ es) (on-no_line_end x.look parts.0) (once-before xs es parts.1 end)
