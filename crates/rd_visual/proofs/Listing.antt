-- Lists that are given element by element.
use Rattle.std.proofs.Common.{◌≡◌, ℕ, ◌+◌, ◌-◌, ◌<◌, ◌≤◌, Bool, true, false, List, [], ◌∷◌, ◌++◌, length, drop, Option, None, Some, refl, sym, ap, ◌∙◌, append_assoc, arith}
use Rattle.std.specs.Prelude.{slice_get, reverse, if◌then◌else◌}
use Rattle.std.proofs.lemmas.List.{get_or-reverse, length-drop, length-reverse}
use Rattle.std.proofs.lemmas.Option.{get_or_from_slice_get, same_Some}
use Rattle.rd_base.proofs.Lists.{drop-at, element-at}
use Rattle.rd_props.specs.Seen.{Seen}
use Rattle.rd_items.specs.Items.{items_of}
use Rattle.rd_items.specs.Pieces.{Scene}
use Rattle.rd_items.specs.declared.item.Item.{Item}
use Rattle.rd_levels.specs.declared.turn.Turn.{Turn}
use Rattle.rd_stack.specs.Lines.{item_turns}
use Rattle.rd_visual.specs.Motion.{behind, first, holds, range_by, ranges_in_turn, ranges_of}
use Rattle.rd_visual.specs.Ways.{along}
use Rattle.rd_visual.specs.declared.range.Range.{Range}
use Rattle.rd_visual.specs.declared.way.Way.{Way}
use Rattle.rd_visual.specs.declared.way.Way.TheVariants.{Forward, Backward}
use Rattle.rd_visual.proofs.Neighbours.{behind-skip}

-- the range of one more item
pub turns-next : (start : ℕ) (items : List Item) (left : List Turn) (t : Turn) (ts : List Turn) (x : Item) (out more whole : List Range) → left ≡ t ∷ ts → slice_get items t.index ≡ Some x
    → more ≡ out ++ range_by start (Some x) → out ++ ranges_in_turn start items left ≡ whole → more ++ ranges_in_turn start items ts ≡ whole
turns-next start items left t ts x out more whole turn item given all =
    let rest = ranges_in_turn start items ts in
    ap (λ l. l ++ rest) given ∙ append_assoc out (range_by start (Some x)) rest
    ∙ ap (λ (o : Option Item). out ++ (range_by start o ++ rest)) (sym item)
    ∙ sym (ap (λ l. out ++ ranges_in_turn start items l) turn) ∙ all

pub ranges-same : (scene : Scene) (start base : ℕ) (es : List Seen) (items : List Item) (ts : List Turn) → items ≡ items_of scene es → ts ≡ item_turns scene base items
    → ranges_in_turn start items ts ≡ ranges_of scene start base es
ranges-same scene start base es items ts e d =
    ap (ranges_in_turn start items) d ∙ ap (λ xs. ranges_in_turn start xs (item_turns scene base xs)) e

-- ranges along a way

pub along-length : (way : Way) (rs : List Range) → length (along way rs) ≡ length rs
along-length Forward rs = refl
along-length Backward rs = length-reverse rs

pub reverse-at : (rs : List Range) (k : ℕ) (r : Range) → k < length rs → slice_get rs (length rs - 1 - k) ≡ Some r → slice_get (reverse rs) k ≡ Some r
reverse-at rs k r low there =
    let other = element-at (reverse rs) k (omega (arith, low, length-reverse rs)) in
    other.1 ∙ ap Some (sym (get_or_from_slice_get (reverse rs) k other.0 r other.1) ∙ get_or-reverse rs k r low ∙ get_or_from_slice_get rs (length rs - 1 - k) r r there)

pub first-at : (rs : List Range) (r : Range) → slice_get rs 0 ≡ Some r → Some r.from ≡ first rs
first-at [] r there = absurd cc
first-at (x ∷ rs) r there = ap (λ (y : Range). Some y.from) (sym (same_Some x r there))

-- what is found behind a range at a place
module _ (pos place : ℕ) (rs : List Range) (r : Range) (found : Option ℕ) (some : 1 ≤ place) (there : slice_get rs (place - 1) ≡ Some r) (all : behind pos (drop (place - 1) rs) ≡ found) where
  rest : drop (place - 1) rs ≡ r ∷ drop place rs
  rest = let on : place - 1 + 1 ≡ place = omega (arith, some) in drop-at rs (place - 1) r there ∙ ap (λ (n : ℕ). r ∷ drop n rs) on

  pub behind-here : (next : Range) → slice_get rs place ≡ Some next → holds pos r ≡ true → Some next.from ≡ found
  behind-here next at here =
      sym (ap (λ (t : Bool). if t then Some next.from else behind pos (next ∷ drop (place + 1) rs)) here)
      ∙ sym (ap (behind pos) (rest ∙ ap (λ (xs : List Range). r ∷ xs) (drop-at rs place next at))) ∙ all

  pub behind-on : holds pos r ≡ false → behind pos (drop (place + 1 - 1) rs) ≡ found
  behind-on out =
      let on : place + 1 - 1 ≡ place = omega arith in
      ap (λ (n : ℕ). behind pos (drop n rs)) on ∙ sym (behind-skip pos r (drop place rs) out) ∙ sym (ap (behind pos) rest) ∙ all

short-behind : (pos : ℕ) (rs : List Range) → length rs ≤ 1 → behind pos rs ≡ None
short-behind pos [] few = refl
short-behind pos (r ∷ []) few = refl
short-behind pos (r ∷ next ∷ rs) few = absurd (omega (arith, few))

pub behind-past : (pos place : ℕ) (rs : List Range) (found : Option ℕ) → length rs ≤ place → behind pos (drop (place - 1) rs) ≡ found → None ≡ found
behind-past pos place rs found past all =
    let size = length-drop (place - 1) rs in
    sym (short-behind pos (drop (place - 1) rs) (omega (arith, size, past))) ∙ all
