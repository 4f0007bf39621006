-- The ranges of items in order of position, and in visual order.
use Rattle.std.proofs.Common.{◌≡◌, inl, inr, ℕ, ◌+◌, ◌<◌, nat_lt, Bool, true, false, if◌then◌else◌, List, [], ◌∷◌, ◌++◌, map, Option, None, Some, refl, sym, ap, ◌∙◌, arith, true≢false}
use Rattle.std.specs.Prelude.{count_by, slice_get}
use Rattle.std.specs.List.{AllByRecursion}
use Rattle.std.proofs.lemmas.Bool.Decides.{nat_tests}
use Rattle.rd_base.proofs.Lists.{count-append}
use Rattle.rd_base.specs.Lists.{total}
use Rattle.rd_props.specs.Seen.{Seen}
use Rattle.rd_items.specs.Covers.{Tile}
use Rattle.rd_items.specs.Items.{items_of}
use Rattle.rd_items.specs.Pieces.{Scene}
use Rattle.rd_items.specs.declared.item.Item.{Item}
use Rattle.rd_levels.specs.declared.turn.Turn.{Turn}
use Rattle.rd_levels.proofs.Turns.{total_in, each-item}
use Rattle.rd_stack.specs.Lines.{item_class, item_code, item_turns}
use Rattle.rd_visual.specs.Motion.{range_by, ranges_in_turn, ranges_of}
use Rattle.rd_visual.specs.Order.{StandBetween, range_of, ranges_in_order}
use Rattle.rd_visual.specs.declared.range.Range.{Range}

-- what holds of each range of an item that covers a position holds of the ranges of an item
pub range-has : (P : Range → Type 0) (start : ℕ) (o : Option Item) → ((x : Item) → o ≡ Some x → x.from < x.to → P (range_of start x)) → AllByRecursion P (range_by start o)
range-has P start None has = tt
range-has P start (Some x) has = by-covers (nat_lt x.from x.to) refl where
  by-covers : (covers : Bool) → nat_lt x.from x.to ≡ covers → AllByRecursion P (if covers then range_of start x ∷ [] else [])
  by-covers true e = (has x refl (grind (arith, nat_tests)), tt)
  by-covers false e = tt

-- ranges in order stand one behind the other

stand-by : (b : Bool) (start since to : ℕ) (x : Item) (rest : List Range) → nat_lt x.from x.to ≡ b → x.from ≡ since → since < x.to → StandBetween (start + x.to) to rest
    → StandBetween (start + since) to ((if b then range_of start x ∷ [] else []) ++ rest)
stand-by true start since to x rest e at some h = (ap (λ n. start + n) at, omega (arith, at, some), h)
stand-by false start since to x rest e at some h = absurd (let less : nat_lt x.from x.to ≡ true = grind (arith, nat_tests) in true≢false (sym less ∙ e))

skip-by : (b : Bool) (start since to : ℕ) (x : Item) (rest : List Range) → nat_lt x.from x.to ≡ b → x.from ≡ x.to → StandBetween (start + since) to rest
    → StandBetween (start + since) to ((if b then range_of start x ∷ [] else []) ++ rest)
skip-by true start since to x rest e empty h = absurd (let less : nat_lt x.from x.to ≡ false = grind (arith, nat_tests) in true≢false (sym e ∙ less))
skip-by false start since to x rest e empty h = h

pub order-stands : (start since to : ℕ) (items : List Item) → Tile since to items → StandBetween (start + since) (start + to) (ranges_in_order start items)
order-stands start since to [] tile = ap (λ n. start + n) tile
order-stands start since to (x ∷ xs) (inl empty) = skip-by (nat_lt x.from x.to) start since (start + to) x (ranges_in_order start xs) refl empty.0 (order-stands start since to xs empty.1)
order-stands start since to (x ∷ xs) (inr next) =
    stand-by (nat_lt x.from x.to) start since (start + to) x (ranges_in_order start xs) refl next.0 next.1 (order-stands start x.to to xs next.2)

-- visual order changes the order alone

abbrev counted : (Range → Bool) → ℕ → Option Item → ℕ
counted p start o = count_by p (range_by start o)

in-turns : (p : Range → Bool) (start : ℕ) (items : List Item) (ts : List Turn) → count_by p (ranges_in_turn start items ts) ≡ total_in (λ i. counted p start (slice_get items i)) ts
in-turns p start items [] = refl
in-turns p start items (t ∷ ts) =
    count-append p (range_by start (slice_get items t.index)) (ranges_in_turn start items ts)
    ∙ ap (λ n. counted p start (slice_get items t.index) + n) (in-turns p start items ts)

in-order : (p : Range → Bool) (start : ℕ) (items : List Item) → total (λ x. counted p start (Some x)) items ≡ count_by p (ranges_in_order start items)
in-order p start [] = refl
in-order p start (x ∷ xs) = ap (λ n. counted p start (Some x) + n) (in-order p start xs) ∙ sym (count-append p (range_by start (Some x)) (ranges_in_order start xs))

pub turns-permute : (p : Range → Bool) (scene : Scene) (start base : ℕ) (es : List Seen)
    → count_by p (ranges_of scene start base es) ≡ count_by p (ranges_in_order start (items_of scene es))
turns-permute p scene start base es =
    let items = items_of scene es in
    in-turns p start items (item_turns scene base items)
    ∙ each-item (counted p start) item_class scene.brackets scene.parts.settings.reorder base items (map item_code items)
    ∙ in-order p start items
