-- The line of a block ends with an item of its own, which covers the block's last position: its ender.
use Rattle.std.proofs.Common.{◌≡◌, ℕ, ◌-◌, ◌<◌, nat_eq, inl, inr, true, false, List, [], ◌∷◌, ◌++◌, All, Option, None, Some, refl, sym, ap, ◌∙◌, subst, arith}
use Rattle.std.specs.Prelude.{slice_get}
use Rattle.std.specs.List.{AllByRecursion, flat_map}
use Rattle.std.proofs.lemmas.Bool.Decides.{nat_tests}
use Rattle.std.proofs.lemmas.List.Elements.{All-head, All-tail}
use Rattle.rd_base.proofs.Lists.{each-append}
use Rattle.rd_base.specs.declared.element.Element.{Element}
use Rattle.rd_base.specs.declared.element.Origin.{Origin}
use Rattle.rd_items.proofs.Ended.{ended}
use Rattle.rd_items.specs.Covers.{CoverBlock, Tile}
use Rattle.rd_items.specs.Pieces.{Scene}
use Rattle.rd_items.specs.declared.item.Item.{Item}
use Rattle.rd_levels.specs.declared.turn.Turn.{Turn}
use Rattle.rd_matrix.specs.Held.{in_range}
use Rattle.rd_rows.specs.Placing.{is_item}
use Rattle.rd_stack.proofs.LineEnds.{LastLaw, ender-last, line-parts}
use Rattle.rd_stack.specs.Lines.{line_of_items, origin_of, put_item, put_turn}
use Rattle.rd_stack.specs.Shown.{kind_elements}
use Rattle.rd_blocks.proofs.LastRows.{ends_with_item}
use Rattle.rd_blocks.proofs.Ranges.{item-of}

-- an element of an item with a lower number
abbrev IsLower : ℕ → Element → Type 0
IsLower n e = e.origin.item < n

abbrev IsLowerBefore : ℕ → Option ℕ → Type 0
IsLowerBefore n None = Unit {0}
IsLowerBefore n (Some k) = k < n

other-item : (n : ℕ) (before : Option ℕ) → IsLowerBefore n before → is_item before n ≡ false
other-item n None low = refl
other-item n (Some k) low = let differ : nat_eq k n ≡ false = grind (arith, nat_tests) in differ

-- elements of lower items, and one of an item that covers an offset
ends-own : (offset : ℕ) (before : Option ℕ) (es : List Element) (e : Element) → IsLowerBefore e.origin.item before → AllByRecursion (IsLower e.origin.item) es
    → in_range offset (e.origin.from, e.origin.to) ≡ true → ends_with_item offset before (es ++ e ∷ []) ≡ true
ends-own offset before [] e low lower has = rw (other-item e.origin.item before low, has) refl
ends-own offset before (x ∷ []) e low lower has = ends-own offset (Some x.origin.item) [] e lower.0 tt has
ends-own offset before (x ∷ y ∷ es) e low lower has = ends-own offset (Some x.origin.item) (y ∷ es) e lower.0 lower.1 has

-- the last of items that tile ends where they do
last-ends : (since to : ℕ) (others : List Item) (x : Item) → Tile since to (others ++ x ∷ []) → x.from < x.to → x.to ≡ to
last-ends since to [] x (inl empty) some = absurd (omega (arith, empty.0, some))
last-ends since to [] x (inr next) some = next.2
last-ends since to (y ∷ ys) x (inl empty) some = last-ends since to ys x empty.1 some
last-ends since to (y ∷ ys) x (inr next) some = last-ends y.to to ys x next.2 some

module _ (s : Scene) (base : ℕ) where
  turn-lower : (n : ℕ) (t : Turn) (o : Option Item) → t.index < n → AllByRecursion (IsLower n) (put_turn kind_elements s base t o)
  turn-lower n t None low = tt
  turn-lower n t (Some x) low =
      item-of (IsLower n) s base x t.odd (origin_of t.index x) (λ e is. let same = ap (λ (o : Origin). o.item) is in omega (arith, same, low))

  turns-lower : (n : ℕ) (items : List Item) (ts : List Turn) → All (λ (t : Turn). t.index < n) ts → AllByRecursion (IsLower n) (flat_map (put_item kind_elements s base items) ts)
  turns-lower n items [] low = tt
  turns-lower n items (t ∷ ts) low =
      each-append (IsLower n) (put_item kind_elements s base items t) (flat_map (put_item kind_elements s base items) ts)
      (turn-lower n t (slice_get items t.index) (All-head (λ (u : Turn). u.index < n) t ts low)) (turns-lower n items ts (All-tail (λ (u : Turn). u.index < n) t ts low))

  pub line-ender : LastLaw → (size : ℕ) (items : List Item) → CoverBlock s 0 size items → ends_with_item (size - 1) None (line_of_items s base items) ≡ true
  line-ender law size items cover =
      let e = ended items cover.end in
      let comes = ender-last law s base items e in
      let some = e.is.some in
      let to = last-ends 0 size e.others e.ender (subst (Tile 0 size) e.whole cover.tile) some in
      let has : in_range (size - 1) (e.ender.from, e.ender.to) ≡ true = grind (arith, nat_tests, to, some) in
      let lower = turns-lower comes.last.index (e.others ++ e.ender ∷ []) comes.front (subst (λ (k : ℕ). All (λ (t : Turn). t.index < k) comes.front) (sym comes.index) comes.others) in
      ap (ends_with_item (size - 1) None) (line-parts s base items e comes) ∙ ends-own (size - 1) None _ _ tt lower has
