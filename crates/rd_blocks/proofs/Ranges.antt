-- The ranges of the items of a line are those of its block's items, in another order.
use Rattle.std.proofs.Common.{◌≡◌, ℕ, ◌+◌, ◌<◌, ◌≤◌, nat_lt, nat_eq, Bool, true, false, cond, not, ◌&&◌, List, [], ◌∷◌, ◌++◌, length, map, All, inl, inr, Option, None, Some, refl, ap, sym, ◌∙◌, subst, arith}
use Rattle.std.specs.Prelude.{if◌then◌else◌, slice_get, count_by}
use Rattle.std.specs.List.{flat_map, AllByRecursion}
use Rattle.std.proofs.lemmas.Bool.Decides.{nat_tests}
use Rattle.std.proofs.lemmas.Bool.{and_parts, le-leb, lt-ltb, not-true}
use Rattle.std.proofs.lemmas.List.Elements.{All-cons, All-nil, All-tail}
use Rattle.rd_base.specs.declared.element.Element.{Element}
use Rattle.rd_base.specs.declared.element.Origin.{Origin}
use Rattle.rd_items.specs.Pieces.{Scene}
use Rattle.rd_items.specs.Items.{kind_gives}
use Rattle.rd_items.specs.Covers.{Tile, CoverWhereTheyGive}
use Rattle.rd_items.specs.declared.item.Item.{Item}
use Rattle.rd_levels.proofs.Turns.{total_in, each-turn, each-item}
use Rattle.rd_levels.specs.declared.turn.Turn.{Turn}
use Rattle.rd_matrix.specs.Held.{in_range, are_inside}
use Rattle.rd_order.proofs.Once.{is_place, once-at-most}
use Rattle.rd_rows.specs.Laws.{ranges_of}
use Rattle.rd_rows.specs.Placing.{is_item}
use Rattle.rd_stack.specs.Lines.{origin_of, item_class, item_code, item_turns, line_of_items, put_kind, put_turn, put_item}
use Rattle.rd_stack.specs.Shown.{kind_elements}
use Rattle.rd_stack.proofs.EachElement.{item-each, line-each}
use Rattle.rd_base.proofs.Lists.{all-at, count-cons, follow-once}
use Rattle.rd_base.specs.Lists.{total}
use Rattle.rd_blocks.proofs.Gives.{ItemsGive}

abbrev pub range_of_item : Item → ℕ × ℕ
range_of_item x = (x.from, x.to)

same-item : (k : ℕ) → is_item (Some k) k ≡ true
same-item k = grind (arith, nat_tests)

-- the elements of one item, with those of others behind

abbrev AreOf : Origin → List Element → Type 0
AreOf origin es = AllByRecursion (λ (e : Element). e.origin ≡ origin) es

-- what holds of whatever has an item's origin holds of each of its elements
pub item-of : (P : Element → Type 0) (s : Scene) (base : ℕ) (x : Item) (odd : Bool) (origin : Origin) → ((e : Element) → e.origin ≡ origin → P e) → AllByRecursion P (put_kind kind_elements s base x.kind x.overlay odd x.face origin)
item-of P s base x odd origin own =
    item-each s base origin (λ f. Unit {0}) P (λ n text found i under any. tt) (λ extent l f nested any. own _ refl) x.kind x.overlay odd x.face (λ ends. own _ refl) tt

ranges-behind : (origin : Origin) (es rest : List Element) → AreOf origin es → ranges_of (Some origin.item) (es ++ rest) ≡ ranges_of (Some origin.item) rest
ranges-behind origin [] rest own = refl
ranges-behind origin (e ∷ es) rest own =
    let here : e.origin ≡ origin = own.0 in
    rw here (rw (same-item origin.item) (ranges-behind origin es rest own.1))

ranges-first : (before : Option ℕ) (origin : Origin) (e : Element) (es rest : List Element) → is_item before origin.item ≡ false → AreOf origin (e ∷ es)
    → ranges_of before ((e ∷ es) ++ rest) ≡ (origin.from, origin.to) ∷ ranges_of (Some origin.item) rest
ranges-first before origin e es rest other own =
    let here : e.origin ≡ origin = own.0 in
    rw here (rw other (ap (λ (rs : List (ℕ × ℕ)). (origin.from, origin.to) ∷ rs) (ranges-behind origin es rest own.1)))

-- counted by what each turn gives

abbrev pub hit_by : (ℕ × ℕ → Bool) → Option Item → ℕ
hit_by q None = 0
hit_by q (Some x) = cond (q (range_of_item x)) 1 0

abbrev pub hit : (ℕ × ℕ → Bool) → List Item → ℕ → ℕ
hit q items i = hit_by q (slice_get items i)

-- no item behind has the place of the one before
abbrev IsBehind : Option ℕ → List Turn → Type 0
IsBehind None ts = Unit {0}
IsBehind (Some k) ts = total_in (is_place k) ts ≡ 0

abbrev IsOnce : List Turn → Type 0
IsOnce ts = (k : ℕ) → total_in (is_place k) ts ≤ 1

place-self : (k : ℕ) → is_place k k ≡ 1
place-self k = let b : nat_eq k k ≡ true = grind (arith, nat_tests) in rw b refl

once-behind : (t : Turn) (ts : List Turn) → IsOnce (t ∷ ts) → total_in (is_place t.index) ts ≡ 0
once-behind t ts once = let all = once t.index in let self = place-self t.index in omega (arith, all, self)

once-rest : (t : Turn) (ts : List Turn) → IsOnce (t ∷ ts) → IsOnce ts
once-rest t ts once = λ k. let all = once k in omega (arith, all)

other-by : (b : Bool) (k i rest : ℕ) → nat_eq k i ≡ b → cond b 1 0 + rest ≡ 0 → nat_eq k i ≡ false
other-by true k i rest h none = absurd (omega (arith, none))
other-by false k i rest h none = h

other-item : (before : Option ℕ) (t : Turn) (ts : List Turn) → IsBehind before (t ∷ ts) → is_item before t.index ≡ false
other-item None t ts behind = refl
other-item (Some k) t ts behind = other-by (nat_eq k t.index) k t.index (total_in (is_place k) ts) refl behind

behind-rest : (before : Option ℕ) (t : Turn) (ts : List Turn) → IsBehind before (t ∷ ts) → IsBehind before ts
behind-rest None t ts behind = tt
behind-rest (Some k) t ts behind = omega (arith, behind)

module _ (s : Scene) (base : ℕ) (q : ℕ × ℕ → Bool) where
  -- an item that this tests has an element
  abbrev pub HasElements : Item → Type 0
  HasElements x = (odd : Bool) (origin : Origin) → q (range_of_item x) ≡ true → 1 ≤ length (put_kind kind_elements s base x.kind x.overlay odd x.face origin)

  none-hit : (b : Bool) (n : ℕ) → (b ≡ true → 1 ≤ n) → n ≡ 0 → cond {A = ℕ} b 1 0 ≡ 0
  none-hit true n h none = let one = h refl in absurd (omega (arith, one, none))
  none-hit false n h none = refl

  plus-none : (a n : ℕ) → a ≡ 0 → n ≡ a + n
  plus-none a n h = omega (arith, h)

  counted-by : (before : Option ℕ) (t : Turn) (x : Item) (es rest : List Element) (n : ℕ) → is_item before t.index ≡ false → AreOf (origin_of t.index x) es → (q (range_of_item x) ≡ true → 1 ≤ length es)
      → (es ≡ [] → count_by q (ranges_of before rest) ≡ n) → count_by q (ranges_of (Some t.index) rest) ≡ n
      → count_by q (ranges_of before (es ++ rest)) ≡ cond (q (range_of_item x)) 1 0 + n
  counted-by before t x [] rest n other own some same later =
      same refl ∙ plus-none (cond (q (range_of_item x)) 1 0) n (none-hit (q (range_of_item x)) 0 some refl)
  counted-by before t x (e ∷ es) rest n other own some same later =
      ap (count_by q) (ranges-first before (origin_of t.index x) e es rest other own)
      ∙ count-cons q (range_of_item x) (ranges_of (Some t.index) rest)
      ∙ ap (λ m. cond (q (range_of_item x)) 1 0 + m) later

  counted-turn : (before : Option ℕ) (t : Turn) (o : Option Item) (rest : List Element) (n : ℕ) → is_item before t.index ≡ false → ((x : Item) → o ≡ Some x → HasElements x)
      → count_by q (ranges_of before rest) ≡ n → count_by q (ranges_of (Some t.index) rest) ≡ n
      → count_by q (ranges_of before (put_turn kind_elements s base t o ++ rest)) ≡ hit_by q o + n
  counted-turn before t None rest n other some same later = same ∙ plus-none 0 n refl
  counted-turn before t (Some x) rest n other some same later =
      counted-by before t x (put_kind kind_elements s base x.kind x.overlay t.odd x.face (origin_of t.index x)) rest n other
      (item-of (λ (e : Element). e.origin ≡ origin_of t.index x) s base x t.odd (origin_of t.index x) (λ e is. is))
      (λ h. some x refl t.odd (origin_of t.index x) h) (λ e. same) later

  counted : (items : List Item) (before : Option ℕ) (ts : List Turn) → ((i : ℕ) (x : Item) → slice_get items i ≡ Some x → HasElements x) → IsOnce ts → IsBehind before ts
      → count_by q (ranges_of before (flat_map (put_item kind_elements s base items) ts)) ≡ total_in (hit q items) ts
  counted items before [] some once behind = refl
  counted items before (t ∷ ts) some once behind =
      counted-turn before t (slice_get items t.index) (flat_map (put_item kind_elements s base items) ts) (total_in (hit q items) ts) (other-item before t ts behind)
      (λ x at. some t.index x at)
      (counted items before ts some (once-rest t ts once) (behind-rest before t ts behind))
      (counted items (Some t.index) ts some (once-rest t ts once) (once-behind t ts once))

-- counted by items

hits : (q : ℕ × ℕ → Bool) (items : List Item) → total (λ x. hit_by q (Some x)) items ≡ count_by (λ (x : Item). q (range_of_item x)) items
hits q [] = refl
hits q (x ∷ xs) = ap (λ n. cond (q (range_of_item x)) 1 0 + n) (hits q xs) ∙ sym (count-cons (λ (y : Item). q (range_of_item y)) x xs)

-- items that tile

tiled-once : (k since to : ℕ) (items : List Item) → Tile since to items → since ≤ k → k < to → count_by (λ (x : Item). in_range k (range_of_item x)) items ≡ 1
tiled-once k since to items tile low high =
    let once = (follow-once (λ (x : Item). x.from) (λ (x : Item). x.to) k since to items tile).1 in
    let here : in_range k (since, to) ≡ true = grind (arith, nat_tests) in
    once ∙ ap (λ (b : Bool). cond b 1 0) here

-- each range begins where it ends or before, and ends within the block
abbrev LiesWithin : ℕ → ℕ × ℕ → Type 0
LiesWithin size r = (r.0 ≤ r.1) × (r.1 ≤ size)

tile-order : (since to : ℕ) (items : List Item) → Tile since to items → All (λ (x : Item). x.from ≤ x.to) items
tile-order since to [] tile = All-nil (λ (x : Item). x.from ≤ x.to)
tile-order since to (x ∷ xs) (inl empty) = let same = empty.0 in All-cons (λ (x : Item). x.from ≤ x.to) x xs (omega (arith, same)) (tile-order since to xs empty.1)
tile-order since to (x ∷ xs) (inr next) = let start = next.0 in let some = next.1 in All-cons (λ (x : Item). x.from ≤ x.to) x xs (omega (arith, start, some)) (tile-order x.to to xs next.2)

module _ (size : ℕ) where
  abbrev LiesIn : Element → Type 0
  LiesIn e = LiesWithin size (e.origin.from, e.origin.to)

  range-in : (b : Bool) (r : ℕ × ℕ) (rs : List (ℕ × ℕ)) → LiesWithin size r → are_inside size rs ≡ true → are_inside size ((if b then [] else r ∷ []) ++ rs) ≡ true
  range-in true r rs h all = all
  range-in false r rs h all = rw (le-leb r.0 r.1 h.0, le-leb r.1 size h.1) all

  ranges-in : (before : Option ℕ) (es : List Element) → All LiesIn es → are_inside size (ranges_of before es) ≡ true
  ranges-in before [] all = refl
  ranges-in before (e ∷ es) all =
      range-in (is_item before e.origin.item) (e.origin.from, e.origin.to) (ranges_of (Some e.origin.item) es) (all 0 e (omega arith)) (ranges-in (Some e.origin.item) es (All-tail LiesIn e es all))

  turns-in : (s : Scene) (base : ℕ) (items : List Item) (ts : List Turn) → All (λ (x : Item). LiesWithin size (range_of_item x)) items → All LiesIn (flat_map (put_item kind_elements s base items) ts)
  turns-in s base =
      line-each s base (λ (x : Item). LiesWithin size (range_of_item x)) LiesIn
      (λ t x h. item-of LiesIn s base x t.odd (origin_of t.index x) (λ e is. subst (λ (o : Origin). LiesWithin size (o.from, o.to)) (sym is) h))

-- what a range that holds an offset says of its item

holds-less : (k : ℕ) (r : ℕ × ℕ) → in_range k r ≡ true → r.0 < r.1
holds-less k r h = grind (arith, nat_tests)

pub item-has : ItemsGive → (s : Scene) (base k : ℕ) (x : Item) → nat_lt x.from x.to ≡ (not x.overlay && kind_gives s x.kind) → HasElements s base (in_range k) x
item-has law s base k x covers = λ odd origin held.
    let parts = and_parts (not x.overlay) (kind_gives s x.kind) (sym covers ∙ lt-ltb x.from x.to (holds-less k (range_of_item x) held)) in
    subst (λ (b : Bool). 1 ≤ length (put_kind kind_elements s base x.kind b odd x.face origin)) (sym (not-true x.overlay parts.0))
    (law s base x.kind odd x.face origin parts.1)

-- the items of a line: each offset is in the range of exactly one
pub line-once : ItemsGive → (s : Scene) (base size k : ℕ) (items : List Item) → Tile 0 size items → CoverWhereTheyGive s items → k < size
    → count_by (in_range k) (ranges_of None (line_of_items s base items)) ≡ 1
line-once law s base size k items tile give below =
    let ts = item_turns s base items in
    let classes = map item_class items in
    let codes = map item_code items in
    let each = each-turn s.brackets s.parts.settings.reorder base classes codes in
    let once : (i : ℕ) → total_in (is_place i) ts ≤ 1 = λ i. let all = each (is_place i) in let most = once-at-most i 0 (length classes) in omega (arith, all, most) in
    counted s base (in_range k) items None ts (λ i x at. item-has law s base k x (all-at (λ (y : Item). nat_lt y.from y.to ≡ (not y.overlay && kind_gives s y.kind)) items i x give at)) once tt
    ∙ each-item (hit_by (in_range k)) item_class s.brackets s.parts.settings.reorder base items codes
    ∙ hits (in_range k) items
    ∙ tiled-once k 0 size items tile (omega arith) below

pub line-within : (s : Scene) (base size : ℕ) (items : List Item) → Tile 0 size items → All (λ (x : Item). x.to ≤ size) items → are_inside size (ranges_of None (line_of_items s base items)) ≡ true
line-within s base size items tile ends =
    let order = tile-order 0 size items tile in
    ranges-in size None (line_of_items s base items) (turns-in size s base items (item_turns s base items) (λ k d inside. (order k d inside, ends k d inside)))
