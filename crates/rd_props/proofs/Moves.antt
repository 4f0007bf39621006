-- What positions see of overlays that moved with an edit.
use Rattle.std.proofs.Common.{◌≡◌, ◌⊎◌, inl, inr, ℕ, ◌+◌, ◌-◌, ◌<◌, ◌≤◌, min, Bool, true, false, ◌&&◌, ◌||◌, if◌then◌else◌, List, map, Option, None, Some, refl, sym, ap, subst, ◌∙◌, arith}
use Rattle.std.specs.Prelude.{nat_lt, nat_le, ◌==◌}
use Rattle.std.specs.Option.{option_map}
use Rattle.std.proofs.lemmas.Bool.Decides.{nat_tests}
use Rattle.rd_overlays.specs.declared.overlay.Overlay.{Overlay}
use Rattle.rd_overlays.proofs.Slots.{overlay_at-map}
use Rattle.rd_overlays.specs.Overlays.{overlay_at, covers, starts, ends, slot_grown, slot_shrunk, after_insertion, grown, after_deletion, shrunk}
use Rattle.rd_props.specs.Edits.{AreOrdered}
use Rattle.rd_props.specs.Strings.{is_empty}
use Rattle.rd_props.proofs.Alike.{Mark, mark_of, picked, AreAlike, SeeSame}

-- an edge and what became of it stand alike to two positions
record StandsAlike (x y edge new : ℕ) : Type 0 where
  at : (edge == x) ≡ (new == y)
  below : nat_le edge x ≡ nat_le new y
  above : nat_lt x edge ≡ nat_lt y new

-- two positions see the same of an overlay and of what it became
pub record SeesSame (x y : ℕ) (o p : Overlay) : Type 0 where
  cover : covers x o ≡ covers y p
  start : starts x o ≡ starts y p
  end : ends x o ≡ ends y p
  covered : covers x o ≡ true → is_empty o ≡ is_empty p
  started : starts x o ≡ true → is_empty o ≡ is_empty p
  ended : ends x o ≡ true → is_empty o ≡ is_empty p

covered-by : (x from to : ℕ) → (nat_le from x && nat_lt x to) ≡ true → (from == to) ≡ false
covered-by x from to h = grind (arith, nat_tests)

edge-by : (x y from to new_from new_to : ℕ) → (from == x) ≡ (new_from == y) → (to == x) ≡ (new_to == y) → ((from == x) ≡ true) ⊎ ((to == x) ≡ true) → (from == to) ≡ (new_from == new_to)
edge-by x y from to new_from new_to first last (inl h) = grind (arith, nat_tests)
edge-by x y from to new_from new_to first last (inr h) = grind (arith, nat_tests)

edges-see : (x y : ℕ) (o p : Overlay) → StandsAlike x y o.from p.from → StandsAlike x y o.to p.to → SeesSame x y o p
edges-see x y o p first last =
    let below = first.below in
    let above = last.above in
    let same : covers x o ≡ covers y p = rw (below, above) in
    record {
      cover = same;
      start = first.at;
      end = last.at;
      covered = λ h. covered-by x o.from o.to h ∙ sym (covered-by y p.from p.to (sym same ∙ h));
      started = λ h. edge-by x y o.from o.to p.from p.to first.at last.at (inl h);
      ended = λ h. edge-by x y o.from o.to p.from p.to first.at last.at (inr h);
    }

mark-same : (o p : Overlay) → is_empty o ≡ is_empty p → p.priority ≡ o.priority → p.values ≡ o.values → mark_of o ≡ mark_of p
mark-same o p empty priority values = λ i. record { priority = sym priority i; values = sym values i; empty = empty i }

picked-by : (o p : Overlay) (t u : Bool) → t ≡ u → (t ≡ true → is_empty o ≡ is_empty p) → p.priority ≡ o.priority → p.values ≡ o.values
    → (if t then Some (mark_of o) else None) ≡ (if u then Some (mark_of p) else None)
picked-by o p true true same empty priority values = ap (λ (m : Mark). Some m) (mark-same o p (empty refl) priority values)
picked-by o p true false same empty priority values = absurd (cc)
picked-by o p false true same empty priority values = absurd (cc)
picked-by o p false false same empty priority values = refl

-- a change of each overlay that keeps its priority and values
pub record KeepsValues (change : Overlay → Overlay) : Type 0 where
  pub priority : (o : Overlay) → (change o).priority ≡ o.priority
  pub values : (o : Overlay) → (change o).values ≡ o.values

module _ (change : Overlay → Overlay) (keeps : KeepsValues change) (slots : List (Option Overlay)) where
  slot-alike : (f g : Overlay → Bool) (slot : Option Overlay) → ((o : Overlay) → slot ≡ Some o → (f o ≡ g (change o)) × (f o ≡ true → is_empty o ≡ is_empty (change o)))
      → picked f slot ≡ picked g (option_map change slot)
  slot-alike f g None same = refl
  slot-alike f g (Some o) same =
      let both = same o refl in
      picked-by o (change o) (f o) (g (change o)) both.0 both.1 (keeps.priority o) (keeps.values o)

  all-alike : (f g : Overlay → Bool) → ((number : ℕ) (o : Overlay) → overlay_at slots number ≡ Some o → (f o ≡ g (change o)) × (f o ≡ true → is_empty o ≡ is_empty (change o)))
      → AreAlike f g slots (map (option_map change) slots)
  all-alike f g same number =
      slot-alike f g (overlay_at slots number) (same number) ∙ sym (ap (picked g) (overlay_at-map (option_map change) slots number refl))

  pub changed-seen : (x y : ℕ) → ((number : ℕ) (o : Overlay) → overlay_at slots number ≡ Some o → SeesSame x y o (change o)) → SeeSame x y slots (map (option_map change) slots)
  changed-seen x y same = record {
    covers = all-alike (covers x) (covers y) (λ n o h. let s = same n o h in (s.cover, s.covered));
    starts = all-alike (starts x) (starts y) (λ n o h. let s = same n o h in (s.start, s.started));
    ends = all-alike (ends x) (ends y) (λ n o h. let s = same n o h in (s.end, s.ended));
  }

-- ---- insertions

-- where an edge stands after an insertion
record IsAfter (place n edge new : ℕ) : Type 0 where
  behind : place < edge → new ≡ edge + n
  before : edge < place → new ≡ edge
  least : edge ≤ new
  most : new ≤ edge + n

after-by : (place n edge : ℕ) (moves : Bool) (t : Bool) → t ≡ (nat_lt place edge || ((edge == place) && moves)) → IsAfter place n edge (if t then edge + n else edge)
after-by place n edge moves true e = record { behind = λ h. refl; before = λ h. grind (arith, nat_tests); least = omega arith; most = omega arith }
after-by place n edge moves false e = record { behind = λ h. grind (arith, nat_tests); before = λ h. refl; least = omega arith; most = omega arith }

after-alike : (place n x edge new : ℕ) → place < x → IsAfter place n edge new → StandsAlike x (x + n) edge new
after-alike place n x edge new less after =
    let behind = after.behind in
    let most = after.most in
    record { at = grind (arith, nat_tests); below = grind (arith, nat_tests); above = grind (arith, nat_tests) }

before-alike : (place n x edge new : ℕ) → x < place → IsAfter place n edge new → StandsAlike x x edge new
before-alike place n x edge new less after =
    let before = after.before in
    let least = after.least in
    record { at = grind (arith, nat_tests); below = grind (arith, nat_tests); above = grind (arith, nat_tests) }

-- a start that would pass its end stands where one may stand too
start-after : (place n from to a b : ℕ) → from ≤ to → IsAfter place n from a → IsAfter place n to b → IsAfter place n from (min a b)
start-after place n from to a b ordered first last =
    let moved = first.behind in
    let stayed = first.before in
    let least = first.least in
    let most = first.most in
    let end_moved = last.behind in
    let end_least = last.least in
    record { behind = λ h. omega arith; before = λ h. omega arith; least = omega arith; most = omega arith }

grown-from : (place n : ℕ) (o : Overlay) → o.from ≤ o.to → IsAfter place n o.from (grown place n o).from
grown-from place n o ordered =
    start-after place n o.from o.to (after_insertion place n o.front o.from) (after_insertion place n o.rear o.to) ordered
    (after-by place n o.from o.front (nat_lt place o.from || ((o.from == place) && o.front)) refl)
    (after-by place n o.to o.rear (nat_lt place o.to || ((o.to == place) && o.rear)) refl)

grown-to : (place n : ℕ) (o : Overlay) → IsAfter place n o.to (grown place n o).to
grown-to place n o = after-by place n o.to o.rear (nat_lt place o.to || ((o.to == place) && o.rear)) refl

grown-keeps : (place n : ℕ) → KeepsValues (grown place n)
grown-keeps place n = record { priority = λ o. refl; values = λ o. refl }

pub grown-behind : (place n x y : ℕ) (slots : List (Option Overlay)) → AreOrdered slots → place < x → x + n ≡ y → SeeSame x y slots (map (slot_grown place n) slots)
grown-behind place n x y slots ordered less is =
    let P : ℕ → Type 0 = λ z. SeeSame x z slots (map (slot_grown place n) slots) in
    subst P is (changed-seen (grown place n) (grown-keeps place n) slots x (x + n) (λ k o h.
    edges-see x (x + n) o (grown place n o)
    (after-alike place n x o.from (grown place n o).from less (grown-from place n o (ordered k o h)))
    (after-alike place n x o.to (grown place n o).to less (grown-to place n o))))

pub grown-before : (place n x : ℕ) (slots : List (Option Overlay)) → AreOrdered slots → x < place → SeeSame x x slots (map (slot_grown place n) slots)
grown-before place n x slots ordered less =
    changed-seen (grown place n) (grown-keeps place n) slots x x (λ k o h.
    edges-see x x o (grown place n o)
    (before-alike place n x o.from (grown place n o).from less (grown-from place n o (ordered k o h)))
    (before-alike place n x o.to (grown place n o).to less (grown-to place n o)))

-- ---- deletions

-- an edge and where a deletion leaves it stand alike to a position behind the deletion, and to one before it
back-alike : (from to x y edge : ℕ) → from ≤ to → from < y → y + (to - from) ≡ x → StandsAlike x y edge (after_deletion from to edge)
back-alike from to x y edge ordered less is = record { at = grind (arith, nat_tests); below = grind (arith, nat_tests); above = grind (arith, nat_tests) }

kept-alike : (from to x edge : ℕ) → from ≤ to → x < from → StandsAlike x x edge (after_deletion from to edge)
kept-alike from to x edge ordered less = record { at = grind (arith, nat_tests); below = grind (arith, nat_tests); above = grind (arith, nat_tests) }

shrunk-keeps : (from to : ℕ) → KeepsValues (shrunk from to)
shrunk-keeps from to = record { priority = λ o. refl; values = λ o. refl }

pub shrunk-behind : (from to x y : ℕ) (slots : List (Option Overlay)) → from ≤ to → from < y → y + (to - from) ≡ x → SeeSame x y slots (map (slot_shrunk from to) slots)
shrunk-behind from to x y slots ordered less is =
    changed-seen (shrunk from to) (shrunk-keeps from to) slots x y (λ k o h.
    edges-see x y o (shrunk from to o)
    (back-alike from to x y o.from ordered less is)
    (back-alike from to x y o.to ordered less is))

pub shrunk-before : (from to x : ℕ) (slots : List (Option Overlay)) → from ≤ to → x < from → SeeSame x x slots (map (slot_shrunk from to) slots)
shrunk-before from to x slots ordered less =
    changed-seen (shrunk from to) (shrunk-keeps from to) slots x x (λ k o h.
    edges-see x x o (shrunk from to o)
    (kept-alike from to x o.from ordered less)
    (kept-alike from to x o.to ordered less))
