-- What changes of the windows keep.
use Rattle.std.proofs.Common.{◌≡◌, ℕ, ◌+◌, Bool, true, false, if◌then◌else◌, ◌==◌, ◌||◌, Option, None, Some, ◌⊎◌, inl, inr, refl, sym, ap, ap₂, ◌∙◌, arith}
use Rattle.std.specs.Prelude.{is_some}
use Rattle.std.specs.Bool.{Decides}
use Rattle.std.proofs.lemmas.Bool.{cases_Bool, false≢true}
use Rattle.std.proofs.Math.Bool.{and-true, or-false}
use Rattle.std.proofs.lemmas.Bool.Decides.{nat_tests, Decides-and}
use Rattle.std.specs.Option.{option_or}
use Rattle.std.specs.List.{list_any}
use Rattle.std.proofs.lemmas.List.Folds.{list_any-append}
use Rattle.rd_base.proofs.Choices.{or-some, second-holds}
use Rattle.rd_base.proofs.Lists.{is_some-found}
use Rattle.std.proofs.lemmas.Option.{cond_some}
use Rattle.rd_tree.specs.declared.rect.Rect.{Rect}
use Rattle.rd_tree.specs.declared.side.Side.{Side}
use Rattle.rd_tree.specs.declared.placed.Placed.{Placed}
use Rattle.rd_tree.specs.Windows.{Windows, Window, Split, first_part, second_part, HasRoom, fits, first_size, resized, placed, window_at, holds, replaced, is_leaf_of, is_single, sibling, removed}
use Rattle.rd_tree.specs.Places.{shared_place}
use Rattle.rd_tree.proofs.Rooms.{of_number-append, parts_fill, resized_room}

-- the test of room is true exactly where each window has room
pub room-decides : (windows : Windows) (rect : Rect) → Decides (fits windows rect) (HasRoom windows rect)
room-decides (Window number mode margins) rect =
    (λ e. (grind (arith, nat_tests), grind (arith, nat_tests)), λ h. let p = h.0 in let q = h.1 in grind (arith, nat_tests))
room-decides (Split side size first second) rect = Decides-and _ _ (room-decides first (first_part side size rect)) (room-decides second (second_part side size rect))

pub is_some-if : {X : Type 0} (t : Bool) (x : X) → is_some (if t then Some x else None) ≡ t
is_some-if true x = refl
is_some-if false x = refl

pub is_some-or : {X : Type 0} (a b : Option X) → is_some (option_or a b) ≡ (is_some a || is_some b)
is_some-or None b = refl
is_some-or (Some x) b = refl

-- a window is one of those that stand
pub placed_among : (n : ℕ) (windows : Windows) (rect : Rect) → holds n windows ≡ list_any (λ (window : Placed). window.number == n) (placed windows rect)
placed_among n (Window number mode margins) rect = sym (or-false (number == n))
placed_among n (Split side size first second) rect =
    rw (placed_among n first (first_part side size rect), placed_among n second (second_part side size rect))
    (sym (list_any-append (λ (window : Placed). window.number == n) (placed first (first_part side size rect)) (placed second (second_part side size rect))))

-- a window is among the windows where it is found
pub found_held : (w : ℕ) (windows : Windows) (rect : Rect) → is_some (window_at w windows rect) ≡ holds w windows
found_held w windows rect = is_some-found (λ (window : Placed). window.number == w) (placed windows rect) ∙ sym (placed_among w windows rect)

-- the part in which a window is found
found_where : (w : ℕ) (side : Side) (size : ℕ) (first second : Windows) (rect : Rect) (window : Placed) → window_at w (Split side size first second) rect ≡ Some window
    → ((holds w first ≡ true) × (window_at w first (first_part side size rect) ≡ Some window)) ⊎ ((holds w first ≡ false) × (window_at w second (second_part side size rect) ≡ Some window))
found_where w side size first second rect window e =
    let a = first_part side size rect in
    let b = second_part side size rect in
    elim (or-some (window_at w first a) (window_at w second b) window (sym (of_number-append w (placed first a) (placed second b)) ∙ e)) [
      | inl p ↦ inl (sym (found_held w first a) ∙ ap is_some p, p)
      | inr q ↦ inr (sym (found_held w first a) ∙ ap is_some q.0, q.1)
    ]

-- where something else stands for a window, there is room exactly where it has room in the window's rectangle
pub replaced_fits : (w : ℕ) (other : Bool → ℕ → Windows) (windows : Windows) (rect : Rect) (window : Placed) → HasRoom windows rect → window_at w windows rect ≡ Some window → fits (replaced w other windows) rect ≡ fits (other window.mode window.margins) window.rect
replaced_fits w other (Window n mode margins) rect window h e =
    let leaf = cond_some (n == w) (record { number = n; mode = mode; margins = margins; rect = rect }) window e in
    rw leaf.0 (ap (λ (p : Placed). fits (other p.mode p.margins) p.rect) leaf.1)
replaced_fits w other (Split side size first second) rect window h e =
    elim (found_where w side size first second rect window e) [
      | inl p ↦ rw (p.0, (room-decides second (second_part side size rect)).1 h.1, and-true) (replaced_fits w other first (first_part side size rect) window h.0 p.1)
      | inr q ↦ rw (q.0, (room-decides first (first_part side size rect)).1 h.0) (replaced_fits w other second (second_part side size rect) window h.1 q.1)
    ]

-- to put something in a window's place, by a mode line and margins, is to put there what it is by that window's own
pub replaced_found : (w : ℕ) (other : Bool → ℕ → Windows) (windows : Windows) (rect : Rect) (window : Placed) → window_at w windows rect ≡ Some window → replaced w (λ _ _. other window.mode window.margins) windows ≡ replaced w other windows
replaced_found w other (Window n mode margins) rect window e =
    let leaf = cond_some (n == w) (record { number = n; mode = mode; margins = margins; rect = rect }) window e in
    rw leaf.0 (ap (λ (p : Placed). other p.mode p.margins) (sym leaf.1))
replaced_found w other (Split side size first second) rect window e =
    elim (found_where w side size first second rect window e) [
      | inl p ↦ rw p.0 (ap (λ ws. Split side size ws second) (replaced_found w other first (first_part side size rect) window p.1))
      | inr q ↦ rw q.0 (ap (λ ws. Split side size first ws) (replaced_found w other second (second_part side size rect) window q.1))
    ]

-- a number that some windows have is the sum of those of their parts
abbrev pub IsSum : (Windows → ℕ) → Type 0
IsSum f = (side : Side) (size : ℕ) (first second : Windows) → f (Split side size first second) ≡ f first + f second

pub replaced_more : (f : Windows → ℕ) (w d : ℕ) (other : Bool → ℕ → Windows) → IsSum f → ((n : ℕ) (mode : Bool) (margins : ℕ) → (n == w) ≡ true → f (other mode margins) ≡ f (Window n mode margins) + d) → (windows : Windows) → holds w windows ≡ true → f (replaced w other windows) ≡ f windows + d
replaced_more f w d other sum leaf (Window n mode margins) e = rw e (leaf n mode margins e)
replaced_more f w d other sum leaf (Split side size first second) e =
    elim (cases_Bool (holds w first)) [
      | inl p ↦ rw p (omega (arith, sum side size (replaced w other first) second, sum side size first second, replaced_more f w d other sum leaf first p))
      | inr p ↦ rw p (omega (arith, sum side size first (replaced w other second), sum side size first second, replaced_more f w d other sum leaf second (second-holds (holds w first) (holds w second) p e)))
    ]

-- what windows have by what each part of theirs has is the same where they share a rectangle anew
pub resized_same : {X : Type 0} (f : Windows → X) (join : X → X → X) → ((side : Side) (size : ℕ) (first second : Windows) → f (Split side size first second) ≡ join (f first) (f second))
    → (windows : Windows) (rect : Rect) → f (resized windows rect) ≡ f windows
resized_same f join parts (Window n mode margins) rect = refl
resized_same f join parts (Split side size first second) rect =
    let new = first_size side size second rect in
    let a = first_part side new rect in
    let b = second_part side new rect in
    parts side new (resized first a) (resized second b)
    ∙ (ap₂ join (resized_same f join parts first a) (resized_same f join parts second b) ∙ sym (parts side size first second))

window_has : (f : Windows → ℕ) (w d : ℕ) → ((n : ℕ) (mode : Bool) (margins : ℕ) → (n == w) ≡ true → f (Window n mode margins) ≡ d) → (windows : Windows) → is_leaf_of w windows ≡ true → f windows ≡ d
window_has f w d leaf (Window n mode margins) e = leaf n mode margins e
window_has f w d leaf (Split side size first second) e = absurd (false≢true e)

not_single : (w : ℕ) (windows : Windows) → is_leaf_of w windows ≡ false → holds w windows ≡ true → is_single windows ≡ false
not_single w (Window n mode margins) p e = absurd (false≢true (sym p ∙ e))
not_single w (Split side size first second) p e = refl

-- a removal from a split goes one of four ways: the first part or the second is the window, and the other part gets the whole rectangle;
-- or the window is removed from the first part, or else from the second, where it stands if it stands at all. What each way gives of the
-- windows that are left, of the sibling and of the rectangle that both share is so after every removal from a split.
pub by_way : (Goal : Windows → Windows → Rect → Type 0) (w : ℕ) (side : Side) (size : ℕ) (first second : Windows) (rect : Rect)
    → (is_leaf_of w first ≡ true → Goal (resized second rect) second rect)
    → (is_leaf_of w second ≡ true → Goal (resized first rect) first rect)
    → (holds w first ≡ true → is_single first ≡ false
    → let a = first_part side size rect in Goal (Split side size (removed w first a) second) (sibling w first) (shared_place w first a))
    → (holds w first ≡ false → (holds w (Split side size first second) ≡ true → (holds w second ≡ true) × (is_single second ≡ false))
    → let b = second_part side size rect in Goal (Split side size first (removed w second b)) (sibling w second) (shared_place w second b))
    → let windows = Split side size first second in Goal (removed w windows rect) (sibling w windows) (shared_place w windows rect)
by_way Goal w side size first second rect first_goes second_goes in_first in_second =
    elim (cases_Bool (is_leaf_of w first)) [
      | inl p ↦ rw p (first_goes p)
      | inr p ↦ elim (cases_Bool (is_leaf_of w second)) [
        | inl q ↦ rw (p, q) (second_goes q)
        | inr q ↦ elim (cases_Bool (holds w first)) [
          | inl h ↦ rw (p, q, h) (in_first h (not_single w first p h))
          | inr h ↦
              rw (p, q, h) (in_second h (λ e. let k = second-holds (holds w first) (holds w second) h e in (k, not_single w second q k)))
        ]
      ]
    ]

pub removed_less : (f : Windows → ℕ) (w d : ℕ) → IsSum f → ((n : ℕ) (mode : Bool) (margins : ℕ) → (n == w) ≡ true → f (Window n mode margins) ≡ d) → (windows : Windows) (rect : Rect) → holds w windows ≡ true → is_single windows ≡ false → f (removed w windows rect) + d ≡ f windows
removed_less f w d sum leaf (Window n mode margins) rect e s = absurd (false≢true (sym s))
removed_less f w d sum leaf (Split side size first second) rect e s =
    let a = first_part side size rect in
    let b = second_part side size rect in
    let whole = sum side size first second in
    by_way (λ left _ _. f left + d ≡ f (Split side size first second)) w side size first second rect
    (λ p. omega (arith, whole, resized_same f ◌+◌ sum second rect, window_has f w d leaf first p))
    (λ p. omega (arith, whole, resized_same f ◌+◌ sum first rect, window_has f w d leaf second p))
    (λ h many. omega (arith, whole, sum side size (removed w first a) second, removed_less f w d sum leaf first a h many))
    (λ h there.
    omega (arith, whole, sum side size first (removed w second b), removed_less f w d sum leaf second b (there e).0 (there e).1))

-- where a window is removed, each other has room
pub removed_room : (w : ℕ) (windows : Windows) (rect : Rect) → HasRoom windows rect → HasRoom (removed w windows rect) rect
removed_room w (Window n mode margins) rect h = h
removed_room w (Split side size first second) rect h =
    let parts = parts_fill {windows = Split side size first second} rect refl h in
    by_way (λ left _ _. HasRoom left rect) w side size first second rect
    (λ _. resized_room second rect parts.1.0 parts.1.1)
    (λ _. resized_room first rect parts.0.0 parts.0.1)
    (λ _ _. (removed_room w first (first_part side size rect) h.0, h.1))
    (λ _ _. (h.0, removed_room w second (second_part side size rect) h.1))
