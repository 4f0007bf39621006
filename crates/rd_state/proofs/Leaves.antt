-- What a window tree says of its windows, and how it changes.
use Rattle.std.proofs.Common.{◌≡◌, ◌≢◌, ℕ, ◌≤◌, ◌==◌, ◌||◌, Bool, true, false, is_some, Option, None, Some, sym, ap, refl, ◌∙◌, inl, inr, arith}
use Rattle.std.proofs.lemmas.Bool.{cases_eq, eqb-true, false_from_ne_true, cond-false, cond_both, cond-true, eq-eqb, ne_eqb, or_left}
use Rattle.std.proofs.lemmas.Iterator.Adapters.{option_map_id}
use Rattle.rd_base.proofs.Choices.{none-both, of-choice, or-first, map-or, map-some, none-of, some-mapped}
use Rattle.std.specs.Prelude.{option_map}
use Rattle.std.specs.Option.{option_or}
use Rattle.rd_tree.proofs.Keeping.{is_some-if, is_some-or, by_way, removed_less, resized_same}
use Rattle.rd_tree.proofs.Rooms.{of_number-append}
use Rattle.rd_tree.proofs.Standing.{held_times, sibling_held}
use Rattle.rd_tree.specs.declared.placed.Placed.{Placed}
use Rattle.rd_tree.specs.declared.rect.Rect.{Rect}
use Rattle.rd_tree.specs.declared.side.Side.{Side}
use Rattle.rd_tree.specs.Windows.{Windows, Window, Split, first_part, second_part, placed, of_number, window_at, holds, resized, replaced, halves, split_at, is_leaf_of, is_single, sibling, removed, first_leaf, times}
use Rattle.rd_tree.specs.Calls.{frame_of}
use Rattle.rd_state.specs.States.{StateValue}
use Rattle.rd_state.specs.Valid.{IsValid}
use Rattle.rd_state.specs.Windows.{leaf_at, leaf_of, window_of}
use Rattle.rd_state.specs.declared.window.WindowState.{WindowState}
use Rattle.rd_state.proofs.Options.{or-none}

abbrev pub Leaf : Type 0
Leaf = Bool × ℕ

-- ---- finding

pub is_some-leaf : (n : ℕ) (ws : Windows) → is_some (leaf_at n ws) ≡ holds n ws
is_some-leaf n (Window m mode margins) = is_some-if (m == n) (mode, margins)
is_some-leaf n (Split side size first second) =
    is_some-or (leaf_at n first) (leaf_at n second)
    ∙ (ap (λ (t : Bool). t || is_some (leaf_at n second)) (is_some-leaf n first) ∙ ap (λ (t : Bool). holds n first || t) (is_some-leaf n second))

pub leaf-none : (n : ℕ) (ws : Windows) → holds n ws ≡ false → leaf_at n ws ≡ None
leaf-none n ws h = none-of (leaf_at n ws) (is_some-leaf n ws ∙ h)

leaf-some : (n : ℕ) (ws : Windows) → holds n ws ≡ true → is_some (leaf_at n ws) ≡ true
leaf-some n ws h = is_some-leaf n ws ∙ h

leaf-past : (n m : ℕ) (mode : Bool) (margins : ℕ) → m ≢ n → leaf_at n (Window m mode margins) ≡ None
leaf-past n m mode margins h = cond-false (m == n) (Some (mode, margins)) None (ne_eqb m n h)

leaf-here : (n m : ℕ) (mode : Bool) (margins : ℕ) → m ≡ n → leaf_at n (Window m mode margins) ≡ Some (mode, margins)
leaf-here n m mode margins h = cond-true (m == n) (Some (mode, margins)) None (eq-eqb m n h)

leaf-first : (n : ℕ) (first second : Windows) → holds n first ≡ true → option_or (leaf_at n first) (leaf_at n second) ≡ leaf_at n first
leaf-first n first second h = or-first (leaf_at n first) (leaf_at n second) (leaf-some n first h)

-- ---- what is placed

abbrev pub facts : Placed → Leaf
facts p = (p.mode, p.margins)

pub leaf-placed : (n : ℕ) (ws : Windows) (rect : Rect) → option_map facts (of_number n (placed ws rect)) ≡ leaf_at n ws
leaf-placed n (Window m mode margins) rect = of-choice (option_map facts) (m == n) (Some (record { number = m; mode = mode; margins = margins; rect = rect })) None
leaf-placed n (Split side size first second) rect =
    let a = placed first (first_part side size rect) in
    let b = placed second (second_part side size rect) in
    ap (option_map facts) (of_number-append n a b)
    ∙ (map-or facts (of_number n a) (of_number n b)
    ∙ (ap (λ (o : Option Leaf). option_or o (option_map facts (of_number n b))) (leaf-placed n first (first_part side size rect))
    ∙ ap (option_or (leaf_at n first)) (leaf-placed n second (second_part side size rect))))

pub placed-leaf : (n : ℕ) (ws : Windows) (rect : Rect) (p : Placed) → window_at n ws rect ≡ Some p → leaf_at n ws ≡ Some (p.mode, p.margins)
placed-leaf n ws rect p h = sym (leaf-placed n ws rect) ∙ ap (option_map facts) h

-- ---- sharing anew

pub leaf-resized : (n : ℕ) (ws : Windows) (rect : Rect) → leaf_at n (resized ws rect) ≡ leaf_at n ws
leaf-resized n = resized_same (leaf_at n) option_or (λ _ _ _ _. refl)

-- ---- something else in place of a window

pub leaf-other : (n k : ℕ) (other : Bool → ℕ → Windows) (ws : Windows) → k ≢ n → ((mode : Bool) (margins : ℕ) → leaf_at k (other mode margins) ≡ None)
    → leaf_at k (replaced n other ws) ≡ leaf_at k ws
leaf-other n k other (Window m mode margins) ne none = cond_both (m == n) (other mode margins) (Window m mode margins) (λ ws. leaf_at k ws ≡ leaf_at k (Window m mode margins))
    (λ h. none mode margins ∙ sym (leaf-past k m mode margins (λ p. ne (sym p ∙ eqb-true m n h)))) (λ h. refl)
leaf-other n k other (Split side size first second) ne none =
    cond_both (holds n first) (Split side size (replaced n other first) second) (Split side size first (replaced n other second))
    (λ ws. leaf_at k ws ≡ option_or (leaf_at k first) (leaf_at k second))
    (λ h. ap (λ (o : Option Leaf). option_or o (leaf_at k second)) (leaf-other n k other first ne none))
    (λ h. ap (option_or (leaf_at k first)) (leaf-other n k other second ne none))

-- a number that at most this window has, where this window is not among them: no window has it
gone : (n k : ℕ) (ws : Windows) → (k ≢ n → leaf_at k ws ≡ None) → holds n ws ≡ false → leaf_at k ws ≡ None
gone n k ws none h = elim (cases_eq k n) [ inl p ↦ rw p (leaf-none n ws h) | inr ne ↦ none ne ]

-- where a window gives way to windows that have a number, which no other window had, the number then has what these give it
pub leaf-replaced : (n k : ℕ) (other : Bool → ℕ → Windows) (g : Leaf → Leaf) (ws : Windows)
    → ((mode : Bool) (margins : ℕ) → leaf_at k (other mode margins) ≡ Some (g (mode, margins))) → (k ≢ n → leaf_at k ws ≡ None)
    → leaf_at k (replaced n other ws) ≡ option_map g (leaf_at n ws)
leaf-replaced n k other g (Window m mode margins) gives none = cond_both (m == n) (other mode margins) (Window m mode margins)
    (λ ws. leaf_at k ws ≡ option_map g (leaf_at n (Window m mode margins)))
    (λ h. gives mode margins ∙ sym (ap (option_map g) (leaf-here n m mode margins (eqb-true m n h))))
    (λ h. gone n k (Window m mode margins) none h ∙ sym (ap (option_map g) (cond-false (m == n) (Some (mode, margins)) None h)))
leaf-replaced n k other g (Split side size first second) gives none =
    let parts = λ (ne : k ≢ n). none-both (leaf_at k first) (leaf_at k second) (none ne) in
    cond_both (holds n first) (Split side size (replaced n other first) second) (Split side size first (replaced n other second))
    (λ ws. leaf_at k ws ≡ option_map g (option_or (leaf_at n first) (leaf_at n second)))
    (λ h. rw (leaf-replaced n k other g first gives (λ ne. (parts ne).0), leaf-first n first second h)
    (or-first (option_map g (leaf_at n first)) (leaf_at k second) (some-mapped g (leaf_at n first) ∙ leaf-some n first h)))
    (λ h. rw (gone n k first (λ ne. (parts ne).0) h, leaf-none n first h) (leaf-replaced n k other g second gives (λ ne. (parts ne).1)))

-- ---- splits

no-half : (n k : ℕ) (side : Side) (size new : ℕ) (mode : Bool) (margins : ℕ) → k ≢ n → k ≢ new → leaf_at k (halves n side size new mode margins) ≡ None
no-half n k side size new mode margins ne far =
    ap (λ (o : Option Leaf). option_or o (leaf_at k (Window new mode margins))) (leaf-past k n mode margins (λ p. ne (sym p))) ∙ leaf-past k new mode margins (λ p. far (sym p))

pub split-other : (n k : ℕ) (side : Side) (size new : ℕ) (ws : Windows) → k ≢ n → k ≢ new → leaf_at k (split_at n side size new ws) ≡ leaf_at k ws
split-other n k side size new ws ne far = leaf-other n k (halves n side size new) ws ne (λ mode margins. no-half n k side size new mode margins ne far)

pub split-same : (n : ℕ) (side : Side) (size new : ℕ) (ws : Windows) → leaf_at n (split_at n side size new ws) ≡ leaf_at n ws
split-same n side size new ws =
    leaf-replaced n n (halves n side size new) (λ x. x) ws
    (λ mode margins. ap (λ (o : Option Leaf). option_or o (leaf_at n (Window new mode margins))) (leaf-here n n mode margins refl)) (λ ne. absurd (ne refl))
    ∙ option_map_id (leaf_at n ws)

new-half : (n : ℕ) (side : Side) (size new : ℕ) (mode : Bool) (margins : ℕ) → n ≢ new → leaf_at new (halves n side size new mode margins) ≡ Some (mode, margins)
new-half n side size new mode margins ne =
    ap (λ (o : Option Leaf). option_or o (leaf_at new (Window new mode margins))) (leaf-past new n mode margins ne) ∙ leaf-here new new mode margins refl

pub split-new : (n : ℕ) (side : Side) (size new : ℕ) (ws : Windows) → n ≢ new → leaf_at new ws ≡ None → leaf_at new (split_at n side size new ws) ≡ leaf_at n ws
split-new n side size new ws ne none =
    leaf-replaced n new (halves n side size new) (λ x. x) ws (λ mode margins. new-half n side size new mode margins ne) (λ _. none) ∙ option_map_id (leaf_at n ws)

-- ---- removals

pub leaf-times : (n : ℕ) (ws : Windows) → times n ws ≡ 0 → leaf_at n ws ≡ None
leaf-times n ws none = leaf-none n ws (false_from_ne_true (holds n ws) (λ held. omega (arith, none, held_times n ws held)))

-- one window alone, by its number
alone-other : (n k : ℕ) (ws : Windows) → is_leaf_of n ws ≡ true → k ≢ n → leaf_at k ws ≡ None
alone-other n k (Window m mode margins) h ne = leaf-past k m mode margins (λ p. ne (sym p ∙ eqb-true m n h))
alone-other n k (Split side size first second) h ne = absurd (cc)

pub removed-other : (n k : ℕ) (ws : Windows) (rect : Rect) → k ≢ n → leaf_at k (removed n ws rect) ≡ leaf_at k ws
removed-other n k (Window m mode margins) rect ne = refl
removed-other n k (Split side size first second) rect ne =
    by_way (λ left _ _. leaf_at k left ≡ option_or (leaf_at k first) (leaf_at k second)) n side size first second rect
    (λ h. leaf-resized k second rect ∙ sym (ap (λ (o : Option Leaf). option_or o (leaf_at k second)) (alone-other n k first h ne)))
    (λ h. leaf-resized k first rect
    ∙ (sym (or-none (leaf_at k first)) ∙ sym (ap (option_or (leaf_at k first)) (alone-other n k second h ne))))
    (λ _ _. ap (λ (o : Option Leaf). option_or o (leaf_at k second)) (removed-other n k first (first_part side size rect) ne))
    (λ _ _. ap (option_or (leaf_at k first)) (removed-other n k second (second_part side size rect) ne))

pub removed-same : (n : ℕ) (ws : Windows) (rect : Rect) → times n ws ≤ 1 → holds n ws ≡ true → is_single ws ≡ false → leaf_at n (removed n ws rect) ≡ None
removed-same n ws rect once held many =
    let less = removed_less (times n) n 1 (λ _ _ _ _. refl) (λ m _ _ e. rw e refl) ws rect held many in
    leaf-times n (removed n ws rect) (omega (arith, once, less))

-- ---- the heir

first-held : (ws : Windows) → holds (first_leaf ws) ws ≡ true
first-held (Window m mode margins) = eq-eqb m m refl
first-held (Split side size first second) = or_left (holds (first_leaf first) first) (holds (first_leaf first) second) (first-held first)

-- the first window of the sibling is among those that are left
pub heir-held : (n : ℕ) (ws : Windows) (rect : Rect) → holds (first_leaf (sibling n ws)) (removed n ws rect) ≡ true
heir-held n ws rect = (sibling_held (first_leaf (sibling n ws)) n ws rect (first-held (sibling n ws))).0

-- ---- the windows of a valid state

map-none : {X Y : Type 0} (f : X → Y) (o : Option X) → option_map f o ≡ None → o ≡ None
map-none f None h = refl
map-none f (Some x) h = absurd (cc)

-- a window that was not made does not live
pub unmade : (s : StateValue) (number : ℕ) → IsValid s → s.tree.made ≤ number → window_of number s.windows ≡ None
unmade s number v past =
    map-none leaf_of (window_of number s.windows) (sym (v.windows.leaves number) ∙ leaf-times number s.tree.windows (v.windows.tree.known number past))

-- a window that has a place lives, with the mode line and the margins of its place
pub placed-window : (s : StateValue) (number : ℕ) (p : Placed) → IsValid s → window_at number s.tree.windows (frame_of s.tree) ≡ Some p
    → (w : WindowState) × (window_of number s.windows ≡ Some w) × (leaf_of w ≡ (p.mode, p.margins))
placed-window s number p v at =
    map-some leaf_of (window_of number s.windows) (p.mode, p.margins) (sym (v.windows.leaves number) ∙ placed-leaf number s.tree.windows (frame_of s.tree) p at)
