-- That a step leads from a valid state to a valid one: windows and the frame.
use Rattle.std.proofs.Common.{◌≡◌, ◌≢◌, ℕ, ◌+◌, ◌-◌, ◌<◌, ◌≤◌, inl, inr, ◌==◌, Bool, true, false, is_some, cond, if◌then◌else◌, nat_lt, ℤ, pos, negsuc, Option, None, Some, Result, Ok, List, [], ◌∷◌, ◌++◌, length, subst, sym, ap, refl, ◌∙◌, arith, IsTrue}
use Rattle.std.proofs.lemmas.Bool.{cases_eq, cond_both, eqb-false, ltb-true, ltb-false, cond-false, cond-true, or_left, eq-eqb, ne_eqb}
use Rattle.std.proofs.lemmas.Bool.Decides.{nat_tests}
use Rattle.std.specs.Int.{int_max}
use Rattle.std.proofs.lemmas.Int.{ints}
use Rattle.std.proofs.lemmas.Option.{none-some, slice_get_within}
use Rattle.std.specs.Option.{option_or}
use Rattle.std.specs.Prelude.{slice_get, option_map, IsSome, IfOk, IfSome}
use Rattle.rd_base.proofs.Lists.{element-at, get-end}
use Rattle.rd_base.specs.declared.settings.Anchor.{Anchor}
use Rattle.rd_base.specs.declared.limits.TheConstants.{FRAME_COLUMNS, FRAME_ROWS, LEAST_FRAME_COLUMNS, LEAST_FRAME_ROWS, NUMBER_COLUMNS, PENDING_ROWS, STRING_COLUMNS}
use Rattle.rd_text.specs.Texts.{IsAccessible}
use Rattle.rd_script.specs.Forms.{IsFormat}
use Rattle.rd_script.specs.Numbers.{is_near_zero}
use Rattle.rd_tree.specs.Calls as tree
use Rattle.rd_tree.specs.Calls.{Configuration, frame_of, split_tree, remove_tree, resize_tree, mode_tree, margins_tree}
use Rattle.rd_tree.proofs.Keeping.{is_some-or}
use Rattle.rd_tree.proofs.Steps.{split-means, split_keeps, remove-means, remove_keeps, resize-means, resize_keeps, mode-means, mode_keeps, margins-means, margins_keeps}
use Rattle.rd_tree.specs.Windows.{Windows, Window, holds, is_single, split_at, removed, replaced, resized, first_leaf, sibling}
use Rattle.rd_tree.specs.declared.fault.TreeFault.{TreeFault}
use Rattle.rd_tree.specs.declared.side.Side.{Side}
use Rattle.rd_state.specs.declared.window.WindowState.{WindowState}
use Rattle.rd_state.specs.States.{BufferValue, ContentValue, StateValue, number_of}
use Rattle.rd_state.specs.Windows.{AreApart, content_in, shown_content, window_of, changed_under, removed_under, leaf_at, leaf_of, NumberedWindow}
use Rattle.rd_state.specs.Valid.{IsWindow, AreWindows, IsGoodFormat, IsValid}
use Rattle.rd_state.specs.Steps.{in_window, changing, on_tree, splitting, removing, showing, placing, held, format_fault, mode_lining, margining}
use Rattle.rd_state.proofs.ByNumber.{Hands, each-under, each-without, window-end, apart-end, window-gone, under-past, none-past, apart-becoming, get-window}
use Rattle.rd_state.proofs.Keeping.{window-still, window-placed, windows-over, windows-changed}
use Rattle.rd_state.proofs.Leaves.{Leaf, leaf-resized, leaf-replaced, leaf-other, split-same, split-other, split-new, removed-same, removed-other, heir-held, is_some-leaf, unmade}
use Rattle.rd_state.proofs.StepParts.{found, unless, tree-if, treed-if, placing-if}
use Rattle.rd_state.proofs.Tests.{is_accessible-means}
use Rattle.rd_state.proofs.Options.{map-map, one-value, or-none}
use Rattle.rd_state.proofs.WithParts.{with_parts}

-- ---- a state with other windows, in the frame that there is

pub with_windows : (s : StateValue) (c : Configuration) (ws : List NumberedWindow) (n : ℕ) → IsValid s → AreWindows s.buffers c ws n → c.width ≡ s.tree.width → c.height ≡ s.tree.height
    → IsValid (record s { tree = c; windows = ws; selected = n })
with_windows s c ws n v w wide high = with_parts s s.buffers s.objects c ws n s.width s.height v v.buffers v.objects v.closed w (record {
  wide = v.frame.wide;
  narrow = v.frame.narrow;
  high = v.frame.high;
  low = v.frame.low;
  columns = wide ∙ v.frame.columns;
  rows = ap (λ (x : ℕ). x + 1) high ∙ v.frame.rows;
})

-- one window becomes another, and the tree stays
windows-set : (bs : List BufferValue) (c : Configuration) (ws : List NumberedWindow) (n number : ℕ) (f : WindowState → WindowState) → ((w : WindowState) → leaf_of (f w) ≡ leaf_of w)
    → ((w : WindowState) → window_of number ws ≡ Some w → IsWindow bs w → IsWindow bs (f w)) → AreWindows bs c ws n → AreWindows bs c (changed_under number f ws) n
windows-set bs c ws n number f same keep v =
    windows-changed bs c c ws n number f v.tree (v.leaves number ∙ (λ i. option_map (λ w. sym (same w) i) (window_of number ws))) (λ k q. refl) keep v

pub set-valid : (s : StateValue) (number : ℕ) (f : WindowState → WindowState) → IsValid s → ((w : WindowState) → leaf_of (f w) ≡ leaf_of w)
    → ((w : WindowState) → window_of number s.windows ≡ Some w → IsWindow s.buffers w → IsWindow s.buffers (f w)) → IsValid (record s { windows = changed_under number f s.windows })
set-valid s number f v same keep =
    with_windows s s.tree (changed_under number f s.windows) s.selected v (windows-set s.buffers s.tree s.windows s.selected number f same keep v.windows) refl refl

-- ---- points and views

-- what holds of what its buffer holds, holds of what a window shows
pub shown-has : (P : ContentValue → Type 0) (s : StateValue) (w : WindowState) → IsWindow s.buffers w
    → ((b : BufferValue) → slice_get s.buffers w.buffer ≡ Some b → P b.content) → P (shown_content s w)
shown-has P s w window own = let b = element-at s.buffers w.buffer window.made in subst P (sym (ap content_in b.1)) (own b.0 b.1)

pub placing-valid : (s : StateValue) (number place : ℕ) (f : WindowState → WindowState) → IsValid s → ((w : WindowState) → leaf_of (f w) ≡ leaf_of w)
    → ((w : WindowState) → IsWindow s.buffers w → ((b : BufferValue) → slice_get s.buffers w.buffer ≡ Some b → IsAccessible b.content.text place) → IsWindow s.buffers (f w))
    → IfOk (placing s number place f) IsValid
placing-valid s number place f v same keep =
    placing-if IsValid s number place f
    (λ w b lives at yes. set-valid s number f v same
    (λ x there old. keep x old (λ c hc.
    let is : w ≡ x = one-value (window_of number s.windows) w x lives there in
    let here : slice_get s.buffers w.buffer ≡ Some c = ap (λ (y : WindowState). slice_get s.buffers y.buffer) is ∙ hc in
    subst (λ (z : BufferValue). IsAccessible z.content.text place) (one-value (slice_get s.buffers w.buffer) b c at here) (is_accessible-means b.content.text place yes))))

none-pending : IsTrue (is_near_zero (pos PENDING_ROWS) (pos 0))
none-pending = refl

pub point-keeps : (bs : List BufferValue) (place : ℕ) (w : WindowState) → IsWindow bs w → ((b : BufferValue) → slice_get bs w.buffer ≡ Some b → IsAccessible b.content.text place)
    → IsWindow bs (record w { point = place })
point-keeps bs place w v at = window-placed bs bs w w.buffer place w.anchor v v.made at v.anchor

-- a window with another point and start, in any buffer, with no rows to go
pub placed-keeps : (bs : List BufferValue) (w : WindowState) (buffer point : ℕ) (anchor : Anchor) (forced : Bool) → IsWindow bs w → buffer < length bs
    → ((b : BufferValue) → slice_get bs buffer ≡ Some b → IsAccessible b.content.text point) → ((b : BufferValue) → slice_get bs buffer ≡ Some b → IsAccessible b.content.text anchor.pos)
    → IsWindow bs (record w { buffer = buffer; point = point; anchor = anchor; forced = forced; pending = pos 0 })
placed-keeps bs w buffer point anchor forced v made at from =
    window-still bs (record w { buffer = buffer; point = point; anchor = anchor; forced = forced; pending = pos 0 }) made at from none-pending v.hscroll v.format v.numbers v.strings

pub start-keeps : (bs : List BufferValue) (place row : ℕ) (w : WindowState) → IsWindow bs w → ((b : BufferValue) → slice_get bs w.buffer ≡ Some b → IsAccessible b.content.text place)
    → IsWindow bs (record w { anchor = record { pos = place; row = row }; forced = true; pending = pos 0 })
start-keeps bs place row w v at = placed-keeps bs w w.buffer w.point (record { pos = place; row = row }) true v v.made v.point at

held-above : (t : Bool) (n : ℕ) → nat_lt n 1000000000 ≡ t → IsTrue (is_near_zero (pos 1000000000) (int_max (negsuc 999999999) (cond t (pos n) (pos 1000000000))))
held-above true n h = let less = ltb-true n 1000000000 h in grind (arith, ints, nat_tests)
held-above false n h = refl

held-below : (t : Bool) (n : ℕ) → nat_lt 999999999 n ≡ t → IsTrue (is_near_zero (pos 1000000000) (cond t (negsuc 999999999) (negsuc n)))
held-below true n h = refl
held-below false n h = let less = ltb-false 999999999 n h in grind (arith, ints, nat_tests)

pub held-small : (rows : ℤ) → IsTrue (is_near_zero (pos PENDING_ROWS) (held rows))
held-small (pos n) = held-above (nat_lt n 1000000000) n refl
held-small (negsuc n) = held-below (nat_lt 999999999 n) n refl

pub scroll-keeps : (bs : List BufferValue) (rows : ℤ) (w : WindowState) → IsWindow bs w → IsWindow bs (record w { forced = true; pending = held rows })
scroll-keeps bs rows w v =
    window-still bs (record w { forced = true; pending = held rows }) v.made v.point v.anchor (held-small rows) v.hscroll v.format v.numbers v.strings

-- a buffer shown from its beginning
pub shown-keeps : (s : StateValue) (i : ℕ) (b : BufferValue) (w : WindowState) → IsValid s → slice_get s.buffers i ≡ Some b → IsWindow s.buffers w
    → IsWindow s.buffers (record w { buffer = i; point = b.content.text.begin; anchor = record { pos = b.content.text.begin; row = 0 }; forced = false; pending = pos 0 })
shown-keeps s i b w v at old =
    let text = (v.buffers.contents i b at).text in
    let ordered = text.ordered in
    let here : (x : BufferValue) → slice_get s.buffers i ≡ Some x → IsAccessible x.content.text b.content.text.begin
    = λ x hx. subst (λ (z : BufferValue). IsAccessible z.content.text b.content.text.begin) (one-value (slice_get s.buffers i) b x at hx) (omega arith, ordered) in
    placed-keeps s.buffers w i b.content.text.begin (record { pos = b.content.text.begin; row = 0 }) false old (slice_get_within s.buffers i b at) here here

pub showing-valid : (s : StateValue) (number : ℕ) (name : List ℕ) → IsValid s → IfOk (showing s number name) IsValid
showing-valid s number name v =
    let i = number_of name s.buffers in
    found IsValid _ (window_of number s.windows) _
    (λ w lives. found IsValid _ (slice_get s.buffers i) _ (λ b at. set-valid s number _ v (λ x. refl) (λ x there old. shown-keeps s i b x v at old)))

-- ---- the tree

format-in-form : (format : Option (List ℕ)) → IsFormat format → format_fault format ≡ None → IfSome format IsGoodFormat
format-in-form None form h = tt
format-in-form (Some text) form h = record { plain = form; good = h }

both-parts : (x : Leaf) → ◌≡◌ {A = Leaf} (x.0, x.1) x
both-parts (mode, margins) = refl

-- a window of the tree, with another mode line or other margins
abbrev retold : ℕ → (Leaf → Leaf) → Bool → ℕ → Windows
retold number g mode margins = Window number (g (mode, margins)).0 (g (mode, margins)).1

retold-valid : (s : StateValue) (number : ℕ) (f : WindowState → WindowState) (g : Leaf → Leaf) (r : Result Configuration TreeFault) → IsValid s
    → ((d : Configuration) → r ≡ Ok d → tree.IsValid d × (record s.tree { windows = replaced number (retold number g) s.tree.windows } ≡ d)) → ((w : WindowState) → g (leaf_of w) ≡ leaf_of (f w))
    → ((w : WindowState) → IsWindow s.buffers w → IsWindow s.buffers (f w)) → IfOk (changing number f (on_tree r (λ c. record s { tree = c }))) IsValid
retold-valid s number f g r v means gives keep =
    treed-if IsValid s r number f
    (λ d at.
    let is = means d at in
    let new : Configuration = record s.tree { windows = replaced number (retold number g) s.tree.windows } in
    let here : leaf_at number new.windows ≡ option_map g (leaf_at number s.tree.windows)
    = leaf-replaced number number (retold number g) g s.tree.windows
    (λ mode margins. cond-true (number == number) _ None (eq-eqb number number refl) ∙ ap (λ (x : Leaf). Some x) (both-parts (g (mode, margins)))) (λ ne. absurd (ne refl)) in
    let others : (k : ℕ) → k ≢ number → leaf_at k new.windows ≡ leaf_at k s.tree.windows
    = λ k q. leaf-other number k (retold number g) s.tree.windows q (λ mode margins. cond-false (number == k) _ None (ne_eqb number k (λ p. q (sym p)))) in
    subst IsValid (ap (λ (x : Configuration). record s { tree = x; windows = changed_under number f s.windows }) is.1)
    (with_windows s new (changed_under number f s.windows) s.selected v
    (windows-changed s.buffers s.tree new s.windows s.selected number f (subst tree.IsValid (sym is.1) is.0)
    (here ∙ (ap (option_map g) (v.windows.leaves number) ∙ map-map leaf_of g (λ w. leaf_of (f w)) (window_of number s.windows) gives)) others (λ w lives old. keep w old) v.windows)
    refl refl))

pub mode_lining-valid : (s : StateValue) (number : ℕ) (format : Option (List ℕ)) → IsValid s → IsFormat format → IfOk (mode_lining s number format) IsValid
mode_lining-valid s number format v form =
    let shown = is_some format in
    found IsValid _ (window_of number s.windows) _
    (λ w lives. unless IsValid (format_fault format) _
    (λ good. retold-valid s number (λ old. record old { format = format }) (λ x. (shown, x.1)) (mode_tree s.tree number shown) v
    (λ d at. (mode_keeps s.tree d number shown v.windows.tree at, (mode-means s.tree d number shown at).2)) (λ x. refl)
    (λ x old. window-still s.buffers (record x { format = format }) old.made old.point old.anchor old.pending old.hscroll (format-in-form format form good) old.numbers old.strings)))

pub margining-valid : (s : StateValue) (number numbers strings : ℕ) → IsValid s → numbers ≤ NUMBER_COLUMNS → strings ≤ STRING_COLUMNS → IfOk (margining s number numbers strings) IsValid
margining-valid s number numbers strings v few some =
    let columns = numbers + strings in
    found IsValid _ (window_of number s.windows) _
    (λ w lives. retold-valid s number (λ old. record old { numbers = numbers; strings = strings }) (λ x. (x.0, columns)) (margins_tree s.tree number columns) v
    (λ d at. (margins_keeps s.tree d number columns v.windows.tree at, (margins-means s.tree d number columns at).2)) (λ x. refl)
    (λ x old. window-still s.buffers (record x { numbers = numbers; strings = strings }) old.made old.point old.anchor old.pending old.hscroll old.format few some))

-- ---- splits

-- a window that lived before is told as before
split-old : (number k : ℕ) (side : Side) (size made : ℕ) (ws : Windows) → k ≢ made → leaf_at k (split_at number side size made ws) ≡ leaf_at k ws
split-old number k side size made ws q = elim (cases_eq k number) [
  | inl p ↦ ap (λ (x : ℕ). leaf_at x (split_at number side size made ws)) p ∙ (split-same number side size made ws ∙ ap (λ (x : ℕ). leaf_at x ws) (sym p))
  | inr n ↦ split-other number k side size made ws n q
]

split-windows : (s : StateValue) (d : Configuration) (number : ℕ) (side : Side) (size : ℕ) (w copy : WindowState) → IsValid s → tree.IsValid d
    → d.windows ≡ split_at number side size s.tree.made s.tree.windows → window_of number s.windows ≡ Some w → leaf_of copy ≡ leaf_of w → IsWindow s.buffers copy
    → AreWindows s.buffers d (s.windows ++ (s.tree.made, copy) ∷ []) s.selected
split-windows s d number side size w copy v valid is found leaf new =
    let made = s.tree.made in
    let fresh = unmade s made v (omega arith) in
    let other : number ≢ made = λ p. absurd (none-some w (sym fresh ∙ (ap (λ (k : ℕ). window_of k s.windows) (sym p) ∙ found))) in
    record {
      tree = valid;
      leaves = λ k. elim (cases_eq k made) [
        | inl p ↦
            ap (λ (x : ℕ). leaf_at x d.windows) p ∙ (ap (leaf_at made) is
            ∙ (split-new number side size made s.tree.windows other (v.windows.leaves made ∙ ap (option_map leaf_of) fresh)
            ∙ (v.windows.leaves number ∙ (ap (option_map leaf_of) found ∙ (ap (λ (x : Leaf). Some x) (sym leaf)
            ∙ sym (ap (option_map leaf_of) (window-end k s.windows (made, copy)
            ∙ (ap (λ (o : Option WindowState). option_or o (if made == k then Some copy else None)) (ap (λ (x : ℕ). window_of x s.windows) p ∙ fresh)
            ∙ cond-true (made == k) (Some copy) None (eq-eqb made k (sym p))))))))))
        | inr q ↦
            ap (leaf_at k) is ∙ (split-old number k side size made s.tree.windows q
            ∙ (v.windows.leaves k ∙ sym (ap (option_map leaf_of) (window-end k s.windows (made, copy)
            ∙ (ap (option_or (window_of k s.windows)) (cond-false (made == k) (Some copy) None (ne_eqb made k (λ p. q (sym p)))) ∙ or-none (window_of k s.windows))))))
      ];
      apart = apart-end s.windows (made, copy) v.windows.apart fresh;
      each = λ k e h. elim (get-end s.windows (made, copy) k e h) [
        | inl p ↦ v.windows.each k e p
        | inr p ↦ subst (λ (x : NumberedWindow). IsWindow s.buffers x.1) (sym p.1) new
      ];
      selected = subst IsSome (sym (window-end s.selected s.windows (made, copy))) (is_some-or (window_of s.selected s.windows) _ ∙ or_left _ _ v.windows.selected);
    }

copy-keeps : (bs : List BufferValue) (w : WindowState) → IsWindow bs w → IsWindow bs (record w { forced = false; pending = pos 0 })
copy-keeps bs w v = window-still bs (record w { forced = false; pending = pos 0 }) v.made v.point v.anchor none-pending v.hscroll v.format v.numbers v.strings

pub window-valid : (s : StateValue) (number : ℕ) (w : WindowState) → IsValid s → window_of number s.windows ≡ Some w → IsWindow s.buffers w
window-valid s number w v found = let at = get-window number s.windows w found in v.windows.each at.0 (number, w) at.1

pub splitting-valid : (s : StateValue) (number : ℕ) (side : Side) (size : ℕ) → IsValid s → IfOk (splitting s number side size) IsValid
splitting-valid s number side size v =
    found IsValid _ (window_of number s.windows) _
    (λ w lives. tree-if IsValid (split_tree s.tree number side size) _
    (λ d at.
    let is = (split-means s.tree d number side size at).3 in
    let valid = split_keeps s.tree d number side size v.windows.tree at in
    let copy : WindowState = record w { forced = false; pending = pos 0 } in
    let new = split-windows s d number side size w copy v valid (sym (ap (λ (x : Configuration). x.windows) is)) lives refl (copy-keeps s.buffers w (window-valid s number w v lives)) in
    with_windows s d (s.windows ++ (s.tree.made, copy) ∷ []) s.selected v new (sym (ap (λ (x : Configuration). x.width) is)) (sym (ap (λ (x : Configuration). x.height) is))))

-- ---- removals

some-window : (o : Option WindowState) → is_some (option_map leaf_of o) ≡ true → IsSome o
some-window None h = absurd (cc)
some-window (Some w) h = refl

removed-windows : (s : StateValue) (d : Configuration) (number : ℕ) (w : WindowState) → IsValid s → tree.IsValid d → holds number s.tree.windows ≡ true → is_single s.tree.windows ≡ false
    → d.windows ≡ removed number s.tree.windows (frame_of s.tree) → window_of number s.windows ≡ Some w
    → AreWindows s.buffers d (removed_under number s.windows) (if s.selected == number then first_leaf (sibling number s.tree.windows) else s.selected)
removed-windows s d number w v valid there many is found =
    let heir = first_leaf (sibling number s.tree.windows) in
    let left = removed_under number s.windows in
    let apart : AreApart left = apart-becoming number (λ x. None) s.windows v.windows.apart in
    let leaves : (k : ℕ) → leaf_at k d.windows ≡ option_map leaf_of (window_of k left) = λ k. elim (cases_eq k number) [
      | inl p ↦
          ap (λ (x : ℕ). leaf_at x d.windows) p ∙ (ap (leaf_at number) is
          ∙ (removed-same number s.tree.windows (frame_of s.tree) (v.windows.tree.once number) there many
          ∙ sym (ap (option_map leaf_of) (ap (λ (x : ℕ). window_of x left) p ∙ window-gone number s.windows v.windows.apart))))
      | inr q ↦
          ap (leaf_at k) is ∙ (removed-other number k s.tree.windows (frame_of s.tree) q
          ∙ (v.windows.leaves k ∙ sym (ap (option_map leaf_of) (under-past number k (λ x. None) s.windows (λ e. absurd (q e))))))
    ] in
    record {
      tree = valid;
      leaves = leaves;
      apart = apart;
      each = each-under (IsWindow s.buffers) (IsWindow s.buffers) s.windows left apart (λ k. none-past number k (λ x. None) s.windows)
          (each-without (Hands (IsWindow s.buffers) (IsWindow s.buffers) s.windows) (λ k x lives old. old) number s.windows v.windows.apart) v.windows.each;
      selected = cond_both (s.selected == number) heir s.selected (λ n. IsSome (window_of n left))
          (λ h. some-window (window_of heir left) (sym (ap (λ (o : Option Leaf). is_some o) (leaves heir))
          ∙ (is_some-leaf heir d.windows ∙ (ap (holds heir) is ∙ heir-held number s.tree.windows (frame_of s.tree)))))
          (λ h. subst IsSome (sym (under-past number s.selected (λ x. None) s.windows (λ e. absurd (eqb-false s.selected number h e)))) v.windows.selected);
    }

pub removing-valid : (s : StateValue) (number : ℕ) → IsValid s → IfOk (removing s number) IsValid
removing-valid s number v =
    found IsValid _ (window_of number s.windows) _
    (λ w lives. tree-if IsValid (remove_tree s.tree number) _
    (λ d at.
    let is = remove-means s.tree d number at in
    let valid = remove_keeps s.tree d number v.windows.tree at in
    let chosen = if s.selected == number then first_leaf (sibling number s.tree.windows) else s.selected in
    let new = removed-windows s d number w v valid is.0 is.1 (sym (ap (λ (x : Configuration). x.windows) is.2)) lives in
    with_windows s d (removed_under number s.windows) chosen v new (sym (ap (λ (x : Configuration). x.width) is.2)) (sym (ap (λ (x : Configuration). x.height) is.2))))

-- ---- the frame

pub resizing-valid : (s : StateValue) (width height : ℕ) → IsValid s → LEAST_FRAME_COLUMNS ≤ width → width ≤ FRAME_COLUMNS → LEAST_FRAME_ROWS ≤ height → height ≤ FRAME_ROWS
    → IfOk (on_tree (resize_tree s.tree width (height - 1)) (λ c. record s { tree = c; width = width; height = height })) IsValid
resizing-valid s width height v wide narrow high low =
    tree-if IsValid (resize_tree s.tree width (height - 1)) _
    (λ d at.
    let is = (resize-means s.tree d width (height - 1) at).1 in
    let valid = resize_keeps s.tree d width (height - 1) narrow (omega arith) v.windows.tree at in
    let columns : d.width ≡ width = sym (ap (λ (x : Configuration). x.width) is) in
    let rows : d.height ≡ height - 1 = sym (ap (λ (x : Configuration). x.height) is) in
    let shapes : d.windows ≡ resized s.tree.windows (tree.frame width (height - 1)) = sym (ap (λ (x : Configuration). x.windows) is) in
    with_parts s s.buffers s.objects d s.windows s.selected width height v v.buffers v.objects v.closed
    (windows-over s.buffers s.buffers s.tree d s.windows s.selected s.selected valid (λ k. ap (leaf_at k) shapes ∙ leaf-resized k s.tree.windows (tree.frame width (height - 1)))
    v.windows.selected (λ w old. old) v.windows)
    (record { wide = wide; narrow = narrow; high = high; low = low; columns = columns; rows = omega (arith, rows) }))

pub selecting-valid : (s : StateValue) (number : ℕ) → IsValid s → IfOk (in_window s number (λ w. Ok (record s { selected = number }))) IsValid
selecting-valid s number v =
    found IsValid _ (window_of number s.windows) _
    (λ w lives. with_windows s s.tree s.windows number v
    (windows-over s.buffers s.buffers s.tree s.tree s.windows s.selected number v.windows.tree (λ k. refl) (ap (λ (o : Option WindowState). is_some o) lives) (λ x old. old) v.windows)
    refl refl)
