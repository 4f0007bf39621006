-- What stands at a cell of the frame: a part of the window that holds it, or the echo area, and what `hit` makes there.
use Rattle.std.proofs.Common.{◌≡◌, ◌≢◌, inl, inr, ℕ, ◌+◌, ◌-◌, ◌<◌, ◌&&◌, nat_lt, nat_le, Bool, true, false, if◌then◌else◌, is_some, Option, None, Some, Err, List, [], ◌∷◌, sym, ap, refl, ◌∙◌, arith, unwrap_or}
use Rattle.std.proofs.lemmas.Bool.{and_from, and_parts, and_right, both_ways, cases_lt, cond-true, le-leb, le-ltb, lt-ltb, ltb-true}
use Rattle.std.proofs.lemmas.Option.{same_Some}
use Rattle.std.specs.Int.{from_bool}
use Rattle.std.specs.Prelude.{find}
use Rattle.rd_base.proofs.Choices.{none-of}
use Rattle.rd_base.proofs.Lists.{found-passes}
use Rattle.rd_base.specs.Lists.{is_between, total}
use Rattle.rd_frame.specs.Panes.{body_height, body_width}
use Rattle.rd_matrix.specs.Entries.{shown_entries}
use Rattle.rd_script.specs.declared.op.Op.TheVariants.{Hit, Point}
use Rattle.rd_state.proofs.Leaves.{placed-window}
use Rattle.rd_state.specs.States.{StateValue}
use Rattle.rd_state.specs.Steps.{step, with_found}
use Rattle.rd_state.specs.Valid.{IsValid}
use Rattle.rd_state.specs.Windows.{window_of}
use Rattle.rd_state.specs.declared.refused.Refused.TheVariants.{NotShown, NoWindow}
use Rattle.rd_state.specs.declared.window.WindowState.{WindowState}
use Rattle.rd_tree.proofs.Standing.{one_window}
use Rattle.rd_tree.specs.Calls.{frame_of}
use Rattle.rd_tree.specs.Places.{lies_in}
use Rattle.rd_tree.specs.declared.placed.Placed.{Placed}
use Rattle.rd_visual.specs.Hits.{hit_in}
use Rattle.rd_window.specs.declared.layout.Layout.{Layout}
use Rattle.rd_layout.specs.Pointing.{hitting_by, is_shown}
use Rattle.rd_layout.specs.Sessions.{SessionValue, layout_of, session_step}
use Rattle.rd_layout.specs.Since.{IsSession}
use Rattle.rd_layout.specs.Spots.{held_spot, hit_by, shows_by, shows_in, shows_position, spot_at, window_under}
use Rattle.rd_layout.specs.Windows.{place_of, places, window_shape}
use Rattle.rd_layout.specs.declared.spot.Shows.{Shows}
use Rattle.rd_layout.specs.declared.spot.Shows.TheVariants.{Position, NoPosition, Unknown}
use Rattle.rd_layout.specs.declared.spot.Spot.{Spot}
use Rattle.rd_layout.specs.declared.spot.Spot.TheVariants.{Text, Margin, Border, ModeLine, EchoArea}
use Rattle.rd_layout.proofs.Placed.{placed-at}

-- ---- the windows tile the frame but for its last row

-- one of a list passes a test exactly where the count of those that do is not 0
one-counts : {X : Type 0} (x : X) (b : Bool) (o : Option X) (n : ℕ) → is_some o ≡ nat_lt 0 n → is_some (if b then Some x else o) ≡ nat_lt 0 (from_bool b + n)
one-counts x true o n h = sym (lt-ltb 0 (from_bool true + n) (omega arith))
one-counts x false o n h = let same : n ≡ from_bool false + n = omega arith in h ∙ ap (nat_lt 0) same

found-counts : {X : Type 0} (p : X → Bool) (xs : List X) → is_some (find p xs) ≡ nat_lt 0 (total (λ x. from_bool (p x)) xs)
found-counts p [] = refl
found-counts p (x ∷ xs) = one-counts x (p x) (find p xs) (total (λ y. from_bool (p y)) xs) (found-counts p xs)

counts-once : (b : Bool) → nat_lt 0 (from_bool b) ≡ b
counts-once true = refl
counts-once false = refl

module _ (s : StateValue) (valid : IsValid s) (row column : ℕ) where
  -- a cell is held by a window exactly where it lies in the rectangle that they share
  held : is_some (window_under row column s) ≡ lies_in column row (frame_of s.tree)
  held =
      found-counts (λ (place : Placed). lies_in column row place.rect) (places s)
      ∙ (ap (nat_lt 0) (one_window s.tree.windows (frame_of s.tree) valid.windows.tree.room column row) ∙ counts-once (lies_in column row (frame_of s.tree)))

  -- below the windows no window holds a cell, and above the last row one does
  none-below : row + 1 ≡ s.height → window_under row column s ≡ None
  none-below last =
      let past : nat_lt row (0 + s.tree.height) ≡ false = le-ltb row (0 + s.tree.height) (omega (arith, last, valid.frame.rows)) in
      let low = and_right (is_between 0 (0 + s.tree.width) column) (is_between 0 (0 + s.tree.height) row) (and_right (nat_le 0 row) (nat_lt row (0 + s.tree.height)) past) in
      none-of (window_under row column s) (held ∙ low)

  one-above : row + 1 < s.height → column < s.width → is_some (window_under row column s) ≡ true
  one-above above within =
      let high = lt-ltb row (0 + s.tree.height) (omega (arith, above, valid.frame.rows)) in
      let wide = lt-ltb column (0 + s.tree.width) (omega (arith, within, valid.frame.columns)) in
      held ∙ and_from (is_between 0 (0 + s.tree.width) column) (is_between 0 (0 + s.tree.height) row)
      (and_from (nat_le 0 column) (nat_lt column (0 + s.tree.width)) (le-leb 0 column (omega arith)) wide)
      (and_from (nat_le 0 row) (nat_lt row (0 + s.tree.height)) (le-leb 0 row (omega arith)) high)

-- ---- what is chosen

some-chosen : {X : Type 0} (t : Bool) (x y : X) → (if t then Some x else None) ≡ Some y → (t ≡ true) × (x ≡ y)
some-chosen true x y h = (refl, same_Some x y h)
some-chosen false x y h = absurd (cc)

-- the part of a window of which a cell is one: by whether it stands below the text, in the margins, or in the columns of the text
abbrev part : Bool → Bool → Bool → ℕ → ℕ → ℕ → Shows → Spot
part below aside within n row column shows =
    if below then ModeLine n else (if aside then Margin n else (if within then Text n row column shows else Border n))

part-text : (below aside within : Bool) (n row column : ℕ) (shows : Shows) (window r k : ℕ) (told : Shows) → part below aside within n row column shows ≡ Text window r k told
    → (n ≡ window) × (row ≡ r) × (column ≡ k) × (shows ≡ told)
part-text true aside within n row column shows window r k told h = absurd (cc)
part-text false true within n row column shows window r k told h = absurd (cc)
part-text false false true n row column shows window r k told h = (cc, cc, cc, cc)
part-text false false false n row column shows window r k told h = absurd (cc)

part-window : (below aside within : Bool) (n row column : ℕ) (shows : Shows) → part below aside within n row column shows ≢ EchoArea
part-window true aside within n row column shows h = absurd (cc)
part-window false true within n row column shows h = absurd (cc)
part-window false false true n row column shows h = absurd (cc)
part-window false false false n row column shows h = absurd (cc)

-- ---- the echo area

module _ (v : SessionValue) (session : IsSession v) (row column : ℕ) where
  pub echo-last : column < v.state.width → row + 1 ≡ v.state.height → spot_at v row column ≡ Some EchoArea
  echo-last within last =
      let inside = and_from (nat_lt row v.state.height) (nat_lt column v.state.width) (lt-ltb row v.state.height (omega (arith, last))) (lt-ltb column v.state.width within) in
      cond-true (nat_lt row v.state.height && nat_lt column v.state.width) (Some (held_spot v row column (window_under row column v.state))) None inside
      ∙ ap (λ (o : Option Placed). Some (held_spot v row column o)) (none-below v.state session.state row column last)

  none-held : (o : Option Placed) → held_spot v row column o ≡ EchoArea → is_some o ≡ false
  none-held None h = refl
  none-held (Some place) h =
      let y = row - place.rect.y in
      let x = column - place.rect.x in
      absurd (part-window (nat_le (body_height place) y) (nat_lt x place.margins) (nat_lt (x - place.margins) (body_width v.state.width place)) place.number y (x - place.margins)
      (shows_in v place y (x - place.margins)) h)

  pub echo-alone : spot_at v row column ≡ Some EchoArea → row + 1 ≡ v.state.height
  echo-alone h =
      let is = some-chosen (nat_lt row v.state.height && nat_lt column v.state.width) (held_spot v row column (window_under row column v.state)) EchoArea h in
      let parts = and_parts (nat_lt row v.state.height) (nat_lt column v.state.width) is.0 in
      let low = ltb-true row v.state.height parts.0 in
      let within = ltb-true column v.state.width parts.1 in
      elim (cases_lt (row + 1) v.state.height) [
        | inl above ↦ absurd (both_ways (is_some (window_under row column v.state)) (none-held (window_under row column v.state) is.1) (one-above v.state session.state row column above within))
        | inr last ↦ omega (arith, low, last)
      ]

  -- ---- hits

  chosen-hits : (n : ℕ) (w : WindowState) (t : Bool) (o : Option ℕ) → window_of n v.state.windows ≡ Some w
      → (if t then step v.state (Point n (unwrap_or o w.point)) else Err NotShown) ≡ hit_by v.state n (if t then shows_position o else Unknown)
  chosen-hits n w true (Some pos) lives = refl
  chosen-hits n w true None lives = sym (ap (λ (o : Option WindowState). with_found NoWindow o (λ x. step v.state (Point n x.point))) lives)
  chosen-hits n w false o lives = refl

  shown-hits : (place : Placed) (w : WindowState) (last : Option Layout) (r k : ℕ) → window_of place.number v.state.windows ≡ Some w
      → hitting_by v.state place.number w last (Some place) r k ≡ hit_by v.state place.number (shows_by v.state place (Some w) last r k)
  shown-hits place w None r k lives = refl
  shown-hits place w (Some l) r k lives = chosen-hits place.number w (is_shown l (window_shape v.state w place) (body_height place)) (hit_in (shown_entries l.matrix) r k) lives

  -- a hit at a cell of the text of a window that has a place
  place-hits : (place : Placed) (r k : ℕ) → place_of place.number v.state ≡ Some place → session_step v (Hit place.number r k) ≡ hit_by v.state place.number (shows_in v place r k)
  place-hits place r k stands =
      let n = place.number in
      let s = v.state in
      let last = layout_of n v.layouts in
      let w = placed-window s n place session.state stands in
      ap (λ (o : Option WindowState). with_found NoWindow o (λ x. hitting_by s n x last (place_of n s) r k)) w.1
      ∙ (ap (λ (p : Option Placed). hitting_by s n w.0 last p r k) stands
      ∙ (shown-hits place w.0 last r k w.1 ∙ sym (ap (λ (o : Option WindowState). hit_by s n (shows_by s place o last r k)) w.1)))

  held-hits : (window r k : ℕ) (shows : Shows) (o : Option Placed) → window_under row column v.state ≡ o → held_spot v row column o ≡ Text window r k shows
      → session_step v (Hit window r k) ≡ hit_by v.state window shows
  held-hits window r k shows None at h = absurd (cc)
  held-hits window r k shows (Some place) at h =
      let y = row - place.rect.y in
      let x = column - place.rect.x in
      let is =
      part-text (nat_le (body_height place) y) (nat_lt x place.margins) (nat_lt (x - place.margins) (body_width v.state.width place)) place.number y (x - place.margins)
      (shows_in v place y (x - place.margins)) window r k shows h in
      let found = found-passes (λ (p : Placed). lies_in column row p.rect) (places v.state) place at in
      let stands = placed-at v.state session.state found.1 place found.2 in
      sym (λ i. session_step v (Hit (is.0 i) (is.1 i) (is.2 i))) ∙ (place-hits place y (x - place.margins) stands ∙ (λ i. hit_by v.state (is.0 i) (is.3 i)))

  pub spot-hits : (window r k : ℕ) (shows : Shows) → spot_at v row column ≡ Some (Text window r k shows) → session_step v (Hit window r k) ≡ hit_by v.state window shows
  spot-hits window r k shows h =
      let is = some-chosen (nat_lt row v.state.height && nat_lt column v.state.width) (held_spot v row column (window_under row column v.state)) (Text window r k shows) h in
      held-hits window r k shows (window_under row column v.state) refl is.1
