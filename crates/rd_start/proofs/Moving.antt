-- What is asked of the rows near a window, and what is chosen from them.
use Rattle.std.proofs.Common.{◌≡◌, ℕ, ◌+◌, ◌-◌, ◌*◌, ◌/◌, ◌<◌, ◌≤◌, inl, inr, Bool, true, false, min, max, List, length, take, drop, Option, None, Some, Result, Ok, Err, refl, sym, ap, subst, subst₂, ◌∙◌, arith}
use Rattle.std.specs.List.{find}
use Rattle.std.specs.Option.{option_map}
use Rattle.std.specs.Prelude.{IfOk}
use Rattle.rd_base.specs.Lists.{moved}
use Rattle.rd_base.specs.declared.memory.Memory.{Memory}
use Rattle.rd_base.specs.declared.settings.Anchor.{Anchor}
use Rattle.rd_matrix.specs.Entries.{EntryMeaning, all_rows}
use Rattle.rd_matrix.specs.Rows.{blocks_with}
use Rattle.rd_matrix.specs.Sources.{SourceValues, costs_of, rows_at}
use Rattle.rd_rows.specs.Shapes.{ShapeValues}
use Rattle.rd_start.specs.Chosen.{anchor_at, chosen_of, forced_point, places_of, row_of}
use Rattle.rd_start.specs.Near.{is_near, near_costs}
use Rattle.rd_start.specs.Starts.{around, centred, following, scrolled, suits}
use Rattle.rd_start.specs.Strips.{Affords, FindsNear, IsFor, IsLaidOut, IsPaid, IsStrip, IsUnsuited, AsksAt, BeginsAbove, Between, all_costs, centred_chosen, count_in, first_row, home_row, moved_row, point_row, rows_in}
use Rattle.rd_start.specs.declared.strip.Edge.TheVariants.{Bottom, Top}
use Rattle.rd_start.specs.declared.strip.Strip.{Strip}
use Rattle.rd_start.specs.declared.strip.Sweep.{Sweep}
use Rattle.rd_start.specs.declared.wanted.Chosen.{Chosen}
use Rattle.rd_start.specs.declared.wanted.Wanted.{Wanted}
use Rattle.rd_start.specs.declared.window.Window.{Window}
use Rattle.rd_start.proofs.Choosing.{chosen-forced, chosen-free, follows-found, follows-none, follows-old}
use Rattle.rd_start.proofs.NearRows.{forced-near, moving-near, old-near, point-near, view-near}
use Rattle.rd_start.proofs.Reaching.{EdgePays, pays}
use Rattle.rd_start.proofs.Suits.{old-is, point-is}

abbrev pub near_of : SourceValues → Sweep → Wanted → ℕ → Bool
near_of m sweep w = is_near w (places_of m sweep.shape w)

pub home-is : (m : SourceValues) (s : Strip) → IsStrip m s → first_row m s + s.home ≡ home_row m s.sweep
home-is m s h = let home = h.home in omega arith

-- the anchor's row is near
pub asks-home : (m : SourceValues) (sweep : Sweep) (w : Wanted) → IsFor w sweep → 1 ≤ w.height → near_of m sweep w (home_row m sweep) ≡ true
asks-home m sweep w of some = ap (near_of m sweep w) (sym (old-is m w sweep of)) ∙ old-near w (places_of m sweep.shape w) some

-- the view from the old start
pub asks-view : (m : SourceValues) (s : Strip) (w : Wanted) → IsStrip m s → IsFor w s.sweep → w.forced ≡ false → AsksAt Bottom (near_of m s.sweep w) m s (s.home + w.height)
asks-view m s w h of free = λ k from to.
    let old = old-is m w s.sweep of in
    let home = h.home in
    let inside = h.inside in
    view-near w (places_of m s.sweep.shape w) k free (omega arith) (omega arith)

-- what a window whose old start does not suit asks of a strip of its sweep
module _ (m : SourceValues) (win : Window) (moves : IsUnsuited m win) (new : Strip) (e : new.sweep ≡ win.strip.sweep) where
  moves-old : suits win.wanted (places_of m win.strip.sweep.shape win.wanted) (places_of m win.strip.sweep.shape win.wanted).old ≡ false
  moves-old =
      ap (suits win.wanted (places_of m win.strip.sweep.shape win.wanted))
      (old-is m win.wanted win.strip.sweep moves.laid.of ∙ sym (home-is m win.strip moves.laid.strip)) ∙ moves.home

  -- the rows as far from the old start as it may be moved, and in the views from there
  near-home : Between (near_of m win.strip.sweep win.wanted) (home_row m new.sweep - win.wanted.conservatively)
      (home_row m new.sweep + win.wanted.conservatively + win.wanted.height + 1)
  near-home = λ k from to.
      let old = old-is m win.wanted win.strip.sweep moves.laid.of in
      let same = ap (home_row m) e in
      moving-near win.wanted (places_of m win.strip.sweep.shape win.wanted) k moves.laid.kind moves-old (omega arith) (omega arith)

  pub asks-far : AsksAt Top (near_of m win.strip.sweep win.wanted) m new win.wanted.conservatively
  asks-far = λ k from to. near-home k from (omega arith)

  pub asks-end : IsStrip m new
      → AsksAt Bottom (near_of m win.strip.sweep win.wanted) m new (new.home + win.wanted.conservatively + win.wanted.height + 1)
  asks-end h = λ k from to. let home = h.home in let inside = h.inside in near-home k (omega arith) (omega arith)

  -- what is asked of a strip round point's row
  pub asks-point : Between (near_of m win.strip.sweep win.wanted) (point_row m new.sweep - win.wanted.height) (point_row m new.sweep + 1)
  asks-point = λ k from to.
      let point = point-is m win.wanted win.strip.sweep moves.laid.of.point in
      let same = ap (point_row m) e in
      point-near win.wanted (places_of m win.strip.sweep.shape win.wanted) k moves.laid.kind moves-old (omega arith) (omega arith)

-- a forced start
scrolled-is : (m : SourceValues) (sweep : Sweep) (w : Wanted) → IsFor w sweep → scrolled w (places_of m sweep.shape w) ≡ moved_row m sweep w.pending
scrolled-is m sweep w of = ap (λ n. min (moved w.pending n) (count_in m sweep m.blocks - 1)) (old-is m w sweep of)

pub asks-scrolled : (m : SourceValues) (sweep : Sweep) (w : Wanted) → IsFor w sweep → w.forced ≡ true → 1 ≤ w.height
    → Between (near_of m sweep w) (min (home_row m sweep) (moved_row m sweep w.pending)) (max (home_row m sweep) (moved_row m sweep w.pending) + 1)
asks-scrolled m sweep w of forced some = λ k from to.
    let old = old-is m w sweep of in
    let new = scrolled-is m sweep w of in
    forced-near w (places_of m sweep.shape w) k forced (omega arith) (omega arith)

pub asks-forced : (m : SourceValues) (sweep : Sweep) (s : Strip) (w : Wanted) (start : ℕ) → IsStrip m s → s.sweep ≡ sweep → IsFor w sweep → w.forced ≡ true → start < length s.strip_rows.items
    → first_row m s + start ≡ moved_row m sweep w.pending → AsksAt Bottom (near_of m sweep w) m s (start + w.height)
asks-forced m sweep s w start h e of forced inside place = λ k from to.
    let old = old-is m w sweep of in
    let new = scrolled-is m sweep w of in
    let same = ap (home_row m) e in
    forced-near w (places_of m sweep.shape w) k forced (omega arith) (omega arith)

-- what is chosen for a window whose start is forced
pub value-forced : (m : SourceValues) (sweep : Sweep) (s : Strip) (w : Wanted) (start p : ℕ) (anchor : Anchor) → s.sweep ≡ sweep → IsFor w sweep → w.forced ≡ true
    → first_row m s + start ≡ moved_row m sweep w.pending
    → anchor ≡ anchor_at (all_rows (rows_in m s.sweep) m.blocks) (first_row m s + start)
    → p ≡ forced_point w (first_row m s + start) (point_row m s.sweep) (take w.height (drop (first_row m s + start) (all_rows (rows_in m s.sweep) m.blocks)))
    → record { anchor = anchor; point = p } ≡ chosen_of m sweep.shape w
value-forced m sweep s w start p anchor e of forced place here point =
    let at = places_of m sweep.shape w in
    let j = first_row m s + start in
    let rows = ap (λ (x : Sweep). all_rows (rows_in m x) m.blocks) e in
    let row = ap (point_row m) e ∙ sym (point-is m w sweep of.point) in
    let there : p ≡ forced_point w j at.point (take w.height (drop j (rows_at m sweep.shape))) =
    point ∙ (ap (λ n. forced_point w j n (take w.height (drop j (all_rows (rows_in m s.sweep) m.blocks)))) row
    ∙ ap (λ (ys : List EntryMeaning). forced_point w j at.point (take w.height (drop j ys))) rows) in
    let named : anchor ≡ anchor_at (rows_at m sweep.shape) j = here ∙ ap (λ (ys : List EntryMeaning). anchor_at ys j) rows in
    ap (λ (a : Anchor). record { anchor = a; point = p }) named
    ∙ chosen-forced m sweep.shape w j p forced (scrolled-is m sweep w of ∙ sym place) there

pub value-free : (m : SourceValues) (sweep : Sweep) (s : Strip) (w : Wanted) (place : ℕ) (chosen : Chosen) → s.sweep ≡ sweep → w.forced ≡ false
    → following w (places_of m sweep.shape w) ≡ first_row m s + place
    → chosen ≡ record { anchor = anchor_at (all_rows (rows_in m s.sweep) m.blocks) (first_row m s + place); point = w.point } → chosen ≡ chosen_of m sweep.shape w
value-free m sweep s w place chosen e free follows is =
    let rows = ap (λ (x : Sweep). all_rows (rows_in m x) m.blocks) e in
    is ∙ (ap (λ (ys : List EntryMeaning). record { anchor = anchor_at ys (first_row m s + place); point = w.point }) rows
    ∙ chosen-free m sweep.shape w (first_row m s + place) free follows)

-- the old row is the strip's home, so what is found from there is found from the old row
module _ (m : SourceValues) (sweep : Sweep) (s : Strip) (w : Wanted) (h : IsStrip m s) (e : s.sweep ≡ sweep) (of : IsFor w sweep) where
  old-home : (places_of m sweep.shape w).old ≡ first_row m s + s.home
  old-home = old-is m w sweep of ∙ (sym (ap (home_row m) e) ∙ sym (home-is m s h))

  pub follows-home : suits w (places_of m sweep.shape w) (first_row m s + s.home) ≡ true → following w (places_of m sweep.shape w) ≡ first_row m s + s.home
  follows-home here = follows-old w (places_of m sweep.shape w) (ap (suits w (places_of m sweep.shape w)) old-home ∙ here) ∙ old-home

  found-near : (o found : Option ℕ) → o ≡ found → FindsNear m (record { wanted = w; strip = s }) o
      → find (suits w (places_of m sweep.shape w)) (around (places_of m sweep.shape w).old w.conservatively)
      ≡ option_map (λ n. first_row m s + n) found
  found-near o found is near =
      ap (λ n. find (suits w (places_of m sweep.shape w)) (around n w.conservatively)) old-home
      ∙ (ap (λ (x : Sweep). find (suits w (places_of m x.shape w)) (around (first_row m s + s.home) w.conservatively)) (sym e)
      ∙ (sym near ∙ ap (option_map (λ n. first_row m s + n)) is))

  pub follows-near : (o : Option ℕ) (place : ℕ) → o ≡ Some place → FindsNear m (record { wanted = w; strip = s }) o
      → following w (places_of m sweep.shape w) ≡ first_row m s + place
  follows-near o place is near = follows-found w (places_of m sweep.shape w) (first_row m s + place) (found-near o (Some place) is near)

  pub follows-centre : (o : Option ℕ) → o ≡ None → FindsNear m (record { wanted = w; strip = s }) o
      → following w (places_of m sweep.shape w) ≡ centred w (places_of m sweep.shape w)
  follows-centre o is near = follows-none w (places_of m sweep.shape w) (found-near o None is near)

value-centred : (m : SourceValues) (sweep : Sweep) (s : Strip) (w : Wanted) (chosen : Chosen) → s.sweep ≡ sweep → w.forced ≡ false
    → following w (places_of m sweep.shape w) ≡ centred w (places_of m sweep.shape w) → chosen ≡ centred_chosen m s.sweep.shape w → chosen ≡ chosen_of m sweep.shape w
value-centred m sweep s w chosen e free follows is =
    is ∙ (ap (λ (x : Sweep). centred_chosen m x.shape w) e ∙ chosen-free m sweep.shape w (centred w (places_of m sweep.shape w)) free follows)

-- sweeps for one point at one shape
pub points-same : (m : SourceValues) (a b : Sweep) → b.point ≡ a.point → b.shape ≡ a.shape → point_row m b ≡ point_row m a
points-same m a b e f = ap (λ p. row_of p (rows_at m b.shape)) e ∙ ap (λ (x : ShapeValues). row_of a.point (rows_at m x)) f

pub costs-same : (kind : ℕ → Bool) (m : SourceValues) (a b : Sweep) → b.shape ≡ a.shape → all_costs kind m b ≡ all_costs kind m a
costs-same kind m a b f = ap (λ (x : ShapeValues). costs_of (λ c. m.cost_of c x) (blocks_with kind (λ c. m.rows_of c x) 0 m.blocks)) f

-- the rows above point's
pub asks-above : (kind : ℕ → Bool) (m : SourceValues) (old : Sweep) (s : Strip) (w : Wanted) (row half up : ℕ) → IsStrip m s → row < length s.strip_rows.items → first_row m s + row ≡ point_row m s.sweep
    → half ≤ w.height → up ≡ s.home + half - row → s.sweep.point ≡ old.point → s.sweep.shape ≡ old.shape → Between kind (point_row m old - w.height) (point_row m old + 1) → AsksAt Top kind m s up
asks-above kind m old s w row half up h inside place low is point shape asks = λ k from to.
    let home = h.home in
    let same = points-same m old s.sweep point shape in
    asks k (omega arith) (omega arith)

pub centre-place : (m : SourceValues) (s new : Strip) (row half : ℕ) → IsStrip m s → IsStrip m new → new.sweep ≡ s.sweep → row < length s.strip_rows.items → first_row m s + row ≡ point_row m s.sweep
    → length new.strip_rows.items + s.home ≡ length s.strip_rows.items + new.home → s.home ≤ new.home → BeginsAbove m new (s.home + half - row)
    → (row + (new.home - s.home) - half < length new.strip_rows.items) × (first_row m new + (row + (new.home - s.home) - half) ≡ point_row m s.sweep - half)
centre-place m s new row half h i e inside place grows higher begins =
    let home = h.home in
    let now = i.home in
    let same = ap (home_row m) e in
    (omega arith, elim begins [ inl far ↦ omega arith | inr text ↦ omega arith ])

pub value-centre : (m : SourceValues) (shape : ShapeValues) (s new : Strip) (w : Wanted) (place : ℕ) (chosen : Chosen) → new.sweep ≡ s.sweep → s.sweep.shape ≡ shape → s.sweep.point ≡ w.point
    → first_row m new + place ≡ point_row m s.sweep - w.height / 2
    → chosen ≡ record { anchor = anchor_at (all_rows (rows_in m new.sweep) m.blocks) (first_row m new + place); point = w.point } → chosen ≡ centred_chosen m shape w
value-centre m shape s new w place chosen e f point row is =
    let rows = ap (λ (x : Sweep). all_rows (rows_in m x) m.blocks) e ∙ ap (rows_at m) f in
    let there : first_row m new + place ≡ centred w (places_of m shape w) =
    row ∙ ap (λ n. n - w.height / 2) (ap (λ p. row_of p (all_rows (rows_in m s.sweep) m.blocks)) point ∙ ap (λ (x : ShapeValues). row_of w.point (rows_at m x)) f) in
    is ∙ (ap (λ (ys : List EntryMeaning). record { anchor = anchor_at ys (first_row m new + place); point = w.point }) rows
    ∙ ap (λ n. record { anchor = anchor_at (rows_at m shape) n; point = w.point }) there)

-- what was paid for a strip of a window, by the rows near it
abbrev pub NearPaid : SourceValues → Window → Strip → ℕ → ℕ → Type 0
NearPaid m win s base steps = IsPaid (near_of m win.strip.sweep win.wanted) base m s steps

pub spent-near : (m : SourceValues) (win : Window) (s : Strip) (base steps : ℕ) → s.sweep ≡ win.strip.sweep → NearPaid m win s base steps
    → steps ≤ base + 2 * near_costs m win.strip.sweep.shape win.wanted
spent-near m win s base steps same paid = let bound = pays (near_of m win.strip.sweep win.wanted) base m win.strip.sweep s steps same paid in omega (arith, bound)

-- a window whose strip grew
pub laid-on : (m : SourceValues) (win : Window) (forced : Bool) (new : Strip) → IsLaidOut m win forced → IsStrip m new → new.sweep ≡ win.strip.sweep
    → IsLaidOut m (record { wanted = win.wanted; strip = new }) forced
laid-on m win forced new laid strip same = record { strip = strip; of = subst (IsFor win.wanted) (sym same) laid.of; height = laid.height; kind = laid.kind }

pub unsuited-on : (m : SourceValues) (win : Window) (new : Strip) → IsUnsuited m win → IsStrip m new → new.sweep ≡ win.strip.sweep → IsUnsuited m (record { wanted = win.wanted; strip = new })
unsuited-on m win new moves strip same =
    let w = win.wanted in
    let place = home-is m new strip ∙ (ap (home_row m) same ∙ sym (home-is m win.strip moves.laid.strip)) in
    record {
      laid = laid-on m win false new moves.laid strip same;
      home = ap (λ (x : Sweep). suits w (places_of m x.shape w) (first_row m new + new.home)) same ∙ (ap (suits w (places_of m win.strip.sweep.shape w)) place ∙ moves.home);
    }

-- what is asked of a strip: rows as far above the old start as that may be moved, and then below it
pub far-above : (m : SourceValues) (win : Window) (up : Strip) (n steps base : ℕ) → IsUnsuited m win → EdgePays Top m win.strip up n steps win.wanted.conservatively → NearPaid m win win.strip base n
    → NearPaid m win up base steps
far-above m win up n steps base moves pays paid =
    pays (near_of m win.strip.sweep win.wanted) base paid (asks-far m win moves win.strip refl)

pub far-below : (m : SourceValues) (win : Window) (up : Strip) (home : ℕ) → IsUnsuited m win → IsStrip m up → up.sweep ≡ win.strip.sweep → home ≡ up.home
    → AsksAt Bottom (near_of m win.strip.sweep win.wanted) m up (home + win.wanted.conservatively + win.wanted.height + 1)
far-below m win up home moves strip same is =
    subst (λ n. AsksAt Bottom (near_of m win.strip.sweep win.wanted) m up (n + win.wanted.conservatively + win.wanted.height + 1)) (sym is)
    (asks-end m win moves up same strip)

-- the view from the old start
pub view-below : (m : SourceValues) (win : Window) (home : ℕ) → IsLaidOut m win false → home ≡ win.strip.home → AsksAt Bottom (near_of m win.strip.sweep win.wanted) m win.strip (home + win.wanted.height)
view-below m win home laid is =
    subst (λ n. AsksAt Bottom (near_of m win.strip.sweep win.wanted) m win.strip (n + win.wanted.height)) (sym is) (asks-view m win.strip win.wanted laid.strip laid.of laid.kind)

-- by a later source and a strip that grew, a window has as many steps left, and the same is chosen, as by the first
pub affords-same : (times : ℕ) (m other : SourceValues) (sweep : Sweep) (w : Wanted) (s : Strip) (n steps base : ℕ) → other ≡ m → s.sweep ≡ sweep
    → Affords times other s.sweep.shape w s n steps → IsPaid (near_of m sweep w) base m s n → steps ≤ base + times * near_costs m sweep.shape w
affords-same times m other sweep w s n steps base stays same afforded =
    subst₂ (λ (y : SourceValues) (z : Sweep). Affords times y z.shape w s n steps) stays same afforded base

pub chosen-same : (m other : SourceValues) (sweep : Sweep) (s : Strip) (w : Wanted) (r : Result Chosen Memory) → other ≡ m → s.sweep ≡ sweep
    → IfOk r (λ chosen. chosen ≡ chosen_of other s.sweep.shape w) → IfOk r (λ chosen. chosen ≡ chosen_of m sweep.shape w)
chosen-same m other sweep s w r = subst₂ (λ (y : SourceValues) (z : Sweep). IfOk r (λ (chosen : Chosen). chosen ≡ chosen_of y z.shape w))

pub first-same : (m : SourceValues) (s new : Strip) → new.sweep ≡ s.sweep → new.home ≡ s.home → first_row m new ≡ first_row m s
first-same m s new e f = ap (λ (x : Sweep). home_row m x - new.home) e ∙ ap (λ n. home_row m s.sweep - n) f

abbrev pub CentredPays : SourceValues → Strip → Wanted → ℕ → ℕ → Type 0
CentredPays m s w n steps = (kind : ℕ → Bool) (base : ℕ) → IsPaid kind base m s n → Between kind (point_row m s.sweep - w.height) (point_row m s.sweep + 1) → steps ≤ base + 2 * all_costs kind m s.sweep

pub result-centred : (r : Result Chosen Memory) (m : SourceValues) (sweep : Sweep) (s : Strip) (w : Wanted) → s.sweep ≡ sweep → w.forced ≡ false
    → following w (places_of m sweep.shape w) ≡ centred w (places_of m sweep.shape w) → IfOk r (λ chosen. chosen ≡ centred_chosen m s.sweep.shape w) → IfOk r (λ chosen. chosen ≡ chosen_of m sweep.shape w)
result-centred (Ok chosen) m sweep s w e free follows is = value-centred m sweep s w chosen e free follows is
result-centred (Err x) m sweep s w e free follows is = tt
