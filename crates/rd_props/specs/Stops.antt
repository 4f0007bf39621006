-- How far nothing changes.
use Rattle.std.specs.Prelude.{◌≡◌, ◌⊎◌, ℕ, ◌-◌, ◌<◌, ◌≤◌, List, [], Option, Some}
use Rattle.rd_overlays.specs.declared.overlay.Overlay.{Overlay}
use Rattle.rd_overlays.specs.Overlays.{overlay_at}
use Rattle.rd_objects.specs.Things.{ObjectLists}
use Rattle.rd_props.specs.Appearance.{appearance_at}
use Rattle.rd_props.specs.Buffers.{BufferValue}
use Rattle.rd_props.specs.Strings.{strings_at}

-- each property has the same value at two positions
abbrev pub AreSame : (ℕ → ℕ → Option ℕ) → ℕ → ℕ → Type 0
AreSame values p q = (kind : ℕ) → values kind p ≡ values kind q

-- some property has other values at two positions
abbrev pub Differs : (ℕ → ℕ → Option ℕ) → ℕ → ℕ → Type 0
Differs values p q = (kind : ℕ) × (values kind p ≡ values kind q → ⊥)

-- an overlay starts or ends at a position
abbrev pub HasEdge : List (Option Overlay) → ℕ → Type 0
HasEdge slots p = (number : ℕ) × (overlay : Overlay) × (overlay_at slots number ≡ Some overlay) × ((overlay.from ≡ p) ⊎ (overlay.to ≡ p))

-- the first place behind a position where a property changes or an overlay starts or ends, and an end where there is none before it
pub record IsFirstChange (values : ℕ → ℕ → Option ℕ) (slots : List (Option Overlay)) (end pos stop : ℕ) : Type 0 where
  pub later : pos < stop
  pub within : stop ≤ end
  pub same : (p : ℕ) → pos < p → p < stop → AreSame values p pos
  pub no_edge : (p : ℕ) → pos < p → p < stop → HasEdge slots p → ⊥
  pub reason : stop < end → Differs values stop pos ⊎ HasEdge slots stop

-- the last place up to a position where a property changes from the place before or an overlay starts or ends, and a beginning
-- where there is none behind it
pub record IsLastChange (values : ℕ → ℕ → Option ℕ) (slots : List (Option Overlay)) (begin pos stop : ℕ) : Type 0 where
  pub within : begin ≤ stop
  pub before : stop ≤ pos
  pub same : (p : ℕ) → stop ≤ p → p ≤ pos → AreSame values p pos
  pub no_edge : (p : ℕ) → stop < p → p ≤ pos → HasEdge slots p → ⊥
  pub reason : begin < stop → Differs values (stop - 1) pos ⊎ HasEdge slots stop

-- the first place behind a position where a text property changes or an overlay starts or ends, and the end of the accessible
-- text where there is none before it
abbrev pub IsNextStop : BufferValue → ℕ → ℕ → Type 0
IsNextStop s pos stop = IsFirstChange s.properties s.overlays s.text.end pos stop

-- the last place up to a position where a text property changes from the place before or an overlay starts or ends, and the
-- beginning of the accessible text where there is none behind it
abbrev pub IsLastStop : BufferValue → ℕ → ℕ → Type 0
IsLastStop s pos stop = IsLastChange s.properties s.overlays s.text.begin pos stop

-- the positions behind one and before another look like it, and no string of an overlay stands at them
pub record LookAlike (s : BufferValue) (objects : ObjectLists) (pos stop : ℕ) : Type 0 where
  pub appearance : (p : ℕ) → pos < p → p < stop → appearance_at s objects p ≡ appearance_at s objects pos
  pub strings : (p : ℕ) → pos < p → p < stop → strings_at s p ≡ []
