-- What a redisplay does, and what it costs.
use Rattle.std.specs.Prelude.{◌≡◌, ℕ, ◌+◌, ◌==◌, Bool, true, false, if◌then◌else◌, Option, None, Some, List, [], ◌∷◌, flat_map}
use Rattle.std.specs.Io.KnownBytes.{Appends}
use Rattle.rd_ucd.specs.Data.{Data}
use Rattle.rd_frame.specs.Panes.{body_height}
use Rattle.rd_io.specs.Devices.{AppendsFront}
use Rattle.rd_lineshift.specs.Plans.{shifted_update}
use Rattle.rd_lineshift.specs.declared.band.Band.{Band}
use Rattle.rd_state.specs.States.{StateValue}
use Rattle.rd_state.specs.Windows.{window_of}
use Rattle.rd_state.specs.declared.window.WindowState.{WindowState}
use Rattle.rd_tree.specs.declared.placed.Placed.{Placed}
use Rattle.rd_update.specs.Updates.{Update}
use Rattle.rd_window.specs.Layouts.{IsLaidOut, allowance}
use Rattle.rd_window.specs.declared.layout.Layout.{Layout}
use Rattle.rd_layout.specs.Screens.{laid_out}
use Rattle.rd_layout.specs.Sessions.{SessionValue, layout_of}
use Rattle.rd_layout.specs.Windows.{places, wanted_of, window_shape, window_source}
use Rattle.rd_layout.specs.declared.outcome.Outcome.{Outcome}
use Rattle.rd_layout.specs.declared.outcome.Outcome.TheVariants.{Shown, Stopped, NoMemory, WriteFault}

-- ---- the update

-- the text rows of a window that is as wide as the frame, with their margins
abbrev pub band_of : ℕ → Placed → List Band
band_of width place = if place.rect.width == width then record { top = place.rect.y; height = body_height place } ∷ [] else []

-- the bands of rows that the terminal may shift, in leaf order, where it may
abbrev pub bands_of : StateValue → List Band
bands_of s = if s.shifting then flat_map (band_of s.width) (places s) else []

-- the update of a redisplay that stops after so many rows, where a number is given
abbrev pub update_of : SessionValue → Option ℕ → Update
update_of v stop = shifted_update v.current (laid_out v.files v.state).picture (bands_of v.state) stop

-- how a redisplay ends whose update was sent: all rows that differ, or as many as were asked for
abbrev pub outcome_of : Bool → ℕ → Outcome
outcome_of done rows = if done then Shown rows else Stopped rows

-- ---- the layouts

-- a window that lives was laid out anew, or its last layout stays
abbrev pub IsLaidOutBy : Data → StateValue → Option Layout → Placed → Option WindowState → Layout → Type 0
IsLaidOutBy files s last place None new = ⊥
IsLaidOutBy files s last place (Some w) new = IsLaidOut last (window_source files s w) (window_shape s w place) (wanted_of s w place) new

-- the windows at these places were laid out, one behind the other
abbrev pub AreLaidOut : SessionValue → List Placed → List (ℕ × Layout) → Type 0
AreLaidOut v [] [] = Unit {0}
AreLaidOut v (place ∷ places) (e ∷ es) =
    (e.0 ≡ place.number) × IsLaidOutBy v.files v.state (layout_of place.number v.layouts) place (window_of place.number v.state.windows) e.1 × AreLaidOut v places es
AreLaidOut v _ _ = ⊥

-- ---- the outcome

-- A redisplay whose update was sent as far as it goes: the state and the current screen are those that the rules give from nothing,
-- each window has a new last layout, and the bytes of the update were sent.
pub record IsSent (rows : ℕ) (done : Bool) (stop : Option ℕ) (old new : SessionValue) (before after : Option (List ℕ)) : Type 0 where
  pub files : new.files ≡ old.files
  pub state : new.state ≡ (laid_out old.files old.state).state
  pub current : new.current ≡ Some (update_of old stop).screen
  pub layouts : AreLaidOut old (places old.state) new.layouts
  pub bytes : Appends before after (update_of old stop).bytes
  pub count : rows ≡ (update_of old stop).rows
  pub whole : (update_of old stop).done ≡ done

-- What a redisplay does. Where it was not sent the screen is unknown from then on and all else is as it was: without memory no byte
-- was sent, and after a write fault a front of the update.
abbrev pub Redisplayed : Outcome → Option ℕ → SessionValue → SessionValue → Option (List ℕ) → Option (List ℕ) → Type 0
Redisplayed (Shown rows) stop old new before after = IsSent rows true stop old new before after
Redisplayed (Stopped rows) stop old new before after = IsSent rows false stop old new before after
Redisplayed NoMemory stop old new before after = (new ≡ record old { current = None }) × Appends before after []
Redisplayed WriteFault stop old new before after = (new ≡ record old { current = None }) × AppendsFront before after (update_of old stop).bytes

-- ---- the allowance

abbrev pub allowance_by : Data → StateValue → Option Layout → Placed → Option WindowState → ℕ
allowance_by files s last place None = 0
allowance_by files s last place (Some w) = allowance last (window_source files s w) (window_shape s w place) (wanted_of s w place)

abbrev pub allowances : SessionValue → List Placed → ℕ
allowances v [] = 0
allowances v (place ∷ places) =
    allowance_by v.files v.state (layout_of place.number v.layouts) place (window_of place.number v.state.windows) + allowances v places

-- how many elements a redisplay may place
abbrev pub allowed : SessionValue → ℕ
allowed v = allowances v (places v.state)
