-- Values that overlays give a position. A function says which value the overlay of a number has.
use Rattle.std.specs.Prelude.{◌≡◌, ◌⊎◌, ℕ, true, List, [], ◌∷◌, Option, None, Some}
use Rattle.std.specs.Option.{option_or}
use Rattle.rd_overlays.specs.declared.overlay.Overlay.{Overlay}
use Rattle.rd_overlays.specs.Listings.{rank_of}
use Rattle.rd_overlays.specs.Overlays.{overlay_at, covers, precedes}

-- the value of the last of these overlays that has one
abbrev pub last_given : (ℕ → Option ℕ) → List ℕ → Option ℕ
last_given value [] = None
last_given value (number ∷ numbers) = option_or (last_given value numbers) (value number)

-- the overlay of a number lives, covers a position and has this value
pub record Gives (value : ℕ → Option ℕ) (slots : List (Option Overlay)) (pos number : ℕ) (overlay : Overlay) (given : ℕ) : Type 0 where
  pub lives : overlay_at slots number ≡ Some overlay
  pub covers : covers pos overlay ≡ true
  pub has : value number ≡ Some given

-- of all overlays that cover a position and have a value this is the greatest, by priority and number
pub record IsGreatest (value : ℕ → Option ℕ) (slots : List (Option Overlay)) (pos number : ℕ) (overlay : Overlay) (given : ℕ) : Type 0 where
  pub gives : Gives value slots pos number overlay given
  pub last : (other : ℕ) (o : Overlay) (v : ℕ) → Gives value slots pos other o v → (other ≡ number) ⊎ (precedes (rank_of other o) (rank_of number overlay) ≡ true)
