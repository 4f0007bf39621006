-- The windows of a frame, in their order and by their numbers.
use Rattle.std.proofs.Common.{◌≡◌, inl, inr, ℕ, ◌+◌, ◌-◌, ◌<◌, ◌≤◌, ◌==◌, Bool, true, false, if◌then◌else◌, Option, None, Some, List, [], ◌∷◌, ◌++◌, get_or, length, map, unwrap_or, sym, ap, refl, ◌∙◌, arith}
use Rattle.std.proofs.lemmas.Bool.{cases_lt}
use Rattle.std.proofs.lemmas.List.{length-map}
use Rattle.std.proofs.lemmas.List.Elements.{All-from_get_or, All-nil, recursion_from_All}
use Rattle.std.proofs.lemmas.Option.{none-some, slice_get-get_or, slice_get-map}
use Rattle.std.specs.List.{All, AllByRecursion, flat_map}
use Rattle.std.specs.Prelude.{slice_get, option_map}
use Rattle.rd_base.proofs.Choices.{either}
use Rattle.rd_base.proofs.Lists.{all-one}
use Rattle.rd_frame.specs.Panes.{body_height}
use Rattle.rd_lineshift.specs.Choices.{AreWithin}
use Rattle.rd_lineshift.specs.declared.band.Band.{Band}
use Rattle.rd_start.proofs.Lists.{all-flat}
use Rattle.rd_state.proofs.Leaves.{placed-window, unmade}
use Rattle.rd_state.specs.States.{StateValue, opening_window}
use Rattle.rd_state.specs.Valid.{IsValid}
use Rattle.rd_state.specs.Windows.{window_of}
use Rattle.rd_state.specs.declared.window.WindowState.{WindowState}
use Rattle.rd_tree.specs.Calls.{frame_of}
use Rattle.rd_tree.proofs.Listing.{listed_found}
use Rattle.rd_tree.proofs.Standing.{stands_in}
use Rattle.rd_tree.specs.declared.placed.Placed.{Placed}
use Rattle.rd_layout.specs.Redisplays.{band_of, bands_of}
use Rattle.rd_layout.specs.Windows.{of_place, of_window, of_windows, place_of, places}

-- ---- the windows of a state

module _ (s : StateValue) (valid : IsValid s) where
  pub placed-at : (i : ℕ) (p : Placed) → slice_get (places s) i ≡ Some p → place_of p.number s ≡ Some p
  placed-at i p at = listed_found s.tree.windows (frame_of s.tree) valid.windows.tree.once i p at

  none : Placed
  none = record { number = 0; mode = false; margins = 0; rect = record { x = 0; y = 0; width = 0; height = 0 } }

  -- what holds of each window that is found by its number holds of all
  pub all-places : (P : Placed → Type 0) → ((p : Placed) → place_of p.number s ≡ Some p → P p) → All P (places s)
  all-places P each = All-from_get_or P (places s) none (λ i less. each (get_or (places s) i none) (placed-at i (get_or (places s) i none) (slice_get-get_or (places s) i none less)))

  -- what is shown of each window, in the order of their places
  module _ {B : Type 0} (one : Placed → WindowState → B) where
    abbrev pub each-one : Placed → B
    each-one p = one p (unwrap_or (window_of p.number s.windows) opening_window)

    abbrev pub IsOne : Placed → Type 0
    IsOne p = of_place one s p ≡ each-one p ∷ []

    pub shown-listed : of_windows one s ≡ map each-one (places s)
    shown-listed = by (places s) (recursion_from_All IsOne (places s) (all-places IsOne (λ p at.
        let w = placed-window s p.number p valid at in
        ap (of_window one p) w.1 ∙ ap (λ (o : Option WindowState). one p (unwrap_or o opening_window) ∷ []) (sym w.1))))
      where
        by : (ps : List Placed) → AllByRecursion IsOne ps → flat_map (of_place one s) ps ≡ map each-one ps
        by [] h = refl
        by (p ∷ ps) h = ap (λ (ys : List B). ys ++ flat_map (of_place one s) ps) h.0 ∙ ap (λ (ys : List B). each-one p ∷ ys) (by ps h.1)

    pub shown-at : (i : ℕ) (p : Placed) (w : WindowState) → slice_get (places s) i ≡ Some p → window_of p.number s.windows ≡ Some w → slice_get (of_windows one s) i ≡ Some (one p w)
    shown-at i p w at window =
        ap (λ (bs : List B). slice_get bs i) shown-listed
        ∙ (slice_get-map each-one (places s) i ∙ (ap (option_map each-one) at ∙ ap (λ (o : Option WindowState). Some (one p (unwrap_or o opening_window))) window))

    pub none-shown : (i : ℕ) → slice_get (places s) i ≡ None → slice_get (of_windows one s) i ≡ None
    none-shown i past = ap (λ (bs : List B). slice_get bs i) shown-listed ∙ (slice_get-map each-one (places s) i ∙ ap (option_map each-one) past)

    pub shown-count : length (of_windows one s) ≡ length (places s)
    shown-count = ap length shown-listed ∙ length-map (places s) each-one

  pub made-number : (number : ℕ) (p : Placed) → place_of number s ≡ Some p → number < s.tree.made
  made-number number p at = elim (cases_lt number s.tree.made) as (λ _. number < s.tree.made) [
    | inl made ↦ made
    | inr past ↦ let w = placed-window s number p valid at in absurd (none-some w.0 (sym (unmade s number valid past) ∙ w.1))
  ]

  -- ---- bands

  body-fits : (mode : Bool) (y height frame whole : ℕ) → y + height ≤ frame → frame + 1 ≡ whole → y + (height - (if mode then 1 else 0)) ≤ whole
  body-fits true y height frame whole h e = omega arith
  body-fits false y height frame whole h e = omega arith

  abbrev InFrame : Band → Type 0
  InFrame band = band.top + band.height ≤ s.height

  band-fits : (p : Placed) → place_of p.number s ≡ Some p → All InFrame (band_of s.width p)
  band-fits p at =
      let stands = stands_in p.number s.tree.windows (frame_of s.tree) p valid.windows.tree.room at in
      let low = stands.0.3 in
      let fits : p.rect.y + body_height p ≤ s.height = body-fits p.mode p.rect.y p.rect.height s.tree.height s.height (omega arith) valid.frame.rows in
      let band : Band = record { top = p.rect.y; height = body_height p } in
      either (All InFrame) (p.rect.width == s.width) (band ∷ []) [] (all-one InFrame band fits) (All-nil InFrame)

  pub bands-within : AreWithin s.height (bands_of s)
  bands-within =
      either (All InFrame) s.shifting (flat_map (band_of s.width) (places s)) []
      (all-flat InFrame (band_of s.width) (places s) (all-places (λ p. All InFrame (band_of s.width p)) band-fits)) (All-nil InFrame)
