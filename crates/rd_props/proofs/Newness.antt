-- A buffer as it is made.
use Rattle.std.proofs.Common.{◌≡◌, ℕ, zero, suc, List, [], ◌∷◌, Option, None, refl, ap}
use Rattle.rd_base.specs.Settings.{opening, SettingValues}
use Rattle.rd_text.specs.Texts.{no_text, TextValue}
use Rattle.rd_spans.specs.Values.{value_at}
use Rattle.rd_overlays.specs.declared.overlay.Overlay.{Overlay}
use Rattle.rd_props.specs.Buffers.{values_of, new_buffer}

pub none-nil : (kind p : ℕ) → values_of [] kind p ≡ None
none-nil kind p = refl

pub none-cons : (values : List (Option ℕ)) (spans : List (List (Option ℕ))) → values ≡ [] → ((kind p : ℕ) → values_of spans kind p ≡ None)
    → (kind p : ℕ) → values_of (values ∷ spans) kind p ≡ None
none-cons values spans here rest zero p = ap (λ (vs : List (Option ℕ)). value_at vs p) here
none-cons values spans here rest (suc kind) p = rest kind p

pub is-new : (text : TextValue) (spans : List (List (Option ℕ))) (overlays : List (Option Overlay)) (settings : SettingValues) → text ≡ no_text
    → ((kind p : ℕ) → values_of spans kind p ≡ None) → overlays ≡ [] → settings ≡ opening
    → record { text = text; properties = values_of spans; overlays = overlays; settings = settings } ≡ new_buffer
is-new text spans overlays settings e none o s = λ i. record { text = e i; properties = λ kind p. none kind p i; overlays = o i; settings = s i }
