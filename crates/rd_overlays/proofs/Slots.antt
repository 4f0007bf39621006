-- What stands at a number of slots where they are changed, where one is put and where there is one more.
use Rattle.std.proofs.Common.{◌≡◌, ◌⊎◌, inl, inr, ℕ, zero, suc, List, [], ◌∷◌, ◌++◌, map, set, Option, None, Some, refl, sym, ap, subst, ◌∙◌}
use Rattle.std.specs.Prelude.{slice_get}
use Rattle.std.specs.Option.{option_map, unwrap_or}
use Rattle.std.proofs.lemmas.Option.{same_Some}
use Rattle.rd_base.proofs.Choices.{map-some, read-some}
use Rattle.rd_base.proofs.Lists.{get-end, get-set}
use Rattle.rd_overlays.specs.declared.overlay.Overlay.{Overlay}
use Rattle.rd_overlays.specs.Overlays.{overlay_at}

-- what stands there is changed as its slot is
pub overlay_at-map : (f : Option Overlay → Option Overlay) (slots : List (Option Overlay)) (number : ℕ) → f None ≡ None
    → overlay_at (map f slots) number ≡ f (overlay_at slots number)
overlay_at-map f [] number e = sym e
overlay_at-map f (s ∷ slots) zero e = refl
overlay_at-map f (s ∷ slots) (suc number) e = overlay_at-map f slots number e

-- what holds of a slot's overlay as it is changed holds of the overlay that the changed slot has
pub slot-each : (Q : Overlay → Type 0) (change : Overlay → Overlay) (slot : Option Overlay) → ((o : Overlay) → slot ≡ Some o → Q (change o))
    → (p : Overlay) → option_map change slot ≡ Some p → Q p
slot-each Q change slot becomes p h = let (o, is, same) = map-some change slot p h in subst Q same (becomes o is)

-- what holds of each slot's overlay as it is changed holds of each overlay of the slots, once all are changed
pub changed-each : (Q : Overlay → Type 0) (change : Overlay → Overlay) (slots : List (Option Overlay)) → ((n : ℕ) (o : Overlay) → overlay_at slots n ≡ Some o → Q (change o))
    → (n : ℕ) (p : Overlay) → overlay_at (map (option_map change) slots) n ≡ Some p → Q p
changed-each Q change slots becomes n p h = slot-each Q change (overlay_at slots n) (becomes n) p (sym (overlay_at-map (option_map change) slots n refl) ∙ h)

-- an overlay of slots of which one was written stood there before, or is the new one
pub after-set : (slots : List (Option Overlay)) (i : ℕ) (slot : Option Overlay) (number : ℕ) (p : Overlay) → overlay_at (set slots i slot) number ≡ Some p
    → (overlay_at slots number ≡ Some p) ⊎ (slot ≡ Some p)
after-set slots i slot number p h =
    elim (get-set slots i number slot (Some p) (read-some (slice_get (set slots i slot) number) p h)) [
      | inl here ↦ inr (sym here.1)
      | inr old ↦ inl (ap (λ s. unwrap_or s None) old.1)
    ]

-- an overlay that is found where there is one more was there before, or is that one
pub after-end : (slots : List (Option Overlay)) (o : Overlay) (number : ℕ) (p : Overlay) → overlay_at (slots ++ Some o ∷ []) number ≡ Some p
    → (overlay_at slots number ≡ Some p) ⊎ (o ≡ p)
after-end slots o number p h =
    elim (get-end slots (Some o) number (Some p) (read-some (slice_get (slots ++ Some o ∷ []) number) p h)) [
      | inl old ↦ inl (ap (λ s. unwrap_or s None) old)
      | inr here ↦ inr (same_Some o p (sym here.1))
    ]
