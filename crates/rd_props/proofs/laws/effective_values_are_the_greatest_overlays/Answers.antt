use Rattle.std.proofs.Common.{◌≡◌, ℕ, true, Option, None, Some, ap, refl, arith}
use Rattle.std.specs.Prelude.{nat_lt}
use Rattle.std.specs.Option.{option_or}
use Rattle.std.proofs.lemmas.Bool.Decides.{nat_tests}
use Rattle.rd_overlays.specs.Overlays.{covering}
use Rattle.rd_overlays.specs.Values.{last_given}
use Rattle.rd_props.specs.Buffers.{property}
use Rattle.rd_props.specs.Values.{overlay_value}
use Rattle.rd_props.proofs.laws.effective_values_are_the_greatest_overlays.Goals as goal

pub returns-clause-overlay : goal.returns-clause-overlay
returns-clause-overlay c = λ s pos number value kind overlay inside most.
    let here : nat_lt pos s.text.end ≡ true = grind (arith, nat_tests) in
    let last = c.last_values_are_the_greatest_overlays.ensures.greatest (overlay_value s.overlays kind) s.overlays pos number value overlay most in
    rw here (ap (λ (o : Option ℕ). option_or o (property s kind pos)) last)

pub returns-clause-text : goal.returns-clause-text
returns-clause-text c = λ s pos kind inside none.
    let here : nat_lt pos s.text.end ≡ true = grind (arith, nat_tests) in
    let last = last_given (overlay_value s.overlays kind) (covering pos s.overlays) in
    let nothing : last ≡ last → last ≡ None = elim last as (λ (found : Option ℕ). last ≡ found → last ≡ None) [
      | None ↦ λ is. is
      | Some value ↦ λ is.
          let (number, overlay, most) = c.last_values_are_the_greatest_overlays.ensures.some (overlay_value s.overlays kind) s.overlays pos value is in
          absurd (none number value overlay most.gives)
    ] in
    rw here (ap (λ (o : Option ℕ). option_or o (property s kind pos)) (nothing refl))
