-- What the ops answer that move a window's point by what is seen.
use Rattle.std.proofs.Common.{◌≡◌, ℕ, Bool, Result, Ok, Err, sym, ap, ◌∙◌}
use Rattle.rd_script.specs.declared.op.Op.TheVariants.{Point, Go, Hit}
use Rattle.rd_state.specs.Effects.{effect_of}
use Rattle.rd_state.specs.Steps.{step}
use Rattle.rd_state.specs.declared.refused.Refused.{Refused}
use Rattle.rd_layout.specs.Pointing.{going, hitting}
use Rattle.rd_layout.specs.Sessions.{Applied, SessionValue, layout_of}

-- the op answers what the op of the state answers that moves point to where it moves
pub go-answers : (r : Result Unit Refused) (window place pos : ℕ) (right : Bool) (old new : SessionValue) → Applied r (Point window place) old new → place ≡ pos
    → going old.files old.state window right ≡ step old.state (Point window pos) → Applied r (Go window right) old new
unfolding effect_of
go-answers (Ok x) window place pos right old new h same said = (h.0, said ∙ (ap (λ p. step old.state (Point window p)) (sym same) ∙ h.1), h.2)
go-answers (Err e) window place pos right old new h same said = (h.0, λ ne. said ∙ (ap (λ p. step old.state (Point window p)) (sym same) ∙ h.1 ne))

pub hit-answers : (r : Result Unit Refused) (window place pos row column : ℕ) (old new : SessionValue) → Applied r (Point window place) old new → place ≡ pos
    → hitting old.state window (layout_of window old.layouts) row column ≡ step old.state (Point window pos) → Applied r (Hit window row column) old new
unfolding effect_of
hit-answers (Ok x) window place pos row column old new h same said = (h.0, said ∙ (ap (λ p. step old.state (Point window p)) (sym same) ∙ h.1), h.2)
hit-answers (Err e) window place pos row column old new h same said = (h.0, λ ne. said ∙ (ap (λ p. step old.state (Point window p)) (sym same) ∙ h.1 ne))
