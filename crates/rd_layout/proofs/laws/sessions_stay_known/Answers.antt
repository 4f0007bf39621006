use Rattle.rd_layout.proofs.Keeping.{KeptLaws, kept-session, session-stands}
use Rattle.rd_layout.proofs.Known.{StepLaws, opened-session, step-session}
use Rattle.rd_layout.proofs.Over.{OverLaws}
use Rattle.rd_layout.proofs.Positions.{known-fit}
use Rattle.rd_layout.proofs.laws.sessions_stay_known.Goals as goal

pub returns-clause-opened : goal.returns-clause-opened
returns-clause-opened c = λ files. opened-session files c.steps_keep_states.ensures.opening

pub returns-clause-step : goal.returns-clause-step
returns-clause-step c =
    let over : OverLaws = record { grown = c.changes_lead_on.ensures.grown; local = c.rows_are_local.ensures } in
    let laws : StepLaws = record {
      valid = c.steps_keep_states.ensures.step;
      left = c.ops_leave_the_rest.ensures;
      combined = c.changes_lead_on.ensures.combined;
      over = over;
      views = c.view_laws.ensures;
    } in
    λ v op state session form step is. step-session laws v op state session form is

pub returns-clause-kept : goal.returns-clause-kept
returns-clause-kept c =
    let laws : KeptLaws = record { changed = c.kept_rows_are_fresh.ensures.changed; all = c.kept_rows_are_fresh.ensures.all; none = c.no_rows_are_kept.ensures } in
    λ v number w shape session lives. kept-session laws v number w shape session lives

pub returns-clause-stands : goal.returns-clause-stands
returns-clause-stands c = λ v number w session lives. session-stands v number w session lives

pub returns-clause-positions : goal.returns-clause-positions
returns-clause-positions c = λ v number w l session lives at. known-fit c.view_laws.ensures v.files v.state w l (session.layouts number w l lives at)
