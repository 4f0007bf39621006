-- What an end of a run says where no sink failed.
use Rattle.std.proofs.Common.{ℕ, inl, inr, List, Option, None, Some}
use Rattle.rd_io.specs.Devices.{Rose}
use Rattle.rd_run.specs.Ends.{Drawn, Placed, Sunk, Ended, IsWhole, IsBroken}
use Rattle.rd_run.specs.Given.{Given}
use Rattle.rd_run.specs.Runs.{Input, Mode}
use Rattle.rd_run.specs.declared.status.Status.{Status}

-- a write broke where a sink failed
not-broken : (given : Given) (mode : Option Mode) (inputs : List Input) (bytes : List ℕ) (source : Drawn) (screen report : Sunk) (steps : Placed) → (Rose screen.faults_before screen.faults_after → ⊥)
    → (Rose report.faults_before report.faults_after → ⊥) → IsBroken given mode inputs bytes source screen report steps → ⊥
not-broken given None inputs bytes source screen report steps s r (status, broke) = r broke.told.rose
not-broken given (Some mode) inputs bytes source screen report steps s r (inl (line, broke)) = s broke.sent.rose
not-broken given (Some mode) inputs bytes source screen report steps s r (inr (inl (t, broke))) = r broke.told.rose
not-broken given (Some mode) inputs bytes source screen report steps s r (inr (inr (status, broke))) = r broke.told.rose

-- where no sink failed all was written
pub whole-of : (given : Given) (mode : Option Mode) (status : Status) (inputs : List Input) (bytes : List ℕ) (source : Drawn) (screen report : Sunk) (steps : Placed) → (Rose screen.faults_before screen.faults_after → ⊥)
    → (Rose report.faults_before report.faults_after → ⊥) → Ended given mode status inputs bytes source screen report steps → IsWhole given mode status inputs bytes source screen report steps
whole-of given mode status inputs bytes source screen report steps s r (inl whole) = whole
whole-of given mode status inputs bytes source screen report steps s r (inr (same, broken)) = absurd (not-broken given mode inputs bytes source screen report steps s r broken)
