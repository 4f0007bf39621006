-- A run over a script without a fault, in which no device failed, ends well.
use Rattle.std.proofs.Common.{◌≡◌, ℕ, inl, inr, List, [], ◌++◌, Option, None, Some, refl, sym, ◌∙◌, subst, append-nil}
use Rattle.rd_io.specs.Devices.{Rose}
use Rattle.rd_io.specs.Lines.{lines_of}
use Rattle.rd_run.specs.Alike.{End, IsFaultless}
use Rattle.rd_run.specs.Ends.{AreInLimits, Comes, ComesIn, Drawn, lines_in}
use Rattle.rd_run.specs.Given.{Given, AreTold, HasFailed, IsMode, ReadsScript}
use Rattle.rd_run.specs.Runs.{Input, Mode, opened}
use Rattle.rd_run.specs.Validity.{EndsWell, IsValidScript, script_of}
use Rattle.rd_run.specs.declared.status.Status.{Status}
use Rattle.rd_run.specs.declared.status.Status.TheVariants.{Done, NoMemory}
use Rattle.rd_run.proofs.Alike.{ArePassed, Stops, comes-stops, passed-generated, passed-limits, stops-alike, stops-before, taken-in}
use Rattle.rd_run.proofs.Begun.{itself, modes-same, not-begun, refuses}
use Rattle.rd_run.proofs.Scripts.{IsTakenFrom, IsTakenIn}
use Rattle.rd_run.proofs.Whole.{whole-of}

-- the lines of a valid script pass the limits
valid-passed : (o : Option ℕ) (script : List ℕ) (all : List Input) → (o ≡ None → AreInLimits (lines_of script)) → lines_in all ≡ script_of o script → ArePassed o 0 all
valid-passed None script all limits lines = passed-limits all (subst AreInLimits (sym lines) (limits refl))
valid-passed (Some number) script all limits lines = passed-generated number 0 all

-- a run over all lines of a valid script stops with Done, and so does each other run over them that doesn't end for want of memory
in-well : (mode : Mode) (script : List ℕ) (status : Status) (inputs : List Input) (bytes : List ℕ) (source : Drawn) → IsValidScript mode inputs script → IsTakenIn mode.generated script bytes source.left
    → (Rose source.faults_before source.faults_after → ⊥) → ComesIn mode status inputs bytes source → EndsWell status
in-well mode script NoMemory inputs bytes source h p read c = inr refl
in-well mode script status inputs bytes source h p read c =
    let o = mode.generated in
    let passed : ArePassed o 0 h.all = valid-passed o script h.all h.limits h.lines in
    let whole : script_of o script ≡ lines_in h.all ++ [] = sym h.lines ∙ sym (append-nil (lines_in h.all)) in
    let all : Stops o (opened mode) 0 h.all (script_of o script) Done = stops-before o mode (script_of o script) h.all [] Done h.accepted passed whole (inl (refl, refl)) in
    let ran : Stops o (opened mode) 0 inputs (script_of o script) status = comes-stops mode script status inputs bytes source p read (λ e. cc) c in
    inl (stops-alike o (opened mode) 0 inputs h.all (script_of o script) status Done h.alike ran all).1

-- the words are those of the command and the files good
begun-well : (given : Given) (begun : Option Mode) (mode : Mode) (script : List ℕ) (status : Status) (inputs : List Input) (bytes : List ℕ) (source : Drawn) → IsMode given mode → AreTold given
    → (HasFailed given → ⊥) → IsValidScript mode inputs script → (ReadsScript given → IsTakenFrom script bytes source.left) → (Rose source.faults_before source.faults_after → ⊥) → Comes given begun status inputs bytes source → EndsWell status
begun-well given None mode script NoMemory inputs bytes source m told fetched h p read c = inr refl
begun-well given None mode script status inputs bytes source m told fetched h p read c =
    absurd (not-begun given given status mode (itself given) told (refuses given status inputs bytes source fetched (λ e. cc) c).0 m)
begun-well given (Some other) mode script status inputs bytes source m told fetched h p read c =
    let same = modes-same given given other mode (itself given) told c.0 m in
    in-well mode script status inputs bytes source h (taken-in given mode script bytes source.left m p) read (subst (λ k. ComesIn k status inputs bytes source) same c.1)

pub ends-well : (script : List ℕ) (mode : Mode) (e : End) → IsMode e.given mode → IsValidScript mode e.inputs script → IsFaultless script e → EndsWell e.status
ends-well script mode e m h whole =
    let all = whole-of e.given e.mode e.status e.inputs e.bytes e.source e.screen e.report e.steps whole.sent whole.told whole.ended in
    begun-well e.given e.mode mode script e.status e.inputs e.bytes e.source m whole.files whole.fetched h whole.taken whole.read all.comes
