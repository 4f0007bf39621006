-- The end of a run: its last line.
use Rattle.std.proofs.Common.{◌≡◌, ◌≢◌, ℕ, ◌+◌, ◌≤◌, ◌⊎◌, inl, inr, List, [], ◌∷◌, ◌++◌, length, take, Option, None, Some, refl, sym, subst, ◌∙◌, append-nil, arith}
use Rattle.std.specs.Io.KnownBytes.{Appends, Consumes}
use Rattle.std.proofs.KnownBytes.{Appends-trans, Consumes-nil}
use Rattle.rd_io.specs.Devices.{Rose}
use Rattle.rd_run.specs.Alike.{End, IsFaultless}
use Rattle.rd_run.specs.Ends.{Broke, Comes, Drawn, Ended, IsBroken, IsCalm, IsWhole, KeepsCounts, LastBroke, Placed, ReportBroke, ScreenBroke, ShowsIn, Sunk, Took, last_in, placed, sunk, told_in}
use Rattle.rd_run.specs.Given.{Given, HasFailed, NoneFailed}
use Rattle.rd_run.specs.Reports.{last_line}
use Rattle.rd_run.specs.Runs.{Input, Mode, ShowsEach, opened, run}
use Rattle.rd_run.specs.Statuses.{TellsNoMemory}
use Rattle.rd_run.specs.declared.status.Status.{Status}
use Rattle.rd_run.specs.declared.status.Status.TheVariants.{Done, ReadFault, WriteFault}
use Rattle.rd_player.specs.Acts.{ComesTo, ComesWith, Finishes, Tells, summary_of}
use Rattle.rd_player.specs.Played.{Completes, CountsFaults, HasReadFault, KnowsIn, Played}
use Rattle.rd_player.specs.declared.halt.Ending.{Ending}
use Rattle.rd_player.specs.declared.halt.Ending.TheVariants as endings
use Rattle.rd_player.proofs.Running.{broke-after, took-none, took-then}
use Rattle.rd_run.proofs.Begun.{has-failed}
use Rattle.rd_run.proofs.Free.{comes-free}
use Rattle.rd_run.proofs.Validity.{ends-well}

-- a device that broke, and then took nothing more
broke-before : (a b c : Option (List ℕ)) (m n o : ℕ) (bytes more : List ℕ) → Broke (sunk a b m n) bytes more → Took (sunk b c n o) [] → Broke (sunk a c m o) bytes more
broke-before a b c m n o bytes more h none = record {
  rose = subst (Rose m) (sym none.kept) h.rose;
  front = (h.front.0, h.front.1, subst (Appends a c) (append-nil (bytes ++ take h.front.0 more)) (Appends-trans a b c (bytes ++ take h.front.0 more) [] h.front.2 none.wrote));
}

last-broke : (given : Given) (mode : Option Mode) (status : Status) (inputs : List Input) (bytes : List ℕ) (source : Drawn) (screen report : Sunk) (steps : Placed)
    → LastBroke given mode status inputs bytes source screen report steps → IsBroken given mode inputs bytes source screen report steps
last-broke given None status inputs bytes source screen report steps h = (status, h)
last-broke given (Some mode) status inputs bytes source screen report steps h = inr (inr (status, h))

-- the last line of a status, behind the lines that were run
told-last : (given : Given) (mode : Option Mode) (status : Status) (inputs : List Input) (bytes : List ℕ) (source : Drawn) (screen : Sunk) (result : Status) (line : List ℕ) (p0 p1 p2 : Option (List ℕ)) (n0 n1 n2 : ℕ)
    (steps : Placed) → ComesWith status line given mode inputs bytes source screen (sunk p0 p1 n0 n1) steps → Tells status line result (sunk p1 p2 n1 n2)
    → Ended given mode result inputs bytes source screen (sunk p0 p2 n0 n2) steps
told-last given mode status inputs bytes source screen result line p0 p1 p2 n0 n1 n2 steps h (inl (is, took)) =
    let told_last : Took (sunk p1 p2 n1 n2) (last_in mode status inputs) = subst (Took (sunk p1 p2 n1 n2)) (sym h.line) took in
    let whole : IsWhole given mode status inputs bytes source screen (sunk p0 p2 n0 n2) steps = record {
      comes = h.comes;
      calm = h.calm;
      sent = h.sent;
      told = took-then p0 p1 p2 n0 n1 n2 (told_in mode inputs) (last_in mode status inputs) h.told told_last;
      spent = h.spent;
    } in
    subst (λ r. Ended given mode r inputs bytes source screen (sunk p0 p2 n0 n2) steps) (sym is) (inl whole)
told-last given mode status inputs bytes source screen result line p0 p1 p2 n0 n1 n2 steps h (inr (is, broke)) =
    let last : LastBroke given mode status inputs bytes source screen (sunk p0 p2 n0 n2) steps = record {
      comes = h.comes;
      calm = h.calm;
      sent = h.sent;
      told = subst (Broke (sunk p0 p2 n0 n2) (told_in mode inputs)) (sym h.line) (broke-after p0 p1 p2 n0 n1 n2 (told_in mode inputs) line h.told broke);
      spent = h.spent;
    } in
    inr (is, last-broke given mode status inputs bytes source screen (sunk p0 p2 n0 n2) steps last)

-- what each shown redisplay promises, over all runs
abbrev pub ShowsAlways : Type 0
ShowsAlways = (mode : Mode) (inputs : List Input) → ShowsEach (opened mode) inputs

pub ended : (ending : Ending) (given : Given) (mode : Option Mode) (inputs : List Input) (bytes : List ℕ) (source : Drawn) (screen : Sunk) (result : Status) (p0 p1 p2 : Option (List ℕ)) (n0 n1 n2 : ℕ) (steps : Placed)
    → ShowsAlways → ComesTo ending given mode inputs bytes source screen (sunk p0 p1 n0 n1) steps → Finishes ending result (sunk p1 p2 n1 n2)
    → Ended given mode result inputs bytes source screen (sunk p0 p2 n0 n2) steps
ended (endings.Ends status lines) given mode inputs bytes source screen result p0 p1 p2 n0 n1 n2 steps law h f =
    told-last given mode status inputs bytes source screen result (last_line status lines) p0 p1 p2 n0 n1 n2 steps h f
ended (endings.Sums s) given mode inputs bytes source screen result p0 p1 p2 n0 n1 n2 steps law h f =
    told-last given mode Done inputs bytes source screen result (summary_of s) p0 p1 p2 n0 n1 n2 steps h f
ended endings.ScreenBroke given None inputs bytes source screen result p0 p1 p2 n0 n1 n2 steps law h f = absurd h
ended endings.ScreenBroke given (Some mode) inputs bytes source screen result p0 p1 p2 n0 n1 n2 steps law h f =
    let told = (run (opened mode) inputs).told in
    let line = last_line WriteFault (length inputs) in
    let same : result ≡ WriteFault = elim f [ inl p ↦ p.0 | inr p ↦ p.0 ] in
    let broke : ScreenBroke given mode inputs h.line bytes source screen (sunk p0 p2 n0 n2) steps = record {
      hand = h.hand;
      calm = h.calm;
      sent = h.sent;
      told = elim f [ inl p ↦ inl (took-then p0 p1 p2 n0 n1 n2 told line h.told p.1) | inr p ↦ inr (broke-after p0 p1 p2 n0 n1 n2 told line h.told p.1) ];
      spent = h.spent;
    } in
    inr (same, inl (h.line, broke))
ended endings.ReportBroke given None inputs bytes source screen result p0 p1 p2 n0 n1 n2 steps law h f = absurd h
ended endings.ReportBroke given (Some mode) inputs bytes source screen result p0 p1 p2 n0 n1 n2 steps law h f =
    let broke : ReportBroke given mode inputs h.t bytes source screen (sunk p0 p2 n0 n2) steps = record {
      hand = h.hand;
      calm = h.calm;
      sent = h.sent;
      told = broke-before p0 p1 p2 n0 n1 n2 _ _ h.told f.1;
      shows = law mode (inputs ++ h.t ∷ []);
      tells = h.tells;
      spent = h.spent;
    } in
    inr (f.0, inr (inl (h.t, broke)))

-- ---- the whole

completes : (given : Given) (begun : Option Mode) (result : Status) (inputs : List Input) (bytes : List ℕ) (l0 : Option (List ℕ)) (source : Drawn) (screen report : Sunk) (steps : Placed)
    → Consumes l0 source.left bytes → Ended given begun result inputs bytes source screen report steps → Completes given result inputs l0 source screen report
completes given begun result inputs bytes l0 source screen report steps taken ends = λ mode script good files left valid fetched read sent told.
    let e : End = record { given = given; mode = begun; status = result; inputs = inputs; bytes = bytes; source = source; screen = screen; report = report; steps = steps } in
    let whole : IsFaultless script e = record {
      taken = λ reads. subst (λ l. Consumes l source.left bytes) (left reads) taken;
      ended = ends;
      files = files;
      fetched = fetched;
      read = read;
      sent = sent;
      told = told;
    } in
    ends-well script mode e good valid whole

-- a run, whether or not a line of it could begin
pub played : (ending : Ending) (given : Given) (mode : Option Mode) (l0 : Option (List ℕ)) (source : Drawn) (screen : Sunk) (result : Status) (p0 p1 p2 : Option (List ℕ)) (n0 n1 n2 c0 c1 : ℕ)
    → ShowsAlways
    → (h : (inputs : List Input) × (bytes : List ℕ) × Consumes l0 source.left bytes × ComesTo ending given mode inputs bytes source screen (sunk p0 p1 n0 n1) (placed c0 c1))
    → ShowsIn mode h.0 → KnowsIn mode h.0 → Finishes ending result (sunk p1 p2 n1 n2) → Played given result l0 source screen (sunk p0 p2 n0 n2) c0 c1
played ending given mode l0 source screen result p0 p1 p2 n0 n1 n2 c0 c1 law h shows knows f =
    let report = sunk p0 p2 n0 n2 in
    let ends : Ended given mode result h.0 h.1 source screen report (placed c0 c1) = ended ending given mode h.0 h.1 source screen result p0 p1 p2 n0 n1 n2 (placed c0 c1) law h.3 f in (
      mode,
      h.0,
      h.1,
      h.2,
      ends,
      shows,
      knows,
      completes given mode result h.0 h.1 l0 source screen report (placed c0 c1) h.2 ends,
    )

last-none : (status : Status) → last_in None status [] ≡ last_line status 0
last-none status = refl

-- the end of a run of which no line could begin
pub unplayed : (status : Status) (given : Given) (l : Option (List ℕ)) (q : ℕ) (s : Option (List ℕ)) (m : ℕ) (result : Status) (p0 p1 : Option (List ℕ)) (n0 n1 c : ℕ) → ShowsAlways
    → ((source : Drawn) → IsCalm source → Comes given None status [] [] source × KeepsCounts given None status source) → Finishes (endings.Ends status 0) result (sunk p0 p1 n0 n1)
    → Played given result l (record { left = l; faults_before = q; faults_after = q }) (sunk s s m m) (sunk p0 p1 n0 n1) c c
unplayed status given l q s m result p0 p1 n0 n1 c law opens f =
    let source : Drawn = record { left = l; faults_before = q; faults_after = q } in
    let h = opens source refl in
    let same : c ≤ c + 0 = omega arith in
    let comes : ComesWith status (last_line status 0) given None [] [] source (sunk s s m m) (sunk p0 p0 n0 n0) (placed c c) =
    record { comes = h.0; calm = h.1; line = last-none status; sent = took-none s m; told = took-none p0 n0; spent = same } in
    played (endings.Ends status 0) given None l source (sunk s s m m) result p0 p0 p1 n0 n0 n1 c c law ([], [], Consumes-nil l, comes) tt tt f

-- ---- want of memory

ended-free : (given : Given) (mode : Option Mode) (result : Status) (inputs : List Input) (bytes : List ℕ) (source : Drawn) (screen report : Sunk) (steps : Placed)
    → Ended given mode result inputs bytes source screen report steps → TellsNoMemory result
ended-free given mode result inputs bytes source screen report steps (inl whole) = comes-free given mode result inputs bytes source whole.comes
ended-free given mode result inputs bytes source screen report steps (inr (same, broken)) = subst TellsNoMemory (sym same) tt

pub played-free : (given : Given) (result : Status) (l0 : Option (List ℕ)) (source : Drawn) (screen report : Sunk) (c0 c1 : ℕ) → Played given result l0 source screen report c0 c1
    → TellsNoMemory result
played-free given result l0 source screen report c0 c1 p = ended-free given p.0 result p.1 p.2 source screen report (placed c0 c1) p.4

-- a read fault comes where the source failed, or a file before the first line
come-read : (given : Given) (mode : Option Mode) (inputs : List Input) (bytes : List ℕ) (source : Drawn) → Comes given mode ReadFault inputs bytes source
    → Rose source.faults_before source.faults_after ⊎ HasFailed given
come-read given None inputs bytes source (file, nothing) = inr (has-failed given file)
come-read given (Some mode) inputs bytes source (begun, comes) = inl comes.2

ended-read : (given : Given) (mode : Option Mode) (result : Status) (inputs : List Input) (bytes : List ℕ) (source : Drawn) (screen report : Sunk) (steps : Placed)
    → Ended given mode result inputs bytes source screen report steps → HasReadFault given result source
ended-read given mode result inputs bytes source screen report steps (inl whole) e = come-read given mode inputs bytes source (subst (λ status. Comes given mode status inputs bytes source) e whole.comes)
ended-read given mode result inputs bytes source screen report steps (inr (same, broken)) e = absurd (let both : ReadFault ≡ WriteFault = sym e ∙ same in cc)

pub played-read : (given : Given) (result : Status) (l0 : Option (List ℕ)) (source : Drawn) (screen report : Sunk) (c0 c1 : ℕ) → Played given result l0 source screen report c0 c1
    → HasReadFault given result source
played-read given result l0 source screen report c0 c1 p = ended-read given p.0 result p.1 p.2 source screen report (placed c0 c1) p.4

-- ---- the counts

calm-of : (given : Given) (mode : Option Mode) (status : Status) (source : Drawn) → status ≢ ReadFault → KeepsCounts given mode status source → NoneFailed given × IsCalm source
calm-of given None ReadFault source other h = absurd (other refl)
calm-of given (Some mode) ReadFault source other h = absurd (other refl)
calm-of given None status source other h = h
calm-of given (Some mode) status source other h = h

not-written : (given : Given) (mode : Option Mode) (inputs : List Input) (bytes : List ℕ) (source : Drawn) → Comes given mode WriteFault inputs bytes source → ⊥
not-written given None inputs bytes source h = h
not-written given (Some mode) inputs bytes source h = h.1

-- all was written, so no sink failed
whole-counts : (given : Given) (mode : Option Mode) (status : Status) (inputs : List Input) (bytes : List ℕ) (source : Drawn) (screen report : Sunk) (steps : Placed)
    → IsWhole given mode status inputs bytes source screen report steps → CountsFaults given status source screen report
whole-counts given mode ReadFault inputs bytes source screen report steps h = (come-read given mode inputs bytes source h.comes, (h.sent.kept, h.told.kept))
whole-counts given mode WriteFault inputs bytes source screen report steps h = absurd (not-written given mode inputs bytes source h.comes)
whole-counts given mode status inputs bytes source screen report steps h =
    let calm = calm-of given mode status source (λ e. cc) h.calm in
    (calm.0, calm.1, (h.sent.kept, h.told.kept))

broken-counts : (given : Given) (mode : Option Mode) (inputs : List Input) (bytes : List ℕ) (source : Drawn) (screen report : Sunk) (steps : Placed)
    → IsBroken given mode inputs bytes source screen report steps → CountsFaults given WriteFault source screen report
broken-counts given None inputs bytes source screen report steps (status, h) = inr h.told.rose
broken-counts given (Some mode) inputs bytes source screen report steps (inl (line, h)) = inl h.sent.rose
broken-counts given (Some mode) inputs bytes source screen report steps (inr (inl (t, h))) = inr h.told.rose
broken-counts given (Some mode) inputs bytes source screen report steps (inr (inr (status, h))) = inr h.told.rose

ended-counts : (given : Given) (mode : Option Mode) (result : Status) (inputs : List Input) (bytes : List ℕ) (source : Drawn) (screen report : Sunk) (steps : Placed)
    → Ended given mode result inputs bytes source screen report steps → CountsFaults given result source screen report
ended-counts given mode result inputs bytes source screen report steps (inl whole) = whole-counts given mode result inputs bytes source screen report steps whole
ended-counts given mode result inputs bytes source screen report steps (inr (same, broken)) =
    subst (λ r. CountsFaults given r source screen report) (sym same) (broken-counts given mode inputs bytes source screen report steps broken)

pub played-counts : (given : Given) (result : Status) (l0 : Option (List ℕ)) (source : Drawn) (screen report : Sunk) (c0 c1 : ℕ) → Played given result l0 source screen report c0 c1
    → CountsFaults given result source screen report
played-counts given result l0 source screen report c0 c1 p = ended-counts given p.0 result p.1 p.2 source screen report (placed c0 c1) p.4
