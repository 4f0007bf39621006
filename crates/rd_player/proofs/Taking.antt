-- A run over the lines of a source, against the bytes that were taken from it.
use Rattle.std.proofs.Common.{◌≡◌, ℕ, ◌+◌, ◌<◌, ◌≤◌, ◌⊎◌, inl, inr, Bool, true, false, List, [], ◌∷◌, ◌++◌, length, Option, None, Some, Result, Ok, Err, refl, sym, ap, ◌∙◌, subst, arith}
use Rattle.std.specs.Io.KnownBytes.{Consumes}
use Rattle.std.proofs.KnownBytes.{Consumes-nil, Consumes-trans}
use Rattle.rd_base.specs.declared.limits.TheConstants.{LINES}
use Rattle.rd_io.specs.Devices.{Rose}
use Rattle.rd_io.specs.Lines.{Reading, Answers, Cause, Keeps}
use Rattle.rd_io.specs.declared.lines.LineFault.{LineFault}
use Rattle.rd_io.specs.declared.lines.LineFault.TheVariants as reader
use Rattle.rd_run.specs.Ends.{AreAll, AreInLimits, AreScript, Drawn, GoesOn, IsGivenUp, IsPast, Sunk, drawn, lines_in, placed, sunk}
use Rattle.rd_run.specs.Given.{Given, IsMode, NoneFailed}
use Rattle.rd_run.specs.Runs.{Input, Mode, Standing, effect, opened, input_of}
use Rattle.rd_run.specs.declared.status.Status.TheVariants as statuses
use Rattle.rd_run.proofs.Inputs.{lines-length, lines-push}
use Rattle.rd_player.specs.Acts.{Acts, ComesTo, Places, ended_by, halted_by}
use Rattle.rd_player.specs.declared.halt.Halt.{Halt}
use Rattle.rd_player.specs.declared.halt.Ending.{Ending}
use Rattle.rd_player.specs.declared.halt.Ending.TheVariants as endings
use Rattle.rd_player.proofs.Reading.{HasRead, read-line, line-comes, line-given, in-limits, are-first, read-over, come}
use Rattle.rd_player.proofs.Running.{HasRun, all-ran, halts-at, has-begun, has-run, took-none}

pub record IsRunning (mode : Mode) (inputs : List Input) (bytes : List ℕ) (l0 l1 : Option (List ℕ)) (r : Reading) (place : Standing) (screen report : Sunk) (c0 c1 : ℕ) : Type 0 where
  pub read : HasRead (lines_in inputs) bytes l0 l1 r
  pub ran : HasRun mode inputs place screen report c0 c1

abbrev pub Running : Mode → Option (List ℕ) → Option (List ℕ) → Reading → Standing → Sunk → Sunk → ℕ → ℕ → Type 0
Running mode l0 l1 r place screen report c0 c1 = (inputs : List Input) × (bytes : List ℕ) × IsRunning mode inputs bytes l0 l1 r place screen report c0 c1

-- a line was read, and is to be run
pub record IsHanded (mode : Mode) (inputs : List Input) (bytes : List ℕ) (l0 l1 : Option (List ℕ)) (r : Reading) (place : Standing) (screen report : Sunk) (c0 c1 : ℕ) : Type 0 where
  pub read : HasRead (lines_in inputs ++ r.line ∷ []) bytes l0 l1 r
  pub before : (rest : List ℕ) × GoesOn inputs bytes rest × (0 < length rest)
  pub ran : HasRun mode inputs place screen report c0 c1
  pub few : place.lines < LINES

abbrev pub Handed : Mode → Option (List ℕ) → Option (List ℕ) → Reading → Standing → Sunk → Sunk → ℕ → ℕ → Type 0
Handed mode l0 l1 r place screen report c0 c1 = (inputs : List Input) × (bytes : List ℕ) × IsHanded mode inputs bytes l0 l1 r place screen report c0 c1

pub handed : (mode : Mode) (l0 l1 l2 : Option (List ℕ)) (old new : Reading) (place : Standing) (screen report : Sunk) (c0 c1 : ℕ) → Running mode l0 l1 old place screen report c0 c1 → old.ended ≡ false
    → (more : List ℕ) × Consumes l1 l2 more × Answers (Ok true) old new more l2 → Handed mode l0 l2 new place screen report c0 c1
handed mode l0 l1 l2 old new place screen report c0 c1 h off p =
    let inputs = h.0 in
    let bytes = h.1 in
    let m = h.2 in
    let more = p.0 in
    let line = line-given old new more l2 p.2 in (
      inputs,
      bytes ++ more,
      record {
        read = read-line (lines_in inputs) bytes more l0 l1 l2 old new m.read p.1 off p.2;
        before = (old.held ++ more, (in-limits (lines_in inputs) bytes l0 l1 old m.read, (m.read.unbroken, come (lines_in inputs) bytes old.held more (m.read.split off))), line-comes old new more l2 p.2);
        ran = m.ran;
        few = let a = m.read.count in let b = m.ran.counted in let c = line.1 in omega (arith, lines-length inputs);
      },
    )

-- the run begins
pub begun : (mode : Mode) (l : Option (List ℕ)) (r : Reading) (place : Standing) (s p : Option (List ℕ)) (m n c : ℕ) → HasRead [] [] l l r → place ≡ (opened mode).now
    → Running mode l l r place (sunk s s m m) (sunk p p n n) c c
begun mode l r place s p m n c h e = ([], [], record { read = h; ran = has-begun mode place s p m n c e })

-- one more line was run
pub ran-line : (mode : Mode) (l0 l1 : Option (List ℕ)) (r : Reading) (line : List ℕ) (place next : Standing) (s0 s1 s2 p0 p1 p2 : Option (List ℕ)) (m0 m1 m2 n0 n1 n2 c0 c1 c2 : ℕ)
    → line ≡ r.line → Handed mode l0 l1 r place (sunk s0 s1 m0 m1) (sunk p0 p1 n0 n1) c0 c1
    → Acts (Ok tt) (λ starved. effect place (input_of line starved)) next (sunk s1 s2 m1 m2) (sunk p1 p2 n1 n2) → Places (Ok tt) (effect place (input_of line false)) c1 c2
    → Running mode l0 l1 r next (sunk s0 s2 m0 m2) (sunk p0 p2 n0 n2) c0 c2
ran-line mode l0 l1 r line place next s0 s1 s2 p0 p1 p2 m0 m1 m2 n0 n1 n2 c0 c1 c2 same h a places =
    let inputs = h.0 in
    let k = h.2 in
    let t = input_of line a.0 in
    let read_is : lines_in inputs ++ r.line ∷ [] ≡ lines_in (inputs ++ t ∷ []) = ap (λ x. lines_in inputs ++ x ∷ []) (sym same) ∙ sym (lines-push inputs t) in (
      inputs ++ t ∷ [],
      h.1,
      record {
        read = subst (λ ls. HasRead ls h.1 l0 l1 r) read_is k.read;
        ran = has-run mode inputs line place next s0 s1 s2 p0 p1 p2 m0 m1 m2 n0 n1 n2 c0 c1 c2 k.ran a places;
      },
    )

-- ---- how a run ends

abbrev pub Ends : Ending → Given → Mode → Option (List ℕ) → Drawn → Sunk → Sunk → ℕ → ℕ → Type 0
Ends ending given mode l0 source screen report c0 c1 = (inputs : List Input) × (bytes : List ℕ) × Consumes l0 source.left bytes
    × ComesTo ending given (Some mode) inputs bytes source screen report (placed c0 c1)

pub ends-as : (s t : Ending) (given : Given) (mode : Mode) (l0 : Option (List ℕ)) (source : Drawn) (screen report : Sunk) (c0 c1 : ℕ) → s ≡ t → Ends t given mode l0 source screen report c0 c1
    → Ends s given mode l0 source screen report c0 c1
ends-as s t given mode l0 source screen report c0 c1 e h = subst (λ x. Ends x given mode l0 source screen report c0 c1) (sym e) h

given-up : (o : Option ℕ) (inputs : List Input) (bytes : List ℕ) → o ≡ None → ((rest : List ℕ) × GoesOn inputs bytes rest × (0 < length rest)) → IsGivenUp o inputs bytes
given-up o inputs bytes e h = subst (λ x. IsGivenUp x inputs bytes) (sym e) (inl h)

-- no memory for the first line
pub no-memory : (given : Given) (mode : Mode) (l s p : Option (List ℕ)) (q m n c : ℕ) → IsMode given mode → NoneFailed given → mode.generated ≡ None
    → Ends (endings.Ends statuses.NoMemory 0) given mode l (drawn l q q) (sunk s s m m) (sunk p p n n) c c
no-memory given mode l s p q m n c begun unfailed read =
    let same : c ≤ c + 0 = omega arith in
    let nothing : IsGivenUp mode.generated [] [] = subst (λ x. IsGivenUp x [] []) (sym read) (inr (refl, refl)) in
    ([], [], Consumes-nil l, record { comes = (begun, (refl, nothing)); calm = (unfailed, refl); line = refl; sent = took-none s m; told = took-none p n; spent = same })

-- no line is left
pub ends-done : (given : Given) (mode : Mode) (l0 l1 l2 : Option (List ℕ)) (q0 q1 : ℕ) (old new : Reading) (place : Standing) (screen report : Sunk) (c0 c1 : ℕ) → IsMode given mode → NoneFailed given × (q1 ≡ q0) → mode.generated ≡ None
    → Running mode l0 l1 old place screen report c0 c1 → (old.ended ≡ true → l2 ≡ l1)
    → (more : List ℕ) × Consumes l1 l2 more × Answers (Ok false) old new more l2
    → Ends (endings.Ends statuses.Done place.lines) given mode l0 (drawn l2 q0 q1) screen report c0 c1
ends-done given mode l0 l1 l2 q0 q1 old new place screen report c0 c1 begun calm read h same p =
    let k = h.2 in
    let o = read-over (lines_in h.0) h.1 p.0 l0 l1 l2 old new k.read p.1 same p.2 in
    let all : AreAll None h.0 (h.1 ++ p.0) l2 = (in-limits (lines_in h.0) h.1 l0 l1 old k.read, o.1, o.2) in
    (h.0, h.1 ++ p.0, o.0, all-ran given mode None h.0 (h.1 ++ p.0) (drawn l2 q0 q1) place screen report c0 c1 _ begun calm read k.ran all refl)

-- a line may still begin behind so many
may-begin : (given n : ℕ) (rest : List ℕ) → given ≡ n → (given < 1000000) ⊎ (rest ≡ []) → (n < 1000000) ⊎ (rest ≡ [])
may-begin given n rest e (inl few) = inl (omega arith)
may-begin given n rest e (inr none) = inr none

-- the reader answers a fault
fault-comes : (given : Given) (mode : Mode) (fault : LineFault) (inputs : List Input) (place : Standing) (bytes rest : List ℕ) (source : Drawn) (old : Reading) (screen report : Sunk) (c0 c1 : ℕ) → IsMode given mode
    → NoneFailed given → mode.generated ≡ None → HasRun mode inputs place screen report c0 c1 → GoesOn inputs bytes rest → old.given ≡ length inputs → old.given ≤ 1000000
    → (fault ≡ reader.Failed → Rose source.faults_before source.faults_after) → Keeps {T = Bool} (Err fault) source.faults_before source.faults_after → Cause fault old.given rest
    → ComesTo (ended_by fault place.lines) given (Some mode) inputs bytes source screen report (placed c0 c1)
fault-comes given mode reader.Failed inputs place bytes rest source old screen report c0 c1 begun none read r e count few rose kept c =
    record { comes = (begun, (r.whole, read, rose refl, (rest, e, (c.0, c.1, may-begin old.given (length inputs) rest count c.2)))); calm = none; line = refl; sent = r.sent; told = r.told; spent = r.spent }
fault-comes given mode reader.TooLong inputs place bytes rest source old screen report c0 c1 begun none read r e count few rose kept c =
    let less = c.0 in
    let lines = r.counted in
    let past : IsPast mode _ (place.lines + 1) inputs bytes = record { ran = r.whole; at = omega arith; over = (rest, e, omega arith, c.1, c.2); read = read } in
    record { comes = (begun, inr past); calm = (none, kept); line = refl; sent = r.sent; told = r.told; spent = r.spent }
fault-comes given mode reader.TooMany inputs place bytes rest source old screen report c0 c1 begun none read r e count few rose kept c =
    let least = c.0 in
    let lines = r.counted in
    let past : IsPast mode _ (place.lines + 1) inputs bytes = record { ran = r.whole; at = omega arith; over = (rest, e, omega arith, c.1); read = read } in
    record { comes = (begun, inr past); calm = (none, kept); line = refl; sent = r.sent; told = r.told; spent = r.spent }
fault-comes given mode reader.Memory inputs place bytes rest source old screen report c0 c1 begun none read r e count few rose kept c =
    record { comes = (begun, (r.whole, given-up mode.generated inputs bytes read (rest, e, c.1))); calm = (none, kept); line = refl; sent = r.sent; told = r.told; spent = r.spent }

pub ends-fault : (given : Given) (mode : Mode) (l0 l1 l2 : Option (List ℕ)) (q0 q1 q2 : ℕ) (old new : Reading) (fault : LineFault) (result : Result Bool LineFault) (place : Standing) (screen report : Sunk) (c0 c1 : ℕ)
    → IsMode given mode → NoneFailed given → mode.generated ≡ None → Running mode l0 l1 old place screen report c0 c1 → old.ended ≡ false → result ≡ Err fault → q1 ≡ q0
    → (result ≡ Err reader.Failed → Rose q1 q2) → Keeps {T = Bool} (Err fault) q1 q2
    → (more : List ℕ) × Consumes l1 l2 more × Answers (Err fault) old new more l2
    → Ends (ended_by fault place.lines) given mode l0 (drawn l2 q0 q2) screen report c0 c1
ends-fault given mode l0 l1 l2 q0 q1 q2 old new fault result place screen report c0 c1 begun none read h off is before rose kept p =
    let inputs = h.0 in
    let bytes = h.1 in
    let k = h.2 in
    let more = p.0 in
    let goes : GoesOn inputs (bytes ++ more) (old.held ++ more) =
    (in-limits (lines_in inputs) bytes l0 l1 old k.read, (k.read.unbroken, come (lines_in inputs) bytes old.held more (k.read.split off))) in
    let failed : fault ≡ reader.Failed → Rose q0 q2 = λ e. subst (λ q. Rose q q2) before (rose (is ∙ ap (λ f. Err f) e)) in
    let still : Keeps {T = Bool} (Err fault) q0 q2 = subst (λ q. Keeps {T = Bool} (Err fault) q q2) before kept in
    let comes = fault-comes given mode fault inputs place (bytes ++ more) (old.held ++ more) (drawn l2 q0 q2) old screen report c0 c1 begun none read k.ran goes (k.read.count ∙ lines-length inputs) k.read.few failed still p.2.0 in
    (inputs, bytes ++ more, Consumes-trans l0 l1 l2 bytes more k.read.taken p.1, comes)

-- the run halts at a line
pub ends-halt : (given : Given) (mode : Mode) (l0 l1 : Option (List ℕ)) (q0 q1 : ℕ) (r : Reading) (line : List ℕ) (halt : Halt) (place next : Standing) (s0 s1 s2 p0 p1 p2 : Option (List ℕ)) (m0 m1 m2 n0 n1 n2 c0 c1 c2 : ℕ)
    → IsMode given mode → NoneFailed given × (q1 ≡ q0) → mode.generated ≡ None → line ≡ r.line → Handed mode l0 l1 r place (sunk s0 s1 m0 m1) (sunk p0 p1 n0 n1) c0 c1
    → Acts (Err halt) (λ starved. effect place (input_of line starved)) next (sunk s1 s2 m1 m2) (sunk p1 p2 n1 n2) → Places (Err halt) (effect place (input_of line false)) c1 c2
    → Ends (halted_by halt place.lines) given mode l0 (drawn l1 q0 q1) (sunk s0 s2 m0 m2) (sunk p0 p2 n0 n2) c0 c2
ends-halt given mode l0 l1 q0 q1 r line halt place next s0 s1 s2 p0 p1 p2 m0 m1 m2 n0 n1 n2 c0 c1 c2 begun calm read same h a places =
    let inputs = h.0 in
    let k = h.2 in
    let lines : AreScript None (lines_in inputs ++ line ∷ []) h.1 l1 =
    subst (λ x. AreScript None (lines_in inputs ++ x ∷ []) h.1 l1) (sym same) (are-first (lines_in inputs ++ r.line ∷ []) h.1 l0 l1 r k.read) in
    let ending = halts-at given mode inputs line h.1 l1 q0 q1 halt place next s0 s1 s2 p0 p1 p2 m0 m1 m2 n0 n1 n2 c0 c1 c2 begun calm k.ran
    (subst (λ x. AreScript x (lines_in inputs ++ line ∷ []) h.1 l1) (sym read) lines) (given-up mode.generated inputs h.1 read k.before) a places in
    (ending.0, h.1, k.read.taken, ending.1)
