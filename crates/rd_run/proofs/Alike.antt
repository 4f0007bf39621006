-- The law of two ends: the words, the files, the bytes of the script and the lines that found no memory determine how a run ends.
use Rattle.std.proofs.Common.{◌≡◌, ℕ, suc, ◌+◌, ◌<◌, ◌≤◌, ◌⊎◌, inl, inr, List, [], ◌∷◌, ◌++◌, length, drop, Option, None, Some, refl, sym, ap, ◌∙◌, subst, append_assoc, append-nil, arith}
use Rattle.std.specs.List.{AllByRecursion}
use Rattle.std.proofs.KnownBytes.{Consumes-whole}
use Rattle.std.proofs.lemmas.List.{take-append-drop, length_push}
use Rattle.std.proofs.lemmas.Option.{same_Some, none-some}
use Rattle.rd_base.proofs.Lists.{heads}
use Rattle.rd_base.specs.declared.limits.TheConstants.{LINE_BYTES, LINES}
use Rattle.rd_generate.specs.Generated.{script as generated}
use Rattle.rd_io.specs.Devices.{Rose}
use Rattle.rd_io.specs.Lines.{lines_of}
use Rattle.rd_run.specs.Alike.{End, IsUndisturbed, AreGivenAlike, AreStarvedAlike, AreStarvedAlikeIn, AreAlike}
use Rattle.rd_run.specs.Ends.{Drawn, Took, AreAll, AreInLimits, AreScript, Comes, ComesIn, IsBad, IsOver, IsPast, IsWhole, Ran, done_of, last_in, lines_in, sent_in, told_in}
use Rattle.rd_run.specs.Given.{Given, IsMode, ReadsScript}
use Rattle.rd_run.specs.Reports.{last_line}
use Rattle.rd_run.specs.Runs.{Input, Mode, World, opened, run, run_line}
use Rattle.rd_run.specs.Validity.{script_of}
use Rattle.rd_run.specs.declared.status.ScriptFault.{ScriptFault}
use Rattle.rd_run.specs.declared.status.ScriptFault.TheVariants.{TooLong, TooMany}
use Rattle.rd_run.specs.declared.status.Status.{Status}
use Rattle.rd_run.specs.declared.status.Status.TheVariants.{Done, BadScript, ReadFault, NoMemory}
use Rattle.rd_run.proofs.Begun.{flipped, modes-same, not-begun, refused-alike, refuses}
use Rattle.rd_run.proofs.Scripts.{IsTakenFrom, IsTakenIn, first-lines, goes-on, long-line, more-line}
use Rattle.rd_run.proofs.Starved.{run_line-alike}
use Rattle.rd_run.proofs.Inputs.{lines-length, lines-push, run-push, run-clear}
use Rattle.rd_run.proofs.Whole.{whole-of}

-- ---- where a run stops

-- behind n lines a line is too long, or one too many; a generated script has none such
abbrev pub IsBarred : Option ℕ → ℕ → List ℕ → Status → Type 0
IsBarred None n line status =
    ((n < LINES) × (LINE_BYTES < length line) × (status ≡ BadScript (n + 1) TooLong)) ⊎ ((LINES ≤ n) × (status ≡ BadScript (n + 1) TooMany))
IsBarred (Some number) n line status = ⊥

-- a line behind n others passes no limit
abbrev pub IsLet : Option ℕ → ℕ → List ℕ → Type 0
IsLet None n line = (n < LINES) × (length line ≤ LINE_BYTES)
IsLet (Some number) n line = Unit {0}

-- a run stops behind its last line, or at one that is barred
abbrev pub StopsBefore : Option ℕ → ℕ → List (List ℕ) → Status → Type 0
StopsBefore o n lines status =
    ((lines ≡ []) × (status ≡ Done)) ⊎ ((line : List ℕ) × (more : List (List ℕ)) × (lines ≡ line ∷ more) × IsBarred o n line status)

-- the line behind n others is bad, and no further one is run
abbrev pub StopsAt : World → ℕ → List Input → Status → Type 0
StopsAt w n ts status = (fault : ScriptFault) × (w.fault ≡ Some fault) × (ts ≡ []) × (status ≡ BadScript (n + 1) fault)

-- a run of these inputs over the lines of a script, which is read or generated, stops with a status; it stands behind n lines
abbrev pub Stops : Option ℕ → World → ℕ → List Input → List (List ℕ) → Status → Type 0
Stops o w n [] lines status = StopsBefore o n lines status
Stops o w n (t ∷ ts) lines status =
    (more : List (List ℕ)) × (lines ≡ t.line ∷ more) × IsLet o n t.line
    × (StopsAt (run_line w t) n ts status ⊎ (((run_line w t).fault ≡ None) × Stops o (run_line w t) (n + 1) ts more status))

-- ---- a run stops at one place

no-line : (lines : List (List ℕ)) (y : List ℕ) (ys : List (List ℕ)) → lines ≡ [] → lines ≡ y ∷ ys → ⊥
no-line lines y ys p q = let e : [] ≡ y ∷ ys = sym p ∙ q in cc

barred-alike : (o : Option ℕ) (n : ℕ) (line other : List ℕ) (s r : Status) → line ≡ other → IsBarred o n line s → IsBarred o n other r → s ≡ r
barred-alike None n line other s r e (inl a) (inl b) = a.2 ∙ sym b.2
barred-alike None n line other s r e (inl a) (inr b) = absurd (let few = a.0 in let many = b.0 in omega arith)
barred-alike None n line other s r e (inr a) (inl b) = absurd (let few = b.0 in let many = a.0 in omega arith)
barred-alike None n line other s r e (inr a) (inr b) = a.1 ∙ sym b.1
barred-alike (Some number) n line other s r e a b = absurd a

before-alike : (o : Option ℕ) (n : ℕ) (lines : List (List ℕ)) (s r : Status) → StopsBefore o n lines s → StopsBefore o n lines r → s ≡ r
before-alike o n lines s r (inl a) (inl b) = a.1 ∙ sym b.1
before-alike o n lines s r (inl a) (inr b) = absurd (no-line lines b.0 b.1 a.0 b.2)
before-alike o n lines s r (inr a) (inl b) = absurd (no-line lines a.0 a.1 b.0 a.2)
before-alike o n lines s r (inr a) (inr b) = barred-alike o n a.0 b.0 s r (heads (sym a.2 ∙ b.2)).0 a.3 b.3

-- a line that is barred is not run
not-run : (o : Option ℕ) (n : ℕ) (line other : List ℕ) (s : Status) → line ≡ other → IsBarred o n line s → IsLet o n other → ⊥
not-run None n line other s e (inl a) passes = let long = a.1 in let short = passes.1 in let same : length line ≡ length other = ap length e in omega arith
not-run None n line other s e (inr a) passes = let many = a.0 in let few = passes.0 in omega arith
not-run (Some number) n line other s e a passes = a

-- a run that stops before a line does not run it
not-further : (o : Option ℕ) (n : ℕ) (line : List ℕ) (more lines : List (List ℕ)) (s : Status) → StopsBefore o n lines s → lines ≡ line ∷ more → IsLet o n line → ⊥
not-further o n line more lines s (inl a) e passes = no-line lines line more a.0 e
not-further o n line more lines s (inr a) e passes = not-run o n a.0 line s (heads (sym a.2 ∙ e)).0 a.3 passes

-- two runs from one world have run as many lines, and stand at the same
pub record AreRunAlike (w : World) (ts us : List Input) : Type 0 where
  pub same : run w ts ≡ run w us
  pub count : length ts ≡ length us

-- two runs have run alike, and have one status, where they do so behind a line that both have run
behind-alike : (o : Option ℕ) (w : World) (n : ℕ) (ts us : List Input) (more : List (List ℕ)) (s r : Status) → (Stops o w (n + 1) ts more s → Stops o w (n + 1) us more r → AreRunAlike w ts us × (s ≡ r))
    → StopsAt w n ts s ⊎ ((w.fault ≡ None) × Stops o w (n + 1) ts more s) → StopsAt w n us r ⊎ ((w.fault ≡ None) × Stops o w (n + 1) us more r) → AreRunAlike w ts us × (s ≡ r)
behind-alike o w n ts us more s r on (inl a) (inl b) =
    let none : ts ≡ us = a.2 ∙ sym b.2 in
    (record { same = ap (run w) none; count = ap length none }, a.3 ∙ ap (λ fault. BadScript (n + 1) fault) (same_Some a.0 b.0 (sym a.1 ∙ b.1)) ∙ sym b.3)
behind-alike o w n ts us more s r on (inl a) (inr b) = absurd (none-some a.0 (sym b.0 ∙ a.1))
behind-alike o w n ts us more s r on (inr a) (inl b) = absurd (none-some b.0 (sym a.0 ∙ b.1))
behind-alike o w n ts us more s r on (inr a) (inr b) = on a.1 b.1

pub stops-alike : (o : Option ℕ) (w : World) (n : ℕ) (ts us : List Input) (lines : List (List ℕ)) (s r : Status) → AreStarvedAlike w ts us → Stops o w n ts lines s → Stops o w n us lines r
    → AreRunAlike w ts us × (s ≡ r)
stops-alike o w n [] [] lines s r h p q = (record { same = refl; count = refl }, before-alike o n lines s r p q)
stops-alike o w n [] (u ∷ us) lines s r h p q = absurd (not-further o n u.line q.0 lines s p q.1 q.2)
stops-alike o w n (t ∷ ts) [] lines s r h p q = absurd (not-further o n t.line p.0 lines r q p.1 p.2)
stops-alike o w n (t ∷ ts) (u ∷ us) lines s r h p q =
    let both : t.line ∷ p.0 ≡ u.line ∷ q.0 = sym p.1 ∙ q.1 in
    let same : run_line w t ≡ run_line w u = run_line-alike w t u (heads both).0 h.0 in
    let Behind : World → List (List ℕ) → Type 0 = λ v more. StopsAt v n us r ⊎ ((v.fault ≡ None) × Stops o v (n + 1) us more r) in
    let other : Behind (run_line w t) p.0 = subst (λ v. Behind v p.0) (sym same) (subst (Behind (run_line w u)) (sym (heads both).1) q.3) in
    let on = behind-alike o (run_line w t) n ts us p.0 s r (λ a b. stops-alike o (run_line w t) (n + 1) ts us p.0 s r h.1 a b) p.3 other in
    (record { same = on.0.same ∙ ap (λ v. run v us) same; count = ap (λ k. suc k) on.0.count }, on.1)

-- ---- lines that pass no limit

-- lines that pass no limit behind n others
abbrev pub ArePassed : Option ℕ → ℕ → List Input → Type 0
ArePassed o n [] = Unit {0}
ArePassed o n (t ∷ ts) = IsLet o n t.line × ArePassed o (n + 1) ts

passed-read : (n : ℕ) (ts : List Input) → AllByRecursion (λ line. length line ≤ 1048576) (lines_in ts) → n + length ts ≤ 1000000 → ArePassed None n ts
passed-read n [] short few = tt
passed-read n (t ∷ ts) short few =
    let less : n < 1000000 = omega arith in
    let within : n + 1 + length ts ≤ 1000000 = omega arith in
    ((less, short.0), passed-read (n + 1) ts short.1 within)

pub passed-generated : (number n : ℕ) (ts : List Input) → ArePassed (Some number) n ts
passed-generated number n [] = tt
passed-generated number n (t ∷ ts) = (tt, passed-generated number (n + 1) ts)

passed-front : (o : Option ℕ) (n : ℕ) (ts us : List Input) → ArePassed o n (ts ++ us) → ArePassed o n ts
passed-front o n [] us h = tt
passed-front o n (t ∷ ts) us h = (h.0, passed-front o (n + 1) ts us h.1)

passed-last : (o : Option ℕ) (n : ℕ) (ts : List Input) (t : Input) → ArePassed o n (ts ++ t ∷ []) → IsLet o (n + length ts) t.line
passed-last o n [] t h = let same : n ≡ n + 0 = omega arith in subst (λ k. IsLet o k t.line) same h.0
passed-last o n (u ∷ ts) t h =
    let same : n + 1 + length ts ≡ n + suc (length ts) = omega arith in
    subst (λ k. IsLet o k t.line) same (passed-last o (n + 1) ts t h.1)

pub passed-limits : (inputs : List Input) → AreInLimits (lines_in inputs) → ArePassed None 0 inputs
passed-limits inputs limits =
    let few : 0 + length inputs ≤ 1000000 = (let k = limits.few in omega (arith, lines-length inputs)) in
    passed-read 0 inputs limits.short few

-- ---- each status stops the run

-- lines that were run, none of them bad, and then others
stops-behind : (o : Option ℕ) (w : World) (n : ℕ) (ts us : List Input) (more : List (List ℕ)) (s : Status) → (run w ts).fault ≡ None → ArePassed o n ts
    → Stops o (run w ts) (n + length ts) us more s → Stops o w n (ts ++ us) (lines_in ts ++ more) s
stops-behind o w n [] us more s clear passed h = let same : n + 0 ≡ n = omega arith in subst (λ k. Stops o w k us more s) same h
stops-behind o w n (t ∷ ts) us more s clear passed h =
    let same : n + suc (length ts) ≡ n + 1 + length ts = omega arith in
    let on = stops-behind o (run_line w t) (n + 1) ts us more s clear passed.1 (subst (λ k. Stops o (run (run_line w t) ts) k us more s) same h) in
    (lines_in ts ++ more, refl, passed.0, inr (run-clear (run_line w t) ts clear, on))

-- all lines that were run are good, and the run stops before the next
pub stops-before : (o : Option ℕ) (mode : Mode) (lines : List (List ℕ)) (inputs : List Input) (more : List (List ℕ)) (s : Status) → Ran mode inputs → ArePassed o 0 inputs
    → lines ≡ lines_in inputs ++ more → StopsBefore o (length inputs) more s → Stops o (opened mode) 0 inputs lines s
stops-before o mode lines inputs more s clear passed split h =
    let none : length inputs ≡ 0 + length inputs = omega arith in
    let at : Stops o (opened mode) 0 (inputs ++ []) (lines_in inputs ++ more) s =
    stops-behind o (opened mode) 0 inputs [] more s clear passed (subst (λ k. StopsBefore o k more s) none h) in
    subst (λ ls. Stops o (opened mode) 0 inputs ls s) (sym split) (subst (λ ts. Stops o (opened mode) 0 ts (lines_in inputs ++ more) s) (append-nil inputs) at)

-- the script was run to its end
done-stops : (o : Option ℕ) (mode : Mode) (script : List ℕ) (inputs : List Input) (bytes : List ℕ) (left : Option (List ℕ)) → IsTakenIn o script bytes left → Ran mode inputs
    → AreAll o inputs bytes left → Stops o (opened mode) 0 inputs (script_of o script) Done
done-stops None mode script inputs bytes left p ran all =
    let taken : script ≡ bytes = Consumes-whole (Some script) left bytes (λ s. s ≡ bytes) (p refl) all.2 refl in
    let whole : lines_of script ≡ lines_in inputs ++ [] = ap lines_of taken ∙ all.1 ∙ sym (append-nil (lines_in inputs)) in
    stops-before None mode (lines_of script) inputs [] Done ran (passed-limits inputs all.0) whole (inl (refl, refl))
done-stops (Some number) mode script inputs bytes left p ran all =
    let whole : generated number ≡ lines_in inputs ++ [] = sym all.0 ∙ sym (append-nil (lines_in inputs)) in
    stops-before (Some number) mode (generated number) inputs [] Done ran (passed-generated number 0 inputs) whole (inl (refl, refl))

-- lines that are the first ones pass the limits
first-passed : (o : Option ℕ) (inputs : List Input) (bytes : List ℕ) (left : Option (List ℕ)) → AreScript o (lines_in inputs) bytes left → ArePassed o 0 inputs
first-passed None inputs bytes left first = passed-limits inputs first.0
first-passed (Some number) inputs bytes left first = passed-generated number 0 inputs

script-splits : (o : Option ℕ) (script : List ℕ) (lines : List (List ℕ)) (bytes : List ℕ) (left : Option (List ℕ)) → IsTakenIn o script bytes left → AreScript o lines bytes left
    → (more : List (List ℕ)) × (script_of o script ≡ lines ++ more)
script-splits None script lines bytes left p first = first-lines lines script bytes left (p refl) first
script-splits (Some number) script lines bytes left p first =
    let all = generated number in
    (drop (length lines) all, sym (take-append-drop (length lines) all) ∙ ap (λ front. front ++ drop (length lines) all) (sym first.0))

bad-at : (o : Option ℕ) (mode : Mode) (lines : List (List ℕ)) (fault : ScriptFault) (others : List Input) (t : Input) (more : List (List ℕ)) → Ran mode others
    → (run (opened mode) (others ++ t ∷ [])).fault ≡ Some fault → ArePassed o 0 (others ++ t ∷ []) → lines ≡ lines_in (others ++ t ∷ []) ++ more
    → Stops o (opened mode) 0 (others ++ t ∷ []) lines (BadScript (length (others ++ t ∷ [])) fault)
bad-at o mode lines fault others t more clear bad passed split =
    let w = run (opened mode) others in
    let status = BadScript (length (others ++ t ∷ [])) fault in
    let count : length (others ++ t ∷ []) ≡ 0 + length others + 1 = omega (arith, length_push others t) in
    let faulty : (run_line w t).fault ≡ Some fault = ap (λ (x : World). x.fault) (sym (run-push (opened mode) others t)) ∙ bad in
    let at : Stops o w (0 + length others) (t ∷ []) (t.line ∷ more) status =
    (more, refl, passed-last o 0 others t passed, inl (fault, faulty, refl, ap (λ k. BadScript k fault) count)) in
    let regrouped : lines_in (others ++ t ∷ []) ++ more ≡ lines_in others ++ t.line ∷ more = ap (λ ls. ls ++ more) (lines-push others t) ∙ append_assoc (lines_in others) (t.line ∷ []) more in
    subst (λ ls. Stops o (opened mode) 0 (others ++ t ∷ []) ls status) (sym (split ∙ regrouped))
    (stops-behind o (opened mode) 0 others (t ∷ []) (t.line ∷ more) status clear (passed-front o 0 others (t ∷ []) passed) at)

-- a line is bad
bad-stops : (mode : Mode) (script : List ℕ) (fault : ScriptFault) (number : ℕ) (inputs : List Input) (bytes : List ℕ) (left : Option (List ℕ)) → IsTakenIn mode.generated script bytes left
    → IsBad mode fault number inputs bytes left → Stops mode.generated (opened mode) 0 inputs (script_of mode.generated script) (BadScript number fault)
bad-stops mode script fault number inputs bytes left p bad =
    let o = mode.generated in
    let on = script-splits o script (lines_in inputs) bytes left p bad.lines in
    let split = bad.split in
    let at : Stops o (opened mode) 0 (bad.others ++ bad.last ∷ []) (script_of o script) (BadScript (length (bad.others ++ bad.last ∷ [])) fault) =
    bad-at o mode (script_of o script) fault bad.others bad.last on.0 bad.ran (subst (λ ts. (run (opened mode) ts).fault ≡ Some fault) split bad.ended)
    (subst (λ ts. ArePassed o 0 ts) split (first-passed o inputs bytes left bad.lines)) (subst (λ ts. script_of o script ≡ lines_in ts ++ on.0) split on.1) in
    let here : Stops o (opened mode) 0 inputs (script_of o script) (BadScript (length inputs) fault) =
    subst (λ ts. Stops o (opened mode) 0 ts (script_of o script) (BadScript (length ts) fault)) (sym split) at in
    subst (λ k. Stops o (opened mode) 0 inputs (script_of o script) (BadScript k fault)) (sym bad.at) here

-- a line is too long, or one too many
over-stops : (mode : Mode) (script : List ℕ) (fault : ScriptFault) (number : ℕ) (inputs : List Input) (bytes : List ℕ) (left : Option (List ℕ)) → IsTakenFrom script bytes left
    → Ran mode inputs → number ≡ length inputs + 1 → IsOver fault inputs bytes → Stops None (opened mode) 0 inputs (lines_of script) (BadScript number fault)
over-stops mode script TooLong number inputs bytes left p ran at over =
    let on = goes-on (lines_in inputs) script bytes over.0 left p over.1.1 in
    let first = long-line 1048576 1048577 over.0 on.0 refl over.3 over.4 in
    let long : 1048576 < length first.line = let k = first.long in omega arith in
    stops-before None mode (lines_of script) inputs (lines_of (over.0 ++ on.0)) (BadScript number TooLong) ran (passed-limits inputs over.1.0) on.1
    (inr (first.line, first.others, first.split, inl (over.2, long, ap (λ k. BadScript k TooLong) at)))
over-stops mode script TooMany number inputs bytes left p ran at over =
    let on = goes-on (lines_in inputs) script bytes over.0 left p over.1.1 in
    let first = more-line over.0 on.0 over.3 in
    let many : 1000000 ≤ length inputs = let k = over.2 in omega arith in
    stops-before None mode (lines_of script) inputs (lines_of (over.0 ++ on.0)) (BadScript number TooMany) ran (passed-limits inputs over.1.0) on.1
    (inr (first.line, first.others, first.split, inr (many, ap (λ k. BadScript k TooMany) at)))
over-stops mode script fault number inputs bytes left p ran at over = absurd over

past-stops : (mode : Mode) (script : List ℕ) (fault : ScriptFault) (number : ℕ) (inputs : List Input) (bytes : List ℕ) (left : Option (List ℕ)) → IsTakenIn mode.generated script bytes left
    → IsPast mode fault number inputs bytes → Stops mode.generated (opened mode) 0 inputs (script_of mode.generated script) (BadScript number fault)
past-stops mode script fault number inputs bytes left p past =
    subst (λ o. Stops o (opened mode) 0 inputs (script_of o script) (BadScript number fault)) (sym past.read)
    (over-stops mode script fault number inputs bytes left (p past.read) past.ran past.at past.over)

pub comes-stops : (mode : Mode) (script : List ℕ) (status : Status) (inputs : List Input) (bytes : List ℕ) (source : Drawn) → IsTakenIn mode.generated script bytes source.left
    → (Rose source.faults_before source.faults_after → ⊥) → (status ≡ NoMemory → ⊥) → ComesIn mode status inputs bytes source
    → Stops mode.generated (opened mode) 0 inputs (script_of mode.generated script) status
comes-stops mode script Done inputs bytes source p read found (ran, all) = done-stops mode.generated mode script inputs bytes source.left p ran all
comes-stops mode script (BadScript number fault) inputs bytes source p read found (inl bad) = bad-stops mode script fault number inputs bytes source.left p bad
comes-stops mode script (BadScript number fault) inputs bytes source p read found (inr past) = past-stops mode script fault number inputs bytes source.left p past
comes-stops mode script ReadFault inputs bytes source p read found c = absurd (read c.2)
comes-stops mode script NoMemory inputs bytes source p read found c = absurd (found refl)
comes-stops mode script status inputs bytes source p read found c = absurd c

-- ---- the law

-- where the script is read its bytes are known
pub taken-in : (given : Given) (mode : Mode) (script bytes : List ℕ) (left : Option (List ℕ)) → IsMode given mode → (ReadsScript given → IsTakenFrom script bytes left)
    → IsTakenIn mode.generated script bytes left
taken-in given mode script bytes left m taken = λ read. taken (m.words, m.said, sym m.generated ∙ read)

-- two runs that have begun alike, if at all, have run as many lines from their beginning, and stand at the same
abbrev pub HaveRunAlike : Option Mode → List Input → List Input → Type 0
HaveRunAlike None ts us = ts ≡ us
HaveRunAlike (Some mode) ts us = AreRunAlike (opened mode) ts us

-- two runs have begun alike, have run alike, and have one status
came-alike : (script : List ℕ) (a b : End) (m n : Option Mode) → AreGivenAlike a.given b.given → AreStarvedAlikeIn m a.inputs b.inputs → IsUndisturbed script a → IsUndisturbed script b
    → Comes a.given m a.status a.inputs a.bytes a.source → Comes b.given n b.status b.inputs b.bytes b.source → (m ≡ n) × HaveRunAlike m a.inputs b.inputs × (a.status ≡ b.status)
came-alike script a b None None h alike p q c d =
    let x = refuses a.given a.status a.inputs a.bytes a.source p.faultless.fetched p.found c in
    let y = refuses b.given b.status b.inputs b.bytes b.source q.faultless.fetched q.found d in
    (refl, x.1 ∙ sym y.1, refused-alike a.given b.given a.status b.status h p.faultless.files x.0 y.0)
came-alike script a b None (Some n) h alike p q c d =
    absurd (not-begun a.given b.given a.status n h p.faultless.files (refuses a.given a.status a.inputs a.bytes a.source p.faultless.fetched p.found c).0 d.0)
came-alike script a b (Some m) None h alike p q c d =
    absurd (not-begun b.given a.given b.status m (flipped a.given b.given h) q.faultless.files (refuses b.given b.status b.inputs b.bytes b.source q.faultless.fetched q.found d).0 c.0)
came-alike script a b (Some m) (Some n) h alike p q c d =
    let same = modes-same a.given b.given m n h p.faultless.files c.0 d.0 in
    let other : ComesIn m b.status b.inputs b.bytes b.source = subst (λ k. ComesIn k b.status b.inputs b.bytes b.source) (sym same) d.1 in
    let first : IsTakenIn m.generated script a.bytes a.source.left = taken-in a.given m script a.bytes a.source.left c.0 p.faultless.taken in
    let second : IsTakenIn m.generated script b.bytes b.source.left = subst (λ (k : Mode). IsTakenIn k.generated script b.bytes b.source.left) (sym same)
    (taken-in b.given n script b.bytes b.source.left d.0 q.faultless.taken) in
    let both = stops-alike m.generated (opened m) 0 a.inputs b.inputs (script_of m.generated script) a.status b.status alike (comes-stops m script a.status a.inputs a.bytes a.source first p.faultless.read p.found c.1)
    (comes-stops m script b.status b.inputs b.bytes b.source second q.faultless.read q.found other) in
    (ap (λ k. Some k) same, both.0, both.1)

whole-end : (script : List ℕ) (e : End) → IsUndisturbed script e → IsWhole e.given e.mode e.status e.inputs e.bytes e.source e.screen e.report e.steps
whole-end script e h = whole-of e.given e.mode e.status e.inputs e.bytes e.source e.screen e.report e.steps h.faultless.sent h.faultless.told h.faultless.ended

sent-alike : (mode : Option Mode) (ts us : List Input) → HaveRunAlike mode ts us → sent_in mode ts ≡ sent_in mode us
sent-alike None ts us h = refl
sent-alike (Some mode) ts us h = ap (λ (w : World). w.sent) h.same

told-alike : (mode : Option Mode) (ts us : List Input) → HaveRunAlike mode ts us → told_in mode ts ≡ told_in mode us
told-alike None ts us h = refl
told-alike (Some mode) ts us h = ap (λ (w : World). w.told) h.same

last-alike : (mode : Option Mode) (s : Status) (ts us : List Input) → HaveRunAlike mode ts us → last_in mode s ts ≡ last_in mode s us
last-alike None s ts us h = ap (λ x. last_in None s x) h
last-alike (Some mode) Done ts us h = ap (λ (w : World). done_of mode.generated w.now) h.same
last-alike (Some mode) s ts us h = ap (last_line s) h.count

abbrev pub all_told : Option Mode → Status → List Input → List ℕ
all_told mode status inputs = told_in mode inputs ++ last_in mode status inputs

all-alike : (mode : Option Mode) (s : Status) (ts us : List Input) → HaveRunAlike mode ts us → all_told mode s ts ≡ all_told mode s us
all-alike mode s ts us h = ap (λ front. front ++ last_in mode s ts) (told-alike mode ts us h) ∙ ap (λ last. told_in mode us ++ last) (last-alike mode s ts us h)

-- two runs in which all was written are alike where they have begun alike, have run alike and have one status
pub wholes-alike : (a b : End) → IsWhole a.given a.mode a.status a.inputs a.bytes a.source a.screen a.report a.steps
    → IsWhole b.given b.mode b.status b.inputs b.bytes b.source b.screen b.report b.steps
    → (a.mode ≡ b.mode) × HaveRunAlike a.mode a.inputs b.inputs × (a.status ≡ b.status) → AreAlike a b
wholes-alike a b one other same =
    let sent : Took b.screen (sent_in a.mode a.inputs) =
    subst (Took b.screen) (sym (sent-alike a.mode a.inputs b.inputs same.1)) (subst (λ m. Took b.screen (sent_in m b.inputs)) (sym same.0) other.sent) in
    let told : Took b.report (all_told a.mode a.status a.inputs) = subst (Took b.report) (sym (all-alike a.mode a.status a.inputs b.inputs same.1))
    (subst (λ m. Took b.report (all_told m a.status b.inputs)) (sym same.0) (subst (λ s. Took b.report (all_told b.mode s b.inputs)) (sym same.2) other.told)) in
    record {
      status = same.2;
      screen = (sent_in a.mode a.inputs, one.sent, sent);
      report = (all_told a.mode a.status a.inputs, one.told, told);
    }

pub ends-alike : (script : List ℕ) (a b : End) → AreGivenAlike a.given b.given → IsUndisturbed script a → IsUndisturbed script b → AreStarvedAlikeIn a.mode a.inputs b.inputs → AreAlike a b
ends-alike script a b given p q h =
    let one = whole-end script a p in
    let other = whole-end script b q in
    wholes-alike a b one other (came-alike script a b a.mode b.mode given h p q one.comes other.comes)
