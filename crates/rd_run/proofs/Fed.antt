-- The law of two ends, where files or the source may have failed.
use Rattle.std.proofs.Common.{◌≡◌, ◌≢◌, ℕ, suc, ◌-◌, ◌^◌, ◌<◌, inl, inr, List, [], ◌∷◌, ◌++◌, length, Option, None, Some, refl, sym, ap, ◌∙◌, subst, append_assoc, arith}
use Rattle.std.specs.List.{AllByRecursion}
use Rattle.rd_base.proofs.Lists.{heads}
use Rattle.rd_files.specs.DataFiles.{FailedAtSome}
use Rattle.rd_io.specs.Devices.{Rose}
use Rattle.rd_io.specs.Lines.{IsUnbroken, text_of_lines}
use Rattle.rd_run.specs.Alike.{AreAlike, AreFedAlike, AreGivenAlike, AreStarvedAlike, AreStarvedAlikeIn, End, IsFed, IsUndisturbed, SomeFailed, SourceFailed}
use Rattle.rd_run.specs.Ends.{Comes, Drawn, GoesOn, IsBegun, IsCalm, IsWhole, KeepsCounts, lines_in}
use Rattle.rd_run.specs.Given.{Given, HasFailed, IsMode, NoneFailed}
use Rattle.rd_run.specs.Runs.{Input, Mode, World, opened, run, run_line}
use Rattle.rd_run.specs.declared.status.Status.{Status}
use Rattle.rd_run.specs.declared.status.Status.TheVariants.{ReadFault}
use Rattle.rd_run.proofs.Alike.{AreRunAlike, HaveRunAlike, ends-alike, wholes-alike}
use Rattle.rd_run.proofs.Begun.{modes-same}
use Rattle.rd_run.proofs.Starved.{run_line-alike}
use Rattle.rd_run.proofs.Whole.{whole-of}

-- ---- counts

-- a count below its last value that rose is greater than it was
rises : (m n : ℕ) → m < 2 ^ 64 - 1 → Rose m n → m < n
rises m n low (inl more) = more
rises m n low (inr last) = omega arith

-- a count that is as it was did not rise
calm-low : (m n : ℕ) → m < 2 ^ 64 - 1 → n ≡ m → Rose m n → ⊥
calm-low m n low same rose = let more = rises m n low rose in omega arith

risen-not : (m n : ℕ) → m < n → n ≡ m → ⊥
risen-not m n more same = omega arith

some-file : (before after : List ℕ → ℕ) (name : Option (List ℕ)) → FailedAtSome before after name → (file : List ℕ) × Rose (before file) (after file)
some-file before after None h = absurd h
some-file before after (Some name) h = (name, h)

-- a file that the words name and that failed
failed-file : (given : Given) → HasFailed given → (file : List ℕ) × Rose (given.faults_before file) (given.faults_after file)
failed-file given h = elim h.2 [
  | inl a ↦ (h.0.class_file, a)
  | inr q ↦ elim q [ inl b ↦ (h.0.mirror_file, b) | inr c ↦ some-file given.faults_before given.faults_after h.0.bracket_file c ]
]

-- where no file failed none of those that the words name did
none-failed : (given : Given) → ((file : List ℕ) → given.faults_before file < 2 ^ 64 - 1) → NoneFailed given → HasFailed given → ⊥
none-failed given low none h =
    let f = failed-file given h in
    calm-low (given.faults_before f.0) (given.faults_after f.0) (low f.0) (none f.0) f.1

-- ---- what was read failed

some-not : (given : Given) → SomeFailed given → NoneFailed given → ⊥
some-not given h none = risen-not (given.faults_before h.0) (given.faults_after h.0) h.1 (none h.0)

-- a file failed: no run began, and the status is that of a read fault
file-ends : (given : Given) (mode : Option Mode) (status : Status) (source : Drawn) → SomeFailed given → KeepsCounts given mode status source → (mode ≡ None) × (status ≡ ReadFault)
file-ends given None ReadFault source h calm = (refl, refl)
file-ends given (Some mode) ReadFault source h calm = absurd (some-not given h calm)
file-ends given None status source h calm = absurd (some-not given h calm.0)
file-ends given (Some mode) status source h calm = absurd (some-not given h calm.0)

-- the source failed: a run began, and the status is that of a read fault
source-ends : (given : Given) (mode : Option Mode) (status : Status) (source : Drawn) → SourceFailed source → KeepsCounts given mode status source
    → ((m : Mode) × (mode ≡ Some m)) × (status ≡ ReadFault)
source-ends given None ReadFault source h calm = absurd (risen-not source.faults_before source.faults_after h calm)
source-ends given (Some mode) ReadFault source h calm = ((mode, refl), refl)
source-ends given None status source h calm = absurd (risen-not source.faults_before source.faults_after h calm.1)
source-ends given (Some mode) status source h calm = absurd (risen-not source.faults_before source.faults_after h calm.1)

nothing-ran : (given : Given) (inputs : List Input) (bytes : List ℕ) (source : Drawn) → Comes given None ReadFault inputs bytes source → inputs ≡ []
nothing-ran given inputs bytes source (failed, nothing) = nothing.0

-- ---- the lines that ended before the source failed

broken : (line rest : List ℕ) → IsUnbroken (line ++ 10 ∷ rest) → ⊥
broken [] rest h = h.0 refl
broken (b ∷ bs) rest h = broken bs rest h.1

-- two texts that are equal have one first line and one rest
first-same : (x y u v : List ℕ) → IsUnbroken x → IsUnbroken y → x ++ 10 ∷ u ≡ y ++ 10 ∷ v → (x ≡ y) × (u ≡ v)
first-same [] [] u v p q e = (refl, (heads e).1)
first-same [] (c ∷ cs) u v p q e = absurd (q.0 (sym (heads e).0))
first-same (b ∷ bs) [] u v p q e = absurd (p.0 (heads e).0)
first-same (b ∷ bs) (c ∷ cs) u v p q e =
    let rest = first-same bs cs u v p.1 q.1 (heads e).1 in
    (ap (λ k. k ∷ bs) (heads e).0 ∙ ap (λ l. c ∷ l) rest.0, rest.1)

regrouped : (line : List ℕ) (lines : List (List ℕ)) (rest : List ℕ) → text_of_lines (line ∷ lines) ++ rest ≡ line ++ 10 ∷ (text_of_lines lines ++ rest)
regrouped line lines rest = simp append_assoc

-- bytes have one list of lines that end with a newline, and one rest without one
lines-same : (xs ys : List (List ℕ)) (r s : List ℕ) → AllByRecursion IsUnbroken xs → AllByRecursion IsUnbroken ys → IsUnbroken r → IsUnbroken s
    → text_of_lines xs ++ r ≡ text_of_lines ys ++ s → xs ≡ ys
lines-same [] [] r s p q free other e = refl
lines-same [] (y ∷ ys) r s p q free other e = absurd (broken y (text_of_lines ys ++ s) (subst IsUnbroken (e ∙ regrouped y ys s) free))
lines-same (x ∷ xs) [] r s p q free other e = absurd (broken x (text_of_lines xs ++ r) (subst IsUnbroken (sym e ∙ regrouped x xs r) other))
lines-same (x ∷ xs) (y ∷ ys) r s p q free other e =
    let both = first-same x y (text_of_lines xs ++ r) (text_of_lines ys ++ s) p.0 q.0 (sym (regrouped x xs r) ∙ e ∙ regrouped y ys s) in
    ap (λ l. l ∷ xs) both.0 ∙ ap (λ ls. y ∷ ls) (lines-same xs ys r s p.1 q.1 free other both.1)

-- the same lines are run alike
ran-same : (w : World) (ts us : List Input) → lines_in ts ≡ lines_in us → AreStarvedAlike w ts us → AreRunAlike w ts us
ran-same w [] [] e h = record { same = refl; count = refl }
ran-same w [] (u ∷ us) e h = absurd (let k : [] ≡ u.line ∷ lines_in us = e in cc)
ran-same w (t ∷ ts) [] e h = absurd (let k : t.line ∷ lines_in ts ≡ [] = e in cc)
ran-same w (t ∷ ts) (u ∷ us) e h =
    let lines : t.line ∷ lines_in ts ≡ u.line ∷ lines_in us = e in
    let same = run_line-alike w t u (heads lines).0 h.0 in
    let on = ran-same (run_line w t) ts us (heads lines).1 h.1 in
    record { same = on.same ∙ ap (λ v. run v us) same; count = ap (λ k. suc k) on.count }

read-lines : (given : Given) (mode : Mode) (inputs : List Input) (bytes : List ℕ) (source : Drawn) → Comes given (Some mode) ReadFault inputs bytes source
    → IsMode given mode × ((rest : List ℕ) × GoesOn inputs bytes rest × IsBegun inputs rest)
read-lines given mode inputs bytes source (begun, comes) = (begun, comes.3)

lines-alike : (a b : End) → ((rest : List ℕ) × GoesOn a.inputs a.bytes rest × IsBegun a.inputs rest) → ((rest : List ℕ) × GoesOn b.inputs b.bytes rest × IsBegun b.inputs rest)
    → a.bytes ≡ b.bytes → lines_in a.inputs ≡ lines_in b.inputs
lines-alike a b p q e = lines-same (lines_in a.inputs) (lines_in b.inputs) p.0 q.0 p.1.1.0 q.1.1.0 p.2.0 q.2.0 (sym p.1.1.1 ∙ e ∙ q.1.1.1)

-- ---- the law

fed-whole : (script : List ℕ) (e : End) → IsFed script e → IsWhole e.given e.mode e.status e.inputs e.bytes e.source e.screen e.report e.steps
fed-whole script e h = whole-of e.given e.mode e.status e.inputs e.bytes e.source e.screen e.report e.steps h.sent h.told h.ended

undisturbed : (script : List ℕ) (e : End) → IsFed script e → NoneFailed e.given → IsCalm e.source → IsUndisturbed script e
undisturbed script e h none calm = record {
  faultless = record {
    taken = h.taken;
    ended = h.ended;
    files = h.files;
    fetched = none-failed e.given h.low_files none;
    read = calm-low e.source.faults_before e.source.faults_after h.low_source calm;
    sent = h.sent;
    told = h.told;
  };
  found = h.found;
}

-- the source failed in both runs
broke-off : (script : List ℕ) (a b : End) → AreGivenAlike a.given b.given → IsFed script a → IsFed script b → SourceFailed a.source → SourceFailed b.source → a.bytes ≡ b.bytes
    → AreStarvedAlikeIn a.mode a.inputs b.inputs → AreAlike a b
broke-off script a b given p q failed other bytes starved =
    let one = fed-whole script a p in
    let two = fed-whole script b q in
    let x = source-ends a.given a.mode a.status a.source failed one.calm in
    let y = source-ends b.given b.mode b.status b.source other two.calm in
    let m = x.0.0 in
    let n = y.0.0 in
    let first = read-lines a.given m a.inputs a.bytes a.source
    (subst (λ s. Comes a.given (Some m) s a.inputs a.bytes a.source) x.1 (subst (λ k. Comes a.given k a.status a.inputs a.bytes a.source) x.0.1 one.comes)) in
    let second = read-lines b.given n b.inputs b.bytes b.source
    (subst (λ s. Comes b.given (Some n) s b.inputs b.bytes b.source) y.1 (subst (λ k. Comes b.given k b.status b.inputs b.bytes b.source) y.0.1 two.comes)) in
    let modes : m ≡ n = modes-same a.given b.given m n given p.files first.0 second.0 in
    let starved_in : AreStarvedAlike (opened m) a.inputs b.inputs = subst (λ k. AreStarvedAlikeIn k a.inputs b.inputs) x.0.1 starved in
    let ran : AreRunAlike (opened m) a.inputs b.inputs = ran-same (opened m) a.inputs b.inputs (lines-alike a b first.1 second.1 bytes) starved_in in
    wholes-alike a b one two (x.0.1 ∙ ap (λ k. Some k) modes ∙ sym y.0.1, run-in a.mode m a.inputs b.inputs x.0.1 ran, x.1 ∙ sym y.1)
  where
    run-in : (mode : Option Mode) (m : Mode) (ts us : List Input) → mode ≡ Some m → AreRunAlike (opened m) ts us → HaveRunAlike mode ts us
    run-in mode m ts us e h = subst (λ k. HaveRunAlike k ts us) (sym e) h

-- a file failed in both runs
not-opened : (script : List ℕ) (a b : End) → IsFed script a → IsFed script b → SomeFailed a.given → SomeFailed b.given → AreAlike a b
not-opened script a b p q failed other =
    let one = fed-whole script a p in
    let two = fed-whole script b q in
    let x = file-ends a.given a.mode a.status a.source failed one.calm in
    let y = file-ends b.given b.mode b.status b.source other two.calm in
    let first : a.inputs ≡ [] = nothing-ran a.given a.inputs a.bytes a.source
    (subst (λ s. Comes a.given None s a.inputs a.bytes a.source) x.1 (subst (λ k. Comes a.given k a.status a.inputs a.bytes a.source) x.0 one.comes)) in
    let second : b.inputs ≡ [] = nothing-ran b.given b.inputs b.bytes b.source
    (subst (λ s. Comes b.given None s b.inputs b.bytes b.source) y.1 (subst (λ k. Comes b.given k b.status b.inputs b.bytes b.source) y.0 two.comes)) in
    wholes-alike a b one two (x.0 ∙ sym y.0, subst (λ k. HaveRunAlike k a.inputs b.inputs) (sym x.0) (first ∙ sym second), x.1 ∙ sym y.1)

pub fed-alike : (script : List ℕ) (a b : End) → AreGivenAlike a.given b.given → IsFed script a → IsFed script b → AreFedAlike a b → AreStarvedAlikeIn a.mode a.inputs b.inputs → AreAlike a b
fed-alike script a b given p q fed starved = elim fed.files [
  | inl none ↦ elim fed.source [
    | inl calm ↦ ends-alike script a b given (undisturbed script a p none.0 calm.0) (undisturbed script b q none.1 calm.1) starved
    | inr failed ↦ broke-off script a b given p q failed.0 failed.1 failed.2 starved
  ]
  | inr failed ↦ not-opened script a b p q failed.0 failed.1
]
