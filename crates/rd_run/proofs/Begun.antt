-- How runs begin: the words, and the files that they name, where their bytes are known, determine it.
use Rattle.std.proofs.Common.{◌≡◌, ℕ, inl, inr, Bool, true, false, List, [], Option, None, Some, is_some, IfSome, IsSome, Result, Ok, Err, is_ok, refl, sym, ap, ◌∙◌, subst}
use Rattle.rd_base.proofs.Choices.{some-of}
use Rattle.rd_files.specs.DataFiles.{GivesData, Named, told_or_empty}
use Rattle.rd_files.specs.declared.fault.BadFile.{BadFile}
use Rattle.rd_files.specs.declared.fault.DataFile.{DataFile}
use Rattle.rd_files.specs.declared.fault.DataKind.{DataKind}
use Rattle.rd_files.proofs.Orders.{whole-data}
use Rattle.rd_ucd.specs.Data.{Data}
use Rattle.rd_words.specs.Words.{WordValues}
use Rattle.rd_run.specs.Alike.{AreGivenAlike, AreToldAlike}
use Rattle.rd_run.specs.Ends.{Comes, Drawn}
use Rattle.rd_run.specs.Given.{Given, AreTold, FileFailed, HasFailed, IsBadData, IsMode, names_of}
use Rattle.rd_run.specs.Runs.{Input, Mode}
use Rattle.rd_run.specs.declared.status.Status.{Status}
use Rattle.rd_run.specs.declared.status.Status.TheVariants.{Done, Usage, BadData, ReadFault, NoMemory}

pub itself : (given : Given) → AreGivenAlike given given
itself given = (refl, λ w e. (refl, refl, refl))

pub flipped : (a b : Given) → AreGivenAlike a b → AreGivenAlike b a
flipped a b h = (sym h.0, λ w e. let told = h.1 w (h.0 ∙ e) in (sym told.0, sym told.1, sym told.2))

-- ---- the files

bracket-told : (a : List ℕ → Option (List ℕ)) (o : Option (List ℕ)) → IfSome o (λ name. IsSome (a name)) → is_some (told_or_empty a o) ≡ true
bracket-told a None h = refl
bracket-told a (Some name) h = h

data-same : (a b : List ℕ → Option (List ℕ)) (names : Named) (x y : Result Data BadFile) → AreToldAlike a b names → is_some (a names.class_file) ≡ true → is_some (a names.mirror_file) ≡ true
    → IfSome names.bracket_file (λ name. IsSome (a name)) → GivesData a names x → GivesData b names y → x ≡ y
data-same a b names x y h one two three p q =
    let c = some-of (a names.class_file) one in
    let m = some-of (a names.mirror_file) two in
    let r = some-of (told_or_empty a names.bracket_file) (bracket-told a names.bracket_file three) in
    whole-data a names c.0 m.0 r.0 x c.1 m.1 r.1 p ∙ sym (whole-data b names c.0 m.0 r.0 y (sym h.0 ∙ c.1) (sym h.1 ∙ m.1) (sym h.2 ∙ r.1) q)

words-same : (a b : Given) (w v : WordValues) → a.words ≡ b.words → a.words ≡ Some w → b.words ≡ Some v → w ≡ v
words-same a b w v e p q = let k : Some w ≡ Some v = sym p ∙ e ∙ q in cc

-- two runs that are given the same read the same words, and what their files stand for is the same
answers-same : (a b : Given) (w v : WordValues) (x y : Result Data BadFile) → AreGivenAlike a b → AreTold a → a.words ≡ Some w → b.words ≡ Some v
    → GivesData a.contents (names_of w) x → GivesData b.contents (names_of v) y → (w ≡ v) × (x ≡ y)
answers-same a b w v x y h told p q one other =
    let same = words-same a b w v h.0 p q in
    let known = told w p in
    let moved : GivesData b.contents (names_of w) y = subst (λ u. GivesData b.contents (names_of u) y) (sym same) other in
    (same, data-same a.contents b.contents (names_of w) x y (h.1 w p) known.0 known.1 known.2 one moved)

-- ---- a run that begins

abbrev pub mode_of : Data → Bool → Option ℕ → Mode
mode_of files dumps generated = record { files = files; dumps = dumps; generated = generated }

abbrev pub files_in : Data → Result Data BadFile → Data
files_in other (Ok files) = files
files_in other (Err fault) = other

pub modes-same : (a b : Given) (m n : Mode) → AreGivenAlike a b → AreTold a → IsMode a m → IsMode b n → m ≡ n
modes-same a b m n h told p q =
    let both = answers-same a b p.words q.words (Ok m.files) (Ok n.files) h told p.said q.said p.files q.files in
    let files : m.files ≡ n.files = ap (files_in m.files) both.1 in
    let dumps : m.dumps ≡ n.dumps = p.dumps ∙ ap (λ (w : WordValues). w.dumps) both.0 ∙ sym q.dumps in
    let generated : m.generated ≡ n.generated = p.generated ∙ ap (λ (w : WordValues). w.generate) both.0 ∙ sym q.generated in
    ap (λ f. mode_of f m.dumps m.generated) files ∙ ap (λ d. mode_of n.files d m.generated) dumps ∙ ap (λ g. mode_of n.files n.dumps g) generated

-- ---- one that doesn't

-- the words or the files are refused with a status
abbrev pub Refuses : Given → Status → Type 0
Refuses given Usage = given.words ≡ None
Refuses given (BadData file number kind) = IsBadData given file number kind
Refuses given status = ⊥

pub has-failed : (given : Given) → FileFailed given → HasFailed given
has-failed given f = (f.words, f.said, elim f.failed [ inl a ↦ inl a | inr q ↦ elim q [ inl b ↦ inr (inl b.1) | inr c ↦ inr (inr c.2) ] ])

-- where no file failed and memory was not wanting, a run that has not begun was refused, and no line was run
pub refuses : (given : Given) (status : Status) (inputs : List Input) (bytes : List ℕ) (source : Drawn) → (HasFailed given → ⊥) → (status ≡ NoMemory → ⊥) → Comes given None status inputs bytes source
    → Refuses given status × (inputs ≡ [])
refuses given Usage inputs bytes source failed found (words, nothing) = (words, nothing.0)
refuses given (BadData file number kind) inputs bytes source failed found (bad, nothing) = (bad, nothing.0)
refuses given ReadFault inputs bytes source failed found (file, nothing) = absurd (failed (has-failed given file))
refuses given NoMemory inputs bytes source failed found c = absurd (found refl)
refuses given status inputs bytes source failed found c = absurd c

not-known : (a b : Given) (w : WordValues) → AreGivenAlike a b → a.words ≡ None → b.words ≡ Some w → ⊥
not-known a b w h p q = let k : None ≡ Some w = sym p ∙ h.0 ∙ q in cc

-- what is refused doesn't begin
pub not-begun : (a b : Given) (status : Status) (mode : Mode) → AreGivenAlike a b → AreTold a → Refuses a status → IsMode b mode → ⊥
not-begun a b Usage mode h told r m = not-known a b m.words h r m.said
not-begun a b (BadData file number kind) mode h told r m =
    let both = answers-same a b r.words m.words (Err (record { file = file; line = number; kind = kind })) (Ok mode.files) h told r.said m.said r.files m.files in
    let k : false ≡ true = ap is_ok both.1 in
    cc
not-begun a b status mode h told r m = r

abbrev pub status_of : Result Data BadFile → Status
status_of (Ok files) = Done
status_of (Err fault) = BadData fault.file fault.line fault.kind

bad-same : (a b : Given) (file other : DataFile) (m n : ℕ) (kind reason : DataKind) → AreGivenAlike a b → AreTold a → IsBadData a file m kind → IsBadData b other n reason
    → BadData file m kind ≡ BadData other n reason
bad-same a b file other m n kind reason h told p q =
    let both = answers-same a b p.words q.words (Err (record { file = file; line = m; kind = kind })) (Err (record { file = other; line = n; kind = reason })) h told p.said q.said p.files q.files in
    ap status_of both.1

-- two runs that are given the same, and are refused, have one status
pub refused-alike : (a b : Given) (s r : Status) → AreGivenAlike a b → AreTold a → Refuses a s → Refuses b r → s ≡ r
refused-alike a b Usage Usage h told p q = refl
refused-alike a b Usage (BadData file n kind) h told p q = absurd (not-known a b q.words h p q.said)
refused-alike a b (BadData file n kind) Usage h told p q = absurd (not-known b a p.words (flipped a b h) q p.said)
refused-alike a b (BadData file m kind) (BadData other n reason) h told p q = bad-same a b file other m n kind reason h told p q
refused-alike a b Usage r h told p q = absurd q
refused-alike a b (BadData file n kind) r h told p q = absurd q
refused-alike a b s r h told p q = absurd p
