-- What a run is given, and what it does to its devices: the bytes that are known of files, of a source and of a sink, and their counts
-- of faults, before a call and behind it.
use Rattle.std.specs.Prelude.{ℕ, List, Option}
use Rattle.rd_run.specs.Ends.{Drawn, Sunk, drawn, sunk}
use Rattle.rd_run.specs.Given.{Given}
use Rattle.rd_words.specs.Words.{WordValues}

-- what a run is given, part by part
abbrev pub given : Option WordValues → (List ℕ → Option (List ℕ)) → (List ℕ → ℕ) → (List ℕ → ℕ) → Given
given words contents faults_before faults_after =
    record { words = words; contents = contents; faults_before = faults_before; faults_after = faults_after }

-- words, and the files as they were and are
abbrev pub given_by : {F : Type 0} → Option WordValues → (F → List ℕ → Option (List ℕ)) → (F → List ℕ → ℕ) → F → F → Given
given_by words contents faults old new = given words (contents old) (faults old) (faults new)

-- a source as it was and is
abbrev pub drawn_by : {S : Type 0} → (S → Option (List ℕ)) → (S → ℕ) → S → S → Drawn
drawn_by left faults old new = drawn (left new) (faults old) (faults new)

-- a sink as it was and is
abbrev pub sunk_by : {K : Type 0} → (K → Option (List ℕ)) → (K → ℕ) → K → K → Sunk
sunk_by written faults old new = sunk (written old) (written new) (faults old) (faults new)
