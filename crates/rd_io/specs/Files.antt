-- What a step of reading a whole file adds to the bytes that were read, and what the reading does to the counts.
use Rattle.std.specs.Prelude.{◌≡◌, ℕ, ◌+◌, ◌<◌, ◌≤◌, Bool, true, false, List, ◌++◌, length, Result, Ok, Err}
use Rattle.rd_io.specs.declared.file.FileFault.{FileFault}
use Rattle.rd_io.specs.declared.file.FileFault.TheVariants.{Failed}

-- a piece is added to the bytes that were read, or there would be too many of them
abbrev pub PutsWithin : {E : Type 0} → Result Bool E → List ℕ → List ℕ → List ℕ → ℕ → Type 0
PutsWithin (Ok true) old new piece most = (new ≡ old ++ piece) × (length new ≤ most)
PutsWithin (Ok false) old new piece most = most < length old + length piece
PutsWithin (Err fault) old new piece most = Unit {0}

-- a file's count of faults is as it was, unless the file that was read failed
abbrev pub Keeps : {T : Type 0} → Result T FileFault → ℕ → ℕ → Type 0
Keeps (Err Failed) before after = Unit {0}
Keeps result before after = after ≡ before
