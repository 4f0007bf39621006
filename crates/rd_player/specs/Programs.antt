-- What the whole program answers.
use Rattle.std.specs.Prelude.{◌≡◌, ℕ, List, Option, None, Result, Ok, Err, String, Vec}
use Rattle.std.specs.Global.{Global}
use Rattle.rd_run.specs.Ends.{Drawn, IsCalm, Sunk}
use Rattle.rd_run.specs.Given.{Given, NoneFailed}
use Rattle.rd_run.specs.Reports.{last_line}
use Rattle.rd_run.specs.declared.status.Status.{Status}
use Rattle.rd_run.specs.declared.status.Status.TheVariants.{NoMemory}
use Rattle.rd_words.specs.Command.{texts}
use Rattle.rd_words.specs.Words.{WordValues, values_of}
use Rattle.rd_player.specs.Acts.{Tells}
use Rattle.rd_player.specs.Played.{CountsFaults, Played}

-- what the words say that could be had
abbrev pub words_in : {E : Type 0} → Result (Vec (String Global) Global) E → Option WordValues
words_in (Ok words) = values_of (texts words.items)
words_in (Err starved) = None

-- The program over its words ended with this status: by `play`, or without words for want of memory, which the report tells or broke at,
-- with nothing read, sent or placed.
abbrev pub Answered : {E : Type 0} → Result (Vec (String Global) Global) E → Given → Status → Option (List ℕ) → Drawn → Sunk → Sunk → ℕ → ℕ → Type 0
Answered (Ok words) given status before source screen report from to =
    Played given status before source screen report from to × CountsFaults given status source screen report
Answered (Err starved) given status before source screen report from to =
    Tells NoMemory (last_line NoMemory 0) status report × NoneFailed given × IsCalm source × (source.left ≡ before)
    × (screen.after ≡ screen.before) × (screen.faults_after ≡ screen.faults_before) × (to ≡ from)
